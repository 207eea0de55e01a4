-- Counting parentheses in symbols and in trees comes to the same.
use Rattle.std.proofs.Common.{◌≡◌, ◌≤◌, false, List, [], ◌∷◌, ◌++◌, map, refl, sym, subst, ◌∙◌, append_assoc, append-nil, arith}
use Rattle.p21_parse.specs.Tree.{ExchangeTree}
use Rattle.p21_parse.specs.Symbol.{Symbol, opening, semicolon}
use Rattle.p21_parse.specs.Spell.{spell_file}
use Rattle.p21_parse.specs.Grammar.{IsExchange}
use Rattle.p21_parse.specs.Nesting.{exchange_nesting, IsShallow}
use Rattle.p21_parse.specs.Machine.{endsec, end_iso, Outcome, done, stuck, deep, run, file_items}
use Rattle.p21_parse.specs.Refused.{file_numbers}
use Rattle.p21_parse.specs.Allowed.{own_number_of}
use Rattle.p21_parse.proofs.Complete.{file_runs}
use Rattle.p21_parse.proofs.SoundFile.{file_read}
use Rattle.p21_parse.proofs.Unique.{same_file}
use Rattle.p21_parse.proofs.Languages.{file_stopped, file_late, file_deepened, file_shallow}
use Rattle.p21_parse.proofs.Named.{shallow_front}
use Rattle.p21_parse.proofs.Fronts.{shallow_open}
use Rattle.p21_parse.proofs.Owned.{file_to_numbers}

pub nested : (x : ExchangeTree) → IsExchange x → IsShallow false 0 (spell_file x) → exchange_nesting x ≤ 32
nested x ok shallow = by_outcome (run 32 0 file_items (spell_file x)) refl
  where
    by_outcome : (o : Outcome) → run 32 0 file_items (spell_file x) ≡ o → exchange_nesting x ≤ 32
    by_outcome (stuck left) e = absurd ((file_stopped (spell_file x) left e).not_whole (x, ok, refl))
    by_outcome (done k []) e =
        let r = file_read 32 k (spell_file x) e in
        subst (λ (y : ExchangeTree). exchange_nesting y ≤ 32) (sym (same_file x r.tree r.spelled)) r.fits
    by_outcome (done k (s ∷ rest)) e = absurd ((file_late (spell_file x) (s ∷ rest) k (omega arith) e).1 (x, ok, refl))
    by_outcome (deep left) e =
        let d = file_deepened (spell_file x) left e in
        let front : List Symbol = d.front ++ opening ∷ [] in
        let whole : spell_file x ≡ front ++ d.back = d.parts ∙ sym (append_assoc d.front (opening ∷ []) d.back) in
        let le = shallow_open false 0 front (omega arith) (shallow_front false 0 front d.back (subst (IsShallow false 0) whole shallow)) in
        absurd (omega (arith, d.over))

pub shallow : (x : ExchangeTree) → IsExchange x → exchange_nesting x ≤ 32 → IsShallow false 0 (spell_file x)
shallow x ok h = file_shallow (spell_file x) 0 (file_runs 32 x ok h)

-- The numbers of a file's instances are those of its symbols.
pub own_numbers : (x : ExchangeTree) → file_numbers (spell_file x) ≡ map own_number_of x.items
own_numbers x = file_to_numbers x.head x.items (endsec ∷ semicolon ∷ end_iso ∷ semicolon ∷ []) ∙ append-nil (map own_number_of x.items)

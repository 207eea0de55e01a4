-- From what the calls below answer to the parts of a file.
use Rattle.std.proofs.Common.{◌≡◌, ℕ, List, [], ◌∷◌, ◌++◌, length, map, drop, Ok, refl, sym, ap, subst, ◌∙◌, arith}
use Rattle.std.specs.List.{AllByRecursion}
use Rattle.std.proofs.lemmas.List.{length-append, length-map}
use Rattle.std.proofs.Math.Seq.{drop-length}
use Rattle.p21_lex.specs.declared.token.Token.{Token}
use Rattle.p21_lex.specs.Reading.{Reads, IsToken}
use Rattle.p21_lex.specs.Tokens.{tokens_of}
use Rattle.p21_lex.proofs.Whole.{found, only, listed_is}
use Rattle.p21_parse.specs.Tree.{InstanceTree, ExchangeTree}
use Rattle.p21_parse.specs.Symbol.{Symbol, symbol_of, symbols}
use Rattle.p21_parse.specs.Spell.{spell_all, spell_instance}
use Rattle.p21_parse.specs.Parser.{spell_start, spell_last}
use Rattle.p21_parse.specs.Following.{AreInstancesFrom}
use Rattle.p21_parse.specs.Text.{IsText}
use Rattle.p21_parse.proofs.Appends.{longer_instances}
use Rattle.p21_join.specs.Join.{EndsInSemicolon, LastIsSemicolon, moved}
use Rattle.p21_join.proofs.Joins.{joined}
use Rattle.p21_parse.specs.Front.{IsFront}
use Rattle.p21_parse.proofs.Joined.{symbols_join}
use Rattle.p21_parse.proofs.Grown.{longer_start}
use Rattle.p21_slices.specs.Slices.{IsWhole}

-- ---- a slice

pub is_whole : (slice : List ℕ) (ts : List Token) (items : List InstanceTree) (next most : ℕ) → tokens_of slice ≡ Ok ts → AllByRecursion (IsToken slice) ts
    → EndsInSemicolon slice → LastIsSemicolon ts → AreInstancesFrom slice ts 0 most items next → next ≡ length ts → IsWhole slice items
is_whole slice ts items next most exact inside ends last found_these all =
    let none : drop next ts ≡ [] = ap (λ (n : ℕ). drop n ts) all ∙ drop-length ts in
    record {
      tokens = ts;
      reads = found slice ts exact;
      inside = inside;
      spells = found_these.spells ∙ ap (λ (us : List Token). spell_all spell_instance items (symbols slice us)) none;
      grammar = found_these.allowed.grammar;
      shallow = found_these.allowed.shallow;
      last = last;
      ends = ends;
    }

-- ---- the front

halves : {A : Type 0} (xs ys s t : List A) → length xs ≡ length ys → xs ++ s ≡ ys ++ t → (xs ≡ ys) × (s ≡ t)
halves [] [] s t same e = (refl, e)
halves [] (y ∷ ys) s t same e = absurd (omega arith)
halves (x ∷ xs) [] s t same e = absurd (omega arith)
halves (x ∷ xs) (y ∷ ys) s t same e =
    let head : x ≡ y = cc in
    let rest : xs ++ s ≡ ys ++ t = cc in
    let parts = halves xs ys s t (omega arith) rest in
    (ap (λ z. z ∷ xs) head ∙ ap (λ zs. y ∷ zs) parts.0, parts.1)

-- a front and as many symbols as end a file
split : (x : ExchangeTree) (front end : List Symbol) → length end ≡ 4 → front ++ end ≡ spell_start x.head (spell_all spell_instance x.items (spell_last []))
    → (front ≡ spell_start x.head (spell_all spell_instance x.items [])) × (end ≡ spell_last [])
split x front end four e =
    let start : List Symbol = spell_start x.head (spell_all spell_instance x.items []) in
    let apart : spell_start x.head (spell_all spell_instance x.items (spell_last [])) ≡ start ++ spell_last [] =
    ap (spell_start x.head) (longer_instances x.items [] (spell_last [])) ∙ longer_start x.head (spell_all spell_instance x.items []) (spell_last []) in
    let whole : front ++ end ≡ start ++ spell_last [] = e ∙ apart in
    let last : length (spell_last []) ≡ 4 = refl in
    halves front start end (spell_last []) (omega (arith, ap length whole, length-append front end, length-append start (spell_last []), four, last)) whole

-- the tokens of both together
both : (front end : List ℕ) (ts us vs : List Token) → tokens_of front ≡ Ok ts → tokens_of end ≡ Ok us → EndsInSemicolon front → LastIsSemicolon ts → Reads 0 vs (front ++ end) → vs ≡ ts ++ map (moved (length front)) us
both front end ts us vs first last ends so reads =
    let these = only (front ++ end) (ts ++ map (moved (length front)) us) (joined front end ts us ends so (found front ts first) (found end us last)) in
    listed_is vs (ts ++ map (moved (length front)) us) (sym (only (front ++ end) vs reads) ∙ these)

spelled : (front end : List ℕ) (ts us : List Token) (x : ExchangeTree) → tokens_of front ≡ Ok ts → AllByRecursion (IsToken front) ts → EndsInSemicolon front → LastIsSemicolon ts → tokens_of end ≡ Ok us → length us ≡ 4
    → IsText (front ++ end) x → (symbols front ts ≡ spell_start x.head (spell_all spell_instance x.items [])) × (symbols end us ≡ spell_last [])
spelled front end ts us x first inside ends so last four text =
    let same = both front end ts us text.tokens first last ends so text.reads in
    let together : symbols front ts ++ symbols end us ≡ spell_start x.head (spell_all spell_instance x.items (spell_last [])) =
    sym (symbols_join front end ts us inside) ∙ ap (symbols (front ++ end)) (sym same) ∙ text.spells in
    split x (symbols front ts) (symbols end us) (length-map us (symbol_of end) ∙ four) together

pub begins : (front end text : List ℕ) (ts us : List Token) (x : ExchangeTree) → tokens_of front ≡ Ok ts → AllByRecursion (IsToken front) ts → EndsInSemicolon front → LastIsSemicolon ts → tokens_of end ≡ Ok us → length us ≡ 4
    → text ≡ front ++ end → IsText text x → IsFront front x
begins front end text ts us x first inside ends so last four is whole =
    let parts = spelled front end ts us x first inside ends so last four (subst (λ (b : List ℕ). IsText b x) is whole) in
    record {
      well = record { tokens = ts; reads = found front ts first; last = so; ends = ends };
      inside = inside;
      spells = parts.0;
      grammar = whole.allowed.grammar;
      shallow = whole.allowed.shallow;
    }

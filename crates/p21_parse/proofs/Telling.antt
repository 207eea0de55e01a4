-- What is told of a text: its exchange, or its refusal.
use Rattle.std.proofs.Common.{◌≡◌, ℕ, zero, suc, ◌+◌, ◌-◌, ◌<◌, ◌≤◌, nat_eq, List, [], ◌∷◌, ◌++◌, length, map, take, drop, Some, None, refl, sym, ap, subst, ◌∙◌, arith, inl, inr}
use Rattle.std.specs.Prelude.{◌⊎◌, slice_get}
use Rattle.std.specs.List.{IsDistinct, AllByRecursion}
use Rattle.std.proofs.lemmas.List.{take_all, length-map, append-nil}
use Rattle.p21_lex.specs.declared.token.Token.{Token}
use Rattle.p21_lex.specs.Reading.{Reads, IsToken}
use Rattle.p21_lex.specs.declared.error.LexErr.{LexErr}
use Rattle.p21_lex.specs.declared.error.LexErr.TheVariants as faults
use Rattle.p21_lex.specs.Refusal.{IsRefused}
use Rattle.p21_parse.specs.declared.error.ReadErr.{ReadErr}
use Rattle.p21_parse.specs.declared.error.ReadErr.TheVariants as errors
use Rattle.p21_parse.specs.declared.parser.Parser.{Parser}
use Rattle.p21_parse.specs.declared.parser.Stop.TheVariants.{Syntax, TooDeep}
use Rattle.p21_parse.specs.Tree.{ExchangeTree}
use Rattle.p21_parse.specs.Symbol.{Symbol, name, semicolon, symbols}
use Rattle.p21_parse.specs.Spell.{spell_file}
use Rattle.p21_parse.specs.Allowed.{own_number_of, IsAllowed}
use Rattle.p21_parse.specs.Places.{Refusal, syntax, too_deep, too_many, duplicate, start_of, place_of}
use Rattle.p21_parse.specs.Refused.{file_numbers, RefusedAt}
use Rattle.p21_parse.specs.Machine.{endsec, end_iso, Outcome, done, stuck, deep, run, file_items}
use Rattle.p21_parse.specs.Parser.{IsParser, from, FileRead, FileStops}
use Rattle.p21_parse.specs.Names.{before, AreFine, FaultAt}
use Rattle.p21_parse.specs.Text.{IsText, HasRefusal, IsRefusedText, IsExchangeOf, IsRefusedTokens, left_in, from_lex}
use Rattle.p21_parse.proofs.Leaves.{left_of}
use Rattle.p21_parse.proofs.Refusals.{IsNumbered, file_syntax, file_goes_on, file_too_deep, file_too_many, file_duplicate}
use Rattle.p21_parse.proofs.Owned.{file_to_numbers}
use Rattle.p21_parse.proofs.Moves.{left}
use Rattle.p21_parse.proofs.Naming.{parted, one_more}

-- ---- places

pub start_some : (bytes : List ℕ) (tokens : List Token) (at : ℕ) (t : Token) → slice_get tokens at ≡ Some t → t.start ≡ start_of bytes (drop at tokens)
start_some bytes [] at t e = absurd cc
start_some bytes (u ∷ ts) zero t e = let same : u ≡ t = cc in ap (λ (v : Token). v.start) (sym same)
start_some bytes (u ∷ ts) (suc at) t e = start_some bytes ts at t e

pub start_none : (bytes : List ℕ) (tokens : List Token) (at : ℕ) → slice_get tokens at ≡ None → length bytes ≡ start_of bytes (drop at tokens)
start_none bytes [] zero e = refl
start_none bytes [] (suc at) e = refl
start_none bytes (u ∷ ts) zero e = absurd cc
start_none bytes (u ∷ ts) (suc at) e = start_none bytes ts at e

module _ (s : Parser) where
  place_is : (at : ℕ) → at ≤ length s.tokens.now → place_of s.bytes.now s.tokens.now (length s.tokens.now - at) ≡ start_of s.bytes.now (drop at s.tokens.now)
  place_is at le = let back : length s.tokens.now - (length s.tokens.now - at) ≡ at = omega arith in ap (λ (k : ℕ). start_of s.bytes.now (drop k s.tokens.now)) back

  same_left : (o : Outcome) → left_in o ≡ left_of o
  same_left (done n rest) = refl
  same_left (stuck k) = refl
  same_left (deep k) = refl

  front_is : (at : ℕ) → at ≤ length s.tokens.now → take (length (from s 0) - (length s.tokens.now - at)) (from s 0) ≡ before s at
  front_is at le = let back : length (from s 0) - (length s.tokens.now - at) ≡ at = omega (arith, left s 0) in ap (λ (k : ℕ). take k (from s 0)) back

  numbered : (at : ℕ) → at ≤ length s.tokens.now → AreFine (before s at) → IsNumbered (take (length (from s 0) - (length s.tokens.now - at)) (from s 0))
  numbered at le f = subst IsNumbered (sym (front_is at le)) (record { few = f.few; distinct = f.distinct })

  -- ---- the names

  module _ (real : IsParser s) (end at number : ℕ) (lt : at < end) (le : end ≤ length s.tokens.now) (bound : left_in (run 32 0 file_items (from s 0)) ≤ length s.tokens.now - end) where
    within : left_of (run 32 0 file_items (from s 0)) ≤ length (from s (at + 1))
    within = omega (arith, bound, lt, le, left s (at + 1), same_left (run 32 0 file_items (from s 0)))

    pub names_many : (f : FaultAt s end at number (λ ns. 200000 < length ns)) (place : ℕ) → place ≡ start_of s.bytes.now (drop at s.tokens.now) → RefusedAt s.bytes.now s.tokens.now (too_many place)
    names_many f place is =
        let split : from s 0 ≡ before s at ++ name number ∷ from s (at + 1) = sym (parted s at) ∙ ap (λ (ss : List Symbol). before s at ++ ss) f.has.first in
        let over : 200000 < length (file_numbers (before s at ++ name number ∷ [])) = subst (λ (ss : List Symbol). 200000 < length (file_numbers ss)) (one_more s at (name number) f.has) f.fault in
        let told = file_too_many s.bytes.now s.tokens.now real (before s at) (from s (at + 1)) number split within (record { few = f.fine.few; distinct = f.fine.distinct }) over in
        let here : length (name number ∷ from s (at + 1)) ≡ length s.tokens.now - at = ap length (sym f.has.first) ∙ left s at in
        subst (λ (p : ℕ). RefusedAt s.bytes.now s.tokens.now (too_many p)) (ap (place_of s.bytes.now s.tokens.now) here ∙ place_is at (omega arith) ∙ sym is) told

    pub names_twice : FaultAt s end at number (λ ns. (length ns ≤ 200000) × (IsDistinct nat_eq ns → ⊥)) → RefusedAt s.bytes.now s.tokens.now (duplicate number)
    names_twice f =
        let split : from s 0 ≡ before s at ++ name number ∷ from s (at + 1) = sym (parted s at) ∙ ap (λ (ss : List Symbol). before s at ++ ss) f.has.first in
        let fault = subst (λ (ss : List Symbol). (length (file_numbers ss) ≤ 200000) × (IsDistinct nat_eq (file_numbers ss) → ⊥)) (one_more s at (name number) f.has) f.fault in
        file_duplicate s.bytes.now s.tokens.now real (before s at) (from s (at + 1)) number split within (record { few = f.fine.few; distinct = f.fine.distinct }) fault.0 fault.1

  -- ---- where the reader stopped

  pub told_syntax : (at : ℕ) (place : ℕ) → FileStops s (Syntax at) (run 32 0 file_items (from s 0)) → AreFine (before s at) → place ≡ start_of s.bytes.now (drop at s.tokens.now) → RefusedAt s.bytes.now s.tokens.now (syntax place)
  told_syntax at place (le, inl e) f is =
      subst (λ (p : ℕ). RefusedAt s.bytes.now s.tokens.now (syntax p)) (place_is at le ∙ sym is) (file_syntax s.bytes.now s.tokens.now (length s.tokens.now - at) e (numbered at le f))
  told_syntax at place (le, inr (lt, e)) f is =
      let len = left s at in
      let n : IsNumbered (take (length (from s 0) - length (from s at)) (from s 0)) = subst (λ (k : ℕ). IsNumbered (take (length (from s 0) - k) (from s 0))) (sym len) (numbered at le f) in
      subst (λ (p : ℕ). RefusedAt s.bytes.now s.tokens.now (syntax p)) (ap (place_of s.bytes.now s.tokens.now) len ∙ place_is at le ∙ sym is) (file_goes_on s.bytes.now s.tokens.now (from s at) 0 (omega arith) e n)

  pub told_deep : (at : ℕ) (place : ℕ) → FileStops s (TooDeep at) (run 32 0 file_items (from s 0)) → AreFine (before s at) → place ≡ start_of s.bytes.now (drop at s.tokens.now) → RefusedAt s.bytes.now s.tokens.now (too_deep place)
  told_deep at place (le, e) f is =
      subst (λ (p : ℕ). RefusedAt s.bytes.now s.tokens.now (too_deep p)) (place_is at le ∙ sym is) (file_too_deep s.bytes.now s.tokens.now (length s.tokens.now - at) e (numbered at le f))

  pub bound_syntax : (at : ℕ) → FileStops s (Syntax at) (run 32 0 file_items (from s 0)) → left_in (run 32 0 file_items (from s 0)) ≤ length s.tokens.now - at
  bound_syntax at (le, inl e) = omega (arith, ap left_in e)
  bound_syntax at (le, inr (lt, e)) = omega (arith, ap left_in e, left s at)

  pub bound_deep : (at : ℕ) → FileStops s (TooDeep at) (run 32 0 file_items (from s 0)) → left_in (run 32 0 file_items (from s 0)) ≤ length s.tokens.now - at
  bound_deep at (le, e) = omega (arith, ap left_in e)

  pub bound_read : (x : ExchangeTree) → FileRead s x → left_in (run 32 0 file_items (from s 0)) ≤ length s.tokens.now - length s.tokens.now
  bound_read x r = omega (arith, ap left_in r.goes)

  -- ---- the exchange

  pub exchanged : (x : ExchangeTree) → FileRead s x → AreFine (before s (length s.tokens.now)) → IsExchangeOf s x
  exchanged x r f =
      let all : before s (length s.tokens.now) ≡ spell_file x = take_all (length s.tokens.now) (from s 0) (omega (arith, left s 0)) ∙ r.spells in
      let numbers : file_numbers (before s (length s.tokens.now)) ≡ map own_number_of x.items = ap file_numbers all ∙ file_to_numbers x.head x.items (endsec ∷ semicolon ∷ end_iso ∷ semicolon ∷ []) ∙ append-nil (map own_number_of x.items) in
      record {
        spells = r.spells;
        allowed = record {
          grammar = r.grammar;
          shallow = r.shallow;
          few = omega (arith, f.few, ap length numbers, length-map x.items own_number_of);
          distinct = subst (λ (ns : List ℕ). IsDistinct nat_eq ns) numbers f.distinct;
        };
      }

-- ---- the text

module _ (bytes : List ℕ) (tokens : List Token) (reads : Reads 0 tokens bytes) (inside : AllByRecursion (IsToken bytes) tokens) where
  pub as_text : (x : ExchangeTree) (spells : symbols bytes tokens ≡ spell_file x) → IsAllowed x → IsText bytes x
  as_text x spells allowed = record { tokens = tokens; reads = reads; inside = inside; spells = spells; allowed = allowed }

  pub as_refused : (r : Refusal) → RefusedAt bytes tokens r → HasRefusal bytes r
  as_refused r refused = record { tokens = tokens; reads = reads; inside = inside; refused = refused }

pub told_lex : (bytes : List ℕ) (e : LexErr) → (e ≡ faults.NoMemory) ⊎ IsRefused bytes e → IsRefusedText bytes (from_lex e)
told_lex bytes faults.NoMemory said = tt
told_lex bytes (faults.BadByte place) (inl e) = absurd cc
told_lex bytes (faults.BadByte place) (inr r) = r
told_lex bytes (faults.BadName place) (inl e) = absurd cc
told_lex bytes (faults.BadName place) (inr r) = r
told_lex bytes (faults.OpenString place) (inl e) = absurd cc
told_lex bytes (faults.OpenString place) (inr r) = r
told_lex bytes (faults.OpenComment place) (inl e) = absurd cc
told_lex bytes (faults.OpenComment place) (inr r) = r
told_lex bytes (faults.NumberTooLong place) (inl e) = absurd cc
told_lex bytes (faults.NumberTooLong place) (inr r) = r

-- the refusal of a text's tokens
pub told_text : (bytes : List ℕ) (s : Parser) (tokens : List Token) (e : ReadErr) → s.bytes.now ≡ bytes → s.tokens.now ≡ tokens → Reads 0 tokens bytes → AllByRecursion (IsToken bytes) tokens → IsRefusedTokens s e → IsRefusedText bytes e
told_text bytes s tokens (errors.Lex f) b t reads inside said = absurd said
told_text bytes s tokens (errors.Syntax place) b t reads inside said = as_refused bytes tokens reads inside (syntax place) (rw (← b, ← t) said)
told_text bytes s tokens (errors.TooDeep place) b t reads inside said = as_refused bytes tokens reads inside (too_deep place) (rw (← b, ← t) said)
told_text bytes s tokens (errors.TooMany place) b t reads inside said = as_refused bytes tokens reads inside (too_many place) (rw (← b, ← t) said)
told_text bytes s tokens (errors.Duplicate number) b t reads inside said = as_refused bytes tokens reads inside (duplicate number) (rw (← b, ← t) said)
told_text bytes s tokens errors.NoMemory b t reads inside said = tt

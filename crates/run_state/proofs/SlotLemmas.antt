-- A list with one element written anew.
use Rattle.std.specs.Prelude.{◌≡◌, ◌<◌, ◌==◌, ℕ, zero, suc, Bool, true, false, if◌then◌else◌, unwrap_or, List, [], ◌∷◌, length, slice_get, slice_set, Option, Some, None}
use Rattle.std.proofs.Common.{refl, sym, ap, subst, ◌∙◌, arith, get_or}
use Rattle.std.proofs.lemmas.Option.{slice_get_read}
use Rattle.std.proofs.lemmas.Bool.Decides.{nat_tests}
use Rattle.path_blocks.specs.declared.def.Def.{Def}
use Rattle.run_log.specs.declared.entry.Entry.{Entry}
use Rattle.run_state.specs.declared.open_steps.OpenStep.{OpenStep}
use Rattle.run_state.specs.State.{slot_at, slot_after}

pub eq_suc : (i j : ℕ) → (suc i == suc j) ≡ (i == j)
eq_suc i j = go (i == j) refl
  where
    go : (b : Bool) → (i == j) ≡ b → (suc i == suc j) ≡ b
    go true e = let f : i ≡ j = grind (arith, nat_tests) in let g : suc i ≡ suc j = ap suc f in grind (arith, nat_tests)
    go false e = grind (arith, nat_tests)

-- what stands at each place of a list in which one element is written anew
pub get_set : {A : Type 0} (xs : List A) (i j : ℕ) (y : A) → i < length xs → slice_get (slice_set xs i y) j ≡ (if j == i then Some y else slice_get xs j)
get_set [] i j y l = absurd (omega (arith, l))
get_set (x ∷ xs) zero zero y l = refl
get_set (x ∷ xs) zero (suc j) y l = let e : (suc j == 0) ≡ false = grind (arith, nat_tests) in rw e refl
get_set (x ∷ xs) (suc i) zero y l = let e : (0 == suc i) ≡ false = grind (arith, nat_tests) in rw e refl
get_set (x ∷ xs) (suc i) (suc j) y l = rw (eq_suc j i) (get_set xs i j y (omega (arith, l)))

pub length_set : {A : Type 0} (xs : List A) (i : ℕ) (y : A) → length (slice_set xs i y) ≡ length xs
length_set [] i y = refl
length_set (x ∷ xs) zero y = refl
length_set (x ∷ xs) (suc i) y = ap suc (length_set xs i y)

-- one slot is taken out, and written anew
pub followed : (slots : List (Option OpenStep)) (channel c : ℕ) (taken new : Option OpenStep) → channel < length slots
    → slot_at (slice_set (slice_set slots channel taken) channel new) c ≡ (if c == channel then new else slot_at slots c)
followed slots channel c taken new l =
    let m : channel < length (slice_set slots channel taken) = subst (λ (k : ℕ). channel < k) (sym (length_set slots channel taken)) l in
    ap (λ (o : Option (Option OpenStep)). unwrap_or o None) (get_set (slice_set slots channel taken) channel c new m ∙ ap (λ (o : Option (Option OpenStep)). if c == channel then Some new else o) (get_set slots channel c taken l))
    ∙ go (c == channel)
  where
    go : (b : Bool) → unwrap_or (if b then Some new else (if b then Some taken else slice_get slots c)) None ≡ (if b then new else slot_at slots c)
    go true = refl
    go false = refl

-- the slot of a channel goes on with an entry
pub went_on : (slots : List (Option OpenStep)) (channel c : ℕ) (def : Option Def) (x : Entry) (old taken new : Option OpenStep) → channel < length slots
    → old ≡ get_or slots channel old → new ≡ slot_after def x old
    → slot_at (slice_set (slice_set slots channel taken) channel new) c ≡ (if c == channel then slot_after def x (slot_at slots c) else slot_at slots c)
went_on slots channel c def x old taken new l e f = followed slots channel c taken new l ∙ go (c == channel) refl
  where
    here : slot_at slots channel ≡ old
    here = ap (λ (o : Option (Option OpenStep)). unwrap_or o None) (slice_get_read slots (length slots) channel old refl l e)

    go : (b : Bool) → (c == channel) ≡ b → (if b then new else slot_at slots c) ≡ (if b then slot_after def x (slot_at slots c) else slot_at slots c)
    go true g =
        let s : channel ≡ c = grind (arith, nat_tests) in
        f ∙ ap (slot_after def x) (sym here ∙ ap (slot_at slots) s)
    go false g = refl

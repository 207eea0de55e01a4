-- Variables put one after another.
use Rattle.std.specs.Prelude.{◌≡◌, ◌==◌, ◌+◌, ◌<◌, ℕ, ℤ, pos, zero, suc, Bool, true, false, if◌then◌else◌, List, [], ◌∷◌, ◌++◌, length, slice_index_or, Option, Some, None}
use Rattle.std.specs.Option.{option_or}
use Rattle.std.proofs.Common.{refl, sym, ap, ◌∙◌, arith, cond, take}
use Rattle.std.specs.Ordering.{nat_cmp, is_eq}
use Rattle.std.specs.BTreeMap.{BTreeMap, get, Updates}
use Rattle.std.proofs.lemmas.Bool.Decides.{nat_tests}
use Rattle.nc_expr.specs.Vars.{last_value}

same_test : (n q : ℕ) → is_eq (nat_cmp n q) ≡ (n == q)
same_test n q = grind (arith, nat_tests)

-- one pair more at the end
last_pushed : (pairs : List (ℕ × ℤ)) (m : ℕ) (x : ℤ) (n : ℕ) → last_value (pairs ++ (m, x) ∷ []) n ≡ (if m == n then Some x else last_value pairs n)
last_pushed [] m x n = refl
last_pushed (pair ∷ pairs) m x n = ap (λ (o : Option ℤ). option_or o (if pair.0 == n then Some pair.1 else None)) (last_pushed pairs m x n) ∙ go (m == n)
  where
    go : (b : Bool) → option_or (if b then Some x else last_value pairs n) (if pair.0 == n then Some pair.1 else None) ≡ (if b then Some x else last_value (pair ∷ pairs) n)
    go true = refl
    go false = refl

take_at : (pairs : List (ℕ × ℤ)) (i : ℕ) → i < length pairs → take (suc i) pairs ≡ take i pairs ++ slice_index_or pairs i (0, pos 0) ∷ []
take_at [] i l = absurd (omega arith)
take_at (first ∷ pairs) zero l = refl
take_at (first ∷ pairs) (suc i) l = ap (λ ps. first ∷ ps) (take_at pairs i (omega (arith, l)))

-- one pair more is put
pub put_on : (old new : BTreeMap ℕ ℤ) (pairs : List (ℕ × ℤ)) (i : ℕ) → i < length pairs → ((n : ℕ) → get nat_cmp old n ≡ last_value (take i pairs) n)
    → ((n : ℕ) → get nat_cmp new n ≡ (if (slice_index_or pairs i (0, pos 0)).0 == n then Some (slice_index_or pairs i (0, pos 0)).1 else get nat_cmp old n)) → (n : ℕ) → get nat_cmp new n ≡ last_value (take (i + 1) pairs) n
put_on old new pairs i l h u n =
    let s : suc i ≡ i + 1 = omega arith in
    let pair = slice_index_or pairs i (0, pos 0) in
    u n
    ∙ (ap (λ (o : Option ℤ). if pair.0 == n then Some pair.1 else o) (h n)
    ∙ (sym (last_pushed (take i pairs) pair.0 pair.1 n) ∙ (ap (λ (ps : List (ℕ × ℤ)). last_value ps n) (sym (take_at pairs i l)) ∙ ap (λ (k : ℕ). last_value (take k pairs) n) s)))

-- the value put is read back
pub put_is : (old new : BTreeMap ℕ ℤ) (n : ℕ) (y x : ℤ) → y ≡ x → Updates nat_cmp old new n (Some y) → (m : ℕ) → get nat_cmp new m ≡ (if n == m then Some x else get nat_cmp old m)
put_is old new n y x e u m = u.0 m ∙ (ap (λ (b : Bool). cond b (Some y) (get nat_cmp old m)) (same_test n m) ∙ ap (λ (z : ℤ). cond (n == m) (Some z) (get nat_cmp old m)) e)

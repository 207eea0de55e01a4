-- The least index that is left is the one that a turn picks.
use Rattle.std.specs.Prelude.{◌≡◌, ◌<◌, ◌≤◌, ◌+◌, ◌==◌, ◌||◌, ℕ, zero, suc, Bool, true, false, List, [], ◌∷◌}
use Rattle.std.proofs.Common.{refl, sym, ap, ◌∙◌, arith}
use Rattle.std.proofs.lemmas.Bool.Decides.{nat_tests}
use Rattle.exec_tree.specs.Exec.{has}
use Rattle.pick_set.specs.Picks.{IsLeastLeft, is_picked}
use Rattle.run_law.specs.Replay.{least_from, least_left}

picked_has : (ks : List ℕ) (k : ℕ) → is_picked ks k ≡ has ks k
picked_has [] k = refl
picked_has (j ∷ ks) k = ap (λ (b : Bool). (j == k) || b) (picked_has ks k)

least_at : (looks from k : ℕ) (ks : List ℕ) → from ≤ k → k ≤ looks + from → ((j : ℕ) → j < k → has ks j ≡ true) → (k < looks + from → has ks k ≡ false) → least_from looks from ks ≡ k
least_at zero from k ks l m before left = omega (arith, l, m)
least_at (suc looks) from k ks l m before left = go (from == k) refl (λ i j. least_at looks (from + 1) k ks i j before (λ h. left (omega (arith, h))))
  where
    go : (b : Bool) → (from == k) ≡ b → (from + 1 ≤ k → k ≤ looks + (from + 1) → least_from looks (from + 1) ks ≡ k) → least_from (suc looks) from ks ≡ k
    go true e rec = let s : from ≡ k = grind (arith, nat_tests) in let h : has ks k ≡ false = left (omega (arith, s)) in let own : has ks from ≡ false = ap (has ks) s ∙ h in rw own s
    go false e rec = let n : from < k = grind (arith, nat_tests) in rw (before from n) (rec (omega (arith, n)) (omega (arith, m)))

-- what is least of those left is the index that the rules of a run tell
pub least_is : (count k : ℕ) (ks : List ℕ) → IsLeastLeft count ks k → k ≡ least_left count ks
least_is count k ks is = sym (least_at count 0 k ks (omega arith) (let w = is.within in omega (arith, w)) (λ j l. sym (picked_has ks j) ∙ is.before j l) (λ l. sym (picked_has ks k) ∙ is.left (omega (arith, l))))

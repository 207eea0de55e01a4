-- The first enabled node of a channel, where there is one.
use Rattle.std.specs.Prelude.{◌≡◌, ◌==◌, ◌&&◌, ◌||◌, ℕ, Bool, true, false, List, [], ◌∷◌, find, Some, None}
use Rattle.std.proofs.Common.{refl, subst, arith}
use Rattle.std.proofs.lemmas.Bool.Decides.{nat_tests}
use Rattle.exec_tree.specs.Exec.{has}
use Rattle.run_log.specs.declared.entry.Entry.{Entry}
use Rattle.run_law.specs.Rules.{Rules}
use Rattle.run_law.specs.Fits.{next_of, is_enabled}
use Rattle.run_law.specs.Replay.{ready}

no_way : false ≡ true → ⊥
no_way e = cc

-- what is found is in the list, and passes
pub found : (p : ℕ → Bool) (ns : List ℕ) (n : ℕ) → find p ns ≡ Some n → (has ns n ≡ true) × (p n ≡ true)
found p [] n e = absurd (none_some n e)
  where
    none_some : (n : ℕ) → None ≡ Some n → ⊥
    none_some n e = cc
found p (m ∷ ns) n e = go (p m) refl (found p ns n)
  where
    or_right : (a b : Bool) → b ≡ true → (a || b) ≡ true
    or_right true b q = refl
    or_right false b q = q

    go : (b : Bool) → p m ≡ b → (find p ns ≡ Some n → (has ns n ≡ true) × (p n ≡ true)) → (has (m ∷ ns) n ≡ true) × (p n ≡ true)
    go true f rec =
        let g : Some m ≡ Some n = rw f at e in
        let h : m ≡ n = cc in
        let s : (n == n) ≡ true = grind (arith, nat_tests) in
        (rw (h, s) refl, subst (λ (k : ℕ). p k ≡ true) h f)
    go false f rec = let z = rec (rw f at e) in (or_right (m == n) (has ns n) z.0, z.1)

and_right : (a b : Bool) → (a && b) ≡ true → b ≡ true
and_right true b e = e
and_right false b e = absurd (no_way e)

-- the node that is ready can go on, and is enabled
pub ready_has : (r : Rules) (t : List Entry) (c n : ℕ) → ready r t c ≡ Some n → has (next_of r t) n ≡ true
ready_has r t c n e = (found (λ m. (r.channel t m == c) && is_enabled r t m) (next_of r t) n e).0

pub ready_enabled : (r : Rules) (t : List Entry) (c n : ℕ) → ready r t c ≡ Some n → is_enabled r t n ≡ true
ready_enabled r t c n e = and_right (r.channel t n == c) (is_enabled r t n) (found (λ m. (r.channel t m == c) && is_enabled r t m) (next_of r t) n e).1

-- A text that is put in several pieces.
use Rattle.std.proofs.Common.{◌≡◌, ℕ, ◌+◌, ◌-◌, ◌≤◌, List, ◌++◌, length, take, drop, Option, Some, None, subst, append_assoc, arith, length-drop}
use Rattle.std.proofs.Math.Seq.{take-add, take-length}
use Rattle.nc_outside.specs.Outside.{Appends}

-- what is left of a text, as a slice of it is read
pub rest_is : (k : ℕ) (p : List ℕ) → take (length p - k) (drop k p) ≡ drop k p
rest_is k p = rw (← length-drop k p) (take-length (drop k p))

pub both : (old mid new : Option (List ℕ)) (p : List ℕ) (k n : ℕ) → Appends old mid (take k p) → Appends mid new (take n (take (length p - k) (drop k p))) → Appends old new (take (k + n) p)
both None mid new p k n first second = tt
both (Some b) mid new p k n first second =
    let whole : take (k + n) p ≡ take k p ++ take n (drop k p) = take-add k n p in
    let then_on = subst (λ (m : Option (List ℕ)). Appends m new (take n (take (length p - k) (drop k p)))) first second in
    rw (whole, ← rest_is k p, ← append_assoc) then_on

pub longer : (p : List ℕ) (k n : ℕ) → k ≤ length p → n ≤ length (take (length p - k) (drop k p)) → k + n ≤ length p
longer p k n le within =
    let rest : n ≤ length (drop k p) = rw (← rest_is k p) within in
    omega (arith, length-drop k p)

use Rattle.std.proofs.Common.{◌<◌, ℕ, nat_eq, List, [], ◌∷◌, length, subst, arith}
use Rattle.std.specs.List.{IsDistinct}
use Rattle.std.proofs.lemmas.List.{take_all}
use Rattle.edit_script.proofs.repeat.repeat_in.Goals as goal

nothing_distinct : IsDistinct nat_eq []
unfolding IsDistinct
nothing_distinct = tt

some_repeating : (ns : List ℕ) → (IsDistinct nat_eq ns → ⊥) → 0 < length ns
some_repeating [] bad = absurd (bad nothing_distinct)
some_repeating (n ∷ ns) bad = omega arith

pub loop-distinct-init : goal.loop-distinct-init
loop-distinct-init c =
    let ns = c.args.numbers.now in
    let bad : IsDistinct nat_eq ns → ⊥ = c.requires in
    (some_repeating ns bad, omega arith, nothing_distinct, λ d. bad (subst (λ (xs : List ℕ). IsDistinct nat_eq xs) (take_all (length ns) ns (omega arith)) d))

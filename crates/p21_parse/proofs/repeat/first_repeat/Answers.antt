use Rattle.std.proofs.Common.{◌≡◌, ◌<◌, ℕ, nat_eq, Bool, true, false, IsTrue, ◌↔◌, List, [], ◌∷◌, length, sym, subst, ◌∙◌, arith}
use Rattle.std.specs.List.{IsDistinct}
use Rattle.std.proofs.lemmas.List.{take_all}
use Rattle.p21_parse.proofs.repeat.first_repeat.Goals as goal

nothing_distinct : IsDistinct nat_eq []
unfolding IsDistinct
nothing_distinct = tt

some_repeating : (ns : List ℕ) → (IsDistinct nat_eq ns → ⊥) → 0 < length ns
some_repeating [] bad = absurd (bad nothing_distinct)
some_repeating (n ∷ ns) bad = omega arith

not_distinct : (ns : List ℕ) (r : Bool) → (IsTrue r ↔ IsDistinct nat_eq ns) → r ≡ false → IsDistinct nat_eq ns → ⊥
not_distinct ns r told is distinct = let yes : r ≡ true = told.1 distinct in let both : true ≡ false = sym yes ∙ is in absurd cc

pub loop-distinct-init : goal.loop-distinct-init
loop-distinct-init c =
    let ns = c.args.numbers.now in
    let bad : IsDistinct nat_eq ns → ⊥ = not_distinct ns c.in_ok-are_distinct.field-0 c.in_ok-are_distinct.ensures c.if-branch.false in
    (some_repeating ns bad, omega arith, nothing_distinct, λ d. bad (subst (λ (xs : List ℕ). IsDistinct nat_eq xs) (take_all (length ns) ns (omega arith)) d))

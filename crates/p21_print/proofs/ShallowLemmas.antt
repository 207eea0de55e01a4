-- How deep parentheses lie in one another, of all from that of each.
use Rattle.std.proofs.Common.{◌≡◌, ℕ, suc, ◌-◌, ◌<◌, ◌≤◌, Bool, true, false, List, [], ◌∷◌, ◌↔◌, IsTrue, arith}
use Rattle.std.specs.List.{AllByRecursion}
use Rattle.p21_parse.specs.declared.limits.TheConstants.{MAX_NESTING}
use Rattle.p21_parse.specs.Tree.{Trees, none, first, listed, InstanceTree, ExchangeTree}
use Rattle.p21_parse.specs.Nesting.{nesting, nestings, greatest, part_nesting, instance_nesting, exchange_nesting}

each_nesting : (most : ℕ) (ts : Trees) → AllByRecursion (λ t. nesting t ≤ most) (listed ts) → nestings ts ≤ most
each_nesting most none a = omega arith
each_nesting most (first t ts) a = omega (arith, a.0, each_nesting most ts a.1)

nesting_each : (most : ℕ) (ts : Trees) → nestings ts ≤ most → AllByRecursion (λ t. nesting t ≤ most) (listed ts)
nesting_each most none h = tt
nesting_each most (first t ts) h = (omega (arith, h), nesting_each most ts (omega (arith, h)))

each_greatest : {X : Type 0} (f : X → ℕ) (most : ℕ) (xs : List X) → AllByRecursion (λ x. f x ≤ most) xs → greatest f xs ≤ most
each_greatest f most [] a = omega arith
each_greatest f most (x ∷ xs) a = omega (arith, a.0, each_greatest f most xs a.1)

greatest_each : {X : Type 0} (f : X → ℕ) (most : ℕ) (xs : List X) → greatest f xs ≤ most → AllByRecursion (λ x. f x ≤ most) xs
greatest_each f most [] h = tt
greatest_each f most (x ∷ xs) h = (omega (arith, h), greatest_each f most xs (omega (arith, h)))

-- a list's own parentheses, and what lies in them
pub list_shallow : (most : ℕ) (ts : Trees) (r : Bool) → 0 < most → IsTrue r ↔ AllByRecursion (λ t. nesting t ≤ most - 1) (listed ts) → IsTrue r ↔ (suc (nestings ts) ≤ most)
list_shallow most ts r some h = (
  λ t. let a = each_nesting (most - 1) ts (h.0 t) in omega (arith, a, some),
  λ le. h.1 (nesting_each (most - 1) ts (omega (arith, le))),
)

-- an instance is as deep as the deepest of its parts
pub parts_shallow : (i : InstanceTree) (r : Bool) → IsTrue r ↔ AllByRecursion (λ p. part_nesting p ≤ MAX_NESTING) i.parts → IsTrue r ↔ (instance_nesting i ≤ MAX_NESTING)
parts_shallow i r h = (λ t. each_greatest part_nesting MAX_NESTING i.parts (h.0 t), λ le. h.1 (greatest_each part_nesting MAX_NESTING i.parts le))

-- an exchange is as deep as the deepest of its entries and instances
pub both_shallow : (x : ExchangeTree) (r : Bool) → AllByRecursion (λ p. part_nesting p ≤ MAX_NESTING) x.head → IsTrue r ↔ AllByRecursion (λ i. instance_nesting i ≤ MAX_NESTING) x.items → IsTrue r ↔ (exchange_nesting x ≤ MAX_NESTING)
both_shallow x r head h = (
  λ t.
      let above = each_greatest part_nesting MAX_NESTING x.head head in
      let below = each_greatest instance_nesting MAX_NESTING x.items (h.0 t) in
      omega (arith, above, below),
  λ le. h.1 (greatest_each instance_nesting MAX_NESTING x.items (omega (arith, le))),
)

pub head_deep : (x : ExchangeTree) (r : Bool) → r ≡ false → IsTrue r ↔ AllByRecursion (λ p. part_nesting p ≤ MAX_NESTING) x.head → IsTrue r ↔ (exchange_nesting x ≤ MAX_NESTING)
head_deep x r is h = (λ t. absurd (not_true r is t), λ le. h.1 (greatest_each part_nesting MAX_NESTING x.head (omega (arith, le))))
  where
    not_true : (b : Bool) → b ≡ false → IsTrue b → ⊥
    not_true true e t = absurd cc
    not_true false e t = absurd (let no_truth : false ≡ true = t in cc)

-- Which exchanges may be read and printed.
use Rattle.std.specs.Prelude.{ℕ, nat_eq, ◌≤◌, List, [], ◌∷◌, length, map}
use Rattle.std.specs.List.{AllByRecursion, IsDistinct}
use Rattle.p21_parse.specs.declared.limits.TheConstants.{MAX_INSTANCES, MAX_NESTING}
use Rattle.p21_parse.specs.Tree.{InstanceTree, ExchangeTree}
use Rattle.p21_parse.specs.Symbol.{Symbol, name}
use Rattle.p21_parse.specs.Grammar.{IsInstance, IsExchange}
use Rattle.p21_parse.specs.Nesting.{greatest, instance_nesting, exchange_nesting}

-- the number of an instance's name
abbrev pub own_number_of : InstanceTree → ℕ
own_number_of i = i.number

-- An exchange that the grammar and this profile's limits allow: at most 32 parentheses in one another, at most 200,000 instances, no number twice.
pub record IsAllowed (x : ExchangeTree) : Type 0 where
  pub grammar : IsExchange x
  pub shallow : exchange_nesting x ≤ MAX_NESTING
  pub few : length x.items ≤ MAX_INSTANCES
  pub distinct : IsDistinct nat_eq (map own_number_of x.items)

-- Instances that the grammar and the limits allow, of which there may be so many at most. A number may come twice.
pub record AreAllowed (most : ℕ) (items : List InstanceTree) : Type 0 where
  pub grammar : AllByRecursion IsInstance items
  pub shallow : greatest instance_nesting items ≤ MAX_NESTING
  pub few : length items ≤ most

-- No name stands first, so instances have ended there.
abbrev pub IsNoName : List Symbol → Type 0
IsNoName [] = Unit {0}
IsNoName (name n ∷ ss) = ⊥
IsNoName (s ∷ ss) = Unit {0}

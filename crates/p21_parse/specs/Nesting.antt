-- How many parentheses of parameters are open in one another: a part's own is the first, each list and each typed parameter adds one. The
-- outer parenthesis of a complex instance does not count.
use Rattle.std.specs.Prelude.{ℕ, suc, pred, max, ◌≤◌, Bool, true, false, if◌then◌else◌, List, [], ◌∷◌}
use Rattle.p21_parse.specs.declared.limits.TheConstants.{MAX_NESTING}
use Rattle.p21_parse.specs.Tree.{Tree, one, reference, list, typed, Trees, none, first, PartTree, InstanceTree, ExchangeTree}
use Rattle.p21_parse.specs.Symbol.{Symbol, opening, closing, equals}

-- the greatest of numbers
abbrev pub greatest : {X : Type 0} → (X → ℕ) → List X → ℕ
greatest f [] = 0
greatest f (x ∷ xs) = max (f x) (greatest f xs)

abbrev mutual
  -- how deep the parentheses of a parameter lie in one another
  pub nesting : Tree → ℕ
  nesting (one kind text) = 0
  nesting (reference number) = 0
  nesting (list ts) = suc (nestings ts)
  nesting (typed word ts) = suc (nestings ts)

  pub nestings : Trees → ℕ
  nestings none = 0
  nestings (first t ts) = max (nesting t) (nestings ts)

abbrev pub part_nesting : PartTree → ℕ
part_nesting p = suc (nestings p.parameters)

abbrev pub instance_nesting : InstanceTree → ℕ
instance_nesting i = greatest part_nesting i.parts

abbrev pub exchange_nesting : ExchangeTree → ℕ
exchange_nesting x = max (greatest part_nesting x.head) (greatest instance_nesting x.items)

-- whether the parenthesis behind a symbol is the outer one of a complex instance
abbrev pub is_equals : Symbol → Bool
is_equals equals = true
is_equals _ = false

-- how many parentheses are open behind a symbol, where so many are open before it and it stands behind `=` or not
abbrev pub open_after : Bool → ℕ → Symbol → ℕ
open_after behind n opening = if behind then n else suc n
open_after behind n closing = pred n
open_after behind n _ = n

-- how many are open behind symbols
abbrev pub open_behind : Bool → ℕ → List Symbol → ℕ
open_behind behind n [] = n
open_behind behind n (s ∷ ss) = open_behind (is_equals s) (open_after behind n s) ss

-- At no symbol more than 32 are open.
abbrev pub IsShallow : Bool → ℕ → List Symbol → Type 0
IsShallow behind n [] = Unit {0}
IsShallow behind n (s ∷ ss) = (open_after behind n s ≤ MAX_NESTING) × IsShallow (is_equals s) (open_after behind n s) ss

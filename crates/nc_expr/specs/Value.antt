-- What an expression is worth and whether a condition holds, under the values of the variables; all numbers are thousandths.
use Rattle.std.specs.Prelude.{ℕ, ℤ, pos, neg_ℤ, ◌+ℤ◌, ◌-ℤ◌, ◌*ℤ◌, int_lt, int_le, int_div, Bool, true, false, not, ◌&&◌, ◌||◌, if◌then◌else◌}
use Rattle.std.specs.Ordering.{int_eq}
use Rattle.nc_base.specs.declared.numbers.TheConstants.{MAX_THOUSANDTHS}
use Rattle.nc_expr.specs.declared.expr.Relation.{Relation}
use Rattle.nc_expr.specs.declared.expr.Relation.TheVariants.{Equal, NotEqual, Greater, GreaterEqual, Less, LessEqual}
use Rattle.nc_expr.specs.Term.{Term, Written, Variable, Sum, Difference, Product, Test, Constant, Compares, And, Or, Xor, Not}

-- the nearest number that is no greater in size than a value may be (this profile)
abbrev pub clamp : ℤ → ℤ
clamp x =
    if int_lt (pos MAX_THOUSANDTHS) x then pos MAX_THOUSANDTHS
    else (if int_lt x (neg_ℤ (pos MAX_THOUSANDTHS)) then neg_ℤ (pos MAX_THOUSANDTHS) else x)

-- the product of two numbers of thousandths, truncated towards zero
abbrev pub product_of : ℤ → ℤ → ℤ
product_of a b = int_div (a *ℤ b) (pos 1000)

-- the value of an expression: each sum, difference and product is clamped
abbrev pub value_of : (ℕ → ℤ) → Term → ℤ
value_of vars (Written x) = x
value_of vars (Variable n) = vars n
value_of vars (Sum a b) = clamp (value_of vars a +ℤ value_of vars b)
value_of vars (Difference a b) = clamp (value_of vars a -ℤ value_of vars b)
value_of vars (Product a b) = clamp (product_of (value_of vars a) (value_of vars b))

-- whether two values compare so
abbrev pub compares : Relation → ℤ → ℤ → Bool
compares Equal a b = int_eq a b
compares NotEqual a b = not (int_eq a b)
compares Greater a b = int_lt b a
compares GreaterEqual a b = int_le b a
compares Less a b = int_lt a b
compares LessEqual a b = int_le a b

-- one of two answers, and not both
abbrev pub differ : Bool → Bool → Bool
differ true b = not b
differ false b = b

-- whether a condition holds
abbrev pub holds : (ℕ → ℤ) → Test → Bool
holds vars (Constant answer) = answer
holds vars (Compares relation a b) = compares relation (value_of vars a) (value_of vars b)
holds vars (And a b) = holds vars a && holds vars b
holds vars (Or a b) = holds vars a || holds vars b
holds vars (Xor a b) = differ (holds vars a) (holds vars b)
holds vars (Not a) = not (holds vars a)

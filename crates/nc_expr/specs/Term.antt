-- Expressions and conditions as plain trees (ISO 14649-10, expressions over nc_variables).
use Rattle.std.specs.Prelude.{ℕ, ℤ, Bool}
use Rattle.nc_expr.specs.declared.expr.Relation.{Relation}
use Rattle.nc_expr.specs.declared.expr.Expr.{Expr}
use Rattle.nc_expr.specs.declared.expr.Expr.TheVariants as expr
use Rattle.nc_expr.specs.declared.expr.Cond.{Cond}
use Rattle.nc_expr.specs.declared.expr.Cond.TheVariants as cond

-- a value: a number in thousandths, a variable, a sum, a difference, a product
pub data Term : Type 0 where
  Written : ℤ → Term
  Variable : ℕ → Term
  Sum : Term → Term → Term
  Difference : Term → Term → Term
  Product : Term → Term → Term

-- a condition; one over a list is a fold that ends in a constant
pub data Test : Type 0 where
  Constant : Bool → Test
  Compares : Relation → Term → Term → Test
  And : Test → Test → Test
  Or : Test → Test → Test
  Xor : Test → Test → Test
  Not : Test → Test

-- what an expression is as a plain tree
abbrev pub term_of : Expr → Term
term_of (expr.Number x) = Written x
term_of (expr.Variable n) = Variable n
term_of (expr.Sum' p a q b) = Sum (term_of a) (term_of b)
term_of (expr.Difference' p a q b) = Difference (term_of a) (term_of b)
term_of (expr.Product' p a q b) = Product (term_of a) (term_of b)

-- what a condition is as a plain tree
abbrev pub test_of : Cond → Test
test_of (cond.Constant b) = Constant b
test_of (cond.Compares r a b) = Compares r (term_of a) (term_of b)
test_of (cond.And' p a q b) = And (test_of a) (test_of b)
test_of (cond.Or' p a q b) = Or (test_of a) (test_of b)
test_of (cond.Xor' p a q b) = Xor (test_of a) (test_of b)
test_of (cond.Not' p a) = Not (test_of a)

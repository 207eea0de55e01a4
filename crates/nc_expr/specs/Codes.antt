-- How the logic stores a term and a condition: by a number for its form, and its parts.
use Rattle.std.specs.Prelude.{◌≡◌, ℕ}
use Rattle.std.proofs.Common.{◌≢◌, ap, arith}
use Rattle.std.specs.Coded.{Coded, coded_ℕ, coded_ℤ, coded_bool}
use base.Stored.{Gv, gnil, gnum, gcons}
use Rattle.nc_expr.specs.contracts.expr.Relation as relation
use Rattle.nc_expr.specs.Term.{Term, Written, Variable, Sum, Difference, Product, Test, Constant, Compares, And, Or, Xor, Not}

abbrev head : Gv → Gv
head gnil = gnil
head (gnum n) = gnil
head (gcons a b) = a

abbrev tail : Gv → Gv
tail gnil = gnil
tail (gnum n) = gnil
tail (gcons a b) = b

apart : (m n : ℕ) {a b : Gv} → gcons (gnum m) a ≡ gcons (gnum n) b → m ≢ n → ⊥
apart m n p other = other (cc)

abbrev pub term_code : Term → Gv
term_code (Written a0) = gcons (gnum 0) (coded_ℤ.code a0)
term_code (Variable a0) = gcons (gnum 1) (coded_ℕ.code a0)
term_code (Sum a0 a1) = gcons (gnum 2) (gcons (term_code a0) (term_code a1))
term_code (Difference a0 a1) = gcons (gnum 3) (gcons (term_code a0) (term_code a1))
term_code (Product a0 a1) = gcons (gnum 4) (gcons (term_code a0) (term_code a1))

pub term_inj : (x y : Term) → term_code x ≡ term_code y → x ≡ y
term_inj (Written a0) (Written b0) p = λ i. Written (coded_ℤ.inj a0 b0 (ap (λ g. tail g) p) i)
term_inj (Written a0) (Variable b0) p = absurd (apart 0 1 p (omega arith))
term_inj (Written a0) (Sum b0 b1) p = absurd (apart 0 2 p (omega arith))
term_inj (Written a0) (Difference b0 b1) p = absurd (apart 0 3 p (omega arith))
term_inj (Written a0) (Product b0 b1) p = absurd (apart 0 4 p (omega arith))
term_inj (Variable a0) (Written b0) p = absurd (apart 1 0 p (omega arith))
term_inj (Variable a0) (Variable b0) p = λ i. Variable (coded_ℕ.inj a0 b0 (ap (λ g. tail g) p) i)
term_inj (Variable a0) (Sum b0 b1) p = absurd (apart 1 2 p (omega arith))
term_inj (Variable a0) (Difference b0 b1) p = absurd (apart 1 3 p (omega arith))
term_inj (Variable a0) (Product b0 b1) p = absurd (apart 1 4 p (omega arith))
term_inj (Sum a0 a1) (Written b0) p = absurd (apart 2 0 p (omega arith))
term_inj (Sum a0 a1) (Variable b0) p = absurd (apart 2 1 p (omega arith))
term_inj (Sum a0 a1) (Sum b0 b1) p = λ i. Sum (term_inj a0 b0 (ap (λ g. head (tail g)) p) i) (term_inj a1 b1 (ap (λ g. tail (tail g)) p) i)
term_inj (Sum a0 a1) (Difference b0 b1) p = absurd (apart 2 3 p (omega arith))
term_inj (Sum a0 a1) (Product b0 b1) p = absurd (apart 2 4 p (omega arith))
term_inj (Difference a0 a1) (Written b0) p = absurd (apart 3 0 p (omega arith))
term_inj (Difference a0 a1) (Variable b0) p = absurd (apart 3 1 p (omega arith))
term_inj (Difference a0 a1) (Sum b0 b1) p = absurd (apart 3 2 p (omega arith))
term_inj (Difference a0 a1) (Difference b0 b1) p = λ i. Difference (term_inj a0 b0 (ap (λ g. head (tail g)) p) i) (term_inj a1 b1 (ap (λ g. tail (tail g)) p) i)
term_inj (Difference a0 a1) (Product b0 b1) p = absurd (apart 3 4 p (omega arith))
term_inj (Product a0 a1) (Written b0) p = absurd (apart 4 0 p (omega arith))
term_inj (Product a0 a1) (Variable b0) p = absurd (apart 4 1 p (omega arith))
term_inj (Product a0 a1) (Sum b0 b1) p = absurd (apart 4 2 p (omega arith))
term_inj (Product a0 a1) (Difference b0 b1) p = absurd (apart 4 3 p (omega arith))
term_inj (Product a0 a1) (Product b0 b1) p = λ i. Product (term_inj a0 b0 (ap (λ g. head (tail g)) p) i) (term_inj a1 b1 (ap (λ g. tail (tail g)) p) i)

abbrev pub coded_term : Coded Term
coded_term = record { code = term_code; inj = term_inj }

abbrev pub test_code : Test → Gv
test_code (Constant a0) = gcons (gnum 0) (coded_bool.code a0)
test_code (Compares a0 a1 a2) = gcons (gnum 1) (gcons (relation.the_row.coded.code a0) (gcons (coded_term.code a1) (coded_term.code a2)))
test_code (And a0 a1) = gcons (gnum 2) (gcons (test_code a0) (test_code a1))
test_code (Or a0 a1) = gcons (gnum 3) (gcons (test_code a0) (test_code a1))
test_code (Xor a0 a1) = gcons (gnum 4) (gcons (test_code a0) (test_code a1))
test_code (Not a0) = gcons (gnum 5) (test_code a0)

pub test_inj : (x y : Test) → test_code x ≡ test_code y → x ≡ y
test_inj (Constant a0) (Constant b0) p = λ i. Constant (coded_bool.inj a0 b0 (ap (λ g. tail g) p) i)
test_inj (Constant a0) (Compares b0 b1 b2) p = absurd (apart 0 1 p (omega arith))
test_inj (Constant a0) (And b0 b1) p = absurd (apart 0 2 p (omega arith))
test_inj (Constant a0) (Or b0 b1) p = absurd (apart 0 3 p (omega arith))
test_inj (Constant a0) (Xor b0 b1) p = absurd (apart 0 4 p (omega arith))
test_inj (Constant a0) (Not b0) p = absurd (apart 0 5 p (omega arith))
test_inj (Compares a0 a1 a2) (Constant b0) p = absurd (apart 1 0 p (omega arith))
test_inj (Compares a0 a1 a2) (Compares b0 b1 b2) p = λ i. Compares (relation.the_row.coded.inj a0 b0 (ap (λ g. head (tail g)) p) i) (coded_term.inj a1 b1 (ap (λ g. head (tail (tail g))) p) i) (coded_term.inj a2 b2 (ap (λ g. tail (tail (tail g))) p) i)
test_inj (Compares a0 a1 a2) (And b0 b1) p = absurd (apart 1 2 p (omega arith))
test_inj (Compares a0 a1 a2) (Or b0 b1) p = absurd (apart 1 3 p (omega arith))
test_inj (Compares a0 a1 a2) (Xor b0 b1) p = absurd (apart 1 4 p (omega arith))
test_inj (Compares a0 a1 a2) (Not b0) p = absurd (apart 1 5 p (omega arith))
test_inj (And a0 a1) (Constant b0) p = absurd (apart 2 0 p (omega arith))
test_inj (And a0 a1) (Compares b0 b1 b2) p = absurd (apart 2 1 p (omega arith))
test_inj (And a0 a1) (And b0 b1) p = λ i. And (test_inj a0 b0 (ap (λ g. head (tail g)) p) i) (test_inj a1 b1 (ap (λ g. tail (tail g)) p) i)
test_inj (And a0 a1) (Or b0 b1) p = absurd (apart 2 3 p (omega arith))
test_inj (And a0 a1) (Xor b0 b1) p = absurd (apart 2 4 p (omega arith))
test_inj (And a0 a1) (Not b0) p = absurd (apart 2 5 p (omega arith))
test_inj (Or a0 a1) (Constant b0) p = absurd (apart 3 0 p (omega arith))
test_inj (Or a0 a1) (Compares b0 b1 b2) p = absurd (apart 3 1 p (omega arith))
test_inj (Or a0 a1) (And b0 b1) p = absurd (apart 3 2 p (omega arith))
test_inj (Or a0 a1) (Or b0 b1) p = λ i. Or (test_inj a0 b0 (ap (λ g. head (tail g)) p) i) (test_inj a1 b1 (ap (λ g. tail (tail g)) p) i)
test_inj (Or a0 a1) (Xor b0 b1) p = absurd (apart 3 4 p (omega arith))
test_inj (Or a0 a1) (Not b0) p = absurd (apart 3 5 p (omega arith))
test_inj (Xor a0 a1) (Constant b0) p = absurd (apart 4 0 p (omega arith))
test_inj (Xor a0 a1) (Compares b0 b1 b2) p = absurd (apart 4 1 p (omega arith))
test_inj (Xor a0 a1) (And b0 b1) p = absurd (apart 4 2 p (omega arith))
test_inj (Xor a0 a1) (Or b0 b1) p = absurd (apart 4 3 p (omega arith))
test_inj (Xor a0 a1) (Xor b0 b1) p = λ i. Xor (test_inj a0 b0 (ap (λ g. head (tail g)) p) i) (test_inj a1 b1 (ap (λ g. tail (tail g)) p) i)
test_inj (Xor a0 a1) (Not b0) p = absurd (apart 4 5 p (omega arith))
test_inj (Not a0) (Constant b0) p = absurd (apart 5 0 p (omega arith))
test_inj (Not a0) (Compares b0 b1 b2) p = absurd (apart 5 1 p (omega arith))
test_inj (Not a0) (And b0 b1) p = absurd (apart 5 2 p (omega arith))
test_inj (Not a0) (Or b0 b1) p = absurd (apart 5 3 p (omega arith))
test_inj (Not a0) (Xor b0 b1) p = absurd (apart 5 4 p (omega arith))
test_inj (Not a0) (Not b0) p = λ i. Not (test_inj a0 b0 (ap (λ g. tail g) p) i)

abbrev pub coded_test : Coded Test
coded_test = record { code = test_code; inj = test_inj }

-- What a class is in an expression.
use Rattle.entity_types.specs.declared.class.Class.{Class}
use Rattle.entity_types.specs.declared.class.Class.TheVariants.{NcVariable, NcConstant, NcSum, NcDifference, NcProduct, ComparisonEqual, ComparisonNotEqual, ComparisonGreater, ComparisonGreaterEqual, ComparisonLess, ComparisonLessEqual, AndExpression, OrExpression, XorExpression, NotExpression}
use Rattle.nc_expr.specs.declared.expr.Relation.TheVariants as relation
use Rattle.exec_tree.specs.declared.classes.ValueKind.{ValueKind}
use Rattle.exec_tree.specs.declared.classes.ValueKind.TheVariants as value
use Rattle.exec_tree.specs.declared.classes.TestKind.{TestKind}
use Rattle.exec_tree.specs.declared.classes.TestKind.TheVariants as test

abbrev pub value_kind : Class → ValueKind
value_kind NcVariable = value.Variable
value_kind NcConstant = value.Constant
value_kind NcSum = value.Sum
value_kind NcDifference = value.Difference
value_kind NcProduct = value.Product
value_kind _ = value.Other

abbrev pub test_kind : Class → TestKind
test_kind ComparisonEqual = test.Compares relation.Equal
test_kind ComparisonNotEqual = test.Compares relation.NotEqual
test_kind ComparisonGreater = test.Compares relation.Greater
test_kind ComparisonGreaterEqual = test.Compares relation.GreaterEqual
test_kind ComparisonLess = test.Compares relation.Less
test_kind ComparisonLessEqual = test.Compares relation.LessEqual
test_kind AndExpression = test.All
test_kind OrExpression = test.Some
test_kind XorExpression = test.Either
test_kind NotExpression = test.Not
test_kind _ = test.Other

-- Which classes a reference at a used position may refer to.
use Rattle.std.specs.Prelude.{ℕ, Bool, true, ◌&&◌, ◌||◌, nat_le}
use Rattle.entity_types.specs.declared.class.Class.{Class}
use Rattle.entity_types.specs.declared.class.Class.TheVariants.{Workplan, Note, Channel, NcVariable, NcConstant, SetMark, NcSum, NcProduct, ComparisonEqual, NotExpression, RoundHole, ClosedPocket, Drilling, BottomAndSideFinishMilling}
use Rattle.entity_types.specs.declared.table.Target.{Target}
use Rattle.entity_types.specs.declared.table.Target.TheVariants as to
use Rattle.entity_types.specs.Class.{code_of}

-- first to last, both included
abbrev pub is_between : ℕ → ℕ → ℕ → Bool
is_between first last code = nat_le first code && nat_le code last

-- a class from the first to the last of these, in the order of the table
abbrev pub is_class_between : Class → Class → Class → Bool
is_class_between first last class = is_between (code_of first) (code_of last) (code_of class)

-- the class is one of the target
abbrev pub accepts : Target → Class → Bool
accepts to.Any class = true
accepts to.Workplan class = is_class_between Workplan Workplan class
accepts to.Executable class = is_class_between Workplan Note class
accepts to.Channel class = is_class_between Channel Channel class
accepts to.Variable class = is_class_between NcVariable NcVariable class
accepts to.Mark class = is_class_between SetMark SetMark class
accepts to.Value class = is_class_between NcVariable NcConstant class || is_class_between NcSum NcProduct class
accepts to.Condition class = is_class_between ComparisonEqual NotExpression class
accepts to.Feature class = is_class_between RoundHole ClosedPocket class
accepts to.Operation class = is_class_between Drilling BottomAndSideFinishMilling class

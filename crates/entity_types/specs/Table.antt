-- The used positions of each class: which parameters of an instance are looked at, and what may stand there.
use Rattle.std.specs.Prelude.{ℕ, List, [], ◌∷◌, true, false}
use Rattle.entity_types.specs.declared.class.Class.{Class}
use Rattle.entity_types.specs.declared.class.Class.TheVariants.{Project, Workplan, Parallel, NonSequential, Selective, IfStatement, WhileStatement, Assignment, SetMark, WaitForMark, MachiningWorkingstep, Note, Channel, NcVariable, NcConstant, ComparisonEqual, ComparisonNotEqual, ComparisonGreater, ComparisonGreaterEqual, ComparisonLess, ComparisonLessEqual, AndExpression, OrExpression, XorExpression, NotExpression, NcSum, NcDifference, NcProduct, RoundHole, PlanarFace, ClosedPocket, LinearPath, LinearProfile, RectangularClosedProfile, GeneralClosedProfile, Polyline, Plane, Axis2Placement3d, CartesianPoint, Direction, Drilling, CenterDrilling, Reaming, Boring, PlaneRoughMilling, PlaneFinishMilling, BottomAndSideRoughMilling, BottomAndSideFinishMilling, Bidirectional, Unidirectional, MillingTechnology, MillingCuttingTool, Endmill, TaperedEndmill, BallEndmill, Facemill, TwistDrill, MillingToolDimension, TolerancedLengthMeasure, NumericParameter, Opaque}
use Rattle.entity_types.specs.declared.table.Kind.{Kind}
use Rattle.entity_types.specs.declared.table.Kind.TheVariants.{Reference, References, SomeReferences, Numeral, Length, Operand, Coordinates, Flag}
use Rattle.entity_types.specs.declared.table.Target.{Target}
use Rattle.entity_types.specs.declared.table.Target.TheVariants as to
use Rattle.entity_types.specs.declared.table.UsedPosition.{UsedPosition}

-- a position where `$` may not stand
abbrev pub need : ℕ → Kind → Target → UsedPosition
need position kind target = record { position = position; kind = kind; optional = false; target = target }

-- a position where `$` may stand
abbrev pub may : ℕ → Kind → Target → UsedPosition
may position kind target = record { position = position; kind = kind; optional = true; target = target }

-- the used positions of a class, in rising order
abbrev pub used_of : Class → List UsedPosition
used_of Project = (need 2 Reference to.Workplan) ∷ []
used_of Workplan = (need 2 References to.Executable) ∷ (may 3 Reference to.Channel) ∷ []
used_of Parallel = (need 2 SomeReferences to.Executable) ∷ []
used_of NonSequential = (need 2 SomeReferences to.Executable) ∷ []
used_of Selective = (need 2 SomeReferences to.Executable) ∷ []
used_of IfStatement = (need 2 Reference to.Condition) ∷ (need 3 Reference to.Executable) ∷ (may 4 Reference to.Executable) ∷ []
used_of WhileStatement = (need 2 Reference to.Condition) ∷ (need 3 Reference to.Executable) ∷ []
used_of Assignment = (need 2 Reference to.Variable) ∷ (need 3 Operand to.Value) ∷ []
used_of SetMark = []
used_of WaitForMark = (need 2 Reference to.Mark) ∷ []
used_of MachiningWorkingstep = (may 2 Reference to.Any) ∷ (need 3 Reference to.Feature) ∷ (need 4 Reference to.Operation) ∷ []
used_of Note = []
used_of Channel = []
used_of NcVariable = (may 2 Numeral to.Any) ∷ []
used_of NcConstant = (need 2 Numeral to.Any) ∷ []
used_of ComparisonEqual = (need 1 Operand to.Value) ∷ (need 2 Operand to.Value) ∷ []
used_of ComparisonNotEqual = (need 1 Operand to.Value) ∷ (need 2 Operand to.Value) ∷ []
used_of ComparisonGreater = (need 1 Operand to.Value) ∷ (need 2 Operand to.Value) ∷ []
used_of ComparisonGreaterEqual = (need 1 Operand to.Value) ∷ (need 2 Operand to.Value) ∷ []
used_of ComparisonLess = (need 1 Operand to.Value) ∷ (need 2 Operand to.Value) ∷ []
used_of ComparisonLessEqual = (need 1 Operand to.Value) ∷ (need 2 Operand to.Value) ∷ []
used_of AndExpression = (need 1 References to.Condition) ∷ []
used_of OrExpression = (need 1 References to.Condition) ∷ []
used_of XorExpression = (need 1 Reference to.Condition) ∷ (need 2 Reference to.Condition) ∷ []
used_of NotExpression = (need 1 Reference to.Condition) ∷ []
used_of NcSum = (need 1 Operand to.Value) ∷ (need 2 Operand to.Value) ∷ []
used_of NcDifference = (need 1 Operand to.Value) ∷ (need 2 Operand to.Value) ∷ []
used_of NcProduct = (need 1 Operand to.Value) ∷ (need 2 Operand to.Value) ∷ []
used_of RoundHole = (may 4 Reference to.Any) ∷ (may 5 Reference to.Any) ∷ (may 6 Length to.Any) ∷ []
used_of PlanarFace = (may 4 Reference to.Any) ∷ (may 5 Reference to.Any) ∷ (may 6 Reference to.Any) ∷ (may 7 Reference to.Any) ∷ []
used_of ClosedPocket = (may 4 Reference to.Any) ∷ (may 5 Reference to.Any) ∷ (may 11 Reference to.Any) ∷ []
used_of LinearPath = (may 2 Length to.Any) ∷ (may 3 Reference to.Any) ∷ []
used_of LinearProfile = (may 2 Length to.Any) ∷ []
used_of RectangularClosedProfile = (may 2 Length to.Any) ∷ (may 3 Length to.Any) ∷ []
used_of GeneralClosedProfile = (may 2 Reference to.Any) ∷ []
used_of Polyline = (need 2 References to.Any) ∷ []
used_of Plane = (may 2 Reference to.Any) ∷ []
used_of Axis2Placement3d = (may 2 Reference to.Any) ∷ (may 3 Reference to.Any) ∷ (may 4 Reference to.Any) ∷ []
used_of CartesianPoint = (need 2 Coordinates to.Any) ∷ []
used_of Direction = (need 2 Coordinates to.Any) ∷ []
used_of Drilling = (need 1 Flag to.Any) ∷ (may 4 Length to.Any) ∷ (may 6 Reference to.Any) ∷ (may 7 Reference to.Any) ∷ (may 12 Numeral to.Any) ∷ []
used_of CenterDrilling = (need 1 Flag to.Any) ∷ (may 4 Length to.Any) ∷ (may 6 Reference to.Any) ∷ (may 7 Reference to.Any) ∷ (may 12 Numeral to.Any) ∷ []
used_of Reaming = (need 1 Flag to.Any) ∷ (may 4 Length to.Any) ∷ (may 6 Reference to.Any) ∷ (may 7 Reference to.Any) ∷ (may 12 Numeral to.Any) ∷ []
used_of Boring = (need 1 Flag to.Any) ∷ (may 4 Length to.Any) ∷ (may 6 Reference to.Any) ∷ (may 7 Reference to.Any) ∷ (may 12 Numeral to.Any) ∷ []
used_of PlaneRoughMilling = (need 1 Flag to.Any) ∷ (may 4 Length to.Any) ∷ (may 6 Reference to.Any) ∷ (may 7 Reference to.Any) ∷ (may 12 Reference to.Any) ∷ (may 13 Length to.Any) ∷ (may 14 Length to.Any) ∷ []
used_of PlaneFinishMilling = (need 1 Flag to.Any) ∷ (may 4 Length to.Any) ∷ (may 6 Reference to.Any) ∷ (may 7 Reference to.Any) ∷ (may 12 Reference to.Any) ∷ (may 13 Length to.Any) ∷ (may 14 Length to.Any) ∷ []
used_of BottomAndSideRoughMilling = (need 1 Flag to.Any) ∷ (may 4 Length to.Any) ∷ (may 6 Reference to.Any) ∷ (may 7 Reference to.Any) ∷ (may 13 Length to.Any) ∷ (may 14 Length to.Any) ∷ (may 15 Length to.Any) ∷ (may 16 Length to.Any) ∷ []
used_of BottomAndSideFinishMilling = (need 1 Flag to.Any) ∷ (may 4 Length to.Any) ∷ (may 6 Reference to.Any) ∷ (may 7 Reference to.Any) ∷ (may 13 Length to.Any) ∷ (may 14 Length to.Any) ∷ (may 15 Length to.Any) ∷ (may 16 Length to.Any) ∷ []
used_of Bidirectional = (may 1 Numeral to.Any) ∷ []
used_of Unidirectional = (may 1 Numeral to.Any) ∷ []
used_of MillingTechnology = (may 1 Numeral to.Any) ∷ (may 4 Numeral to.Any) ∷ []
used_of MillingCuttingTool = (may 2 Reference to.Any) ∷ []
used_of Endmill = (may 1 Reference to.Any) ∷ []
used_of TaperedEndmill = (may 1 Reference to.Any) ∷ []
used_of BallEndmill = (may 1 Reference to.Any) ∷ []
used_of Facemill = (may 1 Reference to.Any) ∷ []
used_of TwistDrill = (may 1 Reference to.Any) ∷ []
used_of MillingToolDimension = (may 1 Length to.Any) ∷ []
used_of TolerancedLengthMeasure = (need 1 Numeral to.Any) ∷ []
used_of NumericParameter = (need 2 Numeral to.Any) ∷ []
used_of Opaque = []

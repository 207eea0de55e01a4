-- The classes of entities, by number and by keyword.
use Rattle.std.specs.Prelude.{ℕ, List, [], ◌∷◌, if◌then◌else◌, codes}
use Rattle.std.specs.Str.{bytes_eq}
use Rattle.entity_types.specs.declared.class.Class.{Class}
use Rattle.entity_types.specs.declared.class.Class.TheVariants.{Project, Workplan, Parallel, NonSequential, Selective, IfStatement, WhileStatement, Assignment, SetMark, WaitForMark, MachiningWorkingstep, Note, Channel, NcVariable, NcConstant, ComparisonEqual, ComparisonNotEqual, ComparisonGreater, ComparisonGreaterEqual, ComparisonLess, ComparisonLessEqual, AndExpression, OrExpression, XorExpression, NotExpression, NcSum, NcDifference, NcProduct, RoundHole, PlanarFace, ClosedPocket, LinearPath, LinearProfile, RectangularClosedProfile, GeneralClosedProfile, Polyline, Plane, Axis2Placement3d, CartesianPoint, Direction, Drilling, CenterDrilling, Reaming, Boring, PlaneRoughMilling, PlaneFinishMilling, BottomAndSideRoughMilling, BottomAndSideFinishMilling, Bidirectional, Unidirectional, MillingTechnology, MillingCuttingTool, Endmill, TaperedEndmill, BallEndmill, Facemill, TwistDrill, MillingToolDimension, TolerancedLengthMeasure, NumericParameter, Opaque}

-- the number of a class
abbrev pub code_of : Class → ℕ
code_of Project = 1
code_of Workplan = 2
code_of Parallel = 3
code_of NonSequential = 4
code_of Selective = 5
code_of IfStatement = 6
code_of WhileStatement = 7
code_of Assignment = 8
code_of SetMark = 9
code_of WaitForMark = 10
code_of MachiningWorkingstep = 11
code_of Note = 12
code_of Channel = 13
code_of NcVariable = 14
code_of NcConstant = 15
code_of ComparisonEqual = 16
code_of ComparisonNotEqual = 17
code_of ComparisonGreater = 18
code_of ComparisonGreaterEqual = 19
code_of ComparisonLess = 20
code_of ComparisonLessEqual = 21
code_of AndExpression = 22
code_of OrExpression = 23
code_of XorExpression = 24
code_of NotExpression = 25
code_of NcSum = 26
code_of NcDifference = 27
code_of NcProduct = 28
code_of RoundHole = 29
code_of PlanarFace = 30
code_of ClosedPocket = 31
code_of LinearPath = 32
code_of LinearProfile = 33
code_of RectangularClosedProfile = 34
code_of GeneralClosedProfile = 35
code_of Polyline = 36
code_of Plane = 37
code_of Axis2Placement3d = 38
code_of CartesianPoint = 39
code_of Direction = 40
code_of Drilling = 41
code_of CenterDrilling = 42
code_of Reaming = 43
code_of Boring = 44
code_of PlaneRoughMilling = 45
code_of PlaneFinishMilling = 46
code_of BottomAndSideRoughMilling = 47
code_of BottomAndSideFinishMilling = 48
code_of Bidirectional = 49
code_of Unidirectional = 50
code_of MillingTechnology = 51
code_of MillingCuttingTool = 52
code_of Endmill = 53
code_of TaperedEndmill = 54
code_of BallEndmill = 55
code_of Facemill = 56
code_of TwistDrill = 57
code_of MillingToolDimension = 58
code_of TolerancedLengthMeasure = 59
code_of NumericParameter = 60
code_of Opaque = 61

-- the keywords of this profile, and the class that each names
abbrev pub words : List (List ℕ × Class)
words =
    (codes "PROJECT", Project) ∷
    (codes "WORKPLAN", Workplan) ∷
    (codes "PARALLEL", Parallel) ∷
    (codes "NON_SEQUENTIAL", NonSequential) ∷
    (codes "SELECTIVE", Selective) ∷
    (codes "IF_STATEMENT", IfStatement) ∷
    (codes "WHILE_STATEMENT", WhileStatement) ∷
    (codes "ASSIGNMENT", Assignment) ∷
    (codes "SET_MARK", SetMark) ∷
    (codes "WAIT_FOR_MARK", WaitForMark) ∷
    (codes "MACHINING_WORKINGSTEP", MachiningWorkingstep) ∷
    (codes "DISPLAY_MESSAGE", Note) ∷
    (codes "OPTIONAL_STOP", Note) ∷
    (codes "PROGRAM_STOP", Note) ∷
    (codes "LOAD_TOOL", Note) ∷
    (codes "UNLOAD_TOOL", Note) ∷
    (codes "INDEX_TABLE", Note) ∷
    (codes "INDEX_PALLET", Note) ∷
    (codes "EXCHANGE_PALLET", Note) ∷
    (codes "CHANNEL", Channel) ∷
    (codes "NC_VARIABLE", NcVariable) ∷
    (codes "NC_CONSTANT", NcConstant) ∷
    (codes "COMPARISON_EQUAL", ComparisonEqual) ∷
    (codes "COMPARISON_NOT_EQUAL", ComparisonNotEqual) ∷
    (codes "COMPARISON_GREATER", ComparisonGreater) ∷
    (codes "COMPARISON_GREATER_EQUAL", ComparisonGreaterEqual) ∷
    (codes "COMPARISON_LESS", ComparisonLess) ∷
    (codes "COMPARISON_LESS_EQUAL", ComparisonLessEqual) ∷
    (codes "AND_EXPRESSION", AndExpression) ∷
    (codes "OR_EXPRESSION", OrExpression) ∷
    (codes "XOR_EXPRESSION", XorExpression) ∷
    (codes "NOT_EXPRESSION", NotExpression) ∷
    (codes "!NC_SUM", NcSum) ∷
    (codes "!NC_DIFFERENCE", NcDifference) ∷
    (codes "!NC_PRODUCT", NcProduct) ∷
    (codes "ROUND_HOLE", RoundHole) ∷
    (codes "PLANAR_FACE", PlanarFace) ∷
    (codes "CLOSED_POCKET", ClosedPocket) ∷
    (codes "LINEAR_PATH", LinearPath) ∷
    (codes "LINEAR_PROFILE", LinearProfile) ∷
    (codes "RECTANGULAR_CLOSED_PROFILE", RectangularClosedProfile) ∷
    (codes "GENERAL_CLOSED_PROFILE", GeneralClosedProfile) ∷
    (codes "POLYLINE", Polyline) ∷
    (codes "PLANE", Plane) ∷
    (codes "AXIS2_PLACEMENT_3D", Axis2Placement3d) ∷
    (codes "CARTESIAN_POINT", CartesianPoint) ∷
    (codes "DIRECTION", Direction) ∷
    (codes "DRILLING", Drilling) ∷
    (codes "CENTER_DRILLING", CenterDrilling) ∷
    (codes "REAMING", Reaming) ∷
    (codes "BORING", Boring) ∷
    (codes "PLANE_ROUGH_MILLING", PlaneRoughMilling) ∷
    (codes "PLANE_FINISH_MILLING", PlaneFinishMilling) ∷
    (codes "BOTTOM_AND_SIDE_ROUGH_MILLING", BottomAndSideRoughMilling) ∷
    (codes "BOTTOM_AND_SIDE_FINISH_MILLING", BottomAndSideFinishMilling) ∷
    (codes "BIDIRECTIONAL", Bidirectional) ∷
    (codes "UNIDIRECTIONAL", Unidirectional) ∷
    (codes "MILLING_TECHNOLOGY", MillingTechnology) ∷
    (codes "MILLING_CUTTING_TOOL", MillingCuttingTool) ∷
    (codes "ENDMILL", Endmill) ∷
    (codes "TAPERED_ENDMILL", TaperedEndmill) ∷
    (codes "BALL_ENDMILL", BallEndmill) ∷
    (codes "FACEMILL", Facemill) ∷
    (codes "TWIST_DRILL", TwistDrill) ∷
    (codes "MILLING_TOOL_DIMENSION", MillingToolDimension) ∷
    (codes "TOLERANCED_LENGTH_MEASURE", TolerancedLengthMeasure) ∷
    (codes "NUMERIC_PARAMETER", NumericParameter) ∷ []

-- the class that the first row with this keyword names, else Opaque
abbrev pub class_among : List (List ℕ × Class) → List ℕ → Class
class_among [] keyword = Opaque
class_among (row ∷ rows) keyword = if bytes_eq keyword row.0 then row.1 else class_among rows keyword

-- the class that a keyword names; a keyword that stands in no row is Opaque
abbrev pub class_of : List ℕ → Class
class_of keyword = class_among words keyword

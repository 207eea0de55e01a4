-- Parameters and instances as values (ISO 10303-21, data section).
use Rattle.std.specs.Prelude.{ℕ, false, List, [], ◌∷◌, ◌++◌, map, codes, decimal}
use Rattle.p21_lex.specs.declared.token.TokenKind.TheVariants as kinds
use Rattle.p21_parse.specs.Tree.{Tree, one, reference, list, Trees, trees, InstanceTree}

-- a text
abbrev pub text : List ℕ → Tree
text bytes = one kinds.Text bytes

-- a real number as it is written
abbrev pub real : List ℕ → Tree
real bytes = one kinds.Real bytes

-- a whole number as a real: digits and a point
abbrev pub whole : ℕ → Tree
whole n = real (decimal n ++ codes ".")

-- the same with a minus before it
abbrev pub minus : ℕ → Tree
minus n = real (codes "-" ++ (decimal n ++ codes "."))

-- nothing is said: `$`
abbrev pub unset : Tree
unset = one kinds.Dollar []

-- a list of parameters
abbrev pub list_of : List Tree → Tree
list_of ts = list (trees ts)

-- references to instances
abbrev pub references : List ℕ → Tree
references numbers = list_of (map reference numbers)

-- an instance with one part
abbrev pub simple : ℕ → List ℕ → Trees → InstanceTree
simple n word ts = record { number = n; complex = false; parts = record { keyword = word; parameters = ts } ∷ [] }

-- an instance with one part that has these parameters
abbrev pub instance : ℕ → List ℕ → List Tree → InstanceTree
instance n word ts = simple n word (trees ts)

-- a point (ISO 10303-42: cartesian_point)
abbrev pub point : ℕ → Tree → Tree → Tree → InstanceTree
point n x y z = instance n (codes "CARTESIAN_POINT") (text [] ∷ list_of (x ∷ y ∷ z ∷ []) ∷ [])

-- a placement that is not turned, by the number of its point (ISO 10303-42: axis2_placement_3d)
abbrev pub placement : ℕ → ℕ → InstanceTree
placement n at = instance n (codes "AXIS2_PLACEMENT_3D") (text [] ∷ reference at ∷ unset ∷ unset ∷ [])

-- a plane, by the number of its placement (ISO 10303-42: plane)
abbrev pub plane : ℕ → ℕ → InstanceTree
plane n at = instance n (codes "PLANE") (text [] ∷ reference at ∷ [])

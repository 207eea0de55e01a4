-- The numbers of the instances in symbols: a name behind a semicolon is an instance's own, each other name is a reference.
use Rattle.std.specs.Prelude.{ℕ, Bool, true, false, List, [], ◌∷◌}
use Rattle.p21_parse.specs.Symbol.{Symbol, name, semicolon}

-- the number that a symbol adds, where it stands behind a semicolon or not
abbrev pub own_number : Bool → Symbol → List ℕ → List ℕ
own_number true (name n) more = n ∷ more
own_number _ _ more = more

abbrev pub is_semicolon : Symbol → Bool
is_semicolon semicolon = true
is_semicolon _ = false

-- The numbers in their order. The first symbol stands behind a semicolon or not.
abbrev pub numbers_in : Bool → List Symbol → List ℕ
numbers_in behind [] = []
numbers_in behind (s ∷ ss) = own_number behind s (numbers_in (is_semicolon s) ss)

-- whether what follows symbols stands behind a semicolon
abbrev pub is_behind : Bool → List Symbol → Bool
is_behind behind [] = behind
is_behind behind (s ∷ ss) = is_behind (is_semicolon s) ss

-- The classes of bytes of the clear text encoding (ISO 10303-21, the basic alphabet), and runs of one class.
use Rattle.std.specs.Prelude.{◌≡◌, ℕ, Bool, false, ◌&&◌, ◌||◌, ◌==◌, nat_le, List, [], ◌∷◌, IsTrue}
use Rattle.std.specs.List.{AllByRecursion}

-- 0 to 9
abbrev pub is_digit : ℕ → Bool
is_digit b = nat_le 48 b && nat_le b 57

-- A to Z and the underscore, which the standard counts to the capital letters
abbrev pub is_upper : ℕ → Bool
is_upper b = (nat_le 65 b && nat_le b 90) || (b == 95)

-- what a user's keyword and an enumeration go on with
abbrev pub is_plain : ℕ → Bool
is_plain b = is_upper b || is_digit b

-- what a word goes on with: the hyphen stands in ISO-10303-21 alone
abbrev pub is_word : ℕ → Bool
is_word b = is_plain b || (b == 45)

-- 0 to 9 and A to F
abbrev pub is_hex : ℕ → Bool
is_hex b = is_digit b || (nat_le 65 b && nat_le b 70)

-- plus and minus
abbrev pub is_sign : ℕ → Bool
is_sign b = (b == 43) || (b == 45)

-- tab, line feed and carriage return
abbrev pub is_control : ℕ → Bool
is_control b = (b == 9) || (b == 10) || (b == 13)

-- what stands between tokens: space, tab, line feed and carriage return
abbrev pub is_blank : ℕ → Bool
is_blank b = (b == 32) || is_control b

-- what a text and a comment may hold
abbrev pub is_legal : ℕ → Bool
is_legal b = nat_le 32 b || is_control b

-- each byte is of the class
abbrev pub Each : (ℕ → Bool) → List ℕ → Type 0
Each class bytes = AllByRecursion (λ b. IsTrue (class b)) bytes

-- the bytes do not begin with one of the class
abbrev pub NotFirst : (ℕ → Bool) → List ℕ → Type 0
NotFirst class [] = Unit {0}
NotFirst class (b ∷ bs) = class b ≡ false

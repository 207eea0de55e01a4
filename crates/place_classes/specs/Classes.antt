-- What lets a run go on at a node, and the places where it can go on in a set for each class.
use Rattle.std.specs.Prelude.{◌≡◌, ◌<◌, ◌+◌, ◌==◌, ◌||◌, ◌&&◌, nat_lt, Option, Some, None, ℕ, Bool, List, length, slice_get, unwrap_or, if◌then◌else◌, []}
use Rattle.place_set.specs.Words.{holds}
use Rattle.place_classes.specs.declared.class.Class.{Class}
use Rattle.place_classes.specs.declared.class.Class.TheVariants.{Free, Idle, Shut}

-- the index of the set of a class: of each channel one for the free and one for the idle, and one for all else
abbrev pub index_of : Class → ℕ
index_of (Free channel) = channel
index_of (Idle channel) = 8 + channel
index_of Shut = 16

-- the class is one of those that have a set
abbrev pub IsClass : Class → Type 0
IsClass class = index_of class < 17

-- the class at a place
abbrev pub class_at : List Class → ℕ → Class
class_at classes place = unwrap_or (slice_get classes place) Shut

-- the set at an index
abbrev pub set_at : List (List ℕ) → ℕ → List ℕ
set_at sets k = unwrap_or (slice_get sets k) []

-- the places of a set, and the class of each place, in the set or not
pub record SortedPlaces : Type 0 where
  pub all : List ℕ
  pub classes : List Class

-- a place of the set may go on by its class, in this channel, which is idle or not
abbrev pub is_in_channel : SortedPlaces → ℕ → Bool → ℕ → Bool
is_in_channel s channel idle q = holds s.all q && ((index_of (class_at s.classes q) == channel) || (idle && (index_of (class_at s.classes q) == 8 + channel)))

-- the lesser of two numbers, where there are any
abbrev pub least_of : Option ℕ → Option ℕ → Option ℕ
least_of (Some p) (Some q) = Some (if nat_lt p q then p else q)
least_of (Some p) None = Some p
least_of None b = b

-- there is a set for each class, and each has the places of its class
pub record AreSorted (all : List ℕ) (sets : List (List ℕ)) (classes : List Class) : Type 0 where
  pub few : (q : ℕ) → IsClass (class_at classes q)
  pub long : length sets ≡ 17
  pub sorted : (k q : ℕ) → k < 17 → holds (set_at sets k) q ≡ (holds all q && (index_of (class_at classes q) == k))

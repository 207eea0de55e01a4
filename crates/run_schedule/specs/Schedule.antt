-- The text of a schedule (this profile): digits that name channels, and blanks.
use Rattle.std.specs.Prelude.{ℕ, ◌-◌, Bool, ◌&&◌, ◌||◌, not, ◌==◌, nat_le, List, Option, Some, None, if◌then◌else◌, position, filter_map}

-- 0 to 7, the digits of the channels
abbrev pub is_channel_digit : ℕ → Bool
is_channel_digit b = nat_le 48 b && nat_le b 55

-- space, tab, carriage return and line feed
abbrev pub is_blank : ℕ → Bool
is_blank b = (b == 32) || (b == 9) || (b == 13) || (b == 10)

-- what a schedule may hold
abbrev pub is_allowed : ℕ → Bool
is_allowed b = is_channel_digit b || is_blank b

-- the channel whose digit a byte is
abbrev pub channel_of : ℕ → Option ℕ
channel_of b = if is_channel_digit b then Some (b - 48) else None

-- the channels whose digits stand in a text, in order
abbrev pub channels_in : List ℕ → List ℕ
channels_in bytes = filter_map channel_of bytes

-- the place of the first byte that a schedule may not hold
abbrev pub first_bad : List ℕ → Option ℕ
first_bad bytes = position (λ b. not (is_allowed b)) bytes

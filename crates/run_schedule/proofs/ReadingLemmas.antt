-- Each channel of a schedule is below 8.
use Rattle.std.proofs.Common.{◌≡◌, ℕ, ◌<◌, ◌-◌, Bool, true, false, List, [], ◌∷◌, All, if◌then◌else◌, refl, arith}
use Rattle.std.specs.Prelude.{Some, None}
use Rattle.std.specs.List.{cons_option}
use Rattle.std.proofs.lemmas.Bool.Decides.{nat_tests}
use Rattle.std.proofs.lemmas.List.Elements.{All-nil, All-cons}
use Rattle.run_schedule.specs.Schedule.{is_channel_digit, channels_in}

-- the number of a byte that passes the test goes in front, if it is below 8
one_more : (digit : Bool) (b : ℕ) (cs : List ℕ) → (digit ≡ true → b - 48 < 8) → All (λ c. c < 8) cs → All (λ c. c < 8) (cons_option (if digit then Some (b - 48) else None) cs)
one_more true b cs small all = All-cons (λ c. c < 8) (b - 48) cs (small refl) all
one_more false b cs small all = all

pub channels_below_8 : (bytes : List ℕ) → All (λ c. c < 8) (channels_in bytes)
channels_below_8 [] = All-nil (λ c. c < 8)
channels_below_8 (b ∷ bs) = one_more (is_channel_digit b) b (channels_in bs) (λ digit. grind (arith, nat_tests)) (channels_below_8 bs)

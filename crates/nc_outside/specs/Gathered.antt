-- What a sink of the host has gathered and written.
use Rattle.std.specs.Prelude.{ℕ, List, ◌++◌, Option}
use Rattle.std.specs.Option.{option_map}

-- what the writer holds, where it tells, and behind it what is gathered and not yet written
abbrev pub put_so_far : Option (List ℕ) → List ℕ → Option (List ℕ)
put_so_far written gathered = option_map (λ (bytes : List ℕ). bytes ++ gathered) written

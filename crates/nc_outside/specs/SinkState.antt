-- What a sink in memory is seen as.
use Rattle.std.specs.Prelude.{ℕ, List}

-- the bytes taken, the room for bytes in all, the calls that fail, how many calls there were, and how many of them failed
pub record SinkState : Type 0 where
  pub bytes : List ℕ
  pub room : ℕ
  pub failing : List ℕ
  pub calls : ℕ
  pub faults : ℕ

-- The window of plans: of each channel the first four of its steps that were never dispatched.
use Rattle.std.specs.Prelude.{◌≡◌, ◌==◌, ◌<◌, ℕ, true, not, List, [], Option, Some, None, map, filter, take, length, slice_get, get_or, Contains}
use Rattle.std.specs.List.{All, range_with_len}
use Rattle.std.specs.Option.{option_map_or}
use Rattle.exec_tree.specs.Exec.{has, AreDistinct}
use Rattle.exec_tree.specs.declared.node.BareNode.{BareNode}
use Rattle.exec_tree.specs.Built.{steps_in, channel_in}
use Rattle.project_versions.specs.Versioned.{Versioned, version_of}
use Rattle.plan_store.specs.declared.limits.TheConstants.{WINDOW_CHANNELS}
use Rattle.plan_store.specs.Stage.{Wanted}
use Rattle.plan_store.specs.StepAhead.{StepAhead, step_in, window}
use Rattle.plan_store.specs.Windows.{AreWindows}
use Rattle.plan_law.specs.Tickets.{moved}

-- what contracts see of a window of plans: the steps ahead with their tickets and plans, of each channel its steps in preorder, all steps, and those that
-- were dispatched
pub record Windowed : Type 0 where
  pub ahead : List StepAhead
  pub lines : List (List ℕ)
  pub known : List ℕ
  pub sent : List ℕ

-- the steps of a channel
abbrev pub line : List (List ℕ) → ℕ → List ℕ
line lines c = get_or lines c []

-- those of a tree, and each channel's
abbrev pub line_in : List BareNode → ℕ → List ℕ
line_in nodes c = filter (λ n. channel_in nodes n == c) (steps_in nodes)

abbrev pub lines_in : List BareNode → List (List ℕ)
lines_in nodes = map (line_in nodes) (range_with_len 0 WINDOW_CHANNELS)

-- those that aren't among the dispatched ones
abbrev pub unsent_by : List ℕ → List ℕ → List ℕ
unsent_by sent ns = filter (λ n. not (has sent n)) ns

-- no step stands twice, in one channel or in two, and each is known
pub record AreLines (lines : List (List ℕ)) (known : List ℕ) : Type 0 where
  pub channels : length lines ≡ WINDOW_CHANNELS
  pub distinct : (c : ℕ) → AreDistinct (line lines c)
  pub apart : (c d n : ℕ) → has (line lines c) n ≡ true → has (line lines d) n ≡ true → c ≡ d
  pub known_are : (c n : ℕ) → has (line lines c) n ≡ true → Contains known n

-- the tickets of each channel are those of the first four of its steps that were never dispatched
pub record IsWindow (w : Windowed) : Type 0 where
  pub windows : AreWindows w.ahead
  pub lines_are : AreLines w.lines w.known
  pub steps : (c : ℕ) → c < WINDOW_CHANNELS → map (λ a. a.step) (window w.ahead c) ≡ take 4 (unsent_by w.sent (line w.lines c))

-- as before the first entry: at version 0, with the plan wanted
abbrev pub AreOpening : List StepAhead → Type 0
AreOpening all = All (λ a. (a.version ≡ 0) × (a.stage ≡ Wanted)) all

-- the step that comes into a channel's window when one of its steps leaves it: the fifth
abbrev pub fifth : Windowed → ℕ → Option ℕ
fifth w c = slice_get (unsent_by w.sent (line w.lines c)) 4

-- the version of a step, 0 where no versions are kept
abbrev pub version_by : Option Versioned → ℕ → ℕ
version_by versions n = option_map_or (λ v. version_of v.versions n) versions 0

-- the steps ahead after the dispatch of a step: where it is ahead it leaves them, and the next one of its channel comes in
abbrev pub ahead_without : (ℕ → ℕ) → Windowed → ℕ → Option StepAhead → List StepAhead
ahead_without version w n None = w.ahead
ahead_without version w n (Some a) = moved version w.ahead n a.channel (fifth w a.channel)

abbrev pub ahead_after : (ℕ → ℕ) → Windowed → ℕ → List StepAhead
ahead_after version w n = ahead_without version w n (step_in w.ahead n)

-- How the window of plans knows which step comes next.
use Rattle.std.specs.Prelude.{◌≡◌, ◌≤◌, ◌<◌, ◌++◌, ℕ, List, [], map, length, drop, get_or}
use Rattle.plan_store.specs.declared.limits.TheConstants.{WINDOW_CHANNELS, MAX_WINDOW}
use Rattle.plan_store.specs.StepAhead.{StepAhead, window}
use Rattle.plan_window.specs.Window.{AreLines, line, unsent_by}

-- of a line, the steps from here on that weren't dispatched
abbrev pub coming : List ℕ → List ℕ → ℕ → List ℕ
coming sent ns next = unsent_by sent (drop next ns)

-- the steps in the window of a channel, then those that come, are all that weren't dispatched; and none comes where there is room for one
pub record IsFollowed (all : List StepAhead) (c : ℕ) (sent ns : List ℕ) (next : ℕ) : Type 0 where
  pub rest : map (λ a. a.step) (window all c) ++ coming sent ns next ≡ unsent_by sent ns
  pub full : length (window all c) < MAX_WINDOW → coming sent ns next ≡ []

pub record IsKept (all : List StepAhead) (lines : List (List ℕ)) (known sent nexts : List ℕ) : Type 0 where
  pub lines_are : AreLines lines known
  pub nexts_are : length nexts ≡ WINDOW_CHANNELS
  pub followed : (c : ℕ) → c < WINDOW_CHANNELS → IsFollowed all c sent (line lines c) (get_or nexts c 0)

-- the same while the window of a channel is filled, when as many tickets were placed as there may be, or all that there are
pub record IsFilled (all : List StepAhead) (c : ℕ) (sent ns : List ℕ) (next most : ℕ) : Type 0 where
  pub rest : map (λ a. a.step) (window all c) ++ coming sent ns next ≡ unsent_by sent ns
  pub few : length (window all c) ≤ most
  pub full : length (window all c) < most → coming sent ns next ≡ []

-- the other windows stay
abbrev pub StayBut : ℕ → List StepAhead → List StepAhead → Type 0
StayBut c old new = (d : ℕ) → (c ≡ d → ⊥) → window new d ≡ window old d

-- the windows of the channels below one are filled, and the others are empty
pub record IsOpened (all : List StepAhead) (lines : List (List ℕ)) (sent nexts : List ℕ) (c : ℕ) : Type 0 where
  pub nexts_are : length nexts ≡ c
  pub followed : (d : ℕ) → d < c → IsFollowed all d sent (line lines d) (get_or nexts d 0)
  pub empty : (d : ℕ) → c ≤ d → window all d ≡ []

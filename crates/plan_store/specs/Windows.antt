-- The windows of steps ahead: how the steps stand, and how many there are at most.
use Rattle.std.specs.Prelude.{◌≡◌, ◌≤◌, ◌++◌, ℕ, nat_lt, List, length, filter, true}
use Rattle.std.specs.List.{list_all}
use Rattle.plan_store.specs.declared.limits.TheConstants.{WINDOW_CHANNELS, MAX_WINDOW}
use Rattle.plan_store.specs.StepAhead.{StepAhead, is_step, window, up_to, behind}

-- channel by channel, at most so many of each, and no step twice
pub record AreWindows (all : List StepAhead) : Type 0 where
  pub channels : list_all (λ a. nat_lt a.channel WINDOW_CHANNELS) all ≡ true
  pub in_order : (c : ℕ) → up_to all c ++ behind all c ≡ all
  pub few : (c : ℕ) → length (window all c) ≤ MAX_WINDOW
  pub once : (n : ℕ) → length (filter (is_step n) all) ≤ 1

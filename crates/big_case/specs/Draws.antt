-- Which numbers the large case is made of (this profile): draws of a linear congruential generator, from a given start on.
use Rattle.std.specs.Prelude.{ℕ, zero, suc, ◌+◌, ◌*◌, ◌/◌, ◌%◌}
use Rattle.big_case.specs.declared.step.Kind.{Kind}
use Rattle.big_case.specs.declared.step.Kind.TheVariants.{Hole, Pocket, Face}
use Rattle.big_case.specs.declared.step.Step.{Step}
use Rattle.big_case.specs.declared.step.Revision.{Revision}

-- the state behind a draw
abbrev pub next_state : ℕ → ℕ
next_state state = (state * 1103515245 + 12345) % 2147483648

-- the state behind so many draws
abbrev pub state_after : ℕ → ℕ → ℕ
state_after state zero = state
state_after state (suc n) = next_state (state_after state n)

-- what a draw gives, where so many draws come before it
abbrev pub draw : ℕ → ℕ → ℕ
draw state n = state_after state (suc n) / 65536

-- what is machined
abbrev pub kind_of : ℕ → Kind
kind_of zero = Hole
kind_of (suc zero) = Pocket
kind_of _ = Face

-- A workingstep, by four draws: what it machines, where, and how deep.
abbrev pub step_from : ℕ → Step
step_from state = record {
  kind = kind_of (draw state 0 % 3);
  x = draw state 1 % 1000;
  y = draw state 2 % 1000;
  depth = 1 + draw state 3 % 50;
}

-- the workingstep at an index, counted from 0
abbrev pub step_at : ℕ → ℕ → Step
step_at start i = step_from (state_after start (4 * i))

-- A revision of one of so many workingsteps, by two draws: which one, and how deep it is from then on.
abbrev pub revision_from : ℕ → ℕ → Revision
revision_from steps state = record { step = draw state 0 % steps; depth = 1 + draw state 1 % 50 }

-- the revision at an index, counted from 0: the draws of all workingsteps come before those of the revisions
abbrev pub revision_at : ℕ → ℕ → ℕ → Revision
revision_at steps start j = revision_from steps (state_after start (4 * steps + 2 * j))

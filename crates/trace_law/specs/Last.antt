-- What the last of a list tells, read from the list's beginning on.
use Rattle.std.specs.Prelude.{ℕ, Bool, true, false, not, List, [], ◌∷◌, is_some, if◌then◌else◌, Option, Some}
use Rattle.std.specs.Option.{option_or}
use Rattle.run_log.specs.declared.entry.Entry.{Entry}
use Rattle.run_log.specs.declared.entry.Entry.TheVariants.{End}
use Rattle.trace_law.specs.Own.{test_of}

-- the entry ends a workingstep
abbrev pub is_end : Entry → Bool
is_end (End n) = true
is_end x = false

-- the last entry ends no workingstep
abbrev pub goes_on_from : Bool → List Entry → Bool
goes_on_from so_far [] = so_far
goes_on_from so_far (x ∷ t) = goes_on_from (not (is_end x)) t

-- the answer of the last test of n
abbrev pub answer_from : ℕ → Option Bool → List Entry → Option Bool
answer_from n so_far [] = so_far
answer_from n so_far (x ∷ t) = answer_from n (option_or (test_of n x) so_far) t

-- what follows the last test of n
abbrev pub body_from : ℕ → List Entry → List Entry → List Entry
body_from n so_far [] = so_far
body_from n so_far (x ∷ t) = body_from n (if is_some (test_of n x) then t else so_far) t

-- the last number
abbrev pub last_from : Option ℕ → List ℕ → Option ℕ
last_from so_far [] = so_far
last_from so_far (k ∷ ks) = last_from (Some k) ks

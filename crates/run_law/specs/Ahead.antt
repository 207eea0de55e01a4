-- The steps that are planned ahead.
use Rattle.std.specs.Prelude.{ℕ, ◌==◌, not, if◌then◌else◌, List, [], ◌++◌, take, drop}
use Rattle.std.specs.List.{filter}
use Rattle.exec_tree.specs.Exec.{has, works}
use Rattle.trace_law.specs.State.{sent}
use Rattle.run_log.specs.declared.entry.Entry.{Entry}
use Rattle.run_law.specs.Rules.{Rules}

-- the steps of a channel, in preorder
abbrev pub steps_of : Rules → List Entry → ℕ → List ℕ
steps_of r t c = filter (λ n. r.channel t n == c) (works (r.tree t))

-- those that were never dispatched
abbrev pub unsent : List Entry → List ℕ → List ℕ
unsent t ns = filter (λ n. not (has (sent t) n)) ns

-- the first four of them
abbrev pub ahead : Rules → List Entry → ℕ → List ℕ
ahead r t c = take 4 (unsent t (steps_of r t c))

-- a list without a number
abbrev pub without : ℕ → List ℕ → List ℕ
without n ns = filter (λ m. not (n == m)) ns

-- a window of a list after n left the list: without n, and the next one comes in where n was in it
abbrev pub window_without : ℕ → ℕ → List ℕ → List ℕ
window_without k n ns = without n (take k ns) ++ (if has (take k ns) n then take 1 (drop k ns) else [])

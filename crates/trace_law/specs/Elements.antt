-- The entries of t that are of each element.
use Rattle.std.specs.Prelude.{ℕ, zero, suc, List, [], ◌∷◌, ◌++◌}
use Rattle.exec_tree.specs.Exec.{Execs, None_left, Then, nodes}
use Rattle.run_log.specs.declared.entry.Entry.{Entry}
use Rattle.run_log.specs.declared.entry.Entry.TheVariants.{Pick}
use Rattle.trace_law.specs.Of.{only}

-- the elements' parts of t, joined in order
abbrev pub joined : Execs → List Entry → List Entry
joined None_left t = []
joined (Then e es) t = only (nodes e) t ++ joined es t

-- the numbers of the nodes of element k
abbrev pub nodes_at : Execs → ℕ → List ℕ
nodes_at None_left k = []
nodes_at (Then e es) zero = nodes e
nodes_at (Then e es) (suc k) = nodes_at es k

-- the part of element k
abbrev pub part_at : Execs → ℕ → List Entry → List Entry
part_at es k t = only (nodes_at es k) t

-- each pick and the part of the element that it picks
abbrev pub visits : ℕ → Execs → List Entry → List ℕ → List Entry
visits n es t [] = []
visits n es t (k ∷ ks) = Pick n k ∷ (part_at es k t ++ visits n es t ks)

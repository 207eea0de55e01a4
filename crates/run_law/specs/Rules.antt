-- What decides a run: after each list of entries the tree and what its nodes do, and the edits with their verdicts.
use Rattle.std.specs.Prelude.{ℕ, ℤ, Bool, List}
use Rattle.nc_base.specs.declared.verdict.Verdict.{Verdict}
use Rattle.path_blocks.specs.declared.block.Block.{Block}
use Rattle.exec_tree.specs.Exec.{Exec}
use Rattle.exec_tree.specs.declared.role.Role.{Role}
use Rattle.run_log.specs.declared.entry.Entry.{Entry}

-- each is told the entries so far
pub record Rules : Type 0 where
  -- the tree after these entries, and of its nodes the role and the channel
  pub tree : List Entry → Exec
  pub role : List Entry → ℕ → Role
  pub channel : List Entry → ℕ → ℕ
  -- of a workingstep the version, and the blocks of its definition as it stood at its last dispatch
  pub version : List Entry → ℕ → ℕ
  pub path : List Entry → ℕ → List Block
  -- the answer of a node's test, and the value that a node assigns
  pub answer : List Entry → ℕ → Bool
  pub value : List Entry → ℕ → ℤ
  -- of each edit from how many entries on it is due, and its verdict
  pub edits : List ℕ
  pub verdict : List Entry → ℕ → Verdict

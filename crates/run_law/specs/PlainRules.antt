-- The rules of a run without edits, in one channel.
use Rattle.std.specs.Prelude.{ℕ, false, pos, unwrap_or, if◌then◌else◌, List, [], Option}
use Rattle.nc_base.specs.declared.verdict.Verdict.TheVariants.{Accepted}
use Rattle.path_blocks.specs.declared.block.Block.{Block}
use Rattle.exec_tree.specs.Exec.{Exec, works, has}
use Rattle.exec_tree.specs.declared.role.Role.TheVariants.{Cutting, Free}
use Rattle.run_law.specs.Rules.{Rules}

-- the tree never changes, and no workingstep has another version than 0. `paths` gives each workingstep's blocks: the path of its definition.
-- Nothing is said of tests and assignments, of which there are none at this stage
abbrev pub plain_rules : (ℕ → Option (List Block)) → Exec → Rules
plain_rules paths tree =
    record {
      tree = λ t. tree;
      role = λ t n. if has (works tree) n then Cutting else Free;
      channel = λ t n. 0;
      version = λ t n. 0;
      path = λ t n. unwrap_or (paths n) [];
      answer = λ t n. false;
      value = λ t n. pos 0;
      edits = [];
      verdict = λ t i. Accepted;
    }

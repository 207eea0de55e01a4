-- How the errors of lower crates come out.
use Rattle.exec_tree.specs.declared.error.TreeErr.{TreeErr}
use Rattle.exec_tree.specs.declared.error.TreeErr.TheVariants as trees
use Rattle.edit_rules.specs.declared.error.ProjErr.{ProjErr}
use Rattle.edit_rules.specs.declared.error.ProjErr.TheVariants.{Tree, NoMemory}

-- a tree's want of memory is the project's
abbrev pub from_tree : TreeErr → ProjErr
from_tree trees.NoMemory = NoMemory
from_tree fault = Tree fault

use Rattle.frame_law.proofs.NumberedLemmas.{tree_numbered}
use Rattle.frame_law.proofs.looks.trees_are_numbered.Goals as goal

pub returns : goal.returns
returns g = λ entities main. tree_numbered entities main

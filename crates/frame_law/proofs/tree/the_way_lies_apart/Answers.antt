use Rattle.frame_law.proofs.AlongLemmas.{way_is_apart}
use Rattle.frame_law.proofs.tree.the_way_lies_apart.Goals as goal

pub returns : goal.returns
returns g = λ e m d. way_is_apart e m d

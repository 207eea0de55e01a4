use Rattle.std.proofs.Common.{refl}
use Rattle.exec_tree.specs.TreeFault.{nothing_seen, seen_before, walk_of}
use Rattle.exec_tree.proofs.FaultLemmas.{channels_kept, none_is_new}
use Rattle.exec_tree.proofs.laws.channels_are_kept.Goals as goal

pub returns : goal.returns
returns c = record {
  kept = λ entities main channels e. channels_kept entities (seen_before channels) (walk_of entities main) refl e;
  build = λ entities main n e. none_is_new entities nothing_seen (walk_of entities main) n refl e;
}

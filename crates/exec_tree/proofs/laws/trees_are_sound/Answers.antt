use Rattle.exec_tree.proofs.WalkLemmas.{nodes_walked, works_walked, work_is}
use Rattle.exec_tree.proofs.SoundLemmas.{tree_distinct, tree_choices}
use Rattle.exec_tree.proofs.FirstLemmas.{channel_below_count}
use Rattle.std.proofs.Common.{None}
use Rattle.exec_tree.proofs.laws.trees_are_sound.Goals as goal

pub returns : goal.returns
returns c = record {
  distinct = tree_distinct;
  choices = tree_choices;
  nodes = λ entities main. nodes_walked entities 64 None main;
  steps = λ entities main. works_walked entities 64 None main;
  works = λ entities main n. work_is entities 64 main n;
  channels = channel_below_count;
}

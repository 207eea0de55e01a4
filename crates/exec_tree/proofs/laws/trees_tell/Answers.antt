use Rattle.exec_tree.proofs.LookupLemmas.{channel_told, steps_told, said_told, role_told}
use Rattle.exec_tree.proofs.laws.trees_tell.Goals as goal

pub returns : goal.returns
returns c = record { channels = channel_told; steps = steps_told; said = said_told; roles = role_told }

use Rattle.run_frames.proofs.StandLemmas.{AreOfTree}
use Rattle.run_frames.proofs.ReadyLemmas.{ready_first, ready_place}
use Rattle.run_frames.proofs.frames.Frames.ready.Goals as goal

pub returns-clause-node : goal.returns-clause-node
returns-clause-node c = λ t released at sorted.
    let arena = c.args.tree.now.nodes in
    let tree : AreOfTree arena = record { shaped = c.nodes.ensures.shaped; named = c.nodes.ensures.named; preorder = c.nodes.ensures.preorder; distinct = c.nodes.ensures.distinct; choices = c.nodes.ensures.choices } in
    ready_first c.args.tree.now c.args.self.now t released c.args.channel c.args.idle c.first_in_channel.result tree at sorted c.requires.channel c.first_in_channel.ensures

pub returns-clause-place : goal.returns-clause-place
returns-clause-place c =
    let arena = c.args.tree.now.nodes in
    let tree : AreOfTree arena = record { shaped = c.nodes.ensures.shaped; named = c.nodes.ensures.named; preorder = c.nodes.ensures.preorder; distinct = c.nodes.ensures.distinct; choices = c.nodes.ensures.choices } in
    ready_place c.args.tree.now c.args.self.now c.requires.at.0 c.args.channel c.args.idle c.first_in_channel.result tree c.requires.at.2 c.first_in_channel.ensures

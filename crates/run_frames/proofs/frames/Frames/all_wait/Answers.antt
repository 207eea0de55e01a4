use Rattle.run_frames.proofs.StandLemmas.{AreOfTree}
use Rattle.run_frames.proofs.ReadyLemmas.{all_shut}
use Rattle.run_frames.proofs.frames.Frames.all_wait.Goals as goal

pub returns : goal.returns
returns c = λ t released at sorted.
    let arena = c.args.tree.now.nodes in
    let tree : AreOfTree arena = record { shaped = c.nodes.ensures.shaped; named = c.nodes.ensures.named; preorder = c.nodes.ensures.preorder; distinct = c.nodes.ensures.distinct; choices = c.nodes.ensures.choices } in
    all_shut c.args.tree.now c.args.self.now t released c.are_shut.result tree at sorted c.requires.channels c.are_shut.ensures.0 c.are_shut.ensures.1

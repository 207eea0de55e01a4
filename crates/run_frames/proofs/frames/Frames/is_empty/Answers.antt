use Rattle.run_frames.proofs.StandLemmas.{none_left}
use Rattle.run_frames.proofs.frames.Frames.is_empty.Goals as goal

pub returns : goal.returns
returns c = λ t at. none_left c.args.tree.now.nodes c.args.self.now t c.is_empty.result c.nodes.ensures.distinct at c.is_empty.ensures.0 c.is_empty.ensures.1

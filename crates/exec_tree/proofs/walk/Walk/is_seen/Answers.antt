use Rattle.std.proofs.Common.{◌∙◌, ap}
use Rattle.exec_tree.specs.Exec.{has}
use Rattle.exec_tree.specs.Arena.{numbers_in}
use Rattle.exec_tree.specs.Walked.{Walked}
use Rattle.exec_tree.proofs.PlaceLemmas.{known_seen}
use Rattle.exec_tree.proofs.walk.Walk.is_seen.Goals as goal

pub returns : goal.returns
returns c =
    c.contains_key.ensures ∙ known_seen c.self.inside.places c.self.inside.nodes.items c.self.inside.weight c.self.inside.channels c.args.n c.self.invariant
    ∙ ap (λ (w : Walked). has (numbers_in w.nodes) c.args.n) c.self.view_is

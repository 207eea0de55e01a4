use Rattle.std.proofs.Common.{◌≡◌, ◌∙◌, sym, ap}
use Rattle.std.specs.Prelude.{Some}
use Rattle.exec_tree.specs.Said.{said_by}
use Rattle.exec_tree.specs.Built.{said_in}
use Rattle.trace_law.specs.Of.{number_of}
use Rattle.run_state.specs.State.{variable_by}
use Rattle.run_state.proofs.PlaceLemmas.{of_number}
use Rattle.run_state.proofs.variables.follow.Goals as goal

pub set-requires : goal.set-requires
set-requires c =
    c.requires.known c.in-Assign.n c.in-Some.variable
    (ap variable_by (of_number (λ m. said_in c.args.tree.now m ≡ Some (said_by c.args.node.now)) (number_of c.args.entry.now) c.in-Assign.n (ap number_of c.in-Assign.is) c.requires.said)
    ∙ (sym c.variable_said.ensures ∙ c.in-Some.is))

use Rattle.p21_print.specs.Printed.{printed}
use Rattle.p21_print.proofs.ReadsBack.{reads_back, read_spelled}
use Rattle.p21_print.proofs.laws.print_laws.Goals as goal

pub returns-clause-reads_back : goal.returns-clause-reads_back
returns-clause-reads_back c = reads_back

pub returns-clause-same : goal.returns-clause-same
returns-clause-same c = λ x y allowed real h. c.text_laws.ensures.one (printed x) y x h (reads_back x allowed real)

pub returns-clause-memory : goal.returns-clause-memory
returns-clause-memory c = λ x e allowed real h. c.text_laws.ensures.apart (printed x) x e (reads_back x allowed real) h

pub returns-clause-spelled : goal.returns-clause-spelled
returns-clause-spelled c = read_spelled

pub returns-clause-again : goal.returns-clause-again
returns-clause-again c = λ bytes x h. reads_back x h.allowed (read_spelled bytes x h)

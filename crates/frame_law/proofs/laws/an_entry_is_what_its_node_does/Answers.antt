use Rattle.std.proofs.Common.{refl}
use Rattle.frame_law.specs.Executable.{executable_at}
use Rattle.frame_law.proofs.KindLemmas.{next_as, offered_as, work_after_as}
use Rattle.frame_law.proofs.laws.an_entry_is_what_its_node_does.Goals as goal

pub returns-clause-next : goal.returns-clause-next
returns-clause-next g = λ e t x m c f. next_as c e t x m (executable_at e m) f refl

pub returns-clause-offered : goal.returns-clause-offered
returns-clause-offered g = λ e t x m c f. offered_as c e t x m f

pub returns-clause-workingstep : goal.returns-clause-workingstep
returns-clause-workingstep g = λ e t x m c f h. work_after_as c e t x m f h

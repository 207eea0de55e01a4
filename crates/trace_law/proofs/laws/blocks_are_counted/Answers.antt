use Rattle.std.proofs.Common.{None}
use Rattle.trace_law.proofs.StepLemmas.{apart}
use Rattle.trace_law.proofs.StepForthLemmas.{step_of}
use Rattle.trace_law.proofs.OfferLemmas.{offered_stage}
use Rattle.trace_law.proofs.BlockCountLemmas.{step_stage}
use Rattle.run_log.specs.declared.entry.Entry.TheVariants.{Block}
use Rattle.trace_law.proofs.laws.blocks_are_counted.Goals as goal

pub returns-clause-offered : goal.returns-clause-offered
returns-clause-offered c = λ e t n k h. offered_stage e t n k None h

pub returns-clause-follows : goal.returns-clause-follows
returns-clause-follows c = λ e t n k b d q. let z = step_of e t (Block n k b) (apart e d) q in step_stage e t n k b None (apart e d) z.0 z.1

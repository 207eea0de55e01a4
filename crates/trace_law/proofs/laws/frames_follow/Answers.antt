use Rattle.trace_law.proofs.StepLemmas.{apart}
use Rattle.trace_law.proofs.StepForthLemmas.{step_of}
use Rattle.trace_law.proofs.FrameNextLemmas.{next_from_frames}
use Rattle.trace_law.proofs.FrameOfferLemmas.{offer_from_frames}
use Rattle.trace_law.proofs.FrameMoveLemmas.{stands_step}
use Rattle.trace_law.proofs.ArriveLemmas.{comes_last}
use Rattle.trace_law.proofs.SharedCountLemmas.{left_moves}
use Rattle.exec_tree.specs.Exec.{Par}
use Rattle.trace_law.specs.After.{Done}
use Rattle.trace_law.proofs.AfterLemmas.{follows}
use Rattle.trace_law.proofs.laws.frames_follow.Goals as goal

pub returns-clause-next : goal.returns-clause-next
returns-clause-next g = λ e t c d p s. next_from_frames c e t (apart e d) p s

pub returns-clause-offer : goal.returns-clause-offer
returns-clause-offer g = λ e t m c d p s h. offer_from_frames c e t m (apart e d) p s h

pub returns-clause-moved : goal.returns-clause-moved
returns-clause-moved g = λ e t x c c' d q s m. let z = step_of e t x (apart e d) q in stands_step c c' e t x (apart e d) z.0 z.1 s m

pub returns-clause-came : goal.returns-clause-came
returns-clause-came g = λ e t x m c d q s n. let z = step_of e t x (apart e d) q in comes_last c e t x m (apart e d) z.0 z.1 s n

pub returns-clause-left : goal.returns-clause-left
returns-clause-left g = λ n es t x d q. let z = step_of (Par n es) t x (apart (Par n es) d) q in left_moves es t x (apart (Par n es) d) z.0.1 z.1

pub returns-clause-table : goal.returns-clause-table
returns-clause-table g = λ e x m c d s h. follows c e x Done m (apart e d) s h

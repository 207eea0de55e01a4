use Rattle.trace_law.proofs.FrameMoveLemmas.{stands_kept}
use Rattle.frame_law.proofs.KindLemmas.{at_kept}
use Rattle.frame_law.proofs.laws.what_is_kept_stands.Goals as goal

pub returns-clause-whole : goal.returns-clause-whole
returns-clause-whole g = λ e t c c' h s. stands_kept c c' e t h s

pub returns-clause-element : goal.returns-clause-element
returns-clause-element g = λ es i t c c' h s. at_kept c c' es i t h s

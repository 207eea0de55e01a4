use Rattle.log_read.proofs.Places.{one_front}
use Rattle.log_read.proofs.laws.a_text_leaves_its_format_once.Goals as goal

pub returns : goal.returns
returns c = λ f bytes a b r s apart first second. one_front f apart bytes a b r s first second

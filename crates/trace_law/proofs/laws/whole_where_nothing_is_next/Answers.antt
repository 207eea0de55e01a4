use Rattle.trace_law.proofs.WholeNextLemmas.{empty_from_whole, whole_from_empty}
use Rattle.trace_law.proofs.laws.whole_where_nothing_is_next.Goals as goal

pub returns : goal.returns
returns c = λ e t p. (λ w. empty_from_whole e t w, λ q. whole_from_empty e t p q)

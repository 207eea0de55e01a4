use Rattle.p21_parse.proofs.Unique.{same_file}
use Rattle.p21_parse.proofs.Decided.{decided}
use Rattle.p21_parse.proofs.Nested.{nested, shallow, own_numbers}
use Rattle.p21_parse.proofs.Single.{single, none_right}
use Rattle.p21_parse.proofs.laws.grammar_laws.Goals as goal

pub returns : goal.returns
returns c = record { one = same_file; nested = λ x ok. (nested x ok, shallow x ok); numbers = own_numbers; single = single; allowed = none_right; decided = decided }

use Rattle.std.specs.Prelude.{ℕ, List, [], ◌++◌, length}
use Rattle.std.proofs.Common.{sym, ap}
use Rattle.run_log.specs.LogText.{first_line, line_after, last_line}
use Rattle.run_log.proofs.TextsLemmas.{in_lines}
use Rattle.run_log.proofs.laws.log_is_in_lines.Goals as goal

pub returns : goal.returns
returns c = λ t e. ap (λ (m : List ℕ). first_line ++ m) (sym (in_lines line_after (λ before ending. last_line ending (length before)) [] t e))

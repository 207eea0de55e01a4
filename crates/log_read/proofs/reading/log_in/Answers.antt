use Rattle.std.proofs.Common.{sym, subst, arith}
use Rattle.std.proofs.lemmas.Bool.Decides.{nat_tests}
use Rattle.run_log.specs.LogText.{first_line}
use Rattle.log_read.specs.LogReads.{Reads}
use Rattle.log_read.proofs.WordsRead.{bytes_take}
use Rattle.log_read.proofs.Stepping.{no_first}
use Rattle.log_read.proofs.reading.log_in.Goals as goal

pub returns-in-None : goal.returns-in-None
returns-in-None c = no_first c.args.text.now (grind (arith, nat_tests)) (sym c.in-None.ensures)

pub returns-in-Some : goal.returns-in-Some
returns-in-Some c = subst (λ v. Reads v c.lines.result) (sym (bytes_take first_line c.args.text.now c.in-Some.rest.now (sym c.in-Some.ensures))) c.lines.ensures

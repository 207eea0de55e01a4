use Rattle.std.proofs.Common.{sym}
use Rattle.project_law.specs.ProjectRules.{rules_of}
use Rattle.log_check.proofs.FollowLemmas.{stops_end}
use Rattle.log_check.proofs.checking.follow_all.Goals as goal

pub returns-clause-stands : goal.returns-clause-stands
returns-clause-stands g c = stops_end (rules_of c.args.state.now.project c.args.state.now.script) c.loop-entry.state.list c.loop-entry.state.coming (sym c.in_default.ensures)

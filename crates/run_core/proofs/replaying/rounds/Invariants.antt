use Rattle.std.proofs.Common.{◌≡◌, ◌-◌}
use Rattle.run_law.specs.Replay.{rounds}
use Rattle.project_law.specs.ProjectRules.{rules_of}
use Rattle.run_core.specs.Idle.{AreIdle}
use Rattle.run_core.proofs.replaying.rounds.Given as goal

abbrev pub invariant-loop-round : goal.invariant-loop-round
invariant-loop-round g l =
    let r = rules_of g.N.RunName.project g.N.RunName.script in
    record {
      log : rounds r g.N.RunName.limit l.channels (l.limit - l.round) l.core.0 ≡ rounds r g.N.RunName.limit l.channels g.N.RunName.limit l.fn.core.0;
      idle : AreIdle r g.N.RunName.limit l.core.0 l.idle;
    }

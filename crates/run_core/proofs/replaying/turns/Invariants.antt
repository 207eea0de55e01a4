use Rattle.std.proofs.Common.{◌≡◌, drop}
use Rattle.run_law.specs.Replay.{turns_of}
use Rattle.project_law.specs.ProjectRules.{rules_of}
use Rattle.run_core.specs.Idle.{AreIdle}
use Rattle.run_core.proofs.replaying.turns.Given as goal

abbrev pub invariant-loop-channel : goal.invariant-loop-channel
invariant-loop-channel g l =
    let r = rules_of g.N.RunName.project g.N.RunName.script in
    record {
      log : turns_of r g.N.RunName.limit l.core.0 (drop l.channel-index l.channels) ≡ turns_of r g.N.RunName.limit l.fn.core.0 l.channels;
      idle : AreIdle r g.N.RunName.limit l.core.0 l.idle;
    }

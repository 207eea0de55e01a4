use Rattle.project_law.specs.ProjectRules.{rules_of}
use Rattle.project_law.proofs.laws.stuck_project_waits.Goals as goal

pub returns : goal.returns
returns c = λ project script t n none legal stuck next.
    c.stuck_means_waiting.ensures (rules_of project script) t n (c.project_rules_are_sound.ensures.sound project script none) legal stuck next

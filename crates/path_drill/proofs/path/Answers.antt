use Rattle.std.proofs.Common.{subst, sym}
use Rattle.std.specs.Prelude.{All}
use Rattle.path_blocks.specs.declared.def.Def.{Def}
use Rattle.path_blocks.specs.Path.{path_of}
use Rattle.path_drill.specs.OverHole.{StaysOver}
use Rattle.path_drill.proofs.Over.{stays_over}
use Rattle.path_drill.proofs.path.Goals as goal

pub returns-clause-over : goal.returns-clause-over
returns-clause-over c =
    subst (λ (p : Def). All (StaysOver c.args.def.now.bottom c.args.def.now.shape) (path_of p)) (sym c.new.ensures) (stays_over c.args.def.now c.requires)

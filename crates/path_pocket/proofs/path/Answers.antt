use Rattle.std.proofs.Common.{subst, sym}
use Rattle.std.specs.Prelude.{All}
use Rattle.path_blocks.specs.declared.def.Def.{Def}
use Rattle.path_blocks.specs.Path.{path_of}
use Rattle.path_blocks.specs.WithinPocket.{StaysWithin}
use Rattle.path_pocket.proofs.Within.{stays_within}
use Rattle.path_pocket.proofs.path.Goals as goal

pub returns-clause-within : goal.returns-clause-within
returns-clause-within c =
    subst (λ (p : Def). All (StaysWithin c.args.def.now.bottom c.args.def.now.shape) (path_of p)) (sym c.new.ensures) (stays_within c.args.def.now c.requires)

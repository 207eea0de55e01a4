use Rattle.std.proofs.Common.{◌∙◌, sym}
use Rattle.step_def.specs.Sound.{facts_of}
use Rattle.step_def.proofs.definition.checked.Goals as goal

pub shape_of-requires : goal.shape_of-requires
shape_of-requires g c = facts_of c.in_ok-lookup.lookup c.in_ok-machining.machining (sym c.machining_of.ensures ∙ c.in_ok-machining.was)

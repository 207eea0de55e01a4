use Rattle.path_blocks.proofs.PartLemmas.{made_more, place_more}
use Rattle.path_blocks.proofs.part.PlanPart.push.Goals as goal

pub invariant_of-self : goal.invariant_of-self
invariant_of-self c = (
  made_more c.self.inside.def c.self.inside.blocks.items c.push_reserved.new.self.items c.args.block c.args.self.now c.self.view_is c.self.invariant.0 c.requires c.push_reserved.ensures.items,
  rw (c.push_reserved.ensures.capacity) c.self.invariant.1,
)

pub returns-clause-next : goal.returns-clause-next
returns-clause-next c =
    place_more c.self.inside.def c.self.inside.blocks.items c.push_reserved.new.self.items c.args.block c.args.self.now c.self.view_is c.requires c.push_reserved.ensures.items

use Rattle.place_set.proofs.LevelLemmas.{changed, summed_set}
use Rattle.place_set.proofs.set.PlaceSet.insert.Goals as goal

pub invariant_of-self : goal.invariant_of-self
invariant_of-self c =
    summed_set _ _ _ _ _ _ c.args.place c.requires
    (changed 1 _ _ _ c.set_bit.auto.words c.set_bit.ensures.same c.set_bit.ensures.others c.set_bit.ensures.rest)
    (changed 1 _ _ _ c.set_bit-2.auto.words c.set_bit-2.ensures.same c.set_bit-2.ensures.others c.set_bit-2.ensures.rest)
    (changed 1 _ _ _ c.set_bit-3.auto.words c.set_bit-3.ensures.same c.set_bit-3.ensures.others c.set_bit-3.ensures.rest) c.self.invariant

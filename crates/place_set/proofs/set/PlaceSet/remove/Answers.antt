use Rattle.std.proofs.Common.{◌≡◌, ℕ, List, true, subst, sym}
use Rattle.place_set.specs.Words.{holds}
use Rattle.place_set.proofs.LevelLemmas.{changed, summed_clear, summed_clear_mid}
use Rattle.place_set.proofs.set.PlaceSet.remove.Goals as goal

pub invariant_of-self : goal.invariant_of-self
invariant_of-self c =
    summed_clear _ _ _ _ _ _ c.args.place c.requires.within
    (changed 0 _ _ _ c.clear_bit.auto.words c.clear_bit.ensures.same c.clear_bit.ensures.others c.clear_bit.ensures.rest)
    (changed 0 _ _ _ c.clear_bit-then-self-i-eq0.auto.words c.clear_bit-then-self-i-eq0.ensures.same c.clear_bit-then-self-i-eq0.ensures.others c.clear_bit-then-self-i-eq0.ensures.rest)
    (changed 0 _ _ _ c.clear_bit-then-self-i-eq0-2.auto.words c.clear_bit-then-self-i-eq0-2.ensures.same c.clear_bit-then-self-i-eq0-2.ensures.others c.clear_bit-then-self-i-eq0-2.ensures.rest)
    c.if-self-i-eq0.true c.if-self-i-eq0-2.true c.self.invariant

pub invariant_of-self-else-self-i-eq0-2 : goal.invariant_of-self-else-self-i-eq0-2
invariant_of-self-else-self-i-eq0-2 c =
    summed_clear_mid _ _ _ _ _ c.args.place c.requires.within (subst (λ (v : List ℕ). holds v c.args.place ≡ true) (sym c.self.view_is) c.requires.there)
    (changed 0 _ _ _ c.clear_bit.auto.words c.clear_bit.ensures.same c.clear_bit.ensures.others c.clear_bit.ensures.rest)
    (changed 0 _ _ _ c.clear_bit-then-self-i-eq0.auto.words c.clear_bit-then-self-i-eq0.ensures.same c.clear_bit-then-self-i-eq0.ensures.others c.clear_bit-then-self-i-eq0.ensures.rest)
    c.if-self-i-eq0.true c.if-self-i-eq0-2.false c.self.invariant

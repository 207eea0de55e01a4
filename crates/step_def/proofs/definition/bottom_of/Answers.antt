use Rattle.std.proofs.Common.{rules, ◌∙◌, ap, sym, subst, ℤ, pos, FitsSigned, IsTrue, w64}
use Rattle.std.specs.Prelude.{int_le, ◌&&◌, neg_ℤ, ◌-ℤ◌, ◌+ℤ◌}
use Rattle.step_def.specs.Sound.{allowance_fits}
use Rattle.step_def.proofs.Heights.{bottom_fits, bottom_back}
use Rattle.step_def.proofs.definition.bottom_of.Goals as goal

pub overflow_add-result-2 : goal.overflow_add-result-2
overflow_add-result-2 c =
    let f : FitsSigned w64 c.args.lookup.now.placement.point.z = search rules in
    let g : FitsSigned w64 c.args.lookup.now.floor.point.z = search rules in
    let h : FitsSigned w64 c.allowance_of.result = search rules in
    let left : IsTrue (int_le (pos 0) c.allowance_of.result && int_le c.allowance_of.result (neg_ℤ c.args.lookup.now.floor.point.z -ℤ pos 1)) =
    subst (λ (a : ℤ). IsTrue (int_le (pos 0) a && int_le a (neg_ℤ c.args.lookup.now.floor.point.z -ℤ pos 1))) (sym c.allowance_of.ensures) (allowance_fits c.args.lookup.now c.args.machining.now c.requires.place.deep c.requires.made) in
    bottom_fits c.args.lookup.now.placement.point.z c.args.lookup.now.floor.point.z c.allowance_of.result f g h c.requires.place.z c.requires.place.floor left

pub returns : goal.returns
returns c =
    let f : FitsSigned w64 c.args.lookup.now.placement.point.z = search rules in
    let g : FitsSigned w64 c.args.lookup.now.floor.point.z = search rules in
    let h : FitsSigned w64 c.allowance_of.result = search rules in
    let left : IsTrue (int_le (pos 0) c.allowance_of.result && int_le c.allowance_of.result (neg_ℤ c.args.lookup.now.floor.point.z -ℤ pos 1)) =
    subst (λ (a : ℤ). IsTrue (int_le (pos 0) a && int_le a (neg_ℤ c.args.lookup.now.floor.point.z -ℤ pos 1))) (sym c.allowance_of.ensures) (allowance_fits c.args.lookup.now c.args.machining.now c.requires.place.deep c.requires.made) in
    bottom_back c.args.lookup.now.placement.point.z c.args.lookup.now.floor.point.z c.allowance_of.result f g h c.requires.place.z c.requires.place.floor left
    ∙ ap (λ (a : ℤ). c.args.lookup.now.placement.point.z -ℤ neg_ℤ c.args.lookup.now.floor.point.z +ℤ a) c.allowance_of.ensures

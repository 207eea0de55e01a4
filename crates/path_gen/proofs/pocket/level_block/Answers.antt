use Rattle.std.proofs.Common.{◌≡◌, ◌∙◌, ℤ, sym, ap, ◌+◌, ◌-◌, ◌*◌, ◌<◌, arith, rules, w64, to_z, of_z, FitsSigned}
use Rattle.std.specs.Prelude.{slice_get}
use Rattle.std.proofs.lemmas.Int.{to_z-of_z}
use Rattle.path_blocks.specs.Numbers.{numbers_of}
use Rattle.path_blocks.specs.PathPocket.{rings}
use Rattle.path_pocket.specs.Inset.{rectangle_of, rectangle_between}
use Rattle.path_gen.proofs.Pockets.{level_ring, level_last, rapid_told}
use Rattle.path_gen.proofs.pocket.level_block.Goals as goal

pub returns-then-index-inner : goal.returns-then-index-inner
returns-then-index-inner c =
    let within : c.args.index - 1 < (c.args.inner + 1) * 5 = omega arith in
    level_ring (numbers_of c.args.def.now) (rectangle_of c.args.inset.now) c.args.inset.now.radial c.args.z c.args.inner c.args.index c.requires.inner c.if-index-eq0.false within
    ∙ ap (λ (z : ℤ). slice_get (rings (numbers_of c.args.def.now) (rectangle_of c.args.inset.now) c.args.inset.now.radial z) (c.args.index - 1)) (sym (to_z-of_z w64 c.args.z c.ranges.z))
    ∙ c.ring_block.ensures

pub returns-else-index-inner : goal.returns-else-index-inner
returns-else-index-inner c =
    let last : c.args.index ≡ 1 + (c.args.inner + 1) * 5 = omega arith in
    let f : FitsSigned w64 c.args.def.now.ret = search rules in
    level_last (numbers_of c.args.def.now) (rectangle_of c.args.inset.now) c.args.inset.now.radial c.args.z c.args.inner c.args.index c.requires.inner last
    ∙ rapid_told c.rapid-else-index-inner.result c.args.def.now.ret (to_z w64 (of_z w64 c.args.def.now.ret)) (rectangle_of c.args.inset.now) (rectangle_between c.corners.result) c.rapid-else-index-inner.ensures (to_z-of_z w64 c.args.def.now.ret f) c.corners.ensures

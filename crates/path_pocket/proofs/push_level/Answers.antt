use Rattle.std.proofs.Common.{rules, ◌∙◌, ap, ℕ, FitsSigned, w64, to_z, of_z}
use Rattle.std.proofs.lemmas.Int.{to_z-of_z}
use Rattle.path_blocks.specs.Numbers.{numbers_of}
use Rattle.path_blocks.specs.PathPocket.{ring}
use Rattle.path_pocket.specs.Inset.{rectangle_of, rectangle_between}
use Rattle.path_pocket.proofs.Puts.{level_put}
use Rattle.path_pocket.proofs.push_level.Goals as goal

pub returns : goal.returns
returns c =
    let ret : FitsSigned w64 c.args.def.now.ret = search rules in
    level_put c.args.blocks.now.items c.push_rapid.new.blocks.items c.push_rings.new.blocks.items c.push_rapid-2.new.blocks.items (numbers_of c.args.def.now) (rectangle_of c.args.inset.now)
    (rectangle_between c.ring.result) (rectangle_between c.corners.result) c.args.inset.now.radial c.args.z (to_z w64 (of_z w64 c.args.z)) (to_z w64 (of_z w64 c.args.def.now.ret))
    (to_z-of_z w64 c.args.z c.ranges.z) (to_z-of_z w64 c.args.def.now.ret ret)
    (c.ring.ensures ∙ ap (λ (j : ℕ). ring (rectangle_of c.args.inset.now) c.args.inset.now.radial j) c.innermost.ensures.exact) c.corners.ensures
    c.in_ok-push_rapid.ensures c.in_ok-push_rings.ensures c.in_ok-push_rapid-2.ensures

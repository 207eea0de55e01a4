use Rattle.std.proofs.Common.{arith, ◌≡◌, ◌∙◌, ap, ℕ, ℤ, suc, ◌+◌, ◌<◌, w64, to_z, of_z, ◌++◌}
use Rattle.std.proofs.lemmas.Int.{to_z-of_z}
use Rattle.std.specs.List.{flat_map}
use Rattle.path_blocks.specs.Numbers.{numbers_of}
use Rattle.path_blocks.specs.PathPocket.{Rectangle, down_from, innermost, ring, rings, round}
use Rattle.path_pocket.specs.Inset.{rectangle_of}
use Rattle.path_pocket.proofs.Pieces.{piece_down, piece_last}
use Rattle.path_pocket.proofs.push_rings.Goals as goal

pub loop-number-init : goal.loop-number-init
loop-number-init c =
    let first : c.innermost-number.result + 1 ≡ suc (innermost (rectangle_of c.args.inset.now) c.args.inset.now.radial) = omega arith in
    ap (λ (n : ℕ). c.args.blocks.now.items ++ flat_map (λ (j : ℕ). round (numbers_of c.args.def.now) (to_z w64 (of_z w64 c.args.z)) (ring (rectangle_of c.args.inset.now) c.args.inset.now.radial j)) (down_from n)) first

pub loop-number-preserved : goal.loop-number-preserved
loop-number-preserved c =
    let left : 0 < c.loop-number.number = omega arith in
    piece_down (λ (j : ℕ). round (numbers_of c.args.def.now) (to_z w64 (of_z w64 c.args.z)) (ring (rectangle_of c.args.inset.now) c.args.inset.now.radial j))
    c.loop-number.blocks.items c.push_round.new.blocks.items _ c.loop-number.number left c.loop-number.invariant
    (c.in_ok-push_round.ensures ∙ ap (λ (r : Rectangle). c.loop-number.blocks.items ++ round (numbers_of c.args.def.now) (to_z w64 (of_z w64 c.args.z)) r) c.ring.ensures)

pub returns : goal.returns
returns c =
    let done : c.loop-number.number ≡ 0 = omega arith in
    piece_last (λ (j : ℕ). round (numbers_of c.args.def.now) (to_z w64 (of_z w64 c.args.z)) (ring (rectangle_of c.args.inset.now) c.args.inset.now.radial j))
    c.loop-number.blocks.items _ c.loop-number.number done c.loop-number.invariant
    ∙ ap (λ (z : ℤ). c.args.blocks.now.items ++ rings (numbers_of c.args.def.now) (rectangle_of c.args.inset.now) c.args.inset.now.radial z) (to_z-of_z w64 c.args.z c.ranges.z)

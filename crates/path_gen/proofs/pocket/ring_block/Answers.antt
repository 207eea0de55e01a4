use Rattle.std.proofs.Common.{◌∙◌, ◌%◌, ℤ, sym, ap, w64}
use Rattle.std.specs.Prelude.{slice_get}
use Rattle.std.proofs.lemmas.Int.{to_z-of_z}
use Rattle.path_blocks.specs.Numbers.{numbers_of}
use Rattle.path_blocks.specs.PathPocket.{Rectangle, round}
use Rattle.path_pocket.specs.Inset.{rectangle_of, rectangle_between}
use Rattle.path_gen.proofs.Pockets.{ring_at}
use Rattle.path_gen.proofs.pocket.ring_block.Goals as goal

pub returns : goal.returns
returns c =
    ring_at (numbers_of c.args.def.now) (rectangle_of c.args.inset.now) c.args.inset.now.radial c.args.z c.args.inner c.args.index c.requires.inner c.requires.index
    ∙ ap (λ (r : Rectangle). slice_get (round (numbers_of c.args.def.now) c.args.z r) (c.args.index % 5)) (sym c.ring.ensures)
    ∙ ap (λ (z : ℤ). slice_get (round (numbers_of c.args.def.now) z (rectangle_between c.ring.result)) (c.args.index % 5)) (sym (to_z-of_z w64 c.args.z c.ranges.z))
    ∙ c.corner_block.ensures

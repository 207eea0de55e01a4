-- The ranges that the numbers of a definition keep.
use Rattle.std.specs.Prelude.{◌∷◌, [], ◌<ℤ◌, IsTrue, nat_le}
use Rattle.std.specs.List.{list_all}
use Rattle.std.specs.Int.{is_positive}
use Rattle.path_blocks.specs.Range.{is_within, fits_shape}
use Rattle.path_blocks.specs.declared.def.Def.{Def}
use Rattle.path_blocks.specs.declared.limits.TheConstants.{MAX_BLOCKS}
use Rattle.path_blocks.specs.Count.{block_count}
use Rattle.path_blocks.specs.Numbers.{Numbers}

-- the numbers keep the ranges of a definition
pub record KeepsRanges (x : Numbers) : Type 0 where
  pub within : IsTrue (list_all is_within (x.spindle ∷ x.feed ∷ x.sec ∷ x.ret ∷ x.z0 ∷ x.bottom ∷ x.axial ∷ []))
  pub feeds : IsTrue (is_positive x.feed)
  pub cuts : IsTrue (is_positive x.axial)
  pub downwards : x.bottom <ℤ x.z0
  pub shaped : IsTrue (fits_shape x.shape)
  pub few : IsTrue (nat_le (block_count x.z0 x.bottom x.axial x.shape) MAX_BLOCKS)

-- the definition with these numbers
abbrev pub def_with : (x : Numbers) → KeepsRanges x → Def
def_with x keeps = record {
  tool = x.tool;
  spindle = x.spindle;
  feed = x.feed;
  sec = x.sec;
  ret = x.ret;
  z0 = x.z0;
  bottom = x.bottom;
  axial = x.axial;
  shape = x.shape;
  within = keeps.within;
  feeds = keeps.feeds;
  cuts = keeps.cuts;
  downwards = keeps.downwards;
  shaped = keeps.shaped;
  few = keeps.few;
}

-- The path of a planar face, after this profile: on each level parallel rows along the course.
use Rattle.std.specs.Prelude.{ℕ, ℤ, pos, unsigned_abs, ◌+ℤ◌, ◌*ℤ◌, ◌%◌, Bool, ◌&&◌, ◌==◌, if◌then◌else◌, List, [], ◌∷◌, ◌++◌}
use Rattle.std.specs.List.{flat_map, enumerate_from}
use Rattle.std.specs.Ordering.{int_eq}
use Rattle.path_blocks.specs.declared.block.Block.{Block}
use Rattle.path_blocks.specs.declared.block.Block.TheVariants.{Tool, Rapid, Feed}
use Rattle.path_blocks.specs.Cuts.{cuts, cut_count}
use Rattle.path_blocks.specs.Numbers.{Numbers, levels}

-- a face: a corner, the course as a unit along x or along y, the length along the course, and the width across it, which is
-- gone through step by step; both says that every second row is run back
pub record Face : Type 0 where
  pub x : ℤ
  pub y : ℤ
  pub ux : ℤ
  pub uy : ℤ
  pub len : ℤ
  pub width : ℤ
  pub step : ℤ
  pub both : Bool

-- how far across the course the rows lie: 0, step, 2 step, .. while below the width, then the width
abbrev pub offsets : Face → List ℕ
offsets face = 0 ∷ cuts (unsigned_abs face.step) (unsigned_abs face.width)

-- the near end of the row so far across the course: across is plus y for a course along x, and plus x for a course along y
abbrev pub near_end : Face → ℕ → ℤ × ℤ
near_end face offset = if int_eq face.uy (pos 0) then (face.x, face.y +ℤ pos offset) else (face.x +ℤ pos offset, face.y)

-- its far end: the length along the course from the near end
abbrev pub far_end : Face → ℕ → ℤ × ℤ
far_end face offset = ((near_end face offset).0 +ℤ face.ux *ℤ face.len, (near_end face offset).1 +ℤ face.uy *ℤ face.len)

-- every second row is run back, where both
abbrev pub is_run_back : Face → ℕ → Bool
is_run_back face i = face.both && (i % 2 == 1)

-- where row i begins
abbrev pub row_start : Face → ℕ → ℕ → ℤ × ℤ
row_start face i offset = if is_run_back face i then far_end face offset else near_end face offset

-- where row i ends
abbrev pub row_end : Face → ℕ → ℕ → ℤ × ℤ
row_end face i offset = if is_run_back face i then near_end face offset else far_end face offset

-- a feed to a point at this height
abbrev pub feed_to : Numbers → ℤ → ℤ × ℤ → Block
feed_to d z p = Feed p.0 p.1 z d.feed

-- a rapid move to a point at this height
abbrev pub rapid_to : ℤ → ℤ × ℤ → Block
rapid_to z p = Rapid p.0 p.1 z

-- row i of a level: a feed to its start and a feed to its end
abbrev pub row : Numbers → Face → ℤ → ℕ × ℕ → List Block
row d face z r = feed_to d z (row_start face r.0 r.1) ∷ feed_to d z (row_end face r.0 r.1) ∷ []

-- the rows, each with its number
abbrev pub rows : Face → List (ℕ × ℕ)
rows face = enumerate_from 0 (offsets face)

-- where the last row ends: it lies at the width, and the cuts of the width are the rows after the first
abbrev pub last_end : Face → ℤ × ℤ
last_end face = row_end face (cut_count (unsigned_abs face.step) (unsigned_abs face.width)) (unsigned_abs face.width)

-- one level: down to the retract plane over the first row's start, the rows, and up to the retract plane
abbrev pub plane_level : Numbers → Face → ℤ → List Block
plane_level d face z = rapid_to d.ret (near_end face 0) ∷ (flat_map (row d face z) (rows face) ++ rapid_to d.ret (last_end face) ∷ [])

-- a face: the tool, over the first row's start, the levels, and up to the security plane
unfoldable pub path_plane : Numbers → Face → List Block
path_plane d face =
    Tool d.tool d.spindle ∷ rapid_to d.sec (near_end face 0) ∷ (flat_map (plane_level d face) (levels d) ++ rapid_to d.sec (last_end face) ∷ [])

-- How many blocks a path has.
use Rattle.std.proofs.Common.{◌≡◌, ◌∙◌, ℕ, zero, suc, ◌+◌, ◌*◌, List, [], ◌∷◌, ◌++◌, length, Bool, ℤ, pos, refl, ap, sym, arith, length-append, unsigned_abs}
use Rattle.std.proofs.lemmas.List.{length-map}
use Rattle.std.specs.Prelude.{int_lt, if◌then◌else◌, true, false, ◌-ℤ◌}
use Rattle.std.specs.List.{flat_map}
use Rattle.std.proofs.lemmas.List.FromFn.{length-enumerate_from}
use Rattle.path_blocks.specs.declared.block.Block.{Block}
use Rattle.path_blocks.specs.declared.block.Block.TheVariants.{Dwell}
use Rattle.path_blocks.specs.declared.def.Shape.{Shape}
use Rattle.path_blocks.specs.declared.def.Shape.TheVariants.{Drill, Plane, Pocket}
use Rattle.path_blocks.specs.Cuts.{cuts}
use Rattle.path_blocks.specs.Count.{block_count, level_count, row_count}
use Rattle.path_blocks.specs.Numbers.{Numbers, levels}
use Rattle.path_blocks.specs.PathDrill.{down_into, up_from, path_drill}
use Rattle.path_blocks.specs.PathPlane.{Face, offsets, rows, row, plane_level, path_plane, rapid_to, last_end}
use Rattle.path_blocks.specs.PathPocket.{Rectangle, innermost, down_from, round, ring, pocket_level, path_pocket, rapid_over}
use Rattle.path_blocks.specs.Path.{path_of_shape, path_from, IsPathLength}
use Rattle.path_blocks.proofs.CutsLemmas.{length-cuts}

-- pieces of one length
pub length_pieces : {X A : Type 0} (f : X → List A) (k : ℕ) → ((x : X) → length (f x) ≡ k) → (xs : List X) → length (flat_map f xs) ≡ length xs * k
length_pieces f k each [] = omega arith
length_pieces f k each (x ∷ xs) = length-append (f x) (flat_map f xs) ∙ omega (arith, each x, length_pieces f k each xs)

pub length-levels : (d : Numbers) → length (levels d) ≡ level_count d.z0 d.bottom d.axial
length-levels d = length-map (cuts (unsigned_abs d.axial) (unsigned_abs (d.z0 -ℤ d.bottom))) _ ∙ length-cuts (unsigned_abs d.axial) (unsigned_abs (d.z0 -ℤ d.bottom))

pub length-rows : (face : Face) → length (rows face) ≡ row_count face.step face.width
length-rows face = length-enumerate_from 0 (offsets face) ∙ omega (arith, length-cuts (unsigned_abs face.step) (unsigned_abs face.width))

pub length-plane_level : (d : Numbers) (face : Face) (z : ℤ) → length (plane_level d face z) ≡ 2 + 2 * row_count face.step face.width
length-plane_level d face z =
    let pieces = length_pieces (row d face z) 2 (λ r. refl) (rows face) in
    let whole = length-append (flat_map (row d face z) (rows face)) (rapid_to d.ret (last_end face) ∷ []) in
    omega (arith, pieces, whole, length-rows face)

pub length-path_plane : (d : Numbers) (face : Face) → length (path_plane d face) ≡ 3 + level_count d.z0 d.bottom d.axial * (2 + 2 * row_count face.step face.width)
unfolding path_plane
length-path_plane d face =
    let pieces = length_pieces (plane_level d face) (2 + 2 * row_count face.step face.width) (length-plane_level d face) (levels d) in
    let whole = length-append (flat_map (plane_level d face) (levels d)) (rapid_to d.sec (last_end face) ∷ []) in
    let each = ap (λ (n : ℕ). n * (2 + 2 * row_count face.step face.width)) (length-levels d) in
    omega (arith, pieces ∙ each, whole)

pub length-down_from : (n : ℕ) → length (down_from n) ≡ n
unfolding down_from
length-down_from zero = refl
length-down_from (suc n) = ap suc (length-down_from n)

pub length-pocket_level : (d : Numbers) (r : Rectangle) (radial : ℤ) (z : ℤ) → length (pocket_level d r radial z) ≡ 2 + 5 * (innermost r radial + 1)
length-pocket_level d r radial z =
    let pieces = length_pieces (λ (j : ℕ). round d z (ring r radial j)) 5 (λ j. refl) (down_from (suc (innermost r radial))) in
    let whole = length-append (flat_map (λ (j : ℕ). round d z (ring r radial j)) (down_from (suc (innermost r radial)))) (rapid_over d.ret r ∷ []) in
    omega (arith, pieces, whole, length-down_from (suc (innermost r radial)))

pub length-path_pocket : (d : Numbers) (r : Rectangle) (radial : ℤ) → length (path_pocket d r radial) ≡ 3 + level_count d.z0 d.bottom d.axial * (2 + 5 * (innermost r radial + 1))
unfolding path_pocket
length-path_pocket d r radial =
    let pieces = length_pieces (pocket_level d r radial) (2 + 5 * (innermost r radial + 1)) (length-pocket_level d r radial) (levels d) in
    let whole = length-append (flat_map (pocket_level d r radial) (levels d)) (rapid_over d.sec r ∷ []) in
    let each = ap (λ (n : ℕ). n * (2 + 5 * (innermost r radial + 1))) (length-levels d) in
    omega (arith, pieces ∙ each, whole)

drilled : (b : Bool) (down : List Block) (dwell : Block) (up : List Block) → length down ≡ 4 → length up ≡ 2 → length (down ++ ((if b then dwell ∷ [] else []) ++ up)) ≡ (if b then 7 else 6)
drilled true down dwell up p q = length-append down (dwell ∷ up) ∙ omega arith
drilled false down dwell up p q = length-append down up ∙ omega arith

pub length-path_drill : (d : Numbers) (x y dwell : ℤ) → length (path_drill d x y dwell) ≡ block_count d.z0 d.bottom d.axial (Drill x y dwell)
length-path_drill d x y dwell = drilled (int_lt (pos 0) dwell) (down_into d x y) (Dwell dwell) (up_from d x y) refl refl

-- the path of a shape has so many blocks
length-path_of_shape : (d : Numbers) (shape : Shape) → length (path_of_shape d shape) ≡ block_count d.z0 d.bottom d.axial shape
length-path_of_shape d (Drill x y dwell) = length-path_drill d x y dwell
length-path_of_shape d (Plane x y ux uy len width step both) =
    length-path_plane d (record { x = x; y = y; ux = ux; uy = uy; len = len; width = width; step = step; both = both })
length-path_of_shape d (Pocket left low right high radial) = length-path_pocket d (record { left = left; low = low; right = right; high = high }) radial

-- a path has so many blocks
pub length-path_from : (d : Numbers) → length (path_from d) ≡ block_count d.z0 d.bottom d.axial d.shape
length-path_from d = length-path_of_shape d d.shape

-- so many blocks are the length of the path
pub is_path_length : (z0 bottom axial : ℤ) (shape : Shape) (n : ℕ) → n ≡ block_count z0 bottom axial shape → IsPathLength z0 bottom axial shape n
is_path_length z0 bottom axial shape n e d p q r s = e ∙ sym (rw (← p, ← q, ← r, ← s) (length-path_from d))

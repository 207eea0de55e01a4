-- The blocks of a planar face.
use Rattle.std.proofs.Common.{◌≡◌, ◌∙◌, subst, refl, arith, ℕ, ℤ, ◌+◌, ◌-◌, ◌*◌, ◌/◌, ◌%◌, ◌<◌, [], ◌∷◌, ◌++◌, length, length-append, Some}
use Rattle.std.specs.Prelude.{slice_get}
use Rattle.std.specs.List.{flat_map}
use Rattle.path_blocks.specs.declared.block.Block.{Block}
use Rattle.path_blocks.specs.declared.block.Block.TheVariants.{Tool}
use Rattle.path_blocks.specs.Numbers.{Numbers, levels}
use Rattle.path_blocks.specs.PathPlane.{Face, last_end, near_end, path_plane, plane_level, rapid_to, row, rows}
use Rattle.path_blocks.proofs.Lengths.{length_pieces, length-plane_level, length-rows}
use Rattle.path_gen.proofs.Pieces.{of_first, of_second, of_later, of_pieces, piece_within}

-- a rapid move, told in two ways
pub rapid_told : (b : Block) (z at : ℤ) (p q : ℤ × ℤ) → b ≡ rapid_to at q → at ≡ z → q ≡ p → Some (rapid_to z p) ≡ Some b
rapid_told b z at p q e h k = rw (e, h, k) refl

rows_length : (d : Numbers) (face : Face) (z : ℤ) → length (flat_map (row d face z) (rows face)) ≡ length (rows face) * 2
rows_length d face z = length_pieces (row d face z) 2 (λ r. refl) (rows face)

-- a block of the rows of a level
pub level_row : (d : Numbers) (face : Face) (z : ℤ) (i : ℕ) → (i ≡ 0 → ⊥) → i - 1 < length (rows face) * 2
    → slice_get (plane_level d face z) i ≡ slice_get (flat_map (row d face z) (rows face)) (i - 1)
level_row d face z i h k =
    of_later (rapid_to d.ret (near_end face 0)) (flat_map (row d face z) (rows face) ++ rapid_to d.ret (last_end face) ∷ []) i h
    ∙ of_first (flat_map (row d face z) (rows face)) (rapid_to d.ret (last_end face) ∷ []) (i - 1) (omega (arith, k, rows_length d face z))

-- the last block of a level
pub level_last : (d : Numbers) (face : Face) (z : ℤ) (i : ℕ) → i ≡ 1 + length (rows face) * 2 → slice_get (plane_level d face z) i ≡ Some (rapid_to d.ret (last_end face))
level_last d face z i e =
    let later : i ≡ 0 → ⊥ = λ z. absurd (omega (arith, e, z)) in
    of_later (rapid_to d.ret (near_end face 0)) (flat_map (row d face z) (rows face) ++ rapid_to d.ret (last_end face) ∷ []) i later
    ∙ of_second (flat_map (row d face z) (rows face)) (rapid_to d.ret (last_end face) ∷ []) (i - 1) 0 (omega (arith, e, rows_length d face z))

level_length : (d : Numbers) (face : Face) (n : ℕ) → n ≡ length (rows face) → (z : ℤ) → length (plane_level d face z) ≡ 2 + 2 * n
level_length d face n e z = length-plane_level d face z ∙ omega (arith, e, length-rows face)

levels_length : (d : Numbers) (face : Face) (n : ℕ) → n ≡ length (rows face) → length (flat_map (plane_level d face) (levels d)) ≡ length (levels d) * (2 + 2 * n)
levels_length d face n e = length_pieces (plane_level d face) (2 + 2 * n) (level_length d face n e) (levels d)

-- which level it is
pub level_within : (d : Numbers) (face : Face) (n k : ℕ) → n ≡ length (rows face) → k < length (flat_map (plane_level d face) (levels d)) → k / (2 + 2 * n) < length (levels d)
level_within d face n k e h = piece_within k (length (levels d)) (2 + 2 * n) (omega arith) (subst (λ (m : ℕ). k < m) (levels_length d face n e) h)

-- a block of the levels
pub levels_at : (d : Numbers) (face : Face) (n k : ℕ) (z : ℤ) → n ≡ length (rows face) → slice_get (levels d) (k / (2 + 2 * n)) ≡ Some z
    → slice_get (flat_map (plane_level d face) (levels d)) k ≡ slice_get (plane_level d face z) (k % (2 + 2 * n))
levels_at d face n k z e got = of_pieces (plane_level d face) (2 + 2 * n) (omega arith) (level_length d face n e) (levels d) k z got

-- ---- the path

path_length : (d : Numbers) (face : Face) → length (path_plane d face) ≡ 3 + length (flat_map (plane_level d face) (levels d))
unfolding path_plane
path_length d face = omega (arith, length-append (flat_map (plane_level d face) (levels d)) (rapid_to d.sec (last_end face) ∷ []))

pub path_tool : (d : Numbers) (face : Face) (i : ℕ) → i ≡ 0 → slice_get (path_plane d face) i ≡ Some (Tool d.tool d.spindle)
unfolding path_plane
path_tool d face i e = rw e refl

pub path_over : (d : Numbers) (face : Face) (i : ℕ) → i ≡ 1 → slice_get (path_plane d face) i ≡ Some (rapid_to d.sec (near_end face 0))
unfolding path_plane
path_over d face i e = rw e refl

pub levels_within : (d : Numbers) (face : Face) (i last : ℕ) → last + 1 ≡ length (path_plane d face) → (i ≡ 0 → ⊥) → (i ≡ 1 → ⊥) → i < last
    → i - 2 < length (flat_map (plane_level d face) (levels d))
levels_within d face i last e h k below = omega (arith, e, path_length d face)

pub path_levels : (d : Numbers) (face : Face) (i : ℕ) → (i ≡ 0 → ⊥) → (i ≡ 1 → ⊥) → i - 2 < length (flat_map (plane_level d face) (levels d))
    → slice_get (path_plane d face) i ≡ slice_get (flat_map (plane_level d face) (levels d)) (i - 2)
unfolding path_plane
path_levels d face i h k within =
    of_second (Tool d.tool d.spindle ∷ rapid_to d.sec (near_end face 0) ∷ []) (flat_map (plane_level d face) (levels d) ++ rapid_to d.sec (last_end face) ∷ []) i (i - 2) (omega arith)
    ∙ of_first (flat_map (plane_level d face) (levels d)) (rapid_to d.sec (last_end face) ∷ []) (i - 2) within

pub path_end : (d : Numbers) (face : Face) (i last : ℕ) → last + 1 ≡ length (path_plane d face) → i ≡ last → slice_get (path_plane d face) i ≡ Some (rapid_to d.sec (last_end face))
unfolding path_plane
path_end d face i last e here =
    of_second (Tool d.tool d.spindle ∷ rapid_to d.sec (near_end face 0) ∷ []) (flat_map (plane_level d face) (levels d) ++ rapid_to d.sec (last_end face) ∷ []) i (i - 2) (omega (arith, e, here, path_length d face))
    ∙ of_second (flat_map (plane_level d face) (levels d)) (rapid_to d.sec (last_end face) ∷ []) (i - 2) 0 (omega (arith, e, here, path_length d face))

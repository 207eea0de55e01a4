-- The blocks of a pocket.
use Rattle.std.proofs.Common.{◌≡◌, ◌∙◌, subst, refl, arith, ℕ, zero, suc, ℤ, ◌+◌, ◌-◌, ◌*◌, ◌/◌, ◌%◌, ◌<◌, [], ◌∷◌, ◌++◌, length, length-append, Some}
use Rattle.std.specs.Prelude.{slice_get}
use Rattle.std.specs.List.{flat_map}
use Rattle.path_blocks.specs.declared.block.Block.{Block}
use Rattle.path_blocks.specs.declared.block.Block.TheVariants.{Tool, Feed}
use Rattle.path_blocks.specs.Numbers.{Numbers, levels}
use Rattle.path_blocks.specs.PathPocket.{Rectangle, down_from, innermost, path_pocket, pocket_level, rapid_over, ring, rings, round}
use Rattle.path_blocks.proofs.Lengths.{length_pieces, length-down_from, length-pocket_level}
use Rattle.path_gen.proofs.Pieces.{of_first, of_second, of_later, of_pieces, of_down, piece_within}

-- a rapid move, told in two ways
pub rapid_told : (b : Block) (z at : ℤ) (r q : Rectangle) → b ≡ rapid_over at q → at ≡ z → q ≡ r → Some (rapid_over z r) ≡ Some b
rapid_told b z at r q e h k = rw (e, h, k) refl

-- a block of the rings of a level
pub ring_at : (d : Numbers) (r : Rectangle) (radial z : ℤ) (inner k : ℕ) → inner ≡ innermost r radial → k < (inner + 1) * 5
    → slice_get (rings d r radial z) k ≡ slice_get (round d z (ring r radial (inner - k / 5))) (k % 5)
ring_at d r radial z inner k e h =
    of_pieces (λ (j : ℕ). round d z (ring r radial j)) 5 (omega arith) (λ j. refl) (down_from (suc (innermost r radial))) k (inner - k / 5)
    (of_down (suc (innermost r radial)) (k / 5) (inner - k / 5) (omega (arith, e, h)))

rings_length : (d : Numbers) (r : Rectangle) (radial z : ℤ) (inner : ℕ) → inner ≡ innermost r radial → length (rings d r radial z) ≡ (inner + 1) * 5
rings_length d r radial z inner e =
    length_pieces (λ (j : ℕ). round d z (ring r radial j)) 5 (λ j. refl) (down_from (suc (innermost r radial))) ∙ omega (arith, e, length-down_from (suc (innermost r radial)))

-- a block of the rings
pub level_ring : (d : Numbers) (r : Rectangle) (radial z : ℤ) (inner i : ℕ) → inner ≡ innermost r radial → (i ≡ 0 → ⊥) → i - 1 < (inner + 1) * 5
    → slice_get (pocket_level d r radial z) i ≡ slice_get (rings d r radial z) (i - 1)
level_ring d r radial z inner i e h k =
    of_later (rapid_over d.ret (ring r radial (innermost r radial))) (rings d r radial z ++ rapid_over d.ret r ∷ []) i h
    ∙ of_first (rings d r radial z) (rapid_over d.ret r ∷ []) (i - 1) (omega (arith, k, rings_length d r radial z inner e))

-- the last block of a level
pub level_last : (d : Numbers) (r : Rectangle) (radial z : ℤ) (inner i : ℕ) → inner ≡ innermost r radial → i ≡ 1 + (inner + 1) * 5 → slice_get (pocket_level d r radial z) i ≡ Some (rapid_over d.ret r)
level_last d r radial z inner i e here =
    let later : i ≡ 0 → ⊥ = λ none. absurd (omega (arith, here, none)) in
    of_later (rapid_over d.ret (ring r radial (innermost r radial))) (rings d r radial z ++ rapid_over d.ret r ∷ []) i later
    ∙ of_second (rings d r radial z) (rapid_over d.ret r ∷ []) (i - 1) 0 (omega (arith, here, rings_length d r radial z inner e))

level_length : (d : Numbers) (r : Rectangle) (radial : ℤ) (inner : ℕ) → inner ≡ innermost r radial → (z : ℤ) → length (pocket_level d r radial z) ≡ 2 + 5 * (inner + 1)
level_length d r radial inner e z = length-pocket_level d r radial z ∙ omega (arith, e)

levels_length : (d : Numbers) (r : Rectangle) (radial : ℤ) (inner : ℕ) → inner ≡ innermost r radial
    → length (flat_map (pocket_level d r radial) (levels d)) ≡ length (levels d) * (2 + 5 * (inner + 1))
levels_length d r radial inner e = length_pieces (pocket_level d r radial) (2 + 5 * (inner + 1)) (level_length d r radial inner e) (levels d)

-- which level it is
pub level_within : (d : Numbers) (r : Rectangle) (radial : ℤ) (inner k : ℕ) → inner ≡ innermost r radial → k < length (flat_map (pocket_level d r radial) (levels d))
    → k / (2 + 5 * (inner + 1)) < length (levels d)
level_within d r radial inner k e h =
    piece_within k (length (levels d)) (2 + 5 * (inner + 1)) (omega arith) (subst (λ (m : ℕ). k < m) (levels_length d r radial inner e) h)

-- a block of the levels
pub levels_at : (d : Numbers) (r : Rectangle) (radial : ℤ) (inner k : ℕ) (z : ℤ) → inner ≡ innermost r radial → slice_get (levels d) (k / (2 + 5 * (inner + 1))) ≡ Some z
    → slice_get (flat_map (pocket_level d r radial) (levels d)) k ≡ slice_get (pocket_level d r radial z) (k % (2 + 5 * (inner + 1)))
levels_at d r radial inner k z e got = of_pieces (pocket_level d r radial) (2 + 5 * (inner + 1)) (omega arith) (level_length d r radial inner e) (levels d) k z got

-- ---- the path

path_length : (d : Numbers) (r : Rectangle) (radial : ℤ) → length (path_pocket d r radial) ≡ 3 + length (flat_map (pocket_level d r radial) (levels d))
unfolding path_pocket
path_length d r radial = omega (arith, length-append (flat_map (pocket_level d r radial) (levels d)) (rapid_over d.sec r ∷ []))

pub path_tool : (d : Numbers) (r : Rectangle) (radial : ℤ) (i : ℕ) → i ≡ 0 → slice_get (path_pocket d r radial) i ≡ Some (Tool d.tool d.spindle)
unfolding path_pocket
path_tool d r radial i e = rw e refl

pub path_over : (d : Numbers) (r : Rectangle) (radial : ℤ) (i : ℕ) → i ≡ 1 → slice_get (path_pocket d r radial) i ≡ Some (rapid_over d.sec (ring r radial (innermost r radial)))
unfolding path_pocket
path_over d r radial i e = rw e refl

pub levels_within : (d : Numbers) (r : Rectangle) (radial : ℤ) (i last : ℕ) → last + 1 ≡ length (path_pocket d r radial) → (i ≡ 0 → ⊥) → (i ≡ 1 → ⊥) → i < last
    → i - 2 < length (flat_map (pocket_level d r radial) (levels d))
levels_within d r radial i last e h k below = omega (arith, e, path_length d r radial)

pub path_levels : (d : Numbers) (r : Rectangle) (radial : ℤ) (i : ℕ) → (i ≡ 0 → ⊥) → (i ≡ 1 → ⊥) → i - 2 < length (flat_map (pocket_level d r radial) (levels d))
    → slice_get (path_pocket d r radial) i ≡ slice_get (flat_map (pocket_level d r radial) (levels d)) (i - 2)
unfolding path_pocket
path_levels d r radial i h k within =
    of_second (Tool d.tool d.spindle ∷ rapid_over d.sec (ring r radial (innermost r radial)) ∷ []) (flat_map (pocket_level d r radial) (levels d) ++ rapid_over d.sec r ∷ []) i (i - 2) (omega arith)
    ∙ of_first (flat_map (pocket_level d r radial) (levels d)) (rapid_over d.sec r ∷ []) (i - 2) within

pub path_end : (d : Numbers) (r : Rectangle) (radial : ℤ) (i last : ℕ) → last + 1 ≡ length (path_pocket d r radial) → i ≡ last → slice_get (path_pocket d r radial) i ≡ Some (rapid_over d.sec r)
unfolding path_pocket
path_end d r radial i last e here =
    of_second (Tool d.tool d.spindle ∷ rapid_over d.sec (ring r radial (innermost r radial)) ∷ []) (flat_map (pocket_level d r radial) (levels d) ++ rapid_over d.sec r ∷ []) i (i - 2) (omega (arith, e, here, path_length d r radial))
    ∙ of_second (flat_map (pocket_level d r radial) (levels d)) (rapid_over d.sec r ∷ []) (i - 2) 0 (omega (arith, e, here, path_length d r radial))

-- ---- a ring

-- once round a rectangle begins and ends at its lower left
pub corner_home : (d : Numbers) (r : Rectangle) (z : ℤ) (i : ℕ) → i < 5 → (i ≡ 1 → ⊥) → (i ≡ 2 → ⊥) → (i ≡ 3 → ⊥) → slice_get (round d z r) i ≡ Some (Feed r.left r.low z d.feed)
corner_home d r z zero h a b c = refl
corner_home d r z (suc zero) h a b c = absurd (a refl)
corner_home d r z (suc (suc zero)) h a b c = absurd (b refl)
corner_home d r z (suc (suc (suc zero))) h a b c = absurd (c refl)
corner_home d r z (suc (suc (suc (suc zero)))) h a b c = refl
corner_home d r z (suc (suc (suc (suc (suc i))))) h a b c = absurd (omega (arith, h))

-- a feed, told in two ways
pub feed_told : (b : Block) (x y z f x' y' z' : ℤ) → b ≡ Feed x' y' z' f → x' ≡ x → y' ≡ y → z' ≡ z → Some (Feed x y z f) ≡ Some b
feed_told b x y z f x' y' z' e p q r = rw (e, p, q, r) refl

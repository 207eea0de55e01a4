-- The feeds of a pocket stay within it.
use Rattle.std.proofs.Common.{zero, suc, ℕ, ℤ, pos, ◌-◌, ◌*◌, ◌+ℤ◌, ◌-ℤ◌, ◌≤◌, ◌<◌, ◌≤ℤ◌, ◌<ℤ◌, int_le, min, IsTrue, List, [], ◌∷◌, ◌++◌, arith, unsigned_abs}
use Rattle.std.specs.Prelude.{All}
use Rattle.std.specs.List.{flat_map}
use Rattle.std.proofs.lemmas.Int.{ints}
use Rattle.std.proofs.lemmas.List.Elements.{All-nil, All-cons, All-head, All-tail, All-append, All-push, All-map, All-weaker}
use Rattle.std.proofs.Math.Nat.{div-mul-le_self}
use Rattle.path_blocks.specs.declared.block.Block.{Block}
use Rattle.path_blocks.specs.declared.block.Block.TheVariants.{Tool, Feed}
use Rattle.path_blocks.specs.declared.def.Def.{Def}
use Rattle.path_blocks.specs.declared.def.Shape.{Shape}
use Rattle.path_blocks.specs.declared.def.Shape.TheVariants.{Drill, Plane, Pocket}
use Rattle.path_blocks.specs.Range.{fits_shape}
use Rattle.path_blocks.specs.Cuts.{multiples, cuts, count_below}
use Rattle.path_blocks.specs.Numbers.{Numbers, numbers_of, depths, levels}
use Rattle.path_blocks.specs.PathPocket.{Rectangle, down_from, innermost, path_pocket, pocket_level, rapid_over, ring, rings, round}
use Rattle.path_blocks.specs.Kind.{is_pocket}
use Rattle.path_blocks.specs.Path.{path_of, path_of_shape}
use Rattle.path_blocks.specs.WithinPocket.{FeedsWithin, LiesIn, StaysWithin}
use Rattle.path_blocks.specs.ShapeRanges.{pocket_ranges}
use Rattle.path_pocket.proofs.Numbers.{inward, positive_abs}

-- what holds of each piece holds of all
all_pieces : {X A : Type 0} (P : A → Type 0) (Q : X → Type 0) (f : X → List A) → ((x : X) → Q x → All P (f x)) → (xs : List X) → All Q xs → All P (flat_map f xs)
all_pieces P Q f each [] h = All-nil P
all_pieces P Q f each (x ∷ xs) h = All-append P (f x) (flat_map f xs) (each x (All-head Q x xs h)) (all_pieces P Q f each xs (All-tail Q x xs h))

-- ---- the levels

multiples_within : (step n whole : ℕ) → n * step ≤ whole → All (λ (c : ℕ). c ≤ whole) (multiples step n)
unfolding multiples
multiples_within step zero whole h = All-nil (λ (c : ℕ). c ≤ whole)
multiples_within step (suc n) whole h = All-push (λ (c : ℕ). c ≤ whole) (multiples step n) (suc n * step) (multiples_within step n whole (omega arith)) h

cuts_within : (step whole : ℕ) → All (λ (c : ℕ). c ≤ whole) (cuts step whole)
unfolding cuts
cuts_within step whole =
    All-push (λ (c : ℕ). c ≤ whole) (multiples step (count_below step whole)) whole
    (multiples_within step (count_below step whole) whole (omega (arith, div-mul-le_self (whole - 1) step))) (omega arith)

height_above : (z0 bottom : ℤ) (c : ℕ) → bottom <ℤ z0 → c ≤ unsigned_abs (z0 -ℤ bottom) → bottom ≤ℤ (z0 -ℤ pos c)
height_above z0 bottom c h k = grind (arith, ints)

levels_above : (d : Numbers) → d.bottom <ℤ d.z0 → All (λ (z : ℤ). d.bottom ≤ℤ z) (levels d)
levels_above d h =
    All-map (λ (z : ℤ). d.bottom ≤ℤ z) (λ (c : ℕ). d.z0 -ℤ pos c) (depths d.z0 d.bottom d.axial)
    (All-weaker (λ (c : ℕ). c ≤ unsigned_abs (d.z0 -ℤ d.bottom)) (λ (c : ℕ). d.bottom ≤ℤ (d.z0 -ℤ pos c)) (λ c k. height_above d.z0 d.bottom c h k) (depths d.z0 d.bottom d.axial)
    (cuts_within (unsigned_abs d.axial) (unsigned_abs (d.z0 -ℤ d.bottom))))

-- ---- the rings

downs_within : (n m : ℕ) → n ≤ m → All (λ (j : ℕ). j < m) (down_from n)
unfolding down_from
downs_within zero m h = All-nil (λ (j : ℕ). j < m)
downs_within (suc n) m h = All-cons (λ (j : ℕ). j < m) n (down_from n) (omega arith) (downs_within n m (omega arith))

-- the sides of a rectangle after it was shrunk
record Between (a b : ℤ) (by : ℕ) : Type 0 where
  pub first : a ≤ℤ (a +ℤ pos by)
  pub first_below : (a +ℤ pos by) ≤ℤ b
  pub last_above : a ≤ℤ (b -ℤ pos by)
  pub last : (b -ℤ pos by) ≤ℤ b

up : (a : ℤ) (by : ℕ) → a ≤ℤ (a +ℤ pos by)
up a by = grind (arith, ints)

up_below : (a b : ℤ) (by : ℕ) → IsTrue (int_le a b) → 2 * by ≤ unsigned_abs (b -ℤ a) → (a +ℤ pos by) ≤ℤ b
up_below a b by h k = grind (arith, ints)

down_above : (a b : ℤ) (by : ℕ) → IsTrue (int_le a b) → 2 * by ≤ unsigned_abs (b -ℤ a) → a ≤ℤ (b -ℤ pos by)
down_above a b by h k = grind (arith, ints)

down : (b : ℤ) (by : ℕ) → (b -ℤ pos by) ≤ℤ b
down b by = grind (arith, ints)

between : (a b : ℤ) (by : ℕ) → IsTrue (int_le a b) → 2 * by ≤ unsigned_abs (b -ℤ a) → Between a b by
between a b by h k = record { first = up a by; first_below = up_below a b by h k; last_above = down_above a b by h k; last = down b by }

round_within : (d : Numbers) (r : Rectangle) (radial z : ℤ) (j : ℕ) → Between r.left r.right (j * unsigned_abs radial) → Between r.low r.high (j * unsigned_abs radial) → d.bottom ≤ℤ z
    → All (FeedsWithin r d.bottom) (round d z (ring r radial j))
round_within d r radial z j across along above =
    let q : Rectangle = ring r radial j in
    let P : Block → Type 0 = FeedsWithin r d.bottom in
    let lower_left : LiesIn r d.bottom q.left q.low z = (across.first, across.first_below, along.first, along.first_below, above) in
    let lower_right : LiesIn r d.bottom q.right q.low z = (across.last_above, across.last, along.first, along.first_below, above) in
    let upper_right : LiesIn r d.bottom q.right q.high z = (across.last_above, across.last, along.last_above, along.last, above) in
    let upper_left : LiesIn r d.bottom q.left q.high z = (across.first, across.first_below, along.last_above, along.last, above) in
    let fifth = All-cons P (Feed q.left q.low z d.feed) [] lower_left (All-nil P) in
    let fourth = All-cons P (Feed q.left q.high z d.feed) (Feed q.left q.low z d.feed ∷ []) upper_left fifth in
    let third = All-cons P (Feed q.right q.high z d.feed) (Feed q.left q.high z d.feed ∷ Feed q.left q.low z d.feed ∷ []) upper_right fourth in
    let second = All-cons P (Feed q.right q.low z d.feed) (Feed q.right q.high z d.feed ∷ Feed q.left q.high z d.feed ∷ Feed q.left q.low z d.feed ∷ []) lower_right third in
    All-cons P (Feed q.left q.low z d.feed) (Feed q.right q.low z d.feed ∷ Feed q.right q.high z d.feed ∷ Feed q.left q.high z d.feed ∷ Feed q.left q.low z d.feed ∷ []) lower_left second

-- ---- the path

pub path_within : (d : Numbers) (r : Rectangle) (radial : ℤ) → d.bottom <ℤ d.z0 → 0 < unsigned_abs radial → IsTrue (int_le r.left r.right) → IsTrue (int_le r.low r.high)
    → All (FeedsWithin r d.bottom) (path_pocket d r radial)
unfolding path_pocket
path_within d r radial down positive across along =
    let P : Block → Type 0 = FeedsWithin r d.bottom in
    let ring_in : (z : ℤ) → d.bottom ≤ℤ z → (j : ℕ) → j < suc (innermost r radial) → All P (round d z (ring r radial j)) =
    λ z above j k.
    let twice = inward (min (unsigned_abs (r.right -ℤ r.left)) (unsigned_abs (r.high -ℤ r.low))) j (unsigned_abs radial) positive (omega (arith, k)) in
    round_within d r radial z j (between r.left r.right (j * unsigned_abs radial) across (omega (arith, twice))) (between r.low r.high (j * unsigned_abs radial) along (omega (arith, twice))) above in
    let rings_in : (z : ℤ) → d.bottom ≤ℤ z → All P (rings d r radial z) =
    λ z above. all_pieces P (λ (j : ℕ). j < suc (innermost r radial)) (λ (j : ℕ). round d z (ring r radial j)) (ring_in z above) (down_from (suc (innermost r radial))) (downs_within (suc (innermost r radial)) (suc (innermost r radial)) (omega arith)) in
    let inner : Rectangle = ring r radial (innermost r radial) in
    let level_in : (z : ℤ) → d.bottom ≤ℤ z → All P (pocket_level d r radial z) =
    λ z above. All-cons P (rapid_over d.ret inner) (rings d r radial z ++ rapid_over d.ret r ∷ []) tt (All-push P (rings d r radial z) (rapid_over d.ret r) (rings_in z above) tt) in
    let all_in : All P (flat_map (pocket_level d r radial) (levels d)) = all_pieces P (λ (z : ℤ). d.bottom ≤ℤ z) (pocket_level d r radial) level_in (levels d) (levels_above d down) in
    let rest : List Block = flat_map (pocket_level d r radial) (levels d) ++ rapid_over d.sec r ∷ [] in
    All-cons P (Tool d.tool d.spindle) (rapid_over d.sec inner ∷ rest) tt
    (All-cons P (rapid_over d.sec inner) rest tt (All-push P (flat_map (pocket_level d r radial) (levels d)) (rapid_over d.sec r) all_in tt))

shape_within : (d : Numbers) (shape : Shape) → d.bottom <ℤ d.z0 → IsTrue (fits_shape shape) → IsTrue (is_pocket shape) → All (StaysWithin d.bottom shape) (path_of_shape d shape)
shape_within d (Drill x y dwell) down fits kind = absurd cc
shape_within d (Plane x y ux uy len width step both) down fits kind = absurd cc
shape_within d (Pocket left low right high radial) down fits kind =
    let ranges = pocket_ranges left low right high radial fits in
    path_within d (record { left = left; low = low; right = right; high = high }) radial down (positive_abs radial ranges.radial_positive) ranges.across ranges.along

-- the feeds of a pocket's path stay within the pocket
pub stays_within : (d : Def) → IsTrue (is_pocket d.shape) → All (StaysWithin d.bottom d.shape) (path_of d)
stays_within d kind = shape_within (numbers_of d) d.shape d.downwards d.shaped kind

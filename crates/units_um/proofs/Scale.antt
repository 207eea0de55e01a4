-- Products and quotients by powers of ten, and the whole numbers nearest to them.
use Rattle.std.proofs.Common.{◌≡◌, ℕ, ◌+◌, ◌-◌, ◌*◌, ◌/◌, ◌^◌, ◌<◌, ◌≤◌, Ok, Err, refl, ap, ◌∙◌, arith}
use Rattle.std.proofs.Math.Nat.{one-le-pow, pow-le-pow_right, mul-div-mul_left, div-eq_of_lt, div-mul-le_self, lt-div-mul-add}
use Rattle.std.proofs.lemmas.Nat.{pow-add, mul-le, div-mul-add}
use Rattle.std.proofs.lemmas.Bool.{lt-ltb, le-ltb}
use Rattle.units_um.specs.declared.fault.UnitErr.TheVariants.{OutOfRange}
use Rattle.nc_base.specs.declared.numbers.TheConstants.{MAX_THOUSANDTHS}
use Rattle.units_um.specs.Thousandths.{nearest, in_range}

pub power_grows : (i j : ℕ) → i ≤ j → 10 ^ i ≤ 10 ^ j
power_grows i j le = pow-le-pow_right {n = 10} (omega arith) le

pub power_positive : (i : ℕ) → 0 < 10 ^ i
power_positive i = omega (arith, one-le-pow i 10 (omega arith))

-- past the limit
pub past_limit : (x : ℕ) → MAX_THOUSANDTHS < x → (Err OutOfRange) ≡ in_range x
unfolding in_range
past_limit x lt = rw (lt-ltb MAX_THOUSANDTHS x lt) refl

-- within the limit
pub within_limit : (x : ℕ) → x ≤ MAX_THOUSANDTHS → (Ok x) ≡ in_range x
unfolding in_range
within_limit x le = rw (le-ltb MAX_THOUSANDTHS x le) refl

-- a positive number of units past the limit is past it
pub raised_far : (m by : ℕ) → 0 < m → 15 < by → MAX_THOUSANDTHS < m * 10 ^ by
raised_far m by pos far =
    let unit : 10 ^ 16 ≤ 10 ^ by = power_grows 16 by far in
    let product : 1 * 10 ^ by ≤ m * 10 ^ by = mul-le 1 (10 ^ by) m (10 ^ by) pos (omega arith) in
    omega arith

-- a number past the limit stays past it
pub raised_past : (m by : ℕ) → MAX_THOUSANDTHS < m → MAX_THOUSANDTHS < m * 10 ^ by
raised_past m by lt =
    let product : m * 1 ≤ m * 10 ^ by = mul-le m 1 m (10 ^ by) (omega arith) (power_positive by) in
    omega arith

-- less than half a unit is rounded to none
pub lowered_far : (m by : ℕ) → m < 10 ^ 38 → 38 < by → nearest m (10 ^ by) ≡ 0
unfolding nearest
lowered_far m by small far =
    let unit : 10 ^ 39 ≤ 10 ^ by = power_grows 39 by far in
    div-eq_of_lt (omega arith)

-- none of any unit is none
pub nearest_none : (unit : ℕ) → 0 < unit → nearest 0 unit ≡ 0
unfolding nearest
nearest_none unit positive = div-eq_of_lt (omega arith)

-- more powers of ten above than below: a whole number
pub nearest_whole : (m up down : ℕ) → down ≤ up → nearest (m * 10 ^ up) (10 ^ down) ≡ m * 10 ^ (up - down)
unfolding nearest
nearest_whole m up down le =
    let split : 10 ^ up ≡ 10 ^ (up - down) * 10 ^ down = ap (λ k. 10 ^ k) (omega arith) ∙ pow-add 10 (up - down) down in
    let unit = 10 ^ down in
    let positive : 0 < unit = power_positive down in
    let product : 2 * (m * (10 ^ (up - down) * unit)) + unit ≡ m * 10 ^ (up - down) * (2 * unit) + unit = grind arith in
    rw split (ap (λ x. x / (2 * unit)) product ∙ div-mul-add (m * 10 ^ (up - down)) (2 * unit) unit (omega arith))

-- more powers of ten below than above: the common ones fall away
pub nearest_part : (m up down : ℕ) → up ≤ down → nearest (m * 10 ^ up) (10 ^ down) ≡ nearest m (10 ^ (down - up))
unfolding nearest
nearest_part m up down le =
    let split : 10 ^ down ≡ 10 ^ up * 10 ^ (down - up) = ap (λ k. 10 ^ k) (omega arith) ∙ pow-add 10 up (down - up) in
    let unit = 10 ^ up in
    let over : 2 * (m * unit) + unit * 10 ^ (down - up) ≡ unit * (2 * m + 10 ^ (down - up)) = grind arith in
    let under : 2 * (unit * 10 ^ (down - up)) ≡ unit * (2 * 10 ^ (down - up)) = grind arith in
    rw (split, over, under) (mul-div-mul_left (2 * m + 10 ^ (down - up)) (2 * 10 ^ (down - up)) (power_positive up))

-- what is nearest is at most half a part away, and where it is half a part away it is the larger one
pub nearest_law : (num den : ℕ) → 0 < den → (2 * (nearest num den * den) ≤ 2 * num + den) × (2 * num < 2 * (nearest num den * den) + den)
unfolding nearest
nearest_law num den positive =
    let total = 2 * num + den in
    let r = total / (2 * den) in
    let below : r * (2 * den) ≤ total = div-mul-le_self total (2 * den) in
    let above : total < r * (2 * den) + 2 * den = lt-div-mul-add (omega arith) in
    let same : r * (2 * den) ≡ 2 * (r * den) = grind arith in
    (omega arith, omega arith)

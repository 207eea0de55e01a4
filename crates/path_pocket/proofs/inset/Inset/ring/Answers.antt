use Rattle.std.proofs.Common.{rules, ◌≡◌, ◌∙◌, ap, refl, ℕ, ℤ, pos, ◌*◌, ◌≤◌, ◌-ℤ◌, ◌+ℤ◌, FitsSigned, w64, unsigned_abs}
use Rattle.path_blocks.specs.PathPocket.{Rectangle, innermost}
use Rattle.path_pocket.specs.declared.inset.Inset.{Inset}
use Rattle.path_pocket.specs.Inset.{rectangle_of}
use Rattle.path_pocket.proofs.Numbers.{inset_ranges, ring_small, sum_fits, sum_back, difference_fits, difference_back}
use Rattle.path_pocket.proofs.inset.Inset.ring.Goals as goal

small : (i : Inset) (n step : ℕ) → n ≤ innermost (rectangle_of i) i.radial → step ≡ unsigned_abs i.radial → n * step ≤ 200000000
small i n step h e = rw e (ring_small i n h)

pub overflow_add-result : goal.overflow_add-result
overflow_add-result c =
    let f : FitsSigned w64 c.args.self.now.left = search rules in
    sum_fits c.args.self.now.left (c.args.number * c.ring_step.result) f (inset_ranges c.args.self.now).left_within (small c.args.self.now c.args.number c.ring_step.result c.requires c.ring_step.ensures.exact)

pub overflow_add-result-2 : goal.overflow_add-result-2
overflow_add-result-2 c =
    let f : FitsSigned w64 c.args.self.now.low = search rules in
    sum_fits c.args.self.now.low (c.args.number * c.ring_step.result) f (inset_ranges c.args.self.now).low_within (small c.args.self.now c.args.number c.ring_step.result c.requires c.ring_step.ensures.exact)

pub overflow_sub-result : goal.overflow_sub-result
overflow_sub-result c =
    let f : FitsSigned w64 c.args.self.now.right = search rules in
    difference_fits c.args.self.now.right (c.args.number * c.ring_step.result) f (inset_ranges c.args.self.now).right_within (small c.args.self.now c.args.number c.ring_step.result c.requires c.ring_step.ensures.exact)

pub overflow_sub-result-2 : goal.overflow_sub-result-2
overflow_sub-result-2 c =
    let f : FitsSigned w64 c.args.self.now.high = search rules in
    difference_fits c.args.self.now.high (c.args.number * c.ring_step.result) f (inset_ranges c.args.self.now).high_within (small c.args.self.now c.args.number c.ring_step.result c.requires c.ring_step.ensures.exact)

abbrev sides : ℤ → ℤ → ℤ → ℤ → Rectangle
sides left low right high = record { left = left; low = low; right = right; high = high }

same_sides : (left low right high left' low' right' high' : ℤ) → left ≡ left' → low ≡ low' → right ≡ right' → high ≡ high' → sides left low right high ≡ sides left' low' right' high'
same_sides left low right high left' low' right' high' p q r s = rw (p, q, r, s) refl

pub returns : goal.returns
returns c =
    let f : FitsSigned w64 c.args.self.now.left = search rules in
    let g : FitsSigned w64 c.args.self.now.low = search rules in
    let h : FitsSigned w64 c.args.self.now.right = search rules in
    let k : FitsSigned w64 c.args.self.now.high = search rules in
    let by : ℕ = c.args.number * c.ring_step.result in
    let s = small c.args.self.now c.args.number c.ring_step.result c.requires c.ring_step.ensures.exact in
    let step = ap (λ (n : ℕ). c.args.number * n) c.ring_step.ensures.exact in
    same_sides _ _ _ _ _ _ _ _
    (sum_back c.args.self.now.left by f (inset_ranges c.args.self.now).left_within s ∙ ap (λ (n : ℕ). c.args.self.now.left +ℤ pos n) step)
    (sum_back c.args.self.now.low by g (inset_ranges c.args.self.now).low_within s ∙ ap (λ (n : ℕ). c.args.self.now.low +ℤ pos n) step)
    (difference_back c.args.self.now.right by h (inset_ranges c.args.self.now).right_within s ∙ ap (λ (n : ℕ). c.args.self.now.right -ℤ pos n) step)
    (difference_back c.args.self.now.high by k (inset_ranges c.args.self.now).high_within s ∙ ap (λ (n : ℕ). c.args.self.now.high -ℤ pos n) step)

use Rattle.std.proofs.Common.{rules, ◌∙◌, ap, ℕ, ◌-ℤ◌, min, FitsSigned, w64, unsigned_abs}
use Rattle.path_pocket.proofs.Numbers.{inset_ranges, side_fits, side_back}
use Rattle.path_pocket.proofs.inset.Inset.least_side.Goals as goal

pub overflow_sub-self-2 : goal.overflow_sub-self-2
overflow_sub-self-2 c =
    let f : FitsSigned w64 c.args.self.now.low = search rules in
    let g : FitsSigned w64 c.args.self.now.high = search rules in
    side_fits c.args.self.now.low c.args.self.now.high f g (inset_ranges c.args.self.now).low_within (inset_ranges c.args.self.now).high_within

pub returns : goal.returns
returns c =
    let f : FitsSigned w64 c.args.self.now.low = search rules in
    let g : FitsSigned w64 c.args.self.now.high = search rules in
    let h : FitsSigned w64 c.args.self.now.left = search rules in
    let k : FitsSigned w64 c.args.self.now.right = search rules in
    let along = c.unsigned_abs-2.ensures.value ∙ ap unsigned_abs (side_back c.args.self.now.low c.args.self.now.high f g (inset_ranges c.args.self.now).low_within (inset_ranges c.args.self.now).high_within) in
    let across = c.unsigned_abs.ensures.value ∙ ap unsigned_abs (side_back c.args.self.now.left c.args.self.now.right h k (inset_ranges c.args.self.now).left_within (inset_ranges c.args.self.now).right_within) in
    record { exact = c.min.ensures ∙ ap (λ (n : ℕ). min n c.unsigned_abs-2.result) across ∙ ap (λ (n : ℕ). min (unsigned_abs (c.args.self.now.right -ℤ c.args.self.now.left)) n) along }

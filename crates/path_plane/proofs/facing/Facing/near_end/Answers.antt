use Rattle.std.proofs.Common.{rules, arith, ◌≡◌, ℤ, FitsSigned, w64}
use Rattle.std.proofs.lemmas.Int.{to_z-of_z}
use Rattle.std.proofs.Common.{Bool, true, false, cond, refl}
use Rattle.path_plane.proofs.Numbers.{facing_ranges, sum_fits, sum_back, sum_near, within_abs, is_zero, is_not_zero}
use Rattle.path_plane.proofs.facing.Facing.near_end.Goals as goal

pub overflow_add-result : goal.overflow_add-result
overflow_add-result c =
    let f : FitsSigned w64 c.args.self.now.y = search rules in
    sum_fits c.args.self.now.y c.args.offset f (facing_ranges c.args.self.now).y_within c.requires

pub overflow_add-result-else-self-eq0 : goal.overflow_add-result-else-self-eq0
overflow_add-result-else-self-eq0 c =
    let f : FitsSigned w64 c.args.self.now.x = search rules in
    sum_fits c.args.self.now.x c.args.offset f (facing_ranges c.args.self.now).x_within c.requires

along_x : (b : Bool) (a a' r s : ℤ) (v : ℤ × ℤ) → b ≡ true → a' ≡ a → r ≡ s → ◌≡◌ {A = ℤ × ℤ} (a', r) (cond b (a, s) v)
along_x b a a' r s v t p q = rw (t, p, q) refl

along_y : (b : Bool) (a a' r s : ℤ) (v : ℤ × ℤ) → b ≡ false → a' ≡ a → r ≡ s → ◌≡◌ {A = ℤ × ℤ} (r, a') (cond b v (s, a))
along_y b a a' r s v t p q = rw (t, p, q) refl

pub returns-then-self-eq0-clause-exact : goal.returns-then-self-eq0-clause-exact
returns-then-self-eq0-clause-exact c =
    let f : FitsSigned w64 c.args.self.now.y = search rules in
    let g : FitsSigned w64 c.args.self.now.x = search rules in
    let u : FitsSigned w64 c.args.self.now.uy = search rules in
    along_x _ _ _ _ _ _ (is_zero c.args.self.now.uy u c.if-self-eq0.true) (to_z-of_z w64 c.args.self.now.x g) (sum_back c.args.self.now.y c.args.offset f (facing_ranges c.args.self.now).y_within c.requires)

pub returns-then-self-eq0-clause-near_x : goal.returns-then-self-eq0-clause-near_x
returns-then-self-eq0-clause-near_x c =
    let g : FitsSigned w64 c.args.self.now.x = search rules in
    rw (to_z-of_z w64 c.args.self.now.x g) (omega (arith, within_abs c.args.self.now.x (facing_ranges c.args.self.now).x_within))

pub returns-then-self-eq0-clause-near_y : goal.returns-then-self-eq0-clause-near_y
returns-then-self-eq0-clause-near_y c =
    let f : FitsSigned w64 c.args.self.now.y = search rules in
    rw (sum_back c.args.self.now.y c.args.offset f (facing_ranges c.args.self.now).y_within c.requires) (sum_near c.args.self.now.y c.args.offset (facing_ranges c.args.self.now).y_within c.requires)

pub returns-else-self-eq0-clause-exact : goal.returns-else-self-eq0-clause-exact
returns-else-self-eq0-clause-exact c =
    let f : FitsSigned w64 c.args.self.now.y = search rules in
    let g : FitsSigned w64 c.args.self.now.x = search rules in
    along_y _ _ _ _ _ _ (is_not_zero c.args.self.now.uy c.if-self-eq0.false) (to_z-of_z w64 c.args.self.now.y f) (sum_back c.args.self.now.x c.args.offset g (facing_ranges c.args.self.now).x_within c.requires)

pub returns-else-self-eq0-clause-near_x : goal.returns-else-self-eq0-clause-near_x
returns-else-self-eq0-clause-near_x c =
    let f : FitsSigned w64 c.args.self.now.x = search rules in
    rw (sum_back c.args.self.now.x c.args.offset f (facing_ranges c.args.self.now).x_within c.requires) (sum_near c.args.self.now.x c.args.offset (facing_ranges c.args.self.now).x_within c.requires)

pub returns-else-self-eq0-clause-near_y : goal.returns-else-self-eq0-clause-near_y
returns-else-self-eq0-clause-near_y c =
    let g : FitsSigned w64 c.args.self.now.y = search rules in
    rw (to_z-of_z w64 c.args.self.now.y g) (omega (arith, within_abs c.args.self.now.y (facing_ranges c.args.self.now).y_within))

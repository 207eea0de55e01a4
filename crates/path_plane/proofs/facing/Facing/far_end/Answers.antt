use Rattle.std.proofs.Common.{rules, ◌≡◌, ℤ, FitsSigned, w64}
use Rattle.std.proofs.Common.{refl, ◌+ℤ◌}
use Rattle.path_blocks.specs.PathPlane.{near_end}
use Rattle.path_plane.specs.Facing.{face_of}
use Rattle.path_plane.proofs.Numbers.{ends_fit, ends_back}
use Rattle.path_plane.proofs.facing.Facing.far_end.Goals as goal

pub overflow_add-result : goal.overflow_add-result
overflow_add-result c =
    let f : FitsSigned w64 c.near_end-x.result.0 = search rules in
    let g : FitsSigned w64 c.along-dx.result.0 = search rules in
    ends_fit c.near_end-x.result.0 c.along-dx.result.0 f g c.near_end-x.ensures.near_x c.along-dx.ensures.short_x

pub overflow_add-result-2 : goal.overflow_add-result-2
overflow_add-result-2 c =
    let f : FitsSigned w64 c.near_end-x.result.1 = search rules in
    let g : FitsSigned w64 c.along-dx.result.1 = search rules in
    ends_fit c.near_end-x.result.1 c.along-dx.result.1 f g c.near_end-x.ensures.near_y c.along-dx.ensures.short_y

two_ends : (r s a b u v : ℤ) (near near' : ℤ × ℤ) → near ≡ near' → a ≡ u → b ≡ v → r ≡ near.0 +ℤ a → s ≡ near.1 +ℤ b → ◌≡◌ {A = ℤ × ℤ} (r, s) (near'.0 +ℤ u, near'.1 +ℤ v)
two_ends r s a b u v near near' n p q x y = rw (x, y, n, p, q) refl

pub returns : goal.returns
returns c =
    let f : FitsSigned w64 c.near_end-x.result.0 = search rules in
    let g : FitsSigned w64 c.along-dx.result.0 = search rules in
    let h : FitsSigned w64 c.near_end-x.result.1 = search rules in
    let k : FitsSigned w64 c.along-dx.result.1 = search rules in
    two_ends _ _ c.along-dx.result.0 c.along-dx.result.1 _ _ c.near_end-x.result (near_end (face_of c.args.self.now) c.args.offset) c.near_end-x.ensures.exact c.along-dx.ensures.x c.along-dx.ensures.y
    (ends_back c.near_end-x.result.0 c.along-dx.result.0 f g c.near_end-x.ensures.near_x c.along-dx.ensures.short_x)
    (ends_back c.near_end-x.result.1 c.along-dx.result.1 h k c.near_end-x.ensures.near_y c.along-dx.ensures.short_y)

use Rattle.std.proofs.Common.{rules, ◌≡◌, ◌∙◌, ap, sym, refl, ℤ, Bool, FitsSigned, w64, Ok, Result}
use Rattle.std.proofs.lemmas.Int.{to_z-of_z}
use Rattle.path_blocks.specs.declared.def.Shape.{Shape}
use Rattle.path_blocks.specs.declared.def.Shape.TheVariants.{Plane}
use Rattle.step_def.specs.declared.fault.DefFault.{DefFault}
use Rattle.step_def.specs.declared.attributes.Machining.{Machining}
use Rattle.step_def.specs.Numbers.{shape_of, sign_of}
use Rattle.step_def.proofs.definition.shape_of.Goals as goal

abbrev made : Shape → Result Shape DefFault
made s = Ok s

same_plane : (x y ux uy len width step x' y' ux' uy' len' width' step' : ℤ) (both : Bool) → x ≡ x' → y ≡ y' → ux ≡ ux' → uy ≡ uy' → len ≡ len' → width ≡ width' → step ≡ step'
    → made (Plane x y ux uy len width step both) ≡ made (Plane x' y' ux' uy' len' width' step' both)
same_plane x y ux uy len width step x' y' ux' uy' len' width' step' both p q r s t u v = rw (p, q, r, s, t, u, v) refl

pub returns-in-MillFace : goal.returns-in-MillFace
returns-in-MillFace c =
    let x : FitsSigned w64 c.args.lookup.now.placement.point.x = search rules in
    let y : FitsSigned w64 c.args.lookup.now.placement.point.y = search rules in
    let dx : FitsSigned w64 c.in-MillFace.face.course.x = search rules in
    let dy : FitsSigned w64 c.in-MillFace.face.course.y = search rules in
    let ux : FitsSigned w64 c.sign_of.result = search rules in
    let uy : FitsSigned w64 c.sign_of-in-MillFace.result = search rules in
    let len : FitsSigned w64 c.in-MillFace.face.length.value = search rules in
    let width : FitsSigned w64 c.in-MillFace.face.width.value = search rules in
    let step : FitsSigned w64 c.step_of.result = search rules in
    same_plane _ _ _ _ _ _ _ _ _ _ _ _ _ _ c.in-MillFace.cut.strategy.both (to_z-of_z w64 _ x) (to_z-of_z w64 _ y)
    (to_z-of_z w64 _ ux ∙ c.sign_of.ensures ∙ ap sign_of (to_z-of_z w64 _ dx)) (to_z-of_z w64 _ uy ∙ c.sign_of-in-MillFace.ensures ∙ ap sign_of (to_z-of_z w64 _ dy))
    (to_z-of_z w64 _ len) (to_z-of_z w64 _ width) (to_z-of_z w64 _ step ∙ c.step_of.ensures)
    ∙ sym (ap (λ (j : Machining). shape_of c.args.lookup.now j) c.in-MillFace.is)

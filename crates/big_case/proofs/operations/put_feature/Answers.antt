use Rattle.std.proofs.Common.{[], ◌∷◌, subst, sym}
use Rattle.std.specs.Prelude.{OnOk}
use Rattle.big_case.specs.declared.step.Kind.{Kind}
use Rattle.big_case.specs.Project.{feature}
use Rattle.big_case.specs.Adds.{Adds}
use Rattle.big_case.proofs.operations.put_feature.Goals as goal

pub returns-in-Face : goal.returns-in-Face
returns-in-Face c =
    subst (λ (kind : Kind). OnOk c.put_face.result (Adds (feature kind c.args.n ∷ []) c.args.items.now c.put_face.new.items)) (sym c.in-Face.is) c.put_face.ensures

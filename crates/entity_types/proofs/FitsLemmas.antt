-- Fields that fit are one for each position.
use Rattle.std.proofs.Common.{◌≡◌, ℕ, ◌&&◌, ◌||◌, ◌==◌, Bool, true, false, List, [], ◌∷◌, IsTrue, refl, cond}
use Rattle.std.specs.Prelude.{is_some, option_copied, Option, Some, None}
use Rattle.std.specs.Borrow.{Bor}
use Rattle.std.proofs.lemmas.Bool.{false≢true}
use Rattle.entity_types.specs.declared.table.UsedPosition.{UsedPosition}
use Rattle.entity_types.specs.declared.field.Field.{Field}
use Rattle.entity_types.specs.Fits.{all_fit, field_fits}
use Rattle.entity_types.specs.Entity.{field_at, is_among}

pub and_right : (a b : Bool) → IsTrue (a && b) → IsTrue b
and_right true b h = h
and_right false b h = absurd (false≢true h)

pub and_left : (a b : Bool) → IsTrue (a && b) → IsTrue a
and_left true b h = refl
and_left false b h = absurd (false≢true h)

some_cond : {X : Type 0} (b c : Bool) (x : X) (o : Option X) → is_some o ≡ c → is_some (cond b (Some x) o) ≡ (b || c)
some_cond true c x o h = refl
some_cond false c x o h = h

-- where the fields fit, there is a field exactly at the used positions
pub is_some-field_at : (used : List UsedPosition) (fields : List Field) (p : ℕ) → IsTrue (all_fit used fields) → is_some (field_at used fields p) ≡ is_among p used
is_some-field_at [] fs p h = refl
is_some-field_at (u ∷ us) [] p h = absurd (false≢true h)
is_some-field_at (u ∷ us) (f ∷ fs) p h =
    some_cond (u.position == p) (is_among p us) f (field_at us fs p) (is_some-field_at us fs p (and_right (field_fits u f) (all_fit us fs) h))

-- what a reference points to is there where the reference is
pub is_some-copied : {X : Type 0} (o : Option (Bor X)) → is_some (option_copied o) ≡ is_some o
is_some-copied None = refl
is_some-copied (Some x) = refl

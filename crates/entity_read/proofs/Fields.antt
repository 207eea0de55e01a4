-- Fields read from left to right.
use Rattle.std.proofs.Common.{◌≡◌, ℕ, ◌+◌, ◌<◌, ◌&&◌, Bool, true, false, IsTrue, List, [], ◌∷◌, ◌++◌, length, get_or, drop, take, append_assoc, refl, ap, sym, ◌∙◌}
use Rattle.std.specs.Prelude.{Result, Ok, Err, Some}
use Rattle.std.specs.Option.{option_map_or}
use Rattle.std.proofs.lemmas.Bool.{false≢true}
use Rattle.std.proofs.lemmas.List.{at_drop_more, take_more}
use Rattle.p21_parse.specs.Tree.{Tree}
use Rattle.entity_types.specs.declared.field.Field.{Field}
use Rattle.entity_types.specs.declared.table.UsedPosition.{UsedPosition}
use Rattle.entity_types.specs.Fits.{all_fit, field_fits}
use Rattle.entity_read.specs.Typed.{with_first, field_among, fields_among}

and_left : (a b : Bool) → IsTrue (a && b) → IsTrue a
and_left true b h = refl
and_left false b h = absurd (false≢true h)

and_right : (a b : Bool) → IsTrue (a && b) → IsTrue b
and_right true b h = h
and_right false b h = absurd (false≢true h)

and_both : (a b : Bool) → IsTrue a → IsTrue b → IsTrue (a && b)
and_both true b h k = k
and_both false b h k = h

-- these fields in front
abbrev pub with_front : List Field → Result (List Field) ℕ → Result (List Field) ℕ
with_front front (Ok fields) = Ok (front ++ fields)
with_front front (Err position) = Err position

pub with_front-with_first : (front : List Field) (field : Field) (rest : Result (List Field) ℕ) → with_front front (with_first field rest) ≡ with_front (front ++ field ∷ []) rest
with_front-with_first front field (Ok fields) = ap Ok (sym (append_assoc front (field ∷ []) fields))
with_front-with_first front field (Err position) = refl

-- one more position read
pub value_more : (used : List UsedPosition) (trees : List Tree) (i : ℕ) (d : UsedPosition) (front : List Field) (field : Field) (next : List Field)
    → i < length used → Some field ≡ field_among (get_or used i d) trees → next ≡ front ++ field ∷ []
    → with_front front (fields_among (drop i used) trees) ≡ fields_among used trees
    → with_front next (fields_among (drop (i + 1) used) trees) ≡ fields_among used trees
value_more used trees i d front field next l is_field n h =
    let u = get_or used i d in
    let rest = fields_among (drop (i + 1) used) trees in
    let found : fields_among (u ∷ drop (i + 1) used) trees ≡ with_first field rest =
    ap (λ o. option_map_or (λ f. with_first f rest) o (Err u.position)) (sym is_field) in
    ap (λ fs. with_front fs rest) n ∙ sym (with_front-with_first front field rest)
    ∙ ap (with_front front) (sym (at_drop_more (λ us. fields_among us trees) used i d l ∙ found)) ∙ h

all_fit-push : (used : List UsedPosition) (fields : List Field) (u : UsedPosition) (f : Field) → IsTrue (all_fit used fields) → IsTrue (field_fits u f) → IsTrue (all_fit (used ++ u ∷ []) (fields ++ f ∷ []))
all_fit-push [] [] u f h k = and_both (field_fits u f) true k refl
all_fit-push [] (g ∷ fields) u f h k = absurd (false≢true h)
all_fit-push (v ∷ used) [] u f h k = absurd (false≢true h)
all_fit-push (v ∷ used) (g ∷ fields) u f h k =
    and_both (field_fits v g) (all_fit (used ++ u ∷ []) (fields ++ f ∷ [])) (and_left (field_fits v g) (all_fit used fields) h)
    (all_fit-push used fields u f (and_right (field_fits v g) (all_fit used fields) h) k)

pub fits_more : (used : List UsedPosition) (i : ℕ) (d : UsedPosition) (front : List Field) (field : Field) (next : List Field)
    → i < length used → IsTrue (field_fits (get_or used i d) field) → next ≡ front ++ field ∷ []
    → IsTrue (all_fit (take i used) front) → IsTrue (all_fit (take (i + 1) used) next)
fits_more used i d front field next l fit n h =
    ap (λ us. all_fit us next) (take_more used i d l) ∙ ap (all_fit (take i used ++ get_or used i d ∷ [])) n
    ∙ all_fit-push (take i used) front (get_or used i d) field h fit

-- Edits one after another, as they are judged.
use Rattle.std.proofs.Common.{◌≡◌, ℕ, suc, ◌+◌, ◌<◌, nat_eq, List, [], ◌∷◌, ◌++◌, length, map, take, drop, get_or, Option, Some, None, Result, Ok, Err, refl, sym, ap, subst, ◌∙◌, add-one, drop-cons, inl, inr, arith}
use Rattle.std.specs.Prelude.{true, false, is_some}
use Rattle.std.specs.List.{IsDistinct}
use Rattle.std.proofs.Math.Seq.{take-suc}
use Rattle.std.proofs.lemmas.List.{take-append-drop, map-append}
use Rattle.p21_parse.specs.Tree.{InstanceTree}
use Rattle.p21_parse.specs.declared.exchange.Instance.{Instance}
use Rattle.p21_parse.specs.View.{instance_of}
use Rattle.entity_types.specs.declared.edit.Edit.{Edit}
use Rattle.entity_types.specs.declared.entity.Entity.{Entity}
use Rattle.entity_read.specs.declared.error.TypeErr.{TypeErr}
use Rattle.entity_read.specs.declared.error.TypeErr.TheVariants as types
use Rattle.entity_read.specs.Typed.{EntityTree, entity_of, typed_of, Types}
use Rattle.edit_script.specs.declared.error.ScriptErr.{ScriptErr}
use Rattle.edit_script.specs.declared.error.ScriptErr.TheVariants.{Lex, Syntax, TooDeep, TooMany, AtOrder, Repeated, Attribute, NoMemory}
use Rattle.edit_script.specs.Script.{EditTree, moment_of}
use Rattle.edit_script.specs.Edits.{EditModel, model_of, IsRepeat, with_entity, entities_of, IsSound, IsFault, AreSound, IsFirstFault}
use Rattle.edit_script.specs.Errors.{from_type}
use Rattle.edit_script.specs.Judged.{IsRepeatAt, AreTyped, Judges, IsFaultIn, last_moment, AreKept}

-- ---- entities

ok_parts : (n : ℕ) (r : Result EntityTree ℕ) (rest : Result (List EntityTree) TypeErr) (es : List EntityTree) → with_entity n r rest ≡ Ok es
    → (t : EntityTree) × (ts : List EntityTree) × (r ≡ Ok t) × (rest ≡ Ok ts) × (es ≡ t ∷ ts)
ok_parts n (Ok t) (Ok ts) es e = (t, ts, refl, refl, cc)
ok_parts n (Ok t) (Err f) es e = absurd (cc)
ok_parts n (Err p) rest es e = absurd (cc)

typed_more : (is : List InstanceTree) (i : InstanceTree) (es : List EntityTree) (e : EntityTree) → entities_of is ≡ Ok es → typed_of i ≡ Ok e → entities_of (is ++ i ∷ []) ≡ Ok (es ++ e ∷ [])
typed_more [] i es e all one =
    let none : es ≡ [] = cc in
    rw (one, none) refl
typed_more (j ∷ is) i es e all one =
    let h = ok_parts j.number (typed_of j) (entities_of is) es all in
    ap (λ (r : Result EntityTree ℕ). with_entity j.number r (entities_of (is ++ i ∷ []))) h.2 ∙ ap (with_entity j.number (Ok h.0)) (typed_more is i h.1 e h.3 one)
    ∙ ap (λ (ts : List EntityTree). Ok (ts ++ e ∷ [])) (sym h.4)

typed_stop : (a : List InstanceTree) (i : InstanceTree) (b : List InstanceTree) (es : List EntityTree) (p : ℕ) → entities_of a ≡ Ok es → typed_of i ≡ Err p → entities_of (a ++ i ∷ b) ≡ Err (types.BadAttribute i.number p)
typed_stop [] i b es p all e = rw e refl
typed_stop (j ∷ a) i b es p all e =
    let h = ok_parts j.number (typed_of j) (entities_of a) es all in
    ap (λ (r : Result EntityTree ℕ). with_entity j.number r (entities_of (a ++ i ∷ b))) h.2 ∙ ap (with_entity j.number (Ok h.0)) (typed_stop a i b h.1 p h.3 e)

-- one instance more has its entity
pub one_typed : (xs : List Instance) (i : ℕ) (x : Instance) (es : List Entity) (e : Entity) → i < length xs → x ≡ get_or xs i x → entities_of (map instance_of (take i xs)) ≡ Ok (map entity_of es)
    → typed_of (instance_of x) ≡ Ok (entity_of e) → entities_of (map instance_of (take (i + 1) xs)) ≡ Ok (map entity_of (es ++ e ∷ []))
one_typed xs i x es e lt is all one =
    let next : take (i + 1) xs ≡ take i xs ++ (x ∷ []) = rw add-one (take-suc xs i x lt ∙ ap (λ (y : Instance). take i xs ++ (y ∷ [])) (sym is)) in
    rw (next, map-append instance_of (take i xs) (x ∷ []), map-append entity_of es (e ∷ [])) (typed_more (map instance_of (take i xs)) (instance_of x) (map entity_of es) (entity_of e) all one)

-- the first instance without an entity
pub one_untyped : (index : ℕ) (xs : List Instance) (i : ℕ) (x : Instance) (es : List Entity) → i < length xs → x ≡ get_or xs i x → entities_of (map instance_of (take i xs)) ≡ Ok (map entity_of es)
    → (t : TypeErr) → Types (instance_of x) (Err t) → AreTyped index (map instance_of xs) (Err (from_type index t))
one_untyped index xs i x es lt is all (types.BadAttribute n p) said =
    let rest : drop i xs ≡ x ∷ drop (i + 1) xs = rw add-one (drop-cons xs i x lt ∙ ap (λ (y : Instance). y ∷ drop (suc i) xs) (sym is)) in
    let whole : map instance_of xs ≡ map instance_of (take i xs) ++ (instance_of x ∷ map instance_of (drop (i + 1) xs)) =
    ap (map instance_of) (sym (take-append-drop i xs)) ∙ map-append instance_of (take i xs) (drop i xs) ∙ ap (λ (ys : List Instance). map instance_of (take i xs) ++ map instance_of ys) rest in (
      refl,
      rw whole (typed_stop (map instance_of (take i xs)) (instance_of x) (map instance_of (drop (i + 1) xs)) (map entity_of es) p all said.1
          ∙ ap (λ (m : ℕ). Err (types.BadAttribute m p)) (sym said.0)),
    )
one_untyped index xs i x es lt is all types.NoMemory said = tt

-- ---- the number that stands a second time

pub repeat_is : (numbers : List ℕ) (i n : ℕ) → n ≡ get_or numbers i 0 → IsRepeatAt numbers i → IsRepeat numbers n
repeat_is numbers i n is r =
    let next : take (i + 1) numbers ≡ take i numbers ++ (n ∷ []) = rw add-one (take-suc numbers i 0 r.within ∙ ap (λ (k : ℕ). take i numbers ++ (k ∷ [])) (sym is)) in
    let rest : drop i numbers ≡ n ∷ drop (i + 1) numbers = rw add-one (drop-cons numbers i 0 r.within ∙ ap (λ (k : ℕ). k ∷ drop (suc i) numbers) (sym is)) in
    record {
      before = take i numbers;
      after = drop (i + 1) numbers;
      parts = sym (take-append-drop i numbers) ∙ ap (λ (ns : List ℕ). take i numbers ++ ns) rest;
      distinct = r.distinct;
      twice = λ d. r.twice (subst (λ (ns : List ℕ). IsDistinct nat_eq ns) (sym next) d);
    }

-- ---- one edit more

sound_more : (before : ℕ) (es : List EditTree) (ms : List EditModel) (e : EditTree) (m : EditModel) → AreSound before es ms → IsSound (last_moment before es) e m → AreSound before (es ++ e ∷ []) (ms ++ m ∷ [])
sound_more before [] [] e m all one = (one, tt)
sound_more before [] (n ∷ ms) e m all one = absurd all
sound_more before (x ∷ es) [] e m all one = absurd all
sound_more before (x ∷ es) (n ∷ ms) e m all one = (all.0, sound_more (moment_of x) es ms e m all.1 one)

last_more : (before : ℕ) (es : List EditTree) (e : EditTree) → last_moment before (es ++ e ∷ []) ≡ moment_of e
last_more before [] e = refl
last_more before (x ∷ es) e = last_more (moment_of x) es e

fault_stays : (index before : ℕ) (es more : List EditTree) (f : ScriptErr) → IsFirstFault index before es f → IsFirstFault index before (es ++ more) f
fault_stays index before [] more f h = absurd h
fault_stays index before (x ∷ es) more f (inl h) = inl h
fault_stays index before (x ∷ es) more f (inr h) = inr (h.0, h.1, fault_stays (suc index) (moment_of x) es more f h.2)

fault_new : (index before n : ℕ) (es : List EditTree) (ms : List EditModel) (e : EditTree) (f : ScriptErr) → n ≡ index + length es → AreSound before es ms → IsFault n (last_moment before es) e f → IsFirstFault index before (es ++ e ∷ []) f
fault_new index before n [] [] e f at all h = inl (subst (λ (n : ℕ). IsFault n before e f) (omega arith) h)
fault_new index before n [] (m ∷ ms) e f at all h = absurd all
fault_new index before n (x ∷ es) [] e f at all h = absurd all
fault_new index before n (x ∷ es) (m ∷ ms) e f at all h = inr (m, all.0, fault_new (suc index) (moment_of x) n es ms e f (omega arith) all.1 h)

pub kept_more : (es : List EditTree) (edits : List Edit) (last : ℕ) (e : EditTree) (edit : Edit) → AreKept es edits last None → IsSound last e (model_of edit) → AreKept (es ++ e ∷ []) (edits ++ edit ∷ []) (moment_of e) None
kept_more es edits last e edit k one =
    let last_is = k.1 in
    let there : IsSound (last_moment 0 es) e (model_of edit) = subst (λ (n : ℕ). IsSound n e (model_of edit)) k.1 one in
    (rw (map-append model_of edits (edit ∷ [])) (sound_more 0 es (map model_of edits) e (model_of edit) k.0 there), sym (last_more 0 es e))

pub kept_fault : (es : List EditTree) (edits more : List Edit) (last next n : ℕ) (e : EditTree) (f : ScriptErr) → n ≡ length es → AreKept es edits last None → IsFault n last e f → AreKept (es ++ e ∷ []) more next (Some f)
kept_fault es edits more last next n e f is k h = fault_new 0 0 n es (map model_of edits) e f (omega (arith, is)) k.0 (subst (λ (m : ℕ). IsFault n m e f) k.1 h)

pub fault_kept : (es : List EditTree) (edits more : List Edit) (last next : ℕ) (e : EditTree) (f : ScriptErr) → AreKept es edits last (Some f) → AreKept (es ++ e ∷ []) more next (Some f)
fault_kept es edits more last next e f k = fault_stays 0 0 es (e ∷ []) f k

pub fault_is : (index before : ℕ) (t : EditTree) (e f : ScriptErr) → IsFaultIn e f → Judges index before t (Err e) → IsFault index before t f
fault_is index before t NoMemory f k h = absurd k
fault_is index before t (Lex l) f k h = absurd h
fault_is index before t (Syntax p) f k h = absurd h
fault_is index before t (TooDeep p) f k h = absurd h
fault_is index before t (TooMany p) f k h = absurd h
fault_is index before t (AtOrder i) f k h = subst (IsFault index before t) (sym k) h
fault_is index before t (Repeated i n) f k h = subst (IsFault index before t) (sym k) h
fault_is index before t (Attribute i n p) f k h = subst (IsFault index before t) (sym k) h

-- ---- what is kept

pub kept_behind_fault : (es : List EditTree) (edits : List Edit) (last : ℕ) (o : Option ScriptErr) (e : EditTree) → is_some o ≡ true → AreKept es edits last o → AreKept (es ++ e ∷ []) edits last o
kept_behind_fault es edits last None e is k = absurd cc
kept_behind_fault es edits last (Some f) e is k = fault_kept es edits edits last last e f k

no_fault_yet : (es : List EditTree) (edits : List Edit) (last : ℕ) (o : Option ScriptErr) → is_some o ≡ false → AreKept es edits last o → AreKept es edits last None
no_fault_yet es edits last None is k = k
no_fault_yet es edits last (Some f) is k = absurd cc

none_is : (es : List EditTree) (edits : List Edit) (last : ℕ) (o : Option ScriptErr) → is_some o ≡ false → AreKept es edits last None → AreKept es edits last o
none_is es edits last None is k = k
none_is es edits last (Some f) is k = absurd cc

pub kept_sound : (es : List EditTree) (edits more : List Edit) (last at : ℕ) (o : Option ScriptErr) (e : EditTree) (edit : Edit) → is_some o ≡ false → AreKept es edits last o → IsSound last e (model_of edit) → more ≡ edits ++ edit ∷ [] → at ≡ moment_of e
    → AreKept (es ++ e ∷ []) more at o
kept_sound es edits more last at o e edit is k sound more_is at_is =
    none_is (es ++ e ∷ []) more at o is (rw (more_is, at_is) (kept_more es edits last e edit (no_fault_yet es edits last o is k) sound))

pub kept_faulty : (es : List EditTree) (edits : List Edit) (last n : ℕ) (o : Option ScriptErr) (t : EditTree) (e f : ScriptErr) → is_some o ≡ false → n ≡ length es → AreKept es edits last o → IsFaultIn e f → Judges n last t (Err e)
    → AreKept (es ++ t ∷ []) edits last (Some f)
kept_faulty es edits last n o t e f is count k known judged =
    kept_fault es edits edits last last n t f count (no_fault_yet es edits last o is k) (fault_is n last t e f known judged)

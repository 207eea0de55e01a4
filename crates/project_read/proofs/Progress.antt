-- How far a file is read: its front, and what is kept of the instances there.
use Rattle.std.proofs.Common.{◌≡◌, ℕ, zero, suc, ◌+◌, ◌≤◌, nat_eq, List, [], ◌∷◌, ◌++◌, true, false, length, map, take, drop, Option, Some, None, Result, Ok, Err, refl, sym, ap, subst, ◌∙◌, arith}
use Rattle.std.specs.Prelude.{OnOk}
use Rattle.std.specs.Option.{is_some}
use Rattle.std.specs.List.{IsDistinct}
use Rattle.std.specs.Global.{Vec}
use Rattle.std.proofs.lemmas.List.{map-append, length-append, length-map}
use Rattle.p21_lex.specs.declared.error.LexErr.TheVariants as lexes
use Rattle.p21_parse.specs.declared.error.ReadErr.{ReadErr}
use Rattle.p21_parse.specs.declared.error.ReadErr.TheVariants as reads
use Rattle.p21_parse.specs.declared.limits.TheConstants.{MAX_INSTANCES}
use Rattle.p21_parse.specs.Tree.{InstanceTree, ExchangeTree}
use Rattle.p21_parse.specs.Allowed.{own_number_of}
use Rattle.p21_parse.specs.Front.{IsFront, with_items}
use Rattle.p21_parse.specs.Text.{IsText, IsRefusedText}
use Rattle.entity_types.specs.declared.entity.Entity.{Entity}
use Rattle.entity_read.specs.declared.error.TypeErr.{TypeErr}
use Rattle.entity_read.specs.Typed.{EntityTree, entity_of, typed_of}
use Rattle.project_read.specs.declared.gathered.Gathered.{Gathered}
use Rattle.project_read.specs.declared.limits.TheConstants.{MAX_PROJECT_BYTES}
use Rattle.project_read.specs.declared.reason.ProjectReason.{ProjectReason}
use Rattle.project_read.specs.declared.reason.ProjectReason.TheVariants as reasons
use Rattle.project_read.specs.declared.reason.ProjectErr.{ProjectErr}
use Rattle.project_read.specs.declared.reason.ProjectErr.TheVariants.{Refused, NoMemory}
use Rattle.project_read.specs.Errors.{from_read}
use Rattle.project_read.specs.Typing.{with_typed, all_typed}
use Rattle.project_read.specs.Reads.{AllTyped, ReadsEntities, ReadsStore}
use Rattle.project_read.specs.Gathered.{IsKept, IsGathered, IsReadTo}
use Rattle.p21_slices.specs.Slices.{IsWhole}
use Rattle.p21_slices.proofs.Files.{more}

-- ---- entities

ok_parts : (n : ℕ) (r : Result EntityTree ℕ) (rest : Result (List EntityTree) TypeErr) (es : List EntityTree) → with_typed n r rest ≡ Ok es
    → (t : EntityTree) × (ts : List EntityTree) × (r ≡ Ok t) × (rest ≡ Ok ts) × (es ≡ t ∷ ts)
ok_parts n (Ok t) (Ok ts) es e = (t, ts, refl, refl, cc)
ok_parts n (Ok t) (Err f) es e = absurd (cc)
ok_parts n (Err p) rest es e = absurd (cc)

trees_join : (xs ys : List InstanceTree) (es fs : List EntityTree) → all_typed xs ≡ Ok es → all_typed ys ≡ Ok fs → all_typed (xs ++ ys) ≡ Ok (es ++ fs)
trees_join [] ys es fs a b = let none : es ≡ [] = cc in rw none b
trees_join (i ∷ is) ys es fs a b =
    let h = ok_parts i.number (typed_of i) (all_typed is) es a in
    ap (λ (r : Result EntityTree ℕ). with_typed i.number r (all_typed (is ++ ys))) h.2 ∙ ap (with_typed i.number (Ok h.0)) (trees_join is ys h.1 fs h.3 b)
    ∙ ap (λ (ts : List EntityTree). Ok (ts ++ fs)) (sym h.4)

pub typed_join : (xs ys : List InstanceTree) (es fs : List Entity) → all_typed xs ≡ Ok (map entity_of es) → all_typed ys ≡ Ok (map entity_of fs) → all_typed (xs ++ ys) ≡ Ok (map entity_of (es ++ fs))
typed_join xs ys es fs a b = trees_join xs ys (map entity_of es) (map entity_of fs) a b ∙ ap (λ (ts : List EntityTree). Ok ts) (sym (map-append entity_of es fs))

-- the first bad attribute is that of more instances, wherever these stand
fault_behind : (xs ys : List InstanceTree) (es : List EntityTree) (f : TypeErr) → all_typed xs ≡ Ok es → all_typed ys ≡ Err f → all_typed (xs ++ ys) ≡ Err f
fault_behind [] ys es f a b = b
fault_behind (i ∷ is) ys es f a b =
    let h = ok_parts i.number (typed_of i) (all_typed is) es a in
    ap (λ (r : Result EntityTree ℕ). with_typed i.number r (all_typed (is ++ ys))) h.2 ∙ ap (with_typed i.number (Ok h.0)) (fault_behind is ys h.1 f h.3 b)

fault_before : (xs ys : List InstanceTree) (f : TypeErr) → all_typed xs ≡ Err f → all_typed (xs ++ ys) ≡ Err f
fault_before [] ys f a = absurd cc
fault_before (i ∷ is) ys f a = by (fault_before is ys f) (typed_of i) refl
  where
    by : (all_typed is ≡ Err f → all_typed (is ++ ys) ≡ Err f) → (r : Result EntityTree ℕ) → typed_of i ≡ r → all_typed ((i ∷ is) ++ ys) ≡ Err f
    by on (Err p) e =
        let here : with_typed i.number (Err p) (all_typed is) ≡ Err f = ap (λ (r : Result EntityTree ℕ). with_typed i.number r (all_typed is)) (sym e) ∙ a in
        ap (λ (r : Result EntityTree ℕ). with_typed i.number r (all_typed (is ++ ys))) e ∙ here
    by on (Ok t) e = rest (all_typed is) refl (ap (λ (r : Result EntityTree ℕ). with_typed i.number r (all_typed is)) (sym e) ∙ a)
      where
        rest : (r : Result (List EntityTree) TypeErr) → all_typed is ≡ r → with_typed i.number (Ok t) (all_typed is) ≡ Err f → all_typed ((i ∷ is) ++ ys) ≡ Err f
        rest (Ok ts) is_ok h = let no : Ok (t ∷ ts) ≡ Err f = ap (with_typed i.number (Ok t)) (sym is_ok) ∙ h in absurd cc
        rest (Err g) is_err h =
            let same : Err g ≡ Err f = ap (with_typed i.number (Ok t)) (sym is_err) ∙ h in
            ap (λ (r : Result EntityTree ℕ). with_typed i.number r (all_typed (is ++ ys))) e ∙ ap (with_typed i.number (Ok t)) (on (is_err ∙ same))

-- ---- what is kept

pub kept_more : (items others : List InstanceTree) (es : List Entity) (v : Vec Entity) → IsKept items es None → AllTyped others (Ok v) → IsKept (items ++ others) (es ++ v.items) None
kept_more items others es v kept typed = typed_join items others es v.items kept typed.0

pub kept_fault : (items others : List InstanceTree) (es fs : List Entity) (reason : ProjectReason) → IsKept items es None → AllTyped others (Err (Refused reason)) → IsKept (items ++ others) fs (Some reason)
kept_fault items others es fs (reasons.Attribute f) kept said = fault_behind items others (map entity_of es) f kept said
kept_fault items others es fs reasons.TooLong kept said = absurd said
kept_fault items others es fs (reasons.Read f) kept said = absurd said
kept_fault items others es fs (reasons.Store f) kept said = absurd said
kept_fault items others es fs (reasons.Tree f) kept said = absurd said
kept_fault items others es fs (reasons.Definition n f) kept said = absurd said
kept_fault items others es fs (reasons.NoStep n) kept said = absurd said

pub kept_still : (items others : List InstanceTree) (es : List Entity) (reason : ProjectReason) → IsKept items es (Some reason) → IsKept (items ++ others) es (Some reason)
kept_still items others es (reasons.Attribute f) said = fault_before items others f said
kept_still items others es reasons.TooLong said = absurd said
kept_still items others es (reasons.Read f) said = absurd said
kept_still items others es (reasons.Store f) said = absurd said
kept_still items others es (reasons.Tree f) said = absurd said
kept_still items others es (reasons.Definition n f) said = absurd said
kept_still items others es (reasons.NoStep n) said = absurd said

-- what was kept up to a bad attribute stays
pub still_kept : (items others : List InstanceTree) (es fs : List Entity) (old new : Option ProjectReason) → IsKept items es old → fs ≡ es → new ≡ old → is_some new ≡ true → IsKept (items ++ others) fs new
still_kept items others es fs old None kept same is some = absurd cc
still_kept items others es fs old (Some reason) kept same is some =
    kept_still items others fs reason (subst (λ (xs : List Entity). IsKept items xs (Some reason)) (sym same) (subst (λ (o : Option ProjectReason). IsKept items es o) (sym is) kept))

-- no bad attribute was kept
pub none_kept : (items : List InstanceTree) (es fs : List Entity) (old new : Option ProjectReason) → IsKept items es old → fs ≡ es → new ≡ old → is_some new ≡ false → IsKept items fs None
none_kept items es fs old None kept same is none = subst (λ (xs : List Entity). IsKept items xs None) (sym same) (subst (λ (o : Option ProjectReason). IsKept items es o) (sym is) kept)
none_kept items es fs old (Some reason) kept same is none = absurd cc

-- two things that hold after Ok
pub both_on : {P Q R : Type 0} {E : Type 0} (r : Result (Unit {0}) E) → OnOk r P → OnOk r Q → (P → Q → R) → OnOk r R
both_on (Ok x) p q f = f p q
both_on (Err e) p q f = tt

-- the numbers of more instances
pub numbers_more : (items others : List InstanceTree) (ns ms : List ℕ) → ns ≡ map own_number_of items → ms ≡ ns ++ map own_number_of others → ms ≡ map own_number_of (items ++ others)
numbers_more items others ns ms is more_is = more_is ∙ ap (λ (ks : List ℕ). ks ++ map own_number_of others) is ∙ sym (map-append own_number_of items others)

-- ---- bytes

nothing : (k : ℕ) (xs : List ℕ) → xs ≡ [] → take k xs ≡ xs
nothing zero [] e = refl
nothing (suc k) [] e = refl
nothing k (x ∷ xs) e = absurd cc

take_on : (a n : ℕ) (xs : List ℕ) → take a xs ++ take n (drop a xs) ≡ take (a + n) xs
take_on zero n xs = ap (λ (k : ℕ). take k xs) (omega arith)
take_on (suc a) n [] = nothing n [] refl ∙ sym (nothing (suc a + n) [] refl)
take_on (suc a) n (x ∷ xs) =
    let same : suc a + n ≡ suc (a + n) = omega arith in
    ap (λ (ys : List ℕ). x ∷ ys) (take_on a n xs) ∙ ap (λ (k : ℕ). take k (x ∷ xs)) (sym same)

-- ---- the file

-- Nothing but the front.
pub begun : (bytes : List ℕ) (at : ℕ) (x : ExchangeTree) (g : Gathered) → IsFront (take at bytes) x → IsGathered x.items g → length x.items ≤ MAX_INSTANCES → at ≤ length bytes → IsReadTo bytes at g
begun bytes at x g front gathered few within = record { exchange = x; front = front; gathered = gathered; few = few; within = within }

-- With so many instances more there are few enough.
pub few_still : (items others : List InstanceTree) (ns : List ℕ) (n : ℕ) → ns ≡ map own_number_of items → length ns + n ≤ MAX_INSTANCES → length others ≡ n → length (items ++ others) ≤ MAX_INSTANCES
few_still items others ns n is few many = omega (arith, few, ap length is, length-map items own_number_of, length-append items others, many)

-- One slice more.
pub goes_on : (bytes : List ℕ) (at len : ℕ) (items : List InstanceTree) (old new : Gathered) (read : IsReadTo bytes at old) → IsWhole (take len (drop at bytes)) items → IsGathered (read.exchange.items ++ items) new
    → length (read.exchange.items ++ items) ≤ MAX_INSTANCES → at + len ≤ length bytes → IsReadTo bytes (at + len) new
goes_on bytes at len items old new read slice gathered few within = record {
  exchange = with_items read.exchange items;
  front = subst (λ (b : List ℕ). IsFront b (with_items read.exchange items)) (take_on at len bytes) (more (take at bytes) (take len (drop at bytes)) read.exchange items read.front slice);
  gathered = gathered;
  few = few;
  within = within;
}

-- Why a text is no file is why it holds no project.
pub not_read : (bytes : List ℕ) (e : ReadErr) → length bytes ≤ MAX_PROJECT_BYTES → IsRefusedText bytes e → ReadsEntities bytes (Err (from_read e))
not_read bytes (reads.Lex lexes.NoMemory) short at = tt
not_read bytes (reads.Lex (lexes.BadByte place)) short at = (short, at)
not_read bytes (reads.Lex (lexes.BadName place)) short at = (short, at)
not_read bytes (reads.Lex (lexes.OpenString place)) short at = (short, at)
not_read bytes (reads.Lex (lexes.OpenComment place)) short at = (short, at)
not_read bytes (reads.Lex (lexes.NumberTooLong place)) short at = (short, at)
not_read bytes (reads.Syntax place) short at = (short, at)
not_read bytes (reads.TooDeep place) short at = (short, at)
not_read bytes (reads.TooMany place) short at = (short, at)
not_read bytes (reads.Duplicate number) short at = (short, at)
not_read bytes reads.NoMemory short at = tt

-- The text is a file of instances, and these are their entities, or this their first bad attribute.
pub text_typed : (bytes : List ℕ) (x : ExchangeTree) (r : Result (Vec Entity) ProjectErr) → length bytes ≤ MAX_PROJECT_BYTES → IsText bytes x → AllTyped x.items r → ReadsEntities bytes r
text_typed bytes x (Ok v) short text typed = (record { exchange = x; has = record { short = short; spelled = text }; typed = typed.0 }, subst (λ (ns : List ℕ). IsDistinct nat_eq ns) (sym typed.1) text.allowed.distinct)
text_typed bytes x (Err (Refused (reasons.Attribute f))) short text said = (x, record { short = short; spelled = text }, said)
text_typed bytes x (Err (Refused reasons.TooLong)) short text said = absurd said
text_typed bytes x (Err (Refused (reasons.Read f))) short text said = absurd said
text_typed bytes x (Err (Refused (reasons.Store f))) short text said = absurd said
text_typed bytes x (Err (Refused (reasons.Tree f))) short text said = absurd said
text_typed bytes x (Err (Refused (reasons.Definition n f))) short text said = absurd said
text_typed bytes x (Err (Refused (reasons.NoStep n))) short text said = absurd said
text_typed bytes x (Err NoMemory) short text said = tt

-- No entities, then no store.
pub no_entities : (bytes : List ℕ) (e : ProjectErr) → ReadsEntities bytes (Err e) → ReadsStore bytes (Err e)
no_entities bytes (Refused reason) said = said
no_entities bytes NoMemory said = tt

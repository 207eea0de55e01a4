-- The fault of a walk, visit by visit.
use Rattle.std.specs.Prelude.{◌≡◌, ◌<◌, ◌≤◌, ◌+◌, ◌==◌, ℕ, nat_lt, min, Bool, true, false, if◌then◌else◌, List, [], ◌∷◌, ◌++◌, length, Option, Some, None}
use Rattle.std.specs.Option.{option_or}
use Rattle.std.proofs.Common.{refl, sym, ap, ◌∙◌, arith}
use Rattle.std.proofs.lemmas.Bool.Decides.{nat_tests}
use Rattle.entity_types.specs.declared.entity.Entity.{Entity}
use Rattle.exec_tree.specs.Exec.{has}
use Rattle.exec_tree.specs.declared.error.TreeErr.{TreeErr}
use Rattle.exec_tree.specs.declared.error.TreeErr.TheVariants.{Shared, TooDeep, TooManyNodes, ExprTooBig, TooManyChannels, NewChannel, NoMemory}
use Rattle.exec_tree.specs.Size.{expression_size}
use Rattle.exec_tree.specs.Walk.{Visit}
use Rattle.exec_tree.specs.TreeFault.{new_channel_fault, channel_fault, names, Seen, fault_at, fault_by, where_true, with_channel, seen_with, first_fault, seen_after}
use Rattle.exec_tree.specs.Walked.{IsFault}

or_assoc : (o p q : Option TreeErr) → option_or (option_or o p) q ≡ option_or o (option_or p q)
or_assoc None p q = refl
or_assoc (Some e) p q = refl

-- one list after another
pub fault_append : (entities : ℕ → Option Entity) (seen : Seen) (vs us : List Visit)
    → first_fault entities seen (vs ++ us) ≡ option_or (first_fault entities seen vs) (first_fault entities (seen_after entities seen vs) us)
fault_append entities seen [] us = refl
fault_append entities seen (v ∷ vs) us =
    ap (λ (o : Option TreeErr). option_or (fault_at entities seen v) o) (fault_append entities (seen_with entities seen v) vs us)
    ∙ sym (or_assoc (fault_at entities seen v) (first_fault entities (seen_with entities seen v) vs) (first_fault entities (seen_after entities (seen_with entities seen v) vs) us))

pub seen_append : (entities : ℕ → Option Entity) (seen : Seen) (vs us : List Visit) → seen_after entities seen (vs ++ us) ≡ seen_after entities (seen_after entities seen vs) us
seen_append entities seen [] us = refl
seen_append entities seen (v ∷ vs) us = seen_append entities (seen_with entities seen v) vs us

-- where the first list has no fault, and where it has one
pub fault_later : (entities : ℕ → Option Entity) (seen : Seen) (vs us : List Visit) → first_fault entities seen vs ≡ None
    → first_fault entities seen (vs ++ us) ≡ first_fault entities (seen_after entities seen vs) us
fault_later entities seen vs us e = fault_append entities seen vs us ∙ ap (λ (o : Option TreeErr). option_or o (first_fault entities (seen_after entities seen vs) us)) e

pub fault_sooner : (entities : ℕ → Option Entity) (seen : Seen) (vs us : List Visit) (e : TreeErr) → IsFault (first_fault entities seen vs) e → IsFault (first_fault entities seen (vs ++ us)) e
fault_sooner entities seen vs us e h = go e h
  where
    moved : (x : TreeErr) → first_fault entities seen vs ≡ Some x → first_fault entities seen (vs ++ us) ≡ Some x
    moved x f = fault_append entities seen vs us ∙ ap (λ (o : Option TreeErr). option_or o (first_fault entities (seen_after entities seen vs) us)) f

    go : (x : TreeErr) → IsFault (first_fault entities seen vs) x → IsFault (first_fault entities seen (vs ++ us)) x
    go (Shared n) f = moved (Shared n) f
    go (TooDeep n) f = moved (TooDeep n) f
    go TooManyNodes f = moved TooManyNodes f
    go (ExprTooBig n) f = moved (ExprTooBig n) f
    go TooManyChannels f = moved TooManyChannels f
    go (NewChannel n) f = moved (NewChannel n) f
    go NoMemory f = tt

-- a fault that is tried first
pub fault_first : (o p : Option TreeErr) (e : TreeErr) → IsFault o e → IsFault (option_or o p) e
fault_first o p e h = go e h
  where
    moved : (x : TreeErr) → o ≡ Some x → option_or o p ≡ Some x
    moved x f = ap (λ (q : Option TreeErr). option_or q p) f

    go : (x : TreeErr) → IsFault o x → IsFault (option_or o p) x
    go (Shared n) f = moved (Shared n) f
    go (TooDeep n) f = moved (TooDeep n) f
    go TooManyNodes f = moved TooManyNodes f
    go (ExprTooBig n) f = moved (ExprTooBig n) f
    go TooManyChannels f = moved TooManyChannels f
    go (NewChannel n) f = moved (NewChannel n) f
    go NoMemory f = tt

pub none_left : (o p : Option TreeErr) → option_or o p ≡ None → o ≡ None
none_left None p e = refl
none_left (Some x) p e = absurd (cc)

pub none_right : (o p : Option TreeErr) → option_or o p ≡ None → p ≡ None
none_right None p e = e
none_right (Some x) p e = absurd (cc)

not_true : (b : Bool) (x : TreeErr) → where_true b x ≡ None → b ≡ false
not_true false x e = refl
not_true true x e = absurd (cc)

-- what no fault says
pub not_shared : (seen : Seen) (n left size : ℕ) (channel : Option ℕ) → fault_by seen n left size channel ≡ None → has seen.numbers n ≡ false
not_shared seen n left size channel e = not_true (has seen.numbers n) (Shared n) (none_left _ _ e)

pub not_deep : (seen : Seen) (n left size : ℕ) (channel : Option ℕ) → fault_by seen n left size channel ≡ None → (left == 0) ≡ false
not_deep seen n left size channel e = not_true (left == 0) (TooDeep n) (none_left _ _ (none_right _ _ e))

pub some_left : (seen : Seen) (n left size : ℕ) (channel : Option ℕ) → fault_by seen n left size channel ≡ None → 0 < left
some_left seen n left size channel e = let d : (left == 0) ≡ false = not_deep seen n left size channel e in grind (arith, nat_tests)

pub not_heavy : (seen : Seen) (n left size : ℕ) (channel : Option ℕ) → fault_by seen n left size channel ≡ None → seen.weight + (1 + min size 1000) ≤ 65535
not_heavy seen n left size channel e =
    let d : nat_lt 65535 (seen.weight + (1 + min size 1000)) ≡ false = not_true _ TooManyNodes (none_left _ _ (none_right _ _ (none_right _ _ e))) in grind (arith, nat_tests)

last_none : (a b c d e : Option TreeErr) → option_or a (option_or b (option_or c (option_or d e))) ≡ None → e ≡ None
last_none a b c d e h = none_right d e (none_right c (option_or d e) (none_right b (option_or c (option_or d e)) (none_right a (option_or b (option_or c (option_or d e))) h)))

-- where no channel may come, none does
kept_by : (b : Bool) (cs : List ℕ) (c n : ℕ) → (if b then None else new_channel_fault true n (length cs)) ≡ None → (if b then cs else cs ++ c ∷ []) ≡ cs
kept_by true cs c n e = refl
kept_by false cs c n e = absurd (cc)

kept_here : (seen : Seen) (n : ℕ) (channel : Option ℕ) → seen.fixed ≡ true → channel_fault seen n channel ≡ None → with_channel seen.channels channel ≡ seen.channels
kept_here seen n None f e = refl
kept_here seen n (Some c) f e = kept_by (has seen.channels c) seen.channels c n (rw f at e)

pub channels_kept : (entities : ℕ → Option Entity) (seen : Seen) (vs : List Visit) → seen.fixed ≡ true → first_fault entities seen vs ≡ None → (seen_after entities seen vs).channels ≡ seen.channels
channels_kept entities seen [] f e = refl
channels_kept entities seen (v ∷ vs) f e =
    let size = expression_size entities v.number in
    let here = last_none (where_true (has seen.numbers v.number) (Shared v.number)) (where_true (v.left == 0) (TooDeep v.number)) (where_true (nat_lt 65535 (seen.weight + (1 + min size 1000))) TooManyNodes)
    (where_true (nat_lt 1000 size) (ExprTooBig v.number)) (channel_fault seen v.number (names entities v)) (none_left (fault_at entities seen v) (first_fault entities (seen_with entities seen v) vs) e) in
    channels_kept entities (seen_with entities seen v) vs f (none_right (fault_at entities seen v) (first_fault entities (seen_with entities seen v) vs) e) ∙ kept_here seen v.number (names entities v) f here

-- where channels may come, none is refused for being new
not_this : (b : Bool) (x y : TreeErr) (q : Option TreeErr) → (x ≡ y → ⊥) → option_or (where_true b x) q ≡ Some y → q ≡ Some y
not_this true x y q h e = absurd (h (let s : x ≡ y = cc in s))
not_this false x y q h e = e

open_by : (b : Bool) (seen : Seen) (n m : ℕ) → (if b then None else new_channel_fault false n (length seen.channels)) ≡ Some (NewChannel m) → ⊥
open_by true seen n m e = absurd (cc)
open_by false seen n m e = go (nat_lt 7 (length seen.channels)) e
  where
    go : (b : Bool) → where_true b TooManyChannels ≡ Some (NewChannel m) → ⊥
    go true f = absurd (cc)
    go false f = absurd (cc)

open_here : (seen : Seen) (n m : ℕ) (channel : Option ℕ) → seen.fixed ≡ false → channel_fault seen n channel ≡ Some (NewChannel m) → ⊥
open_here seen n m None f e = absurd (cc)
open_here seen n m (Some c) f e = open_by (has seen.channels c) seen n m (rw f at e)

pub none_is_new : (entities : ℕ → Option Entity) (seen : Seen) (vs : List Visit) (m : ℕ) → seen.fixed ≡ false → first_fault entities seen vs ≡ Some (NewChannel m) → ⊥
none_is_new entities seen [] m f e = absurd (cc)
none_is_new entities seen (v ∷ vs) m f e = go (fault_at entities seen v) refl e (none_is_new entities (seen_with entities seen v) vs m f)
  where
    size : ℕ
    size = expression_size entities v.number

    here : fault_at entities seen v ≡ Some (NewChannel m) → ⊥
    here h = open_here seen v.number m (names entities v) f
        (not_this (nat_lt 1000 size) (ExprTooBig v.number) (NewChannel m) _ (λ d. absurd (cc))
        (not_this (nat_lt 65535 (seen.weight + (1 + min size 1000))) TooManyNodes (NewChannel m) _ (λ d. absurd (cc))
        (not_this (v.left == 0) (TooDeep v.number) (NewChannel m) _ (λ d. absurd (cc))
        (not_this (has seen.numbers v.number) (Shared v.number) (NewChannel m) _ (λ d. absurd (cc)) h))))

    go : (o : Option TreeErr) → fault_at entities seen v ≡ o → option_or o (first_fault entities (seen_with entities seen v) vs) ≡ Some (NewChannel m)
        → (first_fault entities (seen_with entities seen v) vs ≡ Some (NewChannel m) → ⊥) → ⊥
    go (Some x) h i r = here (h ∙ i)
    go None h i r = r i

-- The channels of the visits are among those named so far, and keep their numbers.
use Rattle.std.specs.Prelude.{◌≡◌, ◌<◌, ◌==◌, ◌||◌, ℕ, zero, suc, max, Bool, true, false, if◌then◌else◌, List, [], ◌∷◌, ◌++◌, length, map, flat_map, Option, Some, None}
use Rattle.std.specs.Option.{option_or}
use Rattle.std.proofs.Common.{refl, sym, ap, subst, ◌∙◌, arith, append_assoc}
use Rattle.std.proofs.lemmas.List.{append-nil}
use Rattle.std.proofs.lemmas.Bool.Decides.{nat_tests}
use Rattle.entity_types.specs.declared.entity.Entity.{Entity}
use Rattle.exec_tree.specs.Exec.{has}
use Rattle.exec_tree.specs.Executable.{kind_at, parts_at, channel_at}
use Rattle.exec_tree.specs.Arena.{Label}
use Rattle.exec_tree.specs.Walk.{Visit, visit_of, channel_below, part_walk, visits_from}
use Rattle.exec_tree.specs.TreeFault.{Seen, with_channel, names, seen_with, seen_after, walk_of}
use Rattle.exec_tree.specs.Walked.{place_among, number_among, label_of, labels_from}
use Rattle.exec_tree.specs.Built.{channels_from}

-- the channel, if any, is one of these
abbrev pub IsNamed : List ℕ → Option ℕ → Type 0
IsNamed channels None = Unit {0}
IsNamed channels (Some channel) = has channels channel ≡ true

-- each visit's channel is named by then
abbrev pub EachNamed : (ℕ → Option Entity) → Seen → List Visit → Type 0
EachNamed entities seen [] = Unit {0}
EachNamed entities seen (v ∷ vs) = IsNamed (seen_with entities seen v).channels v.channel × EachNamed entities (seen_with entities seen v) vs

has_more : (cs more : List ℕ) (c : ℕ) → has cs c ≡ true → has (cs ++ more) c ≡ true
has_more [] more c h = absurd (cc)
has_more (d ∷ cs) more c h = go (d == c) h (has_more cs more c)
  where
    go : (b : Bool) → (b || has cs c) ≡ true → (has cs c ≡ true → has (cs ++ more) c ≡ true) → (b || has (cs ++ more) c) ≡ true
    go true i f = refl
    go false i f = f i

has_put : (cs : List ℕ) (c : ℕ) → has (cs ++ c ∷ []) c ≡ true
has_put [] c = let e : (c == c) ≡ true = grind (arith, nat_tests) in rw e refl
has_put (d ∷ cs) c = go (d == c) (has_put cs c)
  where
    go : (b : Bool) → has (cs ++ c ∷ []) c ≡ true → (b || has (cs ++ c ∷ []) c) ≡ true
    go true f = refl
    go false f = f

named_more : (cs more : List ℕ) (c : Option ℕ) → IsNamed cs c → IsNamed (cs ++ more) c
named_more cs more None h = tt
named_more cs more (Some c) h = has_more cs more c h

-- ---- channels only come

one_more : (cs : List ℕ) (c : Option ℕ) → (more : List ℕ) × (with_channel cs c ≡ cs ++ more)
one_more cs None = ([], sym (append-nil cs))
one_more cs (Some c) = go (has cs c)
  where
    go : (b : Bool) → (more : List ℕ) × ((if b then cs else cs ++ c ∷ []) ≡ cs ++ more)
    go true = ([], sym (append-nil cs))
    go false = (c ∷ [], refl)

pub channels_come : (entities : ℕ → Option Entity) (seen : Seen) (vs : List Visit) → (more : List ℕ) × ((seen_after entities seen vs).channels ≡ seen.channels ++ more)
channels_come entities seen [] = ([], sym (append-nil seen.channels))
channels_come entities seen (v ∷ vs) =
    let first = one_more seen.channels (names entities v) in
    let later = channels_come entities (seen_with entities seen v) vs in
    (first.0 ++ later.0, later.1 ∙ (ap (λ (cs : List ℕ). cs ++ later.0) first.1 ∙ append_assoc seen.channels first.0 later.0))

named_after : (entities : ℕ → Option Entity) (seen : Seen) (vs : List Visit) (c : Option ℕ) → IsNamed seen.channels c → IsNamed (seen_after entities seen vs).channels c
named_after entities seen vs c h =
    let more = channels_come entities seen vs in
    subst (λ (cs : List ℕ). IsNamed cs c) (sym more.1) (named_more seen.channels more.0 c h)

each_append : (entities : ℕ → Option Entity) (seen : Seen) (vs us : List Visit) → EachNamed entities seen vs → EachNamed entities (seen_after entities seen vs) us → EachNamed entities seen (vs ++ us)
each_append entities seen [] us a b = b
each_append entities seen (v ∷ vs) us a b = (a.0, each_append entities (seen_with entities seen v) vs us a.1 b)

named_here : (cs : List ℕ) (c : Option ℕ) (found : Option ℕ) → IsNamed cs c → IsNamed (with_channel cs found) (option_or found c)
named_here cs c None h = h
named_here cs c (Some d) h = go (has cs d) refl
  where
    go : (b : Bool) → has cs d ≡ b → has (if b then cs else cs ++ d ∷ []) d ≡ true
    go true e = e
    go false e = has_put cs d

parts_named : (entities : ℕ → Option Entity) (w : ℕ → List Visit) (c : Option ℕ) (ps : List (Option ℕ)) (seen : Seen)
    → ((m : ℕ) (s : Seen) → IsNamed s.channels c → EachNamed entities s (w m)) → IsNamed seen.channels c → EachNamed entities seen (flat_map (part_walk w) ps)
parts_named entities w c [] seen f h = tt
parts_named entities w c (None ∷ ps) seen f h = parts_named entities w c ps seen f h
parts_named entities w c (Some m ∷ ps) seen f h =
    each_append entities seen (w m) (flat_map (part_walk w) ps) (f m seen h) (parts_named entities w c ps (seen_after entities seen (w m)) f (named_after entities seen (w m) c h))

pub visits_named : (entities : ℕ → Option Entity) (left : ℕ) (channel : Option ℕ) (n : ℕ) (seen : Seen) → IsNamed seen.channels channel → EachNamed entities seen (visits_from entities left channel n)
unfolding visits_from
visits_named entities zero channel n seen h = (named_here seen.channels channel (channel_at (entities n)) h, tt)
visits_named entities (suc left) channel n seen h =
    let lower = channel_below channel (entities n) in
    let here = named_here seen.channels channel (channel_at (entities n)) h in
    (here, parts_named entities (λ m. visits_from entities left lower m) lower (parts_at (entities n)) (seen_with entities seen (visit_of n (suc left) channel (entities n))) (λ m s i. visits_named entities left lower m s i) here)

-- ---- numbers stay

place_more : (cs more : List ℕ) (c : ℕ) → has cs c ≡ true → place_among (cs ++ more) c ≡ place_among cs c
place_more [] more c h = absurd (cc)
place_more (d ∷ cs) more c h = go (d == c) h (place_more cs more c)
  where
    go : (b : Bool) → (b || has cs c) ≡ true → (has cs c ≡ true → place_among (cs ++ more) c ≡ place_among cs c)
        → (if b then 0 else suc (place_among (cs ++ more) c)) ≡ (if b then 0 else suc (place_among cs c))
    go true i f = refl
    go false i f = ap suc (f i)

number_more : (cs more : List ℕ) (c : Option ℕ) → IsNamed cs c → number_among (cs ++ more) c ≡ number_among cs c
number_more cs more None h = refl
number_more cs more (Some c) h = place_more cs more c h

pub labels_last : (entities : ℕ → Option Entity) (seen : Seen) (vs : List Visit) → EachNamed entities seen vs → labels_from entities seen vs ≡ map (label_of entities (seen_after entities seen vs).channels) vs
labels_last entities seen [] h = refl
labels_last entities seen (v ∷ vs) h =
    let now = (seen_with entities seen v).channels in
    let last = (seen_after entities (seen_with entities seen v) vs).channels in
    let more = channels_come entities (seen_with entities seen v) vs in
    let same : number_among now v.channel ≡ number_among last v.channel = sym (ap (λ (cs : List ℕ). number_among cs v.channel) more.1 ∙ number_more now more.0 v.channel h.0) in
    let label = λ (k : ℕ). let l : Label = record { number = v.number; channel = k; kind = kind_at (entities v.number) } in l in
    ap (λ (k : ℕ). label k ∷ labels_from entities (seen_with entities seen v) vs) same
    ∙ ap (λ (ls : List Label). label (number_among last v.channel) ∷ ls) (labels_last entities (seen_with entities seen v) vs h.1)

pub labels_walked : (start : Seen) (entities : ℕ → Option Entity) (main : ℕ) → labels_from entities start (walk_of entities main) ≡ map (label_of entities (channels_from start entities main)) (walk_of entities main)
labels_walked start entities main = labels_last entities start (walk_of entities main) (visits_named entities 64 None main start tt)

-- ---- and are below the number of channels

place_below : (cs : List ℕ) (c : ℕ) → has cs c ≡ true → place_among cs c < length cs
place_below [] c h = absurd (cc)
place_below (d ∷ cs) c h = go (d == c) h (place_below cs c)
  where
    go : (b : Bool) → (b || has cs c) ≡ true → (has cs c ≡ true → place_among cs c < length cs) → (if b then 0 else suc (place_among cs c)) < suc (length cs)
    go true i f = omega arith
    go false i f = omega (arith, f i)

number_below : (cs : List ℕ) (c : Option ℕ) → IsNamed cs c → number_among cs c < max 1 (length cs)
number_below cs None h = omega arith
number_below cs (Some c) h = omega (arith, place_below cs c h)

-- what each visit's channel is among
abbrev pub AllAmong : List ℕ → List Visit → Type 0
AllAmong cs [] = Unit {0}
AllAmong cs (v ∷ vs) = (number_among cs v.channel < max 1 (length cs)) × AllAmong cs vs

pub all_among : (entities : ℕ → Option Entity) (seen : Seen) (vs : List Visit) → EachNamed entities seen vs → AllAmong (seen_after entities seen vs).channels vs
all_among entities seen [] h = tt
all_among entities seen (v ∷ vs) h =
    (number_below (seen_after entities (seen_with entities seen v) vs).channels v.channel (named_after entities (seen_with entities seen v) vs v.channel h.0), all_among entities (seen_with entities seen v) vs h.1)

pub walk_among : (start : Seen) (entities : ℕ → Option Entity) (main : ℕ) → AllAmong (channels_from start entities main) (walk_of entities main)
walk_among start entities main = all_among entities start (walk_of entities main) (visits_named entities 64 None main start tt)

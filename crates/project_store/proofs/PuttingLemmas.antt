-- Items put into a store as a list: what is found in it, and where each number stands.
use Rattle.std.proofs.Common.{◌≡◌, ℕ, zero, suc, ◌+◌, ◌-◌, ◌<◌, ◌≤◌, ◌⊎◌, inl, inr, ◌==◌, nat_eq, Bool, true, false, cond, List, [], ◌∷◌, ◌++◌, length, Option, Some, None, refl, sym, ap, subst, ◌∙◌, arith, append_assoc}
use Rattle.std.specs.Prelude.{slice_get, slice_set, is_some, nat_lt, if◌then◌else◌}
use Rattle.std.proofs.lemmas.List.{append-nil}
use Rattle.std.specs.List.{IsDistinct, AllByRecursion}
use Rattle.std.specs.BTreeMap.{BTreeMap}
use Rattle.std.proofs.lemmas.Bool.Decides.{nat_tests}
use Rattle.std.proofs.lemmas.Cmp.{nat_eq_equiv}
use Rattle.std.proofs.lemmas.List.Folds.{list_any-append}
use Rattle.std.proofs.lemmas.Map.Keys.{IsDistinct-push}
use Rattle.std.proofs.lemmas.Option.{slice_get_within}
use Rattle.entity_types.specs.declared.entity.Entity.{Entity}
use Rattle.project_store.specs.declared.places.Place.{Place}
use Rattle.project_store.specs.Entities.{numbers_of, entity_at}
use Rattle.project_store.specs.Inserts.{is_among, insert_number, insert_all}
use Rattle.project_store.specs.Places.{IsIndex, IsAt, Leads, AreKept, AreNoted}
use Rattle.project_store.specs.Put.{put, put_all, put_in, put_items}
use Rattle.project_store.proofs.PlaceLemmas.{at_found, at_one_place, found_nowhere, other_number}

pub no_way : false ≡ true → ⊥
no_way e = cc

-- ---- what is put is found

pub found_put : (store : List Entity) (item : Entity) (n : ℕ) → entity_at (put_in store item) n ≡ put (entity_at store) item n
found_put [] item n = refl
found_put (x ∷ store) item n = go (x.number == item.number) (n == x.number) (n == item.number) refl refl refl (found_put store item n)
  where
    go : (a b c : Bool) → (x.number == item.number) ≡ a → (n == x.number) ≡ b → (n == item.number) ≡ c → entity_at (put_in store item) n ≡ put (entity_at store) item n → entity_at (put_in (x ∷ store) item) n ≡ put (entity_at (x ∷ store)) item n
    go true true true ea eb ec h = rw (ea, ec) refl
    go true true false ea eb ec h = absurd (let f : (n == item.number) ≡ true = grind (arith, nat_tests) in no_way (sym ec ∙ f))
    go true false true ea eb ec h = rw (ea, ec) refl
    go true false false ea eb ec h = rw (ea, eb, ec) refl
    go false true true ea eb ec h = absurd (let f : (x.number == item.number) ≡ true = grind (arith, nat_tests) in no_way (sym ea ∙ f))
    go false true false ea eb ec h = rw (ea, eb, ec) refl
    go false false c ea eb ec h = rw (ea, eb) h

same_put : (e f : ℕ → Option Entity) (items : List Entity) → ((n : ℕ) → e n ≡ f n) → (n : ℕ) → put_all e items n ≡ put_all f items n
same_put e f [] h n = h n
same_put e f (item ∷ items) h n = same_put (put e item) (put f item) items (λ m. one (m == item.number) m) n
  where
    one : (b : Bool) (m : ℕ) → (if b then Some item else e m) ≡ (if b then Some item else f m)
    one true m = refl
    one false m = h m

-- of the store as a list, the entity of a number is that of the store as a map
pub found_all : (store items : List Entity) (n : ℕ) → entity_at (put_items store items) n ≡ put_all (entity_at store) items n
found_all store [] n = refl
found_all store (item ∷ items) n = found_all (put_in store item) items n ∙ same_put (entity_at (put_in store item)) (put (entity_at store) item) items (found_put store item) n

pub put_items-push : (store items : List Entity) (x : Entity) → put_items store (items ++ x ∷ []) ≡ put_in (put_items store items) x
put_items-push store [] x = refl
put_items-push store (item ∷ items) x = put_items-push (put_in store item) items x

-- ---- the numbers

behind_one : (b : Bool) (m n : ℕ) (ns : List ℕ) → m ∷ cond b ns (ns ++ n ∷ []) ≡ cond b (m ∷ ns) (m ∷ (ns ++ n ∷ []))
behind_one true m n ns = refl
behind_one false m n ns = refl

-- a number that is put stands where it stood, or comes last
pub numbers-put_in : (es : List Entity) (x : Entity) → numbers_of (put_in es x) ≡ insert_number (numbers_of es) x.number
numbers-put_in [] x = refl
numbers-put_in (e ∷ es) x = go (e.number == x.number) (nat_eq x.number e.number) refl refl (numbers-put_in es x)
  where
    go : (a b : Bool) → (e.number == x.number) ≡ a → nat_eq x.number e.number ≡ b → numbers_of (put_in es x) ≡ insert_number (numbers_of es) x.number
        → numbers_of (put_in (e ∷ es) x) ≡ insert_number (numbers_of (e ∷ es)) x.number
    go true true ea eb h = let same : x.number ≡ e.number = grind (arith, nat_tests) in rw (ea, eb) (ap (λ (n : ℕ). n ∷ numbers_of es) same)
    go true false ea eb h = absurd (let f : nat_eq x.number e.number ≡ true = grind (arith, nat_tests) in no_way (sym eb ∙ f))
    go false true ea eb h = absurd (let f : (e.number == x.number) ≡ true = grind (arith, nat_tests) in no_way (sym ea ∙ f))
    go false false ea eb h = rw (ea, eb) (ap (λ (ns : List ℕ). e.number ∷ ns) h ∙ behind_one (is_among (numbers_of es) x.number) e.number x.number (numbers_of es))

pub numbers-put_items : (es items : List Entity) → numbers_of (put_items es items) ≡ insert_all (numbers_of es) (numbers_of items)
numbers-put_items es [] = refl
numbers-put_items es (x ∷ items) = numbers-put_items (put_in es x) items ∙ ap (λ (ns : List ℕ). insert_all ns (numbers_of items)) (numbers-put_in es x)

distinct_insert : (ns : List ℕ) (n : ℕ) → IsDistinct nat_eq ns → IsDistinct nat_eq (insert_number ns n)
distinct_insert ns n d = go (is_among ns n) refl
  where
    go : (b : Bool) → is_among ns n ≡ b → IsDistinct nat_eq (cond b ns (ns ++ n ∷ []))
    go true e = d
    go false e = IsDistinct-push nat_eq_equiv ns n d e

distinct_all : (ns ms : List ℕ) → IsDistinct nat_eq ns → IsDistinct nat_eq (insert_all ns ms)
distinct_all ns [] d = d
distinct_all ns (m ∷ ms) d = distinct_all (insert_number ns m) ms (distinct_insert ns m d)

-- the numbers stay distinct
pub distinct_put : (es items : List Entity) → IsDistinct nat_eq (numbers_of es) → IsDistinct nat_eq (numbers_of (put_items es items))
distinct_put es items d = subst (IsDistinct nat_eq) (sym (numbers-put_items es items)) (distinct_all (numbers_of es) (numbers_of items) d)

behind_distinct : (ns ms : List ℕ) → IsDistinct nat_eq (ns ++ ms) → IsDistinct nat_eq ns
unfolding IsDistinct
behind_distinct [] ms d = tt
behind_distinct (n ∷ ns) ms d = (first ns d.0, behind_distinct ns ms d.1)
  where
    first : (ks : List ℕ) → AllByRecursion (λ m. nat_eq n m ≡ false) (ks ++ ms) → AllByRecursion (λ m. nat_eq n m ≡ false) ks
    first [] all = tt
    first (k ∷ ks) all = (all.0, first ks all.1)

-- ---- where a number stands

at_put_in : (es : List Entity) (x : Entity) (n j : ℕ) → IsAt es n j → IsAt (put_in es x) n j
at_put_in [] x n j at = absurd (let h : None ≡ Some at.0 = at.1 in cc)
at_put_in (e ∷ es) x n zero at = go (e.number == x.number) refl
  where
    first : e.number ≡ n
    first = let same : e ≡ at.0 = let h : Some e ≡ Some at.0 = at.1 in cc in ap (λ (y : Entity). y.number) same ∙ at.2

    go : (b : Bool) → (e.number == x.number) ≡ b → IsAt (put_in (e ∷ es) x) n zero
    go true h = rw h (x, refl, (let same : x.number ≡ e.number = grind (arith, nat_tests) in same ∙ first))
    go false h = rw h (e, refl, first)
at_put_in (e ∷ es) x n (suc j) at = go (e.number == x.number) refl (at_put_in es x n j at)
  where
    go : (b : Bool) → (e.number == x.number) ≡ b → IsAt (put_in es x) n j → IsAt (put_in (e ∷ es) x) n (suc j)
    go true h rest = rw h at
    go false h rest = rw h rest

-- each number keeps its place
pub at_put : (es items : List Entity) (n j : ℕ) → IsAt es n j → IsAt (put_items es items) n j
at_put es [] n j at = at
at_put es (x ∷ items) n j at = at_put (put_in es x) items n j (at_put_in es x n j at)

stands : (es : List Entity) (i : ℕ) → i < length es → (e : Entity) × (slice_get es i ≡ Some e)
stands [] i l = absurd (omega arith)
stands (e ∷ es) zero l = (e, refl)
stands (e ∷ es) (suc i) l = stands es i (omega arith)

-- what stands there in the end stood there before, if anything did
pub stood_there : (es items : List Entity) (n i : ℕ) → IsAt (put_items es items) n i → i < length es → IsAt es n i
stood_there es items n i at l =
    let e = stands es i l in
    let later = at_put es items e.0.number i (e.0, e.1, refl) in
    let one : later.0 ≡ at.0 = let both : Some later.0 ≡ Some at.0 = sym later.1 ∙ at.1 in cc in
    (e.0, e.1, sym later.2 ∙ ap (λ (y : Entity). y.number) one ∙ at.2)

-- what stands behind them in the end wasn't there before
pub not_before : (es items : List Entity) (n i : ℕ) → IsDistinct nat_eq (numbers_of (put_items es items)) → IsAt (put_items es items) n i → length es ≤ i → entity_at es n ≡ None
not_before es items n i d at l =
    found_nowhere es n (λ j e there same.
    let one : i ≡ j = at_one_place (put_items es items) n i j d at (at_put es items n j (e, there, same)) in
    let within : j < length es = slice_get_within es j e there in
    let no : ⊥ = omega (arith, one, within, l) in no)

-- what isn't there in the end wasn't there before
pub nowhere_before : (es items : List Entity) (n : ℕ) → IsDistinct nat_eq (numbers_of (put_items es items)) → entity_at (put_items es items) n ≡ None → entity_at es n ≡ None
nowhere_before es items n d none =
    found_nowhere es n (λ j e there same.
    let later = at_put es items n j (e, there, same) in
    let both : None ≡ Some later.0 = sym none ∙ at_found (put_items es items) n j d later in
    let no : ⊥ = cc in no)

-- a new item comes last
pub put_new : (es : List Entity) (x : Entity) → entity_at es x.number ≡ None → put_in es x ≡ es ++ x ∷ []
put_new [] x none = refl
put_new (e ∷ es) x none = go (x.number == e.number) refl (put_new es x)
  where
    go : (b : Bool) → (x.number == e.number) ≡ b → (entity_at es x.number ≡ None → put_in es x ≡ es ++ x ∷ []) → put_in (e ∷ es) x ≡ (e ∷ es) ++ x ∷ []
    go true h rest = absurd (let both : Some e ≡ None = rw h at none in cc)
    go false h rest = let f : (e.number == x.number) ≡ false = grind (arith, nat_tests) in rw f (ap (λ (ys : List Entity). e ∷ ys) (rest (rw h at none)))

-- an item whose number is there stands in its place
pub put_there : (es : List Entity) (x : Entity) (i : ℕ) → IsDistinct nat_eq (numbers_of es) → IsAt es x.number i → put_in es x ≡ slice_set es i x
unfolding IsDistinct
put_there [] x i d at = absurd (let h : None ≡ Some at.0 = at.1 in cc)
put_there (e ∷ es) x zero d at =
    let same : e ≡ at.0 = let h : Some e ≡ Some at.0 = at.1 in cc in
    let number : e.number ≡ x.number = ap (λ (y : Entity). y.number) same ∙ at.2 in
    let f : (e.number == x.number) ≡ true = grind (arith, nat_tests) in
    rw f refl
put_there (e ∷ es) x (suc i) d at =
    let apart : nat_eq e.number at.0.number ≡ false = other_number e.number es i at.0 d.0 at.1 in
    let number : at.0.number ≡ x.number = at.2 in
    let f : (e.number == x.number) ≡ false = subst (λ (n : ℕ). nat_eq e.number n ≡ false) number apart in
    rw f (ap (λ (ys : List Entity). e ∷ ys) (put_there es x i d.1 at))

-- ---- the numbers that come new

among_found : (es : List Entity) (n : ℕ) → is_among (numbers_of es) n ≡ is_some (entity_at es n)
among_found [] n = refl
among_found (e ∷ es) n = go (n == e.number) refl (among_found es n)
  where
    go : (b : Bool) → (n == e.number) ≡ b → is_among (numbers_of es) n ≡ is_some (entity_at es n) → is_among (numbers_of (e ∷ es)) n ≡ is_some (entity_at (e ∷ es) n)
    go true h rest = rw h refl
    go false h rest = rw h rest

insert_old : (ms ns : List ℕ) (n : ℕ) → is_among ms n ≡ true → insert_number (ms ++ ns) n ≡ ms ++ ns
insert_old ms ns n h = rw (list_any-append (nat_eq n) ms ns, h) refl

insert_new : (ms ns : List ℕ) (n : ℕ) → is_among ms n ≡ false → insert_number (ms ++ ns) n ≡ ms ++ insert_number ns n
insert_new ms ns n h = rw (list_any-append (nat_eq n) ms ns, h) (by (is_among ns n))
  where
    by : (b : Bool) → cond b (ms ++ ns) ((ms ++ ns) ++ n ∷ []) ≡ ms ++ cond b ns (ns ++ n ∷ [])
    by true = refl
    by false = append_assoc ms ns (n ∷ [])

-- an item whose number is there brings no number
pub no_new_number : (store put : List Entity) (x : Entity) (news : List ℕ) → is_some (entity_at store x.number) ≡ true → numbers_of put ≡ numbers_of store ++ news
    → numbers_of (put_in put x) ≡ numbers_of store ++ news
no_new_number store put x news there h =
    numbers-put_in put x ∙ ap (λ (ns : List ℕ). insert_number ns x.number) h ∙ insert_old (numbers_of store) news x.number (among_found store x.number ∙ there)

-- an item whose number isn't there brings it, where no item before it did
pub new_number : (store put : List Entity) (x : Entity) (news : List ℕ) → is_some (entity_at store x.number) ≡ false → numbers_of put ≡ numbers_of store ++ news
    → numbers_of (put_in put x) ≡ numbers_of store ++ insert_number news x.number
new_number store put x news none h =
    numbers-put_in put x ∙ ap (λ (ns : List ℕ). insert_number ns x.number) h ∙ insert_new (numbers_of store) news x.number (among_found store x.number ∙ none)

-- ---- the places

inserted_behind : (ns ms : List ℕ) → (news : List ℕ) × (insert_all ns ms ≡ ns ++ news)
inserted_behind ns [] = ([], sym (append-nil ns))
inserted_behind ns (m ∷ ms) = go (is_among ns m) (inserted_behind ns ms) (inserted_behind (ns ++ m ∷ []) ms)
  where
    go : (b : Bool) → (news : List ℕ) × (insert_all ns ms ≡ ns ++ news) → (news : List ℕ) × (insert_all (ns ++ m ∷ []) ms ≡ (ns ++ m ∷ []) ++ news)
        → (news : List ℕ) × (insert_all (cond b ns (ns ++ m ∷ [])) ms ≡ ns ++ news)
    go true old new = old
    go false old new = (m ∷ new.0, new.1 ∙ append_assoc ns (m ∷ []) new.0)

-- numbers that are distinct in the end were so before
pub distinct_before : (es items : List Entity) → IsDistinct nat_eq (numbers_of (put_items es items)) → IsDistinct nat_eq (numbers_of es)
distinct_before es items d =
    let all = inserted_behind (numbers_of es) (numbers_of items) in
    behind_distinct (numbers_of es) all.0 (subst (IsDistinct nat_eq) (numbers-put_items es items ∙ all.1) d)

-- what comes new stands behind the others, where it stands among what comes new
got_number : (es : List Entity) (n i : ℕ) → IsAt es n i → slice_get (numbers_of es) i ≡ Some n
got_number [] n i at = absurd (let h : None ≡ Some at.0 = at.1 in cc)
got_number (e ∷ es) n zero at = let same : e ≡ at.0 = let h : Some e ≡ Some at.0 = at.1 in cc in ap Some (ap (λ (y : Entity). y.number) same ∙ at.2)
got_number (e ∷ es) n (suc i) at = got_number es n i at

got_behind : (es : List Entity) (ns : List ℕ) (i : ℕ) → length es ≤ i → slice_get (numbers_of es ++ ns) i ≡ slice_get ns (i - length es)
got_behind [] ns i le = ap (slice_get ns) (omega arith)
got_behind (e ∷ es) ns zero le = absurd (omega (arith, le))
got_behind (e ∷ es) ns (suc i) le = got_behind es ns i (omega (arith, le)) ∙ ap (slice_get ns) (omega arith)

number_behind : (es put : List Entity) (news : List ℕ) (n i : ℕ) → numbers_of put ≡ numbers_of es ++ news → IsAt put n i → length es ≤ i → slice_get news (i - length es) ≡ Some n
number_behind es put news n i h at le = sym (got_behind es news i le) ∙ ap (λ (ns : List ℕ). slice_get ns i) (sym h) ∙ got_number put n i at

none_among : (n : ℕ) (ms : List ℕ) → AllByRecursion (λ m. nat_eq n m ≡ false) ms → is_among ms n ≡ false
none_among n [] all = refl
none_among n (m ∷ ms) all = rw (all.0) (none_among n ms all.1)

rest_all : (n : ℕ) (es : List Entity) (ns : List ℕ) → AllByRecursion (λ m. nat_eq n m ≡ false) (numbers_of es ++ ns) → AllByRecursion (λ m. nat_eq n m ≡ false) ns
rest_all n [] ns all = all
rest_all n (e ∷ es) ns all = rest_all n es ns all.1

-- a number that is there is none of those that come new
not_new : (es : List Entity) (news : List ℕ) (n i : ℕ) → IsDistinct nat_eq (numbers_of es ++ news) → IsAt es n i → is_among news n ≡ false
unfolding IsDistinct
not_new [] news n i d at = absurd (let h : None ≡ Some at.0 = at.1 in cc)
not_new (e ∷ es) news n zero d at =
    let same : e ≡ at.0 = let h : Some e ≡ Some at.0 = at.1 in cc in
    let number : e.number ≡ n = ap (λ (y : Entity). y.number) same ∙ at.2 in
    subst (λ (m : ℕ). is_among news m ≡ false) number (none_among e.number news (rest_all e.number es news d.0))
not_new (e ∷ es) news n (suc i) d at = not_new es news n i d.1 at

-- the numbers that come new are distinct
pub new_distinct : (ms ns : List ℕ) → IsDistinct nat_eq (ms ++ ns) → IsDistinct nat_eq ns
unfolding IsDistinct
new_distinct [] ns d = d
new_distinct (m ∷ ms) ns d = new_distinct ms ns d.1

below_or_not : (i n : ℕ) → (i < n) ⊎ (n ≤ i)
below_or_not i n = go (nat_lt i n) refl
  where
    go : (b : Bool) → nat_lt i n ≡ b → (i < n) ⊎ (n ≤ i)
    go true e = inl (grind (arith, nat_tests))
    go false e = inr (grind (arith, nat_tests))

module _ (opening : List Place) (old new : BTreeMap ℕ ℕ) (es : List Entity) (news : List ℕ) (index : IsIndex opening old es) (distinct : IsDistinct nat_eq (numbers_of es ++ news))
    (kept : AreKept old new news) where
  still : (n i : ℕ) → IsAt es n i → Leads opening new n i
  still n i at = elim (index.complete n i at) [ inl has ↦ inl has | inr got ↦ inr (kept n (not_new es news n i distinct at) ∙ got) ]

  -- the index of the entities as they are, where places of others are noted
  pub index_noted : IsIndex opening new es
  index_noted = record { ordered = index.ordered; sound = index.sound; complete = still; distinct = index.distinct }

  -- and with the items put
  pub index_put : (items : List Entity) → numbers_of (put_items es items) ≡ numbers_of es ++ news → AreNoted new (length es) news → IsIndex opening new (put_items es items)
  index_put items h noted = record {
    ordered = index.ordered;
    sound = λ n i has. at_put es items n i (index.sound n i has);
    complete = λ n i at. elim (below_or_not i (length es)) [
      | inl lt ↦ still n i (stood_there es items n i at lt)
      | inr le ↦ inr (noted (i - length es) n (number_behind es (put_items es items) news n i h at le) ∙ ap Some (omega (arith, le)))
    ];
    distinct = distinct_put es items index.distinct;
  }

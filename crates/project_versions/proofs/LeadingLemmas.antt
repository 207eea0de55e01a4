-- What an edit reaches, decided.
use Rattle.std.specs.Prelude.{◌≡◌, ◌⊎◌, ◌↔◌, ◌<◌, ◌≤◌, ◌+◌, ℕ, zero, suc, Bool, true, false, ◌||◌, ◌==◌, List, [], ◌∷◌, ◌++◌, length, Option, Some, None, Contains}
use Rattle.std.specs.List.{list_any}
use Rattle.std.proofs.Common.{refl, sym, ap, subst, ◌∙◌, inl, inr, arith}
use Rattle.std.proofs.lemmas.Bool.Decides.{nat_tests}
use Rattle.std.proofs.lemmas.List.Elements.{Contains-append_left, Contains-append_right, Contains-push}
use Rattle.entity_types.specs.declared.entity.Entity.{Entity}
use Rattle.entity_types.specs.Entity.{uses_of}
use Rattle.project_store.specs.Entities.{numbers_of, entity_at}
use Rattle.project_store.specs.Inserts.{uses_at}
use Rattle.project_store.specs.Put.{put, put_all}
use Rattle.project_store.specs.Reach.{Reaches, root, used}
use Rattle.project_versions.specs.Reach.{leads, after, is_put, is_reached, Reach}

-- the number is among these
abbrev has : List ℕ → ℕ → Bool
has ns n = list_any (λ m. m == n) ns

no_way : false ≡ true → ⊥
no_way e = cc

or_cases : (a b : Bool) → (a || b) ≡ true → (a ≡ true) ⊎ (b ≡ true)
or_cases true b e = inl refl
or_cases false b e = inr e

or_left : (a b : Bool) → a ≡ true → (a || b) ≡ true
or_left true b e = refl
or_left false b e = absurd (no_way e)

or_right : (a b : Bool) → b ≡ true → (a || b) ≡ true
or_right true b e = refl
or_right false b e = e

-- ---- some of a list

any_map : (f g : ℕ → Bool) (ns : List ℕ) → ((n : ℕ) → f n ≡ true → g n ≡ true) → list_any f ns ≡ true → list_any g ns ≡ true
any_map f g [] h e = e
any_map f g (n ∷ ns) h e = elim (or_cases (f n) (list_any f ns) e) [ inl q ↦ or_left (g n) (list_any g ns) (h n q) | inr q ↦ or_right (g n) (list_any g ns) (any_map f g ns h q) ]

any_in : (f : ℕ → Bool) (ns : List ℕ) → list_any f ns ≡ true → (m : ℕ) × Contains ns m × (f m ≡ true)
any_in f [] e = absurd (no_way e)
any_in f (n ∷ ns) e =
    elim (or_cases (f n) (list_any f ns) e) [
      | inl q ↦ (n, Contains-append_left (n ∷ []) ns n (Contains-push [] n), q)
      | inr q ↦ (let z = any_in f ns q in (z.0, Contains-append_right (n ∷ []) ns z.0 z.1, z.2))
    ]

same : (m n : ℕ) → (m == n) ≡ true → m ≡ n
same m n e = grind (arith, nat_tests)

nothing_in : (m : ℕ) → Contains [] m → ⊥
nothing_in m (k, l, e) = omega (arith, l)

cons_cases : (n : ℕ) (ns : List ℕ) (m : ℕ) → Contains (n ∷ ns) m → (m ≡ n) ⊎ Contains ns m
cons_cases n ns m (zero, l, e) = inl (sym e)
cons_cases n ns m (suc k, l, e) = inr (k, (let f : k < length ns = omega (arith, l) in f), e)

-- ---- how many of a list

abbrev count_one : Bool → ℕ → ℕ
count_one true n = n + 1
count_one false n = n

abbrev counted : (ℕ → Bool) → List ℕ → ℕ
counted f [] = 0
counted f (n ∷ ns) = count_one (f n) (counted f ns)

add_one : (a b : Bool) (m n : ℕ) → (a ≡ true → b ≡ true) → m ≤ n → count_one a m ≤ count_one b n
add_one true true m n h l = omega (arith, l)
add_one true false m n h l = absurd (no_way (h refl))
add_one false true m n h l = omega (arith, l)
add_one false false m n h l = l

counted_few : (f : ℕ → Bool) (ns : List ℕ) → counted f ns ≤ length ns
counted_few f [] = omega arith
counted_few f (n ∷ ns) = few (f n) (counted f ns) (length ns) (counted_few f ns)
  where
    few : (b : Bool) (m k : ℕ) → m ≤ k → count_one b m ≤ suc k
    few true m k l = omega (arith, l)
    few false m k l = omega (arith, l)

-- ---- by more references

module _ (entities : ℕ → Option Entity) (goal : ℕ → Bool) where
  more_by : (k n : ℕ) → leads entities goal k n ≡ true → leads entities goal (suc k) n ≡ true
  more_by zero n h = or_left (goal n) (list_any (leads entities goal zero) (uses_at entities n)) h
  more_by (suc k) n h =
      elim (or_cases (goal n) (list_any (leads entities goal k) (uses_at entities n)) h) [
        | inl q ↦ or_left (goal n) (list_any (leads entities goal (suc k)) (uses_at entities n)) q
        | inr q ↦ or_right (goal n) (list_any (leads entities goal (suc k)) (uses_at entities n)) (any_map (leads entities goal k) (leads entities goal (suc k)) (uses_at entities n) (λ m r. more_by k m r) q)
      ]

  up_to : (k j n : ℕ) → k ≤ j → leads entities goal k n ≡ true → leads entities goal j n ≡ true
  up_to k zero n le h = let e : k ≡ 0 = omega (arith, le) in subst (λ (i : ℕ). leads entities goal i n ≡ true) e h
  up_to k (suc j) n le h = go (k == suc j) refl (λ l. up_to k j n l h)
    where
      go : (b : Bool) → (k == suc j) ≡ b → (k ≤ j → leads entities goal j n ≡ true) → leads entities goal (suc j) n ≡ true
      go true e rec = let f : k ≡ suc j = grind (arith, nat_tests) in subst (λ (i : ℕ). leads entities goal i n ≡ true) f h
      go false e rec = more_by j n (rec (let f : (k ≡ suc j) → ⊥ = λ q. (let g : (k == suc j) ≡ true = grind (arith, nat_tests) in no_way (sym e ∙ g)) in let g : k ≤ j = omega (arith, le, f) in g))

  goal_by : (k n : ℕ) → goal n ≡ true → leads entities goal k n ≡ true
  goal_by zero n h = h
  goal_by (suc k) n h = or_left (goal n) (list_any (leads entities goal k) (uses_at entities n)) h

  all_by : (k : ℕ) → ((n : ℕ) → leads entities goal (suc k) n ≡ true → leads entities goal k n ≡ true) → (i n : ℕ) → leads entities goal i n ≡ true → leads entities goal k n ≡ true
  all_by k s zero n h = goal_by k n h
  all_by k s (suc i) n h =
      s n (elim (or_cases (goal n) (list_any (leads entities goal i) (uses_at entities n)) h) [
        | inl q ↦ or_left (goal n) (list_any (leads entities goal k) (uses_at entities n)) q
        | inr q ↦ or_right (goal n) (list_any (leads entities goal k) (uses_at entities n)) (any_map (leads entities goal i) (leads entities goal k) (uses_at entities n) (λ m r. all_by k s i m r) q)
      ])

  fewer : (k : ℕ) (ds : List ℕ) → counted (leads entities goal k) ds ≤ counted (leads entities goal (suc k)) ds
  fewer k [] = omega arith
  fewer k (d ∷ ds) = add_one (leads entities goal k d) (leads entities goal (suc k) d) (counted (leads entities goal k) ds) (counted (leads entities goal (suc k)) ds) (more_by k d) (fewer k ds)

  -- at these numbers one reference more leads no further, or it leads further from one of them
  further : (k : ℕ) (ds : List ℕ) → ((n : ℕ) → has ds n ≡ true → leads entities goal (suc k) n ≡ true → leads entities goal k n ≡ true) ⊎ (counted (leads entities goal k) ds + 1 ≤ counted (leads entities goal (suc k)) ds)
  further k [] = inl (λ n h g. absurd (no_way h))
  further k (d ∷ ds) =
      choose (leads entities goal k d) (leads entities goal (suc k) d) (counted (leads entities goal k) ds) (counted (leads entities goal (suc k)) ds) refl refl (more_by k d) (fewer k ds)
      (further k ds)
    where
      choose : (a b : Bool) (m n : ℕ) → leads entities goal k d ≡ a → leads entities goal (suc k) d ≡ b → (leads entities goal k d ≡ true → leads entities goal (suc k) d ≡ true) → m ≤ n
          → ((n : ℕ) → has ds n ≡ true → leads entities goal (suc k) n ≡ true → leads entities goal k n ≡ true) ⊎ (m + 1 ≤ n)
          → ((n : ℕ) → has (d ∷ ds) n ≡ true → leads entities goal (suc k) n ≡ true → leads entities goal k n ≡ true) ⊎ (count_one (leads entities goal k d) m + 1 ≤ count_one (leads entities goal (suc k) d) n)
      choose true true m n ea eb up le (inl s) = inl (λ q h g. elim (or_cases (d == q) (has ds q) h) [ inl r ↦ subst (λ (i : ℕ). leads entities goal k i ≡ true) (same d q r) ea | inr r ↦ s q r g ])
      choose true true m n ea eb up le (inr c) = inr (rw (ea, eb) (let z : m + 1 + 1 ≤ n + 1 = omega (arith, c) in z))
      choose true false m n ea eb up le s = absurd (no_way (sym eb ∙ up ea))
      choose false true m n ea eb up le s = inr (rw (ea, eb) (let z : m + 1 ≤ n + 1 = omega (arith, le) in z))
      choose false false m n ea eb up le (inl s) = inl (λ q h g. elim (or_cases (d == q) (has ds q) h) [ inl r ↦ absurd (no_way (sym eb ∙ subst (λ (i : ℕ). leads entities goal (suc k) i ≡ true) (sym (same d q r)) g)) | inr r ↦ s q r g ])
      choose false false m n ea eb up le (inr c) = inr (rw (ea, eb) c)

  climb : (ds : List ℕ) (j : ℕ) → ((k : ℕ) × (k ≤ j) × ((n : ℕ) → has ds n ≡ true → leads entities goal (suc k) n ≡ true → leads entities goal k n ≡ true)) ⊎ (j ≤ counted (leads entities goal j) ds)
  climb ds zero = inr (omega arith)
  climb ds (suc j) =
      elim (climb ds j) [
        | inl z ↦ inl (z.0, (let le : z.0 ≤ suc j = omega (arith, z.1) in le), z.2)
        | inr c ↦ elim (further j ds) [ inl s ↦ inl (j, (let le : j ≤ suc j = omega arith in le), s) | inr d ↦ inr (let le : suc j ≤ counted (leads entities goal (suc j)) ds = omega (arith, c, d) in le) ]
      ]

  outside : (ds : List ℕ) (k n : ℕ) → ((m : ℕ) → has ds m ≡ false → uses_at entities m ≡ []) → has ds n ≡ false → leads entities goal (suc k) n ≡ true → leads entities goal k n ≡ true
  outside ds k n none out h = goal_by k n (elim (or_cases (goal n) (list_any (leads entities goal k) (uses_at entities n)) h) [ inl q ↦ q | inr q ↦ absurd (no_way (rw (none n out) at q)) ])

  -- where only these numbers use any, as many references as they are, and one more, lead as far as any
  pub far_enough : (ds : List ℕ) → ((m : ℕ) → has ds m ≡ false → uses_at entities m ≡ []) → (i n : ℕ) → leads entities goal i n ≡ true → leads entities goal (length ds + 1) n ≡ true
  far_enough ds none i n h =
      elim (climb ds (length ds + 1)) [
        | inl z ↦ up_to z.0 (length ds + 1) n z.1 (all_by z.0 (λ m g. inside z.0 z.2 m g) i n h)
        | inr c ↦ absurd (let l : counted (leads entities goal (length ds + 1)) ds ≤ length ds = counted_few (leads entities goal (length ds + 1)) ds in let f : ⊥ = omega (arith, c, l) in f)
      ]
    where
      inside : (k : ℕ) → ((n : ℕ) → has ds n ≡ true → leads entities goal (suc k) n ≡ true → leads entities goal k n ≡ true) → (m : ℕ) → leads entities goal (suc k) m ≡ true → leads entities goal k m ≡ true
      inside k s m g = go (has ds m) refl
        where
          go : (b : Bool) → has ds m ≡ b → leads entities goal k m ≡ true
          go true e = s m e g
          go false e = outside ds k m none e g

-- ---- and the closure

uses_there : (entities : ℕ → Option Entity) (m r : ℕ) (entity : Entity) → entities m ≡ Some entity → Contains (uses_of entity) r → Contains (uses_at entities m) r
uses_there entities m r entity e c = rw e c

any_there : (f : ℕ → Bool) (ns : List ℕ) (m : ℕ) → Contains ns m → f m ≡ true → list_any f ns ≡ true
any_there f [] m c h = absurd (nothing_in m c)
any_there f (n ∷ ns) m c h =
    elim (cons_cases n ns m c) [ inl q ↦ or_left (f n) (list_any f ns) (subst (λ (i : ℕ). f i ≡ true) q h) | inr q ↦ or_right (f n) (list_any f ns) (any_there f ns m q h) ]

pub into : (entities : ℕ → Option Entity) (goal : ℕ → Bool) (n m : ℕ) → Reaches entities n m → (j : ℕ) → leads entities goal j m ≡ true → (k : ℕ) × (leads entities goal k n ≡ true)
into entities goal n m root j h = (j, h)
into entities goal n _ (used m r entity p e c) j h =
    into entities goal n m p (suc j) (or_right (goal m) (list_any (leads entities goal j) (uses_at entities m)) (any_there (leads entities goal j) (uses_at entities m) r (uses_there entities m r entity e c) h))

pub prepend : (entities : ℕ → Option Entity) (n r m : ℕ) (entity : Entity) → entities n ≡ Some entity → Contains (uses_of entity) r → Reaches entities r m → Reaches entities n m
prepend entities n r _ entity e c root = used n r entity root e c
prepend entities n r _ entity e c (used k m other p f d) = used k m other (prepend entities n r k entity e c p) f d

pub out_of : (entities : ℕ → Option Entity) (goal : ℕ → Bool) (k n : ℕ) → leads entities goal k n ≡ true → (m : ℕ) × Reaches entities n m × (goal m ≡ true)
out_of entities goal zero n h = (n, root, h)
out_of entities goal (suc k) n h =
    elim (or_cases (goal n) (list_any (leads entities goal k) (uses_at entities n)) h) [
      | inl q ↦ (n, root, q)
      | inr q ↦ (let z = any_in (leads entities goal k) (uses_at entities n) q in let y = out_of entities goal k z.0 z.2 in (y.0, step z.0 y.0 (entities n) refl z.1 y.1, y.2))
    ]
  where
    step : (r m : ℕ) (o : Option Entity) → entities n ≡ o → Contains (uses_at entities n) r → Reaches entities r m → Reaches entities n m
    step r m None e c p = absurd (nothing_in r (rw e at c))
    step r m (Some entity) e c p = prepend entities n r m entity e (rw e at c) p

-- ---- of a store with items put

has_append : (ms ns : List ℕ) (n : ℕ) → has (ms ++ ns) n ≡ false → (has ms n ≡ false) × (has ns n ≡ false)
has_append [] ns n h = (refl, h)
has_append (m ∷ ms) ns n h = go (m == n) refl (has_append ms ns n)
  where
    go : (b : Bool) → (m == n) ≡ b → (has (ms ++ ns) n ≡ false → (has ms n ≡ false) × (has ns n ≡ false)) → (has (m ∷ ms) n ≡ false) × (has ns n ≡ false)
    go true e rec = absurd (no_way (let f : (true || has (ms ++ ns) n) ≡ false = rw e at h in sym f))
    go false e rec = let z = rec (rw e at h) in (rw e z.0, z.1)

none_found : (store : List Entity) (n : ℕ) → has (numbers_of store) n ≡ false → entity_at store n ≡ None
none_found [] n h = refl
none_found (x ∷ store) n h = go (x.number == n) refl (none_found store n)
  where
    go : (b : Bool) → (x.number == n) ≡ b → (has (numbers_of store) n ≡ false → entity_at store n ≡ None) → entity_at (x ∷ store) n ≡ None
    go true e rec = absurd (no_way (let f : (true || has (numbers_of store) n) ≡ false = rw e at h in sym f))
    go false e rec = let f : (n == x.number) ≡ false = grind (arith, nat_tests) in rw f (rec (rw e at h))

none_put : (entities : ℕ → Option Entity) (items : List Entity) (n : ℕ) → entities n ≡ None → has (numbers_of items) n ≡ false → put_all entities items n ≡ None
none_put entities [] n e h = e
none_put entities (x ∷ items) n e h = go (x.number == n) refl (none_put (put entities x) items n)
  where
    go : (b : Bool) → (x.number == n) ≡ b → (put entities x n ≡ None → has (numbers_of items) n ≡ false → put_all (put entities x) items n ≡ None) → put_all entities (x ∷ items) n ≡ None
    go true f rec = absurd (no_way (let g : (true || has (numbers_of items) n) ≡ false = rw f at h in sym g))
    go false f rec = let g : (n == x.number) ≡ false = grind (arith, nat_tests) in rec (rw g e) (rw f at h)

numbers_append : (store items : List Entity) → numbers_of (store ++ items) ≡ numbers_of store ++ numbers_of items
numbers_append [] items = refl
numbers_append (x ∷ store) items = ap (λ (ns : List ℕ). x.number ∷ ns) (numbers_append store items)

length_numbers : (store : List Entity) → length (numbers_of store) ≡ length store
length_numbers [] = refl
length_numbers (x ∷ store) = ap suc (length_numbers store)

uses_none : (store items : List Entity) (m : ℕ) → has (numbers_of (store ++ items)) m ≡ false → uses_at (after store items) m ≡ []
uses_none store items m h =
    let z = has_append (numbers_of store) (numbers_of items) m (rw (numbers_append store items) at h) in
    rw (none_put (entity_at store) items m (none_found store m z.0) z.1) refl

pub decided : (store items : List Entity) (n : ℕ) → (is_reached store items n ≡ true) ↔ Reach store items n
decided store items n = (
  λ h. out_of (after store items) (is_put items) (length (store ++ items) + 1) n h,
  λ z. (let y = into (after store items) (is_put items) n z.0 z.1 0 z.2 in
      let f = far_enough (after store items) (is_put items) (numbers_of (store ++ items)) (uses_none store items) y.0 n y.1 in
      subst (λ (i : ℕ). leads (after store items) (is_put items) (i + 1) n ≡ true) (length_numbers (store ++ items)) f),
)

both : (a b : Bool) → (a ≡ true → b ≡ true) → (b ≡ true → a ≡ true) → a ≡ b
both true true h g = refl
both true false h g = sym (h refl)
both false true h g = g refl
both false false h g = refl

-- the closure, asked for what the edit puts
pub reached_is : (store items : List Entity) (numbers : List ℕ) (n : ℕ) → ((m : ℕ) → Contains numbers m ↔ Reaches (after store items) n m) → list_any (is_put items) numbers ≡ is_reached store items n
reached_is store items numbers n members =
    both (list_any (is_put items) numbers) (is_reached store items n)
    (λ h. (let z = any_in (is_put items) numbers h in (decided store items n).1 (z.0, (members z.0).0 z.1, z.2)))
    (λ h. (let z = (decided store items n).0 h in any_there (is_put items) numbers z.0 ((members z.0).1 z.1) z.2))

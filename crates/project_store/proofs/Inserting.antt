-- Numbers put into a set in turn.
use Rattle.std.proofs.Common.{◌≡◌, ℕ, zero, suc, ◌+◌, ◌<◌, ◌≤◌, ◌⊎◌, inl, inr, Bool, true, false, cond, nat_eq, List, [], ◌∷◌, ◌++◌, length, get_or, drop, refl, ap, sym, subst, ◌∙◌, arith, length-append}
use Rattle.std.specs.Prelude.{Contains, slice_get, flat_map}
use Rattle.std.proofs.lemmas.Bool.Decides.{nat_tests}
use Rattle.std.proofs.lemmas.List.Elements.{Contains-append_left, Contains-append_right, Contains-append_cases, Contains-push, Contains-push_cases}
use Rattle.std.proofs.lemmas.Cmp.{nat_eq_equiv}
use Rattle.std.proofs.lemmas.List.{at_drop_more}
use Rattle.std.proofs.lemmas.Map.Views.{Contains-from_any, list_any-from_Contains}
use Rattle.entity_types.specs.declared.field.Field.{Field}
use Rattle.entity_types.specs.Entity.{references_of}
use Rattle.project_store.specs.Inserts.{is_among, insert_number, insert_all}

same : (x y : ℕ) → nat_eq x y ≡ true → x ≡ y
same x y h = grind (arith, nat_tests)

-- a number is there, or goes last
insert_cases : (b : Bool) (ks : List ℕ) (n : ℕ) → (cond b ks (ks ++ n ∷ []) ≡ ks) ⊎ (cond b ks (ks ++ n ∷ []) ≡ ks ++ n ∷ [])
insert_cases true ks n = inl refl
insert_cases false ks n = inr refl

inserted : (ks : List ℕ) (n : ℕ) → (insert_number ks n ≡ ks) ⊎ (insert_number ks n ≡ ks ++ n ∷ [])
inserted ks n = insert_cases (is_among ks n) ks n

old_by : (ks new : List ℕ) (n m : ℕ) → (new ≡ ks) ⊎ (new ≡ ks ++ n ∷ []) → Contains ks m → Contains new m
old_by ks new n m (inl e) h = subst (λ l. Contains l m) (sym e) h
old_by ks new n m (inr e) h = subst (λ l. Contains l m) (sym e) (Contains-append_left ks (n ∷ []) m h)

back_by : (ks new : List ℕ) (n m : ℕ) → (new ≡ ks) ⊎ (new ≡ ks ++ n ∷ []) → Contains new m → Contains ks m ⊎ (n ≡ m)
back_by ks new n m (inl e) h = inl (subst (λ l. Contains l m) e h)
back_by ks new n m (inr e) h = Contains-push_cases ks n m (subst (λ l. Contains l m) e h)

slice_get-append : (ks ls : List ℕ) (k : ℕ) → k < length ks → slice_get (ks ++ ls) k ≡ slice_get ks k
slice_get-append [] ls k h = absurd (omega arith)
slice_get-append (x ∷ ks) ls zero h = refl
slice_get-append (x ∷ ks) ls (suc k) h = slice_get-append ks ls k (omega arith)

place_by : (ks new : List ℕ) (n k : ℕ) → (new ≡ ks) ⊎ (new ≡ ks ++ n ∷ []) → k < length ks → slice_get new k ≡ slice_get ks k
place_by ks new n k (inl e) h = ap (λ l. slice_get l k) e
place_by ks new n k (inr e) h = ap (λ l. slice_get l k) e ∙ slice_get-append ks (n ∷ []) k h

length_by : (ks new : List ℕ) (n : ℕ) → (new ≡ ks) ⊎ (new ≡ ks ++ n ∷ []) → length ks ≤ length new
length_by ks new n (inl e) = subst (λ l. length ks ≤ length l) (sym e) (omega arith)
length_by ks new n (inr e) = subst (λ l. length ks ≤ length l) (sym e) (omega (arith, length-append ks (n ∷ [])))

-- a number is among those that hold it
pub among_holds : (ks : List ℕ) (n : ℕ) → is_among ks n ≡ true → Contains ks n
among_holds ks n h = Contains-from_any same n ks h

pub holds_among : (ks : List ℕ) (n : ℕ) → Contains ks n → is_among ks n ≡ true
holds_among ks n h = list_any-from_Contains nat_eq_equiv n ks h

-- what is put is there
put_in : (ks : List ℕ) (n : ℕ) → Contains (insert_number ks n) n
put_in ks n = by (is_among ks n) (among_holds ks n)
  where
    by : (b : Bool) → (b ≡ true → Contains ks n) → Contains (cond b ks (ks ++ n ∷ [])) n
    by true h = h refl
    by false h = Contains-push ks n

-- what was there stays
pub Contains-old : (ks rs : List ℕ) (m : ℕ) → Contains ks m → Contains (insert_all ks rs) m
Contains-old ks [] m h = h
Contains-old ks (r ∷ rs) m h = Contains-old (insert_number ks r) rs m (old_by ks _ r m (inserted ks r) h)

pub none_there : (m : ℕ) → Contains [] m → ⊥
none_there m h = absurd (omega (arith, h.1))

pub only_there : (r m : ℕ) → Contains (r ∷ []) m → r ≡ m
only_there r m h = elim (Contains-push_cases [] r m h) [ inl n ↦ absurd (none_there m n) | inr e ↦ e ]

-- all that is put is there
pub Contains-new : (ks rs : List ℕ) (m : ℕ) → Contains rs m → Contains (insert_all ks rs) m
Contains-new ks [] m h = absurd (none_there m h)
Contains-new ks (r ∷ rs) m h =
    elim (Contains-append_cases (r ∷ []) rs m h) [
      | inl one ↦ subst (Contains (insert_all ks (r ∷ rs))) (only_there r m one) (Contains-old (insert_number ks r) rs r (put_in ks r))
      | inr more ↦ Contains-new (insert_number ks r) rs m more
    ]

-- nothing else is there
pub Contains-back : (ks rs : List ℕ) (m : ℕ) → Contains (insert_all ks rs) m → Contains ks m ⊎ Contains rs m
Contains-back ks [] m h = inl h
Contains-back ks (r ∷ rs) m h =
    elim (Contains-back (insert_number ks r) rs m h) [
      | inl there ↦ elim (back_by ks _ r m (inserted ks r) there) [
        | inl old ↦ inl old
        | inr e ↦ inr (subst (Contains (r ∷ rs)) e (Contains-append_left (r ∷ []) rs r (Contains-push [] r)))
      ]
      | inr more ↦ inr (Contains-append_right (r ∷ []) rs m more)
    ]

-- each keeps its place
pub slice_get-insert_all : (ks rs : List ℕ) (k : ℕ) → k < length ks → slice_get (insert_all ks rs) k ≡ slice_get ks k
slice_get-insert_all ks [] k h = refl
slice_get-insert_all ks (r ∷ rs) k h =
    let l = length_by ks _ r (inserted ks r) in
    slice_get-insert_all (insert_number ks r) rs k (omega (arith, l)) ∙ place_by ks _ r k (inserted ks r) h

pub length-insert_all : (ks rs : List ℕ) → length ks ≤ length (insert_all ks rs)
length-insert_all ks [] = omega arith
length-insert_all ks (r ∷ rs) = omega (arith, length_by ks _ r (inserted ks r), length-insert_all (insert_number ks r) rs)

pub insert_all-append : (ks xs ys : List ℕ) → insert_all ks (xs ++ ys) ≡ insert_all (insert_all ks xs) ys
insert_all-append ks [] ys = refl
insert_all-append ks (x ∷ xs) ys = insert_all-append (insert_number ks x) xs ys

-- where what the field at index i refers to is put
pub uses_step : (ks : List ℕ) (fields : List Field) (i : ℕ) (field : Field) → i < length fields → field ≡ get_or fields i field
    → insert_all (insert_all ks (references_of field)) (flat_map references_of (drop (i + 1) fields)) ≡ insert_all ks (flat_map references_of (drop i fields))
uses_step ks fields i field l h =
    let rest = flat_map references_of (drop (i + 1) fields) in
    ap (λ f. insert_all (insert_all ks (references_of f)) rest) h
    ∙ sym (insert_all-append ks (references_of (get_or fields i field)) rest)
    ∙ sym (at_drop_more (λ fs. insert_all ks (flat_map references_of fs)) fields i field l)

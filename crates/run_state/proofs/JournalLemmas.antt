-- The entries so far are the first of a journal's, and those to come the others.
use Rattle.std.specs.Prelude.{◌≡◌, ◌<◌, ◌≤◌, ◌+◌, ◌++◌, ◌∷◌, [], ℕ, zero, suc, List, length, take, drop}
use Rattle.std.proofs.Common.{refl, sym, ap, ◌∙◌, arith}
use Rattle.run_log.specs.declared.entry.Entry.{Entry}
use Rattle.run_state.specs.Pages.{Pages, IsFirstOf}

none_some : (y : Entry) (ys : List Entry) → [] ≡ y ∷ ys → ⊥
none_some y ys e = cc

-- where none is to come, all are entries so far
pub drop_none : (k : ℕ) (xs : List Entry) → drop k xs ≡ [] → length xs ≤ k
drop_none zero [] e = omega arith
drop_none zero (x ∷ xs) e = absurd (none_some x xs (sym e))
drop_none (suc k) [] e = omega arith
drop_none (suc k) (x ∷ xs) e = let rec = drop_none k xs e in omega (arith, rec)

pub take_all : (k : ℕ) (xs : List Entry) → length xs ≤ k → take k xs ≡ xs
take_all zero [] l = refl
take_all (suc k) [] l = refl
take_all zero (x ∷ xs) l = absurd (omega (arith, l))
take_all (suc k) (x ∷ xs) l = ap (λ (u : List Entry). x ∷ u) (take_all k xs (omega (arith, l)))

drop_all : (k : ℕ) (xs : List Entry) → length xs ≤ k → drop k xs ≡ []
drop_all zero [] l = refl
drop_all (suc k) [] l = refl
drop_all zero (x ∷ xs) l = absurd (omega (arith, l))
drop_all (suc k) (x ∷ xs) l = drop_all k xs (omega (arith, l))

-- with the first of those to come, the entries so far are one more
take_suc : (k : ℕ) (xs : List Entry) (y : Entry) (ys : List Entry) → drop k xs ≡ y ∷ ys → take (suc k) xs ≡ take k xs ++ y ∷ []
take_suc zero [] y ys e = absurd (none_some y ys e)
take_suc (suc k) [] y ys e = absurd (none_some y ys e)
take_suc zero (x ∷ xs) y ys e = let h : x ≡ y = cc in rw h refl
take_suc (suc k) (x ∷ xs) y ys e = ap (λ (u : List Entry). x ∷ u) (take_suc k xs y ys e)

drop_suc : (k : ℕ) (xs : List Entry) → drop (suc k) xs ≡ drop 1 (drop k xs)
drop_suc zero [] = refl
drop_suc (suc k) [] = refl
drop_suc zero (x ∷ xs) = refl
drop_suc (suc k) (x ∷ xs) = drop_suc k xs

one_more : (k : ℕ) → suc k ≡ k + 1
one_more k = omega arith

-- what a journal shows with so many of its entries so far
abbrev pub pages_at : ℕ → List Entry → ℕ → Pages
pages_at count items room = record { list = take count items; coming = drop count items; room = room }

-- the same with one entry more
abbrev pub turned : Pages → Entry → Pages
turned p x = record { list = p.list ++ x ∷ []; coming = drop 1 p.coming; room = p.room }

same_pages : (a b c d : List Entry) (room : ℕ) → a ≡ b → c ≡ d → (let p : Pages = record { list = a; coming = c; room = room } in p) ≡ (let p : Pages = record { list = b; coming = d; room = room } in p)
same_pages a b c d room e f = rw (e, f) refl

-- an entry is put behind all
pub pushed : (count room : ℕ) (items : List Entry) (x : Entry) → count ≡ length items → pages_at (count + 1) (items ++ x ∷ []) room ≡ turned (pages_at count items room) x
pushed count room items x e =
    let longer : length (items ++ x ∷ []) ≡ length items + 1 = long items in
    same_pages (take (count + 1) (items ++ x ∷ [])) (take count items ++ x ∷ []) (drop (count + 1) (items ++ x ∷ [])) (drop 1 (drop count items)) room
    (take_all (count + 1) (items ++ x ∷ []) (omega (arith, e, longer)) ∙ ap (λ (u : List Entry). u ++ x ∷ []) (sym (take_all count items (omega (arith, e)))))
    (drop_all (count + 1) (items ++ x ∷ []) (omega (arith, e, longer)) ∙ ap (λ (u : List Entry). drop 1 u) (sym (drop_all count items (omega (arith, e)))))
  where
    long : (xs : List Entry) → length (xs ++ x ∷ []) ≡ length xs + 1
    long [] = refl
    long (y ∷ xs) = let rec = long xs in omega (arith, rec)

-- the first of those to come is passed
pub passed : (count room : ℕ) (items : List Entry) (x : Entry) → (count ≡ length items → ⊥) → count ≤ length items → IsFirstOf (drop count items) (take count items) room x → pages_at (count + 1) items room ≡ turned (pages_at count items room) x
passed count room items x apart within first = go (drop count items) refl first
  where
    go : (later : List Entry) → drop count items ≡ later → IsFirstOf later (take count items) room x → pages_at (count + 1) items room ≡ turned (pages_at count items room) x
    go [] e f = absurd (apart (let l = drop_none count items e in omega (arith, l, within)))
    go (y ∷ later) e f =
        same_pages (take (count + 1) items) (take count items ++ x ∷ []) (drop (count + 1) items) (drop 1 (drop count items)) room
        (ap (λ (k : ℕ). take k items) (sym (one_more count)) ∙ take_suc count items y later e ∙ ap (λ (z : Entry). take count items ++ z ∷ []) f) (ap (λ (k : ℕ). drop k items) (sym (one_more count)) ∙ drop_suc count items)

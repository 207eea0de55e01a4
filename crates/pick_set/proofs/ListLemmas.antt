-- Parts of lists, and which numbers stand in them.
use Rattle.std.specs.Prelude.{◌≡◌, ◌<◌, ◌≤◌, ◌+◌, ◌-◌, ◌==◌, ◌||◌, ℕ, zero, suc, Bool, true, false, List, [], ◌∷◌, ◌++◌, map, length, take, drop, get_or, set}
use Rattle.std.proofs.Common.{refl, sym, ◌∙◌, ap, arith}
use Rattle.std.specs.List.{list_any}
use Rattle.std.proofs.lemmas.List.{length-take-le, length-drop, get_or-take, get_or-drop, drop-set-lt, drop-set-add, take-set-le, take_more_set}
use Rattle.std.proofs.lemmas.List.Folds.{list_any_at}
use Rattle.std.proofs.lemmas.Bool.Decides.{nat_tests}
use Rattle.pick_set.specs.Picks.{is_picked}
use Rattle.pick_set.specs.Rows.{window}

pub clash : (b : Bool) → b ≡ true → b ≡ false → ⊥
clash b h g = (let w : true ≡ false = sym h ∙ g in cc)

pub same_number : (a b : ℕ) → (a == b) ≡ true → a ≡ b
same_number a b h = grind (arith, nat_tests)

pub same_test : (a b : ℕ) → a ≡ b → (a == b) ≡ true
same_test a b h = grind (arith, nat_tests)

-- ---- so many items from one on

pub window_length : (from many : ℕ) (l : List ℕ) → from + many ≤ length l → length (window from many l) ≡ many
window_length from many l h = length-take-le many (drop from l) (let e = length-drop from l in omega arith)

pub window_at : (from many i : ℕ) (l : List ℕ) → i < many → get_or (window from many l) i 0 ≡ get_or l (from + i) 0
window_at from many i l h = get_or-take many (drop from l) i 0 h ∙ get_or-drop from l i 0

-- an item that is written behind them
pub window_more : (from many x : ℕ) (l : List ℕ) → from + many < length l → window from (many + 1) (set l (from + many) x) ≡ window from many l ++ x ∷ []
window_more from many x l h =
    ap (take (many + 1)) (drop-set-add from l many x)
    ∙ take_more_set (drop from l) many x (let e = length-drop from l in omega arith)

-- one that is written outside
pub window_before : (from many i x : ℕ) (l : List ℕ) → i < from → window from many (set l i x) ≡ window from many l
window_before from many i x l h = ap (take many) (drop-set-lt from l i x h)

pub window_behind : (from many i x : ℕ) (l : List ℕ) → from + many ≤ i → window from many (set l i x) ≡ window from many l
window_behind from many i x l h =
    let k : from + (i - from) ≡ i = omega arith in
    let e : set l i x ≡ set l (from + (i - from)) x = ap (λ (j : ℕ). set l j x) (sym k) in
    ap (window from many) e
    ∙ (ap (take many) (drop-set-add from l (i - from) x) ∙ take-set-le many (drop from l) (i - from) x (omega arith))

-- ---- which numbers stand in a list

pub any_where : (p : ℕ → Bool) (ks : List ℕ) → list_any p ks ≡ true → (i : ℕ) × (i < length ks) × (p (get_or ks i 0) ≡ true)
any_where p [] h = absurd (let w : false ≡ true = h in cc)
any_where p (j ∷ ks) h = go (p j) refl (any_where p ks)
  where
    go : (b : Bool) → p j ≡ b → (list_any p ks ≡ true → (i : ℕ) × (i < length ks) × (p (get_or ks i 0) ≡ true)) → (i : ℕ) × (i < suc (length ks)) × (p (get_or (j ∷ ks) i 0) ≡ true)
    go true e rec = (0, omega arith, e)
    go false e rec = let r = rec (sym (ap (λ (b : Bool). b || list_any p ks) e) ∙ h) in (suc r.0, (let l = r.1 in omega arith), r.2)

pub picked_where : (ks : List ℕ) (k : ℕ) → is_picked ks k ≡ true → (i : ℕ) × (i < length ks) × (get_or ks i 0 ≡ k)
picked_where ks k h = let r = any_where (λ j. j == k) ks h in (r.0, r.1, same_number (get_or ks r.0 0) k r.2)

pub picked_at : (ks : List ℕ) (k i : ℕ) → i < length ks → get_or ks i 0 ≡ k → is_picked ks k ≡ true
picked_at ks k i h e = list_any_at (λ j. j == k) ks i 0 h (same_test (get_or ks i 0) k e)

pub not_picked_at : (ks : List ℕ) (k i : ℕ) → is_picked ks k ≡ false → i < length ks → get_or ks i 0 ≡ k → ⊥
not_picked_at ks k i n h e = clash (is_picked ks k) (picked_at ks k i h e) n

pub picked_more : (ks : List ℕ) (k j : ℕ) → is_picked (ks ++ k ∷ []) j ≡ (is_picked ks j || (k == j))
picked_more [] k j = or_false (k == j)
  where
    or_false : (b : Bool) → (b || false) ≡ b
    or_false true = refl
    or_false false = refl
picked_more (i ∷ ks) k j = ap (λ (b : Bool). (i == j) || b) (picked_more ks k j) ∙ again (i == j) (is_picked ks j) (k == j)
  where
    again : (a b c : Bool) → (a || (b || c)) ≡ ((a || b) || c)
    again true b c = refl
    again false b c = refl

-- ---- two lists made item by item

pub map_alike : {A : Type 0} {B : Type 0} (f g : A → B) (d : A) (xs : List A) → ((q : ℕ) → q < length xs → f (get_or xs q d) ≡ g (get_or xs q d)) → map f xs ≡ map g xs
map_alike f g d [] h = refl
map_alike {A} {B} f g d (x ∷ xs) h =
    ap (λ (y : B). y ∷ map f xs) (h 0 (omega arith)) ∙ ap (λ (ys : List B). g x ∷ ys) (map_alike f g d xs (λ q l. h (suc q) (omega arith)))

pub set_alike : {A : Type 0} {B : Type 0} (f g : A → B) (d : A) (xs : List A) (p : ℕ) (y : B) → ((q : ℕ) → q < length xs → (q ≡ p → ⊥) → f (get_or xs q d) ≡ g (get_or xs q d)) → set (map f xs) p y ≡ set (map g xs) p y
set_alike f g d [] p y h = refl
set_alike {A} {B} f g d (x ∷ xs) zero y h = ap (λ (ys : List B). y ∷ ys) (map_alike f g d xs (λ q l. h (suc q) (omega arith) (λ e. omega (arith, e))))
set_alike {A} {B} f g d (x ∷ xs) (suc p) y h =
    ap (λ (z : B). z ∷ set (map f xs) p y) (h 0 (omega arith) (λ e. omega (arith, e)))
    ∙ ap (λ (ys : List B). g x ∷ ys) (set_alike f g d xs p y (λ q l n. h (suc q) (omega arith) (λ e. n (omega (arith, e)))))

-- Places sorted into sets by their classes.
use Rattle.std.specs.Prelude.{◌≡◌, ◌<◌, ◌≤◌, ◌+◌, ◌==◌, ◌||◌, ◌&&◌, not, nat_lt, if◌then◌else◌, ℕ, zero, suc, Bool, true, false, List, [], ◌∷◌, ◌++◌, length, take, drop, slice_set, Option, Some, None, MatchOption}
use Rattle.std.proofs.Common.{refl, sym, ◌∙◌, ap, subst, arith}
use Rattle.std.proofs.lemmas.Bool.Decides.{nat_tests}
use Rattle.std.specs.Global.{Vec}
use Rattle.std.specs.Vec.{with_items}
use Rattle.place_set.specs.Words.{holds}
use Rattle.place_set.specs.declared.set.TheConstants.{MAX_PLACES}
use Rattle.place_classes.specs.declared.class.Class.{Class}
use Rattle.place_classes.specs.Classes.{IsClass, index_of, class_at, set_at, least_of, AreSorted, is_in_channel}

-- ---- lists

whole_list : {A : Type 0} (n : ℕ) (l : List A) → length l ≡ n → take n l ≡ l
whole_list zero [] h = refl
whole_list (suc n) [] h = refl
whole_list zero (x ∷ l) h = absurd (omega (arith, h))
whole_list {A} (suc n) (x ∷ l) h = ap (λ (w : List A). x ∷ w) (whole_list n l (omega (arith, h)))

none_behind : {A : Type 0} (n : ℕ) (l : List A) → length l ≡ n → drop n l ≡ []
none_behind zero [] h = refl
none_behind (suc n) [] h = refl
none_behind zero (x ∷ l) h = absurd (omega (arith, h))
none_behind (suc n) (x ∷ l) h = none_behind n l (omega (arith, h))

append_none : {A : Type 0} (l : List A) → l ++ [] ≡ l
append_none [] = refl
append_none {A} (x ∷ l) = ap (λ (w : List A). x ∷ w) (append_none l)

-- as many as there were stand in their place
pub stand_in : {A : Type 0} (v : Vec A) (ws : List A) → length ws ≡ length v.items → (with_items v ws).items ≡ ws
stand_in {A} v ws h =
    let long : length ws ≡ v.len = h ∙ sym v.ok.0 in
    ap (λ (l : List A). take v.len (ws ++ l)) (none_behind (length ws) v.items (sym h)) ∙ (ap (take v.len) (append_none ws) ∙ whole_list v.len ws long)

pub class_set : (classes : List Class) (p : ℕ) (k : Class) → p < length classes → class_at (slice_set classes p k) p ≡ k
class_set [] p k h = absurd (omega (arith, h))
class_set (x ∷ classes) zero k h = refl
class_set (x ∷ classes) (suc p) k h = class_set classes p k (omega (arith, h))

pub class_other : (classes : List Class) (p r : ℕ) (k : Class) → (p ≡ r → ⊥) → class_at (slice_set classes p k) r ≡ class_at classes r
class_other [] p r k h = refl
class_other (x ∷ classes) zero zero k h = absurd (h refl)
class_other (x ∷ classes) zero (suc r) k h = refl
class_other (x ∷ classes) (suc p) zero k h = refl
class_other (x ∷ classes) (suc p) (suc r) k h = class_other classes p r k (λ e. h (ap suc e))

pub length_classes : (classes : List Class) (p : ℕ) (k : Class) → length (slice_set classes p k) ≡ length classes
length_classes [] p k = refl
length_classes (x ∷ classes) zero k = refl
length_classes (x ∷ classes) (suc p) k = ap suc (length_classes classes p k)

pub set_other : (sets : List (List ℕ)) (p r : ℕ) (s : List ℕ) → (p ≡ r → ⊥) → set_at (slice_set sets p s) r ≡ set_at sets r
set_other [] p r s h = refl
set_other (x ∷ sets) zero zero s h = absurd (h refl)
set_other (x ∷ sets) zero (suc r) s h = refl
set_other (x ∷ sets) (suc p) zero s h = refl
set_other (x ∷ sets) (suc p) (suc r) s h = set_other sets p r s (λ e. h (ap suc e))

pub set_same : (sets : List (List ℕ)) (p : ℕ) (s : List ℕ) → p < length sets → set_at (slice_set sets p s) p ≡ s
set_same [] p s h = absurd (omega (arith, h))
set_same (x ∷ sets) zero s h = refl
set_same (x ∷ sets) (suc p) s h = set_same sets p s (omega (arith, h))

-- ---- tests

pub clash : (b : Bool) → b ≡ true → b ≡ false → ⊥
clash b e f = (let w : true ≡ false = sym e ∙ f in cc)

same_test : (k i : ℕ) → (k == i) ≡ (i == k)
same_test k i = go (k == i) refl
  where
    go : (b : Bool) → (k == i) ≡ b → b ≡ (i == k)
    go true e = (let s : (i == k) ≡ true = grind (arith, nat_tests) in sym s)
    go false e = (let s : (i == k) ≡ false = grind (arith, nat_tests) in sym s)

equal : (q p : ℕ) → (q == p) ≡ true → q ≡ p
equal q p e = (let s : q ≡ p = grind (arith, nat_tests) in s)

apart : (q p : ℕ) → (q == p) ≡ false → p ≡ q → ⊥
apart q p e f = (let s : (q == p) ≡ true = grind (arith, nat_tests) in (let w : true ≡ false = sym s ∙ e in cc))

own_test : (n : ℕ) → (n == n) ≡ true
own_test n = (let s : (n == n) ≡ true = grind (arith, nat_tests) in s)

put : (a b h c : Bool) → (b ≡ true → c ≡ a) → ((a && b) || (h && c)) ≡ ((b || h) && c)
put a true h c f = subst (λ (x : Bool). ((a && true) || (h && x)) ≡ x) (sym (f refl)) (both a h)
  where
    both : (a h : Bool) → ((a && true) || (h && a)) ≡ a
    both true h = refl
    both false true = refl
    both false false = refl
put true false h c f = refl
put false false h c f = refl

took : (a b h c : Bool) → (b ≡ true → c ≡ a) → (not (a && b) && (h && c)) ≡ ((not b && h) && c)
took a true h c f = subst (λ (x : Bool). (not (a && true) && (h && x)) ≡ false) (sym (f refl)) (both a h)
  where
    both : (a h : Bool) → (not (a && true) && (h && a)) ≡ false
    both true h = refl
    both false true = refl
    both false false = refl
took true false h c f = refl
took false false h c f = refl

went : (a n b h c d : Bool) → (b ≡ true → (h ≡ true) × (c ≡ a) × (d ≡ n)) → (b ≡ false → d ≡ c) → ((n && b) || (not (a && b) && (h && c))) ≡ (h && d)
went a n true h c d f g = (let r = f refl in rw (r.0, r.1, r.2) (both a n))
  where
    both : (a n : Bool) → ((n && true) || (not (a && true) && (true && a))) ≡ (true && n)
    both true true = refl
    both true false = refl
    both false true = refl
    both false false = refl
went a n false h c d f g = rw (g refl) (both a n (h && c))
  where
    both : (a n w : Bool) → ((n && false) || (not (a && false) && w)) ≡ w
    both true true w = refl
    both true false w = refl
    both false true w = refl
    both false false w = refl

-- ---- sets that stay sorted

index_same : (classes : List Class) (p q k : ℕ) → (q == p) ≡ true → (index_of (class_at classes q) == k) ≡ (k == index_of (class_at classes p))
index_same classes p q k e = ap (λ (r : ℕ). index_of (class_at classes r) == k) (equal q p e) ∙ same_test (index_of (class_at classes p)) k

pub sorted_more : (all more : List ℕ) (sets after : List (List ℕ)) (classes : List Class) (p : ℕ) → AreSorted all sets classes → ((q : ℕ) → holds more q ≡ ((q == p) || holds all q)) → length after ≡ length sets
    → ((j q : ℕ) → holds (set_at after j) q ≡ (((j == index_of (class_at classes p)) && (q == p)) || holds (set_at sets j) q)) → AreSorted more after classes
sorted_more all more sets after classes p s a l b = record {
  few = s.few;
  long = l ∙ s.long;
  sorted = λ k q h. b k q ∙ (ap (λ (w : Bool). ((k == index_of (class_at classes p)) && (q == p)) || w) (s.sorted k q h)
      ∙ (put (k == index_of (class_at classes p)) (q == p) (holds all q) (index_of (class_at classes q) == k) (index_same classes p q k)
      ∙ ap (λ (w : Bool). w && (index_of (class_at classes q) == k)) (sym (a q))));
}

pub sorted_less : (all less : List ℕ) (sets after : List (List ℕ)) (classes : List Class) (p : ℕ) → AreSorted all sets classes → ((q : ℕ) → holds less q ≡ (not (q == p) && holds all q)) → length after ≡ length sets
    → ((j q : ℕ) → holds (set_at after j) q ≡ (not ((j == index_of (class_at classes p)) && (q == p)) && holds (set_at sets j) q)) → AreSorted less after classes
sorted_less all less sets after classes p s a l b = record {
  few = s.few;
  long = l ∙ s.long;
  sorted = λ k q h. b k q ∙ (ap (λ (w : Bool). not ((k == index_of (class_at classes p)) && (q == p)) && w) (s.sorted k q h)
      ∙ (took (k == index_of (class_at classes p)) (q == p) (holds all q) (index_of (class_at classes q) == k) (index_same classes p q k)
      ∙ ap (λ (w : Bool). w && (index_of (class_at classes q) == k)) (sym (a q))));
}

-- a place of the set is in that of its class
pub sorted_there : (all : List ℕ) (sets : List (List ℕ)) (classes : List Class) (p : ℕ) → AreSorted all sets classes → holds all p ≡ true → holds (set_at sets (index_of (class_at classes p))) p ≡ true
sorted_there all sets classes p s h =
    s.sorted (index_of (class_at classes p)) p (s.few p) ∙ (ap (λ (w : Bool). w && (index_of (class_at classes p) == index_of (class_at classes p))) h ∙ own_test (index_of (class_at classes p)))

few_after : (classes : List Class) (p : ℕ) (class : Class) → p < length classes → IsClass class → ((q : ℕ) → IsClass (class_at classes q)) → (q : ℕ) → IsClass (class_at (slice_set classes p class) q)
few_after classes p class l one few q = go (q == p) refl
  where
    go : (b : Bool) → (q == p) ≡ b → IsClass (class_at (slice_set classes p class) q)
    go true e = subst (λ (r : ℕ). IsClass (class_at (slice_set classes p class) r)) (sym (equal q p e)) (subst IsClass (sym (class_set classes p class l)) one)
    go false e = subst IsClass (sym (class_other classes p q class (apart q p e))) (few q)

pub sorted_moved : (all : List ℕ) (sets after : List (List ℕ)) (classes : List Class) (p : ℕ) (class : Class) → AreSorted all sets classes → holds all p ≡ true → p < length classes → IsClass class → length after ≡ length sets
    → ((j q : ℕ) → holds (set_at after j) q ≡ (((j == index_of class) && (q == p)) || (not ((j == index_of (class_at classes p)) && (q == p)) && holds (set_at sets j) q))) → AreSorted all after (slice_set classes p class)
sorted_moved all sets after classes p class s there l one long a = record {
  few = few_after classes p class l one s.few;
  long = long ∙ s.long;
  sorted = λ k q h. a k q
      ∙ (ap (λ (w : Bool). ((k == index_of class) && (q == p)) || (not ((k == index_of (class_at classes p)) && (q == p)) && w)) (s.sorted k q h)
      ∙ went (k == index_of (class_at classes p)) (k == index_of class) (q == p) (holds all q) (index_of (class_at classes q) == k) (index_of (class_at (slice_set classes p class) q) == k)
      (λ e. (
        subst (λ (r : ℕ). holds all r ≡ true) (sym (equal q p e)) there,
        index_same classes p q k e,
        ap (λ (r : ℕ). index_of (class_at (slice_set classes p class) r) == k) (equal q p e) ∙ (ap (λ (w : Class). index_of w == k) (class_set classes p class l) ∙ same_test (index_of class) k),
      ))
      (λ e. ap (λ (w : Class). index_of w == k) (class_other classes p q class (apart q p e))));
}

pub sorted_outside : (all : List ℕ) (sets : List (List ℕ)) (classes : List Class) (p : ℕ) (class : Class) → AreSorted all sets classes → holds all p ≡ false → p < length classes → IsClass class → AreSorted all sets (slice_set classes p class)
sorted_outside all sets classes p class s out l one = record {
  few = few_after classes p class l one s.few;
  long = s.long;
  sorted = λ k q h. s.sorted k q h ∙ go k q (q == p) refl;
}
  where
    go : (k q : ℕ) (b : Bool) → (q == p) ≡ b → (holds all q && (index_of (class_at classes q) == k)) ≡ (holds all q && (index_of (class_at (slice_set classes p class) q) == k))
    go k q true e =
        let none : holds all q ≡ false = ap (holds all) (equal q p e) ∙ out in
        ap (λ (w : Bool). w && (index_of (class_at classes q) == k)) none ∙ sym (ap (λ (w : Bool). w && (index_of (class_at (slice_set classes p class) q) == k)) none)
    go k q false e = ap (λ (w : Class). holds all q && (index_of w == k)) (sym (class_other classes p q class (apart q p e)))

pub sorted_again : (all : List ℕ) (sets after : List (List ℕ)) (classes : List Class) (p : ℕ) (class : Class) (there : Bool) → AreSorted all sets classes → there ≡ holds all p → p < length classes → IsClass class → length after ≡ length sets
    → (there ≡ true → (j q : ℕ) → holds (set_at after j) q ≡ (((j == index_of class) && (q == p)) || (not ((j == index_of (class_at classes p)) && (q == p)) && holds (set_at sets j) q))) → (there ≡ false → after ≡ sets)
    → AreSorted all after (slice_set classes p class)
sorted_again all sets after classes p class true s h l one long moved kept = sorted_moved all sets after classes p class s (sym h) l one long (moved refl)
sorted_again all sets after classes p class false s h l one long moved kept = subst (λ (w : List (List ℕ)). AreSorted all w (slice_set classes p class)) (sym (kept refl)) (sorted_outside all sets classes p class s (sym h) l one)

-- no place is in any of so many sets without places
pub sorted_blank : (all : List ℕ) (sets : List (List ℕ)) (classes : List Class) → ((q : ℕ) → IsClass (class_at classes q)) → length sets ≡ 17 → ((q : ℕ) → holds all q ≡ false) → ((k q : ℕ) → k < 17 → holds (set_at sets k) q ≡ false) → AreSorted all sets classes
sorted_blank all sets classes few long none each = record {
  few = few;
  long = long;
  sorted = λ k q h. each k q h ∙ sym (ap (λ (w : Bool). w && (index_of (class_at classes q) == k)) (none q));
}

-- ---- the first place of a set, and of two

abbrev pub IsFirstOf : (ℕ → Bool) → Option ℕ → Type 0
IsFirstOf test o = MatchOption o ((q : ℕ) → test q ≡ false) (λ p. (test p ≡ true) × ((q : ℕ) → q < p → test q ≡ false))

pub first_same : (f g : ℕ → Bool) (o : Option ℕ) → ((q : ℕ) → f q ≡ g q) → IsFirstOf f o → IsFirstOf g o
first_same f g None e h = λ q. sym (e q) ∙ h q
first_same f g (Some p) e h = (sym (e p) ∙ h.0, λ q l. sym (e q) ∙ h.1 q l)

neither : (x y : Bool) → x ≡ false → y ≡ false → (x || y) ≡ false
neither x y e f = rw (e, f) refl

one : (x y : Bool) → x ≡ true → (x || y) ≡ true
one x y e = rw e refl

other : (x y : Bool) → y ≡ true → (x || y) ≡ true
other true y e = refl
other false y e = e

pub first_of_two : (f g : ℕ → Bool) (a b : Option ℕ) → IsFirstOf f a → IsFirstOf g b → IsFirstOf (λ q. f q || g q) (least_of a b)
first_of_two f g None None h i = λ q. neither (f q) (g q) (h q) (i q)
first_of_two f g None (Some p) h i = (other (f p) (g p) i.0, λ q l. neither (f q) (g q) (h q) (i.1 q l))
first_of_two f g (Some p) None h i = (one (f p) (g p) h.0, λ q l. neither (f q) (g q) (h.1 q l) (i q))
first_of_two f g (Some p) (Some r) h i = go (nat_lt p r) refl
  where
    go : (b : Bool) → nat_lt p r ≡ b → IsFirstOf (λ q. f q || g q) (Some (if b then p else r))
    go true e = (let s : p < r = grind (arith, nat_tests) in (one (f p) (g p) h.0, λ q l. neither (f q) (g q) (h.1 q l) (i.1 q (omega (arith, l, s)))))
    go false e = (let s : r ≤ p = grind (arith, nat_tests) in (other (f r) (g r) i.0, λ q l. neither (f q) (g q) (h.1 q (omega (arith, l, s))) (i.1 q l)))

pub in_one : (all : List ℕ) (sets : List (List ℕ)) (classes : List Class) (channel q : ℕ) → AreSorted all sets classes → channel < 8 → holds (set_at sets channel) q ≡ is_in_channel (record { all = all; classes = classes }) channel false q
in_one all sets classes channel q s l = s.sorted channel q (omega (arith, l)) ∙ ap (λ (w : Bool). holds all q && w) (go (index_of (class_at classes q) == channel))
  where
    go : (b : Bool) → b ≡ (b || false)
    go true = refl
    go false = refl

pub in_both : (all : List ℕ) (sets : List (List ℕ)) (classes : List Class) (channel q : ℕ) → AreSorted all sets classes → channel < 8 → (holds (set_at sets channel) q || holds (set_at sets (8 + channel)) q) ≡ is_in_channel (record { all = all; classes = classes }) channel true q
in_both all sets classes channel q s l =
    rw (s.sorted channel q (omega (arith, l)), s.sorted (8 + channel) q (omega (arith, l))) (go (holds all q) (index_of (class_at classes q) == channel) (index_of (class_at classes q) == 8 + channel))
  where
    go : (h b c : Bool) → ((h && b) || (h && c)) ≡ (h && (b || (true && c)))
    go true true c = refl
    go true false true = refl
    go true false false = refl
    go false b c = refl

pub found_first : (test : ℕ → Bool) (o : Option ℕ) → MatchOption o ((q : ℕ) → test q ≡ false) (λ p. (test p ≡ true) × (p < MAX_PLACES) × ((q : ℕ) → q < p → test q ≡ false)) → IsFirstOf test o
found_first test None h = h
found_first test (Some p) h = (h.0, h.2)

less : (j k : ℕ) → j < k + 1 → (j ≡ k → ⊥) → j < k
less j k l d = omega (arith, l, d)

-- one more set without places
pub none_more : (sets : List (List ℕ)) (k : ℕ) → ((j q : ℕ) → j < k → holds (set_at sets j) q ≡ false) → ((q : ℕ) → holds (set_at sets k) q ≡ false) → (j q : ℕ) → j < k + 1 → holds (set_at sets j) q ≡ false
none_more sets k before here j q l = go (j == k) refl
  where
    go : (b : Bool) → (j == k) ≡ b → holds (set_at sets j) q ≡ false
    go true e = subst (λ (i : ℕ). holds (set_at sets i) q ≡ false) (sym (equal j k e)) (here q)
    go false e = (let d = apart j k e in before j q (less j k l (λ f. d (sym f))))

-- and at the end
pub pushed_long : (sets : List (List ℕ)) (s : List ℕ) (n : ℕ) → length sets ≡ n → length (sets ++ s ∷ []) ≡ n + 1
pushed_long [] s n e = omega (arith, e)
pushed_long (x ∷ sets) s zero e = absurd (omega (arith, e))
pushed_long (x ∷ sets) s (suc n) e = let r = pushed_long sets s n (omega (arith, e)) in omega (arith, r)

pub pushed_blank : (sets : List (List ℕ)) (s : List ℕ) (n : ℕ) → length sets ≡ n → ((k q : ℕ) → k < n → holds (set_at sets k) q ≡ false) → ((q : ℕ) → holds s q ≡ false) → (k q : ℕ) → k < n + 1 → holds (set_at (sets ++ s ∷ []) k) q ≡ false
pushed_blank [] s n e before here zero q l = here q
pushed_blank [] s n e before here (suc k) q l = absurd (omega (arith, e, l))
pushed_blank (x ∷ sets) s n e before here zero q l = before zero q (omega (arith, e))
pushed_blank (x ∷ sets) s zero e before here (suc k) q l = absurd (omega (arith, e))
pushed_blank (x ∷ sets) s (suc n) e before here (suc k) q l = pushed_blank sets s n (omega (arith, e)) (λ j r b. before (suc j) r (omega (arith, b))) here k q (omega (arith, l))

-- where the sets of all channels are empty, all places are shut, and the other way round
pub shut_all : (all : List ℕ) (sets : List (List ℕ)) (classes : List Class) → AreSorted all sets classes → ((k q : ℕ) → k < 16 → holds (set_at sets k) q ≡ false) → (q : ℕ) → holds all q ≡ true → index_of (class_at classes q) ≡ 16
shut_all all sets classes s h q there = go (nat_lt (index_of (class_at classes q)) 16) refl
  where
    go : (b : Bool) → nat_lt (index_of (class_at classes q)) 16 ≡ b → index_of (class_at classes q) ≡ 16
    go true e =
        let l : index_of (class_at classes q) < 16 = grind (arith, nat_tests) in
        absurd (clash (holds (set_at sets (index_of (class_at classes q))) q) (sorted_there all sets classes q s there) (h (index_of (class_at classes q)) q l))
    go false e =
        let l : 16 ≤ index_of (class_at classes q) = grind (arith, nat_tests) in
        let few : index_of (class_at classes q) < 17 = s.few q in
        omega (arith, l, few)

pub all_shut : (all : List ℕ) (sets : List (List ℕ)) (classes : List Class) → AreSorted all sets classes → ((q : ℕ) → holds all q ≡ true → index_of (class_at classes q) ≡ 16) → (k q : ℕ) → k < 16 → holds (set_at sets k) q ≡ false
all_shut all sets classes s h k q l = s.sorted k q (omega (arith, l)) ∙ go (holds all q) refl
  where
    no_set : (i : ℕ) → i ≡ 16 → (i == k) ≡ false
    no_set i e = (let w : (i == k) ≡ false = grind (arith, nat_tests) in w)

    go : (b : Bool) → holds all q ≡ b → (b && (index_of (class_at classes q) == k)) ≡ false
    go true e = no_set (index_of (class_at classes q)) (h q e)
    go false e = refl

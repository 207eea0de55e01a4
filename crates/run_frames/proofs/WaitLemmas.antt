-- Links between waits, and waits that are freed along them.
use Rattle.std.specs.Prelude.{◌≡◌, ◌⊎◌, ◌<◌, ◌≤◌, ◌+◌, ◌-◌, ◌==◌, nat_lt, if◌then◌else◌, ℕ, zero, suc, Bool, true, false, List, [], ◌∷◌, length, slice_set, Option, Some, None, MatchOption}
use Rattle.std.proofs.Common.{slice_index_or, refl, sym, ◌∙◌, ap, subst, arith, inl, inr}
use Rattle.std.proofs.lemmas.Bool.Decides.{nat_tests}
use Rattle.std.specs.Option.{option_map_or}
use Rattle.std.proofs.lemmas.Option.{slice_get_within}
use Rattle.exec_tree.specs.Built.{TreeValue, channel_in, role_in}
use Rattle.exec_tree.specs.declared.limits.TheConstants.{MAX_CHANNELS}
use Rattle.exec_tree.specs.declared.role.Role.{Role}
use Rattle.exec_tree.specs.declared.role.Role.TheVariants as role
use Rattle.exec_tree.proofs.LookupLemmas.{numbered_at}
use Rattle.place_classes.specs.declared.class.Class.TheVariants.{Free}
use Rattle.tree_table.specs.Placed.{number_at}
use Rattle.place_classes.specs.declared.class.Class.{Class}
use Rattle.place_classes.specs.Classes.{class_at}
use Rattle.place_classes.proofs.SortedLemmas.{class_set, class_other, length_classes}
use Rattle.run_frames.specs.declared.waits.Link.{Link}
use Rattle.run_frames.specs.Waits.{mark_by, mark_at, link_to, link_at, IsNextWait, AreLinkedFrom, class_freed, IsBefore, AreFreedTo, AreFreed}

link_set : (links : List (Option Link)) (p : ℕ) (o : Option Link) → p < length links → link_at (slice_set links p o) p ≡ o
link_set [] p o h = absurd (omega (arith, h))
link_set (x ∷ links) zero o h = refl
link_set (x ∷ links) (suc p) o h = link_set links p o (omega (arith, h))

link_other : (links : List (Option Link)) (p r : ℕ) (o : Option Link) → (p ≡ r → ⊥) → link_at (slice_set links p o) r ≡ link_at links r
link_other [] p r o h = refl
link_other (x ∷ links) zero zero o h = absurd (h refl)
link_other (x ∷ links) zero (suc r) o h = refl
link_other (x ∷ links) (suc p) zero o h = refl
link_other (x ∷ links) (suc p) (suc r) o h = link_other links p r o (λ e. h (ap suc e))

length_links : (links : List (Option Link)) (p : ℕ) (o : Option Link) → length (slice_set links p o) ≡ length links
length_links [] p o = refl
length_links (x ∷ links) zero o = refl
length_links (x ∷ links) (suc p) o = ap suc (length_links links p o)

-- one number or another
same_or : (a b : ℕ) → (a ≡ b) ⊎ (a ≡ b → ⊥)
same_or a b = go (a == b) refl
  where
    go : (t : Bool) → (a == b) ≡ t → (a ≡ b) ⊎ (a ≡ b → ⊥)
    go true e = inl (grind (arith, nat_tests))
    go false e = inr (λ f. unequal f e)
      where
        unequal : a ≡ b → (a == b) ≡ false → ⊥
        unequal f g = (let w : (a == b) ≡ true = grind (arith, nat_tests) in (let v : true ≡ false = sym w ∙ g in cc))

order : (a b : ℕ) → (a < b) ⊎ (b ≤ a)
order zero zero = inr (omega arith)
order zero (suc b) = inl (omega arith)
order (suc a) zero = inr (omega arith)
order (suc a) (suc b) = elim (order a b) [ inl l ↦ inl (omega (arith, l)) | inr l ↦ inr (omega (arith, l)) ]

some_same : (a b : ℕ) → Some a ≡ Some b → a ≡ b
some_same a b e = cc

-- ---- links

next_shift : (t : TreeValue) (m k : ℕ) (o : Option Link) → (mark_at t k ≡ Some m → ⊥) → IsNextWait t m (k + 1) o → IsNextWait t m k o
next_shift t m k None n h = λ q l b e. elim (same_or k q) [ inl s ↦ n (subst (λ (r : ℕ). mark_at t r ≡ Some m) (sym s) e) | inr d ↦ h q (omega (arith, l, d)) b e ]
next_shift t m k (Some w) n h = (h.0, omega (arith, h.1), h.2, λ q l b e. elim (same_or k q) [ inl s ↦ n (subst (λ (r : ℕ). mark_at t r ≡ Some m) (sym s) e) | inr d ↦ h.3 q (omega (arith, l, d)) b e ], h.4)

next_here : (t : TreeValue) (m k : ℕ) → k < length t.nodes → mark_at t k ≡ Some m → IsNextWait t m k (Some (link_to t.nodes k))
next_here t m k l e = (e, omega arith, l, λ q i j w. omega (arith, i, j), refl)

pub linked_last : (t : TreeValue) (first later : List (Option Link)) → length first ≡ length t.nodes → length later ≡ length t.nodes → ((p : ℕ) → link_at first p ≡ None) → AreLinkedFrom t (length t.nodes) first later
linked_last t first later a b none = record {
  first_long = a;
  later_long = b;
  firsts = λ m l. subst (λ (o : Option Link). IsNextWait t m (length t.nodes) o) (sym (none m)) (λ q i j e. omega (arith, i, j));
  laters = λ m q i j e. absurd (omega (arith, i, j));
}

pub linked_same : (t : TreeValue) (k : ℕ) (first later : List (Option Link)) → mark_at t k ≡ None → AreLinkedFrom t (k + 1) first later → AreLinkedFrom t k first later
linked_same t k first later none h = record {
  first_long = h.first_long;
  later_long = h.later_long;
  firsts = λ m l. next_shift t m k (link_at first m) (apart m) (h.firsts m l);
  laters = λ m q i j e. elim (same_or k q) [ inl s ↦ absurd (apart m (subst (λ (r : ℕ). mark_at t r ≡ Some m) (sym s) e)) | inr d ↦ h.laters m q (omega (arith, i, d)) j e ];
}
  where
    apart : (m : ℕ) → mark_at t k ≡ Some m → ⊥
    apart m e = (let w : None ≡ Some m = sym none ∙ e in cc)

pub linked_more : (t : TreeValue) (k m : ℕ) (first later : List (Option Link)) → mark_at t k ≡ Some m → k < length t.nodes → m < length t.nodes → AreLinkedFrom t (k + 1) first later → AreLinkedFrom t k (slice_set first m (Some (link_to t.nodes k))) (slice_set later k (link_at first m))
linked_more t k m first later is l r h = record {
  first_long = length_links first m (Some (link_to t.nodes k)) ∙ h.first_long;
  later_long = length_links later k (link_at first m) ∙ h.later_long;
  firsts = λ j b. elim (same_or m j) [
    | inl s ↦ subst (λ (i : ℕ). IsNextWait t i k (link_at (slice_set first m (Some (link_to t.nodes k))) i)) s (subst (λ (o : Option Link). IsNextWait t m k o) (sym (link_set first m (Some (link_to t.nodes k)) (omega (arith, r, h.first_long)))) (next_here t m k l is))
    | inr d ↦ subst (λ (o : Option Link). IsNextWait t j k o) (sym (link_other first m j (Some (link_to t.nodes k)) d)) (next_shift t j k (link_at first j) (λ e. d (some_same m j (sym is ∙ e))) (h.firsts j b))
  ];
  laters = λ j q i b e. elim (same_or k q) [
    | inl s ↦ here j q s e
    | inr d ↦ subst (λ (o : Option Link). IsNextWait t j (q + 1) o) (sym (link_other later k q (link_at first m) d)) (h.laters j q (omega (arith, i, d)) b e)
  ];
}
  where
    here : (j q : ℕ) → k ≡ q → mark_at t q ≡ Some j → IsNextWait t j (q + 1) (link_at (slice_set later k (link_at first m)) q)
    here j q s e =
        let own : m ≡ j = some_same m j (sym is ∙ (ap (mark_at t) s ∙ e)) in
        subst (λ (i : ℕ). IsNextWait t j (i + 1) (link_at (slice_set later k (link_at first m)) i)) s
        (subst (λ (i : ℕ). IsNextWait t i (k + 1) (link_at (slice_set later k (link_at first m)) k)) own
        (subst (λ (o : Option Link). IsNextWait t m (k + 1) o) (sym (link_set later k (link_at first m) (omega (arith, l, h.later_long)))) (h.firsts m r)))

-- ---- waits that are freed

pub freed_first : (t : TreeValue) (m : ℕ) (at : Option Link) (classes : List Class) → IsNextWait t m 0 at → AreFreedTo t m at classes classes
freed_first t m None classes h = record { long = refl; is_wait = tt; freed = λ q l b e. absurd (h q (omega arith) l e); kept = λ q n. refl }
freed_first t m (Some w) classes h = record { long = refl; is_wait = (h.0, h.2, h.4); freed = λ q l b e. absurd (h.3 q (omega arith) b e); kept = λ q n. refl }

-- no wait lies between one and its next
before_next : (t : TreeValue) (m p q : ℕ) (o : Option Link) → IsNextWait t m (p + 1) o → q < length t.nodes → p < q → IsBefore o q → mark_at t q ≡ Some m → ⊥
before_next t m p q None h l i b e = h q (omega (arith, i)) l e
before_next t m p q (Some r) h l i b e = h.3 q (omega (arith, i)) b e

earlier : (t : TreeValue) (m p q : ℕ) (o : Option Link) → IsNextWait t m (p + 1) o → q ≤ p → IsBefore o q
earlier t m p q None h l = tt
earlier t m p q (Some r) h l = omega (arith, l, h.1)

next_is_wait : (t : TreeValue) (m p : ℕ) (o : Option Link) → IsNextWait t m (p + 1) o
    → MatchOption o (Unit {0}) (λ w. (mark_at t w.place ≡ Some m) × (w.place < length t.nodes) × (w.channel ≡ channel_in t.nodes (number_at t.nodes w.place)))
next_is_wait t m p None h = tt
next_is_wait t m p (Some r) h = (h.0, h.2, h.4)

pub freed_more : (t : TreeValue) (m : ℕ) (w : Link) (o : Option Link) (old new : List Class) → length old ≡ length t.nodes → IsNextWait t m (w.place + 1) o → AreFreedTo t m (Some w) old new
    → AreFreedTo t m o old (slice_set new w.place (class_freed w.channel (class_at new w.place)))
freed_more t m w o old new long h s = record {
  long = length_classes new w.place class ∙ s.long;
  is_wait = next_is_wait t m w.place o h;
  freed = λ q l b e. elim (same_or w.place q) [
    | inl i ↦ subst (λ (r : ℕ). class_at (slice_set new w.place class) r ≡ class_freed (channel_in t.nodes (number_at t.nodes r)) (class_at old r)) i
        (class_set new w.place class (omega (arith, s.is_wait.1, long, s.long)) ∙ (ap (λ (k : ℕ). class_freed k (class_at new w.place)) s.is_wait.2 ∙ ap (class_freed (channel_in t.nodes (number_at t.nodes w.place))) own))
    | inr d ↦ class_other new w.place q class d ∙ s.freed q l (lies q d l b e) e
  ];
  kept = λ q n. class_other new w.place q class (λ i. n (earlier t m w.place q o h (omega (arith, i))) (subst (λ (r : ℕ). mark_at t r ≡ Some m) i s.is_wait.0)) ∙ s.kept q (λ b e. n (earlier t m w.place q o h (omega (arith, b))) e);
}
  where
    class : Class
    class = class_freed w.channel (class_at new w.place)

    own : class_at new w.place ≡ class_at old w.place
    own = s.kept w.place (λ b e. omega (arith, b))

    lies : (q : ℕ) → (w.place ≡ q → ⊥) → q < length t.nodes → IsBefore o q → mark_at t q ≡ Some m → q < w.place
    lies q d l b e = elim (order q w.place) [ inl i ↦ i | inr i ↦ absurd (before_next t m w.place q o h l (omega (arith, i, d)) b e) ]

pub freed_all : (t : TreeValue) (m : ℕ) (old new : List Class) → AreFreedTo t m None old new → AreFreed t m old new
freed_all t m old new s = record { long = s.long; freed = λ q l e. s.freed q l tt e; kept = λ q n. s.kept q (λ b e. n e) }

-- ---- what the code asks

pub set_own : (classes : List Class) (p : ℕ) → p < length classes → slice_set classes p (class_at classes p) ≡ classes
set_own [] p l = absurd (omega (arith, l))
set_own (x ∷ classes) zero l = refl
set_own (x ∷ classes) (suc p) l = ap (λ (w : List Class). x ∷ w) (set_own classes p (omega (arith, l)))

pub freed_not : (k : ℕ) (class : Class) → (k < 8 → ⊥) → class_freed k class ≡ class
freed_not k class h = go (nat_lt k MAX_CHANNELS) refl
  where
    go : (b : Bool) → nat_lt k MAX_CHANNELS ≡ b → (if b then Free k else class) ≡ class
    go true e = (let l : k < 8 = grind (arith, nat_tests) in absurd (h l))
    go false e = refl

pub mark_within : (t : TreeValue) (q m : ℕ) → mark_at t q ≡ Some m → m < length t.nodes
mark_within t q m e = go (role_in t (number_at t.nodes q)) e
  where
    go : (r : Role) → mark_by t.nodes r ≡ Some m → m < length t.nodes
    go role.Cutting f = absurd (let w : None ≡ Some m = f in cc)
    go role.Free f = absurd (let w : None ≡ Some m = f in cc)
    go (role.Waiting j) f = (let a = numbered_at t.nodes j m f in slice_get_within t.nodes m a.0 a.1)

pub nearer : (t : TreeValue) (m p : ℕ) (o : Option Link) → IsNextWait t m (p + 1) o → p < length t.nodes → option_map_or (λ w. length t.nodes - w.place) o 0 < length t.nodes - p
nearer t m p None h l = omega (arith, l)
nearer t m p (Some r) h l = (let a = h.1 in let b = h.2 in omega (arith, l, a, b))

pub index_link : (links : List (Option Link)) (i : ℕ) → slice_index_or links i None ≡ link_at links i
index_link [] zero = refl
index_link [] (suc i) = refl
index_link (x ∷ links) zero = refl
index_link (x ∷ links) (suc i) = index_link links i

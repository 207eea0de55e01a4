-- Where a list is a run so far, none of its entries strays.
use Rattle.std.specs.Prelude.{◌≡◌, ◌↔◌, ◌<◌, ℕ, Bool, true, false, ◌==◌, nat_lt, ◌&&◌, not, is_some, List, [], ◌∷◌, ◌++◌, Option, Some, None, IsSomeAnd, ⊤}
use Rattle.std.specs.Option.{option_map_or}
use Rattle.std.proofs.Common.{refl, sym, ◌∙◌, ap, subst, arith, append_assoc}
use Rattle.std.proofs.lemmas.List.{append-nil}
use Rattle.std.proofs.lemmas.Bool.Decides.{nat_tests}
use Rattle.exec_tree.specs.Exec.{LeafKind, Assigning, Setting, Waiting, Noting, Exec, nodes, AreDistinct, has}
use Rattle.trace_law.specs.Of.{is_of, number_of}
use Rattle.trace_law.specs.Part.{Part}
use Rattle.trace_law.specs.Next.{next}
use Rattle.trace_law.specs.Own.{pick_of, test_of}
use Rattle.trace_law.specs.Whole.{IsOfLeaf}
use Rattle.trace_law.specs.Step.{Continues}
use Rattle.trace_law.specs.Offer.{Offer, Starts, Cuts, Does, Picks, Tests, offer, IsOffered}
use Rattle.run_log.specs.declared.entry.Entry.{Entry}
use Rattle.run_log.specs.declared.entry.Entry.TheVariants.{Dispatch, Block, End, Assign, Set, Pass, Note}
use Rattle.trace_law.specs.Stray.{is_of_leaf, is_offered, may_follow_by, may_follow, first_stray, IsFirstStray}

no_way : false ≡ true → ⊥
no_way e = cc

same_number : (m n : ℕ) → (m == n) ≡ true → m ≡ n
same_number m n e = grind (arith, nat_tests)

number_same : (m n : ℕ) → m ≡ n → (m == n) ≡ true
number_same m n e = grind (arith, nat_tests)

and_left : (a b : Bool) → (a && b) ≡ true → a ≡ true
and_left true b e = refl
and_left false b e = absurd (no_way e)

and_right : (a b : Bool) → (a && b) ≡ true → b ≡ true
and_right true b e = e
and_right false b e = absurd (no_way e)

and_both : (a b : Bool) → a ≡ true → b ≡ true → (a && b) ≡ true
and_both true b e f = f
and_both false b e f = absurd (no_way e)

not_false : (b : Bool) → not b ≡ true → b ≡ false
not_false true e = absurd (no_way e)
not_false false e = refl

not_true : (b : Bool) → b ≡ false → not b ≡ true
not_true true e = absurd (no_way (sym e))
not_true false e = refl

less : (k c : ℕ) → nat_lt k c ≡ true → k < c
less k c e = grind (arith, nat_tests)

is_less : (k c : ℕ) → k < c → nat_lt k c ≡ true
is_less k c e = grind (arith, nat_tests)

-- ---- leaves

leaf_is : (k : LeafKind) (n : ℕ) (x : Entry) → is_of_leaf k n x ≡ true → IsOfLeaf k n x
leaf_is Assigning n (Assign m v) e = same_number m n e
leaf_is Setting n (Set m) e = same_number m n e
leaf_is Waiting n (Pass m) e = same_number m n e
leaf_is Noting n (Note m) e = same_number m n e
leaf_is _ n x e = absurd (no_way e)

is_leaf : (k : LeafKind) (n : ℕ) (x : Entry) → IsOfLeaf k n x → is_of_leaf k n x ≡ true
is_leaf Assigning n (Assign m v) e = number_same m n e
is_leaf Setting n (Set m) e = number_same m n e
is_leaf Waiting n (Pass m) e = number_same m n e
is_leaf Noting n (Note m) e = number_same m n e
is_leaf _ n x e = absurd e

-- ---- picks and tests

pick_is : (c : ℕ) (ks : List ℕ) (o : Option ℕ) → option_map_or (λ k. nat_lt k c && not (has ks k)) o false ≡ true → IsSomeAnd o (λ k. (k < c) × (has ks k ≡ false))
pick_is c ks None e = absurd (no_way e)
pick_is c ks (Some k) e = (less k c (and_left (nat_lt k c) (not (has ks k)) e), not_false (has ks k) (and_right (nat_lt k c) (not (has ks k)) e))

is_pick : (c : ℕ) (ks : List ℕ) (o : Option ℕ) → IsSomeAnd o (λ k. (k < c) × (has ks k ≡ false)) → option_map_or (λ k. nat_lt k c && not (has ks k)) o false ≡ true
is_pick c ks None e = absurd e
is_pick c ks (Some k) e = and_both (nat_lt k c) (not (has ks k)) (is_less k c e.0) (not_true (has ks k) e.1)

test_is : (o : Option Bool) → is_some o ≡ true → IsSomeAnd o (λ b. ⊤)
test_is None e = absurd (no_way e)
test_is (Some b) e = tt

is_test : (o : Option Bool) → IsSomeAnd o (λ b. ⊤) → is_some o ≡ true
is_test None e = absurd e
is_test (Some b) e = refl

-- ---- offers

pub offered_is : (o : Offer) (n : ℕ) (x : Entry) → is_offered o n x ≡ true → IsOffered o n x
offered_is Starts n (Dispatch m v) e = same_number m n e
offered_is (Cuts k) n (Block m j b) e = (same_number m n (and_left (m == n) (j == k) e), same_number j k (and_right (m == n) (j == k) e))
offered_is (Cuts k) n (End m) e = same_number m n e
offered_is (Does k) n x e = leaf_is k n x e
offered_is (Picks c ks) n x e = pick_is c ks (pick_of n x) e
offered_is Tests n x e = test_is (test_of n x) e
offered_is _ n x e = absurd (no_way e)

pub is_offer : (o : Offer) (n : ℕ) (x : Entry) → IsOffered o n x → is_offered o n x ≡ true
is_offer Starts n (Dispatch m v) e = number_same m n e
is_offer (Cuts k) n (Block m j b) e = and_both (m == n) (j == k) (number_same m n e.0) (number_same j k e.1)
is_offer (Cuts k) n (End m) e = number_same m n e
is_offer (Does k) n x e = is_leaf k n x e
is_offer (Picks c ks) n x e = is_pick c ks (pick_of n x) e
is_offer Tests n x e = is_test (test_of n x) e
is_offer _ n x e = absurd e

-- ---- what may follow

-- the laws of exec_model that are used
abbrev pub Follows : Type 0
Follows = (e : Exec) (t : List Entry) (x : Entry) (m : ℕ) → AreDistinct (nodes e) → Part e t → number_of x ≡ Some m → is_of (next e t) x ≡ true → IsOffered (offer e t m) m x → Part e (t ++ x ∷ [])

abbrev pub Offered : Type 0
Offered = (e : Exec) (t : List Entry) (x : Entry) (m : ℕ) → AreDistinct (nodes e) → Part e (t ++ x ∷ []) → number_of x ≡ Some m → (is_of (next e t) x ≡ true) × IsOffered (offer e t m) m x

abbrev pub ByNext : Type 0
ByNext = (e : Exec) (t : List Entry) (x : Entry) → AreDistinct (nodes e) → (Part e (t ++ x ∷ []) ↔ (Part e t × (is_of (next e t) x ≡ true) × Continues e t x))

of_has : (ns : List ℕ) (x : Entry) (n : ℕ) → number_of x ≡ Some n → has ns n ≡ true → is_of ns x ≡ true
of_has ns x n e h = rw e h

has_of : (ns : List ℕ) (x : Entry) (n : ℕ) → number_of x ≡ Some n → is_of ns x ≡ true → has ns n ≡ true
has_of ns x n e h = rw e at h

of_nothing : (ns : List ℕ) (x : Entry) → number_of x ≡ None → is_of ns x ≡ true → ⊥
of_nothing ns x e h = no_way (rw e at h)

pub followed : Follows → (e : Exec) (t : List Entry) (x : Entry) → AreDistinct (nodes e) → Part e t → may_follow e t x ≡ true → Part e (t ++ x ∷ [])
followed law e t x d p h = go (number_of x) refl h
  where
    go : (o : Option ℕ) → number_of x ≡ o → may_follow_by e t x o ≡ true → Part e (t ++ x ∷ [])
    go None q h = absurd (no_way h)
    go (Some n) q h =
        law e t x n d p q (of_has (next e t) x n q (and_left (has (next e t) n) (is_offered (offer e t n) n x) h))
        (offered_is (offer e t n) n x (and_right (has (next e t) n) (is_offered (offer e t n) n x) h))

pub follows : Offered → ByNext → (e : Exec) (t : List Entry) (x : Entry) → AreDistinct (nodes e) → Part e (t ++ x ∷ []) → may_follow e t x ≡ true
follows law by_next e t x d p = go (number_of x) refl
  where
    go : (o : Option ℕ) → number_of x ≡ o → may_follow_by e t x o ≡ true
    go None q = absurd (of_nothing (next e t) x q ((by_next e t x d).0 p).1)
    go (Some n) q =
        let z = law e t x n d p q in
        and_both (has (next e t) n) (is_offered (offer e t n) n x) (has_of (next e t) x n q z.0) (is_offer (offer e t n) n x z.1)

pub before_is_part : ByNext → (e : Exec) (t : List Entry) (x : Entry) → AreDistinct (nodes e) → Part e (t ++ x ∷ []) → Part e t
before_is_part by_next e t x d p = ((by_next e t x d).0 p).0

-- ---- whole lists

front_is_part : ByNext → (e : Exec) → AreDistinct (nodes e) → (s t : List Entry) → Part e (s ++ t) → Part e s
front_is_part law e d s [] p = subst (Part e) (append-nil s) p
front_is_part law e d s (x ∷ t) p = before_is_part law e s x d (front_is_part law e d (s ++ x ∷ []) t (subst (Part e) (sym (append_assoc s (x ∷ []) t)) p))

-- a stray is none of a part
pub none_strays : Offered → ByNext → (e : Exec) → AreDistinct (nodes e) → (before rest : List Entry) → Part e (before ++ rest) → first_stray e before rest ≡ None
none_strays law by_next e d before [] p = refl
none_strays law by_next e d before (x ∷ rest) p =
    let q : Part e ((before ++ x ∷ []) ++ rest) = subst (Part e) (sym (append_assoc before (x ∷ []) rest)) p in
    let h : may_follow e before x ≡ true = follows law by_next e before x d (front_is_part by_next e d (before ++ x ∷ []) rest q) in
    rw h (none_strays law by_next e d (before ++ x ∷ []) rest q)

pub part_where_none_strays : Follows → (e : Exec) → AreDistinct (nodes e) → (before rest : List Entry) → Part e before → first_stray e before rest ≡ None → Part e (before ++ rest)
part_where_none_strays law e d before [] p h = subst (Part e) (sym (append-nil before)) p
part_where_none_strays law e d before (x ∷ rest) p h = go (may_follow e before x) refl (λ q g. part_where_none_strays law e d (before ++ x ∷ []) rest q g)
  where
    go : (b : Bool) → may_follow e before x ≡ b → (Part e (before ++ x ∷ []) → first_stray e (before ++ x ∷ []) rest ≡ None → Part e ((before ++ x ∷ []) ++ rest)) → Part e (before ++ x ∷ rest)
    go true q rec = subst (Part e) (append_assoc before (x ∷ []) rest) (rec (followed law e before x d p q) (rw q at h))
    go false q rec = absurd (let z : Some x ≡ None = rw q at h in cc)

pub stray_is_first : Follows → Offered → ByNext → (e : Exec) → AreDistinct (nodes e) → (before rest : List Entry) (x : Entry) → Part e before → first_stray e before rest ≡ Some x → IsFirstStray e (before ++ rest) x
stray_is_first fs law by_next e d before [] x p h = absurd (cc)
stray_is_first fs law by_next e d before (y ∷ rest) x p h = go (may_follow e before y) refl (λ q g. stray_is_first fs law by_next e d (before ++ y ∷ []) rest x q g)
  where
    go : (b : Bool) → may_follow e before y ≡ b → (Part e (before ++ y ∷ []) → first_stray e (before ++ y ∷ []) rest ≡ Some x → IsFirstStray e ((before ++ y ∷ []) ++ rest) x) → IsFirstStray e (before ++ y ∷ rest) x
    go true q rec = subst (λ (t : List Entry). IsFirstStray e t x) (append_assoc before (y ∷ []) rest) (rec (followed fs e before y d p q) (rw q at h))
    go false q rec =
        let z : Some y ≡ Some x = rw q at h in
        let yx : y ≡ x = cc in
        record {
          before = before;
          after = rest;
          split = ap (λ (w : Entry). before ++ w ∷ rest) yx;
          part = p;
          no_part = λ g. (let k : may_follow e before x ≡ true = follows law by_next e before x d g in no_way (sym q ∙ (ap (λ (w : Entry). may_follow e before w) yx ∙ k)));
        }

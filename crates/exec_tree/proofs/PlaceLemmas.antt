-- The places of the nodes by number.
use Rattle.std.specs.Prelude.{◌≡◌, ◌<◌, ◌+◌, ◌^◌, ◌==◌, ◌||◌, ℕ, zero, suc, Bool, true, false, if◌then◌else◌, List, [], ◌∷◌, ◌++◌, length, slice_get, slice_set, is_some, Option, Some, None}
use Rattle.std.specs.Option.{option_map_or, option_or}
use Rattle.std.proofs.Common.{refl, sym, ap, subst, ◌∙◌, arith, length-append}
use Rattle.std.specs.Ordering.{nat_cmp, is_eq}
use Rattle.std.specs.BTreeMap.{BTreeMap, get, Updates}
use Rattle.std.proofs.lemmas.Bool.Decides.{nat_tests}
use Rattle.exec_tree.specs.Exec.{has}
use Rattle.exec_tree.specs.declared.node.BareNode.{BareNode}
use Rattle.exec_tree.specs.Arena.{numbers_in}
use Rattle.exec_tree.specs.Walked.{is_numbered, place_from, with_elements, AreKnown}

-- a number that is seen has a place
pub seen_placed : (i : ℕ) (nodes : List BareNode) (q : ℕ) → is_some (place_from i nodes q) ≡ has (numbers_in nodes) q
seen_placed i [] q = refl
seen_placed i (node ∷ nodes) q = go node.number refl (seen_placed (i + 1) nodes q)
  where
    found : (b : Bool) (m : ℕ) → is_some (place_from (i + 1) nodes q) ≡ has (numbers_in nodes) q → is_some (if b then Some i else place_from (i + 1) nodes q) ≡ (b || has (numbers_in nodes) q)
    found true m f = refl
    found false m f = f

    go : (o : Option ℕ) → node.number ≡ o → is_some (place_from (i + 1) nodes q) ≡ has (numbers_in nodes) q → is_some (place_from i (node ∷ nodes) q) ≡ has (numbers_in (node ∷ nodes)) q
    go None e f = rw e f
    go (Some m) e f = rw e (found (m == q) m f)

-- of one node more
pub placed_last : (i : ℕ) (nodes : List BareNode) (node : BareNode) (q : ℕ)
    → place_from i (nodes ++ node ∷ []) q ≡ option_or (place_from i nodes q) (if is_numbered node.number q then Some (i + length nodes) else None)
placed_last i [] node q = let e : i + 0 ≡ i = omega arith in rw e refl
placed_last i (first ∷ nodes) node q = go (is_numbered first.number q) refl (placed_last (i + 1) nodes node q)
  where
    last : Option ℕ
    last = if is_numbered node.number q then Some (i + 1 + length nodes) else None

    same : (i + 1 + length nodes) ≡ (i + suc (length nodes))
    same = omega arith

    go : (b : Bool) → is_numbered first.number q ≡ b → place_from (i + 1) (nodes ++ node ∷ []) q ≡ option_or (place_from (i + 1) nodes q) (if is_numbered node.number q then Some (i + 1 + length nodes) else None)
        → (if b then Some i else place_from (i + 1) (nodes ++ node ∷ []) q) ≡ option_or (if b then Some i else place_from (i + 1) nodes q) (if is_numbered node.number q then Some (i + suc (length nodes)) else None)
    go true e f = refl
    go false e f = f ∙ ap (λ (k : ℕ). option_or (place_from (i + 1) nodes q) (if is_numbered node.number q then Some k else None)) same

-- the elements don't matter
pub placed_set : (i p : ℕ) (nodes : List BareNode) (node : BareNode) (elements : List ℕ) (q : ℕ) → slice_get nodes p ≡ Some node
    → place_from i (slice_set nodes p (record node { elements = elements })) q ≡ place_from i nodes q
placed_set i p [] node elements q e = absurd (cc)
placed_set i zero (first ∷ nodes) node elements q e = let same : first ≡ node = cc in rw same refl
placed_set i (suc p) (first ∷ nodes) node elements q e = ap (λ (o : Option ℕ). if is_numbered first.number q then Some i else o) (placed_set (i + 1) p nodes node elements q e)

-- ---- the map

pub known_seen : (places : BTreeMap ℕ ℕ) (nodes : List BareNode) (weight : ℕ) (channels : List ℕ) (n : ℕ) → AreKnown places nodes weight channels → is_some (get nat_cmp places n) ≡ has (numbers_in nodes) n
known_seen places nodes weight channels n k = ap is_some (k.at n) ∙ seen_placed 0 nodes n

unnumbered : (o : Option ℕ) → option_or o None ≡ o
unnumbered None = refl
unnumbered (Some n) = refl

pub known_blank : (places : BTreeMap ℕ ℕ) (nodes : List BareNode) (weight : ℕ) (channels : List ℕ) (node : BareNode) → AreKnown places nodes weight channels → node.number ≡ None → length nodes + 1 < 2 ^ 32 → AreKnown places (nodes ++ node ∷ []) weight channels
known_blank places nodes weight channels node k e room = record {
  at = λ q. k.at q ∙ sym (placed_last 0 nodes node q ∙ ap (λ (o : Option ℕ). option_or (place_from 0 nodes q) (if is_numbered o q then Some (0 + length nodes) else None)) e ∙ unnumbered (place_from 0 nodes q));
  light = k.light;
  few = k.few;
  small = omega (arith, length-append nodes (node ∷ []), room);
}

length_put : (nodes : List BareNode) (p : ℕ) (node : BareNode) → length (slice_set nodes p node) ≡ length nodes
length_put [] p node = refl
length_put (x ∷ nodes) zero node = refl
length_put (x ∷ nodes) (suc p) node = ap suc (length_put nodes p node)

pub known_set : (places : BTreeMap ℕ ℕ) (nodes : List BareNode) (weight : ℕ) (channels : List ℕ) (p : ℕ) (node : BareNode) (elements : List ℕ) → AreKnown places nodes weight channels → slice_get nodes p ≡ Some node
    → AreKnown places (slice_set nodes p (record node { elements = elements })) weight channels
known_set places nodes weight channels p node elements k e = record {
  at = λ q. k.at q ∙ sym (placed_set 0 p nodes node elements q e);
  light = k.light;
  few = k.few;
  small = omega (arith, k.small, length_put nodes p (record node { elements = elements }));
}

same_test : (n q : ℕ) → is_eq (nat_cmp n q) ≡ (n == q)
same_test n q = grind (arith, nat_tests)

pub known_more : (places later : BTreeMap ℕ ℕ) (nodes : List BareNode) (weight : ℕ) (channels : List ℕ) (n : ℕ) (node : BareNode) → AreKnown places nodes weight channels → has (numbers_in nodes) n ≡ false
    → Updates nat_cmp places later n (Some (length nodes)) → node.number ≡ Some n → length nodes + 1 < 2 ^ 32 → AreKnown later (nodes ++ node ∷ []) weight channels
known_more places later nodes weight channels n node k fresh u e room = record {
  at = λ q. go q (n == q) refl;
  light = k.light;
  few = k.few;
  small = omega (arith, length-append nodes (node ∷ []), room);
}
  where
    free : (o : Option ℕ) → is_some o ≡ false → o ≡ None
    free None h = refl
    free (Some x) h = absurd (cc)

    at_n : place_from 0 nodes n ≡ None
    at_n = free (place_from 0 nodes n) (seen_placed 0 nodes n ∙ fresh)

    place : 0 + length nodes ≡ length nodes
    place = omega arith

    go : (q : ℕ) (b : Bool) → (n == q) ≡ b → get nat_cmp later q ≡ place_from 0 (nodes ++ node ∷ []) q
    go q true t =
        let same : n ≡ q = grind (arith, nat_tests) in
        let here : place_from 0 nodes q ≡ None = subst (λ (m : ℕ). place_from 0 nodes m ≡ None) same at_n in
        u.0 q ∙ rw (same_test n q, t) (sym (placed_last 0 nodes node q ∙ rw (e, here, t, place) refl))
    go q false t =
        u.0 q ∙ rw (same_test n q, t) (k.at q ∙ sym (placed_last 0 nodes node q ∙ rw (e, t) (unnumbered (place_from 0 nodes q))))

pub set_is : (nodes : List BareNode) (p : ℕ) (node : BareNode) (elements : List ℕ) → slice_get nodes p ≡ Some node → slice_set nodes p (record node { elements = elements }) ≡ with_elements nodes p elements
set_is nodes p node elements e = sym (ap (λ (o : Option BareNode). option_map_or (λ (found : BareNode). slice_set nodes p (record found { elements = elements })) o nodes) e)

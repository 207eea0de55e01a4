-- What a node does next is by its kind and its cell.
use Rattle.std.specs.Prelude.{◌≡◌, ◌==◌, ◌||◌, ◌<◌, ◌-◌, ℕ, zero, suc, Bool, true, false, if◌then◌else◌, List, [], ◌∷◌, ◌++◌, length, slice_get, Option, Some, None}
use Rattle.std.proofs.Common.{refl, sym, ◌∙◌, ap, subst, arith}
use Rattle.std.proofs.lemmas.Bool.Decides.{nat_tests}
use Rattle.exec_tree.specs.Exec.{Exec, Plan, NonSeq, Sel, If, While, Execs, None_left, Then, has, AreDistinct, nodes, nodes_all, count}
use Rattle.exec_tree.specs.Arena.{to_execs, first_of, second_of, of_kind, HasArity, AreShaped}
use Rattle.exec_tree.specs.declared.node.BareNode.{BareNode}
use Rattle.exec_tree.specs.declared.kind.Kind.{Kind}
use Rattle.exec_tree.specs.declared.kind.Kind.TheVariants as kind
use Rattle.trace_law.specs.Cells.{Cell, picked, stage_of}
use Rattle.trace_law.specs.Offer.{Offer, Picks, Tests, Nothing, IsOpen, offer_by, offer_by_among, offer_of_work, offer_of_two}
use Rattle.tree_table.specs.Placed.{place_for, placed_down, placed_all}
use Rattle.run_frames.specs.OfferAt.{offer_at, offer_there}
use Rattle.run_frames.proofs.RenamingLemmas.{same_number}
use Rattle.run_frames.proofs.PlacedLemmas.{down_zero, down_none, down_node, count_is}
use Rattle.run_frames.proofs.KeepLemmas.{has_append, has_left, has_right}
use Rattle.run_frames.proofs.WriteLemmas.{clash, once_left, once_right}

no_true : false ≡ true → ⊥
no_true h = (let w : false ≡ true = h in cc)

own_test : (n : ℕ) → (n == n) ≡ true
own_test n = grind (arith, nat_tests)

or_false : (b c : Bool) → b ≡ false → (b || c) ≡ true → c ≡ true
or_false true c e h = absurd (no_true (sym e))
or_false false c e h = h

-- what is said of the node at place m
abbrev Is : List BareNode → (ℕ → Cell) → Exec → ℕ → Type 0
Is arena c e m = AreDistinct (nodes e) → has (nodes e) m ≡ true → offer_by c e m ≡ offer_there (slice_get arena m) (c m)

among_there : (arena : List BareNode) (c : ℕ → Cell) (levels : ℕ) (places : List ℕ) (m : ℕ) → ((q : ℕ) → Is arena c (placed_down arena levels q) m) → AreDistinct (nodes_all (to_execs (placed_all arena levels places))) → has (nodes_all (to_execs (placed_all arena levels places))) m ≡ true
    → offer_by_among c (to_execs (placed_all arena levels places)) m ≡ offer_there (slice_get arena m) (c m)
among_there arena c levels [] m r d h = absurd (no_true h)
among_there arena c levels (q ∷ places) m r d h =
    let e = placed_down arena levels q in
    let es = to_execs (placed_all arena levels places) in
    go (has (nodes e) m) refl (λ i. r q (once_left (nodes e) (nodes_all es) d) i) (λ i. among_there arena c levels places m r (once_right (nodes e) (nodes_all es) d) i)
  where
    go : (b : Bool) → has (nodes (placed_down arena levels q)) m ≡ b → (has (nodes (placed_down arena levels q)) m ≡ true → offer_by c (placed_down arena levels q) m ≡ offer_there (slice_get arena m) (c m))
        → (has (nodes_all (to_execs (placed_all arena levels places))) m ≡ true → offer_by_among c (to_execs (placed_all arena levels places)) m ≡ offer_there (slice_get arena m) (c m))
        → offer_by_among c (to_execs (placed_all arena levels (q ∷ places))) m ≡ offer_there (slice_get arena m) (c m)
    go true t f g = ap (λ (b : Bool). if b then offer_by c (placed_down arena levels q) m else offer_by_among c (to_execs (placed_all arena levels places)) m) t ∙ f t
    go false t f g =
        ap (λ (b : Bool). if b then offer_by c (placed_down arena levels q) m else offer_by_among c (to_execs (placed_all arena levels places)) m) t
        ∙ g (or_false (has (nodes (placed_down arena levels q)) m) (has (nodes_all (to_execs (placed_all arena levels places))) m) t
        (sym (has_append (nodes (placed_down arena levels q)) (nodes_all (to_execs (placed_all arena levels places))) m) ∙ h))

among_none : (c : ℕ → Cell) (es : Execs) (m : ℕ) → has (nodes_all es) m ≡ false → offer_by_among c es m ≡ Nothing
among_none c None_left m h = refl
among_none c (Then e es) m h = go (has (nodes e) m) refl (λ i. among_none c es m i)
  where
    go : (b : Bool) → has (nodes e) m ≡ b → (has (nodes_all es) m ≡ false → offer_by_among c es m ≡ Nothing) → offer_by_among c (Then e es) m ≡ Nothing
    go true t f = absurd (clash (has (nodes e ++ nodes_all es) m) (has_left (nodes e) (nodes_all es) m t) h)
    go false t f = ap (λ (b : Bool). if b then offer_by c e m else offer_by_among c es m) t ∙ f (out (has (nodes_all es) m) refl)
      where
        out : (b : Bool) → has (nodes_all es) m ≡ b → has (nodes_all es) m ≡ false
        out true u = absurd (clash (has (nodes e ++ nodes_all es) m) (has_right (nodes e) (nodes_all es) m u) h)
        out false u = u

-- the own node, or one of those below it
own_or_below : (p m : ℕ) (ns : List ℕ) (P : Type 0) → has (p ∷ ns) m ≡ true → (p ≡ m → P) → ((p == m) ≡ false → has ns m ≡ true → P) → P
own_or_below p m ns P h f g = go (p == m) refl
  where
    go : (b : Bool) → (p == m) ≡ b → P
    go true t = f (same_number p m t)
    go false t = g t (or_false (p == m) (has ns m) t h)

there : (arena : List BareNode) (c : ℕ → Cell) (p m : ℕ) (node : BareNode) (o : Offer) → slice_get arena p ≡ Some node → p ≡ m → o ≡ offer_at node.kind (c m) (length node.elements) → o ≡ offer_there (slice_get arena m) (c m)
there arena c p m node o at e h = h ∙ sym (ap (λ (found : Option BareNode). offer_there found (c m)) (sym (ap (slice_get arena) e) ∙ at))

pick : (arena : List BareNode) (c : ℕ → Cell) (m : ℕ) (ea eb : Exec) → Is arena c ea m → Is arena c eb m → AreDistinct (nodes ea ++ nodes eb) → has (nodes ea ++ nodes eb) m ≡ true → offer_of_two (has (nodes ea) m) (has (nodes eb) m) (offer_by c ea m) (offer_by c eb m) ≡ offer_there (slice_get arena m) (c m)
pick arena c m ea eb f g d i = go (has (nodes ea) m) refl
  where
    go : (b : Bool) → has (nodes ea) m ≡ b → offer_of_two (has (nodes ea) m) (has (nodes eb) m) (offer_by c ea m) (offer_by c eb m) ≡ offer_there (slice_get arena m) (c m)
    go true t = ap (λ (b : Bool). offer_of_two b (has (nodes eb) m) (offer_by c ea m) (offer_by c eb m)) t ∙ f (once_left (nodes ea) (nodes eb) d) t
    go false t =
        let inside : has (nodes eb) m ≡ true = or_false (has (nodes ea) m) (has (nodes eb) m) t (sym (has_append (nodes ea) (nodes eb) m) ∙ i) in
        ap (λ (b : Bool). offer_of_two b (has (nodes eb) m) (offer_by c ea m) (offer_by c eb m)) t
        ∙ (ap (λ (b : Bool). offer_of_two false b (offer_by c ea m) (offer_by c eb m)) inside ∙ g (once_right (nodes ea) (nodes eb) d) inside)

kind_there : (arena : List BareNode) (c : ℕ → Cell) (levels p m : ℕ) (node : BareNode) (k : Kind) → slice_get arena p ≡ Some node → node.kind ≡ k → HasArity k node.elements → ((q : ℕ) → Is arena c (placed_down arena levels q) m)
    → Is arena c (of_kind k (place_for k node.number p) (placed_all arena levels node.elements)) m
kind_there arena c levels p m node kind.Plan at is a r d h = go node.number d h
  where
    go : (n : Option ℕ) → AreDistinct (nodes (of_kind kind.Plan (place_for kind.Plan n p) (placed_all arena levels node.elements))) → has (nodes (of_kind kind.Plan (place_for kind.Plan n p) (placed_all arena levels node.elements))) m ≡ true
        → offer_by c (of_kind kind.Plan (place_for kind.Plan n p) (placed_all arena levels node.elements)) m ≡ offer_there (slice_get arena m) (c m)
    go None d h = among_there arena c levels node.elements m r d h
    go (Some n) d h =
        own_or_below p m (nodes_all (to_execs (placed_all arena levels node.elements))) _ h
        (λ e. there arena c p m node _ at e (subst (λ (q : ℕ). offer_by_among c (to_execs (placed_all arena levels node.elements)) q ≡ offer_at node.kind (c q) (length node.elements)) e
        (among_none c (to_execs (placed_all arena levels node.elements)) p d.0 ∙ sym (ap (λ (j : Kind). offer_at j (c p) (length node.elements)) is))))
        (λ t i. among_there arena c levels node.elements m r d.1 i)
kind_there arena c levels p m node kind.Par at is a r d h =
    own_or_below p m (nodes_all (to_execs (placed_all arena levels node.elements))) _ h
    (λ e. there arena c p m node _ at e (subst (λ (q : ℕ). offer_by_among c (to_execs (placed_all arena levels node.elements)) q ≡ offer_at node.kind (c q) (length node.elements)) e
    (among_none c (to_execs (placed_all arena levels node.elements)) p d.0 ∙ sym (ap (λ (j : Kind). offer_at j (c p) (length node.elements)) is))))
    (λ t i. among_there arena c levels node.elements m r d.1 i)
kind_there arena c levels p m node kind.NonSeq at is a r d h =
    let es = to_execs (placed_all arena levels node.elements) in
    own_or_below p m (nodes_all es) _ h
    (λ e. there arena c p m node _ at e (subst (λ (q : ℕ). offer_by c (NonSeq p es) q ≡ offer_at node.kind (c q) (length node.elements)) e
    (ap (λ (b : Bool). if b then Picks (count es) (picked (c p)) else offer_by_among c es p) (own_test p)
    ∙ (ap (λ (n : ℕ). Picks n (picked (c p))) (count_is arena levels node.elements) ∙ sym (ap (λ (j : Kind). offer_at j (c p) (length node.elements)) is)))))
    (λ t i. ap (λ (b : Bool). if b then Picks (count es) (picked (c p)) else offer_by_among c es m) t ∙ among_there arena c levels node.elements m r d.1 i)
kind_there arena c levels p m node kind.Sel at is a r d h =
    let es = to_execs (placed_all arena levels node.elements) in
    own_or_below p m (nodes_all es) _ h
    (λ e. there arena c p m node _ at e (subst (λ (q : ℕ). offer_by c (Sel p es) q ≡ offer_at node.kind (c q) (length node.elements)) e
    (ap (λ (b : Bool). if b then Picks (count es) [] else offer_by_among c es p) (own_test p)
    ∙ (ap (λ (n : ℕ). Picks n []) (count_is arena levels node.elements) ∙ sym (ap (λ (j : Kind). offer_at j (c p) (length node.elements)) is)))))
    (λ t i. ap (λ (b : Bool). if b then Picks (count es) [] else offer_by_among c es m) t ∙ among_there arena c levels node.elements m r d.1 i)
kind_there arena c levels p m node kind.If at is a r d h = two node.elements a d h
  where
    two : (places : List ℕ) → HasArity kind.If places → AreDistinct (nodes (If p (first_of (placed_all arena levels places)) (second_of (placed_all arena levels places)))) → has (nodes (If p (first_of (placed_all arena levels places)) (second_of (placed_all arena levels places)))) m ≡ true
        → offer_by c (If p (first_of (placed_all arena levels places)) (second_of (placed_all arena levels places))) m ≡ offer_there (slice_get arena m) (c m)
    two [] a d h = absurd a
    two (x ∷ []) a d h = absurd a
    two (x ∷ y ∷ z ∷ places) a d h = absurd a
    two (x ∷ y ∷ []) a d h =
        let ea = placed_down arena levels x in
        let eb = placed_down arena levels y in
        own_or_below p m (nodes ea ++ nodes eb) _ h
        (λ e. there arena c p m node _ at e (subst (λ (q : ℕ). offer_by c (If p ea eb) q ≡ offer_at node.kind (c q) (length node.elements)) e
        (ap (λ (b : Bool). if b then Tests else offer_of_two (has (nodes ea) p) (has (nodes eb) p) (offer_by c ea p) (offer_by c eb p)) (own_test p) ∙ sym (ap (λ (j : Kind). offer_at j (c p) (length node.elements)) is))))
        (λ t i. ap (λ (b : Bool). if b then Tests else offer_of_two (has (nodes ea) m) (has (nodes eb) m) (offer_by c ea m) (offer_by c eb m)) t ∙ pick arena c m ea eb (r x) (r y) d.1 i)
kind_there arena c levels p m node kind.While at is a r d h = one node.elements a d h
  where
    one : (places : List ℕ) → HasArity kind.While places → AreDistinct (nodes (While p (first_of (placed_all arena levels places)))) → has (nodes (While p (first_of (placed_all arena levels places)))) m ≡ true
        → offer_by c (While p (first_of (placed_all arena levels places))) m ≡ offer_there (slice_get arena m) (c m)
    one [] a d h = absurd a
    one (x ∷ y ∷ places) a d h = absurd a
    one (x ∷ []) a d h =
        let ea = placed_down arena levels x in
        own_or_below p m (nodes ea) _ h
        (λ e. there arena c p m node _ at e (subst (λ (q : ℕ). offer_by c (While p ea) q ≡ offer_at node.kind (c q) (length node.elements)) e
        (ap (λ (b : Bool). if b then Tests else offer_by c ea p) (own_test p) ∙ sym (ap (λ (j : Kind). offer_at j (c p) (length node.elements)) is))))
        (λ t i. ap (λ (b : Bool). if b then Tests else offer_by c ea m) t ∙ r x d.1 i)
kind_there arena c levels p m node kind.Work at is a r d h =
    own_or_below p m [] _ h (λ e. there arena c p m node _ at e (ap (λ (q : ℕ). offer_of_work (stage_of (c q))) e ∙ sym (ap (λ (j : Kind). offer_at j (c m) (length node.elements)) is))) (λ t i. absurd (no_true i))
kind_there arena c levels p m node kind.Assign at is a r d h = own_or_below p m [] _ h (λ e. there arena c p m node _ at e (sym (ap (λ (j : Kind). offer_at j (c m) (length node.elements)) is))) (λ t i. absurd (no_true i))
kind_there arena c levels p m node kind.Set at is a r d h = own_or_below p m [] _ h (λ e. there arena c p m node _ at e (sym (ap (λ (j : Kind). offer_at j (c m) (length node.elements)) is))) (λ t i. absurd (no_true i))
kind_there arena c levels p m node kind.Wait at is a r d h = own_or_below p m [] _ h (λ e. there arena c p m node _ at e (sym (ap (λ (j : Kind). offer_at j (c m) (length node.elements)) is))) (λ t i. absurd (no_true i))
kind_there arena c levels p m node kind.Note at is a r d h = own_or_below p m [] _ h (λ e. there arena c p m node _ at e (sym (ap (λ (j : Kind). offer_at j (c m) (length node.elements)) is))) (λ t i. absurd (no_true i))

none_there : (arena : List BareNode) (e : Exec) (m : ℕ) (P : Type 0) → e ≡ Plan None None_left → has (nodes e) m ≡ true → P
none_there arena e m P h i = absurd (no_true (subst (λ (w : Exec). has (nodes w) m ≡ true) h i))

-- what the node at place m does next
pub offers_there : (arena : List BareNode) (c : ℕ → Cell) (levels p m : ℕ) → AreShaped arena → AreDistinct (nodes (placed_down arena levels p)) → has (nodes (placed_down arena levels p)) m ≡ true → offer_by c (placed_down arena levels p) m ≡ offer_there (slice_get arena m) (c m)
offers_there arena c zero p m shaped d h = none_there arena (placed_down arena 0 p) m _ (down_zero arena 0 p refl) h
offers_there arena c (suc levels) p m shaped d h = go (slice_get arena p) refl (λ q. offers_there arena c levels q m shaped)
  where
    some : 0 < suc levels
    some = omega arith

    go : (o : Option BareNode) → slice_get arena p ≡ o → ((q : ℕ) → Is arena c (placed_down arena levels q) m) → offer_by c (placed_down arena (suc levels) p) m ≡ offer_there (slice_get arena m) (c m)
    go None at r = none_there arena (placed_down arena (suc levels) p) m _ (down_none arena (suc levels) p some at) h
    go (Some node) at r =
        let same : suc levels - 1 ≡ levels = omega arith in
        let down : placed_down arena (suc levels) p ≡ of_kind node.kind (place_for node.kind node.number p) (placed_all arena levels node.elements) =
        down_node arena (suc levels) p node some at ∙ ap (λ (j : ℕ). of_kind node.kind (place_for node.kind node.number p) (placed_all arena j node.elements)) same in
        ap (λ (e : Exec). offer_by c e m) down ∙ kind_there arena c levels p m node node.kind at refl (shaped p node at) r (subst (λ (e : Exec). AreDistinct (nodes e)) down d) (subst (λ (e : Exec). has (nodes e) m ≡ true) down h)

-- a node that does something is no workplan and no parallel
pub does_something : (k : Kind) (c : Cell) (n : ℕ) (o : Offer) → o ≡ offer_at k c n → IsOpen o → ((k ≡ kind.Plan → ⊥) × (k ≡ kind.Par → ⊥))
does_something k c n o h i = ((λ e. (subst IsOpen (h ∙ ap (λ (j : Kind). offer_at j c n) e) i)), (λ e. (subst IsOpen (h ∙ ap (λ (j : Kind). offer_at j c n) e) i)))

-- How the builder of a tree grows: by one executable, by one part after another, by a branch that is left out.
use Rattle.std.specs.Prelude.{◌≡◌, ◌<◌, ◌≤◌, ◌+◌, ◌-◌, ◌==◌, ◌||◌, ◌⊎◌, ℕ, zero, suc, min, nat_lt, Bool, true, false, List, [], ◌∷◌, ◌++◌, length, map, flat_map, slice_get, slice_set, Option, Some, None, Result, Ok, Err, IfErr}
use Rattle.std.specs.Result.{IsErrAnd}
use Rattle.std.specs.Option.{option_or}
use Rattle.std.specs.List.{cons_option}
use Rattle.std.proofs.Common.{refl, sym, ap, subst, ◌∙◌, arith, inl, inr, take, drop, length-append, append_assoc}
use Rattle.std.proofs.lemmas.List.Elements.{filter_map-append}
use Rattle.std.proofs.lemmas.Bool.Decides.{nat_tests}
use Rattle.entity_types.specs.declared.entity.Entity.{Entity}
use Rattle.exec_tree.specs.Exec.{Exec, Plan, None_left, has}
use Rattle.exec_tree.specs.Arena.{of_kind}
use Rattle.exec_tree.specs.declared.kind.Kind.{Kind}
use Rattle.exec_tree.specs.declared.kind.Kind.TheVariants as kind
use Rattle.exec_tree.specs.declared.node.BareNode.{BareNode}
use Rattle.exec_tree.specs.declared.error.TreeErr.{TreeErr}
use Rattle.exec_tree.specs.Executable.{kind_of, kind_at, parts_by, parts_at, channel_at}
use Rattle.exec_tree.specs.Size.{expression_size}
use Rattle.exec_tree.specs.Walk.{Visit, visit_of, channel_below, part_walk, visits_from}
use Rattle.exec_tree.specs.TreeFault.{Seen, fault_by, with_channel, seen_with, first_fault, seen_after}
use Rattle.exec_tree.specs.TreeOf.{part_tree, exec_found, tree_from}
use Rattle.exec_tree.specs.Arena.{tree_down, numbers_in, IsClosed, IsKept, HasArity, AreShapedFrom, AreNamedFrom, Label, label_in, labels_in}
use Rattle.exec_tree.specs.Walked.{Walked, seen_of, bare, entered, with_elements, label_of, labels_from, Grows, IsHeld, AreElements, IsFault}
use Rattle.std.proofs.lemmas.List.{append-nil}
use Rattle.exec_tree.proofs.PlaceLemmas.{set_is}
use Rattle.exec_tree.proofs.FaultLemmas.{fault_first, fault_later, fault_sooner, seen_append, some_left}
use Rattle.exec_tree.proofs.ArenaLemmas.{trees_kept, tree_node, tree_blank, get_before, get_last, get_set, get_other, length_set}

-- the builder has gone over a front of these visits: what lies ahead decides
pub record Goes (entities : ℕ → Option Entity) (old now : Walked) (all ahead : List Visit) : Type 0 where
  pub fault : first_fault entities (seen_of old) all ≡ first_fault entities (seen_of now) ahead
  pub seen : seen_after entities (seen_of old) all ≡ seen_after entities (seen_of now) ahead
  pub longer : length old.nodes ≤ length now.nodes
  pub kept : IsKept old.nodes now.nodes 0 (length old.nodes)
  pub closed : IsClosed now.nodes (length old.nodes) (length now.nodes)
  pub shaped : AreShapedFrom now.nodes (length old.nodes) (length now.nodes)
  pub named : AreNamedFrom now.nodes (length old.nodes) (length now.nodes)
  pub labels : labels_in old.nodes ++ labels_from entities (seen_of old) all ≡ labels_in now.nodes ++ labels_from entities (seen_of now) ahead

pub goes_start : (entities : ℕ → Option Entity) (old : Walked) (all : List Visit) → Goes entities old old all all
goes_start entities old all = record {
  fault = refl;
  seen = refl;
  longer = omega arith;
  kept = λ r f t. refl;
  closed = λ r q node f t e h. absurd (omega arith);
  shaped = λ r node f t e. absurd (omega arith);
  named = λ r node f t e. absurd (omega arith);
  labels = refl;
}

labels_append : (entities : ℕ → Option Entity) (seen : Seen) (vs us : List Visit)
    → labels_from entities seen (vs ++ us) ≡ labels_from entities seen vs ++ labels_from entities (seen_after entities seen vs) us
labels_append entities seen [] us = refl
labels_append entities seen (v ∷ vs) us = ap (λ (ls : List Label). label_of entities (seen_with entities seen v).channels v ∷ ls) (labels_append entities (seen_with entities seen v) vs us)

at_or_below : (r n : ℕ) → (r < n) ⊎ (n ≤ r)
at_or_below r n = go (nat_lt r n) refl
  where
    go : (b : Bool) → nat_lt r n ≡ b → (r < n) ⊎ (n ≤ r)
    go true e = let y : r < n = grind (arith, nat_tests) in inl y
    go false e = let y : n ≤ r = grind (arith, nat_tests) in inr y

pub goes_on : (entities : ℕ → Option Entity) (old now next : Walked) (all vs ahead : List Visit) → Goes entities old now all (vs ++ ahead) → Grows entities now next vs → Goes entities old next all ahead
goes_on entities old now next all vs ahead g w = record {
  fault = g.fault ∙ fault_later entities (seen_of now) vs ahead w.no_fault ∙ ap (λ (s : Seen). first_fault entities s ahead) (sym w.seen);
  seen = g.seen ∙ seen_append entities (seen_of now) vs ahead ∙ ap (λ (s : Seen). seen_after entities s ahead) (sym w.seen);
  longer = omega (arith, g.longer, w.longer);
  kept = λ r f t. w.kept r f (omega (arith, t, g.longer)) ∙ g.kept r f t;
  closed = λ r q node f t e h. elim (at_or_below r (length now.nodes)) [
    | inl l ↦ let z = g.closed r q node f l (sym (w.kept r (omega arith) l) ∙ e) h in let y : (r < q) × (q < length next.nodes) = (z.0, omega (arith, z.1, w.longer)) in y
    | inr l ↦ w.closed r q node l t e h
  ];
  shaped = λ r node f t e. elim (at_or_below r (length now.nodes)) [
    | inl l ↦ g.shaped r node f l (sym (w.kept r (omega arith) l) ∙ e)
    | inr l ↦ w.shaped r node l t e
  ];
  named = λ r node f t e. elim (at_or_below r (length now.nodes)) [
    | inl l ↦ g.named r node f l (sym (w.kept r (omega arith) l) ∙ e)
    | inr l ↦ w.named r node l t e
  ];
  labels = g.labels
      ∙ (ap (λ (ls : List Label). labels_in now.nodes ++ ls) (labels_append entities (seen_of now) vs ahead ∙ ap (λ (s : Seen). labels_from entities (seen_of now) vs ++ labels_from entities s ahead) (sym w.seen))
      ∙ (sym (append_assoc (labels_in now.nodes) (labels_from entities (seen_of now) vs) (labels_from entities (seen_of next) ahead))
      ∙ ap (λ (ls : List Label). ls ++ labels_from entities (seen_of next) ahead) (sym w.labels)));
}

pub goes_end : (entities : ℕ → Option Entity) (old now : Walked) (all : List Visit) → Goes entities old now all [] → Grows entities old now all
goes_end entities old now all g = record {
  no_fault = g.fault;
  seen = sym g.seen;
  longer = g.longer;
  kept = g.kept;
  closed = g.closed;
  shaped = g.shaped;
  named = g.named;
  labels = sym (append-nil (labels_in now.nodes)) ∙ sym g.labels;
}

-- a fault ahead is one of all
pub goes_wrong : (entities : ℕ → Option Entity) (old now : Walked) (all vs ahead : List Visit) (e : TreeErr) → Goes entities old now all (vs ++ ahead)
    → IsFault (first_fault entities (seen_of now) vs) e → IsFault (first_fault entities (seen_of old) all) e
goes_wrong entities old now all vs ahead e g f = subst (λ (o : Option TreeErr). IsFault o e) (sym g.fault) (fault_sooner entities (seen_of now) vs ahead e f)

-- ---- the elements

has_snoc : (qs : List ℕ) (p q : ℕ) → has (qs ++ p ∷ []) q ≡ true → (has qs q ≡ true) ⊎ (p ≡ q)
has_snoc [] p q h = inr (grind (arith, nat_tests))
has_snoc (r ∷ qs) p q h = go (r == q) h (has_snoc qs p q)
  where
    go : (b : Bool) → (b || has (qs ++ p ∷ []) q) ≡ true → (has (qs ++ p ∷ []) q ≡ true → (has qs q ≡ true) ⊎ (p ≡ q)) → ((b || has qs q) ≡ true) ⊎ (p ≡ q)
    go true i f = inl refl
    go false i f = f i

map_snoc : {A B : Type 0} (f : A → B) (xs : List A) (x : A) → map f (xs ++ x ∷ []) ≡ map f xs ++ f x ∷ []
map_snoc f [] x = refl
map_snoc f (y ∷ xs) x = ap (λ ys. f y ∷ ys) (map_snoc f xs x)

pub elements_start : (old : Walked) (levels : ℕ) → AreElements old old levels [] []
elements_start old levels = record { within = λ q h. absurd (cc); hold = refl }

pub elements_on : (entities : ℕ → Option Entity) (old now next : Walked) (levels : ℕ) (qs : List ℕ) (trees : List Exec) (place : ℕ) (tree : Exec) (vs : List Visit)
    → length old.nodes ≤ length now.nodes → IsClosed now.nodes (length old.nodes) (length now.nodes) → Grows entities now next vs
    → AreElements old now levels qs trees → IsHeld now next levels place tree → AreElements old next levels (qs ++ place ∷ []) (trees ++ tree ∷ [])
elements_on entities old now next levels qs trees place tree vs longer closed w es h = record {
  within = λ q i. elim (has_snoc qs place q i) [
    | inl j ↦ let z = es.within q j in let y : (length old.nodes ≤ q) × (q < length next.nodes) = (z.0, omega (arith, z.1, w.longer)) in y
    | inr e ↦ let y : (length old.nodes ≤ q) × (q < length next.nodes) = (omega (arith, e, h.at, longer), omega (arith, e, h.within)) in y
  ];
  hold = map_snoc (tree_down next.nodes levels) qs place
      ∙ (ap (λ (xs : List Exec). xs ++ tree_down next.nodes levels place ∷ [])
      (trees_kept now.nodes next.nodes (length old.nodes) (length now.nodes) levels qs closed (λ r f t. w.kept r (omega arith) t) es.within ∙ es.hold)
      ∙ ap (λ (x : Exec). trees ++ x ∷ []) h.held);
}

-- ---- an executable with its parts

visits_suc : (entities : ℕ → Option Entity) (k : ℕ) (channel : Option ℕ) (n : ℕ)
    → visits_from entities (suc k) channel n ≡ visit_of n (suc k) channel (entities n) ∷ flat_map (part_walk (λ m. visits_from entities k (channel_below channel (entities n)) m)) (parts_at (entities n))
unfolding visits_from
visits_suc entities k channel n = refl

pub visits_some : (entities : ℕ → Option Entity) (left : ℕ) (channel : Option ℕ) (n : ℕ) → 0 < left
    → visits_from entities left channel n ≡ visit_of n left channel (entities n) ∷ flat_map (part_walk (λ m. visits_from entities (left - 1) (channel_below channel (entities n)) m)) (parts_at (entities n))
visits_some entities left channel n l =
    let e : suc (left - 1) ≡ left = omega (arith, l) in
    subst (λ (k : ℕ). visits_from entities k channel n ≡ visit_of n k channel (entities n) ∷ flat_map (part_walk (λ m. visits_from entities (left - 1) (channel_below channel (entities n)) m)) (parts_at (entities n))) e (visits_suc entities (left - 1) channel n)

first_visit : (entities : ℕ → Option Entity) (left : ℕ) (channel : Option ℕ) (n : ℕ) → (vs : List Visit) × (visits_from entities left channel n ≡ visit_of n left channel (entities n) ∷ vs)
unfolding visits_from
first_visit entities zero channel n = ([], refl)
first_visit entities (suc left) channel n = (_, refl)

tree_suc : (entities : ℕ → Option Entity) (k n : ℕ) → tree_from entities (suc k) n ≡ exec_found n (λ m. tree_from entities k m) (entities n)
unfolding tree_from
tree_suc entities k n = refl

tree_some : (entities : ℕ → Option Entity) (left n : ℕ) → 0 < left → tree_from entities left n ≡ exec_found n (λ m. tree_from entities (left - 1) m) (entities n)
tree_some entities left n l =
    let e : suc (left - 1) ≡ left = omega (arith, l) in
    subst (λ (k : ℕ). tree_from entities k n ≡ exec_found n (λ m. tree_from entities (left - 1) m) (entities n)) e (tree_suc entities (left - 1) n)

entered_seen : (entities : ℕ → Option Entity) (w : Walked) (n left : ℕ) (channel : Option ℕ) → seen_of (entered entities w n channel) ≡ seen_with entities (seen_of w) (visit_of n left channel (entities n))
entered_seen entities w n left channel =
    let seen = λ (ns : List ℕ). let s : Seen = record { numbers = ns; weight = w.weight + (1 + min (expression_size entities n) 1000); channels = with_channel w.channels (channel_at (entities n)); fixed = w.fixed } in s in
    ap seen (filter_map-append (λ (node : BareNode). node.number) w.nodes (bare n (with_channel w.channels (channel_at (entities n))) channel (entities n) ∷ []))

-- the fault of the executable itself
pub fault_here : (entities : ℕ → Option Entity) (w : Walked) (n left : ℕ) (channel : Option ℕ) (e : TreeErr)
    → IsFault (fault_by (seen_of w) n left (expression_size entities n) (channel_at (entities n))) e → IsFault (first_fault entities (seen_of w) (visits_from entities left channel n)) e
fault_here entities w n left channel e f =
    let first = first_visit entities left channel n in
    let v = visit_of n left channel (entities n) in
    subst (λ (us : List Visit). IsFault (first_fault entities (seen_of w) us) e) (sym first.1)
    (fault_first (fault_by (seen_of w) n left (expression_size entities n) (channel_at (entities n))) (first_fault entities (seen_with entities (seen_of w) v) first.0) e f)

-- a fault below it
pub fault_below : (entities : ℕ → Option Entity) (w : Walked) (n left : ℕ) (channel : Option ℕ) (e : TreeErr)
    → fault_by (seen_of w) n left (expression_size entities n) (channel_at (entities n)) ≡ None
    → IsFault (first_fault entities (seen_of (entered entities w n channel)) (flat_map (part_walk (λ m. visits_from entities (left - 1) (channel_below channel (entities n)) m)) (parts_at (entities n)))) e
    → IsFault (first_fault entities (seen_of w) (visits_from entities left channel n)) e
fault_below entities w n left channel e none f =
    let vs = flat_map (part_walk (λ m. visits_from entities (left - 1) (channel_below channel (entities n)) m)) (parts_at (entities n)) in
    let v = visit_of n left channel (entities n) in
    let l = some_left (seen_of w) n left (expression_size entities n) (channel_at (entities n)) none in
    let is : first_fault entities (seen_of w) (visits_from entities left channel n) ≡ first_fault entities (seen_of (entered entities w n channel)) vs =
    ap (first_fault entities (seen_of w)) (visits_some entities left channel n l)
    ∙ (ap (λ (o : Option TreeErr). option_or o (first_fault entities (seen_with entities (seen_of w) v) vs)) none
    ∙ ap (λ (s : Seen). first_fault entities s vs) (sym (entered_seen entities w n left channel))) in
    subst (λ (o : Option TreeErr). IsFault o e) (sym is) f

-- ---- the elements put in

has_before : (r : ℕ) (nodes : List BareNode) (node : BareNode) (to : ℕ) → r < length nodes → slice_get (nodes ++ node ∷ []) r ≡ slice_get nodes r
has_before r nodes node to l = get_before nodes (node ∷ []) r l

length_bare : (nodes : List BareNode) (node : BareNode) → length (nodes ++ node ∷ []) ≡ length nodes + 1
length_bare nodes node = omega (arith, length-append nodes (node ∷ []))

pub numbers_set : (nodes : List BareNode) (p : ℕ) (node : BareNode) (elements : List ℕ) → slice_get nodes p ≡ Some node → numbers_in (slice_set nodes p (record node { elements = elements })) ≡ numbers_in nodes
numbers_set [] p node elements e = absurd (cc)
numbers_set (first ∷ nodes) zero node elements e = let same : first ≡ node = cc in rw same refl
numbers_set (first ∷ nodes) (suc p) node elements e = ap (cons_option first.number) (numbers_set nodes p node elements e)

abbrev pub with_nodes : Walked → List BareNode → Walked
with_nodes w ns = record { nodes = ns; weight = w.weight; channels = w.channels; fixed = w.fixed }

-- what the executable's own visits are, and what they leave
here_fault : (entities : ℕ → Option Entity) (old mid : Walked) (n left : ℕ) (channel : Option ℕ)
    → fault_by (seen_of old) n left (expression_size entities n) (channel_at (entities n)) ≡ None
    → Grows entities (entered entities old n channel) mid (flat_map (part_walk (λ m. visits_from entities (left - 1) (channel_below channel (entities n)) m)) (parts_at (entities n)))
    → (first_fault entities (seen_of old) (visits_from entities left channel n) ≡ None) × (seen_of mid ≡ seen_after entities (seen_of old) (visits_from entities left channel n))
here_fault entities old mid n left channel none g =
    let vs = flat_map (part_walk (λ m. visits_from entities (left - 1) (channel_below channel (entities n)) m)) (parts_at (entities n)) in
    let v = visit_of n left channel (entities n) in
    let l = some_left (seen_of old) n left (expression_size entities n) (channel_at (entities n)) none in
    let e = entered_seen entities old n left channel in (
      ap (first_fault entities (seen_of old)) (visits_some entities left channel n l)
          ∙ (ap (λ (o : Option TreeErr). option_or o (first_fault entities (seen_with entities (seen_of old) v) vs)) none
          ∙ (ap (λ (s : Seen). first_fault entities s vs) (sym e) ∙ g.no_fault)),
      g.seen ∙ (ap (λ (s : Seen). seen_after entities s vs) e ∙ sym (ap (seen_after entities (seen_of old)) (visits_some entities left channel n l))),
    )

-- ---- the node at the end gets its elements: p is its place, b the node as it was put in

set_kept : (os ms : List BareNode) (b c : BareNode) → length os < length ms → IsKept (os ++ b ∷ []) ms 0 (length os + 1) → IsKept os (slice_set ms (length os) c) 0 (length os)
set_kept os ms b c l k r f t =
    let other : length os ≡ r → ⊥ = omega arith in
    get_other ms (length os) r c other ∙ k r f (omega arith) ∙ get_before os (b ∷ []) r t

set_closed : (ms : List BareNode) (p : ℕ) (b : BareNode) (elements : List ℕ) → p < length ms → IsClosed ms (p + 1) (length ms)
    → ((q : ℕ) → has elements q ≡ true → (p + 1 ≤ q) × (q < length ms)) → IsClosed (slice_set ms p (record b { elements = elements })) p (length ms)
set_closed ms p b elements l c w r q node f t e h = elim (at_or_below p r) [
  | inl m ↦ let other : p ≡ r → ⊥ = omega arith in c r q node (omega arith) t (sym (get_other ms p r (record b { elements = elements }) other) ∙ e) h
  | inr m ↦
      let same : p ≡ r = omega arith in
      let at : slice_get (slice_set ms p (record b { elements = elements })) r ≡ Some (record b { elements = elements }) =
      subst (λ (s : ℕ). slice_get (slice_set ms p (record b { elements = elements })) s ≡ Some (record b { elements = elements })) same (get_set ms p (record b { elements = elements }) l) in
      let is : node ≡ record b { elements = elements } = cc in
      let z = w q (subst (λ (k : BareNode). has k.elements q ≡ true) is h) in
      let y : (r < q) × (q < length ms) = (omega (arith, z.0), z.1) in y
]

set_held : (ms : List BareNode) (p : ℕ) (b : BareNode) (elements : List ℕ) (levels : ℕ) → p < length ms → IsClosed ms (p + 1) (length ms)
    → ((q : ℕ) → has elements q ≡ true → (p + 1 ≤ q) × (q < length ms))
    → tree_down (slice_set ms p (record b { elements = elements })) (suc levels) p ≡ of_kind b.kind b.number (map (tree_down ms levels) elements)
set_held ms p b elements levels l c w =
    let after = slice_set ms p (record b { elements = elements }) in
    tree_node after levels p (record b { elements = elements }) (get_set ms p (record b { elements = elements }) l)
    ∙ ap (of_kind b.kind b.number)
    (trees_kept ms after (p + 1) (length ms) levels elements c (λ r f t. let other : p ≡ r → ⊥ = omega arith in get_other ms p r (record b { elements = elements }) other) w)

set_shaped : (ms : List BareNode) (p : ℕ) (b : BareNode) (elements : List ℕ) → p < length ms → AreShapedFrom ms (p + 1) (length ms) → HasArity b.kind elements
    → AreShapedFrom (slice_set ms p (record b { elements = elements })) p (length ms)
set_shaped ms p b elements l s a r node f t e = elim (at_or_below p r) [
  | inl m ↦ let other : p ≡ r → ⊥ = omega arith in s r node (omega arith) t (sym (get_other ms p r (record b { elements = elements }) other) ∙ e)
  | inr m ↦
      let same : p ≡ r = omega arith in
      let at : slice_get (slice_set ms p (record b { elements = elements })) r ≡ Some (record b { elements = elements }) =
      subst (λ (s : ℕ). slice_get (slice_set ms p (record b { elements = elements })) s ≡ Some (record b { elements = elements })) same (get_set ms p (record b { elements = elements }) l) in
      let is : record b { elements = elements } ≡ node = cc in
      subst (λ (k : BareNode). HasArity k.kind k.elements) is a
]

set_named : (ms : List BareNode) (p : ℕ) (b : BareNode) (elements : List ℕ) → p < length ms → AreNamedFrom ms (p + 1) (length ms) → (b.number ≡ None → b.kind ≡ kind.Plan)
    → AreNamedFrom (slice_set ms p (record b { elements = elements })) p (length ms)
set_named ms p b elements l s a r node f t e = elim (at_or_below p r) [
  | inl m ↦ let other : p ≡ r → ⊥ = omega arith in s r node (omega arith) t (sym (get_other ms p r (record b { elements = elements }) other) ∙ e)
  | inr m ↦
      let same : p ≡ r = omega arith in
      let at : slice_get (slice_set ms p (record b { elements = elements })) r ≡ Some (record b { elements = elements }) =
      subst (λ (s : ℕ). slice_get (slice_set ms p (record b { elements = elements })) s ≡ Some (record b { elements = elements })) same (get_set ms p (record b { elements = elements }) l) in
      let is : record b { elements = elements } ≡ node = cc in
      subst (λ (k : BareNode). k.number ≡ None → k.kind ≡ kind.Plan) is a
]

same_length : {A B C : Type 0} (f : A → C) (h : B → C) (xs : List A) (ys : List B) → map f xs ≡ map h ys → length xs ≡ length ys
same_length f h [] [] e = refl
same_length f h [] (y ∷ ys) e = absurd (cc)
same_length f h (x ∷ xs) [] e = absurd (cc)
same_length f h (x ∷ xs) (y ∷ ys) e = ap suc (same_length f h xs ys (let t : map f xs ≡ map h ys = cc in t))

none_of : (es : List ℕ) → length es ≡ 0 → es ≡ []
none_of [] e = refl
none_of (x ∷ es) e = absurd (omega arith)

arity_by : (k : Kind) (entity : Entity) (es : List ℕ) → length es ≡ length (parts_by k entity) → HasArity k es
arity_by kind.Plan entity es e = tt
arity_by kind.Par entity es e = tt
arity_by kind.NonSeq entity es e = tt
arity_by kind.Sel entity es e = tt
arity_by kind.If entity [] e = absurd (omega arith)
arity_by kind.If entity (a ∷ []) e = absurd (omega arith)
arity_by kind.If entity (a ∷ b ∷ []) e = tt
arity_by kind.If entity (a ∷ b ∷ c ∷ es) e = absurd (omega arith)
arity_by kind.While entity [] e = absurd (omega arith)
arity_by kind.While entity (a ∷ []) e = tt
arity_by kind.While entity (a ∷ b ∷ es) e = absurd (omega arith)
arity_by kind.Work entity es e = none_of es e
arity_by kind.Assign entity es e = none_of es e
arity_by kind.Set entity es e = none_of es e
arity_by kind.Wait entity es e = none_of es e
arity_by kind.Note entity es e = none_of es e

arity_found : (found : Option Entity) (es : List ℕ) → length es ≡ length (parts_at found) → HasArity (kind_at found) es
arity_found None es e = none_of es e
arity_found (Some entity) es e = arity_by (kind_of entity.class) entity es e

labels_set : (nodes : List BareNode) (p : ℕ) (node : BareNode) (elements : List ℕ) → slice_get nodes p ≡ Some node → labels_in (slice_set nodes p (record node { elements = elements })) ≡ labels_in nodes
labels_set [] p node elements e = absurd (cc)
labels_set (first ∷ nodes) zero node elements e = let same : first ≡ node = cc in rw same refl
labels_set (first ∷ nodes) (suc p) node elements e = ap (cons_option (label_in first)) (labels_set nodes p node elements e)

labels_here : (entities : ℕ → Option Entity) (old : Walked) (n left : ℕ) (channel : Option ℕ) → 0 < left
    → labels_in (entered entities old n channel).nodes ++ labels_from entities (seen_of (entered entities old n channel)) (flat_map (part_walk (λ m. visits_from entities (left - 1) (channel_below channel (entities n)) m)) (parts_at (entities n)))
    ≡ labels_in old.nodes ++ labels_from entities (seen_of old) (visits_from entities left channel n)
labels_here entities old n left channel more =
    let vs = flat_map (part_walk (λ m. visits_from entities (left - 1) (channel_below channel (entities n)) m)) (parts_at (entities n)) in
    let v = visit_of n left channel (entities n) in
    let s = seen_with entities (seen_of old) v in
    let label = label_of entities s.channels v in
    let node = bare n (with_channel old.channels (channel_at (entities n))) channel (entities n) in
    ap (λ (ls : List Label). ls ++ labels_from entities (seen_of (entered entities old n channel)) vs) (filter_map-append label_in old.nodes (node ∷ []))
    ∙ (ap (λ (x : Seen). (labels_in old.nodes ++ label ∷ []) ++ labels_from entities x vs) (entered_seen entities old n left channel)
    ∙ (append_assoc (labels_in old.nodes) (label ∷ []) (labels_from entities s vs)
    ∙ ap (λ (us : List Visit). labels_in old.nodes ++ labels_from entities (seen_of old) us) (sym (visits_some entities left channel n more))))

-- the executable, its parts below it, and its elements put in: all that its own visits tell
pub grown : (entities : ℕ → Option Entity) (old mid new : Walked) (n left place : ℕ) (channel : Option ℕ) (elements : List ℕ)
    → fault_by (seen_of old) n left (expression_size entities n) (channel_at (entities n)) ≡ None
    → place ≡ length old.nodes
    → Grows entities (entered entities old n channel) mid (flat_map (part_walk (λ m. visits_from entities (left - 1) (channel_below channel (entities n)) m)) (parts_at (entities n)))
    → AreElements (entered entities old n channel) mid (left - 1) elements (map (part_tree (λ m. tree_from entities (left - 1) m)) (parts_at (entities n)))
    → new ≡ record { nodes = with_elements mid.nodes place elements; weight = mid.weight; channels = mid.channels; fixed = mid.fixed }
    → Grows entities old new (visits_from entities left channel n) × IsHeld old new left place (tree_from entities left n)
grown entities old mid new n left place channel elements none at g es is =
    subst (λ (w : Walked). Grows entities old w (visits_from entities left channel n) × IsHeld old w left place (tree_from entities left n)) (sym new_is) (
      record {
        no_fault = f.0;
        seen = ap (λ (ns : List ℕ). let s : Seen = record { numbers = ns; weight = mid.weight; channels = mid.channels; fixed = mid.fixed } in s) (numbers_set ms p b elements at_p) ∙ f.1;
        longer = omega (arith, length_set ms p c, within);
        kept = set_kept os ms b c within (λ r a t. g.kept r a (omega (arith, bare_long)));
        closed = subst (λ (k : ℕ). IsClosed (slice_set ms p c) p k) (sym (length_set ms p c)) (set_closed ms p b elements within closed es_within);
        shaped = subst (λ (k : ℕ). AreShapedFrom (slice_set ms p c) p k) (sym (length_set ms p c))
            (set_shaped ms p b elements within (subst (λ (k : ℕ). AreShapedFrom ms k (length ms)) bare_long g.shaped) (arity_found (entities n) elements (same_length (tree_down ms (left - 1)) (part_tree (λ m. tree_from entities (left - 1) m)) elements (parts_at (entities n)) es.hold)));
        named = subst (λ (k : ℕ). AreNamedFrom (slice_set ms p c) p k) (sym (length_set ms p c))
            (set_named ms p b elements within (subst (λ (k : ℕ). AreNamedFrom ms k (length ms)) bare_long g.named) (λ none. absurd (let w : Some n ≡ None = none in cc)));
        labels = labels_set ms p b elements at_p ∙ (g.labels ∙ labels_here entities old n left channel more);
      },
      record {
        at = at;
        within = omega (arith, at, length_set ms p c, within);
        held = held;
      },
    )
  where
    os : List BareNode
    os = old.nodes

    ms : List BareNode
    ms = mid.nodes

    p : ℕ
    p = length old.nodes

    b : BareNode
    b = bare n (with_channel old.channels (channel_at (entities n))) channel (entities n)

    c : BareNode
    c = record b { elements = elements }

    bare_long : length (old.nodes ++ b ∷ []) ≡ length old.nodes + 1
    bare_long = length_bare old.nodes b

    within : length old.nodes < length mid.nodes
    within = omega (arith, g.longer, bare_long)

    at_p : slice_get mid.nodes (length old.nodes) ≡ Some b
    at_p = g.kept (length old.nodes) (omega arith) (omega (arith, bare_long)) ∙ get_last old.nodes b

    closed : IsClosed mid.nodes (length old.nodes + 1) (length mid.nodes)
    closed = subst (λ (k : ℕ). IsClosed mid.nodes k (length mid.nodes)) bare_long g.closed

    es_within : (q : ℕ) → has elements q ≡ true → (length old.nodes + 1 ≤ q) × (q < length mid.nodes)
    es_within = subst (λ (k : ℕ). (q : ℕ) → has elements q ≡ true → (k ≤ q) × (q < length mid.nodes)) bare_long es.within

    f : (first_fault entities (seen_of old) (visits_from entities left channel n) ≡ None) × (seen_of mid ≡ seen_after entities (seen_of old) (visits_from entities left channel n))
    f = here_fault entities old mid n left channel none g

    new_is : new ≡ with_nodes mid (slice_set mid.nodes (length old.nodes) c)
    new_is = is ∙ ap (with_nodes mid) (ap (λ (k : ℕ). with_elements mid.nodes k elements) at ∙ sym (set_is mid.nodes (length old.nodes) b elements at_p))

    more : 0 < left
    more = some_left (seen_of old) n left (expression_size entities n) (channel_at (entities n)) none

    held : tree_down (slice_set mid.nodes (length old.nodes) c) left place ≡ tree_from entities left n
    held =
        let e : suc (left - 1) ≡ left = omega (arith, more) in
        ap (λ (k : ℕ). tree_down (slice_set mid.nodes (length old.nodes) c) left k) at
        ∙ ap (λ (k : ℕ). tree_down (slice_set mid.nodes (length old.nodes) c) k (length old.nodes)) (sym e)
        ∙ set_held mid.nodes (length old.nodes) b elements (left - 1) within closed es_within
        ∙ ap (of_kind (kind_at (entities n)) (Some n)) es.hold
        ∙ sym (tree_some entities left n more)

-- ---- the parts in order

drop_at : {A : Type 0} (xs : List A) (i : ℕ) (x : A) → slice_get xs i ≡ Some x → drop i xs ≡ x ∷ drop (suc i) xs
drop_at [] i x e = absurd (cc)
drop_at (y ∷ xs) zero x e = let same : y ≡ x = cc in rw same refl
drop_at (y ∷ xs) (suc i) x e = drop_at xs i x e

pub take_at : {A : Type 0} (xs : List A) (i : ℕ) (x : A) → slice_get xs i ≡ Some x → take (suc i) xs ≡ take i xs ++ x ∷ []
take_at [] i x e = absurd (cc)
take_at (y ∷ xs) zero x e = let same : y ≡ x = cc in rw same refl
take_at (y ∷ xs) (suc i) x e = ap (λ ys. y ∷ ys) (take_at xs i x e)

pub ahead_at : (f : Option ℕ → List Visit) (parts : List (Option ℕ)) (i : ℕ) (part : Option ℕ) → slice_get parts i ≡ Some part → flat_map f (drop i parts) ≡ f part ++ flat_map f (drop (i + 1) parts)
ahead_at f parts i part e =
    let s : suc i ≡ i + 1 = omega arith in
    ap (flat_map f) (drop_at parts i part e) ∙ ap (λ (k : ℕ). f part ++ flat_map f (drop k parts)) s

pub parts_on : (entities : ℕ → Option Entity) (old now next : Walked) (levels : ℕ) (f : Option ℕ → List Visit) (h : Option ℕ → Exec) (parts : List (Option ℕ)) (i : ℕ) (part : Option ℕ) (elements later : List ℕ) (place : ℕ)
    → slice_get parts i ≡ Some part
    → Goes entities old now (flat_map f parts) (flat_map f (drop i parts))
    → AreElements old now levels elements (map h (take i parts))
    → Grows entities now next (f part) → IsHeld now next levels place (h part) → later ≡ elements ++ place ∷ []
    → Goes entities old next (flat_map f parts) (flat_map f (drop (i + 1) parts)) × AreElements old next levels later (map h (take (i + 1) parts))
parts_on entities old now next levels f h parts i part elements later place e g es w held is =
    let s : suc i ≡ i + 1 = omega arith in
    let trees : map h (take i parts) ++ h part ∷ [] ≡ map h (take (i + 1) parts) =
    sym (map_snoc h (take i parts) part) ∙ ap (map h) (sym (take_at parts i part e) ∙ ap (λ (k : ℕ). take k parts) s) in (
      goes_on entities old now next (flat_map f parts) (f part) (flat_map f (drop (i + 1) parts)) (subst (Goes entities old now (flat_map f parts)) (ahead_at f parts i part e) g) w,
      subst (λ (qs : List ℕ). AreElements old next levels qs (map h (take (i + 1) parts))) (sym is)
          (subst (AreElements old next levels (elements ++ place ∷ [])) trees (elements_on entities old now next levels elements (map h (take i parts)) place (h part) (f part) g.longer g.closed w es held)),
    )

-- ---- a branch that is left out

pub blank_grows : (entities : ℕ → Option Entity) (old : Walked) (node : BareNode) → node.number ≡ None → node.elements ≡ [] → HasArity node.kind node.elements → node.kind ≡ kind.Plan
    → Grows entities old (with_nodes old (old.nodes ++ node ∷ [])) []
blank_grows entities old node e n a plan = record {
  no_fault = refl;
  seen = ap (λ (ns : List ℕ). let s : Seen = record { numbers = ns; weight = old.weight; channels = old.channels; fixed = old.fixed } in s) same;
  longer = omega (arith, length_bare old.nodes node);
  kept = λ r f t. get_before old.nodes (node ∷ []) r t;
  closed = λ r q found f t at h.
      let last : length old.nodes ≡ r = omega (arith, length_bare old.nodes node) in
      let here : slice_get (old.nodes ++ node ∷ []) r ≡ Some node = subst (λ (k : ℕ). slice_get (old.nodes ++ node ∷ []) k ≡ Some node) last (get_last old.nodes node) in
      let is : found ≡ node = cc in
      let none : has [] q ≡ true = subst (λ (ks : List ℕ). has ks q ≡ true) n (subst (λ (k : BareNode). has k.elements q ≡ true) is h) in
      absurd (cc);
  shaped = λ r found f t at.
      let last : length old.nodes ≡ r = omega (arith, length_bare old.nodes node) in
      let here : slice_get (old.nodes ++ node ∷ []) r ≡ Some node = subst (λ (k : ℕ). slice_get (old.nodes ++ node ∷ []) k ≡ Some node) last (get_last old.nodes node) in
      let is : node ≡ found = cc in
      subst (λ (k : BareNode). HasArity k.kind k.elements) is a;
  named = λ r found f t at none.
      let last : length old.nodes ≡ r = omega (arith, length_bare old.nodes node) in
      let here : slice_get (old.nodes ++ node ∷ []) r ≡ Some node = subst (λ (k : ℕ). slice_get (old.nodes ++ node ∷ []) k ≡ Some node) last (get_last old.nodes node) in
      let is : node ≡ found = cc in
      subst (λ (k : BareNode). k.kind ≡ kind.Plan) is plan;
  labels = filter_map-append label_in old.nodes (node ∷ []) ∙ ap (λ (ls : List Label). labels_in old.nodes ++ ls) (rw e refl);
}
  where
    same : numbers_in (old.nodes ++ node ∷ []) ≡ numbers_in old.nodes
    same = filter_map-append (λ (k : BareNode). k.number) old.nodes (node ∷ []) ∙ (ap (λ (ns : List ℕ). numbers_in old.nodes ++ ns) (rw e refl) ∙ append-nil (numbers_in old.nodes))

pub blank_held : (old : Walked) (node : BareNode) (levels place : ℕ) → of_kind node.kind node.number [] ≡ Plan None None_left → node.elements ≡ [] → place ≡ length old.nodes
    → IsHeld old (with_nodes old (old.nodes ++ node ∷ [])) levels place (Plan None None_left)
blank_held old node levels place k n at = record {
  at = at;
  within = omega (arith, at, length_bare old.nodes node);
  held = ap (tree_down (old.nodes ++ node ∷ []) levels) at ∙ tree_blank (old.nodes ++ node ∷ []) levels (length old.nodes) node (get_last old.nodes node) k n;
}

-- the error that a `?` hands on
pub err_is : {A : Type 0} (r : Result A TreeErr) (x : TreeErr) (o : Option TreeErr) → IsErrAnd r (λ e. e ≡ x) → IsFault o x → IfErr r (IsFault o)
err_is (Ok a) x o h f = tt
err_is (Err e) x o h f = subst (IsFault o) (sym h) f

-- the same, as the code comes by it
pub grown_by : (entities : ℕ → Option Entity) (old first mid new : Walked) (n left place : ℕ) (channel lower : Option ℕ) (found : Option Entity) (elements : List ℕ)
    → fault_by (seen_of old) n left (expression_size entities n) (channel_at (entities n)) ≡ None
    → place ≡ length old.nodes → first ≡ entered entities old n channel → found ≡ entities n → lower ≡ channel_below channel found
    → Grows entities first mid (flat_map (part_walk (λ m. visits_from entities (left - 1) lower m)) (parts_at found))
    → AreElements first mid (left - 1) elements (map (part_tree (λ m. tree_from entities (left - 1) m)) (parts_at found))
    → new ≡ record { nodes = with_elements mid.nodes place elements; weight = mid.weight; channels = mid.channels; fixed = mid.fixed }
    → Grows entities old new (visits_from entities left channel n) × IsHeld old new left place (tree_from entities left n)
grown_by entities old first mid new n left place channel lower found elements none at f is l g es w =
    let below = λ (x : Option Entity) (y : Option ℕ). flat_map (part_walk (λ (m : ℕ). visits_from entities (left - 1) y m)) (parts_at x) in
    let trees = λ (x : Option Entity). map (part_tree (λ (m : ℕ). tree_from entities (left - 1) m)) (parts_at x) in
    let g1 = subst (λ (v : Walked). Grows entities v mid (below found lower)) f g in
    let g2 = subst (λ (y : Option ℕ). Grows entities (entered entities old n channel) mid (below found y)) l g1 in
    let g3 = subst (λ (x : Option Entity). Grows entities (entered entities old n channel) mid (below x (channel_below channel x))) is g2 in
    let e1 = subst (λ (v : Walked). AreElements v mid (left - 1) elements (trees found)) f es in
    let e2 = subst (λ (x : Option Entity). AreElements (entered entities old n channel) mid (left - 1) elements (trees x)) is e1 in
    grown entities old mid new n left place channel elements none at g3 e2 w

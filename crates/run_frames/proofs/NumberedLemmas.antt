-- Each node of the tree that is numbered by places has a number, by which its place is found.
use Rattle.std.specs.Prelude.{◌≡◌, ◌⊎◌, ◌+◌, ◌==◌, if◌then◌else◌, ℕ, zero, suc, Bool, true, false, List, [], ◌∷◌, ◌++◌, map, slice_get, Option, Some, None}
use Rattle.std.specs.Option.{option_map_or}
use Rattle.std.specs.List.{cons_option}
use Rattle.std.proofs.Common.{refl, sym, ◌∙◌, ap, subst, arith, inl, inr}
use Rattle.std.proofs.lemmas.Bool.Decides.{nat_tests}
use Rattle.exec_tree.specs.Exec.{Exec, nodes, nodes_all, has, AreDistinct}
use Rattle.exec_tree.specs.Arena.{to_execs, of_kind, first_of, second_of, numbers_in, number_or_zero, AreNamed}
use Rattle.exec_tree.specs.Walked.{is_numbered, place_from}
use Rattle.exec_tree.specs.declared.kind.Kind.{Kind}
use Rattle.exec_tree.specs.declared.kind.Kind.TheVariants as kind
use Rattle.exec_tree.specs.declared.node.BareNode.{BareNode}
use Rattle.tree_table.specs.Placed.{place_for, placed_node, placed_down, number_at}
use Rattle.tree_table.proofs.ListLemmas.{same_number, clash, has_self, has_left, has_right, has_rest, rest_has, right_has}

-- the node at the place has a number
pub record IsNumbered (arena : List BareNode) (p : ℕ) : Type 0 where
  pub node : BareNode
  pub at : slice_get arena p ≡ Some node
  pub number : ℕ
  pub has_it : node.number ≡ Some number

no_true : false ≡ true → ⊥
no_true h = (let w : false ≡ true = h in cc)

-- ---- nodes of an executable of a kind

first_has : (es : List Exec) (q : ℕ) → has (nodes (first_of es)) q ≡ true → has (nodes_all (to_execs es)) q ≡ true
first_has [] q h = h
first_has (e ∷ es) q h = has_left (nodes e) (nodes_all (to_execs es)) q h

second_has : (es : List Exec) (q : ℕ) → has (nodes (second_of es)) q ≡ true → has (nodes_all (to_execs es)) q ≡ true
second_has [] q h = h
second_has (e ∷ es) q h = has_right (nodes e) (nodes_all (to_execs es)) q (first_has es q h)

two_has : (es : List Exec) (q : ℕ) → has (nodes (first_of es) ++ nodes (second_of es)) q ≡ true → has (nodes_all (to_execs es)) q ≡ true
two_has es q h = go (has (nodes (first_of es)) q) refl
  where
    go : (b : Bool) → has (nodes (first_of es)) q ≡ b → has (nodes_all (to_execs es)) q ≡ true
    go true e = first_has es q e
    go false e = second_has es q (right_has (nodes (first_of es)) (nodes (second_of es)) q h e)

-- q is the place itself, where its node has a number or is no workplan, or it is one of an element's
abbrev IsOwnOr : Kind → Option ℕ → ℕ → ℕ → List ℕ → Type 0
IsOwnOr k n p q ms = ((p ≡ q) × (k ≡ kind.Plan → n ≡ None → ⊥)) ⊎ (has ms q ≡ true)

own_or : (k : Kind) (n : Option ℕ) (p q : ℕ) (ns ms : List ℕ) → (k ≡ kind.Plan → n ≡ None → ⊥) → (has ns q ≡ true → has ms q ≡ true) → has (p ∷ ns) q ≡ true → IsOwnOr k n p q ms
own_or k n p q ns ms own f h = go (p == q) refl
  where
    go : (b : Bool) → (p == q) ≡ b → IsOwnOr k n p q ms
    go true e = inl (same_number p q e, own)
    go false e = inr (f (rest_has p ns q h e))

nodes_in : (k : Kind) (n : Option ℕ) (p q : ℕ) (es : List Exec) → has (nodes (of_kind k (place_for k n p) es)) q ≡ true → IsOwnOr k n p q (nodes_all (to_execs es))
nodes_in kind.Plan None p q es h = inr h
nodes_in kind.Plan (Some n) p q es h = own_or kind.Plan (Some n) p q (nodes_all (to_execs es)) (nodes_all (to_execs es)) (λ k none. (let w : Some n ≡ None = none in cc)) (λ i. i) h
nodes_in kind.Par n p q es h = own_or kind.Par n p q (nodes_all (to_execs es)) (nodes_all (to_execs es)) (λ k none. (let w : kind.Par ≡ kind.Plan = k in cc)) (λ i. i) h
nodes_in kind.NonSeq n p q es h = own_or kind.NonSeq n p q (nodes_all (to_execs es)) (nodes_all (to_execs es)) (λ k none. (let w : kind.NonSeq ≡ kind.Plan = k in cc)) (λ i. i) h
nodes_in kind.Sel n p q es h = own_or kind.Sel n p q (nodes_all (to_execs es)) (nodes_all (to_execs es)) (λ k none. (let w : kind.Sel ≡ kind.Plan = k in cc)) (λ i. i) h
nodes_in kind.If n p q es h = own_or kind.If n p q (nodes (first_of es) ++ nodes (second_of es)) (nodes_all (to_execs es)) (λ k none. (let w : kind.If ≡ kind.Plan = k in cc)) (λ i. two_has es q i) h
nodes_in kind.While n p q es h = own_or kind.While n p q (nodes (first_of es)) (nodes_all (to_execs es)) (λ k none. (let w : kind.While ≡ kind.Plan = k in cc)) (λ i. first_has es q i) h
nodes_in kind.Work n p q es h = own_or kind.Work n p q [] (nodes_all (to_execs es)) (λ k none. (let w : kind.Work ≡ kind.Plan = k in cc)) (λ i. absurd (no_true i)) h
nodes_in kind.Assign n p q es h = own_or kind.Assign n p q [] (nodes_all (to_execs es)) (λ k none. (let w : kind.Assign ≡ kind.Plan = k in cc)) (λ i. absurd (no_true i)) h
nodes_in kind.Set n p q es h = own_or kind.Set n p q [] (nodes_all (to_execs es)) (λ k none. (let w : kind.Set ≡ kind.Plan = k in cc)) (λ i. absurd (no_true i)) h
nodes_in kind.Wait n p q es h = own_or kind.Wait n p q [] (nodes_all (to_execs es)) (λ k none. (let w : kind.Wait ≡ kind.Plan = k in cc)) (λ i. absurd (no_true i)) h
nodes_in kind.Note n p q es h = own_or kind.Note n p q [] (nodes_all (to_execs es)) (λ k none. (let w : kind.Note ≡ kind.Plan = k in cc)) (λ i. absurd (no_true i)) h

element_of : (f : ℕ → Exec) (places : List ℕ) (q : ℕ) → has (nodes_all (to_execs (map f places))) q ≡ true → (r : ℕ) × (has (nodes (f r)) q ≡ true)
element_of f [] q h = absurd (no_true h)
element_of f (p ∷ places) q h = go (has (nodes (f p)) q) refl (λ i. element_of f places q i)
  where
    go : (b : Bool) → has (nodes (f p)) q ≡ b → (has (nodes_all (to_execs (map f places))) q ≡ true → (r : ℕ) × (has (nodes (f r)) q ≡ true)) → (r : ℕ) × (has (nodes (f r)) q ≡ true)
    go true e rec = (p, e)
    go false e rec = rec (right_has (nodes (f p)) (nodes_all (to_execs (map f places))) q h e)

some_number : (o : Option ℕ) → (o ≡ None → ⊥) → (n : ℕ) × (o ≡ Some n)
some_number None h = absurd (h refl)
some_number (Some n) h = (n, refl)

pub numbered_down : (arena : List BareNode) (levels p q : ℕ) → AreNamed arena → has (nodes (placed_down arena levels p)) q ≡ true → IsNumbered arena q
unfolding placed_down
numbered_down arena zero p q named h = absurd (no_true h)
numbered_down arena (suc levels) p q named h = go (slice_get arena p) refl (λ r i. numbered_down arena levels r q named i)
  where
    go : (o : Option BareNode) → slice_get arena p ≡ o → ((r : ℕ) → has (nodes (placed_down arena levels r)) q ≡ true → IsNumbered arena q) → IsNumbered arena q
    go None e rec = absurd (no_true (subst (λ (o : Option BareNode). has (nodes (placed_node p o (λ r. placed_down arena levels r))) q ≡ true) e h))
    go (Some node) e rec = both (nodes_in node.kind node.number p q (map (λ r. placed_down arena levels r) node.elements) (subst (λ (o : Option BareNode). has (nodes (placed_node p o (λ r. placed_down arena levels r))) q ≡ true) e h))
      where
        both : IsOwnOr node.kind node.number p q (nodes_all (to_execs (map (λ r. placed_down arena levels r) node.elements))) → IsNumbered arena q
        both (inl i) =
            let n = some_number node.number (λ none. i.1 (named p node e none) none) in
            record { node = node; at = ap (slice_get arena) (sym i.0) ∙ e; number = n.0; has_it = n.1 }
        both (inr i) = let t = element_of (λ (r : ℕ). placed_down arena levels r) node.elements q i in rec t.0 t.1

pub number_is : (arena : List BareNode) (p : ℕ) (s : IsNumbered arena p) → number_at arena p ≡ s.number
number_is arena p s =
    ap (λ (o : Option BareNode). option_map_or (λ node. number_or_zero node.number) o 0) s.at ∙ ap number_or_zero s.has_it

-- ---- the place of a number

number_in : (arena : List BareNode) (p : ℕ) (node : BareNode) (n : ℕ) → slice_get arena p ≡ Some node → node.number ≡ Some n → has (numbers_in arena) n ≡ true
number_in [] p node n at e = absurd (cc)
number_in (first ∷ arena) zero node n at e =
    let same : first ≡ node = cc in
    let is : first.number ≡ Some n = ap (λ (w : BareNode). w.number) same ∙ e in
    subst (λ (o : Option ℕ). has (cons_option o (numbers_in arena)) n ≡ true) (sym is) (has_self n (numbers_in arena))
number_in (first ∷ arena) (suc p) node n at e = go first.number (number_in arena p node n at e)
  where
    go : (o : Option ℕ) → has (numbers_in arena) n ≡ true → has (cons_option o (numbers_in arena)) n ≡ true
    go None h = h
    go (Some m) h = has_rest m (numbers_in arena) n h

own_number : (n : ℕ) → is_numbered (Some n) n ≡ true
own_number n = (let e : (n == n) ≡ true = grind (arith, nat_tests) in e)

pub place_is : (i : ℕ) (arena : List BareNode) (p : ℕ) (node : BareNode) (n : ℕ) → slice_get arena p ≡ Some node → node.number ≡ Some n → AreDistinct (numbers_in arena) → place_from i arena n ≡ Some (i + p)
place_is i [] p node n at e d = absurd (cc)
place_is i (first ∷ arena) zero node n at e d =
    let same : first ≡ node = cc in
    let is : first.number ≡ Some n = ap (λ (w : BareNode). w.number) same ∙ e in
    let here : i ≡ i + zero = omega arith in
    ap (λ (o : Option ℕ). if is_numbered o n then Some i else place_from (i + 1) arena n) is ∙ (ap (λ (b : Bool). if b then Some i else place_from (i + 1) arena n) (own_number n) ∙ ap (λ (j : ℕ). Some j) here)
place_is i (first ∷ arena) (suc p) node n at e d = go first.number d (λ c. place_is (i + 1) arena p node n at e c)
  where
    step : i + 1 + p ≡ i + suc p
    step = omega arith

    go : (o : Option ℕ) → AreDistinct (cons_option o (numbers_in arena)) → (AreDistinct (numbers_in arena) → place_from (i + 1) arena n ≡ Some (i + 1 + p)) → (if is_numbered o n then Some i else place_from (i + 1) arena n) ≡ Some (i + suc p)
    go None c rec = rec c ∙ ap (λ (j : ℕ). Some j) step
    go (Some m) c rec = test (m == n) refl
      where
        test : (b : Bool) → (m == n) ≡ b → (if m == n then Some i else place_from (i + 1) arena n) ≡ Some (i + suc p)
        test true f = absurd (clash (has (numbers_in arena) n) (number_in arena p node n at e) (subst (λ (j : ℕ). has (numbers_in arena) j ≡ false) (same_number m n f) c.0))
        test false f = ap (λ (b : Bool). if b then Some i else place_from (i + 1) arena n) f ∙ (rec c.1 ∙ ap (λ (j : ℕ). Some j) step)

pub place_found : (arena : List BareNode) (p : ℕ) → IsNumbered arena p → AreDistinct (numbers_in arena) → place_from 0 arena (number_at arena p) ≡ Some p
place_found arena p s d =
    let zero_more : 0 + p ≡ p = omega arith in
    ap (place_from 0 arena) (number_is arena p s) ∙ (place_is 0 arena p s.node s.number s.at s.has_it d ∙ ap (λ (j : ℕ). Some j) zero_more)

same_some : (p q : ℕ) → Some p ≡ Some q → p ≡ q
same_some p q e = cc

-- no two places have one number
pub one_place : (arena : List BareNode) (p q : ℕ) → IsNumbered arena p → IsNumbered arena q → AreDistinct (numbers_in arena) → number_at arena p ≡ number_at arena q → p ≡ q
one_place arena p q s t d e = same_some p q (sym (place_found arena p s d) ∙ (ap (place_from 0 arena) e ∙ place_found arena q t d))

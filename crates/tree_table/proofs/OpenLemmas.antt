-- Opening by a table.
use Rattle.std.specs.Prelude.{◌≡◌, ◌<◌, ◌≤◌, ◌-◌, ◌+◌, ◌==◌, ◌||◌, ℕ, zero, suc, Bool, true, false, if◌then◌else◌, List, [], ◌∷◌, ◌++◌, map, length, drop, slice_get, Option, Some, None}
use Rattle.std.proofs.Common.{refl, sym, ◌∙◌, ap, subst, arith, get_or, ◌⊎◌, inl, inr}
use Rattle.std.proofs.lemmas.Bool.Decides.{nat_tests}
use Rattle.exec_tree.specs.Exec.{Exec, Plan, Par, None_left, nodes, nodes_all, has, count}
use Rattle.exec_tree.specs.Arena.{to_execs, of_kind, first_of, second_of, IsClosed, AreShaped, HasArity}
use Rattle.exec_tree.specs.declared.kind.Kind.{Kind}
use Rattle.exec_tree.specs.declared.kind.Kind.TheVariants as kind
use Rattle.exec_tree.specs.declared.node.BareNode.{BareNode}
use Rattle.trace_law.specs.Next.{first_of_two, next, next_each}
use Rattle.trace_law.specs.Leading.{leads}
use Rattle.tree_table.specs.Placed.{place_for, placed_node, placed_down, placed_all, placed}
use Rattle.tree_table.specs.Within.{is_workplan}
use Rattle.tree_table.specs.Rows.{into_at, levels_at, executable_at}
use Rattle.tree_table.specs.Filled.{into_of, first_into, Led, LedAll}
use Rattle.tree_table.specs.Table.{IsEntrance, LeadsTo, IsTable}
use Rattle.tree_table.specs.declared.row.Row.{Row}
use Rattle.tree_table.proofs.ListLemmas.{same_number, has_left, has_right, has_append, has_self, has_rest, rest_has, right_has, drop_at}
use Rattle.tree_table.proofs.PlacedLemmas.{down_node}
use Rattle.tree_table.proofs.NodeLemmas.{nodes_of}
use Rattle.tree_table.proofs.LeadLemmas.{lead_of, first_in_order, place_is, is_plan, no_plan}
use Rattle.tree_table.proofs.TellLemmas.{own_led, elements_led}
use Rattle.tree_table.proofs.TableLemmas.{IsPart, part_of, found_of}

-- ---- the place to which opening leads

pub nothing_into : (e : Exec) → e ≡ Plan None None_left → None ≡ into_of e
nothing_into e h = ap into_of (sym h)

pub own_into : (arena : List BareNode) (rows : List Row) (levels : ℕ) (k : Kind) (at : Option ℕ) (p : ℕ) (places : List ℕ) → at ≡ Some p → Led arena rows (of_kind k at (placed_all arena levels places)) → into_at rows p ≡ into_of (of_kind k at (placed_all arena levels places))
own_into arena rows levels k at p places h s =
    let es = placed_all arena levels places in
    subst (λ (o : Option ℕ). into_at rows p ≡ into_of (of_kind k o es)) (sym h) (own_led arena rows levels k p places (subst (λ (o : Option ℕ). Led arena rows (of_kind k o es)) h s)).into

-- what has no row of its own is a workplan
pub no_row : (k : Kind) (n : Option ℕ) (p : ℕ) → place_for k n p ≡ None → k ≡ kind.Plan
no_row k n p h = go (place_is k n p)
  where
    go : (place_for k n p ≡ Some p) ⊎ ((place_for k n p ≡ None) × (k ≡ kind.Plan)) → k ≡ kind.Plan
    go (inl e) = absurd (let w : Some p ≡ None = sym e ∙ h in cc)
    go (inr e) = e.1

pub plan_elements : (arena : List BareNode) (rows : List Row) (levels : ℕ) (k : Kind) (at : Option ℕ) (places : List ℕ) → at ≡ None → k ≡ kind.Plan → Led arena rows (of_kind k at (placed_all arena levels places)) → LedAll arena rows (to_execs (placed_all arena levels places))
plan_elements arena rows levels k at places h g s =
    let es = placed_all arena levels places in
    subst (λ (j : Kind). Led arena rows (of_kind j None es)) g (subst (λ (o : Option ℕ). Led arena rows (of_kind k o es)) h s)

pub plan_first : (arena : List BareNode) (levels : ℕ) (k : Kind) (at : Option ℕ) (places : List ℕ) → at ≡ None → k ≡ kind.Plan → first_into (to_execs (placed_all arena levels places)) ≡ into_of (of_kind k at (placed_all arena levels places))
plan_first arena levels k at places h g =
    let es = placed_all arena levels places in
    subst (λ (o : Option ℕ). first_into (to_execs es) ≡ into_of (of_kind k o es)) (sym h) (subst (λ (j : Kind). first_into (to_execs es) ≡ into_of (of_kind j None es)) (sym g) (first_in_order (to_execs es) (Plan None (to_execs es))))

-- ---- nodes lie behind the place from which they are looked for

first_has : (es : List Exec) (q : ℕ) → has (nodes (first_of es)) q ≡ true → has (nodes_all (to_execs es)) q ≡ true
first_has [] q h = h
first_has (e ∷ es) q h = has_left (nodes e) (nodes_all (to_execs es)) q h

second_has : (es : List Exec) (q : ℕ) → has (nodes (second_of es)) q ≡ true → has (nodes_all (to_execs es)) q ≡ true
second_has [] q h = h
second_has (e ∷ es) q h = has_right (nodes e) (nodes_all (to_execs es)) q (first_has es q h)

two_has : (es : List Exec) (q : ℕ) → has (nodes (first_of es) ++ nodes (second_of es)) q ≡ true → has (nodes_all (to_execs es)) q ≡ true
two_has es q h = go (has (nodes (first_of es)) q) refl
  where
    go : (b : Bool) → has (nodes (first_of es)) q ≡ b → has (nodes_all (to_execs es)) q ≡ true
    go true e = first_has es q e
    go false e = second_has es q (right_has (nodes (first_of es)) (nodes (second_of es)) q h e)

own_or : (p q : ℕ) (ns ms : List ℕ) → (has ns q ≡ true → has ms q ≡ true) → has (p ∷ ns) q ≡ true → (p ≡ q) ⊎ (has ms q ≡ true)
own_or p q ns ms f h = go (p == q) refl
  where
    go : (b : Bool) → (p == q) ≡ b → (p ≡ q) ⊎ (has ms q ≡ true)
    go true e = inl (same_number p q e)
    go false e = inr (f (rest_has p ns q h e))

nodes_in : (k : Kind) (n : Option ℕ) (p q : ℕ) (es : List Exec) → has (nodes (of_kind k (place_for k n p) es)) q ≡ true → (p ≡ q) ⊎ (has (nodes_all (to_execs es)) q ≡ true)
nodes_in kind.Plan None p q es h = inr h
nodes_in kind.Plan (Some n) p q es h = own_or p q (nodes_all (to_execs es)) (nodes_all (to_execs es)) (λ i. i) h
nodes_in kind.Par n p q es h = own_or p q (nodes_all (to_execs es)) (nodes_all (to_execs es)) (λ i. i) h
nodes_in kind.NonSeq n p q es h = own_or p q (nodes_all (to_execs es)) (nodes_all (to_execs es)) (λ i. i) h
nodes_in kind.Sel n p q es h = own_or p q (nodes_all (to_execs es)) (nodes_all (to_execs es)) (λ i. i) h
nodes_in kind.If n p q es h = own_or p q (nodes (first_of es) ++ nodes (second_of es)) (nodes_all (to_execs es)) (λ i. two_has es q i) h
nodes_in kind.While n p q es h = own_or p q (nodes (first_of es)) (nodes_all (to_execs es)) (λ i. first_has es q i) h
nodes_in kind.Work n p q es h = own_or p q [] (nodes_all (to_execs es)) (λ i. absurd (let w : false ≡ true = i in cc)) h
nodes_in kind.Assign n p q es h = own_or p q [] (nodes_all (to_execs es)) (λ i. absurd (let w : false ≡ true = i in cc)) h
nodes_in kind.Set n p q es h = own_or p q [] (nodes_all (to_execs es)) (λ i. absurd (let w : false ≡ true = i in cc)) h
nodes_in kind.Wait n p q es h = own_or p q [] (nodes_all (to_execs es)) (λ i. absurd (let w : false ≡ true = i in cc)) h
nodes_in kind.Note n p q es h = own_or p q [] (nodes_all (to_execs es)) (λ i. absurd (let w : false ≡ true = i in cc)) h

-- the node is one of an element's
element_of : (f : ℕ → Exec) (places : List ℕ) (q : ℕ) → has (nodes_all (to_execs (map f places))) q ≡ true → (r : ℕ) × (has places r ≡ true) × (has (nodes (f r)) q ≡ true)
element_of f [] q h = absurd (let w : false ≡ true = h in cc)
element_of f (p ∷ places) q h = go (has (nodes (f p)) q) refl (λ i. element_of f places q i)
  where
    go : (b : Bool) → has (nodes (f p)) q ≡ b → (has (nodes_all (to_execs (map f places))) q ≡ true → (r : ℕ) × (has places r ≡ true) × (has (nodes (f r)) q ≡ true)) → (r : ℕ) × (has (p ∷ places) r ≡ true) × (has (nodes (f r)) q ≡ true)
    go true e rec = (p, has_self p places, e)
    go false e rec = let t = rec (right_has (nodes (f p)) (nodes_all (to_execs (map f places))) q h e) in (t.0, has_rest p places t.0 t.1, t.2)

pub later_nodes : (arena : List BareNode) (to levels p q : ℕ) → IsClosed arena 0 to → ((r : ℕ) (node : BareNode) → slice_get arena r ≡ Some node → r < to) → has (nodes (placed_down arena levels p)) q ≡ true → p ≤ q
unfolding placed_down
later_nodes arena to zero p q closed bound h = absurd (let w : false ≡ true = h in cc)
later_nodes arena to (suc levels) p q closed bound h = go (slice_get arena p) refl (λ r i. later_nodes arena to levels r q closed bound i)
  where
    below : ℕ → Exec
    below r = placed_down arena levels r

    go : (o : Option BareNode) → slice_get arena p ≡ o → ((r : ℕ) → has (nodes (placed_down arena levels r)) q ≡ true → r ≤ q) → p ≤ q
    go None e rec = absurd (let w : false ≡ true = subst (λ (o : Option BareNode). has (nodes (placed_node p o (λ r. placed_down arena levels r))) q ≡ true) e h in cc)
    go (Some node) e rec = both (nodes_in node.kind node.number p q (map (λ r. placed_down arena levels r) node.elements) (subst (λ (o : Option BareNode). has (nodes (placed_node p o (λ r. placed_down arena levels r))) q ≡ true) e h))
      where
        both : (p ≡ q) ⊎ (has (nodes_all (to_execs (map (λ r. placed_down arena levels r) node.elements))) q ≡ true) → p ≤ q
        both (inl i) = omega (arith, i)
        both (inr i) =
            let t = element_of (λ (r : ℕ). placed_down arena levels r) node.elements q i in
            let a = (closed p t.0 node (omega arith) (bound p node e) e t.1).0 in
            let b = rec t.0 t.2 in
            omega (arith, a, b)

-- ---- an executable to which opening leads

pub table_part : (arena : List BareNode) (rows : List Row) (p : ℕ) → IsTable arena rows → has (nodes (placed arena)) p ≡ true → IsPart arena rows (nodes (placed arena)) p (executable_at arena rows p)
table_part arena rows p t h = subst (λ (e : Exec). IsPart arena rows (nodes (placed arena)) p e) (sym (t.there p h)) (part_of arena rows (placed arena) p t.led h)

-- it has something to do, and leads to itself
pub entrance_leads : (arena : List BareNode) (rows : List Row) (p : ℕ) → IsTable arena rows → IsEntrance arena rows p → (next (executable_at arena rows p) [] ≡ [] → ⊥) × (executable_at arena rows p ≡ leads (executable_at arena rows p))
entrance_leads arena rows p t s =
    let l = subst (λ (o : Option ℕ). LeadsTo arena rows (executable_at arena rows p) o) s.itself (t.into p s.inside) in
    (l.0, l.2)

no_workplan : (arena : List BareNode) (rows : List Row) (p : ℕ) → IsTable arena rows → IsEntrance arena rows p → is_workplan (executable_at arena rows p) ≡ false
no_workplan arena rows p t s =
    let l = entrance_leads arena rows p t s in
    ap is_workplan l.1 ∙ (lead_of (executable_at arena rows p) l.0).3

some_levels : (arena : List BareNode) (levels p : ℕ) → (next (placed_down arena levels p) [] ≡ [] → ⊥) → 0 < levels
unfolding placed_down
some_levels arena zero p h = absurd (h refl)
some_levels arena (suc levels) p h = omega arith

-- its node, one level down
pub entrance_node : (arena : List BareNode) (rows : List Row) (p : ℕ) (node : BareNode) → IsTable arena rows → IsEntrance arena rows p → slice_get arena p ≡ Some node
    → executable_at arena rows p ≡ of_kind node.kind (place_for node.kind node.number p) (placed_all arena (levels_at rows p - 1) node.elements)
entrance_node arena rows p node t s at = down_node arena (levels_at rows p) p node (some_levels arena (levels_at rows p) p (entrance_leads arena rows p t s).0) at

none_down : (arena : List BareNode) (levels p : ℕ) → slice_get arena p ≡ None → next (placed_down arena levels p) [] ≡ []
unfolding placed_down
none_down arena zero p h = refl
none_down arena (suc levels) p h = ap (λ (o : Option BareNode). next (placed_node p o (λ r. placed_down arena levels r)) []) h

pub entrance_some : (arena : List BareNode) (rows : List Row) (p : ℕ) → IsTable arena rows → IsEntrance arena rows p → slice_get arena p ≡ None → ⊥
entrance_some arena rows p t s h = (entrance_leads arena rows p t s).0 (none_down arena (levels_at rows p) p h)

plan_is : (k : Kind) (n : Option ℕ) (es : List Exec) → k ≡ kind.Plan → is_workplan (of_kind k n es) ≡ true
plan_is k n es h = ap (λ (j : Kind). is_workplan (of_kind j n es)) h

nonseq_itself : (p : ℕ) (b : Bool) → (first_of_two [] (if b then [] else p ∷ []) ≡ [] → ⊥) → first_of_two [] (if b then [] else p ∷ []) ≡ p ∷ []
nonseq_itself p true h = absurd (h refl)
nonseq_itself p false h = refl

-- what is no workplan and no parallel comes in itself
kind_itself : (k : Kind) (n : Option ℕ) (p : ℕ) (es : List Exec) → is_workplan (of_kind k (place_for k n p) es) ≡ false → (k ≡ kind.Par → ⊥) → (next (of_kind k (place_for k n p) es) [] ≡ [] → ⊥) → next (of_kind k (place_for k n p) es) [] ≡ p ∷ []
kind_itself kind.Plan n p es w r h = absurd (let v : true ≡ false = w in cc)
kind_itself kind.Par n p es w r h = absurd (r refl)
kind_itself kind.NonSeq n p es w r h = nonseq_itself p (0 == count (to_execs es)) h
kind_itself kind.Sel n p es w r h = refl
kind_itself kind.If n p es w r h = refl
kind_itself kind.While n p es w r h = refl
kind_itself kind.Work n p es w r h = refl
kind_itself kind.Assign n p es w r h = refl
kind_itself kind.Set n p es w r h = refl
kind_itself kind.Wait n p es w r h = refl
kind_itself kind.Note n p es w r h = refl

own_came : (a b : Bool) → (a || b) ≡ (b || (a || false))
own_came true true = refl
own_came true false = refl
own_came false true = refl
own_came false false = refl

same_test : (p q : ℕ) → (q == p) ≡ (p == q)
same_test p q = grind (arith, nat_tests)

pub itself_came : (arena : List BareNode) (rows : List Row) (p : ℕ) (node : BareNode) → IsTable arena rows → IsEntrance arena rows p → slice_get arena p ≡ Some node → (node.kind ≡ kind.Par → ⊥) → (q : ℕ) (b : Bool) → ((q == p) || b) ≡ (b || has (next (executable_at arena rows p) []) q)
itself_came arena rows p node t s at par q b =
    let is = entrance_node arena rows p node t s at in
    let es = placed_all arena (levels_at rows p - 1) node.elements in
    let own : next (executable_at arena rows p) [] ≡ p ∷ [] =
    subst (λ (e : Exec). next e [] ≡ p ∷ []) (sym is)
    (kind_itself node.kind node.number p es (subst (λ (e : Exec). is_workplan e ≡ false) is (no_workplan arena rows p t s)) par (subst (λ (e : Exec). next e [] ≡ [] → ⊥) is (entrance_leads arena rows p t s).0)) in
    ap (λ (v : Bool). v || b) (same_test p q) ∙ (own_came (p == q) b ∙ ap (λ (l : List ℕ). b || has l q) (sym own))

pub parallel_is : (arena : List BareNode) (rows : List Row) (p : ℕ) (node : BareNode) → IsTable arena rows → IsEntrance arena rows p → slice_get arena p ≡ Some node → node.kind ≡ kind.Par → executable_at arena rows p ≡ Par p (to_execs (placed_all arena (levels_at rows p - 1) node.elements))
parallel_is arena rows p node t s at par =
    entrance_node arena rows p node t s at ∙ ap (λ (k : Kind). of_kind k (place_for k node.number p) (placed_all arena (levels_at rows p - 1) node.elements)) par

pub parallel_parts : (arena : List BareNode) (rows : List Row) (p : ℕ) (node : BareNode) → IsTable arena rows → IsEntrance arena rows p → slice_get arena p ≡ Some node → node.kind ≡ kind.Par
    → LedAll arena rows (to_execs (placed_all arena (levels_at rows p - 1) node.elements)) × ((q : ℕ) → has (nodes_all (to_execs (placed_all arena (levels_at rows p - 1) node.elements))) q ≡ true → has (nodes (placed arena)) q ≡ true)
parallel_parts arena rows p node t s at par =
    let es = to_execs (placed_all arena (levels_at rows p - 1) node.elements) in
    let f = subst (λ (e : Exec). IsPart arena rows (nodes (placed arena)) p e) (parallel_is arena rows p node t s at par) (table_part arena rows p t s.inside) in
    (f.led.1, λ q h. f.inside q (has_rest p (nodes_all es) q h))

-- ---- the elements of a parallel

came_more : (old mid new l m : Bool) → mid ≡ (old || m) → new ≡ (mid || l) → new ≡ (old || (l || m))
came_more old mid new l m h g = g ∙ (ap (λ (b : Bool). b || l) h ∙ go old l m)
  where
    go : (a b c : Bool) → ((a || c) || b) ≡ (a || (b || c))
    go true b c = refl
    go false true true = refl
    go false true false = refl
    go false false true = refl
    go false false false = refl

pub each_came : (arena : List BareNode) (levels : ℕ) (places : List ℕ) (k q : ℕ) (old mid new : Bool) → k < length places → mid ≡ (old || has (next_each (to_execs (placed_all arena levels (drop (k + 1) places))) []) q) → new ≡ (mid || has (next (placed_down arena levels (get_or places k 0)) []) q)
    → new ≡ (old || has (next_each (to_execs (placed_all arena levels (drop k places))) []) q)
each_came arena levels places k q old mid new l h g =
    let e = placed_down arena levels (get_or places k 0) in
    let es = to_execs (placed_all arena levels (drop (k + 1) places)) in
    subst (λ (ps : List ℕ). new ≡ (old || has (next_each (to_execs (placed_all arena levels ps)) []) q)) (sym (drop_at places k l))
    (came_more old mid new (has (next e []) q) (has (next_each es []) q) h g ∙ ap (λ (b : Bool). old || b) (sym (has_append (next e []) (next_each es []) q)))

or_false : (b : Bool) → b ≡ (b || false)
or_false true = refl
or_false false = refl

pub nothing_came : (e : Exec) (q : ℕ) (mid : Bool) → next e [] ≡ [] → mid ≡ (mid || has (next e []) q)
nothing_came e q mid h = or_false mid ∙ ap (λ (l : List ℕ). mid || has l q) (sym h)

-- those of the element at an index are among those of all
pub inside_at : (arena : List BareNode) (levels : ℕ) (places : List ℕ) (k q : ℕ) → k < length places → has (nodes (placed_down arena levels (get_or places k 0))) q ≡ true → has (nodes_all (to_execs (placed_all arena levels places))) q ≡ true
inside_at arena levels [] k q l h = absurd (omega (arith, l))
inside_at arena levels (p ∷ places) zero q l h = has_left (nodes (placed_down arena levels p)) (nodes_all (to_execs (placed_all arena levels places))) q h
inside_at arena levels (p ∷ places) (suc k) q l h =
    has_right (nodes (placed_down arena levels p)) (nodes_all (to_execs (placed_all arena levels places))) q (inside_at arena levels places k q (omega (arith, l)) h)

-- where an element leads lies behind the parallel
pub behind : (arena : List BareNode) (rows : List Row) (to levels p q : ℕ) → IsClosed arena 0 to → ((r : ℕ) (node : BareNode) → slice_get arena r ≡ Some node → r < to) → Led arena rows (placed_down arena levels p) → into_of (placed_down arena levels p) ≡ Some q → p ≤ q
behind arena rows to levels p q closed bound s h = later_nodes arena to levels p q closed bound (found_of arena rows (placed_down arena levels p) q s h).inside

-- ---- an element of any node

has_led : (arena : List BareNode) (rows : List Row) (levels : ℕ) (places : List ℕ) (q : ℕ) → has places q ≡ true → LedAll arena rows (to_execs (placed_all arena levels places))
    → Led arena rows (placed_down arena levels q) × ((r : ℕ) → has (nodes (placed_down arena levels q)) r ≡ true → has (nodes_all (to_execs (placed_all arena levels places))) r ≡ true)
has_led arena rows levels [] q h s = absurd (let w : false ≡ true = h in cc)
has_led arena rows levels (p ∷ places) q h s = go (p == q) refl (λ i. has_led arena rows levels places q i s.1)
  where
    go : (b : Bool) → (p == q) ≡ b → (has places q ≡ true → Led arena rows (placed_down arena levels q) × ((r : ℕ) → has (nodes (placed_down arena levels q)) r ≡ true → has (nodes_all (to_execs (placed_all arena levels places))) r ≡ true))
        → Led arena rows (placed_down arena levels q) × ((r : ℕ) → has (nodes (placed_down arena levels q)) r ≡ true → has (nodes (placed_down arena levels p) ++ nodes_all (to_execs (placed_all arena levels places))) r ≡ true)
    go true e rec =
        let f = same_number p q e in (
          subst (λ (m : ℕ). Led arena rows (placed_down arena levels m)) f s.0,
          λ r j. has_left (nodes (placed_down arena levels p)) (nodes_all (to_execs (placed_all arena levels places))) r (subst (λ (m : ℕ). has (nodes (placed_down arena levels m)) r ≡ true) (sym f) j),
        )
    go false e rec =
        let t = rec (rest_has p places q h e) in
        (t.0, λ r j. has_right (nodes (placed_down arena levels p)) (nodes_all (to_execs (placed_all arena levels places))) r (t.1 r j))

elements_inside : (arena : List BareNode) (levels : ℕ) (k : Kind) (n : Option ℕ) (p : ℕ) (places : List ℕ) → HasArity k places → (k ≡ kind.Plan) ⊎ (k ≡ kind.Plan → ⊥) → (r : ℕ) → has (nodes_all (to_execs (placed_all arena levels places))) r ≡ true
    → has (nodes (of_kind k (place_for k n p) (placed_all arena levels places))) r ≡ true
elements_inside arena levels k n p places a (inl e) r h =
    subst (λ (j : Kind). has (nodes (of_kind j (place_for j n p) (placed_all arena levels places))) r ≡ true) (sym e) (plan n)
  where
    plan : (m : Option ℕ) → has (nodes (Plan (place_for kind.Plan m p) (to_execs (placed_all arena levels places)))) r ≡ true
    plan None = h
    plan (Some m) = has_rest p (nodes_all (to_execs (placed_all arena levels places))) r h
elements_inside arena levels k n p places a (inr e) r h =
    subst (λ (o : Option ℕ). has (nodes (of_kind k o (placed_all arena levels places))) r ≡ true) (sym (no_plan k n p e))
    (subst (λ (ns : List ℕ). has ns r ≡ true) (sym (nodes_of arena levels k p places a e)) (has_rest p (nodes_all (to_execs (placed_all arena levels places))) r h))

kind_elements : (arena : List BareNode) (rows : List Row) (levels : ℕ) (k : Kind) (n : Option ℕ) (p : ℕ) (places : List ℕ) → HasArity k places → (place_for k n p ≡ Some p) ⊎ ((place_for k n p ≡ None) × (k ≡ kind.Plan)) → Led arena rows (of_kind k (place_for k n p) (placed_all arena levels places))
    → LedAll arena rows (to_execs (placed_all arena levels places))
kind_elements arena rows levels k n p places a (inl e) s = elements_led arena rows levels k p places a (subst (λ (o : Option ℕ). Led arena rows (of_kind k o (placed_all arena levels places))) e s)
kind_elements arena rows levels k n p places a (inr e) s = plan_elements arena rows levels k (place_for k n p) places e.0 e.1 s

below_led : (arena : List BareNode) (rows : List Row) (levels p q : ℕ) (node : BareNode) → HasArity node.kind node.elements → slice_get arena p ≡ Some node → has node.elements q ≡ true → Led arena rows (placed_down arena levels p)
    → Led arena rows (placed_down arena (levels - 1) q) × ((r : ℕ) → has (nodes (placed_down arena (levels - 1) q)) r ≡ true → has (nodes (placed_down arena levels p)) r ≡ true)
unfolding placed_down
below_led arena rows zero p q node a at i s =
    let e : zero - 1 ≡ zero = omega arith in
    subst (λ (k : ℕ). Led arena rows (placed_down arena k q) × ((r : ℕ) → has (nodes (placed_down arena k q)) r ≡ true → has (nodes (placed_down arena zero p)) r ≡ true)) (sym e) (tt, λ r j. j)
below_led arena rows (suc levels) p q node a at i s =
    let is = down_node arena (suc levels) p node (omega arith) at in
    let places = node.elements in
    let l = kind_elements arena rows (suc levels - 1) node.kind node.number p places a (place_is node.kind node.number p) (subst (λ (e : Exec). Led arena rows e) is s) in
    let t = has_led arena rows (suc levels - 1) places q i l in (
      t.0,
      λ r j. subst (λ (e : Exec). has (nodes e) r ≡ true) (sym is) (elements_inside arena (suc levels - 1) node.kind node.number p places a (is_plan node.kind) r (t.1 r j)),
    )

pub element_led : (arena : List BareNode) (rows : List Row) (p q : ℕ) (node : BareNode) → AreShaped arena → IsTable arena rows → has (nodes (placed arena)) p ≡ true → slice_get arena p ≡ Some node → has node.elements q ≡ true
    → Led arena rows (placed_down arena (levels_at rows p - 1) q) × ((r : ℕ) → has (nodes (placed_down arena (levels_at rows p - 1) q)) r ≡ true → has (nodes (placed arena)) r ≡ true)
element_led arena rows p q node shaped t h at i =
    let f = table_part arena rows p t h in
    let b = below_led arena rows (levels_at rows p) p q node (shaped p node at) at i f.led in
    (b.0, λ r j. f.inside r (b.1 r j))

pub none_leads : (arena : List BareNode) (rows : List Row) (e : Exec) (o : Option ℕ) → o ≡ None → LeadsTo arena rows e o → next e [] ≡ []
none_leads arena rows e o h l = subst (λ (p : Option ℕ). LeadsTo arena rows e p) h l

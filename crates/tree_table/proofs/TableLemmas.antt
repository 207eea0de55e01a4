-- What the rows that both passes leave tell of the tree.
use Rattle.std.specs.Prelude.{◌≡◌, ◌≤◌, ◌==◌, ℕ, zero, suc, Bool, true, false, if◌then◌else◌, List, [], ◌∷◌, ◌++◌, map, length, slice_get, Option, Some, None}
use Rattle.std.specs.Option.{option_map_or}
use Rattle.std.proofs.Common.{refl, sym, ◌∙◌, ap, subst}
use Rattle.exec_tree.specs.Exec.{Exec, Work, Leaf, Plan, Par, NonSeq, Sel, If, While, Execs, None_left, Then, nodes, nodes_all, has, count}
use Rattle.exec_tree.specs.Arena.{to_execs, of_kind}
use Rattle.exec_tree.specs.declared.kind.Kind.{Kind}
use Rattle.exec_tree.specs.declared.kind.Kind.TheVariants as kind
use Rattle.exec_tree.specs.declared.node.BareNode.{BareNode}
use Rattle.trace_law.specs.Next.{next, next_each}
use Rattle.trace_law.specs.Frames.{is_shared}
use Rattle.trace_law.specs.Leading.{has_none, leads, leads_first}
use Rattle.place_set.specs.declared.set.TheConstants.{MAX_PLACES}
use Rattle.tree_table.specs.Placed.{place_for, placed_node, placed_down, placed}
use Rattle.tree_table.specs.Within.{own_number, within, within_all}
use Rattle.tree_table.specs.Onward.{Onward, opens_first, joins_where, onward, onward_in_order, onward_among}
use Rattle.tree_table.specs.Onward as onwards
use Rattle.tree_table.specs.Rows.{into_at, after_at, AreLinkedBack}
use Rattle.tree_table.specs.Table.{IsEntrance, LeadsTo, count_at, Tells, IsTable}
use Rattle.tree_table.specs.Filled.{first_place, into_of, first_into, IsLed, Led, LedAll, opens_or, joins_or, Told, ToldInOrder, ToldAll}
use Rattle.tree_table.specs.declared.row.Continuation.{Continuation}
use Rattle.tree_table.specs.declared.row.Continuation.TheVariants as row
use Rattle.tree_table.specs.declared.row.Row.{Row}
use Rattle.tree_table.proofs.ListLemmas.{same_number, has_left, has_right, has_self, has_rest, rest_has, right_has}
use Rattle.tree_table.proofs.LeadLemmas.{is_none, is_some, into_none, into_some, lead_of, first_in_order, first_each}

-- ---- a node is the executable's own or of its elements

-- what is chosen by a number, or by where it is
choose : {A : Type 0} (Q : A → Type 0) (n m : ℕ) (ns : List ℕ) (x y : A) → (n ≡ m → Q x) → (has ns m ≡ true → Q y) → has (n ∷ ns) m ≡ true → Q (if n == m then x else y)
choose Q n m ns x y own rest h = go (n == m) refl
  where
    go : (b : Bool) → (n == m) ≡ b → Q (if n == m then x else y)
    go true e = subst (λ (b : Bool). Q (if b then x else y)) (sym e) (own (same_number n m e))
    go false e = subst (λ (b : Bool). Q (if b then x else y)) (sym e) (rest (rest_has n ns m h e))

either : {A : Type 0} (Q : A → Type 0) (ms ns : List ℕ) (m : ℕ) (x y : A) → (has ms m ≡ true → Q x) → (has ns m ≡ true → Q y) → has (ms ++ ns) m ≡ true → Q (if has ms m then x else y)
either Q ms ns m x y left right h = go (has ms m) refl
  where
    go : (b : Bool) → has ms m ≡ b → Q (if has ms m then x else y)
    go true e = subst (λ (b : Bool). Q (if b then x else y)) (sym e) (left e)
    go false e = subst (λ (b : Bool). Q (if b then x else y)) (sym e) (right (right_has ms ns m h e))

single : (n m : ℕ) → has (n ∷ []) m ≡ true → n ≡ m
single n m h = go (n == m) refl
  where
    go : (b : Bool) → (n == m) ≡ b → n ≡ m
    go true e = same_number n m e
    go false e = absurd (let w : false ≡ true = rest_has n [] m h e in cc)

-- f stands at p, and its nodes are of these
pub record IsPart (arena : List BareNode) (rows : List Row) (ns : List ℕ) (p : ℕ) (f : Exec) : Type 0 where
  pub led : Led arena rows f
  pub own : IsLed arena rows p f
  pub inside : (q : ℕ) → has (nodes f) q ≡ true → has ns q ≡ true

wider : (arena : List BareNode) (rows : List Row) (ms ns : List ℕ) (p : ℕ) (f : Exec) → ((q : ℕ) → has ms q ≡ true → has ns q ≡ true) → IsPart arena rows ms p f → IsPart arena rows ns p f
wider arena rows ms ns p f h s = record { led = s.led; own = s.own; inside = λ q i. h q (s.inside q i) }

itself_part : (arena : List BareNode) (rows : List Row) (n p : ℕ) (f : Exec) → Led arena rows f → IsLed arena rows n f → n ≡ p → IsPart arena rows (nodes f) p f
itself_part arena rows n p f l o e = record { led = l; own = subst (λ (q : ℕ). IsLed arena rows q f) e o; inside = λ q i. i }

mutual
  pub part_of : (arena : List BareNode) (rows : List Row) (e : Exec) (p : ℕ) → Led arena rows e → has (nodes e) p ≡ true → IsPart arena rows (nodes e) p (within e p)
  part_of arena rows (Work n) p s h = itself_part arena rows n p (Work n) s s (single n p h)
  part_of arena rows (Leaf n k) p s h = itself_part arena rows n p (Leaf n k) s s (single n p h)
  part_of arena rows (Plan None es) p s h = part_of_all arena rows es p s h
  part_of arena rows (Plan (Some n) es) p s h =
      choose (IsPart arena rows (n ∷ nodes_all es) p) n p (nodes_all es) (Plan (Some n) es) (within_all es p) (itself_part arena rows n p (Plan (Some n) es) s s.0)
      (λ i. wider arena rows (nodes_all es) (n ∷ nodes_all es) p (within_all es p) (has_rest n (nodes_all es)) (part_of_all arena rows es p s.1 i)) h
  part_of arena rows (Par n es) p s h =
      choose (IsPart arena rows (n ∷ nodes_all es) p) n p (nodes_all es) (Par n es) (within_all es p) (itself_part arena rows n p (Par n es) s s.0)
      (λ i. wider arena rows (nodes_all es) (n ∷ nodes_all es) p (within_all es p) (has_rest n (nodes_all es)) (part_of_all arena rows es p s.1 i)) h
  part_of arena rows (NonSeq n es) p s h =
      choose (IsPart arena rows (n ∷ nodes_all es) p) n p (nodes_all es) (NonSeq n es) (within_all es p) (itself_part arena rows n p (NonSeq n es) s s.0)
      (λ i. wider arena rows (nodes_all es) (n ∷ nodes_all es) p (within_all es p) (has_rest n (nodes_all es)) (part_of_all arena rows es p s.1 i)) h
  part_of arena rows (Sel n es) p s h =
      choose (IsPart arena rows (n ∷ nodes_all es) p) n p (nodes_all es) (Sel n es) (within_all es p) (itself_part arena rows n p (Sel n es) s s.0)
      (λ i. wider arena rows (nodes_all es) (n ∷ nodes_all es) p (within_all es p) (has_rest n (nodes_all es)) (part_of_all arena rows es p s.1 i)) h
  part_of arena rows (If n a b) p s h =
      let ns = nodes a ++ nodes b in
      choose (IsPart arena rows (n ∷ ns) p) n p ns (If n a b) (if has (nodes a) p then within a p else within b p) (itself_part arena rows n p (If n a b) s s.0)
      (λ i. either (IsPart arena rows (n ∷ ns) p) (nodes a) (nodes b) p (within a p) (within b p)
      (λ j. wider arena rows (nodes a) (n ∷ ns) p (within a p) (λ q k. has_rest n ns q (has_left (nodes a) (nodes b) q k)) (part_of arena rows a p s.1 j))
      (λ j. wider arena rows (nodes b) (n ∷ ns) p (within b p) (λ q k. has_rest n ns q (has_right (nodes a) (nodes b) q k)) (part_of arena rows b p s.2 j)) i) h
  part_of arena rows (While n a) p s h =
      choose (IsPart arena rows (n ∷ nodes a) p) n p (nodes a) (While n a) (within a p) (itself_part arena rows n p (While n a) s s.0)
      (λ i. wider arena rows (nodes a) (n ∷ nodes a) p (within a p) (has_rest n (nodes a)) (part_of arena rows a p s.1 i)) h

  pub part_of_all : (arena : List BareNode) (rows : List Row) (es : Execs) (p : ℕ) → LedAll arena rows es → has (nodes_all es) p ≡ true → IsPart arena rows (nodes_all es) p (within_all es p)
  part_of_all arena rows None_left p s h = absurd (let w : false ≡ true = h in cc)
  part_of_all arena rows (Then e es) p s h =
      either (IsPart arena rows (nodes e ++ nodes_all es) p) (nodes e) (nodes_all es) p (within e p) (within_all es p)
      (λ i. wider arena rows (nodes e) (nodes e ++ nodes_all es) p (within e p) (has_left (nodes e) (nodes_all es)) (part_of arena rows e p s.0 i))
      (λ i. wider arena rows (nodes_all es) (nodes e ++ nodes_all es) p (within_all es p) (has_right (nodes e) (nodes_all es)) (part_of_all arena rows es p s.1 i)) h

-- ---- where an executable leads

-- f stands at q, has that number, and leads to itself
pub record IsFound (arena : List BareNode) (rows : List Row) (ns : List ℕ) (q : ℕ) (f : Exec) : Type 0 where
  pub led : IsLed arena rows q f
  pub inside : has ns q ≡ true
  pub twice : leads f ≡ f
  pub own : own_number f ≡ Some q

same_some : (p q : ℕ) → Some p ≡ Some q → p ≡ q
same_some p q e = cc

none_some : (q : ℕ) → None ≡ Some q → ⊥
none_some q e = cc

found_wider : (arena : List BareNode) (rows : List Row) (ms ns : List ℕ) (q : ℕ) (f : Exec) → (has ms q ≡ true → has ns q ≡ true) → IsFound arena rows ms q f → IsFound arena rows ns q f
found_wider arena rows ms ns q f h s = record { led = s.led; inside = h s.inside; twice = s.twice; own = s.own }

found_itself : (arena : List BareNode) (rows : List Row) (n q : ℕ) (ns : List ℕ) (f : Exec) → IsLed arena rows n f → leads f ≡ f → own_number f ≡ Some n → n ≡ q → IsFound arena rows (n ∷ ns) q f
found_itself arena rows n q ns f l t o e = record {
  led = subst (λ (m : ℕ). IsLed arena rows m f) e l;
  inside = subst (λ (m : ℕ). has (n ∷ ns) m ≡ true) e (has_self n ns);
  twice = t;
  own = o ∙ ap (λ (m : ℕ). Some m) e;
}

where_some : (b : Bool) (n q : ℕ) → (if b then None else Some n) ≡ Some q → n ≡ q
where_some true n q h = absurd (none_some q h)
where_some false n q h = same_some n q h

par_found : (arena : List BareNode) (rows : List Row) (n q : ℕ) (es : Execs) (b : Bool) → is_shared es ≡ b → IsLed arena rows n (Par n es) → (first_into es ≡ Some q → IsFound arena rows (nodes_all es) q (leads_first es (Par n es)))
    → (if has_none (next_each es []) then None else own_number (if b then Par n es else leads_first es (Par n es))) ≡ Some q → IsFound arena rows (n ∷ nodes_all es) q (if b then Par n es else leads_first es (Par n es))
par_found arena rows n q es true s l first h =
    found_itself arena rows n q (nodes_all es) (Par n es) l (ap (λ (t : Bool). if t then Par n es else leads_first es (Par n es)) s) refl (where_some (has_none (next_each es [])) n q h)
par_found arena rows n q es false s l first h =
    found_wider arena rows (nodes_all es) (n ∷ nodes_all es) q (leads_first es (Par n es)) (has_rest n (nodes_all es) q) (first (first_each es (Par n es) ∙ h))

found_step : (arena : List BareNode) (rows : List Row) (e : Exec) (es : Execs) (itself : Exec) (q : ℕ) (b : Bool) → has_none (next e []) ≡ b → (into_of e ≡ Some q → IsFound arena rows (nodes e) q (leads e)) → (first_into es ≡ Some q → IsFound arena rows (nodes_all es) q (leads_first es itself))
    → first_place (into_of e) (first_into es) ≡ Some q → IsFound arena rows (nodes e ++ nodes_all es) q (if b then leads_first es itself else leads e)
found_step arena rows e es itself q true n here later h =
    found_wider arena rows (nodes_all es) (nodes e ++ nodes_all es) q (leads_first es itself) (has_right (nodes e) (nodes_all es) q)
    (later (sym (ap (λ (o : Option ℕ). first_place o (first_into es)) (into_none e (is_none (next e []) n))) ∙ h))
found_step arena rows e es itself q false n here later h =
    let some = is_some (next e []) n in
    let l = lead_of e some in
    let i : into_of e ≡ Some l.0 = into_some e some ∙ l.1 in
    let f : into_of e ≡ Some q = i ∙ (sym (ap (λ (o : Option ℕ). first_place o (first_into es)) i) ∙ h) in
    found_wider arena rows (nodes e) (nodes e ++ nodes_all es) q (leads e) (has_left (nodes e) (nodes_all es) q) (here f)

plan_inside : (n : Option ℕ) (es : Execs) (q : ℕ) → has (nodes_all es) q ≡ true → has (nodes (Plan n es)) q ≡ true
plan_inside None es q h = h
plan_inside (Some n) es q h = has_rest n (nodes_all es) q h

plan_led : (arena : List BareNode) (rows : List Row) (n : Option ℕ) (es : Execs) → Led arena rows (Plan n es) → LedAll arena rows es
plan_led arena rows None es s = s
plan_led arena rows (Some n) es s = s.1

mutual
  pub found_of : (arena : List BareNode) (rows : List Row) (e : Exec) (q : ℕ) → Led arena rows e → into_of e ≡ Some q → IsFound arena rows (nodes e) q (leads e)
  found_of arena rows (Work n) q s h = found_itself arena rows n q [] (Work n) s refl refl (same_some n q h)
  found_of arena rows (Leaf n k) q s h = found_itself arena rows n q [] (Leaf n k) s refl refl (same_some n q h)
  found_of arena rows (Plan n es) q s h =
      found_wider arena rows (nodes_all es) (nodes (Plan n es)) q (leads_first es (Plan n es)) (plan_inside n es q)
      (found_first arena rows es (Plan n es) q (plan_led arena rows n es s) (first_in_order es (Plan n es) ∙ h))
  found_of arena rows (Par n es) q s h = par_found arena rows n q es (is_shared es) refl s.0 (λ i. found_first arena rows es (Par n es) q s.1 i) h
  found_of arena rows (NonSeq n es) q s h = found_itself arena rows n q (nodes_all es) (NonSeq n es) s.0 refl refl (where_some (has_none (next (NonSeq n es) [])) n q h)
  found_of arena rows (Sel n es) q s h = found_itself arena rows n q (nodes_all es) (Sel n es) s.0 refl refl (same_some n q h)
  found_of arena rows (If n a b) q s h = found_itself arena rows n q (nodes a ++ nodes b) (If n a b) s.0 refl refl (same_some n q h)
  found_of arena rows (While n a) q s h = found_itself arena rows n q (nodes a) (While n a) s.0 refl refl (same_some n q h)

  pub found_first : (arena : List BareNode) (rows : List Row) (es : Execs) (itself : Exec) (q : ℕ) → LedAll arena rows es → first_into es ≡ Some q → IsFound arena rows (nodes_all es) q (leads_first es itself)
  found_first arena rows None_left itself q s h = absurd (none_some q h)
  found_first arena rows (Then e es) itself q s h =
      found_step arena rows e es itself q (has_none (next e [])) refl (λ i. found_of arena rows e q s.0 i) (λ i. found_first arena rows es itself q s.1 i) h

-- ---- what the rows tell of where opening leads

-- to open where an executable leads is to open it
abbrev pub LeadingLaw : Type 0
LeadingLaw = (e : Exec) → next (leads e) [] ≡ next e []

something : (e : Exec) (q : ℕ) → into_of e ≡ Some q → next e [] ≡ [] → ⊥
something e q h n = none_some q (sym (into_none e n) ∙ h)

entrance : LeadingLaw → (arena : List BareNode) (rows : List Row) (ns : List ℕ) (e : Exec) (q : ℕ) → ((p : ℕ) → has ns p ≡ true → has (nodes (placed arena)) p ≡ true) → into_of e ≡ Some q → IsFound arena rows ns q (leads e) → IsEntrance arena rows q
entrance law arena rows ns e q within h f =
    let some : next (leads e) [] ≡ [] → ⊥ = λ z. something e q h (sym (law e) ∙ z) in
    record { inside = within q f.inside; itself = f.led.into ∙ (into_some (leads e) some ∙ (ap own_number f.twice ∙ f.own)) }

pub leads_to : LeadingLaw → (arena : List BareNode) (rows : List Row) (e : Exec) → ((p : ℕ) → has (nodes e) p ≡ true → has (nodes (placed arena)) p ≡ true) → Led arena rows e → LeadsTo arena rows e (into_of e)
leads_to law arena rows e within s = go (into_of e) refl
  where
    go : (o : Option ℕ) → into_of e ≡ o → LeadsTo arena rows e o
    go None h = none (has_none (next e [])) refl
      where
        none : (b : Bool) → has_none (next e []) ≡ b → next e [] ≡ []
        none true n = is_none (next e []) n
        none false n =
            let some = is_some (next e []) n in
            let l = lead_of e some in
            absurd (none_some l.0 (sym h ∙ (into_some e some ∙ l.1)))
    go (Some q) h =
        let f = found_of arena rows e q s h in
        (something e q h, entrance law arena rows (nodes e) e q within h f, f.led.there)

-- ---- what they tell of where the run goes on

opens_tells : LeadingLaw → (arena : List BareNode) (rows : List Row) (es : Execs) (c : Continuation) (k : Onward) → ((p : ℕ) → has (nodes_all es) p ≡ true → has (nodes (placed arena)) p ≡ true) → LedAll arena rows es → Tells arena rows c k → Tells arena rows (opens_or (first_into es) c) (opens_first es k)
opens_tells law arena rows None_left c k within s t = t
opens_tells law arena rows (Then e es) c k within s t =
    go (has_none (next e [])) refl (opens_tells law arena rows es c k (λ p h. within p (has_right (nodes e) (nodes_all es) p h)) s.1 t)
  where
    go : (b : Bool) → has_none (next e []) ≡ b → Tells arena rows (opens_or (first_into es) c) (opens_first es k) → Tells arena rows (opens_or (first_place (into_of e) (first_into es)) c) (if has_none (next e []) then opens_first es k else onwards.Opens (leads e))
    go true n later =
        subst (λ (b : Bool). Tells arena rows (opens_or (first_place (into_of e) (first_into es)) c) (if b then opens_first es k else onwards.Opens (leads e))) (sym n)
        (subst (λ (o : Option ℕ). Tells arena rows (opens_or (first_place o (first_into es)) c) (opens_first es k)) (sym (into_none e (is_none (next e []) n))) later)
    go false n later =
        let some = is_some (next e []) n in
        let l = lead_of e some in
        let i : into_of e ≡ Some l.0 = into_some e some ∙ l.1 in
        let f = found_of arena rows e l.0 s.0 i in
        let told : Tells arena rows (row.Opens l.0) (onwards.Opens (leads e)) =
        (l.0, refl, entrance law arena rows (nodes e) e l.0 (λ p h. within p (has_left (nodes e) (nodes_all es) p h)) i f, f.led.there) in
        subst (λ (b : Bool). Tells arena rows (opens_or (first_place (into_of e) (first_into es)) c) (if b then opens_first es k else onwards.Opens (leads e))) (sym n)
        (subst (λ (o : Option ℕ). Tells arena rows (opens_or (first_place o (first_into es)) c) (onwards.Opens (leads e))) (sym i) told)

joins_tells : (arena : List BareNode) (rows : List Row) (n : ℕ) (c : Continuation) (k : Onward) (b : Bool) → after_at rows n ≡ c → Tells arena rows c k → Tells arena rows (joins_or b n c) (joins_where b n k)
joins_tells arena rows n c k true own t = (refl, subst (λ (g : Continuation). Tells arena rows g k) (sym own) t)
joins_tells arena rows n c k false own t = t

nonseq_count : (arena : List BareNode) (below : List Exec) (k : Kind) (n : Option ℕ) (p m : ℕ) (es : Execs) → of_kind k (place_for k n p) below ≡ NonSeq m es → count (to_execs below) ≡ count es
nonseq_count arena below kind.Plan n p m es h = absurd (cc)
nonseq_count arena below kind.Par n p m es h = absurd (cc)
nonseq_count arena below kind.NonSeq n p m es h = ap count (let w : to_execs below ≡ es = cc in w)
nonseq_count arena below kind.Sel n p m es h = absurd (cc)
nonseq_count arena below kind.If n p m es h = absurd (cc)
nonseq_count arena below kind.While n p m es h = absurd (cc)
nonseq_count arena below kind.Work n p m es h = absurd (cc)
nonseq_count arena below kind.Assign n p m es h = absurd (cc)
nonseq_count arena below kind.Set n p m es h = absurd (cc)
nonseq_count arena below kind.Wait n p m es h = absurd (cc)
nonseq_count arena below kind.Note n p m es h = absurd (cc)

length_map : {A B : Type 0} (f : A → B) (l : List A) → length (map f l) ≡ length l
length_map f [] = refl
length_map f (x ∷ l) = ap (λ (n : ℕ). suc n) (length_map f l)

count_list : (es : List Exec) → count (to_execs es) ≡ length es
count_list [] = refl
count_list (e ∷ es) = ap (λ (n : ℕ). suc n) (count_list es)

count_there : (arena : List BareNode) (levels p m : ℕ) (es : Execs) → placed_down arena levels p ≡ NonSeq m es → count_at arena p ≡ count es
unfolding placed_down
count_there arena zero p m es h = absurd (let w : Plan None None_left ≡ NonSeq m es = h in cc)
count_there arena (suc levels) p m es h = go (slice_get arena p) refl
  where
    go : (o : Option BareNode) → slice_get arena p ≡ o → count_at arena p ≡ count es
    go None e = absurd (let w : Plan None None_left ≡ NonSeq m es = sym (ap (λ (o : Option BareNode). placed_node p o (λ q. placed_down arena levels q)) e) ∙ h in cc)
    go (Some node) e =
        let w = sym (ap (λ (o : Option BareNode). placed_node p o (λ q. placed_down arena levels q)) e) ∙ h in
        let below = map (λ q. placed_down arena levels q) node.elements in
        ap (λ (o : Option BareNode). option_map_or (λ node. length node.elements) o 0) e
        ∙ (sym (count_list below ∙ length_map (λ q. placed_down arena levels q) node.elements) ∙ nonseq_count arena below node.kind node.number p m es w)

own_tells : (arena : List BareNode) (rows : List Row) (n m : ℕ) (c : Continuation) (k : Onward) → after_at rows n ≡ c → Tells arena rows c k → n ≡ m → Tells arena rows (after_at rows m) k
own_tells arena rows n m c k own t e = subst (λ (p : ℕ). Tells arena rows (after_at rows p) k) e (subst (λ (g : Continuation). Tells arena rows g k) (sym own) t)

mutual
  tells_in : LeadingLaw → (arena : List BareNode) (rows : List Row) (e : Exec) (c : Continuation) (k : Onward) → ((p : ℕ) → has (nodes e) p ≡ true → has (nodes (placed arena)) p ≡ true) → Led arena rows e → Told rows e c → Tells arena rows c k → (m : ℕ) → has (nodes e) m ≡ true
      → Tells arena rows (after_at rows m) (onward e k m)
  tells_in law arena rows (Work n) c k within l s t m h = own_tells arena rows n m c k s t (single n m h)
  tells_in law arena rows (Leaf n j) c k within l s t m h = own_tells arena rows n m c k s t (single n m h)
  tells_in law arena rows (Plan None es) c k within l s t m h = tells_in_order law arena rows es c k within l s t m h
  tells_in law arena rows (Plan (Some n) es) c k within l s t m h =
      choose (Tells arena rows (after_at rows m)) n m (nodes_all es) k (onward_in_order es k m) (own_tells arena rows n m c k s.0 t)
      (λ i. tells_in_order law arena rows es c k (λ p j. within p (has_rest n (nodes_all es) p j)) l.1 s.1 t m i) h
  tells_in law arena rows (Par n es) c k within l s t m h =
      choose (Tells arena rows (after_at rows m)) n m (nodes_all es) k (onward_among es (joins_where (is_shared es) n k) m) (own_tells arena rows n m c k s.0 t)
      (λ i. tells_among law arena rows es (joins_or (is_shared es) n c) (joins_where (is_shared es) n k) (λ p j. within p (has_rest n (nodes_all es) p j)) l.1 s.1 (joins_tells arena rows n c k (is_shared es) s.0 t) m i) h
  tells_in law arena rows (NonSeq n es) c k within l s t m h =
      choose (Tells arena rows (after_at rows m)) n m (nodes_all es) k (onward_among es (onwards.PicksOn n (count es) k) m) (own_tells arena rows n m c k s.0 t)
      (λ i. tells_among law arena rows es (row.PicksOn n) (onwards.PicksOn n (count es) k) (λ p j. within p (has_rest n (nodes_all es) p j)) l.1 s.1
      (refl, count_there arena _ n n es l.0.there, subst (λ (g : Continuation). Tells arena rows g k) (sym s.0) t) m i) h
  tells_in law arena rows (Sel n es) c k within l s t m h =
      choose (Tells arena rows (after_at rows m)) n m (nodes_all es) k (onward_among es k m) (own_tells arena rows n m c k s.0 t)
      (λ i. tells_among law arena rows es c k (λ p j. within p (has_rest n (nodes_all es) p j)) l.1 s.1 t m i) h
  tells_in law arena rows (If n a b) c k within l s t m h =
      let ns = nodes a ++ nodes b in
      choose (Tells arena rows (after_at rows m)) n m ns k (if has (nodes a) m then onward a k m else onward b k m) (own_tells arena rows n m c k s.0 t)
      (λ i. either (Tells arena rows (after_at rows m)) (nodes a) (nodes b) m (onward a k m) (onward b k m)
      (λ j. tells_in law arena rows a c k (λ p g. within p (has_rest n ns p (has_left (nodes a) (nodes b) p g))) l.1 s.1 t m j)
      (λ j. tells_in law arena rows b c k (λ p g. within p (has_rest n ns p (has_right (nodes a) (nodes b) p g))) l.2 s.2 t m j) i) h
  tells_in law arena rows (While n a) c k within l s t m h =
      choose (Tells arena rows (after_at rows m)) n m (nodes a) k (onward a (onwards.TestsAgain n) m) (own_tells arena rows n m c k s.0 t)
      (λ i. tells_in law arena rows a (row.TestsAgain n) (onwards.TestsAgain n) (λ p j. within p (has_rest n (nodes a) p j)) l.1 s.1 refl m i) h

  tells_in_order : LeadingLaw → (arena : List BareNode) (rows : List Row) (es : Execs) (c : Continuation) (k : Onward) → ((p : ℕ) → has (nodes_all es) p ≡ true → has (nodes (placed arena)) p ≡ true) → LedAll arena rows es → ToldInOrder rows es c → Tells arena rows c k → (m : ℕ) → has (nodes_all es) m ≡ true
      → Tells arena rows (after_at rows m) (onward_in_order es k m)
  tells_in_order law arena rows None_left c k within l s t m h = absurd (let w : false ≡ true = h in cc)
  tells_in_order law arena rows (Then e es) c k within l s t m h =
      let right = λ (p : ℕ) (g : has (nodes_all es) p ≡ true). within p (has_right (nodes e) (nodes_all es) p g) in
      either (Tells arena rows (after_at rows m)) (nodes e) (nodes_all es) m (onward e (opens_first es k) m) (onward_in_order es k m)
      (λ i. tells_in law arena rows e (opens_or (first_into es) c) (opens_first es k) (λ p g. within p (has_left (nodes e) (nodes_all es) p g)) l.0 s.0 (opens_tells law arena rows es c k right l.1 t) m i)
      (λ i. tells_in_order law arena rows es c k right l.1 s.1 t m i) h

  tells_among : LeadingLaw → (arena : List BareNode) (rows : List Row) (es : Execs) (c : Continuation) (k : Onward) → ((p : ℕ) → has (nodes_all es) p ≡ true → has (nodes (placed arena)) p ≡ true) → LedAll arena rows es → ToldAll rows es c → Tells arena rows c k → (m : ℕ) → has (nodes_all es) m ≡ true
      → Tells arena rows (after_at rows m) (onward_among es k m)
  tells_among law arena rows None_left c k within l s t m h = absurd (let w : false ≡ true = h in cc)
  tells_among law arena rows (Then e es) c k within l s t m h =
      either (Tells arena rows (after_at rows m)) (nodes e) (nodes_all es) m (onward e k m) (onward_among es k m)
      (λ i. tells_in law arena rows e c k (λ p g. within p (has_left (nodes e) (nodes_all es) p g)) l.0 s.0 t m i)
      (λ i. tells_among law arena rows es c k (λ p g. within p (has_right (nodes e) (nodes_all es) p g)) l.1 s.1 t m i) h

-- ---- the table

pub table : LeadingLaw → (arena : List BareNode) (rows : List Row) → length rows ≡ length arena → length arena ≤ MAX_PLACES → Led arena rows (placed arena) → Told rows (placed arena) row.Done → AreLinkedBack rows → IsTable arena rows
table law arena rows long few l s b =
    record {
      long = long;
      few = few;
      led = l;
      there = λ p h. (part_of arena rows (placed arena) p l h).own.there;
      into = λ p h.
          let f = part_of arena rows (placed arena) p l h in
          subst (λ (e : Exec). LeadsTo arena rows e (into_at rows p)) (sym f.own.there)
          (subst (λ (o : Option ℕ). LeadsTo arena rows (within (placed arena) p) o) (sym f.own.into) (leads_to law arena rows (within (placed arena) p) f.inside f.led));
      after = λ p h. tells_in law arena rows (placed arena) row.Done onwards.Done (λ q i. i) l s refl p h;
      back = b;
    }

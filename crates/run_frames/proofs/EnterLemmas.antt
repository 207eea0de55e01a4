-- What opening by the table of a tree writes, kind by kind and element by element.
use Rattle.std.specs.Prelude.{◌≡◌, ◌<◌, ◌-◌, ◌+◌, ◌==◌, ◌||◌, ℕ, zero, suc, Bool, true, false, List, [], ◌∷◌, ◌++◌, length, drop, slice_get, slice_set, Option, Some, None}
use Rattle.std.proofs.Common.{refl, sym, ◌∙◌, ap, subst, arith, get_or}
use Rattle.exec_tree.specs.Exec.{Exec, Execs, Then, nodes, nodes_all, has, AreDistinct}
use Rattle.exec_tree.specs.Arena.{to_execs, of_kind}
use Rattle.exec_tree.specs.declared.limits.TheConstants.{MAX_TREE_NESTING}
use Rattle.exec_tree.specs.declared.kind.Kind.{Kind}
use Rattle.exec_tree.specs.declared.kind.Kind.TheVariants as kind
use Rattle.exec_tree.specs.declared.node.BareNode.{BareNode}
use Rattle.place_set.specs.Words.{holds}
use Rattle.trace_law.specs.Next.{next, next_each}
use Rattle.trace_law.specs.Cells.{Cell, Left, Picked, WhereTrue}
use Rattle.trace_law.specs.Cells as cells
use Rattle.trace_law.specs.Frames.{one_where, is_shared, Stands}
use Rattle.trace_law.specs.Leading.{leads}
use Rattle.trace_law.proofs.LeadLemmas.{void_stands, leads_stands, leads_next}
use Rattle.frame_law.specs.Way.{AreUnpicked}
use Rattle.frame_law.proofs.ReachLemmas.{unpicked}
use Rattle.frame_law.proofs.OpenedLemmas.{leads_within}
use Rattle.tree_table.specs.Placed.{place_for, placed, placed_down, placed_all}
use Rattle.tree_table.specs.Within.{is_workplan}
use Rattle.tree_table.specs.Rows.{levels_at, executable_at}
use Rattle.tree_table.specs.Table.{IsEntrance, LeadsTo, IsTable}
use Rattle.tree_table.specs.declared.row.Row.{Row}
use Rattle.tree_table.proofs.ListLemmas.{drop_at}
use Rattle.tree_table.proofs.NodeLemmas.{once_behind}
use Rattle.tree_table.proofs.LeadLemmas.{lead_of}
use Rattle.tree_table.proofs.OpenLemmas.{entrance_leads, entrance_node, itself_came, parallel_is, each_came, nothing_came}
use Rattle.run_frames.specs.Frames.{cells_of, AreKeptBut}
use Rattle.run_frames.specs.Fresh.{fresh}
use Rattle.run_frames.specs.Entered.{AreUnpickedIn, ComeIn, IsEntered, AreEntered}
use Rattle.run_frames.proofs.KeepLemmas.{AreAlike, alike_cells, stands_each_kept}
use Rattle.run_frames.proofs.WriteLemmas.{clash, frame_set, frame_other, length_set, set_keeps, set_alike, but_left, but_right, but_rest, but_both, but_alike, once_back}
use Rattle.run_frames.proofs.FoundLemmas.{there_once, entrance_has}
use Rattle.run_frames.proofs.UnpickedLemmas.{unpicked_down, set_unpicked}

-- ---- all kinds but workplans and parallels

own_cell : (old : List Cell) (p : ℕ) (f : Cell) → p < length old → cells_of (slice_set old p f) p ≡ f
own_cell old p f l = frame_set old p f l

fresh_stands : (old : List Cell) (p : ℕ) (k : Kind) (n : Option ℕ) (es : List Exec) → p < length old → (k ≡ kind.Plan → ⊥) → (k ≡ kind.Par → ⊥) → Stands (cells_of (slice_set old p (fresh k))) (of_kind k (place_for k n p) es) []
fresh_stands old p kind.Plan n es l a b = absurd (a refl)
fresh_stands old p kind.Par n es l a b = absurd (b refl)
fresh_stands old p kind.NonSeq n es l a b = (own_cell old p (fresh kind.NonSeq) l, tt)
fresh_stands old p kind.Sel n es l a b = (own_cell old p (fresh kind.Sel) l, tt)
fresh_stands old p kind.If n es l a b = (own_cell old p (fresh kind.If) l, tt)
fresh_stands old p kind.While n es l a b = (own_cell old p (fresh kind.While) l, tt)
fresh_stands old p kind.Work n es l a b = own_cell old p (fresh kind.Work) l
fresh_stands old p kind.Assign n es l a b = own_cell old p (fresh kind.Assign) l
fresh_stands old p kind.Set n es l a b = own_cell old p (fresh kind.Set) l
fresh_stands old p kind.Wait n es l a b = own_cell old p (fresh kind.Wait) l
fresh_stands old p kind.Note n es l a b = own_cell old p (fresh kind.Note) l

fresh_unpicked : (k : Kind) → k ≡ kind.NonSeq → fresh k ≡ Picked []
fresh_unpicked k e = ap fresh e

plan_is : (k : Kind) (n : Option ℕ) (es : List Exec) → k ≡ kind.Plan → is_workplan (of_kind k n es) ≡ true
plan_is k n es h = ap (λ (j : Kind). is_workplan (of_kind j n es)) h

-- opening leads to no workplan
pub no_plan : (arena : List BareNode) (rows : List Row) (p : ℕ) (node : BareNode) → IsTable arena rows → IsEntrance arena rows p → slice_get arena p ≡ Some node → node.kind ≡ kind.Plan → ⊥
no_plan arena rows p node t s at h =
    let l = entrance_leads arena rows p t s in
    let none : is_workplan (executable_at arena rows p) ≡ false = ap is_workplan l.1 ∙ (lead_of (executable_at arena rows p) l.0).3 in
    clash (is_workplan (executable_at arena rows p)) (ap is_workplan (entrance_node arena rows p node t s at) ∙ plan_is node.kind _ _ h) none

pub itself_entered : (arena : List BareNode) (rows : List Row) (old : List Cell) (before after : List ℕ) (p : ℕ) (node : BareNode) → IsTable arena rows → IsEntrance arena rows p → slice_get arena p ≡ Some node → (node.kind ≡ kind.Par → ⊥) → p < length old → AreUnpickedIn arena old → ((q : ℕ) → holds after q ≡ ((q == p) || holds before q))
    → IsEntered arena old (slice_set old p (fresh node.kind)) before after (executable_at arena rows p)
itself_entered arena rows old before after p node t s at par l u put =
    let f = executable_at arena rows p in
    let new = slice_set old p (fresh node.kind) in
    record {
      stands = subst (λ (e : Exec). Stands (cells_of new) e []) (sym (entrance_node arena rows p node t s at)) (fresh_stands old p node.kind node.number _ l (no_plan arena rows p node t s at) par);
      kept = λ q h. frame_other old p q (fresh node.kind) (λ e. clash (has (nodes f) q) (subst (λ (r : ℕ). has (nodes f) r ≡ true) e (entrance_has arena rows p t s)) h);
      unpicked = set_unpicked arena old p (fresh node.kind) node l at (λ k none. fresh_unpicked node.kind k) u;
      long = length_set old p (fresh node.kind);
      came = λ q. put q ∙ itself_came arena rows p node t s at par q (holds before q);
    }

-- ---- parallels

where_shared : (b : Bool) (P : Type 0) → P → WhereTrue b P (Unit {0})
where_shared true P h = h
where_shared false P h = tt

-- its elements' nodes stand once, apart from its own
pub elements_once : (arena : List BareNode) (rows : List Row) (p : ℕ) (node : BareNode) (places : List ℕ) → IsTable arena rows → IsEntrance arena rows p → AreDistinct (nodes (placed arena)) → slice_get arena p ≡ Some node → node.kind ≡ kind.Par → node.elements ≡ places
    → AreDistinct (nodes_all (to_execs (placed_all arena (levels_at rows p - 1) places))) × (has (nodes_all (to_execs (placed_all arena (levels_at rows p - 1) places))) p ≡ false)
elements_once arena rows p node places t s d at par e =
    let once = subst (λ (f : Exec). AreDistinct (nodes f)) (parallel_is arena rows p node t s at par) (there_once arena rows p t d s.inside) in
    subst (λ (qs : List ℕ). AreDistinct (nodes_all (to_execs (placed_all arena (levels_at rows p - 1) qs))) × (has (nodes_all (to_execs (placed_all arena (levels_at rows p - 1) qs))) p ≡ false)) e (once.1, once.0)

pub parallel_entered : (arena : List BareNode) (rows : List Row) (old mid : List Cell) (before after : List ℕ) (p : ℕ) (node : BareNode) (number : ℕ) → IsTable arena rows → IsEntrance arena rows p → AreDistinct (nodes (placed arena)) → slice_get arena p ≡ Some node → node.kind ≡ kind.Par → p < length old
    → AreEntered arena old mid before after (to_execs (placed_all arena (levels_at rows p - 1) node.elements)) number → IsEntered arena old (slice_set mid p (Left number)) before after (executable_at arena rows p)
parallel_entered arena rows old mid before after p node number t s d at par l o =
    let es = to_execs (placed_all arena (levels_at rows p - 1) node.elements) in
    let is = parallel_is arena rows p node t s at par in
    let once = elements_once arena rows p node node.elements t s d at par refl in
    let new = slice_set mid p (Left number) in
    let within : p < length mid = subst (λ (n : ℕ). p < n) (sym o.long) l in
    let alike : AreAlike mid new (nodes_all es) = set_alike mid p (Left number) (nodes_all es) once.1 in
    let no_picks : (k : Kind) → k ≡ kind.Par → k ≡ kind.NonSeq → Left number ≡ Picked [] = λ k h g. absurd (let w : kind.Par ≡ kind.NonSeq = sym h ∙ g in cc) in
    subst (λ (e : Exec). IsEntered arena old new before after e) (sym is)
    (record {
      stands = (where_shared (is_shared es) _ (own_cell mid p (Left number) within ∙ ap cells.Left o.counted), stands_each_kept (cells_of mid) (cells_of new) es [] (alike_cells mid new (nodes_all es) alike) o.stands);
      kept = but_both old mid new (p ∷ nodes_all es) (but_rest old mid p (nodes_all es) o.kept) (set_keeps mid p (Left number) (nodes_all es));
      unpicked = set_unpicked arena mid p (Left number) node within at (λ k none. no_picks node.kind par k) o.unpicked;
      long = length_set mid p (Left number) ∙ o.long;
      came = o.came;
    })

-- ---- the elements of a parallel, from the last to the first

pub length_behind : (l : List ℕ) (k : ℕ) → length (drop k l) ≡ length l - k
length_behind l zero = omega arith
length_behind [] (suc k) = omega arith
length_behind (x ∷ l) (suc k) = omega (arith, length_behind l k)

pub come_none : (before : List ℕ) → ComeIn before before []
come_none before q = or_none (holds before q)
  where
    or_none : (b : Bool) → b ≡ (b || false)
    or_none true = refl
    or_none false = refl

one_is : (l : List ℕ) → (l ≡ [] → ⊥) → one_where l ≡ 1
one_is [] h = absurd (h refl)
one_is (n ∷ l) h = refl

one_entered : (arena : List BareNode) (old mid new : List Cell) (before middle after : List ℕ) (e : Exec) (es : Execs) (number : ℕ) → AreDistinct (nodes e ++ nodes_all es) → (next e [] ≡ [] → ⊥) → AreUnpicked (cells_of new) e → AreEntered arena old mid before middle es number → IsEntered arena mid new middle after (leads e)
    → ComeIn before after (next_each (Then e es) []) → AreEntered arena old new before after (Then e es) (number + 1)
one_entered arena old mid new before middle after e es number d some u s o came =
    let kept : AreKeptBut mid new (nodes e) = λ q h. o.kept q (leads_within e q h) in
    let alike : AreAlike mid new (nodes_all es) = but_alike mid new (nodes_all es) (nodes e) kept (λ q h. once_back (nodes e) (nodes_all es) d q h) in
    let one = one_is (next e []) some in
    record {
      stands = (leads_stands (cells_of new) e (unpicked (cells_of new) e u) o.stands, stands_each_kept (cells_of mid) (cells_of new) es [] (alike_cells mid new (nodes_all es) alike) s.stands);
      counted = (let c = s.counted in omega (arith, c, one));
      kept = but_both old mid new (nodes e ++ nodes_all es) (but_right old mid (nodes e) (nodes_all es) s.kept) (but_left mid new (nodes e) (nodes_all es) kept);
      unpicked = o.unpicked;
      long = o.long ∙ s.long;
      came = came;
    }

void_entered : (arena : List BareNode) (old mid : List Cell) (before middle : List ℕ) (e : Exec) (es : Execs) (number : ℕ) → next e [] ≡ [] → AreUnpicked (cells_of mid) e → AreEntered arena old mid before middle es number → ComeIn before middle (next_each (Then e es) []) → AreEntered arena old mid before middle (Then e es) number
void_entered arena old mid before middle e es number none u s came =
    let zero_of : one_where (next e []) ≡ 0 = ap one_where none in
    record {
      stands = (void_stands (cells_of mid) e (unpicked (cells_of mid) e u) none, s.stands);
      counted = (let c = s.counted in omega (arith, c, zero_of));
      kept = but_right old mid (nodes e) (nodes_all es) s.kept;
      unpicked = s.unpicked;
      long = s.long;
      came = came;
    }

pub entered_more : (arena : List BareNode) (rows : List Row) (old mid new : List Cell) (before middle after : List ℕ) (levels : ℕ) (places : List ℕ) (k number into : ℕ) → k < length places → AreDistinct (nodes_all (to_execs (placed_all arena levels places))) → AreEntered arena old mid before middle (to_execs (placed_all arena levels (drop (k + 1) places))) number
    → LeadsTo arena rows (placed_down arena levels (get_or places k 0)) (Some into) → IsEntered arena mid new middle after (executable_at arena rows into) → AreEntered arena old new before after (to_execs (placed_all arena levels (drop k places))) (number + 1)
entered_more arena rows old mid new before middle after levels places k number into l d s to o =
    let e = placed_down arena levels (get_or places k 0) in
    let split = drop_at places k l in
    let once = subst (λ (ps : List ℕ). AreDistinct (nodes_all (to_execs (placed_all arena levels ps)))) split (once_behind arena levels places k d) in
    let opened = subst (λ (f : Exec). IsEntered arena mid new middle after f) to.2 o in
    let came : ComeIn before after (next_each (to_execs (placed_all arena levels (drop k places))) []) =
    λ q. each_came arena levels places k q (holds before q) (holds middle q) (holds after q) l (s.came q) (opened.came q ∙ ap (λ (ns : List ℕ). holds middle q || has ns q) (leads_next e)) in
    subst (λ (ps : List ℕ). AreEntered arena old new before after (to_execs (placed_all arena levels ps)) (number + 1)) (sym split)
    (one_entered arena old mid new before middle after e (to_execs (placed_all arena levels (drop (k + 1) places))) number once to.0 (unpicked_down arena new levels (get_or places k 0) opened.unpicked) s opened
    (subst (λ (ps : List ℕ). ComeIn before after (next_each (to_execs (placed_all arena levels ps)) [])) split came))

pub entered_same : (arena : List BareNode) (rows : List Row) (old mid : List Cell) (before middle : List ℕ) (levels : ℕ) (places : List ℕ) (k number : ℕ) (into : Option ℕ) → k < length places → AreEntered arena old mid before middle (to_execs (placed_all arena levels (drop (k + 1) places))) number → into ≡ None
    → LeadsTo arena rows (placed_down arena levels (get_or places k 0)) into → AreEntered arena old mid before middle (to_execs (placed_all arena levels (drop k places))) number
entered_same arena rows old mid before middle levels places k number into l s none to =
    let e = placed_down arena levels (get_or places k 0) in
    let split = drop_at places k l in
    let void : next e [] ≡ [] = subst (λ (o : Option ℕ). LeadsTo arena rows e o) none to in
    let came : ComeIn before middle (next_each (to_execs (placed_all arena levels (drop k places))) []) =
    λ q. each_came arena levels places k q (holds before q) (holds middle q) (holds middle q) l (s.came q) (nothing_came e q (holds middle q) void) in
    subst (λ (ps : List ℕ). AreEntered arena old mid before middle (to_execs (placed_all arena levels ps)) number) (sym split)
    (void_entered arena old mid before middle e (to_execs (placed_all arena levels (drop (k + 1) places))) number void (unpicked_down arena mid levels (get_or places k 0) s.unpicked) s
    (subst (λ (ps : List ℕ). ComeIn before middle (next_each (to_execs (placed_all arena levels ps)) [])) split came))

-- ---- the whole tree

pub tree_entered : (arena : List BareNode) (rows : List Row) (old new : List Cell) (before after : List ℕ) (into : ℕ) → LeadsTo arena rows (placed arena) (Some into) → IsEntered arena old new before after (executable_at arena rows into) → IsEntered arena old new before after (placed arena)
tree_entered arena rows old new before after into to o =
    let e = placed arena in
    let opened = subst (λ (f : Exec). IsEntered arena old new before after f) to.2 o in
    record {
      stands = leads_stands (cells_of new) e (unpicked (cells_of new) e (unpicked_down arena new MAX_TREE_NESTING 0 opened.unpicked)) opened.stands;
      kept = λ q h. opened.kept q (leads_within e q h);
      unpicked = opened.unpicked;
      long = opened.long;
      came = λ q. opened.came q ∙ ap (λ (ns : List ℕ). holds before q || has ns q) (leads_next e);
    }

pub tree_void : (arena : List BareNode) (rows : List Row) (old : List Cell) (before : List ℕ) (into : Option ℕ) → into ≡ None → LeadsTo arena rows (placed arena) into → AreUnpickedIn arena old → IsEntered arena old old before before (placed arena)
tree_void arena rows old before into h to u =
    let e = placed arena in
    let none = subst (λ (o : Option ℕ). LeadsTo arena rows e o) h to in
    record {
      stands = void_stands (cells_of old) e (unpicked (cells_of old) e (unpicked_down arena old MAX_TREE_NESTING 0 u)) none;
      kept = λ q i. refl;
      unpicked = u;
      long = refl;
      came = subst (λ (ns : List ℕ). ComeIn before before ns) (sym none) (come_none before);
    }

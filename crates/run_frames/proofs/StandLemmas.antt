-- What frames of places tell of the run that the log numbers, and how they move with it.
use Rattle.std.specs.Prelude.{◌≡◌, ◌<◌, ◌==◌, ◌||◌, ℕ, Bool, true, false, List, [], ◌∷◌, ◌++◌, map, find, length, slice_get, option_map, Option, Some, None, IfSome, MatchOption}
use Rattle.std.proofs.Common.{refl, sym, ◌∙◌, ap, subst, arith}
use Rattle.std.proofs.lemmas.Bool.Decides.{nat_tests}
use Rattle.exec_tree.specs.Exec.{Exec, has, AreDistinct, HasChoices, nodes}
use Rattle.exec_tree.specs.Arena.{AreShaped, AreNamed, numbers_in, tree_down}
use Rattle.exec_tree.specs.Walked.{place_from}
use Rattle.exec_tree.specs.declared.limits.TheConstants.{MAX_TREE_NESTING}
use Rattle.exec_tree.specs.declared.node.BareNode.{BareNode}
use Rattle.trace_law.specs.Of.{number_of, is_of}
use Rattle.trace_law.specs.Of as of
use Rattle.trace_law.specs.Part.{Part}
use Rattle.trace_law.specs.Next.{next}
use Rattle.trace_law.specs.Offer.{Offer, IsOffered, IsOpen, offer}
use Rattle.trace_law.proofs.StepLemmas.{apart, only_all, next_has}
use Rattle.trace_law.proofs.StepForthLemmas.{step_of}
use Rattle.trace_law.proofs.StepBackLemmas.{part_nil, part_of_step, part_inside}
use Rattle.trace_law.proofs.ContinueLemmas.{step_of_right}
use Rattle.trace_law.proofs.OfferLemmas.{continues}
use Rattle.trace_law.proofs.OfferExactLemmas.{offers}
use Rattle.trace_law.proofs.OpenOfferLemmas.{opens}
use Rattle.trace_law.proofs.FrameOfferLemmas.{offer_from_frames}
use Rattle.trace_law.proofs.PreorderLemmas.{next_is_in_preorder}
use Rattle.run_log.specs.declared.entry.Entry.{Entry}
use Rattle.place_set.specs.Words.{holds}
use Rattle.tree_table.specs.Placed.{placed, number_at}
use Rattle.tree_table.specs.Table.{IsTable}
use Rattle.tree_table.specs.declared.table.Table.{Table}
use Rattle.run_frames.specs.declared.frames.Frames.{Frames}
use Rattle.run_frames.specs.Frames.{cells_of}
use Rattle.run_frames.specs.Told.{NodeCells, rooms_of}
use Rattle.run_frames.specs.Renaming.{IsOneToOne, renamed, entry_renamed, entry_at}
use Rattle.run_frames.specs.OfferAt.{offer_there}
use Rattle.run_frames.specs.Entered.{IsEntered}
use Rattle.run_frames.specs.Held.{IsHeld, IsStep}
use Rattle.run_frames.specs.Ready.{is_empty}
use Rattle.run_frames.specs.Standing.{IsAt, IsPlace}
use Rattle.run_frames.proofs.RenamingLemmas.{next_map, offer_map, nodes_map, number_map}
use Rattle.run_frames.proofs.RenamedPartLemmas.{PartLaws, part_back}
use Rattle.run_frames.proofs.DeedLemmas.{offers_there}
use Rattle.run_frames.proofs.NumberLemmas.{numbered, renamed_same, entries_same, numbers_same, distinct_back, spread, spread_is, spread_once, place_with, entry_back, some_is}
use Rattle.run_frames.proofs.NumberedLemmas.{numbered_down, place_found}
use Rattle.run_frames.proofs.OrderLemmas.{Ascends, placed_ascends, part_ascends, part_within, find_least, find_nothing}
use Rattle.trace_law.specs.Cells.{Cell}

-- the tree of the nodes
abbrev pub tree : List BareNode → Exec
tree nodes = tree_down nodes MAX_TREE_NESTING 0

-- what is known of the nodes of a tree
pub record AreOfTree (arena : List BareNode) : Type 0 where
  pub shaped : AreShaped arena
  pub named : AreNamed arena
  pub preorder : numbers_in arena ≡ nodes (tree arena)
  pub distinct : AreDistinct (nodes (tree arena))
  pub choices : HasChoices (tree arena)

-- what the laws of runs so far say
parts : PartLaws
parts = record {
  none = λ e. part_nil e;
  more = λ e t x d. (λ q. step_of e t x (apart e d) q, λ z. part_of_step e t x (apart e d) z.0 z.1);
  is_next = λ e t x d p q. next_has e t x p (step_of e t x (apart e d) q).1;
  follows = λ e t x m d p n h q. part_of_step e t x (apart e d) p (step_of_right e t x (apart e d) p h (continues e t x m (apart e d) p n h q));
  offered = λ e t x m d q n. (let z = step_of e t x (apart e d) q in (next_has e t x z.0 z.1, offers e t x m (apart e d) z.0 z.1 n));
}

-- numbers for places, no two the same
abbrev pub names : List BareNode → ℕ → ℕ
names arena = spread (number_at arena) (nodes (placed arena))

mapped_nodes : (arena : List BareNode) → nodes (tree arena) ≡ map (number_at arena) (nodes (placed arena))
mapped_nodes arena = ap nodes (sym (numbered arena MAX_TREE_NESTING 0)) ∙ nodes_map (number_at arena) (placed arena)

pub placed_once : (arena : List BareNode) → AreDistinct (nodes (tree arena)) → AreDistinct (nodes (placed arena))
placed_once arena d = distinct_back (number_at arena) (nodes (placed arena)) (subst AreDistinct (mapped_nodes arena) d)

pub names_once : (arena : List BareNode) → AreDistinct (nodes (tree arena)) → IsOneToOne (names arena)
names_once arena d = spread_once (number_at arena) (nodes (placed arena)) (subst AreDistinct (mapped_nodes arena) d)

pub names_are : (arena : List BareNode) (m : ℕ) → has (nodes (placed arena)) m ≡ true → names arena m ≡ number_at arena m
names_are arena m h = spread_is (number_at arena) (nodes (placed arena)) m h

pub named : (arena : List BareNode) → renamed (names arena) (placed arena) ≡ tree arena
named arena = renamed_same (names arena) (number_at arena) (placed arena) (names_are arena) ∙ numbered arena MAX_TREE_NESTING 0

pub named_entries : (arena : List BareNode) (f : Frames) (t : List Entry) (s : IsAt arena f t) → map (entry_renamed (names arena)) s.entries ≡ t
named_entries arena f t s =
    let own = only_all (nodes (placed arena)) s.entries (part_inside (placed arena) s.entries s.held.part) in
    ap (map (entry_renamed (names arena))) (sym own)
    ∙ (entries_same (names arena) (number_at arena) (nodes (placed arena)) s.entries (names_are arena) ∙ (ap (map (entry_renamed (number_at arena))) own ∙ s.same))

-- ---- where the run can go on

pub next_inside : (arena : List BareNode) (t : List Entry) (p : ℕ) → AreDistinct (nodes (placed arena)) → has (next (placed arena) t) p ≡ true → has (nodes (placed arena)) p ≡ true
next_inside arena t p d h = part_within (has (next (placed arena) t)) (nodes (placed arena)) (next (placed arena) t) p (next_is_in_preorder (placed arena) t d) h

pub next_is : (arena : List BareNode) (f : Frames) (t : List Entry) → AreDistinct (nodes (tree arena)) → (s : IsAt arena f t) → next (tree arena) t ≡ map (number_at arena) (next (placed arena) s.entries)
next_is arena f t d s =
    let once = placed_once arena d in
    ap (λ (e : Exec). next e t) (sym (named arena))
    ∙ (ap (next (renamed (names arena) (placed arena))) (sym (named_entries arena f t s))
    ∙ (next_map (names arena) (names_once arena d) (placed arena) s.entries
    ∙ numbers_same (names arena) (number_at arena) (nodes (placed arena)) (next (placed arena) s.entries) (names_are arena) (λ m i. next_inside arena s.entries m once i)))

ascending : (arena : List BareNode) (t : List Entry) → AreOfTree arena → Ascends 0 (next (placed arena) t)
ascending arena t a =
    let order = placed_ascends arena a.named (subst AreDistinct (sym a.preorder) a.distinct) (a.preorder ∙ mapped_nodes arena) in
    part_ascends (has (next (placed arena) t)) (nodes (placed arena)) (next (placed arena) t) order (next_is_in_preorder (placed arena) t (placed_once arena a.distinct))

-- the test says no at each place of the set, or this is the first of the set at which it says yes
abbrev pub IsFirstYes : (ℕ → Bool) → List ℕ → Option ℕ → Type 0
IsFirstYes test set found =
    MatchOption found ((q : ℕ) → holds set q ≡ true → test q ≡ false) (λ p. (holds set p ≡ true) × (test p ≡ true) × ((q : ℕ) → q < p → holds set q ≡ true → test q ≡ false))

-- the first place of the set is the first in the order of the tree
pub first_is : (arena : List BareNode) (f : Frames) (t : List Entry) (test : ℕ → Bool) (found : Option ℕ) → AreOfTree arena → IsAt arena f t → IsFirstYes (λ q. test (number_at arena q)) f.set.all found
    → option_map (number_at arena) found ≡ find test (next (tree arena) t)
first_is arena f t test None a s h =
    let ns = next (placed arena) s.entries in
    sym (ap (find test) (next_is arena f t a.distinct s) ∙ find_nothing (number_at arena) test ns (λ q i. h q (s.held.goes_on q ∙ i)))
first_is arena f t test (Some p) a s h =
    let ns = next (placed arena) s.entries in
    sym (ap (find test) (next_is arena f t a.distinct s) ∙ find_least (number_at arena) test 0 ns p (ascending arena s.entries a) (sym (s.held.goes_on p) ∙ h.0) h.1 (λ q l i. h.2 q l (s.held.goes_on q ∙ i)))

-- each place of the set is found by its number
pub place_held : (arena : List BareNode) (f : Frames) (t : List Entry) (p : ℕ) → AreOfTree arena → IsAt arena f t → holds f.set.all p ≡ true → IsPlace arena p
place_held arena f t p a s h =
    let here = next_inside arena s.entries p (placed_once arena a.distinct) (sym (s.held.goes_on p) ∙ h) in
    place_found arena p (numbered_down arena MAX_TREE_NESTING 0 p a.named here) (subst AreDistinct (sym a.preorder) a.distinct)

-- the set has no place exactly where the run can go on nowhere
pub none_left : (arena : List BareNode) (f : Frames) (t : List Entry) (r : Bool) → AreDistinct (nodes (tree arena)) → IsAt arena f t
    → (r ≡ true → (q : ℕ) → holds f.set.all q ≡ false) → (((q : ℕ) → holds f.set.all q ≡ false) → r ≡ true) → r ≡ is_empty (next (tree arena) t)
none_left arena f t r d s forth back = go (next (placed arena) s.entries) refl ∙ sym (ap is_empty (next_is arena f t d s))
  where
    own : (n : ℕ) (ns : List ℕ) → has (n ∷ ns) n ≡ true
    own n ns = (let e : (n == n) ≡ true = grind (arith, nat_tests) in ap (λ (b : Bool). b || has ns n) e)

    some : (n : ℕ) (ns : List ℕ) (b : Bool) → r ≡ b → next (placed arena) s.entries ≡ n ∷ ns → r ≡ false
    some n ns false e i = e
    some n ns true e i = absurd (let w : true ≡ false = sym (s.held.goes_on n ∙ (ap (λ (l : List ℕ). has l n) i ∙ own n ns)) ∙ forth e n in cc)

    go : (ns : List ℕ) → next (placed arena) s.entries ≡ ns → r ≡ is_empty (map (number_at arena) (next (placed arena) s.entries))
    go [] e = back (λ q. s.held.goes_on q ∙ ap (λ (l : List ℕ). has l q) e) ∙ sym (ap (λ (l : List ℕ). is_empty (map (number_at arena) l)) e)
    go (n ∷ ns) e = some n ns r refl e ∙ sym (ap (λ (l : List ℕ). is_empty (map (number_at arena) l)) e)

-- ---- the place of a number

-- where the run can go on at a number, that is the number of a place where it can, which is found
pub record IsPlaceOf (arena : List BareNode) (t : List Entry) (n p : ℕ) : Type 0 where
  pub is_next : has (next (placed arena) t) p ≡ true
  pub inside : has (nodes (placed arena)) p ≡ true
  pub is_number : number_at arena p ≡ n
  pub found : place_from 0 arena n ≡ Some p

pub place_of : (arena : List BareNode) (f : Frames) (t : List Entry) (n : ℕ) → AreOfTree arena → (s : IsAt arena f t) → has (next (tree arena) t) n ≡ true → (p : ℕ) × IsPlaceOf arena s.entries n p
place_of arena f t n a s h =
    let r = place_with (number_at arena) (next (placed arena) s.entries) n (subst (λ (l : List ℕ). has l n ≡ true) (next_is arena f t a.distinct s) h) in
    let inside = next_inside arena s.entries r.0 (placed_once arena a.distinct) r.1 in
    let found = place_found arena r.0 (numbered_down arena MAX_TREE_NESTING 0 r.0 a.named inside) (subst AreDistinct (sym a.preorder) a.distinct) in
    (r.0, record { is_next = r.1; inside = inside; is_number = r.2; found = ap (place_from 0 arena) (sym r.2) ∙ found })

-- what the node there does next
pub offer_there_is : (arena : List BareNode) (f : Frames) (t : List Entry) (n p : ℕ) → AreOfTree arena → (s : IsAt arena f t) → IsPlaceOf arena s.entries n p → offer (tree arena) t n ≡ offer_there (slice_get arena p) (cells_of f.frames.cells p)
offer_there_is arena f t n p a s h =
    let c = cells_of f.frames.cells in
    let once = placed_once arena a.distinct in
    let name : names arena p ≡ n = names_are arena p h.inside ∙ h.is_number in
    ap (λ (w : Exec). offer w t n) (sym (named arena))
    ∙ (ap (λ (l : List Entry). offer (renamed (names arena) (placed arena)) l n) (sym (named_entries arena f t s))
    ∙ (ap (offer (renamed (names arena) (placed arena)) (map (entry_renamed (names arena)) s.entries)) (sym name)
    ∙ (offer_map (names arena) (names_once arena a.distinct) (placed arena) s.entries p
    ∙ (offer_from_frames c (placed arena) s.entries p (apart (placed arena) once) s.held.part s.held.stands h.is_next ∙ offers_there arena c MAX_TREE_NESTING 0 p a.shaped once h.inside))))

pub does_something : (arena : List BareNode) (f : Frames) (t : List Entry) (n p : ℕ) → AreOfTree arena → (s : IsAt arena f t) → has (next (tree arena) t) n ≡ true → IsPlaceOf arena s.entries n p → IsOpen (offer_there (slice_get arena p) (cells_of f.frames.cells p))
does_something arena f t n p a s i h = subst IsOpen (offer_there_is arena f t n p a s h) (opens (tree arena) t n (apart (tree arena) a.distinct) a.choices s.so_far i)

-- ---- one entry more

pub map_more : (r : ℕ → ℕ) (t : List Entry) (x : Entry) → map (entry_renamed r) (t ++ x ∷ []) ≡ map (entry_renamed r) t ++ entry_renamed r x ∷ []
map_more r [] x = refl
map_more r (y ∷ t) x = ap (λ (l : List Entry). entry_renamed r y ∷ l) (map_more r t x)

pub part_more : (arena : List BareNode) (f : Frames) (t : List Entry) (x : Entry) (p n : ℕ) → AreOfTree arena → (s : IsAt arena f t) → Part (tree arena) (t ++ x ∷ []) → IsPlaceOf arena s.entries n p → number_of x ≡ Some n → Part (placed arena) (s.entries ++ entry_at p x ∷ [])
part_more arena f t x p n a s q h k =
    let r = names arena in
    let name : r p ≡ n = names_are arena p h.inside ∙ h.is_number in
    let back : entry_renamed r (entry_at p x) ≡ x = entry_back r p n x name k in
    let whole : map (entry_renamed r) (s.entries ++ entry_at p x ∷ []) ≡ t ++ x ∷ [] =
    map_more r s.entries (entry_at p x) ∙ (ap (λ (l : List Entry). l ++ entry_renamed r (entry_at p x) ∷ []) (named_entries arena f t s) ∙ ap (λ (y : Entry). t ++ y ∷ []) back) in
    part_back parts r (names_once arena a.distinct) (placed arena) (s.entries ++ entry_at p x ∷ []) (placed_once arena a.distinct) (subst (λ (l : List Entry). Part (renamed r (placed arena)) l) (sym whole) (subst (λ (w : Exec). Part w (t ++ x ∷ [])) (sym (named arena)) q))

pub number_here : (p n : ℕ) (x : Entry) → number_of x ≡ Some n → number_of (entry_at p x) ≡ Some p
number_here p n x k = number_map (λ m. p) x ∙ ap (option_map (λ m. p)) k

-- an entry of a run so far has a number where the run can go on
pub entry_next : (arena : List BareNode) (t : List Entry) (x : Entry) (n : ℕ) → AreDistinct (nodes (tree arena)) → Part (tree arena) (t ++ x ∷ []) → number_of x ≡ Some n → has (next (tree arena) t) n ≡ true
entry_next arena t x n d q k = sym (ap (of.has_some (next (tree arena) t)) k) ∙ (parts.offered (tree arena) t x n d q k).0

pub numbered_entry : (arena : List BareNode) (t : List Entry) (x : Entry) → AreDistinct (nodes (tree arena)) → Part (tree arena) (t ++ x ∷ []) → number_of x ≡ None → ⊥
numbered_entry arena t x d q k =
    let p = ((parts.more (tree arena) t x d).0 q).0 in
    let h = parts.is_next (tree arena) t x d p q in
    let f : is_of (next (tree arena) t) x ≡ false = ap (of.has_some (next (tree arena) t)) k in
    (let w : true ≡ false = sym h ∙ f in cc)

-- an entry that may follow is what the node at its number's place does next
pub step_by : (arena : List BareNode) (f : Frames) (t : List Entry) (x : Entry) (p n : ℕ) → AreOfTree arena → (s : IsAt arena f t) → Part (tree arena) (t ++ x ∷ []) → IsPlaceOf arena s.entries n p → number_of x ≡ Some n → IsStep arena f.frames.cells f.set.all s.entries p x
step_by arena f t x p n a s q h k =
    let c = cells_of f.frames.cells in
    let once = placed_once arena a.distinct in
    let more = part_more arena f t x p n a s q h k in
    let own : offer (placed arena) s.entries p ≡ offer_there (slice_get arena p) (c p) =
    offer_from_frames c (placed arena) s.entries p (apart (placed arena) once) s.held.part s.held.stands h.is_next ∙ offers_there arena c MAX_TREE_NESTING 0 p a.shaped once h.inside in
    record {
      held = s.held;
      part = more;
      number = number_here p n x k;
      inside = h.inside;
      is_next = h.is_next;
      offered = subst (λ (w : Offer). IsOffered w p (entry_at p x)) own (parts.offered (placed arena) s.entries (entry_at p x) p once more (number_here p n x k)).1;
    }

-- and what holds of places then holds of numbers
pub at_more : (arena : List BareNode) (f g : Frames) (t : List Entry) (x : Entry) (p n : ℕ) → (s : IsAt arena f t) → Part (tree arena) (t ++ x ∷ []) → IsPlaceOf arena s.entries n p → number_of x ≡ Some n → IsHeld arena g.frames.cells g.set.all (s.entries ++ entry_at p x ∷ []) → g.frames.rooms ≡ rooms_of arena → IsTable arena g.table.rows.items → length g.set.classes ≡ length arena → IsAt arena g (t ++ x ∷ [])
at_more arena f g t x p n s q h k held rooms table classed =
    let back : entry_renamed (number_at arena) (entry_at p x) ≡ x = entry_back (number_at arena) p n x h.is_number k in
    record {
      so_far = q;
      entries = s.entries ++ entry_at p x ∷ [];
      same = map_more (number_at arena) s.entries (entry_at p x) ∙ (ap (λ (l : List Entry). l ++ entry_renamed (number_at arena) (entry_at p x) ∷ []) s.same ∙ ap (λ (y : Entry). t ++ y ∷ []) back);
      held = held;
      rooms = rooms;
      table = table;
      classed = classed;
    }

-- where the places and the frames are the same, the frames stand for the same entries
pub at_same : (arena : List BareNode) (f g : Frames) (t : List Entry) → IsAt arena f t → g.frames ≡ f.frames → g.table ≡ f.table → g.set.all ≡ f.set.all → length g.set.classes ≡ length arena → IsAt arena g t
at_same arena f g t s frames table all classed = record {
  so_far = s.so_far;
  entries = s.entries;
  same = s.same;
  held = subst (λ (w : List ℕ). IsHeld arena g.frames.cells w s.entries) (sym all) (subst (λ (v : NodeCells). IsHeld arena v.cells f.set.all s.entries) (sym frames) s.held);
  rooms = ap (λ (v : NodeCells). v.rooms) frames ∙ s.rooms;
  table = subst (λ (w : Table). IsTable arena w.rows.items) (sym table) s.table;
  classed = classed;
}

-- frames of the whole tree, opened
pub at_first : (arena : List BareNode) (old : List Cell) (before : List ℕ) (g : Frames) → length old ≡ length arena → ((q : ℕ) → holds before q ≡ false) → IsEntered arena old g.frames.cells before g.set.all (placed arena) → g.frames.rooms ≡ rooms_of arena → IsTable arena g.table.rows.items → length g.set.classes ≡ length arena → IsAt arena g []
at_first arena old before g l none opened rooms table classed = record {
  so_far = part_nil (tree arena);
  entries = [];
  same = refl;
  held = record {
    part = part_nil (placed arena);
    stands = opened.stands;
    unpicked = opened.unpicked;
    room = opened.long ∙ l;
    goes_on = λ q. opened.came q ∙ ap (λ (b : Bool). b || has (next (placed arena) []) q) (none q);
  };
  rooms = rooms;
  table = table;
  classed = classed;
}

-- ---- the place that the tree tells of a number

pub place_is_of : (arena : List BareNode) (f : Frames) (t : List Entry) (n p : ℕ) (found : Option ℕ) → AreOfTree arena → (s : IsAt arena f t) → has (next (tree arena) t) n ≡ true → found ≡ place_from 0 arena n → found ≡ Some p → IsPlaceOf arena s.entries n p
place_is_of arena f t n p found a s h e i =
    let r = place_of arena f t n a s h in
    let same : r.0 ≡ p = some_is r.0 p (sym r.1.found ∙ (sym e ∙ i)) in
    subst (λ (q : ℕ). IsPlaceOf arena s.entries n q) same r.1

-- the number of an entry of a run so far, at whose place the run can go on
pub entry_place : (arena : List BareNode) (f : Frames) (t : List Entry) (x : Entry) (p : ℕ) → AreOfTree arena → (s : IsAt arena f t) → Part (tree arena) (t ++ x ∷ []) → IfSome (number_of x) (λ n. place_from 0 arena n ≡ Some p)
    → (n : ℕ) × (number_of x ≡ Some n) × IsPlaceOf arena s.entries n p
entry_place arena f t x p a s q h = go (number_of x) refl h
  where
    go : (o : Option ℕ) → number_of x ≡ o → IfSome o (λ n. place_from 0 arena n ≡ Some p) → (n : ℕ) × (number_of x ≡ Some n) × IsPlaceOf arena s.entries n p
    go None e i = absurd (numbered_entry arena t x a.distinct q e)
    go (Some n) e i = (n, e, place_is_of arena f t n p (place_from 0 arena n) a s (entry_next arena t x n a.distinct q e) refl i)

-- What an entry of a node says of the node, and what comes in and goes out of the set.
use Rattle.std.specs.Prelude.{◌≡◌, ◌<◌, ◌-◌, ◌+◌, ◌==◌, ◌||◌, ◌&&◌, not, if◌then◌else◌, ℕ, zero, suc, Bool, true, false, List, [], ◌∷◌, length, slice_get, Option, Some, None, IsSomeAnd}
use Rattle.std.proofs.Common.{refl, sym, ◌∙◌, ap, subst, arith, get_or}
use Rattle.std.proofs.lemmas.Bool.Decides.{nat_tests}
use Rattle.std.proofs.lemmas.Option.{slice_get_within}
use Rattle.exec_tree.specs.Exec.{LeafKind, Assigning, Setting, Waiting, Noting, Exec, Leaf, nodes, has, AreDistinct}
use Rattle.exec_tree.specs.Arena.{to_execs, of_kind, first_of, second_of, HasArity}
use Rattle.exec_tree.specs.declared.kind.Kind.{Kind}
use Rattle.exec_tree.specs.declared.kind.Kind.TheVariants as kind
use Rattle.exec_tree.specs.declared.node.BareNode.{BareNode}
use Rattle.place_set.specs.Words.{holds}
use Rattle.trace_law.specs.Own.{pick_of}
use Rattle.trace_law.specs.Step.{IsNewPick, IsTest}
use Rattle.trace_law.specs.Cells.{Cell, Cutting, Over, next_by}
use Rattle.trace_law.specs.Coming.{Changes}
use Rattle.trace_law.specs.Offer.{Offer, IsOffered}
use Rattle.run_log.specs.declared.entry.Entry.{Entry}
use Rattle.run_log.specs.declared.entry.Entry.TheVariants.{Dispatch, Block, End, Pick, Test, Assign, Set, Pass, Note, Edit}
use Rattle.frame_law.specs.Executable.{element}
use Rattle.frame_law.specs.Executable as tree
use Rattle.frame_law.specs.Way.{Follows, blocks_after}
use Rattle.frame_law.proofs.KindLemmas.{next_as}
use Rattle.tree_table.specs.Placed.{place_for, placed, placed_down, placed_all}
use Rattle.tree_table.specs.Rows.{levels_at}
use Rattle.tree_table.specs.Table.{IsElement, IsTable}
use Rattle.tree_table.specs.declared.row.Row.{Row}
use Rattle.tree_table.proofs.ListLemmas.{has_at}
use Rattle.tree_table.proofs.PlacedLemmas.{down_node}
use Rattle.run_frames.specs.Frames.{cells_of}
use Rattle.run_frames.specs.Entries.{cut, ends, answer_in, index_in}
use Rattle.run_frames.specs.Renaming.{entry_at}
use Rattle.run_frames.specs.OfferAt.{offer_at, offer_there}
use Rattle.run_frames.specs.Entered.{IsNode, ComeInFor}
use Rattle.run_frames.specs.Held.{IsLeafKind, IsStep}
use Rattle.run_frames.proofs.RenamingLemmas.{same_number}
use Rattle.run_frames.proofs.FoundLemmas.{there_is}

no_true : false ≡ true → ⊥
no_true h = (let w : false ≡ true = h in cc)

-- ---- the node of an entry

pub follows : (arena : List BareNode) (frames : List Cell) (set : List ℕ) (t : List Entry) (p : ℕ) (x : Entry) → AreDistinct (nodes (placed arena)) → IsStep arena frames set t p x → Follows (cells_of frames) (placed arena) t (entry_at p x) p
follows arena frames set t p x d s = record { distinct = d; part = s.part; stands = s.held.stands; number = s.number }

some_levels : (arena : List BareNode) (c : ℕ → Cell) (levels p : ℕ) → has (next_by c (placed_down arena levels p)) p ≡ true → 0 < levels
unfolding placed_down
some_levels arena c zero p h = absurd (no_true h)
some_levels arena c (suc levels) p h = omega arith

-- it is found in the tree, as its kind says
pub found_is : (arena : List BareNode) (rows : List Row) (frames : List Cell) (set : List ℕ) (t : List Entry) (p : ℕ) (x : Entry) (k : Kind) (elements : List ℕ) → IsTable arena rows → AreDistinct (nodes (placed arena)) → IsStep arena frames set t p x → (n : IsNode arena p k elements)
    → tree.executable_at (placed arena) p ≡ of_kind k (place_for k n.node.number p) (placed_all arena (levels_at rows p - 1) elements)
found_is arena rows frames set t p x k elements table d s n =
    let c = cells_of frames in
    let there = there_is arena rows p table s.inside in
    let goes = next_as c (placed arena) t (entry_at p x) p (tree.executable_at (placed arena) p) (follows arena frames set t p x d s) refl in
    let l = some_levels arena c (levels_at rows p) p (subst (λ (e : Exec). has (next_by c e) p ≡ true) (sym there) goes) in
    sym there
    ∙ (down_node arena (levels_at rows p) p n.node l n.at
    ∙ (ap (λ (j : Kind). of_kind j (place_for j n.node.number p) (placed_all arena (levels_at rows p - 1) n.node.elements)) n.kind_is
    ∙ ap (λ (qs : List ℕ). of_kind k (place_for k n.node.number p) (placed_all arena (levels_at rows p - 1) qs)) n.elements_are))

pub offer_is : (arena : List BareNode) (frames : List Cell) (set : List ℕ) (t : List Entry) (p : ℕ) (x : Entry) (k : Kind) (elements : List ℕ) → IsStep arena frames set t p x → IsNode arena p k elements
    → IsOffered (offer_at k (cells_of frames p) (length elements)) p (entry_at p x)
offer_is arena frames set t p x k elements s n =
    let is : offer_there (slice_get arena p) (cells_of frames p) ≡ offer_at k (cells_of frames p) (length elements) =
    ap (λ (o : Option BareNode). offer_there o (cells_of frames p)) n.at
    ∙ (ap (λ (j : Kind). offer_at j (cells_of frames p) (length n.node.elements)) n.kind_is ∙ ap (λ (qs : List ℕ). offer_at k (cells_of frames p) (length qs)) n.elements_are) in
    subst (λ (o : Offer). IsOffered o p (entry_at p x)) is s.offered

pub leaf_is : (k : Kind) (n : Option ℕ) (p : ℕ) (es : List Exec) → IsLeafKind k → (l : LeafKind) × (of_kind k (place_for k n p) es ≡ Leaf p l)
leaf_is kind.Plan n p es h = absurd h
leaf_is kind.Par n p es h = absurd h
leaf_is kind.NonSeq n p es h = absurd h
leaf_is kind.Sel n p es h = absurd h
leaf_is kind.If n p es h = absurd h
leaf_is kind.While n p es h = absurd h
leaf_is kind.Work n p es h = absurd h
leaf_is kind.Assign n p es h = (Assigning, refl)
leaf_is kind.Set n p es h = (Setting, refl)
leaf_is kind.Wait n p es h = (Waiting, refl)
leaf_is kind.Note n p es h = (Noting, refl)

pub leaf_picks_not : (k : Kind) → IsLeafKind k → k ≡ kind.NonSeq → ⊥
leaf_picks_not k h e = subst IsLeafKind e h

pub step_within : (arena : List BareNode) (frames : List Cell) (set : List ℕ) (t : List Entry) (p : ℕ) (x : Entry) (k : Kind) (elements : List ℕ) → IsStep arena frames set t p x → IsNode arena p k elements → p < length frames
step_within arena frames set t p x k elements s n = subst (λ (m : ℕ). p < m) (sym s.held.room) (slice_get_within arena p n.node n.at)

pub step_there : (arena : List BareNode) (frames : List Cell) (set : List ℕ) (t : List Entry) (p : ℕ) (x : Entry) → IsStep arena frames set t p x → holds set p ≡ true
step_there arena frames set t p x s = s.held.goes_on p ∙ s.is_next

-- ---- its elements

pub element_is : (arena : List BareNode) (levels : ℕ) (places : List ℕ) (k : ℕ) → k < length places → element (to_execs (placed_all arena levels places)) k ≡ placed_down arena levels (get_or places k 0)
element_is arena levels [] k l = absurd (omega (arith, l))
element_is arena levels (p ∷ places) zero l = refl
element_is arena levels (p ∷ places) (suc k) l = element_is arena levels places k (omega (arith, l))

pub branch_is : (arena : List BareNode) (levels : ℕ) (places : List ℕ) → HasArity kind.If places → (answer : Bool)
    → (if answer then first_of (placed_all arena levels places) else second_of (placed_all arena levels places)) ≡ placed_down arena levels (get_or places (if answer then 0 else 1) 0)
branch_is arena levels [] a answer = absurd a
branch_is arena levels (p ∷ []) a answer = absurd a
branch_is arena levels (p ∷ q ∷ []) a true = refl
branch_is arena levels (p ∷ q ∷ []) a false = refl
branch_is arena levels (p ∷ q ∷ r ∷ places) a answer = absurd a

pub body_is : (arena : List BareNode) (levels : ℕ) (places : List ℕ) → HasArity kind.While places → first_of (placed_all arena levels places) ≡ placed_down arena levels (get_or places 0 0)
body_is arena levels [] a = absurd a
body_is arena levels (p ∷ []) a = refl
body_is arena levels (p ∷ q ∷ places) a = absurd a

pub branch_within : (places : List ℕ) → HasArity kind.If places → (answer : Bool) → (if answer then 0 else 1) < length places
branch_within [] a answer = absurd a
branch_within (p ∷ []) a answer = absurd a
branch_within (p ∷ q ∷ []) a true = omega arith
branch_within (p ∷ q ∷ []) a false = omega arith
branch_within (p ∷ q ∷ r ∷ places) a answer = absurd a

pub body_within : (places : List ℕ) → HasArity kind.While places → 0 < length places
body_within [] a = absurd a
body_within (p ∷ []) a = omega arith
body_within (p ∷ q ∷ places) a = absurd a

pub is_element : (arena : List BareNode) (p : ℕ) (k : Kind) (elements : List ℕ) (i : ℕ) → IsNode arena p k elements → i < length elements → IsElement arena p (get_or elements i 0)
is_element arena p k elements i n l = (n.node, n.at, subst (λ (qs : List ℕ). has qs (get_or elements i 0) ≡ true) (sym n.elements_are) (has_at elements i l))

-- ---- the entry

pub cut_on : (x : Entry) (p : ℕ) → ends x ≡ false → (k : ℕ) × (blocks_after (entry_at p x) ≡ Some k) × ((cut x) ≡ Cutting (Some k))
cut_on (Dispatch n v) p h = (0, refl, refl)
cut_on (Block n k b) p h = (k + 1, refl, refl)
cut_on (End n) p h = absurd (no_true (sym h))
cut_on (Pick n k) p h = absurd (no_true (sym h))
cut_on (Test n b) p h = absurd (no_true (sym h))
cut_on (Assign n y) p h = absurd (no_true (sym h))
cut_on (Set n) p h = absurd (no_true (sym h))
cut_on (Pass n) p h = absurd (no_true (sym h))
cut_on (Note n) p h = absurd (no_true (sym h))
cut_on (Edit i v) p h = absurd (no_true (sym h))

pub cut_over : (x : Entry) (p : ℕ) → ends x ≡ true → (blocks_after (entry_at p x) ≡ None) × ((cut x) ≡ Over)
cut_over (Dispatch n v) p h = absurd (no_true h)
cut_over (Block n k b) p h = absurd (no_true h)
cut_over (End n) p h = (refl, refl)
cut_over (Pick n k) p h = (refl, refl)
cut_over (Test n b) p h = (refl, refl)
cut_over (Assign n y) p h = (refl, refl)
cut_over (Set n) p h = (refl, refl)
cut_over (Pass n) p h = (refl, refl)
cut_over (Note n) p h = (refl, refl)
cut_over (Edit i v) p h = (refl, refl)

own_test : (n : ℕ) → (n == n) ≡ true
own_test n = grind (arith, nat_tests)

-- an entry that picks one of so many that is left
pub pick_is : (p total : ℕ) (ks : List ℕ) (x : Entry) → IsNewPick p total ks (entry_at p x) → (entry_at p x ≡ Pick p (index_in x)) × (index_in x < total) × (has ks (index_in x) ≡ false)
pick_is p total ks (Pick n k) h =
    let e : pick_of p (Pick p k) ≡ Some k = (let t = own_test p in rw t refl) in
    let r = subst (λ (w : Option ℕ). IsSomeAnd w (λ j. (j < total) × (has ks j ≡ false))) e h in
    (refl, r.0, r.1)
pick_is p total ks (Dispatch n v) h = absurd h
pick_is p total ks (Block n k b) h = absurd h
pick_is p total ks (End n) h = absurd h
pick_is p total ks (Test n b) h = absurd h
pick_is p total ks (Assign n y) h = absurd h
pick_is p total ks (Set n) h = absurd h
pick_is p total ks (Pass n) h = absurd h
pick_is p total ks (Note n) h = absurd h
pick_is p total ks (Edit i v) h = absurd h

pub test_is : (p : ℕ) (x : Entry) → IsTest p (entry_at p x) → entry_at p x ≡ Test p (answer_in x)
test_is p (Test n b) h = refl
test_is p (Dispatch n v) h = absurd h
test_is p (Block n k b) h = absurd h
test_is p (End n) h = absurd h
test_is p (Pick n k) h = absurd h
test_is p (Assign n y) h = absurd h
test_is p (Set n) h = absurd h
test_is p (Pass n) h = absurd h
test_is p (Note n) h = absurd h
test_is p (Edit i v) h = absurd h

-- ---- the set

turned : (a b : ℕ) → (b == a) ≡ (a == b)
turned a b = grind (arith, nat_tests)

-- what is next has changed as the set has
pub next_after : (before after ns ms l : List ℕ) (p : ℕ) → ((q : ℕ) → holds before q ≡ has ns q) → ComeInFor before after p l → Changes ns ms p l → (q : ℕ) → holds after q ≡ has ms q
next_after before after ns ms l p same came changes = λ q. came q ∙ (ap (λ (b : Bool). (b && not (q == p)) || has l q) (same q) ∙ sym (changes q))

-- a node that goes out and comes in again
pub next_same : (before ns ms : List ℕ) (p : ℕ) → ((q : ℕ) → holds before q ≡ has ns q) → has ns p ≡ true → Changes ns ms p (p ∷ []) → (q : ℕ) → holds before q ≡ has ms q
next_same before ns ms p same there changes = λ q. same q ∙ (go q (has ns q) refl (p == q) refl ∙ sym (changes q))
  where
    go : (q : ℕ) (b : Bool) → has ns q ≡ b → (e : Bool) → (p == q) ≡ e → has ns q ≡ ((has ns q && not (q == p)) || ((p == q) || false))
    go q b h true e = rw (turned p q, e) (subst (λ (r : ℕ). has ns r ≡ true) (same_number p q e) there ∙ sym (yes_side (has ns q)))
      where
        yes_side : (v : Bool) → ((v && false) || true) ≡ true
        yes_side true = refl
        yes_side false = refl
    go q b h false e = rw (turned p q, e) (no_side (has ns q))
      where
        no_side : (v : Bool) → v ≡ ((v && true) || false)
        no_side true = refl
        no_side false = refl

-- taken out first, and then these come in
pub out_then_in : (before middle after l : List ℕ) (p : ℕ) → ((q : ℕ) → holds middle q ≡ (not (q == p) && holds before q)) → ((q : ℕ) → holds after q ≡ (holds middle q || has l q)) → ComeInFor before after p l
out_then_in before middle after l p out came = λ q. came q ∙ (ap (λ (b : Bool). b || has l q) (out q) ∙ ap (λ (b : Bool). b || has l q) (swap (not (q == p)) (holds before q)))
  where
    swap : (a b : Bool) → (a && b) ≡ (b && a)
    swap true true = refl
    swap true false = refl
    swap false true = refl
    swap false false = refl

-- What an entry of a workingstep or a leaf does.
use Rattle.std.specs.Prelude.{◌≡◌, ◌<◌, ℕ, true, false, List, [], ◌∷◌, ◌++◌, length, slice_set, Some, None}
use Rattle.std.proofs.Common.{refl, sym, ◌∙◌}
use Rattle.exec_tree.specs.Exec.{Work, Leaf, nodes, AreDistinct}
use Rattle.exec_tree.specs.declared.limits.TheConstants.{MAX_TREE_NESTING}
use Rattle.exec_tree.specs.declared.kind.Kind.{Kind}
use Rattle.exec_tree.specs.declared.kind.Kind.TheVariants as kind
use Rattle.exec_tree.specs.declared.node.BareNode.{BareNode}
use Rattle.trace_law.specs.Next.{next}
use Rattle.trace_law.specs.State.{stage_step}
use Rattle.trace_law.specs.Cells.{Cell, Over, stage_of}
use Rattle.run_log.specs.declared.entry.Entry.{Entry}
use Rattle.frame_law.specs.Onward.{Done, onward, brings}
use Rattle.frame_law.specs.Way.{AreKeptBut as CellsKept, AreUnpicked}
use Rattle.frame_law.proofs.NodeLemmas.{on_writes, on_comes, low_comes}
use Rattle.frame_law.proofs.KindLemmas.{stands_as, comes_as, work_after_as}
use Rattle.frame_law.proofs.GoingLemmas.{end_then_on, leaf_then_on, comes_then_on}
use Rattle.tree_table.specs.Placed.{placed}
use Rattle.tree_table.specs.Table.{IsTable}
use Rattle.tree_table.specs.declared.row.Row.{Row}
use Rattle.run_frames.specs.Frames.{cells_of}
use Rattle.run_frames.specs.Entries.{cut, ends}
use Rattle.run_frames.specs.Renaming.{entry_at}
use Rattle.run_frames.specs.Entered.{AreUnpickedIn, IsNode}
use Rattle.run_frames.specs.Held.{IsHeld, IsStep, IsLeafKind, HasClosed}
use Rattle.run_frames.proofs.WriteLemmas.{frame_set, length_set, set_keeps}
use Rattle.run_frames.proofs.UnpickedLemmas.{unpicked_down, set_unpicked}
use Rattle.run_frames.proofs.StepLemmas.{follows, found_is, leaf_is, cut_on, cut_over, next_after, next_same}

-- ---- one cell written

pub own_cell : (old : List Cell) (p : ℕ) (f : Cell) → p < length old → cells_of (slice_set old p f) p ≡ f
own_cell old p f l = frame_set old p f l

pub set_kept : (old : List Cell) (p : ℕ) (f : Cell) (ns : List ℕ) → CellsKept (cells_of old) (cells_of (slice_set old p f)) (p ∷ ns)
set_kept old p f ns = λ q h. (set_keeps old p f ns q h)

pub all_unpicked : (arena : List BareNode) (frames : List Cell) → AreUnpickedIn arena frames → AreUnpicked (cells_of frames) (placed arena)
all_unpicked arena frames u = unpicked_down arena frames MAX_TREE_NESTING 0 u

-- at a node of another kind that leaves those without elements unpicked
pub other_unpicked : (arena : List BareNode) (old : List Cell) (p : ℕ) (f : Cell) (k : Kind) (elements : List ℕ) → p < length old → IsNode arena p k elements → (k ≡ kind.NonSeq → ⊥) → AreUnpickedIn arena old → AreUnpickedIn arena (slice_set old p f)
other_unpicked arena old p f k elements l n other u = set_unpicked arena old p f n.node l n.at (λ is none. absurd (other (sym n.kind_is ∙ is))) u

-- ---- workingsteps

work_picks_not : kind.Work ≡ kind.NonSeq → ⊥
work_picks_not e = cc

pub work_unpicked : (arena : List BareNode) (old : List Cell) (p : ℕ) (f : Cell) (elements : List ℕ) → p < length old → IsNode arena p kind.Work elements → AreUnpickedIn arena old → AreUnpickedIn arena (slice_set old p f)
work_unpicked arena old p f elements l n u = other_unpicked arena old p f kind.Work elements l n work_picks_not u

pub work_goes_on : (arena : List BareNode) (rows : List Row) (f : List Cell) (set : List ℕ) (t : List Entry) (p : ℕ) (x : Entry) (elements : List ℕ) → IsTable arena rows → AreDistinct (nodes (placed arena)) → IsNode arena p kind.Work elements → p < length f → ends x ≡ false → IsStep arena f set t p x
    → IsHeld arena (slice_set f p (cut x)) set (t ++ entry_at p x ∷ [])
work_goes_on arena rows f set t p x elements table d n l on s =
    let e = placed arena in
    let c = cells_of f in
    let new = slice_set f p (cut x) in
    let y = entry_at p x in
    let fo = follows arena f set t p x d s in
    let is = found_is arena rows f set t p x kind.Work elements table d s n in
    let b = cut_on x p on in
    let step : stage_step p (stage_of (c p)) y ≡ Some b.0 = work_after_as c e t y p fo is ∙ b.1 in
    let u = work_unpicked arena f p (cut x) elements l n s.held.unpicked in
    record {
      part = s.part;
      stands = stands_as c (cells_of new) e t y p (Work p) fo (all_unpicked arena new u) is (on_writes c (cells_of new) p b.0 y (onward e Done p) step (own_cell f p (cut x) l ∙ b.2) (set_kept f p (cut x) []));
      unpicked = u;
      room = length_set f p (cut x) ∙ s.held.room;
      goes_on = next_same set (next e t) (next e (t ++ y ∷ [])) p s.held.goes_on s.is_next (comes_as c e t y p (Work p) (p ∷ []) fo is (on_comes c p b.0 y (brings c (onward e Done p)) step));
    }

pub work_is_over : (arena : List BareNode) (rows : List Row) (f new : List Cell) (set after : List ℕ) (t : List Entry) (p : ℕ) (x : Entry) (elements : List ℕ) → IsTable arena rows → AreDistinct (nodes (placed arena)) → IsNode arena p kind.Work elements → p < length f → ends x ≡ true → IsStep arena f set t p x
    → HasClosed arena (slice_set f p (cut x)) new set after p → IsHeld arena new after (t ++ entry_at p x ∷ [])
work_is_over arena rows f new set after t p x elements table d n l on s h =
    let e = placed arena in
    let c = cells_of f in
    let mid = slice_set f p (cut x) in
    let y = entry_at p x in
    let fo = follows arena f set t p x d s in
    let is = found_is arena rows f set t p x kind.Work elements table d s n in
    let b = cut_over x p on in
    let step : stage_step p (stage_of (c p)) y ≡ None = work_after_as c e t y p fo is ∙ b.0 in
    let kept = set_kept f p (cut x) [] in
    record {
      part = s.part;
      stands = end_then_on c (cells_of mid) (cells_of new) e t y p fo (all_unpicked arena new h.unpicked) is step (own_cell f p (cut x) l ∙ b.1) kept h.gone;
      unpicked = h.unpicked;
      room = h.long ∙ (length_set f p (cut x) ∙ s.held.room);
      goes_on = next_after set after (next e t) (next e (t ++ y ∷ [])) (brings (cells_of mid) (onward e Done p)) p s.held.goes_on h.came
          (comes_then_on c (cells_of mid) e t y p (Work p) fo is kept (low_comes c p y (brings c (onward e Done p)) step));
    }

-- ---- leaves

pub leaf_is_over : (arena : List BareNode) (rows : List Row) (f new : List Cell) (set after : List ℕ) (t : List Entry) (p : ℕ) (x : Entry) (k : Kind) (elements : List ℕ) → IsTable arena rows → AreDistinct (nodes (placed arena)) → IsNode arena p k elements → IsLeafKind k → p < length f → IsStep arena f set t p x
    → HasClosed arena (slice_set f p Over) new set after p → IsHeld arena new after (t ++ entry_at p x ∷ [])
leaf_is_over arena rows f new set after t p x k elements table d n leaf l s h =
    let e = placed arena in
    let c = cells_of f in
    let mid = slice_set f p Over in
    let y = entry_at p x in
    let fo = follows arena f set t p x d s in
    let own = leaf_is k n.node.number p _ leaf in
    let is = found_is arena rows f set t p x k elements table d s n ∙ own.1 in
    let kept = set_kept f p Over [] in
    record {
      part = s.part;
      stands = leaf_then_on c (cells_of mid) (cells_of new) e t y p own.0 fo (all_unpicked arena new h.unpicked) is (own_cell f p Over l) kept h.gone;
      unpicked = h.unpicked;
      room = h.long ∙ (length_set f p Over ∙ s.held.room);
      goes_on = next_after set after (next e t) (next e (t ++ y ∷ [])) (brings (cells_of mid) (onward e Done p)) p s.held.goes_on h.came (comes_then_on c (cells_of mid) e t y p (Leaf p own.0) fo is kept refl);
    }

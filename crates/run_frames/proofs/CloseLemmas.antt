-- A node that goes out: the way on from it is gone, or an element is opened in its stead.
use Rattle.std.specs.Prelude.{◌≡◌, ◌==◌, ◌||◌, ◌&&◌, not, ℕ, Bool, true, false, List, [], Option, Some, None}
use Rattle.std.proofs.Common.{refl, ◌∙◌, ap, subst}
use Rattle.exec_tree.specs.Exec.{Exec, has}
use Rattle.exec_tree.specs.declared.node.BareNode.{BareNode}
use Rattle.place_set.specs.Words.{holds}
use Rattle.trace_law.specs.Next.{next}
use Rattle.trace_law.proofs.LeadLemmas.{void_stands, leads_stands, leads_next}
use Rattle.frame_law.specs.Onward.{Done, onward, brings}
use Rattle.frame_law.proofs.ReachLemmas.{unpicked}
use Rattle.frame_law.proofs.OpenedLemmas.{leads_within}
use Rattle.tree_table.specs.Placed.{placed, placed_down}
use Rattle.tree_table.specs.Rows.{executable_at}
use Rattle.tree_table.specs.Table.{LeadsTo}
use Rattle.tree_table.specs.declared.row.Row.{Row}
use Rattle.run_frames.specs.Frames.{cells_of}
use Rattle.run_frames.specs.Entered.{AreUnpickedIn, IsEntered}
use Rattle.run_frames.specs.Ways.{HasGone}
use Rattle.run_frames.specs.Held.{HasClosed, HasOpened, IsVoid, HasTried}
use Rattle.run_frames.proofs.UnpickedLemmas.{unpicked_down}
use Rattle.run_frames.proofs.StepLemmas.{out_then_in}
use Rattle.trace_law.specs.Cells.{Cell}

pub closed_by : (arena : List BareNode) (old new : List Cell) (before middle after : List ℕ) (p : ℕ) → ((q : ℕ) → holds middle q ≡ (not (q == p) && holds before q)) → HasGone arena old new middle after (onward (placed arena) Done p) → HasClosed arena old new before after p
closed_by arena old new before middle after p out g = record {
  gone = g.gone;
  unpicked = g.unpicked;
  long = g.long;
  came = out_then_in before middle after (brings (cells_of old) (onward (placed arena) Done p)) p out g.came;
}

pub opened_by : (arena : List BareNode) (rows : List Row) (old new : List Cell) (before middle after : List ℕ) (p levels element into : ℕ) → ((q : ℕ) → holds middle q ≡ (not (q == p) && holds before q)) → LeadsTo arena rows (placed_down arena levels element) (Some into) → IsEntered arena old new middle after (executable_at arena rows into) → HasOpened arena old new before after p (placed_down arena levels element)
opened_by arena rows old new before middle after p levels element into out to o =
    let e = placed_down arena levels element in
    let opened = subst (λ (f : Exec). IsEntered arena old new middle after f) to.2 o in
    record {
      some = to.0;
      stands = leads_stands (cells_of new) e (unpicked (cells_of new) e (unpicked_down arena new levels element opened.unpicked)) opened.stands;
      kept = λ q h. opened.kept q (leads_within e q h);
      unpicked = opened.unpicked;
      long = opened.long;
      came = out_then_in before middle after (next e []) p out (λ q. opened.came q ∙ ap (λ (ns : List ℕ). holds middle q || has ns q) (leads_next e));
    }

pub void_by : (arena : List BareNode) (rows : List Row) (old : List Cell) (before : List ℕ) (levels element : ℕ) (into : Option ℕ) → into ≡ None → LeadsTo arena rows (placed_down arena levels element) into → AreUnpickedIn arena old → IsVoid old old before before (placed_down arena levels element)
void_by arena rows old before levels element into h to u =
    let e = placed_down arena levels element in
    let none = subst (λ (o : Option ℕ). LeadsTo arena rows e o) h to in
    record { none = none; stands = void_stands (cells_of old) e (unpicked (cells_of old) e (unpicked_down arena old levels element u)) none; same = refl; same_set = refl }

-- what was tried from cells that are known, where its outcome is
pub tried_opened : (arena : List BareNode) (mid old new : List Cell) (before after : List ℕ) (p levels q r : ℕ) (b : Bool) → mid ≡ old → q ≡ r → b ≡ true → HasTried arena mid new before after p (placed_down arena levels q) b → HasOpened arena old new before after p (placed_down arena levels r)
tried_opened arena mid old new before after p levels q r b is e h t =
    subst (λ (w : List Cell). HasOpened arena w new before after p (placed_down arena levels r)) is
    (subst (λ (j : ℕ). HasOpened arena mid new before after p (placed_down arena levels j)) e (subst (λ (v : Bool). HasTried arena mid new before after p (placed_down arena levels q) v) h t))

pub tried_void : (arena : List BareNode) (mid old new : List Cell) (before after : List ℕ) (p levels q r : ℕ) (b : Bool) → mid ≡ old → q ≡ r → b ≡ false → HasTried arena mid new before after p (placed_down arena levels q) b → IsVoid old new before after (placed_down arena levels r)
tried_void arena mid old new before after p levels q r b is e h t =
    subst (λ (w : List Cell). IsVoid w new before after (placed_down arena levels r)) is
    (subst (λ (j : ℕ). IsVoid mid new before after (placed_down arena levels j)) e (subst (λ (v : Bool). HasTried arena mid new before after p (placed_down arena levels q) v) h t))

pub closed_from : (arena : List BareNode) (mid old new : List Cell) (before after : List ℕ) (p : ℕ) → mid ≡ old → HasClosed arena mid new before after p → HasClosed arena old new before after p
closed_from arena mid old new before after p is h = subst (λ (w : List Cell). HasClosed arena w new before after p) is h

-- then nothing has changed
pub void_closed : (arena : List BareNode) (old mid new : List Cell) (before middle after : List ℕ) (p : ℕ) (e : Exec) → IsVoid old mid before middle e → HasClosed arena mid new middle after p → HasClosed arena old new before after p
void_closed arena old mid new before middle after p e v h = subst (λ (f : List Cell). HasClosed arena f new before after p) v.same (subst (λ (s : List ℕ). HasClosed arena mid new s after p) v.same_set h)

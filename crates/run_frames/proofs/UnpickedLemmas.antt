-- Non-sequentials without elements have no picks, node by node, and so in the tree.
use Rattle.std.specs.Prelude.{◌≡◌, ◌<◌, ◌==◌, ℕ, zero, suc, Bool, true, false, List, [], ◌∷◌, map, length, slice_get, slice_set, Option, Some, None}
use Rattle.std.proofs.Common.{refl, sym, ◌∙◌, ap, subst, arith}
use Rattle.std.proofs.lemmas.Bool.Decides.{nat_tests}
use Rattle.exec_tree.specs.Exec.{Exec}
use Rattle.exec_tree.specs.Arena.{to_execs, of_kind, first_of, second_of}
use Rattle.exec_tree.specs.declared.kind.Kind.{Kind}
use Rattle.exec_tree.specs.declared.kind.Kind.TheVariants as kind
use Rattle.exec_tree.specs.declared.node.BareNode.{BareNode}
use Rattle.trace_law.specs.Cells.{Cell, Picked}
use Rattle.frame_law.specs.Way.{AreUnpicked, AreUnpickedAll}
use Rattle.tree_table.specs.Placed.{place_for, placed_node, placed_down}
use Rattle.run_frames.specs.Frames.{cells_of}
use Rattle.run_frames.specs.Entered.{AreUnpickedIn}
use Rattle.run_frames.proofs.RenamingLemmas.{same_number}
use Rattle.run_frames.proofs.WriteLemmas.{frame_set, frame_other}

first_unpicked : (c : ℕ → Cell) (es : List Exec) → AreUnpickedAll c (to_execs es) → AreUnpicked c (first_of es)
first_unpicked c [] u = tt
first_unpicked c (e ∷ es) u = u.0

second_unpicked : (c : ℕ → Cell) (es : List Exec) → AreUnpickedAll c (to_execs es) → AreUnpicked c (second_of es)
second_unpicked c [] u = tt
second_unpicked c (e ∷ es) u = first_unpicked c es u.1

kind_unpicked : (c : ℕ → Cell) (k : Kind) (n : Option ℕ) (p : ℕ) (es : List Exec) → (k ≡ kind.NonSeq → es ≡ [] → c p ≡ Picked []) → AreUnpickedAll c (to_execs es) → AreUnpicked c (of_kind k (place_for k n p) es)
kind_unpicked c kind.Plan n p es own u = u
kind_unpicked c kind.Par n p es own u = u
kind_unpicked c kind.NonSeq n p [] own u = own refl refl
kind_unpicked c kind.NonSeq n p (e ∷ es) own u = u
kind_unpicked c kind.Sel n p es own u = u
kind_unpicked c kind.If n p es own u = (first_unpicked c es u, second_unpicked c es u)
kind_unpicked c kind.While n p es own u = first_unpicked c es u
kind_unpicked c kind.Work n p es own u = tt
kind_unpicked c kind.Assign n p es own u = tt
kind_unpicked c kind.Set n p es own u = tt
kind_unpicked c kind.Wait n p es own u = tt
kind_unpicked c kind.Note n p es own u = tt

all_unpicked : (c : ℕ → Cell) (f : ℕ → Exec) (ps : List ℕ) → ((r : ℕ) → AreUnpicked c (f r)) → AreUnpickedAll c (to_execs (map f ps))
all_unpicked c f [] h = tt
all_unpicked c f (p ∷ ps) h = (h p, all_unpicked c f ps h)

none_mapped : (f : ℕ → Exec) (ps : List ℕ) → map f ps ≡ [] → ps ≡ []
none_mapped f [] h = refl
none_mapped f (p ∷ ps) h = absurd (let w : f p ∷ map f ps ≡ [] = h in cc)

pub unpicked_down : (arena : List BareNode) (frames : List Cell) (levels p : ℕ) → AreUnpickedIn arena frames → AreUnpicked (cells_of frames) (placed_down arena levels p)
unfolding placed_down
unpicked_down arena frames zero p u = tt
unpicked_down arena frames (suc levels) p u = go (slice_get arena p) refl (λ r. unpicked_down arena frames levels r u)
  where
    go : (o : Option BareNode) → slice_get arena p ≡ o → ((r : ℕ) → AreUnpicked (cells_of frames) (placed_down arena levels r)) → AreUnpicked (cells_of frames) (placed_node p o (λ r. placed_down arena levels r))
    go None e rec = tt
    go (Some node) e rec =
        kind_unpicked (cells_of frames) node.kind node.number p (map (λ r. placed_down arena levels r) node.elements)
        (λ k none. (u p node e k (none_mapped (λ r. placed_down arena levels r) node.elements none))) (all_unpicked (cells_of frames) (λ r. placed_down arena levels r) node.elements rec)

some_node : (a b : BareNode) → Some a ≡ Some b → a ≡ b
some_node a b e = cc

differ : (a b : ℕ) → a ≡ b → (a == b) ≡ false → ⊥
differ a b h e = (let w : (a == b) ≡ true = grind (arith, nat_tests) in let z : true ≡ false = sym w ∙ e in cc)

-- a frame that is written keeps that, where it says so of such a node
pub set_unpicked : (arena : List BareNode) (frames : List Cell) (p : ℕ) (f : Cell) (node : BareNode) → p < length frames → slice_get arena p ≡ Some node → (node.kind ≡ kind.NonSeq → node.elements ≡ [] → f ≡ Picked []) → AreUnpickedIn arena frames → AreUnpickedIn arena (slice_set frames p f)
set_unpicked arena frames p f node l at own u = λ q other there k none. go q other there k none (p == q) refl
  where
    go : (q : ℕ) (other : BareNode) → slice_get arena q ≡ Some other → other.kind ≡ kind.NonSeq → other.elements ≡ [] → (b : Bool) → (p == q) ≡ b → cells_of (slice_set frames p f) q ≡ Picked []
    go q other there k none true e =
        let same : p ≡ q = same_number p q e in
        let is : other ≡ node = some_node other node (sym there ∙ (ap (slice_get arena) (sym same) ∙ at)) in
        subst (λ (r : ℕ). cells_of (slice_set frames p f) r ≡ Picked []) same
        (frame_set frames p f l ∙ own (ap (λ (w : BareNode). w.kind) (sym is) ∙ k) (ap (λ (w : BareNode). w.elements) (sym is) ∙ none))
    go q other there k none false e = frame_other frames p q f (λ h. differ p q h e) ∙ u q other there k none

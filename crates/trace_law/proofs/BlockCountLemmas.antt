-- A block that follows a part is the next of its step.
use Rattle.std.specs.Prelude.{◌≡◌, ◌+◌, ℕ, zero, suc, true, false, List, [], ◌∷◌, ◌++◌, Option, Some, None, IsSomeAnd}
use Rattle.std.proofs.Common.{refl, sym, ◌∙◌, ap, subst, inl, inr}
use Rattle.exec_tree.specs.Exec.{LeafKind, Assigning, Setting, Waiting, Noting, Exec, Work, Leaf, Plan, Par, NonSeq, Sel, If, While, Execs, None_left, Then, nodes}
use Rattle.trace_law.specs.Of.{only}
use Rattle.trace_law.specs.Whole.{IsCut, IsWork, IsOfLeaf, Answered, Whole, WholeAt}
use Rattle.trace_law.specs.Own.{picks, pick_of, test_of, Turn, Tested, turns}
use Rattle.trace_law.specs.Part.{LastMayBeCut, IsLoopSoFar, Part, EachPart, InOrder, PartAt}
use Rattle.trace_law.specs.Elements.{nodes_at, part_at}
use Rattle.trace_law.specs.Step.{IsTest, AtLast, StepLoop, Step, StepInOrder, StepOfOne, StepAt}
use Rattle.trace_law.specs.Cells.{last_body}
use Rattle.trace_law.specs.State.{stage, stage_from, stage_step}
use Rattle.run_log.specs.declared.entry.Entry.{Entry}
use Rattle.run_log.specs.declared.entry.Entry.TheVariants.{Dispatch, Block, End}
use Rattle.trace_law.proofs.StepLemmas.{Apart, ApartAll}
use Rattle.trace_law.proofs.StepForthLemmas.{pick_is}
use Rattle.trace_law.proofs.StepBackLemmas.{test_is}
use Rattle.trace_law.proofs.StayLemmas.{inside_at}
use Rattle.trace_law.proofs.OfferLemmas.{self, stage_only, stage_append, any_start, ends_with}
use Rattle.path_blocks.specs.declared.block.Block.{Block as PathBlock}

cut_stage : (m i : ℕ) (t rest : List Entry) (n k : ℕ) (b : PathBlock) → IsCut m i (t ++ Block n k b ∷ rest) → stage_from m (Some i) t ≡ Some k
cut_stage m i [] rest n k b w = ap (λ (j : ℕ). Some j) (sym w.1)
cut_stage m i (Block j l a ∷ t) rest n k b w = rw (self m j w.0) (cut_stage m (i + 1) t rest n k b w.2)
cut_stage m i (End j ∷ t) rest n k b w = absurd (never j t w)
  where
    never : (j : ℕ) (t : List Entry) → IsCut m i (End j ∷ (t ++ Block n k b ∷ rest)) → ⊥
    never j [] w = w
    never j (y ∷ t) w = w
cut_stage m i (y ∷ t) rest n k b w = absurd w

cut_number : (m i : ℕ) (t rest : List Entry) (n k : ℕ) (b : PathBlock) → IsCut m i (t ++ Block n k b ∷ rest) → n ≡ m
cut_number m i [] rest n k b w = w.0
cut_number m i (Block j l a ∷ t) rest n k b w = cut_number m (i + 1) t rest n k b w.2
cut_number m i (End j ∷ []) rest n k b w = absurd w
cut_number m i (End j ∷ y ∷ t) rest n k b w = absurd w
cut_number m i (y ∷ t) rest n k b w = absurd w

work_stage : (m : ℕ) (t rest : List Entry) (n k : ℕ) (b : PathBlock) → IsWork m (t ++ Block n k b ∷ rest) → (n ≡ m) × (stage m t ≡ Some k)
work_stage m [] rest n k b w = absurd w
work_stage m (Dispatch j v ∷ t) rest n k b w = (cut_number m 0 t rest n k b w.1, rw (self m j w.0) (cut_stage m 0 t rest n k b w.1))
work_stage m (y ∷ t) rest n k b w = absurd w

leaf_no_block : (l : LeafKind) (m n k : ℕ) (b : PathBlock) → IsOfLeaf l m (Block n k b) → ⊥
leaf_no_block Assigning m n k b w = w
leaf_no_block Setting m n k b w = w
leaf_no_block Waiting m n k b w = w
leaf_no_block Noting m n k b w = w

last_says : (whole part said : ℕ → Type 0) (G : Type 0) (ks : List ℕ) → ((k : ℕ) → part k → said k → G) → LastMayBeCut whole part ks → AtLast said ks → G
last_says whole part said G [] h p s = absurd s
last_says whole part said G (k ∷ []) h p s = h k p s
last_says whole part said G (k ∷ j ∷ ks) h p s = last_says whole part said G (j ∷ ks) h p.1 s

some_says : {A : Type 0} (P Q : A → Type 0) (G : Type 0) (o : Option A) → ((a : A) → o ≡ Some a → P a → Q a → G) → IsSomeAnd o P → IsSomeAnd o Q → G
some_says P Q G None h p q = absurd p
some_says P Q G (Some a) h p q = h a refl p q

loop_says : (whole part step : List Entry → Type 0) (test G : Type 0) (ts : List Turn) → (test → ⊥) → ((u : List Entry) → u ≡ last_body ts → part u → step u → G) → IsLoopSoFar whole part ts → StepLoop test whole step ts → G
loop_says whole part step test G [] f h q p = absurd (f p)
loop_says whole part step test G (Tested true t ∷ []) f h q (inl p) = absurd (f p.0)
loop_says whole part step test G (Tested true t ∷ []) f h q (inr p) = h t refl q p
loop_says whole part step test G (Tested false t ∷ []) f h q p = absurd p
loop_says whole part step test G (Tested true t ∷ s ∷ rest) f h q p = loop_says whole part step test G (s ∷ rest) f h q.1 p
loop_says whole part step test G (Tested false t ∷ s ∷ rest) f h q p = absurd q

mutual
  pub step_stage : (e : Exec) (t : List Entry) (n k : ℕ) (b : PathBlock) (c : Option ℕ) → Apart e → Part e t → Step e t (Block n k b) → stage_from n c t ≡ Some k
  step_stage (Work m) t n k b c d p s =
      let z = work_stage m t s.0 n k b s.1 in any_start n k None c t (inl refl) (subst (λ (j : ℕ). stage j t ≡ Some k) (sym z.0) z.1)
  step_stage (Leaf m l) t n k b c d p s = absurd (leaf_no_block l m n k b s.1)
  step_stage (Plan m es) t n k b c d p s = stage_in_order es t n k b c d p.1 s
  step_stage (Par m es) t n k b c d p s = stage_of_one es t n k b c d p.1 s
  step_stage (NonSeq m es) t n k b c d p (inl s) = absurd s.0
  step_stage (NonSeq m es) t n k b c d p (inr s) =
      last_says (λ i. WholeAt es i (part_at es i t)) (λ i. PartAt es i (part_at es i t)) (λ i. StepAt es i (part_at es i t) (Block n k b)) (stage_from n c t ≡ Some k) (picks m t)
      (λ i q r. sym (stage_only n (nodes_at es i) c t (inside_at es i (part_at es i t) (Block n k b) d.1 q r)) ∙ stage_at es i (part_at es i t) n k b c d.1 q r) p.2 s
  step_stage (Sel m es) [] n k b c d p s = absurd s
  step_stage (Sel m es) (y ∷ t) n k b c d (inl p) s = absurd (cc)
  step_stage (Sel m es) (y ∷ t) n k b c d (inr p) s =
      some_says (λ i. PartAt es i t) (λ i. StepAt es i t (Block n k b)) (stage_from n c (y ∷ t) ≡ Some k) (pick_of m y)
      (λ i f q r. subst (λ (z : Entry). stage_from n (stage_step n c z) t ≡ Some k) (sym (pick_is m y i f)) (stage_at es i t n k b c d.1 q r)) p s
  step_stage (If m a a') [] n k b c d p s = absurd s
  step_stage (If m a a') (y ∷ t) n k b c d (inl p) s = absurd (cc)
  step_stage (If m a a') (y ∷ t) n k b c d (inr p) s =
      some_says (λ r. Answered (λ u. Part a u) (λ u. Part a' u) r t) (λ r. Answered (λ u. Step a u (Block n k b)) (λ u. Step a' u (Block n k b)) r t) (stage_from n c (y ∷ t) ≡ Some k) (test_of m y)
      (elim [
        | true ↦ λ f q r. subst (λ (z : Entry). stage_from n (stage_step n c z) t ≡ Some k) (sym (test_is m y true f)) (step_stage a t n k b c d.1 q r)
        | false ↦ λ f q r. subst (λ (z : Entry). stage_from n (stage_step n c z) t ≡ Some k) (sym (test_is m y false f)) (step_stage a' t n k b c d.2 q r)
      ]) p s
  step_stage (While m a) t n k b c d p s =
      let z = ends_with m t in
      loop_says (λ u. Whole a u) (λ u. Part a u) (λ u. Step a u (Block n k b)) (IsTest m (Block n k b)) (stage_from n c t ≡ Some k) (turns m t) (λ q. q)
      (λ u i q r. ap (λ (v : List Entry). stage_from n c v) z.1
      ∙ (stage_append n c z.0 (last_body (turns m t)) ∙ subst (λ (v : List Entry). stage_from n (stage_from n c z.0) v ≡ Some k) i (step_stage a u n k b (stage_from n c z.0) d.1 q r))) p.1 s

  stage_in_order : (es : Execs) (t : List Entry) (n k : ℕ) (b : PathBlock) (c : Option ℕ) → ApartAll es → InOrder es t → StepInOrder es t (Block n k b) → stage_from n c t ≡ Some k
  stage_in_order None_left t n k b c d p s = absurd s
  stage_in_order (Then e es) t n k b c d p (inl s) = sym (stage_only n (nodes e) c t s.0) ∙ step_stage e (only (nodes e) t) n k b c d.0 p.0 s.2
  stage_in_order (Then e es) t n k b c d p (inr s) = stage_in_order es t n k b c d.1 p.2 s.2

  stage_of_one : (es : Execs) (t : List Entry) (n k : ℕ) (b : PathBlock) (c : Option ℕ) → ApartAll es → EachPart es t → StepOfOne es t (Block n k b) → stage_from n c t ≡ Some k
  stage_of_one None_left t n k b c d p s = absurd s
  stage_of_one (Then e es) t n k b c d p (inl s) = sym (stage_only n (nodes e) c t s.0) ∙ step_stage e (only (nodes e) t) n k b c d.0 p.0 s.1
  stage_of_one (Then e es) t n k b c d p (inr s) = stage_of_one es t n k b c d.1 p.1 s.1

  stage_at : (es : Execs) (i : ℕ) (t : List Entry) (n k : ℕ) (b : PathBlock) (c : Option ℕ) → ApartAll es → PartAt es i t → StepAt es i t (Block n k b) → stage_from n c t ≡ Some k
  stage_at None_left i t n k b c d p s = absurd p
  stage_at (Then e es) zero t n k b c d p s = step_stage e t n k b c d.0 p s
  stage_at (Then e es) (suc i) t n k b c d p s = stage_at es i t n k b c d.1 p s

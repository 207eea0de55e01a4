-- What a node can do next, from the cells alone.
use Rattle.std.specs.Prelude.{◌≡◌, ℕ, Bool, true, false, ◌||◌, ◌==◌, if◌then◌else◌, List, [], ◌∷◌}
use Rattle.std.proofs.Common.{refl, sym, ◌∙◌, ap, subst}
use Rattle.exec_tree.specs.Exec.{Exec, Work, Leaf, Plan, Par, NonSeq, Sel, If, While, Execs, None_left, Then, nodes, has}
use Rattle.trace_law.specs.Of.{only}
use Rattle.trace_law.specs.Own.{turns}
use Rattle.trace_law.specs.State.{stage}
use Rattle.trace_law.specs.Cells.{Cell, stage_of, last_body, Shows, ShowsAll}
use Rattle.trace_law.specs.Offer.{Offer, Tests, offer_of_work, offer_of_two, offer, offer_among, offer_by, offer_by_among}
use Rattle.run_log.specs.declared.entry.Entry.{Entry}
use Rattle.trace_law.proofs.StepLemmas.{same_number}
use Rattle.trace_law.proofs.CellMoveLemmas.{work_stage_of}

pub only_one : (n m : ℕ) → has (n ∷ []) m ≡ true → n ≡ m
only_one n m h = go (n == m) refl h
  where
    go : (b : Bool) → (n == m) ≡ b → (b || false) ≡ true → n ≡ m
    go true e h = same_number n m e
    go false e h = absurd (cc)

chosen : (b : Bool) (p q r : Offer) → (b ≡ false → q ≡ r) → (if b then p else q) ≡ (if b then p else r)
chosen true p q r h = refl
chosen false p q r h = h refl

chosen_first : (b : Bool) (p q r s : Offer) → (b ≡ true → p ≡ q) → r ≡ s → (if b then p else r) ≡ (if b then q else s)
chosen_first true p q r s h g = h refl
chosen_first false p q r s h g = g

pub of_two : (a b : Bool) (p q r s : Offer) → (a ≡ true → p ≡ q) → (b ≡ true → r ≡ s) → offer_of_two a b p r ≡ offer_of_two a b q s
of_two true b p q r s h g = h refl
of_two false true p q r s h g = g refl
of_two false false p q r s h g = refl

in_rest : (b c : Bool) → (b || c) ≡ true → b ≡ false → c ≡ true
in_rest true c h e = absurd (cc)
in_rest false c h e = h

mutual
  pub offer_from_cells : (c : ℕ → Cell) (e : Exec) (t : List Entry) (m : ℕ) → has (nodes e) m ≡ true → Shows c e t → offer e t m ≡ offer_by c e m
  offer_from_cells c (Work n) t m h s =
      subst (λ (j : ℕ). offer_of_work (stage j t) ≡ offer_of_work (stage_of (c n))) (only_one n m h) (ap offer_of_work (sym (ap stage_of s ∙ work_stage_of n t)))
  offer_from_cells c (Leaf n k) t m h s = refl
  offer_from_cells c (Plan n es) t m h s = among_from_cells c es t m s
  offer_from_cells c (Par n es) t m h s = among_from_cells c es t m s
  offer_from_cells c (NonSeq n es) t m h s = rw (s.0, among_from_cells c es t m s.1) refl
  offer_from_cells c (Sel n es) t m h s = rw (among_from_cells c es t m s.1) refl
  offer_from_cells c (If n a b) t m h s =
      chosen (n == m) Tests _ _ (λ e. of_two (has (nodes a) m) (has (nodes b) m) _ _ _ _
      (λ g. offer_from_cells c a (only (nodes a) t) m g s.1) (λ g. offer_from_cells c b (only (nodes b) t) m g s.2))
  offer_from_cells c (While n a) t m h s =
      chosen (n == m) Tests _ _ (λ e. offer_from_cells c a (last_body (turns n t)) m (in_rest (n == m) (has (nodes a) m) h e) s.1)

  pub among_from_cells : (c : ℕ → Cell) (es : Execs) (t : List Entry) (m : ℕ) → ShowsAll c es t → offer_among es t m ≡ offer_by_among c es m
  among_from_cells c None_left t m s = refl
  among_from_cells c (Then e es) t m s =
      chosen_first (has (nodes e) m) _ _ _ _ (λ g. offer_from_cells c e (only (nodes e) t) m g s.0) (among_from_cells c es t m s.1)

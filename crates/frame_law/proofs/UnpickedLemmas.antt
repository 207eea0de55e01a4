-- Each non-sequential without elements has no picks, where that is so at each node.
use Rattle.std.specs.Prelude.{◌≡◌, ◌==◌, ℕ, true, false, List, [], ◌∷◌, ◌++◌}
use Rattle.std.proofs.Common.{refl, ◌∙◌, arith}
use Rattle.std.proofs.lemmas.Bool.Decides.{nat_tests}
use Rattle.exec_tree.specs.Exec.{Exec, Work, Leaf, Plan, Par, NonSeq, Sel, If, While, Execs, None_left, Then, nodes, nodes_all, has, number_or_none, AreDistinct}
use Rattle.trace_law.specs.Cells.{Cell, Picked}
use Rattle.trace_law.proofs.StepLemmas.{here, distinct_left, distinct_right}
use Rattle.trace_law.proofs.OfferLemmas.{chosen_yes, chosen_no}
use Rattle.frame_law.specs.Executable.{executable_at, executable_among}
use Rattle.frame_law.specs.Way.{AreUnpicked, AreUnpickedAll}
use Rattle.frame_law.proofs.OutsideLemmas.{yes_left, yes_right, across_back}
use Rattle.frame_law.proofs.AlongLemmas.{not_in}

-- at each node of e, or of these elements
abbrev pub AtNodes : (ℕ → Cell) → Exec → Type 0
AtNodes c e = (n : ℕ) → has (nodes e) n ≡ true → executable_at e n ≡ NonSeq n None_left → c n ≡ Picked []

abbrev AtNodesAll : (ℕ → Cell) → Execs → Type 0
AtNodesAll c es = (n : ℕ) → has (nodes_all es) n ≡ true → executable_among es n ≡ NonSeq n None_left → c n ≡ Picked []

own_none : (c : ℕ → Cell) (n : ℕ) → AtNodes c (NonSeq n None_left) → c n ≡ Picked []
own_none c n h = h n (here n n [] refl) (chosen_yes (n == n) _ _ (let e : (n == n) ≡ true = grind (arith, nat_tests) in e))

of_first : (c : ℕ → Cell) (e : Exec) (es : Execs) → AtNodesAll c (Then e es) → AtNodes c e
of_first c e es h = λ n i g. h n (yes_left (nodes e) (nodes_all es) n i) (chosen_yes (has (nodes e) n) _ _ i ∙ g)

of_rest : (c : ℕ → Cell) (e : Exec) (es : Execs) → AreDistinct (nodes e ++ nodes_all es) → AtNodesAll c (Then e es) → AtNodesAll c es
of_rest c e es d h = λ n i g. h n (yes_right (nodes e) (nodes_all es) n i) (chosen_no (has (nodes e) n) _ _ (across_back (nodes e) (nodes_all es) n d i) ∙ g)

other : (n q : ℕ) (ns : List ℕ) → AreDistinct (n ∷ ns) → has ns q ≡ true → (n == q) ≡ false
other n q ns d h = not_in n q ns d.0 h

of_yes : (c : ℕ → Cell) (n : ℕ) (a b : Exec) → AreDistinct (nodes (If n a b)) → AtNodes c (If n a b) → AtNodes c a
of_yes c n a b d h = λ q i g.
    let j : has (nodes a ++ nodes b) q ≡ true = yes_left (nodes a) (nodes b) q i in
    h q (yes_right (n ∷ []) (nodes a ++ nodes b) q j) (chosen_no (n == q) _ _ (other n q (nodes a ++ nodes b) d j) ∙ (chosen_yes (has (nodes a) q) _ _ i ∙ g))

of_no : (c : ℕ → Cell) (n : ℕ) (a b : Exec) → AreDistinct (nodes (If n a b)) → AtNodes c (If n a b) → AtNodes c b
of_no c n a b d h = λ q i g.
    let j : has (nodes a ++ nodes b) q ≡ true = yes_right (nodes a) (nodes b) q i in
    h q (yes_right (n ∷ []) (nodes a ++ nodes b) q j)
    (chosen_no (n == q) _ _ (other n q (nodes a ++ nodes b) d j) ∙ (chosen_no (has (nodes a) q) _ _ (across_back (nodes a) (nodes b) q d.1 i) ∙ g))

mutual
  pub unpicked_by_node : (c : ℕ → Cell) (e : Exec) → AreDistinct (nodes e) → AtNodes c e → AreUnpicked c e
  unpicked_by_node c (Work n) d h = tt
  unpicked_by_node c (Leaf n k) d h = tt
  unpicked_by_node c (Plan n es) d h =
      unpicked_among c es (distinct_right (number_or_none n) (nodes_all es) d)
      (λ q i g. h q (yes_right (number_or_none n) (nodes_all es) q i) (chosen_no (has (number_or_none n) q) _ _ (across_back (number_or_none n) (nodes_all es) q d i) ∙ g))
  unpicked_by_node c (Par n es) d h =
      unpicked_among c es d.1 (λ q i g. h q (yes_right (n ∷ []) (nodes_all es) q i) (chosen_no (n == q) _ _ (other n q (nodes_all es) d i) ∙ g))
  unpicked_by_node c (NonSeq n None_left) d h = own_none c n h
  unpicked_by_node c (NonSeq n (Then e es)) d h =
      unpicked_among c (Then e es) d.1 (λ q i g. h q (yes_right (n ∷ []) (nodes_all (Then e es)) q i) (chosen_no (n == q) _ _ (other n q (nodes_all (Then e es)) d i) ∙ g))
  unpicked_by_node c (Sel n es) d h =
      unpicked_among c es d.1 (λ q i g. h q (yes_right (n ∷ []) (nodes_all es) q i) (chosen_no (n == q) _ _ (other n q (nodes_all es) d i) ∙ g))
  unpicked_by_node c (If n a b) d h =
      (unpicked_by_node c a (distinct_left (nodes a) (nodes b) d.1) (of_yes c n a b d h), unpicked_by_node c b (distinct_right (nodes a) (nodes b) d.1) (of_no c n a b d h))
  unpicked_by_node c (While n a) d h =
      unpicked_by_node c a d.1 (λ q i g. h q (yes_right (n ∷ []) (nodes a) q i) (chosen_no (n == q) _ _ (other n q (nodes a) d i) ∙ g))

  unpicked_among : (c : ℕ → Cell) (es : Execs) → AreDistinct (nodes_all es) → AtNodesAll c es → AreUnpickedAll c es
  unpicked_among c None_left d h = tt
  unpicked_among c (Then e es) d h =
      (unpicked_by_node c e (distinct_left (nodes e) (nodes_all es) d) (of_first c e es h), unpicked_among c es (distinct_right (nodes e) (nodes_all es) d) (of_rest c e es d h))

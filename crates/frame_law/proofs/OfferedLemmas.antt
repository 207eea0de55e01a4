-- What a node of a tree does next is told by the executable at the node.
use Rattle.std.specs.Prelude.{◌≡◌, ◌==◌, ◌||◌, if◌then◌else◌, ℕ, Bool, true, false, List, ◌++◌, Option}
use Rattle.std.proofs.Common.{refl, sym, ◌∙◌}
use Rattle.exec_tree.specs.Exec.{Exec, Work, Leaf, Plan, Par, NonSeq, Sel, If, While, Execs, None_left, Then, nodes, nodes_all, has, number_or_none}
use Rattle.trace_law.specs.Cells.{Cell}
use Rattle.trace_law.specs.Offer.{Offer, offer_of_two, offer_by, offer_by_among}
use Rattle.trace_law.proofs.StepLemmas.{has-append}
use Rattle.trace_law.proofs.OfferLemmas.{chosen_no}
use Rattle.frame_law.specs.Executable.{executable_at, executable_among}

either_rest : (a b : Bool) → (a || b) ≡ true → a ≡ false → b ≡ true
either_rest true b h o = absurd (cc)
either_rest false b h o = h

pub in_rest : (ms ns : List ℕ) (m : ℕ) → has (ms ++ ns) m ≡ true → has ms m ≡ false → has ns m ≡ true
in_rest ms ns m h o = either_rest (has ms m) (has ns m) (sym (has-append ms ns m) ∙ h) o

plan_offered : (c : ℕ → Cell) (n : Option ℕ) (es : Execs) (m : ℕ) (b : Bool) → has (number_or_none n) m ≡ b → (b ≡ false → offer_by_among c es m ≡ offer_by c (executable_among es m) m) → offer_by_among c es m ≡ offer_by c (if b then Plan n es else executable_among es m) m
plan_offered c n es m true e rec = refl
plan_offered c n es m false e rec = rec refl

par_offered : (c : ℕ → Cell) (n : ℕ) (es : Execs) (m : ℕ) (b : Bool) → (b ≡ false → offer_by_among c es m ≡ offer_by c (executable_among es m) m) → offer_by_among c es m ≡ offer_by c (if b then Par n es else executable_among es m) m
par_offered c n es m true rec = refl
par_offered c n es m false rec = rec refl

-- o is what the executable e itself does, and p what those within do
own_offered : (c : ℕ → Cell) (e f : Exec) (o p : Offer) (n m : ℕ) (b : Bool) → (n == m) ≡ b → offer_by c e m ≡ (if n == m then o else p) → ((n == m) ≡ false → p ≡ offer_by c f m) → offer_by c e m ≡ offer_by c (if b then e else f) m
own_offered c e f o p n m true h g rec = refl
own_offered c e f o p n m false h g rec = g ∙ (chosen_no (n == m) o p h ∙ rec h)

branch_offered : (c : ℕ → Cell) (a b : Exec) (m : ℕ) (first second : Bool) → has (nodes b) m ≡ second → (first ≡ false → second ≡ true) → (first ≡ true → offer_by c a m ≡ offer_by c (executable_at a m) m) → (second ≡ true → offer_by c b m ≡ offer_by c (executable_at b m) m) → offer_of_two first second (offer_by c a m) (offer_by c b m) ≡ offer_by c (if first then executable_at a m else executable_at b m) m
branch_offered c a b m true second e h rec1 rec2 = rec1 refl
branch_offered c a b m false true e h rec1 rec2 = rec2 refl
branch_offered c a b m false false e h rec1 rec2 = absurd (let z : false ≡ true = h refl in cc)

one_offered : (c : ℕ → Cell) (e : Exec) (es : Execs) (m : ℕ) (b : Bool) → (b ≡ true → offer_by c e m ≡ offer_by c (executable_at e m) m) → (b ≡ false → offer_by_among c es m ≡ offer_by c (executable_among es m) m) → (if b then offer_by c e m else offer_by_among c es m) ≡ offer_by c (if b then executable_at e m else executable_among es m) m
one_offered c e es m true first rest = first refl
one_offered c e es m false first rest = rest refl

mutual
  pub offered_at : (c : ℕ → Cell) (e : Exec) (m : ℕ) → has (nodes e) m ≡ true → offer_by c e m ≡ offer_by c (executable_at e m) m
  offered_at c (Work n) m h = refl
  offered_at c (Leaf n k) m h = refl
  offered_at c (Plan n es) m h = plan_offered c n es m (has (number_or_none n) m) refl (λ o. offered_among c es m (in_rest (number_or_none n) (nodes_all es) m h o))
  offered_at c (Par n es) m h = par_offered c n es m (n == m) (λ o. offered_among c es m (either_rest (n == m) (has (nodes_all es) m) h o))
  offered_at c (NonSeq n es) m h = own_offered c (NonSeq n es) (executable_among es m) _ _ n m (n == m) refl refl (λ o. offered_among c es m (either_rest (n == m) (has (nodes_all es) m) h o))
  offered_at c (Sel n es) m h = own_offered c (Sel n es) (executable_among es m) _ _ n m (n == m) refl refl (λ o. offered_among c es m (either_rest (n == m) (has (nodes_all es) m) h o))
  offered_at c (If n a b) m h =
      own_offered c (If n a b) (if has (nodes a) m then executable_at a m else executable_at b m) _ _ n m (n == m) refl refl
      (λ o.
      let i : has (nodes a ++ nodes b) m ≡ true = either_rest (n == m) (has (nodes a ++ nodes b) m) h o in
      branch_offered c a b m (has (nodes a) m) (has (nodes b) m) refl (λ r. in_rest (nodes a) (nodes b) m i r) (λ r. offered_at c a m r) (λ r. offered_at c b m r))
  offered_at c (While n a) m h = own_offered c (While n a) (executable_at a m) _ _ n m (n == m) refl refl (λ o. offered_at c a m (either_rest (n == m) (has (nodes a) m) h o))

  pub offered_among : (c : ℕ → Cell) (es : Execs) (m : ℕ) → has (nodes_all es) m ≡ true → offer_by_among c es m ≡ offer_by c (executable_among es m) m
  offered_among c None_left m h = absurd (cc)
  offered_among c (Then e es) m h = one_offered c e es m (has (nodes e) m) (λ r. offered_at c e m r) (λ r. offered_among c es m (in_rest (nodes e) (nodes_all es) m h r))

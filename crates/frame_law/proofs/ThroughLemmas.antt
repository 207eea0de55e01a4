-- What is found within an executable of the tree is what is found in the tree, and the way up from it leads through that executable.
use Rattle.std.specs.Prelude.{◌≡◌, ◌==◌, if◌then◌else◌, ℕ, Bool, true, false, [], ◌++◌}
use Rattle.std.proofs.Common.{refl, ◌∙◌, subst}
use Rattle.exec_tree.specs.Exec.{Exec, Work, Leaf, Plan, Par, NonSeq, Sel, If, While, Execs, None_left, Then, nodes, nodes_all, has, number_or_none, count, AreDistinct}
use Rattle.trace_law.specs.Next.{next_in_order}
use Rattle.trace_law.specs.Frames.{is_shared}
use Rattle.trace_law.proofs.StepLemmas.{distinct_left, distinct_right}
use Rattle.trace_law.proofs.ContinueLemmas.{clash}
use Rattle.trace_law.proofs.OfferLemmas.{chosen_yes, chosen_no}
use Rattle.frame_law.specs.Executable.{executable_at, executable_among}
use Rattle.frame_law.specs.Onward.{Onward, PicksOn, TestsAgain, opened_or, joined_or, onward, onward_in_order, onward_among}
use Rattle.frame_law.proofs.OutsideLemmas.{yes_left, yes_right, found_within, found_among, across_back}
use Rattle.frame_law.proofs.AlongLemmas.{not_in}

-- g and j are what is found, and the way, of node m within f, from which the way leads on at i
abbrev Through : Exec → Exec → Onward → Onward → ℕ → Type 0
Through g f j i m = (g ≡ executable_at f m) × (j ≡ onward f i m)

not_false : (b : Bool) → (b ≡ false → ⊥) → b ≡ true
not_false true h = refl
not_false false h = absurd (h refl)

in_found : (e : Exec) (n m : ℕ) → has (nodes (executable_at e n)) m ≡ true → has (nodes e) m ≡ true
in_found e n m h = not_false (has (nodes e) m) (λ f. clash (has (nodes (executable_at e n)) m) h (found_within e n m f))

in_found_among : (es : Execs) (n m : ℕ) → has (nodes (executable_among es n)) m ≡ true → has (nodes_all es) m ≡ true
in_found_among es n m h = not_false (has (nodes_all es) m) (λ f. clash (has (nodes (executable_among es n)) m) h (found_among es n m f))

in_rest : (b : Bool) (e f : Exec) (m : ℕ) → b ≡ false → has (nodes (if b then e else f)) m ≡ true → has (nodes f) m ≡ true
in_rest b e f m o h = subst (λ (g : Exec). has (nodes g) m ≡ true) (chosen_no b e f o) h

in_first : (b : Bool) (e f : Exec) (m : ℕ) → b ≡ true → has (nodes (if b then e else f)) m ≡ true → has (nodes e) m ≡ true
in_first b e f m o h = subst (λ (g : Exec). has (nodes g) m ≡ true) (chosen_yes b e f o) h

-- node n is e itself, or within
own_through : (e : Exec) (k : Onward) (m : ℕ) (of_n of_m : Bool) (f g : Exec) (i j : Onward) → executable_at e m ≡ (if of_m then e else g) → onward e k m ≡ (if of_m then k else j) → (of_n ≡ false → (of_m ≡ false) × Through g f j i m) → Through (executable_at e m) (if of_n then e else f) (onward e k m) (if of_n then k else i) m
own_through e k m true of_m f g i j p q h = (refl, refl)
own_through e k m false of_m f g i j p q h =
    let z = h refl in
    (p ∙ (chosen_no of_m e g z.0 ∙ z.1.0), q ∙ (chosen_no of_m k j z.0 ∙ z.1.1))

-- nodes n and m are both of the first, or both of the rest
both_through : (m : ℕ) (of_n of_m : Bool) (f1 f2 g1 g2 : Exec) (i1 i2 j1 j2 : Onward) → (of_n ≡ true → (of_m ≡ true) × Through g1 f1 j1 i1 m) → (of_n ≡ false → (of_m ≡ false) × Through g2 f2 j2 i2 m) → Through (if of_m then g1 else g2) (if of_n then f1 else f2) (if of_m then j1 else j2) (if of_n then i1 else i2) m
both_through m true of_m f1 f2 g1 g2 i1 i2 j1 j2 h l = let z = h refl in (chosen_yes of_m g1 g2 z.0 ∙ z.1.0, chosen_yes of_m j1 j2 z.0 ∙ z.1.1)
both_through m false of_m f1 f2 g1 g2 i1 i2 j1 j2 h l = let z = l refl in (chosen_no of_m g1 g2 z.0 ∙ z.1.0, chosen_no of_m j1 j2 z.0 ∙ z.1.1)

in_branches : (x y : Exec) (n m : ℕ) (b : Bool) → has (nodes (if b then executable_at x n else executable_at y n)) m ≡ true → has (nodes x ++ nodes y) m ≡ true
in_branches x y n m true h = yes_left (nodes x) (nodes y) m (in_found x n m h)
in_branches x y n m false h = yes_right (nodes x) (nodes y) m (in_found y n m h)

mutual
  pub through : (e : Exec) (k : Onward) (n m : ℕ) → AreDistinct (nodes e) → has (nodes (executable_at e n)) m ≡ true → (executable_at e m ≡ executable_at (executable_at e n) m) × (onward e k m ≡ onward (executable_at e n) (onward e k n) m)
  through (Work a) k n m d h = (refl, refl)
  through (Leaf a l) k n m d h = (refl, refl)
  through (Plan a es) k n m d h =
      own_through (Plan a es) k m (has (number_or_none a) n) (has (number_or_none a) m) (executable_among es n) (executable_among es m) (onward_in_order es k n) (onward_in_order es k m) refl refl
      (λ o.
      let i = in_rest (has (number_or_none a) n) (Plan a es) (executable_among es n) m o h in
      (across_back (number_or_none a) (nodes_all es) m d (in_found_among es n m i), through_in_order es k n m (distinct_right (number_or_none a) (nodes_all es) d) i))
  through (Par a es) k n m d h =
      let j : Onward = joined_or (is_shared es) a k in
      own_through (Par a es) k m (a == n) (a == m) (executable_among es n) (executable_among es m) (onward_among es j n) (onward_among es j m) refl refl
      (λ o.
      let i = in_rest (a == n) (Par a es) (executable_among es n) m o h in
      (not_in a m (nodes_all es) d.0 (in_found_among es n m i), through_among es j n m d.1 i))
  through (NonSeq a es) k n m d h =
      let j : Onward = PicksOn a (count es) k in
      own_through (NonSeq a es) k m (a == n) (a == m) (executable_among es n) (executable_among es m) (onward_among es j n) (onward_among es j m) refl refl
      (λ o.
      let i = in_rest (a == n) (NonSeq a es) (executable_among es n) m o h in
      (not_in a m (nodes_all es) d.0 (in_found_among es n m i), through_among es j n m d.1 i))
  through (Sel a es) k n m d h =
      own_through (Sel a es) k m (a == n) (a == m) (executable_among es n) (executable_among es m) (onward_among es k n) (onward_among es k m) refl refl
      (λ o.
      let i = in_rest (a == n) (Sel a es) (executable_among es n) m o h in
      (not_in a m (nodes_all es) d.0 (in_found_among es n m i), through_among es k n m d.1 i))
  through (If a x y) k n m d h =
      let f : ℕ → Exec = λ q. if has (nodes x) q then executable_at x q else executable_at y q in
      let j : ℕ → Onward = λ q. if has (nodes x) q then onward x k q else onward y k q in
      own_through (If a x y) k m (a == n) (a == m) (f n) (f m) (j n) (j m) refl refl
      (λ o.
      let i : has (nodes (f n)) m ≡ true = in_rest (a == n) (If a x y) (f n) m o h in
      let first : has (nodes x) n ≡ true → (has (nodes x) m ≡ true) × Through (executable_at x m) (executable_at x n) (onward x k m) (onward x k n) m =
      λ r. let z = in_first (has (nodes x) n) (executable_at x n) (executable_at y n) m r i in (in_found x n m z, through x k n m (distinct_left (nodes x) (nodes y) d.1) z) in
      let second : has (nodes x) n ≡ false → (has (nodes x) m ≡ false) × Through (executable_at y m) (executable_at y n) (onward y k m) (onward y k n) m =
      λ r. let z = in_rest (has (nodes x) n) (executable_at x n) (executable_at y n) m r i in (across_back (nodes x) (nodes y) m d.1 (in_found y n m z), through y k n m (distinct_right (nodes x) (nodes y) d.1) z) in (
        not_in a m (nodes x ++ nodes y) d.0 (in_branches x y n m (has (nodes x) n) i),
        both_through m (has (nodes x) n) (has (nodes x) m) (executable_at x n) (executable_at y n) (executable_at x m) (executable_at y m) (onward x k n) (onward y k n) (onward x k m) (onward y k m) first second,
      ))
  through (While a x) k n m d h =
      own_through (While a x) k m (a == n) (a == m) (executable_at x n) (executable_at x m) (onward x (TestsAgain a) n) (onward x (TestsAgain a) m) refl refl
      (λ o.
      let i = in_rest (a == n) (While a x) (executable_at x n) m o h in
      (not_in a m (nodes x) d.0 (in_found x n m i), through x (TestsAgain a) n m d.1 i))

  through_in_order : (es : Execs) (k : Onward) (n m : ℕ) → AreDistinct (nodes_all es) → has (nodes (executable_among es n)) m ≡ true → Through (executable_among es m) (executable_among es n) (onward_in_order es k m) (onward_in_order es k n) m
  through_in_order None_left k n m d h = absurd (cc)
  through_in_order (Then e es) k n m d h =
      let j : Onward = opened_or (next_in_order es []) es k in
      both_through m (has (nodes e) n) (has (nodes e) m) (executable_at e n) (executable_among es n) (executable_at e m) (executable_among es m) (onward e j n) (onward_in_order es k n) (onward e j m) (onward_in_order es k m)
      (λ r. let i = in_first (has (nodes e) n) (executable_at e n) (executable_among es n) m r h in (in_found e n m i, through e j n m (distinct_left (nodes e) (nodes_all es) d) i))
      (λ r. let i = in_rest (has (nodes e) n) (executable_at e n) (executable_among es n) m r h in
      (across_back (nodes e) (nodes_all es) m d (in_found_among es n m i), through_in_order es k n m (distinct_right (nodes e) (nodes_all es) d) i))

  through_among : (es : Execs) (k : Onward) (n m : ℕ) → AreDistinct (nodes_all es) → has (nodes (executable_among es n)) m ≡ true → Through (executable_among es m) (executable_among es n) (onward_among es k m) (onward_among es k n) m
  through_among None_left k n m d h = absurd (cc)
  through_among (Then e es) k n m d h =
      both_through m (has (nodes e) n) (has (nodes e) m) (executable_at e n) (executable_among es n) (executable_at e m) (executable_among es m) (onward e k n) (onward_among es k n) (onward e k m) (onward_among es k m)
      (λ r. let i = in_first (has (nodes e) n) (executable_at e n) (executable_among es n) m r h in (in_found e n m i, through e k n m (distinct_left (nodes e) (nodes_all es) d) i))
      (λ r. let i = in_rest (has (nodes e) n) (executable_at e n) (executable_among es n) m r h in
      (across_back (nodes e) (nodes_all es) m d (in_found_among es n m i), through_among es k n m (distinct_right (nodes e) (nodes_all es) d) i))

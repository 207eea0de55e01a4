-- From an element of a non-sequential, a selective, an if or a while to the whole of it.
use Rattle.std.specs.Prelude.{◌≡◌, ◌==◌, if◌then◌else◌, ℕ, Bool, true, false, List, [], ◌∷◌, ◌++◌, length, Option, Some, None, IsSomeAnd}
use Rattle.std.proofs.Common.{refl, sym, ◌∙◌, ap, subst, inl, inr}
use Rattle.std.specs.List.{cons_option}
use Rattle.exec_tree.specs.Exec.{Exec, NonSeq, Sel, If, While, Execs, nodes, nodes_all, has, count}
use Rattle.trace_law.specs.Of.{number_of, is_of, only}
use Rattle.trace_law.specs.Own.{picks, pick_of, test_of, Turn, Tested, turns}
use Rattle.trace_law.specs.Elements.{nodes_at, part_at}
use Rattle.trace_law.specs.Part.{LastMayBeCut, IsLoopSoFar, Part, PartAt}
use Rattle.trace_law.specs.Whole.{Answered, Whole}
use Rattle.trace_law.specs.Step.{IsTest, AtLast, StepLoop, Step, StepAt}
use Rattle.trace_law.specs.Next.{first_of_two, next_of_last}
use Rattle.trace_law.specs.Cells.{Cell, Picked, AnsweredBy, last_answer, last_body, answer, picked, after_picks, after_answer, next_by, next_by_at}
use Rattle.trace_law.specs.Frames.{OfFirst, OfLast, OfBranch, Stands, StandsAt, Goes, GoesOne}
use Rattle.run_log.specs.declared.entry.Entry.{Entry}
use Rattle.trace_law.proofs.StepLemmas.{Apart, not_of_left, not_of_right}
use Rattle.trace_law.proofs.StepForthLemmas.{at_outside, pick_is}
use Rattle.trace_law.proofs.StepBackLemmas.{part_inside, part_inside_at, step_inside, part_of_step}
use Rattle.trace_law.proofs.ContinueLemmas.{clash}
use Rattle.trace_law.proofs.StayLemmas.{not_true}
use Rattle.trace_law.proofs.CellNextLemmas.{only_rest}
use Rattle.trace_law.proofs.FrameMoveLemmas.{test_out}
use Rattle.frame_law.specs.Onward.{Onward}
use Rattle.frame_law.proofs.OutsideLemmas.{not_rest, has_number}
use Rattle.frame_law.proofs.ReachLemmas.{Reaches, reaches_wider, body_reaches, where_none}

-- ---- the element that was picked last

pub last_is : (whole part said step : ℕ → Type 0) (G : Type 0) (ks : List ℕ) → ((k : ℕ) → part k → said k → step k → ((f : ℕ → List ℕ) → next_of_last f ks ≡ f k) → G) → LastMayBeCut whole part ks → OfLast said ks → AtLast step ks → G
last_is whole part said step G [] h p s q = absurd q
last_is whole part said step G (k ∷ []) h p s q = h k p s q (λ f. refl)
last_is whole part said step G (k ∷ j ∷ ks) h p s q = last_is whole part said step G (j ∷ ks) h p.1 s q

pub picked_next : (c c' : ℕ → Cell) (n : ℕ) (es : Execs) (ks : List ℕ) (l : List ℕ) → c' n ≡ c n → c n ≡ Picked ks → next_of_last (λ k. next_by_at c' es k) ks ≡ l → next_by c' (NonSeq n es) ≡ first_of_two l (if length (picked (c n)) == count es then [] else n ∷ [])
picked_next c c' n es ks l same s e =
    let f : ℕ → List ℕ = λ k. next_by_at c' es k in
    ap (λ (w : Cell). first_of_two (next_of_last f (picked w)) (if length (picked w) == count es then [] else n ∷ [])) same
    ∙ ap (λ (z : List ℕ). first_of_two z (if length (picked (c n)) == count es then [] else n ∷ [])) (ap (λ (w : Cell). next_of_last f (picked w)) s ∙ e)

-- ---- the element that a selective took

pub sel_later : (c c' : ℕ → Cell) (n : ℕ) (es : Execs) (y : Entry) (t : List Entry) (x : Entry) (k : Onward) → has (nodes_all es) n ≡ false → ((i : ℕ) → PartAt es i t → StepAt es i t x → StandsAt c es i t → GoesOne c es x c' × Reaches c c' (next_by_at c' es i) (nodes_all es) k) → c' n ≡ c n → pick_of n x ≡ None → (o : Option ℕ) → pick_of n y ≡ o → IsSomeAnd o (λ i. PartAt es i t) → IsSomeAnd o (λ i. StepAt es i t x) → c n ≡ Picked (cons_option o (picks n t)) → OfFirst (λ i. StandsAt c es i (part_at es i (y ∷ t))) (cons_option o (picks n t)) → Goes c (Sel n es) x c' × Reaches c c' (next_by c' (Sel n es)) (n ∷ nodes_all es) k
sel_later c c' n es y t x k own rec same none None e p q cell s = absurd p
sel_later c c' n es y t x k own rec same none (Some i) e p q cell s =
    let gone : is_of (nodes_at es i) y ≡ false = at_outside es i y (subst (λ (w : Entry). is_of (nodes_all es) w ≡ false) (sym (pick_is n y i e)) own) in
    let z = rec i p q (subst (StandsAt c es i) (only_rest (nodes_at es i) y t gone (part_inside_at es i t p)) s) in
    let on : next_by c' (Sel n es) ≡ next_by_at c' es i = ap (λ (w : Cell). after_picks n (picked w) (λ j. next_by_at c' es j)) (same ∙ cell) in (
      where_none (pick_of n x) _ _ none (same, z.0),
      subst (λ (l : List ℕ). Reaches c c' l (n ∷ nodes_all es) k) (sym on) (reaches_wider c c' (next_by_at c' es i) (nodes_all es) (n ∷ nodes_all es) k (λ q h. not_rest n (nodes_all es) q h) z.1),
    )

-- ---- the branch of an if

pub branch_later : (c c' : ℕ → Cell) (n : ℕ) (a b : Exec) (y : Entry) (t : List Entry) (x : Entry) (m : ℕ) (k : Onward) → number_of x ≡ Some m → has (nodes a ++ nodes b) n ≡ false → Apart a → Apart b → ((z : Entry) → is_of (nodes a) z ≡ true → is_of (nodes b) z ≡ false) → (has (nodes a) m ≡ true → Part a t → Step a t x → Stands c a t → Goes c a x c' × Reaches c c' (next_by c' a) (nodes a ++ nodes b) k) → (has (nodes a) m ≡ false → Part b t → Step b t x → Stands c b t → Goes c b x c' × Reaches c c' (next_by c' b) (nodes a ++ nodes b) k) → c' n ≡ c n → test_of n x ≡ None → (o : Option Bool) → test_of n y ≡ o → IsSomeAnd o (λ z. Answered (λ u. Part a u) (λ u. Part b u) z t) → IsSomeAnd o (λ z. Answered (λ u. Step a u x) (λ u. Step b u x) z t) → c n ≡ AnsweredBy o → OfBranch o (Stands c a (only (nodes a) (y ∷ t))) (Stands c b (only (nodes b) (y ∷ t))) → Goes c (If n a b) x c' × Reaches c c' (next_by c' (If n a b)) (n ∷ (nodes a ++ nodes b)) k
branch_later c c' n a b y t x m k num own da db across rec1 rec2 same none None e p q cell s = absurd p
branch_later c c' n a b y t x m k num own da db across rec1 rec2 same none (Some true) e p q cell s =
    let inside : is_of (nodes a) x ≡ true = step_inside a t x (part_of_step a t x da p q) in
    let gone : is_of (nodes a) y ≡ false = not_of_left (nodes a) (nodes b) y (test_out n _ y true own e) in
    let z = rec1 (has_number (nodes a) x m true num inside) p q (subst (Stands c a) (only_rest (nodes a) y t gone (part_inside a t p)) s) in
    let on : next_by c' (If n a b) ≡ next_by c' a = ap (λ (w : Cell). after_answer n (answer w) (next_by c' a) (next_by c' b)) (same ∙ cell) in (
      where_none (test_of n x) _ _ none (same, rw inside z.0),
      subst (λ (l : List ℕ). Reaches c c' l (n ∷ (nodes a ++ nodes b)) k) (sym on)
          (reaches_wider c c' (next_by c' a) (nodes a ++ nodes b) (n ∷ (nodes a ++ nodes b)) k (λ q h. not_rest n (nodes a ++ nodes b) q h) z.1),
    )
branch_later c c' n a b y t x m k num own da db across rec1 rec2 same none (Some false) e p q cell s =
    let inside : is_of (nodes b) x ≡ true = step_inside b t x (part_of_step b t x db p q) in
    let outside : is_of (nodes a) x ≡ false = not_true (is_of (nodes a) x) (λ f. clash _ inside (across x f)) in
    let gone : is_of (nodes b) y ≡ false = not_of_right (nodes a) (nodes b) y (test_out n _ y false own e) in
    let z = rec2 (has_number (nodes a) x m false num outside) p q (subst (Stands c b) (only_rest (nodes b) y t gone (part_inside b t p)) s) in
    let on : next_by c' (If n a b) ≡ next_by c' b = ap (λ (w : Cell). after_answer n (answer w) (next_by c' a) (next_by c' b)) (same ∙ cell) in (
      where_none (test_of n x) _ _ none (same, rw outside z.0),
      subst (λ (l : List ℕ). Reaches c c' l (n ∷ (nodes a ++ nodes b)) k) (sym on)
          (reaches_wider c c' (next_by c' b) (nodes a ++ nodes b) (n ∷ (nodes a ++ nodes b)) k (λ q h. not_rest n (nodes a ++ nodes b) q h) z.1),
    )

-- ---- the body of a while, in its last turn

loop_is : (whole part step said : List Entry → Type 0) (test : Type 0) (G : Type 0) (ts : List Turn) → (test → ⊥) → ((u : List Entry) → part u → step u → said u → last_answer ts ≡ Some true → G) → IsLoopSoFar whole part ts → StepLoop test whole step ts → OfBranch (last_answer ts) (said (last_body ts)) (Unit {0}) → G
loop_is whole part step said test G [] f h p q s = absurd (f q)
loop_is whole part step said test G (Tested true t ∷ []) f h p (inl q) s = absurd (f q.0)
loop_is whole part step said test G (Tested true t ∷ []) f h p (inr q) s = h t p q s refl
loop_is whole part step said test G (Tested false t ∷ []) f h p q s = absurd q
loop_is whole part step said test G (Tested true t ∷ r ∷ rest) f h p q s = loop_is whole part step said test G (r ∷ rest) f h p.1 q s
loop_is whole part step said test G (Tested false t ∷ r ∷ rest) f h p q s = absurd p

pub body_later : (c c' : ℕ → Cell) (n : ℕ) (a : Exec) (t : List Entry) (x : Entry) (k : Onward) → (IsTest n x → ⊥) → ((u : List Entry) → Part a u → Step a u x → Stands c a u → Goes c a x c') → ((q : ℕ) → has (nodes a) q ≡ false → c' q ≡ c q) → c' n ≡ c n → test_of n x ≡ None → IsLoopSoFar (λ u. Whole a u) (λ u. Part a u) (turns n t) → StepLoop (IsTest n x) (λ u. Whole a u) (λ u. Step a u x) (turns n t) → c n ≡ AnsweredBy (last_answer (turns n t)) → OfBranch (last_answer (turns n t)) (Stands c a (last_body (turns n t))) (Unit {0}) → Goes c (While n a) x c' × Reaches c c' (next_by c' (While n a)) (n ∷ nodes a) k
body_later c c' n a t x k f rec kept same none p q cell s =
    loop_is (λ u. Whole a u) (λ u. Part a u) (λ u. Step a u x) (λ u. Stands c a u) (IsTest n x) _ (turns n t) f
    (λ u i j l ans.
    let z = rec u i j l in
    let on : next_by c' (While n a) ≡ first_of_two (next_by c' a) (n ∷ []) = ap (λ (w : Cell). after_answer n (answer w) (first_of_two (next_by c' a) (n ∷ [])) []) (same ∙ (cell ∙ ap AnsweredBy ans)) in
    (where_none (test_of n x) _ _ none (same, z), subst (λ (l : List ℕ). Reaches c c' l (n ∷ nodes a) k) (sym on) (body_reaches c c' n (nodes a) k (next_by c' a) kept))) p q s

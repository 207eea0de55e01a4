-- What is written at an entry's own node, for each kind of node.
use Rattle.std.specs.Prelude.{◌≡◌, ◌==◌, ◌+◌, if◌then◌else◌, ℕ, zero, suc, Bool, true, false, List, [], ◌∷◌, ◌++◌, length, Option, Some, None}
use Rattle.std.proofs.Common.{refl, sym, ◌∙◌, ap, subst}
use Rattle.std.proofs.lemmas.Bool.Decides.{nat_tests}
use Rattle.std.proofs.Common.{arith}
use Rattle.exec_tree.specs.Exec.{LeafKind, Exec, Work, Leaf, NonSeq, Sel, If, While, Execs, None_left, Then, nodes, nodes_all, has, count}
use Rattle.trace_law.specs.Own.{pick_of, test_of}
use Rattle.trace_law.specs.Next.{first_of_two, next_of_last, next, next_at}
use Rattle.trace_law.specs.State.{stage_step}
use Rattle.trace_law.specs.Cells.{Cell, Cutting, Over, Picked, AnsweredBy, cell_of_stage, stage_of, if_going, picked, answer, after_picks, after_answer, next_by, next_by_at, work_after, WhereSome}
use Rattle.trace_law.specs.Frames.{OfBranch, Stands, StandsAt, Goes}
use Rattle.trace_law.specs.Coming.{if_some, came}
use Rattle.run_log.specs.declared.entry.Entry.{Entry}
use Rattle.run_log.specs.declared.entry.Entry.TheVariants.{Pick, Test}
use Rattle.trace_law.proofs.WholeNextLemmas.{first_empty_left, first_empty_right, all_picked, none_left}
use Rattle.trace_law.proofs.StepLemmas.{ApartAll, Apart}
use Rattle.trace_law.proofs.StepForthLemmas.{pick_of_pick}
use Rattle.trace_law.proofs.StepBackLemmas.{part_nil}
use Rattle.trace_law.proofs.FrameNextLemmas.{next_from_frames}
use Rattle.trace_law.proofs.ArriveLemmas.{of_last_more, length_more}
use Rattle.frame_law.specs.Onward.{Onward}
use Rattle.frame_law.specs.Way.{AreKeptBut, touched, Ran, Writes}
use Rattle.frame_law.proofs.OutsideLemmas.{not_first}
use Rattle.frame_law.proofs.ReachLemmas.{two_some}

-- ---- what is said of a value that is known

where_some : {A : Type 0} (o : Option A) (a : A) (P : A → Type 0) (Q : Type 0) → o ≡ Some a → P a → WhereSome o P Q
where_some o a P Q e p = subst (λ (z : Option _). WhereSome z P Q) (sym e) p

if_some_is : {A : Type 0} (o : Option A) (a : A) (f : A → List ℕ) (l : List ℕ) → o ≡ Some a → if_some o f l ≡ f a
if_some_is o a f l e = ap (λ (z : Option _). if_some z f l) e

neither_of : (n : ℕ) (ns : List ℕ) (q : ℕ) → has (n ∷ []) q ≡ false → has ns q ≡ false → has (n ∷ ns) q ≡ false
neither_of n ns q h i = rw (not_first n [] q h, i) refl

test_of_test : (n : ℕ) (b : Bool) → test_of n (Test n b) ≡ Some b
test_of_test n b = let e : (n == n) ≡ true = grind (arith, nat_tests) in rw e refl

-- ---- how a node goes by itself

pub pick_goes : (c c' : ℕ → Cell) (n : ℕ) (es : Execs) (i : ℕ) → c' n ≡ Picked (picked (c n) ++ i ∷ []) → StandsAt c' es i [] → Goes c (NonSeq n es) (Pick n i) c'
pick_goes c c' n es i s st = where_some (pick_of n (Pick n i)) i _ _ (pick_of_pick n i) (s, st)

pub sel_goes : (c c' : ℕ → Cell) (n : ℕ) (es : Execs) (i : ℕ) → picked (c n) ≡ [] → c' n ≡ Picked (i ∷ []) → StandsAt c' es i [] → Goes c (Sel n es) (Pick n i) c'
sel_goes c c' n es i none s st = where_some (pick_of n (Pick n i)) i _ _ (pick_of_pick n i) (s ∙ sym (ap (λ (ks : List ℕ). Picked (ks ++ i ∷ [])) none), st)

of_branch : (c : ℕ → Cell) (a b : Exec) (ans : Bool) → Stands c (if ans then a else b) [] → OfBranch (Some ans) (Stands c a []) (Stands c b [])
of_branch c a b true st = st
of_branch c a b false st = st

pub branch_goes : (c c' : ℕ → Cell) (n : ℕ) (a b : Exec) (ans : Bool) → c' n ≡ AnsweredBy (Some ans) → Stands c' (if ans then a else b) [] → Goes c (If n a b) (Test n ans) c'
branch_goes c c' n a b ans s st = where_some (test_of n (Test n ans)) ans _ _ (test_of_test n ans) (s, of_branch c' a b ans st)

pub turn_goes : (c c' : ℕ → Cell) (n : ℕ) (a : Exec) → c' n ≡ AnsweredBy (Some true) → Stands c' a [] → Goes c (While n a) (Test n true) c'
turn_goes c c' n a s st = where_some (test_of n (Test n true)) true _ _ (test_of_test n true) (s, st)

pub no_turn_goes : (c c' : ℕ → Cell) (n : ℕ) (a : Exec) → c' n ≡ AnsweredBy (Some false) → Goes c (While n a) (Test n false) c'
no_turn_goes c c' n a s = where_some (test_of n (Test n false)) false _ _ (test_of_test n false) (s, tt)

-- ---- where it goes on then, so whether it is over

pub over_next : (c : ℕ → Cell) (n : ℕ) → c n ≡ Over → next_by c (Work n) ≡ []
over_next c n s = ap (λ (w : Cell). if_going w n) s

pub cutting_next : (c : ℕ → Cell) (n : ℕ) (o : Option ℕ) → c n ≡ Cutting o → next_by c (Work n) ≡ n ∷ []
cutting_next c n o s = ap (λ (w : Cell). if_going w n) s

pub leaf_next : (c : ℕ → Cell) (n : ℕ) (kind : LeafKind) → c n ≡ Over → next_by c (Leaf n kind) ≡ []
leaf_next c n kind s = ap (λ (w : Cell). if_going w n) s

at_opened : (c : ℕ → Cell) (es : Execs) (i : ℕ) → ApartAll es → StandsAt c es i [] → next_by_at c es i ≡ next_at es i []
at_opened c None_left i d s = refl
at_opened c (Then e es) zero d s = sym (next_from_frames c e [] d.0 (part_nil e) s)
at_opened c (Then e es) (suc i) d s = at_opened c es i d.1 s

pub picks_next : (c c' : ℕ → Cell) (n : ℕ) (es : Execs) (i : ℕ) → ApartAll es → c' n ≡ Picked (picked (c n) ++ i ∷ []) → StandsAt c' es i [] → next_by c' (NonSeq n es) ≡ first_of_two (next_at es i []) (if length (picked (c n)) + 1 == count es then [] else n ∷ [])
picks_next c c' n es i d s st =
    let f : ℕ → List ℕ = λ j. next_by_at c' es j in
    let ks : List ℕ = picked (c n) ++ i ∷ [] in
    let rest : ℕ → List ℕ = λ j. if j == count es then [] else n ∷ [] in
    ap (λ (w : Cell). first_of_two (next_of_last f (picked w)) (rest (length (picked w)))) s
    ∙ (ap (λ (l : List ℕ). first_of_two l (rest (length ks))) (of_last_more f (picked (c n)) i ∙ at_opened c' es i d st)
    ∙ ap (λ (j : ℕ). first_of_two (next_at es i []) (rest j)) (length_more (picked (c n)) i))

pub sel_next : (c : ℕ → Cell) (n : ℕ) (es : Execs) (i : ℕ) → ApartAll es → c n ≡ Picked (i ∷ []) → StandsAt c es i [] → next_by c (Sel n es) ≡ next_at es i []
sel_next c n es i d s st = ap (λ (w : Cell). after_picks n (picked w) (λ j. next_by_at c es j)) s ∙ at_opened c es i d st

pub branch_next_by : (c : ℕ → Cell) (n : ℕ) (a b : Exec) (ans : Bool) → Apart a → Apart b → c n ≡ AnsweredBy (Some ans) → Stands c (if ans then a else b) [] → next_by c (If n a b) ≡ next (if ans then a else b) []
branch_next_by c n a b true da db s st = ap (λ (w : Cell). after_answer n (answer w) (next_by c a) (next_by c b)) s ∙ sym (next_from_frames c a [] da (part_nil a) st)
branch_next_by c n a b false da db s st = ap (λ (w : Cell). after_answer n (answer w) (next_by c a) (next_by c b)) s ∙ sym (next_from_frames c b [] db (part_nil b) st)

pub turn_next : (c : ℕ → Cell) (n : ℕ) (a : Exec) → Apart a → c n ≡ AnsweredBy (Some true) → Stands c a [] → next_by c (While n a) ≡ first_of_two (next a []) (n ∷ [])
turn_next c n a d s st =
    ap (λ (w : Cell). after_answer n (answer w) (first_of_two (next_by c a) (n ∷ [])) []) s
    ∙ ap (λ (l : List ℕ). first_of_two l (n ∷ [])) (sym (next_from_frames c a [] d (part_nil a) st))

pub no_turn_next : (c : ℕ → Cell) (n : ℕ) (a : Exec) → c n ≡ AnsweredBy (Some false) → next_by c (While n a) ≡ []
no_turn_next c n a s = ap (λ (w : Cell). after_answer n (answer w) (first_of_two (next_by c a) (n ∷ [])) []) s

-- ---- what is written, where the way up is gone as well

pub low_over : (c : ℕ → Cell) (n : ℕ) (x : Entry) → stage_step n (stage_of (c n)) x ≡ None → work_after n (c n) x ≡ Over
low_over c n x e = ap cell_of_stage e

pub low_on : (c : ℕ → Cell) (n j : ℕ) (x : Entry) → stage_step n (stage_of (c n)) x ≡ Some j → work_after n (c n) x ≡ Cutting (Some j)
low_on c n j x e = ap cell_of_stage e

pub on_writes : (c c' : ℕ → Cell) (n j : ℕ) (x : Entry) (k : Onward) → stage_step n (stage_of (c n)) x ≡ Some j → c' n ≡ Cutting (Some j) → AreKeptBut c c' (n ∷ []) → Writes c (Work n) k x c'
on_writes c c' n j x k e s kept = record {
  goes = s ∙ sym (low_on c n j x e);
  ran = λ g. absurd (let f : n ∷ [] ≡ [] = sym (cutting_next c' n (Some j) s) ∙ g in cc);
  kept = λ q h f. kept q h;
}

pub end_writes : (c c' : ℕ → Cell) (n : ℕ) (x : Entry) (k : Onward) → stage_step n (stage_of (c n)) x ≡ None → c' n ≡ Over → Ran c c' k → AreKeptBut c c' (n ∷ touched c k) → Writes c (Work n) k x c'
end_writes c c' n x k e s ran kept = record {
  goes = s ∙ sym (low_over c n x e);
  ran = λ g. ran;
  kept = λ q h f. kept q (neither_of n (touched c k) q h (f (over_next c' n s)));
}

pub leaf_writes : (c c' : ℕ → Cell) (n : ℕ) (kind : LeafKind) (x : Entry) (k : Onward) → c' n ≡ Over → Ran c c' k → AreKeptBut c c' (n ∷ touched c k) → Writes c (Leaf n kind) k x c'
leaf_writes c c' n kind x k s ran kept = record {
  goes = s;
  ran = λ g. ran;
  kept = λ q h f. kept q (neither_of n (touched c k) q h (f (leaf_next c' n kind s)));
}

pub pick_writes : (c c' : ℕ → Cell) (n : ℕ) (es : Execs) (i : ℕ) (k : Onward) → ApartAll es → c' n ≡ Picked (picked (c n) ++ i ∷ []) → StandsAt c' es i [] → (next_at es i [] ≡ [] → length (picked (c n)) + 1 ≡ count es → Ran c c' k) → ((q : ℕ) → has (n ∷ nodes_all es) q ≡ false → (next_at es i [] ≡ [] → length (picked (c n)) + 1 ≡ count es → has (touched c k) q ≡ false) → c' q ≡ c q) → Writes c (NonSeq n es) k (Pick n i) c'
pick_writes c c' n es i k d s st ran kept =
    let on = picks_next c c' n es i d s st in
    let rest : List ℕ = if length (picked (c n)) + 1 == count es then [] else n ∷ [] in record {
      goes = pick_goes c c' n es i s st;
      ran = λ g. let h : first_of_two (next_at es i []) rest ≡ [] = sym on ∙ g in
          ran (first_empty_left (next_at es i []) rest h) (all_picked n (length (picked (c n)) + 1) (count es) (first_empty_right (next_at es i []) rest h));
      kept = λ q h f. kept q h (λ a b. f (on ∙ (ap (λ (l : List ℕ). first_of_two l rest) a ∙ none_left n (length (picked (c n)) + 1) (count es) b)));
    }

pub sel_writes : (c c' : ℕ → Cell) (n : ℕ) (es : Execs) (i : ℕ) (k : Onward) → ApartAll es → picked (c n) ≡ [] → c' n ≡ Picked (i ∷ []) → StandsAt c' es i [] → (next_at es i [] ≡ [] → Ran c c' k) → ((q : ℕ) → has (n ∷ nodes_all es) q ≡ false → (next_at es i [] ≡ [] → has (touched c k) q ≡ false) → c' q ≡ c q) → Writes c (Sel n es) k (Pick n i) c'
sel_writes c c' n es i k d none s st ran kept =
    let on = sel_next c' n es i d s st in record {
      goes = sel_goes c c' n es i none s st;
      ran = λ g. ran (sym on ∙ g);
      kept = λ q h f. kept q h (λ a. f (on ∙ a));
    }

pub branch_writes : (c c' : ℕ → Cell) (n : ℕ) (a b : Exec) (ans : Bool) (k : Onward) → Apart a → Apart b → c' n ≡ AnsweredBy (Some ans) → Stands c' (if ans then a else b) [] → (next (if ans then a else b) [] ≡ [] → Ran c c' k) → ((q : ℕ) → has (n ∷ (nodes a ++ nodes b)) q ≡ false → (next (if ans then a else b) [] ≡ [] → has (touched c k) q ≡ false) → c' q ≡ c q) → Writes c (If n a b) k (Test n ans) c'
branch_writes c c' n a b ans k da db s st ran kept =
    let on = branch_next_by c' n a b ans da db s st in record {
      goes = branch_goes c c' n a b ans s st;
      ran = λ g. ran (sym on ∙ g);
      kept = λ q h f. kept q h (λ i. f (on ∙ i));
    }

pub turn_writes : (c c' : ℕ → Cell) (n : ℕ) (a : Exec) (k : Onward) → Apart a → c' n ≡ AnsweredBy (Some true) → Stands c' a [] → AreKeptBut c c' (n ∷ nodes a) → Writes c (While n a) k (Test n true) c'
turn_writes c c' n a k d s st kept = record {
  goes = turn_goes c c' n a s st;
  ran = λ g. absurd (two_some (next a []) n (sym (turn_next c' n a d s st) ∙ g));
  kept = λ q h f. kept q h;
}

pub no_turn_writes : (c c' : ℕ → Cell) (n : ℕ) (a : Exec) (k : Onward) → c' n ≡ AnsweredBy (Some false) → Ran c c' k → AreKeptBut c c' (n ∷ touched c k) → Writes c (While n a) k (Test n false) c'
no_turn_writes c c' n a k s ran kept = record {
  goes = no_turn_goes c c' n a s;
  ran = λ g. ran;
  kept = λ q h f. kept q (neither_of n (touched c k) q (rw (not_first n (nodes a) q h) refl) (f (no_turn_next c' n a s)));
}

-- ---- what comes in, for each kind

pub pick_comes : (c : ℕ → Cell) (n : ℕ) (es : Execs) (i : ℕ) (out : List ℕ) → came c (NonSeq n es) (Pick n i) out ≡ first_of_two (next_at es i []) (if length (picked (c n)) + 1 == count es then out else n ∷ [])
pick_comes c n es i out = if_some_is (pick_of n (Pick n i)) i _ _ (pick_of_pick n i)

pub sel_comes : (c : ℕ → Cell) (n : ℕ) (es : Execs) (i : ℕ) (out : List ℕ) → came c (Sel n es) (Pick n i) out ≡ first_of_two (next_at es i []) out
sel_comes c n es i out = if_some_is (pick_of n (Pick n i)) i _ _ (pick_of_pick n i)

branch_next : (a b : Exec) (ans : Bool) → (if ans then next a [] else next b []) ≡ next (if ans then a else b) []
branch_next a b true = refl
branch_next a b false = refl

pub branch_comes : (c : ℕ → Cell) (n : ℕ) (a b : Exec) (ans : Bool) (out : List ℕ) → came c (If n a b) (Test n ans) out ≡ first_of_two (next (if ans then a else b) []) out
branch_comes c n a b ans out = if_some_is (test_of n (Test n ans)) ans _ _ (test_of_test n ans) ∙ ap (λ (l : List ℕ). first_of_two l out) (branch_next a b ans)

pub turn_comes : (c : ℕ → Cell) (n : ℕ) (a : Exec) (ans : Bool) (out : List ℕ) → came c (While n a) (Test n ans) out ≡ (if ans then first_of_two (next a []) (n ∷ []) else out)
turn_comes c n a ans out = if_some_is (test_of n (Test n ans)) ans _ _ (test_of_test n ans)

pub low_comes : (c : ℕ → Cell) (n : ℕ) (x : Entry) (out : List ℕ) → stage_step n (stage_of (c n)) x ≡ None → came c (Work n) x out ≡ out
low_comes c n x out e = ap (λ (w : Cell). first_of_two (if_going w n) out) (low_over c n x e)

pub on_comes : (c : ℕ → Cell) (n j : ℕ) (x : Entry) (out : List ℕ) → stage_step n (stage_of (c n)) x ≡ Some j → came c (Work n) x out ≡ n ∷ []
on_comes c n j x out e = ap (λ (w : Cell). first_of_two (if_going w n) out) (low_on c n j x e)

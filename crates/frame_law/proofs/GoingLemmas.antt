-- The way up, step by step, and an entry's node that is written first, before the way up is gone.
use Rattle.std.specs.Prelude.{◌≡◌, ◌==◌, ◌+◌, ◌-◌, if◌then◌else◌, ℕ, Bool, true, false, List, [], ◌∷◌, ◌++◌, length, Some, None}
use Rattle.std.proofs.Common.{refl, sym, ◌∙◌, ap, subst, arith}
use Rattle.std.proofs.lemmas.Bool.Decides.{nat_tests}
use Rattle.exec_tree.specs.Exec.{LeafKind, Exec, Work, Leaf, NonSeq, Sel, If, While, Execs, nodes, nodes_all, count, AreDistinct}
use Rattle.trace_law.specs.Next.{first_of_two, next, next_at}
use Rattle.trace_law.specs.State.{stage_step}
use Rattle.trace_law.specs.Cells.{Cell, Over, Picked, AnsweredBy, Left, stage_of, picked, next_by, AreKept}
use Rattle.trace_law.specs.Coming.{came, Changes}
use Rattle.trace_law.specs.Frames.{left, Stands, StandsInOrder, StandsAt, Goes}
use Rattle.run_log.specs.declared.entry.Entry.{Entry}
use Rattle.run_log.specs.declared.entry.Entry.TheVariants.{Pick, Test}
use Rattle.trace_law.proofs.WholeNextLemmas.{none_left}
use Rattle.trace_law.proofs.StepLemmas.{here, apart, apart_all}
use Rattle.trace_law.proofs.FrameMoveLemmas.{stands_kept}
use Rattle.frame_law.specs.Executable.{executable_at}
use Rattle.frame_law.specs.Onward.{Onward, Done, Opens, Joins, PicksOn, onward, brings}
use Rattle.frame_law.specs.Way.{AreKeptBut, AreUnpicked, Follows, IsGone, Writes, along, touched}
use Rattle.frame_law.proofs.OutsideLemmas.{not_first, yes_right, yes_left}
use Rattle.frame_law.proofs.ChosenLemmas.{no_append}
use Rattle.frame_law.proofs.AlongLemmas.{agree_along, brings_same, kept_after, ran_after, stays_written, way_is_apart}
use Rattle.frame_law.proofs.NodeLemmas.{branch_comes, branch_goes, branch_next_by, leaf_next, low_over, no_turn_goes, no_turn_next, over_next, pick_comes, pick_goes, picks_next, sel_comes, sel_goes, sel_next}
use Rattle.frame_law.proofs.KindLemmas.{at_kept, comes_as, distinct_as, stands_as, unchosen_as}

-- ---- step by step

pub gone_opens : (c c' : ℕ → Cell) (es : Execs) → StandsInOrder c' es [] → AreKeptBut c c' (nodes_all es) → IsGone c (Opens es) c'
gone_opens c c' es s kept = record { ran = s; kept = kept }

pub gone_more : (c c' : ℕ → Cell) (n : ℕ) (k : Onward) → (left (c n) == 1) ≡ false → c' n ≡ Left (left (c n) - 1) → AreKeptBut c c' (n ∷ []) → IsGone c (Joins n k) c'
gone_more c c' n k e s kept = record {
  ran = (s, rw e tt);
  kept = rw e kept;
}

pub gone_last : (c d c' : ℕ → Cell) (n : ℕ) (k : Onward) → AreDistinct (n ∷ along k) → left (c n) ≡ 1 → d n ≡ Left (left (c n) - 1) → AreKeptBut c d (n ∷ []) → IsGone d k c' → IsGone c (Joins n k) c'
gone_last c d c' n k a one s kept g =
    let e : (left (c n) == 1) ≡ true = grind (arith, nat_tests) in record {
      ran = (stays_written d c' (n ∷ []) k a g.kept n (here n n [] refl) ∙ s, rw e (ran_after c d c' (n ∷ []) k a kept g.ran));
      kept = rw e (kept_after c d c' (n ∷ []) k a kept g.kept);
    }

pub gone_picks : (c : ℕ → Cell) (n total : ℕ) (k : Onward) → (length (picked (c n)) == total) ≡ false → IsGone c (PicksOn n total k) c
gone_picks c n total k e = record {
  ran = rw e tt;
  kept = λ q h. refl;
}

pub gone_picked : (c c' : ℕ → Cell) (n total : ℕ) (k : Onward) → length (picked (c n)) ≡ total → IsGone c k c' → IsGone c (PicksOn n total k) c'
gone_picked c c' n total k one g =
    let e : (length (picked (c n)) == total) ≡ true = grind (arith, nat_tests) in record {
      ran = rw e g.ran;
      kept = rw e g.kept;
    }

-- ---- what comes in there

pub brings_more : (c : ℕ → Cell) (n : ℕ) (k : Onward) → (left (c n) == 1) ≡ false → brings c (Joins n k) ≡ []
brings_more c n k e = rw e refl

pub brings_last : (c d : ℕ → Cell) (n : ℕ) (k : Onward) → AreDistinct (n ∷ along k) → left (c n) ≡ 1 → AreKeptBut c d (n ∷ []) → brings c (Joins n k) ≡ brings d k
brings_last c d n k a one kept =
    let e : (left (c n) == 1) ≡ true = grind (arith, nat_tests) in
    rw e (sym (brings_same c d k (agree_along c d (n ∷ []) k a kept)))

-- ---- the node is written first

gone_writes : (c d c' : ℕ → Cell) (f : Exec) (k : Onward) (x : Entry) → AreDistinct (nodes f ++ along k) → AreKeptBut c d (nodes f) → IsGone d k c' → Goes c f x c' → next_by c' f ≡ [] → Writes c f k x c'
gone_writes c d c' f k x a kept g goes over = record {
  goes = goes;
  ran = λ i. ran_after c d c' (nodes f) k a kept g.ran;
  kept = λ q h i. kept_after c d c' (nodes f) k a kept g.kept q (no_append (nodes f) (touched c k) q h (i over));
}

-- the way from a node that is known lies apart
apart_as : (c : ℕ → Cell) (e : Exec) (t : List Entry) (x : Entry) (m : ℕ) (f : Exec) → Follows c e t x m → executable_at e m ≡ f → AreDistinct (nodes f ++ along (onward e Done m))
apart_as c e t x m f g h = subst (λ (w : Exec). AreDistinct (nodes w ++ along (onward e Done m))) h (way_is_apart e m g.distinct)

own_stays : (d c' : ℕ → Cell) (m : ℕ) (ns : List ℕ) (k : Onward) → AreDistinct ((m ∷ ns) ++ along k) → IsGone d k c' → c' m ≡ d m
own_stays d c' m ns k a g = stays_written d c' (m ∷ ns) k a g.kept m (here m m ns refl)

rest_stays : (d c' : ℕ → Cell) (m : ℕ) (ns : List ℕ) (k : Onward) → AreDistinct ((m ∷ ns) ++ along k) → IsGone d k c' → AreKept d c' ns
rest_stays d c' m ns k a g = λ q h. stays_written d c' (m ∷ ns) k a g.kept q (yes_right (m ∷ []) ns q h)

pub end_then_on : (c d c' : ℕ → Cell) (e : Exec) (t : List Entry) (x : Entry) (m : ℕ) → Follows c e t x m → AreUnpicked c' e → executable_at e m ≡ Work m → stage_step m (stage_of (c m)) x ≡ None → d m ≡ Over → AreKeptBut c d (m ∷ []) → IsGone d (onward e Done m) c' → Stands c' e (t ++ x ∷ [])
end_then_on c d c' e t x m f v h i s kept g =
    let k : Onward = onward e Done m in
    let a = apart_as c e t x m (Work m) f h in
    let own : c' m ≡ Over = own_stays d c' m [] k a g ∙ s in
    stands_as c c' e t x m (Work m) f v h (gone_writes c d c' (Work m) k x a kept g (own ∙ sym (low_over c m x i)) (over_next c' m own))

pub leaf_then_on : (c d c' : ℕ → Cell) (e : Exec) (t : List Entry) (x : Entry) (m : ℕ) (kind : LeafKind) → Follows c e t x m → AreUnpicked c' e → executable_at e m ≡ Leaf m kind → d m ≡ Over → AreKeptBut c d (m ∷ []) → IsGone d (onward e Done m) c' → Stands c' e (t ++ x ∷ [])
leaf_then_on c d c' e t x m kind f v h s kept g =
    let k : Onward = onward e Done m in
    let a = apart_as c e t x m (Leaf m kind) f h in
    let own : c' m ≡ Over = own_stays d c' m [] k a g ∙ s in
    stands_as c c' e t x m (Leaf m kind) f v h (gone_writes c d c' (Leaf m kind) k x a kept g own (leaf_next c' m kind own))

pub pick_then_on : (c d c' : ℕ → Cell) (e : Exec) (t : List Entry) (m : ℕ) (es : Execs) (i : ℕ) → Follows c e t (Pick m i) m → AreUnpicked c' e → executable_at e m ≡ NonSeq m es → next_at es i [] ≡ [] → length (picked (c m)) + 1 ≡ count es → d m ≡ Picked (picked (c m) ++ i ∷ []) → StandsAt d es i [] → AreKeptBut c d (m ∷ nodes_all es) → IsGone d (onward e Done m) c' → Stands c' e (t ++ Pick m i ∷ [])
pick_then_on c d c' e t m es i f v h void all_of s st kept g =
    let k : Onward = onward e Done m in
    let a = apart_as c e t (Pick m i) m (NonSeq m es) f h in
    let dn = apart_all es (distinct_as c e t (Pick m i) m (NonSeq m es) f h).1 in
    let own : c' m ≡ Picked (picked (c m) ++ i ∷ []) = own_stays d c' m (nodes_all es) k a g ∙ s in
    let st' : StandsAt c' es i [] = at_kept d c' es i [] (rest_stays d c' m (nodes_all es) k a g) st in
    let rest : List ℕ = if length (picked (c m)) + 1 == count es then [] else m ∷ [] in
    let over : next_by c' (NonSeq m es) ≡ [] = picks_next c c' m es i dn own st' ∙ (ap (λ (l : List ℕ). first_of_two l rest) void ∙ none_left m (length (picked (c m)) + 1) (count es) all_of) in
    stands_as c c' e t (Pick m i) m (NonSeq m es) f v h (gone_writes c d c' (NonSeq m es) k (Pick m i) a kept g (pick_goes c c' m es i own st') over)

pub choice_then_on : (c d c' : ℕ → Cell) (e : Exec) (t : List Entry) (m : ℕ) (es : Execs) (i : ℕ) → Follows c e t (Pick m i) m → AreUnpicked c' e → executable_at e m ≡ Sel m es → next_at es i [] ≡ [] → d m ≡ Picked (i ∷ []) → StandsAt d es i [] → AreKeptBut c d (m ∷ nodes_all es) → IsGone d (onward e Done m) c' → Stands c' e (t ++ Pick m i ∷ [])
choice_then_on c d c' e t m es i f v h void s st kept g =
    let k : Onward = onward e Done m in
    let a = apart_as c e t (Pick m i) m (Sel m es) f h in
    let dn = apart_all es (distinct_as c e t (Pick m i) m (Sel m es) f h).1 in
    let own : c' m ≡ Picked (i ∷ []) = own_stays d c' m (nodes_all es) k a g ∙ s in
    let st' : StandsAt c' es i [] = at_kept d c' es i [] (rest_stays d c' m (nodes_all es) k a g) st in
    stands_as c c' e t (Pick m i) m (Sel m es) f v h
    (gone_writes c d c' (Sel m es) k (Pick m i) a kept g (sel_goes c c' m es i (unchosen_as c e t (Pick m i) m es f h) own st') (sel_next c' m es i dn own st' ∙ void))

either_kept : (d c' : ℕ → Cell) (a b : Exec) (ans : Bool) → AreKept d c' (nodes a ++ nodes b) → Stands d (if ans then a else b) [] → Stands c' (if ans then a else b) []
either_kept d c' a b true h s = stands_kept d c' a [] (λ q g. h q (yes_left (nodes a) (nodes b) q g)) s
either_kept d c' a b false h s = stands_kept d c' b [] (λ q g. h q (yes_right (nodes a) (nodes b) q g)) s

pub branch_then_on : (c d c' : ℕ → Cell) (e : Exec) (t : List Entry) (m : ℕ) (a b : Exec) (ans : Bool) → Follows c e t (Test m ans) m → AreUnpicked c' e → executable_at e m ≡ If m a b → next (if ans then a else b) [] ≡ [] → d m ≡ AnsweredBy (Some ans) → Stands d (if ans then a else b) [] → AreKeptBut c d (nodes (If m a b)) → IsGone d (onward e Done m) c' → Stands c' e (t ++ Test m ans ∷ [])
branch_then_on c d c' e t m a b ans f v h void s st kept g =
    let k : Onward = onward e Done m in
    let z = apart_as c e t (Test m ans) m (If m a b) f h in
    let dn = apart (If m a b) (distinct_as c e t (Test m ans) m (If m a b) f h) in
    let own : c' m ≡ AnsweredBy (Some ans) = own_stays d c' m (nodes a ++ nodes b) k z g ∙ s in
    let st' = either_kept d c' a b ans (rest_stays d c' m (nodes a ++ nodes b) k z g) st in
    stands_as c c' e t (Test m ans) m (If m a b) f v h
    (gone_writes c d c' (If m a b) k (Test m ans) z kept g (branch_goes c c' m a b ans own st') (branch_next_by c' m a b ans dn.1 dn.2 own st' ∙ void))

pub no_turn_then_on : (c d c' : ℕ → Cell) (e : Exec) (t : List Entry) (m : ℕ) (a : Exec) → Follows c e t (Test m false) m → AreUnpicked c' e → executable_at e m ≡ While m a → d m ≡ AnsweredBy (Some false) → AreKeptBut c d (m ∷ []) → IsGone d (onward e Done m) c' → Stands c' e (t ++ Test m false ∷ [])
no_turn_then_on c d c' e t m a f v h s kept g =
    let k : Onward = onward e Done m in
    let z = apart_as c e t (Test m false) m (While m a) f h in
    let own : c' m ≡ AnsweredBy (Some false) = own_stays d c' m (nodes a) k z g ∙ s in
    stands_as c c' e t (Test m false) m (While m a) f v h
    (gone_writes c d c' (While m a) k (Test m false) z (λ q i. kept q (rw (not_first m (nodes a) q i) refl)) g (no_turn_goes c c' m a own) (no_turn_next c' m a own))

-- ---- and what comes in is told behind that as well

-- where the node is over, what comes in is what the way brings
pub comes_then_on : (c d : ℕ → Cell) (e : Exec) (t : List Entry) (x : Entry) (m : ℕ) (f : Exec) → Follows c e t x m → executable_at e m ≡ f → AreKeptBut c d (nodes f) → came c f x (brings c (onward e Done m)) ≡ brings c (onward e Done m) → Changes (next e t) (next e (t ++ x ∷ [])) m (brings d (onward e Done m))
comes_then_on c d e t x m f g h kept own =
    let k : Onward = onward e Done m in
    let a = apart_as c e t x m f g h in
    comes_as c e t x m f (brings d k) g h (own ∙ sym (brings_same c d k (agree_along c d (nodes f) k a kept)))

pub pick_is_over : (c : ℕ → Cell) (n : ℕ) (es : Execs) (i : ℕ) (out : List ℕ) → next_at es i [] ≡ [] → length (picked (c n)) + 1 ≡ count es → came c (NonSeq n es) (Pick n i) out ≡ out
pick_is_over c n es i out void all_of =
    let e : (length (picked (c n)) + 1 == count es) ≡ true = grind (arith, nat_tests) in
    pick_comes c n es i out ∙ rw (void, e) refl

pub choice_is_over : (c : ℕ → Cell) (n : ℕ) (es : Execs) (i : ℕ) (out : List ℕ) → next_at es i [] ≡ [] → came c (Sel n es) (Pick n i) out ≡ out
choice_is_over c n es i out void = sel_comes c n es i out ∙ rw void refl

pub branch_is_over : (c : ℕ → Cell) (n : ℕ) (a b : Exec) (ans : Bool) (out : List ℕ) → next (if ans then a else b) [] ≡ [] → came c (If n a b) (Test n ans) out ≡ out
branch_is_over c n a b ans out void = branch_comes c n a b ans out ∙ ap (λ (l : List ℕ). first_of_two l out) void

-- What comes in when a workingstep or a leaf is over is told by the tree's table.
use Rattle.std.specs.Prelude.{◌≡◌, ◌⊎◌, ◌==◌, ◌||◌, if◌then◌else◌, ℕ, Bool, true, false, List, [], ◌∷◌, ◌++◌, Option, Some, None}
use Rattle.std.proofs.Common.{refl, sym, ◌∙◌, ap, subst, inl, inr}
use Rattle.exec_tree.specs.Exec.{Exec, Work, Leaf, Plan, Par, NonSeq, Sel, If, While, Execs, None_left, Then, nodes, nodes_all, has, number_or_none, count}
use Rattle.trace_law.specs.Of.{number_of, is_of}
use Rattle.trace_law.specs.Own.{pick_of, test_of}
use Rattle.trace_law.specs.Next.{first_of_two, next_in_order}
use Rattle.trace_law.specs.State.{stage_step}
use Rattle.trace_law.specs.Cells.{Cell, if_going, stage_of, cell_of_stage, work_after}
use Rattle.trace_law.specs.Frames.{is_shared, left}
use Rattle.trace_law.specs.Coming.{came, came_in_order, came_among}
use Rattle.trace_law.specs.After.{joins_or, After, PicksOn, TestsAgain, enters, opens_or, after, after_in_order, after_among, lows, lows_all, is_last, Ends}
use Rattle.run_log.specs.declared.entry.Entry.{Entry}
use Rattle.run_log.specs.declared.entry.Entry.TheVariants.{End, Assign, Set, Pass, Note}
use Rattle.trace_law.proofs.StepLemmas.{Apart, ApartAll, has-append, same_number}
use Rattle.trace_law.proofs.CellOfferLemmas.{only_one}
use Rattle.trace_law.proofs.ContinueLemmas.{clash}
use Rattle.trace_law.proofs.ArriveLemmas.{if_some_none}

no_pick : (n : ℕ) (x : Entry) → is_last x ≡ true → pick_of n x ≡ None
no_pick n (End m) h = refl
no_pick n (Assign m y) h = refl
no_pick n (Set m) h = refl
no_pick n (Pass m) h = refl
no_pick n (Note m) h = refl
no_pick n x h = absurd (cc)

no_test : (n : ℕ) (x : Entry) → is_last x ≡ true → test_of n x ≡ None
no_test n (End m) h = refl
no_test n (Assign m y) h = refl
no_test n (Set m) h = refl
no_test n (Pass m) h = refl
no_test n (Note m) h = refl
no_test n x h = absurd (cc)

pub of_number : (ns : List ℕ) (x : Entry) (m : ℕ) → number_of x ≡ Some m → is_of ns x ≡ has ns m
of_number ns x m e = rw e refl

opens_enters : (c : ℕ → Cell) (l : List ℕ) (k : After) → enters c (opens_or l k) ≡ first_of_two l (enters c k)
opens_enters c [] k = refl
opens_enters c (n ∷ l) k = refl

joins_enters : (c : ℕ → Cell) (b : Bool) (n : ℕ) (k : After) → (if b then (if left (c n) == 1 then enters c k else []) else enters c k) ≡ enters c (joins_or b n k)
joins_enters c true n k = refl
joins_enters c false n k = refl

either : (a b : Bool) → (a || b) ≡ true → (a ≡ true) ⊎ (b ≡ true)
either true b h = inl refl
either false b h = inr h

or_right : (a b : Bool) → b ≡ true → (a || b) ≡ true
or_right true b h = refl
or_right false b h = h

or_left : (a b : Bool) → a ≡ true → (a || b) ≡ true
or_left true b h = refl
or_left false b h = absurd (cc)

mutual
  low_inside : (e : Exec) (m : ℕ) → has (lows e) m ≡ true → has (nodes e) m ≡ true
  low_inside (Work n) m h = h
  low_inside (Leaf n k) m h = h
  low_inside (Plan n es) m h = has-append (number_or_none n) (nodes_all es) m ∙ or_right (has (number_or_none n) m) (has (nodes_all es) m) (low_inside_all es m h)
  low_inside (Par n es) m h = or_right (n == m) (has (nodes_all es) m) (low_inside_all es m h)
  low_inside (NonSeq n es) m h = or_right (n == m) (has (nodes_all es) m) (low_inside_all es m h)
  low_inside (Sel n es) m h = or_right (n == m) (has (nodes_all es) m) (low_inside_all es m h)
  low_inside (If n a b) m h =
      or_right (n == m) (has (nodes a ++ nodes b) m)
      (elim (either (has (lows a) m) (has (lows b) m) (sym (has-append (lows a) (lows b) m) ∙ h)) [
        | inl g ↦ has-append (nodes a) (nodes b) m ∙ or_left (has (nodes a) m) (has (nodes b) m) (low_inside a m g)
        | inr g ↦ has-append (nodes a) (nodes b) m ∙ or_right (has (nodes a) m) (has (nodes b) m) (low_inside b m g)
      ])
  low_inside (While n a) m h = or_right (n == m) (has (nodes a) m) (low_inside a m h)

  low_inside_all : (es : Execs) (m : ℕ) → has (lows_all es) m ≡ true → has (nodes_all es) m ≡ true
  low_inside_all None_left m h = h
  low_inside_all (Then e es) m h =
      elim (either (has (lows e) m) (has (lows_all es) m) (sym (has-append (lows e) (lows_all es) m) ∙ h)) [
        | inl g ↦ has-append (nodes e) (nodes_all es) m ∙ or_left (has (nodes e) m) (has (nodes_all es) m) (low_inside e m g)
        | inr g ↦ has-append (nodes e) (nodes_all es) m ∙ or_right (has (nodes e) m) (has (nodes_all es) m) (low_inside_all es m g)
      ]

low_inside_two : (a b : Exec) (m : ℕ) → (has (lows a) m ≡ true) ⊎ (has (lows b) m ≡ true) → has (nodes a ++ nodes b) m ≡ true
low_inside_two a b m (inl h) = has-append (nodes a) (nodes b) m ∙ or_left (has (nodes a) m) (has (nodes b) m) (low_inside a m h)
low_inside_two a b m (inr h) = has-append (nodes a) (nodes b) m ∙ or_right (has (nodes a) m) (has (nodes b) m) (low_inside b m h)

other : (n m : ℕ) (ns : List ℕ) → has ns n ≡ false → has ns m ≡ true → (n == m) ≡ false
other n m ns o h = go (n == m) refl
  where
    go : (b : Bool) → (n == m) ≡ b → (n == m) ≡ false
    go true e = absurd (clash (has ns m) h (subst (λ (v : ℕ). has ns v ≡ false) (same_number n m e) o))
    go false e = e

apart_back : (a b : Exec) (m : ℕ) → ((x : Entry) → is_of (nodes a) x ≡ true → is_of (nodes b) x ≡ false) → has (nodes b) m ≡ true → has (nodes a) m ≡ false
apart_back a b m d h = go (has (nodes a) m) refl
  where
    go : (t : Bool) → has (nodes a) m ≡ t → has (nodes a) m ≡ false
    go true e = absurd (clash (has (nodes b) m) h (d (Note m) e))
    go false e = e

apart_all_back : (e : Exec) (es : Execs) (m : ℕ) → ((x : Entry) → is_of (nodes e) x ≡ true → is_of (nodes_all es) x ≡ false) → has (nodes_all es) m ≡ true → has (nodes e) m ≡ false
apart_all_back e es m d h = go (has (nodes e) m) refl
  where
    go : (t : Bool) → has (nodes e) m ≡ t → has (nodes e) m ≡ false
    go true f = absurd (clash (has (nodes_all es) m) h (d (Note m) f))
    go false f = f

work_over : (c : ℕ → Cell) (n m : ℕ) (x : Entry) → n ≡ m → stage_step m (stage_of (c m)) x ≡ None → if_going (work_after n (c n) x) n ≡ []
work_over c n m x g h =
    subst (λ (j : ℕ). if_going (work_after j (c j) x) j ≡ []) (sym g) (ap (λ (o : Option ℕ). if_going (cell_of_stage o) m) h)

mutual
  pub follows : (c : ℕ → Cell) (e : Exec) (x : Entry) (k : After) (m : ℕ) → Apart e → Ends c x m → has (lows e) m ≡ true → came c e x (enters c k) ≡ enters c (after e k m)
  follows c (Work n) x k m d s h = ap (λ (l : List ℕ). first_of_two l (enters c k)) (work_over c n m x (only_one n m h) s.over)
  follows c (Leaf n l) x k m d s h = refl
  follows c (Plan n es) x k m d s h = follows_in_order c es x k m d s h
  follows c (Par n es) x k m d s h = ap (came_among c es x) (joins_enters c (is_shared es) n k) ∙ follows_among c es x (joins_or (is_shared es) n k) m d s h
  follows c (NonSeq n es) x k m d s h =
      if_some_none (pick_of n x) _ _ (no_pick n x s.is_end)
      ∙ (follows_among c es x (PicksOn n (count es) k) m d.1 s h ∙ sym (rw (other n m (nodes_all es) d.0 (low_inside_all es m h)) refl))
  follows c (Sel n es) x k m d s h =
      if_some_none (pick_of n x) _ _ (no_pick n x s.is_end) ∙ (follows_among c es x k m d.1 s h ∙ sym (rw (other n m (nodes_all es) d.0 (low_inside_all es m h)) refl))
  follows c (If n a b) x k m d s h =
      let z = either (has (lows a) m) (has (lows b) m) (sym (has-append (lows a) (lows b) m) ∙ h) in
      let none : came c (If n a b) x (enters c k) ≡ (if is_of (nodes a) x then came c a x (enters c k) else came c b x (enters c k)) = if_some_none (test_of n x) _ _ (no_test n x s.is_end) in
      let branch : (if is_of (nodes a) x then came c a x (enters c k) else came c b x (enters c k)) ≡ enters c (if has (nodes a) m then after a k m else after b k m) =
      elim z [
        | inl g ↦ let f : has (nodes a) m ≡ true = low_inside a m g in rw (of_number (nodes a) x m s.number, f) (follows c a x k m d.1 s g)
        | inr g ↦ let f : has (nodes a) m ≡ false = apart_back a b m d.3 (low_inside b m g) in rw (of_number (nodes a) x m s.number, f) (follows c b x k m d.2 s g)
      ] in
      let own : enters c (after (If n a b) k m) ≡ enters c (if has (nodes a) m then after a k m else after b k m) = rw (other n m (nodes a ++ nodes b) d.0 (low_inside_two a b m z)) refl in
      none ∙ (branch ∙ sym own)
  follows c (While n a) x k m d s h =
      if_some_none (test_of n x) _ _ (no_test n x s.is_end)
      ∙ (follows c a x (TestsAgain n) m d.1 s h ∙ sym (rw (other n m (nodes a) d.0 (low_inside a m h)) refl))

  follows_in_order : (c : ℕ → Cell) (es : Execs) (x : Entry) (k : After) (m : ℕ) → ApartAll es → Ends c x m → has (lows_all es) m ≡ true → came_in_order c es x (enters c k) ≡ enters c (after_in_order es k m)
  follows_in_order c None_left x k m d s h = refl
  follows_in_order c (Then e es) x k m d s h =
      elim (either (has (lows e) m) (has (lows_all es) m) (sym (has-append (lows e) (lows_all es) m) ∙ h)) [
        | inl g ↦ let f : has (nodes e) m ≡ true = low_inside e m g in
            rw (of_number (nodes e) x m s.number, f)
            (ap (came c e x) (sym (opens_enters c (next_in_order es []) k)) ∙ follows c e x (opens_or (next_in_order es []) k) m d.0 s g)
        | inr g ↦ let f : has (nodes e) m ≡ false = apart_all_back e es m d.2 (low_inside_all es m g) in
            rw (of_number (nodes e) x m s.number, f) (follows_in_order c es x k m d.1 s g)
      ]

  follows_among : (c : ℕ → Cell) (es : Execs) (x : Entry) (k : After) (m : ℕ) → ApartAll es → Ends c x m → has (lows_all es) m ≡ true → came_among c es x (enters c k) ≡ enters c (after_among es k m)
  follows_among c None_left x k m d s h = absurd (cc)
  follows_among c (Then e es) x k m d s h =
      elim (either (has (lows e) m) (has (lows_all es) m) (sym (has-append (lows e) (lows_all es) m) ∙ h)) [
        | inl g ↦ let f : has (nodes e) m ≡ true = low_inside e m g in
            rw (of_number (nodes e) x m s.number, f) (follows c e x k m d.0 s g)
        | inr g ↦ let f : has (nodes e) m ≡ false = apart_all_back e es m d.2 (low_inside_all es m g) in
            rw (of_number (nodes e) x m s.number, f) (follows_among c es x k m d.1 s g)
      ]

-- What an entry opens is counted among what is new by it, and so are its looks.
use Rattle.std.specs.Prelude.{◌≡◌, ◌≤◌, ◌==◌, ◌+◌, ◌*◌, ◌||◌, ◌⊎◌, not, if◌then◌else◌, ℕ, zero, suc, Bool, true, false, List, [], ◌∷◌, ◌++◌, length, Option, Some, None, cond}
use Rattle.std.specs.List.{filter}
use Rattle.std.proofs.Common.{refl, sym, ◌∙◌, ap, subst, inl, inr, arith}
use Rattle.std.proofs.lemmas.Bool.Decides.{nat_tests}
use Rattle.exec_tree.specs.Exec.{Exec, Work, Leaf, Plan, Par, NonSeq, Sel, If, While, Execs, None_left, Then, nodes, nodes_all, has, number_or_none, count, AreDistinct}
use Rattle.trace_law.specs.Of.{is_of}
use Rattle.trace_law.specs.Own.{pick_of, test_of}
use Rattle.trace_law.specs.Next.{next, next_in_order, next_at}
use Rattle.trace_law.specs.Cells.{Cell, Over, work_after, picked}
use Rattle.trace_law.specs.Frames.{is_shared, left}
use Rattle.trace_law.specs.Leading.{has_none}
use Rattle.trace_law.specs.Coming.{if_some}
use Rattle.run_log.specs.declared.entry.Entry.{Entry}
use Rattle.run_log.specs.declared.entry.Entry.TheVariants.{Note}
use Rattle.trace_law.proofs.StepLemmas.{same_number, apart, here, distinct_left, distinct_right, distinct_across}
use Rattle.trace_law.proofs.StepForthLemmas.{step_of, at_inside}
use Rattle.trace_law.proofs.ContinueLemmas.{clash}
use Rattle.frame_law.specs.Way.{Follows}
use Rattle.frame_law.specs.ComeTo.{come_to, come_to_in_order, come_to_each, come_to_at, nesting, turned, new_in}
use Rattle.frame_law.specs.Looks.{looks, if_over, opens, opens_in_order, opens_among, opened, AreNumbered}
use Rattle.frame_law.proofs.OutsideLemmas.{yes_left, yes_right}
use Rattle.frame_law.proofs.ChosenLemmas.{no_append}
use Rattle.frame_law.proofs.OpensLemmas.{opens_at_node}
use Rattle.frame_law.proofs.ComeLemmas.{new, outside_order, outside_each, cond_out, not_own, yes_either, within, within_at}
use Rattle.frame_law.proofs.LookLemmas.{looks_few}

opened_new : (c : ℕ → Cell) (e : Exec) (t : List Entry) (x : Entry) (m : ℕ) (q : ℕ) → Follows c e t x m → has (opened c e x m) q ≡ true → (has (come_to e (t ++ x ∷ [])) q ≡ true) × ((has (come_to e t) q ≡ false) ⊎ (has (turned e x) q ≡ true))
opened_new c e t x m q f h =
    let z = step_of e t x (apart e f.distinct) f.part in
    elim (new c e t x [] q f.distinct z.0 z.1 f.stands (subst (λ (l : List ℕ). has l q ≡ true) (sym (opens_at_node c e x m f.number)) h)) [
      | inl i ↦ i
      | inr i ↦ absurd (let g : has [] q ≡ true = i.1 in cc)
    ]

pub opened_comes : (c : ℕ → Cell) (e : Exec) (t : List Entry) (x : Entry) (m : ℕ) (q : ℕ) → Follows c e t x m → has (opened c e x m) q ≡ true → has (come_to e (t ++ x ∷ [])) q ≡ true
opened_comes c e t x m q f h = (opened_new c e t x m q f h).0

pub opened_fresh : (c : ℕ → Cell) (e : Exec) (t : List Entry) (x : Entry) (m : ℕ) (q : ℕ) → Follows c e t x m → has (opened c e x m) q ≡ true → (has (come_to e t) q ≡ false) ⊎ (has (turned e x) q ≡ true)
opened_fresh c e t x m q f h = (opened_new c e t x m q f h).1

-- ---- no node is opened twice

distinct_append : (ms ns : List ℕ) → AreDistinct ms → AreDistinct ns → ((q : ℕ) → has ms q ≡ true → has ns q ≡ false) → AreDistinct (ms ++ ns)
distinct_append [] ns d f h = f
distinct_append (m ∷ ms) ns d f h =
    (no_append ms ns m d.0 (h m (here m m ms refl)), distinct_append ms ns d.1 f (λ q g. h q (yes_right (m ∷ []) ms q g)))

cond_distinct : (b : Bool) (l : List ℕ) → AreDistinct l → AreDistinct (if b then l else [])
cond_distinct true l d = d
cond_distinct false l d = tt

either_distinct : (b : Bool) (l k : List ℕ) → AreDistinct l → AreDistinct k → AreDistinct (if b then l else k)
either_distinct true l k d f = d
either_distinct false l k d f = f

either_out : (b : Bool) (l k : List ℕ) (q : ℕ) → has l q ≡ false → has k q ≡ false → has (if b then l else k) q ≡ false
either_out true l k q h g = h
either_out false l k q h g = g

mutual
  distinct_come : (e : Exec) → AreDistinct (nodes e) → AreDistinct (come_to e [])
  distinct_come (Work n) d = d
  distinct_come (Leaf n k) d = d
  distinct_come (Plan n es) d =
      distinct_append (number_or_none n) (come_to_in_order es []) (distinct_left (number_or_none n) (nodes_all es) d) (distinct_order es (distinct_right (number_or_none n) (nodes_all es) d))
      (λ q h. outside_order es [] q (distinct_across (number_or_none n) (nodes_all es) q d h))
  distinct_come (Par n es) d = (outside_each es [] n d.0, distinct_each es d.1)
  distinct_come (NonSeq n es) d = (refl, tt)
  distinct_come (Sel n es) d = (refl, tt)
  distinct_come (If n a b) d = (refl, tt)
  distinct_come (While n a) d = (refl, tt)

  distinct_order : (es : Execs) → AreDistinct (nodes_all es) → AreDistinct (come_to_in_order es [])
  distinct_order None_left d = tt
  distinct_order (Then e es) d =
      distinct_append (come_to e []) _ (distinct_come e (distinct_left (nodes e) (nodes_all es) d))
      (cond_distinct (has_none (next e [])) (come_to_in_order es []) (distinct_order es (distinct_right (nodes e) (nodes_all es) d)))
      (λ q h. cond_out (has_none (next e [])) (come_to_in_order es []) q (outside_order es [] q (distinct_across (nodes e) (nodes_all es) q d (within e [] q h))))

  distinct_each : (es : Execs) → AreDistinct (nodes_all es) → AreDistinct (come_to_each es [])
  distinct_each None_left d = tt
  distinct_each (Then e es) d =
      distinct_append (come_to e []) (come_to_each es []) (distinct_come e (distinct_left (nodes e) (nodes_all es) d)) (distinct_each es (distinct_right (nodes e) (nodes_all es) d))
      (λ q h. outside_each es [] q (distinct_across (nodes e) (nodes_all es) q d (within e [] q h)))

distinct_at : (es : Execs) (k : ℕ) → AreDistinct (nodes_all es) → AreDistinct (come_to_at es k [])
distinct_at None_left k d = tt
distinct_at (Then e es) zero d = distinct_come e (distinct_left (nodes e) (nodes_all es) d)
distinct_at (Then e es) (suc k) d = distinct_at es k (distinct_right (nodes e) (nodes_all es) d)

over_distinct : (cell : Cell) (l : List ℕ) → AreDistinct l → AreDistinct (if_over cell l)
over_distinct Over l d = d
over_distinct cell l d = tt

at_distinct : (es : Execs) (k : ℕ) (b : Bool) (out : List ℕ) → AreDistinct (nodes_all es) → AreDistinct out → ((q : ℕ) → has (nodes_all es) q ≡ true → has out q ≡ false) → AreDistinct (come_to_at es k [] ++ (if b then out else []))
at_distinct es k b out d o a =
    distinct_append (come_to_at es k []) _ (distinct_at es k d) (cond_distinct b out o) (λ q h. cond_out b out q (a q (at_inside es k (Note q) (within_at es k [] q h))))

come_distinct : (e : Exec) (b : Bool) (out : List ℕ) → AreDistinct (nodes e) → AreDistinct out → ((q : ℕ) → has (nodes e) q ≡ true → has out q ≡ false) → AreDistinct (come_to e [] ++ (if b then out else []))
come_distinct e b out d o a = distinct_append (come_to e []) _ (distinct_come e d) (cond_distinct b out o) (λ q h. cond_out b out q (a q (within e [] q h)))

picked_distinct : (o : Option ℕ) (f : ℕ → List ℕ) (rest : List ℕ) → ((k : ℕ) → AreDistinct (f k)) → AreDistinct rest → AreDistinct (if_some o f rest)
picked_distinct None f rest h r = r
picked_distinct (Some k) f rest h r = h k

tested_distinct : (o : Option Bool) (f : Bool → List ℕ) (rest : List ℕ) → ((k : Bool) → AreDistinct (f k)) → AreDistinct rest → AreDistinct (if_some o f rest)
tested_distinct None f rest h r = r
tested_distinct (Some k) f rest h r = h k

branch_distinct : (a b : Exec) (ans : Bool) (out : List ℕ) → AreDistinct (nodes a) → AreDistinct (nodes b) → AreDistinct out → ((q : ℕ) → has (nodes a) q ≡ true → has out q ≡ false) → ((q : ℕ) → has (nodes b) q ≡ true → has out q ≡ false) → AreDistinct (come_to (if ans then a else b) [] ++ (if has_none (next (if ans then a else b) []) then out else []))
branch_distinct a b true out d f o ha hb = come_distinct a (has_none (next a [])) out d o ha
branch_distinct a b false out d f o ha hb = come_distinct b (has_none (next b [])) out f o hb

body_distinct : (a : Exec) (ans : Bool) (out : List ℕ) → AreDistinct (nodes a) → AreDistinct out → AreDistinct (if ans then come_to a [] else out)
body_distinct a true out d o = distinct_come a d
body_distinct a false out d o = o

mutual
  distinct_opens : (c : ℕ → Cell) (e : Exec) (x : Entry) (out : List ℕ) → AreDistinct (nodes e) → AreDistinct out → ((q : ℕ) → has (nodes e) q ≡ true → has out q ≡ false) → AreDistinct (opens c e x out)
  distinct_opens c (Work n) x out d o a = over_distinct (work_after n (c n) x) out o
  distinct_opens c (Leaf n k) x out d o a = o
  distinct_opens c (Plan n es) x out d o a =
      distinct_opens_in_order c es x out (distinct_right (number_or_none n) (nodes_all es) d) o (λ q h. a q (yes_right (number_or_none n) (nodes_all es) q h))
  distinct_opens c (Par n es) x out d o a =
      distinct_opens_among c es x _ d.1 (either_distinct (is_shared es) _ out (cond_distinct (left (c n) == 1) out o) o)
      (λ q h. let z = a q (yes_right (n ∷ []) (nodes_all es) q h) in either_out (is_shared es) _ out q (cond_out (left (c n) == 1) out q z) z)
  distinct_opens c (NonSeq n es) x out d o a =
      picked_distinct (pick_of n x) _ _
      (λ k. at_distinct es k (has_none (next_at es k [])) _ d.1 (cond_distinct (length (picked (c n)) + 1 == count es) out o)
      (λ q h. cond_out (length (picked (c n)) + 1 == count es) out q (a q (yes_right (n ∷ []) (nodes_all es) q h))))
      (distinct_opens_among c es x _ d.1 (cond_distinct (length (picked (c n)) == count es) out o)
      (λ q h. cond_out (length (picked (c n)) == count es) out q (a q (yes_right (n ∷ []) (nodes_all es) q h))))
  distinct_opens c (Sel n es) x out d o a =
      picked_distinct (pick_of n x) _ _ (λ k. at_distinct es k (has_none (next_at es k [])) out d.1 o (λ q h. a q (yes_right (n ∷ []) (nodes_all es) q h)))
      (distinct_opens_among c es x out d.1 o (λ q h. a q (yes_right (n ∷ []) (nodes_all es) q h)))
  distinct_opens c (If n a b) x out d o h =
      let da = distinct_left (nodes a) (nodes b) d.1 in
      let db = distinct_right (nodes a) (nodes b) d.1 in
      let ha : (q : ℕ) → has (nodes a) q ≡ true → has out q ≡ false = λ q g. h q (yes_right (n ∷ []) (nodes a ++ nodes b) q (yes_left (nodes a) (nodes b) q g)) in
      let hb : (q : ℕ) → has (nodes b) q ≡ true → has out q ≡ false = λ q g. h q (yes_right (n ∷ []) (nodes a ++ nodes b) q (yes_right (nodes a) (nodes b) q g)) in
      tested_distinct (test_of n x) _ _ (λ ans. branch_distinct a b ans out da db o ha hb)
      (either_distinct (is_of (nodes a) x) _ _ (distinct_opens c a x out da o ha) (distinct_opens c b x out db o hb))
  distinct_opens c (While n a) x out d o h =
      tested_distinct (test_of n x) _ _ (λ ans. body_distinct a ans out d.1 o) (distinct_opens c a x [] d.1 tt (λ q g. refl))

  distinct_opens_in_order : (c : ℕ → Cell) (es : Execs) (x : Entry) (out : List ℕ) → AreDistinct (nodes_all es) → AreDistinct out → ((q : ℕ) → has (nodes_all es) q ≡ true → has out q ≡ false) → AreDistinct (opens_in_order c es x out)
  distinct_opens_in_order c None_left x out d o a = tt
  distinct_opens_in_order c (Then e es) x out d o a =
      let de = distinct_left (nodes e) (nodes_all es) d in
      let ds = distinct_right (nodes e) (nodes_all es) d in
      either_distinct (is_of (nodes e) x) _ _
      (distinct_opens c e x _ de (either_distinct (has_none (next_in_order es [])) out (come_to_in_order es []) o (distinct_order es ds))
      (λ q h. either_out (has_none (next_in_order es [])) out (come_to_in_order es []) q (a q (yes_left (nodes e) (nodes_all es) q h)) (outside_order es [] q (distinct_across (nodes e) (nodes_all es) q d h))))
      (distinct_opens_in_order c es x out ds o (λ q h. a q (yes_right (nodes e) (nodes_all es) q h)))

  distinct_opens_among : (c : ℕ → Cell) (es : Execs) (x : Entry) (out : List ℕ) → AreDistinct (nodes_all es) → AreDistinct out → ((q : ℕ) → has (nodes_all es) q ≡ true → has out q ≡ false) → AreDistinct (opens_among c es x out)
  distinct_opens_among c None_left x out d o a = tt
  distinct_opens_among c (Then e es) x out d o a =
      either_distinct (is_of (nodes e) x) _ _
      (distinct_opens c e x out (distinct_left (nodes e) (nodes_all es) d) o (λ q h. a q (yes_left (nodes e) (nodes_all es) q h)))
      (distinct_opens_among c es x out (distinct_right (nodes e) (nodes_all es) d) o (λ q h. a q (yes_right (nodes e) (nodes_all es) q h)))

-- ---- so there are no more of them than of the new ones

abbrev drop_one : ℕ → List ℕ → List ℕ
drop_one n [] = []
drop_one n (m ∷ r) = if m == n then r else m ∷ drop_one n r

drop_length : (n : ℕ) (r : List ℕ) → has r n ≡ true → length r ≡ length (drop_one n r) + 1
drop_length n [] h = absurd (cc)
drop_length n (m ∷ r) h = go (m == n) refl (drop_length n r)
  where
    go : (b : Bool) → (m == n) ≡ b → (has r n ≡ true → length r ≡ length (drop_one n r) + 1) → length (m ∷ r) ≡ length (if b then r else m ∷ drop_one n r) + 1
    go true e f = omega arith
    go false e f = let i = f (rw e at h) in omega (arith, i)

one_is : (m q : ℕ) → has (m ∷ []) q ≡ true → m ≡ q
one_is m q h = grind (arith, nat_tests)

is_one : (n q : ℕ) → n ≡ q → (n == q) ≡ true
is_one n q h = grind (arith, nat_tests)

drop_keeps : (n : ℕ) (r : List ℕ) (q : ℕ) → (n == q) ≡ false → has r q ≡ true → has (drop_one n r) q ≡ true
drop_keeps n [] q o h = h
drop_keeps n (m ∷ r) q o h = go (m == n) refl (drop_keeps n r q o)
  where
    go : (b : Bool) → (m == n) ≡ b → (has r q ≡ true → has (drop_one n r) q ≡ true) → has (if b then r else m ∷ drop_one n r) q ≡ true
    go true e f = elim (yes_either (m ∷ []) r q h) [
      | inl i ↦ absurd (clash (n == q) (is_one n q (sym (same_number m n e) ∙ one_is m q i)) o)
      | inr i ↦ i
    ]
    go false e f = elim (yes_either (m ∷ []) r q h) [
      | inl i ↦ yes_left (m ∷ []) (drop_one n r) q i
      | inr i ↦ yes_right (m ∷ []) (drop_one n r) q (f i)
    ]

few : (l r : List ℕ) → AreDistinct l → ((q : ℕ) → has l q ≡ true → has r q ≡ true) → length l ≤ length r
few [] r d h = omega arith
few (n ∷ l) r d h =
    let a : length r ≡ length (drop_one n r) + 1 = drop_length n r (h n (here n n l refl)) in
    let b : length l ≤ length (drop_one n r) = few l (drop_one n r) d.1 (λ q g. drop_keeps n r q (not_own n l q d.0 g) (h q (yes_right (n ∷ []) l q g))) in
    omega (arith, a, b)

in_filter : (p : ℕ → Bool) (l : List ℕ) (q : ℕ) → has l q ≡ true → p q ≡ true → has (filter p l) q ≡ true
in_filter p [] q h g = h
in_filter p (m ∷ l) q h g = go (p m) refl (in_filter p l q)
  where
    go : (b : Bool) → p m ≡ b → (has l q ≡ true → p q ≡ true → has (filter p l) q ≡ true) → has (cond b (m ∷ filter p l) (filter p l)) q ≡ true
    go true e f = elim (yes_either (m ∷ []) l q h) [
      | inl i ↦ yes_left (m ∷ []) (filter p l) q i
      | inr i ↦ yes_right (m ∷ []) (filter p l) q (f i g)
    ]
    go false e f = elim (yes_either (m ∷ []) l q h) [
      | inl i ↦ absurd (clash (p q) g (ap p (sym (one_is m q i)) ∙ e))
      | inr i ↦ f i g
    ]

or_second : (b : Bool) → (b || true) ≡ true
or_second true = refl
or_second false = refl

new_has : (e : Exec) (t : List Entry) (x : Entry) (q : ℕ) → has (come_to e (t ++ x ∷ [])) q ≡ true → (has (come_to e t) q ≡ false) ⊎ (has (turned e x) q ≡ true) → has (new_in e t x) q ≡ true
new_has e t x q h (inl i) = in_filter _ (come_to e (t ++ x ∷ [])) q h (rw i refl)
new_has e t x q h (inr i) = in_filter _ (come_to e (t ++ x ∷ [])) q h (rw i (or_second (not (has (come_to e t) q))))

pub opened_few : (c : ℕ → Cell) (e : Exec) (t : List Entry) (x : Entry) (m : ℕ) → Follows c e t x m → length (opened c e x m) ≤ length (new_in e t x)
opened_few c e t x m f =
    few (opened c e x m) (new_in e t x) (subst AreDistinct (opens_at_node c e x m f.number) (distinct_opens c e x [] f.distinct tt (λ q h. refl)))
    (λ q h. let z = opened_new c e t x m q f h in new_has e t x q z.0 z.1)

pub looks_bounded : (c : ℕ → Cell) (e : Exec) (t : List Entry) (x : Entry) (m : ℕ) → Follows c e t x m → AreNumbered e → looks c e x m ≤ 4 * (nesting e + 1 + length (next e t) + length (new_in e t x))
looks_bounded c e t x m f v =
    let a = looks_few c e x m v in
    let b = opened_few c e t x m f in
    omega (arith, a, b)

-- Where the run goes on: what the pass from the root down tells.
use Rattle.std.specs.Prelude.{◌≡◌, ◌<◌, ◌+◌, ◌==◌, nat_le, ℕ, zero, suc, Bool, true, false, List, [], ◌∷◌, ◌++◌, length, drop, Option, Some, None}
use Rattle.std.proofs.Common.{refl, sym, ◌∙◌, ap, subst, arith, get_or}
use Rattle.std.proofs.lemmas.Bool.Decides.{nat_tests}
use Rattle.exec_tree.specs.Exec.{Exec, Work, Leaf, Plan, Par, NonSeq, Sel, If, While, Execs, None_left, Then, nodes, nodes_all, has, AreDistinct}
use Rattle.exec_tree.specs.Arena.{to_execs, of_kind, HasArity}
use Rattle.exec_tree.specs.declared.kind.Kind.{Kind}
use Rattle.exec_tree.specs.declared.kind.Kind.TheVariants as kind
use Rattle.exec_tree.specs.declared.node.BareNode.{BareNode}
use Rattle.trace_law.specs.Next.{next_each}
use Rattle.trace_law.specs.Frames.{is_shared}
use Rattle.trace_law.specs.Leading.{has_none}
use Rattle.tree_table.specs.Placed.{placed_down, placed_all}
use Rattle.tree_table.specs.Within.{is_number}
use Rattle.tree_table.specs.Rows.{into_at, after_at, link_of, AreLinkedBack}
use Rattle.tree_table.specs.Filled.{first_place, into_of, first_into, with_after, IsLed, Led, LedAll, opens_or, joins_or, inner, Told, ToldInOrder, ToldAll, AreSameBut, IsTold, AreTold, AreToldInOrder}
use Rattle.tree_table.specs.declared.row.Continuation.{Continuation}
use Rattle.tree_table.specs.declared.row.Continuation.TheVariants.{PicksOn, TestsAgain}
use Rattle.tree_table.specs.declared.row.Row.{Row}
use Rattle.tree_table.proofs.ListLemmas.{clash, same_number, has_left, has_right, has_self, has_rest, not_left, not_right, not_rest, once_back, drop_at}
use Rattle.tree_table.proofs.RowLemmas.{put_after, put_same, same_none, same_more, same_both}
use Rattle.tree_table.proofs.NodeLemmas.{nodes_of, once_behind}
use Rattle.tree_table.proofs.LeadLemmas.{led_kept, led_all_kept, lead_each, is_some, is_none, going_none}

same_some : (p q : ℕ) → Some p ≡ Some q → p ≡ q
same_some p q e = cc

-- ---- rows that stay

-- the continuations in the rows of these nodes are the same
abbrev pub TellAlike : List Row → List Row → List ℕ → Type 0
TellAlike old new ns = (q : ℕ) → has ns q ≡ true → after_at new q ≡ after_at old q

a_left : (old new : List Row) (ms ns : List ℕ) → TellAlike old new (ms ++ ns) → TellAlike old new ms
a_left old new ms ns h q i = h q (has_left ms ns q i)

a_right : (old new : List Row) (ms ns : List ℕ) → TellAlike old new (ms ++ ns) → TellAlike old new ns
a_right old new ms ns h q i = h q (has_right ms ns q i)

a_rest : (old new : List Row) (n : ℕ) (ns : List ℕ) → TellAlike old new (n ∷ ns) → TellAlike old new ns
a_rest old new n ns h q i = h q (has_rest n ns q i)

a_own : (old new : List Row) (n : ℕ) (ns : List ℕ) (c : Continuation) → TellAlike old new (n ∷ ns) → after_at old n ≡ c → after_at new n ≡ c
a_own old new n ns c h e = h n (has_self n ns) ∙ e

mutual
  pub told_kept : (old new : List Row) (e : Exec) (c : Continuation) → TellAlike old new (nodes e) → Told old e c → Told new e c
  told_kept old new (Work n) c h s = a_own old new n [] c h s
  told_kept old new (Leaf n k) c h s = a_own old new n [] c h s
  told_kept old new (Plan None es) c h s = order_kept old new es c h s
  told_kept old new (Plan (Some n) es) c h s = (a_own old new n (nodes_all es) c h s.0, order_kept old new es c (a_rest old new n (nodes_all es) h) s.1)
  told_kept old new (Par n es) c h s = (a_own old new n (nodes_all es) c h s.0, all_kept old new es (joins_or (is_shared es) n c) (a_rest old new n (nodes_all es) h) s.1)
  told_kept old new (NonSeq n es) c h s = (a_own old new n (nodes_all es) c h s.0, all_kept old new es (PicksOn n) (a_rest old new n (nodes_all es) h) s.1)
  told_kept old new (Sel n es) c h s = (a_own old new n (nodes_all es) c h s.0, all_kept old new es c (a_rest old new n (nodes_all es) h) s.1)
  told_kept old new (If n a b) c h s =
      let r = a_rest old new n (nodes a ++ nodes b) h in
      (a_own old new n (nodes a ++ nodes b) c h s.0, told_kept old new a c (a_left old new (nodes a) (nodes b) r) s.1, told_kept old new b c (a_right old new (nodes a) (nodes b) r) s.2)
  told_kept old new (While n a) c h s = (a_own old new n (nodes a) c h s.0, told_kept old new a (TestsAgain n) (a_rest old new n (nodes a) h) s.1)

  pub order_kept : (old new : List Row) (es : Execs) (c : Continuation) → TellAlike old new (nodes_all es) → ToldInOrder old es c → ToldInOrder new es c
  order_kept old new None_left c h s = tt
  order_kept old new (Then e es) c h s =
      (told_kept old new e (opens_or (first_into es) c) (a_left old new (nodes e) (nodes_all es) h) s.0, order_kept old new es c (a_right old new (nodes e) (nodes_all es) h) s.1)

  pub all_kept : (old new : List Row) (es : Execs) (c : Continuation) → TellAlike old new (nodes_all es) → ToldAll old es c → ToldAll new es c
  all_kept old new None_left c h s = tt
  all_kept old new (Then e es) c h s =
      (told_kept old new e c (a_left old new (nodes e) (nodes_all es) h) s.0, all_kept old new es c (a_right old new (nodes e) (nodes_all es) h) s.1)

-- what leading told stays where only continuations change
pub same_led : (arena : List BareNode) (old new : List Row) (ps : List ℕ) (e : Exec) → AreSameBut old new ps → Led arena old e → Led arena new e
same_led arena old new ps e s l = led_kept arena old new e (λ q i. (s.into q, s.levels q)) l

pub same_led_all : (arena : List BareNode) (old new : List Row) (ps : List ℕ) (es : Execs) → AreSameBut old new ps → LedAll arena old es → LedAll arena new es
same_led_all arena old new ps es s l = led_all_kept arena old new es (λ q i. (s.into q, s.levels q)) l

-- ---- elements from the last to the first

same_one : (start mid new : List Row) (ms ns : List ℕ) → AreSameBut start mid ns → AreSameBut mid new ms → AreSameBut start new (ms ++ ns)
same_one start mid new ms ns s t = same_both start mid new (ms ++ ns) (same_more start mid ns (ms ++ ns) (λ q h. not_right ms ns q h) s) (same_more mid new ms (ms ++ ns) (λ q h. not_left ms ns q h) t)

order_one : (start mid new : List Row) (e : Exec) (es : Execs) (c : Continuation) (first into first' : Option ℕ) → AreDistinct (nodes e ++ nodes_all es) → AreToldInOrder start mid es c first → IsTold mid new e (opens_or first c) into → first' ≡ first_place into first → AreToldInOrder start new (Then e es) c first'
order_one start mid new e es c first into first' d s m f =
    record {
      told = (subst (λ (o : Option ℕ). Told new e (opens_or o c)) s.into m.told, order_kept mid new es c (λ q i. m.same.after q (once_back (nodes e) (nodes_all es) d q i)) s.told);
      into = f ∙ (ap (λ (o : Option ℕ). first_place o first) m.into ∙ ap (λ (o : Option ℕ). first_place (into_of e) o) s.into);
      same = same_one start mid new (nodes e) (nodes_all es) s.same m.same;
    }

pub order_step : (arena : List BareNode) (start mid new : List Row) (levels : ℕ) (places : List ℕ) (k : ℕ) (c : Continuation) (first into first' : Option ℕ) → k < length places → AreDistinct (nodes_all (to_execs (placed_all arena levels places)))
    → AreToldInOrder start mid (to_execs (placed_all arena levels (drop (k + 1) places))) c first → IsTold mid new (placed_down arena levels (get_or places k 0)) (opens_or first c) into → first' ≡ first_place into first → AreToldInOrder start new (to_execs (placed_all arena levels (drop k places))) c first'
order_step arena start mid new levels places k c first into first' l d s m f =
    let split = drop_at places k l in
    let once = subst (λ (ps : List ℕ). AreDistinct (nodes_all (to_execs (placed_all arena levels ps)))) split (once_behind arena levels places k d) in
    subst (λ (ps : List ℕ). AreToldInOrder start new (to_execs (placed_all arena levels ps)) c first') (sym split)
    (order_one start mid new (placed_down arena levels (get_or places k 0)) (to_execs (placed_all arena levels (drop (k + 1) places))) c first into first' once s m f)

pub order_none : (arena : List BareNode) (start : List Row) (levels : ℕ) (places : List ℕ) (c : Continuation) → places ≡ [] → AreLinkedBack start → AreToldInOrder start start (to_execs (placed_all arena levels places)) c None
order_none arena start levels places c h b =
    subst (λ (ps : List ℕ). AreToldInOrder start start (to_execs (placed_all arena levels ps)) c None) (sym h) (record { told = tt; into = refl; same = same_none start [] b })

all_one : (start mid new : List Row) (e : Exec) (es : Execs) (c : Continuation) (into : Option ℕ) → AreDistinct (nodes e ++ nodes_all es) → AreTold start mid es c → IsTold mid new e c into → AreTold start new (Then e es) c
all_one start mid new e es c into d s m =
    record {
      told = (m.told, all_kept mid new es c (λ q i. m.same.after q (once_back (nodes e) (nodes_all es) d q i)) s.told);
      same = same_one start mid new (nodes e) (nodes_all es) s.same m.same;
    }

pub all_step : (arena : List BareNode) (start mid new : List Row) (levels : ℕ) (places : List ℕ) (k : ℕ) (c : Continuation) (into : Option ℕ) → k < length places → AreDistinct (nodes_all (to_execs (placed_all arena levels places)))
    → AreTold start mid (to_execs (placed_all arena levels (drop (k + 1) places))) c → IsTold mid new (placed_down arena levels (get_or places k 0)) c into → AreTold start new (to_execs (placed_all arena levels (drop k places))) c
all_step arena start mid new levels places k c into l d s m =
    let split = drop_at places k l in
    let once = subst (λ (ps : List ℕ). AreDistinct (nodes_all (to_execs (placed_all arena levels ps)))) split (once_behind arena levels places k d) in
    subst (λ (ps : List ℕ). AreTold start new (to_execs (placed_all arena levels ps)) c) (sym split)
    (all_one start mid new (placed_down arena levels (get_or places k 0)) (to_execs (placed_all arena levels (drop (k + 1) places))) c into once s m)

pub all_none : (arena : List BareNode) (start : List Row) (levels : ℕ) (places : List ℕ) (c : Continuation) → places ≡ [] → AreLinkedBack start → AreTold start start (to_execs (placed_all arena levels places)) c
all_none arena start levels places c h b =
    subst (λ (ps : List ℕ). AreTold start start (to_execs (placed_all arena levels ps)) c) (sym h) (record { told = tt; same = same_none start [] b })

led_behind : (arena : List BareNode) (rows : List Row) (levels : ℕ) (places : List ℕ) (k : ℕ) → LedAll arena rows (to_execs (placed_all arena levels places)) → LedAll arena rows (to_execs (placed_all arena levels (drop k places)))
led_behind arena rows levels places zero l = l
led_behind arena rows levels [] (suc k) l = l
led_behind arena rows levels (p ∷ places) (suc k) l = led_behind arena rows levels places k l.1

-- the element at an index is led
pub led_at : (arena : List BareNode) (rows : List Row) (levels : ℕ) (places : List ℕ) (k : ℕ) → k < length places → LedAll arena rows (to_execs (placed_all arena levels places)) → Led arena rows (placed_down arena levels (get_or places k 0))
led_at arena rows levels places k l s =
    (subst (λ (ps : List ℕ). LedAll arena rows (to_execs (placed_all arena levels ps))) (drop_at places k l) (led_behind arena rows levels places k s)).0

-- what is opened has no link
pub opens_behind : (first : Option ℕ) (c : Continuation) (r : ℕ) → ((q : ℕ) → link_of c ≡ Some q → q < r) → (q : ℕ) → link_of (opens_or first c) ≡ Some q → q < r
opens_behind None c r h q e = h q e
opens_behind (Some p) c r h q e = absurd (let w : None ≡ Some q = e in cc)

-- ---- one executable

pub told_nothing : (old : List Row) (e : Exec) (c : Continuation) → e ≡ Plan None None_left → AreLinkedBack old → IsTold old old e c None
told_nothing old e c h b = subst (λ (w : Exec). IsTold old old w c None) (sym h) (record { told = tt; into = refl; same = same_none old [] b })

pub plain_plan : (old new : List Row) (es : Execs) (c : Continuation) (q : Option ℕ) → first_into es ≡ into_of (Plan None es) → AreToldInOrder old new es c q → IsTold old new (Plan None es) c q
plain_plan old new es c q h s = record { told = s.told; into = s.into ∙ h; same = s.same }

-- a row of one's own, and what lies below
own_same : (old new : List Row) (p : ℕ) (c : Continuation) (ns : List ℕ) → p < length old → ((q : ℕ) → link_of c ≡ Some q → q < p) → AreLinkedBack old → AreSameBut (with_after old p c) new ns → AreSameBut old new (p ∷ ns)
own_same old new p c ns l before b s = same_both old (with_after old p c) new (p ∷ ns) (put_same old p c ns l before b) (same_more (with_after old p c) new ns (p ∷ ns) (λ q h. not_rest p ns q h) s)

own_told : (old new : List Row) (p : ℕ) (c : Continuation) (ns : List ℕ) → p < length old → has ns p ≡ false → AreSameBut (with_after old p c) new ns → after_at new p ≡ c
own_told old new p c ns l out s = s.after p out ∙ put_after old p c l

pub plan_told : (arena : List BareNode) (old new : List Row) (p : ℕ) (es : Execs) (c : Continuation) (into q : Option ℕ) → p < length old → AreDistinct (p ∷ nodes_all es) → Led arena old (Plan (Some p) es) → ((r : ℕ) → link_of c ≡ Some r → r < p) → AreLinkedBack old → into ≡ into_at old p → AreToldInOrder (with_after old p c) new es c q
    → IsTold old new (Plan (Some p) es) c into
plan_told arena old new p es c into q l d led before b i s =
    record { told = (own_told old new p c (nodes_all es) l d.0 s.same, s.told); into = i ∙ led.0.into; same = own_same old new p c (nodes_all es) l before b s.same }

none_shared : (es : Execs) → has_none (next_each es []) ≡ true → is_shared es ≡ false
none_shared es h = ap (nat_le 2) (going_none es (is_none (next_each es []) h))

-- a parallel leads to itself exactly where it is shared
other_place : (p : ℕ) (ns : List ℕ) (q : Option ℕ) (r : ℕ) → q ≡ Some r → has ns r ≡ true → has ns p ≡ false → is_number q p ≡ false
other_place p ns q r e i o = rw e (go (r == p) refl)
  where
    go : (t : Bool) → (r == p) ≡ t → (r == p) ≡ false
    go true f = absurd (clash (has ns p) (subst (λ (n : ℕ). has ns n ≡ true) (same_number r p f) i) o)
    go false f = f

pub shared_by : (p : ℕ) (es : Execs) → has (nodes_all es) p ≡ false → is_number (into_of (Par p es)) p ≡ is_shared es
shared_by p es out = go (is_shared es) refl (has_none (next_each es [])) refl
  where
    self : (p == p) ≡ true
    self = grind (arith, nat_tests)

    go : (b : Bool) → is_shared es ≡ b → (e : Bool) → has_none (next_each es []) ≡ e → is_number (into_of (Par p es)) p ≡ is_shared es
    go true h true e = absurd (not_both h e)
      where
        not_both : is_shared es ≡ true → has_none (next_each es []) ≡ true → ⊥
        not_both f g = clash (is_shared es) f (none_shared es g)
    go true h false e = rw (e, h) self
    go false h true e = rw (e, h) refl
    go false h false e =
        let l = lead_each es (Par p es) (is_some (next_each es []) e) in
        let i : into_of (Par p es) ≡ Some l.0 = rw (e, h) l.1 in
        other_place p (nodes_all es) (into_of (Par p es)) l.0 i l.2 out ∙ sym h

kind_told : (arena : List BareNode) (rows : List Row) (levels : ℕ) (k : Kind) (p : ℕ) (places : List ℕ) (shared : Bool) (c : Continuation) → HasArity k places → (k ≡ kind.Plan → ⊥) → (k ≡ kind.Par → shared ≡ is_shared (to_execs (placed_all arena levels places)))
    → after_at rows p ≡ c → ToldAll rows (to_execs (placed_all arena levels places)) (inner k shared p c) → Told rows (of_kind k (Some p) (placed_all arena levels places)) c
kind_told arena rows levels kind.Plan p places shared c a n h o s = absurd (n refl)
kind_told arena rows levels kind.Par p places shared c a n h o s = (o, subst (λ (b : Bool). ToldAll rows (to_execs (placed_all arena levels places)) (joins_or b p c)) (h refl) s)
kind_told arena rows levels kind.NonSeq p places shared c a n h o s = (o, s)
kind_told arena rows levels kind.Sel p places shared c a n h o s = (o, s)
kind_told arena rows levels kind.If p [] shared c a n h o s = absurd a
kind_told arena rows levels kind.If p (q ∷ []) shared c a n h o s = absurd a
kind_told arena rows levels kind.If p (q ∷ r ∷ []) shared c a n h o s = (o, s.0, s.1.0)
kind_told arena rows levels kind.If p (q ∷ r ∷ t ∷ places) shared c a n h o s = absurd a
kind_told arena rows levels kind.While p [] shared c a n h o s = absurd a
kind_told arena rows levels kind.While p (q ∷ []) shared c a n h o s = (o, s.0)
kind_told arena rows levels kind.While p (q ∷ r ∷ places) shared c a n h o s = absurd a
kind_told arena rows levels kind.Work p places shared c a n h o s = o
kind_told arena rows levels kind.Assign p places shared c a n h o s = o
kind_told arena rows levels kind.Set p places shared c a n h o s = o
kind_told arena rows levels kind.Wait p places shared c a n h o s = o
kind_told arena rows levels kind.Note p places shared c a n h o s = o

-- the row of its own, and those of its elements
pub own_led : (arena : List BareNode) (rows : List Row) (levels : ℕ) (k : Kind) (p : ℕ) (places : List ℕ) → Led arena rows (of_kind k (Some p) (placed_all arena levels places)) → IsLed arena rows p (of_kind k (Some p) (placed_all arena levels places))
own_led arena rows levels kind.Plan p places s = s.0
own_led arena rows levels kind.Par p places s = s.0
own_led arena rows levels kind.NonSeq p places s = s.0
own_led arena rows levels kind.Sel p places s = s.0
own_led arena rows levels kind.If p places s = s.0
own_led arena rows levels kind.While p places s = s.0
own_led arena rows levels kind.Work p places s = s
own_led arena rows levels kind.Assign p places s = s
own_led arena rows levels kind.Set p places s = s
own_led arena rows levels kind.Wait p places s = s
own_led arena rows levels kind.Note p places s = s

pub elements_led : (arena : List BareNode) (rows : List Row) (levels : ℕ) (k : Kind) (p : ℕ) (places : List ℕ) → HasArity k places → Led arena rows (of_kind k (Some p) (placed_all arena levels places)) → LedAll arena rows (to_execs (placed_all arena levels places))
elements_led arena rows levels kind.Plan p places a s = s.1
elements_led arena rows levels kind.Par p places a s = s.1
elements_led arena rows levels kind.NonSeq p places a s = s.1
elements_led arena rows levels kind.Sel p places a s = s.1
elements_led arena rows levels kind.If p [] a s = absurd a
elements_led arena rows levels kind.If p (q ∷ []) a s = absurd a
elements_led arena rows levels kind.If p (q ∷ r ∷ []) a s = (s.1, (s.2, tt))
elements_led arena rows levels kind.If p (q ∷ r ∷ t ∷ places) a s = absurd a
elements_led arena rows levels kind.While p [] a s = absurd a
elements_led arena rows levels kind.While p (q ∷ []) a s = (s.1, tt)
elements_led arena rows levels kind.While p (q ∷ r ∷ places) a s = absurd a
elements_led arena rows levels kind.Work p places a s = rw a tt
elements_led arena rows levels kind.Assign p places a s = rw a tt
elements_led arena rows levels kind.Set p places a s = rw a tt
elements_led arena rows levels kind.Wait p places a s = rw a tt
elements_led arena rows levels kind.Note p places a s = rw a tt

-- of a kind that is no workplan: its nodes stand once, its own apart from those of its elements
pub once_of : (arena : List BareNode) (levels : ℕ) (k : Kind) (p : ℕ) (places : List ℕ) → HasArity k places → (k ≡ kind.Plan → ⊥) → AreDistinct (nodes (of_kind k (Some p) (placed_all arena levels places))) → AreDistinct (p ∷ nodes_all (to_execs (placed_all arena levels places)))
once_of arena levels k p places a n d = subst AreDistinct (nodes_of arena levels k p places a n) d

-- what the elements' continuation links to lies before them
pub inner_behind : (k : Kind) (shared : Bool) (p : ℕ) (c : Continuation) → ((q : ℕ) → link_of c ≡ Some q → q < p) → (q r : ℕ) → link_of (inner k shared p c) ≡ Some q → p < r → q < r
inner_behind kind.Plan shared p c h q r e l = let f = h q e in omega (arith, f, l)
inner_behind kind.Par true p c h q r e l = let f : p ≡ q = same_some p q e in omega (arith, f, l)
inner_behind kind.Par false p c h q r e l = let f = h q e in omega (arith, f, l)
inner_behind kind.NonSeq shared p c h q r e l = let f : p ≡ q = same_some p q e in omega (arith, f, l)
inner_behind kind.Sel shared p c h q r e l = let f = h q e in omega (arith, f, l)
inner_behind kind.If shared p c h q r e l = let f = h q e in omega (arith, f, l)
inner_behind kind.While shared p c h q r e l = absurd (let w : None ≡ Some q = e in cc)
inner_behind kind.Work shared p c h q r e l = let f = h q e in omega (arith, f, l)
inner_behind kind.Assign shared p c h q r e l = let f = h q e in omega (arith, f, l)
inner_behind kind.Set shared p c h q r e l = let f = h q e in omega (arith, f, l)
inner_behind kind.Wait shared p c h q r e l = let f = h q e in omega (arith, f, l)
inner_behind kind.Note shared p c h q r e l = let f = h q e in omega (arith, f, l)

pub inner_told : (arena : List BareNode) (old new : List Row) (levels : ℕ) (k : Kind) (p : ℕ) (places : List ℕ) (c inside : Continuation) (into : Option ℕ) (shared : Bool) → p < length old → HasArity k places → (k ≡ kind.Plan → ⊥) → AreDistinct (nodes (of_kind k (Some p) (placed_all arena levels places)))
    → Led arena old (of_kind k (Some p) (placed_all arena levels places)) → ((r : ℕ) → link_of c ≡ Some r → r < p) → AreLinkedBack old → into ≡ into_at old p → shared ≡ is_number into p → inside ≡ inner k shared p c
    → AreTold (with_after old p c) new (to_execs (placed_all arena levels places)) inside → IsTold old new (of_kind k (Some p) (placed_all arena levels places)) c into
inner_told arena old new levels k p places c inside into shared l a n d led before b i sh ins s =
    let es = to_execs (placed_all arena levels places) in
    let once = once_of arena levels k p places a n d in
    let own = own_led arena old levels k p places led in
    record {
      told = kind_told arena new levels k p places shared c a n
          (λ e.
          sh ∙ (ap (λ (o : Option ℕ). is_number o p) (i ∙ (own.into ∙ ap (λ (j : Kind). into_of (of_kind j (Some p) (placed_all arena levels places))) e)) ∙ shared_by p es once.0))
          (own_told old new p c (nodes_all es) l once.0 s.same) (subst (λ (g : Continuation). ToldAll new es g) ins s.told);
      into = i ∙ own.into;
      same = subst (AreSameBut old new) (sym (nodes_of arena levels k p places a n)) (own_same old new p c (nodes_all es) l before b s.same);
    }

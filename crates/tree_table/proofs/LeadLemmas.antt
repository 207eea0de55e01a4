-- Where opening leads: what the pass from the leaves up makes.
use Rattle.std.specs.Prelude.{◌≡◌, ◌<◌, ◌≤◌, ◌+◌, ◌==◌, nat_le, ℕ, zero, suc, Bool, true, false, if◌then◌else◌, List, [], ◌∷◌, ◌++◌, length, drop, slice_get, slice_set, Option, Some, None}
use Rattle.std.specs.Option.{option_map_or}
use Rattle.std.proofs.Common.{refl, sym, ◌∙◌, ap, subst, arith, get_or, ◌⊎◌, inl, inr}
use Rattle.std.proofs.lemmas.Bool.Decides.{nat_tests}
use Rattle.exec_tree.specs.Exec.{Exec, Work, Leaf, Plan, Par, NonSeq, Sel, If, While, Execs, None_left, Then, nodes, nodes_all, has, AreDistinct, count}
use Rattle.exec_tree.specs.Arena.{to_execs, of_kind, HasArity}
use Rattle.exec_tree.specs.declared.kind.Kind.{Kind}
use Rattle.exec_tree.specs.declared.kind.Kind.TheVariants as kind
use Rattle.exec_tree.specs.declared.node.BareNode.{BareNode}
use Rattle.trace_law.specs.Next.{first_of_two, next, next_in_order, next_each}
use Rattle.trace_law.specs.Frames.{is_shared, one_where, going}
use Rattle.trace_law.specs.Leading.{has_none, leads, leads_first}
use Rattle.tree_table.specs.Placed.{place_for, placed_down, placed_all}
use Rattle.tree_table.specs.Within.{own_number, is_workplan}
use Rattle.tree_table.specs.Rows.{into_at, levels_at}
use Rattle.tree_table.specs.Filled.{first_place, one_for, into_of, first_into, into_by, with_row, IsLed, Led, LedAll, IsMade, AreMade}
use Rattle.tree_table.specs.declared.row.Continuation.TheVariants.{Done}
use Rattle.tree_table.specs.declared.row.Row.{Row}
use Rattle.tree_table.proofs.ListLemmas.{clash, has_left, has_right, has_self, has_rest, not_own, not_rest, not_left, not_right, once_back, get_set, get_other, length_set, drop_at}
use Rattle.tree_table.proofs.RowLemmas.{into_same, levels_same, back_set}
use Rattle.tree_table.proofs.NodeLemmas.{nodes_of, once_behind}

-- ---- an executable that has something to do leads to one with a number

pub is_none : (l : List ℕ) → has_none l ≡ true → l ≡ []
is_none [] h = refl
is_none (n ∷ l) h = absurd (cc)

pub is_some : (l : List ℕ) → has_none l ≡ false → l ≡ [] → ⊥
is_some [] h e = cc
is_some (n ∷ l) h e = cc

pub has_some : (l : List ℕ) → (l ≡ [] → ⊥) → has_none l ≡ false
has_some [] h = absurd (h refl)
has_some (n ∷ l) h = refl

-- e is no workplan, and its number is one of these
abbrev pub IsLead : Exec → List ℕ → Type 0
IsLead e ns = (q : ℕ) × (own_number e ≡ Some q) × (has ns q ≡ true) × (is_workplan e ≡ false)

lead_right : (e : Exec) (ms ns : List ℕ) → IsLead e ns → IsLead e (ms ++ ns)
lead_right e ms ns l = (l.0, l.1, has_right ms ns l.0 l.2, l.3)

lead_left : (e : Exec) (ms ns : List ℕ) → IsLead e ms → IsLead e (ms ++ ns)
lead_left e ms ns l = (l.0, l.1, has_left ms ns l.0 l.2, l.3)

lead_itself : (e : Exec) (n : ℕ) (ns : List ℕ) → own_number e ≡ Some n → is_workplan e ≡ false → IsLead e (n ∷ ns)
lead_itself e n ns h w = (n, h, has_self n ns, w)

if_shared : (b : Bool) (n : ℕ) (es : Execs) → IsLead (leads_first es (Par n es)) (nodes_all es) → IsLead (if b then Par n es else leads_first es (Par n es)) (n ∷ nodes_all es)
if_shared true n es l = lead_itself (Par n es) n (nodes_all es) refl refl
if_shared false n es l = (l.0, l.1, has_rest n (nodes_all es) l.0 l.2, l.3)

step_in_order : (e : Exec) (es : Execs) (itself : Exec) (b : Bool) → has_none (next e []) ≡ b → ((next e [] ≡ [] → ⊥) → IsLead (leads e) (nodes e)) → ((next_in_order es [] ≡ [] → ⊥) → IsLead (leads_first es itself) (nodes_all es)) → (first_of_two (next e []) (next_in_order es []) ≡ [] → ⊥)
    → IsLead (if b then leads_first es itself else leads e) (nodes e ++ nodes_all es)
step_in_order e es itself true h here later some =
    lead_right (leads_first es itself) (nodes e) (nodes_all es) (later (λ z. some (ap (λ (l : List ℕ). first_of_two l (next_in_order es [])) (is_none (next e []) h) ∙ z)))
step_in_order e es itself false h here later some = lead_left (leads e) (nodes e) (nodes_all es) (here (is_some (next e []) h))

step_each : (e : Exec) (es : Execs) (itself : Exec) (b : Bool) → has_none (next e []) ≡ b → ((next e [] ≡ [] → ⊥) → IsLead (leads e) (nodes e)) → ((next_each es [] ≡ [] → ⊥) → IsLead (leads_first es itself) (nodes_all es)) → (next e [] ++ next_each es [] ≡ [] → ⊥)
    → IsLead (if b then leads_first es itself else leads e) (nodes e ++ nodes_all es)
step_each e es itself true h here later some =
    lead_right (leads_first es itself) (nodes e) (nodes_all es) (later (λ z. some (ap (λ (l : List ℕ). l ++ next_each es []) (is_none (next e []) h) ∙ z)))
step_each e es itself false h here later some = lead_left (leads e) (nodes e) (nodes_all es) (here (is_some (next e []) h))

number_right : (n : Option ℕ) (es : Execs) (f : Exec) → IsLead f (nodes_all es) → IsLead f (nodes (Plan n es))
number_right None es f l = l
number_right (Some n) es f l = (l.0, l.1, has_rest n (nodes_all es) l.0 l.2, l.3)

mutual
  pub lead_of : (e : Exec) → (next e [] ≡ [] → ⊥) → IsLead (leads e) (nodes e)
  lead_of (Work n) h = lead_itself (Work n) n [] refl refl
  lead_of (Leaf n k) h = lead_itself (Leaf n k) n [] refl refl
  lead_of (Plan n es) h = number_right n es (leads_first es (Plan n es)) (lead_in_order es (Plan n es) h)
  lead_of (Par n es) h = if_shared (is_shared es) n es (lead_each es (Par n es) h)
  lead_of (NonSeq n es) h = lead_itself (NonSeq n es) n (nodes_all es) refl refl
  lead_of (Sel n es) h = lead_itself (Sel n es) n (nodes_all es) refl refl
  lead_of (If n a b) h = lead_itself (If n a b) n (nodes a ++ nodes b) refl refl
  lead_of (While n a) h = lead_itself (While n a) n (nodes a) refl refl

  pub lead_in_order : (es : Execs) (itself : Exec) → (next_in_order es [] ≡ [] → ⊥) → IsLead (leads_first es itself) (nodes_all es)
  lead_in_order None_left itself h = absurd (h refl)
  lead_in_order (Then e es) itself h = step_in_order e es itself (has_none (next e [])) refl (λ f. lead_of e f) (λ f. lead_in_order es itself f) h

  pub lead_each : (es : Execs) (itself : Exec) → (next_each es [] ≡ [] → ⊥) → IsLead (leads_first es itself) (nodes_all es)
  lead_each None_left itself h = absurd (h refl)
  lead_each (Then e es) itself h = step_each e es itself (has_none (next e [])) refl (λ f. lead_of e f) (λ f. lead_each es itself f) h

-- ---- the place to which opening leads, element by element

pub into_none : (e : Exec) → next e [] ≡ [] → into_of e ≡ None
into_none e h = ap (λ (l : List ℕ). if has_none l then None else own_number (leads e)) h

pub into_some : (e : Exec) → (next e [] ≡ [] → ⊥) → into_of e ≡ own_number (leads e)
into_some e h = ap (λ (b : Bool). if b then None else own_number (leads e)) (has_some (next e []) h)

pub one_for_into : (e : Exec) → one_for (into_of e) ≡ one_where (next e [])
one_for_into e = go (next e []) refl
  where
    go : (l : List ℕ) → next e [] ≡ l → one_for (into_of e) ≡ one_where (next e [])
    go [] h = ap one_for (into_none e h) ∙ sym (ap one_where h)
    go (n ∷ l) h =
        let some : next e [] ≡ [] → ⊥ = λ z. (let w : n ∷ l ≡ [] = sym h ∙ z in cc) in
        ap one_for (into_some e some ∙ (lead_of e some).1) ∙ sym (ap one_where h)

-- the first element's place, where the elements' next is nothing, and where it is something
first_lead : (e : Exec) (es : Execs) (itself : Exec) (l : List ℕ) (rest : List ℕ) → next e [] ≡ l → first_into es ≡ (if has_none rest then None else own_number (leads_first es itself)) → (b : Bool) → b ≡ (if has_none l then has_none rest else false)
    → first_into (Then e es) ≡ (if b then None else own_number (leads_first (Then e es) itself))
first_lead e es itself [] rest h rec b c =
    let here : first_into (Then e es) ≡ first_into es = ap (λ (o : Option ℕ). first_place o (first_into es)) (into_none e h) in
    let there : leads_first (Then e es) itself ≡ leads_first es itself = ap (λ (l : List ℕ). if has_none l then leads_first es itself else leads e) h in
    here ∙ (rec ∙ (ap (λ (t : Bool). if t then None else own_number (leads_first es itself)) (sym c) ∙ ap (λ (f : Exec). if b then None else own_number f) (sym there)))
first_lead e es itself (n ∷ l) rest h rec b c =
    let some : next e [] ≡ [] → ⊥ = λ z. (let w : n ∷ l ≡ [] = sym h ∙ z in cc) in
    let s = lead_of e some in
    let here : first_into (Then e es) ≡ Some s.0 = ap (λ (o : Option ℕ). first_place o (first_into es)) (into_some e some ∙ s.1) in
    let there : leads_first (Then e es) itself ≡ leads e = ap (λ (l : List ℕ). if has_none l then leads_first es itself else leads e) h in
    here ∙ (sym s.1 ∙ (ap (λ (f : Exec). own_number f) (sym there) ∙ ap (λ (t : Bool). if t then None else own_number (leads_first (Then e es) itself)) (sym c)))

none_in_order : (l rest : List ℕ) → has_none (first_of_two l rest) ≡ (if has_none l then has_none rest else false)
none_in_order [] rest = refl
none_in_order (n ∷ l) rest = refl

none_each : (l rest : List ℕ) → has_none (l ++ rest) ≡ (if has_none l then has_none rest else false)
none_each [] rest = refl
none_each (n ∷ l) rest = refl

pub first_in_order : (es : Execs) (itself : Exec) → first_into es ≡ (if has_none (next_in_order es []) then None else own_number (leads_first es itself))
first_in_order None_left itself = refl
first_in_order (Then e es) itself =
    first_lead e es itself (next e []) (next_in_order es []) refl (first_in_order es itself) (has_none (first_of_two (next e []) (next_in_order es []))) (none_in_order (next e []) (next_in_order es []))

pub first_each : (es : Execs) (itself : Exec) → first_into es ≡ (if has_none (next_each es []) then None else own_number (leads_first es itself))
first_each None_left itself = refl
first_each (Then e es) itself =
    first_lead e es itself (next e []) (next_each es []) refl (first_each es itself) (has_none (next e [] ++ next_each es [])) (none_each (next e []) (next_each es []))

none_of_one : (l m : List ℕ) (rest : ℕ) → l ++ m ≡ [] → (m ≡ [] → rest ≡ 0) → one_where l + rest ≡ 0
none_of_one [] m rest h f = omega (arith, f h)
none_of_one (n ∷ l) m rest h f = absurd (let w : n ∷ (l ++ m) ≡ [] = h in cc)

pub going_none : (es : Execs) → next_each es [] ≡ [] → going es [] ≡ 0
going_none None_left h = refl
going_none (Then e es) h = none_of_one (next e []) (next_each es []) (going es []) h (λ w. going_none es w)

one_few : (l : List ℕ) (m n : ℕ) → m ≤ n → one_where l + m ≤ suc n
one_few [] m n h = omega (arith, h)
one_few (x ∷ l) m n h = omega (arith, h)

pub going_few : (es : Execs) → going es [] ≤ count es
going_few None_left = omega arith
going_few (Then e es) = one_few (next e []) (going es []) (count es) (going_few es)

-- ---- the place to which opening leads, by kind

par_into : (p total : ℕ) (es : Execs) (first : Option ℕ) (number : ℕ) → first ≡ first_into es → number ≡ going es [] → into_by kind.Par p total first number ≡ into_of (Par p es)
par_into p total es first zero f h =
    let s : is_shared es ≡ false = ap (nat_le 2) (sym h) in
    f ∙ (first_each es (Par p es) ∙ ap (λ (b : Bool). if has_none (next_each es []) then None else own_number (if b then Par p es else leads_first es (Par p es))) (sym s))
par_into p total es first (suc zero) f h =
    let s : is_shared es ≡ false = ap (nat_le 2) (sym h) in
    f ∙ (first_each es (Par p es) ∙ ap (λ (b : Bool). if has_none (next_each es []) then None else own_number (if b then Par p es else leads_first es (Par p es))) (sym s))
par_into p total es first (suc (suc number)) f h =
    let two : nat_le 2 (suc (suc number)) ≡ true = grind (arith, nat_tests) in
    let s : is_shared es ≡ true = ap (nat_le 2) (sym h) ∙ two in
    let some : has_none (next_each es []) ≡ false = has_some (next_each es []) (λ z. (let w : suc (suc number) ≡ 0 = h ∙ going_none es z in omega (arith, w))) in
    let a : (if has_none (next_each es []) then None else own_number (if is_shared es then Par p es else leads_first es (Par p es))) ≡ Some p = rw (some, s) refl in
    sym a

nonseq_into : (arena : List BareNode) (levels p : ℕ) (places : List ℕ) (first : Option ℕ) (number : ℕ) → into_by kind.NonSeq p (length places) first number ≡ into_of (NonSeq p (to_execs (placed_all arena levels places)))
nonseq_into arena levels p [] first number = refl
nonseq_into arena levels p (q ∷ places) first number =
    let es = to_execs (placed_all arena levels (q ∷ places)) in
    let z : (0 == count es) ≡ false = grind (arith, nat_tests) in
    let a : (if has_none (first_of_two [] (if 0 == count es then [] else p ∷ [])) then None else Some p) ≡ Some p = rw z refl in
    sym a

pub kind_into : (arena : List BareNode) (levels p : ℕ) (k : Kind) (n : Option ℕ) (places : List ℕ) (first : Option ℕ) (number : ℕ) → first ≡ first_into (to_execs (placed_all arena levels places)) → number ≡ going (to_execs (placed_all arena levels places)) []
    → into_by k p (length places) first number ≡ into_of (of_kind k (place_for k n p) (placed_all arena levels places))
kind_into arena levels p kind.Plan n places first number f h =
    let es = to_execs (placed_all arena levels places) in f ∙ first_in_order es (Plan (place_for kind.Plan n p) es)
kind_into arena levels p kind.Par n places first number f h = par_into p (length places) (to_execs (placed_all arena levels places)) first number f h
kind_into arena levels p kind.NonSeq n places first number f h = nonseq_into arena levels p places first number
kind_into arena levels p kind.Sel n places first number f h = refl
kind_into arena levels p kind.If n places first number f h = refl
kind_into arena levels p kind.While n places first number f h = refl
kind_into arena levels p kind.Work n places first number f h = refl
kind_into arena levels p kind.Assign n places first number f h = refl
kind_into arena levels p kind.Set n places first number f h = refl
kind_into arena levels p kind.Wait n places first number f h = refl
kind_into arena levels p kind.Note n places first number f h = refl

-- ---- rows that stay

-- what leading tells is the same in the rows of these nodes
abbrev pub LeadAlike : List Row → List Row → List ℕ → Type 0
LeadAlike old new ns = (q : ℕ) → has ns q ≡ true → (into_at new q ≡ into_at old q) × (levels_at new q ≡ levels_at old q)

alike_left : (old new : List Row) (ms ns : List ℕ) → LeadAlike old new (ms ++ ns) → LeadAlike old new ms
alike_left old new ms ns h q i = h q (has_left ms ns q i)

alike_right : (old new : List Row) (ms ns : List ℕ) → LeadAlike old new (ms ++ ns) → LeadAlike old new ns
alike_right old new ms ns h q i = h q (has_right ms ns q i)

alike_rest : (old new : List Row) (n : ℕ) (ns : List ℕ) → LeadAlike old new (n ∷ ns) → LeadAlike old new ns
alike_rest old new n ns h q i = h q (has_rest n ns q i)

one_kept : (arena : List BareNode) (old new : List Row) (n : ℕ) (ns : List ℕ) (e : Exec) → LeadAlike old new (n ∷ ns) → IsLed arena old n e → IsLed arena new n e
one_kept arena old new n ns e h s =
    let own = h n (has_self n ns) in
    record { there = ap (λ (k : ℕ). placed_down arena k n) own.1 ∙ s.there; into = own.0 ∙ s.into }

mutual
  pub led_kept : (arena : List BareNode) (old new : List Row) (e : Exec) → LeadAlike old new (nodes e) → Led arena old e → Led arena new e
  led_kept arena old new (Work n) h s = one_kept arena old new n [] (Work n) h s
  led_kept arena old new (Leaf n k) h s = one_kept arena old new n [] (Leaf n k) h s
  led_kept arena old new (Plan None es) h s = led_all_kept arena old new es h s
  led_kept arena old new (Plan (Some n) es) h s =
      (one_kept arena old new n (nodes_all es) (Plan (Some n) es) h s.0, led_all_kept arena old new es (alike_rest old new n (nodes_all es) h) s.1)
  led_kept arena old new (Par n es) h s = (one_kept arena old new n (nodes_all es) (Par n es) h s.0, led_all_kept arena old new es (alike_rest old new n (nodes_all es) h) s.1)
  led_kept arena old new (NonSeq n es) h s =
      (one_kept arena old new n (nodes_all es) (NonSeq n es) h s.0, led_all_kept arena old new es (alike_rest old new n (nodes_all es) h) s.1)
  led_kept arena old new (Sel n es) h s = (one_kept arena old new n (nodes_all es) (Sel n es) h s.0, led_all_kept arena old new es (alike_rest old new n (nodes_all es) h) s.1)
  led_kept arena old new (If n a b) h s =
      let r = alike_rest old new n (nodes a ++ nodes b) h in
      (one_kept arena old new n (nodes a ++ nodes b) (If n a b) h s.0, led_kept arena old new a (alike_left old new (nodes a) (nodes b) r) s.1, led_kept arena old new b (alike_right old new (nodes a) (nodes b) r) s.2)
  led_kept arena old new (While n a) h s = (one_kept arena old new n (nodes a) (While n a) h s.0, led_kept arena old new a (alike_rest old new n (nodes a) h) s.1)

  pub led_all_kept : (arena : List BareNode) (old new : List Row) (es : Execs) → LeadAlike old new (nodes_all es) → LedAll arena old es → LedAll arena new es
  led_all_kept arena old new None_left h s = tt
  led_all_kept arena old new (Then e es) h s =
      (led_kept arena old new e (alike_left old new (nodes e) (nodes_all es) h) s.0, led_all_kept arena old new es (alike_right old new (nodes e) (nodes_all es) h) s.1)

pub rows_alike : (old new : List Row) (ns : List ℕ) → ((q : ℕ) → has ns q ≡ true → slice_get new q ≡ slice_get old q) → LeadAlike old new ns
rows_alike old new ns h q i = (into_same old new q (h q i), levels_same old new q (h q i))

-- ---- elements from the last to the first

made_one : (arena : List BareNode) (start mid new : List Row) (e : Exec) (es : Execs) (first into first' : Option ℕ) (number number' : ℕ) → AreDistinct (nodes e ++ nodes_all es) → AreMade arena start mid es first number → IsMade arena mid new e into → first' ≡ first_place into first → number' ≡ one_for into + number
    → AreMade arena start new (Then e es) first' number'
made_one arena start mid new e es first into first' number number' d s m f n =
    record {
      led = (m.led, led_all_kept arena mid new es (rows_alike mid new (nodes_all es) (λ q i. m.kept q (once_back (nodes e) (nodes_all es) d q i))) s.led);
      first_is = f ∙ (ap (λ (o : Option ℕ). first_place o first) m.into ∙ ap (λ (o : Option ℕ). first_place (into_of e) o) s.first_is);
      number_is = n ∙ (ap (λ (o : Option ℕ). one_for o + number) m.into ∙ (ap (λ (j : ℕ). j + number) (one_for_into e) ∙ ap (λ (j : ℕ). one_where (next e []) + j) s.number_is));
      kept = λ q h. m.kept q (not_left (nodes e) (nodes_all es) q h) ∙ s.kept q (not_right (nodes e) (nodes_all es) q h);
      long = m.long ∙ s.long;
      back = λ h. m.back (s.back h);
    }

pub made_step : (arena : List BareNode) (start mid new : List Row) (levels : ℕ) (places : List ℕ) (k : ℕ) (first into first' : Option ℕ) (number number' : ℕ) → k < length places → AreDistinct (nodes_all (to_execs (placed_all arena levels places)))
    → AreMade arena start mid (to_execs (placed_all arena levels (drop (k + 1) places))) first number → IsMade arena mid new (placed_down arena levels (get_or places k 0)) into → first' ≡ first_place into first → number' ≡ one_for into + number
    → AreMade arena start new (to_execs (placed_all arena levels (drop k places))) first' number'
made_step arena start mid new levels places k first into first' number number' l d s m f n =
    let split = drop_at places k l in
    let once = subst (λ (ps : List ℕ). AreDistinct (nodes_all (to_execs (placed_all arena levels ps)))) split (once_behind arena levels places k d) in
    subst (λ (ps : List ℕ). AreMade arena start new (to_execs (placed_all arena levels ps)) first' number') (sym split)
    (made_one arena start mid new (placed_down arena levels (get_or places k 0)) (to_execs (placed_all arena levels (drop (k + 1) places))) first into first' number number' once s m f n)

pub made_none : (arena : List BareNode) (start : List Row) (levels : ℕ) (places : List ℕ) → places ≡ [] → AreMade arena start start (to_execs (placed_all arena levels places)) None 0
made_none arena start levels places h =
    subst (λ (ps : List ℕ). AreMade arena start start (to_execs (placed_all arena levels ps)) None 0) (sym h)
    (record { led = tt; first_is = refl; number_is = refl; kept = λ q i. refl; long = refl; back = λ b. b })

-- ---- one executable

own_led : (arena : List BareNode) (rows : List Row) (p : ℕ) (r : Row) (e : Exec) → p < length rows → placed_down arena r.levels p ≡ e → r.into ≡ into_of e → IsLed arena (slice_set rows p r) p e
own_led arena rows p r e l h i =
    let s = get_set rows p r l in
    record {
      there = ap (λ (k : ℕ). placed_down arena k p) (ap (λ (o : Option Row). option_map_or (λ x. x.levels) o 0) s) ∙ h;
      into = ap (λ (o : Option Row). option_map_or (λ x. x.into) o None) s ∙ i;
    }

set_alike : (rows : List Row) (p : ℕ) (r : Row) (ns : List ℕ) → has ns p ≡ false → LeadAlike rows (slice_set rows p r) ns
set_alike rows p r ns out = rows_alike rows (slice_set rows p r) ns (λ q i. get_other rows p q r (λ e. clash (has ns p) (subst (λ (m : ℕ). has ns m ≡ true) (sym e) i) out))

led_of : (arena : List BareNode) (rows : List Row) (levels : ℕ) (k : Kind) (p : ℕ) (places : List ℕ) → HasArity k places → IsLed arena rows p (of_kind k (Some p) (placed_all arena levels places)) → LedAll arena rows (to_execs (placed_all arena levels places)) → Led arena rows (of_kind k (Some p) (placed_all arena levels places))
led_of arena rows levels kind.Plan p places a o s = (o, s)
led_of arena rows levels kind.Par p places a o s = (o, s)
led_of arena rows levels kind.NonSeq p places a o s = (o, s)
led_of arena rows levels kind.Sel p places a o s = (o, s)
led_of arena rows levels kind.If p [] a o s = absurd a
led_of arena rows levels kind.If p (q ∷ []) a o s = absurd a
led_of arena rows levels kind.If p (q ∷ r ∷ []) a o s = (o, s.0, s.1.0)
led_of arena rows levels kind.If p (q ∷ r ∷ t ∷ places) a o s = absurd a
led_of arena rows levels kind.While p [] a o s = absurd a
led_of arena rows levels kind.While p (q ∷ []) a o s = (o, s.0)
led_of arena rows levels kind.While p (q ∷ r ∷ places) a o s = absurd a
led_of arena rows levels kind.Work p places a o s = o
led_of arena rows levels kind.Assign p places a o s = o
led_of arena rows levels kind.Set p places a o s = o
led_of arena rows levels kind.Wait p places a o s = o
led_of arena rows levels kind.Note p places a o s = o

-- with a row of its own
own_made : (arena : List BareNode) (old mid : List Row) (levels p : ℕ) (e : Exec) (r : Row) (es : Execs) (first : Option ℕ) (number : ℕ) → p < length old → placed_down arena r.levels p ≡ e → r.into ≡ into_of e → r.after ≡ Done → nodes e ≡ p ∷ nodes_all es → AreDistinct (nodes e) → AreMade arena old mid es first number
    → (IsLed arena (slice_set mid p r) p e → LedAll arena (slice_set mid p r) es → Led arena (slice_set mid p r) e) → IsMade arena old (slice_set mid p r) e r.into
own_made arena old mid levels p e r es first number l h i d same once s build =
    let out : has (nodes_all es) p ≡ false = (subst AreDistinct same once).0 in
    let within : p < length mid = subst (λ (n : ℕ). p < n) (sym s.long) l in
    record {
      led = build (own_led arena mid p r e within h i) (led_all_kept arena mid (slice_set mid p r) es (set_alike mid p r (nodes_all es) out) s.led);
      into = i;
      kept = λ q o.
          let f = subst (λ (ns : List ℕ). has ns q ≡ false) same o in
          get_other mid p q r (not_own p (nodes_all es) q f) ∙ s.kept q (not_rest p (nodes_all es) q f);
      long = length_set mid p r ∙ s.long;
      back = λ b. back_set mid p r within d (s.back b);
    }

pub no_plan : (k : Kind) (n : Option ℕ) (p : ℕ) → (k ≡ kind.Plan → ⊥) → place_for k n p ≡ Some p
no_plan kind.Plan n p h = absurd (h refl)
no_plan kind.Par n p h = refl
no_plan kind.NonSeq n p h = refl
no_plan kind.Sel n p h = refl
no_plan kind.If n p h = refl
no_plan kind.While n p h = refl
no_plan kind.Work n p h = refl
no_plan kind.Assign n p h = refl
no_plan kind.Set n p h = refl
no_plan kind.Wait n p h = refl
no_plan kind.Note n p h = refl

pub is_plan : (k : Kind) → (k ≡ kind.Plan) ⊎ (k ≡ kind.Plan → ⊥)
is_plan kind.Plan = inl refl
is_plan kind.Par = inr (λ h. cc)
is_plan kind.NonSeq = inr (λ h. cc)
is_plan kind.Sel = inr (λ h. cc)
is_plan kind.If = inr (λ h. cc)
is_plan kind.While = inr (λ h. cc)
is_plan kind.Work = inr (λ h. cc)
is_plan kind.Assign = inr (λ h. cc)
is_plan kind.Set = inr (λ h. cc)
is_plan kind.Wait = inr (λ h. cc)
is_plan kind.Note = inr (λ h. cc)

-- of a kind whose place is known
kind_made_at : (arena : List BareNode) (old mid : List Row) (levels p : ℕ) (k : Kind) (at : Option ℕ) (places : List ℕ) (first : Option ℕ) (number : ℕ) (r : Row) → HasArity k places → p < length old → (at ≡ Some p) ⊎ ((at ≡ None) × (k ≡ kind.Plan)) → placed_down arena r.levels p ≡ of_kind k at (placed_all arena levels places) → r.into ≡ into_of (of_kind k at (placed_all arena levels places)) → r.after ≡ Done
    → AreDistinct (nodes (of_kind k at (placed_all arena levels places))) → AreMade arena old mid (to_execs (placed_all arena levels places)) first number → IsMade arena old (with_row at r mid) (of_kind k at (placed_all arena levels places)) r.into
kind_made_at arena old mid levels p k at places first number r a l (inl e) h i d once s =
    let es = placed_all arena levels places in
    subst (λ (o : Option ℕ). IsMade arena old (with_row o r mid) (of_kind k o es) r.into) (sym e)
    (own_made arena old mid levels p (of_kind k (Some p) es) r (to_execs es) first number l
    (subst (λ (o : Option ℕ). placed_down arena r.levels p ≡ of_kind k o es) e h)
    (subst (λ (o : Option ℕ). r.into ≡ into_of (of_kind k o es)) e i) d (all_nodes k (is_plan k) a)
    (subst (λ (o : Option ℕ). AreDistinct (nodes (of_kind k o es))) e once) s (λ o t. led_of arena (slice_set mid p r) levels k p places a o t))
  where
    all_nodes : (j : Kind) → (j ≡ kind.Plan) ⊎ (j ≡ kind.Plan → ⊥) → HasArity j places → nodes (of_kind j (Some p) (placed_all arena levels places)) ≡ p ∷ nodes_all (to_execs (placed_all arena levels places))
    all_nodes j (inl g) b = subst (λ (w : Kind). nodes (of_kind w (Some p) (placed_all arena levels places)) ≡ p ∷ nodes_all (to_execs (placed_all arena levels places))) (sym g) refl
    all_nodes j (inr g) b = nodes_of arena levels j p places b g
kind_made_at arena old mid levels p k at places first number r a l (inr e) h i d once s =
    let es = placed_all arena levels places in
    subst (λ (o : Option ℕ). IsMade arena old (with_row o r mid) (of_kind k o es) r.into) (sym e.0)
    (subst (λ (j : Kind). IsMade arena old mid (of_kind j None es) r.into) (sym e.1)
    (record {
      led = s.led;
      into = subst (λ (j : Kind). r.into ≡ into_of (of_kind j None es)) e.1 (subst (λ (o : Option ℕ). r.into ≡ into_of (of_kind k o es)) e.0 i);
      kept = s.kept;
      long = s.long;
      back = s.back;
    }))

pub place_is : (k : Kind) (n : Option ℕ) (p : ℕ) → (place_for k n p ≡ Some p) ⊎ ((place_for k n p ≡ None) × (k ≡ kind.Plan))
place_is k n p = go k n (is_plan k)
  where
    go : (j : Kind) (m : Option ℕ) → (j ≡ kind.Plan) ⊎ (j ≡ kind.Plan → ⊥) → (place_for j m p ≡ Some p) ⊎ ((place_for j m p ≡ None) × (j ≡ kind.Plan))
    go j m (inr g) = inl (no_plan j m p g)
    go j None (inl g) = inr (ap (λ (w : Kind). place_for w None p) g, g)
    go j (Some m) (inl g) = inl (ap (λ (w : Kind). place_for w (Some m) p) g)

pub kind_made : (arena : List BareNode) (old mid : List Row) (levels below p : ℕ) (k : Kind) (n : Option ℕ) (places : List ℕ) (first : Option ℕ) (number : ℕ) → HasArity k places → p < length old
    → placed_down arena levels p ≡ of_kind k (place_for k n p) (placed_all arena below places) → AreDistinct (nodes (of_kind k (place_for k n p) (placed_all arena below places))) → AreMade arena old mid (to_execs (placed_all arena below places)) first number
    → IsMade arena old (with_row (place_for k n p) (record { into = into_by k p (length places) first number; after = Done; levels = levels }) mid) (of_kind k (place_for k n p) (placed_all arena below places)) (into_by k p (length places) first number)
kind_made arena old mid levels below p k n places first number a l h once s =
    kind_made_at arena old mid below p k (place_for k n p) places first number (record { into = into_by k p (length places) first number; after = Done; levels = levels }) a l (place_is k n p) h
    (kind_into arena below p k n places first number s.first_is s.number_is) refl once s

pub made_nothing : (arena : List BareNode) (old : List Row) (e : Exec) → e ≡ Plan None None_left → IsMade arena old old e None
made_nothing arena old e h = subst (λ (w : Exec). IsMade arena old old w None) (sym h) (record { led = tt; into = refl; kept = λ q i. refl; long = refl; back = λ b. b })

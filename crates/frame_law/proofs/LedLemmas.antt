-- The executable where opening leads is found in the tree at its own number.
use Rattle.std.specs.Prelude.{◌≡◌, ◌⊎◌, ◌==◌, if◌then◌else◌, ℕ, List, zero, suc, Bool, true, false, [], ◌∷◌, ◌++◌, Option, Some, None}
use Rattle.std.proofs.Common.{refl, sym, ◌∙◌, ap, subst, inl, inr}
use Rattle.exec_tree.specs.Exec.{Exec, Work, Leaf, Plan, Par, NonSeq, Sel, If, While, Execs, None_left, Then, nodes, nodes_all, has, number_or_none, AreDistinct}
use Rattle.trace_law.specs.Next.{first_of_two, next, next_in_order}
use Rattle.trace_law.specs.Frames.{is_shared}
use Rattle.trace_law.specs.Leading.{has_none, leads, leads_first}
use Rattle.trace_law.proofs.StepLemmas.{distinct_left, distinct_right}
use Rattle.trace_law.proofs.LeadLemmas.{is_none, is_some}
use Rattle.trace_law.proofs.OfferLemmas.{chosen_yes, chosen_no}
use Rattle.frame_law.specs.Executable.{executable_at, executable_among, own_number, behind}
use Rattle.frame_law.specs.Onward.{Done}
use Rattle.frame_law.proofs.OutsideLemmas.{yes_left, yes_right, across_back}
use Rattle.frame_law.proofs.ChosenLemmas.{found_distinct}
use Rattle.frame_law.proofs.AlongLemmas.{not_in}
use Rattle.frame_law.proofs.ThroughLemmas.{through}
use Rattle.frame_law.proofs.StepUpLemmas.{own_found, own_inside}

-- f, of number r, is found within e
abbrev IsFound : Exec → Exec → ℕ → Type 0
IsFound e f r = (has (nodes e) r ≡ true) × (executable_at e r ≡ f)

abbrev IsFoundAmong : Execs → Exec → ℕ → Type 0
IsFoundAmong es f r = (has (nodes_all es) r ≡ true) × (executable_among es r ≡ f)

itself_found : (e : Exec) (r : ℕ) → own_number e ≡ Some r → IsFound e e r
itself_found e r h = (own_inside e r h, own_found e r h)

first_found : (e : Exec) (es : Execs) (f : Exec) (r : ℕ) → IsFound e f r → IsFoundAmong (Then e es) f r
first_found e es f r h = (yes_left (nodes e) (nodes_all es) r h.0, chosen_yes (has (nodes e) r) _ _ h.0 ∙ h.1)

rest_found : (e : Exec) (es : Execs) (f : Exec) (r : ℕ) → AreDistinct (nodes e ++ nodes_all es) → IsFoundAmong es f r → IsFoundAmong (Then e es) f r
rest_found e es f r d h =
    (yes_right (nodes e) (nodes_all es) r h.0, chosen_no (has (nodes e) r) _ _ (across_back (nodes e) (nodes_all es) r d h.0) ∙ h.1)

in_plan : (n : Option ℕ) (es : Execs) (f : Exec) (r : ℕ) → AreDistinct (nodes (Plan n es)) → IsFoundAmong es f r → IsFound (Plan n es) f r
in_plan n es f r d h =
    (yes_right (number_or_none n) (nodes_all es) r h.0, chosen_no (has (number_or_none n) r) _ _ (across_back (number_or_none n) (nodes_all es) r d h.0) ∙ h.1)

in_par : (n : ℕ) (es : Execs) (f : Exec) (r : ℕ) → AreDistinct (nodes (Par n es)) → IsFoundAmong es f r → IsFound (Par n es) f r
in_par n es f r d h = (yes_right (n ∷ []) (nodes_all es) r h.0, chosen_no (n == r) _ _ (not_in n r (nodes_all es) d.0 h.0) ∙ h.1)

-- it leads to itself, or to what is found among the elements
led_or : (e f : Exec) (es : Execs) (r : ℕ) → own_number f ≡ Some r → ((g : Exec) → IsFoundAmong es g r → IsFound e g r) → (f ≡ e) ⊎ IsFoundAmong es f r → IsFound e f r
led_or e f es r own within (inl g) = subst (λ (w : Exec). IsFound e w r) (sym g) (itself_found e r (subst (λ (w : Exec). own_number w ≡ Some r) g own))
led_or e f es r own within (inr g) = within f g

par_led : (n : ℕ) (es : Execs) (r : ℕ) → AreDistinct (nodes (Par n es)) → (own_number (leads_first es (Par n es)) ≡ Some r → (leads_first es (Par n es) ≡ Par n es) ⊎ IsFoundAmong es (leads_first es (Par n es)) r) → (b : Bool) → own_number (if b then Par n es else leads_first es (Par n es)) ≡ Some r → IsFound (Par n es) (if b then Par n es else leads_first es (Par n es)) r
par_led n es r d rec true own = itself_found (Par n es) r own
par_led n es r d rec false own = led_or (Par n es) (leads_first es (Par n es)) es r own (λ g h. in_par n es g r d h) (rec own)

first_led : (e : Exec) (es : Execs) (itself : Exec) (r : ℕ) → AreDistinct (nodes e ++ nodes_all es) → (own_number (leads e) ≡ Some r → IsFound e (leads e) r) → (own_number (leads_first es itself) ≡ Some r → (leads_first es itself ≡ itself) ⊎ IsFoundAmong es (leads_first es itself) r) → (b : Bool) → own_number (if b then leads_first es itself else leads e) ≡ Some r → ((if b then leads_first es itself else leads e) ≡ itself) ⊎ IsFoundAmong (Then e es) (if b then leads_first es itself else leads e) r
first_led e es itself r d first rest true own =
    elim (rest own) [
      | inl g ↦ inl g
      | inr g ↦ inr (rest_found e es (leads_first es itself) r d g)
    ]
first_led e es itself r d first rest false own = inr (first_found e es (leads e) r (first own))

mutual
  pub leads_found : (e : Exec) (r : ℕ) → AreDistinct (nodes e) → own_number (leads e) ≡ Some r → (has (nodes e) r ≡ true) × (executable_at e r ≡ leads e)
  leads_found (Work n) r d own = itself_found (Work n) r own
  leads_found (Leaf n k) r d own = itself_found (Leaf n k) r own
  leads_found (Plan n es) r d own =
      led_or (Plan n es) (leads_first es (Plan n es)) es r own (λ g h. in_plan n es g r d h) (leads_found_first es (Plan n es) r (distinct_right (number_or_none n) (nodes_all es) d) own)
  leads_found (Par n es) r d own = par_led n es r d (λ o. leads_found_first es (Par n es) r d.1 o) (is_shared es) own
  leads_found (NonSeq n es) r d own = itself_found (NonSeq n es) r own
  leads_found (Sel n es) r d own = itself_found (Sel n es) r own
  leads_found (If n a b) r d own = itself_found (If n a b) r own
  leads_found (While n a) r d own = itself_found (While n a) r own

  leads_found_first : (es : Execs) (itself : Exec) (r : ℕ) → AreDistinct (nodes_all es) → own_number (leads_first es itself) ≡ Some r → (leads_first es itself ≡ itself) ⊎ IsFoundAmong es (leads_first es itself) r
  leads_found_first None_left itself r d own = inl refl
  leads_found_first (Then e es) itself r d own =
      first_led e es itself r d (λ o. leads_found e r (distinct_left (nodes e) (nodes_all es) d) o)
      (λ o. leads_found_first es itself r (distinct_right (nodes e) (nodes_all es) d) o) (has_none (next e [])) own

-- ---- where that stands in a tree

in_tree : (e f g : Exec) (p r : ℕ) → AreDistinct (nodes e) → executable_at e p ≡ f → IsFound f g r → executable_at e r ≡ g
in_tree e f g p r d h i =
    (through e Done p r d (subst (λ (w : Exec). has (nodes w) r ≡ true) (sym h) i.0)).0 ∙ (ap (λ (w : Exec). executable_at w r) h ∙ i.1)

pub leads_found_in : (e : Exec) (p r : ℕ) → AreDistinct (nodes e) → own_number (leads (executable_at e p)) ≡ Some r → executable_at e r ≡ leads (executable_at e p)
leads_found_in e p r d own = in_tree e (executable_at e p) (leads (executable_at e p)) p r d refl (leads_found (executable_at e p) r (found_distinct e p d) own)

behind_distinct : (es : Execs) (i : ℕ) → AreDistinct (nodes_all es) → AreDistinct (nodes_all (behind es i))
behind_distinct None_left i d = d
behind_distinct (Then e es) zero d = distinct_right (nodes e) (nodes_all es) d
behind_distinct (Then e es) (suc i) d = behind_distinct es i (distinct_right (nodes e) (nodes_all es) d)

behind_found : (es : Execs) (i : ℕ) (f : Exec) (r : ℕ) → AreDistinct (nodes_all es) → IsFoundAmong (behind es i) f r → IsFoundAmong es f r
behind_found None_left i f r d h = h
behind_found (Then e es) zero f r d h = rest_found e es f r d h
behind_found (Then e es) (suc i) f r d h = rest_found e es f r d (behind_found es i f r (distinct_right (nodes e) (nodes_all es) d) h)

-- what is led to in a plan without a number is no such plan, so it is found among the elements
of_elements : (es : Execs) (r : ℕ) → AreDistinct (nodes_all es) → own_number (leads_first es (Plan None es)) ≡ Some r → IsFoundAmong es (leads_first es (Plan None es)) r
of_elements es r d own =
    elim (leads_found_first es (Plan None es) r d own) [
      | inl g ↦ absurd (let z : None ≡ Some r = sym (ap own_number g) ∙ own in cc)
      | inr g ↦ g
    ]

pub behind_found_in : (e : Exec) (n : Option ℕ) (p : ℕ) (es : Execs) (i r : ℕ) → AreDistinct (nodes e) → executable_at e p ≡ Plan n es → own_number (leads (Plan None (behind es i))) ≡ Some r → executable_at e r ≡ leads (Plan None (behind es i))
behind_found_in e n p es i r d h own =
    let dp = subst (λ (w : Exec). AreDistinct (nodes w)) h (found_distinct e p d) in
    let de = distinct_right (number_or_none n) (nodes_all es) dp in
    let g = behind_found es i _ r de (of_elements (behind es i) r (behind_distinct es i de) own) in
    in_tree e (Plan n es) (leads (Plan None (behind es i))) p r d h (in_plan n es _ r dp g)

-- ---- it has a number, where it has something to do

abbrev HasNumber : Exec → Type 0
HasNumber e = (r : ℕ) × (own_number e ≡ Some r)

number_or : (b : Bool) (f g : Exec) → (b ≡ true → HasNumber f) → (b ≡ false → HasNumber g) → HasNumber (if b then f else g)
number_or true f g h i = h refl
number_or false f g h i = i refl

mutual
  pub leads_numbered : (e : Exec) → (next e [] ≡ [] → ⊥) → (r : ℕ) × (own_number (leads e) ≡ Some r)
  leads_numbered (Work n) h = (n, refl)
  leads_numbered (Leaf n k) h = (n, refl)
  leads_numbered (Plan n es) h = order_numbered es (Plan n es) h
  leads_numbered (Par n es) h = number_or (is_shared es) (Par n es) (leads_first es (Par n es)) (λ b. (n, refl)) (λ b. first_numbered es (Par n es) (n, refl))
  leads_numbered (NonSeq n es) h = (n, refl)
  leads_numbered (Sel n es) h = (n, refl)
  leads_numbered (If n a b) h = (n, refl)
  leads_numbered (While n a) h = (n, refl)

  order_numbered : (es : Execs) (itself : Exec) → (next_in_order es [] ≡ [] → ⊥) → HasNumber (leads_first es itself)
  order_numbered None_left itself h = absurd (h refl)
  order_numbered (Then e es) itself h =
      number_or (has_none (next e [])) (leads_first es itself) (leads e)
      (λ b. order_numbered es itself (λ g. h (ap (λ (l : List ℕ). first_of_two l (next_in_order es [])) (is_none (next e []) b) ∙ g)))
      (λ b. leads_numbered e (is_some (next e []) b))

  first_numbered : (es : Execs) (itself : Exec) → HasNumber itself → HasNumber (leads_first es itself)
  first_numbered None_left itself h = h
  first_numbered (Then e es) itself h =
      number_or (has_none (next e [])) (leads_first es itself) (leads e) (λ b. first_numbered es itself h) (λ b. leads_numbered e (is_some (next e []) b))

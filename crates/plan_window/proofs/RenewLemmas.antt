-- The renewal of tickets one after another.
use Rattle.std.proofs.Common.{◌≡◌, ◌≤◌, ◌<◌, ◌+◌, ◌==◌, ℕ, zero, suc, List, [], ◌∷◌, Option, Some, None, IsSome, length, map, get_or, set, refl, sym, ◌∙◌, ap, subst, arith}
use Rattle.std.specs.List.{slice_get}
use Rattle.std.specs.Option.{option_map}
use Rattle.std.proofs.lemmas.List.{length-map}
use Rattle.std.proofs.lemmas.Bool.{cond-true, cond-false, eq-eqb, ne_eqb}
use Rattle.plan_store.specs.Stage.{Wanted}
use Rattle.plan_store.specs.declared.ticket.Ticket.{Ticket}
use Rattle.plan_store.specs.StepAhead.{StepAhead, ticket_of, is_step, step_in, ticket_in, told, renewed}
use Rattle.plan_store.specs.Windows.{AreWindows}
use Rattle.plan_store.proofs.ListLemmas.{filter_nothing, found_among}
use Rattle.plan_store.proofs.StepLemmas.{changed_at}
use Rattle.plan_store.proofs.StoreLemmas.{some_at}
use Rattle.plan_law.specs.Tickets.{renewal, all_renewed}

-- so many tickets are renewed
abbrev pub renewed_to : (ℕ → ℕ) → ℕ → List StepAhead → List StepAhead
renewed_to version zero all = all
renewed_to version (suc i) [] = []
renewed_to version (suc i) (a ∷ all) = renewal version a ∷ renewed_to version i all

pub length-renewed_to : (version : ℕ → ℕ) (i : ℕ) (all : List StepAhead) → length (renewed_to version i all) ≡ length all
length-renewed_to version zero all = refl
length-renewed_to version (suc i) [] = refl
length-renewed_to version (suc i) (a ∷ all) = ap suc (length-renewed_to version i all)

-- the next one is as it was
pub next_to : (version : ℕ → ℕ) (i : ℕ) (all : List StepAhead) → slice_get (renewed_to version i all) i ≡ slice_get all i
next_to version zero all = refl
next_to version (suc i) [] = refl
next_to version (suc i) (a ∷ all) = next_to version i all

-- it is renewed, or needn't be
pub one_more : (version : ℕ → ℕ) (i : ℕ) (all : List StepAhead) (a : StepAhead) → slice_get all i ≡ Some a → renewed_to version (suc i) all ≡ set (renewed_to version i all) i (renewal version a)
one_more version zero [] a at = cc
one_more version zero (b ∷ all) a at = (let same : b ≡ a = cc in ap (λ (x : StepAhead). renewal version x ∷ all) same)
one_more version (suc i) [] a at = cc
one_more version (suc i) (b ∷ all) a at = ap (λ (xs : List StepAhead). renewal version b ∷ xs) (one_more version i all a at)

pub none_more : (version : ℕ → ℕ) (i : ℕ) (all : List StepAhead) (a : StepAhead) → slice_get all i ≡ Some a → renewal version a ≡ a → renewed_to version (suc i) all ≡ renewed_to version i all
none_more version zero [] a at same = cc
none_more version zero (b ∷ all) a at same = (let is : b ≡ a = cc in ap (λ (x : StepAhead). renewal version x ∷ all) is ∙ ap (λ (x : StepAhead). x ∷ all) same ∙ ap (λ (x : StepAhead). x ∷ all) (sym is))
none_more version (suc i) [] a at same = cc
none_more version (suc i) (b ∷ all) a at same = ap (λ (xs : List StepAhead). renewal version b ∷ xs) (none_more version i all a at same)

pub all_to : (version : ℕ → ℕ) (i : ℕ) (all : List StepAhead) → length all ≤ i → renewed_to version i all ≡ all_renewed version all
all_to version zero [] le = refl
all_to version zero (a ∷ all) le = absurd (omega (arith, le))
all_to version (suc i) [] le = refl
all_to version (suc i) (a ∷ all) le = ap (λ (xs : List StepAhead). renewal version a ∷ xs) (all_to version i all (omega (arith, le)))

pub stays : (version : ℕ → ℕ) (a : StepAhead) → a.version ≡ version a.step → renewal version a ≡ a
stays version a e = cond-true (a.version == version a.step) a (told (version a.step) Wanted a) (eq-eqb a.version (version a.step) e)

pub turns : (version : ℕ → ℕ) (a : StepAhead) → (a.version ≡ version a.step → ⊥) → renewal version a ≡ told (version a.step) Wanted a
turns version a e = cond-false (a.version == version a.step) a (told (version a.step) Wanted a) (ne_eqb a.version (version a.step) e)

-- the ticket that is looked at
ticket_at : (xs : List StepAhead) (i : ℕ) (a : StepAhead) (t : Ticket) → slice_get xs i ≡ Some a → get_or (map ticket_of xs) i t ≡ ticket_of a
ticket_at [] zero a t at = cc
ticket_at [] (suc i) a t at = cc
ticket_at (x ∷ xs) zero a t at = (let same : x ≡ a = cc in ap ticket_of same)
ticket_at (x ∷ xs) (suc i) a t at = ticket_at xs i a t at

is_there : (o : Option StepAhead) → (o ≡ None → ⊥) → IsSome (option_map ticket_of o)
is_there None h = absurd (h refl)
is_there (Some a) h = refl

-- in the loop's turn at index i, where the tickets so far are renewed: the ticket there
pub record Turn (version : ℕ → ℕ) (i : ℕ) (old cur : List StepAhead) (seen : Ticket) : Type 0 where
  pub own : StepAhead
  pub at : slice_get old i ≡ Some own
  pub is : seen ≡ ticket_of own
  pub there : IsSome (ticket_in cur seen.step)
  pub renews : (v : ℕ) → v ≡ version seen.step → (seen.version ≡ v → ⊥) → renewed cur seen.step v ≡ renewed_to version (i + 1) old
  pub leaves : (v : ℕ) → v ≡ version seen.step → seen.version ≡ v → cur ≡ renewed_to version (i + 1) old

renewed_next : (version : ℕ → ℕ) (i : ℕ) (old : List StepAhead) (a : StepAhead) → AreWindows (renewed_to version i old) → slice_get old i ≡ Some a → (a.version ≡ version a.step → ⊥) → renewed (renewed_to version i old) a.step (version a.step) ≡ renewed_to version (i + 1) old
renewed_next version i old a w at other =
    let on : suc i ≡ i + 1 = omega arith in
    let cur = renewed_to version i old in
    sym (changed_at a.step (told (version a.step) Wanted) cur i a (w.once a.step) (next_to version i old ∙ at) (eq-eqb a.step a.step refl))
    ∙ ap (set cur i) (sym (turns version a other))
    ∙ sym (one_more version i old a at)
    ∙ ap (λ (j : ℕ). renewed_to version j old) on

pub turn : (version : ℕ → ℕ) (i : ℕ) (old cur : List StepAhead) (tickets : List Ticket) (t : Ticket) → cur ≡ renewed_to version i old → tickets ≡ map ticket_of cur → AreWindows cur → i < length tickets → Turn version i old cur (get_or tickets i t)
turn version i old cur tickets t now are w low =
    let within : i < length old = omega (arith, low, ap length are, length-map cur ticket_of, ap length now, length-renewed_to version i old) in
    let found = some_at old i within in
    let a = found.0 in
    let here : slice_get cur i ≡ Some a = ap (λ (xs : List StepAhead). slice_get xs i) now ∙ next_to version i old ∙ found.1 in
    let seen : get_or tickets i t ≡ ticket_of a = ap (λ (ts : List Ticket). get_or ts i t) are ∙ ticket_at cur i a t here in
    let on : suc i ≡ i + 1 = omega arith in
    let v = subst AreWindows now w in
    subst (Turn version i old cur) (sym seen) (record {
      own = a;
      at = found.1;
      is = refl;
      there = is_there (step_in cur a.step) (λ none. absurd (let one = found_among (is_step a.step) cur i a here (eq-eqb a.step a.step refl) in omega (arith, one, ap length (filter_nothing (is_step a.step) cur none))));
      renews = λ u e other. ap (λ (k : ℕ). renewed cur a.step k) e ∙ ap (λ (xs : List StepAhead). renewed xs a.step (version a.step)) now ∙ renewed_next version i old a v found.1 (λ same. other (same ∙ sym e));
      leaves = λ u e same. now ∙ sym (none_more version i old a found.1 (stays version a (same ∙ e))) ∙ ap (λ (j : ℕ). renewed_to version j old) on;
    })

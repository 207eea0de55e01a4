-- How legal runs end, and what is tested of an entry.
use Rattle.std.specs.Prelude.{◌≡◌, ◌≢◌, ◌↔◌, ℕ, true, List, [], ◌∷◌, ◌++◌, slice_get, Option, Some, None, IsSomeAnd}
use Rattle.std.specs.List.{list_all}
use Rattle.exec_tree.specs.Exec.{Exec, nodes, AreDistinct, has}
use Rattle.trace_law.specs.Of.{is_of, number_of}
use Rattle.trace_law.specs.Whole.{Whole}
use Rattle.trace_law.specs.Part.{Part}
use Rattle.trace_law.specs.Next.{next}
use Rattle.trace_law.specs.Offer.{offer, IsOffered}
use Rattle.run_log.specs.declared.entry.Entry.{Entry}
use Rattle.run_log.specs.declared.entry.Entry.TheVariants.{Dispatch, Block, End, Pick, Test, Assign, Set, Pass, Note, Edit}
use Rattle.run_law.specs.Rules.{Rules}
use Rattle.run_law.specs.Fits.{Fits, FitsNode, plain, next_of, is_enabled, judged}
use Rattle.run_law.specs.Legal.{Legal}
use Rattle.run_law.specs.Endings.{IsDone, IsBlocked, waits}
use Rattle.run_law.specs.Sound.{IsSound}
use Rattle.run_law.specs.Tested.{IsTested}
use Rattle.run_law.proofs.GrowthLemmas.{done_fits}

abbrev pub WholeByNext : Type 0
WholeByNext = (e : Exec) (t : List Entry) → Part e t → (Whole e t ↔ (next e t ≡ []))

pub done_is : WholeByNext → (r : Rules) (t : List Entry) → Part (r.tree t) (plain t) → IsDone r t ↔ ((slice_get r.edits (judged t) ≡ None) × (next_of r t ≡ []))
done_is law r t part = (λ d. (d.judged_all, (law (r.tree t) (plain t) part).0 d.whole), λ z. record { whole = (law (r.tree t) (plain t) part).1 z.1; judged_all = z.0 })

pub blocked_is : WholeByNext → (r : Rules) (t : List Entry) → Part (r.tree t) (plain t) → IsBlocked r t ↔ ((slice_get r.edits (judged t) ≡ None) × (next_of r t ≢ []) × (list_all (waits r t) (next_of r t) ≡ true))
blocked_is law r t part = (
  λ b. (b.judged_all, (λ e. b.not_whole ((law (r.tree t) (plain t) part).1 e)), b.waiting),
  λ z. record { not_whole = λ w. z.1 ((law (r.tree t) (plain t) part).0 w); waiting = z.2; judged_all = z.0 },
)

-- ---- what is tested

node_of : (r : Rules) (t : List Entry) (x : Entry) (n : ℕ) → number_of x ≡ Some n → Fits r t x → FitsNode r t x
node_of r t (Dispatch m v) n e f = f
node_of r t (Block m k b) n e f = f
node_of r t (End m) n e f = f
node_of r t (Pick m k) n e f = f
node_of r t (Test m b) n e f = f
node_of r t (Assign m v) n e f = f
node_of r t (Set m) n e f = f
node_of r t (Pass m) n e f = f
node_of r t (Note m) n e f = f
node_of r t (Edit i w) n e f = absurd (cc)

pub at_number : (P : ℕ → Type 0) (o : Option ℕ) (n : ℕ) → o ≡ Some n → IsSomeAnd o P → P n
at_number P o n e h = rw e at h

pub in_number : (ns : List ℕ) (x : Entry) (n : ℕ) → number_of x ≡ Some n → is_of ns x ≡ true → has ns n ≡ true
in_number ns x n e h = rw e at h

pub tested_is : ((e : Exec) → Part e []) → ((e : Exec) (t : List Entry) (x : Entry) (m : ℕ) → AreDistinct (nodes e) → Part e t → number_of x ≡ Some m → is_of (next e t) x ≡ true → IsOffered (offer e t m) m x → Part e (t ++ x ∷ []))
    → ((e : Exec) (t : List Entry) (x : Entry) (m : ℕ) → AreDistinct (nodes e) → Part e (t ++ x ∷ []) → number_of x ≡ Some m → (is_of (next e t) x ≡ true) × IsOffered (offer e t m) m x)
    → (r : Rules) (t : List Entry) (n : ℕ) (x : Entry) → IsSound r → Legal r t → number_of x ≡ Some n → Fits r t x ↔ IsTested r t n x
tested_is nil follows offered r t n x sound legal e = (
  λ f. (let g = node_of r t x n e f in let z = offered (r.tree t) (plain t) x n (sound.distinct t legal) g.goes_on e in
      record { not_due = g.not_due; is_next = in_number (next_of r t) x n e z.0; enabled = at_number (λ m. is_enabled r t m ≡ true) (number_of x) n e g.enabled; offered = z.1; values = g.values }),
  λ g. done_fits nil follows r t n x sound legal g.not_due g.is_next g.enabled e g.offered g.values,
)

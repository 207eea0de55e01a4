-- What a node does next, by its kind.
use Rattle.std.specs.Prelude.{◌≡◌, ℕ, true, false, ◌==◌, unwrap_or, List, [], Option}
use Rattle.std.proofs.Common.{refl, sym, subst, ◌∙◌, arith}
use Rattle.std.proofs.lemmas.Bool.Decides.{nat_tests}
use Rattle.exec_tree.specs.Exec.{Exec, count}
use Rattle.exec_tree.specs.Arena.{to_execs, first_of, number_or_zero, of_kind}
use Rattle.exec_tree.specs.declared.kind.Kind.{Kind}
use Rattle.exec_tree.specs.declared.kind.Kind.TheVariants as kind
use Rattle.run_log.specs.declared.entry.Entry.{Entry}
use Rattle.trace_law.specs.Own.{picks}
use Rattle.trace_law.specs.Offer.{Picks, offer}
use Rattle.trace_law.specs.Last.{body_from}
use Rattle.trace_law.proofs.ArenaLemmas.{number_is}
use Rattle.trace_law.proofs.LoopLemmas.{body_is}

eq_self : (n : ℕ) → (n == n) ≡ true
eq_self n = grind (arith)

-- the node's own number
pub own : (o : Option ℕ) (n m : ℕ) → n ≡ unwrap_or o 0 → n ≡ m → (number_or_zero o == m) ≡ true
own o n m e f = subst (λ (k : ℕ). (k == m) ≡ true) (sym f ∙ e ∙ number_is o) (eq_self m)

pub sel_own : (k : Kind) (o : Option ℕ) (es : List Exec) (t : List Entry) (m c : ℕ) → k ≡ kind.Sel → (number_or_zero o == m) ≡ true → count (to_execs es) ≡ c → Picks c [] ≡ offer (of_kind k o es) t m
sel_own k o es t m c e f g = rw (e, f, g) refl

pub nonseq_own : (k : Kind) (o : Option ℕ) (es : List Exec) (t : List Entry) (m c : ℕ) → k ≡ kind.NonSeq → (number_or_zero o == m) ≡ true → count (to_execs es) ≡ c → Picks c (picks (number_or_zero o) t) ≡ offer (of_kind k o es) t m
nonseq_own k o es t m c e f g = rw (e, f, g) refl

pub while_body : (k : Kind) (o : Option ℕ) (es : List Exec) (t : List Entry) (m : ℕ) → k ≡ kind.While → (number_or_zero o == m) ≡ false → offer (first_of es) (body_from (number_or_zero o) [] t) m ≡ offer (of_kind k o es) t m
while_body k o es t m e f = rw (e, f, body_is (number_or_zero o) t) refl

-- another's
pub other : (o : Option ℕ) (n m : ℕ) → n ≡ unwrap_or o 0 → ¬ (n ≡ m) → (number_or_zero o == m) ≡ false
other o n m e f = let g : ¬ (number_or_zero o ≡ m) = λ z. f (e ∙ number_is o ∙ z) in grind (arith, nat_tests)

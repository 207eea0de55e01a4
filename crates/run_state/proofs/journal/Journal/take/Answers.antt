use Rattle.std.proofs.Common.{◌≡◌, ◌∙◌, sym, ap, subst, ◌<◌, ◌≤◌, ◌+◌, ◌++◌, ◌∷◌, [], ℕ, List, length, take, drop}
use Rattle.std.specs.Prelude.{vec_capacity}
use Rattle.run_log.specs.declared.entry.Entry.{Entry}
use Rattle.run_state.specs.Pages.{Pages, ComesNext, IsFirstOf}
use Rattle.run_state.specs.declared.journal.Journal.TheInside.{Inside}
use Rattle.run_state.proofs.JournalLemmas.{pages_at, turned, pushed, passed}
use Rattle.run_state.proofs.journal.Journal.take.Goals as goal
use Rattle.run_state.proofs.journal.Journal.take.Goals.{then-self-as_slice, else-self-as_slice}

pub returns : goal.returns
returns c =
    let items = c.self.inside.entries.items in
    let count = c.self.inside.count in
    let room = vec_capacity c.self.inside.entries in
    let x = c.args.entry in
    let first : IsFirstOf (drop count items) (take count items) room x = subst (λ (p : Pages). ComesNext p x) (sym c.self.view_is) c.requires in
    let shown : Inside → Type 0 = λ (i : Inside). pages_at (i.count + 1) i.entries.items (vec_capacity i.entries) ≡ turned (pages_at count items room) x in
    subst (λ (p : Pages). pages_at (c.if-self-as_slice.self-inside.count + 1) c.if-self-as_slice.self-inside.entries.items (vec_capacity c.if-self-as_slice.self-inside.entries) ≡ turned p x) c.self.view_is
    (elim c.if-self-as_slice.branch [
      | then-self-as_slice w ↦
          let same : count ≡ length items = w.if-self-as_slice.true ∙ ap length c.as_slice.ensures.value in
          subst shown (sym w.self-inside-is)
          (subst (λ (cap : ℕ). pages_at (count + 1) w.push_reserved.new.self.items cap ≡ turned (pages_at count items room) x) (sym w.push_reserved.ensures.capacity)
          (subst (λ (u : List Entry). pages_at (count + 1) u room ≡ turned (pages_at count items room) x) (sym w.push_reserved.ensures.items) (pushed count room items x same)))
      | else-self-as_slice w ↦
          let apart : count ≡ length items → ⊥ = λ e. w.if-self-as_slice.false (e ∙ sym (ap length c.as_slice.ensures.value)) in
          subst shown (sym w.self-inside-is) (passed count room items x apart c.self.invariant first)
    ])

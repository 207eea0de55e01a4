use Rattle.std.proofs.Common.{◌≡◌, ◌∙◌, ◌<◌, ◌^◌, sym, ap, subst, [], List, length, take, drop}
use Rattle.run_log.specs.declared.entry.Entry.{Entry}
use Rattle.run_state.specs.Pages.{Pages}
use Rattle.run_state.proofs.JournalLemmas.{drop_none, take_all}
use Rattle.run_state.proofs.journal.Journal.into_log.Goals as goal

pub of-requires : goal.of-requires
of-requires c =
    let items = c.self.inside.entries.items in
    let none : drop c.self.inside.count items ≡ [] = ap (λ (p : Pages). p.coming) c.self.view_is ∙ c.requires.whole in
    let all : take c.self.inside.count items ≡ items = take_all c.self.inside.count items (drop_none c.self.inside.count items none) in
    subst (λ (u : List Entry). length u < 2 ^ 32) all (subst (λ (p : Pages). length p.list < 2 ^ 32) (sym c.self.view_is) c.requires.short)

pub returns : goal.returns
returns c =
    let items = c.self.inside.entries.items in
    let none : drop c.self.inside.count items ≡ [] = ap (λ (p : Pages). p.coming) c.self.view_is ∙ c.requires.whole in
    c.of.ensures ∙ (sym (take_all c.self.inside.count items (drop_none c.self.inside.count items none)) ∙ ap (λ (p : Pages). p.list) c.self.view_is)

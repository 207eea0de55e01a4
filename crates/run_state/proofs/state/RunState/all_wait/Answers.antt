use Rattle.std.proofs.Common.{◌≡◌, ◌∙◌, ◌<◌, subst, sym, ℕ, List, length}
use Rattle.std.specs.Prelude.{max}
use Rattle.std.specs.List.{list_all}
use Rattle.project_store.specs.Entities.{entity_at}
use Rattle.exec_tree.specs.TreeFault.{nothing_seen}
use Rattle.exec_tree.specs.TreeOf.{tree_of}
use Rattle.exec_tree.specs.Built.{main_of, channel_from}
use Rattle.exec_tree.specs.declared.limits.TheConstants.{MAX_CHANNELS}
use Rattle.trace_law.specs.State.{marks}
use Rattle.run_law.specs.Fits.{next_of, plain}
use Rattle.run_law.specs.Endings.{waits}
use Rattle.project_law.specs.ProjectRules.{rules_of}
use Rattle.run_state.specs.Kept.{State}
use Rattle.run_state.proofs.QuestionLemmas.{told}
use Rattle.run_state.proofs.ReadyLemmas.{all_wait_is, within_limit}
use Rattle.run_state.proofs.state.RunState.all_wait.Goals as goal

pub all_wait-requires-clause-at : goal.all_wait-requires-clause-at
all_wait-requires-clause-at c = (plain c.self.inside.journal.list, marks c.self.inside.journal.list, c.self.invariant.0.at, c.self.invariant.0.sorted)

pub all_wait-requires-clause-channels : goal.all_wait-requires-clause-channels
all_wait-requires-clause-channels c =
    let p = c.self.inside.store in
    let k = c.self.invariant.0 in
    let channels = c.channel_table.result.now in
    let few : (n : ℕ) → channel_from nothing_seen (entity_at p) (main_of p) n < max 1 (length channels) =
    λ n. subst (λ (cs : List ℕ). channel_from nothing_seen (entity_at p) (main_of p) n < max 1 (length cs)) (sym (c.channel_table.ensures.table ∙ k.tree_is.channels)) (c.trees_are_sound.ensures.channels nothing_seen (entity_at p) (main_of p) n) in
    λ n. subst (λ (m : ℕ). m < MAX_CHANNELS) (sym (c.trees_tell.ensures.channels nothing_seen (entity_at p) (main_of p) n c.self.inside.tree k.tree_is))
    (within_limit (channel_from nothing_seen (entity_at p) (main_of p) n) channels (few n) c.channel_table.ensures.few)

pub returns : goal.returns
returns c =
    let p = c.self.inside.store in
    let s = c.self.inside.edits.script in
    let t = c.self.inside.journal.list in
    let k = c.self.invariant.0 in
    let e = tree_of (entity_at p) (main_of p) in
    let d = c.trees_are_sound.ensures.distinct nothing_seen (entity_at p) (main_of p) k.tree_is.no_fault in
    let tells = told p s c.self.inside.tree t k.tree_is (λ n. c.trees_tell.ensures.channels nothing_seen (entity_at p) (main_of p) n c.self.inside.tree k.tree_is)
    (λ n. c.trees_tell.ensures.roles nothing_seen (entity_at p) (main_of p) n c.self.inside.tree k.tree_is) (c.next_stands_in_preorder.ensures.order e (plain t) d) in
    subst (λ (v : State). c.all_wait.result ≡ list_all (waits (rules_of v.project v.script) v.list) (next_of (rules_of v.project v.script) v.list)) c.self.view_is
    (c.all_wait.ensures (plain t) (marks t) k.at k.sorted ∙ all_wait_is (rules_of p s) t c.self.inside.tree tells)

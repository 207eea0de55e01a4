use Rattle.std.proofs.Common.{◌≡◌, ◌∙◌, ◌<◌, subst, sym, ℕ, List, length, arith}
use Rattle.std.specs.Prelude.{max, None, IfSome, option_map}
use Rattle.tree_table.specs.Placed.{number_at}
use Rattle.run_frames.specs.Standing.{IsPlace}
use Rattle.project_store.specs.Entities.{entity_at}
use Rattle.exec_tree.specs.TreeFault.{nothing_seen}
use Rattle.exec_tree.specs.TreeOf.{tree_of}
use Rattle.exec_tree.specs.Built.{main_of, channel_from}
use Rattle.trace_law.specs.State.{marks}
use Rattle.run_law.specs.Replay.{ready}
use Rattle.project_law.specs.ProjectRules.{rules_of}
use Rattle.run_law.specs.Fits.{plain}
use Rattle.run_state.specs.Kept.{State}
use Rattle.run_state.proofs.QuestionLemmas.{told}
use Rattle.run_state.proofs.ReadyLemmas.{ready_is, none_ready, within_limit}
use Rattle.run_state.proofs.state.RunState.ready.Goals as goal

pub ready-requires-clause-at : goal.ready-requires-clause-at
ready-requires-clause-at c = (plain c.self.inside.journal.list, marks c.self.inside.journal.list, c.self.invariant.0.at, c.self.invariant.0.sorted)

pub returns-clause-node : goal.returns-clause-node
returns-clause-node c =
    let p = c.self.inside.store in
    let s = c.self.inside.edits.script in
    let t = c.self.inside.journal.list in
    let k = c.self.invariant.0 in
    let e = tree_of (entity_at p) (main_of p) in
    let d = c.trees_are_sound.ensures.distinct nothing_seen (entity_at p) (main_of p) k.tree_is.no_fault in
    let tells = told p s c.self.inside.tree t k.tree_is (λ n. c.trees_tell.ensures.channels nothing_seen (entity_at p) (main_of p) n c.self.inside.tree k.tree_is)
    (λ n. c.trees_tell.ensures.roles nothing_seen (entity_at p) (main_of p) n c.self.inside.tree k.tree_is) (c.next_stands_in_preorder.ensures.order e (plain t) d) in
    subst (λ (v : State). option_map (number_at v.nodes) c.ready.result ≡ ready (rules_of v.project v.script) v.list c.args.channel) c.self.view_is
    (c.ready.ensures.node (plain t) (marks t) k.at k.sorted ∙ ready_is (rules_of p s) t c.self.inside.tree c.self.inside.steps c.args.channel c.is_idle-idle.result tells k.steps_are (c.logs_move.ensures.plain_stage t) c.is_idle-idle.ensures)

pub returns-then-channel-ge-MAX_CHANNELS-clause-node : goal.returns-then-channel-ge-MAX_CHANNELS-clause-node
returns-then-channel-ge-MAX_CHANNELS-clause-node c =
    let p = c.self.inside.store in
    let s = c.self.inside.edits.script in
    let t = c.self.inside.journal.list in
    let k = c.self.invariant.0 in
    let channels = c.channel_table.result.now in
    let few : (n : ℕ) → channel_from nothing_seen (entity_at p) (main_of p) n < max 1 (length channels) =
    λ n. subst (λ (cs : List ℕ). channel_from nothing_seen (entity_at p) (main_of p) n < max 1 (length cs)) (sym (c.channel_table.ensures.table ∙ k.tree_is.channels)) (c.trees_are_sound.ensures.channels nothing_seen (entity_at p) (main_of p) n) in
    subst (λ (v : State). None ≡ ready (rules_of v.project v.script) v.list c.args.channel) c.self.view_is
    (sym (none_ready (rules_of p s) t c.args.channel (λ n. within_limit (channel_from nothing_seen (entity_at p) (main_of p) n) channels (few n) c.channel_table.ensures.few) (omega (arith, c.if-channel-ge-MAX_CHANNELS.true))))

pub returns-clause-place : goal.returns-clause-place
returns-clause-place c = subst (λ (v : State). IfSome c.ready.result (IsPlace v.nodes)) c.self.view_is c.ready.ensures.place

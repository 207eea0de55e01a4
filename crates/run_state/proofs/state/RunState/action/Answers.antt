use Rattle.std.proofs.Common.{◌≡◌, ◌∙◌, subst, sym, ap, true}
use Rattle.exec_tree.specs.Exec.{Exec, has}
use Rattle.tree_table.specs.Placed.{number_at}
use Rattle.trace_law.specs.Below.{tree_in}
use Rattle.trace_law.specs.Next.{next}
use Rattle.trace_law.specs.Offer.{offer}
use Rattle.run_law.specs.Fits.{next_of, plain}
use Rattle.project_law.specs.ProjectRules.{rules_of}
use Rattle.run_frames.specs.Standing.{IsPlace}
use Rattle.run_state.specs.Actions.{does_start, starts_next}
use Rattle.run_state.specs.Kept.{State}
use Rattle.run_state.proofs.PlaceLemmas.{within}
use Rattle.run_state.proofs.MadeLemmas.{starts_is}
use Rattle.run_state.proofs.state.RunState.action.Goals as goal

pub node_at-at-requires : goal.node_at-at-requires
node_at-at-requires c =
    let nodes = c.self.inside.tree.nodes in
    let is_place : IsPlace nodes c.args.place = subst (λ (v : State). IsPlace v.nodes c.args.place) (sym c.self.view_is) c.requires.place in
    within nodes (number_at nodes c.args.place) c.args.place (c.places_are_found.ensures.numbered nodes (number_at nodes c.args.place) c.args.place is_place)

pub deed-requires-clause-at : goal.deed-requires-clause-at
deed-requires-clause-at c =
    let p = c.self.inside.store in
    let s = c.self.inside.edits.script in
    let t = c.self.inside.journal.list in
    let k = c.self.invariant.0 in
    let n = number_at c.self.inside.tree.nodes c.args.place in
    let is_place : IsPlace c.self.inside.tree.nodes c.args.place = subst (λ (v : State). IsPlace v.nodes c.args.place) (sym c.self.view_is) c.requires.place in
    let is_next : has (next_of (rules_of p s) t) n ≡ true = subst (λ (v : State). has (next_of (rules_of v.project v.script) v.list) (number_at v.nodes c.args.place) ≡ true) (sym c.self.view_is) c.requires.next in
    (plain t, k.at, is_place, subst (λ (x : Exec). has (next x (plain t)) n ≡ true) (sym k.tree_is.held) is_next)

pub returns-clause-node : goal.returns-clause-node
returns-clause-node c = subst (λ (v : State). c.number_in.result ≡ number_at v.nodes c.args.place) c.self.view_is c.number_in.ensures

pub returns-clause-starts : goal.returns-clause-starts
returns-clause-starts c =
    let p = c.self.inside.store in
    let s = c.self.inside.edits.script in
    let t = c.self.inside.journal.list in
    let k = c.self.invariant.0 in
    let n = number_at c.self.inside.tree.nodes c.args.place in
    let is_next : has (next_of (rules_of p s) t) n ≡ true = subst (λ (v : State). has (next_of (rules_of v.project v.script) v.list) (number_at v.nodes c.args.place) ≡ true) (sym c.self.view_is) c.requires.next in
    let u = plain t in
    let there : has (next (tree_in c.self.inside.tree) u) n ≡ true = subst (λ (x : Exec). has (next x u) n ≡ true) (sym k.tree_is.held) is_next in
    subst (λ (v : State). c.is_start.result ≡ starts_next (rules_of v.project v.script) v.list (number_at v.nodes c.args.place)) c.self.view_is
    (c.is_start.ensures ∙ (starts_is (offer (tree_in c.self.inside.tree) u n) c.deed.result (c.deed.ensures u k.at there) ∙ ap (λ (x : Exec). does_start (offer x u n)) k.tree_is.held))

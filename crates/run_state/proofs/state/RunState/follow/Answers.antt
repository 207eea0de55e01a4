use Rattle.std.proofs.Common.{◌≡◌, ◌∙◌, ◌<◌, ◌≤◌, ◌+◌, ◌*◌, subst, sym, ap, ℕ, [], ◌∷◌, ◌++◌, List, true, length, arith}
use Rattle.std.specs.Prelude.{Option, Some, None, IfSome, Bool, if◌then◌else◌, max}
use Rattle.std.specs.Option.{option_to_list}
use Rattle.project_store.specs.Entities.{entity_at}
use Rattle.exec_tree.specs.Exec.{Exec, has}
use Rattle.exec_tree.specs.Exec as exec
use Rattle.exec_tree.specs.Executable.{kind_at}
use Rattle.exec_tree.specs.Said.{said_for, said_by, bare_of}
use Rattle.exec_tree.specs.Walked.{place_from}
use Rattle.exec_tree.specs.TreeFault.{nothing_seen}
use Rattle.exec_tree.specs.TreeOf.{tree_of}
use Rattle.exec_tree.specs.Built.{main_of, channel_in, channel_from, said_in}
use Rattle.exec_tree.specs.declared.limits.TheConstants.{MAX_CHANNELS}
use Rattle.trace_law.specs.Of.{number_of, has_some}
use Rattle.trace_law.specs.Part.{Part}
use Rattle.trace_law.specs.State.{marks, marked}
use Rattle.trace_law.specs.Next.{next}
use Rattle.run_log.specs.declared.entry.Entry.{Entry}
use Rattle.run_law.specs.Fits.{Fits, plain}
use Rattle.run_frames.specs.Standing.{IsAt}
use Rattle.trace_law.specs.Below.{tree_in}
use Rattle.project_law.specs.ProjectRules.{rules_of}
use Rattle.entity_types.specs.declared.edit.Edit.{Edit as ScriptEdit}
use Rattle.project_law.specs.Script.{store_after}
use Rattle.run_state.specs.Pages.{Pages}
use Rattle.run_state.specs.Kept.{State, IsState, IsDefined}
use Rattle.run_state.specs.Edits.{AreKept}
use Rattle.run_state.proofs.QuestionLemmas.{filter_has}
use Rattle.run_state.proofs.KindLemmas.{store_done_by, works_has}
use Rattle.run_state.proofs.FollowLemmas.{is_of_node, IsOfNode}
use Rattle.run_state.proofs.ReadyLemmas.{within_limit}
use Rattle.run_state.proofs.PlaceLemmas.{within, channel_there, said_there, marked_place, of_number, for_number}
use Rattle.frame_law.specs.ComeTo.{nesting, new_in}
use Rattle.frame_law.specs.Looks.{AreNumbered}
use Rattle.trace_law.specs.Offer.{offer, IsOffered}
use Rattle.run_state.proofs.EditLemmas.{step_has_version}
use Rattle.run_state.proofs.StateLemmas.{started_kind, Entered, state_follows, follows_is}
use Rattle.run_state.proofs.state.RunState.follow.Goals as goal

pub node-node-requires : goal.node-node-requires
node-node-requires g c =
    let p = c.self.inside.store in
    let s = c.self.inside.edits.script in
    let t = c.self.inside.journal.list in
    let k = c.self.invariant.0 in
    let x = c.args.entry in
    let fits : Fits (rules_of p s) t x = subst (λ (v : State). Fits (rules_of v.project v.script) v.list x) (sym c.self.view_is) c.requires.fits in
    let of_node : IsOfNode (rules_of p s) t x = is_of_node (rules_of p s) t x c.requires.node fits in
    let n = of_node.n in
    let place : place_from 0 c.self.inside.tree.nodes n ≡ Some c.args.place = of_number (λ m. place_from 0 c.self.inside.tree.nodes m ≡ Some c.args.place) (number_of x) n of_node.number
    (subst (λ (v : State). IfSome (number_of x) (λ m. place_from 0 v.nodes m ≡ Some c.args.place)) (sym c.self.view_is) c.requires.place) in
    within c.self.inside.tree.nodes n c.args.place (c.places_are_found.ensures.numbered c.self.inside.tree.nodes n c.args.place place)

pub follow-requires : goal.follow-requires
follow-requires g c =
    let p = c.self.inside.store in
    let s = c.self.inside.edits.script in
    let t = c.self.inside.journal.list in
    let k = c.self.invariant.0 in
    let x = c.args.entry in
    let fits : Fits (rules_of p s) t x = subst (λ (v : State). Fits (rules_of v.project v.script) v.list x) (sym c.self.view_is) c.requires.fits in
    let of_node : IsOfNode (rules_of p s) t x = is_of_node (rules_of p s) t x c.requires.node fits in
    let n = of_node.n in
    let place : place_from 0 c.self.inside.tree.nodes n ≡ Some c.args.place = of_number (λ m. place_from 0 c.self.inside.tree.nodes m ≡ Some c.args.place) (number_of x) n of_node.number
    (subst (λ (v : State). IfSome (number_of x) (λ m. place_from 0 v.nodes m ≡ Some c.args.place)) (sym c.self.view_is) c.requires.place) in
    let channels = c.channel_table.result.now in
    let is_channel = channel_there c.self.inside.tree.nodes n c.args.place (bare_of c.node-node.result.now) place c.node-node.ensures.node in
    let few : channel_in c.self.inside.tree.nodes n < max 1 (length channels) =
    subst (λ (m : ℕ). m < max 1 (length channels)) (sym (c.trees_tell.ensures.channels nothing_seen (entity_at p) (main_of p) n c.self.inside.tree k.tree_is))
    (subst (λ (cs : List ℕ). channel_from nothing_seen (entity_at p) (main_of p) n < max 1 (length cs)) (sym (c.channel_table.ensures.table ∙ k.tree_is.channels)) (c.trees_are_sound.ensures.channels nothing_seen (entity_at p) (main_of p) n)) in
    subst (λ (m : ℕ). m < MAX_CHANNELS) is_channel (within_limit (channel_in c.self.inside.tree.nodes n) channels few c.channel_table.ensures.few)

pub invariant_of-self : goal.invariant_of-self
invariant_of-self g c =
    let p = c.self.inside.store in
    let s = c.self.inside.edits.script in
    let t = c.self.inside.journal.list in
    let k = c.self.invariant.0 in
    let x = c.args.entry in
    let e = tree_of (entity_at p) (main_of p) in
    let d = c.trees_are_sound.ensures.distinct nothing_seen (entity_at p) (main_of p) k.tree_is.no_fault in
    let fits : Fits (rules_of p s) t x = subst (λ (v : State). Fits (rules_of v.project v.script) v.list x) (sym c.self.view_is) c.requires.fits in
    let defined : IsDefined (store_after s p t) x c.args.def = subst (λ (v : State). IsDefined (store_after v.script v.project v.list) x c.args.def) (sym c.self.view_is) c.requires.defined in
    let of_node : IsOfNode (rules_of p s) t x = is_of_node (rules_of p s) t x c.requires.node fits in
    let n = of_node.n in
    let place : place_from 0 c.self.inside.tree.nodes n ≡ Some c.args.place = of_number (λ m. place_from 0 c.self.inside.tree.nodes m ≡ Some c.args.place) (number_of x) n of_node.number
    (subst (λ (v : State). IfSome (number_of x) (λ m. place_from 0 v.nodes m ≡ Some c.args.place)) (sym c.self.view_is) c.requires.place) in
    let sound = c.project_rules_are_sound.ensures.sound p s k.tree_is.no_fault in
    let u = plain t in
    let part : Part e (u ++ x ∷ []) = of_node.fits.goes_on in
    let off = c.what_is_offered_follows.ensures.offered e u x n d part of_node.number in
    let goes : has (next e u) n ≡ true = subst (λ (o : Option ℕ). has_some (next e u) o ≡ true) of_node.number off.0 in
    let here : has (exec.nodes e) n ≡ true = filter_has (has (next e u)) (exec.nodes e) n (subst (λ (ns : List ℕ). has ns n ≡ true) (c.next_stands_in_preorder.ensures.order e (plain t) d) goes) in
    let done = store_done_by (entity_at p) (main_of p) u n here in
    let entered : Entered p s c.self.inside.tree t x n c.args.def = record {
      number = of_node.number;
      legal = c.legal_runs.ensures.more (rules_of p s) t x k.legal fits;
      said = c.trees_tell.ensures.said nothing_seen (entity_at p) (main_of p) n c.self.inside.tree k.tree_is
          ∙ ap (λ (b : Bool). if b then Some (said_for (entity_at p) (kind_at (entity_at p n)) (entity_at p n)) else None) here;
      offered = off.1;
      done = done;
      numbered = λ m place f. c.places_are_found.ensures.numbered c.self.inside.tree.nodes m place f;
      vars = λ v. c.project_rules_move.ensures.vars p s t x v;
      follows = follows_is p s t x n c.args.def of_node.number of_node.fits off.1 done
          (λ h. works_has (entity_at p) (main_of p) n (c.trees_are_sound.ensures.nodes (entity_at p) (main_of p)) (c.trees_are_sound.ensures.steps (entity_at p) (main_of p)) here h)
          (λ w. sound.steps t n k.legal w) (λ j f. sym (c.logs_move.ensures.plain_stage t n) ∙ c.blocks_are_counted.ensures.offered e u n j f)
          (λ m f. c.project_rules_move.ensures.kept p s t x m f) (λ m v. c.project_rules_move.ensures.dispatched p s t m v) defined;
    } in
    let held : Part (tree_in c.self.inside.tree) (u ++ x ∷ []) = subst (λ (y : Exec). Part y (u ++ x ∷ [])) (sym k.tree_is.held) part in
    let freed_at = c.release_by.ensures.at u k.at in
    let freed = c.release_by.ensures.sorted u (marks t) k.at k.sorted k.marks_are in
    let now_at : IsAt c.self.inside.tree.nodes c.advance.new.self (u ++ x ∷ []) = c.advance.ensures.at u freed_at held in
    let now_sorted = c.advance.ensures.sorted u (marks t ++ option_to_list (marked x)) freed_at held freed in
    let kept = state_follows p s c.self.inside.tree c.self.inside.frames c.advance.new.self t c.self.inside.marks c.follow-3.new.marks c.self.inside.vars c.follow-4.new.vars c.self.inside.steps c.follow.new.self
    x n c.args.def c.node-node.result.now.channel k entered now_at now_sorted (c.logs_move.ensures.marks t x) c.follow-3.ensures.count c.follow-3.ensures.flags c.follow-4.ensures
    (sym (channel_there c.self.inside.tree.nodes n c.args.place (bare_of c.node-node.result.now) place c.node-node.ensures.node)
    ∙ c.trees_tell.ensures.channels nothing_seen (entity_at p) (main_of p) n c.self.inside.tree k.tree_is)
    c.follow.ensures in
    let logged : c.take.new.self.list ≡ t ++ x ∷ [] = ap (λ (v : Pages). v.list) c.take.ensures in (
      subst (λ (r : List ScriptEdit). IsState p r c.self.inside.tree c.advance.new.self c.take.new.self.list c.follow-3.new.marks c.follow-4.new.vars c.follow.new.self) (sym c.follow-2.ensures.script)
          (subst (λ (w : List Entry). IsState p s c.self.inside.tree c.advance.new.self w c.follow-3.new.marks c.follow-4.new.vars c.follow.new.self) (sym logged) kept),
      subst (λ (w : List Entry). AreKept p w c.follow-2.new.self) (sym logged) (c.follow-2.ensures.kept p t c.self.invariant.1),
    )

pub advance-requires-clause-at : goal.advance-requires-clause-at
advance-requires-clause-at g c =
    let p = c.self.inside.store in
    let s = c.self.inside.edits.script in
    let t = c.self.inside.journal.list in
    let k = c.self.invariant.0 in
    let x = c.args.entry in
    let e = tree_of (entity_at p) (main_of p) in
    let fits : Fits (rules_of p s) t x = subst (λ (v : State). Fits (rules_of v.project v.script) v.list x) (sym c.self.view_is) c.requires.fits in
    let of_node : IsOfNode (rules_of p s) t x = is_of_node (rules_of p s) t x c.requires.node fits in
    let u = plain t in
    let part : Part e (u ++ x ∷ []) = of_node.fits.goes_on in
    (u, c.release_by.ensures.at u k.at, subst (λ (y : Exec). Part y (u ++ x ∷ [])) (sym k.tree_is.held) part)

pub follow-requires-2-clause-known : goal.follow-requires-2-clause-known
follow-requires-2-clause-known g c = λ n v f.
    let p = c.self.inside.store in
    let s = c.self.inside.edits.script in
    let t = c.self.inside.journal.list in
    let k = c.self.invariant.0 in
    let x = c.args.entry in
    let e = tree_of (entity_at p) (main_of p) in
    let u = plain t in
    let d = c.trees_are_sound.ensures.distinct nothing_seen (entity_at p) (main_of p) k.tree_is.no_fault in
    let fits : Fits (rules_of p s) t x = subst (λ (w : State). Fits (rules_of w.project w.script) w.list x) (sym c.self.view_is) c.requires.fits in
    let of_node : IsOfNode (rules_of p s) t x = is_of_node (rules_of p s) t x c.requires.node fits in
    let number : number_of x ≡ Some n = ap number_of f in
    let off = c.what_is_offered_follows.ensures.offered e u x n d of_node.fits.goes_on number in
    let goes : has (next e u) n ≡ true = subst (λ (o : Option ℕ). has_some (next e u) o ≡ true) number off.0 in
    let here : has (exec.nodes e) n ≡ true = filter_has (has (next e u)) (exec.nodes e) n (subst (λ (ns : List ℕ). has ns n ≡ true) (c.next_stands_in_preorder.ensures.order e u d) goes) in
    let kind = started_kind (offer e u n) n n v (kind_at (entity_at p n)) (subst (IsOffered (offer e u n) n) f off.1) (store_done_by (entity_at p) (main_of p) u n here) in
    let steps = c.trees_are_sound.ensures.steps (entity_at p) (main_of p) in
    let works = works_has (entity_at p) (main_of p) n (c.trees_are_sound.ensures.nodes (entity_at p) (main_of p)) steps here kind in
    step_has_version p t c.self.inside.edits n c.self.invariant.1 (subst (λ (ns : List ℕ). has ns n ≡ true) steps works)

pub release_by-requires-clause-at : goal.release_by-requires-clause-at
release_by-requires-clause-at g c = (plain c.self.inside.journal.list, marks c.self.inside.journal.list, c.self.invariant.0.at, c.self.invariant.0.sorted)

pub release_by-requires-clause-place : goal.release_by-requires-clause-place
release_by-requires-clause-place g c = marked_place c.self.inside.tree.nodes c.args.entry c.args.place
    (subst (λ (v : State). IfSome (number_of c.args.entry) (λ m. place_from 0 v.nodes m ≡ Some c.args.place)) (sym c.self.view_is) c.requires.place)

pub follow-requires-3-clause-place : goal.follow-requires-3-clause-place
follow-requires-3-clause-place g c = marked_place c.self.inside.tree.nodes c.args.entry c.args.place
    (subst (λ (v : State). IfSome (number_of c.args.entry) (λ m. place_from 0 v.nodes m ≡ Some c.args.place)) (sym c.self.view_is) c.requires.place)

pub follow-requires-4-clause-said : goal.follow-requires-4-clause-said
follow-requires-4-clause-said g c =
    let p = c.self.inside.store in
    let s = c.self.inside.edits.script in
    let t = c.self.inside.journal.list in
    let k = c.self.invariant.0 in
    let x = c.args.entry in
    let fits : Fits (rules_of p s) t x = subst (λ (v : State). Fits (rules_of v.project v.script) v.list x) (sym c.self.view_is) c.requires.fits in
    let of_node : IsOfNode (rules_of p s) t x = is_of_node (rules_of p s) t x c.requires.node fits in
    let n = of_node.n in
    let place : place_from 0 c.self.inside.tree.nodes n ≡ Some c.args.place = of_number (λ m. place_from 0 c.self.inside.tree.nodes m ≡ Some c.args.place) (number_of x) n of_node.number
    (subst (λ (v : State). IfSome (number_of x) (λ m. place_from 0 v.nodes m ≡ Some c.args.place)) (sym c.self.view_is) c.requires.place) in
    for_number (λ m. said_in c.self.inside.tree m ≡ Some (said_by c.node-node.result.now)) (number_of x) n of_node.number
    (said_there c.self.inside.tree n c.args.place (Some (said_by c.node-node.result.now)) place c.node-node.ensures.said)

pub advance-requires-clause-place : goal.advance-requires-clause-place
advance-requires-clause-place g c = subst (λ (v : State). IfSome (number_of c.args.entry) (λ m. place_from 0 v.nodes m ≡ Some c.args.place)) (sym c.self.view_is) c.requires.place

pub returns-clause-looks : goal.returns-clause-looks
returns-clause-looks g c =
    let p = c.self.inside.store in
    let s = c.self.inside.edits.script in
    let t = c.self.inside.journal.list in
    let k = c.self.invariant.0 in
    let x = c.args.entry in
    let e = tree_of (entity_at p) (main_of p) in
    let fits : Fits (rules_of p s) t x = subst (λ (v : State). Fits (rules_of v.project v.script) v.list x) (sym c.self.view_is) c.requires.fits in
    let of_node : IsOfNode (rules_of p s) t x = is_of_node (rules_of p s) t x c.requires.node fits in
    let u = plain t in
    let held : Part (tree_in c.self.inside.tree) (u ++ x ∷ []) = subst (λ (y : Exec). Part y (u ++ x ∷ [])) (sym k.tree_is.held) of_node.fits.goes_on in
    let numbered : AreNumbered (tree_in c.self.inside.tree) = subst AreNumbered (sym k.tree_is.held) (c.trees_are_numbered.ensures (entity_at p) (main_of p)) in
    let moved : c.advance.new.steps ≤ c.node-node.new.steps + (3 + nesting e + 2 * length (new_in e u x)) =
    subst (λ (y : Exec). c.advance.new.steps ≤ c.node-node.new.steps + (3 + nesting y + 2 * length (new_in y u x))) k.tree_is.held (c.advance.ensures.looks u (c.release_by.ensures.at u k.at) held numbered) in
    let looked = c.node-node.ensures.ticks in
    subst (λ (v : State). c.advance.new.steps ≤ c.args.steps.now + (4 + nesting ((rules_of v.project v.script).tree v.list) + 2 * length (new_in ((rules_of v.project v.script).tree v.list) (plain v.list) x))) c.self.view_is (omega (arith, moved, looked))

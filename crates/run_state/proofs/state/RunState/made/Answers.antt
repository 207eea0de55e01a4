use Rattle.std.proofs.Common.{◌≡◌, ◌∙◌, subst, sym, ap, ℕ, List, true}
use Rattle.std.specs.Prelude.{Option, Some, None, Ok, IsSomeAnd, Bool, if◌then◌else◌}
use Rattle.trace_law.specs.Part.{Part}
use Rattle.run_frames.specs.declared.deed.Deed.TheVariants as deeds
use Rattle.path_blocks.specs.declared.def.Def.{Def}
use Rattle.project_store.specs.Entities.{entity_at}
use Rattle.step_def.specs.DefOf.{def_of}
use Rattle.nc_expr.specs.Vars.{value_at}
use Rattle.exec_tree.specs.Exec.{Exec, has}
use Rattle.exec_tree.specs.Exec as exec
use Rattle.exec_tree.specs.Executable.{kind_at}
use Rattle.exec_tree.specs.Said.{said_for, said_by, bare_of}
use Rattle.exec_tree.specs.TreeFault.{nothing_seen}
use Rattle.exec_tree.specs.TreeOf.{tree_of}
use Rattle.exec_tree.specs.Built.{main_of}
use Rattle.trace_law.specs.Offer.{offer}
use Rattle.trace_law.specs.Next.{next}
use Rattle.run_law.specs.Fits.{next_of}
use Rattle.run_law.specs.Replay.{made}
use Rattle.run_frames.specs.Deeds.{IsDeed}
use Rattle.project_law.specs.ProjectRules.{rules_of}
use Rattle.run_state.specs.Kept.{State, IsDefined}
use Rattle.run_frames.specs.Standing.{IsPlace}
use Rattle.tree_table.specs.Placed.{number_at}
use Rattle.run_state.specs.Edits.{HasVersion, version_now}
use Rattle.run_state.proofs.PlaceLemmas.{within, channel_there, said_there}
use Rattle.trace_law.specs.Below.{tree_in}
use Rattle.run_state.proofs.QuestionLemmas.{told, filter_has}
use Rattle.run_state.proofs.KindLemmas.{store_done_by}
use Rattle.run_state.specs.State.{def_by, entry_by}
use Rattle.project_law.specs.Script.{store_after}
use Rattle.edit_rules.specs.Faults.{has_def}
use Rattle.step_def.specs.Condition.{is_workingstep}
use Rattle.entity_types.specs.declared.entity.Entity.{Entity}
use Rattle.run_law.specs.Fits.{plain}
use Rattle.trace_law.specs.Offer as offers
use Rattle.run_state.proofs.EditLemmas.{step_has_version}
use Rattle.run_state.proofs.MadeLemmas.{Asked, made_is, defined_is, starter_is, started_by}
use Rattle.run_state.proofs.state.RunState.made.Goals as goal

pub returns-clause-entry : goal.returns-clause-entry
returns-clause-entry g c =
    let p = c.self.inside.store in
    let s = c.self.inside.edits.script in
    let t = c.self.inside.journal.list in
    let k = c.self.invariant.0 in
    let e = tree_of (entity_at p) (main_of p) in
    let d = c.trees_are_sound.ensures.distinct nothing_seen (entity_at p) (main_of p) k.tree_is.no_fault in
    let tells = told p s c.self.inside.tree t k.tree_is (λ n. c.trees_tell.ensures.channels nothing_seen (entity_at p) (main_of p) n c.self.inside.tree k.tree_is)
    (λ n. c.trees_tell.ensures.roles nothing_seen (entity_at p) (main_of p) n c.self.inside.tree k.tree_is) (c.next_stands_in_preorder.ensures.order e (plain t) d) in
    let n = number_at c.self.inside.tree.nodes c.args.place in
    let q : c.number_in-n.result ≡ n = c.number_in-n.ensures in
    let is_place : IsPlace c.self.inside.tree.nodes c.args.place = subst (λ (v : State). IsPlace v.nodes c.args.place) (sym c.self.view_is) c.requires.place in
    let is_next : has (next_of (rules_of p s) t) n ≡ true = subst (λ (v : State). has (next_of (rules_of v.project v.script) v.list) (number_at v.nodes c.args.place) ≡ true) (sym c.self.view_is) c.requires.next in
    let u = plain t in
    let goes : has (next e u) n ≡ true = is_next in
    let there : has (next (tree_in c.self.inside.tree) u) n ≡ true = subst (λ (x : Exec). has (next x u) n ≡ true) (sym k.tree_is.held) goes in
    let here : has (exec.nodes e) n ≡ true = tells.within n goes in
    let does : IsDeed (offer e u n) c.deed-deed.result = subst (λ (x : Exec). IsDeed (offer x u n) c.deed-deed.result) k.tree_is.held (c.deed-deed.ensures u k.at there) in
    let starts : offer e u n ≡ offers.Starts → c.deed-deed.result ≡ deeds.Starts = λ f. started_by (offer e u n) c.deed-deed.result does f in
    let part : Part e u = c.legal_runs.ensures.part (rules_of p s) t (c.project_rules_are_sound.ensures.sound p s k.tree_is.no_fault) k.legal in
    let channel = c.node-node.result.now.channel in
    let said = Some (said_by c.node-node.result.now) in
    let asked : Asked p s t c.self.inside.tree channel said c.self.inside.vars c.self.inside.steps c.version_by-version.result n = record {
      tells = tells;
      kept = k.steps_are;
      vars_are = k.vars_are;
      version_is = λ f. sym (c.version_by-version.ensures (starts f) ∙ ap (version_now c.self.inside.edits.editing) q ∙ c.self.invariant.1.versions_are n (starter_is p u n c.deed-deed.result (c.trees_are_sound.ensures.nodes (entity_at p) (main_of p)) (c.trees_are_sound.ensures.steps (entity_at p) (main_of p)) here does (starts f)));
      channel_is = sym (channel_there c.self.inside.tree.nodes n c.args.place (bare_of c.node-node.result.now) is_place c.node-node.ensures.node) ∙ tells.channels n;
      said_is = sym (said_there c.self.inside.tree n c.args.place said is_place c.node-node.ensures.said) ∙ c.trees_tell.ensures.said nothing_seen (entity_at p) (main_of p) n c.self.inside.tree k.tree_is
          ∙ ap (λ (b : Bool). if b then Some (said_for (entity_at p) (kind_at (entity_at p n)) (entity_at p n)) else None) here;
      done_by = store_done_by (entity_at p) (main_of p) u n here;
      counted = λ j f. sym (c.logs_move.ensures.plain_stage t n) ∙ c.blocks_are_counted.ensures.offered e u n j f;
    } in
    subst (λ (v : State). c.entry_by-entry.result ≡ made (rules_of v.project v.script) v.list (number_at v.nodes c.args.place)) c.self.view_is
    (c.entry_by-entry.ensures ∙ ap (λ (j : ℕ). entry_by channel said c.self.inside.steps (value_at c.self.inside.vars) c.version_by-version.result j c.deed-deed.result) q ∙ made_is p s t c.self.inside.tree channel said c.self.inside.vars c.self.inside.steps c.version_by-version.result n asked c.deed-deed.result (c.deed-deed.ensures u k.at there))

pub returns-clause-defined : goal.returns-clause-defined
returns-clause-defined g c =
    let p = c.self.inside.store in
    let s = c.self.inside.edits.script in
    let t = c.self.inside.journal.list in
    let k = c.self.invariant.0 in
    let e = tree_of (entity_at p) (main_of p) in
    let d = c.trees_are_sound.ensures.distinct nothing_seen (entity_at p) (main_of p) k.tree_is.no_fault in
    let n = number_at c.self.inside.tree.nodes c.args.place in
    let q : c.number_in-n.result ≡ n = c.number_in-n.ensures in
    let is_next : has (next_of (rules_of p s) t) n ≡ true = subst (λ (v : State). has (next_of (rules_of v.project v.script) v.list) (number_at v.nodes c.args.place) ≡ true) (sym c.self.view_is) c.requires.next in
    let u = plain t in
    let goes : has (next e u) n ≡ true = is_next in
    let there : has (next (tree_in c.self.inside.tree) u) n ≡ true = subst (λ (x : Exec). has (next x u) n ≡ true) (sym k.tree_is.held) goes in
    let here : has (exec.nodes e) n ≡ true = filter_has (has (next e u)) (exec.nodes e) n (subst (λ (ns : List ℕ). has ns n ≡ true) (c.next_stands_in_preorder.ensures.order e (plain t) d) goes) in
    let does : IsDeed (offer e u n) c.deed-deed.result = subst (λ (x : Exec). IsDeed (offer x u n) c.deed-deed.result) k.tree_is.held (c.deed-deed.ensures u k.at there) in
    let now = store_after s p t in
    let same : c.store.result.now ≡ now = c.store.ensures ∙ c.self.invariant.1.store_is in
    let starts : c.deed-deed.result ≡ deeds.Starts → has_def now n ≡ true =
    λ f. c.self.invariant.1.defined n (starter_is p u n c.deed-deed.result (c.trees_are_sound.ensures.nodes (entity_at p) (main_of p)) (c.trees_are_sound.ensures.steps (entity_at p) (main_of p)) here does f) in
    subst (λ (v : State). IsDefined (store_after v.script v.project v.list) c.entry_by-entry.result c.def_by-def.result) c.self.view_is
    (λ m v f. subst (λ (o : Option Def). IsSomeAnd o (λ def. def_of (entity_at now) m ≡ Ok def)) (sym (c.def_by-def.ensures ∙ ap (λ (store : List Entity). def_by store c.number_in-n.result c.deed-deed.result) same ∙ ap (λ (j : ℕ). def_by now j c.deed-deed.result) q))
    (defined_is now c.node-node.result.now.channel (Some (said_by c.node-node.result.now)) c.self.inside.steps (value_at c.self.inside.vars) c.version_by-version.result n c.deed-deed.result starts m v
    (sym (c.entry_by-entry.ensures ∙ ap (λ (j : ℕ). entry_by c.node-node.result.now.channel (Some (said_by c.node-node.result.now)) c.self.inside.steps (value_at c.self.inside.vars) c.version_by-version.result j c.deed-deed.result) q) ∙ f)))

pub deed-deed-requires-clause-at : goal.deed-deed-requires-clause-at
deed-deed-requires-clause-at g c =
    let p = c.self.inside.store in
    let s = c.self.inside.edits.script in
    let t = c.self.inside.journal.list in
    let k = c.self.invariant.0 in
    let e = tree_of (entity_at p) (main_of p) in
    let n = number_at c.self.inside.tree.nodes c.args.place in
    let q : c.number_in-n.result ≡ n = c.number_in-n.ensures in
    let is_next : has (next_of (rules_of p s) t) n ≡ true = subst (λ (v : State). has (next_of (rules_of v.project v.script) v.list) (number_at v.nodes c.args.place) ≡ true) (sym c.self.view_is) c.requires.next in
    let u = plain t in
    let goes : has (next e u) n ≡ true = is_next in
    let is_place : IsPlace c.self.inside.tree.nodes c.args.place = subst (λ (v : State). IsPlace v.nodes c.args.place) (sym c.self.view_is) c.requires.place in
    (u, k.at, is_place, subst (λ (x : Exec). has (next x u) n ≡ true) (sym k.tree_is.held) goes)

pub def_by-def-requires : goal.def_by-def-requires
def_by-def-requires g c =
    let p = c.self.inside.store in
    let s = c.self.inside.edits.script in
    let t = c.self.inside.journal.list in
    let k = c.self.invariant.0 in
    let e = tree_of (entity_at p) (main_of p) in
    let d = c.trees_are_sound.ensures.distinct nothing_seen (entity_at p) (main_of p) k.tree_is.no_fault in
    let n = number_at c.self.inside.tree.nodes c.args.place in
    let q : c.number_in-n.result ≡ n = c.number_in-n.ensures in
    let is_next : has (next_of (rules_of p s) t) n ≡ true = subst (λ (v : State). has (next_of (rules_of v.project v.script) v.list) (number_at v.nodes c.args.place) ≡ true) (sym c.self.view_is) c.requires.next in
    let u = plain t in
    let goes : has (next e u) n ≡ true = is_next in
    let there : has (next (tree_in c.self.inside.tree) u) n ≡ true = subst (λ (x : Exec). has (next x u) n ≡ true) (sym k.tree_is.held) goes in
    let here : has (exec.nodes e) n ≡ true = filter_has (has (next e u)) (exec.nodes e) n (subst (λ (ns : List ℕ). has ns n ≡ true) (c.next_stands_in_preorder.ensures.order e (plain t) d) goes) in
    let does : IsDeed (offer e u n) c.deed-deed.result = subst (λ (x : Exec). IsDeed (offer x u n) c.deed-deed.result) k.tree_is.held (c.deed-deed.ensures u k.at there) in
    λ f. subst (λ (store : List Entity). is_workingstep (entity_at store) c.number_in-n.result ≡ true) (sym (c.store.ensures ∙ c.self.invariant.1.store_is))
    (subst (λ (j : ℕ). is_workingstep (entity_at (store_after s p t)) j ≡ true) (sym q) (c.self.invariant.1.steps_are n (starter_is p u n c.deed-deed.result (c.trees_are_sound.ensures.nodes (entity_at p) (main_of p)) (c.trees_are_sound.ensures.steps (entity_at p) (main_of p)) here does f)))

pub version_by-version-requires : goal.version_by-version-requires
version_by-version-requires g c =
    let p = c.self.inside.store in
    let s = c.self.inside.edits.script in
    let t = c.self.inside.journal.list in
    let k = c.self.invariant.0 in
    let e = tree_of (entity_at p) (main_of p) in
    let d = c.trees_are_sound.ensures.distinct nothing_seen (entity_at p) (main_of p) k.tree_is.no_fault in
    let n = number_at c.self.inside.tree.nodes c.args.place in
    let q : c.number_in-n.result ≡ n = c.number_in-n.ensures in
    let is_next : has (next_of (rules_of p s) t) n ≡ true = subst (λ (v : State). has (next_of (rules_of v.project v.script) v.list) (number_at v.nodes c.args.place) ≡ true) (sym c.self.view_is) c.requires.next in
    let u = plain t in
    let goes : has (next e u) n ≡ true = is_next in
    let there : has (next (tree_in c.self.inside.tree) u) n ≡ true = subst (λ (x : Exec). has (next x u) n ≡ true) (sym k.tree_is.held) goes in
    let here : has (exec.nodes e) n ≡ true = filter_has (has (next e u)) (exec.nodes e) n (subst (λ (ns : List ℕ). has ns n ≡ true) (c.next_stands_in_preorder.ensures.order e (plain t) d) goes) in
    let does : IsDeed (offer e u n) c.deed-deed.result = subst (λ (x : Exec). IsDeed (offer x u n) c.deed-deed.result) k.tree_is.held (c.deed-deed.ensures u k.at there) in
    λ f. subst (HasVersion c.self.inside.edits.editing) (sym q) (step_has_version p t c.self.inside.edits n c.self.invariant.1 (starter_is p u n c.deed-deed.result (c.trees_are_sound.ensures.nodes (entity_at p) (main_of p)) (c.trees_are_sound.ensures.steps (entity_at p) (main_of p)) here does f))

pub node-node-requires : goal.node-node-requires
node-node-requires g c =
    let is_place : IsPlace c.self.inside.tree.nodes c.args.place = subst (λ (v : State). IsPlace v.nodes c.args.place) (sym c.self.view_is) c.requires.place in
    within c.self.inside.tree.nodes (number_at c.self.inside.tree.nodes c.args.place) c.args.place (c.places_are_found.ensures.numbered c.self.inside.tree.nodes (number_at c.self.inside.tree.nodes c.args.place) c.args.place is_place)

-- What is made of a node by what is kept is what the rules make of it.
use Rattle.std.specs.Prelude.{◌≡◌, ◌==◌, ◌⊎◌, ℕ, ℤ, true, false, List, map, slice_get, Option, Some, None, IfSome, IsSomeAnd, Result, Ok, Err, is_ok}
use Rattle.std.specs.Result.{result_ok}
use Rattle.std.proofs.Common.{refl, sym, ap, subst, ◌∙◌, inl, inr, arith}
use Rattle.std.proofs.lemmas.Bool.Decides.{nat_tests}
use Rattle.path_blocks.specs.declared.block.Block.{Block as PathBlock}
use Rattle.path_blocks.specs.declared.def.Def.{Def}
use Rattle.entity_types.specs.declared.entity.Entity.{Entity}
use Rattle.entity_types.specs.declared.edit.Edit.{Edit as ScriptEdit}
use Rattle.project_store.specs.Entities.{entity_at}
use Rattle.step_def.specs.DefOf.{def_of}
use Rattle.nc_expr.specs.Vars.{value_at}
use Rattle.exec_tree.specs.Exec.{Exec, nodes, works, has, Assigning, Setting, Waiting, Noting}
use Rattle.exec_tree.specs.declared.kind.Kind.{Kind}
use Rattle.exec_tree.specs.declared.kind.Kind.TheVariants as kinds
use Rattle.exec_tree.specs.Executable.{kind_at}
use Rattle.exec_tree.specs.Said.{Said, said_for}
use Rattle.exec_tree.specs.TreeFault.{walk_of}
use Rattle.exec_tree.specs.Built.{TreeValue, main_of}
use Rattle.trace_law.specs.Below.{tree_in}
use Rattle.trace_law.specs.State.{stage}
use Rattle.trace_law.specs.Offer.{Offer, Cuts, Picks, offer}
use Rattle.trace_law.specs.Offer as offers
use Rattle.run_log.specs.declared.entry.Entry.{Entry}
use Rattle.run_log.specs.declared.entry.Entry.TheVariants.{Dispatch, Pick, Test, Assign}
use Rattle.run_law.specs.Rules.{Rules}
use Rattle.run_law.specs.Fits.{plain}
use Rattle.run_law.specs.Replay.{cut, made, made_by}
use Rattle.run_frames.specs.declared.deed.Deed.{Deed}
use Rattle.run_frames.specs.declared.deed.Deed.TheVariants as deeds
use Rattle.run_frames.specs.Deeds.{IsDeed}
use Rattle.project_law.specs.Variables.{vars_after}
use Rattle.project_law.specs.ProjectRules.{rules_of, store_tree, store_steps, answer_by, value_by}
use Rattle.run_state.specs.declared.open_steps.OpenStep.{OpenStep}
use Rattle.edit_rules.specs.Faults.{has_def}
use Rattle.step_def.specs.declared.fault.DefFault.{DefFault}
use Rattle.run_state.specs.Actions.{does_start}
use Rattle.run_state.specs.State.{starts_by, slot_at, is_step_of, path_in, value_said, answer_said, entry_by, def_by}
use Rattle.run_state.specs.Kept.{IsOpenStep, AreOpen}
use Rattle.run_state.specs.Kinds.{IsDoneBy}
use Rattle.run_state.proofs.QuestionLemmas.{Told}
use Rattle.run_state.proofs.KindLemmas.{store_done_by, works_has}
use Rattle.run_state.proofs.PickLemmas.{least_is}

no_way : false ≡ true → ⊥
no_way e = cc

-- ---- a step that is open

pub path_is : (r : Rules) (t : List Entry) (slots : List (Option OpenStep)) (n k : ℕ) → AreOpen r t slots → stage n t ≡ Some k → path_in (slot_at slots (r.channel t n)) ≡ r.path t n
path_is r t slots n k kept e = go (slot_at slots (r.channel t n)) refl (kept.each (r.channel t n))
  where
    opened : is_step_of (slot_at slots (r.channel t n)) n ≡ true
    opened = sym (kept.opens n) ∙ rw e refl

    go : (slot : Option OpenStep) → slot_at slots (r.channel t n) ≡ slot → IfSome slot (λ o. IsOpenStep r t (r.channel t n) o) → path_in slot ≡ r.path t n
    go None f h = absurd (no_way (subst (λ (o : Option OpenStep). is_step_of o n ≡ true) f opened))
    go (Some o) f h =
        let same : (o.step == n) ≡ true = subst (λ (q : Option OpenStep). is_step_of q n ≡ true) f opened in
        let s : o.step ≡ n = grind (arith, nat_tests) in
        sym h.path ∙ ap (λ (m : ℕ). r.path t m) s

-- ---- what nodes say

pub value_is : (entities : ℕ → Option Entity) (vars : ℕ → ℤ) (n : ℕ) (said : Option Said) → said ≡ Some (said_for entities (kind_at (entities n)) (entities n)) → kind_at (entities n) ≡ kinds.Assign
    → value_said vars said ≡ value_said vars (Some (said_for entities kinds.Assign (entities n)))
value_is entities vars n said e k = ap (value_said vars) e ∙ ap (λ (own : Kind). value_said vars (Some (said_for entities own (entities n)))) k

pub answer_is : (entities : ℕ → Option Entity) (vars : ℕ → ℤ) (n : ℕ) (said : Option Said) → said ≡ Some (said_for entities (kind_at (entities n)) (entities n)) → (own : Kind) → kind_at (entities n) ≡ own
    → answer_said vars said ≡ answer_said vars (Some (said_for entities own (entities n)))
answer_is entities vars n said e own k = ap (answer_said vars) e ∙ ap (λ (other : Kind). answer_said vars (Some (said_for entities other (entities n)))) k

-- ---- a step that starts

-- what is offered as a start is done as one, and nothing else is
pub started_by : (o : Offer) (deed : Deed) → IsDeed o deed → o ≡ offers.Starts → deed ≡ deeds.Starts
started_by o deed d e = subst (λ (other : Offer). IsDeed other deed) e d

pub offered_start : (o : Offer) (deed : Deed) → IsDeed o deed → deed ≡ deeds.Starts → o ≡ offers.Starts
offered_start offers.Starts deed d f = refl
offered_start (offers.Cuts k) deed d f = absurd (let e : deeds.Cuts k ≡ deeds.Starts = sym d ∙ f in cc)
offered_start (offers.Does Assigning) deed d f = absurd (let e : deeds.Assigns ≡ deeds.Starts = sym d ∙ f in cc)
offered_start (offers.Does Setting) deed d f = absurd (let e : deeds.Sets ≡ deeds.Starts = sym d ∙ f in cc)
offered_start (offers.Does Waiting) deed d f = absurd (let e : deeds.Passes ≡ deeds.Starts = sym d ∙ f in cc)
offered_start (offers.Does Noting) deed d f = absurd (let e : deeds.Notes ≡ deeds.Starts = sym d ∙ f in cc)
offered_start (offers.Picks count ks) deed d f = absurd (let e : deeds.Picks count d.0 ≡ deeds.Starts = sym d.1 ∙ f in cc)
offered_start offers.Tests deed d f = absurd (let e : deeds.Tests ≡ deeds.Starts = sym d ∙ f in cc)
offered_start offers.Nothing deed d f = absurd d

-- a node that starts is a workingstep of the project
pub starter_is : (project : List Entity) (u : List Entry) (n : ℕ) (deed : Deed) → nodes (store_tree project) ≡ map (λ v. v.number) (walk_of (entity_at project) (main_of project)) → works (store_tree project) ≡ store_steps project
    → has (nodes (store_tree project)) n ≡ true → IsDeed (offer (store_tree project) u n) deed → deed ≡ deeds.Starts → has (store_steps project) n ≡ true
starter_is project u n deed walked worked here does f =
    let done = subst (λ (o : Offer). IsDoneBy o (kind_at (entity_at project n))) (offered_start (offer (store_tree project) u n) deed does f) (store_done_by (entity_at project) (main_of project) u n here) in
    subst (λ (ns : List ℕ). has ns n ≡ true) worked (works_has (entity_at project) (main_of project) n walked worked here done)

-- whether a deed is a start, by what is offered
pub starts_is : (o : Offer) (deed : Deed) → IsDeed o deed → starts_by deed ≡ does_start o
starts_is offers.Starts deed d = ap starts_by d
starts_is (offers.Cuts k) deed d = ap starts_by d
starts_is (offers.Does Assigning) deed d = ap starts_by d
starts_is (offers.Does Setting) deed d = ap starts_by d
starts_is (offers.Does Waiting) deed d = ap starts_by d
starts_is (offers.Does Noting) deed d = ap starts_by d
starts_is (offers.Picks count ks) deed d = ap starts_by d.1
starts_is offers.Tests deed d = ap starts_by d
starts_is offers.Nothing deed d = absurd d

-- ---- the entry of a node

-- what is known of node n where it is asked for its entry
pub record Asked (project : List Entity) (script : List ScriptEdit) (t : List Entry) (tree : TreeValue) (channel : ℕ) (said : Option Said) (vars : List (ℕ × ℤ)) (slots : List (Option OpenStep)) (version : ℕ) (n : ℕ) : Type 0 where
  pub tells : Told (rules_of project script) t tree
  pub kept : AreOpen (rules_of project script) t slots
  pub vars_are : (v : ℕ) → value_at vars v ≡ vars_after script project t v
  pub version_is : offer ((rules_of project script).tree t) (plain t) n ≡ offers.Starts → (rules_of project script).version t n ≡ version
  pub channel_is : channel ≡ (rules_of project script).channel t n
  pub said_is : said ≡ Some (said_for (entity_at project) (kind_at (entity_at project n)) (entity_at project n))
  pub done_by : IsDoneBy (offer ((rules_of project script).tree t) (plain t) n) (kind_at (entity_at project n))
  pub counted : (k : ℕ) → offer ((rules_of project script).tree t) (plain t) n ≡ Cuts k → stage n t ≡ Some k

pub entry_is : (project : List Entity) (script : List ScriptEdit) (t : List Entry) (tree : TreeValue) (channel : ℕ) (said : Option Said) (vars : List (ℕ × ℤ)) (slots : List (Option OpenStep)) (version : ℕ) (n : ℕ) → Asked project script t tree channel said vars slots version n
    → (deed : Deed) → IsDeed (offer ((rules_of project script).tree t) (plain t) n) deed → entry_by channel said slots (value_at vars) version n deed ≡ made (rules_of project script) t n
entry_is project script t tree channel said vars slots version n a deed d = go (offer ((rules_of project script).tree t) (plain t) n) refl d
  where
    values : value_at vars ≡ (λ v. vars_after script project t v)
    values = λ i v. a.vars_are v i

    done : (o : Offer) → offer ((rules_of project script).tree t) (plain t) n ≡ o → IsDoneBy o (kind_at (entity_at project n))
    done o f = subst (λ (other : Offer). IsDoneBy other (kind_at (entity_at project n))) f a.done_by

    tested : (kind_at (entity_at project n) ≡ kinds.If) ⊎ (kind_at (entity_at project n) ≡ kinds.While)
        → answer_said (value_at vars) said ≡ (rules_of project script).answer t n
    tested (inl k) = answer_is (entity_at project) (value_at vars) n said a.said_is kinds.If k ∙ ap (λ (f : ℕ → ℤ). answer_by project f n) values
    tested (inr k) = answer_is (entity_at project) (value_at vars) n said a.said_is kinds.While k ∙ ap (λ (f : ℕ → ℤ). answer_by project f n) values

    found : (o : Offer) → offer ((rules_of project script).tree t) (plain t) n ≡ o → IsDeed o deed → entry_by channel said slots (value_at vars) version n deed ≡ made_by (rules_of project script) t n o
    found offers.Starts f h = ap (entry_by channel said slots (value_at vars) version n) h ∙ ap (Dispatch n) (sym (a.version_is f))
    found (Cuts k) f h =
        ap (entry_by channel said slots (value_at vars) version n) h
        ∙ (ap (λ (c : ℕ). cut n k (slice_get (path_in (slot_at slots c)) k)) a.channel_is
        ∙ ap (λ (blocks : List PathBlock). cut n k (slice_get blocks k)) (path_is (rules_of project script) t slots n k a.kept (a.counted k f)))
    found (offers.Does Assigning) f h =
        ap (entry_by channel said slots (value_at vars) version n) h
        ∙ ap (Assign n) (value_is (entity_at project) (value_at vars) n said a.said_is (done (offers.Does Assigning) f) ∙ ap (λ (g : ℕ → ℤ). value_by project g n) values)
    found (offers.Does Setting) f h = ap (entry_by channel said slots (value_at vars) version n) h
    found (offers.Does Waiting) f h = ap (entry_by channel said slots (value_at vars) version n) h
    found (offers.Does Noting) f h = ap (entry_by channel said slots (value_at vars) version n) h
    found (Picks count ks) f h = ap (entry_by channel said slots (value_at vars) version n) h.1 ∙ ap (Pick n) (least_is count h.0 ks h.2)
    found offers.Tests f h = ap (entry_by channel said slots (value_at vars) version n) h ∙ ap (Test n) (tested (done offers.Tests f))
    found offers.Nothing f h = absurd h

    go : (o : Offer) → offer ((rules_of project script).tree t) (plain t) n ≡ o → IsDeed o deed → entry_by channel said slots (value_at vars) version n deed ≡ made (rules_of project script) t n
    go o f h = found o f h ∙ ap (made_by (rules_of project script) t n) (sym f)

-- what is made of the node, by the rules
pub made_is : (project : List Entity) (script : List ScriptEdit) (t : List Entry) (tree : TreeValue) (channel : ℕ) (said : Option Said) (vars : List (ℕ × ℤ)) (slots : List (Option OpenStep)) (version : ℕ) (n : ℕ) → Asked project script t tree channel said vars slots version n
    → (deed : Deed) → IsDeed (offer (tree_in tree) (plain t) n) deed → entry_by channel said slots (value_at vars) version n deed ≡ made (rules_of project script) t n
made_is project script t tree channel said vars slots version n a deed d =
    entry_is project script t tree channel said vars slots version n a deed (subst (λ (x : Exec). IsDeed (offer x (plain t) n) deed) a.tells.held d)

-- ---- definitions

-- only a step that starts makes a dispatch, and by its own definition
pub defined_is : (store : List Entity) (channel : ℕ) (said : Option Said) (slots : List (Option OpenStep)) (vars : ℕ → ℤ) (version n : ℕ) (deed : Deed)
    → (deed ≡ deeds.Starts → has_def store n ≡ true)
    → (m v : ℕ) → entry_by channel said slots vars version n deed ≡ Dispatch m v → IsSomeAnd (def_by store n deed) (λ d. def_of (entity_at store) m ≡ Ok d)
defined_is store channel said slots vars version n deed h m v e = go deed h e
  where
    cut_no : (k : ℕ) (o : Option PathBlock) → cut n k o ≡ Dispatch m v → ⊥
    cut_no k None f = cc
    cut_no k (Some b) f = cc

    own : (r : Result Def DefFault) → is_ok r ≡ true → IsSomeAnd (result_ok r) (λ def. r ≡ Ok def)
    own (Ok def) f = refl
    own (Err fault) f = absurd (no_way f)

    go : (d : Deed) → (d ≡ deeds.Starts → has_def store n ≡ true) → entry_by channel said slots vars version n d ≡ Dispatch m v
        → IsSomeAnd (def_by store n d) (λ def. def_of (entity_at store) m ≡ Ok def)
    go deeds.Starts g f = let s : n ≡ m = cc in subst (λ (i : ℕ). IsSomeAnd (result_ok (def_of (entity_at store) n)) (λ def. def_of (entity_at store) i ≡ Ok def)) s (own (def_of (entity_at store) n) (g refl))
    go (deeds.Cuts k) g f = absurd (cut_no k _ f)
    go deeds.Assigns g f = absurd (cc)
    go deeds.Sets g f = absurd (cc)
    go deeds.Passes g f = absurd (cc)
    go deeds.Notes g f = absurd (cc)
    go (deeds.Picks count picked) g f = absurd (cc)
    go deeds.Tests g f = absurd (cc)

-- The state of a run after one more entry.
use Rattle.std.specs.Prelude.{◌≡◌, ◌==◌, ◌||◌, not, ℕ, ℤ, pos, Bool, true, false, if◌then◌else◌, unwrap_or, is_some, List, [], ◌∷◌, ◌++◌, length, slice_get, Option, Some, None, IfSome, IsSome, IsSomeAnd, Ok}
use Rattle.std.specs.Option.{option_map_or, option_to_list}
use Rattle.std.proofs.Common.{refl, sym, ap, subst, ◌∙◌}
use Rattle.path_blocks.specs.declared.block.Block.{Block as PathBlock}
use Rattle.path_blocks.specs.declared.def.Def.{Def}
use Rattle.path_blocks.specs.Path.{path_of}
use Rattle.step_def.specs.DefOf.{def_of}
use Rattle.entity_types.specs.declared.entity.Entity.{Entity}
use Rattle.entity_types.specs.declared.edit.Edit.{Edit as ScriptEdit}
use Rattle.project_store.specs.Entities.{entity_at}
use Rattle.nc_expr.specs.Vars.{value_at, value_of_variable}
use Rattle.exec_tree.specs.Exec.{Assigning, Setting, Waiting, Noting, nodes, has, works}
use Rattle.exec_tree.specs.declared.kind.Kind.{Kind}
use Rattle.exec_tree.specs.declared.kind.Kind.TheVariants as kinds
use Rattle.exec_tree.specs.declared.node.BareNode.{BareNode}
use Rattle.exec_tree.specs.Executable.{kind_at}
use Rattle.exec_tree.specs.Said.{Said, said_for, target_of}
use Rattle.exec_tree.specs.Walked.{place_from}
use Rattle.exec_tree.specs.Built.{TreeValue, said_in}
use Rattle.trace_law.specs.Of.{number_of, has_some}
use Rattle.nc_base.specs.declared.verdict.Verdict.{Verdict}
use Rattle.trace_law.specs.State.{dispatched, marked, marks, stage, is_open}
use Rattle.trace_law.specs.Offer.{Offer, Starts, Cuts, Does, Picks, Tests, Nothing, offer, IsOffered}
use Rattle.run_log.specs.declared.entry.Entry.{Entry}
use Rattle.run_log.specs.declared.entry.Entry.TheVariants.{Dispatch, Block, End, Pick, Test, Assign, Set, Pass, Note, Edit}
use Rattle.run_law.specs.Rules.{Rules}
use Rattle.run_law.specs.Fits.{FitsNode, plain, is_enabled, is_busy, may_go_on}
use Rattle.exec_tree.specs.declared.role.Role.{Role}
use Rattle.exec_tree.specs.declared.role.Role.TheVariants.{Cutting}
use Rattle.run_frames.specs.declared.frames.Frames.{Frames}
use Rattle.run_frames.specs.Standing.{IsAt}
use Rattle.run_frames.specs.Ready.{IsSorted}
use Rattle.project_law.specs.Variables.{vars_with, vars_after}
use Rattle.project_law.specs.Script.{store_after}
use Rattle.project_law.specs.Paths.{blocks_in}
use Rattle.project_law.specs.ProjectRules.{rules_of}
use Rattle.project_law.specs.Legal.{Legal}
use Rattle.run_state.specs.declared.open_steps.OpenStep.{OpenStep}
use Rattle.run_state.specs.State.{flag_at, flag_after, mark_in, is_step_of, slot_at, slot_after, variable_in, variable_by, set_by, var_after}
use Rattle.run_state.specs.Kinds.{IsDoneBy}
use Rattle.run_state.specs.Kept.{IsState, IsDefined, IsOpenStep, AreOpen}
use Rattle.run_state.proofs.FollowLemmas.{Follows, plain_more, marks_follow, steps_follow}

-- ---- what an entry says of its node

pub assigned_kind : (o : Offer) (n m : ℕ) (x : ℤ) (k : Kind) → IsOffered o n (Assign m x) → IsDoneBy o k → k ≡ kinds.Assign
assigned_kind (Does Assigning) n m x k h d = d
assigned_kind (Does Setting) n m x k h d = absurd h
assigned_kind (Does Waiting) n m x k h d = absurd h
assigned_kind (Does Noting) n m x k h d = absurd h
assigned_kind Starts n m x k h d = absurd h
assigned_kind (Cuts j) n m x k h d = absurd h
assigned_kind (Picks c ks) n m x k h d = absurd h
assigned_kind Tests n m x k h d = absurd h
assigned_kind Nothing n m x k h d = absurd h

pub started_kind : (o : Offer) (n m v : ℕ) (k : Kind) → IsOffered o n (Dispatch m v) → IsDoneBy o k → k ≡ kinds.Work
started_kind Starts n m v k h d = d
started_kind (Does Assigning) n m v k h d = absurd h
started_kind (Does Setting) n m v k h d = absurd h
started_kind (Does Waiting) n m v k h d = absurd h
started_kind (Does Noting) n m v k h d = absurd h
started_kind (Cuts j) n m v k h d = absurd h
started_kind (Picks c ks) n m v k h d = absurd h
started_kind Tests n m v k h d = absurd h
started_kind Nothing n m v k h d = absurd h

pub ended_cuts : (o : Offer) (n m : ℕ) → IsOffered o n (End m) → (j : ℕ) × (o ≡ Cuts j)
ended_cuts (Cuts j) n m h = (j, refl)
ended_cuts Starts n m h = absurd h
ended_cuts (Does Assigning) n m h = absurd h
ended_cuts (Does Setting) n m h = absurd h
ended_cuts (Does Waiting) n m h = absurd h
ended_cuts (Does Noting) n m h = absurd h
ended_cuts (Picks c ks) n m h = absurd h
ended_cuts Tests n m h = absurd h
ended_cuts Nothing n m h = absurd h

-- a node that says something has a place
placed : (nodes : List BareNode) (said : List Said) (n : ℕ) (s : Said) → option_map_or (λ p. slice_get said p) (place_from 0 nodes n) None ≡ Some s → IsSome (place_from 0 nodes n)
placed nodes said n s e = go (place_from 0 nodes n) e
  where
    none_some : None ≡ Some s → ⊥
    none_some f = cc

    go : (o : Option ℕ) → option_map_or (λ p. slice_get said p) o None ≡ Some s → IsSome o
    go None f = absurd (none_some f)
    go (Some p) f = refl

mark_placed : (nodes : List BareNode) (x : Entry) (n : ℕ) → number_of x ≡ Some n → IsSome (place_from 0 nodes n) → IfSome (marked x) (λ m. IsSome (place_from 0 nodes m))
mark_placed nodes (Set m) n e h = let f : n ≡ m = cc in subst (λ (k : ℕ). IsSome (place_from 0 nodes k)) f h
mark_placed nodes (Dispatch m v) n e h = tt
mark_placed nodes (Block m k b) n e h = tt
mark_placed nodes (End m) n e h = tt
mark_placed nodes (Pick m k) n e h = tt
mark_placed nodes (Test m b) n e h = tt
mark_placed nodes (Assign m y) n e h = tt
mark_placed nodes (Pass m) n e h = tt
mark_placed nodes (Note m) n e h = tt
mark_placed nodes (Edit i w) n e h = tt

-- ---- variables

-- an assignment's node names the variable that the store says
variable_is : (project : List Entity) (tree : TreeValue) (n : ℕ) → said_in tree n ≡ Some (said_for (entity_at project) (kind_at (entity_at project n)) (entity_at project n)) → kind_at (entity_at project n) ≡ kinds.Assign
    → variable_in tree n ≡ Some (target_of (entity_at project n))
variable_is project tree n e k = ap variable_by (e ∙ ap (λ (own : Kind). Some (said_for (entity_at project) own (entity_at project n))) k)

vars_follow : (project : List Entity) (script : List ScriptEdit) (tree : TreeValue) (t : List Entry) (x : Entry) (n : ℕ) (old new : List (ℕ × ℤ)) (o : Offer) → number_of x ≡ Some n
    → said_in tree n ≡ Some (said_for (entity_at project) (kind_at (entity_at project n)) (entity_at project n)) → IsOffered o n x → IsDoneBy o (kind_at (entity_at project n))
    → ((v : ℕ) → value_at old v ≡ vars_after script project t v) → ((m : ℕ) → value_of_variable new m ≡ var_after tree x (value_of_variable old m) m)
    → (v : ℕ) → value_at new v ≡ vars_with project (vars_after script project t) x v
vars_follow project script tree t (Assign m y) n old new o e said offered done vars moved v =
    let f : n ≡ m = cc in
    let names = subst (λ (k : ℕ). variable_in tree k ≡ Some (target_of (entity_at project k))) f (variable_is project tree n said (assigned_kind o n m y (kind_at (entity_at project n)) offered done)) in
    ap (λ (z : Option ℤ). unwrap_or z (pos 0)) (moved v ∙ ap (λ (u : Option ℕ). set_by u y (value_of_variable old v) v) names) ∙ go (target_of (entity_at project m) == v)
  where
    go : (b : Bool) → unwrap_or (if b then Some y else value_of_variable old v) (pos 0) ≡ (if b then y else vars_after script project t v)
    go true = refl
    go false = vars v
vars_follow project script tree t (Dispatch m w) n old new o e said offered done vars moved v = ap (λ (z : Option ℤ). unwrap_or z (pos 0)) (moved v) ∙ vars v
vars_follow project script tree t (Block m k b) n old new o e said offered done vars moved v = ap (λ (z : Option ℤ). unwrap_or z (pos 0)) (moved v) ∙ vars v
vars_follow project script tree t (End m) n old new o e said offered done vars moved v = ap (λ (z : Option ℤ). unwrap_or z (pos 0)) (moved v) ∙ vars v
vars_follow project script tree t (Pick m k) n old new o e said offered done vars moved v = ap (λ (z : Option ℤ). unwrap_or z (pos 0)) (moved v) ∙ vars v
vars_follow project script tree t (Test m b) n old new o e said offered done vars moved v = ap (λ (z : Option ℤ). unwrap_or z (pos 0)) (moved v) ∙ vars v
vars_follow project script tree t (Set m) n old new o e said offered done vars moved v = ap (λ (z : Option ℤ). unwrap_or z (pos 0)) (moved v) ∙ vars v
vars_follow project script tree t (Pass m) n old new o e said offered done vars moved v = ap (λ (z : Option ℤ). unwrap_or z (pos 0)) (moved v) ∙ vars v
vars_follow project script tree t (Note m) n old new o e said offered done vars moved v = ap (λ (z : Option ℤ). unwrap_or z (pos 0)) (moved v) ∙ vars v
vars_follow project script tree t (Edit i w) n old new o e said offered done vars moved v = ap (λ (z : Option ℤ). unwrap_or z (pos 0)) (moved v) ∙ vars v

set_some : (u : Option ℕ) (y : ℤ) (o : Option ℤ) (v : ℕ) → IsSome o → IsSome (set_by u y o v)
set_some None y o v h = h
set_some (Some m) y o v h = go (m == v)
  where
    go : (b : Bool) → IsSome (if b then Some y else o)
    go true = refl
    go false = h

var_some : (tree : TreeValue) (x : Entry) (o : Option ℤ) (v : ℕ) → IsSome o → IsSome (var_after tree x o v)
var_some tree (Assign n y) o v h = set_some (variable_in tree n) y o v h
var_some tree (Dispatch m w) o v h = h
var_some tree (Block m k b) o v h = h
var_some tree (End m) o v h = h
var_some tree (Pick m k) o v h = h
var_some tree (Test m b) o v h = h
var_some tree (Set m) o v h = h
var_some tree (Pass m) o v h = h
var_some tree (Note m) o v h = h
var_some tree (Edit i w) o v h = h

-- ---- the path of a dispatch is that of its definition

pub sent_path : (store : List Entity) (def : Option Def) (m : ℕ) (path : List PathBlock) → path ≡ blocks_in (entity_at store) m → IsSomeAnd def (λ d. def_of (entity_at store) m ≡ Ok d) → IsSomeAnd def (λ d. path ≡ path_of d)
sent_path store None m path e h = h
sent_path store (Some d) m path e h = e ∙ rw h refl

-- ---- all of it

-- what is known of an entry that fits
pub record Entered (project : List Entity) (script : List ScriptEdit) (tree : TreeValue) (t : List Entry) (x : Entry) (n : ℕ) (def : Option Def) : Type 0 where
  pub number : number_of x ≡ Some n
  pub legal : Legal project script (t ++ x ∷ [])
  pub said : said_in tree n ≡ Some (said_for (entity_at project) (kind_at (entity_at project n)) (entity_at project n))
  pub offered : IsOffered (offer ((rules_of project script).tree t) (plain t) n) n x
  pub done : IsDoneBy (offer ((rules_of project script).tree t) (plain t) n) (kind_at (entity_at project n))
  pub numbered : (m place : ℕ) → place_from 0 tree.nodes m ≡ Some place → (node : BareNode) × (slice_get tree.nodes place ≡ Some node) × (node.number ≡ Some m)
  pub vars : (v : ℕ) → vars_after script project (t ++ x ∷ []) v ≡ vars_with project (vars_after script project t) x v
  pub follows : Follows (rules_of project script) t x n def

pub state_follows : (project : List Entity) (script : List ScriptEdit) (tree : TreeValue) (frames frames' : Frames) (t : List Entry) (flags flags' : List Bool) (vars vars' : List (ℕ × ℤ)) (slots slots' : List (Option OpenStep))
    (x : Entry) (n : ℕ) (def : Option Def) (channel : ℕ) → IsState project script tree frames t flags vars slots → Entered project script tree t x n def
    → IsAt tree.nodes frames' (plain t ++ x ∷ []) → IsSorted tree frames' (plain t ++ x ∷ []) (marks t ++ option_to_list (marked x)) → marks (t ++ x ∷ []) ≡ marks t ++ option_to_list (marked x) → length flags' ≡ length flags → ((q : ℕ) → flag_at flags' q ≡ flag_after tree.nodes (marked x) (flag_at flags q) q)
    → ((m : ℕ) → value_of_variable vars' m ≡ var_after tree x (value_of_variable vars m) m)
    → channel ≡ (rules_of project script).channel t n → ((c : ℕ) → slot_at slots' c ≡ (if c == channel then slot_after def x (slot_at slots c) else slot_at slots c))
    → IsState project script tree frames' (t ++ x ∷ []) flags' vars' slots'
state_follows project script tree frames frames' t flags flags' vars vars' slots slots' x n def channel k e at sorted marked_so fit moved assigned is opened = record {
  tree_is = k.tree_is;
  at = subst (IsAt tree.nodes frames') (sym (plain_more t x n e.number)) at;
  sorted = subst (λ (u : List Entry). IsSorted tree frames' u (marks (t ++ x ∷ []))) (sym (plain_more t x n e.number)) (subst (IsSorted tree frames' (plain t ++ x ∷ [])) (sym marked_so) sorted);
  legal = e.legal;
  flags_fit = fit ∙ k.flags_fit;
  marks_are = marks_follow tree.nodes flags flags' t x e.numbered (mark_placed tree.nodes x n e.number (placed tree.nodes tree.said n _ e.said)) k.marks_are moved;
  vars_are = λ v. vars_follow project script tree t x n vars vars' (offer ((rules_of project script).tree t) (plain t) n) e.number e.said e.offered e.done k.vars_are assigned v ∙ sym (e.vars v);
  vars_there = λ m v f. subst IsSome (sym (assigned v)) (var_some tree x (value_of_variable vars v) v (k.vars_there m v f));
  steps_are = steps_follow (rules_of project script) t x n def slots slots' channel e.follows k.steps_are is opened;
}

-- what is known with the rules after an entry that fits
pub follows_is : (project : List Entity) (script : List ScriptEdit) (t : List Entry) (x : Entry) (n : ℕ) (def : Option Def) → number_of x ≡ Some n → FitsNode (rules_of project script) t x
    → IsOffered (offer ((rules_of project script).tree t) (plain t) n) n x → IsDoneBy (offer ((rules_of project script).tree t) (plain t) n) (kind_at (entity_at project n))
    → (kind_at (entity_at project n) ≡ kinds.Work → has (works ((rules_of project script).tree t)) n ≡ true)
    → (has (works ((rules_of project script).tree t)) n ≡ true → (rules_of project script).role t n ≡ Cutting)
    → ((j : ℕ) → offer ((rules_of project script).tree t) (plain t) n ≡ Cuts j → stage n t ≡ Some j)
    → ((m : ℕ) → has_some (m ∷ []) (dispatched x) ≡ false → (rules_of project script).path (t ++ x ∷ []) m ≡ (rules_of project script).path t m)
    → ((m v : ℕ) → (rules_of project script).path (t ++ Dispatch m v ∷ []) m ≡ blocks_in (entity_at (store_after script project t)) m)
    → IsDefined (store_after script project t) x def → Follows (rules_of project script) t x n def
follows_is project script t x n def e fits offered done works_if role_if counted kept path defined = record {
  number = e;
  channel = λ m. refl;
  tree = refl;
  frozen = kept;
  sent = λ m v f. sent_path (store_after script project t) def m ((rules_of project script).path (t ++ x ∷ []) m) (subst (λ (y : Entry). (rules_of project script).path (t ++ y ∷ []) m ≡ blocks_in (entity_at (store_after script project t)) m) (sym f) (path m v)) (defined m v f);
  starts = λ m v f. starts m v f;
  ends = λ m f. ends m f;
}
  where
    starts : (m v : ℕ) → x ≡ Dispatch m v → (has (works ((rules_of project script).tree t)) m ≡ true) × ((is_open m t || not (is_busy (rules_of project script) t ((rules_of project script).channel t m))) ≡ true)
    starts m v f =
        let g : Some m ≡ Some n = sym (ap number_of f) ∙ e in
        let s : n ≡ m = cc in
        let k = started_kind (offer ((rules_of project script).tree t) (plain t) n) n m v (kind_at (entity_at project n)) (subst (IsOffered (offer ((rules_of project script).tree t) (plain t) n) n) f offered) done in
        let w = works_if k in
        let i : is_enabled (rules_of project script) t n ≡ true = subst (λ (o : Option ℕ). IsSomeAnd o (λ q. is_enabled (rules_of project script) t q ≡ true)) e fits.enabled in
        let j : may_go_on (rules_of project script) t n Cutting ≡ true = subst (λ (role : Role). may_go_on (rules_of project script) t n role ≡ true) (role_if w) i in (
          subst (λ (q : ℕ). has (works ((rules_of project script).tree t)) q ≡ true) s w,
          subst (λ (q : ℕ). (is_open q t || not (is_busy (rules_of project script) t ((rules_of project script).channel t q))) ≡ true) s j,
        )

    ends : (m : ℕ) → x ≡ End m → is_open m t ≡ true
    ends m f =
        let g : Some m ≡ Some n = sym (ap number_of f) ∙ e in
        let s : n ≡ m = cc in
        let z = ended_cuts (offer ((rules_of project script).tree t) (plain t) n) n m (subst (IsOffered (offer ((rules_of project script).tree t) (plain t) n) n) f offered) in
        subst (λ (q : ℕ). is_open q t ≡ true) s (ap is_some (counted z.0 z.1))

-- ---- before the first entry

pub no_marks : (nodes : List BareNode) (flags : List Bool) → ((place : ℕ) → flag_at flags place ≡ false) → (n : ℕ) → mark_in nodes flags n ≡ false
no_marks nodes flags h n = go (place_from 0 nodes n)
  where
    go : (o : Option ℕ) → option_map_or (λ place. flag_at flags place) o false ≡ false
    go None = refl
    go (Some p) = h p

pub none_open : (r : Rules) (slots : List (Option OpenStep)) → ((c : ℕ) → slot_at slots c ≡ None) → AreOpen r [] slots
none_open r slots h = record {
  opens = λ n. ap (λ (o : Option OpenStep). is_step_of o n) (sym (h (r.channel [] n)));
  each = λ c. subst (λ (o : Option OpenStep). IfSome o (λ p. IsOpenStep r [] c p)) (sym (h c)) tt;
}

-- ---- after a verdict

-- a verdict leaves the tree's run as it is
pub edit_follows : (project : List Entity) (script : List ScriptEdit) (tree : TreeValue) (frames : Frames) (t : List Entry) (flags : List Bool) (vars : List (ℕ × ℤ)) (slots : List (Option OpenStep)) (i : ℕ) (w : Verdict)
    → IsState project script tree frames t flags vars slots → Legal project script (t ++ Edit i w ∷ []) → plain (t ++ Edit i w ∷ []) ≡ plain t → marks (t ++ Edit i w ∷ []) ≡ marks t ++ []
    → ((v : ℕ) → vars_after script project (t ++ Edit i w ∷ []) v ≡ vars_after script project t v) → ((n : ℕ) → stage n (t ++ Edit i w ∷ []) ≡ stage n t)
    → ((n : ℕ) → (rules_of project script).path (t ++ Edit i w ∷ []) n ≡ (rules_of project script).path t n) → IsState project script tree frames (t ++ Edit i w ∷ []) flags vars slots
edit_follows project script tree frames t flags vars slots i w k legal plains marked_so vars_so stages paths = record {
  tree_is = k.tree_is;
  at = subst (IsAt tree.nodes frames) (sym plains) k.at;
  sorted = subst (λ (u : List Entry). IsSorted tree frames u (marks (t ++ Edit i w ∷ []))) (sym plains) (subst (IsSorted tree frames (plain t)) (sym (marked_so ∙ append_none (marks t))) k.sorted);
  legal = legal;
  flags_fit = k.flags_fit;
  marks_are = λ n. k.marks_are n ∙ ap (λ (ns : List ℕ). has ns n) (sym (marked_so ∙ append_none (marks t)));
  vars_are = λ v. k.vars_are v ∙ sym (vars_so v);
  vars_there = k.vars_there;
  steps_are = record {
    opens = λ n. ap is_some (stages n) ∙ k.steps_are.opens n;
    each = λ c. each c (slot_at slots c) (k.steps_are.each c);
  };
}
  where
    append_none : (ns : List ℕ) → ns ++ [] ≡ ns
    append_none [] = refl
    append_none (n ∷ ns) = ap (λ (ms : List ℕ). n ∷ ms) (append_none ns)

    each : (c : ℕ) (slot : Option OpenStep) → IfSome slot (λ o. IsOpenStep (rules_of project script) t c o) → IfSome slot (λ o. IsOpenStep (rules_of project script) (t ++ Edit i w ∷ []) c o)
    each c None h = tt
    each c (Some o) h = record { channel = h.channel; among = h.among; path = paths o.step ∙ h.path }

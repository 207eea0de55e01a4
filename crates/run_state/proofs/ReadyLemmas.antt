-- The marks that are released are those that are set, and what the frames find by them is what the rules say.
use Rattle.std.specs.Prelude.{◌≡◌, ◌<◌, ◌≤◌, max, ◌==◌, ◌||◌, ◌&&◌, not, ℕ, Bool, true, false, List, [], ◌∷◌, ◌++◌, length, find, is_some, is_none, Option, Some, None}
use Rattle.std.specs.Option.{option_to_list}
use Rattle.std.specs.List.{list_all}
use Rattle.std.proofs.Common.{refl, sym, ap, subst, ◌∙◌, arith, cond}
use Rattle.std.proofs.lemmas.Bool.Decides.{nat_tests}
use Rattle.exec_tree.specs.Exec.{Exec, nodes, has}
use Rattle.exec_tree.specs.Built.{TreeValue, role_in}
use Rattle.exec_tree.specs.declared.role.Role.{Role}
use Rattle.exec_tree.specs.declared.role.Role.TheVariants.{Cutting, Waiting, Free}
use Rattle.exec_tree.specs.declared.limits.TheConstants.{MAX_CHANNELS}
use Rattle.trace_law.specs.Below.{tree_in}
use Rattle.trace_law.specs.Next.{next}
use Rattle.trace_law.specs.State.{is_open, marks, marked, stage}
use Rattle.run_log.specs.declared.entry.Entry.{Entry}
use Rattle.run_law.specs.Rules.{Rules}
use Rattle.run_law.specs.Fits.{plain, next_of, is_busy, is_enabled, may_go_on}
use Rattle.run_law.specs.Endings.{waits, waits_by}
use Rattle.run_law.specs.Replay.{ready}
use Rattle.run_frames.specs.declared.frames.Frames.{Frames}
use Rattle.run_frames.specs.Ready.{IsSorted, is_ready, may_by}
use Rattle.run_frames.specs.Ready as sorted
use Rattle.run_frames.proofs.ReadyLemmas.{sorted_alike}
use Rattle.run_state.specs.declared.open_steps.OpenStep.{OpenStep}
use Rattle.run_state.specs.State.{slot_at, is_step_of, may_cut}
use Rattle.run_state.specs.Kept.{AreOpen}
use Rattle.run_state.proofs.QuestionLemmas.{Told, find_same, all_same, busy_is, not_some}
use Rattle.run_state.proofs.FollowLemmas.{has_put}

-- ---- marks that are released

append_none : (ns : List ℕ) → ns ++ [] ≡ ns
append_none [] = refl
append_none (n ∷ ns) = ap (λ (ms : List ℕ). n ∷ ms) (append_none ns)

-- an entry that sets no mark releases none
pub released_none : (tree : TreeValue) (f : Frames) (t : List Entry) (released : List ℕ) (x : Entry) → marked x ≡ None → IsSorted tree f t released → IsSorted tree f t (released ++ option_to_list (marked x))
released_none tree f t released x e s = subst (IsSorted tree f t) (sym (ap (λ (o : Option ℕ). released ++ option_to_list o) e ∙ append_none released)) s

-- a mark that is set again is already among those released
pub released_again : (tree : TreeValue) (f : Frames) (t : List Entry) (released : List ℕ) (x : Entry) (n : ℕ) → marked x ≡ Some n → has released n ≡ true → IsSorted tree f t released → IsSorted tree f t (released ++ option_to_list (marked x))
released_again tree f t released x n e h s = sorted_alike tree f t released (released ++ option_to_list (marked x)) (λ m. again m ∙ ap (λ (o : Option ℕ). has (released ++ option_to_list o) m) (sym e)) s
  where
    go : (m : ℕ) (b : Bool) → (n == m) ≡ b → has released m ≡ (b || has released m)
    go m true f = let i : n ≡ m = grind (arith, nat_tests) in subst (λ (k : ℕ). has released k ≡ true) i h
    go m false f = refl

    again : (m : ℕ) → has released m ≡ has (released ++ n ∷ []) m
    again m = go m (n == m) refl ∙ sym (has_put released n m)

-- a mark that is set for the first time is released
pub released_new : (tree : TreeValue) (f : Frames) (t : List Entry) (released : List ℕ) (x : Entry) (n : ℕ) → marked x ≡ Some n → IsSorted tree f t (released ++ n ∷ []) → IsSorted tree f t (released ++ option_to_list (marked x))
released_new tree f t released x n e s = subst (λ (o : Option ℕ). IsSorted tree f t (released ++ option_to_list o)) (sym e) s

-- ---- nodes that may go on, and nodes that wait

-- an idle channel is one that isn't busy
idle_is : (r : Rules) (t : List Entry) (slots : List (Option OpenStep)) (c : ℕ) (idle : Bool) → AreOpen r t slots → idle ≡ is_none (slot_at slots c) → idle ≡ not (is_busy r t c)
idle_is r t slots c idle kept is = is ∙ (not_some (slot_at slots c) ∙ ap not (sym (busy_is r t slots kept c)))

-- a workingstep may go on by the open step of its channel exactly where the rules say so
pub cutting_is : (r : Rules) (t : List Entry) (slots : List (Option OpenStep)) (n : ℕ) → AreOpen r t slots → may_cut (slot_at slots (r.channel t n)) n ≡ may_go_on r t n Cutting
cutting_is r t slots n kept = by_slot (slot_at slots (r.channel t n)) ∙ (ap (λ (b : Bool). b || is_none (slot_at slots (r.channel t n))) (sym (kept.opens n)) ∙ ap (λ (b : Bool). is_open n t || b) (idle_is r t slots (r.channel t n) (is_none (slot_at slots (r.channel t n))) kept refl))
  where
    by_slot : (slot : Option OpenStep) → may_cut slot n ≡ (is_step_of slot n || is_none slot)
    by_slot None = refl
    by_slot (Some o) = or_no (o.step == n)
      where
        or_no : (b : Bool) → b ≡ (b || false)
        or_no true = refl
        or_no false = refl

-- what the frames find is what the rules say, where a step is open by the entries of nodes where it is by all
pub ready_is : (r : Rules) (t : List Entry) (tree : TreeValue) (slots : List (Option OpenStep)) (c : ℕ) (idle : Bool) → Told r t tree → AreOpen r t slots → ((n : ℕ) → stage n (plain t) ≡ stage n t)
    → idle ≡ is_none (slot_at slots c) → find (is_ready tree (plain t) (marks t) c idle) (next (tree_in tree) (plain t)) ≡ ready r t c
ready_is r t tree slots c idle told kept stages is =
    ap (λ (e : Exec). find (is_ready tree (plain t) (marks t) c idle) (next e (plain t))) told.held
    ∙ find_same (is_ready tree (plain t) (marks t) c idle) (λ n. (r.channel t n == c) && is_enabled r t n) (next_of r t) (λ n h. own n (told.within n h))
  where
    may : (n : ℕ) (role : Role) → r.channel t n ≡ c → may_by role (is_open n (plain t)) idle (marks t) ≡ may_go_on r t n role
    may n Cutting e = ap (λ (o : Option ℕ). is_some o || idle) (stages n) ∙ ap (λ (b : Bool). is_open n t || b) (idle_is r t slots c idle kept is ∙ ap (λ (k : ℕ). not (is_busy r t k)) (sym e))
    may n (Waiting m) e = refl
    may n Free e = refl

    in_channel : (n : ℕ) (b : Bool) → (r.channel t n == c) ≡ b → (b && may_by (r.role t n) (is_open n (plain t)) idle (marks t)) ≡ (b && is_enabled r t n)
    in_channel n true e = let i : r.channel t n ≡ c = grind (arith, nat_tests) in may n (r.role t n) i
    in_channel n false e = refl

    own : (n : ℕ) → has (nodes (r.tree t)) n ≡ true → is_ready tree (plain t) (marks t) c idle n ≡ ((r.channel t n == c) && is_enabled r t n)
    own n h =
        ap (λ (k : ℕ). (k == c) && may_by (role_in tree n) (is_open n (plain t)) idle (marks t)) (told.channels n)
        ∙ (ap (λ (role : Role). (r.channel t n == c) && may_by role (is_open n (plain t)) idle (marks t)) (told.roles n h) ∙ in_channel n (r.channel t n == c) refl)

-- there are as many channels as there may be
pub within_limit : (channel : ℕ) (channels : List ℕ) → channel < max 1 (length channels) → length channels ≤ MAX_CHANNELS → channel < MAX_CHANNELS
within_limit channel channels l few = omega (arith, l, few)

-- no node is of a channel that the tree doesn't have
pub none_ready : (r : Rules) (t : List Entry) (c : ℕ) → ((n : ℕ) → r.channel t n < MAX_CHANNELS) → MAX_CHANNELS ≤ c → ready r t c ≡ None
none_ready r t c small far = go (next_of r t)
  where
    other : (n : ℕ) → (r.channel t n == c) ≡ false
    other n = apart (r.channel t n == c) refl
      where
        apart : (b : Bool) → (r.channel t n == c) ≡ b → b ≡ false
        apart true e = let i : r.channel t n ≡ c = grind (arith, nat_tests) in let l = small n in absurd (omega (arith, i, l, far))
        apart false e = refl

    go : (ns : List ℕ) → find (λ n. (r.channel t n == c) && is_enabled r t n) ns ≡ None
    go [] = refl
    go (n ∷ ns) = ap (λ (b : Bool). cond (b && is_enabled r t n) (Some n) (find (λ m. (r.channel t m == c) && is_enabled r t m) ns)) (other n) ∙ go ns

pub all_wait_is : (r : Rules) (t : List Entry) (tree : TreeValue) → Told r t tree → list_all (λ n. sorted.waits_by (role_in tree n) (marks t)) (next (tree_in tree) (plain t)) ≡ list_all (waits r t) (next_of r t)
all_wait_is r t tree told =
    ap (λ (e : Exec). list_all (λ n. sorted.waits_by (role_in tree n) (marks t)) (next e (plain t))) told.held
    ∙ all_same (λ n. sorted.waits_by (role_in tree n) (marks t)) (waits r t) (next_of r t) (λ n h. ap (λ (role : Role). sorted.waits_by role (marks t)) (told.roles n (told.within n h)) ∙ go (r.role t n))
  where
    go : (role : Role) → sorted.waits_by role (marks t) ≡ waits_by t role
    go Cutting = refl
    go (Waiting m) = refl
    go Free = refl

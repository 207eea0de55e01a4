-- What is kept after one more entry.
use Rattle.std.specs.Prelude.{◌≡◌, ◌+◌, ◌==◌, ◌||◌, not, ℕ, Bool, true, false, if◌then◌else◌, is_some, List, [], ◌∷◌, ◌++◌, slice_get, Option, Some, None, IfSome, IsSome, IsSomeAnd}
use Rattle.std.specs.Option.{option_map, option_map_or}
use Rattle.std.specs.List.{cons_option}
use Rattle.std.proofs.Common.{refl, sym, ap, subst, ◌∙◌, arith, cond}
use Rattle.std.proofs.lemmas.Bool.Decides.{nat_tests}
use Rattle.path_blocks.specs.declared.def.Def.{Def}
use Rattle.path_blocks.specs.Path.{path_of}
use Rattle.path_blocks.specs.Place.{start}
use Rattle.exec_tree.specs.Exec.{Exec, has, works}
use Rattle.exec_tree.specs.declared.node.BareNode.{BareNode}
use Rattle.exec_tree.specs.Walked.{place_from}
use Rattle.trace_law.specs.Of.{number_of, has_some}
use Rattle.trace_law.specs.State.{dispatched, marked, marks, stage, stage_step, stage_from, is_open}
use Rattle.run_log.specs.declared.entry.Entry.{Entry}
use Rattle.run_log.specs.declared.entry.Entry.TheVariants.{Dispatch, Block, End, Pick, Test, Assign, Set, Pass, Note, Edit}
use Rattle.run_law.specs.Rules.{Rules}
use Rattle.run_law.specs.Fits.{Fits, FitsNode, plain, is_plain, is_busy}
use Rattle.run_state.specs.declared.open_steps.OpenStep.{OpenStep}
use Rattle.run_state.specs.State.{flag_at, mark_in, slot_at, slot_after, is_step_of, is_place_of, flag_after}
use Rattle.run_state.specs.Kept.{IsOpenStep, AreOpen}
use Rattle.run_state.proofs.QuestionLemmas.{busy_is}

no_way : false ≡ true → ⊥
no_way e = cc

-- ---- an entry of a node that fits

pub record IsOfNode (r : Rules) (t : List Entry) (x : Entry) : Type 0 where
  pub n : ℕ
  pub number : number_of x ≡ Some n
  pub fits : FitsNode r t x

pub is_of_node : (r : Rules) (t : List Entry) (x : Entry) → is_plain x ≡ true → Fits r t x → IsOfNode r t x
is_of_node r t (Dispatch n v) d f = record { n = n; number = refl; fits = f }
is_of_node r t (Block n k b) d f = record { n = n; number = refl; fits = f }
is_of_node r t (End n) d f = record { n = n; number = refl; fits = f }
is_of_node r t (Pick n k) d f = record { n = n; number = refl; fits = f }
is_of_node r t (Test n b) d f = record { n = n; number = refl; fits = f }
is_of_node r t (Assign n x) d f = record { n = n; number = refl; fits = f }
is_of_node r t (Set n) d f = record { n = n; number = refl; fits = f }
is_of_node r t (Pass n) d f = record { n = n; number = refl; fits = f }
is_of_node r t (Note n) d f = record { n = n; number = refl; fits = f }
is_of_node r t (Edit i w) d f = absurd (no_way d)

-- such an entry is no edit
pub plain_more : (t : List Entry) (x : Entry) (n : ℕ) → number_of x ≡ Some n → plain (t ++ x ∷ []) ≡ plain t ++ x ∷ []
plain_more t x n e = go t
  where
    last : plain (x ∷ []) ≡ x ∷ []
    last = let p : is_plain x ≡ true = ap is_some e in rw p refl

    put : (b : Bool) (y : Entry) (u v w : List Entry) → u ≡ v ++ w → cond b (y ∷ u) u ≡ cond b (y ∷ v) v ++ w
    put true y u v w f = ap (λ (s : List Entry). y ∷ s) f
    put false y u v w f = f

    go : (u : List Entry) → plain (u ++ x ∷ []) ≡ plain u ++ x ∷ []
    go [] = last
    go (y ∷ u) = put (is_plain y) y (plain (u ++ x ∷ [])) (plain u) (x ∷ []) (go u)

-- ---- marks

marks_more : (t : List Entry) (x : Entry) → marks (t ++ x ∷ []) ≡ marks t ++ cons_option (marked x) []
marks_more [] x = refl
marks_more (y ∷ t) x = go (marked y) (marks_more t x)
  where
    go : (o : Option ℕ) → marks (t ++ x ∷ []) ≡ marks t ++ cons_option (marked x) [] → cons_option o (marks (t ++ x ∷ [])) ≡ cons_option o (marks t) ++ cons_option (marked x) []
    go None e = e
    go (Some n) e = ap (λ (ns : List ℕ). n ∷ ns) e

pub has_put : (ns : List ℕ) (n m : ℕ) → has (ns ++ n ∷ []) m ≡ ((n == m) || has ns m)
has_put [] n m = refl
has_put (k ∷ ns) n m = ap (λ (b : Bool). (k == m) || b) (has_put ns n m) ∙ go (k == m) (n == m)
  where
    go : (a b : Bool) → (a || (b || has ns m)) ≡ (b || (a || has ns m))
    go true true = refl
    go true false = refl
    go false b = refl

-- a place is that of n exactly where the number that it is of is n
same_place : (arena : List BareNode) → ((n place : ℕ) → place_from 0 arena n ≡ Some place → (node : BareNode) × (slice_get arena place ≡ Some node) × (node.number ≡ Some n))
    → (n m p : ℕ) → IsSome (place_from 0 arena n) → place_from 0 arena m ≡ Some p → is_place_of arena p n ≡ (n == m)
same_place arena numbered n m p some e = go (place_from 0 arena n) refl some
  where
    one : (q : ℕ) → place_from 0 arena n ≡ Some q → (b : Bool) → (n == m) ≡ b → (q == p) ≡ b
    one q f true g =
        let s : n ≡ m = grind (arith, nat_tests) in
        let h : Some q ≡ Some p = sym f ∙ (ap (place_from 0 arena) s ∙ e) in
        let i : q ≡ p = cc in
        grind (arith, nat_tests)
    one q f false g = apart (q == p) refl
      where
        apart : (b : Bool) → (q == p) ≡ b → b ≡ false
        apart false h = refl
        apart true h =
            let i : q ≡ p = grind (arith, nat_tests) in
            let x = numbered n q f in
            let y = numbered m p e in
            let j : Some x.0 ≡ Some y.0 = sym x.1 ∙ (ap (slice_get arena) i ∙ y.1) in
            let k : x.0 ≡ y.0 = cc in
            let l : Some n ≡ Some m = sym x.2 ∙ (ap (λ (node : BareNode). node.number) k ∙ y.2) in
            let s : n ≡ m = cc in
            let z : (n == m) ≡ true = grind (arith, nat_tests) in
            absurd (no_way (sym g ∙ z))

    go : (o : Option ℕ) → place_from 0 arena n ≡ o → IsSome o → option_map_or (λ (q : ℕ). q == p) o false ≡ (n == m)
    go None f h = absurd (no_way h)
    go (Some q) f h = one q f (n == m) refl

pub marks_follow : (arena : List BareNode) (old new : List Bool) (t : List Entry) (x : Entry)
    → ((n place : ℕ) → place_from 0 arena n ≡ Some place → (node : BareNode) × (slice_get arena place ≡ Some node) × (node.number ≡ Some n))
    → IfSome (marked x) (λ n. IsSome (place_from 0 arena n))
    → ((m : ℕ) → mark_in arena old m ≡ has (marks t) m) → ((q : ℕ) → flag_at new q ≡ flag_after arena (marked x) (flag_at old q) q)
    → (m : ℕ) → mark_in arena new m ≡ has (marks (t ++ x ∷ [])) m
marks_follow arena old new t x numbered there set moved m = go (marked x) refl there ∙ ap (λ (ns : List ℕ). has ns m) (sym (marks_more t x))
  where
    flags : (s p : Option ℕ) → marked x ≡ s → option_map_or (λ q. flag_at new q) p false ≡ option_map_or (λ q. flag_after arena s (flag_at old q) q) p false
    flags s None e = refl
    flags s (Some q) e = moved q ∙ ap (λ (o : Option ℕ). flag_after arena o (flag_at old q) q) e

    one : (n : ℕ) → IsSome (place_from 0 arena n) → (p : Option ℕ) → place_from 0 arena m ≡ p
        → option_map_or (λ q. flag_after arena (Some n) (flag_at old q) q) p false ≡ ((n == m) || option_map_or (λ q. flag_at old q) p false)
    one n some None e = sym (apart (n == m) refl)
      where
        apart : (b : Bool) → (n == m) ≡ b → (b || false) ≡ false
        apart false g = refl
        apart true g = let s : n ≡ m = grind (arith, nat_tests) in absurd (no_way (subst IsSome (ap (place_from 0 arena) s ∙ e) some))
    one n some (Some q) e = ap (λ (b : Bool). b || flag_at old q) (same_place arena numbered n m q some e)

    go : (s : Option ℕ) → marked x ≡ s → IfSome s (λ n. IsSome (place_from 0 arena n)) → mark_in arena new m ≡ has (marks t ++ cons_option s []) m
    go None e h = flags None (place_from 0 arena m) e ∙ (same (place_from 0 arena m) ∙ (set m ∙ ap (λ (ns : List ℕ). has ns m) (sym (append_none (marks t)))))
      where
        same : (p : Option ℕ) → option_map_or (λ q. flag_after arena None (flag_at old q) q) p false ≡ option_map_or (λ q. flag_at old q) p false
        same None = refl
        same (Some q) = refl

        append_none : (ns : List ℕ) → ns ++ [] ≡ ns
        append_none [] = refl
        append_none (n ∷ ns) = ap (λ (ms : List ℕ). n ∷ ms) (append_none ns)
    go (Some n) e h = flags (Some n) (place_from 0 arena m) e ∙ (one n h (place_from 0 arena m) refl ∙ (ap (λ (b : Bool). (n == m) || b) (set m) ∙ sym (has_put (marks t) n m)))

-- ---- open steps

stage_more : (n : ℕ) (so_far : Option ℕ) (t : List Entry) (x : Entry) → stage_from n so_far (t ++ x ∷ []) ≡ stage_step n (stage_from n so_far t) x
stage_more n so_far [] x = refl
stage_more n so_far (y ∷ t) x = stage_more n (stage_step n so_far y) t x

-- what is known of an entry's node with the rules after it
pub record Follows (r : Rules) (t : List Entry) (x : Entry) (n : ℕ) (def : Option Def) : Type 0 where
  pub number : number_of x ≡ Some n
  pub channel : (m : ℕ) → r.channel (t ++ x ∷ []) m ≡ r.channel t m
  pub tree : r.tree (t ++ x ∷ []) ≡ r.tree t
  pub frozen : (m : ℕ) → has_some (m ∷ []) (dispatched x) ≡ false → r.path (t ++ x ∷ []) m ≡ r.path t m
  pub sent : (m v : ℕ) → x ≡ Dispatch m v → IsSomeAnd def (λ d. r.path (t ++ x ∷ []) m ≡ path_of d)
  pub starts : (m v : ℕ) → x ≡ Dispatch m v → (has (works (r.tree t)) m ≡ true) × ((is_open m t || not (is_busy r t (r.channel t m))) ≡ true)
  pub ends : (m : ℕ) → x ≡ End m → is_open m t ≡ true

-- a step that stays the open one of its channel
stays : (r : Rules) (t : List Entry) (x : Entry) (n : ℕ) (def : Option Def) (c : ℕ) (o : OpenStep) → Follows r t x n def → has_some (o.step ∷ []) (dispatched x) ≡ false → IsOpenStep r t c o → IsOpenStep r (t ++ x ∷ []) c o
stays r t x n def c o f d h = record {
  channel = f.channel o.step ∙ h.channel;
  among = subst (λ (e : Exec). has (works e) o.step ≡ true) (sym f.tree) h.among;
  path = f.frozen o.step d ∙ h.path;
}

each_stays : (r : Rules) (t : List Entry) (x : Entry) (n : ℕ) (def : Option Def) (c : ℕ) (slot : Option OpenStep) → Follows r t x n def
    → ((o : OpenStep) → slot ≡ Some o → has_some (o.step ∷ []) (dispatched x) ≡ false) → IfSome slot (λ o. IsOpenStep r t c o) → IfSome slot (λ o. IsOpenStep r (t ++ x ∷ []) c o)
each_stays r t x n def c None f d h = h
each_stays r t x n def c (Some o) f d h = stays r t x n def c o f (d o refl) h

-- an entry that neither starts nor ends a step
same_steps : (r : Rules) (t : List Entry) (x : Entry) (n : ℕ) (def : Option Def) (old new : List (Option OpenStep)) → Follows r t x n def → AreOpen r t old
    → ((m : ℕ) → is_open m (t ++ x ∷ []) ≡ is_open m t) → dispatched x ≡ None → ((c : ℕ) → slot_at new c ≡ slot_at old c) → AreOpen r (t ++ x ∷ []) new
same_steps r t x n def old new f kept opens none slots = record {
  opens = λ m. opens m ∙ (kept.opens m ∙ (ap (λ (s : Option OpenStep). is_step_of s m) (sym (slots (r.channel t m))) ∙ ap (λ (c : ℕ). is_step_of (slot_at new c) m) (sym (f.channel m))));
  each = λ c. subst (λ (s : Option OpenStep). IfSome s (λ o. IsOpenStep r (t ++ x ∷ []) c o)) (sym (slots c)) (each_stays r t x n def c (slot_at old c) f (λ o e. rw none refl) (kept.each c));
}

-- one slot stays, whatever channel it is of
all_same : (old new : List (Option OpenStep)) (channel : ℕ) → ((c : ℕ) → slot_at new c ≡ (if c == channel then slot_at old c else slot_at old c)) → (c : ℕ) → slot_at new c ≡ slot_at old c
all_same old new channel h c = h c ∙ go (c == channel)
  where
    go : (b : Bool) → (if b then slot_at old c else slot_at old c) ≡ slot_at old c
    go true = refl
    go false = refl

-- where n is the open step of its channel or that has none, no other step is open there
others_closed : (r : Rules) (t : List Entry) (slots : List (Option OpenStep)) → AreOpen r t slots → (n : ℕ) → (is_open n t || not (is_busy r t (r.channel t n))) ≡ true
    → (m : ℕ) → (m == n) ≡ false → is_step_of (slot_at slots (r.channel t n)) m ≡ false
others_closed r t slots kept n h m apart = go (slot_at slots (r.channel t n)) (ap (λ (b : Bool). b || not (is_busy r t (r.channel t n))) (sym (kept.opens n)) ∙ h) (busy_is r t slots kept (r.channel t n))
  where
    go : (slot : Option OpenStep) → (is_step_of slot n || not (is_busy r t (r.channel t n))) ≡ true → is_busy r t (r.channel t n) ≡ is_some slot → is_step_of slot m ≡ false
    go None e b = refl
    go (Some o) e b = one (o.step == n) refl (subst (λ (z : Bool). ((o.step == n) || not z) ≡ true) b e)
      where
        one : (z : Bool) → (o.step == n) ≡ z → (z || false) ≡ true → (o.step == m) ≡ false
        one true g f = let s : o.step ≡ n = grind (arith, nat_tests) in grind (arith, nat_tests)
        one false g f = absurd (no_way f)

started : (r : Rules) (t : List Entry) (n v : ℕ) (d : Def) (def : Option Def) (old new : List (Option OpenStep)) → Follows r t (Dispatch n v) n def → AreOpen r t old
    → r.path (t ++ Dispatch n v ∷ []) n ≡ path_of d
    → ((c : ℕ) → slot_at new c ≡ (if c == r.channel t n then Some (record { step = n; blocks = start d }) else slot_at old c)) → AreOpen r (t ++ Dispatch n v ∷ []) new
started r t n v d def old new f kept path slots = record { opens = λ m. opens m (n == m) refl ∙ ap (λ (c : ℕ). is_step_of (slot_at new c) m) (sym (f.channel m)); each = λ c. each c (c == r.channel t n) refl }
  where
    enabled : (is_open n t || not (is_busy r t (r.channel t n))) ≡ true
    enabled = (f.starts n v refl).1

    elsewhere : (m : ℕ) → (m == n) ≡ false → (b : Bool) → (r.channel t m == r.channel t n) ≡ b → is_step_of (slot_at old (r.channel t m)) m ≡ is_step_of (if b then Some (record { step = n; blocks = start d }) else slot_at old (r.channel t m)) m
    elsewhere m apart true e =
        let s : r.channel t m ≡ r.channel t n = grind (arith, nat_tests) in
        let back : (n == m) ≡ false = grind (arith, nat_tests) in
        ap (λ (c : ℕ). is_step_of (slot_at old c) m) s ∙ (others_closed r t old kept n enabled m apart ∙ sym back)
    elsewhere m apart false e = refl

    opens : (m : ℕ) (b : Bool) → (n == m) ≡ b → is_open m (t ++ Dispatch n v ∷ []) ≡ is_step_of (slot_at new (r.channel t m)) m
    opens m true e =
        let s : n ≡ m = grind (arith, nat_tests) in
        let here : (r.channel t m == r.channel t n) ≡ true = let i = ap (r.channel t) s in grind (arith, nat_tests) in
        let own : OpenStep = record { step = n; blocks = start d } in
        let look : slot_at new (r.channel t m) ≡ Some own = slots (r.channel t m) ∙ ap (λ (z : Bool). if z then Some own else slot_at old (r.channel t m)) here in
        let first : is_some (stage_step m (stage m t) (Dispatch n v)) ≡ true = rw e refl in
        let last : is_step_of (slot_at new (r.channel t m)) m ≡ true = ap (λ (o : Option OpenStep). is_step_of o m) look ∙ e in
        ap is_some (stage_more m None t (Dispatch n v)) ∙ (first ∙ sym last)
    opens m false e =
        let apart : (m == n) ≡ false = grind (arith, nat_tests) in
        let first : is_some (stage_step m (stage m t) (Dispatch n v)) ≡ is_open m t = rw e refl in
        ap is_some (stage_more m None t (Dispatch n v)) ∙ (first ∙ (kept.opens m ∙ (elsewhere m apart (r.channel t m == r.channel t n) refl ∙ ap (λ (o : Option OpenStep). is_step_of o m) (sym (slots (r.channel t m))))))

    each : (c : ℕ) (b : Bool) → (c == r.channel t n) ≡ b → IfSome (slot_at new c) (λ o. IsOpenStep r (t ++ Dispatch n v ∷ []) c o)
    each c true e =
        let s : r.channel t n ≡ c = grind (arith, nat_tests) in
        let own : IsOpenStep r (t ++ Dispatch n v ∷ []) c (record { step = n; blocks = start d }) =
        record { channel = f.channel n ∙ s; among = subst (λ (x : Exec). has (works x) n ≡ true) (sym f.tree) (f.starts n v refl).0; path = path } in
        let look : slot_at new c ≡ Some (record { step = n; blocks = start d }) = slots c ∙ ap (λ (z : Bool). if z then Some (record { step = n; blocks = start d }) else slot_at old c) e in
        subst (λ (o : Option OpenStep). IfSome o (λ p. IsOpenStep r (t ++ Dispatch n v ∷ []) c p)) (sym look) own
    each c false e =
        let olds = each_stays r t (Dispatch n v) n def c (slot_at old c) f (λ o g. others o g) (kept.each c) in
        let look : slot_at new c ≡ slot_at old c = slots c ∙ ap (λ (z : Bool). if z then Some (record { step = n; blocks = start d }) else slot_at old c) e in
        subst (λ (o : Option OpenStep). IfSome o (λ p. IsOpenStep r (t ++ Dispatch n v ∷ []) c p)) (sym look) olds
      where
        others : (o : OpenStep) → slot_at old c ≡ Some o → has_some (o.step ∷ []) (Some n) ≡ false
        others o g = go (o.step == n) refl
          where
            no_true : (b : Bool) → b ≡ true → b ≡ false → ⊥
            no_true b i j = cc

            go : (b : Bool) → (o.step == n) ≡ b → (b || false) ≡ false
            go false i = refl
            go true i =
                let s : o.step ≡ n = grind (arith, nat_tests) in
                let h : IsOpenStep r t c o = subst (λ (p : Option OpenStep). IfSome p (λ q. IsOpenStep r t c q)) g (kept.each c) in
                let u : c ≡ r.channel t n = sym h.channel ∙ ap (r.channel t) s in
                let w : (c == r.channel t n) ≡ true = grind (arith, nat_tests) in
                absurd (no_true (c == r.channel t n) w e)

ended : (r : Rules) (t : List Entry) (n : ℕ) (def : Option Def) (old new : List (Option OpenStep)) → Follows r t (End n) n def → AreOpen r t old
    → ((c : ℕ) → slot_at new c ≡ (if c == r.channel t n then None else slot_at old c)) → AreOpen r (t ++ End n ∷ []) new
ended r t n def old new f kept slots = record { opens = λ m. opens m (n == m) refl ∙ ap (λ (c : ℕ). is_step_of (slot_at new c) m) (sym (f.channel m)); each = λ c. each c (c == r.channel t n) refl }
  where
    or_true : (a b : Bool) → a ≡ true → (a || b) ≡ true
    or_true a b e = rw e refl

    elsewhere : (m : ℕ) → (m == n) ≡ false → (b : Bool) → (r.channel t m == r.channel t n) ≡ b → is_step_of (slot_at old (r.channel t m)) m ≡ is_step_of (if b then None else slot_at old (r.channel t m)) m
    elsewhere m apart true e =
        let s : r.channel t m ≡ r.channel t n = grind (arith, nat_tests) in
        ap (λ (c : ℕ). is_step_of (slot_at old c) m) s ∙ others_closed r t old kept n (or_true (is_open n t) (not (is_busy r t (r.channel t n))) (f.ends n refl)) m apart
    elsewhere m apart false e = refl

    opens : (m : ℕ) (b : Bool) → (n == m) ≡ b → is_open m (t ++ End n ∷ []) ≡ is_step_of (slot_at new (r.channel t m)) m
    opens m true e =
        let s : n ≡ m = grind (arith, nat_tests) in
        let here : (r.channel t m == r.channel t n) ≡ true = let i = ap (r.channel t) s in grind (arith, nat_tests) in
        let look : slot_at new (r.channel t m) ≡ None = slots (r.channel t m) ∙ ap (λ (z : Bool). if z then None else slot_at old (r.channel t m)) here in
        let first : is_some (stage_step m (stage m t) (End n)) ≡ false = rw e refl in
        ap is_some (stage_more m None t (End n)) ∙ (first ∙ ap (λ (o : Option OpenStep). is_step_of o m) (sym look))
    opens m false e =
        let apart : (m == n) ≡ false = grind (arith, nat_tests) in
        let first : is_some (stage_step m (stage m t) (End n)) ≡ is_open m t = rw e refl in
        ap is_some (stage_more m None t (End n)) ∙ (first ∙ (kept.opens m ∙ (elsewhere m apart (r.channel t m == r.channel t n) refl ∙ ap (λ (o : Option OpenStep). is_step_of o m) (sym (slots (r.channel t m))))))

    each : (c : ℕ) (b : Bool) → (c == r.channel t n) ≡ b → IfSome (slot_at new c) (λ o. IsOpenStep r (t ++ End n ∷ []) c o)
    each c true e =
        let look : slot_at new c ≡ None = slots c ∙ ap (λ (z : Bool). if z then None else slot_at old c) e in
        subst (λ (o : Option OpenStep). IfSome o (λ p. IsOpenStep r (t ++ End n ∷ []) c p)) (sym look) tt
    each c false e =
        let look : slot_at new c ≡ slot_at old c = slots c ∙ ap (λ (z : Bool). if z then None else slot_at old c) e in
        subst (λ (o : Option OpenStep). IfSome o (λ p. IsOpenStep r (t ++ End n ∷ []) c p)) (sym look)
        (each_stays r t (End n) n def c (slot_at old c) f (λ o g. refl) (kept.each c))

-- the open steps after an entry
pub steps_follow : (r : Rules) (t : List Entry) (x : Entry) (n : ℕ) (def : Option Def) (old new : List (Option OpenStep)) (channel : ℕ) → Follows r t x n def → AreOpen r t old → channel ≡ r.channel t n
    → ((c : ℕ) → slot_at new c ≡ (if c == channel then slot_after def x (slot_at old c) else slot_at old c)) → AreOpen r (t ++ x ∷ []) new
steps_follow r t (Dispatch m v) n def old new channel f kept e slots = go def f slots (f.sent m v refl)
  where
    go : (p : Option Def) → Follows r t (Dispatch m v) n p → ((c : ℕ) → slot_at new c ≡ (if c == channel then slot_after p (Dispatch m v) (slot_at old c) else slot_at old c))
        → IsSomeAnd p (λ d. r.path (t ++ Dispatch m v ∷ []) m ≡ path_of d) → AreOpen r (t ++ Dispatch m v ∷ []) new
    go None g h i = absurd i
    go (Some d) g h i =
        let j : Some n ≡ Some m = sym g.number in
        let s : n ≡ m = cc in
        let k : channel ≡ r.channel t m = e ∙ ap (r.channel t) s in
        started r t m v d (Some d) old new (subst (λ (a : ℕ). Follows r t (Dispatch m v) a (Some d)) s g) kept i
        (λ c. h c ∙ ap (λ (a : ℕ). if c == a then Some (record { step = m; blocks = start d }) else slot_at old c) k)
steps_follow r t (End m) n def old new channel f kept e slots =
    let j : Some n ≡ Some m = sym f.number in
    let s : n ≡ m = cc in
    let k : channel ≡ r.channel t m = e ∙ ap (r.channel t) s in
    ended r t m def old new (subst (λ (a : ℕ). Follows r t (End m) a def) s f) kept (λ c. slots c ∙ ap (λ (a : ℕ). if c == a then None else slot_at old c) k)
steps_follow r t (Block m j b) n def old new channel f kept e slots =
    same_steps r t (Block m j b) n def old new f kept (λ i. ap is_some (stage_more i None t (Block m j b)) ∙ go (m == i) (stage i t)) refl (all_same old new channel slots)
  where
    go : (z : Bool) (o : Option ℕ) → is_some (if z then option_map (λ k. k + 1) o else o) ≡ is_some o
    go true None = refl
    go true (Some k) = refl
    go false o = refl
steps_follow r t (Pick m j) n def old new channel f kept e slots = same_steps r t (Pick m j) n def old new f kept (λ i. ap is_some (stage_more i None t (Pick m j))) refl (all_same old new channel slots)
steps_follow r t (Test m b) n def old new channel f kept e slots = same_steps r t (Test m b) n def old new f kept (λ i. ap is_some (stage_more i None t (Test m b))) refl (all_same old new channel slots)
steps_follow r t (Assign m z) n def old new channel f kept e slots = same_steps r t (Assign m z) n def old new f kept (λ i. ap is_some (stage_more i None t (Assign m z))) refl (all_same old new channel slots)
steps_follow r t (Set m) n def old new channel f kept e slots = same_steps r t (Set m) n def old new f kept (λ i. ap is_some (stage_more i None t (Set m))) refl (all_same old new channel slots)
steps_follow r t (Pass m) n def old new channel f kept e slots = same_steps r t (Pass m) n def old new f kept (λ i. ap is_some (stage_more i None t (Pass m))) refl (all_same old new channel slots)
steps_follow r t (Note m) n def old new channel f kept e slots = same_steps r t (Note m) n def old new f kept (λ i. ap is_some (stage_more i None t (Note m))) refl (all_same old new channel slots)
steps_follow r t (Edit i w) n def old new channel f kept e slots = same_steps r t (Edit i w) n def old new f kept (λ j. ap is_some (stage_more j None t (Edit i w))) refl (all_same old new channel slots)

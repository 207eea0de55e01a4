-- Where a run without edits stands, and what a turn of it makes.
use Rattle.std.specs.Prelude.{◌≡◌, ◌<◌, ◌≤◌, ℕ, suc, ◌+◌, ◌-◌, Bool, true, false, ◌==◌, ◌&&◌, ◌||◌, nat_le, is_none, List, [], ◌∷◌, length, Option, Some, None, slice_get}
use Rattle.std.specs.List.{list_all}
use Rattle.std.proofs.Common.{refl, sym, subst, ◌∙◌, arith}
use Rattle.std.proofs.lemmas.Bool.Decides.{nat_tests}
use Rattle.exec_tree.specs.Exec.{has}
use Rattle.run_log.specs.declared.entry.Entry.{Entry}
use Rattle.run_law.specs.Rules.{Rules}
use Rattle.run_law.specs.Fits.{judged, next_of, is_due}
use Rattle.run_law.specs.Endings.{waits}
use Rattle.run_law.specs.Replay.{made, ready, turn, has_ended, turns_of, rounds}
use Rattle.run_frames.specs.Ready.{is_empty}
use Rattle.run_core.specs.Standings.{standing_by, standing_of, is_over}
use Rattle.run_core.specs.declared.standings.Standing.{Standing}
use Rattle.run_core.specs.declared.standings.Standing.TheVariants.{Done, Blocked, EditDue, Ready}

no_way : false ≡ true → ⊥
no_way e = cc

-- where a run is ready, it hasn't ended and nothing is due
pub record IsReady (r : Rules) (limit : ℕ) (t : List Entry) : Type 0 where
  pub going : has_ended r limit t ≡ false
  pub not_due : is_due r t ≡ false
  pub room : length t < limit

all_of_empty : (r : Rules) (t : List Entry) (ns : List ℕ) (b c d e : Bool) → standing_by (b && is_empty ns) c d e ≡ Ready → (b && list_all (waits r t) ns) ≡ c → (b && list_all (waits r t) ns) ≡ false
all_of_empty r t ns b true d e h q = absurd (not_blocked (b && is_empty ns) d e h)
  where
    not_blocked : (a d e : Bool) → standing_by a true d e ≡ Ready → ⊥
    not_blocked true d e h = cc
    not_blocked false d e h = cc
all_of_empty r t ns b false d e h q = q

pub full_room : (limit n : ℕ) → nat_le limit n ≡ false → n < limit
full_room limit n e = grind (arith, nat_tests)

pub is_ready : (r : Rules) (limit : ℕ) (t : List Entry) → standing_of r limit t ≡ Ready → IsReady r limit t
is_ready r limit t h =
    let waiting = all_of_empty r t (next_of r t) (is_none (slice_get r.edits (judged t))) (is_none (slice_get r.edits (judged t)) && list_all (waits r t) (next_of r t)) (nat_le limit (length t)) (is_due r t) h refl in
    let z = rest (is_none (slice_get r.edits (judged t)) && is_empty (next_of r t)) (is_none (slice_get r.edits (judged t)) && list_all (waits r t) (next_of r t)) (nat_le limit (length t)) (is_due r t) h in
    record { going = rw (waiting, z.0) refl; not_due = z.1; room = full_room limit (length t) z.0 }
  where
    rest : (a b c d : Bool) → standing_by a b c d ≡ Ready → (c ≡ false) × (d ≡ false)
    rest true b c d h = absurd (cc)
    rest false true c d h = absurd (cc)
    rest false false true d h = absurd (cc)
    rest false false false true h = absurd (cc)
    rest false false false false h = (refl, refl)

pub turn_is : (r : Rules) (limit : ℕ) (t : List Entry) (c n : ℕ) → standing_of r limit t ≡ Ready → ready r t c ≡ Some n → turn r limit t c ≡ Some (made r t n)
turn_is r limit t c n h e = let z = is_ready r limit t h in rw (z.going, z.not_due, e) refl

pub turn_none : (r : Rules) (limit : ℕ) (t : List Entry) (c : ℕ) → standing_of r limit t ≡ Ready → ready r t c ≡ None → turn r limit t c ≡ None
turn_none r limit t c h e = let z = is_ready r limit t h in rw (z.going, z.not_due, e) refl

-- where the standing is over the run has ended
ended_by : (r : Rules) (t : List Entry) (b : Bool) (ns : List ℕ) (full due : Bool) → is_over (standing_by (b && is_empty ns) (b && list_all (waits r t) ns) full due) ≡ true → ((b && list_all (waits r t) ns) || full) ≡ true
ended_by r t true [] full due h = refl
ended_by r t true (n ∷ ns) full due h = go (list_all (waits r t) (n ∷ ns)) full due h
  where
    go : (w f d : Bool) → is_over (standing_by false w f d) ≡ true → (w || f) ≡ true
    go true f d h = refl
    go false true d h = refl
    go false false true h = absurd (no_way h)
    go false false false h = absurd (no_way h)
ended_by r t false ns full due h = go full due h
  where
    go : (f d : Bool) → is_over (standing_by false false f d) ≡ true → f ≡ true
    go true d h = refl
    go false true h = absurd (no_way h)
    go false false h = absurd (no_way h)

pub over_ended : (r : Rules) (limit : ℕ) (t : List Entry) (s : Standing) → s ≡ standing_of r limit t → is_over s ≡ true → has_ended r limit t ≡ true
over_ended r limit t s e h = ended_by r t (is_none (slice_get r.edits (judged t))) (next_of r t) (nat_le limit (length t)) (is_due r t) (subst (λ (z : Standing). is_over z ≡ true) e h)

pub turn_over : (r : Rules) (limit : ℕ) (t : List Entry) (c : ℕ) (s : Standing) → s ≡ standing_of r limit t → is_over s ≡ true → turn r limit t c ≡ None
turn_over r limit t c s e h = rw (over_ended r limit t s e h) refl

-- where no edit is due the standing is none of a due edit
pub never_due : (a b c : Bool) → standing_by a b c false ≡ EditDue → ⊥
never_due true b c h = cc
never_due false true c h = cc
never_due false false true h = cc
never_due false false false h = cc

-- ---- rounds

pub rounds_step : (r : Rules) (limit : ℕ) (channels : List ℕ) (k i : ℕ) (t : List Entry) → i < k → rounds r limit channels (k - (i + 1)) (turns_of r limit t channels) ≡ rounds r limit channels (k - i) t
rounds_step r limit channels k i t l = let e : k - i ≡ suc (k - (i + 1)) = omega (arith, l) in rw e refl

pub rounds_none : (r : Rules) (limit : ℕ) (channels : List ℕ) (k i : ℕ) (t : List Entry) → k ≤ i → rounds r limit channels (k - i) t ≡ t
rounds_none r limit channels k i t l = let e : k - i ≡ 0 = omega (arith, l) in rw e refl

pub rounds_all : (k limit : ℕ) → k ≡ limit → k - 0 ≡ limit
rounds_all k limit e = omega (arith, e)

-- ---- endings

pub stands_done : (r : Rules) (limit : ℕ) (t : List Entry) → standing_of r limit t ≡ Done → (slice_get r.edits (judged t) ≡ None) × (next_of r t ≡ [])
stands_done r limit t h =
    go (slice_get r.edits (judged t)) (next_of r t) (is_none (slice_get r.edits (judged t)) && list_all (waits r t) (next_of r t)) (nat_le limit (length t)) (is_due r t) h
  where
    rest : (w f d : Bool) → standing_by false w f d ≡ Done → ⊥
    rest true f d e = cc
    rest false true d e = cc
    rest false false true e = cc
    rest false false false e = cc

    go : (o : Option ℕ) (ns : List ℕ) (w f d : Bool) → standing_by (is_none o && is_empty ns) w f d ≡ Done → (o ≡ None) × (ns ≡ [])
    go None [] w f d e = (refl, refl)
    go None (n ∷ ns) w f d e = absurd (rest w f d e)
    go (Some a) ns w f d e = absurd (rest w f d e)

pub stands_blocked : (r : Rules) (limit : ℕ) (t : List Entry) → standing_of r limit t ≡ Blocked → (slice_get r.edits (judged t) ≡ None) × (next_of r t ≡ [] → ⊥) × (list_all (waits r t) (next_of r t) ≡ true)
stands_blocked r limit t h = go (slice_get r.edits (judged t)) (next_of r t) (nat_le limit (length t)) (is_due r t) h
  where
    rest : (f d : Bool) → standing_by false false f d ≡ Blocked → ⊥
    rest true d e = cc
    rest false true e = cc
    rest false false e = cc

    full_list : (n : ℕ) (ns : List ℕ) → (n ∷ ns) ≡ [] → ⊥
    full_list n ns e = cc

    done_blocked : (w f d : Bool) → standing_by true w f d ≡ Blocked → ⊥
    done_blocked w f d e = cc

    all : (n : ℕ) (ns : List ℕ) (b f d : Bool) → list_all (waits r t) (n ∷ ns) ≡ b → standing_by false b f d ≡ Blocked → list_all (waits r t) (n ∷ ns) ≡ true
    all n ns true f d e i = e
    all n ns false f d e i = absurd (rest f d i)

    go : (o : Option ℕ) (ns : List ℕ) (f d : Bool) → standing_by (is_none o && is_empty ns) (is_none o && list_all (waits r t) ns) f d ≡ Blocked → (o ≡ None) × (ns ≡ [] → ⊥) × (list_all (waits r t) ns ≡ true)
    go None [] f d e = absurd (done_blocked true f d e)
    go None (n ∷ ns) f d e = (refl, full_list n ns, all n ns (list_all (waits r t) (n ∷ ns)) f d refl e)
    go (Some a) ns f d e = absurd (rest f d e)

-- where all is judged and nothing can go on a run stands done, and where each node waits it stands blocked
pub done_stands : (r : Rules) (limit : ℕ) (t : List Entry) → slice_get r.edits (judged t) ≡ None → next_of r t ≡ [] → standing_of r limit t ≡ Done
done_stands r limit t e f = go (slice_get r.edits (judged t)) (next_of r t) e f
  where
    go : (o : Option ℕ) (ns : List ℕ) → o ≡ None → ns ≡ [] → standing_by (is_none o && is_empty ns) (is_none o && list_all (waits r t) ns) (nat_le limit (length t)) (is_due r t) ≡ Done
    go None [] e f = refl
    go None (n ∷ ns) e f = absurd (cc)
    go (Some a) ns e f = absurd (cc)

pub blocked_stands : (r : Rules) (limit : ℕ) (t : List Entry) → slice_get r.edits (judged t) ≡ None → (next_of r t ≡ [] → ⊥) → list_all (waits r t) (next_of r t) ≡ true → standing_of r limit t ≡ Blocked
blocked_stands r limit t e f g = go (slice_get r.edits (judged t)) (next_of r t) e f g
  where
    go : (o : Option ℕ) (ns : List ℕ) → o ≡ None → (ns ≡ [] → ⊥) → list_all (waits r t) ns ≡ true → standing_by (is_none o && is_empty ns) (is_none o && list_all (waits r t) ns) (nat_le limit (length t)) (is_due r t) ≡ Blocked
    go None [] e f g = absurd (f refl)
    go None (n ∷ ns) e f g = rw g refl
    go (Some a) ns e f g = absurd (cc)

-- a run that has ended, neither done nor blocked, has all its entries
pub stands_full : (r : Rules) (limit : ℕ) (t : List Entry) → has_ended r limit t ≡ true → length t ≤ limit → (standing_of r limit t ≡ Done → ⊥) → (standing_of r limit t ≡ Blocked → ⊥) → length t ≡ limit
stands_full r limit t h w d b =
    go (slice_get r.edits (judged t)) refl (next_of r t) refl (list_all (waits r t) (next_of r t)) refl (nat_le limit (length t)) refl h
  where
    none_list : (n : ℕ) (ns : List ℕ) → next_of r t ≡ n ∷ ns → next_of r t ≡ [] → ⊥
    none_list n ns f g = let e : (n ∷ ns) ≡ [] = sym f ∙ g in cc

    equal : nat_le limit (length t) ≡ true → length t ≡ limit
    equal e = grind (arith, nat_tests)

    go : (o : Option ℕ) → slice_get r.edits (judged t) ≡ o → (ns : List ℕ) → next_of r t ≡ ns → (a : Bool) → list_all (waits r t) (next_of r t) ≡ a → (f : Bool) → nat_le limit (length t) ≡ f
        → ((is_none o && a) || f) ≡ true → length t ≡ limit
    go o e ns n a i true j k = equal j
    go None e [] n true i false j k = absurd (d (done_stands r limit t e n))
    go None e (m ∷ ns) n true i false j k = absurd (b (blocked_stands r limit t e (none_list m ns n) i))
    go None e ns n false i false j k = absurd (no_way k)
    go (Some x) e ns n a i false j k = absurd (no_way k)

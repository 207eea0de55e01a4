-- A run under a schedule is legal, and ends.
use Rattle.std.specs.Prelude.{◌≡◌, ◌<◌, ◌≤◌, ◌+◌, ℕ, zero, suc, Bool, true, false, ◌==◌, nat_le, ◌&&◌, ◌||◌, not, is_none, List, [], ◌∷◌, ◌++◌, length, slice_get, find, Option, Some, None, option_map}
use Rattle.std.specs.Option.{option_to_list}
use Rattle.std.specs.List.{list_any, list_all}
use Rattle.std.proofs.Common.{refl, sym, ap, subst, ◌∙◌, arith, length-append}
use Rattle.std.proofs.lemmas.List.{append-nil}
use Rattle.std.proofs.lemmas.Bool.Decides.{nat_tests}
use Rattle.exec_tree.specs.Exec.{has}
use Rattle.trace_law.specs.State.{marks}
use Rattle.run_log.specs.declared.entry.Entry.{Entry}
use Rattle.run_log.specs.declared.entry.Entry.TheVariants.{Edit}
use Rattle.exec_tree.specs.declared.role.Role.TheVariants.{Waiting}
use Rattle.run_law.specs.Rules.{Rules}
use Rattle.run_law.specs.Fits.{Fits, judged, next_of, is_enabled, is_stuck, is_due}
use Rattle.run_law.specs.Legal.{Legal}
use Rattle.run_law.specs.Endings.{waits}
use Rattle.run_law.specs.Sound.{IsSound}
use Rattle.run_law.specs.Replay.{made, ready, has_ended, turn_by, turn, turns_of, rounds, AreChannels}
use Rattle.run_law.proofs.StuckLemmas.{any_of}
use Rattle.run_law.proofs.GrowthLemmas.{legal_more}

no_way : false ≡ true → ⊥
no_way e = cc

-- what the laws below say
abbrev pub MadeFits : Type 0
MadeFits = (r : Rules) (t : List Entry) (n : ℕ) → IsSound r → Legal r t → is_due r t ≡ false → has (next_of r t) n ≡ true → is_enabled r t n ≡ true → Fits r t (made r t n)

abbrev pub StuckWaits : Type 0
StuckWaits = (r : Rules) (t : List Entry) (n : ℕ) → IsSound r → Legal r t → is_stuck r t ≡ true → has (next_of r t) n ≡ true → (m : ℕ) × (r.role t n ≡ Waiting m) × (has (marks t) m ≡ false)

and_left : (a b : Bool) → (a && b) ≡ true → a ≡ true
and_left true b e = refl
and_left false b e = absurd (no_way e)

and_right : (a b : Bool) → (a && b) ≡ true → b ≡ true
and_right true b e = e
and_right false b e = absurd (no_way e)

and_both : (a b : Bool) → a ≡ true → b ≡ true → (a && b) ≡ true
and_both true true e f = refl
and_both true false e f = absurd (no_way f)
and_both false b e f = absurd (no_way e)

-- what is found is in the list, and passes; what is in the list and passes is found
found : (p : ℕ → Bool) (ns : List ℕ) (n : ℕ) → find p ns ≡ Some n → (has ns n ≡ true) × (p n ≡ true)
found p [] n e = absurd (none_some n e)
  where
    none_some : (n : ℕ) → None ≡ Some n → ⊥
    none_some n e = cc
found p (m ∷ ns) n e = go (p m) refl (found p ns n)
  where
    or_right : (a b : Bool) → b ≡ true → (a || b) ≡ true
    or_right true b q = refl
    or_right false b q = q

    go : (b : Bool) → p m ≡ b → (find p ns ≡ Some n → (has ns n ≡ true) × (p n ≡ true)) → (has (m ∷ ns) n ≡ true) × (p n ≡ true)
    go true f rec =
        let g : Some m ≡ Some n = rw f at e in
        let h : m ≡ n = cc in
        let s : (n == n) ≡ true = grind (arith, nat_tests) in
        (rw (h, s) refl, subst (λ (k : ℕ). p k ≡ true) h f)
    go false f rec = let z = rec (rw f at e) in (or_right (m == n) (has ns n) z.0, z.1)

finds : (p : ℕ → Bool) (ns : List ℕ) (n : ℕ) → has ns n ≡ true → p n ≡ true → (m : ℕ) × (find p ns ≡ Some m)
finds p [] n h e = absurd (no_way h)
finds p (m ∷ ns) n h e = go (p m) refl (finds p ns n)
  where
    go : (b : Bool) → p m ≡ b → (has ns n ≡ true → p n ≡ true → (k : ℕ) × (find p ns ≡ Some k)) → (k : ℕ) × (find p (m ∷ ns) ≡ Some k)
    go true f rec = (m, rw f refl)
    go false f rec =
        let other : (m == n) ≡ false = not_same (m == n) refl in
        let z = rec (rw other at h) e in (z.0, rw f z.1)
      where
        not_same : (b : Bool) → (m == n) ≡ b → (m == n) ≡ false
        not_same true q = let s : m ≡ n = grind (arith, nat_tests) in absurd (no_way (sym f ∙ subst (λ (k : ℕ). p k ≡ true) (sym s) e))
        not_same false q = q

-- ---- a turn

pub turn_fits : MadeFits → (r : Rules) (limit : ℕ) (t : List Entry) (c : ℕ) (x : Entry) → IsSound r → Legal r t → turn r limit t c ≡ Some x → Fits r t x
turn_fits fits r limit t c x sound legal = go (has_ended r limit t) (is_due r t) refl
  where
    some_is : (y x : Entry) → Some y ≡ Some x → y ≡ x
    some_is y x e = cc

    none_some : (x : Entry) → None ≡ Some x → ⊥
    none_some x e = cc

    of_ready : (o : Option ℕ) → ready r t c ≡ o → is_due r t ≡ false → option_map (made r t) o ≡ Some x → Fits r t x
    of_ready None e d h = absurd (none_some x h)
    of_ready (Some n) e d h =
        let f = found _ (next_of r t) n e in
        subst (λ (y : Entry). Fits r t y) (some_is (made r t n) x h) (fits r t n sound legal d f.0 (and_right (r.channel t n == c) (is_enabled r t n) f.1))

    go : (a b : Bool) → is_due r t ≡ b → turn_by r t c a b ≡ Some x → Fits r t x
    go true b e h = absurd (none_some x h)
    go false true e h = subst (λ (y : Entry). Fits r t y) (some_is (Edit (judged t) (r.verdict t (judged t))) x h) record { due = e; next_one = refl; verdict = refl }
    go false false e h = of_ready (ready r t c) refl e h

-- ---- turns of channels

grown : (r : Rules) (limit : ℕ) (t : List Entry) (cs : List ℕ) → length t ≤ length (turns_of r limit t cs)
grown r limit t [] = omega arith
grown r limit t (c ∷ cs) =
    let a : length (t ++ option_to_list (turn r limit t c)) ≡ length t + length (option_to_list (turn r limit t c)) = length-append t (option_to_list (turn r limit t c)) in
    omega (arith, a, grown r limit (t ++ option_to_list (turn r limit t c)) cs)

pub legal_turns : MadeFits → (r : Rules) (limit : ℕ) (t : List Entry) (cs : List ℕ) → IsSound r → Legal r t → Legal r (turns_of r limit t cs)
legal_turns fits r limit t [] sound legal = legal
legal_turns fits r limit t (c ∷ cs) sound legal = legal_turns fits r limit (t ++ option_to_list (turn r limit t c)) cs sound (go (turn r limit t c) refl)
  where
    go : (o : Option Entry) → turn r limit t c ≡ o → Legal r (t ++ option_to_list o)
    go None e = rw (append-nil t) legal
    go (Some x) e = legal_more r t x legal (turn_fits fits r limit t c x sound legal e)

-- where one of the channels has a turn, the run grows
grows : (r : Rules) (limit : ℕ) (t : List Entry) (cs : List ℕ) (c : ℕ) (x : Entry) → has cs c ≡ true → turn r limit t c ≡ Some x → length t < length (turns_of r limit t cs)
grows r limit t [] c x h e = absurd (no_way h)
grows r limit t (d ∷ cs) c x h e = go (turn r limit t d) refl (λ g. grows r limit t cs c x g e)
  where
    none_some : (x : Entry) → None ≡ Some x → ⊥
    none_some x e = cc

    go : (o : Option Entry) → turn r limit t d ≡ o → (has cs c ≡ true → length t < length (turns_of r limit t cs)) → length t < length (turns_of r limit (t ++ option_to_list o) cs)
    go (Some y) f rec =
        let a : length (t ++ y ∷ []) ≡ length t + 1 = length-append t (y ∷ []) in
        omega (arith, a, grown r limit (t ++ y ∷ []) cs)
    go None f rec = rw (append-nil t) (rec (rest (d == c) refl))
      where
        rest : (b : Bool) → (d == c) ≡ b → has cs c ≡ true
        rest true g = let s : d ≡ c = grind (arith, nat_tests) in absurd (none_some x (sym f ∙ (ap (λ (k : ℕ). turn r limit t k) s ∙ e)))
        rest false g = rw g at h

-- ---- where a run hasn't ended, some channel has a turn

all_false : (p : ℕ → Bool) (ns : List ℕ) → list_all p ns ≡ false → (n : ℕ) × (has ns n ≡ true) × (p n ≡ false)
all_false p [] e = absurd (no_way (sym e))
all_false p (n ∷ ns) e = go (p n) refl (all_false p ns)
  where
    or_right : (a b : Bool) → b ≡ true → (a || b) ≡ true
    or_right true b q = refl
    or_right false b q = q

    go : (b : Bool) → p n ≡ b → (list_all p ns ≡ false → (m : ℕ) × (has ns m ≡ true) × (p m ≡ false)) → (m : ℕ) × (has (n ∷ ns) m ≡ true) × (p m ≡ false)
    go false f rec = let s : (n == n) ≡ true = grind (arith, nat_tests) in (n, rw s refl, f)
    go true f rec = let z = rec (rw f at e) in (z.0, or_right (n == z.0) (has ns z.0) z.1, z.2)

has_turn : StuckWaits → (r : Rules) (limit : ℕ) (t : List Entry) (channels : List ℕ) (c0 : ℕ) → IsSound r → Legal r t → AreChannels r channels → has channels c0 ≡ true → has_ended r limit t ≡ false
    → (c : ℕ) × (x : Entry) × (has channels c ≡ true) × (turn r limit t c ≡ Some x)
has_turn waits_there r limit t channels c0 sound legal are first going = go (is_due r t) refl
  where
    go : (b : Bool) → is_due r t ≡ b → (c : ℕ) × (x : Entry) × (has channels c ≡ true) × (turn r limit t c ≡ Some x)
    go true e = (c0, Edit (judged t) (r.verdict t (judged t)), first, rw (going, e) refl)
    go false e = on (is_stuck r t) refl
      where
        enabled : is_stuck r t ≡ false → (c : ℕ) × (x : Entry) × (has channels c ≡ true) × (turn r limit t c ≡ Some x)
        enabled f =
            let z = any_of (is_enabled r t) (next_of r t) (not_not (list_any (is_enabled r t) (next_of r t)) f) in
            let same : (r.channel t z.0 == r.channel t z.0) ≡ true = grind (arith, nat_tests) in
            let y = finds (λ n. (r.channel t n == r.channel t z.0) && is_enabled r t n) (next_of r t) z.0 z.1 (and_both (r.channel t z.0 == r.channel t z.0) (is_enabled r t z.0) same z.2) in
            (r.channel t z.0, made r t y.0, are t z.0 legal z.1, rw (going, e, y.1) refl)
          where
            not_not : (b : Bool) → not b ≡ false → b ≡ true
            not_not true q = refl
            not_not false q = absurd (no_way (sym q))

        none_left : is_stuck r t ≡ true → (o : Option ℕ) → slice_get r.edits (judged t) ≡ o → o ≡ None
        none_left f None g = refl
        none_left f (Some at) g = absurd (no_way (let h : (nat_le at (length t) || true) ≡ false = rw (g, f) at e in sym (rw (or_true (nat_le at (length t))) at h)))
          where
            or_true : (b : Bool) → (b || true) ≡ true
            or_true true = refl
            or_true false = refl

        on : (b : Bool) → is_stuck r t ≡ b → (c : ℕ) × (x : Entry) × (has channels c ≡ true) × (turn r limit t c ≡ Some x)
        on false f = enabled f
        on true f =
            let none = none_left f (slice_get r.edits (judged t)) refl in
            let some = all_false (waits r t) (next_of r t) (left_false (list_all (waits r t) (next_of r t)) (nat_le limit (length t)) (let g : ((true && list_all (waits r t) (next_of r t)) || nat_le limit (length t)) ≡ false = rw none at going in g)) in
            let w = waits_there r t some.0 sound legal f some.1 in
            let yes : waits r t some.0 ≡ true = rw (w.1, w.2) refl in
            absurd (no_way (sym some.2 ∙ yes))
          where
            left_false : (a b : Bool) → (a || b) ≡ false → a ≡ false
            left_false false b q = refl
            left_false true b q = absurd (no_way (sym q))

-- ---- rounds

ended_stays : (r : Rules) (limit : ℕ) (t : List Entry) (cs : List ℕ) → has_ended r limit t ≡ true → turns_of r limit t cs ≡ t
ended_stays r limit t [] e = refl
ended_stays r limit t (c ∷ cs) e = rw (e, append-nil t) (ended_stays r limit t cs e)

pub ended_rounds : (r : Rules) (limit : ℕ) (channels : List ℕ) (k : ℕ) (t : List Entry) → has_ended r limit t ≡ true → rounds r limit channels k t ≡ t
ended_rounds r limit channels zero t e = refl
ended_rounds r limit channels (suc k) t e = rw (ended_stays r limit t channels e) (ended_rounds r limit channels k t e)

pub legal_rounds : MadeFits → (r : Rules) (limit : ℕ) (channels : List ℕ) (k : ℕ) (t : List Entry) → IsSound r → Legal r t → Legal r (rounds r limit channels k t)
legal_rounds fits r limit channels zero t sound legal = legal
legal_rounds fits r limit channels (suc k) t sound legal = legal_rounds fits r limit channels k (turns_of r limit t channels) sound (legal_turns fits r limit t channels sound legal)

full : (limit n : ℕ) → limit ≤ n → nat_le limit n ≡ true
full limit n le = grind (arith, nat_tests)

or_right : (a b : Bool) → b ≡ true → (a || b) ≡ true
or_right true b q = refl
or_right false b q = q

-- after as many rounds as entries are left, the run has ended
pub rounds_end : MadeFits → StuckWaits → (r : Rules) (limit : ℕ) (channels : List ℕ) (c0 k : ℕ) (t : List Entry) → IsSound r → Legal r t → AreChannels r channels → has channels c0 ≡ true → limit ≤ length t + k
    → has_ended r limit (rounds r limit channels k t) ≡ true
rounds_end fits waits_there r limit channels c0 zero t sound legal are first le =
    or_right (is_none (slice_get r.edits (judged t)) && list_all (waits r t) (next_of r t)) (nat_le limit (length t)) (full limit (length t) (let l : limit ≤ length t = omega (arith, le) in l))
rounds_end fits waits_there r limit channels c0 (suc k) t sound legal are first le =
    go (has_ended r limit t) refl (λ l. rounds_end fits waits_there r limit channels c0 k (turns_of r limit t channels) sound (legal_turns fits r limit t channels sound legal) are first l)
  where
    go : (b : Bool) → has_ended r limit t ≡ b → (limit ≤ length (turns_of r limit t channels) + k → has_ended r limit (rounds r limit channels k (turns_of r limit t channels)) ≡ true) → has_ended r limit (rounds r limit channels k (turns_of r limit t channels)) ≡ true
    go true e rec = subst (λ (u : List Entry). has_ended r limit (rounds r limit channels k u) ≡ true) (sym (ended_stays r limit t channels e)) (subst (λ (u : List Entry). has_ended r limit u ≡ true) (sym (ended_rounds r limit channels k t e)) e)
    go false e rec =
        let z = has_turn waits_there r limit t channels c0 sound legal are first e in
        let g = grows r limit t channels z.0 z.1 z.2 z.3 in
        rec (omega (arith, le, g))

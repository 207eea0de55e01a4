-- Where a legal run is stuck, it waits.
use Rattle.std.specs.Prelude.{◌≡◌, ℕ, Bool, true, false, not, ◌&&◌, ◌||◌, ◌==◌, List, [], ◌∷◌, Option, None}
use Rattle.std.specs.List.{list_any}
use Rattle.std.proofs.Common.{refl, sym, ◌∙◌, subst, arith}
use Rattle.std.proofs.lemmas.Bool.Decides.{nat_tests}
use Rattle.exec_tree.specs.Exec.{Exec, nodes, AreDistinct, has, works}
use Rattle.trace_law.specs.Part.{Part}
use Rattle.trace_law.specs.Next.{next}
use Rattle.trace_law.specs.State.{stage_from, stage_step, is_open, marks}
use Rattle.run_log.specs.declared.entry.Entry.{Entry}
use Rattle.run_log.specs.declared.entry.Entry.TheVariants.{Dispatch, Block, End, Pick, Test, Assign, Set, Pass, Note, Edit}
use Rattle.exec_tree.specs.declared.role.Role.{Role}
use Rattle.exec_tree.specs.declared.role.Role.TheVariants.{Cutting, Waiting, Free}
use Rattle.run_law.specs.Rules.{Rules}
use Rattle.run_law.specs.Fits.{plain, next_of, is_busy, may_go_on, is_enabled, is_stuck}
use Rattle.run_law.specs.Legal.{Legal}
use Rattle.run_law.specs.Sound.{IsSound}

no_way : false ≡ true → ⊥
no_way e = cc

same_number : (m n : ℕ) → (m == n) ≡ true → m ≡ n
same_number m n e = grind (arith, nat_tests)

-- ---- some and none of a list

pub any_of : (f : ℕ → Bool) (ns : List ℕ) → list_any f ns ≡ true → (m : ℕ) × (has ns m ≡ true) × (f m ≡ true)
any_of f [] h = absurd (no_way h)
any_of f (n ∷ ns) h = go (f n) refl (any_of f ns)
  where
    go : (b : Bool) → f n ≡ b → (list_any f ns ≡ true → (m : ℕ) × (has ns m ≡ true) × (f m ≡ true)) → (m : ℕ) × (has (n ∷ ns) m ≡ true) × (f m ≡ true)
    go true e rec = let s : (n == n) ≡ true = grind (arith, nat_tests) in (n, rw s refl, e)
    go false e rec = let z = rec (rw e at h) in (z.0, or_right (n == z.0) (has ns z.0) z.1, z.2)
      where
        or_right : (a b : Bool) → b ≡ true → (a || b) ≡ true
        or_right true b q = refl
        or_right false b q = q

pub none_of : (f : ℕ → Bool) (ns : List ℕ) (m : ℕ) → list_any f ns ≡ false → has ns m ≡ true → f m ≡ false
none_of f [] m h g = absurd (no_way g)
none_of f (n ∷ ns) m h g = go (n == m) refl (none_of f ns m (or_false_right (f n) (list_any f ns) h))
  where
    or_false_left : (a b : Bool) → (a || b) ≡ false → a ≡ false
    or_false_left false b e = refl
    or_false_left true b e = e

    or_false_right : (a b : Bool) → (a || b) ≡ false → b ≡ false
    or_false_right false b e = e
    or_false_right true b e = cc

    go : (b : Bool) → (n == m) ≡ b → (has ns m ≡ true → f m ≡ false) → f m ≡ false
    go true e rec = subst (λ (j : ℕ). f j ≡ false) (same_number n m e) (or_false_left (f n) (list_any f ns) h)
    go false e rec = rec (rw e at g)

not_back : (b : Bool) → not b ≡ true → b ≡ false
not_back true e = absurd (no_way e)
not_back false e = refl

-- ---- edits open and end nothing

pub stage_plain : (n : ℕ) (o : Option ℕ) (t : List Entry) → stage_from n o (plain t) ≡ stage_from n o t
stage_plain n o [] = refl
stage_plain n o (Dispatch m v ∷ t) = stage_plain n (stage_step n o (Dispatch m v)) t
stage_plain n o (Block m k b ∷ t) = stage_plain n (stage_step n o (Block m k b)) t
stage_plain n o (End m ∷ t) = stage_plain n (stage_step n o (End m)) t
stage_plain n o (Pick m k ∷ t) = stage_plain n o t
stage_plain n o (Test m b ∷ t) = stage_plain n o t
stage_plain n o (Assign m v ∷ t) = stage_plain n o t
stage_plain n o (Set m ∷ t) = stage_plain n o t
stage_plain n o (Pass m ∷ t) = stage_plain n o t
stage_plain n o (Note m ∷ t) = stage_plain n o t
stage_plain n o (Edit i w ∷ t) = stage_plain n o t

open_plain : (n : ℕ) (t : List Entry) → is_open n t ≡ true → is_open n (plain t) ≡ true
open_plain n t h = rw (stage_plain n None t) h

and_right : (a b : Bool) → (a && b) ≡ true → b ≡ true
and_right true b e = e
and_right false b e = absurd (no_way e)

or_of : (a b : Bool) → (a || not b) ≡ false → b ≡ true
or_of true b e = absurd (no_way (sym e))
or_of false true e = refl
or_of false false e = absurd (no_way (sym e))

or_first : (a b : Bool) → a ≡ true → (a || b) ≡ true
or_first true b e = refl
or_first false b e = absurd (no_way e)

clash : (b : Bool) → b ≡ true → b ≡ false → ⊥
clash b h g = let f : true ≡ false = sym h ∙ g in cc

pub waiting_where_stuck : ((e : Exec) (t : List Entry) (n : ℕ) → AreDistinct (nodes e) → has (works e) n ≡ true → Part e t → is_open n t ≡ true → has (next e t) n ≡ true)
    → ((r : Rules) (t : List Entry) → IsSound r → Legal r t → Part (r.tree t) (plain t))
    → (r : Rules) (t : List Entry) (n : ℕ) → IsSound r → Legal r t → is_stuck r t ≡ true → has (next_of r t) n ≡ true → (m : ℕ) × (r.role t n ≡ Waiting m) × (has (marks t) m ≡ false)
waiting_where_stuck can_go_on is_part r t n sound legal stuck is_next = go (r.role t n) refl
  where
    none : (m : ℕ) → has (next_of r t) m ≡ true → is_enabled r t m ≡ false
    none m h = none_of (is_enabled r t) (next_of r t) m (not_back (list_any (is_enabled r t) (next_of r t)) stuck) h

    go : (o : Role) → r.role t n ≡ o → (m : ℕ) × (r.role t n ≡ Waiting m) × (has (marks t) m ≡ false)
    go (Waiting m) e = (m, e, let f : is_enabled r t n ≡ false = none n is_next in rw e at f)
    go Free e = let f : is_enabled r t n ≡ false = none n is_next in let g : true ≡ false = rw e at f in absurd (no_way (sym g))
    go Cutting e =
        let f : is_enabled r t n ≡ false = none n is_next in
        let g : (is_open n t || not (is_busy r t (r.channel t n))) ≡ false = rw e at f in
        let busy : is_busy r t (r.channel t n) ≡ true = or_of (is_open n t) (is_busy r t (r.channel t n)) g in
        let z = any_of (λ m. (r.channel t m == r.channel t n) && is_open m t) (works (r.tree t)) busy in
        let opened : is_open z.0 t ≡ true = and_right (r.channel t z.0 == r.channel t n) (is_open z.0 t) z.2 in
        let next_too : has (next_of r t) z.0 ≡ true = can_go_on (r.tree t) (plain t) z.0 (sound.distinct t legal) z.1 (is_part r t sound legal) (open_plain z.0 t opened) in
        let enabled : is_enabled r t z.0 ≡ true = subst (λ (o : Role). may_go_on r t z.0 o ≡ true) (sym (sound.steps t z.0 legal z.1)) (or_first (is_open z.0 t) (not (is_busy r t (r.channel t z.0))) opened) in
        absurd (clash (is_enabled r t z.0) enabled (none z.0 next_too))

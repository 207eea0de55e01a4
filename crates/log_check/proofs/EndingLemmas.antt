-- An ending is a log's own exactly where the tests of its run say so.
use Rattle.std.specs.Prelude.{◌≡◌, ◌≢◌, ◌<◌, ◌↔◌, ◌&&◌, not, ℕ, Bool, true, false, nat_lt, is_none, List, [], ◌∷◌, length, slice_get, Option, Some, None}
use Rattle.std.specs.List.{list_all}
use Rattle.std.proofs.Common.{refl, sym, ◌∙◌, ap, arith}
use Rattle.std.proofs.lemmas.Bool.Decides.{nat_tests}
use Rattle.run_log.specs.declared.entry.Entry.{Entry}
use Rattle.run_log.specs.declared.entry.Ending.{Ending}
use Rattle.run_log.specs.declared.entry.Ending.TheVariants as endings
use Rattle.run_law.specs.Rules.{Rules}
use Rattle.run_law.specs.Fits.{judged, next_of}
use Rattle.run_law.specs.Endings.{IsDone, IsBlocked, waits}
use Rattle.run_frames.specs.Ready.{is_empty}
use Rattle.log_check.specs.Ending.{EndsOwn, is_own}

both_true : (a b : Bool) → (a && b) ≡ true → (a ≡ true) × (b ≡ true)
both_true true b e = (refl, e)
both_true false b e = absurd (let f : false ≡ true = e in cc)

true_both : (a b : Bool) → a ≡ true → b ≡ true → (a && b) ≡ true
true_both a b e f = rw (e, f) refl

not_true : (a : Bool) → not a ≡ true → a ≡ false
not_true true e = absurd (let f : false ≡ true = e in cc)
not_true false e = refl

clash : (a : Bool) → a ≡ true → a ≡ false → ⊥
clash a e f = let g : true ≡ false = sym e ∙ f in cc

none_is : (o : Option ℕ) → is_none o ≡ true → o ≡ None
none_is None e = refl
none_is (Some n) e = absurd (let f : false ≡ true = e in cc)

empty_is : (ns : List ℕ) → is_empty ns ≡ true → ns ≡ []
empty_is [] e = refl
empty_is (n ∷ ns) e = absurd (let f : false ≡ true = e in cc)

some_left : (ns : List ℕ) → is_empty ns ≡ false → ns ≢ []
some_left ns e f = clash (is_empty ns) (ap is_empty f) e

filled : (ns : List ℕ) → ns ≢ [] → not (is_empty ns) ≡ true
filled [] h = absurd (h refl)
filled (n ∷ ns) h = refl

-- the two laws of endings, of these rules and this log
pub record AreEndings (r : Rules) (t : List Entry) : Type 0 where
  pub done : IsDone r t ↔ ((slice_get r.edits (judged t) ≡ None) × (next_of r t ≡ []))
  pub blocked : IsBlocked r t ↔ ((slice_get r.edits (judged t) ≡ None) × (next_of r t ≢ []) × (list_all (waits r t) (next_of r t) ≡ true))

done_by : (r : Rules) (t : List Entry) → AreEndings r t → ((is_none (slice_get r.edits (judged t)) && is_empty (next_of r t)) ≡ true) ↔ IsDone r t
done_by r t laws = (
  (λ e. let z = both_true (is_none (slice_get r.edits (judged t))) (is_empty (next_of r t)) e in laws.done.1 (none_is (slice_get r.edits (judged t)) z.0, empty_is (next_of r t) z.1)),
  (λ d. let z = laws.done.0 d in true_both (is_none (slice_get r.edits (judged t))) (is_empty (next_of r t)) (ap is_none z.0) (ap is_empty z.1)),
)

blocked_by : (r : Rules) (t : List Entry) → AreEndings r t → ((is_none (slice_get r.edits (judged t)) && (not (is_empty (next_of r t)) && list_all (waits r t) (next_of r t))) ≡ true) ↔ IsBlocked r t
blocked_by r t laws = (
  (λ e.
      let z = both_true (is_none (slice_get r.edits (judged t))) (not (is_empty (next_of r t)) && list_all (waits r t) (next_of r t)) e in
      let y = both_true (not (is_empty (next_of r t))) (list_all (waits r t) (next_of r t)) z.1 in
      laws.blocked.1 (none_is (slice_get r.edits (judged t)) z.0, some_left (next_of r t) (not_true (is_empty (next_of r t)) y.0), y.1)),
  (λ d.
      let z = laws.blocked.0 d in
      true_both (is_none (slice_get r.edits (judged t))) (not (is_empty (next_of r t)) && list_all (waits r t) (next_of r t)) (ap is_none z.0)
      (true_both (not (is_empty (next_of r t))) (list_all (waits r t) (next_of r t)) (filled (next_of r t) z.1) z.2)),
)

pub own_is : (r : Rules) (t : List Entry) (ending : Ending) → AreEndings r t
    → (is_own (is_none (slice_get r.edits (judged t))) (is_empty (next_of r t)) (list_all (waits r t) (next_of r t)) (nat_lt 0 (length t)) ending ≡ true) ↔ EndsOwn r t ending
own_is r t endings.Done laws = done_by r t laws
own_is r t endings.Blocked laws = blocked_by r t laws
own_is r t endings.Limit laws = cut_off (is_none (slice_get r.edits (judged t)) && is_empty (next_of r t)) (is_none (slice_get r.edits (judged t)) && (not (is_empty (next_of r t)) && list_all (waits r t) (next_of r t))) (done_by r t laws) (blocked_by r t laws)
  where
    more : nat_lt 0 (length t) ≡ true → 0 < length t
    more e = grind (arith, nat_tests)

    some : 0 < length t → nat_lt 0 (length t) ≡ true
    some l = grind (arith, nat_tests)

    cut_off : (d b : Bool) → (d ≡ true) ↔ IsDone r t → (b ≡ true) ↔ IsBlocked r t → ((not d && (not b && nat_lt 0 (length t))) ≡ true) ↔ EndsOwn r t endings.Limit
    cut_off true b done blocked = ((λ e. absurd (let f : false ≡ true = e in cc)), (λ c. absurd (c.not_done (done.0 refl))))
    cut_off false true done blocked = ((λ e. absurd (let f : false ≡ true = e in cc)), (λ c. absurd (c.not_blocked (blocked.0 refl))))
    cut_off false false done blocked = (
      (λ e. record { not_done = (λ x. clash false (done.1 x) refl); not_blocked = (λ x. clash false (blocked.1 x) refl); some = more e }),
      (λ c. some c.some),
    )

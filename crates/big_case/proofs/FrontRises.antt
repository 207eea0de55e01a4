-- The instances before those of the workingsteps can stand in a file.
use Rattle.std.proofs.Common.{◌≡◌, ℕ, zero, suc, ◌+◌, ◌%◌, ◌≤◌, Bool, true, false, cond, ◌==◌, ◌&&◌, nat_le, List, [], ◌∷◌, ◌++◌, map, codes, refl, arith}
use Rattle.std.specs.Prelude.{filter}
use Rattle.std.specs.List.{AllByRecursion, range_with_len}
use Rattle.std.proofs.lemmas.Bool.Decides.{nat_tests}
use Rattle.p21_parse.specs.Tree.{reference}
use Rattle.p21_parse.specs.Built.{Fits, IsValid}
use Rattle.big_case.specs.Parameters.{text, real, unset, references, instance}
use Rattle.big_case.specs.Project.{step_number, steps_of, behind_first, first_elements, second_elements, third_elements, workplan, opening, workplans, marks, security, tooling, front}
use Rattle.big_case.proofs.Fine.{IsOwn, is_keyword, is_quiet, each, text_fits, written_fits, reference_fits, unset_fits, references_fit, valid}
use Rattle.big_case.proofs.Rising.{Rises, rises_append}
use Rattle.big_case.proofs.StepRises.{zero_fits, point_valid, placement_valid, plane_valid}

-- ---- the elements of the workplans

within : (p : ℕ → Bool) (a n : ℕ) → a + n ≤ 1000 → AllByRecursion IsOwn (map step_number (filter p (range_with_len a n)))
within p a zero le = tt
within p a (suc n) le = by (p a) (within p (a + 1) n (omega arith))
  where
    by : (b : Bool) → AllByRecursion IsOwn (map step_number (filter p (range_with_len (a + 1) n)))
        → AllByRecursion IsOwn (map step_number (cond b (a ∷ filter p (range_with_len (a + 1) n)) (filter p (range_with_len (a + 1) n))))
    by true h = let low : 1 ≤ step_number a = omega arith in let high : step_number a ≤ 2147483647 = omega arith in ((low, high), h)
    by false h = h

steps_own : (remainder steps : ℕ) → steps ≤ 1000 → AllByRecursion IsOwn (steps_of remainder steps)
steps_own remainder steps le = within (λ i. i % 3 == remainder) 0 steps (omega arith)

small : (n : ℕ) → 1 ≤ n → n ≤ 1000 → IsOwn n
small n low high = (low, omega arith)

one_more : (ns : List ℕ) (n : ℕ) → IsOwn n → AllByRecursion IsOwn ns → AllByRecursion IsOwn (ns ++ n ∷ [])
one_more [] n own h = (own, tt)
one_more (m ∷ ns) n own h = (h.0, one_more ns n own h.1)

marked : (ns : List ℕ) → AllByRecursion IsOwn ns → AllByRecursion IsOwn (behind_first 10 ns)
marked [] h = (small 10 (omega arith) (omega arith), tt)
marked (n ∷ ns) h = (h.0, (small 10 (omega arith) (omega arith), h.1))

first_own : (steps : ℕ) → steps ≤ 1000 → AllByRecursion IsOwn (first_elements steps)
first_own steps le = marked (steps_of 0 steps) (steps_own 0 steps le)

second_own : (steps : ℕ) → steps ≤ 1000 → AllByRecursion IsOwn (second_elements steps)
second_own steps le = (small 12 (omega arith) (omega arith), one_more (steps_of 1 steps) 11 (small 11 (omega arith) (omega arith)) (steps_own 1 steps le))

third_own : (steps : ℕ) → steps ≤ 1000 → AllByRecursion IsOwn (third_elements steps)
third_own steps le = one_more (steps_of 2 steps) 13 (small 13 (omega arith) (omega arith)) (steps_own 2 steps le)

-- ---- instances

refers : (n : ℕ) → 1 ≤ n → n ≤ 1000 → Fits 31 (reference n)
refers n low high = reference_fits 31 n (small n low high)

named : (n : ℕ) (w name : List ℕ) → IsOwn n → is_keyword w ≡ true → each is_quiet name ≡ true → IsValid (instance n w (text name ∷ []))
named n w name own word quiet = valid n w (text name ∷ []) own word (text_fits 31 name quiet, tt)

referring : (n to : ℕ) (w name : List ℕ) → IsOwn n → IsOwn to → is_keyword w ≡ true → each is_quiet name ≡ true
    → IsValid (instance n w (text name ∷ reference to ∷ []))
referring n to w name own other word quiet = valid n w (text name ∷ reference to ∷ []) own word (text_fits 31 name quiet, (reference_fits 31 to other, tt))

workplan_valid : (n : ℕ) (elements : List ℕ) (channel : ℕ) → IsOwn n → IsOwn channel → AllByRecursion IsOwn elements → IsValid (workplan n elements channel)
workplan_valid n elements channel own other all =
    valid n (codes "WORKPLAN") (text (codes "w") ∷ references elements ∷ reference channel ∷ []) own refl (text_fits 31 (codes "w") refl, (references_fit 30 elements all, (reference_fits 31 channel other, tt)))

own : (n : ℕ) → nat_le 1 n && nat_le n 1000 ≡ true → IsOwn n
own n e = (grind (arith, nat_tests), grind (arith, nat_tests))

opening_rises : Rises 1 7 opening
opening_rises = (
  omega arith,
  named 1 (codes "CHANNEL") (codes "0") (own 1 refl) refl refl,
  (
    omega arith,
    named 2 (codes "CHANNEL") (codes "1") (own 2 refl) refl refl,
    (
      omega arith,
      named 3 (codes "CHANNEL") (codes "2") (own 3 refl) refl refl,
      (
        omega arith,
        referring 4 5 (codes "PROJECT") (codes "big") (own 4 refl) (own 5 refl) refl refl,
        (
          omega arith,
          valid 5 (codes "WORKPLAN") (text (codes "main") ∷ references (6 ∷ []) ∷ unset ∷ []) (own 5 refl) refl (text_fits 31 (codes "main") refl, (references_fit 30 (6 ∷ []) (own 6 refl, tt), (unset_fits 31, tt))),
          (
            omega arith,
            valid 6 (codes "PARALLEL") (text (codes "p") ∷ references (7 ∷ 8 ∷ 9 ∷ []) ∷ []) (own 6 refl) refl (text_fits 31 (codes "p") refl, (references_fit 30 (7 ∷ 8 ∷ 9 ∷ []) (own 7 refl, (own 8 refl, (own 9 refl, tt))), tt)),
            omega arith,
          ),
        ),
      ),
    ),
  ),
)

workplans_rise : (steps : ℕ) → steps ≤ 1000 → Rises 7 10 (workplans steps)
workplans_rise steps le = (
  omega arith,
  workplan_valid 7 (first_elements steps) 1 (own 7 refl) (own 1 refl) (first_own steps le),
  (
    omega arith,
    workplan_valid 8 (second_elements steps) 2 (own 8 refl) (own 2 refl) (second_own steps le),
    (
      omega arith,
      workplan_valid 9 (third_elements steps) 3 (own 9 refl) (own 3 refl) (third_own steps le),
      omega arith,
    ),
  ),
)

marks_rise : Rises 10 14 marks
marks_rise = (
  omega arith,
  named 10 (codes "SET_MARK") (codes "m") (own 10 refl) refl refl,
  (
    omega arith,
    named 11 (codes "SET_MARK") (codes "m") (own 11 refl) refl refl,
    (
      omega arith,
      referring 12 10 (codes "WAIT_FOR_MARK") (codes "m") (own 12 refl) (own 10 refl) refl refl,
      (
        omega arith,
        referring 13 11 (codes "WAIT_FOR_MARK") (codes "m") (own 13 refl) (own 11 refl) refl refl,
        omega arith,
      ),
    ),
  ),
)

security_rises : Rises 14 23 security
security_rises = (
  omega arith,
  plane_valid 20 21 (own 20 refl) (own 21 refl),
  (
    omega arith,
    placement_valid 21 22 (own 21 refl) (own 22 refl),
    (
      omega arith,
      point_valid 22 (real (codes "0.")) (real (codes "0.")) (real (codes "30.")) (own 22 refl) (zero_fits 30) (zero_fits 30) (written_fits 30 (codes "30") [] refl refl refl),
      omega arith,
    ),
  ),
)

tooling_rises : Rises 23 1000 tooling
tooling_rises = (
  omega arith,
  referring 30 31 (codes "MILLING_CUTTING_TOOL") (codes "t") (own 30 refl) (own 31 refl) refl refl,
  (
    omega arith,
    valid 31 (codes "ENDMILL") (reference 32 ∷ []) (own 31 refl) refl (reference_fits 31 32 (own 32 refl), tt),
    (
      omega arith,
      valid 32 (codes "MILLING_TOOL_DIMENSION") (real (codes "10.") ∷ []) (own 32 refl) refl (written_fits 31 (codes "10") [] refl refl refl, tt),
      (
        omega arith,
        valid 33 (codes "MILLING_TECHNOLOGY") (real (codes "0.04") ∷ unset ∷ unset ∷ real (codes "20.") ∷ []) (own 33 refl) refl (
          written_fits 31 (codes "0") (codes "04") refl refl refl,
          (unset_fits 31, (unset_fits 31, (written_fits 31 (codes "20") [] refl refl refl, tt))),
        ),
        omega arith,
      ),
    ),
  ),
)

pub front_rises : (steps : ℕ) → steps ≤ 1000 → Rises 1 1000 (front steps)
front_rises steps le =
    let last = rises_append 14 23 1000 security tooling security_rises tooling_rises in
    let more = rises_append 10 14 1000 marks (security ++ tooling) marks_rise last in
    let most = rises_append 7 10 1000 (workplans steps) (marks ++ (security ++ tooling)) (workplans_rise steps le) more in
    rises_append 1 7 1000 opening (workplans steps ++ (marks ++ (security ++ tooling))) opening_rises most

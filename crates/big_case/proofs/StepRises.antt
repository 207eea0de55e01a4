-- The instances of a workingstep can stand in a file.
use Rattle.std.proofs.Common.{◌≡◌, ℕ, zero, suc, ◌+◌, ◌*◌, ◌%◌, ◌<◌, ◌≤◌, List, [], ◌∷◌, ◌++◌, codes, refl, sym, ap, subst, ◌∙◌, arith, mod-lt}
use Rattle.std.specs.List.{AllByRecursion, flat_map, range_with_len}
use Rattle.p21_parse.specs.Tree.{Tree, reference}
use Rattle.p21_parse.specs.Built.{Fits, IsValid}
use Rattle.big_case.specs.declared.step.Kind.{Kind}
use Rattle.big_case.specs.declared.step.Kind.TheVariants.{Hole, Pocket, Face}
use Rattle.big_case.specs.declared.step.Step.{Step}
use Rattle.big_case.specs.Draws.{draw, state_after, step_at}
use Rattle.big_case.specs.Parameters.{text, real, whole, minus, unset, list_of, instance, point, placement, plane}
use Rattle.big_case.specs.Project.{step_number, workingstep, feature_front, feature, operation_front, operation, geometry, extent, step_instances, instances_at}
use Rattle.big_case.proofs.Putting.{flat_more}
use Rattle.big_case.proofs.Fine.{IsOwn, text_fits, written_fits, whole_fits, minus_fits, reference_fits, unset_fits, list_fits, valid}
use Rattle.big_case.proofs.Rising.{Rises, single, rises_append}

pub zero_fits : (most : ℕ) → Fits most (real (codes "0."))
zero_fits most = written_fits most (codes "0") [] refl refl refl

five_fits : (most : ℕ) → Fits most (real (codes "5."))
five_fits most = written_fits most (codes "5") [] refl refl refl

-- ---- geometry

pub point_valid : (n : ℕ) (x y z : Tree) → IsOwn n → Fits 30 x → Fits 30 y → Fits 30 z → IsValid (point n x y z)
point_valid n x y z own h k l = valid n (codes "CARTESIAN_POINT") (text [] ∷ list_of (x ∷ y ∷ z ∷ []) ∷ []) own refl (text_fits 31 [] refl, (list_fits 30 (x ∷ y ∷ z ∷ []) (h, (k, (l, tt))), tt))

pub placement_valid : (n at : ℕ) → IsOwn n → IsOwn at → IsValid (placement n at)
placement_valid n at own other =
    valid n (codes "AXIS2_PLACEMENT_3D") (text [] ∷ reference at ∷ unset ∷ unset ∷ []) own refl (text_fits 31 [] refl, (reference_fits 31 at other, (unset_fits 31, (unset_fits 31, tt))))

pub plane_valid : (n at : ℕ) → IsOwn n → IsOwn at → IsValid (plane n at)
plane_valid n at own other = valid n (codes "PLANE") (text [] ∷ reference at ∷ []) own refl (text_fits 31 [] refl, (reference_fits 31 at other, tt))

module _ (n : ℕ) (low : 1 ≤ n) (high : n ≤ 1000000) where
  own : (k : ℕ) → k ≤ 10 → IsOwn (n + k)
  own k le = (omega arith, omega arith)

  mine : IsOwn n
  mine = (low, omega arith)

  workingstep_valid : IsValid (workingstep n)
  workingstep_valid =
      valid n (codes "MACHINING_WORKINGSTEP") (text (codes "s") ∷ reference 20 ∷ reference (n + 1) ∷ reference (n + 2) ∷ []) mine refl (
        text_fits 31 (codes "s") refl,
        (reference_fits 31 20 (omega arith, omega arith), (reference_fits 31 (n + 1) (own 1 (omega arith)), (reference_fits 31 (n + 2) (own 2 (omega arith)), tt))),
      )

  feature_rises : (kind : Kind) → Rises (n + 1) (n + 2) (feature kind n ∷ [])
  feature_rises Hole =
      single (feature Hole n) (n + 1) (n + 2) (omega arith) (omega arith) (
      valid (n + 1) (codes "ROUND_HOLE") (feature_front n ++ real (codes "10.") ∷ []) (own 1 (omega arith)) refl (
        text_fits 31 (codes "f") refl,
        (
          unset_fits 31,
          (
            list_fits 30 [] tt,
            (
              reference_fits 31 (n + 3) (own 3 (omega arith)),
              (reference_fits 31 (n + 5) (own 5 (omega arith)), (written_fits 31 (codes "10") [] refl refl refl, tt)),
            ),
          ),
        ),
      )
      )
  feature_rises Pocket =
      single (feature Pocket n) (n + 1) (n + 2) (omega arith) (omega arith) (
      valid (n + 1) (codes "CLOSED_POCKET") (feature_front n ++ list_of [] ∷ unset ∷ unset ∷ unset ∷ unset ∷ reference (n + 8) ∷ []) (own 1 (omega arith)) refl (
        text_fits 31 (codes "f") refl,
        (
          unset_fits 31,
          (
            list_fits 30 [] tt,
            (
              reference_fits 31 (n + 3) (own 3 (omega arith)),
              (
                reference_fits 31 (n + 5) (own 5 (omega arith)),
                (
                  list_fits 30 [] tt,
                  (unset_fits 31, (unset_fits 31, (unset_fits 31, (unset_fits 31, (reference_fits 31 (n + 8) (own 8 (omega arith)), tt))))),
                ),
              ),
            ),
          ),
        ),
      )
      )
  feature_rises Face =
      single (feature Face n) (n + 1) (n + 2) (omega arith) (omega arith) (
      valid (n + 1) (codes "PLANAR_FACE") (feature_front n ++ reference (n + 8) ∷ reference (n + 9) ∷ []) (own 1 (omega arith)) refl (
        text_fits 31 (codes "f") refl,
        (
          unset_fits 31,
          (
            list_fits 30 [] tt,
            (
              reference_fits 31 (n + 3) (own 3 (omega arith)),
              (
                reference_fits 31 (n + 5) (own 5 (omega arith)),
                (reference_fits 31 (n + 8) (own 8 (omega arith)), (reference_fits 31 (n + 9) (own 9 (omega arith)), tt)),
              ),
            ),
          ),
        ),
      )
      )

  -- behind what every operation has
  operation_fits : (more : List Tree) → AllByRecursion (Fits 31) more → AllByRecursion (Fits 31) (operation_front ++ more)
  operation_fits more h = (
    unset_fits 31,
    (
      unset_fits 31,
      (
        text_fits 31 (codes "o") refl,
        (
          five_fits 31,
          (unset_fits 31, (reference_fits 31 30 (omega arith, omega arith), (reference_fits 31 33 (omega arith, omega arith), h))),
        ),
      ),
    ),
  )

  operation_rises : (kind : Kind) → Rises (n + 2) (n + 3) (operation kind n ∷ [])
  operation_rises Hole = single (operation Hole n) (n + 2) (n + 3) (omega arith) (omega arith) (valid (n + 2) (codes "DRILLING") operation_front (own 2 (omega arith)) refl (operation_fits [] tt))
  operation_rises Pocket =
      single (operation Pocket n) (n + 2) (n + 3) (omega arith) (omega arith) (
      valid (n + 2) (codes "BOTTOM_AND_SIDE_ROUGH_MILLING") (operation_front ++ unset ∷ unset ∷ unset ∷ unset ∷ unset ∷ real (codes "5.") ∷ real (codes "4.") ∷ unset ∷ unset ∷ []) (own 2 (omega arith)) refl (
      operation_fits (unset ∷ unset ∷ unset ∷ unset ∷ unset ∷ real (codes "5.") ∷ real (codes "4.") ∷ unset ∷ unset ∷ []) (
        unset_fits 31,
        (
          unset_fits 31,
          (
            unset_fits 31,
            (
              unset_fits 31,
              (unset_fits 31, (five_fits 31, (written_fits 31 (codes "4") [] refl refl refl, (unset_fits 31, (unset_fits 31, tt))))),
            ),
          ),
        ),
      )
      )
      )
  operation_rises Face =
      single (operation Face n) (n + 2) (n + 3) (omega arith) (omega arith) (
      valid (n + 2) (codes "PLANE_ROUGH_MILLING") (operation_front ++ unset ∷ unset ∷ unset ∷ unset ∷ unset ∷ real (codes "5.") ∷ unset ∷ []) (own 2 (omega arith)) refl (
      operation_fits (unset ∷ unset ∷ unset ∷ unset ∷ unset ∷ real (codes "5.") ∷ unset ∷ []) (
        unset_fits 31,
        (unset_fits 31, (unset_fits 31, (unset_fits 31, (unset_fits 31, (five_fits 31, (unset_fits 31, tt)))))),
      )
      )
      )

  geometry_rises : (step : Step) → step.x < 1000 → step.y < 1000 → step.depth < 1000 → Rises (n + 3) (n + 8) (geometry step n)
  geometry_rises step x y depth = (
    omega arith,
    placement_valid (n + 3) (n + 4) (own 3 (omega arith)) (own 4 (omega arith)),
    (
      omega arith,
      point_valid (n + 4) (whole step.x) (whole step.y) (real (codes "0.")) (own 4 (omega arith)) (whole_fits 30 step.x x) (whole_fits 30 step.y y) (zero_fits 30),
      (
        omega arith,
        plane_valid (n + 5) (n + 6) (own 5 (omega arith)) (own 6 (omega arith)),
        (
          omega arith,
          placement_valid (n + 6) (n + 7) (own 6 (omega arith)) (own 7 (omega arith)),
          (
            omega arith,
            point_valid (n + 7) (real (codes "0.")) (real (codes "0.")) (minus step.depth) (own 7 (omega arith)) (zero_fits 30) (zero_fits 30) (minus_fits 30 step.depth depth),
            omega arith,
          ),
        ),
      ),
    ),
  )

  extent_rises : (kind : Kind) → Rises (n + 8) (n + 20) (extent kind n)
  extent_rises Hole = omega arith
  extent_rises Pocket =
      single (instance (n + 8) (codes "RECTANGULAR_CLOSED_PROFILE") (unset ∷ real (codes "40.") ∷ real (codes "20.") ∷ [])) (n + 8) (n + 20) (omega arith) (omega arith) (
      valid (n + 8) (codes "RECTANGULAR_CLOSED_PROFILE") (unset ∷ real (codes "40.") ∷ real (codes "20.") ∷ []) (own 8 (omega arith)) refl (
        unset_fits 31,
        (written_fits 31 (codes "40") [] refl refl refl, (written_fits 31 (codes "20") [] refl refl refl, tt)),
      )
      )
  extent_rises Face = (
    omega arith,
    valid (n + 8) (codes "LINEAR_PATH") (unset ∷ real (codes "100.") ∷ reference (n + 10) ∷ []) (own 8 (omega arith)) refl (
      unset_fits 31,
      (written_fits 31 (codes "100") [] refl refl refl, (reference_fits 31 (n + 10) (own 10 (omega arith)), tt)),
    ),
    (
      omega arith,
      valid (n + 9) (codes "LINEAR_PROFILE") (unset ∷ real (codes "50.") ∷ []) (own 9 (omega arith)) refl (unset_fits 31, (written_fits 31 (codes "50") [] refl refl refl, tt)),
      (
        omega arith,
        valid (n + 10) (codes "DIRECTION") (text [] ∷ list_of (real (codes "1.") ∷ real (codes "0.") ∷ real (codes "0.") ∷ []) ∷ []) (own 10 (omega arith)) refl (
          text_fits 31 [] refl,
          (list_fits 30 (real (codes "1.") ∷ real (codes "0.") ∷ real (codes "0.") ∷ []) (written_fits 30 (codes "1") [] refl refl refl, (zero_fits 30, (zero_fits 30, tt))), tt),
        ),
        omega arith,
      ),
    ),
  )

  pub step_rises : (step : Step) → step.x < 1000 → step.y < 1000 → step.depth < 1000 → Rises n (n + 20) (step_instances step n)
  step_rises step x y depth =
      let tail = rises_append (n + 3) (n + 8) (n + 20) (geometry step n) (extent step.kind n) (geometry_rises step x y depth) (extent_rises step.kind) in
      let more = rises_append (n + 2) (n + 3) (n + 20) (operation step.kind n ∷ []) (geometry step n ++ extent step.kind n) (operation_rises step.kind) tail in
      let most =
      rises_append (n + 1) (n + 2) (n + 20) (feature step.kind n ∷ []) (operation step.kind n ∷ (geometry step n ++ extent step.kind n)) (feature_rises step.kind) more in
      rises_append n (n + 1) (n + 20) (workingstep n ∷ []) (feature step.kind n ∷ operation step.kind n ∷ (geometry step n ++ extent step.kind n))
      (single (workingstep n) n (n + 1) (omega arith) (omega arith) workingstep_valid) most

-- ---- all workingsteps

below : (m n : ℕ) → 0 < n → m % n < n
below m n some = mod-lt m some

pub steps_rise : (start m : ℕ) → m ≤ 1000 → Rises 1000 (1000 + 20 * m) (flat_map (instances_at start) (range_with_len 0 m))
steps_rise start zero le = omega arith
steps_rise start (suc m) le =
    let x = below (draw (state_after start (4 * m)) 1) 1000 (omega arith) in
    let y = below (draw (state_after start (4 * m)) 2) 1000 (omega arith) in
    let d = below (draw (state_after start (4 * m)) 3) 50 (omega arith) in
    let one : suc m ≡ m + 1 = omega arith in
    let long : step_number m + 20 ≡ 1000 + 20 * suc m = omega arith in
    let own = step_rises (step_number m) (omega arith) (omega arith) (step_at start m) x y (omega arith) in
    let here = subst (λ (hi : ℕ). Rises (step_number m) hi (instances_at start m)) long own in
    let all =
    rises_append 1000 (step_number m) (1000 + 20 * suc m) (flat_map (instances_at start) (range_with_len 0 m)) (instances_at start m)
    (steps_rise start m (omega arith)) here in
    subst (Rises 1000 (1000 + 20 * suc m)) (sym (ap (λ (k : ℕ). flat_map (instances_at start) (range_with_len 0 k)) one ∙ flat_more (instances_at start) m)) all

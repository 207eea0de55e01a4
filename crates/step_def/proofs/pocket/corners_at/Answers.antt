use Rattle.std.proofs.Common.{◌≡◌, ◌∙◌, sym, refl, ℕ, ◌<◌, ◌≤◌, List, [], ◌∷◌, length, get_or, Option, arith}
use Rattle.entity_types.specs.declared.entity.Entity.{Entity}
use Rattle.step_def.specs.Lookup.{corners_at, five_corners, four_corners, points_alone}
use Rattle.step_def.proofs.pocket.corners_at.Goals as goal

corners_four : (from : ℕ → Option Entity) (n : ℕ) (xs : List ℕ) → 4 ≤ length xs → length xs < 5 → corners_at from n xs ≡ four_corners from n (get_or xs 0 0) (get_or xs 1 0) (get_or xs 2 0) (get_or xs 3 0)
unfolding corners_at
corners_four from n [] h k = absurd (omega arith)
corners_four from n (a ∷ []) h k = absurd (omega arith)
corners_four from n (a ∷ b ∷ []) h k = absurd (omega arith)
corners_four from n (a ∷ b ∷ c ∷ []) h k = absurd (omega arith)
corners_four from n (a ∷ b ∷ c ∷ d ∷ []) h k = refl
corners_four from n (a ∷ b ∷ c ∷ d ∷ e ∷ xs) h k = absurd (omega arith)

corners_five : (from : ℕ → Option Entity) (n : ℕ) (xs : List ℕ) → 5 ≤ length xs → length xs < 6
    → corners_at from n xs ≡ five_corners from n (get_or xs 0 0) (get_or xs 1 0) (get_or xs 2 0) (get_or xs 3 0) (get_or xs 4 0)
unfolding corners_at
corners_five from n [] h k = absurd (omega arith)
corners_five from n (a ∷ []) h k = absurd (omega arith)
corners_five from n (a ∷ b ∷ []) h k = absurd (omega arith)
corners_five from n (a ∷ b ∷ c ∷ []) h k = absurd (omega arith)
corners_five from n (a ∷ b ∷ c ∷ d ∷ []) h k = absurd (omega arith)
corners_five from n (a ∷ b ∷ c ∷ d ∷ e ∷ []) h k = refl
corners_five from n (a ∷ b ∷ c ∷ d ∷ e ∷ f ∷ xs) h k = absurd (omega arith)

corners_others : (from : ℕ → Option Entity) (n : ℕ) (xs : List ℕ) → (length xs ≡ 4 → ⊥) → (length xs ≡ 5 → ⊥) → corners_at from n xs ≡ points_alone from n xs
unfolding corners_at
corners_others from n [] h k = refl
corners_others from n (a ∷ []) h k = refl
corners_others from n (a ∷ b ∷ []) h k = refl
corners_others from n (a ∷ b ∷ c ∷ []) h k = refl
corners_others from n (a ∷ b ∷ c ∷ d ∷ []) h k = absurd (h refl)
corners_others from n (a ∷ b ∷ c ∷ d ∷ e ∷ []) h k = absurd (k refl)
corners_others from n (a ∷ b ∷ c ∷ d ∷ e ∷ f ∷ xs) h k = refl

pub returns-then-count-eq4 : goal.returns-then-count-eq4
returns-then-count-eq4 g c =
    let least : 4 ≤ length c.args.numbers.now = omega arith in
    let most : length c.args.numbers.now < 5 = omega arith in
    c.four_corners.ensures ∙ sym (corners_four (g.E.Entities.entities c.args.from.now) c.args.n c.args.numbers.now least most)

pub returns-then-count-eq5 : goal.returns-then-count-eq5
returns-then-count-eq5 g c =
    let least : 5 ≤ length c.args.numbers.now = omega arith in
    let most : length c.args.numbers.now < 6 = omega arith in
    c.five_corners.ensures ∙ sym (corners_five (g.E.Entities.entities c.args.from.now) c.args.n c.args.numbers.now least most)

pub returns : goal.returns
returns g c =
    let not_four : length c.args.numbers.now ≡ 4 → ⊥ = λ e. c.if-count-eq4.false e in
    let not_five : length c.args.numbers.now ≡ 5 → ⊥ = λ e. c.if-count-eq5.false e in
    c.points_alone.ensures ∙ sym (corners_others (g.E.Entities.entities c.args.from.now) c.args.n c.args.numbers.now not_four not_five)

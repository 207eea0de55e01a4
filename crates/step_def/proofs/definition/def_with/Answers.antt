use Rattle.std.proofs.Common.{rules, arith, ◌≡◌, ◌∙◌, ap, sym, subst, refl, ℕ, ℤ, true, false, ◌<◌, ◌≤◌, ◌<ℤ◌, nat_le, FitsSigned, IsTrue, w64, to_z, of_z, Ok, Err, Result}
use Rattle.std.proofs.lemmas.Int.{to_z-of_z}
use Rattle.std.specs.Prelude.{if◌then◌else◌}
use Rattle.std.specs.Int.{is_positive}
use Rattle.path_blocks.specs.Range.{is_within}
use Rattle.path_blocks.specs.Count.{block_count}
use Rattle.path_blocks.specs.Numbers.{Numbers}
use Rattle.step_def.specs.declared.fault.DefFault.{DefFault}
use Rattle.step_def.specs.declared.fault.DefFault.TheVariants.{TooManyBlocks}
use Rattle.step_def.specs.Numbers.{numbers_with}
use Rattle.step_def.specs.Ranges.{KeepsRanges}
use Rattle.step_def.specs.Sound.{facts_of, axial_up, bottom_in, bottom_under, keeps, shaped, z_in}
use Rattle.step_def.proofs.Keeping.{within_same, feeds_same, cuts_same, downwards_same, shaped_same, few_same}
use Rattle.step_def.proofs.definition.def_with.Goals as goal
use Rattle.step_def.proofs.definition.def_with.Goals.{After-axial_of-axial, After-block_count-count}

back : (z : ℤ) → FitsSigned w64 z → to_z w64 (of_z w64 z) ≡ z
back z f = to_z-of_z w64 z f

is_le : (count : ℕ) → count ≤ 20000 → nat_le count 20000 ≡ true
is_le count h = grind arith

is_not_le : (count : ℕ) → 20000 < count → nat_le count 20000 ≡ false
is_not_le count h = grind arith

too_many : (n count result : ℕ) (x : Numbers) → result ≡ count → 20000 < result → ◌≡◌ {A = Result Numbers DefFault} (if nat_le count 20000 then Ok x else Err (TooManyBlocks n count)) (Err (TooManyBlocks n result))
too_many n count result x e h =
    let no : nat_le result 20000 ≡ false = is_not_le result h in
    rw (sym e, no) refl

pub bottom_of-bottom-requires : goal.bottom_of-bottom-requires
bottom_of-bottom-requires c = facts_of c.args.lookup.now c.args.machining.now c.requires.machining

pub axial_of-axial-requires : goal.axial_of-axial-requires
axial_of-axial-requires c = (facts_of c.args.lookup.now c.args.machining.now c.requires.machining).place

pub retract_height-requires : goal.retract_height-requires
retract_height-requires c = (facts_of c.args.lookup.now c.args.machining.now c.requires.machining).place

z0_is : (c : After-axial_of-axial) → to_z w64 (of_z w64 c.args.lookup.now.placement.point.z) ≡ (numbers_with c.args.lookup.now c.args.machining.now c.args.shape.now).z0
z0_is c =
    let f : FitsSigned w64 c.args.lookup.now.placement.point.z = search rules in
    back c.args.lookup.now.placement.point.z f

bottom_is : (c : After-axial_of-axial) → to_z w64 (of_z w64 c.bottom_of-bottom.result) ≡ (numbers_with c.args.lookup.now c.args.machining.now c.args.shape.now).bottom
bottom_is c =
    let f : FitsSigned w64 c.bottom_of-bottom.result = search rules in
    back c.bottom_of-bottom.result f ∙ c.bottom_of-bottom.ensures

axial_is : (c : After-axial_of-axial) → to_z w64 (of_z w64 c.axial_of-axial.result) ≡ (numbers_with c.args.lookup.now c.args.machining.now c.args.shape.now).axial
axial_is c =
    let f : FitsSigned w64 c.axial_of-axial.result = search rules in
    back c.axial_of-axial.result f ∙ c.axial_of-axial.ensures

pub block_count-count-requires-clause-upper : goal.block_count-count-requires-clause-upper
block_count-count-requires-clause-upper c =
    subst (λ (z : ℤ). IsTrue (is_within z)) (sym (z0_is (goal.at.block_count-count-requires-clause-upper c).After-axial_of-axial)) (z_in c.args.lookup.now c.args.machining.now (facts_of c.args.lookup.now c.args.machining.now c.requires.machining))

pub block_count-count-requires-clause-lower : goal.block_count-count-requires-clause-lower
block_count-count-requires-clause-lower c =
    subst (λ (z : ℤ). IsTrue (is_within z)) (sym (bottom_is (goal.at.block_count-count-requires-clause-lower c).After-axial_of-axial)) (bottom_in c.args.lookup.now c.args.machining.now (facts_of c.args.lookup.now c.args.machining.now c.requires.machining))

pub block_count-count-requires-clause-downwards : goal.block_count-count-requires-clause-downwards
block_count-count-requires-clause-downwards c =
    let s = (goal.at.block_count-count-requires-clause-downwards c).After-axial_of-axial in
    subst (λ (z : ℤ). to_z w64 (of_z w64 c.bottom_of-bottom.result) <ℤ z) (sym (z0_is s))
    (subst (λ (z : ℤ). z <ℤ c.args.lookup.now.placement.point.z) (sym (bottom_is s)) (bottom_under c.args.lookup.now c.args.machining.now (facts_of c.args.lookup.now c.args.machining.now c.requires.machining)))

pub block_count-count-requires-clause-cuts : goal.block_count-count-requires-clause-cuts
block_count-count-requires-clause-cuts c =
    subst (λ (z : ℤ). IsTrue (is_positive z)) (sym (axial_is (goal.at.block_count-count-requires-clause-cuts c).After-axial_of-axial)) (axial_up c.args.lookup.now c.args.machining.now (facts_of c.args.lookup.now c.args.machining.now c.requires.machining))

pub block_count-count-requires-clause-shaped : goal.block_count-count-requires-clause-shaped
block_count-count-requires-clause-shaped c =
    let facts = facts_of c.args.lookup.now c.args.machining.now c.requires.machining in
    shaped c.args.lookup.now c.args.machining.now c.args.shape.now facts.place facts.made c.requires.shape

-- the count of the code is that of the numbers
abbrev count_of : Numbers → ℕ
count_of x = block_count x.z0 x.bottom x.axial x.shape

count_same : (x : Numbers) (result : ℕ) (z0 bottom axial : ℤ) → result ≡ block_count z0 bottom axial x.shape → z0 ≡ x.z0 → bottom ≡ x.bottom → axial ≡ x.axial → result ≡ count_of x
count_same x result z0 bottom axial e p q r =
    e ∙ ap (λ (z : ℤ). block_count z bottom axial x.shape) p ∙ ap (λ (z : ℤ). block_count x.z0 z axial x.shape) q ∙ ap (λ (z : ℤ). block_count x.z0 x.bottom z x.shape) r

counted : (c : After-block_count-count) → c.block_count-count.result ≡ count_of (numbers_with c.args.lookup.now c.args.machining.now c.args.shape.now)
counted c =
    let z0 : FitsSigned w64 c.args.lookup.now.placement.point.z = search rules in
    let bottom : FitsSigned w64 c.bottom_of-bottom.result = search rules in
    let axial : FitsSigned w64 c.axial_of-axial.result = search rules in
    count_same (numbers_with c.args.lookup.now c.args.machining.now c.args.shape.now) c.block_count-count.result _ _ _ c.block_count-count.ensures.count
    (back c.args.lookup.now.placement.point.z z0) (back c.bottom_of-bottom.result bottom ∙ c.bottom_of-bottom.ensures) (back c.axial_of-axial.result axial ∙ c.axial_of-axial.ensures)

pub returns-then-count-gt-MAX_BLOCKS : goal.returns-then-count-gt-MAX_BLOCKS
returns-then-count-gt-MAX_BLOCKS c =
    let x : Numbers = numbers_with c.args.lookup.now c.args.machining.now c.args.shape.now in
    too_many c.args.n (count_of x) c.block_count-count.result x (counted (goal.at.returns-then-count-gt-MAX_BLOCKS c).After-block_count-count) c.if-count-gt-MAX_BLOCKS.true

pub invariant_of-result : goal.invariant_of-result
invariant_of-result c =
    let spindle : FitsSigned w64 c.args.lookup.now.technology.spindle.value = search rules in
    let feed : FitsSigned w64 c.args.lookup.now.technology.feed.value = search rules in
    let sec : FitsSigned w64 c.args.lookup.now.security.point.z = search rules in
    let ret : FitsSigned w64 c.retract_height.result = search rules in
    let z0 : FitsSigned w64 c.args.lookup.now.placement.point.z = search rules in
    let bottom : FitsSigned w64 c.bottom_of-bottom.result = search rules in
    let axial : FitsSigned w64 c.axial_of-axial.result = search rules in
    let x : Numbers = numbers_with c.args.lookup.now c.args.machining.now c.args.shape.now in
    let few : nat_le (count_of x) 20000 ≡ true = subst (λ (n : ℕ). nat_le n 20000 ≡ true) (counted (goal.at.invariant_of-result c).After-block_count-count) (is_le c.block_count-count.result c.if-count-gt-MAX_BLOCKS.false) in
    let all : KeepsRanges x = keeps c.args.lookup.now c.args.machining.now c.args.shape.now (facts_of c.args.lookup.now c.args.machining.now c.requires.machining) c.requires.shape few in
    record {
      within = within_same x all _ _ _ _ _ _ _ (back _ spindle) (back _ feed) (back _ sec) (back _ ret ∙ c.retract_height.ensures) (back _ z0) (back _ bottom ∙ c.bottom_of-bottom.ensures) (back _ axial ∙ c.axial_of-axial.ensures);
      feeds = feeds_same x all _ (back _ feed);
      cuts = cuts_same x all _ (back _ axial ∙ c.axial_of-axial.ensures);
      downwards = downwards_same x all _ _ (back _ z0) (back _ bottom ∙ c.bottom_of-bottom.ensures);
      shaped = shaped_same x all c.args.shape.now refl;
      few = few_same x all _ _ _ c.args.shape.now (back _ z0) (back _ bottom ∙ c.bottom_of-bottom.ensures) (back _ axial ∙ c.axial_of-axial.ensures) refl;
    }

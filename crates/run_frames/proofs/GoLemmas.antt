-- Going on by the table of a tree, step by step.
use Rattle.std.specs.Prelude.{◌≡◌, ◌<◌, ◌-◌, ◌+◌, ◌==◌, ◌||◌, if◌then◌else◌, ℕ, Bool, true, false, List, [], ◌∷◌, length, slice_get, slice_set, Option, Some, None}
use Rattle.std.specs.Option.{option_map_or}
use Rattle.std.proofs.Common.{refl, sym, ◌∙◌, ap, subst, arith}
use Rattle.std.proofs.lemmas.Bool.Decides.{nat_tests}
use Rattle.exec_tree.specs.Exec.{Exec, Plan, has}
use Rattle.exec_tree.specs.declared.limits.TheConstants.{MAX_TREE_NESTING}
use Rattle.exec_tree.specs.declared.node.BareNode.{BareNode}
use Rattle.place_set.specs.Words.{holds}
use Rattle.trace_law.specs.Cells.{Cell, Left, picked}
use Rattle.trace_law.specs.Frames.{left}
use Rattle.trace_law.specs.Leading.{leads}
use Rattle.trace_law.proofs.LeadLemmas.{leads_next}
use Rattle.frame_law.specs.Onward.{Onward, Done, Opens, Joins, PicksOn, TestsAgain, brings}
use Rattle.frame_law.proofs.GoingLemmas.{gone_more, gone_last, gone_picks, gone_picked, brings_more, brings_last}
use Rattle.frame_law.proofs.OpenedLemmas.{gone_leads}
use Rattle.tree_table.specs.Rows.{link_of, after_at, executable_at, AreLinkedBack}
use Rattle.tree_table.specs.Table.{IsEntrance, count_at}
use Rattle.tree_table.specs.declared.row.Continuation.TheVariants as row
use Rattle.tree_table.specs.declared.row.Row.{Row}
use Rattle.run_frames.specs.Frames.{cells_of}
use Rattle.run_frames.specs.Entered.{AreUnpickedIn, ComeIn, IsEntered}
use Rattle.run_frames.specs.Ways.{IsNoPick, IsWay, HasGone, link_bound}
use Rattle.run_frames.proofs.RenamingLemmas.{same_number}
use Rattle.run_frames.proofs.WriteLemmas.{frame_set, length_set, set_keeps}
use Rattle.run_frames.proofs.UnpickedLemmas.{unpicked_down, set_unpicked}
use Rattle.run_frames.proofs.EnterLemmas.{come_none}

-- ---- which way a continuation stands for

joins_same : (p q : ℕ) → row.Joins p ≡ row.Joins q → p ≡ q
joins_same p q e = cc

picks_same : (p q : ℕ) → row.PicksOn p ≡ row.PicksOn q → p ≡ q
picks_same p q e = cc

tests_same : (p q : ℕ) → row.TestsAgain p ≡ row.TestsAgain q → p ≡ q
tests_same p q e = cc

opens_same : (p q : ℕ) → row.Opens p ≡ row.Opens q → p ≡ q
opens_same p q e = cc

-- it joins at the place, and goes on as the row there says
pub joins_is : (arena : List BareNode) (rows : List Row) (p : ℕ) (k : Onward) → IsWay arena rows (row.Joins p) k → (j : Onward) × (k ≡ Joins p j) × IsWay arena rows (row.Joins p) (Joins p j) × IsWay arena rows (after_at rows p) j
joins_is arena rows p Done w = absurd (let e : row.Joins p ≡ row.Done = w.told in cc)
joins_is arena rows p (Opens es) w = absurd (let e : row.Joins p ≡ row.Opens w.told.0 = w.told.1 in cc)
joins_is arena rows p (Joins n j) w =
    let same : n ≡ p = sym (joins_same p n w.told.0) in
    let v = subst (λ (r : ℕ). IsWay arena rows (row.Joins p) (Joins r j)) same w in
    (j, ap (λ (r : ℕ). Joins r j) same, v, record { told = v.told.1; distinct = v.distinct.1; within = v.within.2 })
joins_is arena rows p (PicksOn n total j) w = absurd (let e : row.Joins p ≡ row.PicksOn n = w.told.0 in cc)
joins_is arena rows p (TestsAgain n) w = absurd (let e : row.Joins p ≡ row.TestsAgain n = w.told in cc)

-- it picks on at the place, which has so many elements, and goes on as the row there says
pub picks_is : (arena : List BareNode) (rows : List Row) (p : ℕ) (k : Onward) → IsWay arena rows (row.PicksOn p) k → (j : Onward) × (k ≡ PicksOn p (count_at arena p) j) × IsWay arena rows (row.PicksOn p) (PicksOn p (count_at arena p) j) × IsWay arena rows (after_at rows p) j
picks_is arena rows p Done w = absurd (let e : row.PicksOn p ≡ row.Done = w.told in cc)
picks_is arena rows p (Opens es) w = absurd (let e : row.PicksOn p ≡ row.Opens w.told.0 = w.told.1 in cc)
picks_is arena rows p (Joins n j) w = absurd (let e : row.PicksOn p ≡ row.Joins n = w.told.0 in cc)
picks_is arena rows p (PicksOn n total j) w =
    let same : n ≡ p = sym (picks_same p n w.told.0) in
    let all : total ≡ count_at arena p = sym w.told.1 ∙ ap (count_at arena) same in
    let u = subst (λ (r : ℕ). IsWay arena rows (row.PicksOn p) (PicksOn r total j)) same w in
    let v = subst (λ (r : ℕ). IsWay arena rows (row.PicksOn p) (PicksOn p r j)) all u in
    (j, ap (λ (r : ℕ). PicksOn r total j) same ∙ ap (λ (r : ℕ). PicksOn p r j) all, v, record { told = v.told.2; distinct = v.distinct.1; within = v.within.1 })
picks_is arena rows p (TestsAgain n) w = absurd (let e : row.PicksOn p ≡ row.TestsAgain n = w.told in cc)

-- ---- where nothing is left to do, where a while tests again, where elements are opened

pub gone_done : (arena : List BareNode) (rows : List Row) (f : List Cell) (before : List ℕ) (k : Onward) → AreUnpickedIn arena f → IsWay arena rows row.Done k → HasGone arena f f before before k
gone_done arena rows f before Done u w = record { gone = record { ran = tt; kept = λ q h. refl }; unpicked = u; long = refl; came = come_none before }
gone_done arena rows f before (Opens es) u w = absurd (let e : row.Done ≡ row.Opens w.told.0 = w.told.1 in cc)
gone_done arena rows f before (Joins n j) u w = absurd (let e : row.Done ≡ row.Joins n = w.told.0 in cc)
gone_done arena rows f before (PicksOn n total j) u w = absurd (let e : row.Done ≡ row.PicksOn n = w.told.0 in cc)
gone_done arena rows f before (TestsAgain n) u w = absurd (let e : row.Done ≡ row.TestsAgain n = w.told in cc)

come_one : (before after : List ℕ) (p : ℕ) → ((q : ℕ) → holds after q ≡ ((q == p) || holds before q)) → ComeIn before after (p ∷ [])
come_one before after p put q = put q ∙ (ap (λ (b : Bool). b || holds before q) (turned p q) ∙ go (p == q) (holds before q))
  where
    turned : (a b : ℕ) → (b == a) ≡ (a == b)
    turned a b = grind (arith, nat_tests)

    go : (a b : Bool) → (a || b) ≡ (b || (a || false))
    go true true = refl
    go true false = refl
    go false true = refl
    go false false = refl

pub tests_within : (arena : List BareNode) (rows : List Row) (p : ℕ) (k : Onward) → IsWay arena rows (row.TestsAgain p) k → p < length arena
tests_within arena rows p Done w = absurd (let e : row.TestsAgain p ≡ row.Done = w.told in cc)
tests_within arena rows p (Opens es) w = absurd (let e : row.TestsAgain p ≡ row.Opens w.told.0 = w.told.1 in cc)
tests_within arena rows p (Joins n j) w = absurd (let e : row.TestsAgain p ≡ row.Joins n = w.told.0 in cc)
tests_within arena rows p (PicksOn n total j) w = absurd (let e : row.TestsAgain p ≡ row.PicksOn n = w.told.0 in cc)
tests_within arena rows p (TestsAgain n) w = subst (λ (r : ℕ). r < length arena) (sym (tests_same p n w.told)) w.within

pub gone_tests : (arena : List BareNode) (rows : List Row) (f : List Cell) (before after : List ℕ) (p : ℕ) (k : Onward) → AreUnpickedIn arena f → ((q : ℕ) → holds after q ≡ ((q == p) || holds before q)) → IsWay arena rows (row.TestsAgain p) k → HasGone arena f f before after k
gone_tests arena rows f before after p Done u put w = absurd (let e : row.TestsAgain p ≡ row.Done = w.told in cc)
gone_tests arena rows f before after p (Opens es) u put w = absurd (let e : row.TestsAgain p ≡ row.Opens w.told.0 = w.told.1 in cc)
gone_tests arena rows f before after p (Joins n j) u put w = absurd (let e : row.TestsAgain p ≡ row.Joins n = w.told.0 in cc)
gone_tests arena rows f before after p (PicksOn n total j) u put w = absurd (let e : row.TestsAgain p ≡ row.PicksOn n = w.told.0 in cc)
gone_tests arena rows f before after p (TestsAgain n) u put w = record {
  gone = record { ran = tt; kept = λ q h. refl };
  unpicked = u;
  long = refl;
  came = subst (λ (r : ℕ). ComeIn before after (r ∷ [])) (tests_same p n w.told) (come_one before after p put);
}

pub opens_entrance : (arena : List BareNode) (rows : List Row) (p : ℕ) (k : Onward) → IsWay arena rows (row.Opens p) k → IsEntrance arena rows p
opens_entrance arena rows p Done w = absurd (let e : row.Opens p ≡ row.Done = w.told in cc)
opens_entrance arena rows p (Opens es) w = subst (λ (r : ℕ). IsEntrance arena rows r) (sym (opens_same p w.told.0 w.told.1)) w.told.2
opens_entrance arena rows p (Joins n j) w = absurd (let e : row.Opens p ≡ row.Joins n = w.told.0 in cc)
opens_entrance arena rows p (PicksOn n total j) w = absurd (let e : row.Opens p ≡ row.PicksOn n = w.told.0 in cc)
opens_entrance arena rows p (TestsAgain n) w = absurd (let e : row.Opens p ≡ row.TestsAgain n = w.told in cc)

pub gone_entered : (arena : List BareNode) (rows : List Row) (old new : List Cell) (before after : List ℕ) (p : ℕ) (k : Onward) → IsEntered arena old new before after (executable_at arena rows p) → IsWay arena rows (row.Opens p) k → HasGone arena old new before after k
gone_entered arena rows old new before after p Done o w = absurd (let e : row.Opens p ≡ row.Done = w.told in cc)
gone_entered arena rows old new before after p (Opens es) o w =
    let is : executable_at arena rows p ≡ leads (Plan None es) = ap (executable_at arena rows) (opens_same p w.told.0 w.told.1) ∙ w.told.3 in
    let opened = subst (λ (f : Exec). IsEntered arena old new before after f) is o in
    record {
      gone = gone_leads (cells_of old) (cells_of new) es (w.within (cells_of new) (unpicked_down arena new MAX_TREE_NESTING 0 opened.unpicked)) opened.stands (λ q h. (opened.kept q h));
      unpicked = opened.unpicked;
      long = opened.long;
      came = λ q. opened.came q ∙ ap (λ (ns : List ℕ). holds before q || has ns q) (leads_next (Plan None es));
    }
gone_entered arena rows old new before after p (Joins n j) o w = absurd (let e : row.Opens p ≡ row.Joins n = w.told.0 in cc)
gone_entered arena rows old new before after p (PicksOn n total j) o w = absurd (let e : row.Opens p ≡ row.PicksOn n = w.told.0 in cc)
gone_entered arena rows old new before after p (TestsAgain n) o w = absurd (let e : row.Opens p ≡ row.TestsAgain n = w.told in cc)

-- ---- parallels

own_cell : (old : List Cell) (p : ℕ) (f : Cell) → p < length old → cells_of (slice_set old p f) p ≡ f
own_cell old p f l = frame_set old p f l

abbrev fewer : List Cell → ℕ → List Cell
fewer old p = slice_set old p (Left (left (cells_of old p) - 1))

pub fewer_unpicked : (arena : List BareNode) (old : List Cell) (p : ℕ) (node : BareNode) → p < length old → slice_get arena p ≡ Some node → IsNoPick arena p → AreUnpickedIn arena old → AreUnpickedIn arena (fewer old p)
fewer_unpicked arena old p node l at no_pick u = set_unpicked arena old p (Left (left (cells_of old p) - 1)) node l at (λ k none. absurd (no_pick node at k)) u

pub joined_more : (arena : List BareNode) (rows : List Row) (old : List Cell) (before : List ℕ) (p : ℕ) (k : Onward) → p < length old → AreUnpickedIn arena (fewer old p) → (left (cells_of old p) == 1) ≡ false → IsWay arena rows (row.Joins p) k → HasGone arena old (fewer old p) before before k
joined_more arena rows old before p k l u e w =
    let j = joins_is arena rows p k w in
    let c = cells_of old in
    subst (λ (i : Onward). HasGone arena old (fewer old p) before before i) (sym j.1)
    (record {
      gone = gone_more c (cells_of (fewer old p)) p j.0 e (own_cell old p (Left (left (cells_of old p) - 1)) l) (λ q h. (set_keeps old p (Left (left (cells_of old p) - 1)) [] q h));
      unpicked = u;
      long = length_set old p (Left (left (cells_of old p) - 1));
      came = subst (λ (ns : List ℕ). ComeIn before before ns) (sym (brings_more c p j.0 e)) (come_none before);
    })

pub joined_last : (arena : List BareNode) (rows : List Row) (old new : List Cell) (before after : List ℕ) (p : ℕ) (k : Onward) → p < length old → (left (cells_of old p) == 1) ≡ true → ((j : Onward) → IsWay arena rows (after_at rows p) j → HasGone arena (fewer old p) new before after j) → IsWay arena rows (row.Joins p) k → HasGone arena old new before after k
joined_last arena rows old new before after p k l e on w =
    let j = joins_is arena rows p k w in
    let c = cells_of old in
    let d = cells_of (fewer old p) in
    let one = same_number (left (c p)) 1 e in
    let kept = λ (q : ℕ) (h : has (p ∷ []) q ≡ false). (set_keeps old p (Left (left (cells_of old p) - 1)) [] q h) in
    let g = on j.0 j.3 in
    subst (λ (i : Onward). HasGone arena old new before after i) (sym j.1)
    (record {
      gone = gone_last c d (cells_of new) p j.0 j.2.distinct one (own_cell old p (Left (left (cells_of old p) - 1)) l) kept g.gone;
      unpicked = g.unpicked;
      long = g.long ∙ length_set old p (Left (left (cells_of old p) - 1));
      came = subst (λ (ns : List ℕ). ComeIn before after ns) (sym (brings_last c d p j.0 j.2.distinct one kept)) g.came;
    })

-- ---- non-sequentials

not_all : (a b n : ℕ) → a ≡ n → (n ≡ b → ⊥) → (a == b) ≡ false
not_all a b n e h = go (a == b) refl
  where
    go : (t : Bool) → (a == b) ≡ t → (a == b) ≡ false
    go true f = absurd (h (sym e ∙ same_number a b f))
    go false f = f

chosen_no : (b : Bool) (x y : List ℕ) → b ≡ false → (if b then x else y) ≡ y
chosen_no true x y e = absurd (cc)
chosen_no false x y e = refl

chosen_yes : (b : Bool) (x y : List ℕ) → b ≡ true → (if b then x else y) ≡ x
chosen_yes true x y e = refl
chosen_yes false x y e = absurd (cc)

is_all : (a b : ℕ) → a ≡ b → (a == b) ≡ true
is_all a b e = grind (arith, nat_tests)

pub picks_more : (arena : List BareNode) (rows : List Row) (old : List Cell) (before after : List ℕ) (p : ℕ) (k : Onward) → AreUnpickedIn arena old → (length (picked (cells_of old p)) ≡ count_at arena p → ⊥) → ((q : ℕ) → holds after q ≡ ((q == p) || holds before q)) → IsWay arena rows (row.PicksOn p) k → HasGone arena old old before after k
picks_more arena rows old before after p k u some put w =
    let j = picks_is arena rows p k w in
    let c = cells_of old in
    let few = not_all (length (picked (c p))) (count_at arena p) (length (picked (cells_of old p))) refl some in
    subst (λ (i : Onward). HasGone arena old old before after i) (sym j.1)
    (record {
      gone = gone_picks c p (count_at arena p) j.0 few;
      unpicked = u;
      long = refl;
      came = subst (λ (ns : List ℕ). ComeIn before after ns) (sym (chosen_no (length (picked (c p)) == count_at arena p) (brings c j.0) (p ∷ []) few)) (come_one before after p put);
    })

pub picked_last : (arena : List BareNode) (rows : List Row) (old new : List Cell) (before after : List ℕ) (p : ℕ) (k : Onward) → length (picked (cells_of old p)) ≡ count_at arena p → ((j : Onward) → IsWay arena rows (after_at rows p) j → HasGone arena old new before after j) → IsWay arena rows (row.PicksOn p) k → HasGone arena old new before after k
picked_last arena rows old new before after p k all_of on w =
    let j = picks_is arena rows p k w in
    let c = cells_of old in
    let one : length (picked (c p)) ≡ count_at arena p = all_of in
    let g = on j.0 j.3 in
    subst (λ (i : Onward). HasGone arena old new before after i) (sym j.1)
    (record {
      gone = gone_picked c (cells_of new) p (count_at arena p) j.0 one g.gone;
      unpicked = g.unpicked;
      long = g.long;
      came = subst (λ (ns : List ℕ). ComeIn before after ns) (sym (chosen_yes (length (picked (c p)) == count_at arena p) (brings c j.0) (p ∷ []) (is_all (length (picked (c p))) (count_at arena p) one))) g.came;
    })

-- ---- looking up ends

pub link_falls : (rows : List Row) (p : ℕ) → AreLinkedBack rows → link_bound (after_at rows p) < p + 1
link_falls rows p back = go (link_of (after_at rows p)) refl
  where
    go : (o : Option ℕ) → link_of (after_at rows p) ≡ o → option_map_or (λ q. q + 1) (link_of (after_at rows p)) 0 < p + 1
    go None e = rw e (omega arith)
    go (Some q) e = let l = back p q e in rw e (omega (arith, l))

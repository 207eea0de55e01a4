-- Rows that are written.
use Rattle.std.specs.Prelude.{◌≡◌, ◌<◌, ◌==◌, ℕ, Bool, true, false, List, ◌∷◌, length, slice_get, slice_set, Option, Some, None}
use Rattle.std.specs.Option.{option_map_or}
use Rattle.std.proofs.Common.{refl, sym, ◌∙◌, ap, subst, arith}
use Rattle.std.proofs.lemmas.Bool.Decides.{nat_tests}
use Rattle.exec_tree.specs.Exec.{has}
use Rattle.tree_table.specs.Rows.{into_at, after_at, levels_at, link_of, AreLinkedBack}
use Rattle.tree_table.specs.Filled.{with_after, AreSameBut}
use Rattle.tree_table.specs.declared.row.Continuation.{Continuation}
use Rattle.tree_table.specs.declared.row.Continuation.TheVariants.{Done}
use Rattle.tree_table.specs.declared.row.Row.{Row}
use Rattle.tree_table.proofs.ListLemmas.{same_number, not_own, get_set, get_other, length_set, get_some}

pub into_same : (old new : List Row) (q : ℕ) → slice_get new q ≡ slice_get old q → into_at new q ≡ into_at old q
into_same old new q h = ap (λ (o : Option Row). option_map_or (λ r. r.into) o None) h

pub levels_same : (old new : List Row) (q : ℕ) → slice_get new q ≡ slice_get old q → levels_at new q ≡ levels_at old q
levels_same old new q h = ap (λ (o : Option Row). option_map_or (λ r. r.levels) o 0) h

pub after_same : (old new : List Row) (q : ℕ) → slice_get new q ≡ slice_get old q → after_at new q ≡ after_at old q
after_same old new q h = ap (λ (o : Option Row). option_map_or (λ r. r.after) o Done) h

other_number : (p q : ℕ) → (p == q) ≡ false → p ≡ q → ⊥
other_number p q e f = let w : (q == q) ≡ false = subst (λ (n : ℕ). (n == q) ≡ false) f e in grind (arith, nat_tests)

-- a row that is made has no link
pub back_set : (rows : List Row) (p : ℕ) (r : Row) → p < length rows → r.after ≡ Done → AreLinkedBack rows → AreLinkedBack (slice_set rows p r)
back_set rows p r l d b s q h = go (p == s) refl
  where
    go : (t : Bool) → (p == s) ≡ t → q < s
    go true e =
        let w : slice_get (slice_set rows p r) s ≡ Some r = subst (λ (n : ℕ). slice_get (slice_set rows p r) n ≡ Some r) (same_number p s e) (get_set rows p r l) in
        let a : after_at (slice_set rows p r) s ≡ Done = ap (λ (o : Option Row). option_map_or (λ x. x.after) o Done) w ∙ d in
        absurd (let z : None ≡ Some q = sym (ap link_of a) ∙ h in cc)
    go false e = b s q (sym (ap link_of (after_same rows (slice_set rows p r) s (get_other rows p s r (other_number p s e)))) ∙ h)

-- ---- a continuation that is put in

put_is : (rows : List Row) (p : ℕ) (c : Continuation) (r : Row) → slice_get rows p ≡ Some r → with_after rows p c ≡ slice_set rows p (record r { after = c })
put_is rows p c r h = rw h refl

pub put_after : (rows : List Row) (p : ℕ) (c : Continuation) → p < length rows → after_at (with_after rows p c) p ≡ c
put_after rows p c l =
    let s = get_some rows p l in
    ap (λ (w : List Row). after_at w p) (put_is rows p c s.0 s.1) ∙ ap (λ (o : Option Row). option_map_or (λ x. x.after) o Done) (get_set rows p (record s.0 { after = c }) l)

pub put_other : (rows : List Row) (p : ℕ) (c : Continuation) (q : ℕ) → p < length rows → (p ≡ q → ⊥) → slice_get (with_after rows p c) q ≡ slice_get rows q
put_other rows p c q l n =
    let s = get_some rows p l in
    ap (λ (w : List Row). slice_get w q) (put_is rows p c s.0 s.1) ∙ get_other rows p q (record s.0 { after = c }) n

-- what is no continuation stays
put_field : {A : Type 0} (f : Row → A) (d : A) (rows : List Row) (p : ℕ) (c : Continuation) (q : ℕ) → p < length rows → ((r : Row) → f (record r { after = c }) ≡ f r) → option_map_or f (slice_get (with_after rows p c) q) d ≡ option_map_or f (slice_get rows q) d
put_field f d rows p c q l h = go (p == q) refl (get_some rows p l)
  where
    go : (t : Bool) → (p == q) ≡ t → (r : Row) × (slice_get rows p ≡ Some r) → option_map_or f (slice_get (with_after rows p c) q) d ≡ option_map_or f (slice_get rows q) d
    go true e s =
        subst (λ (n : ℕ). option_map_or f (slice_get (with_after rows p c) n) d ≡ option_map_or f (slice_get rows n) d) (same_number p q e)
        (ap (λ (w : List Row). option_map_or f (slice_get w p) d) (put_is rows p c s.0 s.1)
        ∙ (ap (λ (o : Option Row). option_map_or f o d) (get_set rows p (record s.0 { after = c }) l) ∙ (h s.0 ∙ sym (ap (λ (o : Option Row). option_map_or f o d) s.1))))
    go false e s = ap (λ (o : Option Row). option_map_or f o d) (put_other rows p c q l (other_number p q e))

pub put_into : (rows : List Row) (p : ℕ) (c : Continuation) (q : ℕ) → p < length rows → into_at (with_after rows p c) q ≡ into_at rows q
put_into rows p c q l = put_field (λ (r : Row). r.into) None rows p c q l (λ r. refl)

pub put_levels : (rows : List Row) (p : ℕ) (c : Continuation) (q : ℕ) → p < length rows → levels_at (with_after rows p c) q ≡ levels_at rows q
put_levels rows p c q l = put_field (λ (r : Row). r.levels) 0 rows p c q l (λ r. refl)

put_long : (rows : List Row) (p : ℕ) (c : Continuation) → p < length rows → length (with_after rows p c) ≡ length rows
put_long rows p c l = let s = get_some rows p l in ap (λ (w : List Row). length w) (put_is rows p c s.0 s.1) ∙ length_set rows p (record s.0 { after = c })

put_back : (rows : List Row) (p : ℕ) (c : Continuation) → p < length rows → ((q : ℕ) → link_of c ≡ Some q → q < p) → AreLinkedBack rows → AreLinkedBack (with_after rows p c)
put_back rows p c l before b s q h = go (p == s) refl
  where
    go : (t : Bool) → (p == s) ≡ t → q < s
    go true e =
        let f = same_number p s e in
        subst (λ (n : ℕ). q < n) f (before q (sym (ap link_of (put_after rows p c l)) ∙ subst (λ (n : ℕ). link_of (after_at (with_after rows p c) n) ≡ Some q) (sym f) h))
    go false e = b s q (sym (ap link_of (after_same rows (with_after rows p c) s (put_other rows p c s l (other_number p s e)))) ∙ h)

-- only the continuation at one place changes
pub put_same : (rows : List Row) (p : ℕ) (c : Continuation) (ns : List ℕ) → p < length rows → ((q : ℕ) → link_of c ≡ Some q → q < p) → AreLinkedBack rows → AreSameBut rows (with_after rows p c) (p ∷ ns)
put_same rows p c ns l before b =
    record {
      into = λ q. put_into rows p c q l;
      levels = λ q. put_levels rows p c q l;
      after = λ q h. after_same rows (with_after rows p c) q (put_other rows p c q l (not_own p ns q h));
      long = put_long rows p c l;
      back = put_back rows p c l before b;
    }

pub same_none : (rows : List Row) (ns : List ℕ) → AreLinkedBack rows → AreSameBut rows rows ns
same_none rows ns b = record { into = λ q. refl; levels = λ q. refl; after = λ q h. refl; long = refl; back = b }

pub same_more : (old new : List Row) (ms ns : List ℕ) → ((q : ℕ) → has ns q ≡ false → has ms q ≡ false) → AreSameBut old new ms → AreSameBut old new ns
same_more old new ms ns f s = record { into = s.into; levels = s.levels; after = λ q h. s.after q (f q h); long = s.long; back = s.back }

pub same_both : (old mid new : List Row) (ns : List ℕ) → AreSameBut old mid ns → AreSameBut mid new ns → AreSameBut old new ns
same_both old mid new ns s t =
    record { into = λ q. t.into q ∙ s.into q; levels = λ q. t.levels q ∙ s.levels q; after = λ q h. t.after q h ∙ s.after q h; long = t.long ∙ s.long; back = t.back }

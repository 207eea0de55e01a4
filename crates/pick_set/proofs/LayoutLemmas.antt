-- The slots of all nodes before any pick.
use Rattle.std.specs.Prelude.{◌≡◌, ◌<◌, ◌≤◌, ◌+◌, ℕ, List, [], ◌∷◌, ◌++◌, length, take, get_or}
use Rattle.std.proofs.Common.{refl, sym, ◌∙◌, ap, subst, inl, inr, arith}
use Rattle.std.proofs.lemmas.List.{get_or_append_left, get_or_push, get_or_past, get_or-map, map_push, take_more, length_push, length-map}
use Rattle.std.proofs.lemmas.Bool.{cases_lt}
use Rattle.pick_set.specs.Picks.{is_picked, made_at}
use Rattle.pick_set.specs.Rows.{no_row, row_at, window, picks_of, made_by, AreSparse, AreLaidOut}
use Rattle.pick_set.specs.declared.row.Row.{Row}

abbrev blank : ℕ → ℕ → Row
blank base room = record { base = base; room = room; count = 0; next = 0 }

old_row : (rows : List Row) (r : Row) (p : ℕ) → p < length rows → row_at (rows ++ r ∷ []) p ≡ row_at rows p
old_row rows r p h = get_or_append_left rows (r ∷ []) no_row p h

new_row : (rows : List Row) (r : Row) (p : ℕ) → length rows ≡ p → row_at (rows ++ r ∷ []) p ≡ r
new_row rows r p h = get_or_push rows r no_row p h

-- what holds of each row, and of one behind them
each_more : (P : Row → Type 0) (rows : List Row) (r : Row) → ((p : ℕ) → p < length rows → P (row_at rows p)) → P r → (p : ℕ) → p < length (rows ++ r ∷ []) → P (row_at (rows ++ r ∷ []) p)
each_more P rows r all one p h =
    elim (cases_lt p (length rows)) [
      | inl l ↦ subst P (sym (old_row rows r p l)) (all p l)
      | inr l ↦ subst P (sym (new_row rows r p (let n = length_push rows r in omega arith))) one
    ]

pub none_laid : AreLaidOut [] [] 0
none_laid = record { rooms_are = refl; within = λ p h. absurd (omega (arith, h)); blank = λ p h. absurd (omega (arith, h)); apart = λ p q h g. absurd (omega (arith, g)) }

pub laid_more : (rooms : List ℕ) (i : ℕ) (rows : List Row) (base room : ℕ) → i < length rooms → get_or rooms i 0 ≡ room → AreLaidOut (take i rooms) rows base → AreLaidOut (take (i + 1) rooms) (rows ++ blank base room ∷ []) (base + room)
laid_more rooms i rows base room h e s = record {
  rooms_are = map_push (λ (r : Row). r.room) rows (blank base room) ∙ (ap (λ (l : List ℕ). l ++ room ∷ []) s.rooms_are ∙ (ap (λ (n : ℕ). take i rooms ++ n ∷ []) (sym e) ∙ sym (take_more rooms i 0 h)));
  within = each_more (λ r. r.base + r.room ≤ base + room) rows (blank base room) (λ p l. (let w = s.within p l in omega arith)) (omega arith);
  blank = each_more (λ r. (r.count ≡ 0) × (r.next ≡ 0)) rows (blank base room) s.blank (refl, refl);
  apart = λ p q l g. elim (cases_lt q (length rows)) [
    | inl k ↦
        let old_p = old_row rows (blank base room) p (omega (arith, l, k)) in
        let old_q = old_row rows (blank base room) q k in
        subst (λ (r : Row). r.base + r.room ≤ (row_at (rows ++ blank base room ∷ []) q).base) (sym old_p)
        (subst (λ (r : Row). (row_at rows p).base + (row_at rows p).room ≤ r.base) (sym old_q) (s.apart p q l k))
    | inr k ↦
        let last : length rows ≡ q = (let n = length_push rows (blank base room) in omega (arith, g, k, n)) in
        let less : p < length rows = omega (arith, l, last) in
        subst (λ (r : Row). r.base + r.room ≤ (row_at (rows ++ blank base room ∷ []) q).base) (sym (old_row rows (blank base room) p less))
        (subst (λ (r : Row). (row_at rows p).base + (row_at rows p).room ≤ r.base) (sym (new_row rows (blank base room) q last)) (s.within p less))
  ];
}

-- no picks of any
no_picks : (row : Row) (order : List ℕ) → row.count ≡ 0 → picks_of row order ≡ []
no_picks row order h = ap (λ (n : ℕ). window row.base n order) h

pub laid_sparse : (rooms : List ℕ) (rows : List Row) (slots : ℕ) (order spot : List ℕ) → AreLaidOut rooms rows slots → length order ≡ slots → length spot ≡ slots → AreSparse rows order spot
laid_sparse rooms rows slots order spot s o t = record {
  sparse = λ p h.
      let w = s.within p h in
      let none = (s.blank p h).0 in
      record {
        order_room = omega (arith, w, o);
        spot_room = omega (arith, w, t);
        few = omega (arith, none);
        below = λ i l. absurd (omega (arith, l, none));
        found = λ i l. absurd (omega (arith, l, none));
      };
  least = λ p h.
      let none = no_picks (row_at rows p) order (s.blank p h).0 in
      let first = (s.blank p h).1 in
      record {
        within = omega (arith, first);
        before = λ j l. absurd (omega (arith, l, first));
        left = λ l. ap (λ (ks : List ℕ). is_picked ks (row_at rows p).next) none;
      };
  apart = s.apart;
}

pub laid_none : (rooms : List ℕ) (rows : List Row) (slots : ℕ) (order : List ℕ) → AreLaidOut rooms rows slots → (p : ℕ) → made_at (made_by rows order) p ≡ []
laid_none rooms rows slots order s p =
    elim (cases_lt p (length rows)) [
      | inl l ↦ get_or-map (λ row. picks_of row order) rows p no_row [] l ∙ no_picks (row_at rows p) order (s.blank p l).0
      | inr l ↦ get_or_past (made_by rows order) p [] (let n = length-map rows (λ row. picks_of row order) in omega arith)
    ]

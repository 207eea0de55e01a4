-- Where the machine goes no further, the text leaves the language.
use Rattle.std.proofs.Common.{◌≡◌, ℕ, ◌+◌, ◌≤◌, ◌<◌, pred, Bool, true, false, nat_lt, List, [], ◌∷◌, ◌++◌, length, Option, Some, None, refl, sym, ap, subst, ◌∙◌, append_assoc, append-nil, arith}
use Rattle.std.proofs.lemmas.Bool.Decides.{nat_tests}
use Rattle.p21_parse.specs.Symbol.{Symbol, opening, closing}
use Rattle.p21_parse.specs.Nesting.{open_after, IsShallow}
use Rattle.p21_parse.specs.Begins.{Begins, StopsAt, DeepAt}
use Rattle.p21_parse.specs.Machine.{Item, Outcome, done, stuck, deep, after, open_in, goes_on, run}
use Rattle.p21_parse.proofs.Trace.{is_body, Calm, trace, Ends, Refused, same_open, stays_calm, stepped}
use Rattle.p21_parse.proofs.Finish.{finished}

-- Nothing that is still to come begins so.
abbrev pub Refuses : List Item → Symbol → Type 0
Refuses [] s = Unit {0}
Refuses (i ∷ stack) s = after i s ≡ None

-- At no symbol more than 32 are open, from the beginning of a text on.
abbrev pub Shallow : List Symbol → Type 0
Shallow front = IsShallow false 0 front

-- how many symbols are left where the machine ends
abbrev pub left_of : Outcome → ℕ
left_of (done n rest) = length rest
left_of (stuck left) = left
left_of (deep left) = left

pub left_at : (level : ℕ) (items : List Item) (back : List Symbol) (o : Outcome) → Ends level items back o → left_of o ≡ length back
left_at level [] back o e = ap left_of e
left_at level (i ∷ stack) [] o e = ap left_of e
left_at level (i ∷ stack) (s ∷ ss) o e = by_step (after i s) e
  where
    by_step : (a : Option (List Item)) → Refused a (open_in i level s) (length (s ∷ ss)) o → left_of o ≡ length (s ∷ ss)
    by_step None e = ap left_of e
    by_step (Some items) e = ap left_of e.1

-- what is known of a stack at which the machine is stuck
record StuckOn (items : List Item) (back : List Symbol) : Type 0 where
  item : Item
  stack : List Item
  is : items ≡ item ∷ stack
  refuses : (s : Symbol) (more : List Symbol) → back ≡ s ∷ more → Refuses items s

stuck_on : (level : ℕ) (items : List Item) (back : List Symbol) (o : Outcome) (left : ℕ) → Ends level items back o → o ≡ stuck left → StuckOn items back
stuck_on level [] back o left e is = absurd (let both : done level back ≡ stuck left = sym e ∙ is in cc)
stuck_on level (i ∷ stack) [] o left e is = record { item = i; stack = stack; is = refl; refuses = λ s more none. absurd cc }
stuck_on level (i ∷ stack) (s ∷ ss) o left e is = record {
  item = i;
  stack = stack;
  is = refl;
  refuses = λ t more here. let same : s ≡ t = cc in subst (λ (u : Symbol). after i u ≡ None) same (by_step (after i s) refl e);
}
  where
    by_step : (a : Option (List Item)) → after i s ≡ a → Refused a (open_in i level s) (length (s ∷ ss)) o → after i s ≡ None
    by_step None w e = w
    by_step (Some items) w e = absurd (let both : deep (length (s ∷ ss)) ≡ stuck left = sym e.1 ∙ is in cc)

-- where everything is read, nothing is to come
done_on : (level : ℕ) (items : List Item) (back : List Symbol) (o : Outcome) (n : ℕ) (rest : List Symbol) → Ends level items back o → o ≡ done n rest → (items ≡ []) × (back ≡ rest)
done_on level [] back o n rest e is = (refl, let both : done level back ≡ done n rest = sym e ∙ is in cc)
done_on level (i ∷ stack) [] o n rest e is = absurd (let both : stuck 0 ≡ done n rest = sym e ∙ is in cc)
done_on level (i ∷ stack) (s ∷ ss) o n rest e is = absurd (by_step (after i s) e)
  where
    by_step : (a : Option (List Item)) → Refused a (open_in i level s) (length (s ∷ ss)) o → ⊥
    by_step None e = let both : stuck (length (s ∷ ss)) ≡ done n rest = sym e ∙ is in absurd cc
    by_step (Some items) e = let both : deep (length (s ∷ ss)) ≡ done n rest = sym e.1 ∙ is in absurd cc

-- what is known of a stack at which the machine meets a parenthesis too many
record DeepOn (level : ℕ) (items : List Item) (back : List Symbol) : Type 0 where
  item : Item
  stack : List Item
  is : items ≡ item ∷ stack
  rest : List Symbol
  here : back ≡ opening ∷ rest
  next : List Item
  fits : after item opening ≡ Some next
  over : open_in item level opening ≡ 33

pub above : (m n : ℕ) → nat_lt m n ≡ true → m < n
above m n h = grind (arith, nat_tests)

level_over : (i : Item) (level : ℕ) (s : Symbol) → level ≤ 32 → 32 < open_in i level s → (s ≡ opening) × (open_in i level s ≡ 33)
level_over i level s h lt = by_symbol s (is_body i) (same_open i level s) lt
  where
    by_symbol : (s : Symbol) (b : Bool) → open_in i level s ≡ open_after b level s → 32 < open_in i level s → (s ≡ opening) × (open_in i level s ≡ 33)
    by_symbol opening false e lt = (refl, omega arith)
    by_symbol opening true e lt = absurd (omega arith)
    by_symbol closing b e lt = let is : open_in i level closing ≡ pred level = e in absurd (omega arith)
    by_symbol s b e lt = let is : open_in i level s ≡ level = e in absurd (omega arith)

deep_on : (level : ℕ) (items : List Item) (back : List Symbol) (o : Outcome) (left : ℕ) → level ≤ 32 → Ends level items back o → o ≡ deep left → DeepOn level items back
deep_on level [] back o left h e is = absurd (let both : done level back ≡ deep left = sym e ∙ is in cc)
deep_on level (i ∷ stack) [] o left h e is = absurd (let both : stuck 0 ≡ deep left = sym e ∙ is in cc)
deep_on level (i ∷ stack) (s ∷ ss) o left h e is = by_step (after i s) refl e
  where
    by_step : (a : Option (List Item)) → after i s ≡ a → Refused a (open_in i level s) (length (s ∷ ss)) o → DeepOn level (i ∷ stack) (s ∷ ss)
    by_step None w e = absurd (let both : stuck (length (s ∷ ss)) ≡ deep left = sym e ∙ is in cc)
    by_step (Some items) w e =
        let over = level_over i level s h (above 32 (open_in i level s) e.0) in
        record {
          item = i;
          stack = stack;
          is = refl;
          rest = ss;
          here = ap (λ (s : Symbol). s ∷ ss) over.0;
          next = items;
          fits = subst (λ (s : Symbol). after i s ≡ Some items) over.0 w;
          over = subst (λ (s : Symbol). open_in i level s ≡ 33) over.0 over.1;
        }

-- A text in which the machine is stuck is none of the language, and neither is what was read of it.
pub record Stopped (Whole : List Symbol → Type 0) (ss : List Symbol) (left : ℕ) : Type 0 where
  pub stops : StopsAt Whole Shallow ss left
  pub open_end : Whole stops.front → ⊥
  pub not_whole : Whole ss → ⊥

module _ (Whole : List Symbol → Type 0) (start : List Item) (calm : Calm false start)
    (sound : (m n : ℕ) (ss : List Symbol) → run m 0 start ss ≡ done n [] → Whole ss)
    (complete : (ss : List Symbol) → Whole ss → (tall : ℕ) × ((m : ℕ) → tall ≤ m → run m 0 start ss ≡ done 0 [])) where
  -- A front that leads to other items begins a text.
  pub lives : (low level : ℕ) (items : List Item) (behind : Bool) (front : List Symbol) → Calm behind items
      → ((m : ℕ) → low ≤ m → (more : List Symbol) → run m 0 start (front ++ more) ≡ run m level items more) → Begins Whole front
  lives low level items behind front c leads =
      let f = finished behind items c in
      let m : ℕ = low + (level + length items + 1) in
      let r = f.runs m level (omega arith) in
      (f.more, f.real, sound m r.0 (front ++ f.more) (leads m (omega arith) f.more ∙ r.1))

  stops_here : (m level : ℕ) (items : List Item) (s : Symbol) (more : List Symbol) → Refuses items s → run m level items (s ∷ more) ≡ done 0 [] → ⊥
  stops_here m level [] s more r e = absurd cc
  stops_here m level (i ∷ stack) s more r e =
      let was : goes_on m None (open_in i level s) (length (s ∷ more)) (λ items. run m (open_in i level s) (items ++ stack) more) ≡ done 0 []
      = subst (λ (o : Option (List Item)). goes_on m o (open_in i level s) (length (s ∷ more)) (λ items. run m (open_in i level s) (items ++ stack) more) ≡ done 0 []) r e in
      absurd (let both : stuck (length (s ∷ more)) ≡ done 0 [] = was in cc)

  -- With a symbol that what is to come refuses, it does not.
  pub dies : (low level : ℕ) (items : List Item) (front : List Symbol)
      → ((m : ℕ) → low ≤ m → (more : List Symbol) → run m 0 start (front ++ more) ≡ run m level items more) → (s : Symbol) → Refuses items s → Begins Whole (front ++ s ∷ []) → ⊥
  dies low level items front leads s r b =
      let c = complete ((front ++ s ∷ []) ++ b.0) b.2 in
      let m : ℕ = low + c.0 in
      let run_done : run m 0 start (front ++ s ∷ b.0) ≡ done 0 [] = subst (λ (ss : List Symbol). run m 0 start ss ≡ done 0 []) (append_assoc front (s ∷ []) b.0) (c.1 m (omega arith)) in
      stops_here m level items s b.0 r (sym (leads m (omega arith) (s ∷ b.0)) ∙ run_done)

  -- where the machine is not done, it does not come to the end either
  pub unfinished : (low level : ℕ) (i : Item) (stack : List Item) (front : List Symbol)
      → ((m : ℕ) → low ≤ m → (more : List Symbol) → run m 0 start (front ++ more) ≡ run m level (i ∷ stack) more) → Whole front → ⊥
  unfinished low level i stack front leads w =
      let c = complete front w in
      let m : ℕ = low + c.0 in
      let at_end : run m level (i ∷ stack) [] ≡ done 0 [] = sym (leads m (omega arith) []) ∙ ap (run m 0 start) (append-nil front) ∙ c.1 m (omega arith) in
      absurd (let both : stuck 0 ≡ done 0 [] = at_end in cc)

  never_ends : (m level : ℕ) (items : List Item) (back : List Symbol) → StuckOn items back → run m level items back ≡ done 0 [] → ⊥
  never_ends m level items [] u e = absurd (let both : stuck 0 ≡ done 0 [] = sym (ap (λ (items : List Item). run m level items []) u.is) ∙ e in cc)
  never_ends m level items (s ∷ more) u e = stops_here m level items s more (u.refuses s more refl) e

  pub stopped : (ss : List Symbol) (left : ℕ) → run 32 0 start ss ≡ stuck left → Stopped Whole ss left
  stopped ss left e =
      let t = trace ss false 0 start calm (omega arith) in
      let u = stuck_on t.level t.items t.back (run 32 0 start ss) left t.ends e in
      record {
        stops = record {
          front = t.front;
          back = t.back;
          parts = t.parts;
          count = sym (left_at t.level t.items t.back (run 32 0 start ss) t.ends) ∙ ap left_of e;
          begins = lives 32 t.level t.items t.behind_front t.front t.calm t.leads;
          within = t.shallow;
          ends = λ s more here. dies 32 t.level t.items t.front t.leads s (u.refuses s more here);
        };
        open_end = unfinished 32 t.level u.item u.stack t.front (subst (λ (items : List Item). (m : ℕ) → 32 ≤ m → (more : List Symbol) → run m 0 start (t.front ++ more) ≡ run m t.level items more) u.is t.leads);
        not_whole = λ w.
            let c = complete ss w in
            let m : ℕ = 32 + c.0 in
            never_ends m t.level t.items t.back u (sym (t.leads m (omega arith) t.back) ∙ ap (run m 0 start) (sym t.parts) ∙ c.1 m (omega arith));
      }

  -- the same where everything is read and symbols are left
  pub stopped_late : (ss rest : List Symbol) (n : ℕ) → 0 < length rest → run 32 0 start ss ≡ done n rest → StopsAt Whole Shallow ss (length rest) × (Whole ss → ⊥)
  stopped_late ss rest n some e =
      let t = trace ss false 0 start calm (omega arith) in
      let u = done_on t.level t.items t.back (run 32 0 start ss) n rest t.ends e in (
        record {
          front = t.front;
          back = t.back;
          parts = t.parts;
          count = ap length u.1;
          begins = lives 32 t.level t.items t.behind_front t.front t.calm t.leads;
          within = t.shallow;
          ends = λ s more here. dies 32 t.level t.items t.front t.leads s (subst (λ (items : List Item). Refuses items s) (sym u.0) tt);
        },
        λ w.
            let c = complete ss w in
            let m : ℕ = 32 + c.0 in
            let at_end : run m t.level [] rest ≡ done 0 [] = subst (λ (items : List Item). run m t.level items rest ≡ done 0 []) u.0 (subst (λ (back : List Symbol). run m t.level t.items back ≡ done 0 []) u.1
            (sym (t.leads m (omega arith) t.back) ∙ ap (run m 0 start) (sym t.parts) ∙ c.1 m (omega arith))) in
            let none : rest ≡ [] = cc in
            let zero_long : length rest ≡ 0 = ap length none in
            absurd (omega arith),
      )

  -- where a parenthesis is too deep
  pub deepened : (ss : List Symbol) (left : ℕ) → run 32 0 start ss ≡ deep left → DeepAt Whole Shallow ss left
  deepened ss left e =
      let t = trace ss false 0 start calm (omega arith) in
      let u = deep_on t.level t.items t.back (run 32 0 start ss) left t.bound t.ends e in
      let top : Calm t.behind_front (u.item ∷ u.stack) = subst (λ (items : List Item). Calm t.behind_front items) u.is t.calm in
      record {
        front = t.front;
        back = u.rest;
        parts = t.parts ∙ ap (λ (back : List Symbol). t.front ++ back) u.here;
        count = ap length (sym u.here) ∙ sym (left_at t.level t.items t.back (run 32 0 start ss) t.ends) ∙ ap left_of e;
        begins = lives 33 33 (u.next ++ u.stack) false (t.front ++ opening ∷ []) (stays_calm t.behind_front u.item u.stack opening u.next top u.fits)
            (λ m le more.
            ap (run m 0 start) (append_assoc t.front (opening ∷ []) more) ∙ t.leads m (omega arith) (opening ∷ more) ∙ ap (λ (items : List Item). run m t.level items (opening ∷ more)) u.is
            ∙ stepped m (open_in u.item t.level opening) (length (opening ∷ more)) u.next (after u.item opening) (λ items. run m (open_in u.item t.level opening) (items ++ u.stack) more) u.fits (omega (arith, u.over))
            ∙ ap (λ (k : ℕ). run m k (u.next ++ u.stack) more) u.over);
        within = t.shallow;
        over = sym (t.flag opening) ∙ ap (λ (b : Bool). open_after b t.level opening) top.0 ∙ sym (same_open u.item t.level opening) ∙ u.over;
      }

-- What is read to its end is shallow.
pub read_shallow : (start : List Item) (ss : List Symbol) (n : ℕ) → Calm false start → run 32 0 start ss ≡ done n [] → Shallow ss
read_shallow start ss n calm e =
    let t = trace ss false 0 start calm (omega arith) in
    let u = done_on t.level t.items t.back (run 32 0 start ss) n [] t.ends e in
    subst Shallow (sym (t.parts ∙ ap (λ (back : List Symbol). t.front ++ back) u.1 ∙ append-nil t.front)) t.shallow

-- How far items are read, and what is still to come there.
use Rattle.std.proofs.Common.{◌≡◌, ℕ, ◌≤◌, Bool, true, false, cond, nat_lt, List, [], ◌∷◌, ◌++◌, length, Option, Some, None, codes, refl, sym, ap, subst, ◌∙◌, arith}
use Rattle.std.specs.List.{AllByRecursion}
use Rattle.std.specs.Str.{bytes_eq}
use Rattle.std.proofs.lemmas.Bool.Decides.{nat_tests}
use Rattle.p21_lex.specs.declared.token.TokenKind.TheVariants.{Text, Open, Close, Semicolon}
use Rattle.p21_parse.specs.Symbol.{Symbol, value, name, keyword, dashed, opening, closing, comma, semicolon, equals}
use Rattle.p21_parse.specs.Nesting.{is_equals, open_after, open_behind, IsShallow}
use Rattle.p21_parse.specs.Begins.{IsSymbol}
use Rattle.p21_parse.specs.Machine.{Item, fixed, parameter, parameter_list, more_parameters, schema, more_schemas, part, more_parts, behind_name, body, instances, entries, entry_or_end, Outcome, done, stuck, deep, same, on, begun, entry_or, after, open_in, goes_on, run}
use Rattle.p21_parse.proofs.Complete.{step}
use Rattle.p21_parse.proofs.Sound.{same-is, not_above}

abbrev pub is_body : Item → Bool
is_body body = true
is_body _ = false

-- A fixed symbol is a token's, and not the mark behind a name.
abbrev pub Closable : Item → Type 0
Closable (fixed x) = (same x x ≡ true) × IsSymbol x × (is_equals x ≡ false)
Closable _ = Unit {0}

abbrev pub Quiet : Item → Type 0
Quiet i = (is_body i ≡ false) × Closable i

-- An instance's body stands on the stack exactly behind the mark, on the top.
abbrev pub Calm : Bool → List Item → Type 0
Calm behind [] = Unit {0}
Calm behind (i ∷ stack) = (behind ≡ is_body i) × Closable i × AllByRecursion Quiet stack

quiet : (stack : List Item) → AllByRecursion Quiet stack → Calm false stack
quiet [] q = tt
quiet (i ∷ stack) q = (sym q.0.0, q.0.1, q.1)

pub fixed_opening : Quiet (fixed opening)
fixed_opening = (refl, (refl, (Open, 40 ∷ [], refl, refl), refl))

pub fixed_closing : Quiet (fixed closing)
fixed_closing = (refl, (refl, (Close, 41 ∷ [], refl, refl), refl))

pub fixed_semicolon : Quiet (fixed semicolon)
fixed_semicolon = (refl, (refl, (Semicolon, 59 ∷ [], refl, refl), refl))

-- what is said of the stack behind a symbol that fits
abbrev CalmAfter : Bool → List Item → Option (List Item) → Type 0
CalmAfter behind stack None = Unit {0}
CalmAfter behind stack (Some items) = Calm behind (items ++ stack)

module _ (stack : List Item) (q : AllByRecursion Quiet stack) where
  typed_calm : Calm false (fixed opening ∷ parameter ∷ fixed closing ∷ stack)
  typed_calm = (refl, fixed_opening.1, ((refl, tt), (fixed_closing, q)))

  begun_calm : (s : Symbol) → CalmAfter (is_equals s) stack (begun s [])
  begun_calm (value kind bytes) = quiet stack q
  begun_calm (name number) = quiet stack q
  begun_calm opening = (refl, tt, q)
  begun_calm (keyword word) = typed_calm
  begun_calm (dashed word) = tt
  begun_calm closing = tt
  begun_calm comma = tt
  begun_calm semicolon = tt
  begun_calm equals = tt

  listed_calm : (s : Symbol) → CalmAfter (is_equals s) stack (after parameter_list s)
  listed_calm (value kind bytes) = (refl, tt, q)
  listed_calm (name number) = (refl, tt, q)
  listed_calm opening = (refl, tt, ((refl, tt), q))
  listed_calm (keyword word) = (refl, fixed_opening.1, ((refl, tt), (fixed_closing, ((refl, tt), q))))
  listed_calm closing = quiet stack q
  listed_calm (dashed word) = tt
  listed_calm comma = tt
  listed_calm semicolon = tt
  listed_calm equals = tt

  fixed_calm : (x s : Symbol) → is_equals x ≡ false → (b : Bool) → same x s ≡ b → CalmAfter (is_equals s) stack (on b [])
  fixed_calm x s flat false e = tt
  fixed_calm x s flat true e = subst (λ (b : Bool). Calm b stack) (sym flat ∙ ap is_equals (same-is x s e)) (quiet stack q)

  word_calm : (b : Bool) → CalmAfter false stack (on b [])
  word_calm true = quiet stack q
  word_calm false = tt

  entry_calm : (b : Bool) → CalmAfter false stack (entry_or b)
  entry_calm true = (refl, tt, q)
  entry_calm false = (refl, fixed_opening.1, ((refl, tt), ((refl, tt), (fixed_semicolon, ((refl, tt), q)))))

  -- Each step keeps the stack calm.
  calm_step : (i : Item) (s : Symbol) → Closable i → CalmAfter (is_equals s) stack (after i s)
  calm_step (fixed x) s c = fixed_calm x s c.2 (same x s) refl
  calm_step parameter s c = begun_calm s
  calm_step parameter_list s c = listed_calm s
  calm_step more_parameters comma c = (refl, tt, ((refl, tt), q))
  calm_step more_parameters closing c = quiet stack q
  calm_step schema (value Text bytes) c = quiet stack q
  calm_step more_schemas comma c = (refl, tt, ((refl, tt), q))
  calm_step more_schemas closing c = quiet stack q
  calm_step part (keyword word) c = (refl, fixed_opening.1, ((refl, tt), q))
  calm_step more_parts (keyword word) c = (refl, fixed_opening.1, ((refl, tt), ((refl, tt), q)))
  calm_step more_parts closing c = quiet stack q
  calm_step behind_name equals c = (refl, tt, q)
  calm_step body (keyword word) c = (refl, fixed_opening.1, ((refl, tt), q))
  calm_step body opening c = (refl, tt, ((refl, tt), q))
  calm_step instances (name number) c = (refl, tt, (fixed_semicolon, ((refl, tt), q)))
  calm_step instances (keyword word) c = word_calm (bytes_eq (codes "ENDSEC") word)
  calm_step entries (keyword word) c = entry_calm (bytes_eq (codes "ENDSEC") word)
  calm_step entry_or_end semicolon c = quiet stack q
  calm_step entry_or_end opening c = (refl, tt, ((refl, tt), (fixed_semicolon, ((refl, tt), q))))
  calm_step i s c = tt

pub same_open : (i : Item) (n : ℕ) (s : Symbol) → open_in i n s ≡ open_after (is_body i) n s
same_open body n opening = refl
same_open i n opening = refl
same_open i n closing = refl
same_open i n s = refl

-- what the machine answers where it goes no further
abbrev pub Refused : Option (List Item) → ℕ → ℕ → Outcome → Type 0
Refused None n left o = o ≡ stuck left
Refused (Some items) n left o = (nat_lt 32 n ≡ true) × (o ≡ deep left)

abbrev pub Ends : ℕ → List Item → List Symbol → Outcome → Type 0
Ends n [] back o = o ≡ done n back
Ends n (i ∷ stack) [] o = o ≡ stuck 0
Ends n (i ∷ stack) (s ∷ ss) o = Refused (after i s) (open_in i n s) (length (s ∷ ss)) o

-- The front is read and leads from one stack to another; there the machine goes no further.
pub record Trace (behind : Bool) (n : ℕ) (stack : List Item) (ss : List Symbol) : Type 0 where
  pub front : List Symbol
  pub back : List Symbol
  pub parts : ss ≡ front ++ back
  pub level : ℕ
  pub items : List Item
  pub behind_front : Bool
  pub calm : Calm behind_front items
  pub leads : (m : ℕ) → 32 ≤ m → (more : List Symbol) → run m n stack (front ++ more) ≡ run m level items more
  pub shallow : IsShallow behind n front
  pub opens : open_behind behind n front ≡ level
  pub flag : (s : Symbol) → open_after behind_front level s ≡ open_behind behind n (front ++ s ∷ [])
  pub bound : level ≤ 32
  pub ends : Ends level items back (run 32 n stack ss)

not_below : (m n : ℕ) → n ≤ m → nat_lt m n ≡ false
not_below m n h = grind (arith, nat_tests)

-- one step on
pub stepped : (m n left : ℕ) (items : List Item) (o : Option (List Item)) (rest : List Item → Outcome) → o ≡ Some items → n ≤ m → goes_on m o n left rest ≡ rest items
stepped m n left items o rest e h = ap (λ (o : Option (List Item)). goes_on m o n left rest) e ∙ step m n left (rest items) h

module _ (behind : Bool) (n : ℕ) (i : Item) (stack : List Item) (s : Symbol) (ss : List Symbol) (c : Calm behind (i ∷ stack)) (h : n ≤ 32) where
  here : Refused (after i s) (open_in i n s) (length (s ∷ ss)) (run 32 n (i ∷ stack) (s ∷ ss)) → Trace behind n (i ∷ stack) (s ∷ ss)
  here e = record {
    front = [];
    back = s ∷ ss;
    parts = refl;
    level = n;
    items = i ∷ stack;
    behind_front = behind;
    calm = c;
    leads = λ m le more. refl;
    shallow = tt;
    opens = refl;
    flag = λ s. refl;
    bound = h;
    ends = e;
  }

  there : (items : List Item) → after i s ≡ Some items → open_in i n s ≤ 32 → Trace (is_equals s) (open_in i n s) (items ++ stack) ss → Trace behind n (i ∷ stack) (s ∷ ss)
  there items e le t =
      let same : open_in i n s ≡ open_after behind n s = same_open i n s ∙ ap (λ (b : Bool). open_after b n s) (sym c.0) in
      record {
        front = s ∷ t.front;
        back = t.back;
        parts = ap (λ (more : List Symbol). s ∷ more) t.parts;
        level = t.level;
        items = t.items;
        behind_front = t.behind_front;
        calm = t.calm;
        leads = λ m lm more. stepped m (open_in i n s) (length (s ∷ (t.front ++ more))) items (after i s) (λ items. run m (open_in i n s) (items ++ stack) (t.front ++ more)) e (omega (arith, le, lm)) ∙ t.leads m lm more;
        shallow = subst (λ (k : ℕ). (k ≤ 32) × IsShallow (is_equals s) k t.front) same (le, t.shallow);
        opens = subst (λ (k : ℕ). open_behind (is_equals s) k t.front ≡ t.level) same t.opens;
        flag = λ u. subst (λ (k : ℕ). open_after t.behind_front t.level u ≡ open_behind (is_equals s) k (t.front ++ u ∷ [])) same (t.flag u);
        bound = t.bound;
        ends = subst (λ (o : Outcome). Ends t.level t.items t.back o) (sym (stepped 32 (open_in i n s) (length (s ∷ ss)) items (after i s) (λ items. run 32 (open_in i n s) (items ++ stack) ss) e le)) t.ends;
      }

  by_depth : (items : List Item) → after i s ≡ Some items → ((items : List Item) → after i s ≡ Some items → open_in i n s ≤ 32 → Trace (is_equals s) (open_in i n s) (items ++ stack) ss) → (b : Bool) → nat_lt 32 (open_in i n s) ≡ b → Trace behind n (i ∷ stack) (s ∷ ss)
  by_depth items e further true w =
      here (subst (λ (o : Option (List Item)). Refused o (open_in i n s) (length (s ∷ ss)) (goes_on 32 o (open_in i n s) (length (s ∷ ss)) (λ items. run 32 (open_in i n s) (items ++ stack) ss))) (sym e)
      (w, ap (λ (b : Bool). cond b (deep (length (s ∷ ss))) (run 32 (open_in i n s) (items ++ stack) ss)) w))
  by_depth items e further false w =
      let le : open_in i n s ≤ 32 = not_above 32 (open_in i n s) w in
      there items e le (further items e le)

  by_step : (o : Option (List Item)) → after i s ≡ o → ((items : List Item) → after i s ≡ Some items → open_in i n s ≤ 32 → Trace (is_equals s) (open_in i n s) (items ++ stack) ss) → Trace behind n (i ∷ stack) (s ∷ ss)
  by_step None e further =
      here (subst (λ (o : Option (List Item)). Refused o (open_in i n s) (length (s ∷ ss)) (goes_on 32 o (open_in i n s) (length (s ∷ ss)) (λ items. run 32 (open_in i n s) (items ++ stack) ss))) (sym e) refl)
  by_step (Some items) e further = by_depth items e further (nat_lt 32 (open_in i n s)) refl

pub stays_calm : (behind : Bool) (i : Item) (stack : List Item) (s : Symbol) (items : List Item) → Calm behind (i ∷ stack) → after i s ≡ Some items → Calm (is_equals s) (items ++ stack)
stays_calm behind i stack s items c e = subst (λ (o : Option (List Item)). CalmAfter (is_equals s) stack o) e (calm_step stack c.2 i s c.1)

pub trace : (ss : List Symbol) (behind : Bool) (n : ℕ) (stack : List Item) → Calm behind stack → n ≤ 32 → Trace behind n stack ss
trace ss behind n [] c h = record {
  front = [];
  back = ss;
  parts = refl;
  level = n;
  items = [];
  behind_front = behind;
  calm = c;
  leads = λ m le more. refl;
  shallow = tt;
  opens = refl;
  flag = λ s. refl;
  bound = h;
  ends = refl;
}
trace [] behind n (i ∷ stack) c h = record {
  front = [];
  back = [];
  parts = refl;
  level = n;
  items = i ∷ stack;
  behind_front = behind;
  calm = c;
  leads = λ m le more. refl;
  shallow = tt;
  opens = refl;
  flag = λ s. refl;
  bound = h;
  ends = refl;
}
trace (s ∷ ss) behind n (i ∷ stack) c h =
    by_step behind n i stack s ss c h (after i s) refl (λ items e le. trace ss (is_equals s) (open_in i n s) (items ++ stack) (stays_calm behind i stack s items c e) le)

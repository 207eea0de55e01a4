-- Names of instances before the place where the machine ends.
use Rattle.std.proofs.Common.{◌≡◌, ℕ, suc, ◌≤◌, Bool, true, false, cond, nat_lt, List, [], ◌∷◌, ◌++◌, length, Option, Some, None, refl, sym, ap, subst, ◌∙◌, append_assoc, length-append, arith}
use Rattle.std.specs.List.{AllByRecursion}
use Rattle.p21_lex.specs.declared.token.Token.{Token}
use Rattle.p21_lex.specs.Reading.{IsToken}
use Rattle.p21_parse.specs.Symbol.{Symbol, symbols, text_of}
use Rattle.p21_parse.specs.Nesting.{is_equals, open_after, IsShallow}
use Rattle.p21_parse.specs.Begins.{IsSymbol, Begins}
use Rattle.p21_parse.specs.Machine.{Item, done, deep, goes_on, after, open_in, run}
use Rattle.p21_parse.proofs.Trace.{Calm, trace}
use Rattle.p21_parse.proofs.Leaves.{Shallow, left_of, left_at, lives}
use Rattle.p21_parse.proofs.Finish.{real_append}

-- The symbols of tokens are those of tokens.
pub symbols_real : (bytes : List ℕ) (tokens : List Token) → AllByRecursion (IsToken bytes) tokens → AllByRecursion IsSymbol (symbols bytes tokens)
symbols_real bytes [] h = tt
symbols_real bytes (t ∷ ts) h = ((t.kind, text_of bytes t, h.0.spelled, refl), symbols_real bytes ts h.1)

-- a front with no more symbols behind it is the longer one
pub longer_front : (a b c d : List Symbol) → a ++ b ≡ c ++ d → length b ≤ length d → (mid : List Symbol) × (a ≡ c ++ mid) × (d ≡ mid ++ b)
longer_front a b [] d e h = (a, refl, sym e)
longer_front [] b (s ∷ c) d e h = let long : length b ≡ suc (length (c ++ d)) = ap length e in absurd (omega (arith, length-append c d))
longer_front (s ∷ a) b (t ∷ c) d e h =
    let head : s ≡ t = cc in
    let tail : a ++ b ≡ c ++ d = cc in
    let m = longer_front a b c d tail h in
    let front : a ≡ c ++ m.0 = m.1 in
    (m.0, cc, m.2)

pub shallow_front : (behind : Bool) (n : ℕ) (a b : List Symbol) → IsShallow behind n (a ++ b) → IsShallow behind n a
shallow_front behind n [] b h = tt
shallow_front behind n (s ∷ a) b h = (h.0, shallow_front (is_equals s) (open_after behind n s) a b h.1)

pub real_back : (a b : List Symbol) → AllByRecursion IsSymbol (a ++ b) → AllByRecursion IsSymbol b
real_back [] b h = h
real_back (s ∷ a) b h = real_back a b h.1

pub real_front : (a b : List Symbol) → AllByRecursion IsSymbol (a ++ b) → AllByRecursion IsSymbol a
real_front [] b h = tt
real_front (s ∷ a) b h = (h.0, real_front a b h.1)

-- A front of what begins a text begins it.
pub begins_front : (Whole : List Symbol → Type 0) (a b : List Symbol) → AllByRecursion IsSymbol b → Begins Whole (a ++ b) → Begins Whole a
begins_front Whole a b h w = (b ++ w.0, real_append b w.0 h w.1, subst Whole (append_assoc a b w.0) w.2)

module _ (Whole : List Symbol → Type 0) (start : List Item) (calm : Calm false start)
    (sound : (m n : ℕ) (ss : List Symbol) → run m 0 start ss ≡ done n [] → Whole ss)
    (complete : (ss : List Symbol) → Whole ss → (tall : ℕ) × ((m : ℕ) → tall ≤ m → run m 0 start ss ≡ done 0 [])) where
  -- A symbol before the place where the machine ends begins a text with what stands before it, and that is shallow.
  pub read_at : (ss front back : List Symbol) (s : Symbol) → AllByRecursion IsSymbol ss → ss ≡ front ++ s ∷ back → left_of (run 32 0 start ss) ≤ length back → Begins Whole (front ++ s ∷ []) × Shallow front
  read_at ss front back s real e le =
      let t = trace ss false 0 start calm (omega arith) in
      let count = left_at t.level t.items t.back (run 32 0 start ss) t.ends in
      let both : t.front ++ t.back ≡ (front ++ s ∷ []) ++ back = sym t.parts ∙ e ∙ sym (append_assoc front (s ∷ []) back) in
      let m = longer_front t.front t.back (front ++ s ∷ []) back both (omega (arith, count, le)) in
      let back_real : AllByRecursion IsSymbol back = real_back (front ++ s ∷ []) back (subst (AllByRecursion IsSymbol) (e ∙ sym (append_assoc front (s ∷ []) back)) real) in
      let mid_real : AllByRecursion IsSymbol m.0 = real_front m.0 t.back (subst (AllByRecursion IsSymbol) m.2 back_real) in
      let alive = lives Whole start calm sound complete 32 t.level t.items t.behind_front t.front t.calm t.leads in (
        begins_front Whole (front ++ s ∷ []) m.0 mid_real (subst (Begins Whole) m.1 alive),
        shallow_front false 0 front (s ∷ []) (shallow_front false 0 (front ++ s ∷ []) m.0 (subst Shallow m.1 t.shallow)),
      )

-- The machine ends no earlier than it begins.
pub left_within : (ss : List Symbol) (m n : ℕ) (stack : List Item) → left_of (run m n stack ss) ≤ length ss
left_within ss m n [] = let h : length ss ≤ length ss = omega arith in h
left_within [] m n (i ∷ stack) = omega arith
left_within (s ∷ ss) m n (i ∷ stack) = by_step (after i s) (λ items. left_within ss m (open_in i n s) (items ++ stack))
  where
    by_step : (o : Option (List Item)) → ((items : List Item) → left_of (run m (open_in i n s) (items ++ stack) ss) ≤ length ss)
        → left_of (goes_on m o (open_in i n s) (length (s ∷ ss)) (λ items. run m (open_in i n s) (items ++ stack) ss)) ≤ length (s ∷ ss)
    by_step None further = omega arith
    by_step (Some items) further = by_depth (nat_lt m (open_in i n s))
      where
        by_depth : (b : Bool) → left_of (cond b (deep (length (s ∷ ss))) (run m (open_in i n s) (items ++ stack) ss)) ≤ length (s ∷ ss)
        by_depth true = omega arith
        by_depth false = omega (arith, further items)

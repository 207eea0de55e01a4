-- A text holds one script at most, or is refused for one reason.
use Rattle.std.proofs.Common.{◌≡◌, ℕ, suc, nat_eq, false, List, [], ◌∷◌, ◌++◌, length, Result, Ok, Err, refl, sym, ap, subst, ◌∙◌, append_assoc, append-nil, inl, inr, ◌↔◌, arith}
use Rattle.std.specs.List.{AllByRecursion, IsDistinct}
use Rattle.p21_lex.specs.declared.error.LexErr.{LexErr}
use Rattle.p21_lex.specs.declared.error.LexErr.TheVariants as lexes
use Rattle.p21_lex.specs.declared.token.Token.{Token}
use Rattle.p21_lex.specs.Reading.{Reads}
use Rattle.p21_lex.specs.Refusal.{IsRefused}
use Rattle.p21_lex.specs.Tokens.{tokens_of}
use Rattle.p21_parse.specs.Symbol.{Symbol, name, opening, symbols}
use Rattle.p21_parse.specs.Spell.{spell_all}
use Rattle.p21_parse.specs.Nesting.{IsShallow}
use Rattle.p21_parse.specs.Begins.{IsSymbol, Begins}
use Rattle.p21_parse.specs.Places.{place_of}
use Rattle.p21_parse.proofs.Named.{symbols_real, shallow_front}
use Rattle.p21_parse.proofs.Fronts.{shallow_open, Longest, one_longest}
use Rattle.p21_parse.proofs.Unique.{same_all}
use Rattle.edit_script.specs.declared.error.ScriptErr.{ScriptErr}
use Rattle.edit_script.specs.declared.error.ScriptErr.TheVariants.{Lex, Syntax, TooDeep, TooMany, AtOrder, Repeated, Attribute, NoMemory}
use Rattle.edit_script.specs.Script.{EditTree, edit_word, moment_of, spell_edit, IsScript, IsFewScript, AreAllowed}
use Rattle.edit_script.specs.Refused.{IsCounted, Cause, syntax, too_deep, too_many}
use Rattle.edit_script.specs.Refused as refused
use Rattle.edit_script.specs.Edits.{EditModel, numbers_of, IsRepeat, IsSound, IsFault, AreSound, IsFirstFault}
use Rattle.edit_script.specs.Reads.{IsText, HasRefusal, Holds, HasFault, Refuses}
use Rattle.edit_script.proofs.Calm.{shallow_edits}
use Rattle.edit_script.proofs.Spelled.{same_edit}

-- ---- one refusal of symbols

abbrev Shallow : List Symbol → Type 0
Shallow front = IsShallow false 0 front

narrow : (a b : List Symbol) → Shallow (a ++ b) → Shallow a
narrow a b s = shallow_front false 0 a b s

module _ (most : ℕ) (ss : List Symbol) where
  -- what a refusal says of the longest front within the limits and what follows it
  abbrev Says : Cause → ℕ → List Symbol → List Symbol → Type 0
  Says syntax left front back = (left ≡ length back) × ((s : Symbol) (more : List Symbol) → back ≡ s ∷ more → Begins IsScript (front ++ s ∷ []) → ⊥) × (IsScript ss → ⊥)
  Says too_deep left front back = (more : List Symbol) × (back ≡ opening ∷ more) × (left ≡ length back) × Begins IsScript (front ++ opening ∷ [])
  Says too_many left front back = (s : Symbol) × (more : List Symbol) × (back ≡ s ∷ more) × (left ≡ length back) × Begins IsScript (front ++ s ∷ []) × IsCounted s

  record Told (cause : Cause) (left : ℕ) : Type 0 where
    front : List Symbol
    back : List Symbol
    longest : Longest (IsFewScript most) Shallow ss front back
    says : Says cause left front back

  script_of : (front : List Symbol) → Begins (IsFewScript most) front → Begins IsScript front
  script_of front b = (b.0, b.1, (b.2.0, b.2.1, b.2.3))

  told : (cause : Cause) (left : ℕ) → refused.Refuses most cause ss left → Told cause left
  told syntax left x =
      let s = x.0 in
      record {
        front = s.front;
        back = s.back;
        longest = record { parts = s.parts; good = (s.within.few, s.within.shallow); ends = λ u more e good. s.ends u more e (script_of (s.front ++ u ∷ []) good.0) };
        says = (sym s.count, s.ends, x.1);
      }
  told too_deep left d = record {
    front = d.front;
    back = opening ∷ d.back;
    longest = record {
      parts = d.parts;
      good = (d.within.few, d.within.shallow);
      ends = λ u more e good.
          let same : u ≡ opening = cc in
          let shallow : Shallow (d.front ++ opening ∷ []) = subst (λ (u : Symbol). Shallow (d.front ++ u ∷ [])) same good.1 in
          let le = shallow_open false 0 (d.front ++ opening ∷ []) (omega arith) shallow in
          absurd (omega (arith, d.over));
    };
    says = (d.back, refl, sym d.count, d.begins);
  }
  told too_many left m = record {
    front = m.front;
    back = m.symbol ∷ m.back;
    longest = record {
      parts = m.parts;
      good = (m.within.few, m.within.shallow);
      ends = λ u more e good. let same : u ≡ m.symbol = cc in m.over (subst (λ (u : Symbol). Begins (IsFewScript most) (m.front ++ u ∷ [])) same good.0);
    };
    says = (m.symbol, m.back, refl, sym m.count, m.begins, m.counted);
  }

  not_opening : (s : Symbol) → s ≡ opening → IsCounted s → ⊥
  not_opening s e (inl h) = let both : opening ≡ edit_word = sym e ∙ h in absurd cc
  not_opening s e (inr h) = let both : opening ≡ name h.0 = sym e ∙ h.1 in absurd cc

  agree : (c d : Cause) (k l : ℕ) (front back : List Symbol) → Says c k front back → Says d l front back → (c ≡ d) × (k ≡ l)
  agree syntax syntax k l front back x y = (refl, x.0 ∙ sym y.0)
  agree syntax too_deep k l front back x y = absurd (x.1 opening y.0 y.1 y.3)
  agree syntax too_many k l front back x y = absurd (x.1 y.0 y.1 y.2 y.4)
  agree too_deep syntax k l front back x y = absurd (y.1 opening x.0 x.1 x.3)
  agree too_deep too_deep k l front back x y = (refl, x.2 ∙ sym y.2)
  agree too_deep too_many k l front back x y = absurd (let both : y.0 ∷ y.1 ≡ opening ∷ x.0 = sym y.2 ∙ x.1 in let same : y.0 ≡ opening = cc in not_opening y.0 same y.5)
  agree too_many syntax k l front back x y = absurd (y.1 x.0 x.1 x.2 x.4)
  agree too_many too_deep k l front back x y = absurd (let both : x.0 ∷ x.1 ≡ opening ∷ y.0 = sym x.2 ∙ y.1 in let same : x.0 ≡ opening = cc in not_opening x.0 same x.5)
  agree too_many too_many k l front back x y = (refl, x.3 ∙ sym y.3)

  module _ (real : AllByRecursion IsSymbol ss) where
    pub one_refusal : (c d : Cause) (k l : ℕ) → refused.Refuses most c ss k → refused.Refuses most d ss l → (c ≡ d) × (k ≡ l)
    one_refusal c d k l x y =
        let a = told c k x in
        let b = told d l y in
        let same = one_longest (IsFewScript most) Shallow narrow ss a.front a.back b.front b.back real a.longest b.longest in
        agree c d k l b.front b.back (subst (λ (front : List Symbol). Says c k front b.back) same.0 (subst (λ (back : List Symbol). Says c k a.front back) same.1 a.says)) b.says

    -- Edits that are allowed are their own longest front.
    pub not_refused : (es : List EditTree) (c : Cause) (k : ℕ) → ss ≡ spell_all spell_edit es [] → AreAllowed most es → refused.Refuses most c ss k → ⊥
    not_refused es c k e a x =
        let t = told c k x in
        let same = one_longest (IsFewScript most) Shallow narrow ss t.front t.back ss [] real t.longest whole in
        by_cause c t.front (subst (λ (back : List Symbol). Says c k t.front back) same.1 t.says)
      where
        whole : Longest (IsFewScript most) Shallow ss ss []
        whole = record {
          parts = sym (append-nil ss);
          good = (([], tt, subst (IsFewScript most) (sym (append-nil ss)) (es, a.grammar, a.few, e)), subst Shallow (sym e) (shallow_edits es [] a.shallow tt));
          ends = λ s more here good. absurd cc;
        }

        by_cause : (c : Cause) (front : List Symbol) → Says c k front [] → ⊥
        by_cause syntax front s = s.2 (es, a.grammar, e)
        by_cause too_deep front s = let none = s.1 in absurd cc
        by_cause too_many front s = let none = s.2 in absurd cc

-- ---- one fault of an edit

apart_front : (x : ℕ) (xs ys : List ℕ) → AllByRecursion (λ y. nat_eq x y ≡ false) (xs ++ ys) → AllByRecursion (λ y. nat_eq x y ≡ false) xs
apart_front x [] ys h = tt
apart_front x (y ∷ xs) ys h = (h.0, apart_front x xs ys h.1)

distinct_front : (xs ys : List ℕ) → IsDistinct nat_eq (xs ++ ys) → IsDistinct nat_eq xs
unfolding IsDistinct
distinct_front [] ys h = tt
distinct_front (x ∷ xs) ys h = (apart_front x xs ys h.0, distinct_front xs ys h.1)

-- Of two numbers in a list one stands before the other, or they are one.
data Order (a c : List ℕ) (n k : ℕ) : Type 0 where
  here : a ≡ c → n ≡ k → Order a c n k
  earlier : (mid : List ℕ) → c ≡ (a ++ n ∷ []) ++ mid → Order a c n k
  later : (mid : List ℕ) → a ≡ (c ++ k ∷ []) ++ mid → Order a c n k

order : (a b c d : List ℕ) (n k : ℕ) → a ++ n ∷ b ≡ c ++ k ∷ d → Order a c n k
order [] b [] d n k e = here refl cc
order [] b (x ∷ c) d n k e = earlier c cc
order (x ∷ a) b [] d n k e = later a cc
order (x ∷ a) b (y ∷ c) d n k e = by_rest (order a b c d n k cc)
  where
    head : x ≡ y
    head = cc

    by_rest : Order a c n k → Order (x ∷ a) (y ∷ c) n k
    by_rest (here f g) = here (let first = head in cc) g
    by_rest (earlier mid f) = earlier mid (let first = head in cc)
    by_rest (later mid f) = later mid (let first = head in cc)

one_repeat : (numbers : List ℕ) (n k : ℕ) → IsRepeat numbers n → IsRepeat numbers k → n ≡ k
one_repeat numbers n k x y = by_order (order x.before x.after y.before y.after n k (sym x.parts ∙ y.parts))
  where
    by_order : Order x.before y.before n k → n ≡ k
    by_order (here f g) = g
    by_order (earlier mid f) = absurd (x.twice (distinct_front (x.before ++ n ∷ []) mid (subst (λ (ns : List ℕ). IsDistinct nat_eq ns) f y.distinct)))
    by_order (later mid f) = absurd (y.twice (distinct_front (y.before ++ k ∷ []) mid (subst (λ (ns : List ℕ). IsDistinct nat_eq ns) f x.distinct)))

not_distinct : (numbers : List ℕ) (n : ℕ) → IsRepeat numbers n → IsDistinct nat_eq numbers → ⊥
not_distinct numbers n x d =
    x.twice (distinct_front (x.before ++ n ∷ []) x.after (subst (λ (ns : List ℕ). IsDistinct nat_eq ns) (x.parts ∙ sym (append_assoc x.before (n ∷ []) x.after)) d))

module _ (index before : ℕ) (e : EditTree) where
  one_fault : (f g : ScriptErr) → IsFault index before e f → IsFault index before e g → f ≡ g
  one_fault (AtOrder i) (AtOrder j) x y = ap AtOrder (x.0 ∙ sym y.0)
  one_fault (AtOrder i) (Repeated j n) x y = let lt = x.1 in let le = y.1 in absurd (omega arith)
  one_fault (AtOrder i) (Attribute j n p) x y = let lt = x.1 in let le = y.1 in absurd (omega arith)
  one_fault (Repeated i n) (AtOrder j) x y = let lt = y.1 in let le = x.1 in absurd (omega arith)
  one_fault (Repeated i n) (Repeated j k) x y =
      let edit : i ≡ j = x.0 ∙ sym y.0 in
      let number : n ≡ k = one_repeat (numbers_of e) n k x.2 y.2 in
      cc
  one_fault (Repeated i n) (Attribute j k p) x y = absurd (not_distinct (numbers_of e) n x.2 y.2)
  one_fault (Attribute i n p) (AtOrder j) x y = let lt = y.1 in let le = x.1 in absurd (omega arith)
  one_fault (Attribute i n p) (Repeated j k) x y = absurd (not_distinct (numbers_of e) k y.2 x.2)
  one_fault (Attribute i n p) (Attribute j k q) x y =
      let edit : i ≡ j = x.0 ∙ sym y.0 in
      let both = sym x.3 ∙ y.3 in
      cc
  one_fault (Lex l) g x y = absurd x
  one_fault (Syntax p) g x y = absurd x
  one_fault (TooDeep p) g x y = absurd x
  one_fault (TooMany p) g x y = absurd x
  one_fault NoMemory g x y = absurd x
  one_fault f (Lex l) x y = absurd y
  one_fault f (Syntax p) x y = absurd y
  one_fault f (TooDeep p) x y = absurd y
  one_fault f (TooMany p) x y = absurd y
  one_fault f NoMemory x y = absurd y

  no_fault : (f : ScriptErr) (m : EditModel) → IsFault index before e f → IsSound before e m → ⊥
  no_fault (AtOrder i) m x s = let lt = x.1 in let le = s.ordered in absurd (omega arith)
  no_fault (Repeated i n) m x s = not_distinct (numbers_of e) n x.2 s.distinct
  no_fault (Attribute i n p) m x s = let both = sym x.3 ∙ s.typed in absurd cc
  no_fault (Lex l) m x s = x
  no_fault (Syntax p) m x s = x
  no_fault (TooDeep p) m x s = x
  no_fault (TooMany p) m x s = x
  no_fault NoMemory m x s = x

first_fault : (index before : ℕ) (es : List EditTree) (f g : ScriptErr) → IsFirstFault index before es f → IsFirstFault index before es g → f ≡ g
first_fault index before [] f g x y = absurd x
first_fault index before (e ∷ es) f g (inl x) (inl y) = one_fault index before e f g x y
first_fault index before (e ∷ es) f g (inl x) (inr y) = absurd (no_fault index before e f y.0 x y.1)
first_fault index before (e ∷ es) f g (inr x) (inl y) = absurd (no_fault index before e g x.0 y x.1)
first_fault index before (e ∷ es) f g (inr x) (inr y) = first_fault (suc index) (moment_of e) es f g x.2 y.2

sound_faultless : (index before : ℕ) (es : List EditTree) (ms : List EditModel) (f : ScriptErr) → AreSound before es ms → IsFirstFault index before es f → ⊥
sound_faultless index before [] ms f s x = x
sound_faultless index before (e ∷ es) [] f s x = s
sound_faultless index before (e ∷ es) (m ∷ ms) f s (inl x) = no_fault index before e f m x s.0
sound_faultless index before (e ∷ es) (m ∷ ms) f s (inr x) = sound_faultless (suc index) (moment_of e) es ms f s.1 x.2

one_model : (before : ℕ) (e : EditTree) (m n : EditModel) → IsSound before e m → IsSound before e n → m ≡ n
one_model before e m n x y =
    let at : m.at ≡ n.at = x.moment ∙ sym y.moment in
    let both = sym x.typed ∙ y.typed in
    let items : m.items ≡ n.items = cc in
    λ i. record { at = at i; items = items i }

same_models : (before : ℕ) (es : List EditTree) (ms ns : List EditModel) → AreSound before es ms → AreSound before es ns → ms ≡ ns
same_models before [] [] [] x y = refl
same_models before [] [] (n ∷ ns) x y = absurd y
same_models before [] (m ∷ ms) ns x y = absurd x
same_models before (e ∷ es) [] ns x y = absurd x
same_models before (e ∷ es) (m ∷ ms) [] x y = absurd y
same_models before (e ∷ es) (m ∷ ms) (n ∷ ns) x y =
    let head = one_model before e m n x.0 y.0 in
    let tail = same_models (moment_of e) es ms ns x.1 y.1 in
    cc

-- ---- the whole text

-- Why a text holds no script, by where the cause is looked for.
data Reason : Type 0 where
  lex : LexErr → Reason
  grammar : Cause → ℕ → Reason
  fault : ScriptErr → Reason
  memory : Reason

abbrev reason_of : ScriptErr → Reason
reason_of (Lex e) = lex e
reason_of (Syntax p) = grammar syntax p
reason_of (TooDeep p) = grammar too_deep p
reason_of (TooMany p) = grammar too_many p
reason_of NoMemory = memory
reason_of e = fault e

abbrev err_of : Reason → ScriptErr
err_of (lex e) = Lex e
err_of (grammar syntax p) = Syntax p
err_of (grammar too_deep p) = TooDeep p
err_of (grammar too_many p) = TooMany p
err_of (fault e) = e
err_of memory = NoMemory

back_again : (e : ScriptErr) → err_of (reason_of e) ≡ e
back_again (Lex e) = refl
back_again (Syntax p) = refl
back_again (TooDeep p) = refl
back_again (TooMany p) = refl
back_again (AtOrder i) = refl
back_again (Repeated i n) = refl
back_again (Attribute i n p) = refl
back_again NoMemory = refl

abbrev Because : List ℕ → Reason → Type 0
Because bytes (lex e) = IsRefused bytes e
Because bytes (grammar c p) = HasRefusal bytes c p
Because bytes (fault e) = HasFault bytes e
Because bytes memory = ⊥

because : (bytes : List ℕ) (e : ScriptErr) → Refuses bytes e → Because bytes (reason_of e)
because bytes (Lex lexes.NoMemory) x = absurd x
because bytes (Lex (lexes.BadByte p)) x = x
because bytes (Lex (lexes.BadName p)) x = x
because bytes (Lex (lexes.OpenString p)) x = x
because bytes (Lex (lexes.OpenComment p)) x = x
because bytes (Lex (lexes.NumberTooLong p)) x = x
because bytes (Syntax p) x = x
because bytes (TooDeep p) x = x
because bytes (TooMany p) x = x
because bytes (AtOrder i) x = x
because bytes (Repeated i n) x = x
because bytes (Attribute i n p) x = x
because bytes NoMemory x = x

one_ok : (r : Result (List Token) LexErr) (ts us : List Token) → r ≡ Ok ts → r ≡ Ok us → ts ≡ us
one_ok r ts us x y = let both = sym x ∙ y in cc

one_err : (r : Result (List Token) LexErr) (e f : LexErr) → r ≡ Err e → r ≡ Err f → e ≡ f
one_err r e f x y = let both = sym x ∙ y in cc

not_both : (r : Result (List Token) LexErr) (ts : List Token) (e : LexErr) → r ≡ Ok ts → r ≡ Err e → ⊥
not_both r ts e x y = let both = sym x ∙ y in absurd cc

module _ (same : (bytes : List ℕ) (ts : List Token) → (tokens_of bytes ≡ Ok ts) ↔ Reads 0 ts bytes) (refusal : (bytes : List ℕ) (e : LexErr) → (tokens_of bytes ≡ Err e) ↔ IsRefused bytes e) (bytes : List ℕ) where
  same_tokens : (ts us : List Token) → Reads 0 ts bytes → Reads 0 us bytes → ts ≡ us
  same_tokens ts us x y = one_ok (tokens_of bytes) ts us ((same bytes ts).1 x) ((same bytes us).1 y)

  no_tokens : (ts : List Token) (e : LexErr) → Reads 0 ts bytes → IsRefused bytes e → ⊥
  no_tokens ts e x y = not_both (tokens_of bytes) ts e ((same bytes ts).1 x) ((refusal bytes e).1 y)

  same_edits : (es fs : List EditTree) → IsText bytes es → IsText bytes fs → es ≡ fs
  same_edits es fs x y =
      let tokens = same_tokens x.tokens y.tokens x.reads y.reads in
      let both = sym x.spells ∙ ap (symbols bytes) tokens ∙ y.spells in
      (same_all spell_edit same_edit es fs [] [] (λ e more h. absurd cc) (λ e more h. absurd cc) both).0

  no_text : (es : List EditTree) (c : Cause) (p : ℕ) → IsText bytes es → HasRefusal bytes c p → ⊥
  no_text es c p x y =
      let tokens = same_tokens y.tokens x.tokens y.reads x.reads in
      not_refused 1000 (symbols bytes y.tokens) (symbols_real bytes y.tokens y.inside) es c y.left (ap (symbols bytes) tokens ∙ x.spells) x.allowed y.refused

  one_place : (c d : Cause) (p q : ℕ) → HasRefusal bytes c p → HasRefusal bytes d q → grammar c p ≡ grammar d q
  one_place c d p q x y =
      let tokens = same_tokens y.tokens x.tokens y.reads x.reads in
      let other : refused.Refuses 1000 d (symbols bytes x.tokens) y.left = subst (λ (ts : List Token). refused.Refuses 1000 d (symbols bytes ts) y.left) tokens y.refused in
      let h = one_refusal 1000 (symbols bytes x.tokens) (symbols_real bytes x.tokens x.inside) c d x.left y.left x.refused other in
      let cause = h.0 in
      let place : p ≡ q = x.there ∙ ap (place_of bytes x.tokens) h.1 ∙ ap (λ (ts : List Token). place_of bytes ts y.left) (sym tokens) ∙ sym y.there in
      cc

  agreed : (r q : Reason) → Because bytes r → Because bytes q → r ≡ q
  agreed (lex e) (lex f) x y = ap lex (one_err (tokens_of bytes) e f ((refusal bytes e).1 x) ((refusal bytes f).1 y))
  agreed (lex e) (grammar c p) x y = absurd (no_tokens y.tokens e y.reads x)
  agreed (lex e) (fault f) x y = absurd (no_tokens y.1.tokens e y.1.reads x)
  agreed (grammar c p) (lex f) x y = absurd (no_tokens x.tokens f x.reads y)
  agreed (grammar c p) (grammar d q) x y = one_place c d p q x y
  agreed (grammar c p) (fault f) x y = absurd (no_text y.0 c p y.1 x)
  agreed (fault e) (lex f) x y = absurd (no_tokens x.1.tokens f x.1.reads y)
  agreed (fault e) (grammar d q) x y = absurd (no_text x.0 d q x.1 y)
  agreed (fault e) (fault f) x y = ap fault (first_fault 0 0 y.0 e f (subst (λ (es : List EditTree). IsFirstFault 0 0 es e) (same_edits x.0 y.0 x.1 y.1) x.2) y.2)
  agreed memory q x y = absurd x
  agreed r memory x y = absurd y

  pub single : (e f : ScriptErr) → Refuses bytes e → Refuses bytes f → e ≡ f
  single e f x y = sym (back_again e) ∙ ap err_of (agreed (reason_of e) (reason_of f) (because bytes e x) (because bytes f y)) ∙ back_again f

  not_because : (ms : List EditModel) (r : Reason) → Holds bytes ms → Because bytes r → ⊥
  not_because ms (lex e) h x = no_tokens h.1.tokens e h.1.reads x
  not_because ms (grammar c p) h x = no_text h.0 c p h.1 x
  not_because ms (fault f) h x = sound_faultless 0 0 x.0 ms f (subst (λ (es : List EditTree). AreSound 0 es ms) (same_edits h.0 x.0 h.1 x.1) h.2) x.2
  not_because ms memory h x = x

  pub apart : (ms : List EditModel) (e : ScriptErr) → Holds bytes ms → Refuses bytes e → ⊥
  apart ms e h x = not_because ms (reason_of e) h (because bytes e x)

  pub one : (ms ns : List EditModel) → Holds bytes ms → Holds bytes ns → ms ≡ ns
  one ms ns x y = same_models 0 y.0 ms ns (subst (λ (es : List EditTree). AreSound 0 es ms) (same_edits x.0 y.0 x.1 y.1) x.2) y.2

-- The rest of a text among the tokens of the whole: what stands there, and the names.
use Rattle.std.proofs.Common.{◌≡◌, ℕ, ◌+◌, ◌<◌, ◌≤◌, Bool, true, false, List, [], ◌∷◌, ◌++◌, length, drop, refl, sym, ap, subst, ◌∙◌, arith, length-append, Option, Some, None, IfSome}
use Rattle.std.specs.Option.{IfNone}
use Rattle.std.proofs.Math.Seq.{drop-append-add}
use Rattle.p21_lex.specs.declared.token.Token.{Token}
use Rattle.p21_parse.specs.declared.parser.Parser.{Parser}
use Rattle.p21_parse.specs.declared.error.ReadErr.{ReadErr}
use Rattle.p21_parse.specs.declared.names.Before.{Before}
use Rattle.p21_parse.specs.Symbol.{Symbol, name, semicolon, symbols}
use Rattle.p21_parse.specs.Numbers.{numbers_in}
use Rattle.p21_parse.specs.Places.{start_of}
use Rattle.p21_parse.specs.Refused.{file_numbers}
use Rattle.p21_parse.specs.Parser.{IsParser, from, Has, IsNotHead, HasNoName}
use Rattle.p21_parse.specs.Names.{before, IsBehind, IsOwn, HasNoOwn, AreFine, AreNumbers, AreOwn}
use Rattle.p21_parse.specs.Text.{NamesRefuse}
use Rattle.p21_parse.proofs.Naming.{more_numbers, unbehind, owned, nameless, unmarked, stands, passed, pushed, one_too_many, at_end}

-- no token
abbrev pub nothing : List Token
nothing = []

-- a text with nothing before it
pub alone : (s : Parser) (b : Before) → IsParser s → b.numbers.now ≡ [] → b.is_marked ≡ false → IsBehind s s [] b
alone s b real none plain = record { real = real; bytes = refl; tokens = refl; numbers = sym none; marked = sym plain }

module _ (s t : Parser) (ts : List Token) (b : Before) (l : IsBehind s t ts b) where
  pub count_is : length s.tokens.now ≡ length ts + length t.tokens.now
  count_is = ap length l.tokens ∙ length-append ts t.tokens.now

  pub tokens_are : (at : ℕ) → drop (length ts + at) s.tokens.now ≡ drop at t.tokens.now
  tokens_are at = ap (drop (length ts + at)) l.tokens ∙ drop-append-add ts t.tokens.now at

  -- the same symbols stand there
  pub same_from : (at : ℕ) → from s (length ts + at) ≡ from t at
  same_from at = ap (symbols s.bytes.now) (tokens_are at) ∙ ap (λ (bytes : List ℕ). symbols bytes (drop at t.tokens.now)) l.bytes

  pub same_start : (at place : ℕ) → place ≡ start_of t.bytes.now (drop at t.tokens.now) → place ≡ start_of s.bytes.now (drop (length ts + at) s.tokens.now)
  same_start at place is = is ∙ sym (ap (start_of s.bytes.now) (tokens_are at) ∙ ap (λ (bytes : List ℕ). start_of bytes (drop at t.tokens.now)) l.bytes)

  pub same_has : (at : ℕ) (m : Symbol) → Has t at m → Has s (length ts + at) m
  same_has at m has =
      let next : (length ts + at) + 1 ≡ length ts + (at + 1) = omega arith in
      record { within = omega (arith, has.within, count_is); first = same_from at ∙ has.first ∙ ap (λ (ss : List Symbol). m ∷ ss) (sym (ap (from s) next ∙ same_from (at + 1))) }

  no_name : (at : ℕ) → HasNoName (from t at) → HasNoOwn s (length ts + at)
  no_name at h = nameless s (length ts + at) (subst HasNoName (sym (same_from at)) h) (stands s (length ts + at))

  pub not_marked : (at back : ℕ) → at ≡ back + 1 → IsNotHead semicolon (from t back) → HasNoOwn s (length ts + at)
  not_marked at back is h = unmarked s (length ts + at) (length ts + back) (omega (arith, is)) (subst (IsNotHead semicolon) (sym (same_from back)) h)

  named : (at back number : ℕ) → at ≡ back + 1 → Has t back semicolon → Has t at (name number) → IsOwn s (length ts + at) number
  named at back number is mark has = owned s (length ts + at) (length ts + back) number (omega (arith, is)) (same_has back semicolon mark) (same_has at (name number) has)

  -- the first token stands behind what was read before
  first_named : (number : ℕ) → b.is_marked ≡ true → Has t 0 (name number) → IsOwn s (length ts) number
  first_named number is has =
      let here : Has s (length ts) (name number) = subst (λ (k : ℕ). Has s k (name number)) (omega arith) (same_has 0 (name number) has) in
      record {
        has = here;
        owns =
            more_numbers s (length ts) (name number) here
            ∙ ap (λ (c : Bool). file_numbers (before s (length ts)) ++ numbers_in c (name number ∷ [])) (l.marked ∙ is);
      }

  first_plain : b.is_marked ≡ false → HasNoOwn s (length ts)
  first_plain is = unbehind s (length ts) (λ lt. l.marked ∙ is) (stands s (length ts))

  first_none : HasNoName (from t 0) → HasNoOwn s (length ts)
  first_none h = let none = no_name 0 h in subst (λ (k : ℕ). HasNoOwn s k) (omega arith) none

  pub none_read : (numbers : List ℕ) → numbers ≡ b.numbers.now → length b.numbers.now ≤ 200000 → AreNumbers s (length ts + 0) numbers
  none_read numbers is few =
      let here : length ts ≡ length ts + 0 = omega arith in
      subst (λ (k : ℕ). AreNumbers s k numbers) here (record { numbers_are = is ∙ sym l.numbers; few = omega (arith, ap length is, few) })

-- ---- the same of what a call answered

module _ (t : Parser) (b : Before) where
  pub name_found : (at back : ℕ) (o : Option ℕ) → at ≡ back + 1 → Has t back semicolon → IfSome o (λ n. Has t at (name n)) → IfSome o (λ number. (s : Parser) (ts : List Token) → IsBehind s t ts b → IsOwn s (length ts + at) number)
  name_found at back None is mark h = tt
  name_found at back (Some n) is mark h = λ s ts l. named s t ts b l at back n is mark h

  pub name_none : (at : ℕ) (o : Option ℕ) → IfNone o (HasNoName (from t at)) → IfNone o ((s : Parser) (ts : List Token) → IsBehind s t ts b → HasNoOwn s (length ts + at))
  name_none at None h = λ s ts l. no_name s t ts b l at h
  name_none at (Some n) h = tt

  pub first_found : (o : Option ℕ) → b.is_marked ≡ true → IfSome o (λ n. Has t 0 (name n)) → IfSome o (λ number. (s : Parser) (ts : List Token) → IsBehind s t ts b → IsOwn s (length ts) number)
  first_found None is h = tt
  first_found (Some n) is h = λ s ts l. first_named s t ts b l n is h

  pub first_without : (o : Option ℕ) → IfNone o (HasNoName (from t 0)) → IfNone o ((s : Parser) (ts : List Token) → IsBehind s t ts b → HasNoOwn s (length ts))
  first_without None h = λ s ts l. first_none s t ts b l h
  first_without (Some n) h = tt

  pub first_unmarked : b.is_marked ≡ false → (s : Parser) (ts : List Token) → IsBehind s t ts b → HasNoOwn s (length ts)
  first_unmarked is = λ s ts l. first_plain s t ts b l is

  -- where the first token is looked at
  pub at_first : (at : ℕ) (o : Option ℕ) → at ≡ 0 → IfSome o (λ number. (s : Parser) (ts : List Token) → IsBehind s t ts b → IsOwn s (length ts) number)
      → IfSome o (λ number. (s : Parser) (ts : List Token) → IsBehind s t ts b → IsOwn s (length ts + at) number)
  at_first at None is h = tt
  at_first at (Some n) is h = λ s ts l. let here : length ts ≡ length ts + at = omega (arith, is) in subst (λ (k : ℕ). IsOwn s k n) here (h s ts l)

  pub at_first_none : (at : ℕ) (o : Option ℕ) → at ≡ 0 → IfNone o ((s : Parser) (ts : List Token) → IsBehind s t ts b → HasNoOwn s (length ts)) → IfNone o ((s : Parser) (ts : List Token) → IsBehind s t ts b → HasNoOwn s (length ts + at))
  at_first_none at None is h = λ s ts l. let here : length ts ≡ length ts + at = omega (arith, is) in subst (λ (k : ℕ). HasNoOwn s k) here (h s ts l)
  at_first_none at (Some n) is h = tt

-- ---- the numbers so far

pub passed_on : (s : Parser) (n at : ℕ) (numbers : List ℕ) → AreNumbers s (n + at) numbers → HasNoOwn s (n + at) → AreNumbers s (n + (at + 1)) numbers
passed_on s n at numbers l none = subst (λ (k : ℕ). AreNumbers s k numbers) (omega arith) (passed s (n + at) numbers l none)

pub pushed_on : (s : Parser) (n at number : ℕ) (numbers new : List ℕ) → AreNumbers s (n + at) numbers → IsOwn s (n + at) number → length numbers < 200000 → new ≡ numbers ++ number ∷ [] → AreNumbers s (n + (at + 1)) new
pushed_on s n at number numbers new l own lt is = subst (λ (k : ℕ). AreNumbers s k new) (omega arith) (pushed s (n + at) number numbers new l own lt is)

pub too_many_on : (s : Parser) (n end at number : ℕ) (numbers : List ℕ) → at < end → AreNumbers s (n + at) numbers → IsOwn s (n + at) number → 200000 ≤ length numbers → AreOwn s (n + end) numbers (Some (n + at))
too_many_on s n end at number numbers lt l own many = one_too_many s (n + end) (n + at) number numbers (omega (arith, lt)) l own many

pub end_on : (s : Parser) (n end at : ℕ) (numbers : List ℕ) → at ≡ end → AreNumbers s (n + at) numbers → AreOwn s (n + end) numbers None
end_on s n end at numbers is l = at_end s (n + end) (n + at) numbers (omega (arith, is)) l

-- ---- a text with nothing before it

pub start_is : (s : Parser) (at : ℕ) → AreFine (before s (length nothing + at)) → AreFine (before s at)
start_is s at fine = subst (λ (k : ℕ). AreFine (before s k)) (omega arith) fine

pub start_refuses : (s : Parser) (at : ℕ) (e : ReadErr) → NamesRefuse s (length nothing + at) e → NamesRefuse s at e
start_refuses s at e refuses = subst (λ (k : ℕ). NamesRefuse s k e) (omega arith) refuses

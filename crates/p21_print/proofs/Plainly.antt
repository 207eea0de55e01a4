-- The plain spelling of a symbol that some token has is the spelling of such a token.
use Rattle.std.proofs.Common.{◌≡◌, ℕ, suc, ◌-◌, ◌<◌, ◌≤◌, Bool, true, false, if◌then◌else◌, List, [], ◌∷◌, ◌++◌, length, refl, sym, ap, subst, ◌∙◌, arith}
use Rattle.std.specs.Prelude.{IsTrue, decimal}
use Rattle.std.specs.Str.Parse.{AllDigits}
use Rattle.std.proofs.lemmas.Bool.Decides.{nat_tests}
use Rattle.std.proofs.lemmas.Fmt.{decimal_is_IsNumeral}
use Rattle.std.proofs.lemmas.List.{take_at, length-append}
use Rattle.std.proofs.lemmas.Str.Parse.{digit_from_value}
use Rattle.p21_lex.specs.declared.token.TokenKind.{TokenKind}
use Rattle.p21_lex.specs.declared.token.TokenKind.TheVariants.{Word, UserWord, Name, Int, Real, Text, Enumeration, Binary, Open, Close, Comma, Semicolon, Equals, Dollar, Star}
use Rattle.p21_lex.specs.Class.{is_digit, is_plain, is_hex, Each}
use Rattle.p21_lex.specs.Number.{name_value}
use Rattle.p21_lex.specs.Reading.{IsKeyword, IsDigits, IsInside, IsBetween, Spells}
use Rattle.p21_parse.specs.Symbol.{Symbol, name, keyword, dashed, has_hyphen, inside, symbol}
use Rattle.p21_parse.specs.Begins.{IsSymbol}
use Rattle.p21_print.specs.Printed.{between, plain}

pub record Spelled (s : Symbol) : Type 0 where
  pub kind : TokenKind
  pub spells : Spells kind (plain s)
  pub is : symbol kind (plain s) ≡ s

-- a token whose symbol is printed as it was written
as_written : (kind : TokenKind) (text : List ℕ) → Spells kind text → plain (symbol kind text) ≡ text → Spelled (symbol kind text)
as_written kind text h e = record { kind = kind; spells = subst (Spells kind) (sym e) h; is = ap (symbol kind) e }

plain_word : (text : List ℕ) (hyphen : Bool) → plain (if hyphen then dashed text else keyword text) ≡ text
plain_word text true = refl
plain_word text false = refl

-- what stands between two marks
inside_between : (mark : ℕ) (bytes : List ℕ) → inside (between mark bytes) ≡ bytes
inside_between mark bytes = take_at bytes (mark ∷ []) (suc (length (bytes ++ mark ∷ [])) - 1 - 1) (omega (arith, length-append bytes (mark ∷ [])))

plain_between : (mark : ℕ) (Inside : List ℕ → Type 0) (text : List ℕ) → IsBetween mark Inside text → between mark (inside text) ≡ text
plain_between mark Inside text h = ap (λ (t : List ℕ). between mark (inside t)) h.1 ∙ ap (between mark) (inside_between mark h.0) ∙ sym h.1

digit_is : (c : ℕ) → (48 ≤ c) × (c ≤ 57) → IsTrue (is_digit c)
digit_is c h = grind (arith, nat_tests)

digits_each : (ds : List ℕ) → AllDigits 10 ds → Each is_digit ds
digits_each [] h = tt
digits_each (c ∷ cs) h = (digit_is c (digit_from_value c h.0), digits_each cs h.1)

digits_are : (ds : List ℕ) → 0 < length ds → AllDigits 10 ds → IsDigits ds
digits_are [] some h = absurd (omega arith)
digits_are (c ∷ cs) some h = digits_each (c ∷ cs) h

-- A number within the range of names has a name.
named : (n : ℕ) → 1 ≤ n → n ≤ 2147483647 → Spelled (name n)
named n low high =
    let d = decimal_is_IsNumeral n (omega arith) in
    let value_is : name_value (35 ∷ decimal n) ≡ n = d.1 in
    record {
      kind = Name;
      spells = (decimal n, refl, digits_are (decimal n) d.0.0 d.0.1, subst (λ (m : ℕ). 1 ≤ m) (sym value_is) low, subst (λ (m : ℕ). m ≤ 2147483647) (sym value_is) high);
      is = ap name value_is;
    }

of_token : (kind : TokenKind) (text : List ℕ) → Spells kind text → Spelled (symbol kind text)
of_token Word text h = as_written Word text h (plain_word text (has_hyphen text))
of_token UserWord text h = as_written UserWord text h refl
of_token Name text h = named (name_value text) h.3 h.4
of_token Int text h = as_written Int text h refl
of_token Real text h = as_written Real text h refl
of_token Text text h = let e = plain_between 39 IsInside text h in record { kind = Text; spells = subst (Spells Text) (sym e) h; is = ap (symbol Text) e }
of_token Enumeration text h = let e = plain_between 46 (IsKeyword is_plain) text h in record { kind = Enumeration; spells = subst (Spells Enumeration) (sym e) h; is = ap (symbol Enumeration) e }
of_token Binary text h = let e = plain_between 34 (Each is_hex) text h in record { kind = Binary; spells = subst (Spells Binary) (sym e) h; is = ap (symbol Binary) e }
of_token Open text h = record { kind = Open; spells = refl; is = refl }
of_token Close text h = record { kind = Close; spells = refl; is = refl }
of_token Comma text h = record { kind = Comma; spells = refl; is = refl }
of_token Semicolon text h = record { kind = Semicolon; spells = refl; is = refl }
of_token Equals text h = record { kind = Equals; spells = refl; is = refl }
of_token Dollar text h = record { kind = Dollar; spells = refl; is = refl }
of_token Star text h = record { kind = Star; spells = refl; is = refl }

pub spelled : (s : Symbol) → IsSymbol s → Spelled s
spelled s h = subst Spelled h.3 (of_token h.0 h.1 h.2)

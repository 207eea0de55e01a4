-- A text has one meaning: from the laws of tokens and of the grammar.
use Rattle.std.proofs.Common.{◌≡◌, ◌↔◌, ℕ, List, Result, Ok, Err, sym, ap, subst, ◌∙◌, inl, inr, refl}
use Rattle.std.specs.Prelude.{◌⊎◌}
use Rattle.std.specs.List.{AllByRecursion}
use Rattle.p21_lex.specs.declared.error.LexErr.{LexErr}
use Rattle.p21_lex.specs.declared.token.Token.{Token}
use Rattle.p21_lex.specs.Tokens.{tokens_of}
use Rattle.p21_lex.specs.Reading.{Reads, IsToken}
use Rattle.p21_lex.specs.Refusal.{IsRefused}
use Rattle.p21_parse.specs.declared.error.ReadErr.{ReadErr}
use Rattle.p21_parse.specs.declared.error.ReadErr.TheVariants as errors
use Rattle.p21_parse.specs.Tree.{ExchangeTree}
use Rattle.p21_parse.specs.Symbol.{symbols}
use Rattle.p21_parse.specs.Spell.{spell_file}
use Rattle.p21_parse.specs.Allowed.{IsAllowed}
use Rattle.p21_parse.specs.Places.{Refusal, syntax, too_deep, too_many, duplicate}
use Rattle.p21_parse.specs.Refused.{RefusedAt}
use Rattle.p21_parse.specs.Text.{IsText, HasRefusal, IsRefusedText}

module _ (bytes : List ℕ)
    (same : (ts : List Token) → (tokens_of bytes ≡ Ok ts) ↔ Reads 0 ts bytes)
    (refused : (e : LexErr) → (tokens_of bytes ≡ Err e) ↔ IsRefused bytes e)
    (single : (tokens : List Token) (r q : Refusal) → AllByRecursion (IsToken bytes) tokens → RefusedAt bytes tokens r → RefusedAt bytes tokens q → r ≡ q)
    (allowed : (tokens : List Token) (x : ExchangeTree) (r : Refusal) → AllByRecursion (IsToken bytes) tokens → IsAllowed x → symbols bytes tokens ≡ spell_file x → RefusedAt bytes tokens r → ⊥) where
  abbrev ok : List Token → Result (List Token) LexErr
  ok ts = Ok ts

  abbrev err : LexErr → Result (List Token) LexErr
  err e = Err e

  one_list : (ts us : List Token) → Reads 0 ts bytes → Reads 0 us bytes → ts ≡ us
  one_list ts us a b = let e : ok ts ≡ ok us = sym ((same ts).1 a) ∙ (same us).1 b in cc

  not_both : (ts : List Token) (e : LexErr) → Reads 0 ts bytes → IsRefused bytes e → ⊥
  not_both ts e a b = let h : ok ts ≡ err e = sym ((same ts).1 a) ∙ (refused e).1 b in absurd cc

  one_fault : (e f : LexErr) → IsRefused bytes e → IsRefused bytes f → e ≡ f
  one_fault e f a b = let h : err e ≡ err f = sym ((refused e).1 a) ∙ (refused f).1 b in cc

  text_not_refused : (x : ExchangeTree) (r : Refusal) → IsText bytes x → HasRefusal bytes r → ⊥
  text_not_refused x r t h =
      allowed t.tokens x r t.inside t.allowed t.spells (subst (λ (ts : List Token). RefusedAt bytes ts r) (sym (one_list t.tokens h.tokens t.reads h.reads)) h.refused)

  pub apart : (x : ExchangeTree) (e : ReadErr) → IsText bytes x → IsRefusedText bytes e → e ≡ errors.NoMemory
  apart x (errors.Lex f) t h = absurd (not_both t.tokens f t.reads h)
  apart x (errors.Syntax place) t h = absurd (text_not_refused x (syntax place) t h)
  apart x (errors.TooDeep place) t h = absurd (text_not_refused x (too_deep place) t h)
  apart x (errors.TooMany place) t h = absurd (text_not_refused x (too_many place) t h)
  apart x (errors.Duplicate number) t h = absurd (text_not_refused x (duplicate number) t h)
  apart x errors.NoMemory t h = refl

  one_refusal : (r q : Refusal) → HasRefusal bytes r → HasRefusal bytes q → r ≡ q
  one_refusal r q a b = single a.tokens r q a.inside a.refused (subst (λ (ts : List Token). RefusedAt bytes ts q) (sym (one_list a.tokens b.tokens a.reads b.reads)) b.refused)

  -- the error of a refusal
  abbrev error_of : Refusal → ReadErr
  error_of (syntax place) = errors.Syntax place
  error_of (too_deep place) = errors.TooDeep place
  error_of (too_many place) = errors.TooMany place
  error_of (duplicate number) = errors.Duplicate number

  abbrev Single : ReadErr → ReadErr → Type 0
  Single e f = (e ≡ f) ⊎ ((e ≡ errors.NoMemory) ⊎ (f ≡ errors.NoMemory))

  two : (r q : Refusal) → HasRefusal bytes r → HasRefusal bytes q → Single (error_of r) (error_of q)
  two r q a b = inl (ap error_of (one_refusal r q a b))

  lex_and : (f : LexErr) (e : ReadErr) → IsRefused bytes f → IsRefusedText bytes e → Single (errors.Lex f) e
  lex_and f (errors.Lex g) a b = inl (ap (λ (h : LexErr). errors.Lex h) (one_fault f g a b))
  lex_and f (errors.Syntax place) a b = absurd (not_both b.tokens f b.reads a)
  lex_and f (errors.TooDeep place) a b = absurd (not_both b.tokens f b.reads a)
  lex_and f (errors.TooMany place) a b = absurd (not_both b.tokens f b.reads a)
  lex_and f (errors.Duplicate number) a b = absurd (not_both b.tokens f b.reads a)
  lex_and f errors.NoMemory a b = inr (inr refl)

  refusal_and : (r : Refusal) (e : ReadErr) → HasRefusal bytes r → IsRefusedText bytes e → Single (error_of r) e
  refusal_and r (errors.Lex g) a b = absurd (not_both a.tokens g a.reads b)
  refusal_and r (errors.Syntax place) a b = two r (syntax place) a b
  refusal_and r (errors.TooDeep place) a b = two r (too_deep place) a b
  refusal_and r (errors.TooMany place) a b = two r (too_many place) a b
  refusal_and r (errors.Duplicate number) a b = two r (duplicate number) a b
  refusal_and r errors.NoMemory a b = inr (inr refl)

  pub one_error : (e f : ReadErr) → IsRefusedText bytes e → IsRefusedText bytes f → (e ≡ f) ⊎ ((e ≡ errors.NoMemory) ⊎ (f ≡ errors.NoMemory))
  one_error (errors.Lex g) f a b = lex_and g f a b
  one_error (errors.Syntax place) f a b = refusal_and (syntax place) f a b
  one_error (errors.TooDeep place) f a b = refusal_and (too_deep place) f a b
  one_error (errors.TooMany place) f a b = refusal_and (too_many place) f a b
  one_error (errors.Duplicate number) f a b = refusal_and (duplicate number) f a b
  one_error errors.NoMemory f a b = inr (inl refl)

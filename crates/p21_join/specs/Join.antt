-- Slices of a text that end behind a semicolon.
use Rattle.std.specs.Prelude.{◌≡◌, ℕ, ◌+◌, List, [], ◌∷◌}
use Rattle.p21_lex.specs.declared.token.Token.{Token}
use Rattle.p21_lex.specs.declared.token.TokenKind.TheVariants.{Semicolon}

-- the last byte is a semicolon
abbrev pub EndsInSemicolon : List ℕ → Type 0
EndsInSemicolon [] = ⊥
EndsInSemicolon (b ∷ []) = b ≡ 59
EndsInSemicolon (b ∷ c ∷ bs) = EndsInSemicolon (c ∷ bs)

-- the last token is a semicolon
abbrev pub LastIsSemicolon : List Token → Type 0
LastIsSemicolon [] = ⊥
LastIsSemicolon (t ∷ []) = t.kind ≡ Semicolon
LastIsSemicolon (t ∷ u ∷ ts) = LastIsSemicolon (u ∷ ts)

-- a token so many bytes further on
abbrev pub moved : ℕ → Token → Token
moved by t = record { kind = t.kind; start = by + t.start; end = by + t.end }

-- Marks: kinds of token that have one symbol alone.
use Rattle.std.proofs.Common.{◌≡◌, ℕ, Bool, true, false, cond, List, [], ◌∷◌, refl, sym, ap}
use Rattle.std.proofs.lemmas.Bool.{false≢true}
use Rattle.p21_lex.specs.declared.token.TokenKind.{TokenKind}
use Rattle.p21_lex.specs.declared.token.TokenKind.TheVariants.{Word, Open, Close, Comma, Semicolon, Equals}
use Rattle.p21_parse.specs.Symbol.{Symbol, keyword, dashed, opening, closing, comma, semicolon, equals, symbol, has_hyphen}
use Rattle.p21_parse.specs.Machine.{fixed, on, same}
use Rattle.p21_parse.specs.Parser.{IsMark, IsNotHead}
use Rattle.p21_parse.proofs.Moves.{Sticks}

-- whether a symbol is a word
abbrev is_word : Symbol → Bool
is_word (keyword text) = true
is_word (dashed text) = true
is_word _ = false

word_is : (b : Bool) (text : List ℕ) (s : Symbol) → cond b (dashed text) (keyword text) ≡ s → is_word s ≡ true
word_is true text s e = sym (ap is_word e)
word_is false text s e = sym (ap is_word e)

pub opens : IsMark Open opening
opens = record { has = λ _. refl; alone = alone; itself = refl; differs = differs }
  where
    alone : (k : TokenKind) (text : List ℕ) → symbol k text ≡ opening → k ≡ Open
    alone Open text e = refl
    alone Word text e = absurd (false≢true (word_is (has_hyphen text) text opening e))
    alone k text e = absurd cc

    differs : (s : Symbol) → (s ≡ opening → ⊥) → same opening s ≡ false
    differs opening h = absurd (h refl)
    differs s h = refl

pub closes : IsMark Close closing
closes = record { has = λ _. refl; alone = alone; itself = refl; differs = differs }
  where
    alone : (k : TokenKind) (text : List ℕ) → symbol k text ≡ closing → k ≡ Close
    alone Close text e = refl
    alone Word text e = absurd (false≢true (word_is (has_hyphen text) text closing e))
    alone k text e = absurd cc

    differs : (s : Symbol) → (s ≡ closing → ⊥) → same closing s ≡ false
    differs closing h = absurd (h refl)
    differs s h = refl

pub parts : IsMark Comma comma
parts = record { has = λ _. refl; alone = alone; itself = refl; differs = differs }
  where
    alone : (k : TokenKind) (text : List ℕ) → symbol k text ≡ comma → k ≡ Comma
    alone Comma text e = refl
    alone Word text e = absurd (false≢true (word_is (has_hyphen text) text comma e))
    alone k text e = absurd cc

    differs : (s : Symbol) → (s ≡ comma → ⊥) → same comma s ≡ false
    differs comma h = absurd (h refl)
    differs s h = refl

pub ends : IsMark Semicolon semicolon
ends = record { has = λ _. refl; alone = alone; itself = refl; differs = differs }
  where
    alone : (k : TokenKind) (text : List ℕ) → symbol k text ≡ semicolon → k ≡ Semicolon
    alone Semicolon text e = refl
    alone Word text e = absurd (false≢true (word_is (has_hyphen text) text semicolon e))
    alone k text e = absurd cc

    differs : (s : Symbol) → (s ≡ semicolon → ⊥) → same semicolon s ≡ false
    differs semicolon h = absurd (h refl)
    differs s h = refl

pub equates : IsMark Equals equals
equates = record { has = λ _. refl; alone = alone; itself = refl; differs = differs }
  where
    alone : (k : TokenKind) (text : List ℕ) → symbol k text ≡ equals → k ≡ Equals
    alone Equals text e = refl
    alone Word text e = absurd (false≢true (word_is (has_hyphen text) text equals e))
    alone k text e = absurd cc

    differs : (s : Symbol) → (s ≡ equals → ⊥) → same equals s ≡ false
    differs equals h = absurd (h refl)
    differs s h = refl

pub mark_sticks : (kind : TokenKind) (m : Symbol) (ss : List Symbol) → IsMark kind m → IsNotHead m ss → Sticks (fixed m) ss
mark_sticks kind m [] mark h = tt
mark_sticks kind m (s ∷ ss) mark h = ap (λ (b : Bool). on b []) (mark.differs s h)

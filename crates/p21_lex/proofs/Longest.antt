-- Where a spelling stops, no longer front spells a token.
use Rattle.std.proofs.Common.{◌≡◌, ℕ, Bool, true, false, eqb, ◌||◌, ◌&&◌, List, [], ◌∷◌, ◌++◌, length, refl, sym, ap, ◌∙◌, append_assoc, arith}
use Rattle.std.proofs.lemmas.List.{length-append}
use Rattle.p21_lex.specs.declared.token.TokenKind.{TokenKind}
use Rattle.p21_lex.specs.declared.token.TokenKind.TheVariants.{Word, UserWord, Name, Int, Real, Text, Enumeration, Binary, Open, Close, Comma, Semicolon, Equals, Dollar, Star}
use Rattle.p21_lex.specs.declared.piece.Piece.TheVariants.{Spelling}
use Rattle.p21_lex.specs.Class.{is_digit, is_sign}
use Rattle.p21_lex.specs.Front.{front}
use Rattle.p21_lex.specs.Reading.{begins_int, begins_exponent, Spells, Stops}
use Rattle.p21_lex.proofs.Numbers.{answered}
use Rattle.p21_lex.proofs.Spelled.{spelled_front}

-- a space
abbrev space : List ℕ
space = 32 ∷ []

-- before a space every spelling stops
stops_at_space : (kind : TokenKind) (text : List ℕ) → Stops kind text space
stops_at_space Word text = refl
stops_at_space UserWord text = refl
stops_at_space Name text = refl
stops_at_space Int text = refl
stops_at_space Real text = (refl, λ _. refl)
stops_at_space Text text = refl
stops_at_space Enumeration text = tt
stops_at_space Binary text = tt
stops_at_space Open text = tt
stops_at_space Close text = tt
stops_at_space Comma text = tt
stops_at_space Semicolon text = tt
stops_at_space Equals text = tt
stops_at_space Dollar text = tt
stops_at_space Star text = tt

-- what does not begin a number's end still does not where the rest is cut off
or_parts : (x y : Bool) → (x || y) ≡ false → (x ≡ false) × (y ≡ false)
or_parts true y h = absurd cc
or_parts false y h = (refl, h)

lone_sign : (x : Bool) → (x && false) ≡ false
lone_sign true = refl
lone_sign false = refl

int_cut : (c : ℕ) (cs rest : List ℕ) → begins_int (c ∷ (cs ++ rest)) ≡ false → begins_int (c ∷ (cs ++ space)) ≡ false
int_cut c [] [] h = rw (h, lone_sign (is_sign c)) refl
int_cut c [] (d ∷ ds) h = rw ((or_parts (is_digit c) (is_sign c && is_digit d) h).0, lone_sign (is_sign c)) refl
int_cut c (d ∷ ds) rest h = h

and_more : (x y z : Bool) → (y ≡ false → z ≡ false) → (x && y) ≡ false → (x && z) ≡ false
and_more true y z f h = f h
and_more false y z f h = refl

exponent_cut : (b : ℕ) (bs rest : List ℕ) → begins_exponent (b ∷ (bs ++ rest)) ≡ false → begins_exponent (b ∷ (bs ++ space)) ≡ false
exponent_cut b [] rest h = lone_sign (eqb b 69)
exponent_cut b (c ∷ cs) rest h = and_more (eqb b 69) (begins_int (c ∷ (cs ++ rest))) (begins_int (c ∷ (cs ++ space))) (int_cut c cs rest) h

stops_cut : (kind : TokenKind) (text : List ℕ) (b : ℕ) (bs rest : List ℕ) → Stops kind text (b ∷ (bs ++ rest)) → Stops kind text (b ∷ (bs ++ space))
stops_cut Word text b bs rest h = h
stops_cut UserWord text b bs rest h = h
stops_cut Name text b bs rest h = h
stops_cut Int text b bs rest h = h
stops_cut Real text b bs rest h = (h.0, λ plain. exponent_cut b bs rest (h.1 plain))
stops_cut Text text b bs rest h = h
stops_cut Enumeration text b bs rest h = tt
stops_cut Binary text b bs rest h = tt
stops_cut Open text b bs rest h = tt
stops_cut Close text b bs rest h = tt
stops_cut Comma text b bs rest h = tt
stops_cut Semicolon text b bs rest h = tt
stops_cut Equals text b bs rest h = tt
stops_cut Dollar text b bs rest h = tt
stops_cut Star text b bs rest h = tt

same_len : (kind other : TokenKind) (m n : ℕ) → answered (Spelling kind m) ≡ answered (Spelling other n) → m ≡ n
same_len kind other m n e = cc

pub longest : (kind other : TokenKind) (text more rest : List ℕ) → Spells kind text → Stops kind text (more ++ rest) → Spells other (text ++ more) → more ≡ []
longest kind other text [] rest spelled stopped longer = refl
longest kind other text (b ∷ bs) rest spelled stopped longer =
    let short = spelled_front kind text (b ∷ (bs ++ space)) spelled (stops_cut kind text b bs rest stopped) 0 in
    let long = spelled_front other (text ++ b ∷ bs) space longer (stops_at_space other (text ++ b ∷ bs)) 0 in
    let same : text ++ b ∷ (bs ++ space) ≡ (text ++ b ∷ bs) ++ space = sym (append_assoc text (b ∷ bs) space) in
    let len : length text ≡ length (text ++ b ∷ bs) = same_len kind other (length text) (length (text ++ b ∷ bs)) (sym short ∙ ap (front 0) same ∙ long) in
    absurd (omega (arith, len, length-append text (b ∷ bs)))

-- What stands at the front of a text, by the forms of the kinds.
use Rattle.std.proofs.Common.{◌≡◌, ℕ, ◌<◌, List, [], ◌∷◌, ◌++◌, length, Result, Ok, Err, refl, sym, ap, subst, ◌∙◌, arith}
use Rattle.std.specs.Prelude.{IfOk, ◌↔◌}
use Rattle.std.proofs.lemmas.List.{append-nil, take_all}
use Rattle.p21_lex.specs.declared.error.LexErr.{LexErr}
use Rattle.p21_lex.specs.declared.token.TokenKind.{TokenKind}
use Rattle.p21_lex.specs.declared.token.TokenKind.TheVariants.{Word, UserWord, Name, Int, Real, Text, Enumeration, Binary, Open, Close, Comma, Semicolon, Equals, Dollar, Star}
use Rattle.p21_lex.specs.declared.piece.Piece.{Piece}
use Rattle.p21_lex.specs.declared.piece.Piece.TheVariants.{Gap, Spelling}
use Rattle.p21_lex.specs.Front.{front}
use Rattle.p21_lex.specs.Reading.{IsPiece, Spells, Stops}
use Rattle.p21_lex.proofs.Numbers.{Found, answered}
use Rattle.p21_lex.proofs.Fronts.{front_found}
use Rattle.p21_lex.proofs.Spelled.{spelled_front}

piece_of : (bytes : List ℕ) (piece : Piece) → Found bytes piece → IsPiece bytes piece
piece_of bytes (Gap len) found = (found.within, found.gap)
piece_of bytes (Spelling kind len) found = (found.within, found.spelled, found.stopped)

pub is_piece : (at : ℕ) (bytes : List ℕ) (r : Result Piece LexErr) → r ≡ front at bytes → 0 < length bytes → IfOk r (IsPiece bytes)
is_piece at [] r is some = absurd (omega arith)
is_piece at (b ∷ bs) (Ok piece) is some = piece_of (b ∷ bs) piece (front_found at b bs piece (sym is))
is_piece at (b ∷ bs) (Err e) is some = tt

pub is_token : (at : ℕ) (bytes : List ℕ) (r : Result Piece LexErr) → r ≡ front at bytes → (kind : TokenKind) (text rest : List ℕ)
    → bytes ≡ text ++ rest → Spells kind text → Stops kind text rest → r ≡ Ok (Spelling kind (length text))
is_token at bytes r is kind text rest parts spelled stopped = is ∙ ap (front at) parts ∙ spelled_front kind text rest spelled stopped at

-- at the end of a text every spelling stops
pub stops_at_end : (kind : TokenKind) (text : List ℕ) → Stops kind text []
stops_at_end Word text = tt
stops_at_end UserWord text = tt
stops_at_end Name text = tt
stops_at_end Int text = tt
stops_at_end Real text = (tt, λ _. refl)
stops_at_end Text text = tt
stops_at_end Enumeration text = tt
stops_at_end Binary text = tt
stops_at_end Open text = tt
stops_at_end Close text = tt
stops_at_end Comma text = tt
stops_at_end Semicolon text = tt
stops_at_end Equals text = tt
stops_at_end Dollar text = tt
stops_at_end Star text = tt

-- a whole text that is a spelling is the piece at its front
pub whole_found : (at : ℕ) (text : List ℕ) (r : Result Piece LexErr) (kind : TokenKind) → r ≡ front at text → Spells kind text → r ≡ Ok (Spelling kind (length text))
whole_found at text r kind is spelled = is_token at text r is kind text [] (sym (append-nil text)) spelled (stops_at_end kind text)

pub front_nothing : (at : ℕ) → front at [] ≡ answered (Gap 0)
unfolding front
front_nothing at = refl

gap_no_token : (kind : TokenKind) (m n : ℕ) → answered (Gap m) ≡ answered (Spelling kind n) → ⊥
gap_no_token kind m n e = cc

-- and the piece at the front of a text that takes all of it is a spelling
pub whole_spelled : (at : ℕ) (text : List ℕ) (r : Result Piece LexErr) (kind : TokenKind) → r ≡ front at text → r ≡ Ok (Spelling kind (length text)) → Spells kind text
whole_spelled at [] r kind is has = absurd (gap_no_token kind 0 0 (sym (front_nothing at) ∙ sym is ∙ has))
whole_spelled at (b ∷ bs) r kind is has =
    let here : IsPiece (b ∷ bs) (Spelling kind (length (b ∷ bs))) = subst (λ (x : Result Piece LexErr). IfOk x (IsPiece (b ∷ bs))) has (is_piece at (b ∷ bs) r is (omega arith)) in
    subst (λ (t : List ℕ). Spells kind t) (take_all (length (b ∷ bs)) (b ∷ bs) (omega arith)) here.1

pub whole_is : (at : ℕ) (text : List ℕ) (r : Result Piece LexErr) (kind : TokenKind) → r ≡ front at text → (r ≡ Ok (Spelling kind (length text))) ↔ Spells kind text
whole_is at text r kind is = (whole_spelled at text r kind is, whole_found at text r kind is)

-- The two laws of reading: the tokens of a text read it, and what reads a text is its tokens.
use Rattle.std.proofs.Common.{◌≡◌, ℕ, zero, suc, ◌+◌, ◌<◌, ◌≤◌, Bool, List, [], ◌∷◌, ◌++◌, length, take, drop, Result, Ok, Err, refl, sym, ap, subst, ◌∙◌, inl, inr, append_assoc, arith}
use Rattle.std.specs.List.{concat, AllByRecursion}
use Rattle.std.proofs.lemmas.List.{append-nil, take-append-drop, drop_at, length-append, length-drop}
use Rattle.p21_lex.specs.declared.error.LexErr.{LexErr}
use Rattle.p21_lex.specs.declared.token.TokenKind.{TokenKind}
use Rattle.p21_lex.specs.declared.token.TokenKind.TheVariants.{Word, UserWord, Name, Int, Real, Text, Enumeration, Binary, Open, Close, Comma, Semicolon, Equals, Dollar, Star}
use Rattle.p21_lex.specs.declared.token.Token.{Token}
use Rattle.p21_lex.specs.declared.piece.Piece.{Piece}
use Rattle.p21_lex.specs.declared.piece.Piece.TheVariants.{Gap, Spelling}
use Rattle.p21_lex.specs.Front.{front, piece_len}
use Rattle.p21_lex.specs.Tokens.{token_at, with_front, piece_tokens, tokens_behind, tokens_in, tokens_behind_place, tokens_of}
use Rattle.p21_lex.specs.Class.{is_word}
use Rattle.p21_lex.specs.Reading.{IsKeyword, IsInt, IsReal, IsGap, Spells, Reads}
use Rattle.p21_lex.proofs.Runs.{take_within}
use Rattle.p21_lex.proofs.Numbers.{Found, TokenFound, answered}
use Rattle.p21_lex.proofs.Fronts.{front_found}
use Rattle.p21_lex.proofs.Loop.{unrolled, nothing_left, with_front-nil}
use Rattle.p21_lex.proofs.Spelled.{spelled_front, gap_front}

abbrev pub listed : List Token → Result (List Token) LexErr
listed ts = Ok ts

abbrev pub failed : LexErr → Result (List Token) LexErr
failed e = Err e

pub listed_is : (ts us : List Token) → listed ts ≡ listed us → ts ≡ us
listed_is ts us e = cc

pub failed_not : (e : LexErr) (ts : List Token) → failed e ≡ listed ts → ⊥
failed_not e ts h = cc

-- ---- the tokens read the text

reads_nothing : (at : ℕ) → Reads at [] []
reads_nothing at = ([], tt, refl)

-- a gap in front changes nothing
reads_gap : (at : ℕ) (gap rest : List ℕ) (ts : List Token) → IsGap gap → Reads (at + length gap) ts rest → Reads at ts (gap ++ rest)
reads_gap at gap rest [] here h = (gap ∷ h.0, (here, h.1), ap (λ (r : List ℕ). gap ++ r) h.2)
reads_gap at gap rest (t ∷ ts) here h =
    let parts : gap ++ rest ≡ concat (gap ∷ h.0) ++ (h.1 ++ h.2) = ap (λ (r : List ℕ). gap ++ r) h.4 ∙ sym (append_assoc gap (concat h.0) (h.1 ++ h.2)) in
    let start : t.start ≡ at + length (concat (gap ∷ h.0)) = omega (arith, h.5, length-append gap (concat h.0)) in
    (gap ∷ h.0, h.1, h.2, (here, h.3), parts, start, h.6, h.7, h.8, h.9)

reads_token : (at : ℕ) (kind : TokenKind) (bytes : List ℕ) (len : ℕ) (ts : List Token) → TokenFound kind bytes len → Reads (at + len) ts (drop len bytes) → Reads at (token_at at kind len ∷ ts) bytes
reads_token at kind bytes len ts found h =
    let parts : bytes ≡ take len bytes ++ drop len bytes = sym (take-append-drop len bytes) in
    let end : at + len ≡ at + length (take len bytes) = ap (λ (n : ℕ). at + n) (sym (take_within len bytes found.within)) in
    let start : at ≡ at + 0 = omega arith in
    ([], take len bytes, drop len bytes, tt, parts, start, end, found.spelled, found.stopped, h)

reads_piece : (at : ℕ) (bytes : List ℕ) (piece : Piece) (us : List Token) → Found bytes piece → Reads (at + piece_len piece) us (drop (piece_len piece) bytes) → Reads at (piece_tokens at piece ++ us) bytes
reads_piece at bytes (Gap len) us found h =
    let next : at + len ≡ at + length (take len bytes) = ap (λ (n : ℕ). at + n) (sym (take_within len bytes found.within)) in
    let moved : Reads (at + length (take len bytes)) us (drop len bytes) = subst (λ (n : ℕ). Reads n us (drop len bytes)) next h in
    subst (λ (b : List ℕ). Reads at us b) (take-append-drop len bytes) (reads_gap at (take len bytes) (drop len bytes) us found.gap moved)
reads_piece at bytes (Spelling kind len) us found h = reads_token at kind bytes len us found h

keyword_some : (class : ℕ → Bool) (text : List ℕ) → IsKeyword class text → 0 < length text
keyword_some class [] h = absurd h
keyword_some class (b ∷ bs) h = omega arith

int_some : (text : List ℕ) → IsInt text → 0 < length text
int_some [] h = absurd h
int_some (b ∷ bs) h = omega arith

real_some : (text : List ℕ) → IsReal text → 0 < length text
real_some text h = omega (arith, ap length h.parts, length-append h.whole (46 ∷ (h.fraction ++ h.exponent)), int_some h.whole h.is_whole)

-- what equals some text with a first byte
filled_by : (b : ℕ) (bs text : List ℕ) → text ≡ b ∷ bs → 0 < length text
filled_by b bs text is = omega (arith, ap length is)

-- no spelling is empty
pub spelled_some : (kind : TokenKind) (text : List ℕ) → Spells kind text → 0 < length text
spelled_some Word text h = keyword_some is_word text h
spelled_some UserWord text h = filled_by 33 h.0 text h.1
spelled_some Name text h = filled_by 35 h.0 text h.1
spelled_some Int text h = int_some text h.0
spelled_some Real text h = real_some text h.0
spelled_some Text text h = filled_by 39 (h.0 ++ 39 ∷ []) text h.1
spelled_some Enumeration text h = filled_by 46 (h.0 ++ 46 ∷ []) text h.1
spelled_some Binary text h = filled_by 34 (h.0 ++ 34 ∷ []) text h.1
spelled_some Open text h = filled_by 40 [] text h
spelled_some Close text h = filled_by 41 [] text h
spelled_some Comma text h = filled_by 44 [] text h
spelled_some Semicolon text h = filled_by 59 [] text h
spelled_some Equals text h = filled_by 61 [] text h
spelled_some Dollar text h = filled_by 36 [] text h
spelled_some Star text h = filled_by 42 [] text h

pub gap_some : (gap : List ℕ) → IsGap gap → 0 < length gap
gap_some gap (inl h) = filled_by h.0 [] gap h.1
gap_some gap (inr h) = filled_by 47 (42 ∷ (h.0 ++ 42 ∷ 47 ∷ [])) gap h.1

pub piece_some : (bytes : List ℕ) (piece : Piece) → Found bytes piece → 0 < piece_len piece
piece_some bytes (Gap len) found = found.filled
piece_some bytes (Spelling kind len) found = omega (arith, take_within len bytes found.within, spelled_some kind (take len bytes) found.spelled)

-- what is behind the first piece
front_listed : (ts us : List Token) (r : Result (List Token) LexErr) → with_front ts r ≡ listed us → (vs : List Token) × (r ≡ listed vs) × (ts ++ vs ≡ us)
front_listed ts us (Ok vs) e = (vs, refl, listed_is (ts ++ vs) us e)
front_listed ts us (Err e) h = absurd (failed_not e us h)

found_step : (at b : ℕ) (bs : List ℕ) (ts : List Token) (next : ℕ → Result (List Token) LexErr) (r : Result Piece LexErr) → front at (b ∷ bs) ≡ r → tokens_behind at r next ≡ listed ts
    → ((len : ℕ) (us : List Token) → 0 < len → next len ≡ listed us → Reads (at + len) us (drop len (b ∷ bs))) → Reads at ts (b ∷ bs)
found_step at b bs ts next (Ok piece) is e more =
    let behind = front_listed (piece_tokens at piece) ts (next (piece_len piece)) e in
    let found = front_found at b bs piece is in
    subst (λ (us : List Token). Reads at us (b ∷ bs)) behind.2 (reads_piece at (b ∷ bs) piece behind.0 found (more (piece_len piece) behind.0 (piece_some (b ∷ bs) piece found) behind.1))
found_step at b bs ts next (Err e) is h more = absurd (failed_not e ts h)

found_in : (steps at : ℕ) (bytes : List ℕ) (ts : List Token) → length bytes ≤ steps → tokens_in steps at bytes ≡ listed ts → Reads at ts bytes
unfolding tokens_in
found_in zero at [] ts enough e = subst (λ (us : List Token). Reads at us []) (listed_is [] ts e) (reads_nothing at)
found_in zero at (b ∷ bs) ts enough e = absurd (omega arith)
found_in (suc steps) at [] ts enough e = subst (λ (us : List Token). Reads at us []) (listed_is [] ts e) (reads_nothing at)
found_in (suc steps) at (b ∷ bs) ts enough e =
    found_step at b bs ts (λ len. tokens_in steps (at + len) (drop len (b ∷ bs))) (front at (b ∷ bs)) refl e
    (λ len us some h. found_in steps (at + len) (drop len (b ∷ bs)) us (omega (arith, length-drop len (b ∷ bs))) h)

-- The tokens of bytes read them, wherever the first byte lies.
pub found_from : (at : ℕ) (bytes : List ℕ) (ts : List Token) → tokens_behind_place at bytes ≡ listed ts → Reads at ts bytes
unfolding tokens_behind_place
found_from at bytes ts e = found_in (length bytes) at bytes ts (omega arith) e

-- The tokens of a text read it.
pub found : (bytes : List ℕ) (ts : List Token) → tokens_of bytes ≡ listed ts → Reads 0 ts bytes
unfolding tokens_of
found bytes ts e = found_in (length bytes) 0 bytes ts (omega arith) e

-- ---- what reads the text is its tokens

pub filled_front : (text rest : List ℕ) → 0 < length text → 0 < length (text ++ rest)
filled_front text rest some = omega (arith, length-append text rest)

pub room_behind : (text rest : List ℕ) (steps less : ℕ) → 0 < length text → length (text ++ rest) ≤ steps → steps ≡ suc less → length rest ≤ less
room_behind text rest steps less some enough is = omega (arith, length-append text rest)

pub only_piece : (steps at : ℕ) (text rest : List ℕ) (piece : Piece) (r : Result (List Token) LexErr) → front at (text ++ rest) ≡ answered piece → piece_len piece ≡ length text → 0 < length text
    → length (text ++ rest) ≤ steps → ((s : ℕ) → length rest ≤ s → tokens_in s (at + length text) rest ≡ r) → tokens_in steps at (text ++ rest) ≡ with_front (piece_tokens at piece) r
only_piece steps at text rest piece r is len some enough more =
    let u = unrolled steps at (text ++ rest) (filled_front text rest some) enough in
    let behind : drop (piece_len piece) (text ++ rest) ≡ rest = drop_at text rest (piece_len piece) (sym len) in
    let next : tokens_in u.0 (at + piece_len piece) (drop (piece_len piece) (text ++ rest)) ≡ r = rw (behind, len) (more u.0 (room_behind text rest steps u.0 some enough u.1)) in
    u.2 ∙ ap (λ (x : Result Piece LexErr). tokens_behind at x (λ n. tokens_in u.0 (at + n) (drop n (text ++ rest)))) is ∙ ap (with_front (piece_tokens at piece)) next

pub only_gaps : (gaps : List (List ℕ)) (steps at : ℕ) (rest : List ℕ) (r : Result (List Token) LexErr) → AllByRecursion IsGap gaps → length (concat gaps ++ rest) ≤ steps
    → ((s : ℕ) → length rest ≤ s → tokens_in s (at + length (concat gaps)) rest ≡ r) → tokens_in steps at (concat gaps ++ rest) ≡ r
only_gaps [] steps at rest r here enough more = let same : at + 0 ≡ at = omega arith in subst (λ (n : ℕ). tokens_in steps n rest ≡ r) same (more steps enough)
only_gaps (gap ∷ gaps) steps at rest r here enough more =
    let parts : (gap ++ concat gaps) ++ rest ≡ gap ++ (concat gaps ++ rest) = append_assoc gap (concat gaps) rest in
    let behind : (s : ℕ) → length (concat gaps ++ rest) ≤ s → tokens_in s (at + length gap) (concat gaps ++ rest) ≡ r = λ s room. only_gaps gaps s (at + length gap) rest r here.1 room
    (λ k wide. let place : at + length gap + length (concat gaps) ≡ at + length (gap ++ concat gaps) = omega (arith, length-append gap (concat gaps)) in rw place (more k wide)) in
    rw parts (only_piece steps at gap (concat gaps ++ rest) (Gap (length gap)) r (gap_front gap (concat gaps ++ rest) here.0 at) refl (gap_some gap here.0) (rw (← parts) enough) behind ∙ with_front-nil r)

pub token_is : (t : Token) (start len : ℕ) → t.start ≡ start → t.end ≡ t.start + len → token_at start t.kind len ≡ t
token_is t start len at_start at_end =
    let end : start + len ≡ t.end = omega arith in
    ap (λ (x : ℕ). record t { start = x; end = start + len }) (sym at_start) ∙ ap (λ (x : ℕ). record t { end = x }) end

only_in : (ts : List Token) (steps at : ℕ) (bytes : List ℕ) → Reads at ts bytes → length bytes ≤ steps → tokens_in steps at bytes ≡ listed ts
only_in [] steps at bytes h enough =
    let parts : bytes ≡ concat h.0 ++ [] = h.2 ∙ sym (append-nil (concat h.0)) in
    rw parts (only_gaps h.0 steps at [] (listed []) h.1 (rw (← parts) enough) (λ s room. nothing_left s (at + length (concat h.0)) [] refl))
only_in (t ∷ ts) steps at bytes h enough =
    let gaps = h.0 in
    let text = h.1 in
    let rest = h.2 in
    let parts : bytes ≡ concat gaps ++ (text ++ rest) = h.4 in
    let start = at + length (concat gaps) in
    let token : token_at start t.kind (length text) ≡ t = token_is t start (length text) h.5 h.6 in
    let end : t.end ≡ start + length text = omega (arith, h.5, h.6) in
    let behind : (s : ℕ) → length rest ≤ s → tokens_in s (start + length text) rest ≡ listed ts = λ s room. rw (← end) (only_in ts s t.end rest h.9 room) in
    let here : (s : ℕ) → length (text ++ rest) ≤ s → tokens_in s start (text ++ rest) ≡ listed (token_at start t.kind (length text) ∷ ts) = λ s room. only_piece s start text rest (Spelling t.kind (length text)) (listed ts) (spelled_front t.kind text rest h.7 h.8 start) refl (spelled_some t.kind text h.7) room behind in
    let all : (s : ℕ) → length (text ++ rest) ≤ s → tokens_in s start (text ++ rest) ≡ listed (t ∷ ts) = λ s room. here s room ∙ ap (λ (x : Token). listed (x ∷ ts)) token in
    rw parts (only_gaps gaps steps at (text ++ rest) (listed (t ∷ ts)) h.3 (rw (← parts) enough) all)

-- What reads bytes is their tokens, wherever the first byte lies.
pub only_from : (at : ℕ) (bytes : List ℕ) (ts : List Token) → Reads at ts bytes → tokens_behind_place at bytes ≡ listed ts
unfolding tokens_behind_place
only_from at bytes ts h = only_in ts (length bytes) at bytes h (omega arith)

-- What reads a text is its tokens.
pub only : (bytes : List ℕ) (ts : List Token) → Reads 0 ts bytes → tokens_of bytes ≡ listed ts
unfolding tokens_of
only bytes ts h = only_in ts (length bytes) 0 bytes h (omega arith)

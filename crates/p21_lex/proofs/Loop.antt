-- Reading piece after piece, as a loop does.
use Rattle.std.proofs.Common.{◌≡◌, ℕ, zero, suc, ◌+◌, ◌<◌, ◌≤◌, List, [], ◌∷◌, ◌++◌, length, drop, Bool, true, false, eqb, Result, Ok, Err, refl, sym, ap, ◌∙◌, append_assoc, arith}
use Rattle.std.proofs.lemmas.List.{append-nil, length-drop}
use Rattle.std.proofs.lemmas.Bool.{eqb-true, eqb-false}
use Rattle.p21_lex.specs.declared.error.LexErr.{LexErr}
use Rattle.p21_lex.specs.declared.error.LexErr.TheVariants.{BadByte, BadName, OpenString, OpenComment, NumberTooLong, NoMemory}
use Rattle.p21_lex.specs.declared.token.Token.{Token}
use Rattle.p21_lex.specs.declared.piece.Piece.{Piece}
use Rattle.p21_lex.specs.Front.{front, piece_len}
use Rattle.p21_lex.specs.Tokens.{with_front, piece_tokens, tokens_behind, tokens_in, tokens_behind_place, tokens_of, Fails}

-- The tokens before are found; so many steps are left, and the rest is short enough for them.
pub record Reached (total : Result (List Token) LexErr) (before : List Token) (at : ℕ) (rest : List ℕ) : Type 0 where
  pub steps : ℕ
  pub enough : length rest ≤ steps
  pub so_far : with_front before (tokens_in steps at rest) ≡ total

with_front-with_front : (xs ys : List Token) (r : Result (List Token) LexErr) → with_front xs (with_front ys r) ≡ with_front (xs ++ ys) r
with_front-with_front xs ys (Ok zs) = ap (λ (ts : List Token). Ok ts) (sym (append_assoc xs ys zs))
with_front-with_front xs ys (Err e) = refl

pub with_front-nil : (r : Result (List Token) LexErr) → with_front [] r ≡ r
with_front-nil (Ok ts) = refl
with_front-nil (Err e) = refl

pub begun : (at : ℕ) (bytes : List ℕ) → Reached (tokens_behind_place at bytes) [] at bytes
unfolding tokens_behind_place
begun at bytes = record { steps = length bytes; enough = omega arith; so_far = with_front-nil (tokens_in (length bytes) at bytes) }

-- a text is read from its beginning on
pub from_start : (bytes : List ℕ) → tokens_behind_place 0 bytes ≡ tokens_of bytes
unfolding tokens_behind_place tokens_of
from_start bytes = refl

-- where a text isn't empty, its tokens are those of its front and of what is behind it
pub unrolled : (steps at : ℕ) (rest : List ℕ) → 0 < length rest → length rest ≤ steps
    → (less : ℕ) × (steps ≡ suc less) × (tokens_in steps at rest ≡ tokens_behind at (front at rest) (λ len. tokens_in less (at + len) (drop len rest)))
unfolding tokens_in
unrolled steps at [] filled enough = absurd (omega arith)
unrolled zero at (b ∷ bs) filled enough = absurd (omega arith)
unrolled (suc less) at (b ∷ bs) filled enough = (less, refl, refl)

-- one piece more
pub goes_on : (total : Result (List Token) LexErr) (before : List Token) (at : ℕ) (rest : List ℕ) (piece : Piece) → Reached total before at rest
    → 0 < length rest → front at rest ≡ Ok piece → 0 < piece_len piece → Reached total (before ++ piece_tokens at piece) (at + piece_len piece) (drop (piece_len piece) rest)
goes_on total before at rest piece reached filled is takes =
    let u = unrolled reached.steps at rest filled reached.enough in
    let behind : Result (List Token) LexErr = tokens_in u.0 (at + piece_len piece) (drop (piece_len piece) rest) in
    let one : tokens_in reached.steps at rest ≡ with_front (piece_tokens at piece) behind = u.2 ∙ ap (λ (r : Result Piece LexErr). tokens_behind at r (λ len. tokens_in u.0 (at + len) (drop len rest))) is in
    record {
      steps = u.0;
      enough = omega (arith, length-drop (piece_len piece) rest, u.1, reached.enough);
      so_far = sym (with_front-with_front before (piece_tokens at piece) behind) ∙ sym (ap (with_front before) one) ∙ reached.so_far;
    }

-- an error of the front is the text's
pub is_refused : (total : Result (List Token) LexErr) (before : List Token) (at : ℕ) (rest : List ℕ) (e : LexErr) → Reached total before at rest
    → 0 < length rest → front at rest ≡ Err e → total ≡ Err e
is_refused total before at rest e reached filled is =
    let u = unrolled reached.steps at rest filled reached.enough in
    let one : tokens_in reached.steps at rest ≡ Err e = u.2 ∙ ap (λ (r : Result Piece LexErr). tokens_behind at r (λ len. tokens_in u.0 (at + len) (drop len rest))) is in
    sym reached.so_far ∙ ap (with_front before) one

pub Fails-from : {X : Type 0} (e : LexErr) (said : Result X LexErr) → said ≡ Err e → Fails e said
Fails-from NoMemory said is = tt
Fails-from (BadByte at) said is = is
Fails-from (BadName at) said is = is
Fails-from (OpenString at) said is = is
Fails-from (OpenComment at) said is = is
Fails-from (NumberTooLong at) said is = is

pub fails : (total : Result (List Token) LexErr) (before : List Token) (at : ℕ) (rest : List ℕ) (e : LexErr) → Reached total before at rest
    → 0 < length rest → front at rest ≡ Err e → Fails e total
fails total before at rest e reached filled is = Fails-from e total (is_refused total before at rest e reached filled is)

pub nothing_left : (steps at : ℕ) (rest : List ℕ) → length rest ≡ 0 → tokens_in steps at rest ≡ Ok []
unfolding tokens_in
nothing_left zero at rest none = refl
nothing_left (suc steps) at [] none = refl
nothing_left (suc steps) at (b ∷ bs) none = absurd (omega arith)

pub is_done : (total : Result (List Token) LexErr) (before : List Token) (at : ℕ) (rest : List ℕ) → Reached total before at rest → length rest ≡ 0 → total ≡ Ok before
is_done total before at rest reached none =
    sym reached.so_far ∙ ap (with_front before) (nothing_left reached.steps at rest none) ∙ ap (λ (ts : List Token). Ok ts) (append-nil before)

-- what a test for emptiness says
pub is_empty : (rest : List ℕ) (answer : Bool) → answer ≡ eqb (length rest) 0 → answer ≡ true → length rest ≡ 0
is_empty rest answer is told = eqb-true (length rest) 0 (sym is ∙ told)

pub is_filled : (rest : List ℕ) (answer : Bool) → answer ≡ eqb (length rest) 0 → answer ≡ false → 0 < length rest
is_filled rest answer is told = let some : length rest ≡ 0 → ⊥ = eqb-false (length rest) 0 (sym is ∙ told) in omega arith

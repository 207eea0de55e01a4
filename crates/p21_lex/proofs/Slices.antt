-- Slices: what the loop of a slice has read, and that the first slice of a text is what it reads.
use Rattle.std.proofs.Common.{◌≡◌, ℕ, zero, suc, ◌+◌, ◌<◌, ◌≤◌, Bool, true, false, cond, ◌&&◌, ◌||◌, ◌==◌, List, [], ◌∷◌, ◌++◌, length, take, drop, Result, Ok, Err, refl, sym, ap, subst, ◌∙◌, ◌⊎◌, inl, inr, append_assoc, arith}
use Rattle.std.specs.Prelude.{All, IfOk, IfErr}
use Rattle.std.specs.Global.{Vec}
use Rattle.std.specs.List.{concat, AllByRecursion}
use Rattle.std.proofs.lemmas.List.{append-nil, take-append-drop, drop_at, take_at, length-append, length-drop}
use Rattle.p21_lex.specs.declared.error.LexErr.{LexErr}
use Rattle.p21_lex.specs.declared.error.LexErr.TheVariants.{BadByte, BadName, OpenString, OpenComment, NumberTooLong, NoMemory}
use Rattle.p21_lex.specs.declared.token.TokenKind.{TokenKind}
use Rattle.p21_lex.specs.declared.token.TokenKind.TheVariants.{Word, UserWord, Name, Int, Real, Text, Enumeration, Binary, Open, Close, Comma, Semicolon, Equals, Dollar, Star}
use Rattle.p21_lex.specs.declared.token.Token.{Token}
use Rattle.p21_lex.specs.declared.piece.Piece.{Piece}
use Rattle.p21_lex.specs.declared.piece.Piece.TheVariants.{Gap, Spelling}
use Rattle.p21_lex.specs.Class.{is_digit, is_sign}
use Rattle.p21_lex.specs.Front.{front, piece_len}
use Rattle.p21_lex.specs.Tokens.{token_at, piece_tokens, tokens_of, Fails, Gives}
use Rattle.p21_lex.specs.Reading.{IsGap, IsToken, Spells, Stops, Reads, begins_exponent}
use Rattle.p21_lex.specs.Refusal.{ReadsUpTo, IsFault}
use Rattle.p21_lex.specs.Slice.{Slice, ends_slice, piece_ends, with_slice, slice_behind, slice_in, slice_of, EndsAt, IsFirstSlice, IsRefusedSliceFrom, IsRefusedSlice}
use Rattle.p21_lex.proofs.Runs.{take_within}
use Rattle.p21_lex.proofs.Numbers.{Found, answered, refused}
use Rattle.p21_lex.proofs.Fronts.{front_found}
use Rattle.p21_lex.proofs.Loop.{Fails-from}
use Rattle.p21_lex.proofs.Spelled.{spelled_front, gap_front}
use Rattle.p21_lex.proofs.Whole.{spelled_some, gap_some, piece_some, filled_front, room_behind, token_is}
use Rattle.p21_lex.proofs.Whole.{only as all_only}
use Rattle.p21_lex.proofs.Places.{inside}
use Rattle.p21_lex.proofs.Pieces.{stops_at_end}
use Rattle.p21_lex.proofs.Refused.{front_fault, fault_refused}
use Rattle.p21_lex.proofs.Refusals.{upto_gap, upto_token, fault_some}

abbrev pub sliced : Slice → Result Slice LexErr
sliced s = Ok s

abbrev pub unsliced : LexErr → Result Slice LexErr
unsliced e = Err e

sliced_is : (s r : Slice) → sliced s ≡ sliced r → s ≡ r
sliced_is s r e = cc

unsliced_is : (d e : LexErr) → unsliced d ≡ unsliced e → d ≡ e
unsliced_is d e h = cc

unsliced_not : (e : LexErr) (s : Slice) → unsliced e ≡ sliced s → ⊥
unsliced_not e s h = cc

-- which of two a test chose
chosen : (t : Bool) (x y r : Result Slice LexErr) (P : Type 0) → cond t x y ≡ r → (t ≡ true → x ≡ r → P) → (t ≡ false → y ≡ r → P) → P
chosen true x y r P e yes_is no_is = yes_is refl e
chosen false x y r P e yes_is no_is = no_is refl e

-- what is behind the first piece
behind_sliced : (ts : List Token) (r : Result Slice LexErr) (s : Slice) → with_slice ts r ≡ sliced s → (us : List Token) × (len : ℕ) × (r ≡ sliced (us, len)) × ((ts ++ us, len) ≡ s)
behind_sliced ts (Ok u) s e = (u.0, u.1, refl, sliced_is (ts ++ u.0, u.1) s e)
behind_sliced ts (Err e) s h = absurd (unsliced_not e s h)

behind_unsliced : (ts : List Token) (r : Result Slice LexErr) (e : LexErr) → with_slice ts r ≡ unsliced e → r ≡ unsliced e
behind_unsliced ts (Ok u) e h = absurd (unsliced_not e (ts ++ u.0, u.1) (sym h))
behind_unsliced ts (Err d) e h = h

-- ---- what is read of a front is read of it alone

exponent_fewer : (x y z : Bool) → (x && (y || z)) ≡ false → (x && y) ≡ false
exponent_fewer true true z h = h
exponent_fewer true false z h = refl
exponent_fewer false y z h = refl

and_false : (x : Bool) → (x && false) ≡ false
and_false true = refl
and_false false = refl

exponent_less : (b : ℕ) (bs rest : List ℕ) → begins_exponent (b ∷ (bs ++ rest)) ≡ false → begins_exponent (b ∷ bs) ≡ false
exponent_less b [] rest h = and_false (b == 69)
exponent_less b (c ∷ []) [] h = h
exponent_less b (c ∷ []) (r ∷ rest) h = exponent_fewer (b == 69) (is_digit c) (is_sign c && is_digit r) h
exponent_less b (c ∷ d ∷ ds) rest h = h

stops_less : (kind : TokenKind) (text front rest : List ℕ) → Stops kind text (front ++ rest) → Stops kind text front
stops_less kind text [] rest h = stops_at_end kind text
stops_less Word text (b ∷ bs) rest h = h
stops_less UserWord text (b ∷ bs) rest h = h
stops_less Name text (b ∷ bs) rest h = h
stops_less Int text (b ∷ bs) rest h = h
stops_less Real text (b ∷ bs) rest h = (h.0, λ no. exponent_less b bs rest (h.1 no))
stops_less Text text (b ∷ bs) rest h = h
stops_less Enumeration text (b ∷ bs) rest h = tt
stops_less Binary text (b ∷ bs) rest h = tt
stops_less Open text (b ∷ bs) rest h = tt
stops_less Close text (b ∷ bs) rest h = tt
stops_less Comma text (b ∷ bs) rest h = tt
stops_less Semicolon text (b ∷ bs) rest h = tt
stops_less Equals text (b ∷ bs) rest h = tt
stops_less Dollar text (b ∷ bs) rest h = tt
stops_less Star text (b ∷ bs) rest h = tt

-- The front that tokens read up to a place.
pub record FrontRead (at : ℕ) (ts : List Token) (bytes : List ℕ) (place : ℕ) (rest : List ℕ) : Type 0 where
  pub front : List ℕ
  pub parts : bytes ≡ front ++ rest
  pub ends : place ≡ at + length front
  pub reads : Reads at ts front

parts_of : (gaps text front rest more bytes : List ℕ) → bytes ≡ gaps ++ (text ++ more) → more ≡ front ++ rest → bytes ≡ (gaps ++ (text ++ front)) ++ rest
parts_of gaps text front rest more bytes is behind =
    is ∙ ap (λ (xs : List ℕ). gaps ++ (text ++ xs)) behind ∙ ap (λ (xs : List ℕ). gaps ++ xs) (sym (append_assoc text front rest)) ∙ sym (append_assoc gaps (text ++ front) rest)

pub front_read : (ts : List Token) (at : ℕ) (bytes : List ℕ) (place : ℕ) (rest : List ℕ) → ReadsUpTo at ts bytes place rest → FrontRead at ts bytes place rest
front_read [] at bytes place rest h = record { front = concat h.0; parts = h.2; ends = h.3; reads = (h.0, h.1, refl) }
front_read (t ∷ ts) at bytes place rest h =
    let gaps = concat h.0 in
    let behind = front_read ts t.end h.2 place rest h.9 in
    let stops : Stops t.kind h.1 behind.front = stops_less t.kind h.1 behind.front rest (subst (λ (m : List ℕ). Stops t.kind h.1 m) behind.parts h.8) in
    record {
      front = gaps ++ (h.1 ++ behind.front);
      parts = parts_of gaps h.1 behind.front rest h.2 bytes h.4 behind.parts;
      ends = omega (arith, behind.ends, h.5, h.6, length-append gaps (h.1 ++ behind.front), length-append h.1 behind.front);
      reads = (h.0, h.1, behind.front, h.3, refl, h.5, h.6, h.7, stops, behind.reads);
    }

-- where a token is read, so is a byte
front_some : (t : Token) (ts : List Token) (at : ℕ) (front : List ℕ) → Reads at (t ∷ ts) front → 0 < length front
front_some t ts at front h = omega (arith, ap length h.4, length-append (concat h.0) (h.1 ++ h.2), length-append h.1 h.2, spelled_some t.kind h.1 h.7)

module _ (least : ℕ) where
  -- ---- the loop

  -- The tokens before are found, and none of them ended the slice; so many steps are left, and the rest is short enough for them.
  pub record Reached (total : Result Slice LexErr) (before : List Token) (at : ℕ) (rest : List ℕ) : Type 0 where
    pub steps : ℕ
    pub enough : length rest ≤ steps
    pub so_far : with_slice before (slice_in least steps at rest) ≡ total

  with_twice : (xs ys : List Token) (r : Result Slice LexErr) → with_slice xs (with_slice ys r) ≡ with_slice (xs ++ ys) r
  with_twice xs ys (Ok s) = ap (λ (ts : List Token). sliced (ts, s.1)) (sym (append_assoc xs ys s.0))
  with_twice xs ys (Err e) = refl

  with_nothing : (r : Result Slice LexErr) → with_slice [] r ≡ r
  with_nothing (Ok s) = refl
  with_nothing (Err e) = refl

  pub begun : (bytes : List ℕ) → Reached (slice_of least bytes) [] 0 bytes
  unfolding slice_of
  begun bytes = record { steps = length bytes; enough = omega arith; so_far = with_nothing (slice_in least (length bytes) 0 bytes) }

  -- where a text isn't empty, its slice is that of its front and of what is behind it
  unrolled : (steps at : ℕ) (rest : List ℕ) → 0 < length rest → length rest ≤ steps
      → (less : ℕ) × (steps ≡ suc less) × (slice_in least steps at rest ≡ slice_behind least at (front at rest) (λ len. slice_in least less (at + len) (drop len rest)))
  unfolding slice_in
  unrolled steps at [] filled enough = absurd (omega arith)
  unrolled zero at (b ∷ bs) filled enough = absurd (omega arith)
  unrolled (suc less) at (b ∷ bs) filled enough = (less, refl, refl)

  on_piece : (at : ℕ) (piece : Piece) (next : ℕ → Result Slice LexErr) → piece_ends least (at + piece_len piece) piece ≡ false → slice_behind least at (Ok piece) next ≡ with_slice (piece_tokens at piece) (next (piece_len piece))
  on_piece at piece next open_still = rw open_still refl

  last_piece : (at : ℕ) (piece : Piece) (next : ℕ → Result Slice LexErr) → piece_ends least (at + piece_len piece) piece ≡ true → slice_behind least at (Ok piece) next ≡ sliced (piece_tokens at piece, at + piece_len piece)
  last_piece at piece next yes_is = rw yes_is refl

  -- one piece more, which does not end the slice
  pub goes_on : (total : Result Slice LexErr) (before : List Token) (at : ℕ) (rest : List ℕ) (piece : Piece) → Reached total before at rest
      → 0 < length rest → front at rest ≡ Ok piece → 0 < piece_len piece → piece_ends least (at + piece_len piece) piece ≡ false
      → Reached total (before ++ piece_tokens at piece) (at + piece_len piece) (drop (piece_len piece) rest)
  goes_on total before at rest piece reached filled is takes open_still =
      let u = unrolled reached.steps at rest filled reached.enough in
      let next : ℕ → Result Slice LexErr = λ len. slice_in least u.0 (at + len) (drop len rest) in
      let one : slice_in least reached.steps at rest ≡ with_slice (piece_tokens at piece) (next (piece_len piece)) = u.2 ∙ ap (λ (r : Result Piece LexErr). slice_behind least at r next) is ∙ on_piece at piece next open_still in
      record {
        steps = u.0;
        enough = omega (arith, length-drop (piece_len piece) rest, u.1, reached.enough);
        so_far = sym (with_twice before (piece_tokens at piece) (next (piece_len piece))) ∙ sym (ap (with_slice before) one) ∙ reached.so_far;
      }

  -- the piece that ends it
  pub ended : (total : Result Slice LexErr) (before : List Token) (at : ℕ) (rest : List ℕ) (piece : Piece) → Reached total before at rest
      → 0 < length rest → front at rest ≡ Ok piece → piece_ends least (at + piece_len piece) piece ≡ true → total ≡ sliced (before ++ piece_tokens at piece, at + piece_len piece)
  ended total before at rest piece reached filled is yes_is =
      let u = unrolled reached.steps at rest filled reached.enough in
      let next : ℕ → Result Slice LexErr = λ len. slice_in least u.0 (at + len) (drop len rest) in
      let one : slice_in least reached.steps at rest ≡ sliced (piece_tokens at piece, at + piece_len piece) = u.2 ∙ ap (λ (r : Result Piece LexErr). slice_behind least at r next) is ∙ last_piece at piece next yes_is in
      sym reached.so_far ∙ ap (with_slice before) one

  -- an error of the front is the slice's
  pub fails : (total : Result Slice LexErr) (before : List Token) (at : ℕ) (rest : List ℕ) (e : LexErr) → Reached total before at rest
      → 0 < length rest → front at rest ≡ Err e → Fails e total
  fails total before at rest e reached filled is =
      let u = unrolled reached.steps at rest filled reached.enough in
      let next : ℕ → Result Slice LexErr = λ len. slice_in least u.0 (at + len) (drop len rest) in
      let one : slice_in least reached.steps at rest ≡ unsliced e = u.2 ∙ ap (λ (r : Result Piece LexErr). slice_behind least at r next) is in
      Fails-from e total (sym reached.so_far ∙ ap (with_slice before) one)

  nothing_left : (steps at : ℕ) (rest : List ℕ) → length rest ≡ 0 → slice_in least steps at rest ≡ sliced ([], at)
  unfolding slice_in
  nothing_left zero at rest none = refl
  nothing_left (suc steps) at [] none = refl
  nothing_left (suc steps) at (b ∷ bs) none = absurd (omega arith)

  -- all is read
  pub is_done : (total : Result Slice LexErr) (before : List Token) (at : ℕ) (rest : List ℕ) → Reached total before at rest → length rest ≡ 0 → total ≡ sliced (before, at)
  is_done total before at rest reached none =
      sym reached.so_far ∙ ap (with_slice before) (nothing_left reached.steps at rest none) ∙ ap (λ (ts : List Token). sliced (ts, at)) (append-nil before)

  -- ---- what is found is the first slice

  SliceFound : ℕ → List ℕ → List Token → ℕ → Type 0
  SliceFound at bytes ts len = (rest : List ℕ) × ReadsUpTo at ts bytes len rest × EndsAt least ts len (at + length bytes)

  slice_piece : (at : ℕ) (bytes : List ℕ) (piece : Piece) (us : List Token) (len : ℕ) → Found bytes piece → piece_ends least (at + piece_len piece) piece ≡ false
      → SliceFound (at + piece_len piece) (drop (piece_len piece) bytes) us len → SliceFound at bytes (piece_tokens at piece ++ us) len
  unfolding SliceFound
  slice_piece at bytes (Gap n) us len found open_still h =
      let next : at + n ≡ at + length (take n bytes) = ap (λ (k : ℕ). at + k) (sym (take_within n bytes found.within)) in
      let moved : ReadsUpTo (at + length (take n bytes)) us (drop n bytes) len h.0 = subst (λ (k : ℕ). ReadsUpTo k us (drop n bytes) len h.0) next h.1 in
      let size : (at + n) + length (drop n bytes) ≡ at + length bytes = omega (arith, length-drop n bytes, found.within) in
      (h.0, subst (λ (b : List ℕ). ReadsUpTo at us b len h.0) (take-append-drop n bytes) (upto_gap at (take n bytes) (drop n bytes) us len h.0 found.gap moved), subst (λ (k : ℕ). EndsAt least us len k) size h.2)
  slice_piece at bytes (Spelling kind n) us len found open_still h =
      let size : (at + n) + length (drop n bytes) ≡ at + length bytes = omega (arith, length-drop n bytes, found.within) in
      (h.0, upto_token at kind bytes n us len h.0 found h.1, inr (open_still, subst (λ (k : ℕ). EndsAt least us len k) size h.2))

  slice_last : (at : ℕ) (bytes : List ℕ) (piece : Piece) → Found bytes piece → piece_ends least (at + piece_len piece) piece ≡ true → SliceFound at bytes (piece_tokens at piece) (at + piece_len piece)
  unfolding SliceFound
  slice_last at bytes (Gap n) found yes_is = absurd (let bad : false ≡ true = yes_is in cc)
  slice_last at bytes (Spelling kind n) found yes_is =
      let here : at + n ≡ (at + n) + 0 = omega arith in
      (drop n bytes, upto_token at kind bytes n [] (at + n) (drop n bytes) found ([], tt, refl, here), inl (yes_is, refl, refl))

  found_step : (at b : ℕ) (bs : List ℕ) (ts : List Token) (len : ℕ) (next : ℕ → Result Slice LexErr) (r : Result Piece LexErr) → front at (b ∷ bs) ≡ r → slice_behind least at r next ≡ sliced (ts, len)
      → ((n : ℕ) (us : List Token) (m : ℕ) → 0 < n → next n ≡ sliced (us, m) → SliceFound (at + n) (drop n (b ∷ bs)) us m) → SliceFound at (b ∷ bs) ts len
  found_step at b bs ts len next (Ok piece) is e more =
      let found = front_found at b bs piece is in
      chosen (piece_ends least (at + piece_len piece) piece) (sliced (piece_tokens at piece, at + piece_len piece)) (with_slice (piece_tokens at piece) (next (piece_len piece))) (sliced (ts, len)) (SliceFound at (b ∷ bs) ts len) e
      (λ yes_is same. subst (λ (s : Slice). SliceFound at (b ∷ bs) s.0 s.1) (sliced_is _ _ same) (slice_last at (b ∷ bs) piece found yes_is))
      (λ open_still same.
      let behind = behind_sliced (piece_tokens at piece) (next (piece_len piece)) (ts, len) same in
      let rest = more (piece_len piece) behind.0 behind.1 (piece_some (b ∷ bs) piece found) behind.2 in
      subst (λ (s : Slice). SliceFound at (b ∷ bs) s.0 s.1) behind.3 (slice_piece at (b ∷ bs) piece behind.0 behind.1 found open_still rest))
  found_step at b bs ts len next (Err e) is h more = absurd (unsliced_not e (ts, len) h)

  nothing : (at : ℕ) (ts : List Token) (len : ℕ) → sliced ([], at) ≡ sliced (ts, len) → SliceFound at [] ts len
  unfolding SliceFound
  nothing at ts len e =
      let here : at ≡ at + 0 = omega arith in
      subst (λ (s : Slice). SliceFound at [] s.0 s.1) (sliced_is ([], at) (ts, len) e) ([], ([], tt, refl, here), here)

  found_in : (steps at : ℕ) (bytes : List ℕ) (ts : List Token) (len : ℕ) → length bytes ≤ steps → slice_in least steps at bytes ≡ sliced (ts, len) → SliceFound at bytes ts len
  unfolding slice_in
  found_in zero at [] ts len enough e = nothing at ts len e
  found_in zero at (b ∷ bs) ts len enough e = absurd (omega arith)
  found_in (suc steps) at [] ts len enough e = nothing at ts len e
  found_in (suc steps) at (b ∷ bs) ts len enough e =
      found_step at b bs ts len (λ n. slice_in least steps (at + n) (drop n (b ∷ bs))) (front at (b ∷ bs)) refl e
      (λ n us m some h. found_in steps (at + n) (drop n (b ∷ bs)) us m (omega (arith, length-drop n (b ∷ bs))) h)

  pub found : (bytes : List ℕ) (ts : List Token) (len : ℕ) → slice_of least bytes ≡ sliced (ts, len) → IsFirstSlice bytes least ts len
  unfolding slice_of SliceFound
  found bytes ts len e =
      let h = found_in (length bytes) 0 bytes ts len (omega arith) e in
      let read = front_read ts 0 bytes len h.0 h.1 in
      let rest : h.0 ≡ drop len bytes = sym (ap (drop len) read.parts ∙ drop_at read.front h.0 len (omega (arith, read.ends))) in
      let size : 0 + length bytes ≡ length bytes = omega arith in
      record { reads = subst (λ (r : List ℕ). ReadsUpTo 0 ts bytes len r) rest h.1; ends = subst (λ (k : ℕ). EndsAt least ts len k) size h.2 }

  -- ---- what is the first slice is found

  only_piece : (steps at : ℕ) (text rest : List ℕ) (piece : Piece) (r : Result Slice LexErr) → front at (text ++ rest) ≡ answered piece → piece_len piece ≡ length text → 0 < length text
      → piece_ends least (at + piece_len piece) piece ≡ false → length (text ++ rest) ≤ steps → ((s : ℕ) → length rest ≤ s → slice_in least s (at + length text) rest ≡ r)
      → slice_in least steps at (text ++ rest) ≡ with_slice (piece_tokens at piece) r
  only_piece steps at text rest piece r is len some open_still enough more =
      let u = unrolled steps at (text ++ rest) (filled_front text rest some) enough in
      let next : ℕ → Result Slice LexErr = λ n. slice_in least u.0 (at + n) (drop n (text ++ rest)) in
      let behind : drop (piece_len piece) (text ++ rest) ≡ rest = drop_at text rest (piece_len piece) (sym len) in
      let then : slice_in least u.0 (at + piece_len piece) (drop (piece_len piece) (text ++ rest)) ≡ r = rw (behind, len) (more u.0 (room_behind text rest steps u.0 some enough u.1)) in
      u.2 ∙ ap (λ (x : Result Piece LexErr). slice_behind least at x next) is ∙ on_piece at piece next open_still ∙ ap (with_slice (piece_tokens at piece)) then

  only_last : (steps at : ℕ) (text rest : List ℕ) (piece : Piece) → front at (text ++ rest) ≡ answered piece → 0 < length text → piece_ends least (at + piece_len piece) piece ≡ true → length (text ++ rest) ≤ steps
      → slice_in least steps at (text ++ rest) ≡ sliced (piece_tokens at piece, at + piece_len piece)
  only_last steps at text rest piece is some yes_is enough =
      let u = unrolled steps at (text ++ rest) (filled_front text rest some) enough in
      let next : ℕ → Result Slice LexErr = λ n. slice_in least u.0 (at + n) (drop n (text ++ rest)) in
      u.2 ∙ ap (λ (x : Result Piece LexErr). slice_behind least at x next) is ∙ last_piece at piece next yes_is

  only_gaps : (gaps : List (List ℕ)) (steps at : ℕ) (rest : List ℕ) (r : Result Slice LexErr) → AllByRecursion IsGap gaps → length (concat gaps ++ rest) ≤ steps
      → ((s : ℕ) → length rest ≤ s → slice_in least s (at + length (concat gaps)) rest ≡ r) → slice_in least steps at (concat gaps ++ rest) ≡ r
  only_gaps [] steps at rest r here enough more = let same : at + 0 ≡ at = omega arith in subst (λ (n : ℕ). slice_in least steps n rest ≡ r) same (more steps enough)
  only_gaps (gap ∷ gaps) steps at rest r here enough more =
      let parts : (gap ++ concat gaps) ++ rest ≡ gap ++ (concat gaps ++ rest) = append_assoc gap (concat gaps) rest in
      let behind : (s : ℕ) → length (concat gaps ++ rest) ≤ s → slice_in least s (at + length gap) (concat gaps ++ rest) ≡ r = λ s room. only_gaps gaps s (at + length gap) rest r here.1 room
      (λ k wide. let place : at + length gap + length (concat gaps) ≡ at + length (gap ++ concat gaps) = omega (arith, length-append gap (concat gaps)) in rw place (more k wide)) in
      rw parts (only_piece steps at gap (concat gaps ++ rest) (Gap (length gap)) r (gap_front gap (concat gaps ++ rest) here.0 at) refl (gap_some gap here.0) refl (rw (← parts) enough) behind ∙ with_nothing r)

  -- a token at the front that does not end the slice
  only_token : (t : Token) (steps start : ℕ) (text rest : List ℕ) (r : Result Slice LexErr) → t.start ≡ start → t.end ≡ t.start + length text → Spells t.kind text → Stops t.kind text rest → ends_slice least t ≡ false
      → length (text ++ rest) ≤ steps → ((s : ℕ) → length rest ≤ s → slice_in least s t.end rest ≡ r) → slice_in least steps start (text ++ rest) ≡ with_slice (t ∷ []) r
  only_token t steps start text rest r at_start at_end spelled stopped open_still enough more =
      let token : token_at start t.kind (length text) ≡ t = token_is t start (length text) at_start at_end in
      let end : t.end ≡ start + length text = omega (arith, at_start, at_end) in
      let quiet : ends_slice least (token_at start t.kind (length text)) ≡ false = subst (λ (x : Token). ends_slice least x ≡ false) (sym token) open_still in
      only_piece steps start text rest (Spelling t.kind (length text)) r (spelled_front t.kind text rest spelled stopped start) refl (spelled_some t.kind text spelled) quiet enough
      (λ s room. subst (λ (k : ℕ). slice_in least s k rest ≡ r) end (more s room)) ∙ ap (λ (x : Token). with_slice (x ∷ []) r) token

  token_in : (t : Token) (ts : List Token) (steps at len : ℕ) (gaps text rest bytes : List ℕ) → bytes ≡ gaps ++ (text ++ rest) → t.start ≡ at + length gaps → t.end ≡ t.start + length text → Spells t.kind text → Stops t.kind text rest
      → length (text ++ rest) ≤ steps → (EndsAt least ts len (t.end + length rest) → (s : ℕ) → length rest ≤ s → slice_in least s t.end rest ≡ sliced (ts, len)) → EndsAt least (t ∷ ts) len (at + length bytes)
      → slice_in least steps (at + length gaps) (text ++ rest) ≡ sliced (t ∷ ts, len)
  token_in t ts steps at len gaps text rest bytes parts at_start at_end spelled stopped room more (inl last) =
      let start = at + length gaps in
      let token : token_at start t.kind (length text) ≡ t = token_is t start (length text) at_start at_end in
      let yes_is : ends_slice least (token_at start t.kind (length text)) ≡ true = subst (λ (x : Token). ends_slice least x ≡ true) (sym token) last.0 in
      let end : start + length text ≡ len = omega (arith, at_start, at_end, last.2) in
      only_last steps start text rest (Spelling t.kind (length text)) (spelled_front t.kind text rest spelled stopped start) (spelled_some t.kind text spelled) yes_is room
      ∙ ap (λ (x : Token). sliced (x ∷ [], start + length text)) token ∙ ap (λ (k : ℕ). sliced (t ∷ [], k)) end ∙ ap (λ (us : List Token). sliced (t ∷ us, len)) (sym last.1)
  token_in t ts steps at len gaps text rest bytes parts at_start at_end spelled stopped room more (inr others) =
      let size : at + length bytes ≡ t.end + length rest = omega (arith, ap length parts, length-append gaps (text ++ rest), length-append text rest, at_start, at_end) in
      let ends_there : EndsAt least ts len (t.end + length rest) = subst (λ (k : ℕ). EndsAt least ts len k) size others.1 in
      only_token t steps (at + length gaps) text rest (sliced (ts, len)) at_start at_end spelled stopped others.0 room (more ends_there)

  only_in : (ts : List Token) (steps at : ℕ) (bytes : List ℕ) (len : ℕ) (left : List ℕ) → ReadsUpTo at ts bytes len left → EndsAt least ts len (at + length bytes) → length bytes ≤ steps → slice_in least steps at bytes ≡ sliced (ts, len)
  only_in [] steps at bytes len left h ends enough =
      let none : length left ≡ 0 = omega (arith, ap length h.2, length-append (concat h.0) left, h.3, ends) in
      let there : (s : ℕ) → length left ≤ s → slice_in least s (at + length (concat h.0)) left ≡ sliced ([], len) = λ s room. nothing_left s (at + length (concat h.0)) left none ∙ ap (λ (k : ℕ). sliced ([], k)) (sym h.3) in
      rw h.2 (only_gaps h.0 steps at left (sliced ([], len)) h.1 (subst (λ (b : List ℕ). length b ≤ steps) h.2 enough) there)
  only_in (t ∷ ts) steps at bytes len left h ends enough =
      let here : (s : ℕ) → length (h.1 ++ h.2) ≤ s → slice_in least s (at + length (concat h.0)) (h.1 ++ h.2) ≡ sliced (t ∷ ts, len) = λ s room.
      token_in t ts s at len (concat h.0) h.1 h.2 bytes h.4 h.5 h.6 h.7 h.8 room (λ ends_there k wide. only_in ts k t.end h.2 len left h.9 ends_there wide) ends in
      rw h.4 (only_gaps h.0 steps at (h.1 ++ h.2) (sliced (t ∷ ts, len)) h.3 (subst (λ (b : List ℕ). length b ≤ steps) h.4 enough) here)

  pub only : (bytes : List ℕ) (ts : List Token) (len : ℕ) → IsFirstSlice bytes least ts len → slice_of least bytes ≡ sliced (ts, len)
  unfolding slice_of
  only bytes ts len h =
      let size : length bytes ≡ 0 + length bytes = omega arith in
      only_in ts (length bytes) 0 bytes len (drop len bytes) h.reads (subst (λ (k : ℕ). EndsAt least ts len k) size h.ends) (omega arith)

  -- ---- what is refused has a fault

  refused_piece : (at : ℕ) (bytes : List ℕ) (piece : Piece) (e : LexErr) → Found bytes piece → piece_ends least (at + piece_len piece) piece ≡ false
      → IsRefusedSliceFrom (at + piece_len piece) (drop (piece_len piece) bytes) least e → IsRefusedSliceFrom at bytes least e
  refused_piece at bytes (Gap n) e found open_still h =
      let next : at + n ≡ at + length (take n bytes) = ap (λ (k : ℕ). at + k) (sym (take_within n bytes found.within)) in
      let moved : ReadsUpTo (at + length (take n bytes)) h.0 (drop n bytes) h.1 h.2 = subst (λ (k : ℕ). ReadsUpTo k h.0 (drop n bytes) h.1 h.2) next h.3 in
      (h.0, h.1, h.2, subst (λ (b : List ℕ). ReadsUpTo at h.0 b h.1 h.2) (take-append-drop n bytes) (upto_gap at (take n bytes) (drop n bytes) h.0 h.1 h.2 found.gap moved), h.4, h.5)
  refused_piece at bytes (Spelling kind n) e found open_still h = (token_at at kind n ∷ h.0, h.1, h.2, upto_token at kind bytes n h.0 h.1 h.2 found h.3, h.4, (open_still, h.5))

  refused_step : (at b : ℕ) (bs : List ℕ) (e : LexErr) (next : ℕ → Result Slice LexErr) (r : Result Piece LexErr) → front at (b ∷ bs) ≡ r → slice_behind least at r next ≡ unsliced e
      → ((n : ℕ) → 0 < n → next n ≡ unsliced e → IsRefusedSliceFrom (at + n) (drop n (b ∷ bs)) least e) → IsRefusedSliceFrom at (b ∷ bs) least e
  refused_step at b bs e next (Ok piece) is h more =
      let found = front_found at b bs piece is in
      chosen (piece_ends least (at + piece_len piece) piece) (sliced (piece_tokens at piece, at + piece_len piece)) (with_slice (piece_tokens at piece) (next (piece_len piece))) (unsliced e) (IsRefusedSliceFrom at (b ∷ bs) least e) h
      (λ yes_is same. absurd (unsliced_not e (piece_tokens at piece, at + piece_len piece) (sym same)))
      (λ open_still same. refused_piece at (b ∷ bs) piece e found open_still (more (piece_len piece) (piece_some (b ∷ bs) piece found) (behind_unsliced (piece_tokens at piece) (next (piece_len piece)) e same)))
  refused_step at b bs e next (Err d) is h more =
      let start : at ≡ at + 0 = omega arith in
      ([], at, b ∷ bs, ([], tt, refl, start), front_fault at b bs e (is ∙ ap refused (unsliced_is d e h)), tt)

  refused_in : (steps at : ℕ) (bytes : List ℕ) (e : LexErr) → length bytes ≤ steps → slice_in least steps at bytes ≡ unsliced e → IsRefusedSliceFrom at bytes least e
  unfolding slice_in
  refused_in zero at bytes e enough h = absurd (unsliced_not e ([], at) (sym h))
  refused_in (suc steps) at [] e enough h = absurd (unsliced_not e ([], at) (sym h))
  refused_in (suc steps) at (b ∷ bs) e enough h =
      refused_step at b bs e (λ n. slice_in least steps (at + n) (drop n (b ∷ bs))) (front at (b ∷ bs)) refl h
      (λ n some next. refused_in steps (at + n) (drop n (b ∷ bs)) e (omega (arith, length-drop n (b ∷ bs))) next)

  pub is_refused : (bytes : List ℕ) (e : LexErr) → slice_of least bytes ≡ unsliced e → IsRefusedSlice bytes least e
  unfolding slice_of
  is_refused bytes e h = refused_in (length bytes) 0 bytes e (omega arith) h

  -- ---- a fault is refused

  fault_in : (steps place : ℕ) (rest : List ℕ) (e : LexErr) → IsFault place rest e → length rest ≤ steps → slice_in least steps place rest ≡ unsliced e
  fault_in steps place rest e fault enough =
      let u = unrolled steps place rest (fault_some place rest e fault) enough in
      u.2 ∙ ap (λ (x : Result Piece LexErr). slice_behind least place x (λ n. slice_in least u.0 (place + n) (drop n rest))) (fault_refused place rest e fault)

  upto_in : (ts : List Token) (steps at : ℕ) (bytes : List ℕ) (place : ℕ) (left : List ℕ) (e : LexErr) → ReadsUpTo at ts bytes place left → IsFault place left e → AllByRecursion (λ t. ends_slice least t ≡ false) ts
      → length bytes ≤ steps → slice_in least steps at bytes ≡ unsliced e
  upto_in [] steps at bytes place left e h fault quiet enough =
      let there : (s : ℕ) → length left ≤ s → slice_in least s (at + length (concat h.0)) left ≡ unsliced e = λ s room. rw (← h.3) (fault_in s place left e fault room) in
      rw h.2 (only_gaps h.0 steps at left (unsliced e) h.1 (subst (λ (b : List ℕ). length b ≤ steps) h.2 enough) there)
  upto_in (t ∷ ts) steps at bytes place left e h fault quiet enough =
      let start = at + length (concat h.0) in
      let here : (s : ℕ) → length (h.1 ++ h.2) ≤ s → slice_in least s start (h.1 ++ h.2) ≡ unsliced e = λ s room.
      only_token t s start h.1 h.2 (unsliced e) h.5 h.6 h.7 h.8 quiet.0 room (λ k wide. upto_in ts k t.end h.2 place left e h.9 fault quiet.1 wide) in
      rw h.4 (only_gaps h.0 steps at (h.1 ++ h.2) (unsliced e) h.3 (subst (λ (b : List ℕ). length b ≤ steps) h.4 enough) here)

  pub refuses : (bytes : List ℕ) (e : LexErr) → IsRefusedSlice bytes least e → slice_of least bytes ≡ unsliced e
  unfolding slice_of
  refuses bytes e h = upto_in h.0 (length bytes) 0 bytes h.1 h.2 e h.3 h.4 h.5 (omega arith)

  -- ---- the same of what a call answered

  -- the slice as a text of its own
  pub record Itself (bytes : List ℕ) (ts : List Token) (len : ℕ) : Type 0 where
    pub reads : Reads 0 ts (take len bytes)
    pub within : len ≤ length bytes

  itself : (bytes : List ℕ) (ts : List Token) (len : ℕ) → IsFirstSlice bytes least ts len → Itself bytes ts len
  itself bytes ts len h =
      let read = front_read ts 0 bytes len (drop len bytes) h.reads in
      let size : length read.front ≡ len = omega (arith, read.ends) in
      let front : read.front ≡ take len bytes = sym (ap (take len) read.parts ∙ take_at read.front (drop len bytes) len size) in
      record { reads = subst (λ (b : List ℕ). Reads 0 ts b) front read.reads; within = omega (arith, read.ends, ap length read.parts, length-append read.front (drop len bytes)) }

  takes_some : (ts : List Token) (len : ℕ) (bytes : List ℕ) → Reads 0 ts (take len bytes) → len ≤ length bytes → EndsAt least ts len (length bytes) → 0 < length bytes → 0 < len
  takes_some [] len bytes reads within ends some = omega (arith, ends)
  takes_some (t ∷ ts) len bytes reads within ends some = let there = front_some t ts 0 (take len bytes) reads in omega (arith, take_within len bytes within)

  pub call_found : (bytes : List ℕ) (r : Result (Vec Token × ℕ) LexErr) → Gives {Y = Slice} (λ r. (r.0.items, r.1)) r (slice_of least bytes) → IfOk r (λ r. IsFirstSlice bytes least r.0.items r.1)
  call_found bytes (Ok v) given = found bytes v.0.items v.1 given
  call_found bytes (Err e) given = tt

  pub call_only : (bytes : List ℕ) (r : Result (Vec Token × ℕ) LexErr) → Gives {Y = Slice} (λ r. (r.0.items, r.1)) r (slice_of least bytes) → (ts : List Token) (len : ℕ) → IsFirstSlice bytes least ts len
      → Gives {Y = Slice} (λ r. (r.0.items, r.1)) r (Ok (ts, len))
  call_only bytes r given ts len h = subst (λ (said : Result Slice LexErr). Gives {Y = Slice} (λ r. (r.0.items, r.1)) r said) (only bytes ts len h) given

  pub call_reads : (bytes : List ℕ) (r : Result (Vec Token × ℕ) LexErr) → Gives {Y = Slice} (λ r. (r.0.items, r.1)) r (slice_of least bytes) → IfOk r (λ r. Reads 0 r.0.items (take r.1 bytes))
  call_reads bytes (Ok v) given = (itself bytes v.0.items v.1 (found bytes v.0.items v.1 given)).reads
  call_reads bytes (Err e) given = tt

  pub call_exact : (bytes : List ℕ) (r : Result (Vec Token × ℕ) LexErr) → Gives {Y = Slice} (λ r. (r.0.items, r.1)) r (slice_of least bytes) → IfOk r (λ r. tokens_of (take r.1 bytes) ≡ Ok r.0.items)
  call_exact bytes (Ok v) given = all_only (take v.1 bytes) v.0.items (itself bytes v.0.items v.1 (found bytes v.0.items v.1 given)).reads
  call_exact bytes (Err e) given = tt

  pub call_inside : (bytes : List ℕ) (r : Result (Vec Token × ℕ) LexErr) → Gives {Y = Slice} (λ r. (r.0.items, r.1)) r (slice_of least bytes) → IfOk r (λ r. All (IsToken (take r.1 bytes)) r.0.items)
  call_inside bytes (Ok v) given = inside (take v.1 bytes) v.0.items (itself bytes v.0.items v.1 (found bytes v.0.items v.1 given)).reads
  call_inside bytes (Err e) given = tt

  pub call_within : (bytes : List ℕ) (r : Result (Vec Token × ℕ) LexErr) → Gives {Y = Slice} (λ r. (r.0.items, r.1)) r (slice_of least bytes) → IfOk r (λ r. r.1 ≤ length bytes)
  call_within bytes (Ok v) given = (itself bytes v.0.items v.1 (found bytes v.0.items v.1 given)).within
  call_within bytes (Err e) given = tt

  pub call_filled : (bytes : List ℕ) (r : Result (Vec Token × ℕ) LexErr) → Gives {Y = Slice} (λ r. (r.0.items, r.1)) r (slice_of least bytes) → 0 < length bytes → IfOk r (λ r. 0 < r.1)
  call_filled bytes (Ok v) given some =
      let first = found bytes v.0.items v.1 given in
      let alone = itself bytes v.0.items v.1 first in
      takes_some v.0.items v.1 bytes alone.reads alone.within first.ends some
  call_filled bytes (Err e) given some = tt

  pub call_refused : (bytes : List ℕ) (r : Result (Vec Token × ℕ) LexErr) → Gives {Y = Slice} (λ r. (r.0.items, r.1)) r (slice_of least bytes) → IfErr r (λ e. (e ≡ NoMemory) ⊎ IsRefusedSlice bytes least e)
  call_refused bytes (Ok v) given = tt
  call_refused bytes (Err NoMemory) given = inl refl
  call_refused bytes (Err (BadByte at)) given = inr (is_refused bytes (BadByte at) given)
  call_refused bytes (Err (BadName at)) given = inr (is_refused bytes (BadName at) given)
  call_refused bytes (Err (OpenString at)) given = inr (is_refused bytes (OpenString at) given)
  call_refused bytes (Err (OpenComment at)) given = inr (is_refused bytes (OpenComment at) given)
  call_refused bytes (Err (NumberTooLong at)) given = inr (is_refused bytes (NumberTooLong at) given)

  pub call_refuses : (bytes : List ℕ) (r : Result (Vec Token × ℕ) LexErr) → Gives {Y = Slice} (λ r. (r.0.items, r.1)) r (slice_of least bytes) → (e : LexErr) → IsRefusedSlice bytes least e
      → Gives {Y = Slice} (λ r. (r.0.items, r.1)) r (Err e)
  call_refuses bytes r given e h = subst (λ (said : Result Slice LexErr). Gives {Y = Slice} (λ r. (r.0.items, r.1)) r said) (refuses bytes e h) given

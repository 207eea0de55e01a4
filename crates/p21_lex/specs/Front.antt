-- What stands at the front of a text: a blank, a comment or a token, or why none of them does.
use Rattle.std.specs.Prelude.{ℕ, ◌+◌, ◌&&◌, ◌||◌, ◌==◌, nat_lt, nat_le, if◌then◌else◌, List, [], ◌∷◌, take, drop, slice_index, count_by, Option, Some, None, Result, Ok, Err}
use Rattle.std.specs.List.{prefix_len}
use Rattle.std.specs.Str.Parse.{digits_value}
use Rattle.p21_lex.specs.declared.number.TheConstants.{MAX_DIGITS, MAX_NAME}
use Rattle.p21_lex.specs.declared.error.LexErr.{LexErr}
use Rattle.p21_lex.specs.declared.error.LexErr.TheVariants.{BadByte, BadName, OpenString, OpenComment, NumberTooLong}
use Rattle.p21_lex.specs.declared.token.TokenKind.{TokenKind}
use Rattle.p21_lex.specs.declared.token.TokenKind.TheVariants as kinds
use Rattle.p21_lex.specs.declared.piece.Piece.{Piece}
use Rattle.p21_lex.specs.declared.piece.Piece.TheVariants.{Gap, Spelling}
use Rattle.p21_lex.specs.declared.scan.Unclosed.{Unclosed}
use Rattle.p21_lex.specs.declared.scan.Unclosed.TheVariants.{Cut, Bad}
use Rattle.p21_lex.specs.Class.{is_digit, is_upper, is_plain, is_word, is_sign, is_blank}
use Rattle.p21_lex.specs.Number.{digits_len, int_len, fraction_len}
use Rattle.p21_lex.specs.Scan.{text_end, binary_end, comment_end}

-- a number: an integer, or a real where a point follows
unfoldable pub number : ℕ → List ℕ → Result Piece LexErr
number at bytes =
    let whole = int_len bytes in
    let len = whole + fraction_len (drop whole bytes) in
    if whole == 0 then Err (BadByte at)
    else (if nat_lt MAX_DIGITS (count_by is_digit (take len bytes)) then Err (NumberTooLong at)
    else Ok (Spelling (if fraction_len (drop whole bytes) == 0 then kinds.Int else kinds.Real) len))

-- a name, behind its mark
unfoldable pub name : ℕ → List ℕ → Result Piece LexErr
name at bytes =
    let digits = digits_len bytes in
    let value = digits_value 10 (take digits bytes) in
    if digits == 0 then Err (BadByte at)
    else (if nat_le 1 value && nat_le value MAX_NAME then Ok (Spelling kinds.Name (1 + digits)) else Err (BadName at))

-- a user's keyword, behind its mark
unfoldable pub user_word : ℕ → List ℕ → Result Piece LexErr
user_word at [] = Err (BadByte at)
user_word at (b ∷ bs) = if is_upper b then Ok (Spelling kinds.UserWord (2 + prefix_len is_plain bs)) else Err (BadByte at)

-- an enumeration, behind its first point
unfoldable pub enumeration : ℕ → List ℕ → Result Piece LexErr
enumeration at [] = Err (BadByte at)
enumeration at (b ∷ bs) =
    if is_upper b && (slice_index bs (prefix_len is_plain bs) == 46) then Ok (Spelling kinds.Enumeration (3 + prefix_len is_plain bs))
    else Err (BadByte at)

-- a text or a binary, behind its opening mark
abbrev pub closed : TokenKind → ℕ → Result ℕ Unclosed → Result Piece LexErr
closed kind at (Ok len) = Ok (Spelling kind (1 + len))
closed kind at (Err Cut) = Err (OpenString at)
closed kind at (Err (Bad k)) = Err (BadByte (at + 1 + k))

-- a comment, behind its opening mark
abbrev pub commented : ℕ → Result ℕ Unclosed → Result Piece LexErr
commented at (Ok len) = Ok (Gap (2 + len))
commented at (Err Cut) = Err (OpenComment at)
commented at (Err (Bad k)) = Err (BadByte (at + 2 + k))

-- what stands behind a slash
unfoldable pub comment : ℕ → List ℕ → Result Piece LexErr
comment at [] = Err (BadByte at)
comment at (b ∷ bs) = if b == 42 then commented at (comment_end bs) else Err (BadByte at)

-- the tokens of one byte
unfoldable pub mark : ℕ → Option TokenKind
mark b =
    if b == 40 then Some kinds.Open
    else (if b == 41 then Some kinds.Close
    else (if b == 44 then Some kinds.Comma
    else (if b == 59 then Some kinds.Semicolon
    else (if b == 61 then Some kinds.Equals
    else (if b == 36 then Some kinds.Dollar
    else (if b == 42 then Some kinds.Star
    else None))))))

abbrev pub marked : ℕ → Option TokenKind → Result Piece LexErr
marked at (Some kind) = Ok (Spelling kind 1)
marked at None = Err (BadByte at)

-- At the front of bytes of which the first lies at a place: an empty text has a gap of no bytes.
unfoldable pub front : ℕ → List ℕ → Result Piece LexErr
front at [] = Ok (Gap 0)
front at (b ∷ bs) =
    if is_blank b then Ok (Gap 1)
    else (if is_upper b then Ok (Spelling kinds.Word (1 + prefix_len is_word bs))
    else (if is_sign b || is_digit b then number at (b ∷ bs)
    else (if b == 33 then user_word at bs
    else (if b == 35 then name at bs
    else (if b == 39 then closed kinds.Text at (text_end bs)
    else (if b == 46 then enumeration at bs
    else (if b == 34 then closed kinds.Binary at (binary_end bs)
    else (if b == 47 then comment at bs
    else marked at (mark b)))))))))

-- how many bytes a piece takes
abbrev pub piece_len : Piece → ℕ
piece_len (Gap len) = len
piece_len (Spelling kind len) = len

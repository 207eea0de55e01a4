-- Where a text, a binary and a comment end: so many bytes behind the opening mark, up to the closing mark and with it.
use Rattle.std.specs.Prelude.{ℕ, ◌+◌, ◌<◌, ◌==◌, nat_eq, if◌then◌else◌, List, [], ◌∷◌, Result, Ok, Err}
use Rattle.std.specs.List.{starts_with}
use Rattle.p21_lex.specs.declared.scan.Unclosed.{Unclosed}
use Rattle.p21_lex.specs.declared.scan.Unclosed.TheVariants.{Cut, Bad}
use Rattle.p21_lex.specs.Class.{is_hex, is_legal}

-- the same, seen from so many bytes before
abbrev pub shifted : ℕ → Result ℕ Unclosed → Result ℕ Unclosed
shifted n (Ok len) = Ok (n + len)
shifted n (Err Cut) = Err Cut
shifted n (Err (Bad k)) = Err (Bad (n + k))

-- A text ends at the first apostrophe that is no half of a pair.
unfoldable pub text_end : List ℕ → Result ℕ Unclosed
text_end [] = Err Cut
text_end (b ∷ []) = if b == 39 then Ok 1 else (if is_legal b then Err Cut else Err (Bad 0))
text_end (b ∷ c ∷ bs) =
    if b == 39 then (if c == 39 then shifted 2 (text_end bs) else Ok 1)
    else (if is_legal b then shifted 1 (text_end (c ∷ bs)) else Err (Bad 0))

-- A binary ends at the first quotation mark.
unfoldable pub binary_end : List ℕ → Result ℕ Unclosed
binary_end [] = Err Cut
binary_end (b ∷ bs) = if b == 34 then Ok 1 else (if is_hex b then shifted 1 (binary_end bs) else Err (Bad 0))

-- A comment ends with the first */.
unfoldable pub comment_end : List ℕ → Result ℕ Unclosed
comment_end [] = Err Cut
comment_end (b ∷ bs) =
    if starts_with nat_eq (b ∷ bs) (42 ∷ 47 ∷ []) then Ok 2
    else (if is_legal b then shifted 1 (comment_end bs) else Err (Bad 0))

-- The byte that may not stand there is one of so many.
abbrev pub IsBelow : ℕ → Unclosed → Type 0
IsBelow len Cut = Unit {0}
IsBelow len (Bad k) = k < len

-- The tokens of printed symbols, and where they lie.
use Rattle.std.proofs.Common.{◌≡◌, ℕ, ◌+◌, ◌-◌, ◌<◌, Bool, false, ◌||◌, ◌&&◌, ◌==◌, List, [], ◌∷◌, ◌++◌, length, drop, refl, sym, ap, subst, ◌∙◌, append_assoc, append-nil, length-append, inl, arith}
use Rattle.std.specs.Prelude.{slice_range}
use Rattle.std.specs.List.{concat, AllByRecursion}
use Rattle.std.proofs.lemmas.List.{drop_at, take_at}
use Rattle.p21_lex.specs.declared.token.TokenKind.{TokenKind}
use Rattle.p21_lex.specs.declared.token.TokenKind.TheVariants.{Word, UserWord, Name, Int, Real, Text, Enumeration, Binary, Open, Close, Comma, Semicolon, Equals, Dollar, Star}
use Rattle.p21_lex.specs.declared.token.Token.{Token}
use Rattle.p21_lex.specs.Class.{is_digit, is_plain, is_word}
use Rattle.p21_lex.specs.Reading.{IsKeyword, IsInt, IsReal, IsGap, Spells, Stops, Reads, IsToken, begins_int}
use Rattle.p21_parse.specs.Symbol.{Symbol, value, name, keyword, dashed, opening, closing, comma, semicolon, equals, symbol, symbol_of, symbols}
use Rattle.p21_parse.specs.Begins.{IsSymbol}
use Rattle.p21_print.specs.Printed.{plain, line_end, printed_symbols}
use Rattle.p21_print.proofs.Parted.{BeginsMark, Ends, Parted}
use Rattle.p21_print.proofs.Plainly.{Spelled, spelled}

-- ---- no spelling goes on with a mark

-- no spelling goes on with the byte
record Separates (b : ℕ) : Type 0 where
  word : is_word b ≡ false
  plain : is_plain b ≡ false
  digit : is_digit b ≡ false
  point : (is_digit b || (b == 46)) ≡ false
  apostrophe : (b == 39) ≡ false
  exponent : (b == 69) ≡ false

stops : (kind : TokenKind) (text : List ℕ) (b : ℕ) (bs : List ℕ) → Separates b → Stops kind text (b ∷ bs)
stops Word text b bs h = h.word
stops UserWord text b bs h = h.plain
stops Name text b bs h = h.digit
stops Int text b bs h = h.point
stops Real text b bs h = (h.digit, λ _. ap (λ (e : Bool). e && begins_int bs) h.exponent)
stops Text text b bs h = h.apostrophe
stops _ text b bs h = tt

stops_mark : (kind : TokenKind) (text : List ℕ) (ss : List Symbol) → BeginsMark ss → Stops kind text (printed_symbols ss)
stops_mark kind text (opening ∷ ss) h = stops kind text 40 (printed_symbols ss) (record { word = refl; plain = refl; digit = refl; point = refl; apostrophe = refl; exponent = refl })
stops_mark kind text (closing ∷ ss) h = stops kind text 41 (printed_symbols ss) (record { word = refl; plain = refl; digit = refl; point = refl; apostrophe = refl; exponent = refl })
stops_mark kind text (comma ∷ ss) h = stops kind text 44 (printed_symbols ss) (record { word = refl; plain = refl; digit = refl; point = refl; apostrophe = refl; exponent = refl })
stops_mark kind text (semicolon ∷ ss) h = stops kind text 59 (10 ∷ printed_symbols ss) (record { word = refl; plain = refl; digit = refl; point = refl; apostrophe = refl; exponent = refl })
stops_mark kind text (equals ∷ ss) h = stops kind text 61 (printed_symbols ss) (record { word = refl; plain = refl; digit = refl; point = refl; apostrophe = refl; exponent = refl })
stops_mark kind text _ h = absurd h

-- ---- one token

-- a symbol that is printed before others is read as one token
record Placed (s : Symbol) (ss : List Symbol) : Type 0 where
  kind : TokenKind
  spells : Spells kind (plain s)
  is : symbol kind (plain s) ≡ s
  stops : Stops kind (plain s) (line_end s ++ printed_symbols ss)

before_mark : (s : Symbol) (ss : List Symbol) → line_end s ≡ [] → BeginsMark ss → Spelled s → Placed s ss
before_mark s ss none h p = record {
  kind = p.kind;
  spells = p.spells;
  is = p.is;
  stops = subst (λ (gap : List ℕ). Stops p.kind (plain s) (gap ++ printed_symbols ss)) (sym none) (stops_mark p.kind (plain s) ss h);
}

placed : (s : Symbol) (ss : List Symbol) → IsSymbol s → Ends s ss → Placed s ss
placed opening ss h e = record { kind = Open; spells = refl; is = refl; stops = tt }
placed closing ss h e = record { kind = Close; spells = refl; is = refl; stops = tt }
placed comma ss h e = record { kind = Comma; spells = refl; is = refl; stops = tt }
placed semicolon ss h e = record { kind = Semicolon; spells = refl; is = refl; stops = tt }
placed equals ss h e = record { kind = Equals; spells = refl; is = refl; stops = tt }
placed (value kind text) ss h e = before_mark (value kind text) ss refl e (spelled (value kind text) h)
placed (name number) ss h e = before_mark (name number) ss refl e (spelled (name number) h)
placed (keyword text) ss h e = before_mark (keyword text) ss refl e (spelled (keyword text) h)
placed (dashed text) ss h e = before_mark (dashed text) ss refl e (spelled (dashed text) h)

-- ---- no spelling is empty

keyword_some : (class : ℕ → Bool) (text : List ℕ) → IsKeyword class text → 0 < length text
keyword_some class [] h = absurd h
keyword_some class (b ∷ bs) h = omega arith

int_some : (text : List ℕ) → IsInt text → 0 < length text
int_some [] h = absurd h
int_some (b ∷ bs) h = omega arith

real_some : (text : List ℕ) → IsReal text → 0 < length text
real_some text h = omega (arith, ap length h.parts, length-append h.whole (46 ∷ (h.fraction ++ h.exponent)))

filled_by : (b : ℕ) (bs text : List ℕ) → text ≡ b ∷ bs → 0 < length text
filled_by b bs text is = omega (arith, ap length is)

some : (kind : TokenKind) (text : List ℕ) → Spells kind text → 0 < length text
some Word text h = keyword_some is_word text h
some UserWord text h = filled_by 33 h.0 text h.1
some Name text h = filled_by 35 h.0 text h.1
some Int text h = int_some text h.0
some Real text h = real_some text h.0
some Text text h = filled_by 39 (h.0 ++ 39 ∷ []) text h.1
some Enumeration text h = filled_by 46 (h.0 ++ 46 ∷ []) text h.1
some Binary text h = filled_by 34 (h.0 ++ 34 ∷ []) text h.1
some Open text h = filled_by 40 [] text h
some Close text h = filled_by 41 [] text h
some Comma text h = filled_by 44 [] text h
some Semicolon text h = filled_by 59 [] text h
some Equals text h = filled_by 61 [] text h
some Dollar text h = filled_by 36 [] text h
some Star text h = filled_by 42 [] text h

-- ---- all tokens

-- the end of a line, as what stands between tokens
gaps_behind : Symbol → List (List ℕ)
gaps_behind semicolon = (10 ∷ []) ∷ []
gaps_behind _ = []

are_gaps : (s : Symbol) → AllByRecursion IsGap (gaps_behind s)
unfolding gaps_behind
are_gaps semicolon = (inl (10, refl, refl), tt)
are_gaps (value kind text) = tt
are_gaps (name number) = tt
are_gaps (keyword text) = tt
are_gaps (dashed text) = tt
are_gaps opening = tt
are_gaps closing = tt
are_gaps comma = tt
are_gaps equals = tt

are_line_end : (s : Symbol) → line_end s ≡ concat (gaps_behind s)
unfolding gaps_behind
are_line_end semicolon = refl
are_line_end (value kind text) = refl
are_line_end (name number) = refl
are_line_end (keyword text) = refl
are_line_end (dashed text) = refl
are_line_end opening = refl
are_line_end closing = refl
are_line_end comma = refl
are_line_end equals = refl

-- tokens read the bytes, which end the whole text, and have these symbols there
pub record Standing (at : ℕ) (whole bytes : List ℕ) (ss : List Symbol) : Type 0 where
  pub tokens : List Token
  pub reads : Reads at tokens bytes
  pub inside : AllByRecursion (IsToken whole) tokens
  pub spells : symbols whole tokens ≡ ss

-- the bytes from one place to another
part_is : (whole front text rest : List ℕ) (start end : ℕ) → whole ≡ front ++ (text ++ rest) → start ≡ length front → end ≡ start + length text → slice_range whole start end ≡ text
part_is whole front text rest start end parts at_start at_end =
    let behind : drop start whole ≡ text ++ rest = rw parts (drop_at front (text ++ rest) start (sym at_start)) in
    let len : end - start ≡ length text = omega arith in
    rw (behind, len) (take_at text rest (length text) refl)

-- the token of a symbol that is printed at a place
token_of : (s : Symbol) (ss : List Symbol) → Placed s ss → ℕ → Token
token_of s ss p start = record { kind = p.kind; start = start; end = start + length (plain s) }

-- It lies there, and has the symbol.
one_token : (s : Symbol) (ss : List Symbol) (p : Placed s ss) (whole front rest : List ℕ) (start : ℕ)
    → whole ≡ front ++ (plain s ++ rest) → start ≡ length front → IsToken whole (token_of s ss p start) × (symbol_of whole (token_of s ss p start) ≡ s)
unfolding token_of
one_token s ss p whole front rest start parts here =
    let end : ℕ = start + length (plain s) in
    let at_text : slice_range whole start end ≡ plain s = part_is whole front (plain s) rest start end parts here refl in
    let size : length whole ≡ length front + (length (plain s) + length rest) = omega (arith, ap length parts, length-append front (plain s ++ rest), length-append (plain s) rest) in
    let lies : IsToken whole (token_of s ss p start) = record {
      filled = omega (arith, some p.kind (plain s) p.spells);
      inside = omega (arith, here, size);
      spelled = subst (Spells p.kind) (sym at_text) p.spells;
    } in
    let seen : symbol_of whole (token_of s ss p start) ≡ symbol p.kind (plain s) = ap (symbol p.kind) at_text in
    (lies, seen ∙ p.is)

-- What stands before the bytes is longer, and what is left of them shorter.
onward : (whole front bytes gap text rest : List ℕ) → whole ≡ front ++ bytes → bytes ≡ gap ++ (text ++ rest) → whole ≡ (front ++ gap) ++ (text ++ rest)
onward whole front bytes gap text rest w b = w ∙ ap (λ (r : List ℕ). front ++ r) b ∙ sym (append_assoc front gap (text ++ rest))

one_seen : (whole : List ℕ) (t : Token) (ts : List Token) (s : Symbol) (ss : List Symbol) → symbol_of whole t ≡ s → symbols whole ts ≡ ss → symbols whole (t ∷ ts) ≡ s ∷ ss
one_seen whole t ts s ss first more = ap (λ (u : Symbol). u ∷ symbols whole ts) first ∙ ap (λ (us : List Symbol). s ∷ us) more

pub standing : (ss : List Symbol) (whole front bytes : List ℕ) (gaps : List (List ℕ)) (at : ℕ)
    → whole ≡ front ++ bytes → at ≡ length front → bytes ≡ concat gaps ++ printed_symbols ss
    → AllByRecursion IsGap gaps → AllByRecursion IsSymbol ss → Parted ss → Standing at whole bytes ss
unfolding token_of
standing [] whole front bytes gaps at w here b g h p =
    record { tokens = []; reads = (gaps, g, b ∙ append-nil (concat gaps)); inside = tt; spells = refl }
standing (s ∷ ss) whole front bytes gaps at w here b g h p =
    let one = placed s ss h.0 p.0 in
    let rest : List ℕ = line_end s ++ printed_symbols ss in
    let before : List ℕ = front ++ concat gaps in
    let token : Token = token_of s ss one (at + length (concat gaps)) in
    let parts : bytes ≡ concat gaps ++ (plain s ++ rest) = b ∙ ap (λ (r : List ℕ). concat gaps ++ r) (append_assoc (plain s) (line_end s) (printed_symbols ss)) in
    let all = onward whole front bytes (concat gaps) (plain s) rest w parts in
    let start_is : token.start ≡ length before = omega (arith, here, length-append front (concat gaps)) in
    let end_is : token.end ≡ length (before ++ plain s) = omega (arith, start_is, length-append before (plain s)) in
    let first = one_token s ss one whole before rest token.start all start_is in
    let more = standing ss whole (before ++ plain s) rest (gaps_behind s) token.end (all ∙ sym (append_assoc before (plain s) rest)) end_is
    (ap (λ (gap : List ℕ). gap ++ printed_symbols ss) (are_line_end s)) (are_gaps s) h.1 p.1 in
    record {
      tokens = token ∷ more.tokens;
      reads = (gaps, plain s, rest, g, parts, refl, refl, one.spells, one.stops, more.reads);
      inside = (first.0, more.inside);
      spells = one_seen whole token more.tokens s ss first.1 more.spells;
    }

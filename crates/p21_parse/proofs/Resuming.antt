-- What is told of a text whose front was read before: its exchange, or its refusal.
use Rattle.std.proofs.Common.{◌≡◌, ℕ, ◌+◌, ◌-◌, ◌≤◌, Bool, true, false, List, [], ◌∷◌, ◌++◌, length, map, take, drop, refl, sym, ap, subst, ◌∙◌, arith, inl, inr}
use Rattle.std.specs.Prelude.{◌⊎◌, Result, Ok, Err, IfOk, IfErr}
use Rattle.std.specs.List.{AllByRecursion}
use Rattle.std.proofs.lemmas.List.{take-append-drop, map-append, append-nil, length-map}
use Rattle.std.proofs.Math.Seq.{take-append_seam}
use Rattle.p21_lex.specs.declared.token.TokenKind.{TokenKind}
use Rattle.p21_lex.specs.declared.token.Token.{Token}
use Rattle.p21_lex.specs.Reading.{Reads, IsToken}
use Rattle.p21_lex.specs.declared.error.LexErr.{LexErr}
use Rattle.p21_lex.specs.declared.error.LexErr.TheVariants as faults
use Rattle.p21_lex.specs.Refusal.{IsRefused, IsRefusedFrom}
use Rattle.p21_join.specs.Join.{LastIsSemicolon}
use Rattle.p21_join.proofs.Joins.{behind, refused}
use Rattle.p21_lex.proofs.Runs.{take_within}
use Rattle.p21_parse.specs.declared.error.ReadErr.{ReadErr}
use Rattle.p21_parse.specs.declared.parser.Parser.{Parser}
use Rattle.p21_parse.specs.declared.parser.Stop.TheVariants.{Syntax, TooDeep}
use Rattle.p21_parse.specs.declared.names.Before.{Before}
use Rattle.p21_parse.specs.Tree.{InstanceTree, ExchangeTree}
use Rattle.p21_parse.specs.Symbol.{Symbol, symbol, text_of, symbol_of, symbols}
use Rattle.p21_parse.specs.Spell.{spell_all, spell_instance}
use Rattle.p21_parse.specs.Numbers.{is_behind, is_semicolon}
use Rattle.p21_parse.specs.Allowed.{own_number_of}
use Rattle.p21_parse.specs.Places.{start_of, syntax, too_deep}
use Rattle.p21_parse.specs.Refused.{file_numbers, RefusedAt}
use Rattle.p21_parse.specs.Machine.{instances, end_items, file_items, done, stuck, deep, run}
use Rattle.p21_parse.specs.Parser.{IsParser, from, RestRead, FileRead, FileStops, spell_start, spell_last}
use Rattle.p21_parse.specs.Names.{before, AreFine, IsBehind}
use Rattle.p21_parse.specs.Text.{IsText, IsRefusedText, IsRefusedTokens, from_lex, left_in}
use Rattle.p21_parse.specs.Front.{IsFront, GoesOn, with_items}
use Rattle.p21_parse.proofs.Complete.{start_runs}
use Rattle.p21_parse.proofs.Owned.{file_to_numbers}
use Rattle.p21_parse.proofs.Joined.{first_is, first_in}
use Rattle.p21_parse.proofs.Grown.{all_more, start_on, grammar_more, shallow_more}
use Rattle.p21_parse.proofs.Telling.{exchanged, as_text, told_lex, told_text, told_syntax, told_deep, bound_syntax, bound_deep}
use Rattle.p21_parse.proofs.BehindLemmas.{count_is, same_from, same_start}

-- ---- where the reader of the rest stopped, the reader of the whole stops

module _ (s t : Parser) (ts : List Token) (b : Before) (l : IsBehind s t ts b) (g : GoesOn s t) where
  pub stops_syntax : (at : ℕ) → FileStops t (Syntax at) (run 32 0 (instances ∷ end_items) (from t 0)) → FileStops s (Syntax (length ts + at)) (run 32 0 file_items (from s 0))
  stops_syntax at (le, inl e) =
      let all = count_is s t ts b l in
      let left : length t.tokens.now - at ≡ length s.tokens.now - (length ts + at) = omega arith in
      (omega (arith, le, all), inl (g ∙ e ∙ ap (λ (k : ℕ). stuck k) left))
  stops_syntax at (le, inr (lt, e)) =
      let all = count_is s t ts b l in
      (omega (arith, le, all), inr (omega (arith, lt, all), g ∙ e ∙ ap (λ (ss : List Symbol). done 0 ss) (sym (same_from s t ts b l at))))

  pub stops_deep : (at : ℕ) → FileStops t (TooDeep at) (run 32 0 (instances ∷ end_items) (from t 0)) → FileStops s (TooDeep (length ts + at)) (run 32 0 file_items (from s 0))
  stops_deep at (le, e) =
      let all = count_is s t ts b l in
      let left : length t.tokens.now - at ≡ length s.tokens.now - (length ts + at) = omega arith in
      (omega (arith, le, all), g ∙ e ∙ ap (λ (k : ℕ). deep k) left)

  pub rest_bound : (items : List InstanceTree) (end : ℕ) → RestRead t 0 items → left_in (run 32 0 file_items (from s 0)) ≤ length s.tokens.now - end
  rest_bound items end r = omega (arith, ap left_in (g ∙ r.goes))

  pub told_syntax_behind : (at place : ℕ) → FileStops t (Syntax at) (run 32 0 (instances ∷ end_items) (from t 0)) → AreFine (before s (length ts + at)) → place ≡ start_of t.bytes.now (drop at t.tokens.now) → RefusedAt s.bytes.now s.tokens.now (syntax place)
  told_syntax_behind at place stops fine is = told_syntax s (length ts + at) place (stops_syntax at stops) fine (same_start s t ts b l at place is)

  pub told_deep_behind : (at place : ℕ) → FileStops t (TooDeep at) (run 32 0 (instances ∷ end_items) (from t 0)) → AreFine (before s (length ts + at)) → place ≡ start_of t.bytes.now (drop at t.tokens.now) → RefusedAt s.bytes.now s.tokens.now (too_deep place)
  told_deep_behind at place stops fine is = told_deep s (length ts + at) place (stops_deep at stops) fine (same_start s t ts b l at place is)

  pub bound_syntax_behind : (at : ℕ) → FileStops t (Syntax at) (run 32 0 (instances ∷ end_items) (from t 0)) → left_in (run 32 0 file_items (from s 0)) ≤ length s.tokens.now - (length ts + at)
  bound_syntax_behind at stops = bound_syntax s (length ts + at) (stops_syntax at stops)

  pub bound_deep_behind : (at : ℕ) → FileStops t (TooDeep at) (run 32 0 (instances ∷ end_items) (from t 0)) → left_in (run 32 0 file_items (from s 0)) ≤ length s.tokens.now - (length ts + at)
  bound_deep_behind at stops = bound_deep s (length ts + at) (stops_deep at stops)

-- ---- the front in the whole text

-- what ends with a semicolon
last_behind : (bytes : List ℕ) (ts : List Token) (b : Bool) → LastIsSemicolon ts → is_behind b (symbols bytes ts) ≡ true
last_behind bytes [] b l = absurd l
last_behind bytes (t ∷ []) b l = ap (λ (k : TokenKind). is_semicolon (symbol k (text_of bytes t))) l
last_behind bytes (t ∷ u ∷ ts) b l = last_behind bytes (u ∷ ts) (is_semicolon (symbol_of bytes t)) l

module _ (bytes : List ℕ) (at : ℕ) (x : ExchangeTree) (f : IsFront (take at bytes) x) where
  front_tokens : List Token
  front_tokens = f.well.tokens

  whole_is : take at bytes ++ drop at bytes ≡ bytes
  whole_is = take-append-drop at bytes

  pub front_inside : AllByRecursion (IsToken bytes) f.well.tokens
  front_inside = subst (λ (b : List ℕ). AllByRecursion (IsToken b) f.well.tokens) whole_is (all_in f.well.tokens f.inside)
    where
      all_in : (ts : List Token) → AllByRecursion (IsToken (take at bytes)) ts → AllByRecursion (IsToken (take at bytes ++ drop at bytes)) ts
      all_in [] are = tt
      all_in (t ∷ ts) are = (first_in (take at bytes) (drop at bytes) t are.0, all_in ts are.1)

  pub front_spells : symbols bytes f.well.tokens ≡ spell_start x.head (spell_all spell_instance x.items [])
  front_spells = ap (λ (b : List ℕ). symbols b f.well.tokens) (sym whole_is) ∙ all_is f.well.tokens f.inside ∙ f.spells
    where
      all_is : (ts : List Token) → AllByRecursion (IsToken (take at bytes)) ts → symbols (take at bytes ++ drop at bytes) ts ≡ symbols (take at bytes) ts
      all_is [] are = refl
      all_is (t ∷ ts) are = ap (λ (s : Symbol). s ∷ symbols (take at bytes ++ drop at bytes) ts) (first_is (take at bytes) (drop at bytes) t are.0) ∙ ap (λ (ss : List Symbol). symbol_of (take at bytes) t ∷ ss) (all_is ts are.1)

  pub reads_whole : (us : List Token) → at ≤ length bytes → Reads at us (drop at bytes) → Reads 0 (f.well.tokens ++ us) bytes
  reads_whole us le h =
      let here : Reads (length (take at bytes)) us (drop at bytes) = subst (λ (n : ℕ). Reads n us (drop at bytes)) (sym (take_within at bytes le)) h in
      subst (λ (b : List ℕ). Reads 0 (f.well.tokens ++ us) b) whole_is (behind (take at bytes) (drop at bytes) f.well.tokens us f.well.ends f.well.last f.well.reads here)

  pub lex_behind : (e : LexErr) → at ≤ length bytes → (e ≡ faults.NoMemory) ⊎ IsRefusedFrom at (drop at bytes) e → IsRefusedText bytes (from_lex e)
  lex_behind e le (inl is) = told_lex bytes e (inl is)
  lex_behind e le (inr fault) =
      let here : IsRefusedFrom (length (take at bytes)) (drop at bytes) e = subst (λ (n : ℕ). IsRefusedFrom n (drop at bytes) e) (sym (take_within at bytes le)) fault in
      told_lex bytes e (inr (subst (λ (b : List ℕ). IsRefused b e) whole_is (refused (take at bytes) (drop at bytes) f.well.tokens e f.well.ends f.well.last f.well.reads here)))

  -- ---- the tokens of the rest among those of the whole

  module _ (s t : Parser) (b : Before) (is_text : s.bytes.now ≡ bytes) (is_rest : t.bytes.now ≡ bytes) (all : s.tokens.now ≡ f.well.tokens ++ t.tokens.now) (inside : AllByRecursion (IsToken bytes) t.tokens.now) where
    append_all : (P : Token → Type 0) (xs ys : List Token) → AllByRecursion P xs → AllByRecursion P ys → AllByRecursion P (xs ++ ys)
    append_all P [] ys a c = c
    append_all P (y ∷ xs) ys a c = (a.0, append_all P xs ys a.1 c)

    pub all_inside : AllByRecursion (IsToken bytes) s.tokens.now
    all_inside = subst (λ (us : List Token). AllByRecursion (IsToken bytes) us) (sym all) (append_all (IsToken bytes) f.well.tokens t.tokens.now front_inside inside)

    real : IsParser s
    real = subst (λ (c : List ℕ). AllByRecursion (IsToken c) s.tokens.now) (sym is_text) all_inside

    -- the symbols of the whole are those of the front and then those of the rest
    all_symbols : from s 0 ≡ symbols bytes f.well.tokens ++ from t 0
    all_symbols =
        ap (λ (c : List ℕ). symbols c s.tokens.now) is_text ∙ ap (symbols bytes) all ∙ map-append (symbol_of bytes) f.well.tokens t.tokens.now
        ∙ ap (λ (c : List ℕ). symbols bytes f.well.tokens ++ symbols c t.tokens.now) (sym is_rest)

    front_count : length (symbols bytes f.well.tokens) ≡ length f.well.tokens
    front_count = length-map f.well.tokens (symbol_of bytes)

    before_is : before s (length f.well.tokens) ≡ symbols bytes f.well.tokens
    before_is =
        ap (take (length f.well.tokens)) all_symbols ∙ ap (λ (k : ℕ). take k (symbols bytes f.well.tokens ++ from t 0)) (sym front_count) ∙ take-append_seam (symbols bytes f.well.tokens) (from t 0)

    pub is_behind_front : map own_number_of x.items ≡ b.numbers.now → b.is_marked ≡ true → IsBehind s t f.well.tokens b
    is_behind_front numbers marked = record {
      real = real;
      bytes = is_text ∙ sym is_rest;
      tokens = all;
      numbers = ap file_numbers (before_is ∙ front_spells) ∙ file_to_numbers x.head x.items [] ∙ append-nil (map own_number_of x.items) ∙ numbers;
      marked = ap (is_behind false) before_is ∙ last_behind bytes f.well.tokens false f.well.last ∙ sym marked;
    }

    whole_spells : from s 0 ≡ spell_start x.head (spell_all spell_instance x.items (from t 0))
    whole_spells = all_symbols ∙ ap (λ (ss : List Symbol). ss ++ from t 0) front_spells ∙ start_on x.head x.items (from t 0)

    pub goes_on : GoesOn s t
    goes_on = ap (run 32 0 file_items) whole_spells ∙ start_runs 32 x (from t 0) f.grammar f.shallow

    pub text_behind : (items : List InstanceTree) → Reads 0 s.tokens.now bytes → RestRead t 0 items → AreFine (before s (length s.tokens.now)) → IsText bytes (with_items x items)
    text_behind items reads rest fine =
        let file : FileRead s (with_items x items) = record {
          grammar = grammar_more x items f.grammar rest.grammar;
          shallow = shallow_more x items f.shallow rest.shallow;
          spells = whole_spells ∙ ap (λ (ss : List Symbol). spell_start x.head (spell_all spell_instance x.items ss)) rest.spells ∙ ap (spell_start x.head) (sym (all_more x.items items (spell_last [])));
          goes = goes_on ∙ rest.goes;
        } in
        let is = exchanged s (with_items x items) file fine in
        as_text bytes s.tokens.now reads all_inside (with_items x items) (ap (λ (c : List ℕ). symbols c s.tokens.now) (sym is_text) ∙ is.spells) is.allowed

    pub refused_behind : (e : ReadErr) → Reads 0 s.tokens.now bytes → IsRefusedTokens s e → IsRefusedText bytes e
    refused_behind e reads said = told_text bytes s s.tokens.now e is_text refl reads all_inside said

-- ---- the same of what the reader of the rest answered

-- a parser with further tokens before its own
abbrev whole_of : Parser → List Token → Parser
whole_of t ts = record { bytes = t.bytes; tokens = record t.tokens { now = ts ++ t.tokens.now } }

module _ (bytes : List ℕ) (at : ℕ) (t : Parser) (b : Before) (within : at ≤ length bytes) (is_rest : t.bytes.now ≡ bytes) (inside : AllByRecursion (IsToken bytes) t.tokens.now) (reads : Reads at t.tokens.now (drop at bytes))
    (marked : b.is_marked ≡ true) {X : Type 0} (view : X → List InstanceTree) where
  pub call_found : (r : Result X ReadErr) → IfOk r (λ items. RestRead t 0 (view items)) → IfOk r (λ _. (s : Parser) (ts : List Token) → IsBehind s t ts b → AreFine (before s (length s.tokens.now)))
      → IfOk r (λ items. (x : ExchangeTree) → IsFront (take at bytes) x → map own_number_of x.items ≡ b.numbers.now → IsText bytes (with_items x (view items)))
  call_found (Ok items) rest fine = λ x f numbers.
      let s = whole_of t f.well.tokens in
      let l = is_behind_front bytes at x f s t b is_rest is_rest refl inside numbers marked in
      text_behind bytes at x f s t b is_rest is_rest refl inside (view items) (reads_whole bytes at x f t.tokens.now within reads) rest (fine s f.well.tokens l)
  call_found (Err e) rest fine = tt

  pub call_refused : (r : Result X ReadErr) → IfErr r (λ e. (s : Parser) (ts : List Token) → IsBehind s t ts b → GoesOn s t → IsRefusedTokens s e)
      → IfErr r (λ e. (x : ExchangeTree) → IsFront (take at bytes) x → map own_number_of x.items ≡ b.numbers.now → IsRefusedText bytes e)
  call_refused (Ok items) said = tt
  call_refused (Err e) said = λ x f numbers.
      let s = whole_of t f.well.tokens in
      let l = is_behind_front bytes at x f s t b is_rest is_rest refl inside numbers marked in
      refused_behind bytes at x f s t b is_rest is_rest refl inside e (reads_whole bytes at x f t.tokens.now within reads) (said s f.well.tokens l (goes_on bytes at x f s t b is_rest is_rest refl inside))

-- Reading the header section.
use Rattle.std.proofs.Common.{◌≡◌, ℕ, zero, suc, ◌+◌, ◌<◌, ◌≤◌, Bool, true, false, cond, List, [], ◌∷◌, ◌++◌, length, codes, refl, sym, ap, subst, ◌∙◌, arith, append_assoc}
use Rattle.std.specs.Str.{bytes_eq}
use Rattle.std.specs.List.{AllByRecursion}
use Rattle.std.proofs.lemmas.List.{append-nil}
use Rattle.std.proofs.lemmas.Slice.Eq.{bytes_eq-Decides}
use Rattle.p21_parse.specs.declared.parser.Parser.{Parser}
use Rattle.p21_parse.specs.declared.parser.Stop.{Stop}
use Rattle.p21_parse.specs.declared.parser.Stop.TheVariants.{Syntax}
use Rattle.p21_parse.specs.Tree.{Tree, one, list, Trees, none, first, trees, count, with_last, PartTree}
use Rattle.p21_parse.specs.Symbol.{Symbol, value, name, keyword, dashed, opening, closing, comma, semicolon, equals, word, has_hyphen}
use Rattle.p21_parse.specs.Spell.{spell, spell_list, spell_entry, spell_all}
use Rattle.p21_parse.specs.Grammar.{IsParameter, AreParameters, IsText, AreTexts, IsTextList, IsNamed, IsSchema, IsEntry, IsHead}
use Rattle.p21_parse.specs.Nesting.{nesting, nestings, part_nesting, greatest}
use Rattle.p21_parse.specs.Machine.{Item, fixed, parameter, more_parameters, schema, more_schemas, counted, named, entries, entry_or_end, endsec, same, on, after, open_in, run}
use Rattle.p21_lex.specs.declared.token.TokenKind.TheVariants as kinds
use Rattle.p21_parse.specs.Parser.{from, Stops, Has, IsRead, IsRefused, IsNotHead, IsOther, HasNoText, HasNoKeyword, AreNames, schema_entry, IsEnd, IsNoEnd, EntryRead, EntriesRefused, EntriesRead, head_items}
use Rattle.p21_parse.proofs.ListLemmas.{trees-push}
use Rattle.p21_parse.proofs.Moves.{Sticks, step, both, took, first_refused, second_refused, opened_refused, stopped, respelled}
use Rattle.p21_parse.proofs.Listing.{further, further_more, further_closed, are_more, nests_more}
use Rattle.p21_parse.proofs.Parting.{all_more, are_all, greatest_more}

-- ---- words

pub other_sticks : (w : Symbol) (ss : List Symbol) → IsOther w ss → Sticks (fixed w) ss
other_sticks w [] h = tt
other_sticks w (s ∷ ss) h = ap (λ (b : Bool). on b []) h

equal_bytes : (v : List ℕ) → bytes_eq v v ≡ true
equal_bytes v = (bytes_eq-Decides v v).1 refl

pub same_word : (text : List ℕ) → same (word text) (word text) ≡ true
same_word text = by (has_hyphen text)
  where
    by : (b : Bool) → same (cond b (dashed text) (keyword text)) (cond b (dashed text) (keyword text)) ≡ true
    by true = equal_bytes text
    by false = equal_bytes text

open_word : (i : Symbol) (n : ℕ) (text : List ℕ) → open_in (fixed i) n (word text) ≡ n
open_word i n text = by (has_hyphen text)
  where
    by : (b : Bool) → open_in (fixed i) n (cond b (dashed text) (keyword text)) ≡ n
    by true = refl
    by false = refl

module _ (s : Parser) where
  pub word_took : (n at : ℕ) (text : List ℕ) → n ≤ 32 → Has s at (word text) → IsRead s n n (fixed (word text) ∷ []) at (at + 1) (λ r. word text ∷ r)
  word_took n at text le has = took s (fixed (word text)) n n at (word text) has (ap (λ (b : Bool). on b []) (same_word text)) (open_word (word text) n text) le

  pub phrase_read : (at next : ℕ) (text : List ℕ) → Has s at (word text) → Has s (at + 1) semicolon → next ≡ at + 1 + 1 → IsRead s 0 0 (fixed (word text) ∷ fixed semicolon ∷ []) at next (λ r. word text ∷ semicolon ∷ r)
  phrase_read at next text has end last =
      subst (λ (k : ℕ). IsRead s 0 0 (fixed (word text) ∷ fixed semicolon ∷ []) at k (λ r. word text ∷ semicolon ∷ r)) (sym last)
      (both s 0 0 0 at (at + 1) (at + 1 + 1) (fixed (word text) ∷ []) (fixed semicolon ∷ []) (λ r. word text ∷ r) (λ r. semicolon ∷ r) (word_took 0 at text (omega arith) has) (took s (fixed semicolon) 0 0 (at + 1) semicolon end refl refl (omega arith)))

-- ---- parameters one after the other

-- The first parameters of whole items were read, and others are left.
pub record Row (s : Parser) (n at rest : ℕ) (whole left : List Item) (params : Trees) : Type 0 where
  pub start : Tree
  pub others : List Tree
  pub are_these : params ≡ first start (trees others)
  pub onward : at < rest
  pub inside : rest ≤ length s.tokens.now
  pub spells : from s at ≡ spell start (further others (from s rest))
  pub goes : (stack : List Item) → run 32 n (whole ++ stack) (from s at) ≡ run 32 n (left ++ stack) (from s rest)

module _ (s : Parser) (n at : ℕ) where
  pub row_begun : (rest : ℕ) (i : Item) (left : List Item) (t : Tree) (params : Trees) → params ≡ first t none → IsRead s n n (i ∷ []) at rest (spell t) → Row s n at rest (i ∷ left) left params
  row_begun rest i left t params is_one read = record {
    start = t;
    others = [];
    are_these = is_one;
    onward = read.onward;
    inside = read.inside;
    spells = read.spells;
    goes = λ stack. read.goes (left ++ stack);
  }

  pub row_more : (rest after : ℕ) (i : Item) (whole left others : List Item) (t : Tree) (params new : Trees) → new ≡ with_last params t → Row s n at rest whole left params → Has s rest comma
      → ((stack : List Item) → run 32 n (left ++ stack) (from s rest) ≡ run 32 n (i ∷ (others ++ stack)) (from s (rest + 1))) → IsRead s n n (i ∷ []) (rest + 1) after (spell t) → Row s n at after whole others new
  row_more rest after i whole left others t params new pushed l has goes read = record {
    start = l.start;
    others = l.others ++ t ∷ [];
    are_these = pushed ∙ ap (λ (ps : Trees). with_last ps t) l.are_these ∙ ap (first l.start) (sym (trees-push l.others t));
    onward = omega (arith, l.onward, read.onward);
    inside = read.inside;
    spells = l.spells ∙ ap (λ (ss : List Symbol). spell l.start (further l.others ss)) (has.first ∙ ap (λ (ss : List Symbol). comma ∷ ss) read.spells) ∙ ap (spell l.start) (sym (further_more l.others t (from s after)));
    goes = λ stack. l.goes stack ∙ goes stack ∙ read.goes (others ++ stack);
  }

  pub row_refused : (rest : ℕ) (whole left : List Item) (params : Trees) (e : Stop) → Row s n at rest whole left params → IsRefused s n left rest e → IsRefused s n whole at e
  row_refused rest whole left params e l refused = λ stack. subst (Stops s e) (sym (l.goes stack)) (refused stack)

  pub row_closed : (m rest : ℕ) (whole left : List Item) (params : Trees) → Row s n at rest whole left params → Has s rest closing → ((stack : List Item) → run 32 n (left ++ stack) (from s rest) ≡ run 32 m stack (from s (rest + 1)))
      → IsRead s n m whole at (rest + 1) (spell_list params)
  row_closed m rest whole left params l has goes = record {
    onward = omega (arith, l.onward);
    inside = omega (arith, has.within);
    spells = l.spells ∙ ap (λ (ss : List Symbol). spell l.start (further l.others ss)) has.first ∙ ap (spell l.start) (further_closed l.others (from s (rest + 1))) ∙ ap (λ (ps : Trees). spell_list ps (from s (rest + 1))) (sym l.are_these);
    goes = λ stack. l.goes stack ∙ goes stack;
  }

-- ---- so many parameters

count_more : (ts : Trees) (t : Tree) → count (with_last ts t) ≡ count ts + 1
count_more none t = refl
count_more (first u ts) t = let more = count_more ts t in omega arith

-- of so many parameters more than one some are left
pub record InCount (s : Parser) (at rest more left : ℕ) (params : Trees) : Type 0 where
  pub row : Row s 1 at rest (parameter ∷ counted more []) (counted left []) params
  pub count : count params + left ≡ more + 1
  pub are : AreParameters params
  pub nests : 1 + nestings params ≤ 32

module _ (s : Parser) (at more : ℕ) where
  pub count_begun : (rest : ℕ) (t : Tree) (params : Trees) → params ≡ first t none → IsRead s 1 1 (parameter ∷ []) at rest (spell t) → IsParameter t × (1 + nesting t ≤ 32) → InCount s at rest more more params
  count_begun rest t params is_one read is = record {
    row = row_begun s 1 at rest parameter (counted more []) t params is_one read;
    count = rw is_one (omega arith);
    are = rw is_one (is.0, tt);
    nests = rw is_one (omega (arith, is.1));
  }

  pub count_one : (rest after left less : ℕ) (t : Tree) (params new : Trees) → left ≡ suc less → new ≡ with_last params t → InCount s at rest more left params → Has s rest comma → IsRead s 1 1 (parameter ∷ []) (rest + 1) after (spell t)
      → IsParameter t × (1 + nesting t ≤ 32) → InCount s at after more less new
  count_one rest after left less t params new is_one pushed l has read is =
      let row : Row s 1 at rest (parameter ∷ counted more []) (counted (suc less) []) params = subst (λ (k : ℕ). Row s 1 at rest (parameter ∷ counted more []) (counted k []) params) is_one l.row in
      let so_far = l.count in
      record {
        row =
            row_more s 1 at rest after parameter (parameter ∷ counted more []) (counted (suc less) []) (counted less []) t params new pushed row has
            (λ stack. step s (fixed comma) 1 1 rest comma [] has refl refl (omega arith) (parameter ∷ (counted less [] ++ stack))) read;
        count = rw pushed (omega (arith, count_more params t));
        are = rw pushed (are_more params t l.are is.0);
        nests = rw pushed (nests_more 1 params t l.nests is.1);
      }

  pub count_bare : (rest left less : ℕ) (params : Trees) (e : Stop) → left ≡ suc less → InCount s at rest more left params → IsRefused s 1 (fixed comma ∷ []) rest e → IsRefused s 1 (parameter ∷ counted more []) at e
  count_bare rest left less params e is_one l refused =
      row_refused s 1 at rest (parameter ∷ counted more []) (counted left []) params e l.row
      (subst (λ (k : ℕ). IsRefused s 1 (counted k []) rest e) (sym is_one) (first_refused s 1 rest (fixed comma ∷ []) (parameter ∷ counted less []) e refused))

  pub count_refused : (rest left less : ℕ) (params : Trees) (e : Stop) → left ≡ suc less → InCount s at rest more left params → Has s rest comma → IsRefused s 1 (parameter ∷ []) (rest + 1) e → IsRefused s 1 (parameter ∷ counted more []) at e
  count_refused rest left less params e is_one l has refused =
      row_refused s 1 at rest (parameter ∷ counted more []) (counted left []) params e l.row
      (subst (λ (k : ℕ). IsRefused s 1 (counted k []) rest e) (sym is_one)
      (second_refused s 1 1 rest (rest + 1) (fixed comma ∷ []) (parameter ∷ counted less []) (λ r. comma ∷ r) e (took s (fixed comma) 1 1 rest comma has refl refl (omega arith))
      (first_refused s 1 (rest + 1) (parameter ∷ []) (counted less []) e refused)))

  pub count_open : (rest left : ℕ) (params : Trees) (e : Stop) → left ≡ 0 → InCount s at rest more left params → IsRefused s 1 (fixed closing ∷ []) rest e → IsRefused s 1 (parameter ∷ counted more []) at e
  count_open rest left params e is_none l refused = row_refused s 1 at rest (parameter ∷ counted more []) (counted left []) params e l.row (subst (λ (k : ℕ). IsRefused s 1 (counted k []) rest e) (sym is_none) refused)

  pub count_read : (rest next left : ℕ) (params : Trees) → left ≡ 0 → InCount s at rest more left params → Has s rest closing → next ≡ rest + 1 → IsRead s 1 0 (parameter ∷ counted more []) at next (spell_list params)
  count_read rest next left params is_none l has last =
      subst (λ (k : ℕ). IsRead s 1 0 (parameter ∷ counted more []) at k (spell_list params)) (sym last)
      (row_closed s 1 at 0 rest (parameter ∷ counted more []) (counted 0 []) params (subst (λ (k : ℕ). Row s 1 at rest (parameter ∷ counted more []) (counted k []) params) is_none l.row) has
      (λ stack. step s (fixed closing) 1 0 rest closing [] has refl refl (omega arith) stack))

-- ---- an entry with a given keyword

counted_behind : (n : ℕ) (items : List Item) → counted n items ≡ counted n [] ++ items
counted_behind zero items = refl
counted_behind (suc n) items = ap (λ (is : List Item). fixed comma ∷ parameter ∷ is) (counted_behind n items)

-- its items, in the order in which they are read
steps_of : List ℕ → ℕ → List Item
steps_of text more = (fixed (word text) ∷ []) ++ ((fixed opening ∷ []) ++ ((parameter ∷ counted more []) ++ (fixed semicolon ∷ [])))

named_is : (text : List ℕ) (more : ℕ) → word text ≡ keyword text → named text more [] ≡ steps_of text more
unfolding steps_of
named_is text more plain = ap (λ (is : List Item). fixed (keyword text) ∷ fixed opening ∷ parameter ∷ is) (counted_behind more (fixed semicolon ∷ [])) ∙ ap (λ (w : Symbol). fixed w ∷ fixed opening ∷ parameter ∷ (counted more [] ++ (fixed semicolon ∷ []))) (sym plain)

module _ (s : Parser) (at more : ℕ) (text : List ℕ) (plain : word text ≡ keyword text) where
  as_named : (e : Stop) → IsRefused s 0 (steps_of text more) at e → IsRefused s 0 (named text more []) at e
  as_named e refused = subst (λ (is : List Item). IsRefused s 0 is at e) (sym (named_is text more plain)) refused

  pub named_missing : (e : Stop) → IsRefused s 0 (fixed (word text) ∷ []) at e → IsRefused s 0 (named text more []) at e
  unfolding steps_of
  named_missing e refused = as_named e (first_refused s 0 at (fixed (word text) ∷ []) ((fixed opening ∷ []) ++ ((parameter ∷ counted more []) ++ (fixed semicolon ∷ []))) e refused)

  behind_word : (e : Stop) → Has s at (word text) → IsRefused s 0 ((fixed opening ∷ []) ++ ((parameter ∷ counted more []) ++ (fixed semicolon ∷ []))) (at + 1) e → IsRefused s 0 (named text more []) at e
  unfolding steps_of
  behind_word e has refused =
      as_named e (second_refused s 0 0 at (at + 1) (fixed (word text) ∷ []) ((fixed opening ∷ []) ++ ((parameter ∷ counted more []) ++ (fixed semicolon ∷ []))) (λ r. word text ∷ r) e (word_took s 0 at text (omega arith) has) refused)

  pub named_shut : (e : Stop) → Has s at (word text) → IsRefused s 0 (fixed opening ∷ []) (at + 1) e → IsRefused s 0 (named text more []) at e
  named_shut e has refused = behind_word e has (first_refused s 0 (at + 1) (fixed opening ∷ []) ((parameter ∷ counted more []) ++ (fixed semicolon ∷ [])) e refused)

  opened_one : Has s (at + 1) opening → IsRead s 0 1 (fixed opening ∷ []) (at + 1) (at + 1 + 1) (λ r. opening ∷ r)
  opened_one has = took s (fixed opening) 0 1 (at + 1) opening has refl refl (omega arith)

  behind_opening : (e : Stop) → Has s at (word text) → Has s (at + 1) opening → IsRefused s 1 ((parameter ∷ counted more []) ++ (fixed semicolon ∷ [])) (at + 1 + 1) e → IsRefused s 0 (named text more []) at e
  behind_opening e has has_open refused =
      behind_word e has (second_refused s 0 1 (at + 1) (at + 1 + 1) (fixed opening ∷ []) ((parameter ∷ counted more []) ++ (fixed semicolon ∷ [])) (λ r. opening ∷ r) e (opened_one has_open) refused)

  pub named_refused : (e : Stop) → Has s at (word text) → Has s (at + 1) opening → IsRefused s 1 (parameter ∷ counted more []) (at + 1 + 1) e → IsRefused s 0 (named text more []) at e
  named_refused e has has_open refused = behind_opening e has has_open (first_refused s 1 (at + 1 + 1) (parameter ∷ counted more []) (fixed semicolon ∷ []) e refused)

  pub named_open : (after : ℕ) (f : List Symbol → List Symbol) (e : Stop) → Has s at (word text) → Has s (at + 1) opening → IsRead s 1 0 (parameter ∷ counted more []) (at + 1 + 1) after f → IsRefused s 0 (fixed semicolon ∷ []) after e
      → IsRefused s 0 (named text more []) at e
  named_open after f e has has_open read refused = behind_opening e has has_open (second_refused s 1 0 (at + 1 + 1) after (parameter ∷ counted more []) (fixed semicolon ∷ []) f e read refused)

  pub named_read : (after next : ℕ) (p : PartTree) → p.keyword ≡ text → Has s at (word text) → Has s (at + 1) opening → IsRead s 1 0 (parameter ∷ counted more []) (at + 1 + 1) after (spell_list p.parameters) → Has s after semicolon → next ≡ after + 1
      → IsRead s 0 0 (named text more []) at next (spell_entry p)
  unfolding steps_of
  named_read after next p is has has_open read end last =
      let f = spell_list p.parameters in
      let tail = both s 1 0 0 (at + 1 + 1) after (after + 1) (parameter ∷ counted more []) (fixed semicolon ∷ []) f (λ r. semicolon ∷ r) read (took s (fixed semicolon) 0 0 after semicolon end refl refl (omega arith)) in
      let inner = both s 0 1 0 (at + 1) (at + 1 + 1) (after + 1) (fixed opening ∷ []) ((parameter ∷ counted more []) ++ (fixed semicolon ∷ [])) (λ r. opening ∷ r) (λ r. f (semicolon ∷ r)) (opened_one has_open) tail in
      let made = both s 0 0 0 at (at + 1) (after + 1) (fixed (word text) ∷ []) ((fixed opening ∷ []) ++ ((parameter ∷ counted more []) ++ (fixed semicolon ∷ []))) (λ r. word text ∷ r) (λ r. opening ∷ f (semicolon ∷ r)) (word_took s 0 at text (omega arith) has) inner in
      let respelt = respelled s 0 0 at (after + 1) (steps_of text more) (λ r. word text ∷ opening ∷ f (semicolon ∷ r)) (spell_entry p) (λ r. ap (λ (w : Symbol). w ∷ opening ∷ f (semicolon ∷ r)) (plain ∙ ap (λ (t : List ℕ). keyword t) (sym is))) made in
      subst (λ (k : ℕ). IsRead s 0 0 (named text more []) at k (spell_entry p)) (sym last) (subst (λ (is : List Item). IsRead s 0 0 is at (after + 1) (spell_entry p)) (sym (named_is text more plain)) respelt)

-- ---- the entry that names schemas

names_more : (ts : Trees) (t : Tree) → AreNames ts → IsText t → AreNames (with_last ts t)
names_more none t are is = absurd are
names_more (first u ts) t are is = (are.0, by ts are.1)
  where
    by : (ts : Trees) → AreTexts ts → AreTexts (with_last ts t)
    by none are = (is, tt)
    by (first u ts) are = (are.0, by ts are.1)

-- some names of schemas were read
pub record InNames (s : Parser) (at rest : ℕ) (params : Trees) : Type 0 where
  pub row : Row s 2 at rest (schema ∷ more_schemas ∷ []) (more_schemas ∷ []) params
  pub are : AreNames params

module _ (s : Parser) (at : ℕ) where
  pub names_begun : (rest : ℕ) (t : Tree) (params : Trees) → params ≡ first t none → IsRead s 2 2 (schema ∷ []) at rest (spell t) → IsText t → InNames s at rest params
  names_begun rest t params is_one read is = record { row = row_begun s 2 at rest schema (more_schemas ∷ []) t params is_one read; are = rw is_one (is, tt) }

  pub names_one : (rest after : ℕ) (t : Tree) (params new : Trees) → new ≡ with_last params t → InNames s at rest params → Has s rest comma → IsRead s 2 2 (schema ∷ []) (rest + 1) after (spell t) → IsText t → InNames s at after new
  names_one rest after t params new pushed l has read is = record {
    row =
        row_more s 2 at rest after schema (schema ∷ more_schemas ∷ []) (more_schemas ∷ []) (more_schemas ∷ []) t params new pushed l.row has
        (λ stack. step s more_schemas 2 2 rest comma (schema ∷ more_schemas ∷ []) has refl refl (omega arith) stack) read;
    are = rw pushed (names_more params t l.are is);
  }

  pub names_refused : (rest : ℕ) (params : Trees) (e : Stop) → InNames s at rest params → Has s rest comma → IsRefused s 2 (schema ∷ []) (rest + 1) e → IsRefused s 2 (schema ∷ more_schemas ∷ []) at e
  names_refused rest params e l has refused =
      row_refused s 2 at rest (schema ∷ more_schemas ∷ []) (more_schemas ∷ []) params e l.row
      (opened_refused s more_schemas 2 2 rest comma (schema ∷ more_schemas ∷ []) e has refl refl (omega arith) (first_refused s 2 (rest + 1) (schema ∷ []) (more_schemas ∷ []) e refused))

  no_more : (ss : List Symbol) → IsNotHead comma ss → IsNotHead closing ss → Sticks more_schemas ss
  no_more [] a b = tt
  no_more (comma ∷ ss) a b = absurd (a refl)
  no_more (closing ∷ ss) a b = absurd (b refl)
  no_more (s ∷ ss) a b = refl

  pub names_open : (rest : ℕ) (params : Trees) → InNames s at rest params → IsNotHead comma (from s rest) → IsNotHead closing (from s rest) → IsRefused s 2 (schema ∷ more_schemas ∷ []) at (Syntax rest)
  names_open rest params l a b = row_refused s 2 at rest (schema ∷ more_schemas ∷ []) (more_schemas ∷ []) params (Syntax rest) l.row (stopped s more_schemas 2 rest l.row.inside (no_more (from s rest) a b))

  pub names_read : (rest : ℕ) (params : Trees) → InNames s at rest params → Has s rest closing → IsRead s 2 1 (schema ∷ more_schemas ∷ []) at (rest + 1) (spell_list params)
  names_read rest params l has = row_closed s 2 at 1 rest (schema ∷ more_schemas ∷ []) (more_schemas ∷ []) params l.row has (λ stack. step s more_schemas 2 1 rest closing [] has refl refl (omega arith) stack)

-- one text
pub name_read : (s : Parser) (at : ℕ) (text : List ℕ) → Has s at (value kinds.Text text) → IsRead s 2 2 (schema ∷ []) at (at + 1) (λ r. value kinds.Text text ∷ r)
name_read s at text has = took s schema 2 2 at (value kinds.Text text) has refl refl (omega arith)

no_text_sticks : (ss : List Symbol) → HasNoText ss → Sticks schema ss
no_text_sticks [] h = tt
no_text_sticks (value kinds.Text text ∷ ss) h = absurd h
no_text_sticks (m ∷ ss) h = refl

pub no_text : (s : Parser) (at : ℕ) → at ≤ length s.tokens.now → HasNoText (from s at) → IsRefused s 2 (schema ∷ []) at (Syntax at)
no_text s at le h = stopped s schema 2 at le (no_text_sticks (from s at) h)

-- the items of that entry, in the order in which they are read
schema_steps : List Item
schema_steps = (fixed (word (codes "FILE_SCHEMA")) ∷ []) ++ ((fixed opening ∷ []) ++ ((fixed opening ∷ []) ++ ((schema ∷ more_schemas ∷ []) ++ ((fixed closing ∷ []) ++ (fixed semicolon ∷ [])))))

schema_same : schema_steps ≡ schema_entry
unfolding schema_steps
schema_same = refl

module _ (s : Parser) (at : ℕ) where
  as_schema : (e : Stop) → IsRefused s 0 schema_steps at e → IsRefused s 0 schema_entry at e
  as_schema e refused = subst (λ (is : List Item). IsRefused s 0 is at e) schema_same refused

  pub schema_missing : (e : Stop) → IsRefused s 0 (fixed (word (codes "FILE_SCHEMA")) ∷ []) at e → IsRefused s 0 schema_entry at e
  unfolding schema_steps
  schema_missing e refused = as_schema e (first_refused s 0 at (fixed (word (codes "FILE_SCHEMA")) ∷ []) ((fixed opening ∷ []) ++ ((fixed opening ∷ []) ++ ((schema ∷ more_schemas ∷ []) ++ ((fixed closing ∷ []) ++ (fixed semicolon ∷ []))))) e refused)

  behind_1 : (e : Stop) → Has s at (word (codes "FILE_SCHEMA")) → IsRefused s 0 ((fixed opening ∷ []) ++ ((fixed opening ∷ []) ++ ((schema ∷ more_schemas ∷ []) ++ ((fixed closing ∷ []) ++ (fixed semicolon ∷ []))))) (at + 1) e → IsRefused s 0 schema_entry at e
  unfolding schema_steps
  behind_1 e has refused =
      as_schema e (second_refused s 0 0 at (at + 1) (fixed (word (codes "FILE_SCHEMA")) ∷ []) ((fixed opening ∷ []) ++ ((fixed opening ∷ []) ++ ((schema ∷ more_schemas ∷ []) ++ ((fixed closing ∷ []) ++ (fixed semicolon ∷ []))))) (λ r. word (codes "FILE_SCHEMA") ∷ r) e
      (word_took s 0 at (codes "FILE_SCHEMA") (omega arith) has) refused)

  pub schema_shut : (e : Stop) → Has s at (word (codes "FILE_SCHEMA")) → IsRefused s 0 (fixed opening ∷ []) (at + 1) e → IsRefused s 0 schema_entry at e
  schema_shut e has refused = behind_1 e has (first_refused s 0 (at + 1) (fixed opening ∷ []) ((fixed opening ∷ []) ++ ((schema ∷ more_schemas ∷ []) ++ ((fixed closing ∷ []) ++ (fixed semicolon ∷ [])))) e refused)

  open_outer : Has s (at + 1) opening → IsRead s 0 1 (fixed opening ∷ []) (at + 1) (at + 1 + 1) (λ r. opening ∷ r)
  open_outer has = took s (fixed opening) 0 1 (at + 1) opening has refl refl (omega arith)

  behind_2 : (e : Stop) → Has s at (word (codes "FILE_SCHEMA")) → Has s (at + 1) opening → IsRefused s 1 ((fixed opening ∷ []) ++ ((schema ∷ more_schemas ∷ []) ++ ((fixed closing ∷ []) ++ (fixed semicolon ∷ [])))) (at + 1 + 1) e → IsRefused s 0 schema_entry at e
  behind_2 e has outer refused =
      behind_1 e has (second_refused s 0 1 (at + 1) (at + 1 + 1) (fixed opening ∷ []) ((fixed opening ∷ []) ++ ((schema ∷ more_schemas ∷ []) ++ ((fixed closing ∷ []) ++ (fixed semicolon ∷ [])))) (λ r. opening ∷ r) e (open_outer outer) refused)

  pub schema_shut_twice : (e : Stop) → Has s at (word (codes "FILE_SCHEMA")) → Has s (at + 1) opening → IsRefused s 1 (fixed opening ∷ []) (at + 1 + 1) e → IsRefused s 0 schema_entry at e
  schema_shut_twice e has outer refused = behind_2 e has outer (first_refused s 1 (at + 1 + 1) (fixed opening ∷ []) ((schema ∷ more_schemas ∷ []) ++ ((fixed closing ∷ []) ++ (fixed semicolon ∷ []))) e refused)

  open_inner : Has s (at + 1 + 1) opening → IsRead s 1 2 (fixed opening ∷ []) (at + 1 + 1) (at + 1 + 1 + 1) (λ r. opening ∷ r)
  open_inner has = took s (fixed opening) 1 2 (at + 1 + 1) opening has refl refl (omega arith)

  behind_3 : (e : Stop) → Has s at (word (codes "FILE_SCHEMA")) → Has s (at + 1) opening → Has s (at + 1 + 1) opening → IsRefused s 2 ((schema ∷ more_schemas ∷ []) ++ ((fixed closing ∷ []) ++ (fixed semicolon ∷ []))) (at + 1 + 1 + 1) e → IsRefused s 0 schema_entry at e
  behind_3 e has outer inner refused =
      behind_2 e has outer (second_refused s 1 2 (at + 1 + 1) (at + 1 + 1 + 1) (fixed opening ∷ []) ((schema ∷ more_schemas ∷ []) ++ ((fixed closing ∷ []) ++ (fixed semicolon ∷ []))) (λ r. opening ∷ r) e (open_inner inner) refused)

  pub schema_nameless : (e : Stop) → Has s at (word (codes "FILE_SCHEMA")) → Has s (at + 1) opening → Has s (at + 1 + 1) opening → IsRefused s 2 (schema ∷ more_schemas ∷ []) (at + 1 + 1 + 1) e → IsRefused s 0 schema_entry at e
  schema_nameless e has outer inner refused = behind_3 e has outer inner (first_refused s 2 (at + 1 + 1 + 1) (schema ∷ more_schemas ∷ []) ((fixed closing ∷ []) ++ (fixed semicolon ∷ [])) e refused)

  pub schema_open : (after : ℕ) (f : List Symbol → List Symbol) (e : Stop) → Has s at (word (codes "FILE_SCHEMA")) → Has s (at + 1) opening → Has s (at + 1 + 1) opening → IsRead s 2 1 (schema ∷ more_schemas ∷ []) (at + 1 + 1 + 1) after f
      → IsRefused s 1 (fixed closing ∷ []) after e → IsRefused s 0 schema_entry at e
  schema_open after f e has outer inner read refused =
      behind_3 e has outer inner (second_refused s 2 1 (at + 1 + 1 + 1) after (schema ∷ more_schemas ∷ []) ((fixed closing ∷ []) ++ (fixed semicolon ∷ [])) f e read (first_refused s 1 after (fixed closing ∷ []) (fixed semicolon ∷ []) e refused))

  close_outer : (after : ℕ) → Has s after closing → IsRead s 1 0 (fixed closing ∷ []) after (after + 1) (λ r. closing ∷ r)
  close_outer after has = took s (fixed closing) 1 0 after closing has refl refl (omega arith)

  pub schema_endless : (after : ℕ) (f : List Symbol → List Symbol) (e : Stop) → Has s at (word (codes "FILE_SCHEMA")) → Has s (at + 1) opening → Has s (at + 1 + 1) opening → IsRead s 2 1 (schema ∷ more_schemas ∷ []) (at + 1 + 1 + 1) after f
      → Has s after closing → IsRefused s 0 (fixed semicolon ∷ []) (after + 1) e → IsRefused s 0 schema_entry at e
  schema_endless after f e has outer inner read close refused =
      behind_3 e has outer inner (second_refused s 2 1 (at + 1 + 1 + 1) after (schema ∷ more_schemas ∷ []) ((fixed closing ∷ []) ++ (fixed semicolon ∷ [])) f e read
      (second_refused s 1 0 after (after + 1) (fixed closing ∷ []) (fixed semicolon ∷ []) (λ r. closing ∷ r) e (close_outer after close) refused))

  pub schema_read : (after next : ℕ) (ts : Trees) (p : PartTree) → p.keyword ≡ codes "FILE_SCHEMA" → p.parameters ≡ first (list ts) none → Has s at (word (codes "FILE_SCHEMA")) → Has s (at + 1) opening → Has s (at + 1 + 1) opening
      → IsRead s 2 1 (schema ∷ more_schemas ∷ []) (at + 1 + 1 + 1) after (spell_list ts) → Has s after closing → Has s (after + 1) semicolon → next ≡ after + 1 + 1 → IsRead s 0 0 schema_entry at next (spell_entry p)
  unfolding schema_steps
  schema_read after next ts p is has_these has outer inner read close end last =
      let f = spell_list ts in
      let tail_0 = both s 1 0 0 after (after + 1) (after + 1 + 1) (fixed closing ∷ []) (fixed semicolon ∷ []) (λ r. closing ∷ r) (λ r. semicolon ∷ r) (close_outer after close) (took s (fixed semicolon) 0 0 (after + 1) semicolon end refl refl (omega arith)) in
      let tail_1 = both s 2 1 0 (at + 1 + 1 + 1) after (after + 1 + 1) (schema ∷ more_schemas ∷ []) ((fixed closing ∷ []) ++ (fixed semicolon ∷ [])) f (λ r. closing ∷ semicolon ∷ r) read tail_0 in
      let tail_2 = both s 1 2 0 (at + 1 + 1) (at + 1 + 1 + 1) (after + 1 + 1) (fixed opening ∷ []) ((schema ∷ more_schemas ∷ []) ++ ((fixed closing ∷ []) ++ (fixed semicolon ∷ []))) (λ r. opening ∷ r) (λ r. f (closing ∷ semicolon ∷ r)) (open_inner inner) tail_1 in
      let tail_3 = both s 0 1 0 (at + 1) (at + 1 + 1) (after + 1 + 1) (fixed opening ∷ []) ((fixed opening ∷ []) ++ ((schema ∷ more_schemas ∷ []) ++ ((fixed closing ∷ []) ++ (fixed semicolon ∷ [])))) (λ r. opening ∷ r) (λ r. opening ∷ f (closing ∷ semicolon ∷ r)) (open_outer outer) tail_2 in
      let made = both s 0 0 0 at (at + 1) (after + 1 + 1) (fixed (word (codes "FILE_SCHEMA")) ∷ []) ((fixed opening ∷ []) ++ ((fixed opening ∷ []) ++ ((schema ∷ more_schemas ∷ []) ++ ((fixed closing ∷ []) ++ (fixed semicolon ∷ [])))))
      (λ r. word (codes "FILE_SCHEMA") ∷ r) (λ r. opening ∷ opening ∷ f (closing ∷ semicolon ∷ r)) (word_took s 0 at (codes "FILE_SCHEMA") (omega arith) has) tail_3 in
      let respelt = respelled s 0 0 at (after + 1 + 1) schema_steps (λ r. word (codes "FILE_SCHEMA") ∷ opening ∷ opening ∷ f (closing ∷ semicolon ∷ r)) (spell_entry p)
      (λ r. ap (λ (t : List ℕ). keyword t ∷ opening ∷ opening ∷ f (closing ∷ semicolon ∷ r)) (sym is) ∙ ap (λ (ps : Trees). keyword p.keyword ∷ opening ∷ spell_list ps (semicolon ∷ r)) (sym has_these)) made in
      subst (λ (k : ℕ). IsRead s 0 0 schema_entry at k (spell_entry p)) (sym last) (subst (λ (is : List Item). IsRead s 0 0 is at (after + 1 + 1) (spell_entry p)) schema_same respelt)

text_flat : (t : Tree) → IsText t → nesting t ≡ 0
text_flat (one kinds.Text text) is = refl
text_flat t is = absurd is

texts_flat : (ts : Trees) → AreTexts ts → nestings ts ≡ 0
texts_flat none are = refl
texts_flat (first t ts) are = let a = text_flat t are.0 in let b = texts_flat ts are.1 in omega arith

names_flat : (ts : Trees) → AreNames ts → nestings ts ≡ 0
names_flat none are = absurd are
names_flat (first t ts) are = texts_flat (first t ts) are

pub schema_is : (ts : Trees) (p : PartTree) → p.keyword ≡ codes "FILE_SCHEMA" → p.parameters ≡ first (list ts) none → AreNames ts → IsSchema p × (part_nesting p ≤ 32)
schema_is (first t ts) p is has_these names =
    let flat = names_flat (first t ts) names in
    ((is, subst IsTextList (sym has_these) names), rw has_these (omega arith))
schema_is none p is has_these names = absurd names

-- ---- further entries

-- an opening parenthesis behind a keyword begins an entry, whichever keyword it is
entry_begun : (w : List ℕ) (ss : List Symbol) (stack : List Item) → run 32 0 (entries ∷ stack) (keyword w ∷ opening ∷ ss) ≡ run 32 0 (fixed opening ∷ parameter ∷ more_parameters ∷ fixed semicolon ∷ entries ∷ stack) (opening ∷ ss)
entry_begun w ss stack = by (bytes_eq (codes "ENDSEC") w) refl
  where
    by : (b : Bool) → bytes_eq (codes "ENDSEC") w ≡ b → run 32 0 (entries ∷ stack) (keyword w ∷ opening ∷ ss) ≡ run 32 0 (fixed opening ∷ parameter ∷ more_parameters ∷ fixed semicolon ∷ entries ∷ stack) (opening ∷ ss)
    by true e = rw e refl
    by false e = rw e refl

-- and another keyword than the last word begins one
entry_other : (w : List ℕ) (ss : List Symbol) (stack : List Item) → bytes_eq (codes "ENDSEC") w ≡ false → run 32 0 (entries ∷ stack) (keyword w ∷ ss) ≡ run 32 0 (fixed opening ∷ parameter ∷ more_parameters ∷ fixed semicolon ∷ entries ∷ stack) ss
entry_other w ss stack e = rw e refl

not_last : (w : List ℕ) (ss : List Symbol) → IsNoEnd (keyword w ∷ ss) → IsNotHead opening ss → bytes_eq (codes "ENDSEC") w ≡ false
not_last w ss h other = by (bytes_eq (codes "ENDSEC") w) (λ e. h e other)
  where
    by : (b : Bool) → (b ≡ true → ⊥) → b ≡ false
    by true f = absurd (f refl)
    by false f = refl

-- in each case an entry begins where the header doesn't end
entry_alike : (w : List ℕ) (ss : List Symbol) (stack : List Item) → IsNoEnd (keyword w ∷ ss) → run 32 0 (entries ∷ stack) (keyword w ∷ ss) ≡ run 32 0 (fixed opening ∷ parameter ∷ more_parameters ∷ fixed semicolon ∷ entries ∷ stack) ss
entry_alike w [] stack h = entry_other w [] stack (not_last w [] h tt)
entry_alike w (opening ∷ ss) stack h = entry_begun w ss stack
entry_alike w (value kind text ∷ ss) stack h = entry_other w (value kind text ∷ ss) stack (not_last w (value kind text ∷ ss) h (λ e. absurd cc))
entry_alike w (name n ∷ ss) stack h = entry_other w (name n ∷ ss) stack (not_last w (name n ∷ ss) h (λ e. absurd cc))
entry_alike w (keyword v ∷ ss) stack h = entry_other w (keyword v ∷ ss) stack (not_last w (keyword v ∷ ss) h (λ e. absurd cc))
entry_alike w (dashed v ∷ ss) stack h = entry_other w (dashed v ∷ ss) stack (not_last w (dashed v ∷ ss) h (λ e. absurd cc))
entry_alike w (closing ∷ ss) stack h = entry_other w (closing ∷ ss) stack (not_last w (closing ∷ ss) h (λ e. absurd cc))
entry_alike w (comma ∷ ss) stack h = entry_other w (comma ∷ ss) stack (not_last w (comma ∷ ss) h (λ e. absurd cc))
entry_alike w (semicolon ∷ ss) stack h = entry_other w (semicolon ∷ ss) stack (not_last w (semicolon ∷ ss) h (λ e. absurd cc))
entry_alike w (equals ∷ ss) stack h = entry_other w (equals ∷ ss) stack (not_last w (equals ∷ ss) h (λ e. absurd cc))

-- where the header doesn't end
pub other_no_end : (ss : List Symbol) → IsOther endsec ss → IsNoEnd ss
other_no_end [] h = tt
other_no_end (m ∷ ss) h = λ e other. let both_ways : true ≡ false = sym e ∙ h in absurd cc

pub begun_no_end : (s : Parser) (at : ℕ) → Has s at endsec → Has s (at + 1) opening → IsNoEnd (from s at)
begun_no_end s at has has_open = subst IsNoEnd (sym has.first) (λ e other. subst (IsNotHead opening) has_open.first other refl)

-- the items of an entry behind its keyword
abbrev entry_rest : List Item
entry_rest = (fixed opening ∷ []) ++ ((parameter ∷ more_parameters ∷ []) ++ (fixed semicolon ∷ []))

module _ (s : Parser) (at : ℕ) where
  goes_in : (w : List ℕ) → Has s at (keyword w) → IsNoEnd (from s at) → (stack : List Item) → run 32 0 (entries ∷ stack) (from s at) ≡ run 32 0 (entry_rest ++ (entries ∷ stack)) (from s (at + 1))
  goes_in w has h stack = ap (run 32 0 (entries ∷ stack)) has.first ∙ entry_alike w (from s (at + 1)) stack (subst IsNoEnd has.first h)

  pub entry_refused : (w : List ℕ) (e : Stop) → Has s at (keyword w) → IsNoEnd (from s at) → IsRefused s 0 entry_rest (at + 1) e → EntriesRefused s at e
  entry_refused w e has h refused = λ stack. subst (Stops s e) (sym (goes_in w has h stack)) (refused (entries ∷ stack))

  pub entry_shut : (w : List ℕ) (e : Stop) → Has s at (keyword w) → IsNoEnd (from s at) → IsRefused s 0 (fixed opening ∷ []) (at + 1) e → EntriesRefused s at e
  entry_shut w e has h refused = entry_refused w e has h (first_refused s 0 (at + 1) (fixed opening ∷ []) ((parameter ∷ more_parameters ∷ []) ++ (fixed semicolon ∷ [])) e refused)

  open_one : Has s (at + 1) opening → IsRead s 0 1 (fixed opening ∷ []) (at + 1) (at + 1 + 1) (λ r. opening ∷ r)
  open_one has = took s (fixed opening) 0 1 (at + 1) opening has refl refl (omega arith)

  pub entry_empty : (w : List ℕ) (e : Stop) → Has s at (keyword w) → IsNoEnd (from s at) → Has s (at + 1) opening → IsRefused s 1 (parameter ∷ more_parameters ∷ []) (at + 1 + 1) e → EntriesRefused s at e
  entry_empty w e has h has_open refused =
      entry_refused w e has h (second_refused s 0 1 (at + 1) (at + 1 + 1) (fixed opening ∷ []) ((parameter ∷ more_parameters ∷ []) ++ (fixed semicolon ∷ [])) (λ r. opening ∷ r) e (open_one has_open)
      (first_refused s 1 (at + 1 + 1) (parameter ∷ more_parameters ∷ []) (fixed semicolon ∷ []) e refused))

  pub entry_open : (w : List ℕ) (after : ℕ) (f : List Symbol → List Symbol) (e : Stop) → Has s at (keyword w) → IsNoEnd (from s at) → Has s (at + 1) opening → IsRead s 1 0 (parameter ∷ more_parameters ∷ []) (at + 1 + 1) after f
      → IsRefused s 0 (fixed semicolon ∷ []) after e → EntriesRefused s at e
  entry_open w after f e has h has_open read refused =
      entry_refused w e has h (second_refused s 0 1 (at + 1) (at + 1 + 1) (fixed opening ∷ []) ((parameter ∷ more_parameters ∷ []) ++ (fixed semicolon ∷ [])) (λ r. opening ∷ r) e (open_one has_open)
      (second_refused s 1 0 (at + 1 + 1) after (parameter ∷ more_parameters ∷ []) (fixed semicolon ∷ []) f e read refused))

  pub entry_read : (w : List ℕ) (after next : ℕ) (p : PartTree) → p.keyword ≡ w → Has s at (keyword w) → IsNoEnd (from s at) → Has s (at + 1) opening → IsRead s 1 0 (parameter ∷ more_parameters ∷ []) (at + 1 + 1) after (spell_list p.parameters)
      → Has s after semicolon → next ≡ after + 1 → EntryRead s at next (spell_entry p)
  entry_read w after next p is has h has_open read end last =
      let f = spell_list p.parameters in
      let tail = both s 1 0 0 (at + 1 + 1) after (after + 1) (parameter ∷ more_parameters ∷ []) (fixed semicolon ∷ []) f (λ r. semicolon ∷ r) read (took s (fixed semicolon) 0 0 after semicolon end refl refl (omega arith)) in
      let inner = both s 0 1 0 (at + 1) (at + 1 + 1) (after + 1) (fixed opening ∷ []) ((parameter ∷ more_parameters ∷ []) ++ (fixed semicolon ∷ [])) (λ r. opening ∷ r) (λ r. f (semicolon ∷ r)) (open_one has_open) tail in
      subst (λ (k : ℕ). EntryRead s at k (spell_entry p)) (sym last) (record {
        onward = omega (arith, inner.onward);
        inside = inner.inside;
        spells = has.first ∙ ap (λ (v : List ℕ). keyword v ∷ from s (at + 1)) (sym is) ∙ ap (λ (ss : List Symbol). keyword p.keyword ∷ ss) inner.spells;
        goes = λ stack. goes_in w has h stack ∙ inner.goes (entries ∷ stack);
      })

-- no keyword, so no entry
pub entry_missing : (s : Parser) (at : ℕ) → at ≤ length s.tokens.now → HasNoKeyword (from s at) → EntriesRefused s at (Syntax at)
entry_missing s at le h = stopped s entries 0 at le (by (from s at) h)
  where
    by : (ss : List Symbol) → HasNoKeyword ss → Sticks entries ss
    by [] h = tt
    by (keyword w ∷ ss) h = absurd h
    by (m ∷ ss) h = refl

-- some entries were read
pub record Entered (s : Parser) (at rest : ℕ) (ps : List PartTree) : Type 0 where
  pub onward : at ≤ rest
  pub inside : rest ≤ length s.tokens.now
  pub spells : from s at ≡ spell_all spell_entry ps (from s rest)
  pub goes : (stack : List Item) → run 32 0 (entries ∷ stack) (from s at) ≡ run 32 0 (entries ∷ stack) (from s rest)
  pub are : AllByRecursion IsEntry ps
  pub nests : greatest part_nesting ps ≤ 32

end_alike : (ss : List Symbol) (stack : List Item) → IsNotHead opening ss → run 32 0 (entry_or_end ∷ stack) ss ≡ run 32 0 (fixed semicolon ∷ stack) ss
end_alike [] stack h = refl
end_alike (opening ∷ ss) stack h = absurd (h refl)
end_alike (value kind text ∷ ss) stack h = refl
end_alike (name n ∷ ss) stack h = refl
end_alike (keyword w ∷ ss) stack h = refl
end_alike (dashed w ∷ ss) stack h = refl
end_alike (closing ∷ ss) stack h = refl
end_alike (comma ∷ ss) stack h = refl
end_alike (semicolon ∷ ss) stack h = refl
end_alike (equals ∷ ss) stack h = refl

-- behind those read before
abbrev pub Behind : Parser → ℕ → ℕ → List PartTree → List PartTree → Type 0
Behind s at rest before whole = (ps : List PartTree) × (whole ≡ before ++ ps) × Entered s at rest ps

module _ (s : Parser) (at : ℕ) where
  pub none_entered : (before : List PartTree) → at ≤ length s.tokens.now → Behind s at at before before
  none_entered before le = ([], sym (append-nil before), record { onward = omega arith; inside = le; spells = refl; goes = λ stack. refl; are = tt; nests = omega arith })

  one_entered : (rest after : ℕ) (p : PartTree) (ps new : List PartTree) → new ≡ ps ++ p ∷ [] → Entered s at rest ps → EntryRead s rest after (spell_entry p) → IsEntry p × (part_nesting p ≤ 32) → Entered s at after new
  one_entered rest after p ps new pushed l read is = subst (Entered s at after) (sym pushed) (record {
    onward = omega (arith, l.onward, read.onward);
    inside = read.inside;
    spells = l.spells ∙ ap (spell_all spell_entry ps) read.spells ∙ sym (all_more spell_entry ps p (from s after));
    goes = λ stack. l.goes stack ∙ read.goes stack;
    are = are_all IsEntry ps p l.are is.0;
    nests = greatest_more part_nesting ps p l.nests is.1;
  })

  pub entered_refused : (rest : ℕ) (ps : List PartTree) (e : Stop) → Entered s at rest ps → EntriesRefused s rest e → EntriesRefused s at e
  entered_refused rest ps e l refused = λ stack. subst (Stops s e) (sym (l.goes stack)) (refused stack)

  -- the last word, and what is still to come behind it
  goes_out : (rest : ℕ) (ps : List PartTree) → Entered s at rest ps → IsEnd s rest → (stack : List Item) → run 32 0 (entries ∷ stack) (from s at) ≡ run 32 0 (fixed semicolon ∷ stack) (from s (rest + 1))
  goes_out rest ps l end stack = l.goes stack ∙ step s entries 0 0 rest endsec (entry_or_end ∷ []) end.0 refl refl (omega arith) stack ∙ end_alike (from s (rest + 1)) stack end.1

  pub unended : (rest : ℕ) (ps : List PartTree) (e : Stop) → Entered s at rest ps → IsEnd s rest → IsRefused s 0 (fixed semicolon ∷ []) (rest + 1) e → EntriesRefused s at e
  unended rest ps e l end refused = λ stack. subst (Stops s e) (sym (goes_out rest ps l end stack)) (refused stack)

  pub ended : (rest next : ℕ) (ps : List PartTree) → Entered s at rest ps → IsEnd s rest → Has s (rest + 1) semicolon → next ≡ rest + 1 + 1 → IsRead s 0 0 (entries ∷ []) at next (λ r. spell_all spell_entry ps (endsec ∷ semicolon ∷ r))
  ended rest next ps l end has last =
      let out = took s (fixed semicolon) 0 0 (rest + 1) semicolon has refl refl (omega arith) in
      subst (λ (k : ℕ). IsRead s 0 0 (entries ∷ []) at k (λ r. spell_all spell_entry ps (endsec ∷ semicolon ∷ r))) (sym last) (record {
        onward = omega (arith, l.onward);
        inside = out.inside;
        spells = l.spells ∙ ap (λ (ss : List Symbol). spell_all spell_entry ps ss) (end.0.first ∙ ap (λ (ss : List Symbol). endsec ∷ ss) has.first);
        goes = λ stack. goes_out rest ps l end stack ∙ out.goes stack;
      })

  pub one_behind : (rest after : ℕ) (p : PartTree) (before whole new : List PartTree) → new ≡ whole ++ p ∷ [] → Behind s at rest before whole → EntryRead s rest after (spell_entry p) → IsEntry p × (part_nesting p ≤ 32) → Behind s at after before new
  one_behind rest after p before whole new pushed (ps, is, l) read ok =
      (ps ++ p ∷ [], pushed ∙ ap (λ (qs : List PartTree). qs ++ p ∷ []) is ∙ append_assoc before ps (p ∷ []), one_entered rest after p ps (ps ++ p ∷ []) refl l read ok)

  pub behind_refused : (rest : ℕ) (before whole : List PartTree) (e : Stop) → Behind s at rest before whole → EntriesRefused s rest e → EntriesRefused s at e
  behind_refused rest before whole e (ps, is, l) refused = entered_refused rest ps e l refused

  pub behind_unended : (rest : ℕ) (before whole : List PartTree) (e : Stop) → Behind s at rest before whole → IsEnd s rest → IsRefused s 0 (fixed semicolon ∷ []) (rest + 1) e → EntriesRefused s at e
  behind_unended rest before whole e (ps, is, l) end refused = unended rest ps e l end refused

  pub behind_ended : (rest next : ℕ) (before whole : List PartTree) → Behind s at rest before whole → IsEnd s rest → Has s (rest + 1) semicolon → next ≡ rest + 1 + 1 → EntriesRead s at next before whole
  behind_ended rest next before whole (ps, is, l) end has last = record { others = ps; is = is; read = ended rest next ps l end has last; are = l.are; nests = l.nests }

-- ---- the whole header

greatest_of_three : {X : Type 0} (f : X → ℕ) (a b c : X) (xs : List X) → f a ≤ 32 → f b ≤ 32 → f c ≤ 32 → greatest f xs ≤ 32 → greatest f (a ∷ b ∷ c ∷ xs) ≤ 32
greatest_of_three f a b c xs p q r rest = omega arith

module _ (s : Parser) (at : ℕ) where
  abbrev tail_1 : List Item
  tail_1 = named (codes "FILE_NAME") 6 [] ++ (schema_entry ++ (entries ∷ []))

  abbrev tail_2 : List Item
  tail_2 = schema_entry ++ (entries ∷ [])

  pub head_1 : (e : Stop) → IsRefused s 0 (named (codes "FILE_DESCRIPTION") 1 []) at e → IsRefused s 0 head_items at e
  head_1 e refused = first_refused s 0 at (named (codes "FILE_DESCRIPTION") 1 []) tail_1 e refused

  pub head_2 : (mid : ℕ) (f : List Symbol → List Symbol) (e : Stop) → IsRead s 0 0 (named (codes "FILE_DESCRIPTION") 1 []) at mid f → IsRefused s 0 (named (codes "FILE_NAME") 6 []) mid e → IsRefused s 0 head_items at e
  head_2 mid f e read refused = second_refused s 0 0 at mid (named (codes "FILE_DESCRIPTION") 1 []) tail_1 f e read (first_refused s 0 mid (named (codes "FILE_NAME") 6 []) tail_2 e refused)

  pub head_3 : (mid after : ℕ) (f g : List Symbol → List Symbol) (e : Stop) → IsRead s 0 0 (named (codes "FILE_DESCRIPTION") 1 []) at mid f → IsRead s 0 0 (named (codes "FILE_NAME") 6 []) mid after g → IsRefused s 0 schema_entry after e → IsRefused s 0 head_items at e
  head_3 mid after f g e read read_2 refused =
      second_refused s 0 0 at mid (named (codes "FILE_DESCRIPTION") 1 []) tail_1 f e read
      (second_refused s 0 0 mid after (named (codes "FILE_NAME") 6 []) tail_2 g e read_2 (first_refused s 0 after schema_entry (entries ∷ []) e refused))

  pub head_4 : (mid after rest : ℕ) (f g h : List Symbol → List Symbol) (e : Stop) → IsRead s 0 0 (named (codes "FILE_DESCRIPTION") 1 []) at mid f → IsRead s 0 0 (named (codes "FILE_NAME") 6 []) mid after g → IsRead s 0 0 schema_entry after rest h
      → EntriesRefused s rest e → IsRefused s 0 head_items at e
  head_4 mid after rest f g h e read read_2 read_3 refused =
      second_refused s 0 0 at mid (named (codes "FILE_DESCRIPTION") 1 []) tail_1 f e read
      (second_refused s 0 0 mid after (named (codes "FILE_NAME") 6 []) tail_2 g e read_2 (second_refused s 0 0 after rest schema_entry (entries ∷ []) h e read_3 refused))

  pub head_read : (mid after rest next : ℕ) (a b c : PartTree) (three whole : List PartTree) → three ≡ a ∷ b ∷ c ∷ [] → IsRead s 0 0 (named (codes "FILE_DESCRIPTION") 1 []) at mid (spell_entry a)
      → IsRead s 0 0 (named (codes "FILE_NAME") 6 []) mid after (spell_entry b) → IsRead s 0 0 schema_entry after rest (spell_entry c) → EntriesRead s rest next three whole
      → IsRead s 0 0 head_items at next (λ r. spell_all spell_entry whole (endsec ∷ semicolon ∷ r))
  head_read mid after rest next a b c three whole is read read_2 read_3 l =
      let f = λ (r : List Symbol). spell_all spell_entry l.others (endsec ∷ semicolon ∷ r) in
      let made_3 = both s 0 0 0 after rest next schema_entry (entries ∷ []) (spell_entry c) f read_3 l.read in
      let made_2 = both s 0 0 0 mid after next (named (codes "FILE_NAME") 6 []) tail_2 (spell_entry b) (λ r. spell_entry c (f r)) read_2 made_3 in
      let made = both s 0 0 0 at mid next (named (codes "FILE_DESCRIPTION") 1 []) tail_1 (spell_entry a) (λ r. spell_entry b (spell_entry c (f r))) read made_2 in
      respelled s 0 0 at next head_items (λ r. spell_entry a (spell_entry b (spell_entry c (f r)))) (λ r. spell_all spell_entry whole (endsec ∷ semicolon ∷ r))
      (λ r. ap (λ (ps : List PartTree). spell_all spell_entry ps (endsec ∷ semicolon ∷ r)) (sym (l.is ∙ ap (λ (ps : List PartTree). ps ++ l.others) is))) made

  pub head_is : (rest next : ℕ) (a b c : PartTree) (three whole : List PartTree) → three ≡ a ∷ b ∷ c ∷ [] → IsNamed (codes "FILE_DESCRIPTION") 2 a × (part_nesting a ≤ 32) → IsNamed (codes "FILE_NAME") 7 b × (part_nesting b ≤ 32)
      → IsSchema c × (part_nesting c ≤ 32) → EntriesRead s rest next three whole → IsHead whole × (greatest part_nesting whole ≤ 32)
  head_is rest next a b c three whole is ok_a ok_b ok_c l =
      subst (λ (ps : List PartTree). IsHead ps × (greatest part_nesting ps ≤ 32)) (sym (l.is ∙ ap (λ (ps : List PartTree). ps ++ l.others) is))
      ((ok_a.0, ok_b.0, ok_c.0, l.are), greatest_of_three part_nesting a b c l.others ok_a.1 ok_b.1 ok_c.1 l.nests)

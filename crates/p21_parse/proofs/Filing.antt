-- Reading a whole file.
use Rattle.std.proofs.Common.{◌≡◌, ℕ, ◌<◌, ◌≤◌, List, [], ◌∷◌, ◌++◌, length, refl, sym, ap, subst, ◌∙◌, arith, inl, inr}
use Rattle.std.specs.List.{AllByRecursion}
use Rattle.std.proofs.lemmas.List.{drop_all}
use Rattle.p21_parse.specs.declared.parser.Parser.{Parser}
use Rattle.p21_parse.specs.declared.parser.Stop.{Stop}
use Rattle.p21_parse.specs.declared.parser.Stop.TheVariants.{Syntax, TooDeep, NoMemory}
use Rattle.p21_parse.specs.Tree.{PartTree, InstanceTree, ExchangeTree}
use Rattle.p21_parse.specs.Symbol.{Symbol, value, name, keyword, dashed, opening, closing, comma, semicolon, equals, symbols}
use Rattle.p21_parse.specs.Spell.{spell_entry, spell_instance, spell_all}
use Rattle.p21_parse.specs.Grammar.{IsHead, IsInstance}
use Rattle.p21_parse.specs.Nesting.{part_nesting, instance_nesting, greatest}
use Rattle.p21_parse.specs.Machine.{Item, fixed, instances, iso, header, data_word, endsec, end_iso, file_items, schema_items, data_items, end_items, Outcome, done, run}
use Rattle.p21_parse.specs.Parser.{from, Stops, IsRead, IsRefused, AreRead, AreRefused, HasNoName, phrase, head_items, start_items, last_items, spell_start, spell_last, RestRead, FileRead, FileStops}
use Rattle.p21_parse.proofs.Moves.{both, first_refused, second_refused}

module _ (s : Parser) where
  abbrev start_1 : List Item
  start_1 = phrase header ++ (head_items ++ phrase data_word)

  abbrev start_2 : List Item
  start_2 = head_items ++ phrase data_word

  pub start_refused_1 : (e : Stop) → IsRefused s 0 (phrase iso) 0 e → IsRefused s 0 start_items 0 e
  start_refused_1 e refused = first_refused s 0 0 (phrase iso) start_1 e refused

  pub start_refused_2 : (at : ℕ) (f : List Symbol → List Symbol) (e : Stop) → IsRead s 0 0 (phrase iso) 0 at f → IsRefused s 0 (phrase header) at e → IsRefused s 0 start_items 0 e
  start_refused_2 at f e read refused = second_refused s 0 0 0 at (phrase iso) start_1 f e read (first_refused s 0 at (phrase header) start_2 e refused)

  pub start_refused_3 : (at mid : ℕ) (f g : List Symbol → List Symbol) (e : Stop) → IsRead s 0 0 (phrase iso) 0 at f → IsRead s 0 0 (phrase header) at mid g → IsRefused s 0 head_items mid e → IsRefused s 0 start_items 0 e
  start_refused_3 at mid f g e read read_2 refused =
      second_refused s 0 0 0 at (phrase iso) start_1 f e read (second_refused s 0 0 at mid (phrase header) start_2 g e read_2 (first_refused s 0 mid head_items (phrase data_word) e refused))

  pub start_refused_4 : (at mid end : ℕ) (f g h : List Symbol → List Symbol) (e : Stop) → IsRead s 0 0 (phrase iso) 0 at f → IsRead s 0 0 (phrase header) at mid g → IsRead s 0 0 head_items mid end h → IsRefused s 0 (phrase data_word) end e → IsRefused s 0 start_items 0 e
  start_refused_4 at mid end f g h e read read_2 read_3 refused =
      second_refused s 0 0 0 at (phrase iso) start_1 f e read (second_refused s 0 0 at mid (phrase header) start_2 g e read_2 (second_refused s 0 0 mid end head_items (phrase data_word) h e read_3 refused))

  pub start_read : (at mid end next : ℕ) (head : List PartTree) → IsRead s 0 0 (phrase iso) 0 at (λ r. iso ∷ semicolon ∷ r) → IsRead s 0 0 (phrase header) at mid (λ r. header ∷ semicolon ∷ r)
      → IsRead s 0 0 head_items mid end (λ r. spell_all spell_entry head (endsec ∷ semicolon ∷ r)) → IsRead s 0 0 (phrase data_word) end next (λ r. data_word ∷ semicolon ∷ r) → IsRead s 0 0 start_items 0 next (spell_start head)
  start_read at mid end next head read read_2 read_3 read_4 =
      let f = λ (r : List Symbol). spell_all spell_entry head (endsec ∷ semicolon ∷ r) in
      let made_3 = both s 0 0 0 mid end next head_items (phrase data_word) f (λ r. data_word ∷ semicolon ∷ r) read_3 read_4 in
      let made_2 = both s 0 0 0 at mid next (phrase header) start_2 (λ r. header ∷ semicolon ∷ r) (λ r. f (data_word ∷ semicolon ∷ r)) read_2 made_3 in
      both s 0 0 0 0 at next (phrase iso) start_1 (λ r. iso ∷ semicolon ∷ r) (λ r. header ∷ semicolon ∷ f (data_word ∷ semicolon ∷ r)) read made_2

  pub last_refused_1 : (at : ℕ) (e : Stop) → IsRefused s 0 (phrase endsec) at e → IsRefused s 0 last_items at e
  last_refused_1 at e refused = first_refused s 0 at (phrase endsec) (phrase end_iso) e refused

  pub last_refused_2 : (at end : ℕ) (f : List Symbol → List Symbol) (e : Stop) → IsRead s 0 0 (phrase endsec) at end f → IsRefused s 0 (phrase end_iso) end e → IsRefused s 0 last_items at e
  last_refused_2 at end f e read refused = second_refused s 0 0 at end (phrase endsec) (phrase end_iso) f e read refused

  pub last_read : (at end next : ℕ) → IsRead s 0 0 (phrase endsec) at end (λ r. endsec ∷ semicolon ∷ r) → IsRead s 0 0 (phrase end_iso) end next (λ r. end_iso ∷ semicolon ∷ r) → IsRead s 0 0 last_items at next spell_last
  last_read at end next read read_2 = both s 0 0 0 at end next (phrase endsec) (phrase end_iso) (λ r. endsec ∷ semicolon ∷ r) (λ r. end_iso ∷ semicolon ∷ r) read read_2

  -- ---- the file

  -- the items of a file are those up to the instances, the instances, and those behind them
  file_is : file_items ≡ start_items ++ (instances ∷ end_items)
  unfolding file_items schema_items data_items end_items
  file_is = refl

  last_is : last_items ≡ fixed endsec ∷ end_items
  unfolding end_items
  last_is = refl

  -- the machine up to the instances
  begun : (at : ℕ) (f : List Symbol → List Symbol) → IsRead s 0 0 start_items 0 at f → run 32 0 file_items (from s 0) ≡ run 32 0 (instances ∷ end_items) (from s at)
  begun at f read = ap (λ (is : List Item). run 32 0 is (from s 0)) file_is ∙ read.goes (instances ∷ end_items)

  ends_alike : (ss : List Symbol) (stack : List Item) → HasNoName ss → run 32 0 (instances ∷ stack) ss ≡ run 32 0 (fixed endsec ∷ stack) ss
  ends_alike [] stack h = refl
  ends_alike (value kind text ∷ ss) stack h = refl
  ends_alike (name n ∷ ss) stack h = absurd h
  ends_alike (keyword text ∷ ss) stack h = refl
  ends_alike (dashed text ∷ ss) stack h = refl
  ends_alike (opening ∷ ss) stack h = refl
  ends_alike (closing ∷ ss) stack h = refl
  ends_alike (comma ∷ ss) stack h = refl
  ends_alike (semicolon ∷ ss) stack h = refl
  ends_alike (equals ∷ ss) stack h = refl

  -- the machine from the instances up to the last words
  rest_counted : (at rest : ℕ) (g : List Symbol → List Symbol) → AreRead s at rest g → HasNoName (from s rest) → run 32 0 (instances ∷ end_items) (from s at) ≡ run 32 0 (last_items ++ []) (from s rest)
  rest_counted at rest g are none_more =
      are.goes end_items ∙ ends_alike (from s rest) end_items none_more ∙ ap (λ (is : List Item). run 32 0 is (from s rest)) (sym last_is)

  as_file : (e : Stop) (o : Outcome) → Stops s e o → FileStops s e o
  as_file (Syntax at) o h = (h.0, inl h.1)
  as_file (TooDeep at) o h = h
  as_file NoMemory o h = tt

  pub rest_refused_1 : (at : ℕ) (e : Stop) → AreRefused s at e → FileStops s e (run 32 0 (instances ∷ end_items) (from s at))
  rest_refused_1 at e refused = as_file e (run 32 0 (instances ∷ end_items) (from s at)) (refused end_items)

  pub rest_refused_2 : (at rest : ℕ) (g : List Symbol → List Symbol) (e : Stop) → AreRead s at rest g → HasNoName (from s rest) → IsRefused s 0 last_items rest e → FileStops s e (run 32 0 (instances ∷ end_items) (from s at))
  rest_refused_2 at rest g e are none_more refused = as_file e (run 32 0 (instances ∷ end_items) (from s at)) (subst (Stops s e) (sym (rest_counted at rest g are none_more)) (refused []))

  ended : (at rest end : ℕ) (g h : List Symbol → List Symbol) → AreRead s at rest g → HasNoName (from s rest) → IsRead s 0 0 last_items rest end h → run 32 0 (instances ∷ end_items) (from s at) ≡ done 0 (from s end)
  ended at rest end g h are none_more last = rest_counted at rest g are none_more ∙ last.goes []

  -- tokens follow
  pub rest_late : (at rest end : ℕ) (g h : List Symbol → List Symbol) → AreRead s at rest g → HasNoName (from s rest) → IsRead s 0 0 last_items rest end h → end < length s.tokens.now
      → FileStops s (Syntax end) (run 32 0 (instances ∷ end_items) (from s at))
  rest_late at rest end g h are none_more last lt = (omega arith, inr (lt, ended at rest end g h are none_more last))

  no_more : (end : ℕ) → length s.tokens.now ≤ end → from s end ≡ []
  no_more end le = ap (symbols s.bytes.now) (drop_all end s.tokens.now le)

  pub rest_read : (at rest end : ℕ) (items : List InstanceTree) → AreRead s at rest (λ r. spell_all spell_instance items r) → HasNoName (from s rest) → AllByRecursion IsInstance items × (greatest instance_nesting items ≤ 32)
      → IsRead s 0 0 last_items rest end spell_last → length s.tokens.now ≤ end → RestRead s at items
  rest_read at rest end items are none_more ok last le = record {
    grammar = ok.0;
    shallow = ok.1;
    spells = are.spells ∙ ap (λ (ss : List Symbol). spell_all spell_instance items ss) (last.spells ∙ ap spell_last (no_more end le));
    goes = ended at rest end (λ r. spell_all spell_instance items r) spell_last are none_more last ∙ ap (λ (ss : List Symbol). done 0 ss) (no_more end le);
  }

  pub file_refused_1 : (e : Stop) → IsRefused s 0 start_items 0 e → FileStops s e (run 32 0 file_items (from s 0))
  file_refused_1 e refused = as_file e (run 32 0 file_items (from s 0)) (subst (Stops s e) (sym (ap (λ (is : List Item). run 32 0 is (from s 0)) file_is)) (refused (instances ∷ end_items)))

  pub file_refused_2 : (at : ℕ) (f : List Symbol → List Symbol) (e : Stop) → IsRead s 0 0 start_items 0 at f → FileStops s e (run 32 0 (instances ∷ end_items) (from s at)) → FileStops s e (run 32 0 file_items (from s 0))
  file_refused_2 at f e read refused = subst (FileStops s e) (sym (begun at f read)) refused

  pub file_read : (at : ℕ) (x : ExchangeTree) → IsRead s 0 0 start_items 0 at (spell_start x.head) → IsHead x.head × (greatest part_nesting x.head ≤ 32) → RestRead s at x.items → FileRead s x
  file_read at x read head rest = record {
    grammar = record { head = head.0; items = rest.grammar };
    shallow = omega (arith, head.1, rest.shallow);
    spells = read.spells ∙ ap (spell_start x.head) rest.spells;
    goes = begun at (spell_start x.head) read ∙ rest.goes;
  }

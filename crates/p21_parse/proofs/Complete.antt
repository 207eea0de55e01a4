-- What is spelled within the limit runs to its end.
use Rattle.std.proofs.Common.{◌≡◌, ℕ, zero, suc, ◌+◌, ◌≤◌, ◌<◌, Bool, true, false, cond, nat_lt, List, [], ◌∷◌, ◌++◌, length, codes, refl, ap, ◌∙◌, arith}
use Rattle.std.specs.List.{AllByRecursion}
use Rattle.std.specs.Str.{bytes_eq}
use Rattle.std.proofs.lemmas.Slice.Eq.{bytes_eq-Decides}
use Rattle.std.proofs.lemmas.Bool.Decides.{nat_tests}
use Rattle.p21_lex.specs.declared.token.TokenKind.TheVariants.{Text}
use Rattle.p21_parse.specs.Tree.{Tree, one, reference, list, typed, Trees, none, first, count, PartTree, InstanceTree, ExchangeTree}
use Rattle.p21_parse.specs.Symbol.{Symbol, keyword, opening, closing, semicolon}
use Rattle.p21_parse.specs.Spell.{spell, spell_list, spell_more, spell_all, spell_part, spell_parts, spell_entry, spell_instance, spell_file}
use Rattle.p21_parse.specs.Grammar.{IsParameter, AreParameters, IsPart, HasParts, IsInstance, IsNamed, IsText, AreTexts, IsTextList, IsSchema, IsEntry, IsHead, IsExchange}
use Rattle.p21_parse.specs.Nesting.{nesting, nestings, greatest, part_nesting, instance_nesting, exchange_nesting}
use Rattle.p21_parse.specs.Parser.{spell_start}
use Rattle.p21_parse.specs.Machine.{Item, fixed, parameter, parameter_list, more_parameters, schema, more_schemas, part, more_parts, body, instances, entries, Outcome, done, deep, goes_on, run, entry_or, counted, named, data_word, endsec, end_iso, end_items, data_items, schema_items, file_items}

below : (most n : ℕ) → n ≤ most → nat_lt most n ≡ false
below most n h = grind (arith, nat_tests)

-- a step that is not too deep
pub step : (most n left : ℕ) (o : Outcome) → n ≤ most → cond (nat_lt most n) (deep left) o ≡ o
step most n left o h = ap (λ (b : Bool). cond b (deep left) o) (below most n h)

pub itself : (word : List ℕ) → bytes_eq word word ≡ true
itself word = (bytes_eq-Decides word word).1 refl

-- a parameter begins a list as it begins alone
lists : (t : Tree) (most n : ℕ) (stack : List Item) (rest : List Symbol) → run most n (parameter_list ∷ stack) (spell t rest) ≡ run most n (parameter ∷ more_parameters ∷ stack) (spell t rest)
lists (one kind text) most n stack rest = refl
lists (reference number) most n stack rest = refl
lists (list ts) most n stack rest = refl
lists (typed word ts) most n stack rest = refl

mutual
  pub run-spell : (t : Tree) (most n : ℕ) (stack : List Item) (rest : List Symbol) → IsParameter t → n + nesting t ≤ most → run most n (parameter ∷ stack) (spell t rest) ≡ run most n stack rest
  run-spell (one kind text) most n stack rest ok h = step most n _ _ (omega arith)
  run-spell (reference number) most n stack rest ok h = step most n _ _ (omega arith)
  run-spell (list ts) most n stack rest ok h = step most (suc n) _ _ (omega arith) ∙ run-list ts most n stack rest ok (omega arith)
  run-spell (typed word ts) most n stack rest ok h =
      step most n _ _ (omega arith) ∙ step most (suc n) _ _ (omega arith) ∙ run-single ts most n stack rest ok.0 ok.1 (omega arith)

  run-single : (ts : Trees) (most n : ℕ) (stack : List Item) (rest : List Symbol) → count ts ≡ 1 → AreParameters ts → suc n + nestings ts ≤ most → run most (suc n) (parameter ∷ fixed closing ∷ stack) (spell_list ts rest) ≡ run most n stack rest
  run-single none most n stack rest c ok h = absurd (omega arith)
  run-single (first t none) most n stack rest c ok h =
      run-spell t most (suc n) (fixed closing ∷ stack) (closing ∷ rest) ok.0 (omega arith) ∙ step most n _ _ (omega arith)
  run-single (first t (first u us)) most n stack rest c ok h = absurd (omega arith)

  pub run-list : (ts : Trees) (most n : ℕ) (stack : List Item) (rest : List Symbol) → AreParameters ts → suc n + nestings ts ≤ most → run most (suc n) (parameter_list ∷ stack) (spell_list ts rest) ≡ run most n stack rest
  run-list none most n stack rest ok h = step most n _ _ (omega arith)
  run-list (first t ts) most n stack rest ok h =
      lists t most (suc n) stack (spell_more ts rest) ∙ run-spell t most (suc n) (more_parameters ∷ stack) (spell_more ts rest) ok.0 (omega arith) ∙ run-more ts most n stack rest ok.1 (omega arith)

  pub run-more : (ts : Trees) (most n : ℕ) (stack : List Item) (rest : List Symbol) → AreParameters ts → suc n + nestings ts ≤ most → run most (suc n) (more_parameters ∷ stack) (spell_more ts rest) ≡ run most n stack rest
  run-more none most n stack rest ok h = step most n _ _ (omega arith)
  run-more (first t ts) most n stack rest ok h =
      step most (suc n) _ _ (omega arith) ∙ run-spell t most (suc n) (more_parameters ∷ stack) (spell_more ts rest) ok.0 (omega arith) ∙ run-more ts most n stack rest ok.1 (omega arith)

module _ (most : ℕ) where
  -- what stands behind a part's keyword
  pub run-inner : (ts : Trees) (stack : List Item) (rest : List Symbol) → AreParameters ts → suc (nestings ts) ≤ most → run most 0 (fixed opening ∷ parameter_list ∷ stack) (opening ∷ spell_list ts rest) ≡ run most 0 stack rest
  run-inner ts stack rest ok h = step most 1 _ _ (omega arith) ∙ run-list ts most 0 stack rest ok (omega arith)

  pub run-part : (p : PartTree) (stack : List Item) (rest : List Symbol) → IsPart p → part_nesting p ≤ most → run most 0 (part ∷ stack) (spell_part p rest) ≡ run most 0 stack rest
  run-part p stack rest ok h = step most 0 _ _ (omega arith) ∙ run-inner p.parameters stack rest ok h

  pub run-more_parts : (ps : List PartTree) (stack : List Item) (rest : List Symbol) → AllByRecursion IsPart ps → greatest part_nesting ps ≤ most → run most 0 (more_parts ∷ stack) (spell_all spell_part ps (closing ∷ rest)) ≡ run most 0 stack rest
  run-more_parts [] stack rest ok h = step most 0 _ _ (omega arith)
  run-more_parts (p ∷ ps) stack rest ok h =
      step most 0 _ _ (omega arith) ∙ run-inner p.parameters (more_parts ∷ stack) (spell_all spell_part ps (closing ∷ rest)) ok.0 (omega arith) ∙ run-more_parts ps stack rest ok.1 (omega arith)

  -- what stands behind an instance's name and mark
  pub run-body : (complex : Bool) (ps : List PartTree) (stack : List Item) (rest : List Symbol) → HasParts complex ps → AllByRecursion IsPart ps → greatest part_nesting ps ≤ most → run most 0 (body ∷ stack) (spell_parts complex ps rest) ≡ run most 0 stack rest
  run-body false [] stack rest has ok h = absurd (omega arith)
  run-body false (p ∷ []) stack rest has ok h = step most 0 _ _ (omega arith) ∙ run-inner p.parameters stack rest ok.0 (omega arith)
  run-body false (p ∷ q ∷ ps) stack rest has ok h = absurd (omega arith)
  run-body true [] stack rest has ok h = absurd (omega arith)
  run-body true (p ∷ ps) stack rest has ok h =
      step most 0 _ _ (omega arith) ∙ run-part p (more_parts ∷ stack) (spell_all spell_part ps (closing ∷ rest)) ok.0 (omega arith) ∙ run-more_parts ps stack rest ok.1 (omega arith)

  pub run-instance : (i : InstanceTree) (stack : List Item) (rest : List Symbol) → IsInstance i → instance_nesting i ≤ most → run most 0 (instances ∷ stack) (spell_instance i rest) ≡ run most 0 (instances ∷ stack) rest
  run-instance i stack rest ok h =
      step most 0 _ _ (omega arith) ∙ step most 0 _ _ (omega arith) ∙ run-body i.complex i.parts (fixed semicolon ∷ instances ∷ stack) (semicolon ∷ rest) ok.0 ok.1 h ∙ step most 0 _ _ (omega arith)

  pub run-instances : (items : List InstanceTree) (stack : List Item) (rest : List Symbol) → AllByRecursion IsInstance items → greatest instance_nesting items ≤ most → run most 0 (instances ∷ stack) (spell_all spell_instance items rest) ≡ run most 0 (instances ∷ stack) rest
  run-instances [] stack rest ok h = refl
  run-instances (i ∷ items) stack rest ok h =
      run-instance i stack (spell_all spell_instance items rest) ok.0 (omega arith) ∙ run-instances items stack rest ok.1 (omega arith)

  -- the word that ends instances
  pub run-endsec : (stack : List Item) (rest : List Symbol) → run most 0 (instances ∷ stack) (endsec ∷ rest) ≡ run most 0 stack rest
  run-endsec stack rest = step most 0 _ _ (omega arith)

  -- so many parameters more
  run-counted : (ts : Trees) (n : ℕ) (stack : List Item) (rest : List Symbol) → count ts ≡ n → AreParameters ts → suc (nestings ts) ≤ most → run most 1 (counted n stack) (spell_more ts rest) ≡ run most 0 stack rest
  run-counted none zero stack rest c ok h = step most 0 _ _ (omega arith)
  run-counted none (suc n) stack rest c ok h = absurd (omega arith)
  run-counted (first t ts) zero stack rest c ok h = absurd (omega arith)
  run-counted (first t ts) (suc n) stack rest c ok h =
      step most 1 _ _ (omega arith) ∙ run-spell t most 1 (counted n stack) (spell_more ts rest) ok.0 (omega arith) ∙ run-counted ts n stack rest (omega arith) ok.1 (omega arith)

  -- a word that is fixed
  word_step : (word : List ℕ) (stack : List Item) (rest : List Symbol) → run most 0 (fixed (keyword word) ∷ stack) (keyword word ∷ rest) ≡ run most 0 stack rest
  word_step word stack rest = rw (itself word) (step most 0 _ _ (omega arith))

  -- an entry of the header with a given keyword
  run-named : (word : List ℕ) (n : ℕ) (p : PartTree) (stack : List Item) (rest : List Symbol) → IsNamed word (suc n) p → part_nesting p ≤ most → run most 0 (named word n stack) (spell_entry p rest) ≡ run most 0 stack rest
  run-named word n p stack rest ok h =
      ap (λ (w : List ℕ). run most 0 (named word n stack) (keyword w ∷ opening ∷ spell_list p.parameters (semicolon ∷ rest))) ok.0
      ∙ word_step word (fixed opening ∷ parameter ∷ counted n (fixed semicolon ∷ stack)) (opening ∷ spell_list p.parameters (semicolon ∷ rest)) ∙ step most 1 (length (opening ∷ spell_list p.parameters (semicolon ∷ rest))) _ (omega arith) ∙ by_list p.parameters ok.1 ok.2 h
    where
      by_list : (ts : Trees) → count ts ≡ suc n → AreParameters ts → suc (nestings ts) ≤ most → run most 1 (parameter ∷ counted n (fixed semicolon ∷ stack)) (spell_list ts (semicolon ∷ rest)) ≡ run most 0 stack rest
      by_list none c ok h = absurd (omega arith)
      by_list (first t ts) c ok h =
          run-spell t most 1 (counted n (fixed semicolon ∷ stack)) (spell_more ts (semicolon ∷ rest)) ok.0 (omega arith)
          ∙ run-counted ts n (fixed semicolon ∷ stack) (semicolon ∷ rest) (omega arith) ok.1 (omega arith) ∙ step most 0 _ _ (omega arith)

  -- a text among the schemas
  text_step : (t : Tree) (n : ℕ) (stack : List Item) (rest : List Symbol) → IsText t → n ≤ most → run most n (schema ∷ stack) (spell t rest) ≡ run most n stack rest
  text_step (one Text text) n stack rest ok h = step most n _ _ (omega arith)
  text_step t n stack rest ok h = absurd ok

  run-texts : (ts : Trees) (stack : List Item) (rest : List Symbol) → AreTexts ts → 2 ≤ most → run most 2 (more_schemas ∷ stack) (spell_more ts rest) ≡ run most 1 stack rest
  run-texts none stack rest ok h = step most 1 _ _ (omega arith)
  run-texts (first t ts) stack rest ok h =
      step most 2 _ _ (omega arith) ∙ text_step t 2 (more_schemas ∷ stack) (spell_more ts rest) ok.0 h ∙ run-texts ts stack rest ok.1 h

  run-schemas : (ts : Trees) (stack : List Item) (rest : List Symbol) → IsTextList ts → suc (nestings ts) ≤ most → run most 1 (fixed opening ∷ schema ∷ more_schemas ∷ fixed closing ∷ stack) (spell_list ts rest) ≡ run most 0 stack rest
  run-schemas (first (list (first t ts)) none) stack rest ok h =
      step most 2 _ _ (omega arith) ∙ text_step t 2 (more_schemas ∷ fixed closing ∷ stack) (spell_more ts (closing ∷ rest)) ok.0 (omega arith)
      ∙ run-texts ts (fixed closing ∷ stack) (closing ∷ rest) ok.1 (omega arith) ∙ step most 0 _ _ (omega arith)
  run-schemas ts stack rest ok h = absurd ok

  -- the parameters of a further entry
  run-some : (ts : Trees) (stack : List Item) (rest : List Symbol) → 0 < count ts → AreParameters ts → suc (nestings ts) ≤ most → run most 1 (parameter ∷ more_parameters ∷ stack) (spell_list ts rest) ≡ run most 0 stack rest
  run-some none stack rest c ok h = absurd (omega arith)
  run-some (first t ts) stack rest c ok h =
      run-spell t most 1 (more_parameters ∷ stack) (spell_more ts rest) ok.0 (omega arith) ∙ run-more ts most 0 stack rest ok.1 (omega arith)

  pub run-entry : (p : PartTree) (stack : List Item) (rest : List Symbol) → IsEntry p → part_nesting p ≤ most → run most 0 (entries ∷ stack) (spell_entry p rest) ≡ run most 0 (entries ∷ stack) rest
  run-entry p stack rest ok h = by_word (bytes_eq (codes "ENDSEC") p.keyword)
    where
      some : run most 1 (parameter ∷ more_parameters ∷ fixed semicolon ∷ entries ∷ stack) (spell_list p.parameters (semicolon ∷ rest)) ≡ run most 0 (entries ∷ stack) rest
      some = run-some p.parameters (fixed semicolon ∷ entries ∷ stack) (semicolon ∷ rest) ok.0 ok.1 h ∙ step most 0 _ _ (omega arith)

      by_word : (b : Bool) → goes_on most (entry_or b) 0 (length (spell_entry p rest)) (λ items. run most 0 (items ++ stack) (opening ∷ spell_list p.parameters (semicolon ∷ rest))) ≡ run most 0 (entries ∷ stack) rest
      by_word true = step most 0 _ _ (omega arith) ∙ step most 1 _ _ (omega arith) ∙ some
      by_word false = step most 0 _ _ (omega arith) ∙ step most 1 _ _ (omega arith) ∙ some

  pub run-entries : (ps : List PartTree) (stack : List Item) (rest : List Symbol) → AllByRecursion IsEntry ps → greatest part_nesting ps ≤ most → run most 0 (entries ∷ stack) (spell_all spell_entry ps rest) ≡ run most 0 (entries ∷ stack) rest
  run-entries [] stack rest ok h = refl
  run-entries (p ∷ ps) stack rest ok h =
      run-entry p stack (spell_all spell_entry ps rest) ok.0 (omega arith) ∙ run-entries ps stack rest ok.1 (omega arith)

  run-schema : (p : PartTree) (rest : List Symbol) → IsSchema p → part_nesting p ≤ most → run most 0 schema_items (spell_entry p rest) ≡ run most 0 (entries ∷ data_items) rest
  unfolding schema_items
  run-schema p rest ok h =
      ap (λ (w : List ℕ). run most 0 (fixed (keyword (codes "FILE_SCHEMA")) ∷ fixed opening ∷ fixed opening ∷ schema ∷ more_schemas ∷ fixed closing ∷ fixed semicolon ∷ entries ∷ data_items) (keyword w ∷ opening ∷ spell_list p.parameters (semicolon ∷ rest))) ok.0
      ∙ word_step (codes "FILE_SCHEMA") (fixed opening ∷ fixed opening ∷ schema ∷ more_schemas ∷ fixed closing ∷ fixed semicolon ∷ entries ∷ data_items) (opening ∷ spell_list p.parameters (semicolon ∷ rest)) ∙ step most 1 (length (opening ∷ spell_list p.parameters (semicolon ∷ rest))) _ (omega arith)
      ∙ run-schemas p.parameters (fixed semicolon ∷ entries ∷ data_items) (semicolon ∷ rest) ok.1 h ∙ step most 0 _ _ (omega arith)

  -- the header behind its word
  pub run-head : (head : List PartTree) (rest : List Symbol) → IsHead head → greatest part_nesting head ≤ most
      → run most 0 (named (codes "FILE_DESCRIPTION") 1 (named (codes "FILE_NAME") 6 schema_items)) (spell_all spell_entry head (endsec ∷ semicolon ∷ rest)) ≡ run most 0 data_items rest
  run-head (a ∷ b ∷ c ∷ ps) rest ok h =
      run-named (codes "FILE_DESCRIPTION") 1 a (named (codes "FILE_NAME") 6 schema_items) (spell_entry b (spell_entry c (spell_all spell_entry ps (endsec ∷ semicolon ∷ rest)))) ok.0 (omega arith)
      ∙ run-named (codes "FILE_NAME") 6 b schema_items (spell_entry c (spell_all spell_entry ps (endsec ∷ semicolon ∷ rest))) ok.1 (omega arith)
      ∙ run-schema c (spell_all spell_entry ps (endsec ∷ semicolon ∷ rest)) ok.2 (omega arith)
      ∙ run-entries ps data_items (endsec ∷ semicolon ∷ rest) ok.3 (omega arith) ∙ step most 0 _ _ (omega arith) ∙ step most 0 _ _ (omega arith)
  run-head head rest ok h = absurd ok

  -- the data section
  pub run-data : (items : List InstanceTree) → AllByRecursion IsInstance items → greatest instance_nesting items ≤ most
      → run most 0 data_items (data_word ∷ semicolon ∷ spell_all spell_instance items (endsec ∷ semicolon ∷ end_iso ∷ semicolon ∷ [])) ≡ done 0 []
  unfolding data_items end_items
  run-data items ok h =
      step most 0 _ _ (omega arith) ∙ step most 0 _ _ (omega arith) ∙ run-instances items end_items (endsec ∷ semicolon ∷ end_iso ∷ semicolon ∷ []) ok h
      ∙ run-endsec end_items (semicolon ∷ end_iso ∷ semicolon ∷ [])
      ∙ step most 0 _ _ (omega arith) ∙ step most 0 _ _ (omega arith) ∙ step most 0 _ _ (omega arith)

  -- what stands in it before the instances' last word
  data_runs : (items : List InstanceTree) (rest : List Symbol) → AllByRecursion IsInstance items → greatest instance_nesting items ≤ most
      → run most 0 data_items (data_word ∷ semicolon ∷ spell_all spell_instance items rest) ≡ run most 0 (instances ∷ end_items) rest
  unfolding data_items
  data_runs items rest ok h = step most 0 _ _ (omega arith) ∙ step most 0 _ _ (omega arith) ∙ run-instances items end_items rest ok h

  -- The front of a file is read up to the end of its instances.
  pub start_runs : (x : ExchangeTree) (rest : List Symbol) → IsExchange x → exchange_nesting x ≤ most → run most 0 file_items (spell_start x.head (spell_all spell_instance x.items rest)) ≡ run most 0 (instances ∷ end_items) rest
  unfolding file_items
  start_runs x rest ok h =
      step most 0 _ _ (omega arith) ∙ step most 0 _ _ (omega arith) ∙ step most 0 _ _ (omega arith) ∙ step most 0 _ _ (omega arith)
      ∙ run-head x.head (data_word ∷ semicolon ∷ spell_all spell_instance x.items rest) ok.head (omega arith) ∙ data_runs x.items rest ok.items (omega arith)

  -- A whole file is read to its end.
  pub file_runs : (x : ExchangeTree) → IsExchange x → exchange_nesting x ≤ most → run most 0 file_items (spell_file x) ≡ done 0 []
  unfolding file_items
  file_runs x ok h =
      step most 0 _ _ (omega arith) ∙ step most 0 _ _ (omega arith) ∙ step most 0 _ _ (omega arith) ∙ step most 0 _ _ (omega arith)
      ∙ run-head x.head (data_word ∷ semicolon ∷ spell_all spell_instance x.items (endsec ∷ semicolon ∷ end_iso ∷ semicolon ∷ [])) ok.head (omega arith) ∙ run-data x.items ok.items (omega arith)

  -- So are instances, up to the word that ends them.
  pub instances_run : (items : List InstanceTree) → AllByRecursion IsInstance items → greatest instance_nesting items ≤ most → run most 0 (instances ∷ []) (spell_all spell_instance items (endsec ∷ [])) ≡ done 0 []
  instances_run items ok h = run-instances items [] (endsec ∷ []) ok h ∙ run-endsec [] []

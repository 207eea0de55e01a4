-- A file that runs to its end is spelled by a tree within the limit.
use Rattle.std.proofs.Common.{◌≡◌, ℕ, zero, suc, ◌+◌, ◌≤◌, Bool, true, false, List, [], ◌∷◌, ◌++◌, length, codes, refl, sym, ap, subst, ◌∙◌, arith}
use Rattle.std.specs.List.{AllByRecursion}
use Rattle.std.specs.Str.{bytes_eq}
use Rattle.std.proofs.lemmas.Slice.Eq.{bytes_eq-Decides}
use Rattle.p21_lex.specs.declared.token.TokenKind.TheVariants.{Text}
use Rattle.p21_parse.specs.Tree.{one, list, Trees, none, first, count, InstanceTree, ExchangeTree}
use Rattle.p21_parse.specs.Symbol.{Symbol, value, keyword, opening, closing, comma, semicolon}
use Rattle.p21_parse.specs.Spell.{spell, spell_list, spell_more, spell_all, spell_entry, spell_instance, spell_file}
use Rattle.p21_parse.specs.Grammar.{IsParameter, AreParameters, IsPart, IsInstance, IsText, AreTexts, IsTextList, IsSchema, IsEntry, IsHead, IsExchange}
use Rattle.p21_parse.specs.Nesting.{nesting, nestings, greatest, part_nesting, instance_nesting, exchange_nesting}
use Rattle.p21_parse.specs.Machine.{Item, fixed, parameter, more_parameters, schema, more_schemas, instances, entries, entry_or_end, done, goes_on, open_in, run, entry_or, counted, named, iso, header, data_word, endsec, end_iso, end_items, data_items, schema_items, file_items}
use Rattle.p21_parse.proofs.Sound.{Found, stepped, fixed_first, splits, splits_more}
use Rattle.p21_parse.proofs.SoundInstances.{instances_first}

module _ (most m : ℕ) (tail : List Symbol) where
  abbrev Counted : (Trees → List Symbol → List Symbol) → ℕ → List Item → List Symbol → Type 0
  Counted each k stack ss = Found (λ ts. (count ts ≡ k) × AreParameters ts) each (λ ts. suc (nestings ts)) most 0 stack ss m tail

  -- a parameter and so many more
  with_counted : (each : Trees → List Symbol → List Symbol) (k : ℕ) (items stack : List Item) (ss : List Symbol) (x : Found IsParameter spell nesting most 1 items ss m tail) (y : Counted spell_more k stack x.rest) (whole : List Symbol)
      → whole ≡ each (first x.tree y.tree) y.rest → length ss ≤ length whole → Found (λ ts. (count ts ≡ suc k) × AreParameters ts) each (λ ts. suc (nestings ts)) most 0 stack whole m tail
  with_counted each k items stack ss x y whole e longer = record {
    tree = first x.tree y.tree;
    rest = y.rest;
    ok = (omega (arith, y.ok.0), (x.ok, y.ok.1));
    spelled = e;
    fits = omega (arith, x.fits, y.fits);
    goes = y.goes;
    shorter = omega (arith, x.shorter, y.shorter);
  }

  counted_first : (k : ℕ) (stack : List Item) (ss : List Symbol) → 1 ≤ most → run most 1 (counted k stack) ss ≡ done m tail → Counted spell_more k stack ss
  counted_first zero stack ss o e =
      let a = fixed_first most m tail closing 1 stack ss e in
      let end : length ss ≡ suc (length a.rest) = ap length a.is in
      record { tree = none; rest = a.rest; ok = (refl, tt); spelled = a.is; fits = o; goes = a.goes; shorter = omega arith }
  counted_first (suc k) stack ss o e =
      let a = fixed_first most m tail comma 1 (parameter ∷ counted k stack) ss e in
      let longer : length ss ≡ suc (length a.rest) = ap length a.is in
      let x = splits most m tail (length a.rest + length a.rest) 1 (counted k stack) a.rest (omega arith) a.goes in
      let y = counted_first k stack x.rest o x.goes in
      with_counted spell_more k (counted k stack) stack a.rest x y ss (a.is ∙ ap (λ (more : List Symbol). comma ∷ more) (x.spelled ∙ ap (spell x.tree) y.spelled)) (omega arith)

  -- the semicolon behind an entry of the header
  entry_ended : (P : Trees → Type 0) (word : List ℕ) (stack : List Item) (ss whole : List Symbol) (x : Found P spell_list (λ ts. suc (nestings ts)) most 0 (fixed semicolon ∷ stack) ss m tail)
      → whole ≡ keyword word ∷ opening ∷ ss → Found (λ p. (p.keyword ≡ word) × P p.parameters) spell_entry part_nesting most 0 stack whole m tail
  entry_ended P word stack ss whole x is =
      let a = fixed_first most m tail semicolon 0 stack x.rest x.goes in
      let end : length x.rest ≡ suc (length a.rest) = ap length a.is in
      let longer : length whole ≡ suc (suc (length ss)) = ap length is in
      record {
        tree = record { keyword = word; parameters = x.tree };
        rest = a.rest;
        ok = (refl, x.ok);
        spelled = is ∙ ap (λ (more : List Symbol). keyword word ∷ opening ∷ more) (x.spelled ∙ ap (spell_list x.tree) a.is);
        fits = x.fits;
        goes = a.goes;
        shorter = omega (arith, x.shorter);
      }

  -- an entry of the header with a given keyword
  named_first : (word : List ℕ) (k : ℕ) (stack : List Item) (ss : List Symbol) → run most 0 (named word k stack) ss ≡ done m tail → Found (λ p. (p.keyword ≡ word) × ((count p.parameters ≡ suc k) × IsPart p)) spell_entry part_nesting most 0 stack ss m tail
  named_first word k stack ss e =
      let a = fixed_first most m tail (keyword word) 0 (fixed opening ∷ parameter ∷ counted k (fixed semicolon ∷ stack)) ss e in
      let b = fixed_first most m tail opening 0 (parameter ∷ counted k (fixed semicolon ∷ stack)) a.rest a.goes in
      let x = splits most m tail (length b.rest + length b.rest) 1 (counted k (fixed semicolon ∷ stack)) b.rest (omega arith) b.goes in
      let y = counted_first k (fixed semicolon ∷ stack) x.rest b.fits x.goes in
      let z = with_counted spell_list k (counted k (fixed semicolon ∷ stack)) (fixed semicolon ∷ stack) b.rest x y b.rest (x.spelled ∙ ap (spell x.tree) y.spelled) (omega arith) in
      entry_ended (λ ts. (count ts ≡ suc k) × AreParameters ts) word stack b.rest ss z (a.is ∙ ap (λ (more : List Symbol). keyword word ∷ more) b.is)

  text_first : (n : ℕ) (stack : List Item) (ss : List Symbol) → run most n (schema ∷ stack) ss ≡ done m tail → Found IsText spell nesting most n stack ss m tail
  text_first n stack [] e = absurd cc
  text_first n stack (value Text bytes ∷ ss) e =
      let g = stepped most m tail n (length (value Text bytes ∷ ss)) (run most n stack ss) e in
      record { tree = one Text bytes; rest = ss; ok = tt; spelled = refl; fits = omega arith; goes = g.1; shorter = omega arith }
  text_first n stack (s ∷ ss) e = absurd cc

  abbrev Texts : List Item → List Symbol → Type 0
  Texts stack ss = Found AreTexts spell_more (λ ts. suc (nestings ts)) most 1 stack ss m tail

  with_text : (stack : List Item) (ss : List Symbol) (x : Found IsText spell nesting most 2 (more_schemas ∷ stack) ss m tail) → Texts stack x.rest → Texts stack (comma ∷ ss)
  with_text stack ss x y = record {
    tree = first x.tree y.tree;
    rest = y.rest;
    ok = (x.ok, y.ok);
    spelled = ap (λ (more : List Symbol). comma ∷ more) (x.spelled ∙ ap (spell x.tree) y.spelled);
    fits = omega (arith, x.fits, y.fits);
    goes = y.goes;
    shorter = omega (arith, x.shorter, y.shorter);
  }

  texts_first : (fuel : ℕ) (stack : List Item) (ss : List Symbol) → 2 ≤ most → length ss ≤ fuel → run most 2 (more_schemas ∷ stack) ss ≡ done m tail → Texts stack ss
  texts_first fuel stack [] o h e = absurd cc
  texts_first zero stack (s ∷ ss) o h e = absurd (omega arith)
  texts_first (suc fuel) stack (closing ∷ ss) o h e =
      let g = stepped most m tail 1 (length (closing ∷ ss)) (run most 1 stack ss) e in
      record { tree = none; rest = ss; ok = tt; spelled = refl; fits = o; goes = g.1; shorter = omega arith }
  texts_first (suc fuel) stack (comma ∷ ss) o h e =
      let g = stepped most m tail 2 (length (comma ∷ ss)) (run most 2 (schema ∷ more_schemas ∷ stack) ss) e in
      let x = text_first 2 (more_schemas ∷ stack) ss g.1 in
      with_text stack ss x (texts_first fuel stack x.rest o (omega (arith, x.shorter)) x.goes)
  texts_first (suc fuel) stack (s ∷ ss) o h e = absurd cc

  -- the one list of texts
  schemas_first : (stack : List Item) (ss : List Symbol) → run most 1 (fixed opening ∷ schema ∷ more_schemas ∷ fixed closing ∷ stack) ss ≡ done m tail → Found IsTextList spell_list (λ ts. suc (nestings ts)) most 0 stack ss m tail
  schemas_first stack ss e =
      let a = fixed_first most m tail opening 1 (schema ∷ more_schemas ∷ fixed closing ∷ stack) ss e in
      let longer : length ss ≡ suc (length a.rest) = ap length a.is in
      let x = text_first 2 (more_schemas ∷ fixed closing ∷ stack) a.rest a.goes in
      let y = texts_first (length x.rest) (fixed closing ∷ stack) x.rest a.fits (omega arith) x.goes in
      let b = fixed_first most m tail closing 1 stack y.rest y.goes in
      let end : length y.rest ≡ suc (length b.rest) = ap length b.is in
      record {
        tree = first (list (first x.tree y.tree)) none;
        rest = b.rest;
        ok = (x.ok, y.ok);
        spelled = a.is ∙ ap (λ (more : List Symbol). opening ∷ more) (x.spelled ∙ ap (spell x.tree) (y.spelled ∙ ap (spell_more y.tree) b.is));
        fits = omega (arith, x.fits, y.fits);
        goes = b.goes;
        shorter = omega (arith, x.shorter, y.shorter);
      }

  schema_first : (ss : List Symbol) → run most 0 schema_items ss ≡ done m tail → Found IsSchema spell_entry part_nesting most 0 (entries ∷ data_items) ss m tail
  unfolding schema_items
  schema_first ss e =
      let a = fixed_first most m tail (keyword (codes "FILE_SCHEMA")) 0 (fixed opening ∷ fixed opening ∷ schema ∷ more_schemas ∷ fixed closing ∷ fixed semicolon ∷ entries ∷ data_items) ss e in
      let b = fixed_first most m tail opening 0 (fixed opening ∷ schema ∷ more_schemas ∷ fixed closing ∷ fixed semicolon ∷ entries ∷ data_items) a.rest a.goes in
      let x = schemas_first (fixed semicolon ∷ entries ∷ data_items) b.rest b.goes in
      entry_ended IsTextList (codes "FILE_SCHEMA") (entries ∷ data_items) b.rest ss x (a.is ∙ ap (λ (more : List Symbol). keyword (codes "FILE_SCHEMA") ∷ more) b.is)

  -- the parameters of a further entry, of which the parenthesis was read, and its semicolon
  entry_first : (word : List ℕ) (stack : List Item) (ss : List Symbol) → run most 1 (parameter ∷ more_parameters ∷ fixed semicolon ∷ stack) ss ≡ done m tail → Found IsEntry spell_entry part_nesting most 0 stack (keyword word ∷ opening ∷ ss) m tail
  entry_first word stack ss e =
      let x = splits most m tail (length ss + length ss) 1 (more_parameters ∷ fixed semicolon ∷ stack) ss (omega arith) e in
      let y = splits_more most m tail (length x.rest + length x.rest) 0 (fixed semicolon ∷ stack) x.rest (omega (arith, x.fits)) (omega arith) x.goes in
      let a = fixed_first most m tail semicolon 0 stack y.rest y.goes in
      let end : length y.rest ≡ suc (length a.rest) = ap length a.is in
      record {
        tree = record { keyword = word; parameters = first x.tree y.tree };
        rest = a.rest;
        ok = (omega arith, (x.ok, y.ok));
        spelled = ap (λ (more : List Symbol). keyword word ∷ opening ∷ more) (x.spelled ∙ ap (spell x.tree) (y.spelled ∙ ap (spell_more y.tree) a.is));
        fits = omega (arith, x.fits, y.fits);
        goes = a.goes;
        shorter = omega (arith, x.shorter, y.shorter);
      }

  abbrev Entries : List Item → List Symbol → Type 0
  Entries stack ss = Found (AllByRecursion IsEntry) (λ ps rest. spell_all spell_entry ps (endsec ∷ semicolon ∷ rest)) (greatest part_nesting) most 0 stack ss m tail

  with_entry : (stack : List Item) (ss whole : List Symbol) (x : Found IsEntry spell_entry part_nesting most 0 (entries ∷ stack) ss m tail) → whole ≡ ss → Entries stack x.rest → Entries stack whole
  with_entry stack ss whole x e y =
      let same : length whole ≡ length ss = ap length e in
      record {
        tree = x.tree ∷ y.tree;
        rest = y.rest;
        ok = (x.ok, y.ok);
        spelled = e ∙ x.spelled ∙ ap (spell_entry x.tree) y.spelled;
        fits = omega (arith, x.fits, y.fits);
        goes = y.goes;
        shorter = omega (arith, x.shorter, y.shorter);
      }

  -- the entries in so many symbols at most
  abbrev Further : ℕ → List Item → Type 0
  Further fuel stack = (rest : List Symbol) → length rest ≤ fuel → run most 0 (entries ∷ stack) rest ≡ done m tail → Entries stack rest

  module _ (word : List ℕ) (fuel : ℕ) (stack : List Item) (further : Further fuel stack) where
    again : (ss back : List Symbol) → length ss ≤ fuel → ss ≡ opening ∷ back → run most 1 (parameter ∷ more_parameters ∷ fixed semicolon ∷ entries ∷ stack) back ≡ done m tail → Entries stack (keyword word ∷ ss)
    again ss back h is e =
        let x = entry_first word (entries ∷ stack) back e in
        let longer : length ss ≡ suc (length back) = ap length is in
        with_entry stack (keyword word ∷ opening ∷ back) (keyword word ∷ ss) x (ap (λ (more : List Symbol). keyword word ∷ more) is) (further x.rest (omega (arith, x.shorter)) x.goes)

    head_ended : (ss : List Symbol) → length ss ≤ fuel → codes "ENDSEC" ≡ word → run most 0 (entry_or_end ∷ stack) ss ≡ done m tail → Entries stack (keyword word ∷ ss)
    head_ended [] h is e = absurd cc
    head_ended (semicolon ∷ ss) h is e =
        let g = stepped most m tail 0 (length (semicolon ∷ ss)) (run most 0 stack ss) e in
        record { tree = []; rest = ss; ok = tt; spelled = ap (λ (w : List ℕ). keyword w ∷ semicolon ∷ ss) (sym is); fits = omega arith; goes = g.1; shorter = omega arith }
    head_ended (opening ∷ ss) h is e =
        let g = stepped most m tail 1 (length (opening ∷ ss)) (run most 1 (parameter ∷ more_parameters ∷ fixed semicolon ∷ entries ∷ stack) ss) e in
        again (opening ∷ ss) ss h refl g.1
    head_ended (s ∷ ss) h is e = absurd cc

    entry_or_end_first : (ss : List Symbol) → length ss ≤ fuel → (b : Bool) → bytes_eq (codes "ENDSEC") word ≡ b → goes_on most (entry_or b) 0 (length (keyword word ∷ ss)) (λ items. run most 0 (items ++ stack) ss) ≡ done m tail → Entries stack (keyword word ∷ ss)
    entry_or_end_first ss h true w e =
        let g = stepped most m tail 0 (length (keyword word ∷ ss)) (run most 0 (entry_or_end ∷ stack) ss) e in
        head_ended ss h ((bytes_eq-Decides (codes "ENDSEC") word).0 w) g.1
    entry_or_end_first ss h false w e =
        let g = stepped most m tail 0 (length (keyword word ∷ ss)) (run most 0 (fixed opening ∷ parameter ∷ more_parameters ∷ fixed semicolon ∷ entries ∷ stack) ss) e in
        let a = fixed_first most m tail opening 0 (parameter ∷ more_parameters ∷ fixed semicolon ∷ entries ∷ stack) ss g.1 in
        again ss a.rest h a.is a.goes

  entries_first : (fuel : ℕ) (stack : List Item) (ss : List Symbol) → length ss ≤ fuel → run most 0 (entries ∷ stack) ss ≡ done m tail → Entries stack ss
  entries_first fuel stack [] h e = absurd cc
  entries_first zero stack (s ∷ ss) h e = absurd (omega arith)
  entries_first (suc fuel) stack (keyword word ∷ ss) h e =
      entry_or_end_first word fuel stack (λ rest lt r. entries_first fuel stack rest lt r) ss (omega arith) (bytes_eq (codes "ENDSEC") word) refl e
  entries_first (suc fuel) stack (s ∷ ss) h e = absurd cc

  -- the header behind its word
  head_first : (ss : List Symbol) → run most 0 (named (codes "FILE_DESCRIPTION") 1 (named (codes "FILE_NAME") 6 schema_items)) ss ≡ done m tail
      → Found IsHead (λ ps rest. spell_all spell_entry ps (endsec ∷ semicolon ∷ rest)) (greatest part_nesting) most 0 data_items ss m tail
  head_first ss e =
      let a = named_first (codes "FILE_DESCRIPTION") 1 (named (codes "FILE_NAME") 6 schema_items) ss e in
      let b = named_first (codes "FILE_NAME") 6 schema_items a.rest a.goes in
      let c = schema_first b.rest b.goes in
      let ps = entries_first (length c.rest) data_items c.rest (omega arith) c.goes in
      record {
        tree = a.tree ∷ b.tree ∷ c.tree ∷ ps.tree;
        rest = ps.rest;
        ok = ((a.ok.0, a.ok.1.0, a.ok.1.1), (b.ok.0, b.ok.1.0, b.ok.1.1), c.ok, ps.ok);
        spelled = a.spelled ∙ ap (spell_entry a.tree) (b.spelled ∙ ap (spell_entry b.tree) (c.spelled ∙ ap (spell_entry c.tree) ps.spelled));
        fits = omega (arith, a.fits, b.fits, c.fits, ps.fits);
        goes = ps.goes;
        shorter = omega (arith, a.shorter, b.shorter, c.shorter, ps.shorter);
      }

  -- a word and its semicolon
  word_first : (x : Symbol) (stack : List Item) (ss : List Symbol) → open_in (fixed x) 0 x ≡ 0 → run most 0 (fixed x ∷ fixed semicolon ∷ stack) ss ≡ done m tail → (rest : List Symbol) × (ss ≡ x ∷ semicolon ∷ rest) × (run most 0 stack rest ≡ done m tail)
  word_first x stack ss flat e =
      let a = fixed_first most m tail x 0 (fixed semicolon ∷ stack) ss e in
      let b = fixed_first most m tail semicolon 0 stack a.rest (subst (λ (n : ℕ). run most n (fixed semicolon ∷ stack) a.rest ≡ done m tail) flat a.goes) in
      (b.rest, a.is ∙ ap (λ (more : List Symbol). x ∷ more) b.is, b.goes)

-- A file that is read to its end, and its tree.
pub record IsRead (most : ℕ) (ss : List Symbol) : Type 0 where
  pub tree : ExchangeTree
  pub ok : IsExchange tree
  pub spelled : ss ≡ spell_file tree
  pub fits : exchange_nesting tree ≤ most

module _ (most m : ℕ) where
  ended : (ss : List Symbol) → run most 0 [] ss ≡ done m [] → ss ≡ []
  ended ss e = cc

  -- the data section and the end
  data_first : (ss : List Symbol) → run most 0 data_items ss ≡ done m []
      → (items : List InstanceTree) × AllByRecursion IsInstance items × (ss ≡ data_word ∷ semicolon ∷ spell_all spell_instance items (endsec ∷ semicolon ∷ end_iso ∷ semicolon ∷ [])) × (greatest instance_nesting items ≤ most)
  unfolding data_items end_items
  data_first ss e =
      let a = word_first most m [] data_word (instances ∷ end_items) ss refl e in
      let x = instances_first most m [] (length a.0) end_items a.0 (omega arith) a.2 in
      let b = fixed_first most m [] semicolon 0 (fixed end_iso ∷ fixed semicolon ∷ []) x.rest x.goes in
      let c = word_first most m [] end_iso [] b.rest refl b.goes in
      let last = b.is ∙ ap (λ (more : List Symbol). semicolon ∷ more) (c.1 ∙ ap (λ (more : List Symbol). end_iso ∷ semicolon ∷ more) (ended c.0 c.2)) in
      (x.tree, x.ok, a.1 ∙ ap (λ (more : List Symbol). data_word ∷ semicolon ∷ more) (x.spelled ∙ ap (λ (more : List Symbol). spell_all spell_instance x.tree (endsec ∷ more)) last), omega (arith, x.fits))

  -- What is read to its end is a file of the grammar within the limit.
  pub file_read : (ss : List Symbol) → run most 0 file_items ss ≡ done m [] → IsRead most ss
  unfolding file_items
  file_read ss e =
      let a = word_first most m [] iso (fixed header ∷ fixed semicolon ∷ named (codes "FILE_DESCRIPTION") 1 (named (codes "FILE_NAME") 6 schema_items)) ss refl e in
      let b = word_first most m [] header (named (codes "FILE_DESCRIPTION") 1 (named (codes "FILE_NAME") 6 schema_items)) a.0 refl a.2 in
      let h = head_first most m [] b.0 b.2 in
      let d = data_first h.rest h.goes in
      record {
        tree = record { head = h.tree; items = d.0 };
        ok = record { head = h.ok; items = d.1 };
        spelled = a.1 ∙ ap (λ (more : List Symbol). iso ∷ semicolon ∷ more) (b.1 ∙ ap (λ (more : List Symbol). header ∷ semicolon ∷ more) (h.spelled ∙ ap (λ (more : List Symbol). spell_all spell_entry h.tree (endsec ∷ semicolon ∷ more)) d.2));
        fits = omega (arith, h.fits, d.3);
      }

  -- So are instances, up to the word that ends them.
  pub instances_read : (ss : List Symbol) → run most 0 (instances ∷ []) ss ≡ done m [] → (items : List InstanceTree) × AllByRecursion IsInstance items × (ss ≡ spell_all spell_instance items (endsec ∷ [])) × (greatest instance_nesting items ≤ most)
  instances_read ss e =
      let x = instances_first most m [] (length ss) [] ss (omega arith) e in
      (x.tree, x.ok, x.spelled ∙ ap (λ (more : List Symbol). spell_all spell_instance x.tree (endsec ∷ more)) (ended x.rest x.goes), omega (arith, x.fits))

-- Files and instances are what the machine reads, and where it ends they end.
use Rattle.std.proofs.Common.{◌≡◌, ℕ, zero, suc, ◌≤◌, ◌<◌, false, List, [], ◌∷◌, ◌++◌, length, codes, refl, sym, ap, subst, ◌∙◌, append_assoc, append-nil}
use Rattle.std.specs.List.{AllByRecursion}
use Rattle.p21_lex.specs.declared.token.TokenKind.TheVariants as kinds
use Rattle.p21_parse.specs.Tree.{InstanceTree}
use Rattle.p21_parse.specs.Symbol.{Symbol, name, keyword, dashed, opening, comma, semicolon}
use Rattle.p21_parse.specs.Spell.{spell_all, spell_instance}
use Rattle.p21_parse.specs.Grammar.{IsFile, AreInstances, IsInstance}
use Rattle.p21_parse.specs.Nesting.{exchange_nesting, greatest, instance_nesting}
use Rattle.p21_parse.specs.Begins.{IsSymbol, Begins, StopsAt, DeepAt}
use Rattle.p21_parse.specs.Machine.{Item, fixed, instances, done, stuck, deep, run, counted, named, iso, end_iso, header, data_word, endsec, end_items, data_items, schema_items, file_items}
use Rattle.p21_parse.proofs.Complete.{file_runs, instances_run, itself}
use Rattle.p21_parse.proofs.SoundFile.{file_read, instances_read}
use Rattle.p21_parse.proofs.Trace.{Quiet, Calm, fixed_opening, fixed_closing, fixed_semicolon}
use Rattle.p21_parse.proofs.Finish.{word_each, real_append, endsec_real}
use Rattle.p21_parse.proofs.Appends.{longer_instances}
use Rattle.p21_parse.proofs.Leaves.{Shallow, Stopped, left_of, stopped, stopped_late, deepened, read_shallow}
use Rattle.p21_parse.proofs.Named.{read_at}

-- a word without a hyphen
word_quiet : (word : List ℕ) → IsSymbol (keyword word) → Quiet (fixed (keyword word))
word_quiet word real = (refl, (itself word, real, refl))

dashed_quiet : (word : List ℕ) → IsSymbol (dashed word) → Quiet (fixed (dashed word))
dashed_quiet word real = (refl, (itself word, real, refl))

iso_quiet : Quiet (fixed iso)
iso_quiet = dashed_quiet (codes "ISO-10303-21") (kinds.Word, codes "ISO-10303-21", (refl, word_each (codes "SO-10303-21") refl), refl)

end_quiet : Quiet (fixed end_iso)
end_quiet = dashed_quiet (codes "END-ISO-10303-21") (kinds.Word, codes "END-ISO-10303-21", (refl, word_each (codes "ND-ISO-10303-21") refl), refl)

header_quiet : Quiet (fixed header)
header_quiet = word_quiet (codes "HEADER") (kinds.Word, codes "HEADER", (refl, word_each (codes "EADER") refl), refl)

data_quiet : Quiet (fixed data_word)
data_quiet = word_quiet (codes "DATA") (kinds.Word, codes "DATA", (refl, word_each (codes "ATA") refl), refl)

description_quiet : Quiet (fixed (keyword (codes "FILE_DESCRIPTION")))
description_quiet = word_quiet (codes "FILE_DESCRIPTION") (kinds.Word, codes "FILE_DESCRIPTION", (refl, word_each (codes "ILE_DESCRIPTION") refl), refl)

name_quiet : Quiet (fixed (keyword (codes "FILE_NAME")))
name_quiet = word_quiet (codes "FILE_NAME") (kinds.Word, codes "FILE_NAME", (refl, word_each (codes "ILE_NAME") refl), refl)

schema_quiet : Quiet (fixed (keyword (codes "FILE_SCHEMA")))
schema_quiet = word_quiet (codes "FILE_SCHEMA") (kinds.Word, codes "FILE_SCHEMA", (refl, word_each (codes "ILE_SCHEMA") refl), refl)

comma_quiet : Quiet (fixed comma)
comma_quiet = (refl, (refl, (kinds.Comma, 44 ∷ [], refl, refl), refl))

counted_quiet : (n : ℕ) (items : List Item) → AllByRecursion Quiet items → AllByRecursion Quiet (counted n items)
counted_quiet zero items q = (fixed_closing, q)
counted_quiet (suc n) items q = (comma_quiet, ((refl, tt), counted_quiet n items q))

named_quiet : (word : List ℕ) (n : ℕ) (items : List Item) → Quiet (fixed (keyword word)) → AllByRecursion Quiet items → AllByRecursion Quiet (named word n items)
named_quiet word n items w q = (w, (fixed_opening, ((refl, tt), counted_quiet n (fixed semicolon ∷ items) (fixed_semicolon, q))))

end_items_quiet : AllByRecursion Quiet end_items
unfolding end_items
end_items_quiet = (fixed_semicolon, (end_quiet, (fixed_semicolon, tt)))

data_items_quiet : AllByRecursion Quiet data_items
unfolding data_items
data_items_quiet = (data_quiet, (fixed_semicolon, ((refl, tt), end_items_quiet)))

schema_items_quiet : AllByRecursion Quiet schema_items
unfolding schema_items
schema_items_quiet = (schema_quiet, (fixed_opening, (fixed_opening, ((refl, tt), ((refl, tt), (fixed_closing, (fixed_semicolon, ((refl, tt), data_items_quiet))))))))

file_calm : Calm false file_items
unfolding file_items
file_calm = (
  refl,
  iso_quiet.1,
  (
    fixed_semicolon,
    (
      header_quiet,
      (
        fixed_semicolon,
        named_quiet (codes "FILE_DESCRIPTION") 1 (named (codes "FILE_NAME") 6 schema_items) description_quiet (named_quiet (codes "FILE_NAME") 6 schema_items name_quiet schema_items_quiet),
      ),
    ),
  ),
)

file_sound : (m n : ℕ) (ss : List Symbol) → run m 0 file_items ss ≡ done n [] → IsFile ss
file_sound m n ss e = let r = file_read m n ss e in (r.tree, r.ok, r.spelled)

file_complete : (ss : List Symbol) → IsFile ss → (tall : ℕ) × ((m : ℕ) → tall ≤ m → run m 0 file_items ss ≡ done 0 [])
file_complete ss w = (exchange_nesting w.0, λ m h. ap (run m 0 file_items) w.2 ∙ file_runs m w.0 w.1 h)

-- A text in which the machine is stuck, or done too early, leaves the files there; so does one with a parenthesis too deep.
pub file_stopped : (ss : List Symbol) (left : ℕ) → run 32 0 file_items ss ≡ stuck left → Stopped IsFile ss left
file_stopped ss left e = stopped IsFile file_items file_calm file_sound file_complete ss left e

pub file_late : (ss rest : List Symbol) (n : ℕ) → 0 < length rest → run 32 0 file_items ss ≡ done n rest → StopsAt IsFile Shallow ss (length rest) × (IsFile ss → ⊥)
file_late ss rest n some e = stopped_late IsFile file_items file_calm file_sound file_complete ss rest n some e

pub file_deepened : (ss : List Symbol) (left : ℕ) → run 32 0 file_items ss ≡ deep left → DeepAt IsFile Shallow ss left
file_deepened ss left e = deepened IsFile file_items file_calm file_sound file_complete ss left e

-- instances and the word that ends them
abbrev AreEnded : List Symbol → Type 0
AreEnded ss = (items : List InstanceTree) × AllByRecursion IsInstance items × (ss ≡ spell_all spell_instance items (endsec ∷ []))

pub list_calm : Calm false (instances ∷ [])
list_calm = (refl, tt, tt)

list_sound : (m n : ℕ) (ss : List Symbol) → run m 0 (instances ∷ []) ss ≡ done n [] → AreEnded ss
list_sound m n ss e = let r = instances_read m n ss e in (r.0, r.1, r.2)

list_complete : (ss : List Symbol) → AreEnded ss → (tall : ℕ) × ((m : ℕ) → tall ≤ m → run m 0 (instances ∷ []) ss ≡ done 0 [])
list_complete ss w = (greatest instance_nesting w.0, λ m h. ap (run m 0 (instances ∷ [])) w.2 ∙ instances_run m w.0 w.1 h)

-- the symbols but the last are the same, and the last ones
pub but_last : (a b : List Symbol) (x y : Symbol) → a ++ x ∷ [] ≡ b ++ y ∷ [] → (a ≡ b) × (x ≡ y)
but_last [] [] x y e = (refl, cc)
but_last [] (s ∷ []) x y e = absurd cc
but_last [] (s ∷ t ∷ b) x y e = absurd cc
but_last (s ∷ []) [] x y e = absurd cc
but_last (s ∷ t ∷ a) [] x y e = absurd cc
but_last (s ∷ a) (t ∷ b) x y e =
    let head : s ≡ t = cc in
    let tail : a ++ x ∷ [] ≡ b ++ y ∷ [] = cc in
    let rest = but_last a b x y tail in
    let front : a ≡ b = rest.0 in
    (cc, rest.1)

-- symbols of tokens, of which one is the last
pub record Last (more : List Symbol) : Type 0 where
  pub init : List Symbol
  pub last : Symbol
  pub is : more ≡ init ++ last ∷ []
  pub real : AllByRecursion IsSymbol init

pub last_of : (s : Symbol) (more : List Symbol) → AllByRecursion IsSymbol (s ∷ more) → Last (s ∷ more)
last_of s [] h = record { init = []; last = s; is = refl; real = tt }
last_of s (t ∷ more) h =
    let l = last_of t more h.1 in
    record { init = s ∷ l.init; last = l.last; is = ap (λ (ss : List Symbol). s ∷ ss) l.is; real = (h.0, l.real) }

-- what begins ended instances, and is none, begins instances
list_lives : (front : List Symbol) → Begins AreEnded front → (AreEnded front → ⊥) → Begins AreInstances front
list_lives front b no_end = by_more b.0 b.1 b.2
  where
    by_more : (more : List Symbol) → AllByRecursion IsSymbol more → AreEnded (front ++ more) → Begins AreInstances front
    by_more [] h w = absurd (no_end (subst (λ (ss : List Symbol). AreEnded ss) (append-nil front) w))
    by_more (s ∷ more) h w =
        let l = last_of s more h in
        let whole : (front ++ l.init) ++ l.last ∷ [] ≡ spell_all spell_instance w.0 [] ++ endsec ∷ []
        = append_assoc front l.init (l.last ∷ []) ∙ ap (λ (more : List Symbol). front ++ more) (sym l.is) ∙ w.2 ∙ longer_instances w.0 [] (endsec ∷ []) in
        (l.init, l.real, (w.0, w.1, (but_last (front ++ l.init) (spell_all spell_instance w.0 []) l.last endsec whole).0))

-- what begins instances begins ended ones
list_ended : (front : List Symbol) → Begins AreInstances front → Begins AreEnded front
list_ended front b =
    let w = b.2 in (
      b.0 ++ endsec ∷ [],
      real_append b.0 (endsec ∷ []) b.1 (endsec_real, tt),
      (w.0, w.1, sym (append_assoc front b.0 (endsec ∷ [])) ∙ ap (λ (ss : List Symbol). ss ++ endsec ∷ []) w.2 ∙ sym (longer_instances w.0 [] (endsec ∷ []))),
    )

-- Instances in which the machine is stuck, or a parenthesis is too deep, end there.
pub list_stopped : (ss : List Symbol) (left : ℕ) → run 32 0 (instances ∷ []) ss ≡ stuck left → StopsAt AreInstances Shallow ss left
list_stopped ss left e =
    let x = stopped AreEnded (instances ∷ []) list_calm list_sound list_complete ss left e in
    let s = x.stops in
    record {
      front = s.front;
      back = s.back;
      parts = s.parts;
      count = s.count;
      begins = list_lives s.front s.begins x.open_end;
      within = s.within;
      ends = λ u more here b. s.ends u more here (list_ended (s.front ++ u ∷ []) b);
    }

parenthesis_open : (front : List Symbol) → AreEnded (front ++ opening ∷ []) → ⊥
parenthesis_open front w =
    let last = (but_last front (spell_all spell_instance w.0 []) opening endsec (w.2 ∙ longer_instances w.0 [] (endsec ∷ []))).1 in
    absurd cc

pub list_deepened : (ss : List Symbol) (left : ℕ) → run 32 0 (instances ∷ []) ss ≡ deep left → DeepAt AreInstances Shallow ss left
list_deepened ss left e =
    let d = deepened AreEnded (instances ∷ []) list_calm list_sound list_complete ss left e in
    record {
      front = d.front;
      back = d.back;
      parts = d.parts;
      count = d.count;
      begins = list_lives (d.front ++ opening ∷ []) d.begins (parenthesis_open d.front);
      within = d.within;
      over = d.over;
    }

-- A symbol before the place where the machine ends begins a file with what stands before it.
pub file_read_at : (ss front back : List Symbol) (s : Symbol) → AllByRecursion IsSymbol ss → ss ≡ front ++ s ∷ back → left_of (run 32 0 file_items ss) ≤ length back → Begins IsFile (front ++ s ∷ []) × Shallow front
file_read_at ss front back s real e le = read_at IsFile file_items file_calm file_sound file_complete ss front back s real e le

name_open : (front : List Symbol) (number : ℕ) → AreEnded (front ++ name number ∷ []) → ⊥
name_open front number w =
    let last = (but_last front (spell_all spell_instance w.0 []) (name number) endsec (w.2 ∙ longer_instances w.0 [] (endsec ∷ []))).1 in
    absurd cc

-- So a name begins instances.
pub list_read_at : (ss front back : List Symbol) (number : ℕ) → AllByRecursion IsSymbol ss → ss ≡ front ++ name number ∷ back → left_of (run 32 0 (instances ∷ []) ss) ≤ length back → Begins AreInstances (front ++ name number ∷ []) × Shallow front
list_read_at ss front back number real e le =
    let r = read_at AreEnded (instances ∷ []) list_calm list_sound list_complete ss front back (name number) real e le in
    (list_lives (front ++ name number ∷ []) r.0 (name_open front number), r.1)

pub file_shallow : (ss : List Symbol) (n : ℕ) → run 32 0 file_items ss ≡ done n [] → Shallow ss
file_shallow ss n e = read_shallow file_items ss n file_calm e

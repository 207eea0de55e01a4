-- Inside an instance.
use Rattle.std.proofs.Common.{◌≡◌, ℕ, suc, ◌≤◌, Bool, false, List, [], ◌∷◌, ◌++◌, length, refl, sym, ap, subst, ◌∙◌, append_assoc, append-nil, length-append, arith}
use Rattle.std.specs.List.{AllByRecursion}
use Rattle.p21_parse.specs.Tree.{PartTree, InstanceTree}
use Rattle.p21_parse.specs.Symbol.{Symbol, name, opening, semicolon, equals}
use Rattle.p21_parse.specs.Spell.{spell_all, spell_parts, spell_instance}
use Rattle.p21_parse.specs.Grammar.{IsPart, HasParts, AreInstances}
use Rattle.p21_parse.specs.Nesting.{greatest, part_nesting}
use Rattle.p21_parse.specs.Begins.{IsSymbol, Begins, StopsAt, DeepAt}
use Rattle.p21_parse.specs.Machine.{Item, fixed, behind_name, done, stuck, deep, run}
use Rattle.p21_parse.proofs.Complete.{step, run-body}
use Rattle.p21_parse.proofs.SoundInstances.{behind_first}
use Rattle.p21_parse.proofs.Trace.{Calm, fixed_semicolon}
use Rattle.p21_parse.proofs.Leaves.{Shallow, Stopped, stopped, deepened}
use Rattle.p21_parse.proofs.Languages.{but_last, last_of}
use Rattle.p21_parse.specs.Numbers.{numbers_in}
use Rattle.p21_parse.proofs.Owned.{parts_numbers, no_numbers}
use Rattle.p21_parse.proofs.Appends.{longer_parts, longer_instances}
use Rattle.p21_parse.proofs.Unique.{same_parts, same_instance}

-- what stands behind an instance's name, up to its semicolon
abbrev pub IsBehind : List Symbol → Type 0
IsBehind ss = (complex : Bool) × (ps : List PartTree) × HasParts complex ps × AllByRecursion IsPart ps × (ss ≡ equals ∷ spell_parts complex ps (semicolon ∷ []))

abbrev pub behind_items : List Item
behind_items = behind_name ∷ fixed semicolon ∷ []

behind_calm : Calm false behind_items
behind_calm = (refl, tt, (fixed_semicolon, tt))

behind_sound : (m n : ℕ) (ss : List Symbol) → run m 0 behind_items ss ≡ done n [] → IsBehind ss
behind_sound m n ss e =
    let x = behind_first m n [] [] ss e in
    let none : x.rest ≡ [] = let goes = x.goes in cc in
    (x.tree.0, x.tree.1, x.ok.0, x.ok.1, x.spelled ∙ ap (λ (more : List Symbol). equals ∷ spell_parts x.tree.0 x.tree.1 (semicolon ∷ more)) none)

behind_complete : (ss : List Symbol) → IsBehind ss → (tall : ℕ) × ((m : ℕ) → tall ≤ m → run m 0 behind_items ss ≡ done 0 [])
behind_complete ss w = (
  greatest part_nesting w.1,
  λ m h.
      ap (run m 0 behind_items) w.4 ∙ step m 0 _ _ (omega arith) ∙ run-body m w.0 w.1 (fixed semicolon ∷ []) (semicolon ∷ []) w.2 w.3 h ∙ step m 0 _ _ (omega arith),
)

pub behind_stopped : (ss : List Symbol) (left : ℕ) → run 32 0 behind_items ss ≡ stuck left → Stopped IsBehind ss left
behind_stopped ss left e = stopped IsBehind behind_items behind_calm behind_sound behind_complete ss left e

-- The symbols before as many are the same.
pub same_front : (a b c d : List Symbol) → a ++ b ≡ c ++ d → length b ≡ length d → a ≡ c
same_front [] b [] d e h = refl
same_front [] b (s ∷ c) d e h = let long : length b ≡ suc (length (c ++ d)) = ap length e in absurd (omega (arith, length-append c d))
same_front (s ∷ a) b [] d e h = let long : suc (length (a ++ b)) ≡ length d = ap length e in absurd (omega (arith, length-append a b))
same_front (s ∷ a) b (t ∷ c) d e h =
    let head : s ≡ t = cc in
    let tail : a ++ b ≡ c ++ d = cc in
    let rest = same_front a b c d tail h in
    cc

-- What begins with an instance that has not ended is no list of instances.
not_ended : (f : List Symbol) (number : ℕ) → Begins IsBehind f → (IsBehind f → ⊥) → (before items : List InstanceTree) → spell_all spell_instance before (name number ∷ f) ≡ spell_all spell_instance items [] → ⊥
not_ended f number b no_end [] [] e = absurd cc
not_ended f number b no_end [] (j ∷ items) e =
    let w = b.2 in
    let here : f ≡ equals ∷ spell_parts j.complex j.parts (semicolon ∷ spell_all spell_instance items []) = cc in
    let both : spell_parts j.complex j.parts (semicolon ∷ (spell_all spell_instance items [] ++ b.0)) ≡ spell_parts w.0 w.1 (semicolon ∷ [])
    = longer_parts j.complex j.parts (semicolon ∷ spell_all spell_instance items []) b.0 ∙ (let parts : equals ∷ (spell_parts j.complex j.parts (semicolon ∷ spell_all spell_instance items []) ++ b.0) ≡ equals ∷ spell_parts w.0 w.1 (semicolon ∷ []) = ap (λ (f : List Symbol). f ++ b.0) (sym here) ∙ w.4 in cc) in
    let same = same_parts j.complex w.0 j.parts w.1 (spell_all spell_instance items [] ++ b.0) [] both in
    let long : length (spell_all spell_instance items [] ++ b.0) ≡ 0 = ap length same.2 in
    let none : b.0 ≡ [] = empty b.0 (omega (arith, length-append (spell_all spell_instance items []) b.0)) in
    no_end (subst IsBehind (ap (λ (more : List Symbol). f ++ more) none ∙ append-nil f) w)
  where
    empty : (more : List Symbol) → length more ≡ 0 → more ≡ []
    empty [] e = refl
    empty (s ∷ more) e = absurd (omega arith)
not_ended f number b no_end (i ∷ before) [] e = absurd cc
not_ended f number b no_end (i ∷ before) (j ∷ items) e =
    not_ended f number b no_end before items (same_instance i j (spell_all spell_instance before (name number ∷ f)) (spell_all spell_instance items []) e).1

-- Instances that are stuck inside one have not ended there.
pub inside_open : (ss rest : List Symbol) (before : List InstanceTree) (number left : ℕ) (stop : StopsAt AreInstances Shallow ss left)
    → ss ≡ spell_all spell_instance before (name number ∷ rest) → run 32 0 behind_items rest ≡ stuck left → AreInstances stop.front → ⊥
inside_open ss rest before number left stop e r w =
    let x = behind_stopped rest left r in
    let s = x.stops in
    let whole : stop.front ++ stop.back ≡ spell_all spell_instance before (name number ∷ s.front) ++ s.back
    = sym stop.parts ∙ e ∙ ap (λ (more : List Symbol). spell_all spell_instance before (name number ∷ more)) s.parts ∙ longer_instances before (name number ∷ s.front) s.back in
    let front = same_front stop.front stop.back (spell_all spell_instance before (name number ∷ s.front)) s.back whole (stop.count ∙ sym s.count) in
    not_ended s.front number s.begins x.open_end before w.0 (sym front ∙ w.2)

pub behind_deepened : (ss : List Symbol) (left : ℕ) → run 32 0 behind_items ss ≡ deep left → DeepAt IsBehind Shallow ss left
behind_deepened ss left e = deepened IsBehind behind_items behind_calm behind_sound behind_complete ss left e

-- In an instance that has not ended no other one has its name.
pub inside_numbers : (f : List Symbol) → Begins IsBehind f → (IsBehind f → ⊥) → numbers_in false f ≡ []
inside_numbers f b no_end = by_more b.0 b.1 b.2
  where
    by_more : (more : List Symbol) → AllByRecursion IsSymbol more → IsBehind (f ++ more) → numbers_in false f ≡ []
    by_more [] h w = absurd (no_end (subst IsBehind (append-nil f) w))
    by_more (s ∷ more) h w =
        let l = last_of s more h in
        let whole : (f ++ l.init) ++ l.last ∷ [] ≡ (equals ∷ spell_parts w.0 w.1 []) ++ semicolon ∷ []
        = append_assoc f l.init (l.last ∷ []) ∙ ap (λ (more : List Symbol). f ++ more) (sym l.is) ∙ w.4 ∙ ap (λ (ss : List Symbol). equals ∷ ss) (longer_parts w.0 w.1 [] (semicolon ∷ [])) in
        let front = (but_last (f ++ l.init) (equals ∷ spell_parts w.0 w.1 []) l.last semicolon whole).0 in
        no_numbers false f l.init (ap (numbers_in false) front ∙ parts_numbers w.0 w.1 [])

parenthesis_open : (f : List Symbol) → IsBehind (f ++ opening ∷ []) → ⊥
parenthesis_open f w =
    let last = (but_last f (equals ∷ spell_parts w.0 w.1 []) opening semicolon (w.4 ∙ ap (λ (ss : List Symbol). equals ∷ ss) (longer_parts w.0 w.1 [] (semicolon ∷ [])))).1 in
    absurd cc

-- What is read of an instance has no numbers: where the machine is stuck, and where it is too deep.
pub record Inner (rest : List Symbol) (left : ℕ) : Type 0 where
  pub front : List Symbol
  pub back : List Symbol
  pub parts : rest ≡ front ++ back
  pub count : length back ≡ left
  pub none : numbers_in false front ≡ []

pub stuck_inside : (rest : List Symbol) (left : ℕ) → run 32 0 behind_items rest ≡ stuck left → Inner rest left
stuck_inside rest left e =
    let x = behind_stopped rest left e in
    let s = x.stops in
    record { front = s.front; back = s.back; parts = s.parts; count = s.count; none = inside_numbers s.front s.begins x.open_end }

pub deep_inside : (rest : List Symbol) (left : ℕ) → run 32 0 behind_items rest ≡ deep left → Inner rest left
deep_inside rest left e =
    let d = behind_deepened rest left e in
    record {
      front = d.front;
      back = opening ∷ d.back;
      parts = d.parts;
      count = d.count;
      none = no_numbers false d.front (opening ∷ []) (inside_numbers (d.front ++ opening ∷ []) d.begins (parenthesis_open d.front));
    }

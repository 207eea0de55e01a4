-- The refusals of a file and of instances, from where the machine ends.
use Rattle.std.proofs.Common.{◌≡◌, ℕ, suc, ◌-◌, ◌≤◌, ◌<◌, List, [], ◌∷◌, ◌++◌, length, map, take, drop, refl, sym, ap, subst, ◌∙◌, length-append, nat_eq, arith}
use Rattle.std.specs.List.{AllByRecursion, IsDistinct}
use Rattle.std.proofs.Math.Seq.{take-append_seam}
use Rattle.p21_lex.specs.declared.token.Token.{Token}
use Rattle.p21_lex.specs.Reading.{IsToken}
use Rattle.p21_parse.specs.Tree.{InstanceTree}
use Rattle.p21_parse.specs.Symbol.{Symbol, name, opening, semicolon, symbols}
use Rattle.p21_parse.specs.Spell.{spell_all, spell_instance}
use Rattle.p21_parse.specs.Grammar.{IsFile, AreInstances}
use Rattle.p21_parse.specs.Begins.{StopsAt, DeepAt}
use Rattle.p21_parse.specs.Places.{syntax, too_deep, too_many, duplicate, place_of}
use Rattle.p21_parse.specs.Refused.{file_numbers, IsWithin, RefusedAt, list_numbers, IsWithinList, RefusedFrom}
use Rattle.p21_parse.specs.Machine.{Item, fixed, behind_name, instances, Outcome, done, stuck, deep, run, file_items}
use Rattle.p21_parse.proofs.Leaves.{Shallow, left_of}
use Rattle.p21_parse.proofs.Languages.{file_stopped, file_late, file_deepened, list_stopped, list_deepened, file_read_at, list_read_at}
use Rattle.p21_parse.proofs.Inside.{inside_open, same_front, Inner, stuck_inside, deep_inside}
use Rattle.p21_parse.proofs.Named.{symbols_real, left_within}
use Rattle.p21_parse.proofs.Owned.{instances_numbers}
use Rattle.p21_parse.proofs.Appends.{longer_instances}
use Rattle.std.proofs.lemmas.List.{length-map}
use Rattle.p21_parse.specs.Allowed.{own_number_of}

-- The instances of a front are few, and no number comes twice.
pub record IsNumbered (front : List Symbol) : Type 0 where
  pub few : length (file_numbers front) ≤ 200000
  pub distinct : IsDistinct nat_eq (file_numbers front)

-- the front before so many symbols
front_is : (ss front back : List Symbol) (left : ℕ) → ss ≡ front ++ back → length back ≡ left → take (length ss - left) ss ≡ front
front_is ss front back left e h =
    let same : length (front ++ back) - left ≡ length front = omega (arith, length-append front back) in
    ap (λ (ss : List Symbol). take (length ss - left) ss) e ∙ ap (λ (k : ℕ). take k (front ++ back)) same ∙ take-append_seam front back

within : (front : List Symbol) → Shallow front → IsNumbered front → IsWithin front
within front s n = record { shallow = s; few = n.few; distinct = n.distinct }

-- limits that hold of the front may be told with the place
abbrev narrowed : (Whole V W : List Symbol → Type 0) (ss : List Symbol) (left : ℕ) (x : StopsAt Whole V ss left) → W x.front → StopsAt Whole W ss left
narrowed Whole V W ss left x w = record { front = x.front; back = x.back; parts = x.parts; count = x.count; begins = x.begins; within = w; ends = x.ends }

deep_narrowed : (Whole V W : List Symbol → Type 0) (ss : List Symbol) (left : ℕ) (x : DeepAt Whole V ss left) → W x.front → DeepAt Whole W ss left
deep_narrowed Whole V W ss left x w = record { front = x.front; back = x.back; parts = x.parts; count = x.count; begins = x.begins; within = w; over = x.over }

module _ (bytes : List ℕ) (tokens : List Token) where
  -- Syntax
  pub file_syntax : (left : ℕ) → run 32 0 file_items (symbols bytes tokens) ≡ stuck left → IsNumbered (take (length (symbols bytes tokens) - left) (symbols bytes tokens)) → RefusedAt bytes tokens (syntax (place_of bytes tokens left))
  file_syntax left e n =
      let x = file_stopped (symbols bytes tokens) left e in
      let s = x.stops in
      (left, narrowed IsFile Shallow IsWithin (symbols bytes tokens) left s (within s.front s.within (subst IsNumbered (front_is (symbols bytes tokens) s.front s.back left s.parts s.count) n)), x.not_whole, refl)

  -- Syntax where a file has ended and tokens follow
  pub file_goes_on : (rest : List Symbol) (k : ℕ) → 0 < length rest → run 32 0 file_items (symbols bytes tokens) ≡ done k rest → IsNumbered (take (length (symbols bytes tokens) - length rest) (symbols bytes tokens))
      → RefusedAt bytes tokens (syntax (place_of bytes tokens (length rest)))
  file_goes_on rest k some e n =
      let x = file_late (symbols bytes tokens) rest k some e in
      let s = x.0 in
      (length rest, narrowed IsFile Shallow IsWithin (symbols bytes tokens) (length rest) s (within s.front s.within (subst IsNumbered (front_is (symbols bytes tokens) s.front s.back (length rest) s.parts s.count) n)), x.1, refl)

  -- TooDeep
  pub file_too_deep : (left : ℕ) → run 32 0 file_items (symbols bytes tokens) ≡ deep left → IsNumbered (take (length (symbols bytes tokens) - left) (symbols bytes tokens)) → RefusedAt bytes tokens (too_deep (place_of bytes tokens left))
  file_too_deep left e n =
      let d = file_deepened (symbols bytes tokens) left e in
      (left, deep_narrowed IsFile Shallow IsWithin (symbols bytes tokens) left d (within d.front d.within (subst IsNumbered (front_is (symbols bytes tokens) d.front (opening ∷ d.back) left d.parts d.count) n)), refl)

  module _ (real : AllByRecursion (IsToken bytes) tokens) (front back : List Symbol) (number : ℕ) (parts : symbols bytes tokens ≡ front ++ name number ∷ back)
      (before : left_of (run 32 0 file_items (symbols bytes tokens)) ≤ length back) (n : IsNumbered front) where
    -- TooMany: the name is before the place where the machine ends
    pub file_too_many : 200000 < length (file_numbers (front ++ name number ∷ [])) → RefusedAt bytes tokens (too_many (place_of bytes tokens (length (name number ∷ back))))
    file_too_many over =
        let r = file_read_at (symbols bytes tokens) front back (name number) (symbols_real bytes tokens real) parts before in
        (length (name number ∷ back), record { front = front; number = number; back = back; parts = parts; count = refl; begins = r.0; within = within front r.1 n; over = over }, refl)

    -- Duplicate
    pub file_duplicate : length (file_numbers (front ++ name number ∷ [])) ≤ 200000 → (IsDistinct nat_eq (file_numbers (front ++ name number ∷ [])) → ⊥) → RefusedAt bytes tokens (duplicate number)
    file_duplicate few twice =
        let r = file_read_at (symbols bytes tokens) front back (name number) (symbols_real bytes tokens real) parts before in
        record { front = front; back = back; parts = parts; begins = r.0; within = within front r.1 n; few = few; twice = twice }

  -- The same of instances from a token on.
  module _ (at most : ℕ) where
    abbrev here : List Symbol
    here = symbols bytes (drop at tokens)

    list_within : (front : List Symbol) → Shallow front → length (list_numbers front) ≤ most → IsWithinList most front
    list_within front s few = record { shallow = s; few = few }

    -- what was read before an instance's name, and in it
    module _ (before : List InstanceTree) (number : ℕ) (rest : List Symbol) (parts : here ≡ spell_all spell_instance before (name number ∷ rest))
        (goes : run 32 0 (instances ∷ []) here ≡ run 32 0 (instances ∷ []) (name number ∷ rest)) where
      inner_front : (left : ℕ) (x : Inner rest left) (front back : List Symbol) → here ≡ front ++ back → length back ≡ left → front ≡ spell_all spell_instance before (name number ∷ x.front)
      inner_front left x front back e h =
          same_front front back (spell_all spell_instance before (name number ∷ x.front)) x.back
          (sym e ∙ parts ∙ ap (λ (more : List Symbol). spell_all spell_instance before (name number ∷ more)) x.parts ∙ longer_instances before (name number ∷ x.front) x.back) (h ∙ sym x.count)

      inner_numbers : (left : ℕ) (x : Inner rest left) (front back : List Symbol) → here ≡ front ++ back → length back ≡ left → list_numbers front ≡ map own_number_of before ++ number ∷ []
      inner_numbers left x front back e h =
          ap list_numbers (inner_front left x front back e h) ∙ instances_numbers before (name number ∷ x.front) ∙ ap (λ (ns : List ℕ). map own_number_of before ++ number ∷ ns) x.none

      inner_few : (left : ℕ) (x : Inner rest left) (front back : List Symbol) → here ≡ front ++ back → length back ≡ left → length before < most → length (list_numbers front) ≤ most
      inner_few left x front back e h lt =
          let numbers = ap length (inner_numbers left x front back e h) in
          omega (arith, numbers, length-append (map own_number_of before) (number ∷ []), length-map before own_number_of)

      -- Syntax inside an instance
      pub list_syntax : (left : ℕ) → ((stack : List Item) → run 32 0 (behind_name ∷ fixed semicolon ∷ stack) rest ≡ stuck left) → length before < most → RefusedFrom bytes tokens at most (syntax (place_of bytes tokens left))
      list_syntax left e lt =
          let s = list_stopped here left (goes ∙ e (instances ∷ [])) in (
            left,
            narrowed AreInstances Shallow (IsWithinList most) here left s (list_within s.front s.within (inner_few left (stuck_inside rest left (e [])) s.front s.back s.parts s.count lt)),
            inside_open here rest before number left s parts (e []),
            refl,
          )

      -- TooDeep inside an instance
      pub list_too_deep : (left : ℕ) → ((stack : List Item) → run 32 0 (behind_name ∷ fixed semicolon ∷ stack) rest ≡ deep left) → length before < most → RefusedFrom bytes tokens at most (too_deep (place_of bytes tokens left))
      list_too_deep left e lt =
          let d = list_deepened here left (goes ∙ e (instances ∷ [])) in
          (left, deep_narrowed AreInstances Shallow (IsWithinList most) here left d (list_within d.front d.within (inner_few left (deep_inside rest left (e [])) d.front (opening ∷ d.back) d.parts d.count lt)), refl)

      -- TooMany at the name
      pub list_too_many : AllByRecursion (IsToken bytes) (drop at tokens) → length before ≡ most → RefusedFrom bytes tokens at most (too_many (place_of bytes tokens (length (name number ∷ rest))))
      list_too_many real full =
          let front : List Symbol = spell_all spell_instance before [] in
          let split : here ≡ front ++ name number ∷ rest = parts ∙ longer_instances before [] (name number ∷ rest) in
          let ends : left_of (run 32 0 (instances ∷ []) here) ≤ length rest = subst (λ (o : Outcome). left_of o ≤ length rest) (sym goes) (left_within rest 32 0 (behind_name ∷ fixed semicolon ∷ instances ∷ [])) in
          let r = list_read_at here front rest number (symbols_real bytes (drop at tokens) real) split ends in
          let own : length (list_numbers front) ≡ length before = ap length (instances_numbers before []) ∙ omega (arith, length-append (map own_number_of before) [], length-map before own_number_of) in
          let whole : length (list_numbers (front ++ name number ∷ [])) ≡ suc (length before) =
          ap (λ (ss : List Symbol). length (list_numbers ss)) (sym (longer_instances before [] (name number ∷ []))) ∙ ap length (instances_numbers before (name number ∷ []))
          ∙ omega (arith, length-append (map own_number_of before) (number ∷ []), length-map before own_number_of) in
          (length (name number ∷ rest), record { front = front; number = number; back = rest; parts = split; count = refl; begins = r.0; within = list_within front r.1 (omega arith); over = omega arith }, refl)

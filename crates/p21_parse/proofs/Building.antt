-- Instances that make an exchange, one after the other, and the exchange under the standard header.
use Rattle.std.proofs.Common.{◌≡◌, ℕ, suc, ◌+◌, ◌<◌, ◌≤◌, nat_eq, Bool, true, false, List, [], ◌∷◌, ◌++◌, length, map, take, codes, refl, sym, ap, subst, ◌∙◌, length-append, inr, zero, get_or, add-one, ◌↔◌, IsTrue, Some, arith}
use Rattle.std.specs.List.{AllByRecursion, IsDistinct}
use Rattle.std.proofs.lemmas.List.{map_push, length-map, length-take, take_all}
use Rattle.p21_parse.specs.declared.exchange.Instance.{Instance}
use Rattle.p21_parse.specs.View.{instance_of}
use Rattle.p21_lex.specs.declared.token.TokenKind.TheVariants as kinds
use Rattle.p21_parse.specs.Tree.{one, listed, PartTree, InstanceTree, ExchangeTree}
use Rattle.p21_parse.specs.Symbol.{Symbol, keyword, dashed, opening, semicolon}
use Rattle.p21_parse.specs.Spell.{spell_all, spell_part, spell_entry, spell_instance}
use Rattle.p21_parse.specs.Grammar.{IsInstance, IsHead}
use Rattle.p21_parse.specs.Nesting.{greatest, instance_nesting}
use Rattle.p21_parse.specs.Begins.{IsSymbol}
use Rattle.p21_parse.specs.Spelled.{IsSpelledInstance, IsSpelled}
use Rattle.p21_parse.specs.Allowed.{own_number_of, IsAllowed}
use Rattle.p21_parse.specs.Built.{AreValid, AreFitting, IsFirstInvalid, IsValid, Fits, empty_text, one_empty, standard_description, standard_name, standard_schema, standard_head}
use Rattle.p21_parse.proofs.Parting.{are_all}
use Rattle.p21_parse.specs.Names.{IsFirstRepeat}
use Rattle.p21_parse.proofs.Finish.{word_each, endsec_real}
use Rattle.p21_parse.proofs.Appends.{longer_part, longer_instance}
use Rattle.p21_parse.proofs.Spellings.{some_token}
use Rattle.p21_parse.proofs.Fit.{joined, all_fit}

-- ---- instances that are valid each by itself

are_instances : (items : List InstanceTree) → AllByRecursion IsValid items → AllByRecursion IsInstance items
are_instances [] h = tt
are_instances (i ∷ items) h = (h.0.grammar, are_instances items h.1)

are_shallow : (items : List InstanceTree) → AllByRecursion IsValid items → greatest instance_nesting items ≤ 32
are_shallow [] h = omega arith
are_shallow (i ∷ items) h = omega (arith, h.0.shallow, are_shallow items h.1)

are_spelled : (items : List InstanceTree) → AllByRecursion IsValid items → AllByRecursion IsSpelledInstance items
are_spelled [] h = tt
are_spelled (i ∷ items) h = (h.0.spelled, are_spelled items h.1)

together : (items : List InstanceTree) → AllByRecursion IsValid items → length items ≤ 200000 → IsDistinct nat_eq (map own_number_of items) → AreValid items
together items each few distinct = record { allowed = record { grammar = are_instances items each; shallow = are_shallow items each; few = few }; distinct = distinct; spelled = are_spelled items each }

fewer : (items : List InstanceTree) (n i : ℕ) → i ≤ n → AllByRecursion IsValid (take n items) → AllByRecursion IsValid (take i items)
fewer items n zero le h = tt
fewer [] n (suc i) le h = tt
fewer (x ∷ items) zero (suc i) le h = absurd (omega arith)
fewer (x ∷ items) (suc n) (suc i) le h = (h.0, fewer items n i (omega arith) h.1)

first_numbers : (items : List InstanceTree) (n i : ℕ) → i ≤ n → take i (map own_number_of (take n items)) ≡ map own_number_of (take i items)
first_numbers items n zero le = refl
first_numbers [] zero (suc i) le = refl
first_numbers [] (suc n) (suc i) le = refl
first_numbers (x ∷ items) zero (suc i) le = absurd (omega arith)
first_numbers (x ∷ items) (suc n) (suc i) le = ap (λ (ns : List ℕ). x.number ∷ ns) (first_numbers items n i (omega arith))

last_all : (P : InstanceTree → Type 0) (items : List InstanceTree) (i : InstanceTree) → AllByRecursion P (items ++ i ∷ []) → P i
last_all P [] i h = h.0
last_all P (j ∷ items) i h = last_all P items i h.1

last_shallow : (items : List InstanceTree) (i : InstanceTree) → greatest instance_nesting (items ++ i ∷ []) ≤ 32 → instance_nesting i ≤ 32
last_shallow [] i h = omega arith
last_shallow (j ∷ items) i h = last_shallow items i (omega arith)

-- ---- why no more

pub too_many : (items : List InstanceTree) (i : InstanceTree) → 200000 ≤ length items → AreValid (items ++ i ∷ []) → ⊥
too_many items i many v = let a = v.allowed in let few = a.few in absurd (omega (arith, length-append items (i ∷ [])))

pub not_valid : (items : List InstanceTree) (i : InstanceTree) → (IsValid i → ⊥) → AreValid (items ++ i ∷ []) → ⊥
not_valid items i bad v =
    let a = v.allowed in
    bad (record { grammar = last_all IsInstance items i a.grammar; shallow = last_shallow items i a.shallow; spelled = last_all IsSpelledInstance items i v.spelled })

-- ---- the standard header

description_real : IsSymbol (keyword (codes "FILE_DESCRIPTION"))
description_real = (kinds.Word, codes "FILE_DESCRIPTION", (refl, word_each (codes "ILE_DESCRIPTION") refl), refl)

name_real : IsSymbol (keyword (codes "FILE_NAME"))
name_real = (kinds.Word, codes "FILE_NAME", (refl, word_each (codes "ILE_NAME") refl), refl)

schema_real : IsSymbol (keyword (codes "FILE_SCHEMA"))
schema_real = (kinds.Word, codes "FILE_SCHEMA", (refl, word_each (codes "ILE_SCHEMA") refl), refl)

header_real : IsSymbol (keyword (codes "HEADER"))
header_real = (kinds.Word, codes "HEADER", (refl, word_each (codes "EADER") refl), refl)

data_real : IsSymbol (keyword (codes "DATA"))
data_real = (kinds.Word, codes "DATA", (refl, word_each (codes "ATA") refl), refl)

iso_real : IsSymbol (dashed (codes "ISO-10303-21"))
iso_real = (kinds.Word, codes "ISO-10303-21", (refl, word_each (codes "SO-10303-21") refl), refl)

end_iso_real : IsSymbol (dashed (codes "END-ISO-10303-21"))
end_iso_real = (kinds.Word, codes "END-ISO-10303-21", (refl, word_each (codes "ND-ISO-10303-21") refl), refl)

-- the texts of the header
empty_fits : (most : ℕ) → Fits most empty_text
empty_fits most = record { grammar = tt; shallow = omega arith; spelled = (some_token _ tt, tt) }

level_fits : Fits 31 (one kinds.Text (codes "2;1"))
level_fits = record { grammar = tt; shallow = omega arith; spelled = (some_token _ (inr (refl, refl, inr (refl, refl, (refl, refl)))), tt) }

list_fits : Fits 31 one_empty
list_fits = record { grammar = (tt, tt); shallow = omega arith; spelled = (some_token opening tt, (some_token _ tt, (some_token _ tt, tt))) }

entry_real : (p : PartTree) (rest : List Symbol) → IsSymbol (keyword p.keyword) → AllByRecursion (Fits 31) (listed p.parameters) → AllByRecursion IsSymbol rest → AllByRecursion IsSymbol (spell_entry p rest)
entry_real p rest word fit h =
    let a = all_fit 31 p.parameters fit in
    joined (spell_part p []) (semicolon ∷ rest) (spell_part p (semicolon ∷ rest)) (longer_part p [] (semicolon ∷ rest)) (word, (some_token opening tt, a.spelled)) (some_token semicolon tt, h)

head_real : (rest : List Symbol) → AllByRecursion IsSymbol rest → AllByRecursion IsSymbol (spell_all spell_entry standard_head rest)
head_real rest h =
    let third = entry_real standard_schema rest schema_real (list_fits, tt) h in
    let second =
    entry_real standard_name (spell_entry standard_schema rest) name_real
    (empty_fits 31, (empty_fits 31, (list_fits, (list_fits, (empty_fits 31, (empty_fits 31, (empty_fits 31, tt))))))) third in
    entry_real standard_description (spell_entry standard_name (spell_entry standard_schema rest)) description_real (list_fits, (level_fits, tt)) second

head_is : IsHead standard_head
head_is = (
  (refl, refl, ((tt, tt), (tt, tt))),
  (refl, refl, (tt, (tt, ((tt, tt), ((tt, tt), (tt, (tt, (tt, tt)))))))),
  (refl, (tt, tt)),
  tt,
)

items_real : (items : List InstanceTree) (rest : List Symbol) → AllByRecursion IsSpelledInstance items → AllByRecursion IsSymbol rest → AllByRecursion IsSymbol (spell_all spell_instance items rest)
items_real [] rest h k = k
items_real (i ∷ items) rest h k =
    let more = spell_all spell_instance items rest in
    joined (spell_instance i []) more (spell_instance i more) (longer_instance i [] more) h.0 (items_real items rest h.1 k)

-- what stands behind the instances, and behind the header
abbrev end_symbols : List Symbol
end_symbols = keyword (codes "ENDSEC") ∷ semicolon ∷ dashed (codes "END-ISO-10303-21") ∷ semicolon ∷ []

abbrev data_symbols : List InstanceTree → List Symbol
data_symbols items = keyword (codes "ENDSEC") ∷ semicolon ∷ keyword (codes "DATA") ∷ semicolon ∷ spell_all spell_instance items end_symbols

end_real : AllByRecursion IsSymbol end_symbols
end_real = (endsec_real, (some_token semicolon tt, (end_iso_real, (some_token semicolon tt, tt))))

module _ (items : List InstanceTree) (v : AreValid items) where
  abbrev exchange : ExchangeTree
  exchange = record { head = standard_head; items = items }

  pub exchange_allowed : IsAllowed exchange
  exchange_allowed =
      let a = v.allowed in
      let low = a.shallow in
      record { grammar = record { head = head_is; items = a.grammar }; shallow = omega arith; few = a.few; distinct = v.distinct }

  pub exchange_spelled : IsSpelled exchange
  exchange_spelled = (
    iso_real,
    (
      some_token semicolon tt,
      (
        header_real,
        (
          some_token semicolon tt,
          head_real (data_symbols items) (
            endsec_real,
            (some_token semicolon tt, (data_real, (some_token semicolon tt, items_real items end_symbols v.spelled end_real))),
          ),
        ),
      ),
    ),
  )

pub built_valid : (x : ExchangeTree) (items : List InstanceTree) → x ≡ record { head = standard_head; items = items } → AreValid items → IsAllowed x × IsSpelled x
built_valid x items e v = subst (λ (y : ExchangeTree). IsAllowed y × IsSpelled y) (sym e) (exchange_allowed items v, exchange_spelled items v)

-- ---- the program's loop

taken : (items : List Instance) (i : ℕ) (x : Instance) → i < length items → x ≡ get_or items i x → take (suc i) items ≡ take i items ++ x ∷ []
taken [] i x lt is = absurd (omega arith)
taken (y ∷ items) zero x lt is = ap (λ (z : Instance). z ∷ []) (sym is)
taken (y ∷ items) (suc i) x lt is = ap (λ (zs : List Instance). y ∷ zs) (taken items i x (omega arith) is)

taken_length : (items : List Instance) (i : ℕ) → i < length items → length (map instance_of (take i items)) ≡ i
taken_length [] i lt = absurd (omega arith)
taken_length (y ∷ items) zero lt = refl
taken_length (y ∷ items) (suc i) lt = ap suc (taken_length items i (omega arith))

seen_taken : (items : List Instance) (i : ℕ) → map instance_of (take i items) ≡ take i (map instance_of items)
seen_taken items zero = refl
seen_taken [] (suc i) = refl
seen_taken (y ∷ items) (suc i) = ap (λ (zs : List InstanceTree). instance_of y ∷ zs) (seen_taken items i)

seen_length : (items : List Instance) → length (map instance_of items) ≡ length items
seen_length items = length-map items instance_of

-- the first instances are valid, each by itself, and these are their numbers
pub record Looked (items : List Instance) (at : ℕ) (numbers : List ℕ) : Type 0 where
  pub each : AllByRecursion IsValid (take at (map instance_of items))
  pub numbers_are : numbers ≡ map own_number_of (take at (map instance_of items))
  pub few : at ≤ 200000
  pub count : length numbers ≡ at

pub nothing_yet : (items : List Instance) (numbers : List ℕ) → numbers ≡ [] → Looked items 0 numbers
nothing_yet items numbers is = record { each = tt; numbers_are = is; few = omega arith; count = ap length is }

fitting : (items : List Instance) (at : ℕ) (numbers : List ℕ) → at ≤ length items → Looked items at numbers → (at < length items → AreValid (take (suc at) (map instance_of items)) → ⊥) → AreFitting (map instance_of items) numbers
fitting items at numbers le l ends = record {
  numbers_are = subst (λ (n : ℕ). numbers ≡ map own_number_of (take n (map instance_of items))) (sym l.count) l.numbers_are;
  inside = omega (arith, l.count, seen_length items);
  each = subst (λ (n : ℕ). AllByRecursion IsValid (take n (map instance_of items))) (sym l.count) l.each;
  few = omega (arith, l.count, l.few);
  ends = λ lt. subst (λ (n : ℕ). AreValid (take (suc n) (map instance_of items)) → ⊥) (sym l.count) (ends (omega (arith, lt, l.count, seen_length items)));
}

pub all_fitting : (items : List Instance) (at : ℕ) (numbers : List ℕ) → at ≡ length items → Looked items at numbers → AreFitting (map instance_of items) numbers
all_fitting items at numbers is l = fitting items at numbers (omega (arith, is)) l (λ lt. absurd (omega (arith, is, lt)))

module _ (items : List Instance) (at : ℕ) (x : Instance) (numbers : List ℕ) (lt : at < length items) (is : x ≡ get_or items at x) (l : Looked items at numbers) where
  next : take (suc at) (map instance_of items) ≡ take at (map instance_of items) ++ instance_of x ∷ []
  next = sym (seen_taken items (suc at)) ∙ ap (map instance_of) (taken items at x lt is) ∙ map_push instance_of (take at items) x ∙ ap (λ (is : List InstanceTree). is ++ instance_of x ∷ []) (seen_taken items at)

  stops : (AreValid (take at (map instance_of items) ++ instance_of x ∷ []) → ⊥) → AreFitting (map instance_of items) numbers
  stops bad = fitting items at numbers (omega arith) l (λ _ v. bad (subst AreValid next v))

  pub stops_many : 200000 ≤ at → AreFitting (map instance_of items) numbers
  stops_many many = stops (too_many (take at (map instance_of items)) (instance_of x) (omega (arith, many, taken_length items at lt, ap length (seen_taken items at))))

  pub stops_item : (r : Bool) → r ≡ false → IsTrue r ↔ IsValid (instance_of x) → AreFitting (map instance_of items) numbers
  stops_item r e h = stops (not_valid (take at (map instance_of items)) (instance_of x) (λ v. let yes : r ≡ true = h.1 v in let both : true ≡ false = sym yes ∙ e in absurd cc))

  pub looked_more : (new : List ℕ) → at < 200000 → IsValid (instance_of x) → new ≡ numbers ++ x.number ∷ [] → Looked items (at + 1) new
  looked_more new few v is_new =
      let whole : Looked items (suc at) new = record {
        each = subst (AllByRecursion IsValid) (sym next) (are_all IsValid (take at (map instance_of items)) (instance_of x) l.each v);
        numbers_are =
            is_new ∙ ap (λ (ns : List ℕ). ns ++ x.number ∷ []) l.numbers_are ∙ sym (map_push own_number_of (take at (map instance_of items)) (instance_of x)) ∙ ap (map own_number_of) (sym next);
        few = omega (arith, few);
        count = omega (arith, ap length is_new, length-append numbers (x.number ∷ []), l.count);
      } in
      subst (λ (k : ℕ). Looked items k new) (sym (add-one at)) whole

-- ---- all together

module _ (items : List InstanceTree) (numbers : List ℕ) (f : AreFitting items numbers) where
  pub all_valid : IsDistinct nat_eq numbers → length items ≤ length numbers → AreValid items
  all_valid distinct all =
      let whole : take (length numbers) items ≡ items = take_all (length numbers) items all in
      let each : AllByRecursion IsValid items = subst (AllByRecursion IsValid) whole f.each in
      let numbers_are : numbers ≡ map own_number_of items = f.numbers_are ∙ ap (map own_number_of) whole in
      together items each (omega (arith, f.few, f.inside, all)) (subst (λ (ns : List ℕ). IsDistinct nat_eq ns) numbers_are distinct)

  front_valid : (i : ℕ) → i ≤ length numbers → IsDistinct nat_eq (take i numbers) → AreValid (take i items)
  front_valid i le distinct =
      let numbers_are : take i numbers ≡ map own_number_of (take i items) = ap (take i) f.numbers_are ∙ first_numbers items (length numbers) i le in
      together (take i items) (fewer items (length numbers) i le f.each) (omega (arith, f.few, le, length-take i items)) (subst (λ (ns : List ℕ). IsDistinct nat_eq ns) numbers_are distinct)

  pub invalid_again : (i : ℕ) → IsFirstRepeat numbers (Some i) → IsFirstInvalid items i
  invalid_again i r =
      let numbers_are : take (i + 1) numbers ≡ map own_number_of (take (suc i) items) = ap (take (i + 1)) f.numbers_are ∙ first_numbers items (length numbers) (i + 1) (omega (arith, r.0)) ∙ ap (λ (k : ℕ). map own_number_of (take k items)) (add-one i) in
      record {
        inside = omega (arith, r.0, f.inside);
        before = front_valid i (omega (arith, r.0)) r.1;
        with_it = λ v. r.2 (subst (λ (ns : List ℕ). IsDistinct nat_eq ns) (sym numbers_are) v.distinct);
      }

  pub invalid_next : IsDistinct nat_eq numbers → length numbers < length items → IsFirstInvalid items (length numbers)
  invalid_next distinct lt =
      let all : take (length numbers) numbers ≡ numbers = take_all (length numbers) numbers (omega arith) in
      record { inside = lt; before = front_valid (length numbers) (omega arith) (subst (λ (ns : List ℕ). IsDistinct nat_eq ns) (sym all) distinct); with_it = f.ends lt }

-- Which parameters, parts and instances can stand in a file, from what they are made of.
use Rattle.std.proofs.Common.{◌≡◌, ℕ, suc, ◌-◌, ◌<◌, ◌≤◌, Bool, true, false, List, [], ◌∷◌, ◌++◌, length, refl, sym, subst, ◌↔◌, IsTrue, get_or, map, zero, arith}
use Rattle.std.specs.List.{AllByRecursion}
use Rattle.p21_lex.specs.declared.token.TokenKind.{TokenKind}
use Rattle.p21_lex.specs.declared.token.TokenKind.TheVariants as kinds
use Rattle.p21_parse.specs.Tree.{one, list, Trees, none, first, listed, PartTree, InstanceTree}
use Rattle.p21_parse.specs.Symbol.{Symbol, value, name, keyword, opening, closing, comma, semicolon, equals}
use Rattle.p21_parse.specs.Spell.{spell, spell_list, spell_more, spell_all, spell_part, spell_parts}
use Rattle.p21_parse.specs.Grammar.{AreParameters, IsPart, HasParts}
use Rattle.p21_parse.specs.Nesting.{nestings, greatest, part_nesting}
use Rattle.p21_parse.specs.Begins.{IsSymbol}
use Rattle.p21_parse.specs.Built.{Fits, IsValidPart, IsValid}
use Rattle.p21_parse.proofs.Finish.{real_append}
use Rattle.p21_parse.proofs.Named.{real_front, real_back}
use Rattle.p21_parse.proofs.Appends.{longer, longer_part}
use Rattle.p21_parse.proofs.Spellings.{some_token}

abbrev Real : List Symbol → Type 0
Real ss = AllByRecursion IsSymbol ss

-- symbols in front of others
pub joined : (a b c : List Symbol) → c ≡ a ++ b → Real a → Real b → Real c
joined a b c e h k = subst Real (sym e) (real_append a b h k)

front_of : (a b c : List Symbol) → c ≡ a ++ b → Real c → Real a
front_of a b c e h = real_front a b (subst Real e h)

back_of : (a b c : List Symbol) → c ≡ a ++ b → Real c → Real b
back_of a b c e h = real_back a b (subst Real e h)

-- ---- what the program asks

not_true : (r : Bool) → r ≡ false → IsTrue r → ⊥
not_true true e t = absurd cc
not_true false e t = absurd (let no_truth : false ≡ true = t in cc)

pub refused : (P : Type 0) → (P → ⊥) → IsTrue false ↔ P
refused P other = (λ t. absurd (let no_truth : false ≡ true = t in cc), λ p. absurd (other p))

-- one of several has it not
pub refused_at : {X Y : Type 0} (view : X → Y) (P : Y → Type 0) (xs : List X) (i : ℕ) (x : X) (r : Bool) → i < length xs → x ≡ get_or xs i x → r ≡ false → IsTrue r ↔ P (view x) → IsTrue false ↔ AllByRecursion P (map view xs)
refused_at {X = X} view P xs i x r lt is e h = refused (AllByRecursion P (map view xs)) (λ all. not_true r e (h.1 (at xs i lt is all)))
  where
    at : (xs : List X) (i : ℕ) → i < length xs → x ≡ get_or xs i x → AllByRecursion P (map view xs) → P (view x)
    at [] i lt is all = absurd (omega arith)
    at (y ∷ xs) zero lt is all = subst (λ (z : X). P (view z)) (sym is) all.0
    at (y ∷ xs) (suc i) lt is all = at xs i (omega arith) is all.1

-- ---- parameters

pub one_fits : (kind : TokenKind) (text : List ℕ) (most : ℕ) (r : Bool) → IsTrue r ↔ IsSymbol (value kind text) → IsTrue r ↔ Fits most (one kind text)
one_fits kind text most r h = (λ t. record { grammar = tt; shallow = omega arith; spelled = (h.0 t, tt) }, λ f. h.1 f.spelled.0)

pub unset_fits : (most : ℕ) → IsTrue true ↔ Fits most (one kinds.Dollar [])
unset_fits most = one_fits kinds.Dollar [] most true (λ t. some_token (value kinds.Dollar []) refl, λ s. refl)

pub derived_fits : (most : ℕ) → IsTrue true ↔ Fits most (one kinds.Star [])
derived_fits most = one_fits kinds.Star [] most true (λ t. some_token (value kinds.Star []) refl, λ s. refl)

-- parameters that fit, each by itself
pub record AreFit (most : ℕ) (ts : Trees) : Type 0 where
  pub grammar : AreParameters ts
  pub shallow : nestings ts ≤ most
  pub spelled : AllByRecursion IsSymbol (spell_list ts [])
  pub further : AllByRecursion IsSymbol (spell_more ts [])

pub all_fit : (most : ℕ) (ts : Trees) → AllByRecursion (Fits most) (listed ts) → AreFit most ts
all_fit most none h = record { grammar = tt; shallow = omega arith; spelled = (some_token closing tt, tt); further = (some_token closing tt, tt) }
all_fit most (first t ts) h =
    let f = h.0 in
    let rest = all_fit most ts h.1 in
    let low = f.shallow in
    let others = rest.shallow in
    let whole : Real (spell t (spell_more ts [])) = joined (spell t []) (spell_more ts []) (spell t (spell_more ts [])) (longer t [] (spell_more ts [])) f.spelled rest.further in
    record { grammar = (f.grammar, rest.grammar); shallow = omega arith; spelled = whole; further = (some_token comma tt, whole) }

pub fit_all : (most : ℕ) (ts : Trees) → AreParameters ts → nestings ts ≤ most → Real (spell_list ts []) → AllByRecursion (Fits most) (listed ts)
fit_all most none g n s = tt
fit_all most (first t ts) g n s = (
  record { grammar = g.0; shallow = omega arith; spelled = front_of (spell t []) (spell_more ts []) (spell t (spell_more ts [])) (longer t [] (spell_more ts [])) s },
  fit_more ts g.1 (omega arith) (back_of (spell t []) (spell_more ts []) (spell t (spell_more ts [])) (longer t [] (spell_more ts [])) s),
)
  where
    fit_more : (ts : Trees) → AreParameters ts → nestings ts ≤ most → Real (spell_more ts []) → AllByRecursion (Fits most) (listed ts)
    fit_more none g n s = tt
    fit_more (first t ts) g n s = (
      record { grammar = g.0; shallow = omega arith; spelled = front_of (spell t []) (spell_more ts []) (spell t (spell_more ts [])) (longer t [] (spell_more ts [])) s.1 },
      fit_more ts g.1 (omega arith) (back_of (spell t []) (spell_more ts []) (spell t (spell_more ts [])) (longer t [] (spell_more ts [])) s.1),
    )

pub list_fits : (most : ℕ) (ts : Trees) (r : Bool) → 0 < most → IsTrue r ↔ AllByRecursion (Fits (most - 1)) (listed ts) → IsTrue r ↔ Fits most (list ts)
list_fits most ts r some h = (
  λ t.
      let a = all_fit (most - 1) ts (h.0 t) in
      let low = a.shallow in
      record { grammar = a.grammar; shallow = omega arith; spelled = (some_token opening tt, a.spelled) },
  λ f. let low = f.shallow in h.1 (fit_all (most - 1) ts f.grammar (omega arith) f.spelled.1),
)

-- ---- parts

pub part_valid : (p : PartTree) (r : Bool) → IsSymbol (keyword p.keyword) → IsTrue r ↔ AllByRecursion (Fits 31) (listed p.parameters) → IsTrue r ↔ IsValidPart p
part_valid p r real h = (
  λ t.
      let a = all_fit 31 p.parameters (h.0 t) in
      let low = a.shallow in
      record { grammar = a.grammar; shallow = omega arith; spelled = (real, (some_token opening tt, a.spelled)) },
  λ v. let low = v.shallow in h.1 (fit_all 31 p.parameters v.grammar (omega arith) v.spelled.1.1),
)

parts_real : (ps : List PartTree) (rest : List Symbol) → AllByRecursion IsValidPart ps → Real rest → Real (spell_all spell_part ps rest)
parts_real [] rest h k = k
parts_real (p ∷ ps) rest h k =
    let more = spell_all spell_part ps rest in
    let v = h.0 in
    joined (spell_part p []) more (spell_part p more) (longer_part p [] more) v.spelled (parts_real ps rest h.1 k)

real_parts : (ps : List PartTree) (rest : List Symbol) → AllByRecursion IsPart ps → greatest part_nesting ps ≤ 32 → Real (spell_all spell_part ps rest) → AllByRecursion IsValidPart ps
real_parts [] rest g n h = tt
real_parts (p ∷ ps) rest g n h =
    let more = spell_all spell_part ps rest in (
      record { grammar = g.0; shallow = omega arith; spelled = front_of (spell_part p []) more (spell_part p more) (longer_part p [] more) h },
      real_parts ps rest g.1 (omega arith) (back_of (spell_part p []) more (spell_part p more) (longer_part p [] more) h),
    )

parts_grammar : (ps : List PartTree) → AllByRecursion IsValidPart ps → AllByRecursion IsPart ps
parts_grammar [] h = tt
parts_grammar (p ∷ ps) h = let v = h.0 in (v.grammar, parts_grammar ps h.1)

parts_shallow : (ps : List PartTree) → AllByRecursion IsValidPart ps → greatest part_nesting ps ≤ 32
parts_shallow [] h = omega arith
parts_shallow (p ∷ ps) h =
    let v = h.0 in
    let low = v.shallow in
    let others = parts_shallow ps h.1 in
    omega arith

-- ---- instances

body_real : (complex : Bool) (ps : List PartTree) → AllByRecursion IsValidPart ps → Real (spell_parts complex ps (semicolon ∷ []))
body_real false ps h = parts_real ps (semicolon ∷ []) h (some_token semicolon tt, tt)
body_real true ps h = (some_token opening tt, parts_real ps (closing ∷ semicolon ∷ []) h (some_token closing tt, (some_token semicolon tt, tt)))

real_body : (complex : Bool) (ps : List PartTree) → AllByRecursion IsPart ps → greatest part_nesting ps ≤ 32 → Real (spell_parts complex ps (semicolon ∷ [])) → AllByRecursion IsValidPart ps
real_body false ps g n h = real_parts ps (semicolon ∷ []) g n h
real_body true ps g n h = real_parts ps (closing ∷ semicolon ∷ []) g n h.1

pub instance_valid : (i : InstanceTree) (r : Bool) → IsSymbol (name i.number) → HasParts i.complex i.parts → IsTrue r ↔ AllByRecursion IsValidPart i.parts → IsTrue r ↔ IsValid i
instance_valid i r real parts h = (
  λ t.
      let ps = h.0 t in
      record {
        grammar = (parts, parts_grammar i.parts ps);
        shallow = parts_shallow i.parts ps;
        spelled = (real, (some_token equals tt, body_real i.complex i.parts ps));
      },
  λ v. h.1 (real_body i.complex i.parts v.grammar.1 v.shallow v.spelled.1.1),
)

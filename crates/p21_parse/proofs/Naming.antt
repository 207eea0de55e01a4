-- The names of instances, one token after the other.
use Rattle.std.proofs.Common.{◌≡◌, ℕ, zero, suc, ◌+◌, ◌<◌, ◌≤◌, nat_eq, Bool, true, false, List, [], ◌∷◌, ◌++◌, length, take, drop, refl, sym, ap, subst, ◌∙◌, arith, append_assoc, length-append, get_or, add-one, drop-cons, Option, Some, None, IfSome, ◌⊎◌, inl, inr}
use Rattle.std.specs.Option.{IfNone}
use Rattle.std.specs.List.{IsDistinct}
use Rattle.std.proofs.lemmas.Bool.{cases_lt}
use Rattle.p21_lex.specs.declared.token.TokenKind.TheVariants.{Int}
use Rattle.std.proofs.lemmas.List.{take-append-drop, drop-map, take_all, take-append-le, append-nil, take_more, length-take}
use Rattle.std.proofs.Math.Seq.{take-append_seam, get_or-append_seam}
use Rattle.std.proofs.Math.ListN.{get_or-append}
use Rattle.p21_parse.specs.declared.parser.Parser.{Parser}
use Rattle.p21_parse.specs.declared.names.NameFault.TheVariants.{TooMany, Duplicate}
use Rattle.p21_parse.specs.Symbol.{Symbol, value, name, keyword, dashed, opening, closing, comma, semicolon, equals, symbol_of, symbols}
use Rattle.p21_parse.specs.Numbers.{is_semicolon, numbers_in, is_behind}
use Rattle.p21_parse.specs.Refused.{file_numbers}
use Rattle.p21_parse.specs.Parser.{from, Has, IsNotHead, HasNoName}
use Rattle.p21_parse.specs.Names.{before, IsOwn, HasNoOwn, AreFine, NamesAre, AreNumbers, AreOwn, IsFirstRepeat}
use Rattle.p21_parse.proofs.Moves.{left}
use Rattle.p21_parse.proofs.Owned.{numbers_append}

behind_last : (b : Bool) (ss : List Symbol) (m : Symbol) → is_behind b (ss ++ m ∷ []) ≡ is_semicolon m
behind_last b [] m = refl
behind_last b (s ∷ ss) m = behind_last (is_semicolon s) ss m

module _ (s : Parser) where
  -- what stands before a token, and from it on
  pub parted : (at : ℕ) → before s at ++ from s at ≡ from s 0
  parted at = ap (λ (ss : List Symbol). before s at ++ ss) (sym (drop-map (symbol_of s.bytes.now) at s.tokens.now)) ∙ take-append-drop at (from s 0)

  pub before_len : (at : ℕ) → at ≤ length s.tokens.now → length (before s at) ≡ at
  before_len at le = let all = left s 0 in length-take-le at (from s 0) (omega arith)
    where
      length-take-le : (n : ℕ) (ss : List Symbol) → n ≤ length ss → length (take n ss) ≡ n
      length-take-le zero ss le = refl
      length-take-le (suc n) [] le = absurd (omega arith)
      length-take-le (suc n) (x ∷ ss) le = ap suc (length-take-le n ss (omega arith))

  -- one symbol more
  pub one_more : (at : ℕ) (m : Symbol) → Has s at m → before s (at + 1) ≡ before s at ++ m ∷ []
  one_more at m has =
      let whole : from s 0 ≡ (before s at ++ m ∷ []) ++ from s (at + 1) = sym (parted at) ∙ ap (λ (ss : List Symbol). before s at ++ ss) has.first ∙ sym (append_assoc (before s at) (m ∷ []) (from s (at + 1))) in
      let len : length (before s at ++ m ∷ []) ≡ at + 1 = omega (arith, length-append (before s at) (m ∷ []), before_len at (omega (arith, has.within))) in
      ap (take (at + 1)) whole ∙ ap (λ (k : ℕ). take k ((before s at ++ m ∷ []) ++ from s (at + 1))) (sym len) ∙ take-append_seam (before s at ++ m ∷ []) (from s (at + 1))

  -- nothing more
  no_more : (at : ℕ) → from s at ≡ [] → before s (at + 1) ≡ before s at
  no_more at none =
      let all : from s 0 ≡ before s at = sym (parted at) ∙ ap (λ (ss : List Symbol). before s at ++ ss) none ∙ append-nil (before s at) in
      let len = ap length all in
      let short : length (from s 0) ≤ at = omega (arith, left s at, left s 0, ap length none) in
      take_all (at + 1) (from s 0) (omega arith) ∙ sym (take_all at (from s 0) short)

  pub more_numbers : (at : ℕ) (m : Symbol) → Has s at m → file_numbers (before s (at + 1)) ≡ file_numbers (before s at) ++ numbers_in (is_behind false (before s at)) (m ∷ [])
  more_numbers at m has = ap file_numbers (one_more at m has) ∙ numbers_append false (before s at) (m ∷ [])

  behind_mark : (at : ℕ) (m : Symbol) → Has s at m → is_behind false (before s (at + 1)) ≡ is_semicolon m
  behind_mark at m has = ap (is_behind false) (one_more at m has) ∙ behind_last false (before s at) m

  -- a name behind a semicolon is an instance's own
  pub owned : (at back number : ℕ) → at ≡ back + 1 → Has s back semicolon → Has s at (name number) → IsOwn s at number
  owned at back number is mark has = record {
    has = has;
    owns =
        more_numbers at (name number) has
        ∙ ap (λ (b : Bool). file_numbers (before s at) ++ numbers_in b (name number ∷ [])) (ap (λ (k : ℕ). is_behind false (before s k)) is ∙ behind_mark back semicolon mark);
  }

  quiet : (b : Bool) (m : Symbol) → ((n : ℕ) → m ≡ name n → ⊥) → numbers_in b (m ∷ []) ≡ []
  quiet true (name n) h = absurd (h n refl)
  quiet true (value kind text) h = refl
  quiet true (keyword w) h = refl
  quiet true (dashed w) h = refl
  quiet true opening h = refl
  quiet true closing h = refl
  quiet true comma h = refl
  quiet true semicolon h = refl
  quiet true equals h = refl
  quiet false m h = refl

  -- no name
  pub nameless : (at : ℕ) → HasNoName (from s at) → (at < length s.tokens.now → (m : Symbol) × Has s at m) → HasNoOwn s at
  nameless at h stands = by (from s at) refl h
    where
      other : (m : Symbol) (ss : List Symbol) (n : ℕ) → HasNoName (m ∷ ss) → m ≡ name n → ⊥
      other (name k) ss n h e = h
      other (value kind text) ss n h e = absurd cc
      other (keyword w) ss n h e = absurd cc
      other (dashed w) ss n h e = absurd cc
      other opening ss n h e = absurd cc
      other closing ss n h e = absurd cc
      other comma ss n h e = absurd cc
      other semicolon ss n h e = absurd cc
      other equals ss n h e = absurd cc

      by : (ss : List Symbol) → from s at ≡ ss → HasNoName ss → HasNoOwn s at
      by [] e h = ap file_numbers (no_more at e)
      by (m ∷ ss) e h =
          let some : at < length s.tokens.now = omega (arith, left s at, ap length e) in
          let there = stands some in
          let same : m ∷ ss ≡ there.0 ∷ from s (at + 1) = sym e ∙ there.1.first in
          more_numbers at there.0 there.1 ∙ ap (λ (ns : List ℕ). file_numbers (before s at) ++ ns) (quiet (is_behind false (before s at)) there.0 (λ n is. other m ss n h (let first : m ≡ there.0 = cc in first ∙ is)))
          ∙ append-nil (file_numbers (before s at))

  -- no semicolon before it
  pub unbehind : (at : ℕ) → (at < length s.tokens.now → is_behind false (before s at) ≡ false) → (at < length s.tokens.now → (m : Symbol) × Has s at m) → HasNoOwn s at
  unbehind at b stands = by (from s at) refl
    where
      by : (ss : List Symbol) → from s at ≡ ss → HasNoOwn s at
      by [] e = ap file_numbers (no_more at e)
      by (m ∷ ss) e =
          let some : at < length s.tokens.now = omega (arith, left s at, ap length e) in
          let there = stands some in
          more_numbers at there.0 there.1 ∙ ap (λ (c : Bool). file_numbers (before s at) ++ numbers_in c (there.0 ∷ [])) (b some) ∙ append-nil (file_numbers (before s at))

-- what a token's symbol is
pub stands : (s : Parser) (at : ℕ) → at < length s.tokens.now → (m : Symbol) × Has s at m
stands s at lt =
    let t = get_or s.tokens.now at (record { kind = Int; start = 0; end = 0 }) in
    let e : drop at s.tokens.now ≡ t ∷ drop (at + 1) s.tokens.now = rw add-one (drop-cons s.tokens.now at (record { kind = Int; start = 0; end = 0 }) lt) in
    (symbol_of s.bytes.now t, record { within = lt; first = ap (symbols s.bytes.now) e })

pub other_behind : (s : Parser) (at back : ℕ) → at ≡ back + 1 → IsNotHead semicolon (from s back) → at < length s.tokens.now → is_behind false (before s at) ≡ false
other_behind s at back is h lt =
    let there = stands s back (omega arith) in
    let other : there.0 ≡ semicolon → ⊥ = subst (IsNotHead semicolon) there.1.first h in
    ap (λ (k : ℕ). is_behind false (before s k)) is ∙ ap (is_behind false) (one_more s back there.0 there.1) ∙ behind_last false (before s back) there.0 ∙ by there.0 other
  where
    by : (m : Symbol) → (m ≡ semicolon → ⊥) → is_semicolon m ≡ false
    by semicolon other = absurd (other refl)
    by (value kind text) other = refl
    by (name n) other = refl
    by (keyword w) other = refl
    by (dashed w) other = refl
    by opening other = refl
    by closing other = refl
    by comma other = refl
    by equals other = refl

-- no instance's own name at the first token
pub first_token : (s : Parser) (at : ℕ) → at ≡ 0 → HasNoOwn s at
first_token s at is = unbehind s at (λ lt. ap (λ (k : ℕ). is_behind false (before s k)) is) (stands s at)

-- none where no semicolon stands before
pub unmarked : (s : Parser) (at back : ℕ) → at ≡ back + 1 → IsNotHead semicolon (from s back) → HasNoOwn s at
unmarked s at back is h = unbehind s at (λ lt. other_behind s at back is h lt) (stands s at)

pub own_found : (s : Parser) (at back : ℕ) (o : Option ℕ) → at ≡ back + 1 → Has s back semicolon → IfSome o (λ n. Has s at (name n)) → IfSome o (IsOwn s at)
own_found s at back None is mark h = tt
own_found s at back (Some n) is mark h = owned s at back n is mark h

pub own_none : (s : Parser) (at : ℕ) (o : Option ℕ) → IfNone o (HasNoName (from s at)) → IfNone o (HasNoOwn s at)
own_none s at None h = nameless s at h (stands s at)
own_none s at (Some n) h = tt

-- ---- the numbers so far

pub nothing_yet : (s : Parser) (numbers : List ℕ) → numbers ≡ [] → AreNumbers s 0 numbers
nothing_yet s numbers is = record { numbers_are = is; few = omega (arith, ap length is) }

pub passed : (s : Parser) (at : ℕ) (numbers : List ℕ) → AreNumbers s at numbers → HasNoOwn s at → AreNumbers s (at + 1) numbers
passed s at numbers l none = record { numbers_are = l.numbers_are ∙ sym none; few = l.few }

-- one name more
pub pushed : (s : Parser) (at number : ℕ) (numbers new : List ℕ) → AreNumbers s at numbers → IsOwn s at number → length numbers < 200000 → new ≡ numbers ++ number ∷ [] → AreNumbers s (at + 1) new
pushed s at number numbers new l own lt is = record {
  numbers_are = is ∙ ap (λ (ns : List ℕ). ns ++ number ∷ []) l.numbers_are ∙ sym own.owns;
  few = omega (arith, ap length is, length-append numbers (number ∷ []));
}

pub one_too_many : (s : Parser) (end at number : ℕ) (numbers : List ℕ) → at < end → AreNumbers s at numbers → IsOwn s at number → 200000 ≤ length numbers → AreOwn s end numbers (Some at)
one_too_many s end at number numbers lt l own many = (lt, l, many, number, own)

pub at_end : (s : Parser) (end at : ℕ) (numbers : List ℕ) → at ≡ end → AreNumbers s at numbers → AreOwn s end numbers None
at_end s end at numbers is l = subst (λ (k : ℕ). AreNumbers s k numbers) is l

-- ---- where the name of a number stands

-- before a token the name of the number at an index
pub record NameOf (s : Parser) (end : ℕ) (numbers : List ℕ) (i : ℕ) : Type 0 where
  pub at : ℕ
  pub early : at < end
  pub owned_there : IsOwn s at (get_or numbers i 0)
  pub before_it : file_numbers (before s at) ≡ take i numbers

last_name : (s : Parser) (at n : ℕ) (m : Symbol) (b : Bool) (numbers : List ℕ) (i : ℕ) → is_behind false (before s at) ≡ b → Has s at m → numbers ≡ file_numbers (before s at) ++ numbers_in b (m ∷ [])
    → i < length numbers → (i < length (file_numbers (before s at)) → NameOf s at (file_numbers (before s at)) i) → n ≡ suc at → NameOf s n numbers i
last_name s at n m b numbers i behind has are lt earlier is = by b m behind has are
  where
    front : List ℕ
    front = file_numbers (before s at)

    kept : (more : List ℕ) → numbers ≡ front ++ more → i < length front → NameOf s n numbers i
    kept more same inside =
        let e = earlier inside in
        let value : get_or front i 0 ≡ get_or numbers i 0 = sym (ap (λ (ns : List ℕ). get_or ns i 0) same ∙ get_or-append front more 0 i inside) in
        let taken : take i front ≡ take i numbers = sym (ap (take i) same ∙ take-append-le i front more (omega (arith, inside))) in
        record { at = e.at; early = omega (arith, e.early, is); owned_there = subst (λ (k : ℕ). IsOwn s e.at k) value e.owned_there; before_it = e.before_it ∙ taken }

    none : (more : List ℕ) → more ≡ [] → numbers ≡ front ++ more → NameOf s n numbers i
    none more empty same = kept more same (omega (arith, lt, ap length same, ap length empty, length-append front more))

    new : (number : ℕ) → b ≡ true → Has s at (name number) → numbers ≡ front ++ number ∷ [] → NameOf s n numbers i
    new number own there same = at_last number own there same (cases_lt i (length front))
      where
        at_last : (number : ℕ) → b ≡ true → Has s at (name number) → numbers ≡ front ++ number ∷ [] → (i < length front) ⊎ (length front ≤ i) → NameOf s n numbers i
        at_last number own there same (inl inside) = kept (number ∷ []) same inside
        at_last number own there same (inr past) =
            let place : i ≡ length front = omega (arith, lt, past, ap length same, length-append front (number ∷ [])) in
            let value : number ≡ get_or numbers i 0 = sym (ap (λ (ns : List ℕ). get_or ns i 0) same ∙ ap (λ (k : ℕ). get_or (front ++ number ∷ []) k 0) place ∙ get_or-append_seam front number [] 0) in
            let taken : front ≡ take i numbers = sym (ap (take i) same ∙ ap (λ (k : ℕ). take k (front ++ number ∷ [])) place ∙ take-append_seam front (number ∷ [])) in
            let owns : file_numbers (before s (at + 1)) ≡ front ++ number ∷ [] = more_numbers s at (name number) there ∙ ap (λ (c : Bool). front ++ numbers_in c (name number ∷ [])) (behind ∙ own) in
            let owned_here : IsOwn s at number = record { has = there; owns = owns } in
            record { at = at; early = omega (arith, is); owned_there = subst (λ (k : ℕ). IsOwn s at k) value owned_here; before_it = taken }

    by : (c : Bool) (m : Symbol) → is_behind false (before s at) ≡ c → Has s at m → numbers ≡ front ++ numbers_in c (m ∷ []) → NameOf s n numbers i
    by true (name number) e there same = new number (sym behind ∙ e) there same
    by true (value kind text) e there same = none [] refl same
    by true (keyword w) e there same = none [] refl same
    by true (dashed w) e there same = none [] refl same
    by true opening e there same = none [] refl same
    by true closing e there same = none [] refl same
    by true comma e there same = none [] refl same
    by true semicolon e there same = none [] refl same
    by true equals e there same = none [] refl same
    by false m e there same = none (numbers_in false (m ∷ [])) refl same

pub name_of : (s : Parser) (end : ℕ) (numbers : List ℕ) (i : ℕ) → end ≤ length s.tokens.now → numbers ≡ file_numbers (before s end) → i < length numbers → NameOf s end numbers i
name_of s zero numbers i le are lt = absurd (omega (arith, lt, ap length are))
name_of s (suc at) numbers i le are lt =
    let there = stands s at (omega arith) in
    let b = is_behind false (before s at) in
    let more : numbers ≡ file_numbers (before s at) ++ numbers_in b (there.0 ∷ []) = are ∙ ap (λ (k : ℕ). file_numbers (before s k)) (sym (add-one at)) ∙ more_numbers s at there.0 there.1 in
    last_name s at (suc at) there.0 b numbers i refl there.1 more lt (λ inside. name_of s at (file_numbers (before s at)) i (omega arith) refl inside) refl

-- ---- the first fault

pub fine : (s : Parser) (at : ℕ) (numbers : List ℕ) → AreNumbers s at numbers → IsDistinct nat_eq numbers → AreFine (before s at)
fine s at numbers l distinct = record { few = omega (arith, l.few, ap length l.numbers_are); distinct = subst (λ (ns : List ℕ). IsDistinct nat_eq ns) l.numbers_are distinct }

pub too_many : (s : Parser) (end : ℕ) (numbers : List ℕ) (at : ℕ) → AreOwn s end numbers (Some at) → IsDistinct nat_eq numbers → NamesAre s end (Some (TooMany at))
too_many s end numbers at (lt, l, many, number, own) distinct = (
  number,
  record {
    early = lt;
    has = own.has;
    fine = fine s at numbers l distinct;
    fault = omega (arith, many, ap length own.owns, length-append (file_numbers (before s at)) (number ∷ []), ap length l.numbers_are);
  },
)

-- a number that stands in the list a second time
twice_at : (s : Parser) (end last : ℕ) (numbers : List ℕ) (i : ℕ) → last ≤ end → last ≤ length s.tokens.now → AreNumbers s last numbers → i < length numbers → IsDistinct nat_eq (take i numbers)
    → (IsDistinct nat_eq (take (i + 1) numbers) → ⊥) → NamesAre s end (Some (Duplicate (get_or numbers i 0)))
twice_at s end last numbers i le inside l lt distinct again =
    let there = name_of s last numbers i inside l.numbers_are lt in
    let more : file_numbers (before s (there.at + 1)) ≡ take (i + 1) numbers = there.owned_there.owns ∙ ap (λ (ns : List ℕ). ns ++ get_or numbers i 0 ∷ []) there.before_it ∙ sym (take_more numbers i 0 lt) in
    let few : length (take (i + 1) numbers) ≤ 200000 = omega (arith, l.few, length-take (i + 1) numbers) in
    let few_before : length (take i numbers) ≤ 200000 = omega (arith, l.few, length-take i numbers) in (
      there.at,
      record {
        early = omega (arith, there.early, le);
        has = there.owned_there.has;
        fine = record { few = omega (arith, few_before, ap length there.before_it); distinct = subst (λ (ns : List ℕ). IsDistinct nat_eq ns) (sym there.before_it) distinct };
        fault = (omega (arith, few, ap length more), λ d. again (subst (λ (ns : List ℕ). IsDistinct nat_eq ns) more d));
      },
    )

pub twice : (s : Parser) (end : ℕ) (numbers : List ℕ) (stop : Option ℕ) (i : ℕ) → end ≤ length s.tokens.now → AreOwn s end numbers stop → IsFirstRepeat numbers (Some i) → NamesAre s end (Some (Duplicate (get_or numbers i 0)))
twice s end numbers None i le own r = twice_at s end end numbers i (omega arith) le own r.0 r.1 r.2
twice s end numbers (Some at) i le own r = twice_at s end at numbers i (omega (arith, own.0)) (omega (arith, own.0, le)) own.1 r.0 r.1 r.2

pub none_twice : (s : Parser) (end : ℕ) (numbers : List ℕ) → AreOwn s end numbers None → IsDistinct nat_eq numbers → NamesAre s end None
none_twice s end numbers own distinct = fine s end numbers own distinct

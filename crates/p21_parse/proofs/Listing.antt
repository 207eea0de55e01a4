-- Reading parameters one after the other, as a loop does.
use Rattle.std.proofs.Common.{◌≡◌, ℕ, pred, ◌+◌, ◌<◌, ◌≤◌, List, [], ◌∷◌, ◌++◌, length, Result, Ok, Err, IfOk, IfErr, refl, sym, ap, subst, ◌∙◌, add-one, arith}
use Rattle.p21_parse.specs.declared.param.ParamList.{ParamList}
use Rattle.p21_parse.specs.declared.parser.Parser.{Parser}
use Rattle.p21_parse.specs.declared.parser.Stop.{Stop}
use Rattle.p21_parse.specs.declared.parser.Stop.TheVariants.{Syntax}
use Rattle.p21_parse.specs.Tree.{Tree, list, typed, Trees, none, first, trees, count, with_last}
use Rattle.p21_parse.specs.Symbol.{Symbol, value, name, keyword, dashed, opening, closing, comma, semicolon, equals}
use Rattle.p21_parse.specs.Spell.{spell, spell_list, spell_more, spell_all}
use Rattle.p21_parse.specs.Grammar.{IsParameter, AreParameters}
use Rattle.p21_parse.specs.Nesting.{nesting, nestings}
use Rattle.p21_parse.specs.View.{trees_of}
use Rattle.p21_parse.specs.Machine.{Item, fixed, parameter, parameter_list, more_parameters, run}
use Rattle.p21_parse.specs.Parser.{from, Has, IsRead, IsRefused, IsNotHead, HasNoKeyword, HasNoValue}
use Rattle.p21_parse.proofs.ListLemmas.{trees-push}
use Rattle.p21_parse.proofs.Moves.{Sticks, step, both, took, first_refused, second_refused, opened, opened_refused, stopped, instead, instead_refused}

abbrev pub behind_comma : Tree → List Symbol → List Symbol
behind_comma t rest = comma ∷ spell t rest

-- the symbols of further parameters, and then those that follow
abbrev pub further : List Tree → List Symbol → List Symbol
further ts rest = spell_all behind_comma ts rest

pub further_more : (ts : List Tree) (t : Tree) (rest : List Symbol) → further (ts ++ t ∷ []) rest ≡ further ts (comma ∷ spell t rest)
further_more [] t rest = refl
further_more (u ∷ ts) t rest = ap (behind_comma u) (further_more ts t rest)

pub further_closed : (ts : List Tree) (rest : List Symbol) → further ts (closing ∷ rest) ≡ spell_more (trees ts) rest
further_closed [] rest = refl
further_closed (t ∷ ts) rest = ap (behind_comma t) (further_closed ts rest)

-- the first parameters were read, and these stand behind them
pub record Listed (s : Parser) (n at rest : ℕ) (params : Trees) : Type 0 where
  pub start : Tree
  pub others : List Tree
  pub are_these : params ≡ first start (trees others)
  pub onward : at < rest
  pub inside : rest ≤ length s.tokens.now
  pub spells : from s at ≡ spell start (further others (from s rest))
  pub goes : (stack : List Item) → run 32 n (parameter ∷ more_parameters ∷ stack) (from s at) ≡ run 32 n (more_parameters ∷ stack) (from s rest)
  pub are : AreParameters params
  pub nests : n + nestings params ≤ 32

pub are_more : (ts : Trees) (t : Tree) → AreParameters ts → IsParameter t → AreParameters (with_last ts t)
are_more none t are is = (is, tt)
are_more (first u ts) t are is = (are.0, are_more ts t are.1 is)

pub nests_more : (n : ℕ) (ts : Trees) (t : Tree) → n + nestings ts ≤ 32 → n + nesting t ≤ 32 → n + nestings (with_last ts t) ≤ 32
nests_more n none t le le2 = omega arith
nests_more n (first u ts) t le le2 = let rest = nests_more n ts t (omega arith) le2 in omega arith

module _ (s : Parser) (n at : ℕ) where
  pub begun : (rest : ℕ) (t : Tree) (params : Trees) → params ≡ first t none → IsRead s n n (parameter ∷ []) at rest (spell t) → IsParameter t × (n + nesting t ≤ 32) → Listed s n at rest params
  begun rest t params one read is = record {
    start = t;
    others = [];
    are_these = one;
    onward = read.onward;
    inside = read.inside;
    spells = read.spells;
    goes = λ stack. read.goes (more_parameters ∷ stack);
    are = rw one (is.0, tt);
    nests = rw one (omega (arith, is.1));
  }

  pub one_more : (rest after : ℕ) (t : Tree) (params new : Trees) → n ≤ 32 → new ≡ with_last params t → Listed s n at rest params → Has s rest comma → IsRead s n n (parameter ∷ []) (rest + 1) after (spell t) → IsParameter t × (n + nesting t ≤ 32)
      → Listed s n at after new
  one_more rest after t params new le pushed l has read is = record {
    start = l.start;
    others = l.others ++ t ∷ [];
    are_these = pushed ∙ ap (λ (ps : Trees). with_last ps t) l.are_these ∙ ap (first l.start) (sym (trees-push l.others t));
    onward = omega (arith, l.onward, read.onward);
    inside = read.inside;
    spells = l.spells ∙ ap (λ (ss : List Symbol). spell l.start (further l.others ss)) (has.first ∙ ap (λ (ss : List Symbol). comma ∷ ss) read.spells) ∙ ap (spell l.start) (sym (further_more l.others t (from s after)));
    goes = λ stack. l.goes stack ∙ step s more_parameters n n rest comma (parameter ∷ more_parameters ∷ []) has refl refl le stack ∙ read.goes (more_parameters ∷ stack);
    are = rw pushed (are_more params t l.are is.0);
    nests = rw pushed (nests_more n params t l.nests is.1);
  }

  -- a further parameter is refused
  pub one_refused : (rest : ℕ) (params : Trees) (e : Stop) → n ≤ 32 → Listed s n at rest params → Has s rest comma → IsRefused s n (parameter ∷ []) (rest + 1) e → IsRefused s n (parameter ∷ more_parameters ∷ []) at e
  one_refused rest params e le l has refused =
      λ stack. rw (l.goes stack, step s more_parameters n n rest comma (parameter ∷ more_parameters ∷ []) has refl refl le stack) (refused (more_parameters ∷ stack))

  no_more : (ss : List Symbol) → IsNotHead comma ss → IsNotHead closing ss → Sticks more_parameters ss
  no_more [] a b = tt
  no_more (comma ∷ ss) a b = absurd (a refl)
  no_more (closing ∷ ss) a b = absurd (b refl)
  no_more (s ∷ ss) a b = refl

  -- neither a comma nor the closing parenthesis stands behind a parameter
  pub unclosed : (rest : ℕ) (params : Trees) → Listed s n at rest params → IsNotHead comma (from s rest) → IsNotHead closing (from s rest) → IsRefused s n (parameter ∷ more_parameters ∷ []) at (Syntax rest)
  unclosed rest params l a b = λ stack. rw (l.goes stack) (stopped s more_parameters n rest l.inside (no_more (from s rest) a b) stack)

  pub closed : (rest : ℕ) (params : Trees) → n ≤ 32 → Listed s n at rest params → Has s rest closing → IsRead s n (pred n) (parameter ∷ more_parameters ∷ []) at (rest + 1) (spell_list params)
  closed rest params le l has = record {
    onward = omega (arith, l.onward);
    inside = omega (arith, has.within);
    spells = l.spells ∙ ap (λ (ss : List Symbol). spell l.start (further l.others ss)) has.first ∙ ap (spell l.start) (further_closed l.others (from s (rest + 1))) ∙ ap (λ (ps : Trees). spell_list ps (from s (rest + 1))) (sym l.are_these);
    goes = λ stack. l.goes stack ∙ step s more_parameters n (pred n) rest closing [] has refl refl (omega (arith)) stack;
  }

  pub some : (rest : ℕ) (params : Trees) → Listed s n at rest params → 0 < count params
  some rest params l = rw l.are_these (omega arith)

-- ---- one parameter

no_parameter : (ss : List Symbol) → HasNoKeyword ss → IsNotHead opening ss → HasNoValue ss → Sticks parameter ss
no_parameter [] w o v = tt
no_parameter (value kind text ∷ ss) w o v = absurd v
no_parameter (name n ∷ ss) w o v = absurd v
no_parameter (keyword text ∷ ss) w o v = absurd w
no_parameter (opening ∷ ss) w o v = absurd (o refl)
no_parameter (dashed text ∷ ss) w o v = refl
no_parameter (closing ∷ ss) w o v = refl
no_parameter (comma ∷ ss) w o v = refl
no_parameter (semicolon ∷ ss) w o v = refl
no_parameter (equals ∷ ss) w o v = refl

pub refused_here : (s : Parser) (n at : ℕ) → at ≤ length s.tokens.now → HasNoKeyword (from s at) → IsNotHead opening (from s at) → HasNoValue (from s at) → IsRefused s n (parameter ∷ []) at (Syntax at)
refused_here s n at le w o v = stopped s parameter n at le (no_parameter (from s at) w o v)

pred_one : (n : ℕ) → pred (n + 1) ≡ n
pred_one n = ap pred (add-one n)

pub list_read : (s : Parser) (n at next : ℕ) (t : Tree) (ts : Trees) → t ≡ list ts → n < 32 → Has s at opening → IsRead s (n + 1) (pred (n + 1)) (parameter_list ∷ []) (at + 1) next (spell_list ts) → IsRead s n n (parameter ∷ []) at next (spell t)
list_read s n at next t ts is lt has read =
    let inner : IsRead s (n + 1) n (parameter_list ∷ []) (at + 1) next (spell_list ts) = subst (λ (k : ℕ). IsRead s (n + 1) k (parameter_list ∷ []) (at + 1) next (spell_list ts)) (pred_one n) read in
    subst (λ (u : Tree). IsRead s n n (parameter ∷ []) at next (spell u)) (sym is) (opened s parameter n (n + 1) n at next opening (parameter_list ∷ []) (spell_list ts) has refl (sym (add-one n)) (omega arith) inner)

pub list_refused : (s : Parser) (n at : ℕ) (e : Stop) → n < 32 → Has s at opening → IsRefused s (n + 1) (parameter_list ∷ []) (at + 1) e → IsRefused s n (parameter ∷ []) at e
list_refused s n at e lt has refused = opened_refused s parameter n (n + 1) at opening (parameter_list ∷ []) e has refl (sym (add-one n)) (omega arith) refused

pub list_is : (n : ℕ) (t : Tree) (ts : Trees) → t ≡ list ts → AreParameters ts × (n + 1 + nestings ts ≤ 32) → IsParameter t × (n + nesting t ≤ 32)
list_is n t ts is are = subst (λ (u : Tree). IsParameter u × (n + nesting u ≤ 32)) (sym is) (are.0, omega (arith, are.1))

-- the keyword and the opening parenthesis of a typed parameter
entered : (s : Parser) (n at : ℕ) (w : List ℕ) → n < 32 → Has s (at + 1) opening → IsRead s n (n + 1) (fixed opening ∷ []) (at + 1) (at + 1 + 1) (λ r. opening ∷ r)
entered s n at w lt has = took s (fixed opening) n (n + 1) (at + 1) opening has refl (sym (add-one n)) (omega arith)

pub typed_read : (s : Parser) (n at after next : ℕ) (w : List ℕ) (t u : Tree) → u ≡ typed w (first t none) → n < 32 → Has s at (keyword w) → Has s (at + 1) opening → IsRead s (n + 1) (n + 1) (parameter ∷ []) (at + 1 + 1) after (spell t)
    → Has s after closing → next ≡ after + 1 → IsRead s n n (parameter ∷ []) at next (spell u)
typed_read s n at after next w t u is lt has has_open read has_close last =
    let close : IsRead s (n + 1) n (fixed closing ∷ []) after (after + 1) (λ r. closing ∷ r) = took s (fixed closing) (n + 1) n after closing has_close refl (pred_one n) (omega arith) in
    let inner = both s (n + 1) (n + 1) n (at + 1 + 1) after (after + 1) (parameter ∷ []) (fixed closing ∷ []) (spell t) (λ r. closing ∷ r) read close in
    let whole = both s n (n + 1) n (at + 1) (at + 1 + 1) (after + 1) (fixed opening ∷ []) (parameter ∷ fixed closing ∷ []) (λ r. opening ∷ r) (λ r. spell t (closing ∷ r)) (entered s n at w lt has_open) inner in
    let made = opened s parameter n n n at (after + 1) (keyword w) (fixed opening ∷ parameter ∷ fixed closing ∷ []) (λ r. opening ∷ spell t (closing ∷ r)) has refl refl (omega arith) whole in
    subst (λ (k : ℕ). IsRead s n n (parameter ∷ []) at k (spell u)) (sym last) (subst (λ (v : Tree). IsRead s n n (parameter ∷ []) at (after + 1) (spell v)) (sym is) made)

pub typed_is : (n : ℕ) (w : List ℕ) (t u : Tree) → u ≡ typed w (first t none) → IsParameter t × (n + 1 + nesting t ≤ 32) → IsParameter u × (n + nesting u ≤ 32)
typed_is n w t u is ok = subst (λ (v : Tree). IsParameter v × (n + nesting v ≤ 32)) (sym is) ((refl, (ok.0, tt)), omega (arith, ok.1))

-- no parenthesis behind the keyword
pub typed_shut : (s : Parser) (n at : ℕ) (w : List ℕ) (e : Stop) → n ≤ 32 → Has s at (keyword w) → IsRefused s n (fixed opening ∷ []) (at + 1) e → IsRefused s n (parameter ∷ []) at e
typed_shut s n at w e le has refused =
    opened_refused s parameter n n at (keyword w) (fixed opening ∷ parameter ∷ fixed closing ∷ []) e has refl refl le (first_refused s n (at + 1) (fixed opening ∷ []) (parameter ∷ fixed closing ∷ []) e refused)

-- no parameter behind it
pub typed_empty : (s : Parser) (n at : ℕ) (w : List ℕ) (e : Stop) → n < 32 → Has s at (keyword w) → Has s (at + 1) opening → IsRefused s (n + 1) (parameter ∷ []) (at + 1 + 1) e → IsRefused s n (parameter ∷ []) at e
typed_empty s n at w e lt has has_open refused =
    opened_refused s parameter n n at (keyword w) (fixed opening ∷ parameter ∷ fixed closing ∷ []) e has refl refl (omega arith)
    (second_refused s n (n + 1) (at + 1) (at + 1 + 1) (fixed opening ∷ []) (parameter ∷ fixed closing ∷ []) (λ r. opening ∷ r) e (entered s n at w lt has_open)
    (first_refused s (n + 1) (at + 1 + 1) (parameter ∷ []) (fixed closing ∷ []) e refused))

-- more than one parameter
pub typed_open : (s : Parser) (n at after : ℕ) (w : List ℕ) (t : Tree) (e : Stop) → n < 32 → Has s at (keyword w) → Has s (at + 1) opening → IsRead s (n + 1) (n + 1) (parameter ∷ []) (at + 1 + 1) after (spell t)
    → IsRefused s (n + 1) (fixed closing ∷ []) after e → IsRefused s n (parameter ∷ []) at e
typed_open s n at after w t e lt has has_open read refused =
    opened_refused s parameter n n at (keyword w) (fixed opening ∷ parameter ∷ fixed closing ∷ []) e has refl refl (omega arith)
    (second_refused s n (n + 1) (at + 1) (at + 1 + 1) (fixed opening ∷ []) (parameter ∷ fixed closing ∷ []) (λ r. opening ∷ r) e (entered s n at w lt has_open)
    (second_refused s (n + 1) (n + 1) (at + 1 + 1) after (parameter ∷ []) (fixed closing ∷ []) (spell t) e read refused))

-- a list that ends at once
pub nothing : (s : Parser) (n at : ℕ) (ts : Trees) → ts ≡ none → n ≤ 32 → Has s at closing → IsRead s n (pred n) (parameter_list ∷ []) at (at + 1) (spell_list ts)
nothing s n at ts is le has = subst (λ (us : Trees). IsRead s n (pred n) (parameter_list ∷ []) at (at + 1) (spell_list us)) (sym is) (took s parameter_list n (pred n) at closing has refl refl (omega arith))

begun_same : (x : Symbol) (stack : List Item) (n : ℕ) (rest : List Symbol) → (x ≡ closing → ⊥) → run 32 n (parameter_list ∷ stack) (x ∷ rest) ≡ run 32 n (parameter ∷ more_parameters ∷ stack) (x ∷ rest)
begun_same (value kind text) stack n rest h = refl
begun_same (name m) stack n rest h = refl
begun_same (keyword text) stack n rest h = refl
begun_same (dashed text) stack n rest h = refl
begun_same opening stack n rest h = refl
begun_same closing stack n rest h = absurd (h refl)
begun_same comma stack n rest h = refl
begun_same semicolon stack n rest h = refl
begun_same equals stack n rest h = refl

-- a list that does not end at once begins with a parameter
pub some_alike : (n : ℕ) (ss : List Symbol) → IsNotHead closing ss → (stack : List Item) → run 32 n ((parameter_list ∷ []) ++ stack) ss ≡ run 32 n ((parameter ∷ more_parameters ∷ []) ++ stack) ss
some_alike n [] h stack = refl
some_alike n (x ∷ ss) h stack = begun_same x stack n ss h

pub some_list : (s : Parser) (n at : ℕ) (r : Result (ParamList × ℕ) Stop) → IsNotHead closing (from s at) → IfOk r (λ x. IsRead s n (pred n) (parameter ∷ more_parameters ∷ []) at x.1 (spell_list (trees_of x.0)))
    → IfOk r (λ x. IsRead s n (pred n) (parameter_list ∷ []) at x.1 (spell_list (trees_of x.0)))
some_list s n at (Ok x) h read = instead s n (pred n) at x.1 (parameter_list ∷ []) (parameter ∷ more_parameters ∷ []) (spell_list (trees_of x.0)) (some_alike n (from s at) h) read
some_list s n at (Err e) h read = tt

pub some_refused : (s : Parser) (n at : ℕ) (r : Result (ParamList × ℕ) Stop) → IsNotHead closing (from s at) → IfErr r (IsRefused s n (parameter ∷ more_parameters ∷ []) at) → IfErr r (IsRefused s n (parameter_list ∷ []) at)
some_refused s n at (Ok x) h refused = tt
some_refused s n at (Err e) h refused = instead_refused s n at (parameter_list ∷ []) (parameter ∷ more_parameters ∷ []) e (some_alike n (from s at) h) refused

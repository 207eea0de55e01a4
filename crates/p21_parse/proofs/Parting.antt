-- Reading parts, and instances.
use Rattle.std.proofs.Common.{◌≡◌, ℕ, pred, ◌+◌, ◌<◌, ◌≤◌, List, [], ◌∷◌, ◌++◌, length, refl, sym, ap, subst, ◌∙◌, arith, length-append}
use Rattle.std.specs.List.{AllByRecursion}
use Rattle.p21_parse.specs.declared.parser.Parser.{Parser}
use Rattle.p21_parse.specs.declared.parser.Stop.{Stop}
use Rattle.p21_parse.specs.declared.parser.Stop.TheVariants.{Syntax}
use Rattle.p21_parse.specs.Tree.{Trees, PartTree, InstanceTree}
use Rattle.p21_parse.specs.Symbol.{Symbol, value, name, keyword, dashed, opening, closing, comma, semicolon, equals}
use Rattle.p21_parse.specs.Spell.{spell_list, spell_part, spell_all, spell_instance}
use Rattle.p21_parse.specs.Grammar.{IsPart, IsInstance}
use Rattle.p21_parse.specs.Nesting.{part_nesting, instance_nesting, greatest}
use Rattle.p21_parse.specs.Machine.{Item, fixed, parameter_list, part, more_parts, behind_name, body, instances, run}
use Rattle.p21_parse.specs.Parser.{from, Has, IsRead, IsRefused, AreRead, AreRefused, IsNotHead, HasNoKeyword, spell_behind_name}
use Rattle.p21_parse.proofs.Moves.{Sticks, step, both, took, first_refused, second_refused, opened, opened_refused, stopped, instead, instead_refused, respelled}

-- ---- one part

pub arguments_read : (s : Parser) (at next : ℕ) (ts : Trees) → Has s at opening → IsRead s 1 (pred 1) (parameter_list ∷ []) (at + 1) next (spell_list ts) → IsRead s 0 0 (fixed opening ∷ parameter_list ∷ []) at next (λ r. opening ∷ spell_list ts r)
arguments_read s at next ts has read =
    both s 0 1 0 at (at + 1) next (fixed opening ∷ []) (parameter_list ∷ []) (λ r. opening ∷ r) (spell_list ts) (took s (fixed opening) 0 1 at opening has refl refl (omega arith)) read

pub arguments_shut : (s : Parser) (at : ℕ) (e : Stop) → IsRefused s 0 (fixed opening ∷ []) at e → IsRefused s 0 (fixed opening ∷ parameter_list ∷ []) at e
arguments_shut s at e refused = first_refused s 0 at (fixed opening ∷ []) (parameter_list ∷ []) e refused

pub arguments_refused : (s : Parser) (at : ℕ) (e : Stop) → Has s at opening → IsRefused s 1 (parameter_list ∷ []) (at + 1) e → IsRefused s 0 (fixed opening ∷ parameter_list ∷ []) at e
arguments_refused s at e has refused =
    second_refused s 0 1 at (at + 1) (fixed opening ∷ []) (parameter_list ∷ []) (λ r. opening ∷ r) e (took s (fixed opening) 0 1 at opening has refl refl (omega arith)) refused

no_part : (ss : List Symbol) → HasNoKeyword ss → Sticks part ss
no_part [] w = tt
no_part (keyword text ∷ ss) w = absurd w
no_part (value kind text ∷ ss) w = refl
no_part (name n ∷ ss) w = refl
no_part (opening ∷ ss) w = refl
no_part (dashed text ∷ ss) w = refl
no_part (closing ∷ ss) w = refl
no_part (comma ∷ ss) w = refl
no_part (semicolon ∷ ss) w = refl
no_part (equals ∷ ss) w = refl

pub no_keyword : (s : Parser) (at : ℕ) → at ≤ length s.tokens.now → HasNoKeyword (from s at) → IsRefused s 0 (part ∷ []) at (Syntax at)
no_keyword s at le w = stopped s part 0 at le (no_part (from s at) w)

pub part_read : (s : Parser) (at next : ℕ) (p : PartTree) → Has s at (keyword p.keyword) → IsRead s 0 0 (fixed opening ∷ parameter_list ∷ []) (at + 1) next (λ r. opening ∷ spell_list p.parameters r) → IsRead s 0 0 (part ∷ []) at next (spell_part p)
part_read s at next p has read = opened s part 0 0 0 at next (keyword p.keyword) (fixed opening ∷ parameter_list ∷ []) (λ r. opening ∷ spell_list p.parameters r) has refl refl (omega arith) read

pub part_refused : (s : Parser) (at : ℕ) (w : List ℕ) (e : Stop) → Has s at (keyword w) → IsRefused s 0 (fixed opening ∷ parameter_list ∷ []) (at + 1) e → IsRefused s 0 (part ∷ []) at e
part_refused s at w e has refused = opened_refused s part 0 0 at (keyword w) (fixed opening ∷ parameter_list ∷ []) e has refl refl (omega arith) refused

-- ---- parts one after the other

-- the first parts were read
pub record Parted (s : Parser) (at rest : ℕ) (ps : List PartTree) : Type 0 where
  pub some : 0 < length ps
  pub onward : at < rest
  pub inside : rest ≤ length s.tokens.now
  pub spells : from s at ≡ spell_all spell_part ps (from s rest)
  pub goes : (stack : List Item) → run 32 0 (part ∷ more_parts ∷ stack) (from s at) ≡ run 32 0 (more_parts ∷ stack) (from s rest)
  pub are : AllByRecursion IsPart ps
  pub nests : greatest part_nesting ps ≤ 32

pub all_more : {X : Type 0} (each : X → List Symbol → List Symbol) (xs : List X) (x : X) (rest : List Symbol) → spell_all each (xs ++ x ∷ []) rest ≡ spell_all each xs (each x rest)
all_more each [] x rest = refl
all_more each (y ∷ xs) x rest = ap (each y) (all_more each xs x rest)

pub are_all : {X : Type 0} (P : X → Type 0) (xs : List X) (x : X) → AllByRecursion P xs → P x → AllByRecursion P (xs ++ x ∷ [])
are_all P [] x are is = (is, tt)
are_all P (y ∷ xs) x are is = (are.0, are_all P xs x are.1 is)

pub greatest_more : {X : Type 0} (f : X → ℕ) (xs : List X) (x : X) → greatest f xs ≤ 32 → f x ≤ 32 → greatest f (xs ++ x ∷ []) ≤ 32
greatest_more f [] x le le2 = omega arith
greatest_more f (y ∷ xs) x le le2 = let rest = greatest_more f xs x (omega arith) le2 in omega arith

more_alike : (ss : List Symbol) → IsNotHead closing ss → (stack : List Item) → run 32 0 (more_parts ∷ stack) ss ≡ run 32 0 (part ∷ more_parts ∷ stack) ss
more_alike [] h stack = refl
more_alike (value kind text ∷ ss) h stack = refl
more_alike (name n ∷ ss) h stack = refl
more_alike (keyword text ∷ ss) h stack = refl
more_alike (dashed text ∷ ss) h stack = refl
more_alike (opening ∷ ss) h stack = refl
more_alike (closing ∷ ss) h stack = absurd (h refl)
more_alike (comma ∷ ss) h stack = refl
more_alike (semicolon ∷ ss) h stack = refl
more_alike (equals ∷ ss) h stack = refl

module _ (s : Parser) (at : ℕ) where
  pub begun : (rest : ℕ) (p : PartTree) (ps : List PartTree) → ps ≡ p ∷ [] → IsRead s 0 0 (part ∷ []) at rest (spell_part p) → IsPart p × (part_nesting p ≤ 32) → Parted s at rest ps
  begun rest p ps one read is = subst (Parted s at rest) (sym one) (record {
    some = omega arith;
    onward = read.onward;
    inside = read.inside;
    spells = read.spells;
    goes = λ stack. read.goes (more_parts ∷ stack);
    are = (is.0, tt);
    nests = omega (arith, is.1);
  })

  pub one_more : (rest after : ℕ) (p : PartTree) (ps new : List PartTree) → new ≡ ps ++ p ∷ [] → Parted s at rest ps → IsNotHead closing (from s rest) → IsRead s 0 0 (part ∷ []) rest after (spell_part p) → IsPart p × (part_nesting p ≤ 32) → Parted s at after new
  one_more rest after p ps new pushed l h read is = subst (Parted s at after) (sym pushed) (record {
    some = some (l.some);
    onward = omega (arith, l.onward, read.onward);
    inside = read.inside;
    spells = l.spells ∙ ap (spell_all spell_part ps) read.spells ∙ sym (all_more spell_part ps p (from s after));
    goes = λ stack. l.goes stack ∙ more_alike (from s rest) h stack ∙ read.goes (more_parts ∷ stack);
    are = are_all IsPart ps p l.are is.0;
    nests = greatest_more part_nesting ps p l.nests is.1;
  })
    where
      some : 0 < length ps → 0 < length (ps ++ p ∷ [])
      some lt = omega (arith, length-append ps (p ∷ []))

  pub one_refused : (rest : ℕ) (ps : List PartTree) (e : Stop) → Parted s at rest ps → IsNotHead closing (from s rest) → IsRefused s 0 (part ∷ []) rest e → IsRefused s 0 (part ∷ more_parts ∷ []) at e
  one_refused rest ps e l h refused = λ stack. rw (l.goes stack, more_alike (from s rest) h stack) (refused (more_parts ∷ stack))

  pub closed : (rest : ℕ) (ps : List PartTree) → Parted s at rest ps → Has s rest closing → IsRead s 0 0 (part ∷ more_parts ∷ []) at (rest + 1) (λ r. spell_all spell_part ps (closing ∷ r))
  closed rest ps l has = record {
    onward = omega (arith, l.onward);
    inside = omega (arith, has.within);
    spells = l.spells ∙ ap (spell_all spell_part ps) has.first;
    goes = λ stack. l.goes stack ∙ step s more_parts 0 0 rest closing [] has refl refl (omega arith) stack;
  }

-- ---- the body of an instance

pub complex_read : (s : Parser) (at next : ℕ) (ps : List PartTree) → Has s at opening → IsRead s 0 0 (part ∷ more_parts ∷ []) (at + 1) next (λ r. spell_all spell_part ps (closing ∷ r)) → IsRead s 0 0 (body ∷ []) at next (λ r. opening ∷ spell_all spell_part ps (closing ∷ r))
complex_read s at next ps has read = opened s body 0 0 0 at next opening (part ∷ more_parts ∷ []) (λ r. spell_all spell_part ps (closing ∷ r)) has refl refl (omega arith) read

pub complex_refused : (s : Parser) (at : ℕ) (e : Stop) → Has s at opening → IsRefused s 0 (part ∷ more_parts ∷ []) (at + 1) e → IsRefused s 0 (body ∷ []) at e
complex_refused s at e has refused = opened_refused s body 0 0 at opening (part ∷ more_parts ∷ []) e has refl refl (omega arith) refused

body_alike : (ss : List Symbol) → IsNotHead opening ss → (stack : List Item) → run 32 0 (body ∷ stack) ss ≡ run 32 0 (part ∷ stack) ss
body_alike [] h stack = refl
body_alike (value kind text ∷ ss) h stack = refl
body_alike (name n ∷ ss) h stack = refl
body_alike (keyword text ∷ ss) h stack = refl
body_alike (dashed text ∷ ss) h stack = refl
body_alike (opening ∷ ss) h stack = absurd (h refl)
body_alike (closing ∷ ss) h stack = refl
body_alike (comma ∷ ss) h stack = refl
body_alike (semicolon ∷ ss) h stack = refl
body_alike (equals ∷ ss) h stack = refl

pub simple_read : (s : Parser) (at next : ℕ) (p : PartTree) (ps : List PartTree) → ps ≡ p ∷ [] → IsNotHead opening (from s at) → IsRead s 0 0 (part ∷ []) at next (spell_part p) → IsRead s 0 0 (body ∷ []) at next (λ r. spell_all spell_part ps r)
simple_read s at next p ps one h read =
    let spelled : IsRead s 0 0 (part ∷ []) at next (λ r. spell_all spell_part ps r) = respelled s 0 0 at next (part ∷ []) (spell_part p) (λ r. spell_all spell_part ps r) (λ r. ap (λ (qs : List PartTree). spell_all spell_part qs r) (sym one)) read in
    instead s 0 0 at next (body ∷ []) (part ∷ []) (λ r. spell_all spell_part ps r) (body_alike (from s at) h) spelled

pub simple_refused : (s : Parser) (at : ℕ) (e : Stop) → IsNotHead opening (from s at) → IsRefused s 0 (part ∷ []) at e → IsRefused s 0 (body ∷ []) at e
simple_refused s at e h refused = instead_refused s 0 at (body ∷ []) (part ∷ []) e (body_alike (from s at) h) refused

-- ---- an instance

behind_alike : (ss : List Symbol) (stack : List Item) → run 32 0 (behind_name ∷ stack) ss ≡ run 32 0 (fixed equals ∷ body ∷ stack) ss
behind_alike [] stack = refl
behind_alike (value kind text ∷ ss) stack = refl
behind_alike (name n ∷ ss) stack = refl
behind_alike (keyword text ∷ ss) stack = refl
behind_alike (dashed text ∷ ss) stack = refl
behind_alike (opening ∷ ss) stack = refl
behind_alike (closing ∷ ss) stack = refl
behind_alike (comma ∷ ss) stack = refl
behind_alike (semicolon ∷ ss) stack = refl
behind_alike (equals ∷ ss) stack = refl

module _ (s : Parser) (at : ℕ) where
  pub instance_bare : (e : Stop) → IsRefused s 0 (fixed equals ∷ []) at e → IsRefused s 0 (behind_name ∷ fixed semicolon ∷ []) at e
  instance_bare e refused =
      instead_refused s 0 at (behind_name ∷ fixed semicolon ∷ []) (fixed equals ∷ body ∷ fixed semicolon ∷ []) e (λ stack. behind_alike (from s at) (fixed semicolon ∷ stack)) (first_refused s 0 at (fixed equals ∷ []) (body ∷ fixed semicolon ∷ []) e refused)

  pub instance_empty : (e : Stop) → Has s at equals → IsRefused s 0 (body ∷ []) (at + 1) e → IsRefused s 0 (behind_name ∷ fixed semicolon ∷ []) at e
  instance_empty e has refused =
      first_refused s 0 at (behind_name ∷ []) (fixed semicolon ∷ []) e (opened_refused s behind_name 0 0 at equals (body ∷ []) e has refl refl (omega arith) refused)

  named : (after : ℕ) (f : List Symbol → List Symbol) → Has s at equals → IsRead s 0 0 (body ∷ []) (at + 1) after f → IsRead s 0 0 (behind_name ∷ []) at after (λ r. equals ∷ f r)
  named after f has read = opened s behind_name 0 0 0 at after equals (body ∷ []) f has refl refl (omega arith) read

  pub instance_open : (after : ℕ) (f : List Symbol → List Symbol) (e : Stop) → Has s at equals → IsRead s 0 0 (body ∷ []) (at + 1) after f → IsRefused s 0 (fixed semicolon ∷ []) after e → IsRefused s 0 (behind_name ∷ fixed semicolon ∷ []) at e
  instance_open after f e has read refused = second_refused s 0 0 at after (behind_name ∷ []) (fixed semicolon ∷ []) (λ r. equals ∷ f r) e (named after f has read) refused

  pub instance_read : (after next : ℕ) (f : List Symbol → List Symbol) → Has s at equals → IsRead s 0 0 (body ∷ []) (at + 1) after f → Has s after semicolon → next ≡ after + 1 → IsRead s 0 0 (behind_name ∷ fixed semicolon ∷ []) at next (λ r. equals ∷ f (semicolon ∷ r))
  instance_read after next f has read end last =
      subst (λ (k : ℕ). IsRead s 0 0 (behind_name ∷ fixed semicolon ∷ []) at k (λ r. equals ∷ f (semicolon ∷ r))) (sym last)
      (both s 0 0 0 at after (after + 1) (behind_name ∷ []) (fixed semicolon ∷ []) (λ r. equals ∷ f r) (λ r. semicolon ∷ r) (named after f has read) (took s (fixed semicolon) 0 0 after semicolon end refl refl (omega arith)))

-- ---- instances one after the other

-- the first instances were read
pub record Counted (s : Parser) (at rest : ℕ) (is : List InstanceTree) : Type 0 where
  pub onward : at ≤ rest
  pub inside : rest ≤ length s.tokens.now
  pub spells : from s at ≡ spell_all spell_instance is (from s rest)
  pub goes : (stack : List Item) → run 32 0 (instances ∷ stack) (from s at) ≡ run 32 0 (instances ∷ stack) (from s rest)
  pub are : AllByRecursion IsInstance is
  pub nests : greatest instance_nesting is ≤ 32

module _ (s : Parser) (at : ℕ) where
  pub none_yet : (is : List InstanceTree) → is ≡ [] → at ≤ length s.tokens.now → Counted s at at is
  none_yet is none le = subst (Counted s at at) (sym none) (record { onward = omega arith; inside = le; spells = refl; goes = λ stack. refl; are = tt; nests = omega arith })

  pub one_instance : (rest after n : ℕ) (i : InstanceTree) (is new : List InstanceTree) → new ≡ is ++ i ∷ [] → i.number ≡ n → Counted s at rest is → Has s rest (name n) → IsRead s 0 0 (behind_name ∷ fixed semicolon ∷ []) (rest + 1) after (spell_behind_name i)
      → IsInstance i × (instance_nesting i ≤ 32) → Counted s at after new
  one_instance rest after n i is new pushed number l has read ok = subst (Counted s at after) (sym pushed) (record {
    onward = omega (arith, l.onward, read.onward);
    inside = read.inside;
    spells =
        l.spells ∙ ap (spell_all spell_instance is) (has.first ∙ ap (λ (m : ℕ). name m ∷ from s (rest + 1)) (sym number) ∙ ap (λ (ss : List Symbol). name i.number ∷ ss) read.spells)
        ∙ sym (all_more spell_instance is i (from s after));
    goes = λ stack. l.goes stack ∙ step s instances 0 0 rest (name n) (behind_name ∷ fixed semicolon ∷ instances ∷ []) has refl refl (omega arith) stack ∙ read.goes (instances ∷ stack);
    are = are_all IsInstance is i l.are ok.0;
    nests = greatest_more instance_nesting is i l.nests ok.1;
  })

  pub instance_refused : (rest n : ℕ) (is : List InstanceTree) (e : Stop) → Counted s at rest is → Has s rest (name n) → IsRefused s 0 (behind_name ∷ fixed semicolon ∷ []) (rest + 1) e → AreRefused s at e
  instance_refused rest n is e l has refused =
      λ stack. rw (l.goes stack, step s instances 0 0 rest (name n) (behind_name ∷ fixed semicolon ∷ instances ∷ []) has refl refl (omega arith) stack) (refused (instances ∷ stack))

  pub all_read : (rest : ℕ) (is : List InstanceTree) → Counted s at rest is → AreRead s at rest (λ r. spell_all spell_instance is r)
  all_read rest is l = record { onward = l.onward; inside = l.inside; spells = l.spells; goes = l.goes }

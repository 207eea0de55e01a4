-- The front of a file with further instances behind it.
use Rattle.std.proofs.Common.{◌≡◌, ◌≤◌, List, [], ◌∷◌, ◌++◌, refl, sym, ap, ◌∙◌, arith}
use Rattle.std.specs.List.{AllByRecursion}
use Rattle.p21_parse.specs.declared.limits.TheConstants.{MAX_NESTING}
use Rattle.p21_parse.specs.Tree.{PartTree, InstanceTree, ExchangeTree}
use Rattle.p21_parse.specs.Symbol.{Symbol, semicolon}
use Rattle.p21_parse.specs.Spell.{spell_all, spell_instance, spell_entry}
use Rattle.p21_parse.specs.Grammar.{IsInstance, IsExchange}
use Rattle.p21_parse.specs.Nesting.{greatest, instance_nesting, exchange_nesting}
use Rattle.p21_parse.specs.Machine.{iso, header, endsec, data_word}
use Rattle.p21_parse.specs.Parser.{spell_start}
use Rattle.p21_parse.specs.Front.{with_items}
use Rattle.p21_parse.proofs.Appends.{longer_part, longer_instances}

-- ---- what is spelled

longer_entry : (p : PartTree) (r more : List Symbol) → spell_entry p (r ++ more) ≡ spell_entry p r ++ more
longer_entry p r more = longer_part p (semicolon ∷ r) more

entries_more : (ps : List PartTree) (r more : List Symbol) → spell_all spell_entry ps (r ++ more) ≡ spell_all spell_entry ps r ++ more
entries_more [] r more = refl
entries_more (p ∷ ps) r more = ap (spell_entry p) (entries_more ps r more) ∙ longer_entry p (spell_all spell_entry ps r) more

pub longer_start : (head : List PartTree) (r more : List Symbol) → spell_start head (r ++ more) ≡ spell_start head r ++ more
longer_start head r more =
    ap (λ (ss : List Symbol). iso ∷ semicolon ∷ header ∷ semicolon ∷ ss) (entries_more head (endsec ∷ semicolon ∷ data_word ∷ semicolon ∷ r) more)

pub all_more : (xs ys : List InstanceTree) (r : List Symbol) → spell_all spell_instance (xs ++ ys) r ≡ spell_all spell_instance xs (spell_all spell_instance ys r)
all_more [] ys r = refl
all_more (x ∷ xs) ys r = ap (spell_instance x) (all_more xs ys r)

-- the instances so far, and then what a slice spells
pub start_more : (head : List PartTree) (xs ys : List InstanceTree) (r : List Symbol)
    → spell_start head (spell_all spell_instance xs []) ++ spell_all spell_instance ys r ≡ spell_start head (spell_all spell_instance (xs ++ ys) r)
start_more head xs ys r =
    sym (longer_start head (spell_all spell_instance xs []) (spell_all spell_instance ys r))
    ∙ ap (spell_start head) (sym (longer_instances xs [] (spell_all spell_instance ys r)) ∙ sym (all_more xs ys r))

-- the front of a file, and then any symbols
pub start_on : (head : List PartTree) (xs : List InstanceTree) (r : List Symbol) → spell_start head (spell_all spell_instance xs []) ++ r ≡ spell_start head (spell_all spell_instance xs r)
start_on head xs r = sym (longer_start head (spell_all spell_instance xs []) r) ∙ ap (spell_start head) (sym (longer_instances xs [] r))

-- ---- the grammar

are_more : (xs ys : List InstanceTree) → AllByRecursion IsInstance xs → AllByRecursion IsInstance ys → AllByRecursion IsInstance (xs ++ ys)
are_more [] ys xa ya = ya
are_more (x ∷ xs) ys xa ya = (xa.0, are_more xs ys xa.1 ya)

greatest_more : (xs ys : List InstanceTree) → greatest instance_nesting xs ≤ MAX_NESTING → greatest instance_nesting ys ≤ MAX_NESTING → greatest instance_nesting (xs ++ ys) ≤ MAX_NESTING
greatest_more [] ys xa ya = ya
greatest_more (x ∷ xs) ys xa ya = let more = greatest_more xs ys (omega (arith, xa)) ya in omega (arith, xa, more)

pub grammar_more : (x : ExchangeTree) (ys : List InstanceTree) → IsExchange x → AllByRecursion IsInstance ys → IsExchange (with_items x ys)
grammar_more x ys is are = record { head = is.head; items = are_more x.items ys is.items are }

pub shallow_more : (x : ExchangeTree) (ys : List InstanceTree) → exchange_nesting x ≤ MAX_NESTING → greatest instance_nesting ys ≤ MAX_NESTING → exchange_nesting (with_items x ys) ≤ MAX_NESTING
shallow_more x ys is are = let more = greatest_more x.items ys (omega (arith, is)) are in omega (arith, is, more)

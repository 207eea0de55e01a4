-- Lists of parameters, put one parameter behind the other.
use Rattle.std.proofs.Common.{◌≡◌, ℕ, ◌+◌, ◌<◌, ◌≤◌, List, [], ◌∷◌, ◌++◌, length, map, drop, get_or, refl, sym, ap, ◌∙◌, arith}
use Rattle.std.proofs.lemmas.List.{drop_more, drop_all}
use Rattle.p21_parse.specs.declared.param.Param.{Param}
use Rattle.p21_parse.specs.Tree.{Trees, none, first, trees, listed}
use Rattle.p21_parse.specs.Symbol.{Symbol, opening, closing, comma}
use Rattle.p21_parse.specs.Spell.{spell, spell_list, spell_more}
use Rattle.p21_parse.specs.View.{tree_of}
use Rattle.p21_print.specs.Printed.{printed_symbols}
use Rattle.p21_print.specs.Appends.{Appends}
use Rattle.p21_print.proofs.Adding.{Reaches, at_once, one, both}
use Rattle.p21_print.proofs.Trees.{trees_seen}

-- a list in its parentheses
abbrev pub in_parentheses : Trees → List Symbol → List Symbol
in_parentheses ts rest = opening ∷ spell_list ts rest

-- further parameters, from an index on
abbrev pub others : List Param → ℕ → List Symbol → List Symbol
others xs i rest = spell_more (trees (map tree_of (drop i xs))) rest

pub nothing_in : (xs : List Param) (ts : Trees) (old new : List ℕ) → map tree_of xs ≡ listed ts → length xs < 1 → new ≡ old ++ 40 ∷ 41 ∷ [] → Appends (in_parentheses ts) old new
nothing_in [] ts old new e len put =
    let none_in : none ≡ ts = trees_seen [] ts e in
    at_once (in_parentheses ts) (40 ∷ 41 ∷ []) old new (λ rest. ap (λ (us : Trees). printed_symbols (in_parentheses us rest)) none_in) put
nothing_in (x ∷ xs) ts old new e len put = absurd (omega arith)

-- the first parameter behind the parenthesis
pub opened : (xs more : List Param) (x : Param) (ts : Trees) (old now new : List ℕ) → map tree_of xs ≡ listed ts → xs ≡ x ∷ more → now ≡ old ++ 40 ∷ [] → Appends (spell (tree_of x)) now new
    → Reaches (in_parentheses ts) (others more 0) old new
opened xs more x ts old now new e parts put k =
    let is : first (tree_of x) (trees (map tree_of more)) ≡ ts = ap (λ (ys : List Param). trees (map tree_of ys)) (sym parts) ∙ trees_seen xs ts e in
    let all = both (λ rest. opening ∷ rest) (spell (tree_of x)) old now new (one opening (40 ∷ []) old now refl put) k in
    λ rest. all (others more 0 rest) ∙ ap (λ (us : Trees). old ++ printed_symbols (in_parentheses us rest)) is

-- a comma, and one parameter more
pub one_other : (xs : List Param) (i : ℕ) (x : Param) (spelled : List Symbol → List Symbol) (old now mid new : List ℕ)
    → i < length xs → x ≡ get_or xs i x → Reaches spelled (others xs i) old now → mid ≡ now ++ 44 ∷ [] → Appends (spell (tree_of x)) mid new → Reaches spelled (others xs (i + 1)) old new
one_other xs i x spelled old now mid new lt is r put k =
    let left : drop i xs ≡ x ∷ drop (i + 1) xs = drop_more xs i x lt ∙ ap (λ (y : Param). y ∷ drop (i + 1) xs) (sym is) in
    let more = both (λ rest. comma ∷ rest) (spell (tree_of x)) now mid new (one comma (44 ∷ []) now mid refl put) k in
    λ rest.
    more (others xs (i + 1) rest)
    ∙ ap (λ (ys : List Param). now ++ printed_symbols (spell_more (trees (map tree_of ys)) rest)) (sym left)
    ∙ r rest

-- no parameter is left
pub shut : (xs : List Param) (i : ℕ) (spelled : List Symbol → List Symbol) (old now new : List ℕ) → length xs ≤ i → Reaches spelled (others xs i) old now → new ≡ now ++ 41 ∷ [] → Appends spelled old new
shut xs i spelled old now new past r put =
    let left : drop i xs ≡ [] = drop_all i xs past in
    λ rest.
    one closing (41 ∷ []) now new refl put rest
    ∙ ap (λ (ys : List Param). now ++ printed_symbols (spell_more (trees (map tree_of ys)) rest)) (sym left)
    ∙ r rest

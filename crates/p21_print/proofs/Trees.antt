-- The tree of a parameter that holds others, and the trees of a list.
use Rattle.std.proofs.Common.{◌≡◌, ℕ, suc, ◌-◌, ◌≤◌, List, [], ◌∷◌, length, get_or, take, drop, map, refl, sym, ap, ◌∙◌, arith}
use Rattle.std.proofs.Math.Seq.{take-length}
use mathlib.Core.Former.{Count}
use Rattle.p21_parse.specs.declared.param.Param.{Param, List', Typed', Row_of-Param, end_of-Param, more_of-Param, items-the_row-Param, items_hidden-the_row-Param-0}
use Rattle.p21_parse.specs.declared.param.Param.TheVariants as params
use Rattle.p21_parse.specs.declared.param.ParamList.{ParamList}
use Rattle.p21_parse.specs.Tree.{Tree, Trees, none, list, typed, first, trees, listed}
use Rattle.p21_parse.specs.View.{tree_of, trees_in, trees_of}

row_of : Param → (n : Count) × Row_of-Param n
row_of (List' _ row) = (_, row)
row_of (Typed' _ _ row) = (_, row)
row_of _ = (_, end_of-Param)

in_row : (n : Count) (row : Row_of-Param n) → trees_in row ≡ trees (map tree_of (items-the_row-Param n row))
in_row n end_of-Param = refl
in_row n (more_of-Param param rest) = ap (first (tree_of param)) (in_row _ rest)

pub tree_of-List : (ps : ParamList) → tree_of (params.List ps) ≡ list (trees_of ps)
unfolding row_of
tree_of-List ps =
    let row = row_of (params.List ps) in
    ap list (in_row row.0 row.1 ∙ ap (λ (xs : List Param). trees (map tree_of xs)) (items_hidden-the_row-Param-0 ps.params))

pub tree_of-Typed : (word : List ℕ) (ps : ParamList) → tree_of (params.Typed word ps) ≡ typed word (trees_of ps)
unfolding row_of
tree_of-Typed word ps =
    let row = row_of (params.Typed word ps) in
    ap (typed word) (in_row row.0 row.1 ∙ ap (λ (xs : List Param). trees (map tree_of xs)) (items_hidden-the_row-Param-0 ps.params))

trees-listed : (ts : Trees) → trees (listed ts) ≡ ts
trees-listed none = refl
trees-listed (first t ts) = ap (first t) (trees-listed ts)

-- the parameters of a list have its trees
pub trees_seen : (xs : List Param) (ts : Trees) → map tree_of xs ≡ listed ts → trees (map tree_of xs) ≡ ts
trees_seen xs ts e = ap trees e ∙ trees-listed ts

pub listed-trees : (ts : List Tree) → listed (trees ts) ≡ ts
listed-trees [] = refl
listed-trees (t ∷ ts) = ap (λ (us : List Tree). t ∷ us) (listed-trees ts)

-- a first parameter and those behind it
pub parted : (xs : List Param) (x : Param) → 1 ≤ length xs → x ≡ get_or xs 0 x → xs ≡ x ∷ take (length xs - 1) (drop 1 xs)
parted [] x some is = absurd (omega arith)
parted (y ∷ ys) x some is =
    let len : suc (length ys) - 1 ≡ length ys = omega arith in
    let all : take (suc (length ys) - 1) ys ≡ ys = ap (λ (n : ℕ). take n ys) len ∙ take-length ys in
    ap (λ (z : Param). z ∷ ys) (sym is) ∙ ap (λ (zs : List Param). x ∷ zs) (sym all)

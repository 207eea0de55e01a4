-- The tree of a parameter that holds others.
use Rattle.std.proofs.Common.{◌≡◌, ℕ, List, map, refl, ap, ◌∙◌}
use mathlib.Core.Former.{Count}
use Rattle.p21_parse.specs.declared.param.Param.{Param, List', Typed', Row_of-Param, end_of-Param, more_of-Param, items-the_row-Param, items_hidden-the_row-Param-0}
use Rattle.p21_parse.specs.declared.param.Param.TheVariants as params
use Rattle.p21_parse.specs.declared.param.ParamList.{ParamList}
use Rattle.p21_parse.specs.Tree.{list, typed, first, trees}
use Rattle.p21_parse.specs.View.{tree_of, trees_in, trees_of}

row_of : Param → (n : Count) × Row_of-Param n
row_of (List' _ row) = (_, row)
row_of (Typed' _ _ row) = (_, row)
row_of _ = (_, end_of-Param)

in_row : (n : Count) (row : Row_of-Param n) → trees_in row ≡ trees (map tree_of (items-the_row-Param n row))
in_row n end_of-Param = refl
in_row n (more_of-Param param rest) = ap (first (tree_of param)) (in_row _ rest)

pub tree_of-List : (ps : ParamList) → tree_of (params.List ps) ≡ list (trees_of ps)
unfolding row_of
tree_of-List ps =
    let row = row_of (params.List ps) in
    ap list (in_row row.0 row.1 ∙ ap (λ (xs : List Param). trees (map tree_of xs)) (items_hidden-the_row-Param-0 ps.params))

pub tree_of-Typed : (w : List ℕ) (ps : ParamList) → tree_of (params.Typed w ps) ≡ typed w (trees_of ps)
unfolding row_of
tree_of-Typed w ps =
    let row = row_of (params.Typed w ps) in
    ap (typed w) (in_row row.0 row.1 ∙ ap (λ (xs : List Param). trees (map tree_of xs)) (items_hidden-the_row-Param-0 ps.params))

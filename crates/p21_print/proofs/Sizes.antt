-- How much a parameter holds: a list holds more than each of its parameters.
use Rattle.std.proofs.Common.{◌≡◌, ℕ, zero, suc, ◌+◌, ◌<◌, List, [], ◌∷◌, length, get_or, map, sym, ap, ◌∙◌, arith}
use Rattle.p21_parse.specs.declared.param.Param.{Param}
use Rattle.p21_parse.specs.declared.param.Param.TheVariants as params
use Rattle.p21_parse.specs.declared.param.ParamList.{ParamList}
use Rattle.p21_parse.specs.Tree.{Tree, one, reference, list, typed, Trees, none, first, trees, listed}
use Rattle.p21_parse.specs.View.{tree_of, trees_of}
use Rattle.p21_print.proofs.Trees.{tree_of-List, tree_of-Typed, trees_seen, listed-trees}

abbrev mutual
  pub size : Tree → ℕ
  size (one kind text) = 0
  size (reference number) = 0
  size (list ts) = suc (sizes ts)
  size (typed word ts) = suc (sizes ts)

  pub sizes : Trees → ℕ
  sizes none = 0
  sizes (first t ts) = suc (size t + sizes ts)

-- each of the parameters is smaller
smaller : (xs : List Param) (i : ℕ) (d : Param) → i < length xs → size (tree_of (get_or xs i d)) < sizes (trees (map tree_of xs))
smaller [] i d lt = absurd (omega arith)
smaller (x ∷ xs) zero d lt = omega arith
smaller (x ∷ xs) (suc i) d lt = omega (arith, smaller xs i d (omega arith))

pub one_smaller : (xs : List Param) (ts : Trees) (i : ℕ) (x : Param) → map tree_of xs ≡ listed ts → i < length xs → x ≡ get_or xs i x → size (tree_of x) < sizes ts
one_smaller xs ts i x e lt is =
    let here : size (tree_of x) ≡ size (tree_of (get_or xs i x)) = ap (λ (p : Param). size (tree_of p)) is in
    omega (arith, here, smaller xs i x lt, ap sizes (trees_seen xs ts e))

pub other_smaller : (xs more : List Param) (head : Param) (ts : Trees) (i : ℕ) (x : Param) → map tree_of xs ≡ listed ts → xs ≡ head ∷ more → i < length more → x ≡ get_or more i x → size (tree_of x) < sizes ts
other_smaller xs more head ts i x e parts lt is =
    let all : sizes ts ≡ sizes (trees (map tree_of (head ∷ more))) = sym (ap sizes (trees_seen xs ts e)) ∙ ap (λ (ys : List Param). sizes (trees (map tree_of ys))) parts in
    omega (arith, all, one_smaller more (trees (map tree_of more)) i x (sym (listed-trees (map tree_of more))) lt is)

pub list_smaller : (p : Param) (ps : ParamList) → p ≡ params.List ps → sizes (trees_of ps) < size (tree_of p)
list_smaller p ps is = omega (arith, ap (λ (q : Param). size (tree_of q)) is ∙ ap size (tree_of-List ps))

pub typed_smaller : (p : Param) (word : List ℕ) (ps : ParamList) → p ≡ params.Typed word ps → sizes (trees_of ps) < size (tree_of p)
typed_smaller p word ps is = omega (arith, ap (λ (q : Param). size (tree_of q)) is ∙ ap size (tree_of-Typed word ps))

-- A list of parameters and its trees.
use Rattle.std.proofs.Common.{◌≡◌, ℕ, zero, suc, ◌<◌, Bool, false, ◌↔◌, IsTrue, List, [], ◌∷◌, ◌++◌, ◌==◌, length, map, Option, Some, None, IfSome, option_to_list, refl, sym, ap, ◌∙◌, arith}
use Rattle.std.proofs.Common.{true≢false}
use Rattle.std.proofs.lemmas.Bool.Decides.{nat_tests}
use Rattle.std.specs.List.{slice_get, slice_index_or}
use Rattle.std.specs.Option.{option_map}
use Rattle.std.proofs.lemmas.List.{map_push, length-map}
use Rattle.std.proofs.lemmas.Option.{slice_get-map, slice_get_read}
use Rattle.p21_parse.specs.Tree.{Tree, Trees, none, first, trees, listed, count, tree_at, with_last}

pub listed-trees : (ts : List Tree) → listed (trees ts) ≡ ts
listed-trees [] = refl
listed-trees (t ∷ ts) = ap (λ (us : List Tree). t ∷ us) (listed-trees ts)

count-trees : (ts : List Tree) → count (trees ts) ≡ length ts
count-trees [] = refl
count-trees (t ∷ ts) = omega (arith, count-trees ts)

pub trees-push : (ts : List Tree) (u : Tree) → trees (ts ++ u ∷ []) ≡ with_last (trees ts) u
trees-push [] u = refl
trees-push (t ∷ ts) u = ap (λ (us : Trees). first t us) (trees-push ts u)

tree_at-trees : (ts : List Tree) (i : ℕ) → tree_at (trees ts) i ≡ slice_get ts i
tree_at-trees [] i = refl
tree_at-trees (t ∷ ts) zero = refl
tree_at-trees (t ∷ ts) (suc i) = tree_at-trees ts i

module _ {X : Type 0} (view : X → Tree) where
  pub count_seen : (xs : List X) → count (trees (map view xs)) ≡ length xs
  count_seen xs = count-trees (map view xs) ∙ length-map xs view

  pub pushed : (xs : List X) (x : X) → trees (map view (xs ++ x ∷ [])) ≡ with_last (trees (map view xs)) (view x)
  pushed xs x = ap trees (map_push view xs x) ∙ trees-push (map view xs) (view x)

  pub read_at : (xs : List X) (n i : ℕ) (x : X) → n ≡ length xs → i < n → x ≡ slice_index_or xs i x → tree_at (trees (map view xs)) i ≡ Some (view x)
  read_at xs n i x len lt is = tree_at-trees (map view xs) i ∙ slice_get-map view xs i ∙ ap (option_map view) (slice_get_read xs n i x len lt is)

  pub is_none : (xs : List X) (n : ℕ) (b : Bool) → n ≡ length xs → b ≡ (n == 0) → IsTrue b ↔ (trees (map view xs) ≡ none)
  is_none [] n b len e = (λ _. refl, λ _. let zero : n ≡ 0 = len in e ∙ ap (λ (k : ℕ). k == 0) zero)
  is_none (x ∷ xs) n b len e =
      let some : b ≡ false = grind (arith, nat_tests) in
      (λ t. absurd (true≢false (sym t ∙ some)), λ (t : first (view x) (trees (map view xs)) ≡ none). cc)

  pub popped : (old new : List X) (o : Option X) → old ≡ new ++ option_to_list o → IfSome o (λ x. trees (map view old) ≡ with_last (trees (map view new)) (view x))
  popped old new None e = tt
  popped old new (Some x) e = ap (λ (xs : List X). trees (map view xs)) e ∙ pushed new x

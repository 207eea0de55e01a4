-- The placed tree is the tree under other numbers, so that in it too each number stands once.
use Rattle.std.specs.Prelude.{◌≡◌, ℕ, zero, suc, List, [], ◌∷◌, ◌++◌, map, slice_get, Option, Some, None}
use Rattle.std.specs.Option.{option_map_or}
use Rattle.std.proofs.Common.{refl, sym, ◌∙◌, ap, subst}
use Rattle.exec_tree.specs.Exec.{Exec, nodes, nodes_all, AreDistinct}
use Rattle.exec_tree.specs.Arena.{to_execs, of_kind, first_of, second_of, number_or_zero, tree_down}
use Rattle.exec_tree.specs.declared.kind.Kind.{Kind}
use Rattle.exec_tree.specs.declared.kind.Kind.TheVariants as kind
use Rattle.exec_tree.specs.declared.limits.TheConstants.{MAX_TREE_NESTING}
use Rattle.exec_tree.specs.declared.node.BareNode.{BareNode}
use Rattle.tree_table.specs.Placed.{place_for, placed_down, placed, number_at}
use Rattle.tree_table.proofs.ListLemmas.{distinct_back}

map_append : (r : ℕ → ℕ) (l m : List ℕ) → map r (l ++ m) ≡ map r l ++ map r m
map_append r [] m = refl
map_append r (x ∷ l) m = ap (λ (w : List ℕ). r x ∷ w) (map_append r l m)

-- the executables of one list have the nodes of another's under these numbers
abbrev Match : (ℕ → ℕ) → List Exec → List Exec → Type 0
Match r [] [] = Unit {0}
Match r [] (f ∷ fs) = ⊥
Match r (e ∷ es) [] = ⊥
Match r (e ∷ es) (f ∷ fs) = (map r (nodes e) ≡ nodes f) × Match r es fs

match_all : (r : ℕ → ℕ) (es fs : List Exec) → Match r es fs → map r (nodes_all (to_execs es)) ≡ nodes_all (to_execs fs)
match_all r [] [] h = refl
match_all r [] (f ∷ fs) h = absurd h
match_all r (e ∷ es) [] h = absurd h
match_all r (e ∷ es) (f ∷ fs) h = map_append r (nodes e) (nodes_all (to_execs es)) ∙ rw (h.0, match_all r es fs h.1) refl

match_first : (r : ℕ → ℕ) (es fs : List Exec) → Match r es fs → map r (nodes (first_of es)) ≡ nodes (first_of fs)
match_first r [] [] h = refl
match_first r [] (f ∷ fs) h = absurd h
match_first r (e ∷ es) [] h = absurd h
match_first r (e ∷ es) (f ∷ fs) h = h.0

match_second : (r : ℕ → ℕ) (es fs : List Exec) → Match r es fs → map r (nodes (second_of es)) ≡ nodes (second_of fs)
match_second r [] [] h = refl
match_second r [] (f ∷ fs) h = absurd h
match_second r (e ∷ es) [] h = absurd h
match_second r (e ∷ es) (f ∷ fs) h = match_first r es fs h.1

match_kind : (r : ℕ → ℕ) (k : Kind) (n : Option ℕ) (p : ℕ) (es fs : List Exec) → r p ≡ number_or_zero n → Match r es fs → map r (nodes (of_kind k (place_for k n p) es)) ≡ nodes (of_kind k n fs)
match_kind r kind.Plan None p es fs h m = match_all r es fs m
match_kind r kind.Plan (Some n) p es fs h m = rw (h, match_all r es fs m) refl
match_kind r kind.Par n p es fs h m = rw (h, match_all r es fs m) refl
match_kind r kind.NonSeq n p es fs h m = rw (h, match_all r es fs m) refl
match_kind r kind.Sel n p es fs h m = rw (h, match_all r es fs m) refl
match_kind r kind.If n p es fs h m =
    rw h (ap (λ (l : List ℕ). number_or_zero n ∷ l) (map_append r (nodes (first_of es)) (nodes (second_of es)) ∙ rw (match_first r es fs m, match_second r es fs m) refl))
match_kind r kind.While n p es fs h m = rw (h, match_first r es fs m) refl
match_kind r kind.Work n p es fs h m = rw h refl
match_kind r kind.Assign n p es fs h m = rw h refl
match_kind r kind.Set n p es fs h m = rw h refl
match_kind r kind.Wait n p es fs h m = rw h refl
match_kind r kind.Note n p es fs h m = rw h refl

match_map : (arena : List BareNode) (levels : ℕ) (qs : List ℕ) → ((q : ℕ) → map (number_at arena) (nodes (placed_down arena levels q)) ≡ nodes (tree_down arena levels q)) → Match (number_at arena) (map (λ q. placed_down arena levels q) qs) (map (λ q. tree_down arena levels q) qs)
match_map arena levels [] h = tt
match_map arena levels (q ∷ qs) h = (h q, match_map arena levels qs h)

numbered : (arena : List BareNode) (levels place : ℕ) → map (number_at arena) (nodes (placed_down arena levels place)) ≡ nodes (tree_down arena levels place)
unfolding placed_down tree_down
numbered arena zero place = refl
numbered arena (suc levels) place = go (slice_get arena place) refl (λ q. numbered arena levels q)
  where
    go : (o : Option BareNode) → slice_get arena place ≡ o → ((q : ℕ) → map (number_at arena) (nodes (placed_down arena levels q)) ≡ nodes (tree_down arena levels q))
        → map (number_at arena) (nodes (placed_down arena (suc levels) place)) ≡ nodes (tree_down arena (suc levels) place)
    go None e h = rw e refl
    go (Some node) e h =
        let own : number_at arena place ≡ number_or_zero node.number = ap (λ (o : Option BareNode). option_map_or (λ node. number_or_zero node.number) o 0) e in
        rw e (match_kind (number_at arena) node.kind node.number place (map (λ q. placed_down arena levels q) node.elements) (map (λ q. tree_down arena levels q) node.elements) own (match_map arena levels node.elements h))

pub placed_once : (arena : List BareNode) → AreDistinct (nodes (tree_down arena MAX_TREE_NESTING 0)) → AreDistinct (nodes (placed arena))
placed_once arena d = distinct_back (number_at arena) (nodes (placed arena)) (subst AreDistinct (sym (numbered arena MAX_TREE_NESTING 0)) d)

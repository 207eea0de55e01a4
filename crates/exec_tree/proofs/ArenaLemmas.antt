-- Trees in arenas that grow.
use Rattle.std.specs.Prelude.{◌≡◌, ◌<◌, ◌≤◌, ◌==◌, ◌||◌, ℕ, zero, suc, Bool, true, false, List, [], ◌∷◌, ◌++◌, length, map, slice_get, slice_set, Option, Some, None}
use Rattle.std.proofs.Common.{refl, ap, arith}
use Rattle.std.proofs.lemmas.Bool.Decides.{nat_tests}
use Rattle.exec_tree.specs.Exec.{Plan, None_left, has}
use Rattle.exec_tree.specs.Arena.{of_kind}
use Rattle.exec_tree.specs.declared.node.BareNode.{BareNode}
use Rattle.exec_tree.specs.Arena.{tree_down, of_node, IsClosed, IsKept}

has_first : (q : ℕ) (qs : List ℕ) → has (q ∷ qs) q ≡ true
has_first q qs = let g : (q == q) ≡ true = grind (arith, nat_tests) in rw g refl

has_later : (q r : ℕ) (qs : List ℕ) → has qs r ≡ true → has (q ∷ qs) r ≡ true
has_later q r qs h = rw h (any_true (q == r))
  where
    any_true : (b : Bool) → (b || true) ≡ true
    any_true true = refl
    any_true false = refl

-- functions that agree on a list map it alike
pub map_same : {A : Type 0} (f g : ℕ → A) (qs : List ℕ) → ((q : ℕ) → has qs q ≡ true → f q ≡ g q) → map f qs ≡ map g qs
map_same f g [] h = refl
map_same f g (q ∷ qs) h = rw (h q (has_first q qs), map_same f g qs (λ r i. h r (has_later q r qs i))) refl

-- where the nodes from one place to another are kept, and their elements lie among them, their trees are kept
pub tree_kept : (arena later : List BareNode) (from to levels q : ℕ) → IsClosed arena from to → IsKept arena later from to → from ≤ q → q < to → tree_down later levels q ≡ tree_down arena levels q
unfolding tree_down
tree_kept arena later from to zero q c k f t = refl
tree_kept arena later from to (suc levels) q c k f t =
    rw (k q f t) (go (slice_get arena q) refl (λ r g u. tree_kept arena later from to levels r c k g u))
  where
    go : (o : Option BareNode) → slice_get arena q ≡ o → ((r : ℕ) → from ≤ r → r < to → tree_down later levels r ≡ tree_down arena levels r)
        → of_node o (λ r. tree_down later levels r) ≡ of_node o (λ r. tree_down arena levels r)
    go None e h = refl
    go (Some node) e h =
        ap (of_kind node.kind node.number)
        (map_same (λ r. tree_down later levels r) (λ r. tree_down arena levels r) node.elements (λ r i. let z = c q r node f t e i in h r (omega (arith, z.0, f)) z.1))

pub trees_kept : (arena later : List BareNode) (from to levels : ℕ) (places : List ℕ) → IsClosed arena from to → IsKept arena later from to
    → ((q : ℕ) → has places q ≡ true → (from ≤ q) × (q < to)) → map (tree_down later levels) places ≡ map (tree_down arena levels) places
trees_kept arena later from to levels places c k w = map_same (tree_down later levels) (tree_down arena levels) places (λ q i. let z = w q i in tree_kept arena later from to levels q c k z.0 z.1)

pub tree_node : (arena : List BareNode) (levels p : ℕ) (node : BareNode) → slice_get arena p ≡ Some node → tree_down arena (suc levels) p ≡ of_kind node.kind node.number (map (tree_down arena levels) node.elements)
unfolding tree_down
tree_node arena levels p node e = rw e refl

-- an empty plan, however many levels one looks
pub tree_blank : (arena : List BareNode) (levels p : ℕ) (node : BareNode) → slice_get arena p ≡ Some node → of_kind node.kind node.number [] ≡ Plan None None_left → node.elements ≡ [] → tree_down arena levels p ≡ Plan None None_left
unfolding tree_down
tree_blank arena zero p node e k n = refl
tree_blank arena (suc levels) p node e k n = rw (e, n) k

pub get_before : (nodes more : List BareNode) (r : ℕ) → r < length nodes → slice_get (nodes ++ more) r ≡ slice_get nodes r
get_before [] more r h = absurd (omega arith)
get_before (x ∷ nodes) more zero h = refl
get_before (x ∷ nodes) more (suc r) h = get_before nodes more r (omega arith)

pub get_last : (nodes : List BareNode) (node : BareNode) → slice_get (nodes ++ node ∷ []) (length nodes) ≡ Some node
get_last [] node = refl
get_last (x ∷ nodes) node = get_last nodes node

pub get_set : (nodes : List BareNode) (p : ℕ) (node : BareNode) → p < length nodes → slice_get (slice_set nodes p node) p ≡ Some node
get_set [] p node h = absurd (omega arith)
get_set (x ∷ nodes) zero node h = refl
get_set (x ∷ nodes) (suc p) node h = get_set nodes p node (omega arith)

pub get_other : (nodes : List BareNode) (p r : ℕ) (node : BareNode) → (p ≡ r → ⊥) → slice_get (slice_set nodes p node) r ≡ slice_get nodes r
get_other [] p r node h = refl
get_other (x ∷ nodes) zero zero node h = absurd (h refl)
get_other (x ∷ nodes) zero (suc r) node h = refl
get_other (x ∷ nodes) (suc p) zero node h = refl
get_other (x ∷ nodes) (suc p) (suc r) node h = get_other nodes p r node (λ e. h (ap suc e))

pub length_set : (nodes : List BareNode) (p : ℕ) (node : BareNode) → length (slice_set nodes p node) ≡ length nodes
length_set [] p node = refl
length_set (x ∷ nodes) zero node = refl
length_set (x ∷ nodes) (suc p) node = ap suc (length_set nodes p node)

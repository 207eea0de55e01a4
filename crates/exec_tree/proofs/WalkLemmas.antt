-- The nodes and the workingsteps of a store's tree are those of its walk.
use Rattle.std.specs.Prelude.{◌≡◌, ◌==◌, ◌||◌, ℕ, zero, suc, Bool, true, false, List, [], ◌∷◌, ◌++◌, map, flat_map, filter, Option, Some, None}
use Rattle.std.proofs.Common.{refl, sym, ap, subst, ◌∙◌, arith, cond}
use Rattle.std.proofs.lemmas.List.{append-nil, map-append}
use Rattle.std.proofs.lemmas.List.Elements.{filter-append}
use Rattle.std.proofs.lemmas.Bool.Decides.{nat_tests}
use Rattle.entity_types.specs.declared.entity.Entity.{Entity}
use Rattle.exec_tree.specs.Exec.{Exec, nodes, nodes_all, has}
use Rattle.exec_tree.specs.Exec.{works, works_all}
use Rattle.exec_tree.specs.Arena.{to_execs, of_kind}
use Rattle.exec_tree.specs.declared.kind.Kind.{Kind}
use Rattle.exec_tree.specs.declared.kind.Kind.TheVariants as kind
use Rattle.exec_tree.specs.Executable.{kind_of, kind_at, parts_by, parts_at}
use Rattle.exec_tree.specs.Walk.{Visit, channel_below, part_walk, visits_from}
use Rattle.exec_tree.specs.TreeOf.{part_tree, tree_from}
use Rattle.exec_tree.specs.Built.{is_work}

nodes_flat : (es : List Exec) → nodes_all (to_execs es) ≡ flat_map nodes es
nodes_flat [] = refl
nodes_flat (e ∷ es) = ap (λ ns. nodes e ++ ns) (nodes_flat es)

works_flat : (es : List Exec) → works_all (to_execs es) ≡ flat_map works es
works_flat [] = refl
works_flat (e ∷ es) = ap (λ ns. works e ++ ns) (works_flat es)

two : (x y : List ℕ) → x ++ y ≡ x ++ (y ++ [])
two x y = ap (λ (z : List ℕ). x ++ z) (sym (append-nil y))

one : (x : List ℕ) → x ≡ x ++ []
one x = sym (append-nil x)

nodes_by : (k : Kind) (n : ℕ) (entity : Entity) (f : Option ℕ → Exec) → nodes (of_kind k (Some n) (map f (parts_by k entity))) ≡ n ∷ flat_map nodes (map f (parts_by k entity))
nodes_by kind.Plan n entity f = ap (λ (ns : List ℕ). n ∷ ns) (nodes_flat (map f (parts_by kind.Plan entity)))
nodes_by kind.Par n entity f = ap (λ (ns : List ℕ). n ∷ ns) (nodes_flat (map f (parts_by kind.Par entity)))
nodes_by kind.NonSeq n entity f = ap (λ (ns : List ℕ). n ∷ ns) (nodes_flat (map f (parts_by kind.NonSeq entity)))
nodes_by kind.Sel n entity f = ap (λ (ns : List ℕ). n ∷ ns) (nodes_flat (map f (parts_by kind.Sel entity)))
nodes_by kind.If n entity f = ap (λ (ns : List ℕ). n ∷ ns) (two _ _)
nodes_by kind.While n entity f = ap (λ (ns : List ℕ). n ∷ ns) (one _)
nodes_by kind.Work n entity f = refl
nodes_by kind.Assign n entity f = refl
nodes_by kind.Set n entity f = refl
nodes_by kind.Wait n entity f = refl
nodes_by kind.Note n entity f = refl

nodes_found : (found : Option Entity) (n : ℕ) (f : Option ℕ → Exec) → nodes (of_kind (kind_at found) (Some n) (map f (parts_at found))) ≡ n ∷ flat_map nodes (map f (parts_at found))
nodes_found None n f = refl
nodes_found (Some entity) n f = nodes_by (kind_of entity.class) n entity f

bare_nodes : (k : Kind) (n : ℕ) → nodes (of_kind k (Some n) []) ≡ n ∷ []
bare_nodes kind.Plan n = refl
bare_nodes kind.Par n = refl
bare_nodes kind.NonSeq n = refl
bare_nodes kind.Sel n = refl
bare_nodes kind.If n = refl
bare_nodes kind.While n = refl
bare_nodes kind.Work n = refl
bare_nodes kind.Assign n = refl
bare_nodes kind.Set n = refl
bare_nodes kind.Wait n = refl
bare_nodes kind.Note n = refl

abbrev pub number_of_visit : Visit → ℕ
number_of_visit v = v.number

nodes_parts : (t : ℕ → Exec) (w : ℕ → List Visit) (ps : List (Option ℕ)) → ((m : ℕ) → nodes (t m) ≡ map number_of_visit (w m))
    → flat_map nodes (map (part_tree t) ps) ≡ map number_of_visit (flat_map (part_walk w) ps)
nodes_parts t w [] h = refl
nodes_parts t w (None ∷ ps) h = nodes_parts t w ps h
nodes_parts t w (Some m ∷ ps) h =
    ap (λ (ns : List ℕ). ns ++ flat_map nodes (map (part_tree t) ps)) (h m)
    ∙ (ap (λ (ns : List ℕ). map number_of_visit (w m) ++ ns) (nodes_parts t w ps h) ∙ sym (map-append number_of_visit (w m) (flat_map (part_walk w) ps)))

-- the nodes of the tree are those that the walk comes to, in its order
pub nodes_walked : (entities : ℕ → Option Entity) (left : ℕ) (channel : Option ℕ) (n : ℕ) → nodes (tree_from entities left n) ≡ map number_of_visit (visits_from entities left channel n)
unfolding tree_from visits_from
nodes_walked entities zero channel n = bare_nodes (kind_at (entities n)) n
nodes_walked entities (suc left) channel n =
    nodes_found (entities n) n (part_tree (λ m. tree_from entities left m))
    ∙ ap (λ (ns : List ℕ). n ∷ ns)
    (nodes_parts (λ m. tree_from entities left m) (λ m. visits_from entities left (channel_below channel (entities n)) m) (parts_at (entities n)) (λ m. nodes_walked entities left (channel_below channel (entities n)) m))

-- ---- workingsteps

abbrev own_step : Bool → ℕ → List ℕ → List ℕ
own_step b n ns = cond b (n ∷ ns) ns

works_by : (k : Kind) (n : ℕ) (entity : Entity) (f : Option ℕ → Exec) → works (of_kind k (Some n) (map f (parts_by k entity))) ≡ own_step (is_work k) n (flat_map works (map f (parts_by k entity)))
works_by kind.Plan n entity f = works_flat (map f (parts_by kind.Plan entity))
works_by kind.Par n entity f = works_flat (map f (parts_by kind.Par entity))
works_by kind.NonSeq n entity f = works_flat (map f (parts_by kind.NonSeq entity))
works_by kind.Sel n entity f = works_flat (map f (parts_by kind.Sel entity))
works_by kind.If n entity f = two _ _
works_by kind.While n entity f = one _
works_by kind.Work n entity f = refl
works_by kind.Assign n entity f = refl
works_by kind.Set n entity f = refl
works_by kind.Wait n entity f = refl
works_by kind.Note n entity f = refl

works_found : (found : Option Entity) (n : ℕ) (f : Option ℕ → Exec) → works (of_kind (kind_at found) (Some n) (map f (parts_at found))) ≡ own_step (is_work (kind_at found)) n (flat_map works (map f (parts_at found)))
works_found None n f = refl
works_found (Some entity) n f = works_by (kind_of entity.class) n entity f

bare_works : (k : Kind) (n : ℕ) → works (of_kind k (Some n) []) ≡ own_step (is_work k) n []
bare_works kind.Plan n = refl
bare_works kind.Par n = refl
bare_works kind.NonSeq n = refl
bare_works kind.Sel n = refl
bare_works kind.If n = refl
bare_works kind.While n = refl
bare_works kind.Work n = refl
bare_works kind.Assign n = refl
bare_works kind.Set n = refl
bare_works kind.Wait n = refl
bare_works kind.Note n = refl

abbrev pub is_step : (ℕ → Option Entity) → ℕ → Bool
is_step entities n = is_work (kind_at (entities n))

abbrev steps_in : (ℕ → Option Entity) → List Visit → List ℕ
steps_in entities vs = filter (is_step entities) (map number_of_visit vs)

steps_append : (entities : ℕ → Option Entity) (vs us : List Visit) → steps_in entities (vs ++ us) ≡ steps_in entities vs ++ steps_in entities us
steps_append entities vs us = ap (filter (is_step entities)) (map-append number_of_visit vs us) ∙ filter-append (is_step entities) (map number_of_visit vs) (map number_of_visit us)

works_parts : (entities : ℕ → Option Entity) (t : ℕ → Exec) (w : ℕ → List Visit) (ps : List (Option ℕ)) → ((m : ℕ) → works (t m) ≡ steps_in entities (w m))
    → flat_map works (map (part_tree t) ps) ≡ steps_in entities (flat_map (part_walk w) ps)
works_parts entities t w [] h = refl
works_parts entities t w (None ∷ ps) h = works_parts entities t w ps h
works_parts entities t w (Some m ∷ ps) h =
    ap (λ (ns : List ℕ). ns ++ flat_map works (map (part_tree t) ps)) (h m)
    ∙ (ap (λ (ns : List ℕ). steps_in entities (w m) ++ ns) (works_parts entities t w ps h) ∙ sym (steps_append entities (w m) (flat_map (part_walk w) ps)))

-- the workingsteps of the tree are those that the walk comes to, in its order
pub works_walked : (entities : ℕ → Option Entity) (left : ℕ) (channel : Option ℕ) (n : ℕ) → works (tree_from entities left n) ≡ filter (is_step entities) (map number_of_visit (visits_from entities left channel n))
unfolding tree_from visits_from
works_walked entities zero channel n = bare_works (kind_at (entities n)) n
works_walked entities (suc left) channel n =
    works_found (entities n) n (part_tree (λ m. tree_from entities left m))
    ∙ ap (own_step (is_work (kind_at (entities n))) n)
    (works_parts entities (λ m. tree_from entities left m) (λ m. visits_from entities left (channel_below channel (entities n)) m) (parts_at (entities n)) (λ m. works_walked entities left (channel_below channel (entities n)) m))

has_filtered : (test : ℕ → Bool) (ns : List ℕ) (n : ℕ) → has (filter test ns) n ≡ true → test n ≡ true
has_filtered test [] n h = absurd (cc)
has_filtered test (m ∷ ns) n h = go (test m) refl h (has_filtered test ns n)
  where
    same : (b : Bool) → (m == n) ≡ b → test m ≡ true → (b || has (filter test ns) n) ≡ true → (has (filter test ns) n ≡ true → test n ≡ true) → test n ≡ true
    same true e t i f = let is : m ≡ n = grind (arith, nat_tests) in subst (λ (k : ℕ). test k ≡ true) is t
    same false e t i f = f i

    go : (b : Bool) → test m ≡ b → has (cond b (m ∷ filter test ns) (filter test ns)) n ≡ true → (has (filter test ns) n ≡ true → test n ≡ true) → test n ≡ true
    go true t i f = same (m == n) refl t i f
    go false t i f = f i

-- a workingstep of the tree is one by its class
pub work_is : (entities : ℕ → Option Entity) (left n m : ℕ) → has (works (tree_from entities left n)) m ≡ true → is_step entities m ≡ true
work_is entities left n m h =
    has_filtered (is_step entities) (map number_of_visit (visits_from entities left None n)) m (subst (λ (ns : List ℕ). has ns m ≡ true) (works_walked entities left None n) h)

-- What is built is the store's tree.
use Rattle.std.specs.Prelude.{◌≡◌, ℕ, Bool, List, [], ◌∷◌, ◌++◌, map, length, Option, None}
use Rattle.std.proofs.Common.{refl, sym, ap, subst, ◌∙◌}
use Rattle.entity_types.specs.declared.entity.Entity.{Entity}
use Rattle.std.specs.BTreeMap.{BTreeMap}
use Rattle.exec_tree.specs.declared.node.Node.{Node}
use Rattle.exec_tree.specs.declared.node.BareNode.{BareNode}
use Rattle.exec_tree.specs.Exec.{Exec, AreDistinct, HasChoices}
use Rattle.exec_tree.specs.Exec as exec
use Rattle.exec_tree.specs.Arena.{tree_down, numbers_in, IsClosed, AreShaped, AreNamed}
use Rattle.exec_tree.specs.Said.{bare_of, said_at}
use Rattle.exec_tree.specs.TreeFault.{Seen, first_fault, seen_with, seen_after}
use Rattle.exec_tree.specs.Walk.{Visit, visits_from}
use Rattle.exec_tree.specs.TreeOf.{tree_from}
use Rattle.exec_tree.specs.Walked.{Walked, seen_of, AreKnown, Grows, IsHeld}
use Rattle.exec_tree.specs.Built.{IsTree, IsTreeFrom, steps_in}
use Rattle.std.proofs.Common.{append_assoc, arith}
use Rattle.std.proofs.lemmas.Option.{slice_get_within}
use Rattle.std.proofs.lemmas.List.{append-nil}
use Rattle.exec_tree.proofs.WalkLemmas.{number_of_visit, nodes_walked}
use Rattle.exec_tree.proofs.ChannelLemmas.{labels_walked}
use Rattle.exec_tree.proofs.SoundLemmas.{tree_distinct, tree_choices}

abbrev pub walked_from : List ℕ → Bool → Walked
walked_from channels fixed = record { nodes = []; weight = 0; channels = channels; fixed = fixed }

abbrev pub starting : List ℕ → Bool → Seen
starting channels fixed = record { numbers = []; weight = 0; channels = channels; fixed = fixed }

pub planted : (entities : ℕ → Option Entity) (main place : ℕ) (channels : List ℕ) (fixed : Bool) (old new : Walked) → old ≡ walked_from channels fixed → Grows entities old new (visits_from entities 64 None main)
    → IsHeld old new 64 place (tree_from entities 64 main) → IsTreeFrom (starting channels fixed) entities main (record { nodes = new.nodes; said = map (said_at entities) new.nodes; channels = new.channels })
planted entities main place channels fixed old new e g h =
    go (subst (λ (w : Walked). Grows entities w new (visits_from entities 64 None main)) e g) (subst (λ (w : Walked). IsHeld w new 64 place (tree_from entities 64 main)) e h)
  where
    go : Grows entities (walked_from channels fixed) new (visits_from entities 64 None main) → IsHeld (walked_from channels fixed) new 64 place (tree_from entities 64 main)
        → IsTreeFrom (starting channels fixed) entities main (record { nodes = new.nodes; said = map (said_at entities) new.nodes; channels = new.channels })
    go w i = record {
      no_fault = w.no_fault;
      held = ap (tree_down new.nodes 64) (sym i.at) ∙ i.held;
      channels = ap (λ (s : Seen). s.channels) w.seen;
      labels = w.labels ∙ labels_walked (starting channels fixed) entities main;
      said = refl;
    }

-- a walk that is closed and shaped, its nodes with what they say, and its workingsteps are a tree
pub is_tree : (places : BTreeMap ℕ ℕ) (nodes : List BareNode) (full : List Node) (weight : ℕ) (steps channels : List ℕ) → AreKnown places nodes weight channels → IsClosed nodes 0 (length nodes) → AreShaped nodes
    → AreNamed nodes → numbers_in nodes ≡ exec.nodes (tree_down nodes 64 0) → AreDistinct (exec.nodes (tree_down nodes 64 0)) → HasChoices (tree_down nodes 64 0) → steps ≡ steps_in nodes → map bare_of full ≡ nodes → IsTree places (map bare_of full) steps channels
is_tree places nodes full weight steps channels k closed shaped named preorder distinct choices steps_are bare = subst (λ (ns : List BareNode). IsTree places ns steps channels) (sym bare) (record {
  at = k.at;
  closed = closed;
  shaped = shaped;
  named = named;
  preorder = preorder;
  distinct = distinct;
  choices = choices;
  small = k.small;
  steps_are = steps_are;
  few = k.few;
})

-- what holds of a store's tree holds of that which the builder holds
pub held_is : (entities : ℕ → Option Entity) (main place : ℕ) (channels : List ℕ) (fixed : Bool) (old new : Walked) → old ≡ walked_from channels fixed → IsHeld old new 64 place (tree_from entities 64 main)
    → tree_down new.nodes 64 0 ≡ tree_from entities 64 main
held_is entities main place channels fixed old new e h = go (subst (λ (w : Walked). IsHeld w new 64 place (tree_from entities 64 main)) e h)
  where
    go : IsHeld (walked_from channels fixed) new 64 place (tree_from entities 64 main) → tree_down new.nodes 64 0 ≡ tree_from entities 64 main
    go i = ap (tree_down new.nodes 64) (sym i.at) ∙ i.held

no_fault_is : (entities : ℕ → Option Entity) (main : ℕ) (channels : List ℕ) (fixed : Bool) (old new : Walked) → old ≡ walked_from channels fixed → Grows entities old new (visits_from entities 64 None main)
    → first_fault entities (starting channels fixed) (visits_from entities 64 None main) ≡ None
no_fault_is entities main channels fixed old new e g = ap (λ (w : Walked). first_fault entities (seen_of w) (visits_from entities 64 None main)) (sym e) ∙ g.no_fault

pub held_distinct : (entities : ℕ → Option Entity) (main place : ℕ) (channels : List ℕ) (fixed : Bool) (old new : Walked) → old ≡ walked_from channels fixed → Grows entities old new (visits_from entities 64 None main)
    → IsHeld old new 64 place (tree_from entities 64 main) → AreDistinct (exec.nodes (tree_down new.nodes 64 0))
held_distinct entities main place channels fixed old new e g h =
    subst (λ (x : Exec). AreDistinct (exec.nodes x)) (sym (held_is entities main place channels fixed old new e h)) (tree_distinct (starting channels fixed) entities main (no_fault_is entities main channels fixed old new e g))

numbers_after : (entities : ℕ → Option Entity) (seen : Seen) (vs : List Visit) → (seen_after entities seen vs).numbers ≡ seen.numbers ++ map number_of_visit vs
numbers_after entities seen [] = sym (append-nil seen.numbers)
numbers_after entities seen (v ∷ vs) = numbers_after entities (seen_with entities seen v) vs ∙ append_assoc seen.numbers (v.number ∷ []) (map number_of_visit vs)

pub held_named : (entities : ℕ → Option Entity) (main : ℕ) (channels : List ℕ) (fixed : Bool) (old new : Walked) → old ≡ walked_from channels fixed → Grows entities old new (visits_from entities 64 None main) → AreNamed new.nodes
held_named entities main channels fixed old new e g = λ p node at none.
    let start : length old.nodes ≡ 0 = ap (λ (w : Walked). length w.nodes) e in
    g.named p node (omega (arith, start)) (slice_get_within new.nodes p node at) at none

-- the nodes follow each other as the walk, which is in preorder
pub held_preorder : (entities : ℕ → Option Entity) (main place : ℕ) (channels : List ℕ) (fixed : Bool) (old new : Walked) → old ≡ walked_from channels fixed → Grows entities old new (visits_from entities 64 None main)
    → IsHeld old new 64 place (tree_from entities 64 main) → numbers_in new.nodes ≡ exec.nodes (tree_down new.nodes 64 0)
held_preorder entities main place channels fixed old new e g h =
    let walk = visits_from entities 64 None main in
    ap (λ (s : Seen). s.numbers) g.seen
    ∙ (ap (λ (w : Walked). (seen_after entities (seen_of w) walk).numbers) e
    ∙ (numbers_after entities (starting channels fixed) walk
    ∙ (sym (nodes_walked entities 64 None main) ∙ sym (ap exec.nodes (held_is entities main place channels fixed old new e h)))))

pub held_choices : (entities : ℕ → Option Entity) (main place : ℕ) (channels : List ℕ) (fixed : Bool) (old new : Walked) → old ≡ walked_from channels fixed → Grows entities old new (visits_from entities 64 None main)
    → IsHeld old new 64 place (tree_from entities 64 main) → HasChoices (tree_down new.nodes 64 0)
held_choices entities main place channels fixed old new e g h =
    subst HasChoices (sym (held_is entities main place channels fixed old new e h)) (tree_choices (starting channels fixed) entities main (no_fault_is entities main channels fixed old new e g))

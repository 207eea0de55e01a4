-- The nodes with what they say, made of bare nodes one after another.
use Rattle.std.specs.Prelude.{◌≡◌, ℕ, List, [], ◌∷◌, ◌++◌, length, map, Option}
use Rattle.std.proofs.Common.{refl, sym, ap, subst, ◌∙◌, arith, append_assoc}
use Rattle.std.proofs.lemmas.List.{append-nil, map_push}
use Rattle.entity_types.specs.declared.entity.Entity.{Entity}
use Rattle.exec_tree.specs.declared.kind.Kind.{Kind}
use Rattle.exec_tree.specs.declared.kind.Kind.TheVariants as kind
use Rattle.exec_tree.specs.declared.kind.NodeKind.{NodeKind}
use Rattle.exec_tree.specs.declared.node.Node.{Node}
use Rattle.exec_tree.specs.declared.node.BareNode.{BareNode}
use Rattle.exec_tree.specs.Said.{Said, said_of, kind_in, bare_of, said_by, said_for, found_at, said_at}

-- what an executable says tells its kind
pub kind_stays : (entities : ℕ → Option Entity) (k : Kind) (found : Option Entity) → kind_in (said_for entities k found) ≡ k
kind_stays entities kind.Plan found = refl
kind_stays entities kind.Par found = refl
kind_stays entities kind.NonSeq found = refl
kind_stays entities kind.Sel found = refl
kind_stays entities kind.If found = refl
kind_stays entities kind.While found = refl
kind_stays entities kind.Work found = refl
kind_stays entities kind.Assign found = refl
kind_stays entities kind.Set found = refl
kind_stays entities kind.Wait found = refl
kind_stays entities kind.Note found = refl

-- a node with what it says is the bare node without it
pub bare_is : (entities : ℕ → Option Entity) (node : BareNode) (k : NodeKind) → said_of k ≡ said_at entities node
    → bare_of (record { number = node.number; channel = node.channel; kind = k; elements = node.elements }) ≡ node
bare_is entities node k e =
    ap (λ (j : Kind). let b : BareNode = record { number = node.number; channel = node.channel; kind = j; elements = node.elements } in b)
    (ap kind_in e ∙ kind_stays entities node.kind (found_at entities node.number))

-- of the nodes those so far have what they say, and these are left
pub record AreFull (entities : ℕ → Option Entity) (full : List Node) (left all : List BareNode) : Type 0 where
  pub whole : map bare_of full ++ left ≡ all
  pub said : map said_by full ≡ map (said_at entities) (map bare_of full)

pub full_start : (entities : ℕ → Option Entity) (all : List BareNode) → AreFull entities [] all all
full_start entities all = record { whole = refl; said = refl }

pub full_on : (entities : ℕ → Option Entity) (full later : List Node) (node : BareNode) (next : Node) (left rest all : List BareNode) → AreFull entities full left all → left ≡ node ∷ rest
    → bare_of next ≡ node → said_by next ≡ said_at entities node → later ≡ full ++ next ∷ [] → AreFull entities later rest all
full_on entities full later node next left rest all f e b s is = subst (λ (ns : List Node). AreFull entities ns rest all) (sym is) (record {
  whole = ap (λ (ns : List BareNode). ns ++ rest) (map_push bare_of full next)
      ∙ (append_assoc (map bare_of full) (bare_of next ∷ []) rest
      ∙ (ap (λ (n : BareNode). map bare_of full ++ (n ∷ rest)) b ∙ (ap (λ (ns : List BareNode). map bare_of full ++ ns) (sym e) ∙ f.whole)));
  said = map_push said_by full next
      ∙ (ap (λ (ss : List Said). ss ++ said_by next ∷ []) f.said
      ∙ (ap (λ (x : Said). map (said_at entities) (map bare_of full) ++ x ∷ []) (s ∙ ap (said_at entities) (sym b))
      ∙ (sym (map_push (said_at entities) (map bare_of full) (bare_of next)) ∙ ap (map (said_at entities)) (sym (map_push bare_of full next)))));
})

none_left : (left : List BareNode) (n : ℕ) → n ≡ 0 → n ≡ length left → left ≡ []
none_left [] n z l = refl
none_left (x ∷ left) n z l = absurd (omega arith)

pub full_end : (entities : ℕ → Option Entity) (full : List Node) (left all : List BareNode) (n : ℕ) → n ≡ 0 → n ≡ length left → AreFull entities full left all
    → (map bare_of full ≡ all) × (map said_by full ≡ map (said_at entities) all)
full_end entities full left all n z l f =
    let e = none_left left n z l in
    let whole : map bare_of full ≡ all = sym (append-nil (map bare_of full)) ∙ (ap (λ (ns : List BareNode). map bare_of full ++ ns) (sym e) ∙ f.whole) in
    (whole, f.said ∙ ap (map (said_at entities)) whole)

-- What a node of a store's tree does next is what its kind does.
use Rattle.std.specs.Prelude.{◌≡◌, ◌==◌, ◌||◌, ℕ, zero, suc, Bool, true, false, if◌then◌else◌, List, [], ◌∷◌, map, Option, Some, None}
use Rattle.std.proofs.Common.{refl, sym, ap, subst, inl, inr, arith}
use Rattle.std.proofs.lemmas.Bool.Decides.{nat_tests}
use Rattle.entity_types.specs.declared.entity.Entity.{Entity}
use Rattle.exec_tree.specs.Exec.{Exec, Work, Leaf, Plan, Par, NonSeq, Sel, If, While, Execs, None_left, Then, nodes, has, works}
use Rattle.exec_tree.specs.declared.kind.Kind.{Kind}
use Rattle.exec_tree.specs.declared.kind.Kind.TheVariants as kinds
use Rattle.exec_tree.specs.Arena.{to_execs, of_kind, first_of, second_of}
use Rattle.exec_tree.specs.Executable.{kind_at, parts_at}
use Rattle.exec_tree.specs.TreeFault.{walk_of}
use Rattle.exec_tree.specs.Built.{is_work, steps_of}
use Rattle.exec_tree.specs.TreeOf.{part_tree, tree_from, tree_of}
use Rattle.trace_law.specs.Of.{only}
use Rattle.trace_law.specs.Own.{turns}
use Rattle.trace_law.specs.Cells.{last_body}
use Rattle.trace_law.specs.State.{stage}
use Rattle.trace_law.specs.Offer.{Offer, Picks, Tests, offer, offer_among, offer_of_work, offer_of_two}
use Rattle.run_log.specs.declared.entry.Entry.{Entry}
use Rattle.run_state.proofs.QuestionLemmas.{has_filter}
use Rattle.run_state.specs.Kinds.{kind_of_leaf, AgreesWith, AllAgree, IsDoneBy}

-- ---- the tree of a store agrees with its kinds

abbrev EachAgrees : (ℕ → Kind) → List Exec → Type 0
EachAgrees k [] = Unit {0}
EachAgrees k (e ∷ es) = AgreesWith k e × EachAgrees k es

all_agree : (k : ℕ → Kind) (es : List Exec) → EachAgrees k es → AllAgree k (to_execs es)
all_agree k [] h = tt
all_agree k (e ∷ es) h = (h.0, all_agree k es h.1)

first_agrees : (k : ℕ → Kind) (es : List Exec) → EachAgrees k es → AgreesWith k (first_of es)
first_agrees k [] h = tt
first_agrees k (e ∷ es) h = h.0

second_agrees : (k : ℕ → Kind) (es : List Exec) → EachAgrees k es → AgreesWith k (second_of es)
second_agrees k [] h = tt
second_agrees k (e ∷ es) h = first_agrees k es h.1

kind_agrees : (k : ℕ → Kind) (own : Kind) (n : ℕ) (es : List Exec) → k n ≡ own → EachAgrees k es → AgreesWith k (of_kind own (Some n) es)
kind_agrees k kinds.Plan n es e h = all_agree k es h
kind_agrees k kinds.Par n es e h = all_agree k es h
kind_agrees k kinds.NonSeq n es e h = all_agree k es h
kind_agrees k kinds.Sel n es e h = all_agree k es h
kind_agrees k kinds.If n es e h = (e, first_agrees k es h, second_agrees k es h)
kind_agrees k kinds.While n es e h = (e, first_agrees k es h)
kind_agrees k kinds.Work n es e h = e
kind_agrees k kinds.Assign n es e h = e
kind_agrees k kinds.Set n es e h = e
kind_agrees k kinds.Wait n es e h = e
kind_agrees k kinds.Note n es e h = e

parts_agree : (k : ℕ → Kind) (t : ℕ → Exec) (ps : List (Option ℕ)) → ((m : ℕ) → AgreesWith k (t m)) → EachAgrees k (map (part_tree t) ps)
parts_agree k t [] f = tt
parts_agree k t (None ∷ ps) f = (tt, parts_agree k t ps f)
parts_agree k t (Some m ∷ ps) f = (f m, parts_agree k t ps f)

tree_agrees : (entities : ℕ → Option Entity) (left n : ℕ) → AgreesWith (λ m. kind_at (entities m)) (tree_from entities left n)
unfolding tree_from
tree_agrees entities zero n = kind_agrees (λ m. kind_at (entities m)) (kind_at (entities n)) n [] refl tt
tree_agrees entities (suc left) n =
    kind_agrees (λ m. kind_at (entities m)) (kind_at (entities n)) n (map (part_tree (λ m. tree_from entities left m)) (parts_at (entities n))) refl
    (parts_agree (λ m. kind_at (entities m)) (λ m. tree_from entities left m) (parts_at (entities n)) (λ m. tree_agrees entities left m))

-- ---- what a node offers

no_way : false ≡ true → ⊥
no_way e = cc

is_it : (n m : ℕ) → has (n ∷ []) m ≡ true → n ≡ m
is_it n m h = grind (arith, nat_tests)

of_work : (o : Option ℕ) (k : Kind) → k ≡ kinds.Work → IsDoneBy (offer_of_work o) k
of_work None k e = e
of_work (Some j) k e = e

picks_or : (count : ℕ) (ks : List ℕ) (o : Offer) (k : Kind) (b : Bool) → IsDoneBy o k → IsDoneBy (if b then Picks count ks else o) k
picks_or count ks o k true h = tt
picks_or count ks o k false h = h

mutual
  pub done_by : (k : ℕ → Kind) (e : Exec) → AgreesWith k e → (t : List Entry) (m : ℕ) → has (nodes e) m ≡ true → IsDoneBy (offer e t m) (k m)
  done_by k (Work n) a t m h = of_work (stage m t) (k m) (subst (λ (i : ℕ). k i ≡ kinds.Work) (is_it n m h) a)
  done_by k (Leaf n l) a t m h = subst (λ (i : ℕ). k i ≡ kind_of_leaf l) (is_it n m h) a
  done_by k (Plan n es) a t m h = all_done_by k es a t m
  done_by k (Par n es) a t m h = all_done_by k es a t m
  done_by k (NonSeq n es) a t m h = picks_or _ _ _ _ (n == m) (all_done_by k es a t m)
  done_by k (Sel n es) a t m h = picks_or _ _ _ _ (n == m) (all_done_by k es a t m)
  done_by k (If n x y) a t m h = go (n == m) refl (λ p. done_by k x a.1 (only (nodes x) t) m p) (λ q. done_by k y a.2 (only (nodes y) t) m q)
    where
      one : (b c : Bool) → has (nodes x) m ≡ b → has (nodes y) m ≡ c → (has (nodes x) m ≡ true → IsDoneBy (offer x (only (nodes x) t) m) (k m)) → (has (nodes y) m ≡ true → IsDoneBy (offer y (only (nodes y) t) m) (k m))
          → IsDoneBy (offer_of_two b c (offer x (only (nodes x) t) m) (offer y (only (nodes y) t) m)) (k m)
      one true c p q f g = f p
      one false true p q f g = g q
      one false false p q f g = tt

      go : (b : Bool) → (n == m) ≡ b → (has (nodes x) m ≡ true → IsDoneBy (offer x (only (nodes x) t) m) (k m)) → (has (nodes y) m ≡ true → IsDoneBy (offer y (only (nodes y) t) m) (k m))
          → IsDoneBy (if b then Tests else offer_of_two (has (nodes x) m) (has (nodes y) m) (offer x (only (nodes x) t) m) (offer y (only (nodes y) t) m)) (k m)
      go true e f g = let s : n ≡ m = grind (arith, nat_tests) in inl (subst (λ (i : ℕ). k i ≡ kinds.If) s a.0)
      go false e f g = one (has (nodes x) m) (has (nodes y) m) refl refl f g
  done_by k (While n x) a t m h = go (n == m) refl h (λ p. done_by k x a.1 (last_body (turns n t)) m p)
    where
      go : (b : Bool) → (n == m) ≡ b → (b || has (nodes x) m) ≡ true → (has (nodes x) m ≡ true → IsDoneBy (offer x (last_body (turns n t)) m) (k m)) → IsDoneBy (if b then Tests else offer x (last_body (turns n t)) m) (k m)
      go true e f g = let s : n ≡ m = grind (arith, nat_tests) in inr (subst (λ (i : ℕ). k i ≡ kinds.While) s a.0)
      go false e f g = g f

  all_done_by : (k : ℕ → Kind) (es : Execs) → AllAgree k es → (t : List Entry) (m : ℕ) → IsDoneBy (offer_among es t m) (k m)
  all_done_by k None_left a t m = tt
  all_done_by k (Then e es) a t m = go (has (nodes e) m) refl (λ h. done_by k e a.0 (only (nodes e) t) m h) (all_done_by k es a.1 t m)
    where
      go : (b : Bool) → has (nodes e) m ≡ b → (has (nodes e) m ≡ true → IsDoneBy (offer e (only (nodes e) t) m) (k m)) → IsDoneBy (offer_among es t m) (k m)
          → IsDoneBy (if b then offer e (only (nodes e) t) m else offer_among es t m) (k m)
      go true h f g = f h
      go false h f g = g

-- a node of a store's tree does what its kind does
pub store_done_by : (entities : ℕ → Option Entity) (main : ℕ) (t : List Entry) (m : ℕ) → has (nodes (tree_of entities main)) m ≡ true → IsDoneBy (offer (tree_of entities main) t m) (kind_at (entities m))
store_done_by entities main t m h = done_by (λ n. kind_at (entities n)) (tree_of entities main) (tree_agrees entities 64 main) t m h

-- a node that is dispatched is a workingstep of the tree
pub works_has : (entities : ℕ → Option Entity) (main n : ℕ) → nodes (tree_of entities main) ≡ map (λ v. v.number) (walk_of entities main) → works (tree_of entities main) ≡ steps_of entities main
    → has (nodes (tree_of entities main)) n ≡ true → kind_at (entities n) ≡ kinds.Work → has (works (tree_of entities main)) n ≡ true
works_has entities main n e f h k =
    subst (λ (ns : List ℕ). has ns n ≡ true) (sym f)
    (has_filter (λ m. is_work (kind_at (entities m))) (map (λ v. v.number) (walk_of entities main)) n (subst (λ (ns : List ℕ). has ns n ≡ true) e h) (ap is_work k))

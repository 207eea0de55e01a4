-- The places of the nodes ascend in the order of the tree, so what is found first by place is what is found first in that order.
use Rattle.std.specs.Prelude.{◌≡◌, ◌<◌, ◌≤◌, ◌+◌, ◌==◌, ℕ, zero, suc, Bool, true, false, cond, List, [], ◌∷◌, map, find, slice_get, Option, Some, None}
use Rattle.std.specs.List.{filter, cons_option}
use Rattle.std.proofs.Common.{refl, sym, ◌∙◌, ap, subst, arith}
use Rattle.exec_tree.specs.Exec.{nodes, has, AreDistinct}
use Rattle.exec_tree.specs.Arena.{numbers_in, AreNamed}
use Rattle.exec_tree.specs.declared.limits.TheConstants.{MAX_TREE_NESTING}
use Rattle.exec_tree.specs.declared.node.BareNode.{BareNode}
use Rattle.tree_table.specs.Placed.{placed, number_at}
use Rattle.tree_table.proofs.ListLemmas.{same_number, has_self, has_rest, rest_has}
use Rattle.run_frames.proofs.NumberedLemmas.{IsNumbered, number_is, numbered_down, one_place}

-- each is at least this one, and the next is larger
abbrev pub Ascends : ℕ → List ℕ → Type 0
Ascends from [] = Unit {0}
Ascends from (p ∷ ps) = (from ≤ p) × Ascends (p + 1) ps

lower : (a b : ℕ) (ps : List ℕ) → a ≤ b → Ascends b ps → Ascends a ps
lower a b [] l s = tt
lower a b (p ∷ ps) l s = let h = s.0 in (omega (arith, l, h), s.1)

pub ascends_within : (from : ℕ) (ps : List ℕ) (q : ℕ) → Ascends from ps → has ps q ≡ true → from ≤ q
ascends_within from [] q s h = absurd (let w : false ≡ true = h in cc)
ascends_within from (p ∷ ps) q s h = go (p == q) refl (λ i. ascends_within (p + 1) ps q s.1 i)
  where
    go : (b : Bool) → (p == q) ≡ b → (has ps q ≡ true → p + 1 ≤ q) → from ≤ q
    go true e rec = let f = same_number p q e in let l = s.0 in omega (arith, f, l)
    go false e rec = let l = rec (rest_has p ps q h e) in let m = s.0 in omega (arith, l, m)

filter_ascends : (test : ℕ → Bool) (from : ℕ) (ps : List ℕ) → Ascends from ps → Ascends from (filter test ps)
filter_ascends test from [] s = tt
filter_ascends test from (p ∷ ps) s = go (test p) (filter_ascends test (p + 1) ps s.1)
  where
    go : (b : Bool) → Ascends (p + 1) (filter test ps) → Ascends from (cond b (p ∷ filter test ps) (filter test ps))
    go true r = (s.0, r)
    go false r = let l = s.0 in lower from (p + 1) (filter test ps) (omega (arith, l)) r

filter_within : (test : ℕ → Bool) (ps : List ℕ) (q : ℕ) → has (filter test ps) q ≡ true → has ps q ≡ true
filter_within test [] q h = h
filter_within test (p ∷ ps) q h = go (test p) h (λ i. filter_within test ps q i)
  where
    go : (b : Bool) → has (cond b (p ∷ filter test ps) (filter test ps)) q ≡ true → (has (filter test ps) q ≡ true → has ps q ≡ true) → has (p ∷ ps) q ≡ true
    go true i rec = own (p == q) refl
      where
        own : (b : Bool) → (p == q) ≡ b → has (p ∷ ps) q ≡ true
        own true e = subst (λ (r : ℕ). has (p ∷ ps) r ≡ true) (same_number p q e) (has_self p ps)
        own false e = has_rest p ps q (rec (rest_has p (filter test ps) q i e))
    go false i rec = has_rest p ps q (rec i)

-- ---- the places that have a number

abbrev with_number : Option ℕ → ℕ → List ℕ → List ℕ
with_number None i ps = ps
with_number (Some n) i ps = i ∷ ps

abbrev numbered_from : ℕ → List BareNode → List ℕ
numbered_from i [] = []
numbered_from i (node ∷ arena) = with_number node.number i (numbered_from (i + 1) arena)

numbered_ascends : (i : ℕ) (arena : List BareNode) → Ascends i (numbered_from i arena)
numbered_ascends i [] = tt
numbered_ascends i (node ∷ arena) = go node.number (numbered_ascends (i + 1) arena)
  where
    go : (o : Option ℕ) → Ascends (i + 1) (numbered_from (i + 1) arena) → Ascends i (with_number o i (numbered_from (i + 1) arena))
    go None r = lower i (i + 1) (numbered_from (i + 1) arena) (omega arith) r
    go (Some n) r = (omega arith, r)

-- each has one
abbrev AreNumbered : List BareNode → List ℕ → Type 0
AreNumbered arena ps = (q : ℕ) → has ps q ≡ true → IsNumbered arena q

-- the nodes from place i on are the rest
abbrev IsRest : List BareNode → ℕ → List BareNode → Type 0
IsRest all i arena = (k : ℕ) → slice_get all (i + k) ≡ slice_get arena k

next_rest : (all : List BareNode) (i : ℕ) (node : BareNode) (arena : List BareNode) → IsRest all i (node ∷ arena) → IsRest all (i + 1) arena
next_rest all i node arena h = λ k. (let e : i + 1 + k ≡ i + suc k = omega arith in ap (slice_get all) e ∙ h (suc k))

first_rest : (all : List BareNode) (i : ℕ) (node : BareNode) (arena : List BareNode) → IsRest all i (node ∷ arena) → slice_get all i ≡ Some node
first_rest all i node arena h = (let e : i ≡ i + zero = omega arith in ap (slice_get all) e ∙ h zero)

numbered_have : (all : List BareNode) (i : ℕ) (arena : List BareNode) → IsRest all i arena → AreNumbered all (numbered_from i arena)
numbered_have all i [] h q j = absurd (let w : false ≡ true = j in cc)
numbered_have all i (node ∷ arena) h q j = go node.number refl j (λ r. numbered_have all (i + 1) arena (next_rest all i node arena h) q r)
  where
    go : (o : Option ℕ) → node.number ≡ o → has (with_number o i (numbered_from (i + 1) arena)) q ≡ true → (has (numbered_from (i + 1) arena) q ≡ true → IsNumbered all q) → IsNumbered all q
    go None e r rec = rec r
    go (Some n) e r rec = own (i == q) refl
      where
        own : (b : Bool) → (i == q) ≡ b → IsNumbered all q
        own true f = record { node = node; at = ap (slice_get all) (sym (same_number i q f)) ∙ first_rest all i node arena h; number = n; has_it = e }
        own false f = rec (rest_has i (numbered_from (i + 1) arena) q r f)

numbered_are : (all : List BareNode) (i : ℕ) (arena : List BareNode) → IsRest all i arena → map (number_at all) (numbered_from i arena) ≡ numbers_in arena
numbered_are all i [] h = refl
numbered_are all i (node ∷ arena) h = go node.number refl (numbered_are all (i + 1) arena (next_rest all i node arena h))
  where
    go : (o : Option ℕ) → node.number ≡ o → map (number_at all) (numbered_from (i + 1) arena) ≡ numbers_in arena → map (number_at all) (with_number o i (numbered_from (i + 1) arena)) ≡ cons_option o (numbers_in arena)
    go None e r = r
    go (Some n) e r =
        let own : IsNumbered all i = record { node = node; at = first_rest all i node arena h; number = n; has_it = e } in
        let is : number_at all i ≡ n = number_is all i own in
        ap (λ (ns : List ℕ). number_at all i ∷ ns) r ∙ ap (λ (m : ℕ). m ∷ numbers_in arena) is

-- ---- the nodes of the tree are these

same_places : (arena : List BareNode) (ps qs : List ℕ) → AreDistinct (numbers_in arena) → AreNumbered arena ps → AreNumbered arena qs → map (number_at arena) ps ≡ map (number_at arena) qs → ps ≡ qs
same_places arena [] [] d s t e = refl
same_places arena [] (q ∷ qs) d s t e = absurd (let w : [] ≡ number_at arena q ∷ map (number_at arena) qs = e in cc)
same_places arena (p ∷ ps) [] d s t e = absurd (let w : number_at arena p ∷ map (number_at arena) ps ≡ [] = e in cc)
same_places arena (p ∷ ps) (q ∷ qs) d s t e =
    let first : number_at arena p ≡ number_at arena q = head_same (number_at arena p) (number_at arena q) (map (number_at arena) ps) (map (number_at arena) qs) e in
    let rest : map (number_at arena) ps ≡ map (number_at arena) qs = tail_same (number_at arena p) (number_at arena q) (map (number_at arena) ps) (map (number_at arena) qs) e in
    let one : p ≡ q = one_place arena p q (s p (has_self p ps)) (t q (has_self q qs)) d first in
    ap (λ (r : ℕ). r ∷ ps) one ∙ ap (λ (rs : List ℕ). q ∷ rs) (same_places arena ps qs d (λ r i. s r (has_rest p ps r i)) (λ r i. t r (has_rest q qs r i)) rest)
  where
    head_same : (a b : ℕ) (k l : List ℕ) → a ∷ k ≡ b ∷ l → a ≡ b
    head_same a b k l h = cc

    tail_same : (a b : ℕ) (k l : List ℕ) → a ∷ k ≡ b ∷ l → k ≡ l
    tail_same a b k l h = cc

pub placed_ascends : (arena : List BareNode) → AreNamed arena → AreDistinct (numbers_in arena) → numbers_in arena ≡ map (number_at arena) (nodes (placed arena)) → Ascends 0 (nodes (placed arena))
placed_ascends arena named d order =
    let rest : IsRest arena 0 arena = λ k. (let e : 0 + k ≡ k = omega arith in ap (slice_get arena) e) in
    let same = same_places arena (numbered_from 0 arena) (nodes (placed arena)) d (numbered_have arena 0 arena rest) (λ q h. numbered_down arena MAX_TREE_NESTING 0 q named h) (numbered_are arena 0 arena rest ∙ order) in
    subst (λ (ps : List ℕ). Ascends 0 ps) same (numbered_ascends 0 arena)

-- what is a part of it in its order ascends too
pub part_ascends : (test : ℕ → Bool) (all ps : List ℕ) → Ascends 0 all → ps ≡ filter test all → Ascends 0 ps
part_ascends test all ps s e = subst (λ (qs : List ℕ). Ascends 0 qs) (sym e) (filter_ascends test 0 all s)

pub part_within : (test : ℕ → Bool) (all ps : List ℕ) (q : ℕ) → ps ≡ filter test all → has ps q ≡ true → has all q ≡ true
part_within test all ps q e h = filter_within test all q (subst (λ (qs : List ℕ). has qs q ≡ true) e h)

-- ---- the first

pub find_least : (r : ℕ → ℕ) (test : ℕ → Bool) (from : ℕ) (ps : List ℕ) (p : ℕ) → Ascends from ps → has ps p ≡ true → test (r p) ≡ true → ((q : ℕ) → q < p → has ps q ≡ true → test (r q) ≡ false) → find test (map r ps) ≡ Some (r p)
find_least r test from [] p s h y n = absurd (let w : false ≡ true = h in cc)
find_least r test from (q ∷ ps) p s h y n = go (q == p) refl (λ i. find_least r test (q + 1) ps p s.1 i y (λ j l k. n j l (has_rest q ps j k)))
  where
    go : (b : Bool) → (q == p) ≡ b → (has ps p ≡ true → find test (map r ps) ≡ Some (r p)) → cond (test (r q)) (Some (r q)) (find test (map r ps)) ≡ Some (r p)
    go true e rec =
        let f = same_number q p e in
        let yes_is : test (r q) ≡ true = ap (λ (j : ℕ). test (r j)) f ∙ y in
        ap (λ (b : Bool). cond b (Some (r q)) (find test (map r ps))) yes_is ∙ ap (λ (j : ℕ). Some (r j)) f
    go false e rec =
        let i = rest_has q ps p h e in
        let l = ascends_within (q + 1) ps p s.1 i in
        ap (λ (b : Bool). cond b (Some (r q)) (find test (map r ps))) (n q (omega (arith, l)) (has_self q ps)) ∙ rec i

pub find_nothing : (r : ℕ → ℕ) (test : ℕ → Bool) (ps : List ℕ) → ((q : ℕ) → has ps q ≡ true → test (r q) ≡ false) → find test (map r ps) ≡ None
find_nothing r test [] n = refl
find_nothing r test (q ∷ ps) n = ap (λ (b : Bool). cond b (Some (r q)) (find test (map r ps))) (n q (has_self q ps)) ∙ find_nothing r test ps (λ j i. n j (has_rest q ps j i))

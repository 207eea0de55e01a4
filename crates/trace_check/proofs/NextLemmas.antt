-- The nodes where a run can go on, found by going over all nodes.
use Rattle.std.specs.Prelude.{◌≡◌, ◌+◌, ℕ, zero, suc, Bool, true, false, List, [], ◌∷◌, ◌++◌, drop, slice_get, Option, Some, None}
use Rattle.std.specs.List.{filter, cons_option}
use Rattle.std.proofs.Common.{refl, sym, ◌∙◌, ap, arith, append_assoc}
use Rattle.exec_tree.specs.Exec.{AreDistinct}
use Rattle.exec_tree.specs.Arena.{numbers_in}
use Rattle.exec_tree.specs.declared.node.BareNode.{BareNode}
use Rattle.run_frames.specs.Standing.{IsPlace}
use Rattle.run_frames.proofs.NumberedLemmas.{place_found, number_is}
use Rattle.tree_table.specs.Placed.{number_at}

drop_there : (arena : List BareNode) (p : ℕ) (node : BareNode) → slice_get arena p ≡ Some node → drop p arena ≡ node ∷ drop (p + 1) arena
drop_there [] p node e = absurd (cc)
drop_there (first ∷ arena) zero node e = let same : first ≡ node = cc in ap (λ (w : BareNode). w ∷ arena) same
drop_there (first ∷ arena) (suc p) node e =
    let on : suc (p + 1) ≡ suc p + 1 = omega arith in
    drop_there arena p node e ∙ ap (λ (i : ℕ). node ∷ drop i (first ∷ arena)) on

-- the numbers from a place on are the node's own and those behind it
numbers_there : (arena : List BareNode) (p : ℕ) (node : BareNode) (o : Option ℕ) → slice_get arena p ≡ Some node → node.number ≡ o → numbers_in (drop p arena) ≡ cons_option o (numbers_in (drop (p + 1) arena))
numbers_there arena p node o e f = ap numbers_in (drop_there arena p node e) ∙ ap (λ (w : Option ℕ). cons_option w (numbers_in (drop (p + 1) arena))) f

taken : (test : ℕ → Bool) (n : ℕ) (rest : List ℕ) → test n ≡ true → filter test (n ∷ rest) ≡ n ∷ filter test rest
taken test n rest q = rw q refl

left_out : (test : ℕ → Bool) (n : ℕ) (rest : List ℕ) → test n ≡ false → filter test (n ∷ rest) ≡ filter test rest
left_out test n rest q = rw q refl

-- what is found so far, and what is found of the numbers from a place on
abbrev pub found_from : List ℕ → (ℕ → Bool) → List BareNode → ℕ → List ℕ
found_from ns test arena p = ns ++ filter test (numbers_in (drop p arena))

pub one_more : (ns : List ℕ) (test : ℕ → Bool) (arena : List BareNode) (p : ℕ) (node : BareNode) (n : ℕ) → slice_get arena p ≡ Some node → node.number ≡ Some n → test n ≡ true → found_from (ns ++ n ∷ []) test arena (p + 1) ≡ found_from ns test arena p
one_more ns test arena p node n e f q =
    let rest = numbers_in (drop (p + 1) arena) in
    append_assoc ns (n ∷ []) (filter test rest) ∙ ap (λ (u : List ℕ). ns ++ u) (sym (ap (filter test) (numbers_there arena p node (Some n) e f) ∙ taken test n rest q))

pub one_out : (ns : List ℕ) (test : ℕ → Bool) (arena : List BareNode) (p : ℕ) (node : BareNode) (n : ℕ) → slice_get arena p ≡ Some node → node.number ≡ Some n → test n ≡ false → found_from ns test arena (p + 1) ≡ found_from ns test arena p
one_out ns test arena p node n e f q =
    ap (λ (u : List ℕ). ns ++ u) (sym (ap (filter test) (numbers_there arena p node (Some n) e f) ∙ left_out test n (numbers_in (drop (p + 1) arena)) q))

pub none_more : (ns : List ℕ) (test : ℕ → Bool) (arena : List BareNode) (p : ℕ) (node : BareNode) → slice_get arena p ≡ Some node → node.number ≡ None → found_from ns test arena (p + 1) ≡ found_from ns test arena p
none_more ns test arena p node e f = ap (λ (u : List ℕ). ns ++ u) (sym (ap (filter test) (numbers_there arena p node None e f)))

pub is_place : (arena : List BareNode) (p : ℕ) (node : BareNode) (n : ℕ) → slice_get arena p ≡ Some node → node.number ≡ Some n → AreDistinct (numbers_in arena) → IsPlace arena p
is_place arena p node n e f d = place_found arena p (record { node = node; at = e; number = n; has_it = f }) d

pub number_of_place : (arena : List BareNode) (p : ℕ) (node : BareNode) (n : ℕ) → slice_get arena p ≡ Some node → node.number ≡ Some n → number_at arena p ≡ n
number_of_place arena p node n e f = number_is arena p (record { node = node; at = e; number = n; has_it = f })

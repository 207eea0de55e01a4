-- Next is in preorder.
use Rattle.std.specs.Prelude.{◌≡◌, ℕ, zero, suc, Bool, true, false, ◌||◌, ◌&&◌, ◌==◌, if◌then◌else◌, List, [], ◌∷◌, ◌++◌, length, Option, Some, None}
use Rattle.std.proofs.Common.{refl, sym, ◌∙◌, ap, subst, inl, inr, arith}
use Rattle.std.specs.List.{filter, find, list_any}
use Rattle.std.proofs.lemmas.Bool.Decides.{nat_tests}
use Rattle.exec_tree.specs.Exec.{Exec, Work, Leaf, Plan, Par, NonSeq, Sel, If, While, Execs, None_left, Then, nodes, nodes_all, number_or_none, has, AreDistinct, count}
use Rattle.trace_law.specs.Of.{only}
use Rattle.trace_law.specs.Own.{pick_of, test_of, picks, Turn, Tested, turns}
use Rattle.trace_law.specs.Elements.{part_at}
use Rattle.trace_law.specs.Next.{first_of_two, next_work, next_leaf, next_of_last, next_after, next_picked, next_tested, next_answered, next_loop, next, next_in_order, next_each, next_at}
use Rattle.trace_law.specs.Order.{Within}
use Rattle.run_log.specs.declared.entry.Entry.{Entry}
use Rattle.run_log.specs.declared.entry.Entry.TheVariants.{End}
use Rattle.trace_law.proofs.StepLemmas.{same_number}

within_refl : (xs : List ℕ) → Within xs xs
within_refl [] = tt
within_refl (x ∷ xs) = inl (refl, within_refl xs)

within_skip : (xs : List ℕ) (y : ℕ) (ys : List ℕ) → Within xs ys → Within xs (y ∷ ys)
within_skip [] y ys s = tt
within_skip (x ∷ xs) y ys s = inr s

within_right : (xs ys zs : List ℕ) → Within xs zs → Within xs (ys ++ zs)
within_right xs [] zs s = s
within_right xs (y ∷ ys) zs s = within_skip xs y (ys ++ zs) (within_right xs ys zs s)

within_left : (xs ys zs : List ℕ) → Within xs ys → Within xs (ys ++ zs)
within_left [] ys zs s = tt
within_left (x ∷ xs) [] zs s = absurd s
within_left (x ∷ xs) (y ∷ ys) zs (inl s) = inl (s.0, within_left xs ys zs s.1)
within_left (x ∷ xs) (y ∷ ys) zs (inr s) = inr (within_left (x ∷ xs) ys zs s)

within_both : (ws xs ys zs : List ℕ) → Within ws ys → Within xs zs → Within (ws ++ xs) (ys ++ zs)
within_both [] xs ys zs s r = within_right xs ys zs r
within_both (w ∷ ws) xs [] zs s r = absurd s
within_both (w ∷ ws) xs (y ∷ ys) zs (inl s) r = inl (s.0, within_both ws xs ys zs s.1 r)
within_both (w ∷ ws) xs (y ∷ ys) zs (inr s) r = inr (within_both (w ∷ ws) xs ys zs s r)

within_first : (xs ys zs : List ℕ) → Within xs zs → Within ys zs → Within (first_of_two xs ys) zs
within_first [] ys zs s r = r
within_first (x ∷ xs) ys zs s r = s

within_own : (n : ℕ) (ys : List ℕ) → Within (n ∷ []) (n ∷ ys)
within_own n ys = inl (refl, tt)

work_within : (n : ℕ) (t : List Entry) → Within (next_work n t) (n ∷ [])
work_within n [] = within_own n []
work_within n (End m ∷ []) = tt
work_within n (End m ∷ y ∷ t) = work_within n (y ∷ t)
work_within n (x ∷ t) = work_within n t

leaf_within : (n : ℕ) (t : List Entry) → Within (next_leaf n t) (n ∷ [])
leaf_within n [] = within_own n []
leaf_within n (x ∷ t) = tt

last_within : (f : ℕ → List ℕ) (ks ys : List ℕ) → ((k : ℕ) → Within (f k) ys) → Within (next_of_last f ks) ys
last_within f [] ys h = tt
last_within f (k ∷ []) ys h = h k
last_within f (k ∷ j ∷ ks) ys h = last_within f (j ∷ ks) ys h

rest_within : (b : Bool) (n : ℕ) (ys : List ℕ) → Within (if b then [] else n ∷ []) (n ∷ ys)
rest_within true n ys = tt
rest_within false n ys = within_own n ys

picked_within : (n : ℕ) (f : ℕ → List Entry → List ℕ) (t : List Entry) (ys : List ℕ) → ((k : ℕ) (u : List Entry) → Within (f k u) ys) → Within (next_picked n f t) (n ∷ ys)
picked_within n f [] ys h = within_own n ys
picked_within n f (x ∷ t) ys h = go (pick_of n x)
  where
    go : (o : Option ℕ) → Within (next_after f o t) (n ∷ ys)
    go None = tt
    go (Some k) = within_skip (f k t) n ys (h k t)

tested_within : (n : ℕ) (f g : List Entry → List ℕ) (t : List Entry) (ys : List ℕ) → ((u : List Entry) → Within (f u) ys) → ((u : List Entry) → Within (g u) ys) → Within (next_tested n (next_answered f g) t) (n ∷ ys)
tested_within n f g [] ys h i = within_own n ys
tested_within n f g (x ∷ t) ys h i = go (test_of n x)
  where
    go : (o : Option Bool) → Within (next_after (next_answered f g) o t) (n ∷ ys)
    go None = tt
    go (Some true) = within_skip (f t) n ys (h t)
    go (Some false) = within_skip (g t) n ys (i t)

loop_within : (n : ℕ) (f : List Entry → List ℕ) (ts : List Turn) (ys : List ℕ) → ((u : List Entry) → Within (f u) ys) → Within (next_loop n f ts) (n ∷ ys)
loop_within n f [] ys h = within_own n ys
loop_within n f (Tested true t ∷ []) ys h = within_first (f t) (n ∷ []) (n ∷ ys) (within_skip (f t) n ys (h t)) (within_own n ys)
loop_within n f (Tested false t ∷ []) ys h = tt
loop_within n f (r ∷ s ∷ rest) ys h = loop_within n f (s ∷ rest) ys h

mutual
  pub next_within : (e : Exec) (t : List Entry) → Within (next e t) (nodes e)
  next_within (Work n) t = work_within n t
  next_within (Leaf n k) t = leaf_within n t
  next_within (Plan n es) t = within_right (next_in_order es t) (number_or_none n) (nodes_all es) (order_within es t)
  next_within (Par n es) t = within_skip (next_each es t) n (nodes_all es) (each_within es t)
  next_within (NonSeq n es) t =
      within_first (next_of_last (λ k. next_at es k (part_at es k t)) (picks n t)) (if length (picks n t) == count es then [] else n ∷ []) (n ∷ nodes_all es)
      (within_skip _ n (nodes_all es) (last_within (λ k. next_at es k (part_at es k t)) (picks n t) (nodes_all es) (λ k. at_within es k (part_at es k t))))
      (rest_within (length (picks n t) == count es) n (nodes_all es))
  next_within (Sel n es) t = picked_within n (λ k u. next_at es k u) t (nodes_all es) (λ k u. at_within es k u)
  next_within (If n a b) t =
      tested_within n (λ u. next a u) (λ u. next b u) t (nodes a ++ nodes b) (λ u. within_left (next a u) (nodes a) (nodes b) (next_within a u))
      (λ u. within_right (next b u) (nodes a) (nodes b) (next_within b u))
  next_within (While n a) t = loop_within n (λ u. next a u) (turns n t) (nodes a) (λ u. next_within a u)

  pub order_within : (es : Execs) (t : List Entry) → Within (next_in_order es t) (nodes_all es)
  order_within None_left t = tt
  order_within (Then e es) t =
      within_first (next e (only (nodes e) t)) (next_in_order es t) (nodes e ++ nodes_all es)
      (within_left (next e (only (nodes e) t)) (nodes e) (nodes_all es) (next_within e (only (nodes e) t))) (within_right (next_in_order es t) (nodes e) (nodes_all es) (order_within es t))

  pub each_within : (es : Execs) (t : List Entry) → Within (next_each es t) (nodes_all es)
  each_within None_left t = tt
  each_within (Then e es) t =
      within_both (next e (only (nodes e) t)) (next_each es t) (nodes e) (nodes_all es) (next_within e (only (nodes e) t)) (each_within es t)

  pub at_within : (es : Execs) (k : ℕ) (t : List Entry) → Within (next_at es k t) (nodes_all es)
  at_within None_left k t = tt
  at_within (Then e es) zero t = within_left (next e t) (nodes e) (nodes_all es) (next_within e t)
  at_within (Then e es) (suc k) t = within_right (next_at es k t) (nodes e) (nodes_all es) (at_within es k t)

-- ---- a list within one without repeats is that one, filtered

pub not_within : (xs ys : List ℕ) (q : ℕ) → Within xs ys → has ys q ≡ false → has xs q ≡ false
not_within [] ys q s h = refl
not_within (x ∷ xs) [] q s h = absurd s
not_within (x ∷ xs) (y ∷ ys) q (inl s) h =
    let z = neither (y == q) (has ys q) h in
    rw (subst (λ (v : ℕ). (v == q) ≡ false) (sym s.0) z.0) (not_within xs ys q s.1 z.1)
  where
    neither : (a b : Bool) → (a || b) ≡ false → (a ≡ false) × (b ≡ false)
    neither true b h = absurd (cc)
    neither false b h = (refl, h)
not_within (x ∷ xs) (y ∷ ys) q (inr s) h = not_within (x ∷ xs) ys q s (second (y == q) (has ys q) h)
  where
    second : (a b : Bool) → (a || b) ≡ false → b ≡ false
    second true b h = absurd (cc)
    second false b h = h

same_filter : (p r : ℕ → Bool) (ys : List ℕ) → ((q : ℕ) → has ys q ≡ true → p q ≡ r q) → filter p ys ≡ filter r ys
same_filter p r [] h = refl
same_filter p r (y ∷ ys) h =
    rw (h y (let e : (y == y) ≡ true = grind (arith, nat_tests) in rw e refl), same_filter p r ys (λ q g. h q (later (y == q) (has ys q) g))) refl
  where
    later : (a b : Bool) → b ≡ true → (a || b) ≡ true
    later true b g = refl
    later false b g = g

filter_none : (ys : List ℕ) → [] ≡ filter (has []) ys
filter_none [] = refl
filter_none (y ∷ ys) = filter_none ys

pub within_filter : (xs ys : List ℕ) → AreDistinct ys → Within xs ys → xs ≡ filter (has xs) ys
within_filter [] ys d s = filter_none ys
within_filter (x ∷ xs) [] d s = absurd s
within_filter (x ∷ xs) (y ∷ ys) d (inl s) =
    let e : (x == y) ≡ true = let f = s.0 in grind (arith, nat_tests) in
    let rest : filter (has (x ∷ xs)) ys ≡ filter (has xs) ys = same_filter (has (x ∷ xs)) (has xs) ys (λ q g. other q g (x == q) refl) in
    rw (e, rest) (let z : x ∷ xs ≡ y ∷ filter (has xs) ys = rw (sym s.0) (ap (λ (l : List ℕ). x ∷ l) (within_filter xs ys d.1 s.1)) in z)
  where
    other : (q : ℕ) → has ys q ≡ true → (b : Bool) → (x == q) ≡ b → has (x ∷ xs) q ≡ has xs q
    other q g true f = absurd (let i : x ≡ q = same_number x q f in let j : has ys y ≡ true = subst (λ (v : ℕ). has ys v ≡ true) (sym i ∙ s.0) g in let k : true ≡ false = sym j ∙ d.0 in cc)
    other q g false f = rw f refl
within_filter (x ∷ xs) (y ∷ ys) d (inr s) =
    let e : has (x ∷ xs) y ≡ false = not_within (x ∷ xs) ys y s d.0 in
    rw e (within_filter (x ∷ xs) ys d.1 s)

-- Next is those of the nodes that are in it, in preorder
pub next_is_in_preorder : (e : Exec) (t : List Entry) → AreDistinct (nodes e) → next e t ≡ filter (has (next e t)) (nodes e)
next_is_in_preorder e t d = within_filter (next e t) (nodes e) d (next_within e t)

-- the first that passes a test, and whether any does, by the nodes in preorder
find_filter : (p r : ℕ → Bool) (ys : List ℕ) → find r (filter p ys) ≡ find (λ n. p n && r n) ys
find_filter p r [] = refl
find_filter p r (y ∷ ys) = go (p y) (r y) refl refl (find_filter p r ys)
  where
    go : (a b : Bool) → p y ≡ a → r y ≡ b → find r (filter p ys) ≡ find (λ n. p n && r n) ys → find r (filter p (y ∷ ys)) ≡ find (λ n. p n && r n) (y ∷ ys)
    go true true f g h = rw (f, g) refl
    go true false f g h = rw (f, g) h
    go false b f g h = rw f h

any_filter : (p r : ℕ → Bool) (ys : List ℕ) → list_any r (filter p ys) ≡ list_any (λ n. p n && r n) ys
any_filter p r [] = refl
any_filter p r (y ∷ ys) = go (p y) (r y) refl refl (any_filter p r ys)
  where
    go : (a b : Bool) → p y ≡ a → r y ≡ b → list_any r (filter p ys) ≡ list_any (λ n. p n && r n) ys → list_any r (filter p (y ∷ ys)) ≡ list_any (λ n. p n && r n) (y ∷ ys)
    go true true f g h = rw (f, g) refl
    go true false f g h = rw (f, g) h
    go false b f g h = rw f h

pub first_in_preorder : (e : Exec) (t : List Entry) (test : ℕ → Bool) → AreDistinct (nodes e) → find test (next e t) ≡ find (λ n. has (next e t) n && test n) (nodes e)
first_in_preorder e t test d = ap (find test) (next_is_in_preorder e t d) ∙ find_filter (has (next e t)) test (nodes e)

pub any_in_preorder : (e : Exec) (t : List Entry) (test : ℕ → Bool) → AreDistinct (nodes e) → list_any test (next e t) ≡ list_any (λ n. has (next e t) n && test n) (nodes e)
any_in_preorder e t test d = ap (list_any test) (next_is_in_preorder e t d) ∙ any_filter (has (next e t)) test (nodes e)

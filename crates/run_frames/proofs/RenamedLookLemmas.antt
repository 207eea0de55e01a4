-- The bound of looks under other numbers: nesting, and the nodes that an entry lets the run come to.
use Rattle.std.specs.Prelude.{◌≡◌, ◌≤◌, ◌+◌, ◌*◌, ◌||◌, not, if◌then◌else◌, ℕ, zero, suc, Bool, true, false, is_some, List, [], ◌∷◌, ◌++◌, map, length, option_map, Option, Some, None}
use Rattle.std.specs.List.{filter}
use Rattle.std.proofs.Common.{refl, sym, ◌∙◌, ap, subst, arith}
use Rattle.exec_tree.specs.Exec.{Exec, Work, Leaf, Plan, Par, NonSeq, Sel, If, While, Execs, None_left, Then, nodes, has, number_or_none}
use Rattle.exec_tree.specs.declared.node.BareNode.{BareNode}
use Rattle.trace_law.specs.Of.{number_of, only}
use Rattle.trace_law.specs.Own.{test_of, picks, Turn, Tested, turns}
use Rattle.trace_law.specs.Elements.{part_at}
use Rattle.trace_law.specs.Next.{next}
use Rattle.trace_law.specs.Part.{Part}
use Rattle.trace_law.specs.Cells.{first_answer, last_answer, last_body, picked}
use Rattle.trace_law.specs.Leading.{has_none}
use Rattle.run_log.specs.declared.entry.Entry.{Entry}
use Rattle.frame_law.specs.Executable.{own_number}
use Rattle.frame_law.specs.Way.{Follows}
use Rattle.frame_law.specs.ComeTo.{of_picks, of_branch, come_to, come_to_in_order, come_to_each, come_to_at, nesting, nesting_all, body_after, turned, turned_all, new_in}
use Rattle.frame_law.specs.Looks.{looks, opened, AreNumbered, AreNumberedAll}
use Rattle.frame_law.proofs.LookLemmas.{looks_few}
use Rattle.frame_law.proofs.BoundLemmas.{opened_few}
use Rattle.tree_table.specs.Placed.{placed}
use Rattle.run_frames.specs.Frames.{cells_of}
use Rattle.run_frames.specs.Renaming.{IsOneToOne, renamed, renamed_all, entry_renamed, entry_at}
use Rattle.run_frames.specs.Standing.{IsAt}
use Rattle.run_frames.specs.declared.frames.Frames.{Frames}
use Rattle.run_frames.proofs.RenamingLemmas.{append_map, has_map, nodes_map, part_map, part_at_map, test_map, picks_map, turn, turns_map, body_map, next_map}
use Rattle.run_frames.proofs.NumberLemmas.{entry_back}
use Rattle.run_frames.proofs.StandLemmas.{tree, AreOfTree, IsPlaceOf, placed_once, names, names_once, names_are, named, named_entries, map_more, part_more, number_here}

-- ---- nesting

mutual
  nesting_map : (r : ℕ → ℕ) (e : Exec) → nesting (renamed r e) ≡ nesting e
  nesting_map r (Work n) = refl
  nesting_map r (Leaf n k) = refl
  nesting_map r (Plan n es) = ap (λ (m : ℕ). m + 1) (nesting_all_map r es)
  nesting_map r (Par n es) = ap (λ (m : ℕ). m + 1) (nesting_all_map r es)
  nesting_map r (NonSeq n es) = ap (λ (m : ℕ). m + 1) (nesting_all_map r es)
  nesting_map r (Sel n es) = ap (λ (m : ℕ). m + 1) (nesting_all_map r es)
  nesting_map r (If n a b) = rw (nesting_map r a, nesting_map r b) refl
  nesting_map r (While n a) = ap (λ (m : ℕ). m + 1) (nesting_map r a)

  nesting_all_map : (r : ℕ → ℕ) (es : Execs) → nesting_all (renamed_all r es) ≡ nesting_all es
  nesting_all_map r None_left = refl
  nesting_all_map r (Then e es) = rw (nesting_map r e, nesting_all_map r es) refl

-- ---- the nodes come to

none_map : (r : ℕ → ℕ) (l : List ℕ) → has_none (map r l) ≡ has_none l
none_map r [] = refl
none_map r (n ∷ l) = refl

own_map : (r : ℕ → ℕ) (n : Option ℕ) (l : List ℕ) → number_or_none (option_map r n) ++ map r l ≡ map r (number_or_none n ++ l)
own_map r None l = refl
own_map r (Some n) l = refl

where_map : (r : ℕ → ℕ) (b : Bool) (l : List ℕ) → (if b then map r l else []) ≡ map r (if b then l else [])
where_map r true l = refl
where_map r false l = refl

of_picks_map : (r : ℕ → ℕ) (f g : ℕ → List ℕ) (ks : List ℕ) → ((k : ℕ) → f k ≡ map r (g k)) → of_picks f ks ≡ map r (of_picks g ks)
of_picks_map r f g [] h = refl
of_picks_map r f g (k ∷ ks) h = rw (h k, of_picks_map r f g ks h) (sym (append_map r (g k) (of_picks g ks)))

of_branch_map : (r : ℕ → ℕ) (o : Option Bool) (a b a' b' : List ℕ) → a' ≡ map r a → b' ≡ map r b → of_branch o a' b' ≡ map r (of_branch o a b)
of_branch_map r None a b a' b' h i = refl
of_branch_map r (Some true) a b a' b' h i = h
of_branch_map r (Some false) a b a' b' h i = i

first_answer_map : (r : ℕ → ℕ) → IsOneToOne r → (n : ℕ) (t : List Entry) → first_answer (r n) (map (entry_renamed r) t) ≡ first_answer n t
first_answer_map r i n [] = refl
first_answer_map r i n (x ∷ t) = test_map r i n x

last_answer_map : (r : ℕ → ℕ) (ts : List Turn) → last_answer (map (turn r) ts) ≡ last_answer ts
last_answer_map r [] = refl
last_answer_map r (Tested b t ∷ []) = refl
last_answer_map r (Tested b t ∷ Tested a u ∷ rest) = last_answer_map r (Tested a u ∷ rest)

-- those of an element of a plan, and of the next where that is over
step_map : (r : ℕ → ℕ) (l l' k k' m m' : List ℕ) → l' ≡ map r l → m' ≡ map r m → k' ≡ map r k → l' ++ (if has_none m' then k' else []) ≡ map r (l ++ (if has_none m then k else []))
step_map r l l' k k' m m' h i j =
    ap (λ (w : List ℕ). w ++ (if has_none m' then k' else [])) h
    ∙ (ap (λ (w : List ℕ). map r l ++ (if has_none w then k' else [])) i
    ∙ (ap (λ (b : Bool). map r l ++ (if b then k' else [])) (none_map r m)
    ∙ (ap (λ (w : List ℕ). map r l ++ (if has_none m then w else [])) j
    ∙ (ap (λ (w : List ℕ). map r l ++ w) (where_map r (has_none m) k) ∙ sym (append_map r l (if has_none m then k else []))))))

-- those of the picked elements
come_picks_map : (r : ℕ → ℕ) → IsOneToOne r → (n : ℕ) (es : Execs) (t : List Entry) → ((k : ℕ) (u : List Entry) → come_to_at (renamed_all r es) k (map (entry_renamed r) u) ≡ map r (come_to_at es k u))
    → of_picks (λ k. come_to_at (renamed_all r es) k (part_at (renamed_all r es) k (map (entry_renamed r) t))) (picks (r n) (map (entry_renamed r) t)) ≡ map r (of_picks (λ k. come_to_at es k (part_at es k t)) (picks n t))
come_picks_map r i n es t h =
    ap (of_picks (λ k. come_to_at (renamed_all r es) k (part_at (renamed_all r es) k (map (entry_renamed r) t)))) (picks_map r i n t)
    ∙ of_picks_map r (λ k. come_to_at (renamed_all r es) k (part_at (renamed_all r es) k (map (entry_renamed r) t))) (λ k. come_to_at es k (part_at es k t)) (picks n t) (λ k. ap (come_to_at (renamed_all r es) k) (part_at_map r i es k t) ∙ h k (part_at es k t))

mutual
  pub come_map : (r : ℕ → ℕ) → IsOneToOne r → (e : Exec) (t : List Entry) → come_to (renamed r e) (map (entry_renamed r) t) ≡ map r (come_to e t)
  come_map r i (Work n) t = refl
  come_map r i (Leaf n k) t = refl
  come_map r i (Plan n es) t = ap (λ (l : List ℕ). number_or_none (option_map r n) ++ l) (come_order_map r i es t) ∙ own_map r n (come_to_in_order es t)
  come_map r i (Par n es) t = ap (λ (l : List ℕ). r n ∷ l) (come_each_map r i es t)
  come_map r i (NonSeq n es) t = ap (λ (l : List ℕ). r n ∷ l) (come_picks_map r i n es t (λ k u. come_at_map r i es k u))
  come_map r i (Sel n es) t = ap (λ (l : List ℕ). r n ∷ l) (come_picks_map r i n es t (λ k u. come_at_map r i es k u))
  come_map r i (If n a b) t =
      ap (λ (l : List ℕ). r n ∷ l)
      (ap (λ (o : Option Bool). of_branch o (come_to (renamed r a) (only (nodes (renamed r a)) (map (entry_renamed r) t))) (come_to (renamed r b) (only (nodes (renamed r b)) (map (entry_renamed r) t)))) (first_answer_map r i n t)
      ∙ of_branch_map r (first_answer n t) (come_to a (only (nodes a) t)) (come_to b (only (nodes b) t)) _ _ (ap (come_to (renamed r a)) (part_map r i a t) ∙ come_map r i a (only (nodes a) t)) (ap (come_to (renamed r b)) (part_map r i b t) ∙ come_map r i b (only (nodes b) t)))
  come_map r i (While n a) t =
      ap (λ (l : List ℕ). r n ∷ l)
      (ap (λ (ts : List Turn). of_branch (last_answer ts) (come_to (renamed r a) (last_body ts)) []) (turns_map r i n t)
      ∙ (ap (λ (o : Option Bool). of_branch o (come_to (renamed r a) (last_body (map (turn r) (turns n t)))) []) (last_answer_map r (turns n t))
      ∙ of_branch_map r (last_answer (turns n t)) (come_to a (last_body (turns n t))) [] _ [] (ap (come_to (renamed r a)) (body_map r (turns n t)) ∙ come_map r i a (last_body (turns n t))) refl))

  come_order_map : (r : ℕ → ℕ) → IsOneToOne r → (es : Execs) (t : List Entry) → come_to_in_order (renamed_all r es) (map (entry_renamed r) t) ≡ map r (come_to_in_order es t)
  come_order_map r i None_left t = refl
  come_order_map r i (Then e es) t =
      step_map r (come_to e (only (nodes e) t)) _ (come_to_in_order es t) _ (next e (only (nodes e) t)) _ (ap (come_to (renamed r e)) (part_map r i e t) ∙ come_map r i e (only (nodes e) t))
      (ap (next (renamed r e)) (part_map r i e t) ∙ next_map r i e (only (nodes e) t)) (come_order_map r i es t)

  come_each_map : (r : ℕ → ℕ) → IsOneToOne r → (es : Execs) (t : List Entry) → come_to_each (renamed_all r es) (map (entry_renamed r) t) ≡ map r (come_to_each es t)
  come_each_map r i None_left t = refl
  come_each_map r i (Then e es) t =
      rw (part_map r i e t, come_map r i e (only (nodes e) t), come_each_map r i es t) (sym (append_map r (come_to e (only (nodes e) t)) (come_to_each es t)))

  come_at_map : (r : ℕ → ℕ) → IsOneToOne r → (es : Execs) (k : ℕ) (t : List Entry) → come_to_at (renamed_all r es) k (map (entry_renamed r) t) ≡ map r (come_to_at es k t)
  come_at_map r i None_left k t = refl
  come_at_map r i (Then e es) zero t = come_map r i e t
  come_at_map r i (Then e es) (suc k) t = come_at_map r i es k t

-- ---- the nodes that begin anew

body_after_map : (r : ℕ → ℕ) (o : Option Bool) (a b a' b' : List ℕ) → a' ≡ map r a → b' ≡ map r b → body_after o a' b' ≡ map r (body_after o a b)
body_after_map r None a b a' b' h i = i
body_after_map r (Some true) a b a' b' h i = h
body_after_map r (Some false) a b a' b' h i = refl

mutual
  turned_map : (r : ℕ → ℕ) → IsOneToOne r → (e : Exec) (x : Entry) → turned (renamed r e) (entry_renamed r x) ≡ map r (turned e x)
  turned_map r i (Work n) x = refl
  turned_map r i (Leaf n k) x = refl
  turned_map r i (Plan n es) x = turned_all_map r i es x
  turned_map r i (Par n es) x = turned_all_map r i es x
  turned_map r i (NonSeq n es) x = turned_all_map r i es x
  turned_map r i (Sel n es) x = turned_all_map r i es x
  turned_map r i (If n a b) x = rw (turned_map r i a x, turned_map r i b x) (sym (append_map r (turned a x) (turned b x)))
  turned_map r i (While n a) x =
      ap (λ (o : Option Bool). body_after o (nodes (renamed r a)) (turned (renamed r a) (entry_renamed r x))) (test_map r i n x)
      ∙ body_after_map r (test_of n x) (nodes a) (turned a x) _ _ (nodes_map r a) (turned_map r i a x)

  turned_all_map : (r : ℕ → ℕ) → IsOneToOne r → (es : Execs) (x : Entry) → turned_all (renamed_all r es) (entry_renamed r x) ≡ map r (turned_all es x)
  turned_all_map r i None_left x = refl
  turned_all_map r i (Then e es) x = rw (turned_map r i e x, turned_all_map r i es x) (sym (append_map r (turned e x) (turned_all es x)))

-- ---- those that are new

filter_long : (r : ℕ → ℕ) (f g : ℕ → Bool) (l : List ℕ) → ((q : ℕ) → f (r q) ≡ g q) → length (filter f (map r l)) ≡ length (filter g l)
filter_long r f g [] h = refl
filter_long r f g (q ∷ l) h = go (g q) (h q) refl (filter_long r f g l h)
  where
    go : (b : Bool) → f (r q) ≡ g q → g q ≡ b → length (filter f (map r l)) ≡ length (filter g l) → length (filter f (map r (q ∷ l))) ≡ length (filter g (q ∷ l))
    go true i e rec = let j : f (r q) ≡ true = i ∙ e in rw (j, e) (ap (λ (n : ℕ). suc n) rec)
    go false i e rec = let j : f (r q) ≡ false = i ∙ e in rw (j, e) rec

pub new_map : (r : ℕ → ℕ) → IsOneToOne r → (e : Exec) (t : List Entry) (x : Entry) → length (new_in (renamed r e) (map (entry_renamed r) t) (entry_renamed r x)) ≡ length (new_in e t x)
new_map r i e t x =
    let test = λ (q : ℕ). not (has (come_to (renamed r e) (map (entry_renamed r) t)) q) || has (turned (renamed r e) (entry_renamed r x)) q in
    let all_of : come_to (renamed r e) (map (entry_renamed r) t ++ entry_renamed r x ∷ []) ≡ map r (come_to e (t ++ x ∷ [])) =
    ap (come_to (renamed r e)) (sym (map_more r t x)) ∙ come_map r i e (t ++ x ∷ []) in
    ap (λ (l : List ℕ). length (filter test l)) all_of
    ∙ filter_long r test (λ q. not (has (come_to e t) q) || has (turned e x) q) (come_to e (t ++ x ∷ []))
    (λ q. ap (λ (l : List ℕ). not (has l (r q)) || has (turned (renamed r e) (entry_renamed r x)) (r q)) (come_map r i e t)
    ∙ (ap (λ (l : List ℕ). not (has (map r (come_to e t)) (r q)) || has l (r q)) (turned_map r i e x)
    ∙ (ap (λ (b : Bool). not b || has (map r (turned e x)) (r q)) (has_map r i (come_to e t) q) ∙ ap (λ (b : Bool). not (has (come_to e t) q) || b) (has_map r i (turned e x) q))))

-- ---- each element has a number

own_back : (r : ℕ → ℕ) (e : Exec) → is_some (own_number (renamed r e)) ≡ is_some (own_number e)
own_back r (Work n) = refl
own_back r (Leaf n k) = refl
own_back r (Plan None es) = refl
own_back r (Plan (Some n) es) = refl
own_back r (Par n es) = refl
own_back r (NonSeq n es) = refl
own_back r (Sel n es) = refl
own_back r (If n a b) = refl
own_back r (While n a) = refl

mutual
  numbered_back : (r : ℕ → ℕ) (e : Exec) → AreNumbered (renamed r e) → AreNumbered e
  numbered_back r (Work n) v = tt
  numbered_back r (Leaf n k) v = tt
  numbered_back r (Plan n es) v = numbered_all_back r es v
  numbered_back r (Par n es) v = numbered_all_back r es v
  numbered_back r (NonSeq n es) v = numbered_all_back r es v
  numbered_back r (Sel n es) v = numbered_all_back r es v
  numbered_back r (If n a b) v = (numbered_back r a v.0, numbered_back r b v.1)
  numbered_back r (While n a) v = numbered_back r a v

  numbered_all_back : (r : ℕ → ℕ) (es : Execs) → AreNumberedAll (renamed_all r es) → AreNumberedAll es
  numbered_all_back r None_left v = tt
  numbered_all_back r (Then e es) v = (sym (own_back r e) ∙ v.0, numbered_back r e v.1, numbered_all_back r es v.2)

-- ---- so the looks at places are bounded by the tree of numbers

pub looks_by_numbers : (arena : List BareNode) (f : Frames) (t : List Entry) (x : Entry) (p n : ℕ) → AreOfTree arena → (s : IsAt arena f t) → Part (tree arena) (t ++ x ∷ []) → IsPlaceOf arena s.entries n p → number_of x ≡ Some n → AreNumbered (tree arena)
    → looks (cells_of f.frames.cells) (placed arena) (entry_at p x) p ≤ 2 + nesting (tree arena) + 2 * length (new_in (tree arena) t x)
looks_by_numbers arena f t x p n a s q h k v =
    let r = names arena in
    let i = names_once arena a.distinct in
    let e = placed arena in
    let c = cells_of f.frames.cells in
    let y = entry_at p x in
    let name = names_are arena p h.inside ∙ h.is_number in
    let back : entry_renamed r y ≡ x = entry_back r p n x name k in
    let fo : Follows c e s.entries y p = record { distinct = placed_once arena a.distinct; part = part_more arena f t x p n a s q h k; stands = s.held.stands; number = number_here p n x k } in
    let numbers = numbered_back r e (subst AreNumbered (sym (named arena)) v) in
    let few = looks_few c e y p numbers in
    let new = opened_few c e s.entries y p fo in
    let deep : nesting (tree arena) ≡ nesting e = ap nesting (sym (named arena)) ∙ nesting_map r e in
    let long : length (new_in (tree arena) t x) ≡ length (new_in e s.entries y) =
    ap (λ (w : Exec). length (new_in w t x)) (sym (named arena))
    ∙ (ap (λ (l : List Entry). length (new_in (renamed r e) l x)) (sym (named_entries arena f t s))
    ∙ (ap (λ (z : Entry). length (new_in (renamed r e) (map (entry_renamed r) s.entries) z)) (sym back) ∙ new_map r i e s.entries y)) in
    sum (looks c e y p) (nesting e) (length (opened c e y p)) (length (new_in e s.entries y)) (nesting (tree arena)) (length (new_in (tree arena) t x)) few new deep long
  where
    sum : (l h o w h' w' : ℕ) → l ≤ 2 + h + 2 * o → o ≤ w → h' ≡ h → w' ≡ w → l ≤ 2 + h' + 2 * w'
    sum l h o w h' w' a b c d = omega (arith, a, b, c, d)

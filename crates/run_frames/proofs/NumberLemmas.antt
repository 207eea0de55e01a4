-- Places for numbers: what the placed tree tells is what the tree tells.
use Rattle.std.specs.Prelude.{◌≡◌, ◌≤◌, ◌+◌, ◌==◌, ◌||◌, if◌then◌else◌, ℕ, zero, suc, Bool, true, false, List, [], ◌∷◌, ◌++◌, map, slice_get, Option, Some, None}
use Rattle.std.proofs.Common.{refl, sym, ◌∙◌, ap, subst, arith}
use Rattle.exec_tree.specs.Exec.{Exec, Work, Leaf, Plan, Par, NonSeq, Sel, If, While, Execs, None_left, Then, has, AreDistinct, nodes, nodes_all}
use Rattle.exec_tree.specs.Arena.{to_execs, first_of, second_of, of_kind, number_or_zero, tree_down}
use Rattle.exec_tree.specs.Arena as arenas
use Rattle.exec_tree.specs.declared.node.BareNode.{BareNode}
use Rattle.exec_tree.specs.declared.kind.Kind.{Kind}
use Rattle.exec_tree.specs.declared.kind.Kind.TheVariants as kind
use Rattle.trace_law.specs.Of.{number_of, is_of, only}
use Rattle.run_log.specs.declared.entry.Entry.{Entry}
use Rattle.run_log.specs.declared.entry.Entry.TheVariants.{Dispatch, Block, End, Pick, Test, Assign, Set, Pass, Note, Edit}
use Rattle.tree_table.specs.Placed.{place_for, placed_node, placed_down, number_at}
use Rattle.run_frames.specs.Renaming.{IsOneToOne, renamed, renamed_all, entry_renamed, entry_at}
use Rattle.run_frames.proofs.RenamingLemmas.{same_number}
use Rattle.run_frames.proofs.KeepLemmas.{has_left, has_right, has_self, has_rest}
use Rattle.run_frames.proofs.WriteLemmas.{clash}

-- ---- the tree under numbers

map_map : (arena : List BareNode) (levels : ℕ) (qs : List ℕ) → ((q : ℕ) → renamed (number_at arena) (placed_down arena levels q) ≡ tree_down arena levels q)
    → map (renamed (number_at arena)) (map (λ q. placed_down arena levels q) qs) ≡ map (λ q. tree_down arena levels q) qs
map_map arena levels [] h = refl
map_map arena levels (q ∷ qs) h = rw (h q) (ap (λ (es : List Exec). tree_down arena levels q ∷ es) (map_map arena levels qs h))

all_renamed : (r : ℕ → ℕ) (es : List Exec) → renamed_all r (to_execs es) ≡ to_execs (map (renamed r) es)
all_renamed r [] = refl
all_renamed r (e ∷ es) = ap (λ (w : Execs). Then (renamed r e) w) (all_renamed r es)

first_renamed : (r : ℕ → ℕ) (es : List Exec) → renamed r (first_of es) ≡ first_of (map (renamed r) es)
first_renamed r [] = refl
first_renamed r (e ∷ es) = refl

second_renamed : (r : ℕ → ℕ) (es : List Exec) → renamed r (second_of es) ≡ second_of (map (renamed r) es)
second_renamed r [] = refl
second_renamed r (e ∷ es) = first_renamed r es

kind_renamed : (r : ℕ → ℕ) (k : Kind) (n : Option ℕ) (p : ℕ) (es : List Exec) → r p ≡ number_or_zero n → renamed r (of_kind k (place_for k n p) es) ≡ of_kind k n (map (renamed r) es)
kind_renamed r kind.Plan None p es h = ap (λ (w : Execs). Plan None w) (all_renamed r es)
kind_renamed r kind.Plan (Some n) p es h = rw (h, all_renamed r es) refl
kind_renamed r kind.Par n p es h = rw (h, all_renamed r es) refl
kind_renamed r kind.NonSeq n p es h = rw (h, all_renamed r es) refl
kind_renamed r kind.Sel n p es h = rw (h, all_renamed r es) refl
kind_renamed r kind.If n p es h = rw (h, first_renamed r es, second_renamed r es) refl
kind_renamed r kind.While n p es h = rw (h, first_renamed r es) refl
kind_renamed r kind.Work n p es h = rw h refl
kind_renamed r kind.Assign n p es h = rw h refl
kind_renamed r kind.Set n p es h = rw h refl
kind_renamed r kind.Wait n p es h = rw h refl
kind_renamed r kind.Note n p es h = rw h refl

-- the placed tree under the nodes' numbers is the tree
pub numbered : (arena : List BareNode) (levels place : ℕ) → renamed (number_at arena) (placed_down arena levels place) ≡ tree_down arena levels place
unfolding placed_down tree_down
numbered arena zero place = refl
numbered arena (suc levels) place = go (slice_get arena place) refl (λ q. numbered arena levels q)
  where
    go : (o : Option BareNode) → slice_get arena place ≡ o → ((q : ℕ) → renamed (number_at arena) (placed_down arena levels q) ≡ tree_down arena levels q)
        → renamed (number_at arena) (placed_node place (slice_get arena place) (λ q. placed_down arena levels q)) ≡ arenas.of_node (slice_get arena place) (λ q. tree_down arena levels q)
    go None e h = rw e refl
    go (Some node) e h =
        let number : number_at arena place ≡ number_or_zero node.number = rw e refl in
        rw e (kind_renamed (number_at arena) node.kind node.number place (map (λ q. placed_down arena levels q) node.elements) number ∙ ap (of_kind node.kind node.number) (map_map arena levels node.elements h))

-- ---- other numbers that agree on the nodes

mutual
  pub renamed_same : (r s : ℕ → ℕ) (e : Exec) → ((m : ℕ) → has (nodes e) m ≡ true → r m ≡ s m) → renamed r e ≡ renamed s e
  renamed_same r s (Work n) h = ap Work (h n (has_self n []))
  renamed_same r s (Leaf n k) h = ap (λ (m : ℕ). Leaf m k) (h n (has_self n []))
  renamed_same r s (Plan None es) h = ap (λ (w : Execs). Plan None w) (all_same r s es h)
  renamed_same r s (Plan (Some n) es) h = rw (h n (has_self n (nodes_all es)), all_same r s es (λ m i. h m (has_rest n (nodes_all es) m i))) refl
  renamed_same r s (Par n es) h = rw (h n (has_self n (nodes_all es)), all_same r s es (λ m i. h m (has_rest n (nodes_all es) m i))) refl
  renamed_same r s (NonSeq n es) h = rw (h n (has_self n (nodes_all es)), all_same r s es (λ m i. h m (has_rest n (nodes_all es) m i))) refl
  renamed_same r s (Sel n es) h = rw (h n (has_self n (nodes_all es)), all_same r s es (λ m i. h m (has_rest n (nodes_all es) m i))) refl
  renamed_same r s (If n a b) h =
      rw (
        h n (has_self n (nodes a ++ nodes b)),
        renamed_same r s a (λ m i. h m (has_rest n (nodes a ++ nodes b) m (has_left (nodes a) (nodes b) m i))),
        renamed_same r s b (λ m i. h m (has_rest n (nodes a ++ nodes b) m (has_right (nodes a) (nodes b) m i))),
      ) refl
  renamed_same r s (While n a) h = rw (h n (has_self n (nodes a)), renamed_same r s a (λ m i. h m (has_rest n (nodes a) m i))) refl

  all_same : (r s : ℕ → ℕ) (es : Execs) → ((m : ℕ) → has (nodes_all es) m ≡ true → r m ≡ s m) → renamed_all r es ≡ renamed_all s es
  all_same r s None_left h = refl
  all_same r s (Then e es) h =
      rw (renamed_same r s e (λ m i. h m (has_left (nodes e) (nodes_all es) m i)), all_same r s es (λ m i. h m (has_right (nodes e) (nodes_all es) m i))) refl

entry_same : (r s : ℕ → ℕ) (ns : List ℕ) (x : Entry) → ((m : ℕ) → has ns m ≡ true → r m ≡ s m) → is_of ns x ≡ true → entry_renamed r x ≡ entry_renamed s x
entry_same r s ns (Dispatch n v) h i = ap (λ (m : ℕ). Dispatch m v) (h n i)
entry_same r s ns (Block n k b) h i = ap (λ (m : ℕ). Block m k b) (h n i)
entry_same r s ns (End n) h i = ap End (h n i)
entry_same r s ns (Pick n k) h i = ap (λ (m : ℕ). Pick m k) (h n i)
entry_same r s ns (Test n b) h i = ap (λ (m : ℕ). Test m b) (h n i)
entry_same r s ns (Assign n y) h i = ap (λ (m : ℕ). Assign m y) (h n i)
entry_same r s ns (Set n) h i = ap Set (h n i)
entry_same r s ns (Pass n) h i = ap Pass (h n i)
entry_same r s ns (Note n) h i = ap Note (h n i)
entry_same r s ns (Edit j v) h i = refl

pub entries_same : (r s : ℕ → ℕ) (ns : List ℕ) (t : List Entry) → ((m : ℕ) → has ns m ≡ true → r m ≡ s m) → map (entry_renamed r) (only ns t) ≡ map (entry_renamed s) (only ns t)
entries_same r s ns [] h = refl
entries_same r s ns (x ∷ t) h = go (is_of ns x) refl (entries_same r s ns t h)
  where
    go : (b : Bool) → is_of ns x ≡ b → map (entry_renamed r) (only ns t) ≡ map (entry_renamed s) (only ns t) → map (entry_renamed r) (only ns (x ∷ t)) ≡ map (entry_renamed s) (only ns (x ∷ t))
    go true e f = rw e (rw (entry_same r s ns x h e, f) refl)
    go false e f = rw e f

pub numbers_same : (r s : ℕ → ℕ) (ns ms : List ℕ) → ((m : ℕ) → has ns m ≡ true → r m ≡ s m) → ((m : ℕ) → has ms m ≡ true → has ns m ≡ true) → map r ms ≡ map s ms
numbers_same r s ns [] h i = refl
numbers_same r s ns (m ∷ ms) h i = rw (h m (i m (has_self m ms)), numbers_same r s ns ms h (λ q j. i q (has_rest m ms q j))) refl

-- ---- one to one

mapped_has : (r : ℕ → ℕ) (ns : List ℕ) (m : ℕ) → has ns m ≡ true → has (map r ns) (r m) ≡ true
mapped_has r [] m h = absurd (let w : false ≡ true = h in cc)
mapped_has r (n ∷ ns) m h = go (n == m) refl (λ i. mapped_has r ns m i)
  where
    go : (b : Bool) → (n == m) ≡ b → (has ns m ≡ true → has (map r ns) (r m) ≡ true) → has (r n ∷ map r ns) (r m) ≡ true
    go true e f = subst (λ (q : ℕ). has (r n ∷ map r ns) (r q) ≡ true) (same_number n m e) (has_self (r n) (map r ns))
    go false e f = has_rest (r n) (map r ns) (r m) (f (sym (ap (λ (b : Bool). b || has ns m) e) ∙ h))

pub distinct_back : (r : ℕ → ℕ) (ns : List ℕ) → AreDistinct (map r ns) → AreDistinct ns
distinct_back r [] d = tt
distinct_back r (n ∷ ns) d = (go (has ns n) refl, distinct_back r ns d.1)
  where
    go : (b : Bool) → has ns n ≡ b → has ns n ≡ false
    go true e = absurd (clash (has (map r ns) (r n)) (mapped_has r ns n e) d.0)
    go false e = e

-- where the numbers stand once, two of the nodes with one number are one
once_is : (r : ℕ → ℕ) (ns : List ℕ) → AreDistinct (map r ns) → (a b : ℕ) → has ns a ≡ true → has ns b ≡ true → r a ≡ r b → a ≡ b
once_is r [] d a b h i e = absurd (let w : false ≡ true = h in cc)
once_is r (n ∷ ns) d a b h i e = go (n == a) refl (n == b) refl (λ j k. once_is r ns d.1 a b j k e)
  where
    later : (m : ℕ) → (n == m) ≡ false → has (n ∷ ns) m ≡ true → has ns m ≡ true
    later m t j = sym (ap (λ (w : Bool). w || has ns m) t) ∙ j

    go : (p : Bool) → (n == a) ≡ p → (q : Bool) → (n == b) ≡ q → (has ns a ≡ true → has ns b ≡ true → a ≡ b) → a ≡ b
    go true t true u f = sym (same_number n a t) ∙ same_number n b u
    go true t false u f =
        absurd (clash (has (map r ns) (r n)) (subst (λ (m : ℕ). has (map r ns) m ≡ true) (sym (ap r (same_number n a t) ∙ e)) (mapped_has r ns b (later b u i))) d.0)
    go false t true u f =
        absurd (clash (has (map r ns) (r n)) (subst (λ (m : ℕ). has (map r ns) m ≡ true) (sym (ap r (same_number n b u) ∙ sym e)) (mapped_has r ns a (later a t h))) d.0)
    go false t false u f = f (later a t h) (later b u i)

abbrev total : (ℕ → ℕ) → List ℕ → ℕ
total r [] = 0
total r (n ∷ ns) = r n + total r ns

total_most : (r : ℕ → ℕ) (ns : List ℕ) (m : ℕ) → has ns m ≡ true → r m ≤ total r ns
total_most r [] m h = absurd (let w : false ≡ true = h in cc)
total_most r (n ∷ ns) m h = go (n == m) refl (λ i. total_most r ns m i)
  where
    go : (b : Bool) → (n == m) ≡ b → (has ns m ≡ true → r m ≤ total r ns) → r m ≤ r n + total r ns
    go true e f = let same : r n ≡ r m = ap r (same_number n m e) in omega (arith, same)
    go false e f = let more = f (sym (ap (λ (b : Bool). b || has ns m) e) ∙ h) in omega (arith, more)

-- the numbers of the nodes, and beyond them others for all that is no node
abbrev pub spread : (ℕ → ℕ) → List ℕ → ℕ → ℕ
spread r ns p = if has ns p then r p else suc (total r ns + p)

pub spread_is : (r : ℕ → ℕ) (ns : List ℕ) (m : ℕ) → has ns m ≡ true → spread r ns m ≡ r m
spread_is r ns m h = rw h refl

pub spread_once : (r : ℕ → ℕ) (ns : List ℕ) → AreDistinct (map r ns) → IsOneToOne (spread r ns)
spread_once r ns d a b e = go (has ns a) refl (has ns b) refl
  where
    out : (m : ℕ) → has ns m ≡ false → spread r ns m ≡ suc (total r ns + m)
    out m h = rw h refl

    go : (p : Bool) → has ns a ≡ p → (q : Bool) → has ns b ≡ q → a ≡ b
    go true t true u = once_is r ns d a b t u (sym (spread_is r ns a t) ∙ (e ∙ spread_is r ns b u))
    go true t false u = let x : r a ≡ suc (total r ns + b) = sym (spread_is r ns a t) ∙ (e ∙ out b u) in let l = total_most r ns a t in absurd (omega (arith, x, l))
    go false t true u = let x : r b ≡ suc (total r ns + a) = sym (spread_is r ns b u) ∙ (sym e ∙ out a t) in let l = total_most r ns b u in absurd (omega (arith, x, l))
    go false t false u = let x : suc (total r ns + a) ≡ suc (total r ns + b) = sym (out a t) ∙ (e ∙ out b u) in omega (arith, x)

-- ---- entries

-- a number that is there is some node's
pub place_with : (r : ℕ → ℕ) (ns : List ℕ) (n : ℕ) → has (map r ns) n ≡ true → (p : ℕ) × (has ns p ≡ true) × (r p ≡ n)
place_with r [] n h = absurd (let w : false ≡ true = h in cc)
place_with r (m ∷ ns) n h = go (r m == n) refl (λ i. place_with r ns n i)
  where
    go : (b : Bool) → (r m == n) ≡ b → (has (map r ns) n ≡ true → (p : ℕ) × (has ns p ≡ true) × (r p ≡ n)) → (p : ℕ) × (has (m ∷ ns) p ≡ true) × (r p ≡ n)
    go true e f = (m, has_self m ns, same_number (r m) n e)
    go false e f = let z = f (sym (ap (λ (b : Bool). b || has (map r ns) n) e) ∙ h) in (z.0, has_rest m ns z.0 z.1, z.2)

pub some_is : (a b : ℕ) → Some a ≡ Some b → a ≡ b
some_is a b w = cc

-- an entry at a place is, under its number, the entry
pub entry_back : (r : ℕ → ℕ) (p n : ℕ) (x : Entry) → r p ≡ n → number_of x ≡ Some n → entry_renamed r (entry_at p x) ≡ x
entry_back r p n (Dispatch m v) h e = ap (λ (q : ℕ). Dispatch q v) (h ∙ sym (some_is m n e))
entry_back r p n (Block m k b) h e = ap (λ (q : ℕ). Block q k b) (h ∙ sym (some_is m n e))
entry_back r p n (End m) h e = ap End (h ∙ sym (some_is m n e))
entry_back r p n (Pick m k) h e = ap (λ (q : ℕ). Pick q k) (h ∙ sym (some_is m n e))
entry_back r p n (Test m b) h e = ap (λ (q : ℕ). Test q b) (h ∙ sym (some_is m n e))
entry_back r p n (Assign m y) h e = ap (λ (q : ℕ). Assign q y) (h ∙ sym (some_is m n e))
entry_back r p n (Set m) h e = ap Set (h ∙ sym (some_is m n e))
entry_back r p n (Pass m) h e = ap Pass (h ∙ sym (some_is m n e))
entry_back r p n (Note m) h e = ap Note (h ∙ sym (some_is m n e))
entry_back r p n (Edit i v) h e = absurd (let w : None ≡ Some n = e in cc)

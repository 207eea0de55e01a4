-- Frames that are written, and lists of nodes without a number twice.
use Rattle.std.specs.Prelude.{◌≡◌, ◌<◌, ◌+◌, ◌==◌, ◌||◌, ℕ, zero, suc, Bool, true, false, List, [], ◌∷◌, ◌++◌, length, take, drop, slice_get, slice_set, unwrap_or, Option, Some}
use Rattle.std.proofs.Common.{refl, sym, ◌∙◌, ap, subst, arith, get_or}
use Rattle.std.proofs.lemmas.Bool.Decides.{nat_tests}
use Rattle.exec_tree.specs.Exec.{has, AreDistinct, nodes, nodes_all}
use Rattle.exec_tree.specs.Arena.{to_execs}
use Rattle.exec_tree.specs.declared.node.BareNode.{BareNode}
use Rattle.run_frames.specs.Frames.{cells_of, AreKeptBut}
use Rattle.tree_table.specs.Placed.{placed_down, placed_all}
use Rattle.run_frames.proofs.RenamingLemmas.{same_number}
use Rattle.run_frames.proofs.KeepLemmas.{AreAlike, has_left, has_right, has_self, has_rest}
use Rattle.trace_law.specs.Cells.{Cell, Over}

-- ---- one frame written

pub get_set : (frames : List Cell) (p : ℕ) (f : Cell) → p < length frames → slice_get (slice_set frames p f) p ≡ Some f
get_set [] p f h = absurd (omega arith)
get_set (x ∷ frames) zero f h = refl
get_set (x ∷ frames) (suc p) f h = get_set frames p f (omega arith)

pub get_other : (frames : List Cell) (p r : ℕ) (f : Cell) → (p ≡ r → ⊥) → slice_get (slice_set frames p f) r ≡ slice_get frames r
get_other [] p r f h = refl
get_other (x ∷ frames) zero zero f h = absurd (h refl)
get_other (x ∷ frames) zero (suc r) f h = refl
get_other (x ∷ frames) (suc p) zero f h = refl
get_other (x ∷ frames) (suc p) (suc r) f h = get_other frames p r f (λ e. h (ap suc e))

pub length_set : (frames : List Cell) (p : ℕ) (f : Cell) → length (slice_set frames p f) ≡ length frames
length_set [] p f = refl
length_set (x ∷ frames) zero f = refl
length_set (x ∷ frames) (suc p) f = ap suc (length_set frames p f)

pub frame_set : (frames : List Cell) (p : ℕ) (f : Cell) → p < length frames → cells_of (slice_set frames p f) p ≡ f
frame_set frames p f h = ap (λ (o : Option Cell). unwrap_or o Over) (get_set frames p f h)

pub frame_other : (frames : List Cell) (p r : ℕ) (f : Cell) → (p ≡ r → ⊥) → cells_of (slice_set frames p f) r ≡ cells_of frames r
frame_other frames p r f h = ap (λ (o : Option Cell). unwrap_or o Over) (get_other frames p r f h)

pub clash : (b : Bool) → b ≡ true → b ≡ false → ⊥
clash b h g = let w : true ≡ false = sym h ∙ g in cc

own_test : (n q : ℕ) → n ≡ q → (n == q) ≡ true
own_test n q e = grind (arith, nat_tests)

pub not_own : (n : ℕ) (ns : List ℕ) (q : ℕ) → has (n ∷ ns) q ≡ false → n ≡ q → ⊥
not_own n ns q h e = clash (has (n ∷ ns) q) (subst (λ (m : ℕ). has (n ∷ ns) m ≡ true) e (has_self n ns)) h

pub not_rest : (n : ℕ) (ns : List ℕ) (q : ℕ) → has (n ∷ ns) q ≡ false → has ns q ≡ false
not_rest n ns q h = go (has ns q) refl
  where
    go : (b : Bool) → has ns q ≡ b → has ns q ≡ false
    go true e = absurd (clash (has (n ∷ ns) q) (has_rest n ns q e) h)
    go false e = e

-- only the frame that is written changes
pub set_keeps : (frames : List Cell) (p : ℕ) (f : Cell) (ns : List ℕ) → AreKeptBut frames (slice_set frames p f) (p ∷ ns)
set_keeps frames p f ns q h = frame_other frames p q f (not_own p ns q h)

pub set_alike : (frames : List Cell) (p : ℕ) (f : Cell) (ns : List ℕ) → has ns p ≡ false → AreAlike frames (slice_set frames p f) ns
set_alike frames p f ns out q i = frame_other frames p q f (λ e. clash (has ns p) (subst (λ (m : ℕ). has ns m ≡ true) (sym e) i) out)

-- ---- what is kept but some

pub but_none : (f : List Cell) (ns : List ℕ) → AreKeptBut f f ns
but_none f ns q h = refl

not_left : (ms ns : List ℕ) (q : ℕ) → has (ms ++ ns) q ≡ false → has ms q ≡ false
not_left ms ns q h = go (has ms q) refl
  where
    go : (b : Bool) → has ms q ≡ b → has ms q ≡ false
    go true e = absurd (clash (has (ms ++ ns) q) (has_left ms ns q e) h)
    go false e = e

not_right : (ms ns : List ℕ) (q : ℕ) → has (ms ++ ns) q ≡ false → has ns q ≡ false
not_right ms ns q h = go (has ns q) refl
  where
    go : (b : Bool) → has ns q ≡ b → has ns q ≡ false
    go true e = absurd (clash (has (ms ++ ns) q) (has_right ms ns q e) h)
    go false e = e

pub but_left : (f g : List Cell) (ms ns : List ℕ) → AreKeptBut f g ms → AreKeptBut f g (ms ++ ns)
but_left f g ms ns k q h = k q (not_left ms ns q h)

pub but_right : (f g : List Cell) (ms ns : List ℕ) → AreKeptBut f g ns → AreKeptBut f g (ms ++ ns)
but_right f g ms ns k q h = k q (not_right ms ns q h)

pub but_rest : (f g : List Cell) (n : ℕ) (ns : List ℕ) → AreKeptBut f g ns → AreKeptBut f g (n ∷ ns)
but_rest f g n ns k q h = k q (not_rest n ns q h)

pub but_both : (f g h : List Cell) (ns : List ℕ) → AreKeptBut f g ns → AreKeptBut g h ns → AreKeptBut f h ns
but_both f g h ns k l q o = l q o ∙ k q o

-- what is kept but some is alike on the others
pub but_alike : (f g : List Cell) (ms ns : List ℕ) → AreKeptBut f g ns → ((q : ℕ) → has ms q ≡ true → has ns q ≡ false) → AreAlike f g ms
but_alike f g ms ns k apart q i = k q (apart q i)

-- ---- numbers that stand once

pub once_left : (ms ns : List ℕ) → AreDistinct (ms ++ ns) → AreDistinct ms
once_left [] ns d = tt
once_left (m ∷ ms) ns d = (not_left ms ns m d.0, once_left ms ns d.1)

pub once_right : (ms ns : List ℕ) → AreDistinct (ms ++ ns) → AreDistinct ns
once_right [] ns d = d
once_right (m ∷ ms) ns d = once_right ms ns d.1

pub once_across : (ms ns : List ℕ) → AreDistinct (ms ++ ns) → (q : ℕ) → has ms q ≡ true → has ns q ≡ false
once_across [] ns d q i = absurd (let w : false ≡ true = i in cc)
once_across (m ∷ ms) ns d q i = go (m == q) refl (once_across ms ns d.1 q)
  where
    go : (b : Bool) → (m == q) ≡ b → (has ms q ≡ true → has ns q ≡ false) → has ns q ≡ false
    go true e f = subst (λ (n : ℕ). has ns n ≡ false) (same_number m q e) (not_right ms ns m d.0)
    go false e f = f (sym (ap (λ (b : Bool). b || has ms q) e) ∙ i)

pub once_back : (ms ns : List ℕ) → AreDistinct (ms ++ ns) → (q : ℕ) → has ns q ≡ true → has ms q ≡ false
once_back ms ns d q i = go (has ms q) refl
  where
    go : (b : Bool) → has ms q ≡ b → has ms q ≡ false
    go true e = absurd (clash (has ns q) i (once_across ms ns d q e))
    go false e = e

-- ---- elements in parts

again : (a b c : List ℕ) → (a ++ b) ++ c ≡ a ++ (b ++ c)
again [] b c = refl
again (x ∷ a) b c = ap (λ (l : List ℕ). x ∷ l) (again a b c)

pub nodes_split : (arena : List BareNode) (levels : ℕ) (ps qs : List ℕ) → nodes_all (to_execs (placed_all arena levels (ps ++ qs))) ≡ nodes_all (to_execs (placed_all arena levels ps)) ++ nodes_all (to_execs (placed_all arena levels qs))
nodes_split arena levels [] qs = refl
nodes_split arena levels (p ∷ ps) qs =
    ap (λ (l : List ℕ). nodes (placed_down arena levels p) ++ l) (nodes_split arena levels ps qs)
    ∙ sym (again (nodes (placed_down arena levels p)) (nodes_all (to_execs (placed_all arena levels ps))) (nodes_all (to_execs (placed_all arena levels qs))))

-- a list before an index, its item, and what comes after
pub split_at : (l : List ℕ) (i : ℕ) → i < length l → l ≡ take i l ++ get_or l i 0 ∷ drop (i + 1) l
split_at [] i h = absurd (omega (arith, h))
split_at (x ∷ l) zero h = refl
split_at (x ∷ l) (suc i) h = let e : suc i + 1 ≡ suc (i + 1) = omega arith in rw e (ap (λ (w : List ℕ). x ∷ w) (split_at l i (omega (arith, h))))

pub take_one : (l : List ℕ) (i : ℕ) → i < length l → take (i + 1) l ≡ take i l ++ get_or l i 0 ∷ []
take_one [] i h = absurd (omega (arith, h))
take_one (x ∷ l) zero h = refl
take_one (x ∷ l) (suc i) h = let e : suc i + 1 ≡ suc (i + 1) = omega arith in rw e (ap (λ (w : List ℕ). x ∷ w) (take_one l i (omega (arith, h))))

pub take_length : (l : List ℕ) (i : ℕ) → i < length l → length (take i l) ≡ i
take_length [] i h = absurd (omega (arith, h))
take_length (x ∷ l) zero h = refl
take_length (x ∷ l) (suc i) h = ap suc (take_length l i (omega (arith, h)))

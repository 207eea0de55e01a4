-- Elements, and what is opened of them where opening leads.
use Rattle.std.specs.Prelude.{◌≡◌, ◌==◌, if◌then◌else◌, ℕ, zero, suc, Bool, true, false, [], None}
use Rattle.std.proofs.Common.{refl}
use Rattle.exec_tree.specs.Exec.{Exec, Work, Leaf, Plan, Par, NonSeq, Sel, If, While, Execs, None_left, Then, nodes, nodes_all, has, number_or_none}
use Rattle.trace_law.specs.Next.{next, next_at}
use Rattle.trace_law.specs.Cells.{Cell}
use Rattle.trace_law.specs.Frames.{is_shared, Stands, StandsAt}
use Rattle.trace_law.specs.Leading.{has_none, leads, leads_first}
use Rattle.trace_law.proofs.LeadLemmas.{leads_stands}
use Rattle.frame_law.specs.Executable.{executable_at, executable_among, element, behind}
use Rattle.frame_law.specs.Onward.{Opens}
use Rattle.frame_law.specs.Way.{AreKeptBut, AreUnpicked, AreUnpickedAll, IsGone}
use Rattle.frame_law.proofs.OutsideLemmas.{no_left, no_right, not_rest}
use Rattle.frame_law.proofs.ReachLemmas.{unpicked_all, unpicked_elements}

-- ---- element i

pub element_next : (es : Execs) (i : ℕ) → next_at es i [] ≡ next (element es i) []
element_next None_left i = refl
element_next (Then e es) zero = refl
element_next (Then e es) (suc i) = element_next es i

pub element_stands : (c : ℕ → Cell) (es : Execs) (i : ℕ) → Stands c (element es i) [] → StandsAt c es i []
element_stands c None_left i s = tt
element_stands c (Then e es) zero s = s
element_stands c (Then e es) (suc i) s = element_stands c es i s

pub element_within : (es : Execs) (i q : ℕ) → has (nodes_all es) q ≡ false → has (nodes (element es i)) q ≡ false
element_within None_left i q h = refl
element_within (Then e es) zero q h = no_left (nodes e) (nodes_all es) q h
element_within (Then e es) (suc i) q h = element_within es i q (no_right (nodes e) (nodes_all es) q h)

-- ---- where opening leads lies within

lead_either : (b : Bool) (f g : Exec) (q : ℕ) → has (nodes f) q ≡ false → has (nodes g) q ≡ false → has (nodes (if b then f else g)) q ≡ false
lead_either true f g q h i = h
lead_either false f g q h i = i

mutual
  pub leads_within : (e : Exec) (q : ℕ) → has (nodes e) q ≡ false → has (nodes (leads e)) q ≡ false
  leads_within (Work n) q h = h
  leads_within (Leaf n k) q h = h
  leads_within (Plan n es) q h = leads_within_first es (Plan n es) q h (no_right (number_or_none n) (nodes_all es) q h)
  leads_within (Par n es) q h = lead_either (is_shared es) _ _ q h (leads_within_first es (Par n es) q h (not_rest n (nodes_all es) q h))
  leads_within (NonSeq n es) q h = h
  leads_within (Sel n es) q h = h
  leads_within (If n a b) q h = h
  leads_within (While n a) q h = h

  leads_within_first : (es : Execs) (itself : Exec) (q : ℕ) → has (nodes itself) q ≡ false → has (nodes_all es) q ≡ false → has (nodes (leads_first es itself)) q ≡ false
  leads_within_first None_left itself q h i = h
  leads_within_first (Then e es) itself q h i =
      lead_either (has_none (next e [])) _ _ q (leads_within_first es itself q h (no_right (nodes e) (nodes_all es) q i)) (leads_within e q (no_left (nodes e) (nodes_all es) q i))

-- elements are opened in order where opening them leads
pub gone_leads : (c c' : ℕ → Cell) (es : Execs) → AreUnpickedAll c' es → Stands c' (leads (Plan None es)) [] → AreKeptBut c c' (nodes (leads (Plan None es))) → IsGone c (Opens es) c'
gone_leads c c' es v s kept = record {
  ran = leads_stands c' (Plan None es) (unpicked_all c' es v) s;
  kept = λ q h. kept q (leads_within (Plan None es) q h);
}

-- ---- what has no picks has none within

unpicked_or : (c : ℕ → Cell) (b : Bool) (f g : Exec) → AreUnpicked c f → AreUnpicked c g → AreUnpicked c (if b then f else g)
unpicked_or c true f g p q = p
unpicked_or c false f g p q = q

mutual
  pub unpicked_found : (c : ℕ → Cell) (e : Exec) (m : ℕ) → AreUnpicked c e → AreUnpicked c (executable_at e m)
  unpicked_found c (Work n) m v = tt
  unpicked_found c (Leaf n k) m v = tt
  unpicked_found c (Plan n es) m v = unpicked_or c (has (number_or_none n) m) _ _ v (unpicked_found_among c es m v)
  unpicked_found c (Par n es) m v = unpicked_or c (n == m) _ _ v (unpicked_found_among c es m v)
  unpicked_found c (NonSeq n es) m v = unpicked_or c (n == m) _ _ v (unpicked_found_among c es m (unpicked_elements c n es v))
  unpicked_found c (Sel n es) m v = unpicked_or c (n == m) _ _ v (unpicked_found_among c es m v)
  unpicked_found c (If n a b) m v = unpicked_or c (n == m) _ _ v (unpicked_or c (has (nodes a) m) _ _ (unpicked_found c a m v.0) (unpicked_found c b m v.1))
  unpicked_found c (While n a) m v = unpicked_or c (n == m) _ _ v (unpicked_found c a m v)

  unpicked_found_among : (c : ℕ → Cell) (es : Execs) (m : ℕ) → AreUnpickedAll c es → AreUnpicked c (executable_among es m)
  unpicked_found_among c None_left m v = tt
  unpicked_found_among c (Then e es) m v = unpicked_or c (has (nodes e) m) _ _ (unpicked_found c e m v.0) (unpicked_found_among c es m v.1)

pub unpicked_element : (c : ℕ → Cell) (es : Execs) (i : ℕ) → AreUnpickedAll c es → AreUnpicked c (element es i)
unpicked_element c None_left i v = tt
unpicked_element c (Then e es) zero v = v.0
unpicked_element c (Then e es) (suc i) v = unpicked_element c es i v.1

pub unpicked_behind : (c : ℕ → Cell) (es : Execs) (i : ℕ) → AreUnpickedAll c es → AreUnpickedAll c (behind es i)
unpicked_behind c None_left i v = tt
unpicked_behind c (Then e es) zero v = v.1
unpicked_behind c (Then e es) (suc i) v = unpicked_behind c es i v.1

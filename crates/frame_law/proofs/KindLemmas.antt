-- What stands, and what comes in, once an entry's own node is known.
use Rattle.std.specs.Prelude.{◌≡◌, ◌==◌, ℕ, zero, suc, Bool, true, false, List, [], ◌∷◌, ◌++◌, Option, Some, None}
use Rattle.std.proofs.Common.{refl, sym, ◌∙◌, ap, subst, arith}
use Rattle.std.proofs.lemmas.Bool.Decides.{nat_tests}
use Rattle.exec_tree.specs.Exec.{Exec, Work, Sel, Execs, None_left, Then, nodes, nodes_all, has, AreDistinct}
use Rattle.trace_law.specs.Next.{next}
use Rattle.trace_law.specs.Cells.{Cell, stage_of, picked, next_by, AreKept}
use Rattle.trace_law.specs.Offer.{Offer, IsOffered, offer, offer_by, offer_of_work}
use Rattle.trace_law.specs.Part.{Part}
use Rattle.trace_law.specs.State.{stage_step}
use Rattle.trace_law.specs.Coming.{came, Changes}
use Rattle.trace_law.specs.Frames.{Stands, StandsAt, Goes}
use Rattle.run_log.specs.declared.entry.Entry.{Entry}
use Rattle.run_log.specs.declared.entry.Entry.TheVariants.{Dispatch, Block, End}
use Rattle.trace_law.proofs.StepLemmas.{apart, next_has}
use Rattle.trace_law.proofs.StepForthLemmas.{step_of}
use Rattle.trace_law.proofs.FrameNextLemmas.{next_from_frames}
use Rattle.trace_law.proofs.StepBackLemmas.{step_inside}
use Rattle.trace_law.proofs.FrameMoveLemmas.{stands_step, stands_kept}
use Rattle.trace_law.proofs.ContinueLemmas.{clash}
use Rattle.trace_law.proofs.PreorderLemmas.{next_within, not_within}
use Rattle.trace_law.proofs.FrameOfferLemmas.{offer_from_frames}
use Rattle.trace_law.proofs.OfferExactLemmas.{offers}
use Rattle.trace_law.proofs.ArriveLemmas.{comes_last}
use Rattle.frame_law.specs.Executable.{executable_at}
use Rattle.frame_law.specs.Onward.{Done, onward, brings}
use Rattle.frame_law.specs.Way.{Follows, Writes, AreUnpicked, blocks_after}
use Rattle.frame_law.proofs.OutsideLemmas.{has_number, yes_left, yes_right}
use Rattle.frame_law.proofs.BringLemmas.{brought}
use Rattle.frame_law.proofs.UpLemmas.{up}
use Rattle.frame_law.proofs.ChosenLemmas.{by_node, unchosen, found_distinct}
use Rattle.frame_law.proofs.OfferedLemmas.{offered_at}

pub goes_up : (c c' : ℕ → Cell) (e : Exec) (t : List Entry) (x : Entry) (m : ℕ) → Follows c e t x m → AreUnpicked c' e → Writes c (executable_at e m) (onward e Done m) x c' → Goes c e x c'
goes_up c c' e t x m f v w = let z = step_of e t x (apart e f.distinct) f.part in (up c c' e t x Done m f.distinct z.0 z.1 f.stands f.number v (λ i h. refl) w).0

pub stands_after : (c c' : ℕ → Cell) (e : Exec) (t : List Entry) (x : Entry) (m : ℕ) → Follows c e t x m → AreUnpicked c' e → Writes c (executable_at e m) (onward e Done m) x c' → Stands c' e (t ++ x ∷ [])
stands_after c c' e t x m f v w =
    let d = apart e f.distinct in
    let z = step_of e t x d f.part in
    stands_step c c' e t x d z.0 z.1 f.stands (goes_up c c' e t x m f v w)

pub comes_after : (c : ℕ → Cell) (e : Exec) (t : List Entry) (x : Entry) (m : ℕ) → Follows c e t x m → Changes (next e t) (next e (t ++ x ∷ [])) m (came c (executable_at e m) x (brings c (onward e Done m)))
comes_after c e t x m f =
    let d = apart e f.distinct in
    let z = step_of e t x d f.part in
    subst (λ (l : List ℕ). Changes (next e t) (next e (t ++ x ∷ [])) m l) (brought c e x Done m f.number) (comes_last c e t x m d z.0 z.1 f.stands f.number)

-- where the node is known
pub stands_as : (c c' : ℕ → Cell) (e : Exec) (t : List Entry) (x : Entry) (m : ℕ) (node : Exec) → Follows c e t x m → AreUnpicked c' e → executable_at e m ≡ node → Writes c node (onward e Done m) x c' → Stands c' e (t ++ x ∷ [])
stands_as c c' e t x m node f v h w = stands_after c c' e t x m f v (subst (λ (g : Exec). Writes c g (onward e Done m) x c') (sym h) w)

pub comes_as : (c : ℕ → Cell) (e : Exec) (t : List Entry) (x : Entry) (m : ℕ) (node : Exec) (l : List ℕ) → Follows c e t x m → executable_at e m ≡ node → came c node x (brings c (onward e Done m)) ≡ l → Changes (next e t) (next e (t ++ x ∷ [])) m l
comes_as c e t x m node l f h g =
    subst (λ (u : List ℕ). Changes (next e t) (next e (t ++ x ∷ [])) m u) (ap (λ (z : Exec). came c z x (brings c (onward e Done m))) h ∙ g) (comes_after c e t x m f)

pub distinct_as : (c : ℕ → Cell) (e : Exec) (t : List Entry) (x : Entry) (m : ℕ) (node : Exec) → Follows c e t x m → executable_at e m ≡ node → AreDistinct (nodes node)
distinct_as c e t x m node f h = subst (λ (g : Exec). AreDistinct (nodes g)) h (found_distinct e m f.distinct)

-- the run can go on at the node, by its own frame
pub next_as : (c : ℕ → Cell) (e : Exec) (t : List Entry) (x : Entry) (m : ℕ) (node : Exec) → Follows c e t x m → executable_at e m ≡ node → has (next_by c node) m ≡ true
next_as c e t x m node f h =
    let d = apart e f.distinct in
    let z = step_of e t x d f.part in
    let on = ap (λ (l : List ℕ). has l m) (next_from_frames c e t d z.0 f.stands) in
    subst (λ (g : Exec). has (next_by c g) m ≡ true) h (by_node c e m f.distinct (sym on ∙ has_number (next e t) x m _ f.number (next_has e t x z.0 z.1)))

pub unchosen_as : (c : ℕ → Cell) (e : Exec) (t : List Entry) (x : Entry) (m : ℕ) (es : Execs) → Follows c e t x m → executable_at e m ≡ Sel m es → picked (c m) ≡ []
unchosen_as c e t x m es f h = unchosen c m es (distinct_as c e t x m (Sel m es) f h).0 (next_as c e t x m (Sel m es) f h)

pub offered_as : (c : ℕ → Cell) (e : Exec) (t : List Entry) (x : Entry) (m : ℕ) → Follows c e t x m → IsOffered (offer_by c (executable_at e m) m) m x
offered_as c e t x m f =
    let d = apart e f.distinct in
    let z = step_of e t x d f.part in
    let there : has (next e t) m ≡ true = has_number (next e t) x m true f.number (next_has e t x z.0 z.1) in
    subst (λ (o : Offer). IsOffered o m x) (offer_from_frames c e t m d z.0 f.stands there ∙ offered_at c e m (has_number (nodes e) x m true f.number (step_inside e t x f.part)))
    (offers e t x m d z.0 z.1 f.number)

pub at_kept : (c c' : ℕ → Cell) (es : Execs) (i : ℕ) (t : List Entry) → AreKept c c' (nodes_all es) → StandsAt c es i t → StandsAt c' es i t
at_kept c c' None_left i t h s = tt
at_kept c c' (Then e es) zero t h s = stands_kept c c' e t (λ q g. h q (yes_left (nodes e) (nodes_all es) q g)) s
at_kept c c' (Then e es) (suc i) t h s = at_kept c c' es i t (λ q g. h q (yes_right (nodes e) (nodes_all es) q g)) s

-- ---- where the run can go on, without an entry

inside_of_next : (e : Exec) (t : List Entry) (m : ℕ) → has (next e t) m ≡ true → has (nodes e) m ≡ true
inside_of_next e t m h = go (has (nodes e) m) refl
  where
    go : (b : Bool) → has (nodes e) m ≡ b → has (nodes e) m ≡ true
    go true g = g
    go false g = absurd (clash (has (next e t) m) h (not_within (next e t) (nodes e) m (next_within e t) g))

pub offers_there : (c : ℕ → Cell) (e : Exec) (t : List Entry) (m : ℕ) → AreDistinct (nodes e) → Part e t → Stands c e t → has (next e t) m ≡ true → offer e t m ≡ offer_by c (executable_at e m) m
offers_there c e t m d p s h = offer_from_frames c e t m (apart e d) p s h ∙ offered_at c e m (inside_of_next e t m h)

pub next_there : (c : ℕ → Cell) (e : Exec) (t : List Entry) (m : ℕ) → AreDistinct (nodes e) → Part e t → Stands c e t → has (next e t) m ≡ true → has (next_by c (executable_at e m)) m ≡ true
next_there c e t m d p s h = by_node c e m d (sym (ap (λ (l : List ℕ). has l m) (next_from_frames c e t (apart e d) p s)) ∙ h)

-- ---- the entries of a workingstep

same_yes : (j m : ℕ) → j ≡ m → (j == m) ≡ true
same_yes j m e = grind (arith, nat_tests)

work_said : (o : Option ℕ) (m : ℕ) (x : Entry) → IsOffered (offer_of_work o) m x → stage_step m o x ≡ blocks_after x
work_said None m (Dispatch j v) h = rw (same_yes j m h) refl
work_said None m x h = absurd h
work_said (Some k) m (Block j i b) h = rw (same_yes j m h.0, h.1) refl
work_said (Some k) m (End j) h = rw (same_yes j m h) refl
work_said (Some k) m x h = absurd h

pub work_after_as : (c : ℕ → Cell) (e : Exec) (t : List Entry) (x : Entry) (m : ℕ) → Follows c e t x m → executable_at e m ≡ Work m → stage_step m (stage_of (c m)) x ≡ blocks_after x
work_after_as c e t x m f h = work_said (stage_of (c m)) m x (subst (λ (g : Exec). IsOffered (offer_by c g m) m x) h (offered_as c e t x m f))

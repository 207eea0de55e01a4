-- How many elements of a parallel go on after one more entry.
use Rattle.std.specs.Prelude.{◌≡◌, ◌+◌, ◌-◌, ℕ, true, List, [], ◌∷◌, ◌++◌}
use Rattle.std.proofs.Common.{refl, sym, ap, inl, inr, arith}
use Rattle.exec_tree.specs.Exec.{Execs, None_left, Then, nodes}
use Rattle.trace_law.specs.Of.{number_of, is_of, only}
use Rattle.trace_law.specs.Part.{EachPart}
use Rattle.trace_law.specs.Next.{next}
use Rattle.trace_law.specs.Step.{StepOfOne}
use Rattle.trace_law.specs.Cells.{Cell}
use Rattle.trace_law.specs.Frames.{one_where, going, next_by_of, StandsEach}
use Rattle.trace_law.specs.Coming.{next_of_one}
use Rattle.run_log.specs.declared.entry.Entry.{Entry}
use Rattle.trace_law.proofs.StepLemmas.{ApartAll, SameParts, of_none, next_has, only_out}
use Rattle.trace_law.proofs.StepBackLemmas.{same_in}
use Rattle.trace_law.proofs.FrameNextLemmas.{next_from_frames}

pub not_empty : (l : List ℕ) (x : Entry) → is_of l x ≡ true → l ≡ [] → ⊥
not_empty [] x h e = of_none (number_of x) h
not_empty (y ∷ l) x h e = cc

pub one_some : (l : List ℕ) → (l ≡ [] → ⊥) → one_where l ≡ 1
one_some [] h = absurd (h refl)
one_some (n ∷ l) h = refl

same_going : (es : Execs) (t u : List Entry) → SameParts es t u → going es t ≡ going es u
same_going None_left t u h = refl
same_going (Then e es) t u h = rw (h.0, same_going es t u h.1) refl

pub left_moves : (es : Execs) (t : List Entry) (x : Entry) → ApartAll es → EachPart es t → StepOfOne es t x → going es (t ++ x ∷ []) + 1 ≡ going es t + one_where (next_of_one es x (t ++ x ∷ []))
left_moves None_left t x d p q = absurd q
left_moves (Then a es) t x d p (inl q) =
    let some : one_where (next a (only (nodes a) t)) ≡ 1 = one_some (next a (only (nodes a) t)) (not_empty (next a (only (nodes a) t)) x (next_has a (only (nodes a) t) x p.0 q.1)) in
    let rest : going es (t ++ x ∷ []) ≡ going es t = sym (same_going es t (t ++ x ∷ []) (same_in es t x (d.2 x q.0))) in
    let here : next_of_one (Then a es) x (t ++ x ∷ []) ≡ next a (only (nodes a) (t ++ x ∷ [])) = rw q.0 refl in
    let g : one_where (next_of_one (Then a es) x (t ++ x ∷ [])) ≡ one_where (next a (only (nodes a) (t ++ x ∷ []))) = ap one_where here in
    omega (arith, some, rest, g)
left_moves (Then a es) t x d p (inr q) =
    let same : one_where (next a (only (nodes a) (t ++ x ∷ []))) ≡ one_where (next a (only (nodes a) t)) = ap (λ (u : List Entry). one_where (next a u)) (only_out (nodes a) t x q.0) in
    let here : one_where (next_of_one (Then a es) x (t ++ x ∷ [])) ≡ one_where (next_of_one es x (t ++ x ∷ [])) = ap one_where (rw q.0 refl) in
    let rec = left_moves es t x d.1 p.1 q.1 in
    omega (arith, same, here, rec)

-- and by the frames after it
pub one_from_frames : (c : ℕ → Cell) (es : Execs) (t : List Entry) (x : Entry) → ApartAll es → EachPart es t → StandsEach c es t → next_of_one es x t ≡ next_by_of c es x
one_from_frames c None_left t x d p s = refl
one_from_frames c (Then e es) t x d p s = rw (next_from_frames c e (only (nodes e) t) d.0 p.0 s.0, one_from_frames c es t x d.1 p.1 s.1) refl

pub left_after : (c : ℕ → Cell) (es : Execs) (t : List Entry) (x : Entry) → ApartAll es → EachPart es t → StepOfOne es t x → EachPart es (t ++ x ∷ []) → StandsEach c es (t ++ x ∷ []) → going es t + one_where (next_by_of c es x) - 1 ≡ going es (t ++ x ∷ [])
left_after c es t x d p q p' s =
    let a = left_moves es t x d p q in
    let b : one_where (next_of_one es x (t ++ x ∷ [])) ≡ one_where (next_by_of c es x) = ap one_where (one_from_frames c es (t ++ x ∷ []) x d p' s) in
    omega (arith, a, b)

use Rattle.std.proofs.Common.{arith, ◌≡◌, ◌∙◌, ap, sym, ℕ, ◌+◌, ◌-◌, ◌<◌, Some, length, unsigned_abs}
use Rattle.std.proofs.Common.{subst, List, ◌∷◌, suc, zero, refl}
use Rattle.std.specs.Prelude.{slice_get}
use Rattle.std.specs.List.{enumerate_from}
use Rattle.std.proofs.lemmas.List.FromFn.{length-enumerate_from, get_or-enumerate_from}
use Rattle.std.proofs.lemmas.Option.{slice_get-get_or, get_or_from_slice_get, slice_get_within}
use Rattle.path_blocks.specs.Cuts.{cuts}
use Rattle.path_plane.proofs.facing.Facing.offset.Goals as goal

-- a row after the first
later : (xs : List ℕ) (i x : ℕ) → slice_get xs i ≡ Some x → slice_get (enumerate_from 1 xs) i ≡ Some (1 + i, x)
later xs i x got =
    let within : i < length xs = slice_get_within xs i x got in
    let all : i < length (enumerate_from 1 xs) = rw (length-enumerate_from 1 xs) within in
    slice_get-get_or (enumerate_from 1 xs) i (0, x) all
    ∙ ap (λ (r : ℕ × ℕ). Some r) (get_or-enumerate_from 1 xs i (0, x) within ∙ ap (λ (o : ℕ). (1 + i, o)) (get_or_from_slice_get xs i x x got))

later_row : (xs : List ℕ) (i x : ℕ) → (i ≡ 0 → ⊥) → slice_get xs (i - 1) ≡ Some x → slice_get (enumerate_from 0 (0 ∷ xs)) i ≡ Some (i, x)
later_row xs zero x h got = absurd (h refl)
later_row xs (suc i) x h got = later xs i x (subst (λ (k : ℕ). slice_get xs k ≡ Some x) (omega arith) got) ∙ ap (λ (k : ℕ). Some (k, x)) (omega arith)

pub cut-requires-clause-index : goal.cut-requires-clause-index
cut-requires-clause-index c =
    let e = ap (λ (s : ℕ). length (cuts s c.breadth.result)) c.row_step.ensures.exact ∙ ap (λ (w : ℕ). length (cuts (unsigned_abs c.args.self.now.step) w)) c.breadth.ensures.exact in
    omega (arith, e, c.requires, length-enumerate_from 1 (cuts (unsigned_abs c.args.self.now.step) (unsigned_abs c.args.self.now.width)))

pub returns-else-index-eq0-clause-exact : goal.returns-else-index-eq0-clause-exact
returns-else-index-eq0-clause-exact c =
    later_row (cuts (unsigned_abs c.args.self.now.step) (unsigned_abs c.args.self.now.width)) c.args.index c.cut.result c.if-index-eq0.false
    (ap (λ (w : ℕ). slice_get (cuts (unsigned_abs c.args.self.now.step) w) (c.args.index - 1)) (sym c.breadth.ensures.exact)
    ∙ ap (λ (s : ℕ). slice_get (cuts s c.breadth.result) (c.args.index - 1)) (sym c.row_step.ensures.exact) ∙ c.cut.ensures.exact)

pub returns-else-index-eq0-clause-within : goal.returns-else-index-eq0-clause-within
returns-else-index-eq0-clause-within c = omega (arith, c.cut.ensures.within, c.breadth.ensures.narrow)

-- The blocks before and after a place.
use Rattle.std.proofs.Common.{◌≡◌, ◌∙◌, sym, ap, arith, ℕ, zero, suc, ◌+◌, ◌<◌, List, [], ◌∷◌, ◌++◌, length, drop, Some}
use Rattle.std.specs.Prelude.{slice_get}
use Rattle.std.proofs.lemmas.List.{take_more}
use Rattle.std.proofs.lemmas.Option.{same_Some, slice_get_within, get_or_from_slice_get}
use Rattle.path_blocks.specs.declared.block.Block.{Block}
use Rattle.path_blocks.specs.Path.{path_of}
use Rattle.path_blocks.specs.Place.{Place, ahead, behind, onward}

drop_at : {A : Type 0} (xs : List A) (i : ℕ) (x : A) → slice_get xs i ≡ Some x → drop i xs ≡ x ∷ drop (suc i) xs
drop_at [] i x got = absurd cc
drop_at {A} (y ∷ xs) zero x got = ap (λ (z : A). z ∷ xs) (same_Some y x got)
drop_at (y ∷ xs) (suc i) x got = drop_at xs i x got

-- one block on, before the end
next_given : (p q : Place) (b : Block) → slice_get (path_of p.def) p.given ≡ Some b → q ≡ onward p 1 → q ≡ record { def = p.def; given = p.given + 1 }
next_given p q b got e =
    let within : p.given < length (path_of p.def) = slice_get_within (path_of p.def) p.given b got in
    e ∙ ap (λ (n : ℕ). record { def = p.def; given = n }) (omega (arith, within))

-- what is behind after one more block
pub behind_more : (p q : Place) (b : Block) → slice_get (path_of p.def) p.given ≡ Some b → q ≡ onward p 1 → behind q ≡ behind p ++ b ∷ []
behind_more p q b got e =
    ap (λ (r : Place). behind r) (next_given p q b got e)
    ∙ take_more (path_of p.def) p.given b (slice_get_within (path_of p.def) p.given b got)
    ∙ ap (λ (y : Block). behind p ++ y ∷ []) (get_or_from_slice_get (path_of p.def) p.given b b got)

-- what is still ahead then
pub ahead_less : (p q : Place) (b : Block) → slice_get (path_of p.def) p.given ≡ Some b → q ≡ onward p 1 → ahead p ≡ b ∷ ahead q
ahead_less p q b got e =
    let one_on : suc p.given ≡ p.given + 1 = omega arith in
    drop_at (path_of p.def) p.given b got
    ∙ ap (λ (n : ℕ). b ∷ drop n (path_of p.def)) one_on
    ∙ ap (λ (r : Place). b ∷ ahead r) (sym (next_given p q b got e))

-- A definition is determined by its numbers.
use Rattle.std.proofs.Common.{◌≡◌, ◌∙◌, Bool, ℕ, ℤ, Option, Result, Ok, Err, refl, ap, subst, sym}
use Rattle.std.proofs.Props.{props}
use Rattle.std.specs.Prelude.{◌∷◌, [], ◌<ℤ◌, IsTrue, nat_le}
use Rattle.std.specs.List.{list_all}
use Rattle.std.specs.Int.{is_positive}
use Rattle.path_blocks.specs.Range.{is_within, fits_shape}
use Rattle.path_blocks.specs.declared.def.Def.{Def}
use Rattle.entity_types.specs.declared.entity.Entity.{Entity}
use Rattle.step_def.specs.declared.fault.DefFault.{DefFault}
use Rattle.step_def.specs.Steps.{Gives}
use Rattle.path_blocks.specs.Count.{block_count}
use Rattle.path_blocks.specs.Numbers.{Numbers, numbers_of}
use Rattle.step_def.specs.Numbers.{numbers_at}
use Rattle.step_def.specs.Ranges.{KeepsRanges, def_with}
use Rattle.step_def.specs.DefOf.{with_ranges, def_of}

is_test : (b : Bool) (p q : IsTrue b) → p ≡ q
is_test b p q = let set : IsProp (IsTrue b) = hlevel props in set p q

is_below : (x y : ℤ) (p q : x <ℤ y) → p ≡ q
is_below x y p q = let set : IsProp (x <ℤ y) = hlevel props in set p q

unique : (d : Def) (keeps : KeepsRanges (numbers_of d)) → d ≡ def_with (numbers_of d) keeps
unique d keeps =
    ap (λ (p : IsTrue (list_all is_within (d.spindle ∷ d.feed ∷ d.sec ∷ d.ret ∷ d.z0 ∷ d.bottom ∷ d.axial ∷ []))). def_with (numbers_of d) (record { within = p; feeds = d.feeds; cuts = d.cuts; downwards = d.downwards; shaped = d.shaped; few = d.few })) (is_test _ d.within keeps.within)
    ∙ ap (λ (p : IsTrue (is_positive d.feed)). def_with (numbers_of d) (record { within = keeps.within; feeds = p; cuts = d.cuts; downwards = d.downwards; shaped = d.shaped; few = d.few })) (is_test _ d.feeds keeps.feeds)
    ∙ ap (λ (p : IsTrue (is_positive d.axial)). def_with (numbers_of d) (record { within = keeps.within; feeds = keeps.feeds; cuts = p; downwards = d.downwards; shaped = d.shaped; few = d.few })) (is_test _ d.cuts keeps.cuts)
    ∙ ap (λ (p : d.bottom <ℤ d.z0). def_with (numbers_of d) (record { within = keeps.within; feeds = keeps.feeds; cuts = keeps.cuts; downwards = p; shaped = d.shaped; few = d.few })) (is_below _ _ d.downwards keeps.downwards)
    ∙ ap (λ (p : IsTrue (fits_shape d.shape)). def_with (numbers_of d) (record { within = keeps.within; feeds = keeps.feeds; cuts = keeps.cuts; downwards = keeps.downwards; shaped = p; few = d.few })) (is_test _ d.shaped keeps.shaped)
    ∙ ap (λ (p : IsTrue (nat_le (block_count d.z0 d.bottom d.axial d.shape) 20000)). def_with (numbers_of d) (record { within = keeps.within; feeds = keeps.feeds; cuts = keeps.cuts; downwards = keeps.downwards; shaped = keeps.shaped; few = p })) (is_test _ d.few keeps.few)

-- the definition with the numbers of d is d
same : (d : Def) (x : Numbers) → numbers_of d ≡ x → (keeps : KeepsRanges x) → d ≡ def_with x keeps
same d x e keeps = subst (λ (y : Numbers). (k : KeepsRanges y) → d ≡ def_with y k) e (unique d) keeps

abbrev done : Numbers → Result Numbers DefFault
done x = Ok x

ok_is : (x y : Numbers) → done x ≡ done y → x ≡ y
ok_is x y e = cc

found_is : (r : Result Def DefFault) (found : Result Numbers DefFault) (keeps : (x : Numbers) → found ≡ Ok x → KeepsRanges x) → Gives numbers_of r found → r ≡ with_ranges found keeps
found_is (Ok d) (Ok x) keeps e = ap (λ (y : Def). Ok y) (same d x (sym (ok_is x (numbers_of d) e)) (keeps x refl))
found_is (Ok d) (Err fault) keeps e = absurd cc
found_is (Err fault) (Ok x) keeps e = absurd cc
found_is (Err fault) (Err other) keeps e = cc

-- what has the numbers of the definition is the definition
pub is_def_of : (from : ℕ → Option Entity) (n : ℕ) (r : Result Def DefFault) → Gives numbers_of r (numbers_at from n) → r ≡ def_of from n
unfolding def_of
is_def_of from n r e = found_is r (numbers_at from n) _ e

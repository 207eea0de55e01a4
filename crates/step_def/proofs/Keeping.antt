-- Numbers that equal those of a lookup keep the ranges too.
use Rattle.std.proofs.Common.{◌≡◌, ℤ, ◌∷◌, [], IsTrue, ◌<ℤ◌, nat_le}
use Rattle.std.specs.List.{list_all}
use Rattle.std.specs.Int.{is_positive}
use Rattle.path_blocks.specs.declared.def.Shape.{Shape}
use Rattle.path_blocks.specs.Range.{is_within, fits_shape}
use Rattle.path_blocks.specs.Count.{block_count}
use Rattle.path_blocks.specs.Numbers.{Numbers}
use Rattle.step_def.specs.Ranges.{KeepsRanges}

pub within_same : (x : Numbers) → KeepsRanges x → (spindle feed sec ret z0 bottom axial : ℤ) → spindle ≡ x.spindle → feed ≡ x.feed → sec ≡ x.sec → ret ≡ x.ret → z0 ≡ x.z0 → bottom ≡ x.bottom → axial ≡ x.axial
    → IsTrue (list_all is_within (spindle ∷ feed ∷ sec ∷ ret ∷ z0 ∷ bottom ∷ axial ∷ []))
within_same x keeps spindle feed sec ret z0 bottom axial p q r s t u v = rw (p, q, r, s, t, u, v) keeps.within

pub feeds_same : (x : Numbers) → KeepsRanges x → (feed : ℤ) → feed ≡ x.feed → IsTrue (is_positive feed)
feeds_same x keeps feed p = rw p keeps.feeds

pub cuts_same : (x : Numbers) → KeepsRanges x → (axial : ℤ) → axial ≡ x.axial → IsTrue (is_positive axial)
cuts_same x keeps axial p = rw p keeps.cuts

pub downwards_same : (x : Numbers) → KeepsRanges x → (z0 bottom : ℤ) → z0 ≡ x.z0 → bottom ≡ x.bottom → bottom <ℤ z0
downwards_same x keeps z0 bottom p q = rw (p, q) keeps.downwards

pub shaped_same : (x : Numbers) → KeepsRanges x → (shape : Shape) → shape ≡ x.shape → IsTrue (fits_shape shape)
shaped_same x keeps shape p = rw p keeps.shaped

pub few_same : (x : Numbers) → KeepsRanges x → (z0 bottom axial : ℤ) (shape : Shape) → z0 ≡ x.z0 → bottom ≡ x.bottom → axial ≡ x.axial → shape ≡ x.shape → IsTrue (nat_le (block_count z0 bottom axial shape) 20000)
few_same x keeps z0 bottom axial shape p q r s = rw (p, q, r, s) keeps.few

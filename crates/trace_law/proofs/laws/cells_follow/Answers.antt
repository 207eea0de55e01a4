use Rattle.trace_law.proofs.StepLemmas.{apart, next_has}
use Rattle.trace_law.proofs.StepForthLemmas.{step_of}
use Rattle.trace_law.proofs.CellNextLemmas.{next_from_cells}
use Rattle.trace_law.proofs.CellMoveLemmas.{cells_step}
use Rattle.std.proofs.Common.{◌≡◌, ℕ, List, true, sym, subst}
use Rattle.trace_law.specs.Of.{is_of}
use Rattle.trace_law.specs.Offer.{Offer, IsOffered}
use Rattle.trace_law.proofs.StepBackLemmas.{part_of_step}
use Rattle.trace_law.proofs.ContinueLemmas.{step_of_right}
use Rattle.trace_law.proofs.OfferLemmas.{continues}
use Rattle.trace_law.proofs.OfferExactLemmas.{offers}
use Rattle.trace_law.proofs.CellOfferLemmas.{offer_from_cells}
use Rattle.trace_law.proofs.laws.cells_follow.Goals as goal

pub returns-clause-next : goal.returns-clause-next
returns-clause-next g = λ e t c d p s. next_from_cells c e t (apart e d) p s

pub returns-clause-moved : goal.returns-clause-moved
returns-clause-moved g = λ e t x c c' d q s m. cells_step c c' e t x (apart e d) (step_of e t x (apart e d) q).0 q s m

pub returns-clause-offer : goal.returns-clause-offer
returns-clause-offer g = λ e t m c h s. offer_from_cells c e t m h s

pub returns-clause-tested : goal.returns-clause-tested
returns-clause-tested g = λ e t x m c d p s n h.
    let nx = next_from_cells c e t (apart e d) p s in
    let of = offer_from_cells c e t m h s in (
      λ q.
          let z = step_of e t x (apart e d) q in
          (subst (λ (l : List ℕ). is_of l x ≡ true) nx (next_has e t x z.0 z.1), subst (λ (o : Offer). IsOffered o m x) of (offers e t x m (apart e d) z.0 z.1 n)),
      λ z.
          let i = subst (λ (l : List ℕ). is_of l x ≡ true) (sym nx) z.0 in
          part_of_step e t x (apart e d) p (step_of_right e t x (apart e d) p i (continues e t x m (apart e d) p n i (subst (λ (o : Offer). IsOffered o m x) (sym of) z.1))),
    )

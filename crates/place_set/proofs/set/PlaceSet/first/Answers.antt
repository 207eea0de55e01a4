use Rattle.std.proofs.Common.{◌≡◌, ◌<◌, ℕ, List, true, false, subst}
use Rattle.place_set.specs.Words.{holds}
use Rattle.place_set.proofs.LevelLemmas.{found}
use Rattle.place_set.proofs.set.PlaceSet.first.Goals as goal

pub returns : goal.returns
returns c =
    subst (λ (v : List ℕ). (holds v c.first_of_word-c.result ≡ true) × (c.first_of_word-c.result < 262144) × ((q : ℕ) → q < c.first_of_word-c.result → holds v q ≡ false)) c.self.view_is
    (found _ _ _ c.first_of_word-a.result c.first_of_word-b.result c.first_of_word-c.result c.self.invariant
    c.first_of_word-a.ensures.word c.first_of_word-a.ensures.set c.first_of_word-a.ensures.first
    c.first_of_word-b.ensures.word c.first_of_word-b.ensures.set c.first_of_word-b.ensures.first
    c.first_of_word-c.ensures.word c.first_of_word-c.ensures.set c.first_of_word-c.ensures.first)

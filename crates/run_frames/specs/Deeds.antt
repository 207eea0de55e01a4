-- What the code's word for what a node does next means.
use Rattle.std.specs.Prelude.{◌≡◌, ℕ}
use Rattle.exec_tree.specs.Exec.{Assigning, Setting, Waiting, Noting}
use Rattle.pick_set.specs.Picks.{IsLeastLeft}
use Rattle.trace_law.specs.Offer.{Offer}
use Rattle.trace_law.specs.Offer as offers
use Rattle.run_frames.specs.declared.deed.Deed.{Deed}
use Rattle.run_frames.specs.declared.deed.Deed.TheVariants as deeds

-- the deed is what is offered; of so many elements the next is the least that is left, and each offer has one deed
abbrev pub IsDeed : Offer → Deed → Type 0
IsDeed offers.Starts d = d ≡ deeds.Starts
IsDeed (offers.Cuts k) d = d ≡ deeds.Cuts k
IsDeed (offers.Does Assigning) d = d ≡ deeds.Assigns
IsDeed (offers.Does Setting) d = d ≡ deeds.Sets
IsDeed (offers.Does Waiting) d = d ≡ deeds.Passes
IsDeed (offers.Does Noting) d = d ≡ deeds.Notes
IsDeed (offers.Picks count ks) d = (k : ℕ) × (d ≡ deeds.Picks count k) × IsLeastLeft count ks k
IsDeed offers.Tests d = d ≡ deeds.Tests
IsDeed offers.Nothing d = ⊥

-- What the code's word for what a node does next means.
use Rattle.exec_tree.specs.Exec.{Assigning, Setting, Waiting, Noting}
use Rattle.trace_law.specs.Offer.{Offer, offer_of_work, Does, Picks, Tests, Nothing}
use Rattle.trace_law.specs.declared.offers.Deed.{Deed}
use Rattle.trace_law.specs.declared.offers.Deed.TheVariants as deed

-- the offer of a deed
abbrev pub offer_of : Deed → Offer
offer_of (deed.Works stage) = offer_of_work stage
offer_of deed.Assigns = Does Assigning
offer_of deed.Sets = Does Setting
offer_of deed.Passes = Does Waiting
offer_of deed.Notes = Does Noting
offer_of (deed.Picks count picked) = Picks count picked.items
offer_of deed.Tests = Tests
offer_of deed.Nothing = Nothing

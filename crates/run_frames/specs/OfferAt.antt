-- What a node does next, by its kind, its cell and the number of its elements.
use Rattle.std.specs.Prelude.{ℕ, [], length, Option, Some, None}
use Rattle.exec_tree.specs.Exec.{Assigning, Setting, Waiting, Noting}
use Rattle.exec_tree.specs.declared.kind.Kind.{Kind}
use Rattle.exec_tree.specs.declared.kind.Kind.TheVariants as kind
use Rattle.exec_tree.specs.declared.node.BareNode.{BareNode}
use Rattle.trace_law.specs.Cells.{Cell, stage_of, picked}
use Rattle.trace_law.specs.Offer.{Offer, Does, Picks, Tests, Nothing, offer_of_work}

-- what a node of this kind does next, by its cell and the number of its elements; workplans and parallels do nothing themselves
abbrev pub offer_at : Kind → Cell → ℕ → Offer
offer_at kind.Plan c count = Nothing
offer_at kind.Par c count = Nothing
offer_at kind.NonSeq c count = Picks count (picked c)
offer_at kind.Sel c count = Picks count []
offer_at kind.If c count = Tests
offer_at kind.While c count = Tests
offer_at kind.Work c count = offer_of_work (stage_of c)
offer_at kind.Assign c count = Does Assigning
offer_at kind.Set c count = Does Setting
offer_at kind.Wait c count = Does Waiting
offer_at kind.Note c count = Does Noting

-- the same of the node at a place
abbrev pub offer_there : Option BareNode → Cell → Offer
offer_there None c = Nothing
offer_there (Some node) c = offer_at node.kind c (length node.elements)

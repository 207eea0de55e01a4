use Rattle.exec_tree.proofs.PlaceLemmas.{seen_placed}
use Rattle.exec_tree.proofs.LookupLemmas.{numbered_at}
use Rattle.exec_tree.proofs.laws.places_are_found.Goals as goal

pub returns : goal.returns
returns c = record { some = seen_placed 0; numbered = numbered_at }

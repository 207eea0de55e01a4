use Rattle.std.specs.List.Sorted.{IsPermutation}
use Rattle.project_store.specs.Places.{places_from}
use Rattle.project_store.proofs.PlaceLemmas.{index_made}
use Rattle.project_store.proofs.index.Index.new.Goals as goal

pub invariant_of-result : goal.invariant_of-result
invariant_of-result c =
    let all : IsPermutation (places_from 0 c.args.entities.items) c.in_ok-opening.opening.items = rw (← c.as_slice.ensures.value) c.in_ok-opening.ensures.all in
    index_made c.in_ok-opening.opening.items c.new.result c.args.entities.items c.in_ok-opening.ensures.ordered all c.requires

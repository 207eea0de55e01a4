use Rattle.place_set.proofs.BlankLemmas.{blank, none}
use Rattle.place_set.proofs.set.PlaceSet.filled.Goals as goal

pub invariant_of-result : goal.invariant_of-result
invariant_of-result c = blank c.args.word c.requires

pub returns : goal.returns
returns c = none c.args.word c.requires

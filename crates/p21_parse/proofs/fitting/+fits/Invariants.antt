use Rattle.std.proofs.Common.{◌*◌, ◌+◌, map, take}
use Rattle.std.specs.List.{AllByRecursion}
use Rattle.p21_parse.specs.View.{tree_of}
use Rattle.p21_parse.specs.Built.{Fits}
use Rattle.p21_parse.proofs.fitting.+fits.Given as goal

abbrev pub decreases-fits : goal.decreases-fits
decreases-fits l = 4 * l.most + 2

abbrev pub decreases-list_fits : goal.decreases-list_fits
decreases-list_fits l = 4 * l.most

abbrev pub decreases-typed_fits : goal.decreases-typed_fits
decreases-typed_fits l = 4 * l.most + 1

abbrev pub decreases-all_fit : goal.decreases-all_fit
decreases-all_fit l = 4 * l.most + 3

abbrev pub invariant-all_fit-loop-param : goal.invariant-all_fit-loop-param
invariant-all_fit-loop-param l = AllByRecursion (Fits l.most) (map tree_of (take l.param-index l.params))

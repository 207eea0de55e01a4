use Rattle.std.proofs.Common.{◌≡◌, map, take}
use Rattle.p21_parse.specs.Allowed.{own_number_of}
use Rattle.p21_parse.specs.View.{instance_of}
use Rattle.edit_script.proofs.repeat.numbers_of.Given as goal

abbrev pub invariant-loop-item : goal.invariant-loop-item
invariant-loop-item l = l.numbers.items ≡ map own_number_of (map instance_of (take l.item-index l.items))

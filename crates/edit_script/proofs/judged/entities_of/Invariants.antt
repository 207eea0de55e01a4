use Rattle.std.proofs.Common.{◌≡◌, take, map, Ok}
use Rattle.p21_parse.specs.View.{instance_of}
use Rattle.entity_read.specs.Typed.{entity_of}
use Rattle.edit_script.specs.Edits.{entities_of}
use Rattle.edit_script.proofs.judged.entities_of.Given as goal

abbrev pub invariant-loop-instance : goal.invariant-loop-instance
invariant-loop-instance l = entities_of (map instance_of (take l.instance-index l.instances)) ≡ Ok (map entity_of l.entities)

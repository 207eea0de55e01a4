use Rattle.std.proofs.Common.{◌≡◌, ◌++◌, map, take}
use Rattle.p21_parse.specs.Allowed.{own_number_of}
use Rattle.p21_parse.specs.View.{instance_of}
use Rattle.project_read.proofs.gathered.Gathered.add_numbers.Given as goal

abbrev pub invariant-loop-instance : goal.invariant-loop-instance
invariant-loop-instance l = record {
  numbers : l.self.numbers.items ≡ l.initial.self.numbers.items ++ map own_number_of (map instance_of (take l.instance-index l.instances));
  entities : l.self.entities ≡ l.initial.self.entities;
  fault : l.self.fault ≡ l.initial.self.fault;
}

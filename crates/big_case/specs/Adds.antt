-- What is put behind instances.
use Rattle.std.specs.Prelude.{◌≡◌, List, ◌++◌, map}
use Rattle.p21_parse.specs.declared.exchange.Instance.{Instance}
use Rattle.p21_parse.specs.Tree.{InstanceTree}
use Rattle.p21_parse.specs.View.{instance_of}

-- Behind the old instances, the new ones have these.
abbrev pub Adds : List InstanceTree → List Instance → List Instance → Type 0
Adds more old new = map instance_of new ≡ map instance_of old ++ more

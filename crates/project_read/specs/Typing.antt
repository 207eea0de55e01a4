-- The entities of a file's instances.
use Rattle.std.specs.Prelude.{ℕ, List, [], ◌∷◌, Result, Ok, Err}
use Rattle.p21_parse.specs.Tree.{InstanceTree}
use Rattle.entity_read.specs.declared.error.TypeErr.{TypeErr}
use Rattle.entity_read.specs.declared.error.TypeErr.TheVariants.{BadAttribute}
use Rattle.entity_read.specs.Typed.{EntityTree, typed_of}

-- an entity, or the bad position of instance n, and then those behind it
abbrev pub with_typed : ℕ → Result EntityTree ℕ → Result (List EntityTree) TypeErr → Result (List EntityTree) TypeErr
with_typed n (Err position) rest = Err (BadAttribute n position)
with_typed n (Ok e) (Ok es) = Ok (e ∷ es)
with_typed n (Ok e) (Err fault) = Err fault

-- the entities of the instances, or the bad attribute of the first instance that has one
abbrev pub all_typed : List InstanceTree → Result (List EntityTree) TypeErr
all_typed [] = Ok []
all_typed (i ∷ is) = with_typed i.number (typed_of i) (all_typed is)

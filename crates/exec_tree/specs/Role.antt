-- What a run asks of a node beside its place in the tree.
use Rattle.std.specs.Prelude.{ℕ, Option}
use Rattle.entity_types.specs.declared.entity.Entity.{Entity}
use Rattle.exec_tree.specs.declared.kind.Kind.{Kind}
use Rattle.exec_tree.specs.declared.kind.Kind.TheVariants as kind
use Rattle.exec_tree.specs.declared.role.Role.{Role}
use Rattle.exec_tree.specs.declared.role.Role.TheVariants.{Cutting, Waiting, Free}
use Rattle.exec_tree.specs.Executable.{kind_at}
use Rattle.exec_tree.specs.Said.{Said, Plain, Awaits, target_of}

-- the role of a node of this kind, which waits for this mark where it is a wait
abbrev pub role_by : Kind → ℕ → Role
role_by kind.Work mark = Cutting
role_by kind.Wait mark = Waiting mark
role_by _ mark = Free

-- the role of an executable in a store
abbrev pub role_at : Option Entity → Role
role_at found = role_by (kind_at found) (target_of found)

abbrev pub role_of : (ℕ → Option Entity) → ℕ → Role
role_of entities n = role_at (entities n)

-- the role that a node says
abbrev pub role_said : Said → Role
role_said (Plain k) = role_by k 0
role_said (Awaits mark) = Waiting mark
role_said _ = Free

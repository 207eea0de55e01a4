-- In the tree of a store each element has a number.
use Rattle.std.specs.Prelude.{◌≡◌, ℕ, zero, suc, true, is_some, List, [], ◌∷◌, map, Option, Some, None}
use Rattle.std.proofs.Common.{refl}
use Rattle.entity_types.specs.declared.entity.Entity.{Entity}
use Rattle.exec_tree.specs.declared.kind.Kind.{Kind}
use Rattle.exec_tree.specs.declared.kind.Kind.TheVariants as kind
use Rattle.exec_tree.specs.declared.limits.TheConstants.{MAX_TREE_NESTING}
use Rattle.exec_tree.specs.Exec.{Exec}
use Rattle.exec_tree.specs.Arena.{to_execs, of_kind}
use Rattle.exec_tree.specs.Executable.{kind_of, kind_at, parts_by, parts_at, reference_at}
use Rattle.exec_tree.specs.TreeOf.{part_tree, exec_found, tree_from, tree_of}
use Rattle.frame_law.specs.Executable.{own_number}
use Rattle.frame_law.specs.Looks.{AreNumbered, AreNumberedAll}

named : (k : Kind) (n : ℕ) (es : List Exec) → is_some (own_number (of_kind k (Some n) es)) ≡ true
named kind.Plan n es = refl
named kind.Par n es = refl
named kind.NonSeq n es = refl
named kind.Sel n es = refl
named kind.If n es = refl
named kind.While n es = refl
named kind.Work n es = refl
named kind.Assign n es = refl
named kind.Set n es = refl
named kind.Wait n es = refl
named kind.Note n es = refl

abbrev IsNumbered : Exec → Type 0
IsNumbered e = AreNumbered e × (is_some (own_number e) ≡ true)

all_numbered : (below : ℕ → Exec) (ps : List ℕ) → ((m : ℕ) → IsNumbered (below m)) → AreNumberedAll (to_execs (map (part_tree below) (map Some ps)))
all_numbered below [] h = tt
all_numbered below (p ∷ ps) h = ((h p).1, (h p).0, all_numbered below ps h)

part_numbered : (below : ℕ → Exec) (o : Option ℕ) → ((m : ℕ) → IsNumbered (below m)) → AreNumbered (part_tree below o)
part_numbered below None h = tt
part_numbered below (Some m) h = (h m).0

by_kind : (k : Kind) (entity : Entity) (n : ℕ) (below : ℕ → Exec) → ((m : ℕ) → IsNumbered (below m)) → AreNumbered (of_kind k (Some n) (map (part_tree below) (parts_by k entity)))
by_kind kind.Plan entity n below h = all_numbered below _ h
by_kind kind.Par entity n below h = all_numbered below _ h
by_kind kind.NonSeq entity n below h = all_numbered below _ h
by_kind kind.Sel entity n below h = all_numbered below _ h
by_kind kind.If entity n below h = (part_numbered below (reference_at entity 3) h, part_numbered below (reference_at entity 4) h)
by_kind kind.While entity n below h = part_numbered below (reference_at entity 3) h
by_kind kind.Work entity n below h = tt
by_kind kind.Assign entity n below h = tt
by_kind kind.Set entity n below h = tt
by_kind kind.Wait entity n below h = tt
by_kind kind.Note entity n below h = tt

found_numbered : (found : Option Entity) (n : ℕ) (below : ℕ → Exec) → ((m : ℕ) → IsNumbered (below m)) → AreNumbered (exec_found n below found)
found_numbered None n below h = tt
found_numbered (Some entity) n below h = by_kind (kind_of entity.class) entity n below h

bare_numbered : (k : Kind) (n : ℕ) → AreNumbered (of_kind k (Some n) [])
bare_numbered kind.Plan n = tt
bare_numbered kind.Par n = tt
bare_numbered kind.NonSeq n = tt
bare_numbered kind.Sel n = tt
bare_numbered kind.If n = (tt, tt)
bare_numbered kind.While n = tt
bare_numbered kind.Work n = tt
bare_numbered kind.Assign n = tt
bare_numbered kind.Set n = tt
bare_numbered kind.Wait n = tt
bare_numbered kind.Note n = tt

from_numbered : (entities : ℕ → Option Entity) (left n : ℕ) → IsNumbered (tree_from entities left n)
unfolding tree_from
from_numbered entities zero n = (bare_numbered (kind_at (entities n)) n, named (kind_at (entities n)) n [])
from_numbered entities (suc left) n = (
  found_numbered (entities n) n (λ m. tree_from entities left m) (λ m. from_numbered entities left m),
  named (kind_at (entities n)) n (map (part_tree (λ m. tree_from entities left m)) (parts_at (entities n))),
)

pub tree_numbered : (entities : ℕ → Option Entity) (main : ℕ) → AreNumbered (tree_of entities main)
tree_numbered entities main = (from_numbered entities MAX_TREE_NESTING main).0

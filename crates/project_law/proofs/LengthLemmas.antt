-- The trees and the paths of a project meet what the bound of a run's length asks.
use Rattle.std.specs.Prelude.{◌≡◌, ◌<◌, ◌≤◌, ℕ, zero, suc, Bool, true, false, ◌==◌, nat_le, if◌then◌else◌, List, [], ◌∷◌, length, map, Option, Some, None, IsTrue}
use Rattle.std.specs.Option.{option_map_or}
use Rattle.std.specs.Result.{result_ok}
use Rattle.std.proofs.Common.{refl, sym, subst, arith}
use Rattle.std.proofs.lemmas.Bool.Decides.{nat_tests}
use Rattle.path_blocks.specs.declared.limits.TheConstants.{MAX_BLOCKS}
use Rattle.path_blocks.specs.declared.block.Block.{Block as PathBlock}
use Rattle.path_blocks.specs.declared.def.Def.{Def}
use Rattle.path_blocks.specs.Numbers.{numbers_of}
use Rattle.path_blocks.specs.Count.{block_count}
use Rattle.path_blocks.specs.Path.{path_of}
use Rattle.path_blocks.proofs.Lengths.{length-path_from}
use Rattle.entity_types.specs.declared.entity.Entity.{Entity}
use Rattle.project_store.specs.Entities.{entity_at}
use Rattle.step_def.specs.DefOf.{def_of}
use Rattle.exec_tree.specs.Exec.{Exec, nodes}
use Rattle.exec_tree.specs.Arena.{to_execs, of_kind}
use Rattle.exec_tree.specs.declared.kind.Kind.{Kind}
use Rattle.exec_tree.specs.declared.kind.Kind.TheVariants as kind
use Rattle.exec_tree.specs.Executable.{kind_of, kind_at, references_at, parts_by, parts_at}
use Rattle.exec_tree.specs.TreeOf.{part_tree, tree_from}
use Rattle.run_log.specs.declared.entry.Entry.{Entry}
use Rattle.run_log.specs.declared.entry.Entry.TheVariants.{Dispatch, Block, End, Pick, Test, Assign, Set, Pass, Note}
use Rattle.run_log.specs.declared.entry.Entry.TheVariants as entries
use Rattle.run_law.specs.Length.{HasNoLoop, HaveNoLoop, AreNumbered, HasNumbers, HaveNumbers}
use Rattle.project_law.specs.Script.{Edit, store_with}
use Rattle.project_law.specs.Paths.{blocks_in, frozen_with, frozen_from}

-- ---- trees

above_zero : (k : ℕ) → 0 < suc k
above_zero k = omega arith

-- what has a number has a node
there : (k : Kind) (n : ℕ) (es : List Exec) → 0 < length (nodes (of_kind k (Some n) es))
there kind.Plan n es = above_zero _
there kind.Par n es = above_zero _
there kind.NonSeq n es = above_zero _
there kind.Sel n es = above_zero _
there kind.If n es = above_zero _
there kind.While n es = above_zero _
there kind.Work n es = above_zero _
there kind.Assign n es = above_zero _
there kind.Set n es = above_zero _
there kind.Wait n es = above_zero _
there kind.Note n es = above_zero _

pub tree_is_there : (entities : ℕ → Option Entity) (left n : ℕ) → 0 < length (nodes (tree_from entities left n))
unfolding tree_from
tree_is_there entities zero n = there (kind_at (entities n)) n []
tree_is_there entities (suc left) n = there (kind_at (entities n)) n (map (part_tree (λ m. tree_from entities left m)) (parts_at (entities n)))

numbered : (below : ℕ → Exec) → ((m : ℕ) → 0 < length (nodes (below m))) → (ns : List ℕ) → AreNumbered (to_execs (map (part_tree below) (map Some ns)))
numbered below h [] = tt
numbered below h (n ∷ ns) = (h n, numbered below h ns)

part_numbers : (below : ℕ → Exec) → ((m : ℕ) → HasNumbers (below m)) → (part : Option ℕ) → HasNumbers (part_tree below part)
part_numbers below h None = tt
part_numbers below h (Some m) = h m

parts_numbers : (below : ℕ → Exec) → ((m : ℕ) → HasNumbers (below m)) → (parts : List (Option ℕ)) → HaveNumbers (to_execs (map (part_tree below) parts))
parts_numbers below h [] = tt
parts_numbers below h (part ∷ parts) = (part_numbers below h part, parts_numbers below h parts)

bare_numbers : (k : Kind) (n : ℕ) → HasNumbers (of_kind k (Some n) [])
bare_numbers kind.NonSeq n = (tt, tt)
bare_numbers kind.If n = (tt, tt)
bare_numbers kind.Plan n = tt
bare_numbers kind.Par n = tt
bare_numbers kind.Sel n = tt
bare_numbers kind.While n = tt
bare_numbers kind.Work n = tt
bare_numbers kind.Assign n = tt
bare_numbers kind.Set n = tt
bare_numbers kind.Wait n = tt
bare_numbers kind.Note n = tt

numbers_by : (below : ℕ → Exec) → ((m : ℕ) → 0 < length (nodes (below m))) → ((m : ℕ) → HasNumbers (below m)) → (k : Kind) (n : ℕ) (entity : Entity) → HasNumbers (of_kind k (Some n) (map (part_tree below) (parts_by k entity)))
numbers_by below l h kind.Plan n entity = parts_numbers below h (parts_by kind.Plan entity)
numbers_by below l h kind.Par n entity = parts_numbers below h (parts_by kind.Par entity)
numbers_by below l h kind.NonSeq n entity = (numbered below l (references_at entity 2), parts_numbers below h (parts_by kind.NonSeq entity))
numbers_by below l h kind.Sel n entity = parts_numbers below h (parts_by kind.Sel entity)
numbers_by below l h kind.If n entity = let f = parts_numbers below h (parts_by kind.If entity) in (f.0, f.1.0)
numbers_by below l h kind.While n entity = let f = parts_numbers below h (parts_by kind.While entity) in f.0
numbers_by below l h kind.Work n entity = tt
numbers_by below l h kind.Assign n entity = tt
numbers_by below l h kind.Set n entity = tt
numbers_by below l h kind.Wait n entity = tt
numbers_by below l h kind.Note n entity = tt

numbers_found : (below : ℕ → Exec) → ((m : ℕ) → 0 < length (nodes (below m))) → ((m : ℕ) → HasNumbers (below m)) → (found : Option Entity) (n : ℕ) → HasNumbers (of_kind (kind_at found) (Some n) (map (part_tree below) (parts_at found)))
numbers_found below l h None n = tt
numbers_found below l h (Some entity) n = numbers_by below l h (kind_of entity.class) n entity

-- each element of a store's non-sequential has its number
pub tree_numbers : (entities : ℕ → Option Entity) (left n : ℕ) → HasNumbers (tree_from entities left n)
unfolding tree_from
tree_numbers entities zero n = bare_numbers (kind_at (entities n)) n
tree_numbers entities (suc left) n = numbers_found (λ m. tree_from entities left m) (λ m. tree_is_there entities left m) (λ m. tree_numbers entities left m) (entities n) n

part_loops : (below : ℕ → Exec) → ((m : ℕ) → HasNoLoop (below m)) → (part : Option ℕ) → HasNoLoop (part_tree below part)
part_loops below h None = tt
part_loops below h (Some m) = h m

parts_loops : (below : ℕ → Exec) → ((m : ℕ) → HasNoLoop (below m)) → (parts : List (Option ℕ)) → HaveNoLoop (to_execs (map (part_tree below) parts))
parts_loops below h [] = tt
parts_loops below h (part ∷ parts) = (part_loops below h part, parts_loops below h parts)

bare_loops : (k : Kind) (n : ℕ) → (k ≡ kind.While → ⊥) → HasNoLoop (of_kind k (Some n) [])
bare_loops kind.While n w = absurd (w refl)
bare_loops kind.If n w = (tt, tt)
bare_loops kind.Plan n w = tt
bare_loops kind.Par n w = tt
bare_loops kind.NonSeq n w = tt
bare_loops kind.Sel n w = tt
bare_loops kind.Work n w = tt
bare_loops kind.Assign n w = tt
bare_loops kind.Set n w = tt
bare_loops kind.Wait n w = tt
bare_loops kind.Note n w = tt

loops_by : (below : ℕ → Exec) → ((m : ℕ) → HasNoLoop (below m)) → (k : Kind) (n : ℕ) (entity : Entity) → (k ≡ kind.While → ⊥) → HasNoLoop (of_kind k (Some n) (map (part_tree below) (parts_by k entity)))
loops_by below h kind.Plan n entity w = parts_loops below h (parts_by kind.Plan entity)
loops_by below h kind.Par n entity w = parts_loops below h (parts_by kind.Par entity)
loops_by below h kind.NonSeq n entity w = parts_loops below h (parts_by kind.NonSeq entity)
loops_by below h kind.Sel n entity w = parts_loops below h (parts_by kind.Sel entity)
loops_by below h kind.If n entity w = let f = parts_loops below h (parts_by kind.If entity) in (f.0, f.1.0)
loops_by below h kind.While n entity w = absurd (w refl)
loops_by below h kind.Work n entity w = tt
loops_by below h kind.Assign n entity w = tt
loops_by below h kind.Set n entity w = tt
loops_by below h kind.Wait n entity w = tt
loops_by below h kind.Note n entity w = tt

loops_found : (below : ℕ → Exec) → ((m : ℕ) → HasNoLoop (below m)) → (found : Option Entity) (n : ℕ) → (kind_at found ≡ kind.While → ⊥) → HasNoLoop (of_kind (kind_at found) (Some n) (map (part_tree below) (parts_at found)))
loops_found below h None n w = tt
loops_found below h (Some entity) n w = loops_by below h (kind_of entity.class) n entity w

-- a store without a while has no loop in its tree
pub tree_loops : (entities : ℕ → Option Entity) → ((m : ℕ) → kind_at (entities m) ≡ kind.While → ⊥) → (left n : ℕ) → HasNoLoop (tree_from entities left n)
unfolding tree_from
tree_loops entities w zero n = bare_loops (kind_at (entities n)) n (w n)
tree_loops entities w (suc left) n = loops_found (λ m. tree_from entities left m) (λ m. tree_loops entities w left m) (entities n) n (w n)

-- ---- paths

at_most : (m n : ℕ) → IsTrue (nat_le m n) → m ≤ n
at_most m n e = grind (arith, nat_tests)

short_path : (def : Def) → length (path_of def) ≤ MAX_BLOCKS
short_path def = subst (λ (n : ℕ). n ≤ MAX_BLOCKS) (sym (length-path_from (numbers_of def))) (at_most (block_count def.z0 def.bottom def.axial def.shape) MAX_BLOCKS def.few)

short_found : (found : Option Def) → length (option_map_or path_of found []) ≤ MAX_BLOCKS
short_found None = let f : 0 ≤ MAX_BLOCKS = omega arith in f
short_found (Some def) = short_path def

short_blocks : (entities : ℕ → Option Entity) (n : ℕ) → length (blocks_in entities n) ≤ MAX_BLOCKS
short_blocks entities n = short_found (result_ok (def_of entities n))

short_with : (store : List Entity) (n : ℕ) (path : List PathBlock) (x : Entry) → length path ≤ MAX_BLOCKS → length (frozen_with store n path x) ≤ MAX_BLOCKS
short_with store n path (Dispatch m v) l = go (m == n)
  where
    go : (b : Bool) → length (if b then blocks_in (entity_at store) n else path) ≤ MAX_BLOCKS
    go true = short_blocks (entity_at store) n
    go false = l
short_with store n path (Block m k b) l = l
short_with store n path (End m) l = l
short_with store n path (Pick m k) l = l
short_with store n path (Test m b) l = l
short_with store n path (Assign m v) l = l
short_with store n path (Set m) l = l
short_with store n path (Pass m) l = l
short_with store n path (Note m) l = l
short_with store n path (entries.Edit i w) l = l

-- no step is dispatched with a longer path than may be
pub short_frozen : (script : List Edit) (store : List Entity) (n : ℕ) (path : List PathBlock) (t : List Entry) → length path ≤ MAX_BLOCKS → length (frozen_from script store n path t) ≤ MAX_BLOCKS
short_frozen script store n path [] l = l
short_frozen script store n path (x ∷ t) l = short_frozen script (store_with script store x) n (frozen_with store n path x) t (short_with store n path x l)

pub none_short : 0 ≤ MAX_BLOCKS
none_short = omega arith

pub too_long : (n limit most : ℕ) → n ≡ limit → most ≤ limit → n < most → ⊥
too_long n limit most e l f = omega (arith, e, l, f)

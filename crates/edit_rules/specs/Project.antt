-- What a project is, and which stores are one.
use Rattle.std.specs.Prelude.{◌≡◌, ℕ, true, List, Some, None, Result, Ok, Err}
use Rattle.std.specs.List.{list_all}
use Rattle.std.specs.BTreeMap.{BTreeMap}
use Rattle.entity_types.specs.declared.entity.Entity.{Entity}
use Rattle.project_store.specs.Entities.{entity_at}
use Rattle.path_blocks.specs.declared.step.Step.{Step}
use Rattle.exec_tree.specs.declared.error.TreeErr.TheVariants as trees
use Rattle.exec_tree.specs.TreeFault.{first_tree_fault}
use Rattle.exec_tree.specs.Built.{TreeValue, main_of, steps_of, IsTreeOf}
use Rattle.edit_rules.specs.declared.error.ProjErr.{ProjErr}
use Rattle.edit_rules.specs.declared.error.ProjErr.TheVariants.{Tree, Definition, NoMemory}
use Rattle.edit_rules.specs.Faults.{has_def, IsLeastFault}
use Rattle.edit_rules.specs.Steps.{HaveDefs, step_numbers, AreIndices}

-- the workingsteps of the tree from the main workplan on, in preorder
abbrev pub project_steps : List Entity → List ℕ
project_steps entities = steps_of (entity_at entities) (main_of entities)

-- the executables from the main workplan on are a tree, and each of its workingsteps has a definition
pub record IsSound (entities : List Entity) : Type 0 where
  pub treed : first_tree_fault (entity_at entities) (main_of entities) ≡ None
  pub defined : list_all (has_def entities) (project_steps entities) ≡ true

-- the entities are a project, or why they are none, unless memory ran out
abbrev pub Accepts : List Entity → Result (List Entity) ProjErr → Type 0
Accepts entities (Ok p) = (p ≡ entities) × IsSound entities
Accepts entities (Err (Tree trees.NoMemory)) = ⊥
Accepts entities (Err (Tree fault)) = first_tree_fault (entity_at entities) (main_of entities) ≡ Some fault
Accepts entities (Err (Definition n fault)) = (first_tree_fault (entity_at entities) (main_of entities) ≡ None) × IsLeastFault entities (project_steps entities) n fault
Accepts entities (Err NoMemory) = Unit {0}

-- the tree is that of the entities, the steps are its workingsteps with their definitions, and the map tells where each stands
pub record IsProject (entities : List Entity) (tree : TreeValue) (steps : List Step) (indices : BTreeMap ℕ ℕ) : Type 0 where
  pub tree_is : IsTreeOf (entity_at entities) (main_of entities) tree
  pub steps_are : step_numbers steps ≡ project_steps entities
  pub defs : HaveDefs entities steps
  pub indexed : AreIndices indices (step_numbers steps)

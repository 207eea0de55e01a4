-- The project that the bytes of a file hold.
use Rattle.std.specs.Prelude.{◌≡◌, ℕ, ◌≤◌, true, None, List, length, map, Ok}
use Rattle.std.specs.List.{list_all}
use Rattle.p21_parse.specs.Tree.{ExchangeTree}
use Rattle.p21_parse.specs.Text.{IsText}
use Rattle.entity_types.specs.declared.entity.Entity.{Entity}
use Rattle.entity_read.specs.Typed.{entity_of}
use Rattle.project_store.specs.Entities.{entity_at}
use Rattle.project_store.specs.Build.{fault_of}
use Rattle.exec_tree.specs.TreeFault.{first_tree_fault}
use Rattle.exec_tree.specs.Built.{main_of, steps_of}
use Rattle.project_read.specs.Typing.{all_typed}
use Rattle.edit_rules.specs.Faults.{has_def}
use Rattle.project_read.specs.declared.limits.TheConstants.{MAX_PROJECT_BYTES}

-- a project: its entities in file order, the number of its main workplan, and the workingsteps of the tree from there on, in preorder
pub record Project : Type 0 where
  pub entities : List Entity
  pub main : ℕ
  pub steps : List ℕ

-- the bytes are a file of at most so many bytes that spells the exchange
pub record HasExchange (bytes : List ℕ) (x : ExchangeTree) : Type 0 where
  pub short : length bytes ≤ MAX_PROJECT_BYTES
  pub spelled : IsText bytes x

-- its instances are these entities
pub record HasEntities (bytes : List ℕ) (entities : List Entity) : Type 0 where
  pub exchange : ExchangeTree
  pub has : HasExchange bytes exchange
  pub typed : all_typed exchange.items ≡ Ok (map entity_of entities)

-- there is one project among them, and their references are resolved
pub record HasStore (bytes : List ℕ) (entities : List Entity) : Type 0 where
  pub has : HasEntities bytes entities
  pub built : fault_of entities ≡ None

-- and the executables from the main workplan on are a tree, with these workingsteps
pub record HasTree (bytes : List ℕ) (p : Project) : Type 0 where
  pub has : HasStore bytes p.entities
  pub main_is : p.main ≡ main_of p.entities
  pub treed : first_tree_fault (entity_at p.entities) p.main ≡ None
  pub steps_are : p.steps ≡ steps_of (entity_at p.entities) p.main

-- the bytes hold the project: and each of its workingsteps has a definition
pub record Holds (bytes : List ℕ) (p : Project) : Type 0 where
  pub has : HasTree bytes p
  pub defined : list_all (has_def p.entities) p.steps ≡ true

-- Why the bytes of a file hold no project: for each reason what stands in the bytes.
use Rattle.std.specs.Prelude.{◌≡◌, ℕ, ◌<◌, ◌≤◌, List, length, Some, Err}
use Rattle.p21_lex.specs.declared.error.LexErr.TheVariants as lexes
use Rattle.p21_parse.specs.declared.error.ReadErr.TheVariants as reads
use Rattle.p21_parse.specs.Tree.{ExchangeTree}
use Rattle.p21_parse.specs.Text.{IsRefusedText}
use Rattle.entity_types.specs.declared.entity.Entity.{Entity}
use Rattle.project_store.specs.Entities.{entity_at}
use Rattle.project_store.specs.Build.{fault_of}
use Rattle.exec_tree.specs.TreeFault.{first_tree_fault}
use Rattle.exec_tree.specs.Built.{main_of}
use Rattle.project_read.specs.declared.reason.ProjectReason.{ProjectReason}
use Rattle.project_read.specs.declared.reason.ProjectReason.TheVariants.{TooLong, Read, Attribute, Store, Tree, Definition, NoStep}
use Rattle.project_read.specs.Typing.{all_typed}
use Rattle.edit_rules.specs.Faults.{IsLeastFault}
use Rattle.project_read.specs.Holds.{Project, HasExchange, HasEntities, HasStore, HasTree}
use Rattle.project_read.specs.declared.limits.TheConstants.{MAX_PROJECT_BYTES}

-- of the reasons for which bytes aren't read want of memory is none
abbrev pub Refuses : List ℕ → ProjectReason → Type 0
Refuses bytes TooLong = MAX_PROJECT_BYTES < length bytes
Refuses bytes (Read reads.NoMemory) = ⊥
Refuses bytes (Read (reads.Lex lexes.NoMemory)) = ⊥
Refuses bytes (Read fault) = (length bytes ≤ MAX_PROJECT_BYTES) × IsRefusedText bytes fault
Refuses bytes (Attribute fault) = (x : ExchangeTree) × HasExchange bytes x × (all_typed x.items ≡ Err fault)
Refuses bytes (Store fault) = (entities : List Entity) × HasEntities bytes entities × (fault_of entities ≡ Some fault)
Refuses bytes (Tree fault) = (entities : List Entity) × HasStore bytes entities × (first_tree_fault (entity_at entities) (main_of entities) ≡ Some fault)
Refuses bytes (Definition n fault) = (p : Project) × HasTree bytes p × IsLeastFault p.entities p.steps n fault
-- that a number is no workingstep's is no matter of the bytes alone
Refuses bytes (NoStep n) = ⊥

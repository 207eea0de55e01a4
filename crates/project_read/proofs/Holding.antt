-- What bytes hold, from their exchange to their project.
use Rattle.std.proofs.Common.{ℕ, List, Ok, Err, refl, sym, subst}
use Rattle.entity_types.specs.declared.entity.Entity.{Entity}
use Rattle.exec_tree.specs.declared.error.TreeErr.TheVariants as trees
use Rattle.edit_rules.specs.declared.error.ProjErr.{ProjErr}
use Rattle.edit_rules.specs.declared.error.ProjErr.TheVariants.{Tree, Definition, NoMemory}
use Rattle.edit_rules.specs.Project.{Accepts}
use Rattle.project_read.specs.Errors.{from_accept}
use Rattle.project_read.specs.declared.reason.ProjectErr.{ProjectErr}
use Rattle.project_read.specs.declared.reason.ProjectErr.TheVariants as errors
use Rattle.project_read.specs.Holds.{HasStore}
use Rattle.project_read.specs.Reads.{Reads, ReadsStore, model_of}

pub no_store : (bytes : List ℕ) (e : ProjectErr) → ReadsStore bytes (Err e) → Reads bytes (Err e)
no_store bytes (errors.Refused reason) said = said
no_store bytes errors.NoMemory said = tt

-- a store that isn't accepted
pub not_accepted : (bytes : List ℕ) (store : List Entity) (e : ProjErr) → HasStore bytes store → Accepts store (Err e) → Reads bytes (Err (from_accept e))
not_accepted bytes store (Tree (trees.Shared n)) has said = (store, has, said)
not_accepted bytes store (Tree (trees.TooDeep n)) has said = (store, has, said)
not_accepted bytes store (Tree trees.TooManyNodes) has said = (store, has, said)
not_accepted bytes store (Tree (trees.ExprTooBig n)) has said = (store, has, said)
not_accepted bytes store (Tree trees.TooManyChannels) has said = (store, has, said)
not_accepted bytes store (Tree (trees.NewChannel n)) has said = (store, has, said)
not_accepted bytes store (Tree trees.NoMemory) has said = absurd said
not_accepted bytes store (Definition n fault) has said = (model_of store, record { has = has; main_is = refl; treed = said.0; steps_are = refl }, said.1)
not_accepted bytes store NoMemory has said = tt

-- a store that is accepted
pub accepted : (bytes : List ℕ) (store p : List Entity) → HasStore bytes store → Accepts store (Ok p) → Reads bytes (Ok p)
accepted bytes store p has said =
    subst (λ (es : List Entity). Reads bytes (Ok es)) (sym said.0)
    (record { has = record { has = has; main_is = refl; treed = said.1.treed; steps_are = refl }; defined = said.1.defined })

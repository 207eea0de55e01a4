-- From the entities of an exchange to their store.
use Rattle.std.proofs.Common.{◌≡◌, ℕ, List, map, Ok, Err, sym, subst}
use Rattle.p21_parse.specs.Tree.{ExchangeTree}
use Rattle.entity_types.specs.declared.entity.Entity.{Entity}
use Rattle.entity_read.specs.Typed.{entity_of}
use Rattle.project_store.specs.declared.error.StoreErr.{StoreErr}
use Rattle.project_store.specs.declared.error.StoreErr.TheVariants as stores
use Rattle.project_store.specs.Build.{Builds}
use Rattle.project_read.specs.Errors.{from_store}
use Rattle.project_read.specs.Typing.{all_typed}
use Rattle.project_read.specs.Holds.{HasExchange, HasEntities, HasStore}
use Rattle.project_read.specs.Reads.{ReadsStore}

entities : (bytes : List ℕ) (x : ExchangeTree) (es : List Entity) → HasExchange bytes x → all_typed x.items ≡ Ok (map entity_of es) → HasEntities bytes es
entities bytes x es has typed = record { exchange = x; has = has; typed = typed }

pub store_stop : (bytes : List ℕ) (x : ExchangeTree) (es : List Entity) (f : StoreErr) → HasExchange bytes x → all_typed x.items ≡ Ok (map entity_of es) → Builds es (Err f) → ReadsStore bytes (Err (from_store f))
store_stop bytes x es stores.NoProject has typed said = (es, entities bytes x es has typed, said)
store_stop bytes x es (stores.ManyProjects n) has typed said = (es, entities bytes x es has typed, said)
store_stop bytes x es (stores.Unresolved n r) has typed said = (es, entities bytes x es has typed, said)
store_stop bytes x es (stores.WrongKind n p) has typed said = (es, entities bytes x es has typed, said)
store_stop bytes x es stores.NoMemory has typed said = tt

pub stored : (bytes : List ℕ) (x : ExchangeTree) (es store : List Entity) → HasExchange bytes x → all_typed x.items ≡ Ok (map entity_of es) → Builds es (Ok store) → HasStore bytes store
stored bytes x es store has typed built = subst (λ (fs : List Entity). HasStore bytes fs) (sym built.1) (record { has = entities bytes x es has typed; built = built.0 })

pub built_stop : (bytes : List ℕ) (es : List Entity) (f : StoreErr) → HasEntities bytes es → Builds es (Err f) → ReadsStore bytes (Err (from_store f))
built_stop bytes es f has said = store_stop bytes has.exchange es f has.has has.typed said

pub built : (bytes : List ℕ) (es store : List Entity) → HasEntities bytes es → Builds es (Ok store) → HasStore bytes store
built bytes es store has said = stored bytes has.exchange es store has.has has.typed said

use Rattle.std.proofs.Common.{rules}
use Rattle.std.proofs.lemmas.List.Sorted.{answers_always}
use Rattle.project_store.specs.declared.places.Place.{Place}
use Rattle.project_store.proofs.PlaceLemmas.{hit, missed}
use Rattle.project_store.proofs.places.index_of.Goals as goal

pub returns-in-Ok-clause-found : goal.returns-in-Ok-clause-found
returns-in-Ok-clause-found c =
    hit c.args.places.now c.args.n c.in-Ok.i c.in-Ok.ensures.bound (c.in-Ok.ensures.position (λ (place : Place). place.number) (answers_always _ _ _ (λ f a r g called. search rules)))

pub returns-in-Err-clause-none : goal.returns-in-Err-clause-none
returns-in-Err-clause-none c =
    missed c.args.places.now c.args.n c.in-Err.field-0 c.requires (c.in-Err.ensures.position (λ (place : Place). place.number) (answers_always _ _ _ (λ f a r g called. search rules)))

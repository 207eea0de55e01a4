use Rattle.std.proofs.Common.{◌≡◌, Some, None, sym, ap, ◌∙◌}
use Rattle.std.specs.Option.{option_or}
use Rattle.project_store.specs.Entities.{entity_at}
use Rattle.project_store.specs.Lasts.{last_place}
use Rattle.project_store.specs.Put.{last_of}
use Rattle.project_store.proofs.PutLemmas.{put_all-last_of}
use Rattle.project_store.proofs.LastLemmas.{IsLastAt, last_there, last_nowhere, last_within}
use Rattle.project_store.proofs.overlay.OverlayEntities.get.Goals as goal

pub at-requires : goal.at-requires
at-requires c =
    let o = c.args.self.now in
    let place : last_place 0 o.items.now c.args.n ≡ Some c.in-Some.i.now = sym (o.lasts_of_items c.args.n) ∙ sym c.in-Some.ensures.value in
    last_within o.items.now c.args.n c.in-Some.i.now (last_there o.items.now c.args.n c.in-Some.i.now place)

pub returns-in-Some : goal.returns-in-Some
returns-in-Some c =
    let o = c.args.self.now in
    let place : last_place 0 o.items.now c.args.n ≡ Some c.in-Some.i.now = sym (o.lasts_of_items c.args.n) ∙ sym c.in-Some.ensures.value in
    let is : IsLastAt o.items.now c.args.n c.in-Some.i.now = last_there o.items.now c.args.n c.in-Some.i.now place in
    let last : last_of o.items.now c.args.n ≡ Some c.at.result.now = is.last ∙ sym is.there ∙ c.at.ensures in
    ap (λ x. option_or x (entity_at o.store.now c.args.n)) (sym last) ∙ sym (put_all-last_of (entity_at o.store.now) o.items.now c.args.n)

pub returns-in-None : goal.returns-in-None
returns-in-None c =
    let o = c.args.self.now in
    let place : last_place 0 o.items.now c.args.n ≡ None = sym (o.lasts_of_items c.args.n) ∙ sym c.in-None.ensures.value in
    let last : last_of o.items.now c.args.n ≡ None = last_nowhere o.items.now c.args.n place in
    c.get-in-None.ensures ∙ ap (λ x. option_or x (entity_at o.store.now c.args.n)) (sym last) ∙ sym (put_all-last_of (entity_at o.store.now) o.items.now c.args.n)

use Rattle.std.proofs.Common.{◌≡◌, ◌<◌, ℕ, suc, length, set, get_or, Some, sym, ap, ◌∙◌, subst, arith}
use Rattle.std.specs.Prelude.{slice_get}
use Rattle.std.proofs.lemmas.List.{get_or_read}
use Rattle.std.proofs.lemmas.Option.{slice_get-get_or, slice_get_within}
use Rattle.project_versions.specs.declared.users.Edge.{Edge}
use Rattle.project_versions.specs.Users.{rows_of, Spares}
use Rattle.project_versions.proofs.UnlinkLemmas.{first_unlinked, same_read}
use Rattle.project_versions.proofs.users.Users.unlink_first.Goals as goal

pub returns-then-index-k-2-clause-spares : goal.returns-then-index-k-2-clause-spares
returns-then-index-k-2-clause-spares c =
    let old = c.args.self.now in
    let rows = rows_of old in
    let k = c.args.k in
    let gone = c.requires.gone in
    let read = c.index-then-index-k-2.result.now in
    let within : c.args.place < length old.heads.items = omega arith in
    let below : k < length old.edges.items = slice_get_within old.edges.items k gone.0 gone.1 in
    let at : slice_get old.edges.items k ≡ Some read = slice_get-get_or old.edges.items k read below ∙ ap Some (sym c.index-then-index-k-2.ensures) in
    let one : gone.0 ≡ read = same_read old.edges.items k gone.0 read gone.1 at in
    let head = get_or_read old.heads.items c.args.place c.index-then-index-k.result.now within c.index-then-index-k.ensures 0 in
    let more = get_or_read old.heads.items c.args.place c.index.result.now within c.index.ensures 0 in
    let first : get_or old.heads.items c.args.place 0 ≡ suc k = omega (arith, head, more, c.if-index-k.true, c.if-index-k-2.true) in
    subst (λ (n : ℕ). Spares c.args.store.now rows (record { heads = set old.heads.items c.args.place n; since = old.since.items; edges = old.edges.items })) (ap (λ (x : Edge). x.next) one)
    (first_unlinked c.args.store.now rows k c.args.place c.requires.linked gone within first)

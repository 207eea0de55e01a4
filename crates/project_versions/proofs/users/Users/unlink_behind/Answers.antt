use Rattle.std.proofs.Common.{◌≡◌, ◌<◌, ℕ, suc, length, set, Some, sym, ap, ◌∙◌, subst, arith}
use Rattle.std.specs.Prelude.{slice_get}
use Rattle.std.proofs.lemmas.Option.{slice_get-get_or, slice_get_within}
use Rattle.project_versions.specs.declared.users.Edge.{Edge}
use Rattle.project_versions.specs.Users.{rows_of, Spares}
use Rattle.project_versions.proofs.UnlinkLemmas.{behind_unlinked, same_read}
use Rattle.project_versions.proofs.users.Users.unlink_behind.Goals as goal

pub returns-then-index-k-2-clause-spares : goal.returns-then-index-k-2-clause-spares
returns-then-index-k-2-clause-spares c =
    let old = c.args.self.now in
    let rows = rows_of old in
    let edges = old.edges.items in
    let k = c.args.k in
    let newer = c.args.newer in
    let gone = c.requires.gone in
    let within : newer < length edges = omega arith in
    let below : k < length edges = slice_get_within edges k gone.0 gone.1 in
    let edge = c.index-then-index-k-2.result.now in
    let read = c.index-then-index-k-2-2.result.now in
    let first = c.index.result.now in
    let second = c.index-then-index-k.result.now in
    let at : slice_get edges newer ≡ Some edge = slice_get-get_or edges newer edge within ∙ ap Some (sym c.index-then-index-k-2.ensures) in
    let at_first : slice_get edges newer ≡ Some first = slice_get-get_or edges newer first within ∙ ap Some (sym c.index.ensures) in
    let at_second : slice_get edges newer ≡ Some second = slice_get-get_or edges newer second within ∙ ap Some (sym c.index-then-index-k.ensures) in
    let there : slice_get edges k ≡ Some read = slice_get-get_or edges k read below ∙ ap Some (sym c.index-then-index-k-2-2.ensures) in
    let one : gone.0 ≡ read = same_read edges k gone.0 read gone.1 there in
    let a : edge.next ≡ first.next = ap (λ (x : Edge). x.next) (same_read edges newer edge first at at_first) in
    let b : edge.next ≡ second.next = ap (λ (x : Edge). x.next) (same_read edges newer edge second at at_second) in
    let links : edge.next ≡ suc k = omega (arith, a, b, c.if-index-k.true, c.if-index-k-2.true) in
    subst (λ (n : ℕ). Spares c.args.store.now rows (record { heads = old.heads.items; since = old.since.items; edges = set edges newer (record { user = edge.user; next = n }) })) (ap (λ (x : Edge). x.next) one)
    (behind_unlinked c.args.store.now rows k newer edge c.requires.linked gone at links)

use Rattle.std.proofs.Common.{◌<◌, ◌+◌, ◌∙◌, drop, length, get_or, sym, ap, arith}
use Rattle.std.proofs.lemmas.List.{drop_more}
use Rattle.std.proofs.lemmas.Option.{slice_get-get_or}
use Rattle.plan_window.specs.Window.{unsent_by}
use Rattle.plan_window.proofs.NumberLemmas.{unsent_first}
use Rattle.plan_window.proofs.coming.first_unsent.Goals as goal

pub returns-then-not-is_sent-clause-some : goal.returns-then-not-is_sent-clause-some
returns-then-not-is_sent-clause-some c =
    let ns = c.args.line.now in
    let sent = c.args.sent.now.members in
    let i = c.loop-index.index in
    let n = get_or ns i 0 in
    let within : i < length ns = omega (arith, c.loop-index-test.true) in
    (n, slice_get-get_or ns i 0 within, sym c.loop-index.invariant ∙ ap (unsent_by sent) (drop_more ns i 0 within) ∙ unsent_first sent n (drop (i + 1) ns) (sym c.is_sent.ensures ∙ c.if-not-is_sent.true))

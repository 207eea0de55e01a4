use Rattle.std.proofs.Common.{◌++◌, ◌∷◌, [], List, map, ap, sym, arith, ◌∙◌}
use Rattle.std.specs.List.{range_with_len}
use Rattle.std.proofs.lemmas.List.FromFn.{map-range_with_len_more}
use Rattle.plan_window.specs.Window.{line_in}
use Rattle.plan_window.proofs.opening.lines_of.Goals as goal

pub loop-channel-preserved : goal.loop-channel-preserved
loop-channel-preserved c =
    let n = c.loop-channel.channel in
    let line = line_in c.args.tree.now.nodes in
    c.in_ok-push.ensures.items
    ∙ ap (λ (ls : List (List _)). ls ++ c.in_ok-line.line ∷ []) c.loop-channel.invariant
    ∙ ap (λ (l : List _). map line (range_with_len 0 n) ++ l ∷ []) c.in_ok-line.ensures
    ∙ sym (map-range_with_len_more line 0 n n (omega arith))

use Rattle.std.proofs.Common.{◌+◌, ◌++◌, List, ℕ, [], take, drop, append-nil, arith, subst, ◌∙◌, sym}
use Rattle.std.specs.List.{flat_map}
use Rattle.std.proofs.lemmas.Result.{err_from_is_err_and}
use Rattle.nc_outside.specs.Outside.{Appends, AppendsFront}
use Rattle.path_blocks.specs.declared.block.Block.TheVariants.{Tool}
use Rattle.std.specs.Prelude.{pos}
use Rattle.run_log.specs.BlocksText.{block_line}
use Rattle.run_log.proofs.Fronts.{front_after, appends_after, one_more, lines_split, all_lines}
use Rattle.run_log.proofs.writing.put_blocks.Goals as goal

pub returns-in_err-put_all-clause-failed_takes_front : goal.returns-in_err-put_all-clause-failed_takes_front
returns-in_err-put_all-clause-failed_takes_front g c =
    let p = err_from_is_err_and c.from_residual.result c.from_residual.ensures.1 in
    let t = c.args.blocks.now in
    let i = c.loop-block.block-index in
    let line = rw (c.as_slice.ensures.value, c.of_block.ensures) at c.in_err-put_all.ensures.failed_takes_front in
    let front = front_after _ _ _ ([] ++ flat_map block_line (take i t)) _ (flat_map block_line (drop (i + 1) t) ++ []) c.loop-block.invariant.taken line in
    let whole = lines_split block_line [] t i (Tool 0 (pos 0)) [] c.loop-block-test.true ∙ append-nil (flat_map block_line t) in
    rw (p.1) (subst (λ (m : List ℕ). AppendsFront (g.S.Sink.taken c.args.sink.now) (g.S.Sink.taken c.put_all.new.sink) m) whole front)

pub loop-block-preserved : goal.loop-block-preserved
loop-block-preserved g c =
    let t = c.args.blocks.now in
    let i = c.loop-block.block-index in
    let line = rw (c.as_slice.ensures.value, c.of_block.ensures) at c.in_ok-put_all.ensures.ok in
    record {
      counted = omega (arith, c.loop-block.invariant.counted, c.put_all.ensures.counted);
      taken =
          subst (λ (m : List ℕ). Appends (g.S.Sink.taken c.args.sink.now) (g.S.Sink.taken c.put_all.new.sink) m)
          (sym (one_more block_line [] t i (Tool 0 (pos 0)) c.loop-block-test.true))
          (appends_after _ _ _ ([] ++ flat_map block_line (take i t)) _ c.loop-block.invariant.taken line);
    }

pub returns-clause-ok : goal.returns-clause-ok
returns-clause-ok g c =
    let t = c.args.blocks.now in
    let i = c.loop-block.block-index in
    let whole = sym (append-nil (flat_map block_line (take i t))) ∙ all_lines block_line [] t i [] (omega arith) ∙ append-nil (flat_map block_line t) in
    subst (λ (m : List ℕ). Appends (g.S.Sink.taken c.args.sink.now) (g.S.Sink.taken c.loop-block.sink) m) whole c.loop-block.invariant.taken

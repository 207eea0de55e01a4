use Rattle.std.proofs.Common.{arith, ◌∙◌, ap, ℕ, length, unsigned_abs}
use Rattle.std.proofs.lemmas.List.FromFn.{length-enumerate_from}
use Rattle.path_blocks.specs.Cuts.{cuts, cut_count}
use Rattle.path_plane.proofs.facing.Facing.last_row.Goals as goal

pub returns-clause-exact : goal.returns-clause-exact
returns-clause-exact c = c.cut_count.ensures.counted ∙ ap (λ (s : ℕ). cut_count s c.breadth.result) c.row_step.ensures.exact ∙ ap (λ (w : ℕ). cut_count (unsigned_abs c.args.self.now.step) w) c.breadth.ensures.exact

pub returns-clause-rows : goal.returns-clause-rows
returns-clause-rows c =
    let e = c.cut_count.ensures.exact ∙ ap (λ (s : ℕ). length (cuts s c.breadth.result)) c.row_step.ensures.exact ∙ ap (λ (w : ℕ). length (cuts (unsigned_abs c.args.self.now.step) w)) c.breadth.ensures.exact in
    omega (arith, e, length-enumerate_from 1 (cuts (unsigned_abs c.args.self.now.step) (unsigned_abs c.args.self.now.width)))

use Rattle.std.proofs.Common.{◌≡◌, ◌∙◌, ap, length, ℕ, ◌≤◌, IsTrue, nat_le, arith, List}
use Rattle.path_blocks.specs.Numbers.{numbers_of}
use Rattle.path_blocks.specs.declared.block.Block.{Block}
use Rattle.path_blocks.proofs.Lengths.{length-path_from}
use Rattle.path_blocks.proofs.plan.Plan.blocks.Goals as goal

few : (n count : ℕ) → n ≡ count → IsTrue (nat_le count 20000) → n ≤ 20000
few n count e h = grind arith

pub returns-clause-few : goal.returns-clause-few
returns-clause-few c =
    few _ _ (ap (λ (bs : List Block). length bs) (c.as_slice.ensures.value ∙ c.self.invariant) ∙ length-path_from (numbers_of c.self.inside.def)) c.self.inside.def.few

use Rattle.std.proofs.Common.{◌≡◌, ◌<◌, length, false, get_or, arith}
use Rattle.std.specs.Char.{is_ascii_digit}
use Rattle.std.proofs.lemmas.Grind.{common_steps}
use Rattle.units_um.proofs.Parts.{digits_cut}
use Rattle.units_um.proofs.reading.split_digits.Goals as goal
use Rattle.units_um.proofs.reading.split_digits.Goals.{then-loop-count-test+else-is_ascii_digit, else-loop-count-test}

pub returns : goal.returns
returns c =
    let text = c.args.text.now in
    let stops : c.loop-count.count < length text → is_ascii_digit (get_or text c.loop-count.count 0) ≡ false = λ lt.
    elim c.loop-count-test.branch [
      | then-loop-count-test+else-is_ascii_digit w ↦ grind (arith, common_steps)
      | else-loop-count-test w ↦ absurd (omega arith)
    ] in
    digits_cut text _ _ c.loop-count.count c.loop-count.invariant.0 c.loop-count.invariant.1 stops c.split_at.ensures.front c.split_at.ensures.back

use Rattle.std.proofs.Common.{ap, ◌+◌}
use Rattle.big_case.proofs.Putting.{edit_pieces}
use Rattle.big_case.proofs.script.put_edit.Goals as goal

pub returns : goal.returns
returns c =
    edit_pieces c.args.out.now.items c.extend_from_slice.new.self.items c.put_decimal.new.out.items c.extend_from_slice-2.new.self.items c.put_decimal-2.new.out.items
    c.extend_from_slice-3.new.self.items c.put_decimal-3.new.out.items c.extend_from_slice-4.new.self.items c.args.at (c.step_number.result + 7) c.args.revision
    (ap (λ n. n + 7) c.step_number.ensures) c.in_ok-extend_from_slice.ensures.items c.in_ok-put_decimal.ensures c.in_ok-extend_from_slice-2.ensures.items c.in_ok-put_decimal-2.ensures
    c.in_ok-extend_from_slice-3.ensures.items c.in_ok-put_decimal-3.ensures c.in_ok-extend_from_slice-4.ensures.items

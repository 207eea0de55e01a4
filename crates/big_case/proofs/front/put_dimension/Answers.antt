use Rattle.std.proofs.Common.{[], codes}
use Rattle.big_case.specs.Parameters.{real}
use Rattle.big_case.proofs.Putting.{then_last, put_known}
use Rattle.big_case.proofs.front.put_dimension.Goals as goal

pub returns : goal.returns
returns c =
    let p1 = then_last _ _ [] (real (codes "10.")) _ c.in_ok-params.ensures c.in_ok-real.ensures c.in_ok-push.ensures.ok in
    put_known c.put.result 32 (codes "MILLING_TOOL_DIMENSION") _ _ _ _ p1 c.put.ensures

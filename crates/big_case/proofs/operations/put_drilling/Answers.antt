use Rattle.std.proofs.Common.{◌+◌, codes}
use Rattle.big_case.proofs.Putting.{put_known}
use Rattle.big_case.proofs.operations.put_drilling.Goals as goal

pub returns : goal.returns
returns c = put_known c.put.result (c.args.n + 2) (codes "DRILLING") _ _ _ _ c.in_ok-params.ensures c.put.ensures

use Rattle.p21_parse.proofs.Unique.{same_instances}
use Rattle.p21_parse.proofs.DecidedList.{decided_list}
use Rattle.p21_parse.proofs.SingleList.{single_list, none_right_list}
use Rattle.p21_parse.proofs.laws.instance_laws.Goals as goal

pub returns : goal.returns
returns c = record { one = same_instances; single = single_list; allowed = none_right_list; decided = decided_list }

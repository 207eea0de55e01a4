use Rattle.units_um.proofs.Answering.{ok_where, ok_within, not_number_where, out_of_range_where}
use Rattle.units_um.proofs.value.thousandths.Goals as goal

pub returns-clause-ok : goal.returns-clause-ok
returns-clause-ok c = ok_where c.args.text.now c.evaluated.result c.evaluated.ensures

pub returns-clause-within : goal.returns-clause-within
returns-clause-within c = ok_within c.args.text.now c.evaluated.result c.evaluated.ensures

pub returns-clause-not_number : goal.returns-clause-not_number
returns-clause-not_number c = not_number_where c.args.text.now c.evaluated.result c.evaluated.ensures

pub returns-clause-out_of_range : goal.returns-clause-out_of_range
returns-clause-out_of_range c = out_of_range_where c.args.text.now c.evaluated.result c.evaluated.ensures

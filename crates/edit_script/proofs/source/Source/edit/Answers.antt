use Rattle.std.proofs.Common.{map, refl}
use Rattle.p21_parse.specs.View.{instance_of}
use Rattle.edit_script.proofs.Stuck.{told_at, end_stops, edit_read}
use Rattle.edit_script.proofs.source.Source.edit.Goals as goal

pub returns-in-Err-clause-refused : goal.returns-in-Err-clause-refused
returns-in-Err-clause-refused c =
    λ most some. told_at c.args.self.now most c.args.at c.in-Err.stop c.place.result c.in-Err.ensures.refused.inside c.place.ensures (c.in-Err.ensures.refused.refuses most some)

pub returns-in-Err-tail-clause-refused : goal.returns-in-Err-tail-clause-refused
returns-in-Err-tail-clause-refused c =
    end_stops c.args.self.now c.args.at c.in-Ok.moment c.in-Ok-instances.read.1 (map instance_of c.in-Ok-instances.read.0) c.in-Ok.ensures.found c.in-Ok-instances.ensures.found c.in-Err-tail.stop c.place-in-Err-tail.result
    c.in-Err-tail.ensures.refused c.place-in-Err-tail.ensures

pub returns-clause-read : goal.returns-clause-read
returns-clause-read c =
    let h = c.in-Ok.ensures.found in
    let items = map instance_of c.in-Ok-instances.read.0 in (
      record { digits = h.digits; items = items },
      edit_read c.args.self.now c.args.at c.in-Ok.moment c.in-Ok-instances.read.1 items h c.in-Ok-instances.ensures.found c.in_default.ensures.found,
      record { moment = h.says; items = refl },
    )

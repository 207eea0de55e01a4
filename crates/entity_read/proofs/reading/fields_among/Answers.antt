use Rattle.std.proofs.Common.{◌∙◌, sym, map, arith}
use Rattle.p21_parse.specs.View.{tree_of}
use Rattle.entity_read.proofs.Fields.{value_more, fits_more}
use Rattle.entity_read.proofs.reading.fields_among.Goals as goal

pub loop-used-preserved : goal.loop-used-preserved
loop-used-preserved c =
    let i = c.loop-used.invariant in
    let front = c.loop-used.fields in
    let fit = rw c.in-Some.is at c.in_ok-field.ensures.fits in
    record {
      value = value_more c.args.used.now (map tree_of c.args.params.now) c.loop-used.used-index _ front c.in-Some.field c.push.new.self
          (omega arith) (sym c.in-Some.is ∙ c.in_ok-field.ensures.value) c.in_ok-push-in-Some.ensures.ok i.value;
      fits = fits_more c.args.used.now c.loop-used.used-index _ front c.in-Some.field c.push.new.self (omega arith) fit c.in_ok-push-in-Some.ensures.ok i.fits;
    }

use Rattle.std.proofs.Common.{◌<◌, ◌≤◌, Ok, Err, sym, arith}
use Rattle.std.proofs.lemmas.Int.{ints, to_z-of_z}
use Rattle.std.proofs.lemmas.Grind.{common_steps}
use Rattle.units_um.specs.declared.value.TheConstants.{MAX_DIGITS}
use Rattle.units_um.specs.Thousandths.{digit_count}
use Rattle.units_um.specs.View.{number_view}
use Rattle.units_um.proofs.OneReading.{read_takes}
use Rattle.units_um.proofs.Answering.{given_within, gives_none, gives_long, gives_short}
use Rattle.units_um.proofs.value.evaluated.Goals as goal

pub returns-in_default : goal.returns-in_default
returns-in_default c = gives_none c.args.text.now c.in_default.ensures

pub returns-then-count_digits-gt-MAX_DIGITS : goal.returns-then-count_digits-gt-MAX_DIGITS
returns-then-count_digits-gt-MAX_DIGITS c =
    let n = number_view c.in-Some.number in
    let long : MAX_DIGITS < digit_count n = omega arith in
    gives_long c.args.text.now n c.in-Some.ensures long

pub size-requires-clause-form : goal.size-requires-clause-form
size-requires-clause-form c = (read_takes c.args.text.now (number_view c.in-Some.number) (sym c.in-Some.ensures)).form

pub returns-in_err-size : goal.returns-in_err-size
returns-in_err-size c =
    let n = number_view c.in-Some.number in
    let short : digit_count n ≤ MAX_DIGITS = omega arith in
    let given = gives_short c.args.text.now n (Err c.in_err-size.field-0.0) c.in-Some.ensures short c.in_err-size.ensures in
    grind (arith, common_steps)

pub signed-requires : goal.signed-requires
signed-requires c = given_within _ _ c.in_ok-size.ensures

pub returns : goal.returns
returns c =
    let n = number_view c.in-Some.number in
    let short : digit_count n ≤ MAX_DIGITS = omega arith in
    let given = gives_short c.args.text.now n (Ok c.in_ok-size.size) c.in-Some.ensures short c.in_ok-size.ensures in
    grind (arith, ints, to_z-of_z)

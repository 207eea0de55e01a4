use Rattle.std.proofs.Common.{◌≡◌, Some, sym, arith}
use Rattle.std.proofs.lemmas.Bool.Decides.{nat_tests}
use Rattle.log_read.specs.declared.rows.LogLine.TheVariants.{Of, Last}
use Rattle.log_read.specs.Reading.{row_at}
use Rattle.log_read.proofs.Stepping.{no_row, full, miscounted, trailing, closes, goes_on}
use Rattle.log_read.proofs.reading.next_step.Goals as goal

pub returns-in_default : goal.returns-in_default
returns-in_default c = no_row c.args.count c.args.rest.now c.requires.more (sym c.in_default.ensures)

pub returns-then-count-ge-MAX_ENTRIES : goal.returns-then-count-ge-MAX_ENTRIES
unfolding row_at
returns-then-count-ge-MAX_ENTRIES c =
    let row : row_at c.args.rest.now ≡ Some (Of c.in-Of.entry, c.in-Some.behind.now) = cc in
    full c.args.count c.args.rest.now c.in-Of.entry c.in-Some.behind.now c.requires.more row (omega arith)

pub returns-then-counted-count : goal.returns-then-counted-count
unfolding row_at
returns-then-counted-count c =
    let row : row_at c.args.rest.now ≡ Some (Last c.in-Last.ending c.in-Last.counted, c.in-Some.behind.now) = cc in
    miscounted c.args.count c.args.rest.now c.in-Last.ending c.in-Last.counted c.in-Some.behind.now c.requires.more row c.if-counted-count.true

pub returns-then-not-is_empty : goal.returns-then-not-is_empty
unfolding row_at
returns-then-not-is_empty c =
    let row : row_at c.args.rest.now ≡ Some (Last c.in-Last.ending c.in-Last.counted, c.in-Some.behind.now) = cc in
    trailing c.args.count c.args.rest.now c.in-Last.ending c.in-Last.counted c.in-Some.behind.now row (omega arith) (grind (arith, nat_tests))

pub returns-else-count-ge-MAX_ENTRIES : goal.returns-else-count-ge-MAX_ENTRIES
unfolding row_at
returns-else-count-ge-MAX_ENTRIES c =
    let row : row_at c.args.rest.now ≡ Some (Of c.in-Of.entry, c.in-Some.behind.now) = cc in
    let t = goes_on c.args.rest.now c.in-Of.entry c.in-Some.behind.now row in
    (omega arith, t.0, t.1)

pub returns-else-not-is_empty : goal.returns-else-not-is_empty
unfolding row_at
returns-else-not-is_empty c =
    let row : row_at c.args.rest.now ≡ Some (Last c.in-Last.ending c.in-Last.counted, c.in-Some.behind.now) = cc in
    closes c.args.count c.args.rest.now c.in-Last.ending c.in-Last.counted c.in-Some.behind.now row (omega arith) (grind (arith, nat_tests))

use Rattle.std.proofs.Common.{map, ap, ◌∙◌}
use Rattle.std.proofs.lemmas.Result.{err_from_is_err_and}
use Rattle.std.proofs.lemmas.List.{map_push}
use Rattle.p21_parse.specs.Symbol.{closing}
use Rattle.p21_parse.specs.View.{part_of}
use Rattle.p21_parse.proofs.Marks.{closes}
use Rattle.p21_parse.proofs.Parting.{one_more, one_refused, closed}
use Rattle.p21_parse.proofs.parser.Parser.parts.Goals as goal

pub returns-in_err-next-clause-refused : goal.returns-in_err-next-clause-refused
returns-in_err-next-clause-refused c =
    let p = err_from_is_err_and c.from_residual-in_err-next.result c.from_residual-in_err-next.ensures.1 in
    rw (p.1, p.2) (one_refused c.args.self.now c.args.at c.loop-alloc.rest (map part_of c.loop-alloc.parts) c.in_err-next.field-0.0 c.loop-alloc.invariant (c.is_mark.ensures.none c.loop-alloc-test.true closing closes) c.in_err-next.ensures.refused)

pub loop-alloc-preserved : goal.loop-alloc-preserved
loop-alloc-preserved c =
    one_more c.args.self.now c.args.at c.loop-alloc.rest c.in_ok-next.after (part_of c.in_ok-next.next) (map part_of c.loop-alloc.parts) (map part_of c.push-in-loop-alloc.new.self)
    (ap (map part_of) c.in_ok-push-2.ensures.ok ∙ map_push part_of c.loop-alloc.parts c.in_ok-next.next) c.loop-alloc.invariant (c.is_mark.ensures.none c.loop-alloc-test.true closing closes) c.in_ok-next.ensures.read c.in_ok-next.ensures.is

pub returns-clause-read : goal.returns-clause-read
returns-clause-read c = closed c.args.self.now c.args.at c.loop-alloc.rest (map part_of c.loop-alloc.parts) c.loop-alloc.invariant (c.is_mark.ensures.found c.loop-alloc-test.false closing closes)

use Rattle.std.proofs.Common.{map, ap, ◌∙◌}
use Rattle.std.proofs.lemmas.Result.{err_from_is_err_and}
use Rattle.std.proofs.lemmas.List.{map_push}
use Rattle.p21_parse.specs.Symbol.{semicolon}
use Rattle.p21_parse.specs.View.{part_of}
use Rattle.p21_parse.proofs.Marks.{ends}
use Rattle.p21_parse.proofs.Heading.{none_entered, one_behind, behind_refused, behind_unended, behind_ended}
use Rattle.p21_parse.proofs.parser.Parser.entries.Goals as goal

pub loop-alloc-init : goal.loop-alloc-init
loop-alloc-init c = none_entered c.args.self.now c.args.at (map part_of c.args.before) c.requires.at

pub returns-in_err-entry-clause-refused : goal.returns-in_err-entry-clause-refused
returns-in_err-entry-clause-refused c =
    let p = err_from_is_err_and c.from_residual.result c.from_residual.ensures.1 in
    rw (p.1, p.2) (behind_refused c.args.self.now c.args.at c.loop-alloc.rest (map part_of c.args.before) (map part_of c.loop-alloc.entries) c.in_err-entry.field-0.0 c.loop-alloc.invariant c.in_err-entry.ensures.refused)

pub loop-alloc-preserved : goal.loop-alloc-preserved
loop-alloc-preserved c =
    one_behind c.args.self.now c.args.at c.loop-alloc.rest c.in_ok-entry.after (part_of c.in_ok-entry.entry) (map part_of c.args.before) (map part_of c.loop-alloc.entries) (map part_of c.push.new.self)
    (ap (map part_of) c.in_ok-push.ensures.ok ∙ map_push part_of c.loop-alloc.entries c.in_ok-entry.entry) c.loop-alloc.invariant c.in_ok-entry.ensures.read c.in_ok-entry.ensures.is

pub returns-in_err-next-clause-refused : goal.returns-in_err-next-clause-refused
returns-in_err-next-clause-refused c =
    let p = err_from_is_err_and c.from_residual-in_err-next.result c.from_residual-in_err-next.ensures.1 in
    rw (p.1, p.2) (behind_unended c.args.self.now c.args.at c.loop-alloc.rest (map part_of c.args.before) (map part_of c.loop-alloc.entries) c.in_err-next.field-0.0 c.loop-alloc.invariant (c.is_end.ensures.found c.loop-alloc-test.false) (c.in_err-next.ensures.refused semicolon 0 ends))

pub returns-clause-read : goal.returns-clause-read
returns-clause-read c =
    behind_ended c.args.self.now c.args.at c.loop-alloc.rest c.in_ok-next.next (map part_of c.args.before) (map part_of c.loop-alloc.entries) c.loop-alloc.invariant (c.is_end.ensures.found c.loop-alloc-test.false) (c.in_ok-next.ensures.found semicolon ends) c.in_ok-next.ensures.next

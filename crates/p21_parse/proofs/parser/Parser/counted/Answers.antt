use Rattle.std.proofs.Common.{◌≡◌, ◌-◌, suc, arith}
use Rattle.std.proofs.lemmas.Result.{err_from_is_err_and}
use Rattle.p21_parse.specs.Symbol.{comma, closing}
use Rattle.p21_parse.specs.View.{tree_of, trees_of}
use Rattle.p21_parse.proofs.Marks.{parts, closes}
use Rattle.p21_parse.proofs.Heading.{count_one, count_bare, count_refused, count_read}
use Rattle.p21_parse.proofs.parser.Parser.counted.Goals as goal

pub returns-in_err-inner-clause-refused : goal.returns-in_err-inner-clause-refused
returns-in_err-inner-clause-refused c =
    let p = err_from_is_err_and c.from_residual-in_err-inner.result c.from_residual-in_err-inner.ensures.1 in
    let less : c.loop-left.left ≡ suc (c.loop-left.left - 1) = omega arith in
    rw (p.1, p.2) (count_bare c.args.self.now c.args.at c.args.more c.loop-left.rest c.loop-left.left (c.loop-left.left - 1) (trees_of c.loop-left.params) c.in_err-inner.field-0.0 less c.loop-left.invariant (c.in_err-inner.ensures.refused comma 1 parts))

pub parameter-requires-in-loop-left-clause-at : goal.parameter-requires-in-loop-left-clause-at
parameter-requires-in-loop-left-clause-at c = let has = c.in_ok-inner.ensures.found comma parts in omega (arith, has.within, c.in_ok-inner.ensures.next)

pub returns-in_err-next-clause-refused : goal.returns-in_err-next-clause-refused
returns-in_err-next-clause-refused c =
    let p = err_from_is_err_and c.from_residual-in_err-next.result c.from_residual-in_err-next.ensures.1 in
    let less : c.loop-left.left ≡ suc (c.loop-left.left - 1) = omega arith in
    rw (p.1, p.2) (count_refused c.args.self.now c.args.at c.args.more c.loop-left.rest c.loop-left.left (c.loop-left.left - 1) (trees_of c.loop-left.params) c.in_err-next.field-0.0 less c.loop-left.invariant (c.in_ok-inner.ensures.found comma parts)
    (rw c.in_ok-inner.ensures.next at c.in_err-next.ensures.refused))

pub loop-left-preserved : goal.loop-left-preserved
loop-left-preserved c =
    let less : c.loop-left.left ≡ suc (c.loop-left.left - 1) = omega arith in
    count_one c.args.self.now c.args.at c.args.more c.loop-left.rest c.in_ok-next.after c.loop-left.left (c.loop-left.left - 1) (tree_of c.in_ok-next.next) (trees_of c.loop-left.params) (trees_of c.push-in-loop-left.new.self) less c.in_ok-push-2.ensures.ok
    c.loop-left.invariant (c.in_ok-inner.ensures.found comma parts) (rw c.in_ok-inner.ensures.next at c.in_ok-next.ensures.read) c.in_ok-next.ensures.is

pub returns-clause-read : goal.returns-clause-read
returns-clause-read c =
    let zero : c.loop-left.left ≡ 0 = omega arith in
    count_read c.args.self.now c.args.at c.args.more c.loop-left.rest c.in_ok-next-2.next c.loop-left.left (trees_of c.loop-left.params) zero c.loop-left.invariant (c.in_ok-next-2.ensures.found closing closes) c.in_ok-next-2.ensures.next

use Rattle.std.proofs.Common.{◌+◌, arith}
use Rattle.std.proofs.lemmas.Result.{err_from_is_err_and}
use Rattle.p21_parse.specs.Symbol.{opening, closing, comma}
use Rattle.p21_parse.specs.View.{tree_of, trees_of}
use Rattle.p21_parse.proofs.Marks.{opens, closes, parts}
use Rattle.p21_parse.proofs.Listing.{one_refused, one_more, unclosed, closed, refused_here, list_read, list_is, typed_read, typed_is, typed_open, nothing, some_list, some_refused}
use Rattle.p21_parse.proofs.parser.Parser.+params.Goals as goal

pub list-returns-clause-read : goal.list-returns-clause-read
list-returns-clause-read t c =
    list_read c.args.self.now c.args.n c.args.at c.in_ok-params.next (tree_of c.list_of.result) (trees_of c.in_ok-params.params) c.list_of.ensures (omega arith) c.requires.mark c.in_ok-params.ensures.read

pub list-returns-clause-is : goal.list-returns-clause-is
list-returns-clause-is t c = list_is c.args.n (tree_of c.list_of.result) (trees_of c.in_ok-params.params) c.list_of.ensures c.in_ok-params.ensures.are

pub parameter-list-requires : goal.parameter-list-requires
parameter-list-requires t c = (omega arith, (c.requires.parser, (c.requires.nest, c.is_mark.ensures.found c.if-is_mark.true opening opens)))

pub parameter-returns-in-None-clause-refused : goal.parameter-returns-in-None-clause-refused
parameter-returns-in-None-clause-refused t c =
    refused_here c.args.self.now c.args.n c.args.at c.requires.at c.in_default.ensures.none (c.is_mark.ensures.none c.if-is_mark.false opening opens) (rw c.in-None.is at c.in_ok-param.ensures.none)

pub parameter_list-returns-then-is_mark-clause-read : goal.parameter_list-returns-then-is_mark-clause-read
parameter_list-returns-then-is_mark-clause-read t c =
    nothing c.args.self.now c.args.n c.args.at (trees_of c.new.result) c.new.ensures c.requires.nest (c.is_mark.ensures.found c.if-is_mark.true closing closes)

pub parameter_list-returns-clause-read : goal.parameter_list-returns-clause-read
parameter_list-returns-clause-read t c = some_list c.args.self.now c.args.n c.args.at c.parameters.result (c.is_mark.ensures.none c.if-is_mark.false closing closes) c.parameters.ensures.read

pub parameter_list-returns-clause-refused : goal.parameter_list-returns-clause-refused
parameter_list-returns-clause-refused t c = some_refused c.args.self.now c.args.n c.args.at c.parameters.result (c.is_mark.ensures.none c.if-is_mark.false closing closes) c.parameters.ensures.refused

pub parameters-parameter-requires-in-loop-alloc : goal.parameters-parameter-requires-in-loop-alloc
parameters-parameter-requires-in-loop-alloc t c =
    let has = c.is_mark.ensures.found c.loop-alloc-test.true comma parts in
    (omega arith, (c.requires.parser, (omega (arith, has.within), c.requires.nest)))

pub parameters-returns-in_err-next-clause-refused : goal.parameters-returns-in_err-next-clause-refused
parameters-returns-in_err-next-clause-refused t c =
    let p = err_from_is_err_and c.from_residual-in_err-next.result c.from_residual-in_err-next.ensures.1 in
    rw (p.1, p.2) (one_refused c.args.self.now c.args.n c.args.at c.loop-alloc.rest (trees_of c.loop-alloc.params) c.in_err-next.field-0.0 c.requires.nest c.loop-alloc.invariant (c.is_mark.ensures.found c.loop-alloc-test.true comma parts)
    c.in_err-next.ensures.refused)

pub parameters-loop-alloc-preserved : goal.parameters-loop-alloc-preserved
parameters-loop-alloc-preserved t c =
    one_more c.args.self.now c.args.n c.args.at c.loop-alloc.rest c.in_ok-next.after (tree_of c.in_ok-next.next) (trees_of c.loop-alloc.params) (trees_of c.push-in-loop-alloc.new.self) c.requires.nest c.in_ok-push-2.ensures.ok c.loop-alloc.invariant
    (c.is_mark.ensures.found c.loop-alloc-test.true comma parts) c.in_ok-next.ensures.read c.in_ok-next.ensures.is

pub parameters-returns-then-not-is_mark-clause-refused : goal.parameters-returns-then-not-is_mark-clause-refused
parameters-returns-then-not-is_mark-clause-refused t c =
    unclosed c.args.self.now c.args.n c.args.at c.loop-alloc.rest (trees_of c.loop-alloc.params) c.loop-alloc.invariant (c.is_mark.ensures.none c.loop-alloc-test.false comma parts) (c.is_mark-2.ensures.none c.if-not-is_mark.true closing closes)

pub parameters-returns-clause-read : goal.parameters-returns-clause-read
parameters-returns-clause-read t c =
    closed c.args.self.now c.args.n c.args.at c.loop-alloc.rest (trees_of c.loop-alloc.params) c.requires.nest c.loop-alloc.invariant (c.is_mark-2.ensures.found c.if-not-is_mark.false closing closes)

pub typed-returns-in_err-next-clause-refused : goal.typed-returns-in_err-next-clause-refused
typed-returns-in_err-next-clause-refused t c =
    let p = err_from_is_err_and c.from_residual-in_err-next.result c.from_residual-in_err-next.ensures.1 in
    rw (p.1, p.2) (typed_open c.args.self.now c.args.n c.args.at c.in_ok-param.after c.args.word.now (tree_of c.in_ok-param.param) c.in_err-next.field-0.0 c.in_ok-inner.ensures.found.1 c.requires.word c.in_ok-inner.ensures.found.0
    (rw c.in_ok-inner.ensures.next at c.in_ok-param.ensures.read) (c.in_err-next.ensures.refused closing (c.args.n + 1) closes))

pub typed-returns-clause-read : goal.typed-returns-clause-read
typed-returns-clause-read t c =
    typed_read c.args.self.now c.args.n c.args.at c.in_ok-param.after c.in_ok-next.next c.args.word.now (tree_of c.in_ok-param.param) (tree_of c.in_ok-typed_of.field-0) c.in_ok-typed_of.ensures c.in_ok-inner.ensures.found.1 c.requires.word
    c.in_ok-inner.ensures.found.0 (rw c.in_ok-inner.ensures.next at c.in_ok-param.ensures.read) (c.in_ok-next.ensures.found closing closes) c.in_ok-next.ensures.next

pub typed-returns-clause-is : goal.typed-returns-clause-is
typed-returns-clause-is t c = typed_is c.args.n c.args.word.now (tree_of c.in_ok-param.param) (tree_of c.in_ok-typed_of.field-0) c.in_ok-typed_of.ensures c.in_ok-param.ensures.is

use Rattle.std.proofs.Common.{◌≡◌, ◌<◌, ◌≤◌, length, rules, arith}
use Rattle.p21_parse.specs.declared.limits.TheConstants.{MAX_INSTANCES}
use Rattle.p21_parse.proofs.BehindLemmas.{none_read, passed_on, pushed_on, too_many_on, end_on}
use Rattle.p21_parse.proofs.parser.Parser.own_numbers.Goals as goal

pub loop-at-init : goal.loop-at-init
loop-at-init c = λ s ts l. none_read s c.args.self.now ts c.args.earlier.now l c.in_ok-numbers.numbers.items c.in_ok-numbers.ensures.items c.requires.few

pub loop-at-preserved-in_default : goal.loop-at-preserved-in_default
loop-at-preserved-in_default c = λ s ts l. passed_on s (length ts) c.loop-at.at c.loop-at.numbers.items (c.loop-at.invariant s ts l) (c.in_default.ensures.none s ts l)

pub returns-then-len-ge-MAX_INSTANCES : goal.returns-then-len-ge-MAX_INSTANCES
returns-then-len-ge-MAX_INSTANCES c =
    let many : MAX_INSTANCES ≤ length c.loop-at.numbers.items = search rules in
    λ s ts l. too_many_on s (length ts) c.args.end c.loop-at.at c.in-Some.number c.loop-at.numbers.items c.loop-at-test.true (c.loop-at.invariant s ts l) (c.in-Some.ensures.found s ts l) many

pub loop-at-preserved : goal.loop-at-preserved
loop-at-preserved c =
    let few : length c.loop-at.numbers.items < MAX_INSTANCES = search rules in
    λ s ts l. pushed_on s (length ts) c.loop-at.at c.in-Some.number c.loop-at.numbers.items c.push.new.self.items (c.loop-at.invariant s ts l) (c.in-Some.ensures.found s ts l) few c.in_ok-push.ensures.items

pub returns : goal.returns
returns c =
    let is : c.loop-at.at ≡ c.args.end = omega (arith, c.loop-at-test.false, c.loop-at.auto.at-end) in
    λ s ts l. end_on s (length ts) c.args.end c.loop-at.at c.loop-at.numbers.items is (c.loop-at.invariant s ts l)

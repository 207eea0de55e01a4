use Rattle.p21_parse.proofs.Building.{nothing_yet, stops_many, stops_item, looked_more}
use Rattle.p21_parse.proofs.built.fitting_numbers.Goals as goal

pub loop-at-init : goal.loop-at-init
loop-at-init c = nothing_yet c.args.items.now c.new-numbers.result.items c.new-numbers.ensures.items

pub returns-then-at-ge-MAX_INSTANCES : goal.returns-then-at-ge-MAX_INSTANCES
returns-then-at-ge-MAX_INSTANCES c =
    stops_many c.args.items.now c.loop-at.at c.index-items-at.result c.loop-at.numbers.items c.loop-at-test.true c.index-items-at.is c.loop-at.invariant c.if-at-ge-MAX_INSTANCES.true

pub returns-then-not-is_valid : goal.returns-then-not-is_valid
returns-then-not-is_valid c =
    stops_item c.args.items.now c.loop-at.at c.index-items-at.result c.loop-at.numbers.items c.loop-at-test.true c.index-items-at.is c.loop-at.invariant c.is_valid.result c.if-not-is_valid.true c.is_valid.ensures

pub loop-at-preserved : goal.loop-at-preserved
loop-at-preserved c =
    looked_more c.args.items.now c.loop-at.at c.index-items-at.result c.loop-at.numbers.items c.loop-at-test.true c.index-items-at.is c.loop-at.invariant c.push.new.self.items c.if-at-ge-MAX_INSTANCES.false
    (c.is_valid.ensures.0 c.if-not-is_valid.false) c.in_ok-push.ensures.items

use Rattle.std.proofs.Common.{◌↔◌, ◌≤◌, IsTrue, List, map, subst}
use Rattle.std.specs.List.{AllByRecursion}
use Rattle.p21_parse.specs.declared.limits.TheConstants.{MAX_NESTING}
use Rattle.p21_parse.specs.declared.exchange.Part.{Part}
use Rattle.p21_parse.specs.declared.exchange.Instance.{Instance}
use Rattle.p21_parse.specs.Nesting.{part_nesting, instance_nesting}
use Rattle.p21_parse.specs.View.{part_of, instance_of, exchange_of}
use Rattle.p21_print.proofs.ShallowLemmas.{both_shallow, head_deep}
use Rattle.p21_print.proofs.shallow.exchange_is_shallow.Goals as goal

pub returns-then-parts_are_shallow : goal.returns-then-parts_are_shallow
returns-then-parts_are_shallow c =
    let head = subst (λ (ps : List Part). AllByRecursion (λ p. part_nesting p ≤ MAX_NESTING) (map part_of ps)) c.as_slice.ensures (c.parts_are_shallow.ensures.0 c.if-parts_are_shallow.true) in
    both_shallow (exchange_of c.args.x.now) c.instances_are_shallow.result head
    (subst (λ (is : List Instance). IsTrue c.instances_are_shallow.result ↔ AllByRecursion (λ i. instance_nesting i ≤ MAX_NESTING) (map instance_of is)) c.as_slice-then-parts_are_shallow.ensures c.instances_are_shallow.ensures)

pub returns-else-parts_are_shallow : goal.returns-else-parts_are_shallow
returns-else-parts_are_shallow c =
    let h = subst (λ (ps : List Part). IsTrue c.parts_are_shallow.result ↔ AllByRecursion (λ p. part_nesting p ≤ MAX_NESTING) (map part_of ps)) c.as_slice.ensures c.parts_are_shallow.ensures in
    head_deep (exchange_of c.args.x.now) c.parts_are_shallow.result c.if-parts_are_shallow.false h

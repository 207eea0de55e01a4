use Rattle.std.proofs.Common.{List, map, ap, subst}
use Rattle.p21_parse.specs.declared.exchange.Instance.{Instance}
use Rattle.p21_parse.specs.Tree.{PartTree, ExchangeTree}
use Rattle.p21_parse.specs.View.{instance_of, exchange_of}
use Rattle.p21_parse.specs.Built.{AreValid}
use Rattle.p21_parse.proofs.Building.{built_valid}
use Rattle.p21_parse.proofs.exchange.Exchange.of.Goals as goal

pub returns-clause-valid : goal.returns-clause-valid
returns-clause-valid c =
    let under : List PartTree → ExchangeTree = λ head. record { head = head; items = map instance_of c.args.items } in
    built_valid (exchange_of (record { head = c.in_ok-head.head; items = c.args.items })) (map instance_of c.args.items) (ap under c.in_ok-head.ensures)
    (subst (λ (items : List Instance). AreValid (map instance_of items)) c.as_slice.ensures c.in_ok-check.ensures.valid)

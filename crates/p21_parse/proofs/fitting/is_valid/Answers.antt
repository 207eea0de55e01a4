use Rattle.std.proofs.Common.{◌↔◌, IsTrue, List, subst, map}
use Rattle.std.specs.List.{AllByRecursion}
use Rattle.p21_parse.specs.declared.exchange.Part.{Part}
use Rattle.p21_parse.specs.View.{part_of, instance_of}
use Rattle.p21_parse.specs.Built.{IsValidPart}
use Rattle.p21_parse.proofs.Fit.{instance_valid}
use Rattle.p21_parse.proofs.fitting.is_valid.Goals as goal

pub returns : goal.returns
returns c =
    instance_valid (instance_of c.args.instance.now) c.are_valid_parts.result (c.is_name.ensures.0 c.if-not-is_name.false) (c.has_parts.ensures.0 c.if-not-has_parts.false)
    (subst (λ (ps : List Part). IsTrue c.are_valid_parts.result ↔ AllByRecursion IsValidPart (map part_of ps)) c.as_slice.ensures c.are_valid_parts.ensures)

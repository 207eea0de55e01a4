use Rattle.std.proofs.Common.{◌↔◌, ◌≤◌, IsTrue, List, map, subst}
use Rattle.std.specs.List.{AllByRecursion}
use Rattle.p21_parse.specs.declared.limits.TheConstants.{MAX_NESTING}
use Rattle.p21_parse.specs.declared.exchange.Part.{Part}
use Rattle.p21_parse.specs.Nesting.{part_nesting}
use Rattle.p21_parse.specs.View.{part_of, instance_of}
use Rattle.p21_print.proofs.ShallowLemmas.{parts_shallow}
use Rattle.p21_print.proofs.shallow.instance_is_shallow.Goals as goal

pub returns : goal.returns
returns c =
    parts_shallow (instance_of c.args.instance.now) c.parts_are_shallow.result
    (subst (λ (ps : List Part). IsTrue c.parts_are_shallow.result ↔ AllByRecursion (λ p. part_nesting p ≤ MAX_NESTING) (map part_of ps)) c.as_slice.ensures c.parts_are_shallow.ensures)

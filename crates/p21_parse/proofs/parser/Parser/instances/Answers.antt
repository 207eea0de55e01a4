use Rattle.std.proofs.Common.{map, ap, ◌∙◌}
use Rattle.std.proofs.lemmas.List.{map_push}
use Rattle.p21_parse.specs.View.{instance_of}
use Rattle.p21_parse.proofs.Parting.{one_instance}
use Rattle.p21_parse.proofs.parser.Parser.instances.Goals as goal

pub loop-number-preserved : goal.loop-number-preserved
loop-number-preserved c =
    one_instance c.args.self.now c.args.at c.loop-number.rest c.in_ok-item.after c.in-Some.number (instance_of c.in_ok-item.item) (map instance_of c.loop-number.items) (map instance_of c.push.new.self)
    (ap (map instance_of) c.in_ok-push.ensures.ok ∙ map_push instance_of c.loop-number.items c.in_ok-item.item) c.in_ok-item.ensures.number c.loop-number.invariant c.in-Some.ensures.found c.in_ok-item.ensures.read c.in_ok-item.ensures.is

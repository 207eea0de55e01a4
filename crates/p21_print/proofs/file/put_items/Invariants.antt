use Rattle.p21_parse.specs.Spell.{spell_instance}
use Rattle.p21_parse.specs.View.{instance_of}
use Rattle.p21_print.proofs.Adding.{ToCome}
use Rattle.p21_print.proofs.file.put_items.Given as goal

abbrev pub invariant-loop-instance : goal.invariant-loop-instance
invariant-loop-instance l = ToCome spell_instance instance_of l.items l.instance-index l.fn.out.items l.out.items

use Rattle.p21_parse.specs.Spell.{spell_part}
use Rattle.p21_parse.specs.View.{part_of}
use Rattle.p21_print.proofs.Adding.{ToCome}
use Rattle.p21_print.proofs.parts.put_all.Given as goal

abbrev pub invariant-loop-part : goal.invariant-loop-part
invariant-loop-part l = ToCome spell_part part_of l.parts l.part-index l.fn.out.items l.out.items

use Rattle.p21_parse.specs.Spell.{spell_entry}
use Rattle.p21_parse.specs.View.{part_of}
use Rattle.p21_print.proofs.Adding.{ToCome}
use Rattle.p21_print.proofs.file.put_head.Given as goal

abbrev pub invariant-loop-entry : goal.invariant-loop-entry
invariant-loop-entry l = ToCome spell_entry part_of l.entries l.entry-index l.fn.out.items l.out.items

-- What stands at an executable before any entry.
use Rattle.std.specs.Prelude.{[], None}
use Rattle.exec_tree.specs.declared.kind.Kind.{Kind}
use Rattle.exec_tree.specs.declared.kind.Kind.TheVariants as kind
use Rattle.trace_law.specs.Cells.{Cell, Cutting, Going, Picked, AnsweredBy}

-- the cell of an executable that is no workplan and no parallel, before any entry
abbrev pub fresh : Kind → Cell
fresh kind.Work = Cutting None
fresh kind.NonSeq = Picked []
fresh kind.Sel = Picked []
fresh kind.If = AnsweredBy None
fresh kind.While = AnsweredBy None
fresh _ = Going

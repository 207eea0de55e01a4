use Rattle.exec_tree.specs.Built.{main_of}
use Rattle.exec_tree.proofs.MainLemmas.{main_executable}
use Rattle.exec_tree.proofs.ResolvedLemmas.{walk_executable}
use Rattle.exec_tree.proofs.laws.main_workplan_is_executable.Goals as goal

pub returns-clause-main : goal.returns-clause-main
returns-clause-main c = main_executable c.args.store.now c.project.result.now c.resolved.ensures c.len.ensures.distinct c.project.ensures

pub returns-clause-walk : goal.returns-clause-walk
returns-clause-walk c =
    walk_executable c.args.store.now (main_of c.args.store.now) c.resolved.ensures
    (main_executable c.args.store.now c.project.result.now c.resolved.ensures c.len.ensures.distinct c.project.ensures)

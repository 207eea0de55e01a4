use Rattle.std.specs.Prelude.{◌<◌, ◌+◌, ℕ, [], length}
use Rattle.std.proofs.Common.{subst}
use Rattle.std.proofs.lemmas.List.{length-map}
use Rattle.project_store.specs.Entities.{entity_at}
use Rattle.exec_tree.specs.Built.{main_of}
use Rattle.run_law.specs.Length.{most_entries}
use Rattle.project_law.specs.Script.{Edit}
use Rattle.project_law.specs.ProjectRules.{rules_of, store_tree}
use Rattle.project_law.proofs.LengthLemmas.{tree_loops, tree_numbers, tree_is_there, short_frozen, none_short, too_long}
use Rattle.project_law.proofs.laws.project_runs_are_short.Goals as goal

pub returns-clause-loops : goal.returns-clause-loops
returns-clause-loops c = λ project none. tree_loops (entity_at project) none 64 (main_of project)

pub returns-clause-few : goal.returns-clause-few
returns-clause-few c = λ project script t none loop legal.
    subst (λ (n : ℕ). length t < n + most_entries (store_tree project)) (length-map script (λ (edit : Edit). edit.at))
    (c.runs_are_short.ensures.legal (rules_of project script) t (c.project_rules_are_sound.ensures.sound project script none) legal loop (tree_numbers (entity_at project) 64 (main_of project))
    (tree_is_there (entity_at project) 64 (main_of project)) (λ u n. short_frozen script project n [] u none_short))

pub returns-clause-limit : goal.returns-clause-limit
returns-clause-limit c = λ project script limit t none loop small run.
    too_long (length t) limit (length script + most_entries (store_tree project)) run.ends.full small (returns-clause-few c project script t none loop run.legal)

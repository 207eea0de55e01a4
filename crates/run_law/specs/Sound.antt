-- What the rules of a project and a script keep to.
use Rattle.std.specs.Prelude.{◌≡◌, ℕ, true, false, List, [], ◌∷◌, ◌++◌, Some}
use Rattle.exec_tree.specs.Exec.{nodes, AreDistinct, has, works, HasChoices}
use Rattle.trace_law.specs.Of.{has_some, number_of}
use Rattle.trace_law.specs.Part.{Part}
use Rattle.trace_law.specs.State.{dispatched}
use Rattle.run_log.specs.declared.entry.Entry.{Entry}
use Rattle.run_log.specs.declared.entry.Entry.TheVariants.{Edit}
use Rattle.exec_tree.specs.declared.role.Role.TheVariants.{Cutting}
use Rattle.run_law.specs.Rules.{Rules}
use Rattle.run_law.specs.Fits.{plain, FitsEdit}
use Rattle.run_law.specs.Legal.{Legal}
use Rattle.nc_base.specs.declared.verdict.Verdict.{Verdict}

-- all that the laws of legal runs ask of rules
pub record IsSound (r : Rules) : Type 0 where
  -- each number stands once
  pub distinct : (t : List Entry) → Legal r t → AreDistinct (nodes (r.tree t))
  -- the nodes in the role of workingsteps are those of the tree
  pub steps : (t : List Entry) (n : ℕ) → Legal r t → has (works (r.tree t)) n ≡ true → r.role t n ≡ Cutting
  -- an entry of a node leaves the tree as it is, and after an edit that fits the run is one so far of the new tree
  pub kept : (t : List Entry) (x : Entry) (n : ℕ) → number_of x ≡ Some n → r.tree (t ++ x ∷ []) ≡ r.tree t
  pub edited : (t : List Entry) (i : ℕ) (w : Verdict) → Legal r t → FitsEdit r t i w → Part (r.tree t) (plain t) → Part (r.tree (t ++ Edit i w ∷ [])) (plain t)
  -- only its dispatch changes the definition that a step was dispatched with
  pub frozen : (t : List Entry) (x : Entry) (n : ℕ) → has_some (n ∷ []) (dispatched x) ≡ false → r.path (t ++ x ∷ []) n ≡ r.path t n
  -- each selective has an element
  pub choices : (t : List Entry) → Legal r t → HasChoices (r.tree t)

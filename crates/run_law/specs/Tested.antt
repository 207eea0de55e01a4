-- What is tested of an entry, in place of that the run with it is one so far.
use Rattle.std.specs.Prelude.{◌≡◌, ℕ, true, false, List}
use Rattle.exec_tree.specs.Exec.{has}
use Rattle.trace_law.specs.Offer.{offer, IsOffered}
use Rattle.run_log.specs.declared.entry.Entry.{Entry}
use Rattle.run_law.specs.Rules.{Rules}
use Rattle.run_law.specs.Fits.{plain, next_of, is_due, is_enabled, HasValues}

-- no edit is due, the run can go on at n, n is enabled, the entry is what n does next, and its values are those of the run
pub record IsTested (r : Rules) (t : List Entry) (n : ℕ) (x : Entry) : Type 0 where
  pub not_due : is_due r t ≡ false
  pub is_next : has (next_of r t) n ≡ true
  pub enabled : is_enabled r t n ≡ true
  pub offered : IsOffered (offer (r.tree t) (plain t) n) n x
  pub values : HasValues r t x

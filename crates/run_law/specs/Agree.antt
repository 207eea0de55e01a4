-- Rules that say the same after a list.
use Rattle.std.specs.Prelude.{◌≡◌, ◌<◌, ℕ, List, [], ◌∷◌, ◌++◌, length}
use Rattle.run_log.specs.declared.entry.Entry.{Entry}
use Rattle.run_law.specs.Rules.{Rules}

-- they say the same of the tree and of each node
pub record SaysSame (r q : Rules) (t : List Entry) : Type 0 where
  pub tree : r.tree t ≡ q.tree t
  pub role : (n : ℕ) → r.role t n ≡ q.role t n
  pub channel : (n : ℕ) → r.channel t n ≡ q.channel t n
  pub version : (n : ℕ) → r.version t n ≡ q.version t n
  pub path : (n : ℕ) → r.path t n ≡ q.path t n
  pub answer : (n : ℕ) → r.answer t n ≡ q.answer t n
  pub value : (n : ℕ) → r.value t n ≡ q.value t n

-- q has one edit more at its end, due from `at` entries on, and says the same as r after each front of t, also of the edits that r has
pub record HasOneMore (r q : Rules) (at : ℕ) (t : List Entry) : Type 0 where
  pub edits : q.edits ≡ r.edits ++ at ∷ []
  pub same : (u v : List Entry) → t ≡ u ++ v → SaysSame r q u
  pub verdicts : (u v : List Entry) (i : ℕ) → t ≡ u ++ v → i < length r.edits → r.verdict u i ≡ q.verdict u i

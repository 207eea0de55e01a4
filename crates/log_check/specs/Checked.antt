-- What a check of a log finds.
use Rattle.std.specs.Prelude.{◌≡◌, ◌⊎◌, ◌++◌, ◌∷◌, [], ℕ, Bool, true, false, List, length}
use Rattle.run_log.specs.declared.entry.Entry.{Entry}
use Rattle.run_log.specs.declared.entry.Ending.{Ending}
use Rattle.run_law.specs.Rules.{Rules}
use Rattle.run_law.specs.Fits.{Fits}
use Rattle.run_law.specs.Legal.{Legal}
use Rattle.log_check.specs.Ending.{EndsOwn}
use Rattle.log_check.specs.declared.answer.Answer.{Answer}
use Rattle.log_check.specs.declared.answer.Answer.TheVariants as answers

-- at this place the first entry that doesn't fit those before it
pub record IsFirstMisfit (r : Rules) (t : List Entry) (place : ℕ) : Type 0 where
  pub before : List Entry
  pub entry : Entry
  pub after : List Entry
  pub parts : t ≡ before ++ entry ∷ after
  pub at : place ≡ length before
  pub legal : Legal r before
  pub misfit : Fits r before entry → ⊥

-- each entry fits, and only the ending isn't the log's own
pub record IsEndedWrong (r : Rules) (t : List Entry) (ending : Ending) (place : ℕ) : Type 0 where
  pub legal : Legal r t
  pub not_own : EndsOwn r t ending → ⊥
  pub at : place ≡ length t

-- a log is followed as far as it fits: to its end, or up to an entry that doesn't fit those before it
abbrev pub StopsRight : Rules → List Entry → List Entry → Bool → Type 0
StopsRight r list coming true = coming ≡ []
StopsRight r list [] false = ⊥
StopsRight r list (x ∷ coming) false = Fits r list x → ⊥

-- the log is legal with its own ending
pub record IsLegalSo (r : Rules) (t : List Entry) (ending : Ending) : Type 0 where
  pub legal : Legal r t
  pub own : EndsOwn r t ending

-- the answer is the one for a log and the ending that it names
abbrev pub IsAnswer : Rules → List Entry → Ending → Answer → Type 0
IsAnswer r t ending (answers.Legal own) = (own ≡ ending) × IsLegalSo r t ending
IsAnswer r t ending (answers.Illegal place) = IsFirstMisfit r t place ⊎ IsEndedWrong r t ending place

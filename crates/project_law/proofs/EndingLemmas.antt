-- A run ends in one way.
use Rattle.std.proofs.Common.{◌≡◌, ℕ, List, refl}
use Rattle.entity_types.specs.declared.entity.Entity.{Entity}
use Rattle.run_log.specs.declared.entry.Entry.{Entry}
use Rattle.run_log.specs.declared.entry.Ending.{Ending}
use Rattle.run_log.specs.declared.entry.Ending.TheVariants.{Done, Blocked, Limit}
use Rattle.project_law.specs.Script.{Edit}
use Rattle.project_law.specs.Run.{IsRun}

pub one_ending : (project : List Entity) (script : List Edit) (limit : ℕ) (t : List Entry) (a b : Ending) → IsRun project script limit t a → IsRun project script limit t b → a ≡ b
one_ending project script limit t Done Done r q = refl
one_ending project script limit t Done Blocked r q = absurd (q.ends.not_whole r.ends.whole)
one_ending project script limit t Done Limit r q = absurd (q.ends.not_done r.ends)
one_ending project script limit t Blocked Done r q = absurd (r.ends.not_whole q.ends.whole)
one_ending project script limit t Blocked Blocked r q = refl
one_ending project script limit t Blocked Limit r q = absurd (q.ends.not_blocked r.ends)
one_ending project script limit t Limit Done r q = absurd (r.ends.not_done q.ends)
one_ending project script limit t Limit Blocked r q = absurd (r.ends.not_blocked q.ends)
one_ending project script limit t Limit Limit r q = refl

-- A text is of one log, or is refused for one reason.
use Rattle.std.proofs.Common.{◌≡◌, ℕ, List, Result, Ok, Err, ap}
use Rattle.run_log.specs.declared.entry.Entry.{Entry}
use Rattle.run_log.specs.declared.entry.Ending.{Ending}
use Rattle.log_read.specs.declared.error.LogErr.{LogErr}
use Rattle.log_read.specs.LogReads.{IsTextOf, IsRefused}
use Rattle.log_read.proofs.Answering.{text_comes, refusal_comes, same_answer}

-- what a text gives
abbrev Found : Type 0
Found = Result (List Entry × Ending) LogErr

abbrev found : List Entry → Ending → Found
found t d = Ok (t, d)

abbrev refused : LogErr → Found
refused e = Err e

abbrev pair : List Entry → Ending → List Entry × Ending
pair t d = (t, d)

same_pair : (t u : List Entry) (d e : Ending) → found t d ≡ found u e → pair t d ≡ pair u e
same_pair t u d e is = cc

same_reason : (e f : LogErr) → refused e ≡ refused f → e ≡ f
same_reason e f is = cc

not_both : (t : List Entry) (d : Ending) (e : LogErr) → found t d ≡ refused e → ⊥
not_both t d e is = absurd (cc)

pub one : (bytes : List ℕ) (t u : List Entry) (d e : Ending) → IsTextOf bytes t d → IsTextOf bytes u e → (t ≡ u) × (d ≡ e)
one bytes t u d e h k =
    let same : pair t d ≡ pair u e = same_pair t u d e (same_answer bytes (found t d) (found u e) (text_comes bytes t d h) (text_comes bytes u e k)) in
    (ap (λ (read : List Entry × Ending). read.0) same, ap (λ (read : List Entry × Ending). read.1) same)

pub apart : (bytes : List ℕ) (t : List Entry) (d : Ending) (e : LogErr) → IsTextOf bytes t d → IsRefused bytes e → ⊥
apart bytes t d e h k = not_both t d e (same_answer bytes (found t d) (refused e) (text_comes bytes t d h) (refusal_comes bytes e k))

pub single : (bytes : List ℕ) (e f : LogErr) → IsRefused bytes e → IsRefused bytes f → e ≡ f
single bytes e f h k = same_reason e f (same_answer bytes (refused e) (refused f) (refusal_comes bytes e h) (refusal_comes bytes f k))

use Rattle.std.proofs.Common.{◌≡◌, ◌∙◌, sym, ap, ℕ, Bool, nat_lt, length}
use Rattle.std.specs.Prelude.{is_none, slice_get}
use Rattle.std.specs.List.{list_all}
use Rattle.run_law.specs.Fits.{judged, next_of}
use Rattle.run_law.specs.Endings.{waits}
use Rattle.run_frames.specs.Ready.{is_empty}
use Rattle.project_law.specs.ProjectRules.{rules_of}
use Rattle.log_check.specs.Ending.{is_own}
use Rattle.log_check.proofs.EndingLemmas.{own_is}
use Rattle.log_check.proofs.checking.ends_so.Goals as goal

pub returns : goal.returns
returns c =
    let r = rules_of c.args.state.now.project c.args.state.now.script in
    let t = c.args.state.now.list in
    let own = own_is r t c.args.ending (record { done = c.endings_by_next.ensures.done r t c.legal.ensures.sound c.legal.ensures.legal; blocked = c.endings_by_next.ensures.blocked r t c.legal.ensures.sound c.legal.ensures.legal }) in
    let judged = is_none (slice_get r.edits (judged t)) in
    let over = is_empty (next_of r t) in
    let waiting = list_all (waits r t) (next_of r t) in
    let same : c.is_own.result ≡ is_own judged over waiting (nat_lt 0 (length t)) c.args.ending =
    c.is_own.ensures ∙ (ap (λ (b : Bool). is_own b c.is_over-over.result c.all_wait-waiting.result (nat_lt 0 c.len-some.result) c.args.ending) c.are_judged-judged.ensures
    ∙ (ap (λ (b : Bool). is_own judged b c.all_wait-waiting.result (nat_lt 0 c.len-some.result) c.args.ending) c.is_over-over.ensures
    ∙ (ap (λ (b : Bool). is_own judged over b (nat_lt 0 c.len-some.result) c.args.ending) c.all_wait-waiting.ensures
    ∙ ap (λ (n : ℕ). is_own judged over waiting (nat_lt 0 n) c.args.ending) c.len-some.ensures))) in
    ((λ e. own.0 (sym same ∙ e)), (λ d. same ∙ own.1 d))

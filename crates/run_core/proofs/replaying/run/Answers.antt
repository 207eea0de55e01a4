use Rattle.std.proofs.Common.{◌≡◌, ◌∙◌, sym, ap, subst, ℕ, List, [], true}
use Rattle.run_log.specs.declared.entry.Entry.{Entry}
use Rattle.run_law.specs.Replay.{has_ended, turns_of, rounds}
use Rattle.project_law.specs.ProjectRules.{rules_of, channel_numbers, upto}
use Rattle.run_core.proofs.replaying.run.Goals as goal

pub ending-requires : goal.ending-requires
ending-requires g c =
    let p = g.N.RunName.project in
    let s = g.N.RunName.script in
    let r = rules_of p s in
    let limit = g.N.RunName.limit in
    let channels : c.as_slice.result.now ≡ channel_numbers p = c.as_slice.ensures.value ∙ (c.in_ok-channels.ensures ∙ ap upto c.channels.ensures) in
    let scheduled : c.turns.new.core.0 ≡ turns_of r limit [] c.args.schedule.now =
    c.in_ok-turns.ensures.log ∙ ap (λ (t : List Entry). turns_of r limit t c.args.schedule.now) c.requires.anew in
    let all : c.rounds.new.core.0 ≡ rounds r limit (channel_numbers p) limit (turns_of r limit [] c.args.schedule.now) =
    c.in_ok-rounds.ensures ∙ (ap (λ (cs : List ℕ). rounds r limit cs limit c.turns.new.core.0) channels ∙ ap (rounds r limit (channel_numbers p) limit) scheduled) in
    subst (λ (t : List Entry). has_ended r limit t ≡ true) (sym all)
    (c.replay_ends.ensures.ended r (channel_numbers p) c.args.schedule.now limit 0 c.legal.ensures.sound (c.project_rules_are_sound.ensures.channels p s) (c.project_rules_are_sound.ensures.first p))

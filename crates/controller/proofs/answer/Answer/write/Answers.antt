use Rattle.std.proofs.Common.{ℕ, List, OnErr, subst, ◌∙◌}
use Rattle.nc_outside.specs.Outside.{AppendsFront}
use Rattle.controller.proofs.answer.Answer.write.Goals as goal

pub returns-in-BadWords-clause-failed_takes_front :
    goal.returns-in-BadWords-clause-failed_takes_front
returns-in-BadWords-clause-failed_takes_front g c =
    rw c.in-BadWords.is (subst (λ (text : List ℕ). OnErr c.put_all.result (AppendsFront (g.S.Sink.taken c.args.sink.now) (g.S.Sink.taken c.put_all.new.sink) text)) (c.as_slice.ensures.value ∙ c.bad_words.ensures) c.put_all.ensures.failed_takes_front)

pub returns-in-Help-clause-ok : goal.returns-in-Help-clause-ok
returns-in-Help-clause-ok g c = rw c.in-Help.is c.put_all-in-Help.ensures.ok

pub returns-in-Help-clause-failed_takes_front : goal.returns-in-Help-clause-failed_takes_front
returns-in-Help-clause-failed_takes_front g c = rw c.in-Help.is c.put_all-in-Help.ensures.failed_takes_front

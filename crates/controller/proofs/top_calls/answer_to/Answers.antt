use Rattle.std.proofs.Common.{rules, Ok, inl, inr}
use Rattle.controller.specs.declared.command.Command.TheVariants.{Replay, Path, Big, Check}
use Rattle.controller.specs.Commands.{Ask}
use Rattle.controller.proofs.CommandLemmas.{limit_within, case_within}
use Rattle.controller.proofs.TopCallsLemmas.{replay_answers, path_answers, case_answers, check_answers}
use Rattle.controller.proofs.top_calls.answer_to.Goals as goal

pub returns-in-Ok-Replay-clause-untouched : goal.returns-in-Ok-Replay-clause-untouched
returns-in-Ok-Replay-clause-untouched g c =
    let asked : Ask c.args.words.now (Ok (Replay c.in-Ok-Replay.project c.in-Ok-Replay.script c.in-Ok-Replay.schedule c.in-Ok-Replay.limit)) = rw c.in-Ok-Replay.field-0-is at c.in-Ok-Replay.ensures in
    λ unnamed. absurd (unnamed c.in-Ok-Replay.project.now (inl (inl (c.in-Ok-Replay.script.now, c.in-Ok-Replay.schedule.now, c.in-Ok-Replay.limit, asked))))

pub returns-in-Ok-Path-clause-untouched : goal.returns-in-Ok-Path-clause-untouched
returns-in-Ok-Path-clause-untouched g c =
    let asked : Ask c.args.words.now (Ok (Path c.in-Ok-Path.project c.in-Ok-Path.step)) = rw c.in-Ok-Path.field-0-is at c.in-Ok-Path.ensures in
    λ unnamed. absurd (unnamed c.in-Ok-Path.project.now (inl (inr (inl (c.in-Ok-Path.step, asked)))))

pub returns-in-Ok-Replay-clause-answer : goal.returns-in-Ok-Replay-clause-answer
returns-in-Ok-Replay-clause-answer g c =
    let asked : Ask c.args.words.now (Ok (Replay c.in-Ok-Replay.project c.in-Ok-Replay.script c.in-Ok-Replay.schedule c.in-Ok-Replay.limit)) = rw c.in-Ok-Replay.field-0-is at c.in-Ok-Replay.ensures in
    replay_answers c.args.words.now (g.F.Files.holds c.args.files.now) (g.F.Files.faults c.args.files.now) (g.F.Files.faults c.replay_files.new.files) c.in-Ok-Replay.project.now c.in-Ok-Replay.script.now c.in-Ok-Replay.schedule.now c.in-Ok-Replay.limit
    c.replay_files.result asked c.replay_files.ensures.answer

pub replay_files-requires : goal.replay_files-requires
replay_files-requires g c =
    let asked : Ask c.args.words.now (Ok (Replay c.in-Ok-Replay.project c.in-Ok-Replay.script c.in-Ok-Replay.schedule c.in-Ok-Replay.limit)) = rw c.in-Ok-Replay.field-0-is at c.in-Ok-Replay.ensures in
    limit_within c.args.words.now c.in-Ok-Replay.project.now c.in-Ok-Replay.script.now c.in-Ok-Replay.schedule.now c.in-Ok-Replay.limit asked

pub returns-in-Ok-Path-clause-answer : goal.returns-in-Ok-Path-clause-answer
returns-in-Ok-Path-clause-answer g c =
    let asked : Ask c.args.words.now (Ok (Path c.in-Ok-Path.project c.in-Ok-Path.step)) = rw c.in-Ok-Path.field-0-is at c.in-Ok-Path.ensures in
    path_answers c.args.words.now (g.F.Files.holds c.args.files.now) (g.F.Files.faults c.args.files.now) (g.F.Files.faults c.show_file.new.files) c.in-Ok-Path.project.now c.in-Ok-Path.step
    c.show_file.result asked c.show_file.ensures.answer

pub count_case-requires : goal.count_case-requires
count_case-requires g c =
    let asked : Ask c.args.words.now (Ok (Big c.in-Ok-Big.steps c.in-Ok-Big.start)) = rw c.in-Ok-Big.field-0-is at c.in-Ok-Big.ensures in
    case_within c.args.words.now c.in-Ok-Big.steps c.in-Ok-Big.start asked

pub returns-in-Ok-Big-clause-answer : goal.returns-in-Ok-Big-clause-answer
returns-in-Ok-Big-clause-answer g c =
    let asked : Ask c.args.words.now (Ok (Big c.in-Ok-Big.steps c.in-Ok-Big.start)) = rw c.in-Ok-Big.field-0-is at c.in-Ok-Big.ensures in
    case_answers c.args.words.now (g.F.Files.holds c.args.files.now) (g.F.Files.faults c.args.files.now) (g.F.Files.faults c.args.files.now) c.in-Ok-Big.steps c.in-Ok-Big.start c.count_case.result asked
    c.count_case.ensures

pub returns-in-Ok-Check-clause-untouched : goal.returns-in-Ok-Check-clause-untouched
returns-in-Ok-Check-clause-untouched g c =
    let asked : Ask c.args.words.now (Ok (Check c.in-Ok-Check.project c.in-Ok-Check.script c.in-Ok-Check.log)) = rw c.in-Ok-Check.field-0-is at c.in-Ok-Check.ensures in
    λ unnamed. absurd (unnamed c.in-Ok-Check.project.now (inl (inr (inr (c.in-Ok-Check.script.now, c.in-Ok-Check.log.now, asked)))))

pub returns-in-Ok-Check-clause-answer : goal.returns-in-Ok-Check-clause-answer
returns-in-Ok-Check-clause-answer g c =
    let asked : Ask c.args.words.now (Ok (Check c.in-Ok-Check.project c.in-Ok-Check.script c.in-Ok-Check.log)) = rw c.in-Ok-Check.field-0-is at c.in-Ok-Check.ensures in
    check_answers c.args.words.now (g.F.Files.holds c.args.files.now) (g.F.Files.faults c.args.files.now) (g.F.Files.faults c.check_files.new.files) c.in-Ok-Check.project.now c.in-Ok-Check.script.now c.in-Ok-Check.log.now
    c.check_files.result asked c.check_files.ensures.answer

pub returns-in-Ok-Help-clause-untouched : goal.returns-in-Ok-Help-clause-untouched
returns-in-Ok-Help-clause-untouched g c = search rules

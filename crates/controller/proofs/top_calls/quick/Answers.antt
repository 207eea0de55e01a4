use Rattle.controller.specs.Outside.{outside}
use Rattle.controller.proofs.AnswersLemmas.{Laws, complete}
use Rattle.controller.proofs.top_calls.quick.Goals as goal

pub returns-clause-complete : goal.returns-clause-complete
returns-clause-complete g c =
    let laws : Laws = record {
      one_project = c.project_laws.ensures.one;
      no_refusal = c.project_laws.ensures.apart;
      one_reason = c.project_laws.ensures.single;
      one_script = c.script_laws.ensures.one;
      no_fault = c.script_laws.ensures.apart;
      one_fault = c.script_laws.ensures.single;
      one_log = c.log_laws.ensures.one;
      no_log_refusal = c.log_laws.ensures.apart;
      one_log_refusal = c.log_laws.ensures.single;
      one_finding = c.a_log_has_one_answer.ensures;
    } in
    λ name script schedule channels limit p edits told asked held scripted scheduled fine.
    complete c.word_laws.ensures.one laws c.args.words.now
    (outside g.F.Files.holds g.F.Files.faults g.S.Sink.taken g.S.Sink.faults c.args.files.now c.args.sink.now) (outside g.F.Files.holds g.F.Files.faults g.S.Sink.taken g.S.Sink.faults c.serve.new.files c.serve.new.sink)
    c.serve.result name script schedule channels limit p edits told asked held scripted scheduled fine c.serve.ensures.answered

use Rattle.controller.proofs.AnswersLemmas.{Laws, one_answer}
use Rattle.controller.proofs.laws.answer_laws.Goals as goal

pub returns : goal.returns
returns c =
    let laws : Laws = record {
      one_project = c.project_laws.ensures.one;
      no_refusal = c.project_laws.ensures.apart;
      one_reason = c.project_laws.ensures.single;
      one_script = c.script_laws.ensures.one;
      no_fault = c.script_laws.ensures.apart;
      one_fault = c.script_laws.ensures.single;
      one_log = c.log_laws.ensures.one;
      no_log_refusal = c.log_laws.ensures.apart;
      one_log_refusal = c.log_laws.ensures.single;
      one_finding = c.a_log_has_one_answer.ensures;
    } in
    one_answer c.word_laws.ensures.one laws

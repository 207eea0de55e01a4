use Rattle.std.proofs.Common.{◌∷◌, [], sym, ◌∙◌, length-append, arith}
use Rattle.edit_script.proofs.Judging.{kept_behind_fault, kept_sound, kept_faulty}
use Rattle.edit_script.proofs.gathered.Gathered.add.Goals as goal

pub returns-then-is_some : goal.returns-then-is_some
returns-then-is_some c = λ es e g w.
    let old = c.args.self.now in
    let count = g.count in
    record { count = omega (arith, count, length-append es (e ∷ [])); kept = kept_behind_fault es old.edits old.last old.fault e (sym c.is_some.ensures ∙ c.if-is_some.true) g.kept }

pub returns-in_ok-push-in-Ok : goal.returns-in_ok-push-in-Ok
returns-in_ok-push-in-Ok c = λ es e g w.
    let old = c.args.self.now in
    let count = g.count in
    record {
      count = omega (arith, count, length-append es (e ∷ []));
      kept = kept_sound es old.edits c.push.new.self old.last c.args.written.now.at old.fault e c.in-Ok.edit (sym c.is_some.ensures ∙ c.if-is_some.false) g.kept (c.in-Ok.ensures e w) c.in_ok-push-in-Ok.ensures.ok w.moment;
    }

pub returns-in_ok-fault_in-in-Err : goal.returns-in_ok-fault_in-in-Err
returns-in_ok-fault_in-in-Err c = λ es e g w.
    let old = c.args.self.now in
    let count = g.count in
    record {
      count = omega (arith, count, length-append es (e ∷ []));
      kept = kept_faulty es old.edits old.last old.count old.fault e c.in-Err.e c.in_ok-fault_in-in-Err.field-0 (sym c.is_some.ensures ∙ c.if-is_some.false) g.count g.kept c.in_ok-fault_in-in-Err.ensures (c.in-Err.ensures e w);
    }

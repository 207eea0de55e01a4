use Rattle.std.proofs.Common.{map, ap, sym, ◌∙◌}
use Rattle.p21_parse.specs.View.{instance_of}
use Rattle.project_read.proofs.Progress.{still_kept, none_kept, both_on, numbers_more}
use Rattle.project_read.proofs.gathered.Gathered.add.Goals as goal

pub returns-then-is_some : goal.returns-then-is_some
returns-then-is_some c = λ items g.
    let old = c.args.self.now in
    let new = c.add_numbers.new.self in
    let others = map instance_of c.args.instances.now in
    let added = c.in_ok-add_numbers.ensures in
    record {
      numbers = numbers_more items others old.numbers.items new.numbers.items g.numbers added.numbers;
      kept = still_kept items others old.entities.items new.entities.items old.fault new.fault g.kept (ap (λ v. v.items) added.entities) added.fault (sym c.is_some.ensures ∙ c.if-is_some.true);
    }

pub returns : goal.returns
returns c = λ items g.
    let old = c.args.self.now in
    let new = c.add_numbers.new.self in
    let last = c.add_entities.new.self in
    let others = map instance_of c.args.instances.now in
    let added = c.in_ok-add_numbers.ensures in
    let kept = none_kept items old.entities.items new.entities.items old.fault new.fault g.kept (ap (λ v. v.items) added.entities) added.fault (sym c.is_some.ensures ∙ c.if-is_some.false) in
    both_on c.add_entities.result (c.add_entities.ensures.kept items kept) c.add_entities.ensures.numbers
    (λ more same. record { numbers = numbers_more items others old.numbers.items last.numbers.items g.numbers (ap (λ v. v.items) same ∙ added.numbers); kept = more })

use Rattle.std.proofs.Common.{◌≡◌, ℕ, List, map, sym, subst}
use Rattle.p21_parse.specs.declared.exchange.Part.{Part}
use Rattle.p21_parse.specs.declared.exchange.Instance.{Instance}
use Rattle.p21_parse.specs.Spell.{spell_all, spell_entry, spell_instance}
use Rattle.p21_parse.specs.View.{part_of, instance_of, exchange_of}
use Rattle.p21_parse.specs.Text.{IsText}
use Rattle.p21_print.specs.Printed.{printed}
use Rattle.p21_print.specs.Appends.{Appends}
use Rattle.p21_print.proofs.Filing.{whole}
use Rattle.p21_print.proofs.ReadsBack.{reads_back}
use Rattle.p21_print.proofs.file.print.Goals as goal

pub returns-clause-text : goal.returns-clause-text
returns-clause-text c =
    let a = c.put.new.out.items in
    let b = c.put_head.new.out.items in
    let d = c.put_items.new.out.items in
    whole (exchange_of c.args.x.now) a b c.put-2.new.out.items d c.put-3.new.out.items
    (rw c.new-out.ensures.items at c.in_ok-put.ensures)
    (subst (λ (parts : List Part). Appends (spell_all spell_entry (map part_of parts)) a b) c.as_slice.ensures c.in_ok-put_head.ensures) c.in_ok-put-2.ensures
    (subst (λ (items : List Instance). Appends (spell_all spell_instance (map instance_of items)) c.put-2.new.out.items d) c.as_slice-2.ensures c.in_ok-put_items.ensures) c.in_ok-put-3.ensures

pub returns-clause-back : goal.returns-clause-back
returns-clause-back c =
    λ allowed real.
    let x = exchange_of c.args.x.now in
    let text : c.put-3.new.out.items ≡ printed x = returns-clause-text c in
    subst (λ (bytes : List ℕ). IsText bytes x) (sym text) (reads_back x allowed real)

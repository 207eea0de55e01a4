use Rattle.std.proofs.Common.{◌∙◌, ◌≤◌, ℕ, map, sym, subst}
use Rattle.place_set.specs.declared.set.TheConstants.{MAX_PLACES}
use Rattle.exec_tree.specs.Said.{bare_of}
use Rattle.tree_table.specs.Placed.{placed}
use Rattle.tree_table.proofs.PlacedLemmas.{length_map}
use Rattle.tree_table.proofs.TellLemmas.{same_led}
use Rattle.tree_table.proofs.TableLemmas.{table}
use Rattle.tree_table.proofs.table.fill.Goals as goal

pub returns : goal.returns
returns c =
    let arena = map bare_of c.args.arena.now in
    let same = c.tell_down.ensures.same in
    let long = length_map bare_of c.args.arena.now in
    table c.leads_opens.ensures.next arena c.tell_down.new.rows (same.long ∙ (c.lead_down.ensures.long ∙ (c.requires.room ∙ sym long)))
    (subst (λ (n : ℕ). n ≤ MAX_PLACES) (sym long) c.requires.few) (same_led arena c.lead_down.new.rows c.tell_down.new.rows _ (placed arena) same c.lead_down.ensures.led) c.tell_down.ensures.told same.back

use Rattle.std.proofs.Common.{sym, subst, List, ℕ, Option}
use Rattle.tree_table.specs.Placed.{placed}
use Rattle.tree_table.specs.Filled.{Led}
use Rattle.tree_table.specs.Table.{LeadsTo}
use Rattle.tree_table.specs.declared.row.Row.{Row}
use Rattle.tree_table.proofs.TableLemmas.{leads_to}
use Rattle.tree_table.proofs.table.Table.tree_into.Goals as goal

pub lead_at-requires : goal.lead_at-requires
lead_at-requires g c = subst (λ (rows : List Row). Led c.args.tree.now.nodes rows (placed c.args.tree.now.nodes)) (sym c.as_slice.ensures.value) c.requires.led

pub returns-clause-leads : goal.returns-clause-leads
returns-clause-leads g c =
    let arena = c.args.tree.now.nodes in
    let rows = c.args.self.now.rows.items in
    subst (λ (o : Option ℕ). LeadsTo arena rows (placed arena) o) (sym c.lead_at.ensures.into) (leads_to c.leads_opens.ensures.next arena rows (placed arena) (λ q h. h) c.requires.led)

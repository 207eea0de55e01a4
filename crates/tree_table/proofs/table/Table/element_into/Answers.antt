use Rattle.std.proofs.Common.{◌≡◌, ◌∙◌, ◌-◌, ap, sym, subst, List, ℕ, Option}
use Rattle.tree_table.specs.Placed.{placed_down}
use Rattle.tree_table.specs.Rows.{levels_at}
use Rattle.tree_table.specs.Filled.{into_of, Led}
use Rattle.tree_table.specs.Table.{LeadsTo}
use Rattle.tree_table.specs.declared.row.Row.{Row}
use Rattle.tree_table.proofs.OpenLemmas.{element_led}
use Rattle.tree_table.proofs.TableLemmas.{leads_to}
use Rattle.tree_table.proofs.table.Table.element_into.Goals as goal

-- as deep as the row says
levels_are : (rows rows' : List Row) (p found less : ℕ) → rows ≡ rows' → found ≡ levels_at rows p → less ≡ found - 1 → less ≡ levels_at rows' p - 1
levels_are rows rows' p found less r f l = l ∙ ap (λ (n : ℕ). n - 1) (f ∙ ap (λ (w : List Row). levels_at w p) r)

pub lead_at-requires : goal.lead_at-requires
lead_at-requires g c =
    let arena = c.args.tree.now.nodes in
    let node = c.requires.element in
    let led = element_led arena c.args.self.now.rows.items c.args.place c.args.element node.0 c.requires.shaped c.requires.table c.requires.inside node.1 node.2 in
    let levels = levels_are c.as_slice-rows.result.now c.args.self.now.rows.items c.args.place c.levels_at.result c.saturating_sub.result c.as_slice-rows.ensures.value c.levels_at.ensures c.saturating_sub.ensures in
    subst (λ (rows : List Row). Led arena rows (placed_down arena c.saturating_sub.result c.args.element)) (sym c.as_slice-rows.ensures.value)
    (subst (λ (n : ℕ). Led arena c.args.self.now.rows.items (placed_down arena n c.args.element)) (sym levels) led.0)

pub returns-clause-leads : goal.returns-clause-leads
returns-clause-leads g c =
    let arena = c.args.tree.now.nodes in
    let rows = c.args.self.now.rows.items in
    let node = c.requires.element in
    let led = element_led arena rows c.args.place c.args.element node.0 c.requires.shaped c.requires.table c.requires.inside node.1 node.2 in
    let levels = levels_are c.as_slice-rows.result.now rows c.args.place c.levels_at.result c.saturating_sub.result c.as_slice-rows.ensures.value c.levels_at.ensures c.saturating_sub.ensures in
    let e = placed_down arena (levels_at rows c.args.place - 1) c.args.element in
    subst (λ (o : Option ℕ). LeadsTo arena rows e o) (sym (c.lead_at.ensures.into ∙ ap (λ (n : ℕ). into_of (placed_down arena n c.args.element)) levels)) (leads_to c.leads_opens.ensures.next arena rows e led.1 led.0)

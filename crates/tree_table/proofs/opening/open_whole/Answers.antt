use Rattle.std.proofs.Common.{◌∙◌, ◌||◌, ap, sym, subst, List, [], ℕ, Option}
use Rattle.exec_tree.specs.Exec.{Exec, has}
use Rattle.place_set.specs.Words.{holds}
use Rattle.trace_law.specs.Next.{next}
use Rattle.tree_table.specs.Filled.{into_of}
use Rattle.tree_table.specs.Placed.{placed}
use Rattle.tree_table.specs.Table.{LeadsTo}
use Rattle.tree_table.proofs.TableLemmas.{leads_to}
use Rattle.tree_table.proofs.OpenLemmas.{nothing_came, none_leads}
use Rattle.tree_table.proofs.opening.open_whole.Goals as goal

pub lead_at-requires : goal.lead_at-requires
lead_at-requires g c = c.requires.table.led

pub open_at-requires-clause-entrance : goal.open_at-requires-clause-entrance
open_at-requires-clause-entrance g c =
    let arena = c.args.tree.now.nodes in
    let leads = leads_to c.leads_opens.ensures.next arena c.args.rows.now (placed arena) (λ q h. h) c.requires.table.led in
    (subst (λ (o : Option ℕ). LeadsTo arena c.args.rows.now (placed arena) o) (sym c.lead_at.ensures.into ∙ c.in-Some.is) leads).1

pub returns-in-Some : goal.returns-in-Some
returns-in-Some g c = λ q.
    let arena = c.args.tree.now.nodes in
    let leads = leads_to c.leads_opens.ensures.next arena c.args.rows.now (placed arena) (λ r h. h) c.requires.table.led in
    let to = subst (λ (o : Option ℕ). LeadsTo arena c.args.rows.now (placed arena) o) (sym c.lead_at.ensures.into ∙ c.in-Some.is) leads in
    c.open_at.ensures q ∙ ap (λ (ns : List ℕ). holds c.args.set.now q || has ns q) (ap (λ (f : Exec). next f []) to.2 ∙ c.leads_opens.ensures.next (placed arena))

pub returns-in_default : goal.returns-in_default
returns-in_default g c = λ q.
    let arena = c.args.tree.now.nodes in
    let leads = leads_to c.leads_opens.ensures.next arena c.args.rows.now (placed arena) (λ r h. h) c.requires.table.led in
    nothing_came (placed arena) q (holds c.args.set.now q) (none_leads arena c.args.rows.now (placed arena) (into_of (placed arena)) (sym c.lead_at.ensures.into ∙ c.in_default.is) leads)

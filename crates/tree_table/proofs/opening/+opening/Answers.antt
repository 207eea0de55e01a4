use Rattle.std.proofs.Common.{◌≡◌, ◌∙◌, ◌<◌, ◌-◌, ◌+◌, ◌||◌, ◌*◌, ap, sym, subst, arith, rules, drop, get_or, List, [], ℕ, true, length, Option, Some}
use Rattle.std.specs.Prelude.{option_copied}
use Rattle.std.proofs.lemmas.Option.{slice_get_within}
use Rattle.exec_tree.specs.Exec.{Exec, nodes, nodes_all, has}
use Rattle.exec_tree.specs.Arena.{to_execs}
use Rattle.exec_tree.specs.Said.{bare_of, kind_of_node}
use Rattle.exec_tree.specs.declared.kind.Kind.TheVariants as kinds
use Rattle.place_set.specs.Words.{holds}
use Rattle.trace_law.specs.Next.{next, next_each}
use Rattle.tree_table.specs.Filled.{into_of, LedAll}
use Rattle.tree_table.specs.Placed.{placed, placed_down, placed_all}
use Rattle.tree_table.specs.Rows.{levels_at}
use Rattle.tree_table.specs.Table.{LeadsTo}
use Rattle.tree_table.proofs.PlacedLemmas.{look_some}
use Rattle.tree_table.proofs.ListLemmas.{has_at}
use Rattle.tree_table.proofs.TellLemmas.{led_at}
use Rattle.tree_table.proofs.TableLemmas.{leads_to}
use Rattle.tree_table.proofs.OpenLemmas.{itself_came, parallel_is, parallel_parts, each_came, nothing_came, inside_at, behind, none_leads}
use Rattle.tree_table.proofs.opening.+opening.Goals as goal

pub open_at-open_all-requires : goal.open_at-open_all-requires
open_at-open_all-requires g t c =
    let arena = c.args.tree.now.nodes in
    let node = c.in-Some.node.now in
    let at = look_some c.args.tree.now.nodes c.args.place _ node c.look_at.ensures.node (ap option_copied c.in-Some.is) in
    let within = slice_get_within c.args.tree.now.nodes c.args.place (bare_of node) at in
    let par : kind_of_node node.kind ≡ kinds.Par = sym c.kind.ensures ∙ c.in-Par.is in
    let parts = parallel_parts arena c.args.rows.now c.args.place (bare_of node) c.requires.table c.requires.entrance at par in
    let levels : c.saturating_sub.result ≡ levels_at c.args.rows.now c.args.place - 1 = c.saturating_sub.ensures ∙ ap (λ (n : ℕ). n - 1) c.levels_at.ensures in
    let moved = λ (P : List ℕ → ℕ → Type 0) (h : P node.elements (levels_at c.args.rows.now c.args.place - 1)). subst (λ (qs : List ℕ). P qs c.saturating_sub.result) (sym c.as_slice.ensures) (subst (λ (n : ℕ). P node.elements n) (sym levels) h) in
    let later = λ (r : ℕ) (h : has c.as_slice.result.now r ≡ true). (c.requires.closed c.args.place r (bare_of node) (omega arith) within at (subst (λ (qs : List ℕ). has qs r ≡ true) c.as_slice.ensures h)).0 in
    let led = moved (λ (qs : List ℕ) (n : ℕ). LedAll arena c.args.rows.now (to_execs (placed_all arena n qs))) parts.0 in
    let inside = moved (λ (qs : List ℕ) (n : ℕ). (q : ℕ) → has (nodes_all (to_execs (placed_all arena n qs))) q ≡ true → has (nodes (placed arena)) q ≡ true) parts.1 in
    search rules

pub open_at-insert-requires : goal.open_at-insert-requires
open_at-insert-requires g t c =
    let at = look_some c.args.tree.now.nodes c.args.place _ c.in-Some.node.now c.look_at.ensures.node (ap option_copied c.in-Some.is) in
    let within = slice_get_within c.args.tree.now.nodes c.args.place (bare_of c.in-Some.node.now) at in
    let few = c.requires.table.few in
    omega (arith, within, few)

pub open_at-returns-in-Par : goal.open_at-returns-in-Par
open_at-returns-in-Par g t c = λ q.
    let arena = c.args.tree.now.nodes in
    let node = c.in-Some.node.now in
    let at = look_some c.args.tree.now.nodes c.args.place _ node c.look_at.ensures.node (ap option_copied c.in-Some.is) in
    let par : kind_of_node node.kind ≡ kinds.Par = sym c.kind.ensures ∙ c.in-Par.is in
    let levels : c.saturating_sub.result ≡ levels_at c.args.rows.now c.args.place - 1 = c.saturating_sub.ensures ∙ ap (λ (n : ℕ). n - 1) c.levels_at.ensures in
    subst (λ (e : Exec). holds c.open_all.new.set q ≡ (holds c.args.set.now q || has (next e []) q)) (sym (parallel_is arena c.args.rows.now c.args.place (bare_of node) c.requires.table c.requires.entrance at par))
    (subst (λ (n : ℕ). holds c.open_all.new.set q ≡ (holds c.args.set.now q || has (next_each (to_execs (placed_all arena n node.elements)) []) q)) levels
    (subst (λ (qs : List ℕ). holds c.open_all.new.set q ≡ (holds c.args.set.now q || has (next_each (to_execs (placed_all arena c.saturating_sub.result qs)) []) q)) c.as_slice.ensures (c.open_all.ensures q)))

pub open_at-returns-in_default-kind : goal.open_at-returns-in_default-kind
open_at-returns-in_default-kind g t c = λ q.
    let at = look_some c.args.tree.now.nodes c.args.place _ c.in-Some.node.now c.look_at.ensures.node (ap option_copied c.in-Some.is) in
    c.insert.ensures q
    ∙ itself_came c.args.tree.now.nodes c.args.rows.now c.args.place (bare_of c.in-Some.node.now) c.requires.table c.requires.entrance at (λ h. c.in_default-kind.not-Par (c.kind.ensures ∙ h)) q (holds c.args.set.now q)

pub open_all-lead_at-requires : goal.open_all-lead_at-requires
open_all-lead_at-requires g t c =
    let l : c.loop-k.k - 1 < length c.args.elements.now = omega (arith, c.loop-k-test.true, c.loop-k.auto.k) in
    led_at c.args.tree.now.nodes c.args.rows.now c.args.levels c.args.elements.now (c.loop-k.k - 1) l c.requires.led

pub open_all-open_at-requires : goal.open_all-open_at-requires
open_all-open_at-requires g t c =
    let arena = c.args.tree.now.nodes in
    let l : c.loop-k.k - 1 < length c.args.elements.now = omega (arith, c.loop-k-test.true, c.loop-k.auto.k) in
    let p = get_or c.args.elements.now (c.loop-k.k - 1) 0 in
    let e = placed_down arena c.args.levels p in
    let led = led_at arena c.args.rows.now c.args.levels c.args.elements.now (c.loop-k.k - 1) l c.requires.led in
    let into : into_of e ≡ Some c.in-Some.into = sym c.lead_at.ensures.into ∙ c.in-Some.is in
    let leads = leads_to c.leads_opens.ensures.next arena c.args.rows.now e (λ q h. c.requires.inside q (inside_at arena c.args.levels c.args.elements.now (c.loop-k.k - 1) q l h)) led in
    let to = subst (λ (o : Option ℕ). LeadsTo arena c.args.rows.now e o) into leads in
    let a = c.requires.later p (has_at c.args.elements.now (c.loop-k.k - 1) l) in
    let b = behind arena c.args.rows.now (length c.args.tree.now.nodes) c.args.levels p c.in-Some.into c.requires.closed (λ r node h. slice_get_within c.args.tree.now.nodes r node h) led into in
    let w = c.requires.within in
    let fewer : 2 * (length arena - c.in-Some.into) < 2 * (length arena - c.args.place) - 1 = omega (arith, a, b, w) in
    let entrance = to.1 in
    search rules

pub open_all-loop-k-preserved-in-Some : goal.open_all-loop-k-preserved-in-Some
open_all-loop-k-preserved-in-Some g t c = λ q.
    let arena = c.args.tree.now.nodes in
    let l : c.loop-k.k - 1 < length c.args.elements.now = omega (arith, c.loop-k-test.true, c.loop-k.auto.k) in
    let k : c.loop-k.k - 1 + 1 ≡ c.loop-k.k = omega (arith, c.loop-k-test.true) in
    let p = get_or c.args.elements.now (c.loop-k.k - 1) 0 in
    let e = placed_down arena c.args.levels p in
    let led = led_at arena c.args.rows.now c.args.levels c.args.elements.now (c.loop-k.k - 1) l c.requires.led in
    let into : into_of e ≡ Some c.in-Some.into = sym c.lead_at.ensures.into ∙ c.in-Some.is in
    let leads = leads_to c.leads_opens.ensures.next arena c.args.rows.now e (λ r h. c.requires.inside r (inside_at arena c.args.levels c.args.elements.now (c.loop-k.k - 1) r l h)) led in
    let to = subst (λ (o : Option ℕ). LeadsTo arena c.args.rows.now e o) into leads in
    each_came arena c.args.levels c.args.elements.now (c.loop-k.k - 1) q (holds c.args.set.now q) (holds c.loop-k.set q) (holds c.open_at.new.set q) l
    (subst (λ (j : ℕ). holds c.loop-k.set q ≡ (holds c.args.set.now q || has (next_each (to_execs (placed_all arena c.args.levels (drop j c.args.elements.now))) []) q)) (sym k) (c.loop-k.invariant q))
    (c.open_at.ensures q ∙ ap (λ (ns : List ℕ). holds c.loop-k.set q || has ns q) (ap (λ (f : Exec). next f []) to.2 ∙ c.leads_opens.ensures.next e))

pub open_all-loop-k-preserved : goal.open_all-loop-k-preserved
open_all-loop-k-preserved g t c = λ q.
    let arena = c.args.tree.now.nodes in
    let l : c.loop-k.k - 1 < length c.args.elements.now = omega (arith, c.loop-k-test.true, c.loop-k.auto.k) in
    let k : c.loop-k.k - 1 + 1 ≡ c.loop-k.k = omega (arith, c.loop-k-test.true) in
    let p = get_or c.args.elements.now (c.loop-k.k - 1) 0 in
    let e = placed_down arena c.args.levels p in
    let led = led_at arena c.args.rows.now c.args.levels c.args.elements.now (c.loop-k.k - 1) l c.requires.led in
    let leads = leads_to c.leads_opens.ensures.next arena c.args.rows.now e (λ r h. c.requires.inside r (inside_at arena c.args.levels c.args.elements.now (c.loop-k.k - 1) r l h)) led in
    let none = none_leads arena c.args.rows.now e (into_of e) (sym c.lead_at.ensures.into ∙ c.in_default.is) leads in
    each_came arena c.args.levels c.args.elements.now (c.loop-k.k - 1) q (holds c.args.set.now q) (holds c.loop-k.set q) (holds c.loop-k.set q) l
    (subst (λ (j : ℕ). holds c.loop-k.set q ≡ (holds c.args.set.now q || has (next_each (to_execs (placed_all arena c.args.levels (drop j c.args.elements.now))) []) q)) (sym k) (c.loop-k.invariant q))
    (nothing_came e q (holds c.loop-k.set q) none)

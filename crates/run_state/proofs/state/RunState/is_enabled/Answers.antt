use Rattle.std.proofs.Common.{◌≡◌, ◌∙◌, subst, sym, ap, ℕ, true}
use Rattle.exec_tree.specs.Exec.{has}
use Rattle.exec_tree.specs.TreeFault.{nothing_seen}
use Rattle.exec_tree.specs.TreeOf.{tree_of}
use Rattle.exec_tree.specs.Built.{main_of}
use Rattle.exec_tree.specs.declared.role.Role.TheVariants.{Cutting, Waiting, Free}
use Rattle.project_store.specs.Entities.{entity_at}
use Rattle.run_law.specs.Fits.{next_of, plain, is_enabled, may_go_on}
use Rattle.project_law.specs.ProjectRules.{rules_of}
use Rattle.run_state.specs.State.{may_cut, slot_at}
use Rattle.run_state.specs.Kept.{State}
use Rattle.run_state.proofs.QuestionLemmas.{told}
use Rattle.run_state.proofs.ReadyLemmas.{cutting_is}
use Rattle.run_state.proofs.state.RunState.is_enabled.Goals as goal

pub returns-in-Cutting : goal.returns-in-Cutting
returns-in-Cutting c =
    let p = c.self.inside.store in
    let s = c.self.inside.edits.script in
    let t = c.self.inside.journal.list in
    let k = c.self.invariant.0 in
    let n = c.args.n in
    let r = rules_of p s in
    let e = tree_of (entity_at p) (main_of p) in
    let d = c.trees_are_sound.ensures.distinct nothing_seen (entity_at p) (main_of p) k.tree_is.no_fault in
    let tells = told p s c.self.inside.tree t k.tree_is (λ m. c.trees_tell.ensures.channels nothing_seen (entity_at p) (main_of p) m c.self.inside.tree k.tree_is)
    (λ m. c.trees_tell.ensures.roles nothing_seen (entity_at p) (main_of p) m c.self.inside.tree k.tree_is) (c.next_stands_in_preorder.ensures.order e (plain t) d) in
    let is_next : has (next_of r t) n ≡ true = subst (λ (v : State). has (next_of (rules_of v.project v.script) v.list) n ≡ true) (sym c.self.view_is) c.requires in
    let role : r.role t n ≡ Cutting = sym (tells.roles n (tells.within n is_next)) ∙ (sym c.role.ensures ∙ c.in-Cutting.is) in
    subst (λ (v : State). c.may_cut.result ≡ is_enabled (rules_of v.project v.script) v.list n) c.self.view_is
    (c.may_cut.ensures ∙ (ap (λ (channel : ℕ). may_cut (slot_at c.self.inside.steps channel) n) (c.channel.ensures ∙ tells.channels n) ∙ (cutting_is r t c.self.inside.steps n k.steps_are ∙ ap (may_go_on r t n) (sym role))))

pub returns-in-Waiting : goal.returns-in-Waiting
returns-in-Waiting c =
    let p = c.self.inside.store in
    let s = c.self.inside.edits.script in
    let t = c.self.inside.journal.list in
    let k = c.self.invariant.0 in
    let n = c.args.n in
    let r = rules_of p s in
    let e = tree_of (entity_at p) (main_of p) in
    let d = c.trees_are_sound.ensures.distinct nothing_seen (entity_at p) (main_of p) k.tree_is.no_fault in
    let tells = told p s c.self.inside.tree t k.tree_is (λ m. c.trees_tell.ensures.channels nothing_seen (entity_at p) (main_of p) m c.self.inside.tree k.tree_is)
    (λ m. c.trees_tell.ensures.roles nothing_seen (entity_at p) (main_of p) m c.self.inside.tree k.tree_is) (c.next_stands_in_preorder.ensures.order e (plain t) d) in
    let is_next : has (next_of r t) n ≡ true = subst (λ (v : State). has (next_of (rules_of v.project v.script) v.list) n ≡ true) (sym c.self.view_is) c.requires in
    let role : r.role t n ≡ Waiting c.in-Waiting.mark = sym (tells.roles n (tells.within n is_next)) ∙ (sym c.role.ensures ∙ c.in-Waiting.is) in
    subst (λ (v : State). c.is_set.result ≡ is_enabled (rules_of v.project v.script) v.list n) c.self.view_is
    (c.is_set.ensures ∙ (k.marks_are c.in-Waiting.mark ∙ ap (may_go_on r t n) (sym role)))

pub returns-in-Free : goal.returns-in-Free
returns-in-Free c =
    let p = c.self.inside.store in
    let s = c.self.inside.edits.script in
    let t = c.self.inside.journal.list in
    let k = c.self.invariant.0 in
    let n = c.args.n in
    let r = rules_of p s in
    let e = tree_of (entity_at p) (main_of p) in
    let d = c.trees_are_sound.ensures.distinct nothing_seen (entity_at p) (main_of p) k.tree_is.no_fault in
    let tells = told p s c.self.inside.tree t k.tree_is (λ m. c.trees_tell.ensures.channels nothing_seen (entity_at p) (main_of p) m c.self.inside.tree k.tree_is)
    (λ m. c.trees_tell.ensures.roles nothing_seen (entity_at p) (main_of p) m c.self.inside.tree k.tree_is) (c.next_stands_in_preorder.ensures.order e (plain t) d) in
    let is_next : has (next_of r t) n ≡ true = subst (λ (v : State). has (next_of (rules_of v.project v.script) v.list) n ≡ true) (sym c.self.view_is) c.requires in
    let role : r.role t n ≡ Free = sym (tells.roles n (tells.within n is_next)) ∙ (sym c.role.ensures ∙ c.in-Free.is) in
    subst (λ (v : State). true ≡ is_enabled (rules_of v.project v.script) v.list n) c.self.view_is
    (ap (may_go_on r t n) (sym role))

use Rattle.std.proofs.Common.{◌≡◌, ◌∙◌, subst, sym, refl, true, ℕ, ◌++◌, ◌∷◌, []}
use Rattle.std.specs.Prelude.{Some}
use Rattle.exec_tree.specs.Walked.{place_from}
use Rattle.trace_law.specs.State.{marked}
use Rattle.run_frames.specs.Ready.{IsSorted}
use Rattle.run_state.proofs.PlaceLemmas.{number_there, flag_there, of_number}
use Rattle.run_state.proofs.ReadyLemmas.{released_none, released_again, released_new}
use Rattle.run_state.proofs.state.release_by.Goals as goal

pub returns-in_default-clause-sorted : goal.returns-in_default-clause-sorted
returns-in_default-clause-sorted c = λ t released at s marks.
    released_none c.args.tree.now c.args.frames.now t released c.args.entry.now (sym c.mark_of.ensures ∙ c.in_default.is) s

pub returns-else-not-is_set-clause-sorted : goal.returns-else-not-is_set-clause-sorted
returns-else-not-is_set-clause-sorted c = λ t released at s marks.
    let set : c.is_set.result ≡ true = rw c.if-not-is_set.false refl in
    let nodes = c.args.tree.now.nodes in
    let n = c.in-Some.field-0 in
    let e : marked c.args.entry.now ≡ Some n = sym c.mark_of.ensures ∙ c.in-Some.is in
    let f : place_from 0 nodes n ≡ Some c.args.place = of_number (λ m. place_from 0 nodes m ≡ Some c.args.place) (marked c.args.entry.now) n e c.requires.place in
    released_again c.args.tree.now c.args.frames.now t released c.args.entry.now n e (sym (marks n) ∙ (flag_there nodes c.args.marks.now n c.args.place f ∙ (sym c.is_set.ensures ∙ set))) s

pub returns-then-not-is_set-clause-sorted : goal.returns-then-not-is_set-clause-sorted
returns-then-not-is_set-clause-sorted c = λ t released at s marks.
    let nodes = c.args.tree.now.nodes in
    let n = c.in-Some.field-0 in
    let e : marked c.args.entry.now ≡ Some n = sym c.mark_of.ensures ∙ c.in-Some.is in
    let f : place_from 0 nodes n ≡ Some c.args.place = of_number (λ m. place_from 0 nodes m ≡ Some c.args.place) (marked c.args.entry.now) n e c.requires.place in
    let own = number_there nodes n c.args.place (c.places_are_found.ensures.numbered nodes n c.args.place f) in
    released_new c.args.tree.now c.release.new.self t released c.args.entry.now n e
    (subst (λ (m : ℕ). IsSorted c.args.tree.now c.release.new.self t (released ++ m ∷ [])) own (c.release.ensures.sorted t released at s))

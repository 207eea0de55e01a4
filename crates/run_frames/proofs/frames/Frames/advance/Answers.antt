use Rattle.std.proofs.Common.{◌≤◌, ◌+◌, refl, arith, ◌∙◌, ◌++◌, ◌∷◌, [], ap, sym, subst, List, ℕ, length}
use Rattle.exec_tree.specs.Walked.{place_from}
use Rattle.frame_law.specs.Looks.{looks}
use Rattle.tree_table.specs.Placed.{placed, number_at}
use Rattle.run_frames.specs.Frames.{cells_of}
use Rattle.run_frames.specs.Renaming.{entry_at}
use Rattle.run_frames.specs.Held.{IsHeld}
use Rattle.run_frames.proofs.StandLemmas.{AreOfTree, placed_once, entry_place, step_by, at_more}
use Rattle.place_classes.specs.declared.class.Class.{Class}
use Rattle.run_frames.proofs.ReadyLemmas.{sorted_more, classed_moved, classes_moved, place_within}
use Rattle.run_frames.proofs.LookLemmas.{up_to}
use Rattle.run_frames.proofs.RenamedLookLemmas.{looks_by_numbers}
use Rattle.run_frames.proofs.frames.Frames.advance.Goals as goal

pub move_at-requires-clause-distinct : goal.move_at-requires-clause-distinct
move_at-requires-clause-distinct g c = placed_once c.args.tree.now.nodes c.nodes.ensures.distinct

pub move_at-requires-clause-moves : goal.move_at-requires-clause-moves
move_at-requires-clause-moves g c =
    let arena = c.args.tree.now.nodes in
    let tree : AreOfTree arena = record { shaped = c.nodes.ensures.shaped; named = c.nodes.ensures.named; preorder = c.nodes.ensures.preorder; distinct = c.nodes.ensures.distinct; choices = c.nodes.ensures.choices } in
    let self = c.args.self.now in
    let x = c.args.entry.now in
    let p = c.args.place in
    let run = c.requires.at in
    let own = entry_place arena self run.0 x p tree run.1 run.2 c.requires.place in
    let step = step_by arena self run.0 x p own.0 tree run.1 run.2 own.2 own.1 in (
      run.1.entries,
      step,
    )

pub sort_by-requires-clause-there : goal.sort_by-requires-clause-there
sort_by-requires-clause-there g c =
    let arena = c.args.tree.now.nodes in
    let tree : AreOfTree arena = record { shaped = c.nodes.ensures.shaped; named = c.nodes.ensures.named; preorder = c.nodes.ensures.preorder; distinct = c.nodes.ensures.distinct; choices = c.nodes.ensures.choices } in
    let run = c.requires.at in
    let own = entry_place arena c.args.self.now run.0 c.args.entry.now c.args.place tree run.1 run.2 c.requires.place in
    let within = place_within arena run.1.entries own.0 c.args.place tree own.2 in
    let long = run.1.classed in
    let kept = ap (λ (l : List Class). length l) c.move_at.ensures.kept in
    omega (arith, within, long, kept)

pub sort_by-requires-clause-within : goal.sort_by-requires-clause-within
sort_by-requires-clause-within g c =
    let arena = c.args.tree.now.nodes in
    let tree : AreOfTree arena = record { shaped = c.nodes.ensures.shaped; named = c.nodes.ensures.named; preorder = c.nodes.ensures.preorder; distinct = c.nodes.ensures.distinct; choices = c.nodes.ensures.choices } in
    let run = c.requires.at in
    let own = entry_place arena c.args.self.now run.0 c.args.entry.now c.args.place tree run.1 run.2 c.requires.place in
    let within = place_within arena run.1.entries own.0 c.args.place tree own.2 in
    let few = run.1.table.few in
    omega (arith, within, few)

pub sort_by-requires-clause-place : goal.sort_by-requires-clause-place
sort_by-requires-clause-place g c =
    let arena = c.args.tree.now.nodes in
    let tree : AreOfTree arena = record { shaped = c.nodes.ensures.shaped; named = c.nodes.ensures.named; preorder = c.nodes.ensures.preorder; distinct = c.nodes.ensures.distinct; choices = c.nodes.ensures.choices } in
    let run = c.requires.at in
    let own = entry_place arena c.args.self.now run.0 c.args.entry.now c.args.place tree run.1 run.2 c.requires.place in
    ap (place_from 0 arena) own.2.is_number ∙ own.2.found

pub returns-clause-at : goal.returns-clause-at
returns-clause-at g c = λ t at q.
    let arena = c.args.tree.now.nodes in
    let tree : AreOfTree arena = record { shaped = c.nodes.ensures.shaped; named = c.nodes.ensures.named; preorder = c.nodes.ensures.preorder; distinct = c.nodes.ensures.distinct; choices = c.nodes.ensures.choices } in
    let self = c.args.self.now in
    let x = c.args.entry.now in
    let p = c.args.place in
    let run = c.requires.at in
    let own = entry_place arena self t x p tree at q c.requires.place in
    let step = step_by arena self t x p own.0 tree at q own.2 own.1 in
    let held = c.move_at.ensures.moved at.entries step in
    at_more arena self (record { frames = c.move_at.new.frames; table = self.table; set = c.sort_by.new.set; waits = self.waits }) t x p own.0 at q own.2 own.1
    (subst (λ (w : List ℕ). IsHeld arena c.move_at.new.frames.cells w (at.entries ++ entry_at p x ∷ [])) (sym c.sort_by.ensures.all) held) (c.move_at.ensures.rooms ∙ at.rooms) at.table
    (classed_moved c.args.tree.now x (number_at arena p) p (length arena) self.set.classes c.move_at.new.set.classes c.sort_by.new.set.classes c.sort_by.ensures.classes c.move_at.ensures.kept at.classed)

pub returns-clause-sorted : goal.returns-clause-sorted
returns-clause-sorted g c = λ t released at q sorted.
    let arena = c.args.tree.now.nodes in
    let tree : AreOfTree arena = record { shaped = c.nodes.ensures.shaped; named = c.nodes.ensures.named; preorder = c.nodes.ensures.preorder; distinct = c.nodes.ensures.distinct; choices = c.nodes.ensures.choices } in
    let self = c.args.self.now in
    let x = c.args.entry.now in
    let p = c.args.place in
    let own = entry_place arena self t x p tree at q c.requires.place in
    sorted_more c.args.tree.now self (record { frames = c.move_at.new.frames; table = self.table; set = c.sort_by.new.set; waits = self.waits }) t at.entries x released own.0 p tree own.2 own.1 at.classed sorted
    (classes_moved c.args.tree.now x (number_at arena p) own.0 p self.set.classes c.move_at.new.set.classes c.sort_by.new.set.classes c.sort_by.ensures.classes c.move_at.ensures.kept own.2.is_number) refl

pub returns-clause-looks : goal.returns-clause-looks
returns-clause-looks g c = λ t at q v.
    let arena = c.args.tree.now.nodes in
    let tree : AreOfTree arena = record { shaped = c.nodes.ensures.shaped; named = c.nodes.ensures.named; preorder = c.nodes.ensures.preorder; distinct = c.nodes.ensures.distinct; choices = c.nodes.ensures.choices } in
    let self = c.args.self.now in
    let x = c.args.entry.now in
    let p = c.args.place in
    let run = c.requires.at in
    let own = entry_place arena self t x p tree at q c.requires.place in
    let step = step_by arena self t x p own.0 tree at q own.2 own.1 in
    let few = c.move_at.ensures.looks at.entries step in
    let moved = up_to _ _ (looks (cells_of self.frames.cells) (placed arena) (entry_at p x) p) _ few (looks_by_numbers arena self t x p own.0 tree at q own.2 own.1 v) in
    let sorted = c.sort_by.ensures.looks in
    omega (arith, moved, sorted)

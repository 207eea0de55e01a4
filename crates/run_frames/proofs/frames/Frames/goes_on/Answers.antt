use Rattle.std.proofs.Common.{◌∙◌, arith}
use Rattle.std.proofs.lemmas.Option.{slice_get_within}
use Rattle.tree_table.specs.Placed.{number_at}
use Rattle.run_frames.proofs.StandLemmas.{AreOfTree}
use Rattle.run_frames.proofs.MayLemmas.{goes_at}
use Rattle.run_frames.proofs.frames.Frames.goes_on.Goals as goal

pub contains-requires : goal.contains-requires
contains-requires c =
    let arena = c.args.tree.now.nodes in
    let found = c.places_are_found.ensures.numbered arena (number_at arena c.args.place) c.args.place c.requires.place in
    let within = slice_get_within arena c.args.place found.0 found.1 in
    let few = c.requires.at.1.table.few in
    omega (arith, within, few)

pub returns : goal.returns
returns c = λ t at.
    let arena = c.args.tree.now.nodes in
    let tree : AreOfTree arena = record { shaped = c.nodes.ensures.shaped; named = c.nodes.ensures.named; preorder = c.nodes.ensures.preorder; distinct = c.nodes.ensures.distinct; choices = c.nodes.ensures.choices } in
    c.contains.ensures ∙ goes_at arena c.args.self.now t c.args.place tree at c.requires.place

use Rattle.std.proofs.Common.{◌∙◌, refl, arith}
use Rattle.std.proofs.lemmas.Option.{slice_get_within}
use Rattle.tree_table.specs.Placed.{number_at}
use Rattle.run_frames.proofs.StandLemmas.{at_same}
use Rattle.run_frames.proofs.ReadyLemmas.{sorted_freed}
use Rattle.run_frames.proofs.frames.Frames.release.Goals as goal

pub free-requires-clause-there : goal.free-requires-clause-there
free-requires-clause-there c =
    let arena = c.args.tree.now.nodes in
    let found = c.places_are_found.ensures.numbered arena (number_at arena c.args.mark) c.args.mark c.requires.mark in
    let within = slice_get_within arena c.args.mark found.0 found.1 in
    omega (arith, within)

pub returns-clause-at : goal.returns-clause-at
returns-clause-at c = λ t at.
    let self = c.args.self.now in
    at_same c.args.tree.now.nodes self (record { frames = self.frames; table = self.table; set = c.free.new.set; waits = self.waits }) t at refl refl c.free.ensures.all (c.free.ensures.freed.long ∙ at.classed)

pub returns-clause-sorted : goal.returns-clause-sorted
returns-clause-sorted c = λ t released at sorted.
    let self = c.args.self.now in
    let arena = c.args.tree.now.nodes in
    sorted_freed c.args.tree.now self (record { frames = self.frames; table = self.table; set = c.free.new.set; waits = self.waits }) t released (number_at arena c.args.mark) c.args.mark (λ j p e. c.places_are_found.ensures.numbered arena j p e)
    c.requires.mark c.free.ensures.freed refl sorted

use Rattle.std.proofs.Common.{◌≡◌, ◌∙◌, ◌<◌, ◌+◌, ◌*◌, ap, sym, subst, arith, rules, length, List}
use Rattle.tree_table.specs.Rows.{after_at}
use Rattle.tree_table.specs.declared.row.Continuation.{Continuation}
use Rattle.tree_table.proofs.ListLemmas.{get_some}
use Rattle.run_frames.specs.Frames.{cells_of}
use Rattle.run_frames.specs.Entered.{AreUnpickedIn}
use Rattle.run_frames.specs.Ways.{IsWay, HasGone, link_bound}
use Rattle.run_frames.proofs.WriteLemmas.{length_set}
use Rattle.run_frames.proofs.GoLemmas.{joins_is, picks_is, gone_done, tests_within, gone_tests, opens_entrance, gone_entered, fewer_unpicked, joined_more, joined_last, picks_more, picked_last, link_falls}
use Rattle.run_frames.proofs.LookLemmas.{way_opened, way_joined, way_picked, way_asked}
use Rattle.run_frames.proofs.going.+going_on.Goals as goal
use Rattle.trace_law.specs.Cells.{Cell}

pub go_on-enter_at-requires-clause-entrance : goal.go_on-enter_at-requires-clause-entrance
go_on-enter_at-requires-clause-entrance g t c =
    let arena = c.args.tree.now.nodes in
    let rows = c.args.table.now.rows.items in
    opens_entrance arena rows c.in-Opens.place c.requires.way.0 (subst (λ (o : Continuation). IsWay arena rows o c.requires.way.0) c.in-Opens.is c.requires.way.1)

pub go_on-insert-requires : goal.go_on-insert-requires
go_on-insert-requires g t c =
    let arena = c.args.tree.now.nodes in
    let rows = c.args.table.now.rows.items in
    let within = tests_within arena rows c.in-TestsAgain.place c.requires.way.0 (subst (λ (o : Continuation). IsWay arena rows o c.requires.way.0) c.in-TestsAgain.is c.requires.way.1) in
    let few = c.requires.table.few in
    omega (arith, within, few)

pub go_on-returns-in-Done-clause-moved : goal.go_on-returns-in-Done-clause-moved
go_on-returns-in-Done-clause-moved g t c = λ k w.
    let arena = c.args.tree.now.nodes in
    let rows = c.args.table.now.rows.items in
    gone_done arena rows c.args.frames.now.cells c.args.set.now.all k c.requires.unpicked (subst (λ (o : Continuation). IsWay arena rows o k) c.in-Done.is w)

pub go_on-returns-in-Opens-clause-moved : goal.go_on-returns-in-Opens-clause-moved
go_on-returns-in-Opens-clause-moved g t c = λ k w.
    let arena = c.args.tree.now.nodes in
    let rows = c.args.table.now.rows.items in
    gone_entered arena rows c.args.frames.now.cells c.enter_at.new.frames.cells c.args.set.now.all c.enter_at.new.set.all c.in-Opens.place k c.enter_at.ensures.moved (subst (λ (o : Continuation). IsWay arena rows o k) c.in-Opens.is w)

pub go_on-returns-in-TestsAgain-clause-moved : goal.go_on-returns-in-TestsAgain-clause-moved
go_on-returns-in-TestsAgain-clause-moved g t c = λ k w.
    let arena = c.args.tree.now.nodes in
    let rows = c.args.table.now.rows.items in
    gone_tests arena rows c.args.frames.now.cells c.args.set.now.all c.insert.new.self.all c.in-TestsAgain.place k c.requires.unpicked c.insert.ensures.came (subst (λ (o : Continuation). IsWay arena rows o k) c.in-TestsAgain.is w)

pub join-count_down-requires : goal.join-count_down-requires
join-count_down-requires g t c =
    let arena = c.args.tree.now.nodes in
    let j = joins_is arena c.args.table.now.rows.items c.args.place c.requires.way.0 c.requires.way.1 in
    let within = j.2.within.0 in
    let room = c.requires.room in
    omega (arith, within, room)

pub join-go_on-requires : goal.join-go_on-requires
join-go_on-requires g t c =
    let arena = c.args.tree.now.nodes in
    let rows = c.args.table.now.rows.items in
    let j = joins_is arena rows c.args.place c.requires.way.0 c.requires.way.1 in
    let within = j.2.within.0 in
    let room = c.requires.room in
    let inside : c.args.place < length c.args.frames.now.cells = omega (arith, within, room) in
    let node = get_some arena c.args.place within in
    let unpicked = fewer_unpicked arena c.args.frames.now.cells c.args.place node.0 inside node.1 j.2.within.1 c.requires.unpicked in
    let falls = link_falls rows c.args.place c.requires.table.back in
    let bound : link_bound c.after_at.result ≡ link_bound (after_at rows c.args.place) = ap link_bound c.after_at.ensures in
    let fewer : 2 * link_bound c.after_at.result + 1 < 2 * c.args.place + 2 = omega (arith, falls, bound) in
    let way : IsWay arena rows c.after_at.result j.0 = subst (λ (o : Continuation). IsWay arena rows o j.0) (sym c.after_at.ensures) j.3 in
    let long : length c.count_down.new.frames.cells ≡ length arena = ap (λ (l : List Cell). length l) c.count_down.ensures.written ∙ (length_set c.args.frames.now.cells c.args.place _ ∙ c.requires.room) in
    let none = subst (λ (l : List Cell). AreUnpickedIn arena l) (sym c.count_down.ensures.written) unpicked in
    search rules

pub join-returns-then-count_down-clause-moved : goal.join-returns-then-count_down-clause-moved
join-returns-then-count_down-clause-moved g t c = λ k w.
    let arena = c.args.tree.now.nodes in
    let rows = c.args.table.now.rows.items in
    let j = joins_is arena rows c.args.place k w in
    let within = j.2.within.0 in
    let room = c.requires.room in
    let inside : c.args.place < length c.args.frames.now.cells = omega (arith, within, room) in
    joined_last arena rows c.args.frames.now.cells c.go_on.new.frames.cells c.args.set.now.all c.go_on.new.set.all c.args.place k inside (sym c.count_down.ensures.last ∙ c.if-count_down.true)
    (λ i v. subst (λ (l : List Cell). HasGone arena l c.go_on.new.frames.cells c.args.set.now.all c.go_on.new.set.all i) c.count_down.ensures.written (c.go_on.ensures.moved i (subst (λ (o : Continuation). IsWay arena rows o i) (sym c.after_at.ensures) v))) w

pub join-returns-else-count_down-clause-moved : goal.join-returns-else-count_down-clause-moved
join-returns-else-count_down-clause-moved g t c = λ k w.
    let arena = c.args.tree.now.nodes in
    let rows = c.args.table.now.rows.items in
    let j = joins_is arena rows c.args.place k w in
    let within = j.2.within.0 in
    let room = c.requires.room in
    let inside : c.args.place < length c.args.frames.now.cells = omega (arith, within, room) in
    let node = get_some arena c.args.place within in
    let unpicked = fewer_unpicked arena c.args.frames.now.cells c.args.place node.0 inside node.1 j.2.within.1 c.requires.unpicked in
    subst (λ (l : List Cell). HasGone arena c.args.frames.now.cells l c.args.set.now.all c.args.set.now.all k) (sym c.count_down.ensures.written)
    (joined_more arena rows c.args.frames.now.cells c.args.set.now.all c.args.place k inside unpicked (sym c.count_down.ensures.last ∙ c.if-count_down.false) w)

pub pick_on-go_on-requires : goal.pick_on-go_on-requires
pick_on-go_on-requires g t c =
    let arena = c.args.tree.now.nodes in
    let rows = c.args.table.now.rows.items in
    let j = picks_is arena rows c.args.place c.requires.way.0 c.requires.way.1 in
    let falls = link_falls rows c.args.place c.requires.table.back in
    let bound : link_bound c.after_at.result ≡ link_bound (after_at rows c.args.place) = ap link_bound c.after_at.ensures in
    let fewer : 2 * link_bound c.after_at.result + 1 < 2 * c.args.place + 2 = omega (arith, falls, bound) in
    let way : IsWay arena rows c.after_at.result j.0 = subst (λ (o : Continuation). IsWay arena rows o j.0) (sym c.after_at.ensures) j.3 in
    search rules

pub pick_on-insert-requires : goal.pick_on-insert-requires
pick_on-insert-requires g t c =
    let arena = c.args.tree.now.nodes in
    let j = picks_is arena c.args.table.now.rows.items c.args.place c.requires.way.0 c.requires.way.1 in
    let within = j.2.within.0 in
    let few = c.requires.table.few in
    omega (arith, within, few)

pub pick_on-returns-then-count-count_at-clause-moved : goal.pick_on-returns-then-count-count_at-clause-moved
pick_on-returns-then-count-count_at-clause-moved g t c = λ k w.
    let arena = c.args.tree.now.nodes in
    let rows = c.args.table.now.rows.items in
    picked_last arena rows c.args.frames.now.cells c.go_on.new.frames.cells c.args.set.now.all c.go_on.new.set.all c.args.place k
    (sym c.count.ensures ∙ (c.if-count-count_at.true ∙ c.count_at.ensures.count)) (λ i v. c.go_on.ensures.moved i (subst (λ (o : Continuation). IsWay arena rows o i) (sym c.after_at.ensures) v)) w

pub pick_on-returns-else-count-count_at-clause-moved : goal.pick_on-returns-else-count-count_at-clause-moved
pick_on-returns-else-count-count_at-clause-moved g t c = λ k w.
    let arena = c.args.tree.now.nodes in
    let rows = c.args.table.now.rows.items in
    picks_more arena rows c.args.frames.now.cells c.args.set.now.all c.insert.new.self.all c.args.place k c.requires.unpicked
    (λ e. c.if-count-count_at.false (c.count.ensures ∙ (e ∙ sym c.count_at.ensures.count))) c.insert.ensures.came w

pub go_on-returns-in-Opens-clause-looks : goal.go_on-returns-in-Opens-clause-looks
go_on-returns-in-Opens-clause-looks g t c = λ k w.
    let arena = c.args.tree.now.nodes in
    let rows = c.args.table.now.rows.items in
    way_opened arena rows (cells_of c.args.frames.now.cells) c.in-Opens.place k _ _ (subst (λ (o : Continuation). IsWay arena rows o k) c.in-Opens.is w) c.enter_at.ensures.looks

pub join-returns-then-count_down-clause-looks : goal.join-returns-then-count_down-clause-looks
join-returns-then-count_down-clause-looks g t c = λ k w.
    let arena = c.args.tree.now.nodes in
    let rows = c.args.table.now.rows.items in
    way_joined arena rows c.args.frames.now.cells c.count_down.new.frames.cells c.args.place _ k _ _ c.count_down.ensures.written (sym c.count_down.ensures.last ∙ c.if-count_down.true)
    (λ i v. c.go_on.ensures.looks i (subst (λ (o : Continuation). IsWay arena rows o i) (sym c.after_at.ensures) v)) w

pub pick_on-returns-then-count-count_at-clause-looks : goal.pick_on-returns-then-count-count_at-clause-looks
pick_on-returns-then-count-count_at-clause-looks g t c = λ k w.
    let arena = c.args.tree.now.nodes in
    let rows = c.args.table.now.rows.items in
    way_picked arena rows c.args.frames.now.cells c.args.place k _ _ _ (sym c.count.ensures ∙ (c.if-count-count_at.true ∙ c.count_at.ensures.count)) c.count_at.ensures.looks
    (λ i v. c.go_on.ensures.looks i (subst (λ (o : Continuation). IsWay arena rows o i) (sym c.after_at.ensures) v)) w

pub pick_on-returns-else-count-count_at-clause-looks : goal.pick_on-returns-else-count-count_at-clause-looks
pick_on-returns-else-count-count_at-clause-looks g t c = λ k w. way_asked c.args.tree.now.nodes c.args.table.now.rows.items c.args.frames.now.cells c.args.place k _ _ c.count_at.ensures.looks w

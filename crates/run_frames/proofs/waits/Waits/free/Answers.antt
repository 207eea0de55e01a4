use Rattle.std.proofs.Common.{◌∙◌, ◌<◌, ◌-◌, ◌+◌, ap, sym, subst, arith, List, length}
use Rattle.std.specs.Prelude.{Option}
use Rattle.std.specs.Option.{option_map_or}
use Rattle.place_classes.specs.declared.class.Class.{Class}
use Rattle.run_frames.specs.declared.waits.Link.{Link}
use Rattle.run_frames.specs.Waits.{link_at, IsNextWait, AreFreedTo}
use Rattle.run_frames.proofs.WaitLemmas.{freed_more, nearer}
use Rattle.run_frames.proofs.waits.Waits.free.Goals as goal

pub loop-at-smaller : goal.loop-at-smaller
loop-at-smaller c =
    let t = c.args.tree.now in
    let w = c.in-Some.wait in
    let m = c.args.mark in
    let at = subst (λ (o : Option Link). AreFreedTo t m o c.args.set.now.classes c.loop-at.set.classes) c.in-Some.is c.loop-at.invariant.1 in
    let same = c.link_at-at-in-Some.ensures ∙ ap (λ (l : List (Option Link)). link_at l w.place) c.as_slice-in-Some.ensures.value in
    let next = subst (λ (o : Option Link). IsNextWait t m (w.place + 1) o) (sym same) (c.requires.linked.laters m w.place (omega arith) at.is_wait.1 at.is_wait.0) in
    subst (λ (o : Option Link). option_map_or (λ v. length t.nodes - v.place) c.link_at-at-in-Some.result 0 < option_map_or (λ v. length t.nodes - v.place) o 0) (sym c.in-Some.is) (nearer t m w.place c.link_at-at-in-Some.result next at.is_wait.1)

pub loop-at-preserved : goal.loop-at-preserved
loop-at-preserved c =
    let t = c.args.tree.now in
    let w = c.in-Some.wait in
    let m = c.args.mark in
    let at = subst (λ (o : Option Link). AreFreedTo t m o c.args.set.now.classes c.loop-at.set.classes) c.in-Some.is c.loop-at.invariant.1 in
    let same = c.link_at-at-in-Some.ensures ∙ ap (λ (l : List (Option Link)). link_at l w.place) c.as_slice-in-Some.ensures.value in
    let next = subst (λ (o : Option Link). IsNextWait t m (w.place + 1) o) (sym same) (c.requires.linked.laters m w.place (omega arith) at.is_wait.1 at.is_wait.0) in (
      c.free_wait.ensures.all ∙ c.loop-at.invariant.0,
      subst (λ (l : List Class). AreFreedTo t m c.link_at-at-in-Some.result c.args.set.now.classes l) (sym c.free_wait.ensures.classes) (freed_more t m w c.link_at-at-in-Some.result c.args.set.now.classes c.loop-at.set.classes c.requires.long next at),
    )

use Rattle.std.proofs.Common.{◌∙◌, ◌<◌, ◌≤◌, subst, sym, ap, ℕ, List, length, arith}
use Rattle.std.specs.List.{All}
use Rattle.run_log.specs.declared.entry.Entry.{Entry}
use Rattle.run_core.proofs.free.FreeCore.open.Goals as goal

pub invariant_of-result : goal.invariant_of-result
invariant_of-result c =
    let z = c.in_ok-state.ensures.list in
    record {
      least = c.requires.0;
      most = c.requires.1;
      short = subst (λ (l : List Entry). length l ≤ c.args.limit) (sym z) (omega arith);
      one_each = ap length c.in_ok-actors.ensures.items ∙ sym (ap length z);
      few_actors = subst (All (λ (a : ℕ). a < 16)) (sym c.in_ok-actors.ensures.items) (λ k d l. absurd (omega (arith, l)));
      for_entries = c.in_ok-state.ensures.room;
      alone = c.in_ok-state.ensures.coming;
      for_actors = c.in_ok-actors.ensures.capacity;
    }

pub returns : goal.returns
returns c =
    let p = c.in_ok-state.ensures.project in
    let s = c.in_ok-state.ensures.script in
    let z = c.in_ok-state.ensures.list in
    let w = c.in_ok-actors.ensures.items in
    λ i. record { project = p i; script = s i; limit = c.args.limit; log = z i; actors = w i }

use Rattle.std.specs.Prelude.{◌↔◌, ◌⊎◌, Contains, IfSome}
use Rattle.std.specs.Option.{option_copied}
use Rattle.std.specs.List.{slice_get}
use Rattle.std.proofs.Common.{◌≡◌, ◌<◌, List, [], ℕ, length, get_or, set, sym, ap, subst, ◌∙◌, arith}
use Rattle.std.proofs.lemmas.List.{get_or_read}
use Rattle.plan_store.specs.declared.ticket.Ticket.{Ticket}
use Rattle.plan_store.specs.declared.limits.TheConstants.{MAX_WINDOW}
use Rattle.plan_store.specs.StepAhead.{StepAhead, step_in, window, taken}
use Rattle.plan_law.specs.Tickets.{joined}
use Rattle.plan_window.specs.Window.{Windowed, line, version_by, ahead_after}
use Rattle.plan_window.specs.Kept.{coming, IsKept}
use Rattle.plan_window.proofs.NumberLemmas.{has_added}
use Rattle.plan_window.proofs.TurnLemmas.{kept_beyond, found_step, none_found, channel_found, is_turn, knows}
use Rattle.plan_window.proofs.window.PlanWindow.dispatch.Goals as goal

pub invariant_of-self : goal.invariant_of-self
invariant_of-self c =
    let inside = c.self.inside in
    let at = none_found (step_in inside.store c.args.step) (sym c.ticket_of.ensures ∙ c.in_default.is) in
    subst (λ (known : List ℕ). IsKept inside.store inside.lines.items known c.add.new.self.members inside.nexts.items) (sym c.add.ensures.steps)
    (kept_beyond inside.store inside.lines.items inside.sent.steps inside.sent.members c.add.new.self.members inside.nexts.items c.args.step at
    (has_added inside.sent.members c.add.new.self.members c.args.step c.add.ensures.members) c.self.invariant)

pub returns-in_default-clause-sent : goal.returns-in_default-clause-sent
returns-in_default-clause-sent c = subst (λ (w : Windowed). (n : ℕ) → Contains c.add.new.self.members n ↔ (n ≡ c.args.step) ⊎ Contains w.sent n) c.self.view_is c.add.ensures.members

pub index-requires : goal.index-requires
index-requires c =
    let f = found_step (step_in c.self.inside.store c.args.step) c.in-Some.ticket (sym c.ticket_of.ensures ∙ c.in-Some.is) in
    let under = channel_found c.self.inside.store c.args.step f.0 c.tickets.ensures.windows f.1 in
    omega (arith, under, ap (λ (t : Ticket). t.channel) f.2, c.self.invariant.lines_are.channels)

pub index-requires-2 : goal.index-requires-2
index-requires-2 c =
    let f = found_step (step_in c.self.inside.store c.args.step) c.in-Some.ticket (sym c.ticket_of.ensures ∙ c.in-Some.is) in
    let under = channel_found c.self.inside.store c.args.step f.0 c.tickets.ensures.windows f.1 in
    omega (arith, under, ap (λ (t : Ticket). t.channel) f.2, c.self.invariant.nexts_are)

pub come_in-requires-clause-within : goal.come_in-requires-clause-within
come_in-requires-clause-within c =
    let f = found_step (step_in c.self.inside.store c.args.step) c.in-Some.ticket (sym c.ticket_of.ensures ∙ c.in-Some.is) in
    let under = channel_found c.self.inside.store c.args.step f.0 c.tickets.ensures.windows f.1 in
    omega (arith, under, ap (λ (t : Ticket). t.channel) f.2)

pub come_in-requires-clause-room : goal.come_in-requires-clause-room
come_in-requires-clause-room c =
    let inside = c.self.inside in
    let f = found_step (step_in inside.store c.args.step) c.in-Some.ticket (sym c.ticket_of.ensures ∙ c.in-Some.is) in
    let same : f.0.channel ≡ c.in-Some.ticket.channel = sym (ap (λ (t : Ticket). t.channel) f.2) in
    let under = channel_found inside.store c.args.step f.0 c.tickets.ensures.windows f.1 in
    let here : line inside.lines.items c.in-Some.ticket.channel ≡ c.as_slice.result.now = sym (c.as_slice.ensures ∙ get_or_read inside.lines.items c.in-Some.ticket.channel c.index.result.now (omega (arith, under, same, c.self.invariant.lines_are.channels)) c.index.ensures []) in
    let next : get_or inside.nexts.items c.in-Some.ticket.channel 0 ≡ c.index-2.result.now = sym (get_or_read inside.nexts.items c.in-Some.ticket.channel c.index-2.result.now (omega (arith, under, same, c.self.invariant.nexts_are)) c.index-2.ensures 0) in
    let turn = is_turn inside.store inside.lines.items inside.sent.steps inside.sent.members c.add.new.self.members inside.nexts.items c.args.step f.0 c.in-Some.ticket.channel c.as_slice.result.now c.index-2.result.now c.tickets.ensures.windows f.1 (has_added inside.sent.members c.add.new.self.members c.args.step c.add.ensures.members) c.self.invariant same here next in
    subst (λ (xs : List StepAhead). length (window xs c.in-Some.ticket.channel) < MAX_WINDOW) (sym c.take-plan.ensures.taken) turn.room

pub come_in-requires-clause-new : goal.come_in-requires-clause-new
come_in-requires-clause-new c =
    let inside = c.self.inside in
    let f = found_step (step_in inside.store c.args.step) c.in-Some.ticket (sym c.ticket_of.ensures ∙ c.in-Some.is) in
    let same : f.0.channel ≡ c.in-Some.ticket.channel = sym (ap (λ (t : Ticket). t.channel) f.2) in
    let under = channel_found inside.store c.args.step f.0 c.tickets.ensures.windows f.1 in
    let here : line inside.lines.items c.in-Some.ticket.channel ≡ c.as_slice.result.now = sym (c.as_slice.ensures ∙ get_or_read inside.lines.items c.in-Some.ticket.channel c.index.result.now (omega (arith, under, same, c.self.invariant.lines_are.channels)) c.index.ensures []) in
    let next : get_or inside.nexts.items c.in-Some.ticket.channel 0 ≡ c.index-2.result.now = sym (get_or_read inside.nexts.items c.in-Some.ticket.channel c.index-2.result.now (omega (arith, under, same, c.self.invariant.nexts_are)) c.index-2.ensures 0) in
    let turn = is_turn inside.store inside.lines.items inside.sent.steps inside.sent.members c.add.new.self.members inside.nexts.items c.args.step f.0 c.in-Some.ticket.channel c.as_slice.result.now c.index-2.result.now c.tickets.ensures.windows f.1 (has_added inside.sent.members c.add.new.self.members c.args.step c.add.ensures.members) c.self.invariant same here next in
    λ m comes. ap (λ (xs : List StepAhead). step_in xs m) c.take-plan.ensures.taken ∙ turn.fresh m comes

pub come_in-requires-clause-known : goal.come_in-requires-clause-known
come_in-requires-clause-known c =
    let inside = c.self.inside in
    let f = found_step (step_in inside.store c.args.step) c.in-Some.ticket (sym c.ticket_of.ensures ∙ c.in-Some.is) in
    let same : f.0.channel ≡ c.in-Some.ticket.channel = sym (ap (λ (t : Ticket). t.channel) f.2) in
    let under = channel_found inside.store c.args.step f.0 c.tickets.ensures.windows f.1 in
    let here : line inside.lines.items c.in-Some.ticket.channel ≡ c.as_slice.result.now = sym (c.as_slice.ensures ∙ get_or_read inside.lines.items c.in-Some.ticket.channel c.index.result.now (omega (arith, under, same, c.self.invariant.lines_are.channels)) c.index.ensures []) in
    let next : get_or inside.nexts.items c.in-Some.ticket.channel 0 ≡ c.index-2.result.now = sym (get_or_read inside.nexts.items c.in-Some.ticket.channel c.index-2.result.now (omega (arith, under, same, c.self.invariant.nexts_are)) c.index-2.ensures 0) in
    let turn = is_turn inside.store inside.lines.items inside.sent.steps inside.sent.members c.add.new.self.members inside.nexts.items c.args.step f.0 c.in-Some.ticket.channel c.as_slice.result.now c.index-2.result.now c.tickets.ensures.windows f.1 (has_added inside.sent.members c.add.new.self.members c.args.step c.add.ensures.members) c.self.invariant same here next in
    λ m comes. knows (option_copied c.args.versions) inside.sent.steps m (subst (λ (w : Windowed). IfSome (option_copied c.args.versions) (λ v. v.steps ≡ w.known)) (sym c.self.view_is) c.requires.versions) (turn.are_known m comes)

pub index_mut-requires : goal.index_mut-requires
index_mut-requires c =
    let f = found_step (step_in c.self.inside.store c.args.step) c.in-Some.ticket (sym c.ticket_of.ensures ∙ c.in-Some.is) in
    let under = channel_found c.self.inside.store c.args.step f.0 c.tickets.ensures.windows f.1 in
    omega (arith, under, ap (λ (t : Ticket). t.channel) f.2, c.self.invariant.nexts_are)

pub invariant_of-self-2 : goal.invariant_of-self-2
invariant_of-self-2 c =
    let inside = c.self.inside in
    let f = found_step (step_in inside.store c.args.step) c.in-Some.ticket (sym c.ticket_of.ensures ∙ c.in-Some.is) in
    let same : f.0.channel ≡ c.in-Some.ticket.channel = sym (ap (λ (t : Ticket). t.channel) f.2) in
    let under = channel_found inside.store c.args.step f.0 c.tickets.ensures.windows f.1 in
    let here : line inside.lines.items c.in-Some.ticket.channel ≡ c.as_slice.result.now = sym (c.as_slice.ensures ∙ get_or_read inside.lines.items c.in-Some.ticket.channel c.index.result.now (omega (arith, under, same, c.self.invariant.lines_are.channels)) c.index.ensures []) in
    let next : get_or inside.nexts.items c.in-Some.ticket.channel 0 ≡ c.index-2.result.now = sym (get_or_read inside.nexts.items c.in-Some.ticket.channel c.index-2.result.now (omega (arith, under, same, c.self.invariant.nexts_are)) c.index-2.ensures 0) in
    let turn = is_turn inside.store inside.lines.items inside.sent.steps inside.sent.members c.add.new.self.members inside.nexts.items c.args.step f.0 c.in-Some.ticket.channel c.as_slice.result.now c.index-2.result.now c.tickets.ensures.windows f.1 (has_added inside.sent.members c.add.new.self.members c.args.step c.add.ensures.members) c.self.invariant same here next in
    let version = version_by (option_copied c.args.versions) in
    let comes = slice_get (coming c.add.new.self.members c.as_slice.result.now c.index-2.result.now) 0 in
    subst (λ (xs : List StepAhead). IsKept xs inside.lines.items c.add.new.self.steps c.add.new.self.members (set inside.nexts.items c.in-Some.ticket.channel c.come_in.result))
    (sym (c.come_in.ensures.joined ∙ ap (λ (xs : List StepAhead). joined version xs c.in-Some.ticket.channel comes) c.take-plan.ensures.taken))
    (subst (λ (known : List ℕ). IsKept (joined version (taken inside.store c.args.step) c.in-Some.ticket.channel comes) inside.lines.items known c.add.new.self.members (set inside.nexts.items c.in-Some.ticket.channel c.come_in.result))
    (sym c.add.ensures.steps) (turn.stays version c.come_in.result c.come_in.ensures.rest))

pub returns-clause-ahead : goal.returns-clause-ahead
returns-clause-ahead c =
    let inside = c.self.inside in
    let f = found_step (step_in inside.store c.args.step) c.in-Some.ticket (sym c.ticket_of.ensures ∙ c.in-Some.is) in
    let same : f.0.channel ≡ c.in-Some.ticket.channel = sym (ap (λ (t : Ticket). t.channel) f.2) in
    let under = channel_found inside.store c.args.step f.0 c.tickets.ensures.windows f.1 in
    let here : line inside.lines.items c.in-Some.ticket.channel ≡ c.as_slice.result.now = sym (c.as_slice.ensures ∙ get_or_read inside.lines.items c.in-Some.ticket.channel c.index.result.now (omega (arith, under, same, c.self.invariant.lines_are.channels)) c.index.ensures []) in
    let next : get_or inside.nexts.items c.in-Some.ticket.channel 0 ≡ c.index-2.result.now = sym (get_or_read inside.nexts.items c.in-Some.ticket.channel c.index-2.result.now (omega (arith, under, same, c.self.invariant.nexts_are)) c.index-2.ensures 0) in
    let turn = is_turn inside.store inside.lines.items inside.sent.steps inside.sent.members c.add.new.self.members inside.nexts.items c.args.step f.0 c.in-Some.ticket.channel c.as_slice.result.now c.index-2.result.now c.tickets.ensures.windows f.1 (has_added inside.sent.members c.add.new.self.members c.args.step c.add.ensures.members) c.self.invariant same here next in
    let version = version_by (option_copied c.args.versions) in
    let comes = slice_get (coming c.add.new.self.members c.as_slice.result.now c.index-2.result.now) 0 in
    c.come_in.ensures.joined
    ∙ ap (λ (xs : List StepAhead). joined version xs c.in-Some.ticket.channel comes) c.take-plan.ensures.taken
    ∙ turn.follows version
    ∙ ap (λ (w : Windowed). ahead_after version w c.args.step) c.self.view_is

pub returns-clause-sent : goal.returns-clause-sent
returns-clause-sent c = subst (λ (w : Windowed). (n : ℕ) → Contains c.add.new.self.members n ↔ (n ≡ c.args.step) ⊎ Contains w.sent n) c.self.view_is c.add.ensures.members

use Rattle.plan_law.proofs.TicketMoves.{tickets_after, tickets_stay, tickets_wait, tickets_renewed}
use Rattle.plan_law.proofs.laws.tickets_move.Goals as goal

pub returns-clause-dispatch : goal.returns-clause-dispatch
returns-clause-dispatch c = λ r definition t x n all a is stays distinct w tickets at.
    tickets_after r definition t _ n all a c.steps_ahead_move.ensures.window (λ ns. c.steps_ahead_move.ensures.dispatch t x n ns is) stays distinct w tickets at

pub returns-clause-other : goal.returns-clause-other
returns-clause-other c = λ r definition t x all is stays tickets.
    tickets_stay r definition t _ all (λ ns. c.steps_ahead_move.ensures.other t x ns is) stays tickets

pub returns-clause-beyond : goal.returns-clause-beyond
returns-clause-beyond c = λ r definition t x n all is stays distinct tickets at.
    tickets_wait r definition t _ n all c.steps_ahead_move.ensures.window (λ ns. c.steps_ahead_move.ensures.dispatch t x n ns is) stays distinct tickets at

pub returns-clause-judged : goal.returns-clause-judged
returns-clause-judged c = λ r before after t x all is steps stays tickets.
    tickets_renewed r before after t _ all (λ ns. c.steps_ahead_move.ensures.other t x ns is) steps stays tickets

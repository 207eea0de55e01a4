pub mod TicketMoves

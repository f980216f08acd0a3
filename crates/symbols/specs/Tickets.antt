-- What answers with a ticket in them say as the numbers of their rules.
use Rattle.std.specs.Prelude.{◌≡◌, ℕ, Ok, Err, Result}
use Rattle.rules.specs.declared.Refusal.{Refusal}
use Rattle.symbols.specs.declared.ticket.Ticket.{Ticket}
use Rattle.symbols.specs.declared.ticket.Unspent.{Unspent}

-- a make answers the cell of its ticket
abbrev pub cell_named : Result Ticket Refusal → Result ℕ Refusal
cell_named (Ok t) = Ok t.cell
cell_named (Err e) = Err e

-- and its ticket is for slot m
abbrev pub SlotNamed : ℕ → Result Ticket Refusal → Type 0
SlotNamed m (Ok t) = t.slot ≡ m
SlotNamed m (Err e) = Unit {0}

-- a finish answers its number, or why it was refused
abbrev pub spent : Result ℕ Unspent → Result ℕ Refusal
spent (Ok k) = Ok k
spent (Err u) = Err u.refusal

-- and one that was refused hands back the ticket that it was given
abbrev pub HandsBack : Ticket → Result ℕ Unspent → Type 0
HandsBack t (Ok k) = Unit {0}
HandsBack t (Err u) = u.ticket ≡ t

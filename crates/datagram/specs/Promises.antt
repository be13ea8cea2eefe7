-- What the functions promise (01, "How far a contract must go"), in the words of `Program`.
use Rattle.std.specs.Prelude.{ℕ, ◌≡◌, false, List, [], ◌∷◌, ◌++◌, length, drop, Option}
use Rattle.segment.specs.declared.Segment.{Segment}
use Rattle.segment.specs.Refusals.{Said, refused, given}
use Rattle.station.specs.Outcomes.{Step, segments}
use Rattle.datagram.specs.declared.Listener.{Listener}
use Rattle.datagram.specs.Program.{listener, Box, Heard, datagrams_of, heard}

-- octets written at the start of an output: how many, and what is left at exit, the others as they were
pub record Writes (octets before after : List ℕ) (r : ℕ) : Type 0 where
  pub count : r ≡ length octets
  pub left : after ≡ octets ++ drop (length octets) before

-- the box at the start: no number was drawn
abbrev pub start : Box
start = record { station = listener; drawn = 0 }

-- the values of a listener
abbrev pub box_of : Listener → Box
box_of l = record { station = l.station; drawn = l.drawn }

-- the values of what a datagram leads to: the listener after it, and what is sent
abbrev pub heard_of : Listener → Option Segment → Heard
heard_of l sent = record { box = box_of l; sent = datagrams_of (segments sent) }

-- the segments sent: none by a refusal
abbrev pub sent_by : Said Step → List Segment
sent_by (refused n) = []
sent_by (given step) = step.sent

-- one segment at most, with FIN off, so that it can be written (01's table, 6)
abbrev pub Replies : List Segment → Type 0
Replies [] = Unit
Replies (g ∷ []) = g.header.control.fin ≡ false
Replies (g ∷ h ∷ gs) = ⊥

-- the promise of `heard`: of a box and a datagram, the listener after it and what is sent
pub record Hears (b : Box) (s : List ℕ) (l : Listener) (sent : Option Segment) : Type 0 where
  pub values : heard_of l sent ≡ heard b s
  pub replies : Replies (segments sent)

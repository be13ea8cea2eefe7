-- What is sent: one segment at most, with FIN off, and only for a segment of 20 octets. Assumes nothing.
use Prim.Native.Nat.{ℕ, ◌+◌, ◌≤◌}
use mathlib.Core.Path.{◌≡◌, refl, sym, ap}
use mathlib.Core.Bool.{false, not}
use mathlib.Core.List.{List, [], ◌∷◌, ◌++◌, append-nil}
use native.Mathlib.Omega.{arith}
use lib.ListN.{length, drop}
use lib.Dec.{eqb, ltb}
use Rattle.seq.specs.Seq.{plus, order}
use Rattle.segment.specs.declared.Segment.{Segment}
use Rattle.segment.specs.Refusals.{Said, refused, given}
use Rattle.segment.specs.Read.{segment_at, field_tests}
use Rattle.segment.specs.Write.{made}
use Rattle.segment.proofs.Tests.{AllOff, all_off}
use Rattle.std.proofs.Common.{rules}
use Rattle.std.proofs.lemmas.Bool.Decides.{nat_tests}
use Rattle.station.specs.declared.State.{State}
use Rattle.station.specs.declared.State.TheVariants.{Closed, Listen, SynSent, SynReceived, Established}
use Rattle.station.specs.declared.Station.{Station}
use Rattle.station.specs.Forms.{is}
use Rattle.station.specs.Sent.{has_ack, has_rst, has_syn, seg_ack, bits, sends, syn_ack_of, ack_of, rst_of, reply_reset}
use Rattle.station.specs.Outcomes.{Step}
use Rattle.station.specs.Calls.{bad_record}
use Rattle.station.specs.Arrival.{at_closed, at_listen, wrong_ack, syn_at_syn_sent, at_syn_sent, in_window, outside, ack_at_syn_received, is_later, ack_at_established, at_synchronized, arrival_at, endpoint_tests, octets_said}
use Rattle.datagram.specs.Layout.{datagram_of}
use Rattle.datagram.specs.Program.{datagrams_of}
use Rattle.datagram.specs.Promises.{Writes, sent_by, Replies}

-- ---- how many octets

pub datagram_size : (g : Segment) → length (datagram_of g) ≡ 40
unfolding datagram_of made
datagram_size g = refl

-- one segment's datagram is all that is sent
pub one_sent : (g : Segment) → datagrams_of (g ∷ []) ≡ datagram_of g
unfolding datagrams_of
one_sent g = append-nil (datagram_of g)

pub replies_size : (gs : List Segment) → Replies gs → length (datagrams_of gs) ≤ 40
unfolding datagrams_of
replies_size [] r = omega arith
replies_size (g ∷ []) r = omega (arith, ap length (one_sent g), datagram_size g)
replies_size (g ∷ h ∷ gs) r = absurd r

-- one datagram written at the start of an output
pub one_written : (g : Segment) (before after : List ℕ) → after ≡ datagram_of g ++ drop 40 before → Writes (datagrams_of (g ∷ [])) before after 40
one_written g before after e = rw one_sent (record { count = sym (datagram_size g); left = rw datagram_size e })

-- ---- FIN is off in every reply

abbrev Ok : Step → Type 0
Ok step = Replies step.sent

arrival_ok : (s : Station) (g : Segment) (t : State) (fresh : ℕ) → Ok (arrival_at t s g fresh)
unfolding arrival_at at_closed at_listen at_syn_sent syn_at_syn_sent at_synchronized outside ack_at_syn_received ack_at_established ack_of syn_ack_of reply_reset rst_of sends bits
arrival_ok s g t fresh = search rules

-- ---- octets that arrive

module _ (s : Station) (src dst : ℕ) (octets : List ℕ) (fresh : ℕ) where
  -- a step is taken past the tests, the first of them on the octets' number
  taken : (step : Step) → octets_said s src dst octets fresh ≡ given step → (20 ≤ length octets) × Replies step.sent
  unfolding octets_said AllOff field_tests
  taken step e =
      let o = all_off (bad_record s ∷ field_tests src dst octets ++ endpoint_tests s (segment_at src dst octets)) (arrival_at s.state s (segment_at src dst octets) fresh) step e in
      (grind (arith, nat_tests), rw o.1 at (arrival_ok s (segment_at src dst octets) s.state fresh))

  pub replies : (x : Said Step) → octets_said s src dst octets fresh ≡ x → Replies (sent_by x)
  replies (refused n) e = tt
  replies (given step) e = (taken step e).1

  -- the same of segments that are those of an answer
  pub replied : (x : Said Step) (gs : List Segment) → x ≡ octets_said s src dst octets fresh → gs ≡ sent_by x → Replies gs
  replied x gs e f = rw f (replies x (sym e))

  -- an answer needs 20 octets, and has 20 more than those
  pub answer_size : (x : Said Step) → octets_said s src dst octets fresh ≡ x → length (datagrams_of (sent_by x)) ≤ 20 + length octets
  unfolding datagrams_of
  answer_size (refused n) e = omega arith
  answer_size (given step) e = omega (arith, (taken step e).0, replies_size step.sent (taken step e).1)

-- How a station meets each call and segment of the nine steps. Assumes nothing.
use Prim.Native.Nat.{ℕ, ◌<◌, ◌≤◌}
use mathlib.Core.Path.{◌≡◌, refl, sym, ◌∙◌}
use mathlib.Core.Bool.{Bool, true, false}
use borrow.Author.Tests.{lt-ltb, le-ltb, eq-eqb, ne_eqb}
use Rattle.seq.specs.Seq.{plus, minus}
use Rattle.segment.specs.Refusals.{given}
use Rattle.station.specs.Forms.{formed, with, closed_of, listen_of, syn_sent_of, received_of, established_of}
use Rattle.station.specs.Sent.{bits, sends, syn_of, syn_ack_of, ack_of, rst_of, reply_reset}
use Rattle.station.specs.Outcomes.{quiet, sending, drawing}
use Rattle.station.specs.Calls.{may_open, open_step, may_resend, resend_step}
use Rattle.station.specs.Arrival.{at_listen, wrong_ack, syn_at_syn_sent, at_syn_sent, in_window, outside, reset_to, ack_at_syn_received, at_synchronized, arrival_at, ours, endpoint_tests}
use Rattle.station.specs.Events.{event_said}
use Rattle.station.specs.declared.State.TheVariants.{Closed, Established}
use Rattle.station.specs.declared.Station.{Station}
use Rattle.station.specs.declared.Event.TheVariants.{Open, Listen, Resend, Arrive}
use Rattle.station.proofs.Uniform.{event_first}
use Rattle.opening.proofs.Circle.{next_in_window}
use Rattle.opening.proofs.Forms.{Facing, Synchronized, window_positive}

-- ---- calls

pub met_open : (t : Station) (n : ℕ) → formed t ≡ true → t.state ≡ Closed → event_said t (Open n) ≡ given (open_step t n)
unfolding may_open
met_open t n f e = rw (event_first, f, e)

pub met_listen : (s : Station) → formed s ≡ true → s.state ≡ Closed → event_said s Listen ≡ given (quiet (listen_of s))
met_listen s f e = rw (event_first, f, e)

pub met_resend : (t : Station) (n : ℕ) → formed (syn_sent_of t n) ≡ true
    → event_said (syn_sent_of t n) Resend ≡ given (sending (syn_sent_of t n) (syn_of (syn_sent_of t n)))
unfolding may_resend resend_step syn_sent_of with
met_resend t n f = rw (event_first, f)

-- ---- arrivals

-- what the other end sends is not refused
arrives : (s t : Station) (seq ack window fresh : ℕ) (a r y : Bool) → formed s ≡ true → Facing s t
    → let g = sends t seq ack (bits a r y) window in event_said s (Arrive g fresh) ≡ given (arrival_at s.state s g fresh)
unfolding sends bits endpoint_tests ours
arrives s t seq ack window fresh a r y f h =
    rw (
      event_first,
      f,
      eq-eqb t.own s.peer (sym h.2),
      eq-eqb t.peer s.own (sym h.0),
      eq-eqb t.ownport s.peerport (sym h.3),
      eq-eqb t.peerport s.ownport (sym h.1),
    )

module _ (s t : Station) (n k fresh : ℕ) where
  -- ESTABLISHED meets a SYN outside its window with an ACK
  pub met_syn : formed s ≡ true → Facing s t → s.state ≡ Established → s.rcvwnd ≤ minus n s.rcvnxt
      → event_said s (Arrive (syn_of (syn_sent_of t n)) fresh) ≡ given (sending s (ack_of s))
  unfolding syn_of syn_sent_of with arrival_at at_synchronized in_window outside sends bits
  met_syn f h e far = arrives s t n 0 t.rcvwnd fresh false false true f h ∙ rw (e, le-ltb (minus n s.rcvnxt) s.rcvwnd far)

  -- SYN-SENT meets an ACK of another number with its reset
  pub met_ack : formed (syn_sent_of t n) ≡ true → Facing t s → (s.rcvnxt ≡ plus n 1 → ⊥)
      → event_said (syn_sent_of t n) (Arrive (ack_of s) fresh) ≡ given (sending (syn_sent_of t n) (rst_of t s.rcvnxt))
  unfolding ack_of syn_sent_of with arrival_at at_syn_sent wrong_ack reply_reset rst_of sends bits
  met_ack f h other =
      arrives (syn_sent_of t n) s s.nxt s.rcvnxt s.rcvwnd fresh true false false f h ∙ rw (ne_eqb s.rcvnxt (plus n 1) other)

  -- ESTABLISHED is closed by a reset at RCV.NXT
  pub met_reset : formed s ≡ true → Facing s t → s.state ≡ Established → Synchronized s
      → event_said s (Arrive (rst_of t s.rcvnxt) fresh) ≡ given (quiet (closed_of s))
  unfolding rst_of arrival_at at_synchronized in_window reset_to sends bits
  met_reset f h e form =
      let pos = window_positive s f in
      let near : minus s.rcvnxt s.rcvnxt < s.rcvwnd = rw form.rcvnxt (next_in_window s.irs s.rcvwnd pos) in
      arrives s t s.rcvnxt 0 0 fresh false true false f h ∙ rw (e, lt-ltb (minus s.rcvnxt s.rcvnxt) s.rcvwnd near)

  -- LISTEN takes a SYN and draws
  pub met_again : formed (listen_of s) ≡ true → Facing s t
      → event_said (listen_of s) (Arrive (syn_of (syn_sent_of t n)) k)
      ≡ given (drawing (received_of s true k n) (syn_ack_of (received_of s true k n)))
  unfolding syn_of syn_sent_of listen_of received_of with arrival_at at_listen sends bits
  met_again f h = arrives (listen_of s) t n 0 t.rcvwnd k false false true f h

  -- SYN-SENT takes a SYN,ACK of its number
  pub met_synack : formed (syn_sent_of t n) ≡ true → Facing t s
      → event_said (syn_sent_of t n) (Arrive (syn_ack_of (received_of s true k n)) fresh)
      ≡ given (sending (established_of t false n k) (ack_of (established_of t false n k)))
  unfolding syn_ack_of syn_sent_of received_of established_of with arrival_at at_syn_sent wrong_ack syn_at_syn_sent sends bits
  met_synack f h =
      arrives (syn_sent_of t n) s k (plus n 1) s.rcvwnd fresh true false true f h ∙ rw (eq-eqb (plus n 1) (plus n 1) refl)

  -- SYN-RECEIVED takes the ACK
  pub met_last : formed (received_of s true k n) ≡ true → 1 ≤ s.rcvwnd → Facing s t
      → event_said (received_of s true k n) (Arrive (ack_of (established_of t false n k)) fresh) ≡ given (quiet (established_of s true k n))
  unfolding ack_of received_of established_of with arrival_at at_synchronized in_window ack_at_syn_received sends bits
  met_last f pos h =
      arrives (received_of s true k n) t (plus n 1) (plus k 1) t.rcvwnd fresh true false false f h
      ∙ rw (lt-ltb (minus (plus n 1) (plus n 1)) s.rcvwnd (next_in_window n s.rcvwnd pos), eq-eqb (plus k 1) (plus k 1) refl)

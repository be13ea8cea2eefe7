-- A number is drawn exactly by an open that is taken and by a LISTEN that takes a SYN. Assumes nothing.
use mathlib.Core.Path.{◌≡◌}
use mathlib.Core.Bool.{true}
use mathlib.Core.Logic.{◌↔◌}
use Rattle.std.proofs.Common.{rules}
use Rattle.segment.specs.Read.{segment_at}
use Rattle.station.specs.Forms.{with, syn_sent_of, received_of}
use Rattle.station.specs.Calls.{open_step, abort_step, resend_step}
use Rattle.station.specs.Arrival.{at_closed, at_listen, syn_at_syn_sent, at_syn_sent, outside, ack_at_syn_received, ack_at_established, at_synchronized, arrival_at}
use Rattle.station.specs.Theorems.{Draws, Offers, DrawsExactly}
use Rattle.station.specs.declared.Station.{Station}
use Rattle.station.specs.declared.Event.{Event}
use Rattle.station.proofs.Uniform.{event_step, event_past, octets_past}

step_draws : (s : Station) (e : Event) → ((event_step s e).drawn ≡ true) ↔ Draws s e
unfolding Draws open_step abort_step resend_step arrival_at at_closed at_listen at_syn_sent syn_at_syn_sent at_synchronized outside ack_at_syn_received ack_at_established
step_draws s e = search rules

step_iss : (s : Station) (e : Event) → (event_step s e).drawn ≡ true → Offers e (event_step s e).next.iss
unfolding Offers open_step abort_step resend_step arrival_at at_closed at_listen at_syn_sent syn_at_syn_sent at_synchronized outside ack_at_syn_received ack_at_established syn_sent_of received_of with
step_iss s e d = search rules

pub draws_exactly : DrawsExactly
unfolding Draws Offers
draws_exactly = record {
  event = λ s e step g. rw (← (event_past s e step g).1) (step_draws s e);
  iss = λ s e step g. rw (← (event_past s e step g).1) (step_iss s e);
  octets = λ s src dst octets fresh step g.
      rw (← (octets_past s src dst octets fresh step g).1) (step_draws s (Event.Arrive (segment_at src dst octets) fresh));
  octets_iss = λ s src dst octets fresh step g.
      rw (← (octets_past s src dst octets fresh step g).1) (step_iss s (Event.Arrive (segment_at src dst octets) fresh));
}

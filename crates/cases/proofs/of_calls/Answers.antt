use mathlib.Core.Path.{refl}
use Rattle.seq.specs.Seq.{order}
use Rattle.station.specs.Forms.{zeroed, opening, acknowledged, synchronized, form_at, formed, with, closed_of, listen_of, syn_sent_of, received_of, established_of}
use Rattle.station.specs.Sent.{seg_len, bits, sends, syn_of, syn_ack_of, ack_of, rst_of, reply_reset}
use Rattle.station.specs.Calls.{may_open, open_step, open_said, listen_said, abort_step, abort_said, may_resend, resend_step, resend_said, power_cut_said}
use Rattle.station.specs.Arrival.{at_closed, at_listen, wrong_ack, syn_at_syn_sent, at_syn_sent, in_window, outside, reset_to, ack_at_syn_received, ack_at_established, at_synchronized, arrival_at, ours, endpoint_tests, arrive_said}
use Rattle.station.specs.Events.{event_said}
use Rattle.examples.proofs.Each.{◌&◌}
use Rattle.cases.proofs.of_calls.Goals as goal

-- every case is computed
pub returns : goal.returns
unfolding order zeroed opening acknowledged synchronized form_at formed with closed_of listen_of syn_sent_of received_of established_of seg_len bits sends syn_of syn_ack_of ack_of rst_of reply_reset may_open open_step open_said listen_said abort_step abort_said may_resend resend_step resend_said power_cut_said at_closed at_listen wrong_ack syn_at_syn_sent at_syn_sent in_window outside reset_to ack_at_syn_received ack_at_established at_synchronized arrival_at ours endpoint_tests arrive_said event_said
returns c = (
  refl & refl & refl & refl & refl & refl & refl & refl & tt,
  refl & refl & refl & refl & refl & refl & refl & tt,
  refl & refl & refl & refl & refl & refl & refl & tt,
  refl & refl & refl & refl & refl & refl & refl & tt,
  refl & refl & refl & refl & refl & refl & refl & tt,
)

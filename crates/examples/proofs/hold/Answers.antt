use mathlib.Core.Path.{refl}
use Rattle.checksum.specs.Sum.{words, added_back, carried, address_words, sum_of, checksum_of}
use Rattle.segment.specs.Read.{field_tests, read_tests, read_said}
use Rattle.segment.specs.Write.{made}
use Rattle.seq.specs.Seq.{order}
use Rattle.station.specs.Forms.{zeroed, opening, acknowledged, synchronized, form_at, formed, with, closed_of, listen_of, received_of, established_of}
use Rattle.station.specs.Sent.{seg_len, bits, sends, syn_ack_of, ack_of, rst_of, reply_reset}
use Rattle.station.specs.Arrival.{at_closed, at_listen, wrong_ack, syn_at_syn_sent, at_syn_sent, in_window, outside, reset_to, ack_at_syn_received, ack_at_established, at_synchronized, arrival_at, ours, endpoint_tests, arrive_said}
use Rattle.examples.proofs.Each.{◌&◌}
use Rattle.examples.proofs.hold.Goals as goal

-- every example is computed
pub returns : goal.returns
unfolding words added_back carried address_words sum_of checksum_of field_tests read_tests read_said made order zeroed opening acknowledged synchronized form_at formed with closed_of listen_of received_of established_of seg_len bits sends syn_ack_of ack_of rst_of reply_reset at_closed at_listen wrong_ack syn_at_syn_sent at_syn_sent in_window outside reset_to ack_at_syn_received ack_at_established at_synchronized arrival_at ours endpoint_tests arrive_said
returns c =
    refl & refl & refl & refl & refl & refl & refl & refl & (refl, refl, refl)
    & refl & (refl, refl, refl, refl) & (refl, refl, refl) & tt

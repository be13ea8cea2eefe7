use mathlib.Core.Path.{refl}
use Rattle.seq.specs.Seq.{order}
use Rattle.checksum.specs.Sum.{words, added_back, carried, address_words, sum_of, checksum_of}
use Rattle.segment.specs.Read.{field_tests}
use Rattle.segment.specs.Write.{made}
use Rattle.station.specs.Forms.{zeroed, opening, acknowledged, synchronized, form_at, formed, with, closed_of, listen_of, syn_sent_of, received_of, established_of}
use Rattle.station.specs.Sent.{seg_len, bits, sends, syn_of, syn_ack_of, ack_of, rst_of, reply_reset}
use Rattle.station.specs.Arrival.{at_closed, at_listen, wrong_ack, syn_at_syn_sent, at_syn_sent, in_window, outside, reset_to, ack_at_syn_received, ack_at_established, at_synchronized, arrival_at, ours, endpoint_tests, arrive_said, octets_said}
use Rattle.datagram.specs.Layout.{carried_by, stops_at, header_checksum, datagram_of}
use Rattle.datagram.specs.Program.{datagrams_of, heard_by, heard, answers, output}
use Rattle.examples.proofs.Each.{◌&◌}
use Rattle.octet_cases.proofs.of_the_program.Goals as goal

-- every case is computed
pub returns : goal.returns
unfolding order words added_back carried address_words sum_of checksum_of field_tests made zeroed opening acknowledged synchronized form_at formed with closed_of listen_of syn_sent_of received_of established_of seg_len bits sends syn_of syn_ack_of ack_of rst_of reply_reset at_closed at_listen wrong_ack syn_at_syn_sent at_syn_sent in_window outside reset_to ack_at_syn_received ack_at_established at_synchronized arrival_at ours endpoint_tests arrive_said octets_said carried_by stops_at header_checksum datagram_of datagrams_of heard_by heard answers output
returns c = (refl & tt, refl & refl & refl & refl & refl & refl & tt, refl & tt)

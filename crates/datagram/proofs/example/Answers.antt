use mathlib.Core.Path.{refl}
use Rattle.checksum.specs.Sum.{words, added_back, carried, address_words, sum_of, checksum_of}
use Rattle.segment.specs.Read.{field_tests}
use Rattle.segment.specs.Write.{made}
use Rattle.station.specs.Forms.{zeroed, form_at, formed, with, received_of}
use Rattle.station.specs.Sent.{bits, sends, syn_ack_of}
use Rattle.station.specs.Arrival.{at_listen, arrival_at, ours, endpoint_tests, octets_said}
use Rattle.datagram.specs.Layout.{carried_by, stops_at, header_checksum, datagram_of}
use Rattle.datagram.specs.Program.{datagrams_of, heard_by, heard, answers, output}
use Rattle.datagram.specs.Theorems.{example_input, example_output}
use Rattle.datagram.proofs.example.Goals as goal

-- the example is computed
pub returns : goal.returns
unfolding words added_back carried address_words sum_of checksum_of field_tests made zeroed form_at formed with received_of bits sends syn_ack_of at_listen arrival_at ours endpoint_tests octets_said carried_by stops_at header_checksum datagram_of datagrams_of heard_by heard answers output example_input example_output
returns c = record { whole = refl }

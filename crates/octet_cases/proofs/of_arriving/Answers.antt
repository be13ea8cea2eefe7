use mathlib.Core.Path.{refl}
use Rattle.checksum.specs.Sum.{words, added_back, carried, address_words, sum_of}
use Rattle.segment.specs.Read.{field_tests}
use Rattle.station.specs.Forms.{zeroed, form_at, formed, with, received_of}
use Rattle.station.specs.Sent.{bits, sends, syn_ack_of}
use Rattle.station.specs.Arrival.{at_listen, arrival_at, ours, endpoint_tests, octets_said}
use Rattle.examples.proofs.Each.{◌&◌}
use Rattle.octet_cases.proofs.of_arriving.Goals as goal

-- every case is computed
pub returns : goal.returns
unfolding words added_back carried address_words sum_of field_tests zeroed form_at formed with received_of bits sends syn_ack_of at_listen arrival_at ours endpoint_tests octets_said
returns c = refl & refl & refl & refl & refl & refl & refl & refl & refl & refl & tt

use mathlib.Core.Path.{refl}
use Rattle.checksum.specs.Sum.{words, added_back, carried, address_words, sum_of, checksum_of}
use Rattle.segment.specs.Write.{made, write_tests, write_said, write_leaves}
use Rattle.examples.proofs.Each.{◌&◌}
use Rattle.octet_cases.proofs.of_writing.Goals as goal

-- every case is computed
pub returns : goal.returns
unfolding words added_back carried address_words sum_of checksum_of made write_tests write_said write_leaves
returns c = (refl, refl) & (refl, refl) & (refl, refl) & (refl, refl) & (refl, refl) & tt

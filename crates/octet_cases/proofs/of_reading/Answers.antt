use mathlib.Core.Path.{refl}
use Rattle.checksum.specs.Sum.{words, added_back, carried, address_words, sum_of}
use Rattle.segment.specs.Read.{field_tests, read_tests, read_said}
use Rattle.examples.proofs.Each.{◌&◌}
use Rattle.octet_cases.specs.Octets.{longest}
use Rattle.examples.specs.Spelled.{AllHold}
use Rattle.octet_cases.proofs.of_reading.Goals as goal

-- by the length alone, and by octet 12
long : AllHold longest
unfolding field_tests read_tests read_said
long = (λ s h. simp h) & (λ s h t. simp (h, t)) & tt

-- every other case is computed
pub returns : goal.returns
unfolding words added_back carried address_words sum_of field_tests read_tests read_said
returns c = (
  refl & refl & refl & refl & refl & tt,
  refl & refl & refl & refl & refl & refl & refl & refl & refl & refl & tt,
  long,
)

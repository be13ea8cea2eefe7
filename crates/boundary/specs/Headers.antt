-- Header reads and writes in numbers (01, "Octets of a segment"; docs/DECISIONS.md, "The boundary in numbers").
use Rattle.std.specs.Prelude.{ℕ, ◌≡◌, List}
use Rattle.segment.specs.Read.{read_said}
use Rattle.segment.specs.Write.{write_said, write_leaves}
use Rattle.numbers.specs.Numbers.{header_of}
use Rattle.numbers.specs.declared.Header.{Header}
use Rattle.telling.specs.declared.Reading.{Reading}
use Rattle.telling.specs.Told.{reading_of, number_of}

-- a header read
abbrev pub read_told : ℕ → ℕ → List ℕ → Reading
read_told src dst octets = reading_of (read_said src dst octets)

-- the promise of a header write: its number, and the output at exit
pub record Written (src dst : ℕ) (c : Header) (before after : List ℕ) (r : ℕ) : Type 0 where
  pub answer : r ≡ number_of (write_said (header_of c) before)
  pub output : after ≡ write_leaves src dst (header_of c) before

-- The theorems of the program (01, "The program", "How far a contract must go").
use Rattle.std.specs.Prelude.{ℕ, ◌≤◌, ◌≡◌, List, [], ◌∷◌, ◌++◌, length, take}
use Rattle.datagram.specs.Program.{output}
use Rattle.datagram.specs.Promises.{Writes}

-- no answer is longer than the datagram that it answers, so 65,535 octets are room enough (01, "The program": "It reads up to 65,535 octets")
pub record NeverOutgrows : Type 0 where
  pub within : (s : List ℕ) → length (output s) ≤ length (take 65535 s)

-- an input cut anywhere gives a beginning of the output (01, "The program": "It stops at .. missing octets")
pub record CutShort : Type 0 where
  pub begins : (s : List ℕ) (n : ℕ) → (rest : List ℕ) × (output s ≡ output (take n s) ++ rest)

-- the promise of `run` leaves one outcome: the count and the octets at exit (01, "How far a contract must go")
pub record OneOutcome : Type 0 where
  pub running : (input before after after' : List ℕ) (r r' : ℕ)
      → Writes (output input) before after r → Writes (output input) before after' r' → (r ≡ r') × (after ≡ after')

-- "Input" (01, "The program")
unfoldable pub example_input : List ℕ
example_input =
    0x45 ∷ 0x00 ∷ 0x00 ∷ 0x28 ∷ 0x00 ∷ 0x00 ∷ 0x40 ∷ 0x00 ∷ 0x40 ∷ 0x06
    ∷ 0x26 ∷ 0xce ∷ 0x0a ∷ 0x00 ∷ 0x00 ∷ 0x01 ∷ 0x0a ∷ 0x00 ∷ 0x00 ∷ 0x02
    ∷ 0x04 ∷ 0x00 ∷ 0x07 ∷ 0xd0 ∷ 0x00 ∷ 0x00 ∷ 0x00 ∷ 0x64 ∷ 0x00 ∷ 0x00
    ∷ 0x00 ∷ 0x00 ∷ 0x50 ∷ 0x02 ∷ 0x10 ∷ 0x00 ∷ 0x7f ∷ 0xac ∷ 0x00 ∷ 0x00
    ∷ []

-- "Whole output"
unfoldable pub example_output : List ℕ
example_output =
    0x45 ∷ 0x00 ∷ 0x00 ∷ 0x28 ∷ 0x00 ∷ 0x00 ∷ 0x40 ∷ 0x00 ∷ 0x40 ∷ 0x06
    ∷ 0x26 ∷ 0xce ∷ 0x0a ∷ 0x00 ∷ 0x00 ∷ 0x02 ∷ 0x0a ∷ 0x00 ∷ 0x00 ∷ 0x01
    ∷ 0x07 ∷ 0xd0 ∷ 0x04 ∷ 0x00 ∷ 0x00 ∷ 0x01 ∷ 0x00 ∷ 0x00 ∷ 0x00 ∷ 0x00
    ∷ 0x00 ∷ 0x65 ∷ 0x50 ∷ 0x12 ∷ 0x10 ∷ 0x00 ∷ 0x7f ∷ 0x9a ∷ 0x00 ∷ 0x00
    ∷ []

-- 01's example
pub record Example : Type 0 where
  pub whole : output example_input ≡ example_output

-- The theorems of reading and writing (01, "Octets of a segment", its table of refusals, "How far a contract must go").
use Rattle.std.specs.Prelude.{ℕ, ◌*◌, ◌≤◌, ◌<◌, ◌≡◌, true, List, [], ◌∷◌, ◌++◌, ◌⊎◌, ◌↔◌, length, get_or, take, drop, Result}
use Rattle.checksum.specs.Sum.{at16, sum_of}
use Rattle.segment.specs.declared.Header.{Header}
use Rattle.segment.specs.declared.Segment.{Segment}
use Rattle.segment.specs.declared.Refusal.{Refusal}
use Rattle.segment.specs.Refusals.{refused, given, Row, row◌given_when◌, ByRows}
use Rattle.segment.specs.Octets.{fields_at, header_words, reserved}
use Rattle.segment.specs.Read.{text_length, fields_said, read_said, FieldsSay, ReadSays}
use Rattle.segment.specs.Write.{write_said, write_leaves, WriteSays}

-- "Reading what was written gives all fields again": as a header read, and as octets arriving
pub record ReadsBack : Type 0 where
  pub read : (src dst : ℕ) (h : Header) (out : List ℕ) → write_said h out ≡ given tt
      → read_said src dst (take 20 (write_leaves src dst h out)) ≡ given h
  pub arrives : (src dst : ℕ) (h : Header) (out : List ℕ) → write_said h out ≡ given tt
      → fields_said src dst (take 20 (write_leaves src dst h out)) ≡ given (record { header = h; src = src; dst = dst; text = 0 })

-- every number of a list is an octet
abbrev pub Octets : List ℕ → Type 0
Octets s = (i : ℕ) → get_or s i 0 < 256

-- "Writing what was read gives the same octets when the header has 20 octets, reserved bits zero, and the checksum is not 65,535"
pub record WritesBack : Type 0 where
  pub writes : (src dst : ℕ) (s : List ℕ) (h : Header) (out : List ℕ) → Octets s → read_said src dst s ≡ given h
      → header_words s ≡ 5 → reserved s ≡ 0 → (at16 s 16 ≡ 65535 → ⊥) → 20 ≤ length out
      → (write_said h out ≡ given tt) × (write_leaves src dst h out ≡ s ++ drop 20 out)

-- the table's rows 2, 3, 4
unfoldable pub field_rows : ℕ → ℕ → List ℕ → List Row
field_rows src dst s =
    row 2 given_when ((length s < 20) ⊎ (65515 < length s))
    ∷ row 3 given_when ((header_words s < 5) ⊎ (length s < header_words s * 4))
    ∷ row 4 given_when (sum_of src dst s ≡ 65535 → ⊥)
    ∷ []

-- "a header read 2, 3, 4, 6"
unfoldable pub read_rows : ℕ → ℕ → List ℕ → List Row
read_rows src dst s = field_rows src dst s ++ (row 6 given_when (((fields_at s).control.fin ≡ true) ⊎ (0 < text_length s)) ∷ [])

-- "a header write 6 (FIN on), then 10"
unfoldable pub write_rows : Header → List ℕ → List Row
write_rows h out =
    row 6 given_when (h.control.fin ≡ true)
    ∷ row 10 given_when (length out < 20)
    ∷ []

-- each refusal is given exactly when the table says, "None is given elsewhere or for another cause", and then the output is unchanged
pub record RefusalsExact : Type 0 where
  pub arriving : (src dst : ℕ) (s : List ℕ) (n : ℕ) → (fields_said src dst s ≡ refused n) ↔ ByRows (field_rows src dst s) n
  pub reading : (src dst : ℕ) (s : List ℕ) (n : ℕ) → (read_said src dst s ≡ refused n) ↔ ByRows (read_rows src dst s) n
  pub writing : (h : Header) (out : List ℕ) (n : ℕ) → (write_said h out ≡ refused n) ↔ ByRows (write_rows h out) n
  pub unchanged : (src dst : ℕ) (h : Header) (out : List ℕ) (n : ℕ) → write_said h out ≡ refused n → write_leaves src dst h out ≡ out

-- the promises leave one outcome (01, "How far a contract must go")
pub record OneOutcome : Type 0 where
  pub arriving : (src dst : ℕ) (s : List ℕ) (r r' : Result Segment Refusal) → FieldsSay src dst s r → FieldsSay src dst s r' → r ≡ r'
  pub reading : (src dst : ℕ) (s : List ℕ) (r r' : Result Header Refusal) → ReadSays src dst s r → ReadSays src dst s r' → r ≡ r'
  pub writing : (src dst : ℕ) (h : Header) (out o o' : List ℕ) (r r' : Result Unit Refusal)
      → WriteSays src dst h out o r → WriteSays src dst h out o' r' → (r ≡ r') × (o ≡ o')

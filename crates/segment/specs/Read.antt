-- Reading (01, "Octets of a segment"; its table, "a header read 2, 3, 4, 6; octets arriving at a station 1 to 6").
use Rattle.std.specs.Prelude.{ℕ, ◌-◌, ◌*◌, ◌≡◌, Bool, not, ◌||◌, List, [], ◌∷◌, ◌++◌, length, ltb, eqb, Result}
use Rattle.checksum.specs.Sum.{sum_of}
use Rattle.segment.specs.declared.Header.{Header}
use Rattle.segment.specs.declared.Segment.{Segment}
use Rattle.segment.specs.declared.Refusal.{Refusal}
use Rattle.segment.specs.Refusals.{Said, said, Test, refuse◌when◌, first_of}
use Rattle.segment.specs.Octets.{header_words, fields_at}

-- 2: "fewer than 20 or more than 65,515 octets"
abbrev pub size_wrong : List ℕ → Bool
size_wrong s = ltb (length s) 20 || ltb 65515 (length s)

-- 3: "header length below 5 words or beyond the octets"
abbrev pub header_length_wrong : List ℕ → Bool
header_length_wrong s = ltb (header_words s) 5 || ltb (length s) (header_words s * 4)

-- 4: "checksum wrong": "A reader accepts when the same sum with the checksum counted is 65,535"
abbrev pub checksum_wrong : ℕ → ℕ → List ℕ → Bool
checksum_wrong src dst s = not (eqb (sum_of src dst s) 65535)

-- 6: "FIN on, or text present"
abbrev pub fin_or_text : Segment → Bool
fin_or_text g = g.header.control.fin || ltb 0 g.text

-- the length of text: what stands behind the header, "option octets are skipped" (01, "The part of TCP we take first")
abbrev pub text_length : List ℕ → ℕ
text_length s = length s - header_words s * 4

-- the segment in octets between two addresses (01, "Two stations and their links": "a header's fields, two addresses and a length of text")
abbrev pub segment_at : ℕ → ℕ → List ℕ → Segment
segment_at src dst s = record { header = fields_at s; src = src; dst = dst; text = text_length s }

-- what octets arriving are tested for before their endpoints are
unfoldable pub field_tests : ℕ → ℕ → List ℕ → List Test
field_tests src dst s =
    refuse 2 when size_wrong s
    ∷ refuse 3 when header_length_wrong s
    ∷ refuse 4 when checksum_wrong src dst s
    ∷ []

-- "a header read 2, 3, 4, 6"
unfoldable pub read_tests : ℕ → ℕ → List ℕ → List Test
read_tests src dst s = field_tests src dst s ++ (refuse 6 when fin_or_text (segment_at src dst s) ∷ [])

-- what octets arriving are answered by, before 5 and 6
unfoldable pub fields_said : ℕ → ℕ → List ℕ → Said Segment
fields_said src dst s = first_of (field_tests src dst s) (segment_at src dst s)

-- what a header read is answered by
unfoldable pub read_said : ℕ → ℕ → List ℕ → Said Header
read_said src dst s = first_of (read_tests src dst s) (fields_at s)

-- the promise of `fields_with_text`
abbrev pub FieldsSay : ℕ → ℕ → List ℕ → Result Segment Refusal → Type 0
FieldsSay src dst s r = said r ≡ fields_said src dst s

-- the promise of `read`
abbrev pub ReadSays : ℕ → ℕ → List ℕ → Result Header Refusal → Type 0
ReadSays src dst s r = said r ≡ read_said src dst s

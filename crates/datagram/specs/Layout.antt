-- IPv4 datagrams (01, "The program"; RFC 791, 3.1).
use Rattle.std.specs.Prelude.{ℕ, ◌-◌, ◌*◌, ◌/◌, ◌%◌, Bool, not, ◌||◌, List, [], ◌∷◌, ◌++◌, length, get_or, take, drop, ltb, eqb}
use Rattle.checksum.specs.Sum.{words, carried, at16}
use Rattle.segment.specs.declared.Segment.{Segment}
use Rattle.segment.specs.Octets.{two, four, at32}
use Rattle.segment.specs.Write.{made}

-- Version, the high four bits of octet 0
abbrev pub version : List ℕ → ℕ
version s = get_or s 0 0 / 16

-- IHL in octets: the low four bits of octet 0 count words of 32 bits
abbrev pub header_size : List ℕ → ℕ
header_size s = get_or s 0 0 % 16 * 4

-- Total Length
abbrev pub total_size : List ℕ → ℕ
total_size s = at16 s 2

-- Protocol
abbrev pub protocol : List ℕ → ℕ
protocol s = get_or s 9 0

-- Source Address
abbrev pub source_address : List ℕ → ℕ
source_address s = at32 s 12

-- Destination Address
abbrev pub destination_address : List ℕ → ℕ
destination_address s = at32 s 16

-- what stands behind the header of a datagram, up to its total length
unfoldable pub carried_by : List ℕ → List ℕ
carried_by s = drop (header_size s) (take (total_size s) s)

-- "It stops at a version other than 4, an IP header length below 5 words, a total length below the header's or above 1,500, or missing octets"
unfoldable pub stops_at : List ℕ → Bool
stops_at s =
    not (eqb (version s) 4) || ltb (header_size s) 20
    || ltb (total_size s) (header_size s) || ltb 1500 (total_size s)
    || ltb (length s) (total_size s)

-- the header of a datagram of 40 octets with a header checksum: version 4, 5 words, "type 0, identification 0, DF on, TTL 64", protocol 6
abbrev pub header_with : Segment → ℕ → List ℕ
header_with g check =
    0x45 ∷ 0 ∷ two 40 ++ two 0 ++ two 0x4000 ++ (64 ∷ 6 ∷ []) ++ two check ++ four g.src ++ four g.dst

-- ".. checksum": 65,535 minus the sum of the header's words, with the checksum as zero (RFC 791, 3.1, "Header Checksum")
unfoldable pub header_checksum : Segment → ℕ
header_checksum g = 65535 - carried (words (header_with g 0))

-- "Each sent segment is written as a datagram"
unfoldable pub datagram_of : Segment → List ℕ
datagram_of g = header_with g (header_checksum g) ++ made g.src g.dst g.header

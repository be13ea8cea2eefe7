-- Links (01, "Two stations and their links": "Each link holds up to 32 segments in the order sent").
use Rattle.std.specs.Prelude.{ℕ, ◌+◌, ◌-◌, Bool, false, not, List, [], ◌∷◌, ◌++◌, ltb, get_or, set, take, drop}
use Rattle.segment.specs.declared.Segment.{Segment}
use Rattle.station.specs.Sent.{bits}
use Rattle.model.specs.declared.Link.{Link}

-- the segments on a link
unfoldable pub held : Link → List Segment
held l = take l.count l.slots

-- what a slot that is cleared has: every field zero
unfoldable pub blank : Segment
blank = record {
  header = record { source = 0; destination = 0; seq = 0; ack = 0; control = bits false false false; window = 0; urgent = 0 };
  src = 0;
  dst = 0;
  text = 0;
}

-- "up to 32 segments"
unfoldable pub full : Link → Bool
full l = not (ltb l.count 32)

-- whether there is a place n: "places counted from 0"
unfoldable pub has_place : Link → ℕ → Bool
has_place l n = ltb n l.count

-- the segment at place n
unfoldable pub at_place : Link → ℕ → Segment
at_place l n = get_or l.slots n blank

-- one segment more, at the end
unfoldable pub pushed : Link → Segment → Link
pushed l g = record { slots = set l.slots l.count g; count = l.count + 1 }

-- place n "leaves the link, those behind move up"; the last slot is cleared
unfoldable pub removed : Link → ℕ → Link
removed l n = record { slots = take n l.slots ++ drop (n + 1) l.slots ++ (blank ∷ []); count = l.count - 1 }

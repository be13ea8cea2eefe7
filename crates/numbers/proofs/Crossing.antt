-- What crosses the boundary comes back. Assumes nothing.
use Prim.Native.Nat.{ℕ, zero, suc, ◌<◌}
use mathlib.Core.Path.{◌≡◌, refl}
use mathlib.Core.Bool.{Bool, true, false, ◌&&◌}
use mathlib.Core.List.{List, [], ◌∷◌, map}
use native.Mathlib.Omega.{arith}
use lib.Dec.{eqb, ltb}
use Rattle.std.proofs.Common.{rules}
use Rattle.segment.specs.declared.Segment.{Segment as SegmentSegment}
use Rattle.segment.proofs.Places.{octet_again, control_again}
use Rattle.station.specs.declared.State.{State}
use Rattle.station.specs.declared.State.TheVariants.{Closed, Listen, SynSent, SynReceived, Established}
use Rattle.station.specs.declared.Station.{Station}
use Rattle.station.specs.Forms.{place}
use Rattle.model.specs.declared.Link.{Link as ModelLink}
use Rattle.model.specs.declared.Model.{Model as ModelModel}
use Rattle.std.proofs.lemmas.Bool.{and_parts}
use Rattle.numbers.specs.Numbers.{bit_of, state_of, known, station_of, record_of, header_of, header_numbers, segment_of, segment_numbers}
use Rattle.numbers.specs.Links.{link_of, link_numbers, both_known, model_of, model_numbers}
use Rattle.numbers.specs.Theorems.{Controls, CrossesBack, Examples}
use Rattle.numbers.specs.declared.Record.{Record}
use Rattle.numbers.specs.declared.Segment.{Segment}
use Rattle.numbers.specs.declared.Link.{Link}
use Rattle.numbers.specs.declared.Model.{Model}

station_again : (s : Station) → (known (record_of s) ≡ true) × (station_of (record_of s) ≡ s)
unfolding known station_of record_of state_of
station_again s = search rules

numbers_again : (c : Record) → known c ≡ true → record_of (station_of c) ≡ c
unfolding known station_of record_of state_of
numbers_again c e = search rules

segment_again : (g : SegmentSegment) → segment_of (segment_numbers g) ≡ g
unfolding segment_of segment_numbers header_of header_numbers
segment_again g = rw (control_again g.header.control)

segments_again : (c : Segment) → c.header.control < 256 → segment_numbers (segment_of c) ≡ c
unfolding segment_of segment_numbers header_of header_numbers
segments_again c h = rw (octet_again c.header.control h)

-- ---- links, slot by slot

slots_again : (gs : List SegmentSegment) → map segment_of (map segment_numbers gs) ≡ gs
slots_again [] = refl
slots_again (g ∷ gs) = λ i. segment_again g i ∷ slots_again gs i

slot_numbers_again : (cs : List Segment) → Controls cs → map segment_numbers (map segment_of cs) ≡ cs
slot_numbers_again [] o = refl
slot_numbers_again (c ∷ cs) o = λ i. segments_again c o.0 i ∷ slot_numbers_again cs o.1 i

link_again : (l : ModelLink) → link_of (link_numbers l) ≡ l
unfolding link_of link_numbers
link_again l = rw (slots_again l.slots)

links_again : (c : Link) → Controls c.slots → link_numbers (link_of c) ≡ c
unfolding link_of link_numbers
links_again c o = rw (slot_numbers_again c.slots o)

-- ---- models

model_again : (m : ModelModel) → (both_known (model_numbers m) ≡ true) × (model_of (model_numbers m) ≡ m)
unfolding both_known model_of model_numbers
model_again m =
    let a = station_again m.a in
    let b = station_again m.b in
    (rw (a.0, b.0), rw (a.1, b.1, link_again m.toa, link_again m.tob))

models_again : (c : Model) → both_known c ≡ true → Controls c.toa.slots → Controls c.tob.slots → model_numbers (model_of c) ≡ c
unfolding both_known model_of model_numbers
models_again c e o p =
    let k = and_parts (known c.a) (known c.b) e in
    rw (numbers_again c.a k.0, numbers_again c.b k.1, links_again c.toa o, links_again c.tob p)

pub crosses_back : CrossesBack
crosses_back = record {
  station = station_again;
  numbers = numbers_again;
  segment = segment_again;
  segments = segments_again;
  link = link_again;
  links = links_again;
  model = model_again;
  models = models_again;
}

-- ---- examples, computed

pub examples : Examples
unfolding state_of station_of known header_of segment_of link_of model_of
examples = search rules

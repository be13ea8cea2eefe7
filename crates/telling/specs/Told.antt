-- What is told in numbers (docs/DECISIONS.md, "The boundary in numbers").
use Rattle.std.specs.Prelude.{ℕ, List, [], ◌∷◌, length, Result}
use Rattle.segment.specs.declared.Header.{Header as SegmentHeader}
use Rattle.segment.specs.declared.Segment.{Segment as SegmentSegment}
use Rattle.segment.specs.declared.Refusal.{Refusal}
use Rattle.segment.specs.Refusals.{Said, refused, given, said_as}
use Rattle.station.specs.Outcomes.{Step, segments}
use Rattle.model.specs.declared.Model.{Model as ModelModel}
use Rattle.model.specs.declared.Told.{Told as ModelTold}
use Rattle.model.specs.declared.Totals.{Totals}
use Rattle.model.specs.Step.{Moved}
use Rattle.model.specs.Play.{Run}
use Rattle.numbers.specs.declared.Record.{Record}
use Rattle.numbers.specs.declared.Header.{Header}
use Rattle.numbers.specs.declared.Segment.{Segment}
use Rattle.numbers.specs.declared.Model.{Model}
use Rattle.numbers.specs.Numbers.{bit_of, record_of, header_numbers, segment_numbers}
use Rattle.numbers.specs.Links.{model_numbers}
use Rattle.telling.specs.declared.Told.{Told}
use Rattle.telling.specs.declared.Reading.{Reading}
use Rattle.telling.specs.declared.Stepped.{Stepped}
use Rattle.telling.specs.declared.Played.{Played}

-- no header: every number zero
unfoldable pub no_header : Header
no_header = record { seq = 0; ack = 0; source = 0; destination = 0; window = 0; urgent = 0; control = 0 }

-- no segment: every number zero
unfoldable pub no_segment : Segment
no_segment = record { header = no_header; src = 0; dst = 0; text = 0 }

-- the segment sent, or zero
abbrev pub sent_numbers : List SegmentSegment → Segment
sent_numbers [] = no_segment
sent_numbers (g ∷ gs) = segment_numbers g

-- what is told of a step: after a refusal its number alone, and the record that came in
abbrev pub told_of : Record → Said Step → Told
told_of c (refused n) = record { next = c; segment = no_segment; refusal = n; sent = 0; drawn = 0 }
told_of c (given step) = record {
  next = record_of step.next;
  segment = sent_numbers step.sent;
  refusal = 0;
  sent = length step.sent;
  drawn = bit_of step.drawn;
}

-- what is told of a header read: its fields, or its number alone
abbrev pub reading_of : Said SegmentHeader → Reading
reading_of (refused n) = record { header = no_header; refusal = n }
reading_of (given h) = record { header = header_numbers h; refusal = 0 }

-- the number of an answer without values: 0 for no refusal
abbrev pub number_of : Said Unit → ℕ
number_of (refused n) = n
number_of (given x) = 0

-- what is told of an event: after a refusal its number alone, and the model that came in
abbrev pub stepped_of : Model → Said Moved → Stepped
stepped_of m (refused n) = record { model = m; segment = no_segment; refusal = n; sent = 0; drawn = 0; turned = 0 }
stepped_of m (given moved) = record {
  model = model_numbers moved.model;
  segment = sent_numbers moved.sent;
  refusal = 0;
  sent = length moved.sent;
  drawn = bit_of moved.drawn;
  turned = bit_of moved.turned;
}

-- the number and values of an event's answer, with the model beside it
abbrev pub answer_of : ModelModel → Result ModelTold Refusal → Said Moved
answer_of m r = said_as (λ t. record { model = m; sent = segments t.sent; drawn = t.drawn; turned = t.turned }) r

-- what is told of a list: after a refusal its number alone, and the model that came in
abbrev pub played_of : Model → Said Run → Played
played_of m (refused n) = record { model = m; taken = 0; refused = 0; turned = 0; refusal = n }
played_of m (given run) = record {
  model = model_numbers run.model;
  taken = run.totals.taken;
  refused = run.totals.refused;
  turned = run.totals.turned;
  refusal = 0;
}

-- the number and values of a player's report, with the model beside it
abbrev pub report_of : ModelModel → Result Totals Refusal → Said Run
report_of m r = said_as (λ t. record { model = m; totals = t }) r

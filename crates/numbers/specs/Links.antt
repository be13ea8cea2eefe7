-- Links and models as structs of numbers (01, "Two stations and their links"; docs/DECISIONS.md, "The boundary in numbers").
use Rattle.std.specs.Prelude.{Bool, ◌&&◌, map}
use Rattle.model.specs.declared.Link.{Link as ModelLink}
use Rattle.model.specs.declared.Model.{Model as ModelModel}
use Rattle.numbers.specs.Numbers.{known, station_of, record_of, segment_of, segment_numbers}
use Rattle.numbers.specs.declared.Link.{Link}
use Rattle.numbers.specs.declared.Model.{Model}

-- the link of one in numbers
unfoldable pub link_of : Link → ModelLink
link_of l = record { slots = map segment_of l.slots; count = l.count }

-- a link in numbers
unfoldable pub link_numbers : ModelLink → Link
link_numbers l = record { slots = map segment_numbers l.slots; count = l.count }

-- whether both records' states and marks are numbers that name one
unfoldable pub both_known : Model → Bool
both_known m = known m.a && known m.b

-- the model of one in numbers
unfoldable pub model_of : Model → ModelModel
model_of m = record { a = station_of m.a; b = station_of m.b; toa = link_of m.toa; tob = link_of m.tob }

-- a model in numbers
unfoldable pub model_numbers : ModelModel → Model
model_numbers m = record { a = record_of m.a; b = record_of m.b; toa = link_numbers m.toa; tob = link_numbers m.tob }

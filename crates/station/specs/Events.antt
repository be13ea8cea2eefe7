-- Events at one station (01, "Calls and power": "Each event is one of a few kinds, some with a number or a whole segment").
use Rattle.segment.specs.Refusals.{Said}
use Rattle.station.specs.Outcomes.{Step}
use Rattle.station.specs.Calls.{open_said, listen_said, abort_said, resend_said, power_cut_said}
use Rattle.station.specs.Arrival.{arrive_said}
use Rattle.station.specs.declared.Station.{Station}
use Rattle.station.specs.declared.Event.{Event}
use Rattle.station.specs.declared.Event.TheVariants.{Open, Listen, Abort, Resend, PowerCut, Arrive}

-- each event is its call
unfoldable pub event_said : Station → Event → Said Step
event_said s (Open n) = open_said s n
event_said s Listen = listen_said s
event_said s Abort = abort_said s
event_said s Resend = resend_said s
event_said s PowerCut = power_cut_said s
event_said s (Arrive g fresh) = arrive_said s g fresh

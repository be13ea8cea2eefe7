-- A case for every line of 01, "Calls and power", in every state and with both marks; the refusals 7 and 8 (01's table).
use Rattle.std.specs.Prelude.{List, [], ◌∷◌, true, false}
use Rattle.segment.specs.Refusals.{refused}
use Rattle.station.specs.declared.State.TheVariants.{SynSent}
use Rattle.station.specs.declared.Event.TheVariants.{Open, Listen, Abort, Resend, PowerCut}
use Rattle.examples.specs.Spelled.{SYN, SYN_ACK, RST, step, AllHold}
use Rattle.cases.specs.Station.{at, marked, unmarked, closed, listening, syn_sent, received, established, says, ◌on◌gives◌}

-- "Open (with a number): from CLOSED or LISTEN to SYN-SENT; send SYN", the number is drawn; 7 from elsewhere
abbrev pub opens : List (Type 0)
opens =
    (Open 7000 on closed gives step syn_sent (says SYN 7000 0 1000 ∷ []) true)
    ∷ (Open 7000 on listening gives step syn_sent (says SYN 7000 0 1000 ∷ []) true)
    ∷ (Open 4294967295 on closed gives step (at SynSent unmarked 4294967295 4294967295 0 0 0) (says SYN 4294967295 0 1000 ∷ []) true)
    ∷ (Open 8000 on syn_sent gives refused 7)
    ∷ (Open 8000 on received marked gives refused 7)
    ∷ (Open 8000 on received unmarked gives refused 7)
    ∷ (Open 8000 on established marked gives refused 7)
    ∷ (Open 8000 on established unmarked gives refused 7)
    ∷ []

-- "Listen: from CLOSED to LISTEN"; 7 from elsewhere
abbrev pub listens : List (Type 0)
listens =
    (Listen on closed gives step listening [] false)
    ∷ (Listen on listening gives refused 7)
    ∷ (Listen on syn_sent gives refused 7)
    ∷ (Listen on received marked gives refused 7)
    ∷ (Listen on received unmarked gives refused 7)
    ∷ (Listen on established marked gives refused 7)
    ∷ (Listen on established unmarked gives refused 7)
    ∷ []

-- "Abort: LISTEN and SYN-SENT to CLOSED, nothing sent; SYN-RECEIVED and ESTABLISHED send RST with sequence NXT, then CLOSED"; 8 in CLOSED
abbrev pub aborts : List (Type 0)
aborts =
    (Abort on closed gives refused 8)
    ∷ (Abort on listening gives step closed [] false)
    ∷ (Abort on syn_sent gives step closed [] false)
    ∷ (Abort on received marked gives step closed (says RST 7001 0 0 ∷ []) false)
    ∷ (Abort on received unmarked gives step closed (says RST 7001 0 0 ∷ []) false)
    ∷ (Abort on established marked gives step closed (says RST 7001 0 0 ∷ []) false)
    ∷ (Abort on established unmarked gives step closed (says RST 7001 0 0 ∷ []) false)
    ∷ []

-- "Resend: SYN-SENT sends its SYN, SYN-RECEIVED its SYN,ACK; the record stays"; 8 outside these
abbrev pub resends : List (Type 0)
resends =
    (Resend on closed gives refused 8)
    ∷ (Resend on listening gives refused 8)
    ∷ (Resend on syn_sent gives step syn_sent (says SYN 7000 0 1000 ∷ []) false)
    ∷ (Resend on received marked gives step (received marked) (says SYN_ACK 7000 90001 1000 ∷ []) false)
    ∷ (Resend on received unmarked gives step (received unmarked) (says SYN_ACK 7000 90001 1000 ∷ []) false)
    ∷ (Resend on established marked gives refused 8)
    ∷ (Resend on established unmarked gives refused 8)
    ∷ []

-- "Power cut: any state to CLOSED, nothing sent; endpoints and window stay"
abbrev pub power_cuts : List (Type 0)
power_cuts =
    (PowerCut on closed gives step closed [] false)
    ∷ (PowerCut on listening gives step closed [] false)
    ∷ (PowerCut on syn_sent gives step closed [] false)
    ∷ (PowerCut on received marked gives step closed [] false)
    ∷ (PowerCut on received unmarked gives step closed [] false)
    ∷ (PowerCut on established marked gives step closed [] false)
    ∷ (PowerCut on established unmarked gives step closed [] false)
    ∷ []

-- the calls and the power cut
abbrev pub Calls : Type 0
Calls = AllHold opens × AllHold listens × AllHold aborts × AllHold resends × AllHold power_cuts

-- The calls and the power cut (01, "Calls and power"; RFC 9293, 3.10.1 and 3.10.5).
use Rattle.std.specs.Prelude.{ℕ, Bool, not, ◌||◌, [], ◌∷◌}
use Rattle.segment.specs.Refusals.{Said, Test, refuse◌when◌, first_of}
use Rattle.station.specs.Forms.{if◌then◌else◌, is, formed, closed_of, listen_of, syn_sent_of}
use Rattle.station.specs.Sent.{syn_of, syn_ack_of, rst_of}
use Rattle.station.specs.Outcomes.{Step, quiet, sending, drawing}
use Rattle.station.specs.declared.State.TheVariants.{Closed, Listen, SynSent, SynReceived, Established}
use Rattle.station.specs.declared.Station.{Station}

-- 1: "record not of the forms above"
abbrev pub bad_record : Station → Test
bad_record s = refuse 1 when not (formed s)

-- "Open (with a number): from CLOSED or LISTEN"
unfoldable pub may_open : Station → Bool
may_open s = is Closed s || is Listen s

-- ".. to SYN-SENT; send SYN"; the number is drawn
unfoldable pub open_step : Station → ℕ → Step
open_step s n = drawing (syn_sent_of s n) (syn_of (syn_sent_of s n))

-- open: 1, 7
unfoldable pub open_said : Station → ℕ → Said Step
open_said s n = first_of (bad_record s ∷ refuse 7 when not (may_open s) ∷ []) (open_step s n)

-- "Listen: from CLOSED to LISTEN": 1, 7
unfoldable pub listen_said : Station → Said Step
listen_said s = first_of (bad_record s ∷ refuse 7 when not (is Closed s) ∷ []) (quiet (listen_of s))

-- "Abort: LISTEN and SYN-SENT to CLOSED, nothing sent; SYN-RECEIVED and ESTABLISHED send RST with sequence NXT, then CLOSED"
unfoldable pub abort_step : Station → Step
abort_step s =
    if is SynReceived s || is Established s then sending (closed_of s) (rst_of s s.nxt) else
    quiet (closed_of s)

-- abort: 1, 8
unfoldable pub abort_said : Station → Said Step
abort_said s = first_of (bad_record s ∷ refuse 8 when is Closed s ∷ []) (abort_step s)

-- resend is for SYN-SENT and SYN-RECEIVED
unfoldable pub may_resend : Station → Bool
may_resend s = is SynSent s || is SynReceived s

-- "Resend: SYN-SENT sends its SYN, SYN-RECEIVED its SYN,ACK; the record stays"
unfoldable pub resend_step : Station → Step
resend_step s =
    if is SynSent s then sending s (syn_of s) else
    sending s (syn_ack_of s)

-- resend: 1, 8
unfoldable pub resend_said : Station → Said Step
resend_said s = first_of (bad_record s ∷ refuse 8 when not (may_resend s) ∷ []) (resend_step s)

-- "Power cut: any state to CLOSED, nothing sent; endpoints and window stay": 1
unfoldable pub power_cut_said : Station → Said Step
power_cut_said s = first_of (bad_record s ∷ []) (quiet (closed_of s))

-- The runs, computed. Assumes nothing.
use Prim.Native.Nat.{ℕ, ◌<◌, ◌≤◌, ◌^◌}
use mathlib.Core.Path.{◌≡◌, refl, sym, ap, ◌∙◌}
use mathlib.Core.Bool.{true}
use mathlib.Core.List.{List, [], ◌∷◌}
use native.Mathlib.Omega.{arith}
use lib.ListN.{length}
use Rattle.seq.specs.Seq.{order}
use Rattle.station.specs.Forms.{zeroed, opening, acknowledged, synchronized, form_at, formed, with, closed_of, listen_of, syn_sent_of, received_of, established_of}
use Rattle.station.specs.Sent.{seg_len, bits, sends, syn_of, syn_ack_of, ack_of, rst_of, reply_reset}
use Rattle.station.specs.Calls.{may_open, open_step, open_said, listen_said, abort_step, abort_said, may_resend, resend_step, resend_said, power_cut_said}
use Rattle.station.specs.Arrival.{at_closed, at_listen, wrong_ack, syn_at_syn_sent, at_syn_sent, in_window, outside, reset_to, ack_at_syn_received, ack_at_established, at_synchronized, arrival_at, ours, endpoint_tests, arrive_said}
use Rattle.station.specs.Events.{event_said}
use Rattle.model.specs.Links.{held, blank, full, has_place, at_place, pushed, removed}
use Rattle.model.specs.Step.{station_of, toward, with_station, with_toward, mirrored, sound, posted, moved, delivered, copied, lost, applied, step_said}
use Rattle.model.specs.Play.{counted, run, begun, play_said}
use Rattle.station.specs.declared.State.TheVariants as State
use Rattle.model.specs.declared.Side.TheVariants.{A}
use Rattle.model.specs.declared.Event.{Event}
use Rattle.opening.specs.History.{Start, played_all, events_of, drawn_at, draws, ApartBy, SpacedBy, spacing}
use Rattle.opening.specs.Statement.{HistoryBy, Agree, Ready}
use Rattle.opening.specs.Runs.{barn, End, Shows, established, PlainShows, CrossingShows, RecoveryShows, plain, cut, crowded, EdgeShows, ReachableExists, NearShows, InsideShows, too_near, TooNearShows, SpacingIsNeeded, StoryShows, Incident}
use Rattle.opening.proofs.Sides.{by_side}

-- just before the nine steps at the edge: A established, B closed, and 31 segments on each link
abbrev CrowdedShows : Type 0
CrowdedShows =
    Shows 65535 (crowded ∷ []) (65536 ∷ []) (4294967295 ∷ []) (established 65536 4294967295) (record { state = State.Closed; iss = 0; irs = 0 })
    × (length (held (played_all (barn 65535) (crowded ∷ [])).toa) ≡ 31)
    × (length (held (played_all (barn 65535) (crowded ∷ [])).tob) ≡ 31)

-- every run, by computation
computed : PlainShows × CrossingShows × RecoveryShows × CrowdedShows × EdgeShows × NearShows × InsideShows × TooNearShows × StoryShows
unfolding order zeroed opening acknowledged synchronized form_at formed with closed_of listen_of syn_sent_of received_of established_of seg_len bits sends syn_of syn_ack_of ack_of rst_of reply_reset may_open open_step open_said listen_said abort_step abort_said may_resend resend_step resend_said power_cut_said at_closed at_listen wrong_ack syn_at_syn_sent at_syn_sent in_window outside reset_to ack_at_syn_received ack_at_established at_synchronized arrival_at ours endpoint_tests arrive_said event_said held blank full has_place at_place pushed removed station_of toward with_station with_toward mirrored sound posted moved delivered copied lost applied step_said counted run begun play_said played_all events_of drawn_at draws
computed = (
  record { drawna = refl; drawnb = refl; enda = refl; endb = refl },
  record { drawna = refl; drawnb = refl; enda = refl; endb = refl },
  record { drawna = refl; drawnb = refl; enda = refl; endb = refl },
  (record { drawna = refl; drawnb = refl; enda = refl; endb = refl }, refl, refl),
  record { drawna = refl; drawnb = refl; enda = refl; endb = refl },
  record { drawna = refl; drawnb = refl; enda = refl; endb = refl },
  record { drawna = refl; drawnb = refl; enda = refl; endb = refl },
  record { drawna = refl; drawnb = refl; enda = refl; endb = refl },
  record { drawna = refl; drawnb = refl; enda = refl; endb = refl },
)

-- ---- disagreement

-- both established, and A holding another number than B's: no agreement
disagree : (w : ℕ) (lists : List (List Event)) (da db : List ℕ) (i r j k : ℕ) → Shows w lists da db (established i r) (established j k)
    → ((r ≡ j) × (k ≡ i) → ⊥) → Agree (barn w) lists → ⊥
disagree w lists da db i r j k s apart a =
    let both = a.both (ap (λ (e : End). e.state) s.enda) (ap (λ (e : End). e.state) s.endb) in
    apart (
      sym (ap (λ (e : End). e.irs) s.enda) ∙ both.0 ∙ ap (λ (e : End). e.iss) s.endb,
      sym (ap (λ (e : End). e.irs) s.endb) ∙ both.1 ∙ ap (λ (e : End). e.iss) s.enda,
    )

pub incident : Incident
incident = record { ends = computed.8; disagrees = disagree _ _ _ _ _ _ _ _ computed.8 (λ e. omega arith) }

-- ---- histories

starts : (w : ℕ) → sound (barn w) ≡ true → w ≤ 65535 → Start (barn w)
unfolding station_of
starts w good small = record {
  sound = good;
  closed = by_side _ refl refl;
  windows = by_side _ (omega arith) (omega arith);
  emptya = refl;
  emptyb = refl;
  slotsa = refl;
  slotsb = refl;
}

usual : Start (barn 4096)
unfolding zeroed form_at formed mirrored sound
usual = starts 4096 refl (omega arith)

widest : Start (barn 65535)
unfolding zeroed form_at formed mirrored sound
widest = starts 65535 refl (omega arith)

-- lists that show spaced numbers are a history
history : (γ w : ℕ) (lists : List (List Event)) (da db : List ℕ) (a b : End) → Start (barn w) → Shows w lists da db a b
    → SpacedBy γ da → SpacedBy γ db → HistoryBy γ (barn w) lists × Shows w lists da db a b
history γ w lists da db a b start s pa pb = (record { start = start; spaced = by_side _ (rw s.drawna pa) (rw s.drawnb pb) }, s)

alone : (γ n : ℕ) → n < 2 ^ 32 → SpacedBy γ (n ∷ [])
alone γ n h = (h, tt, tt)

pair : (γ m n : ℕ) → m < 2 ^ 32 → n < 2 ^ 32 → ApartBy γ m n → SpacedBy γ (m ∷ n ∷ [])
pair γ m n h k apart = (h, (apart, tt), alone γ n k)

-- ---- the hypotheses can be met

-- B's numbers at the edge, and A's
forwards : SpacedBy spacing (4294967295 ∷ 65535 ∷ [])
forwards = pair _ 4294967295 65535 (omega arith) (omega arith) (omega arith, omega arith)

backwards : SpacedBy spacing (65536 ∷ 0 ∷ [])
backwards = pair _ 65536 0 (omega arith) (omega arith) (omega arith, omega arith)

ready : Ready (barn 65535) (crowded ∷ []) A 65535 0
unfolding station_of toward
ready =
    let s = computed.3.0 in
    record {
      history = (history spacing _ _ _ _ _ _ widest s (alone spacing 65536 (omega arith)) (alone spacing 4294967295 (omega arith))).0;
      established = ap (λ (e : End). e.state) s.enda;
      closed = ap (λ (e : End). e.state) s.endb;
      room = by_side _ (omega (arith, computed.3.1)) (omega (arith, computed.3.2));
      spacedn = rw s.drawnb forwards;
      spacedk = rw s.drawna backwards;
    }

pub reachable_exists : ReachableExists
reachable_exists = record {
  plainly = history _ _ _ _ _ _ _ usual computed.0 (alone spacing 200000 (omega arith)) (alone spacing 100 (omega arith));
  crossed = history _ _ _ _ _ _ _ usual computed.1 (alone spacing 100000 (omega arith)) (alone spacing 300000 (omega arith));
  recovered =
      history _ _ _ _ _ _ _ usual computed.2
      (pair _ 200000 600000 (omega arith) (omega arith) (omega arith, omega arith))
      (pair _ 100 400000 (omega arith) (omega arith) (omega arith, omega arith));
  ready = ready;
  edge = history _ _ _ _ _ _ _ widest computed.4 backwards forwards;
}

-- ---- the spacing is needed

pub spacing_is_needed : SpacingIsNeeded
unfolding station_of
spacing_is_needed = record {
  distinct = computed.5;
  disagrees = disagree _ _ _ _ _ _ _ _ computed.5 (λ e. omega arith);
  spaced =
      history _ _ _ _ _ _ _ widest computed.6
      (pair _ 100000 165534 (omega arith) (omega arith) (omega arith, omega arith))
      (pair _ 265534 200000 (omega arith) (omega arith) (omega arith, omega arith));
  breaks = disagree _ _ _ _ _ _ _ _ computed.6 (λ e. omega arith);
  sharp = (record { history = spaced_by_the_window; windows = by_side _ (omega arith) (omega arith) }, computed.7);
}
  where
    spaced_by_the_window : HistoryBy 65535 (barn 65535) (plain ∷ cut ∷ too_near ∷ [])
    spaced_by_the_window =
        (history 65535 _ _ _ _ _ _ widest computed.7 (alone 65535 200000 (omega arith))
        (pair 65535 100 65635 (omega arith) (omega arith) (omega arith, omega arith))).0

-- Every event that a station takes upholds the invariant. Assumes a spacing that is no less than the window.
use Prim.Native.Nat.{ℕ, ◌<◌, ◌≤◌, ◌^◌}
use mathlib.Core.Path.{◌≡◌, refl, sym, ◌∙◌, subst}
use mathlib.Core.Bool.{true, false, not, ◌&&◌, ◌||◌, true≢false, false≢true}
use mathlib.Core.List.Memᴰ
use mathlib.Core.List.{[], ◌∷◌}
use native.Mathlib.Omega.{arith}
use lib.Dec.{eqb}
use borrow.Author.Tests.{eqb-true, ltb-true, not-false}
use Rattle.seq.specs.Seq.{plus, minus, order}
use Rattle.segment.specs.declared.Segment.{Segment}
use Rattle.segment.specs.Refusals.{given}
use Rattle.segment.proofs.Tests.{AllOff, all_off}
use Rattle.station.specs.Forms.{is, formed, with, closed_of, listen_of, syn_sent_of, received_of, established_of}
use Rattle.station.specs.Sent.{has_ack, has_rst, has_syn, seg_seq, seg_ack, bits, sends, syn_of, syn_ack_of, ack_of, rst_of, reply_reset}
use Rattle.station.specs.Outcomes.{Step, quiet, sending, drawing}
use Rattle.station.specs.Calls.{bad_record, may_resend, open_step, abort_step, resend_step}
use Rattle.station.specs.Arrival.{at_closed, at_listen, wrong_ack, syn_at_syn_sent, at_syn_sent, in_window, outside, reset_to, ack_at_syn_received, is_later, ack_at_established, at_synchronized, arrival_at}
use Rattle.station.specs.Events.{event_said}
use Rattle.station.specs.declared.State.{State}
use Rattle.station.specs.declared.State.TheVariants.{Closed, Listen, SynSent, SynReceived, Established}
use Rattle.station.specs.declared.Station.{Station}
use Rattle.station.specs.declared.Event.{Event}
use Rattle.station.proofs.Uniform.{event_tests, event_step, event_first, event_past}
use Rattle.station.proofs.Exact.{is_state}
use Rattle.station.proofs.Keeps.{by_case}
use Rattle.opening.specs.History.{SpacedBy}
use Rattle.opening.proofs.Checks.{second_off, second_on}
use Rattle.opening.proofs.Forms.{Synchronized, received_form, established_form}
use Rattle.opening.proofs.Circle.{one_more, minus_next}
use Rattle.opening.proofs.Numbers.{spaced_lt, spaced_near, spaced_new, onto, Newest}
use Rattle.opening.proofs.Logs.{Log, Drew, Held, plus_draw, plus_pair, Logs, newest_drew, drawn_ok, paired_ok}
use Rattle.opening.proofs.Invariant.{StationOk, SegmentOk, numbers, Upheld, rest}

-- ---- what a station sends

reset_ok : (l : Log) (g : Segment) → has_rst g ≡ true → SegmentOk l g
reset_ok l g e = record {
  of_syn = λ n _. absurd (true≢false (sym e ∙ n));
  of_synack = λ n _ _. absurd (true≢false (sym e ∙ n));
  of_ack = λ n _ _. absurd (true≢false (sym e ∙ n));
}

reply_ok : (l : Log) (s : Station) (g : Segment) → SegmentOk l (reply_reset s g)
unfolding reply_reset rst_of sends bits
reply_ok l s g = by_case (SegmentOk l) (has_ack g) (λ _. reset_ok l _ refl) (λ _. reset_ok l _ refl)

syn_ok : (l : Log) (s : Station) → Drew l s.iss → SegmentOk l (syn_of s)
unfolding syn_of sends bits
syn_ok l s h = record { of_syn = λ _ _. h; of_synack = λ _ _ n. absurd (false≢true n); of_ack = λ _ n _. absurd (true≢false n) }

synack_ok : (l : Log) (s : Station) → s.rcvnxt ≡ plus s.irs 1 → Drew l s.iss → Held l s.iss s.irs → SegmentOk l (syn_ack_of s)
unfolding syn_ack_of sends bits
synack_ok l s e h k = record { of_syn = λ _ _. h; of_synack = λ _ _ _. (s.irs, e, k); of_ack = λ _ n _. absurd (true≢false n) }

ack_ok : (l : Log) (s : Station) → s.nxt ≡ plus s.iss 1 → s.rcvnxt ≡ plus s.irs 1 → Held l s.iss s.irs → SegmentOk l (ack_of s)
unfolding ack_of sends bits
ack_ok l s n e k = record {
  of_syn = λ _ n. absurd (false≢true n);
  of_synack = λ _ n _. absurd (false≢true n);
  of_ack = λ _ _ _. (s.iss, s.irs, n, e, k);
}

module _ (γ : ℕ) (hγ : 1 ≤ γ) {l m : Log} (s : Station) (logs : Logs l m) (h : StationOk s l m) where
  -- what is to be shown of a step
  abbrev Ok : Step → Type 0
  Ok o = SpacedBy γ (onto (numbers o) l.draws) → Upheld l m o

  -- a number that is drawn now has no pair
  unused : (n : ℕ) → SpacedBy γ (n ∷ l.draws) → (b : ℕ) → Held l n b → ⊥
  unused n sp b k = spaced_new γ l.draws n hγ sp (logs.mine.known n b k).0

  to_closed : Ok (quiet (closed_of s))
  unfolding closed_of with
  to_closed _ = rest (closed_of s) [] logs tt tt

  to_listen : Ok (quiet (listen_of s))
  unfolding listen_of with
  to_listen _ = rest (listen_of s) [] logs tt tt

  -- ---- calls

  open_ok : (n : ℕ) → Ok (open_step s n)
  unfolding open_step syn_sent_of with
  open_ok n sp = record {
    logs = drawn_ok γ hγ n logs sp;
    state = (refl, unused n sp);
    reply = (syn_ok (plus_draw n l) (syn_sent_of s n) (Memᴰ.head refl), tt);
  }

  abort_ok : Ok (abort_step s)
  unfolding abort_step closed_of with rst_of sends bits
  abort_ok =
      by_case Ok (is SynReceived s || is Established s)
      (λ _ _. rest (closed_of s) (rst_of s s.nxt ∷ []) logs tt (reset_ok l _ refl, tt))
      (λ _. to_closed)

  resend_ok : formed s ≡ true → may_resend s ≡ true → Ok (resend_step s)
  unfolding resend_step may_resend
  resend_ok f may =
      by_case Ok (is SynSent s)
      (λ e _. let k = rw ((is_state SynSent s).0 e) at h in
      rest s (syn_of s ∷ []) logs h (syn_ok l s (newest_drew l s.iss k.0), tt))
      (λ n _. let e = (is_state SynReceived s).0 (second_on (is SynSent s) (is SynReceived s) may n) in
      let k = rw e at h in
      rest s (syn_ack_of s ∷ []) logs h (synack_ok l s (received_form s f e).rcvnxt (newest_drew l s.iss k.0) k.1, tt))

  -- ---- arrivals

  module _ (g : Segment) (came : SegmentOk m g) (far : SpacedBy γ m.draws) where
    dropped : Ok (quiet s)
    dropped _ = rest s [] logs h tt

    reset : Ok (sending s (reply_reset s g))
    reset _ = rest s (reply_reset s g ∷ []) logs h (reply_ok l s g, tt)

    closed_ok : Ok (at_closed s g)
    unfolding at_closed
    closed_ok = by_case Ok (has_rst g) (λ _. dropped) (λ _. reset)

    -- LISTEN takes a SYN
    taken : (fresh : ℕ) → Drew m (seg_seq g)
        → Ok (drawing (received_of s true fresh (seg_seq g)) (syn_ack_of (received_of s true fresh (seg_seq g))))
    unfolding received_of with
    taken fresh drew sp =
        let l' = plus_pair fresh (seg_seq g) (plus_draw fresh l) in
        record {
          logs = paired_ok fresh (seg_seq g) (drawn_ok γ hγ fresh logs sp) refl (unused fresh sp) drew;
          state = (refl, Memᴰ.head refl);
          reply = (synack_ok l' (received_of s true fresh (seg_seq g)) refl (Memᴰ.head refl) (Memᴰ.head refl), tt);
        }

    listen_ok : (fresh : ℕ) → Ok (at_listen s g fresh)
    unfolding at_listen
    listen_ok fresh =
        by_case Ok (has_rst g) (λ _. dropped)
        (λ nr. by_case Ok (has_ack g) (λ _. reset)
        (λ _. by_case Ok (has_syn g) (λ y. taken fresh (came.of_syn nr y)) (λ _. dropped)))

    -- the peer held a number of mine under j, and acknowledges i: then it is i
    my_number : (i j r : ℕ) → SpacedBy γ l.draws → Drew l i → Held m j r → seg_ack g ≡ plus r 1 → seg_ack g ≡ plus i 1 → Held m j i
    my_number i j r sp d k e q = subst (λ (z : ℕ). Held m j z) (one_more r i r_lt (spaced_lt γ l.draws sp d) (sym e ∙ q)) k
      where
        r_lt : r < 2 ^ 32
        r_lt = spaced_lt γ l.draws sp (logs.theirs.known j r k).1

    -- it sends from j, in the window behind r, which it drew too: then j is r, by the spacing
    its_number : (i r j : ℕ) → s.rcvwnd ≤ γ → Drew m r → Held m j i → seg_seq g ≡ plus j 1 → minus (seg_seq g) (plus r 1) < s.rcvwnd
        → Held m r i
    its_number i r j hw dr k e win = subst (λ (z : ℕ). Held m z i) (spaced_near γ m.draws j r far dj dr near) k
      where
        dj : Drew m j
        dj = (logs.theirs.known j i k).0

        near : minus j r < γ
        near = omega (arith, minus_next j r (spaced_lt γ m.draws far dj) (spaced_lt γ m.draws far dr), rw e at win)

    -- SYN-SENT takes a SYN, with ACK or without
    paired : s.state ≡ SynSent → wrong_ack s g ≡ false → has_rst g ≡ false → has_syn g ≡ true → Ok (syn_at_syn_sent s g)
    unfolding syn_at_syn_sent established_of received_of with wrong_ack
    paired e q nr y =
        let top = rw e at h in
        let drew = newest_drew l s.iss top.0 in
        let l' = plus_pair s.iss (seg_seq g) l in
        let logs' = paired_ok s.iss (seg_seq g) logs top.0 top.1 (came.of_syn nr y) in
        by_case Ok (has_ack g)
        (λ a sp. let t = came.of_synack nr y a in
        let k = my_number s.iss (seg_seq g) t.0 sp drew t.2 t.1 (eqb-true _ _ (second_off (has_ack g) _ q a)) in
        record {
          logs = logs';
          state = (top.0, Memᴰ.head refl, k);
          reply = (ack_ok l' (established_of s false s.iss (seg_seq g)) refl refl (Memᴰ.head refl), tt);
        })
        (λ _ sp. record {
          logs = logs';
          state = (top.0, Memᴰ.head refl);
          reply = (synack_ok l' (received_of s false s.iss (seg_seq g)) refl drew (Memᴰ.head refl), tt);
        })

    syn_sent_ok : s.state ≡ SynSent → Ok (at_syn_sent s g)
    unfolding at_syn_sent
    syn_sent_ok e =
        by_case Ok (wrong_ack s g) (λ _. by_case Ok (has_rst g) (λ _. dropped) (λ _. reset))
        (λ q. by_case Ok (has_rst g) (λ _. by_case Ok (has_ack g) (λ _. to_closed) (λ _. dropped))
        (λ nr. by_case Ok (has_syn g) (paired e q nr) (λ _. dropped)))

    module _ (hw : s.rcvwnd ≤ γ) (top : Newest l.draws s.iss) (held : Held l s.iss s.irs) (form : Synchronized s) where
      -- an ACK in the window of my number comes from the opening that is recorded here
      confirmed : in_window s g ≡ true → has_rst g ≡ false → has_syn g ≡ false → has_ack g ≡ true → seg_ack g ≡ plus s.iss 1
          → Ok (quiet (established_of s s.passive s.iss s.irs))
      unfolding established_of with in_window
      confirmed win nr ns a q sp =
          let t = came.of_ack nr ns a in
          let k = my_number s.iss t.0 t.1 sp (newest_drew l s.iss top) t.4 t.3 q in
          let near = rw form.rcvnxt at (ltb-true (minus (seg_seq g) s.rcvnxt) s.rcvwnd win) in
          let drew = (logs.mine.known s.iss s.irs held).1 in
          let k' = its_number s.iss s.irs t.0 hw drew k t.2 near in
          rest (established_of s s.passive s.iss s.irs) [] logs (top, held, k') tt

      ack : Ok (sending s (ack_of s))
      ack _ = rest s (ack_of s ∷ []) logs h (ack_ok l s form.nxt form.rcvnxt held, tt)

      synchronized_ok : Ok (at_synchronized s g)
      unfolding at_synchronized outside reset_to ack_at_syn_received ack_at_established closed_of with
      synchronized_ok =
          by_case Ok (not (in_window s g)) (λ _. by_case Ok (has_rst g) (λ _. dropped) (λ _. ack))
          (λ w. by_case Ok (has_rst g)
          (λ _. by_case (λ (x : Station). Ok (quiet x)) (is SynReceived s && s.passive) (λ _. to_listen) (λ _. to_closed))
          (λ nr. by_case Ok (has_syn g) (λ _ _. rest (closed_of s) (reply_reset s g ∷ []) logs tt (reply_ok l s g, tt))
          (λ ns. by_case Ok (not (has_ack g)) (λ _. dropped)
          (λ a. by_case Ok (is SynReceived s)
          (λ _. by_case Ok (eqb (seg_ack g) (plus s.iss 1))
          (λ q. confirmed (not-false _ w) nr ns (not-false _ a) (eqb-true _ _ q)) (λ _. reset))
          (λ _. by_case Ok (is_later (order (seg_ack g) s.nxt)) (λ _. ack) (λ _. dropped))))))

    arrival_ok : (fresh : ℕ) → formed s ≡ true → s.rcvwnd ≤ γ → Ok (arrival_at s.state s g fresh)
    unfolding arrival_at
    arrival_ok fresh f hw = go s.state refl
      where
        go : (t : State) → s.state ≡ t → Ok (arrival_at t s g fresh)
        go Closed e = closed_ok
        go Listen e = listen_ok fresh
        go SynSent e = syn_sent_ok e
        go SynReceived e = let k = rw e at h in synchronized_ok hw k.0 k.1 (received_form s f e)
        go Established e = let k = rw e at h in synchronized_ok hw k.0 k.1 (established_form s f e)

-- what is known of the segment that an event brings
abbrev pub Came : Log → Event → Type 0
Came m (Event.Open n) = Unit
Came m Event.Listen = Unit
Came m Event.Abort = Unit
Came m Event.Resend = Unit
Came m Event.PowerCut = Unit
Came m (Event.Arrive g fresh) = SegmentOk m g

pub event_upheld : (γ : ℕ) → 1 ≤ γ → {l m : Log} (s : Station) (e : Event) (o : Step) → event_said s e ≡ given o
    → Logs l m → StationOk s l m → s.rcvwnd ≤ γ → Came m e → SpacedBy γ m.draws → SpacedBy γ (onto (numbers o) l.draws)
    → Upheld l m o
unfolding AllOff
event_upheld γ hγ {l} {m} s e o says logs h hw came far = rw (← p.1) (go e came off)
  where
    p : (formed s ≡ true) × (event_step s e ≡ o)
    p = event_past s e o says

    off : AllOff (bad_record s ∷ event_tests s e)
    off = (all_off (bad_record s ∷ event_tests s e) (event_step s e) o (rw event_first at says)).0

    go : (e : Event) → Came m e → AllOff (bad_record s ∷ event_tests s e) → SpacedBy γ (onto (numbers (event_step s e)) l.draws)
        → Upheld l m (event_step s e)
    go (Event.Open n) c a = open_ok γ hγ s logs h n
    go Event.Listen c a = to_listen γ hγ s logs h
    go Event.Abort c a = abort_ok γ hγ s logs h
    go Event.Resend c a = resend_ok γ hγ s logs h p.0 (not-false _ a.1.0)
    go Event.PowerCut c a = to_closed γ hγ s logs h
    go (Event.Arrive g fresh) c a = arrival_ok γ hγ s logs h g c far fresh p.0 hw

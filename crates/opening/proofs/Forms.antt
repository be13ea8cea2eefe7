-- What a record says of its numbers, and two records of their endpoints. Assumes nothing.
use Prim.Native.Nat.{◌≤◌}
use mathlib.Core.Path.{◌≡◌, sym}
use mathlib.Core.Bool.{true}
use borrow.Author.Tests.{eqb-true, ltb-true}
use Rattle.seq.specs.Seq.{plus}
use Rattle.station.specs.Forms.{formed, form_at, opening, acknowledged, synchronized}
use Rattle.station.specs.declared.State.TheVariants.{SynReceived, Established}
use Rattle.station.specs.declared.Station.{Station}
use Rattle.opening.proofs.Checks.{and_l, and_r}

-- the two ends of one connection
abbrev pub Facing : Station → Station → Type 0
Facing s t = (s.own ≡ t.peer) × (s.ownport ≡ t.peerport) × (s.peer ≡ t.own) × (s.peerport ≡ t.ownport)

pub facing_turned : (s t : Station) → Facing s t → Facing t s
facing_turned s t h = (sym h.2, sym h.3, sym h.0, sym h.1)

pub window_positive : (s : Station) → formed s ≡ true → 1 ≤ s.rcvwnd
unfolding formed
window_positive s f = search (and_r, ltb-true)

pub record Synchronized (s : Station) : Type 0 where
  pub nxt : s.nxt ≡ plus s.iss 1
  pub rcvnxt : s.rcvnxt ≡ plus s.irs 1

pub received_form : (s : Station) → formed s ≡ true → s.state ≡ SynReceived → Synchronized s
unfolding formed form_at opening synchronized
received_form s f e =
    let h = rw e at f in
    record { nxt = search (and_l, and_r, eqb-true); rcvnxt = search (and_l, and_r, eqb-true) }

pub established_form : (s : Station) → formed s ≡ true → s.state ≡ Established → Synchronized s
unfolding formed form_at acknowledged synchronized
established_form s f e =
    let h = rw e at f in
    record { nxt = search (and_l, and_r, eqb-true); rcvnxt = search (and_l, and_r, eqb-true) }

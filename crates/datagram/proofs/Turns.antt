-- Datagrams back to back: one turn after another. Assumes nothing.
use Prim.Native.Nat.{ℕ, zero, suc, ◌+◌, ◌-◌, ◌≤◌, ◌<◌}
use mathlib.Core.Path.{◌≡◌, refl, sym, ap, ◌∙◌}
use mathlib.Core.Bool.{Bool, true, false, not}
use mathlib.Core.List.{List, [], ◌++◌, append_assoc, append-nil}
use native.Mathlib.Omega.{arith}
use lib.ListN.{length, take, drop, length-append, length-drop, take-append-drop}
use lib.Seq.{take_at, drop_at, drop-drop, length-take-le}
use lib.Dec.{eqb}
use Rattle.std.specs.Prelude.{Option}
use Rattle.std.proofs.lemmas.List.{take_rest}
use Rattle.segment.specs.declared.Segment.{Segment}
use Rattle.segment.specs.Refusals.{Said, refused, given}
use Rattle.station.specs.Outcomes.{Step, segments}
use Rattle.std.proofs.lemmas.Bool.Decides.{nat_tests}
use Rattle.station.proofs.Keeps.{by_case}
use Rattle.datagram.specs.declared.Listener.{Listener}
use Rattle.datagram.specs.Layout.{header_size, total_size, protocol, carried_by, stops_at}
use Rattle.datagram.specs.Program.{Box, Heard, datagrams_of, heard_by, heard, answers}
use Rattle.datagram.specs.Promises.{start, Writes, box_of, Hears}
use Rattle.datagram.proofs.Sending.{answer_size}
use Rattle.datagram.proofs.Reading.{Whole, whole, arrived}
use Rattle.datagram.proofs.Parts.{back}

pub by_bool {ℓ} : {X : Type ℓ} (b : Bool) → (b ≡ true → X) → (b ≡ false → X) → X
by_bool true f g = f refl
by_bool false f g = g refl

-- ---- one datagram

module _ (b : Box) (s : List ℕ) where
  module _ (w : Whole s) where
    carried_size : length (carried_by s) ≡ total_size s - header_size s
    unfolding carried_by
    carried_size = simp (length-drop, length-take-le (total_size s) s w.there)

    said_size : (x : Said Step) → arrived b s ≡ x → length (heard_by b x).sent ≤ total_size s
    unfolding heard_by
    said_size (refused n) e = omega arith
    said_size (given step) e = omega (arith, carried_size, answer_size _ _ _ _ _ (given step) e)

    -- an answer is no longer than the datagram that it answers
    pub heard_size : length (heard b s).sent ≤ total_size s
    unfolding heard
    heard_size = by_case (λ (h : Heard). length h.sent ≤ total_size s) (not (eqb (protocol s) 6)) (λ e. omega arith) (λ e. said_size _ refl)

  said_drawn : (x : Said Step) → (heard_by b x).box.drawn ≤ b.drawn + 1
  unfolding heard_by
  said_drawn (refused n) = omega arith
  said_drawn (given step) = grind (arith, nat_tests)

  pub heard_drawn : (heard b s).box.drawn ≤ b.drawn + 1
  unfolding heard
  heard_drawn = by_case (λ (h : Heard). h.box.drawn ≤ b.drawn + 1) (not (eqb (protocol s) 6)) (λ e. omega arith) (λ e. said_drawn _)

-- ---- all datagrams

-- the answers to all of some octets: there are no more datagrams than octets
abbrev pub all_of : Box → List ℕ → List ℕ
all_of b s = answers (length s) b s

pub stopped : (most : ℕ) (b : Box) (s : List ℕ) → stops_at s ≡ true → answers most b s ≡ []
unfolding answers
stopped zero b s e = refl
stopped (suc most) b s e = rw e

-- it stops where nothing is left
none_left : (s : List ℕ) → length s ≤ 0 → stops_at s ≡ true
none_left s h = by_bool (stops_at s) (λ e. e) (λ e. let w = whole s e in absurd (omega arith))

-- more turns than octets change nothing
enough : (m n : ℕ) (b : Box) (s : List ℕ) → length s ≤ m → length s ≤ n → answers m b s ≡ answers n b s
unfolding answers
enough zero n b s h k = sym (stopped n b s (none_left s h))
enough (suc m) zero b s h k = stopped (suc m) b s (none_left s k)
enough (suc m) (suc n) b s h k =
    by_bool (stops_at s)
    (λ e. rw e)
    (λ e.
    let w = whole s e in
    let l = length-drop (total_size s) s in
    rw e (ap (λ (r : List ℕ). (heard b s).sent ++ r) (enough m n (heard b s).box (drop (total_size s) s) (omega arith) (omega arith))))

-- one turn: the answer to a datagram, and the answers to what stands behind it
once : (most : ℕ) (b : Box) (s : List ℕ) → stops_at s ≡ false
    → answers (suc most) b s ≡ (heard b s).sent ++ answers most (heard b s).box (drop (total_size s) s)
unfolding answers
once most b s e = rw e

pub turn : (b : Box) (s : List ℕ) → stops_at s ≡ false → all_of b s ≡ (heard b s).sent ++ all_of (heard b s).box (drop (total_size s) s)
turn b s e =
    let w = whole s e in
    let l = length-drop (total_size s) s in
    enough (length s) (suc (length s)) b s (omega arith) (omega arith)
    ∙ once (length s) b s e
    ∙ ap (λ (r : List ℕ). (heard b s).sent ++ r)
    (enough (length s) (length (drop (total_size s) s)) (heard b s).box (drop (total_size s) s) (omega arith) (omega arith))

-- ---- the loop

-- the answers so far stand at the output's start, and with those to what is left they are the answers to all
pub record Halfway (s before after : List ℕ) (b : Box) (rest : List ℕ) (done : ℕ) : Type 0 where
  pub shorter : done + length rest ≤ length s
  pub few : b.drawn + length rest ≤ length s
  pub same : length after ≡ length before
  pub behind : drop done after ≡ drop done before
  pub answered : all_of start s ≡ take done after ++ all_of b rest

module _ {s before after : List ℕ} {b : Box} {rest : List ℕ} {done : ℕ} (h : Halfway s before after b rest done) (room : length s ≤ length before) where
  pub finished : stops_at rest ≡ true → Writes (all_of start s) before after done
  finished e =
      let none : all_of b rest ≡ [] = stopped (length rest) b rest e in
      let all : all_of start s ≡ take done after = h.answered ∙ rw none (append-nil (take done after)) in
      let size : length (take done after) ≡ done = length-take-le done after (omega arith) in
      record {
        count = sym (ap length all ∙ size);
        left = sym (rw (all, size, ← h.behind) (take-append-drop done after));
      }

  -- the k-th number drawn is 65,536 times k, and k stays below 65,536
  pub numbered : stops_at rest ≡ false → length s ≤ 65535 → b.drawn < 65535
  numbered go most = omega (arith, whole rest go)

  module _ (go : stops_at rest ≡ false) (l : Listener) (sent : Option Segment) (hears : Hears b rest l sent) where
    -- the answer fits into its datagram, and the datagram into what is left
    pub sizes : (length (datagrams_of (segments sent)) ≤ total_size rest) × (total_size rest ≤ length rest) × (0 < total_size rest)
    sizes =
        let w = whole rest go in
        let e : datagrams_of (segments sent) ≡ (heard b rest).sent = ap (λ (x : Heard). x.sent) hears.values in
        (omega (arith, ap length e, heard_size b rest w), omega arith, omega arith)

    pub fits : length (datagrams_of (segments sent)) ≤ length (take (length after - done) (drop done after))
    fits = rw (take_rest after done) (omega (arith, sizes, length-drop done after))

    pub onward : (ys : List ℕ) (n : ℕ) → Writes (datagrams_of (segments sent)) (take (length after - done) (drop done after)) ys n
        → Halfway s before (take done after ++ (ys ++ drop (length after - done) (drop done after))) (box_of l) (drop (total_size rest) rest) (done + n)
    onward ys n w =
        let o = datagrams_of (segments sent) in
        let m = done + length o in
        let tail : ys ≡ o ++ drop m after = rw (take_rest after done, drop-drop) at w.left in
        let all = back done after ys ∙ ap (λ (x : List ℕ). take done after ++ x) tail ∙ sym (append_assoc (take done after) o (drop m after)) in
        let size : length (take done after ++ o) ≡ m = rw length-append (rw (length-take-le done after (omega (arith, sizes)))) in
        let box : box_of l ≡ (heard b rest).box = ap (λ (x : Heard). x.box) hears.values in
        let same_sent : o ≡ (heard b rest).sent = ap (λ (x : Heard). x.sent) hears.values in
        let left = length-drop (total_size rest) rest in
        rw (all, w.count) (record {
          shorter = omega (arith, sizes);
          few = omega (arith, sizes, ap (λ (x : Box). x.drawn) box, heard_drawn b rest);
          same = rw (length-append, size, length-drop) (omega (arith, sizes));
          behind = drop_at (take done after ++ o) (drop m after) m size ∙ sym (drop-drop (length o) done after) ∙ ap (drop (length o)) h.behind ∙ drop-drop (length o) done before;
          answered =
              h.answered
              ∙ ap (λ (x : List ℕ). take done after ++ x) (turn b rest go)
              ∙ rw (← same_sent, ← box) (sym (append_assoc (take done after) o _))
              ∙ ap (λ (x : List ℕ). x ++ all_of (box_of l) (drop (total_size rest) rest)) (sym (take_at (take done after ++ o) (drop m after) m size));
        })

-- A datagram is read from its own octets. Assumes nothing.
use Prim.Native.Nat.{ℕ, ◌+◌, ◌-◌, ◌*◌, ◌≤◌, ◌<◌}
use mathlib.Core.Path.{◌≡◌, sym, ap, ◌∙◌}
use mathlib.Core.Bool.{false}
use mathlib.Core.List.{List, ◌++◌}
use native.Mathlib.Omega.{arith}
use lib.ListN.{length, get_or, take, drop, length-take}
use lib.Seq.{get_or-take, take_at, length-take-le}
use Rattle.std.proofs.lemmas.Bool.Decides.{nat_tests}
use Rattle.std.proofs.lemmas.List.{drop-take}
use Rattle.segment.specs.Refusals.{Said}
use Rattle.station.specs.Outcomes.{Step}
use Rattle.station.specs.Arrival.{octets_said}
use Rattle.datagram.specs.Layout.{version, header_size, total_size, source_address, destination_address, carried_by, stops_at}
use Rattle.datagram.specs.Program.{Box, heard}

-- a datagram at which it does not stop, as facts
pub record Whole (s : List ℕ) : Type 0 where
  pub four : version s ≡ 4
  pub header : 20 ≤ header_size s
  pub within : header_size s ≤ total_size s
  pub most : total_size s ≤ 1500
  pub there : total_size s ≤ length s

pub whole : (s : List ℕ) → stops_at s ≡ false → Whole s
unfolding stops_at
whole s e = record {
  four = grind (arith, nat_tests);
  header = grind (arith, nat_tests);
  within = grind (arith, nat_tests);
  most = grind (arith, nat_tests);
  there = grind (arith, nat_tests);
}

pub goes_on : (s : List ℕ) → Whole s → stops_at s ≡ false
unfolding stops_at
goes_on s w = grind (arith, nat_tests)

-- t begins with the datagram that s begins with
module _ (s t : List ℕ) (w : Whole s) (e : take (total_size s) t ≡ take (total_size s) s) where
  octet : (i : ℕ) → i < 20 → get_or t i 0 ≡ get_or s i 0
  octet i h =
      sym (get_or-take (total_size s) t i 0 (omega arith))
      ∙ ap (λ (l : List ℕ). get_or l i 0) e
      ∙ get_or-take (total_size s) s i 0 (omega arith)

  pub total_same : total_size t ≡ total_size s
  total_same = rw (octet 2 (omega arith), octet 3 (omega arith))

  long : total_size s ≤ length t
  long = omega (arith, length-take (total_size s) t, length-take (total_size s) s, ap length e)

  pub whole_same : Whole t
  whole_same =
      let o0 = octet 0 (omega arith) in
      let total = total_same in
      record {
        four = rw o0 w.four;
        header = rw o0 w.header;
        within = rw (o0, total) w.within;
        most = rw total w.most;
        there = rw total long;
      }

  pub heard_same : (b : Box) → heard b t ≡ heard b s
  unfolding heard carried_by
  heard_same b =
      simp (
        octet 0 (omega arith),
        octet 2 (omega arith),
        octet 3 (omega arith),
        octet 9 (omega arith),
        octet 12 (omega arith),
        octet 13 (omega arith),
        octet 14 (omega arith),
        octet 15 (omega arith),
        octet 16 (omega arith),
        octet 17 (omega arith),
        octet 18 (omega arith),
        octet 19 (omega arith),
        e,
      )

-- what stands between two places
pub between : (a z : ℕ) (s : List ℕ) → a ≤ z → drop a (take z s) ≡ take (z - a) (drop a s)
between a z s h =
    let e : z ≡ a + (z - a) = omega arith in
    ap (λ (n : ℕ). drop a (take n s)) e ∙ drop-take a (z - a) s

-- a frame filled with a datagram begins with it
pub framed : (s front zeros : List ℕ) → Whole s → front ≡ take (total_size s) s → take (total_size s) (front ++ zeros) ≡ take (total_size s) s
framed s front zeros w e =
    ap (λ (l : List ℕ). take (total_size s) (l ++ zeros)) e
    ∙ take_at (take (total_size s) s) zeros (total_size s) (length-take-le (total_size s) s w.there)

-- what a datagram's segment is answered by
abbrev pub arrived : Box → List ℕ → Said Step
arrived b s = octets_said b.station (source_address s) (destination_address s) (carried_by s) (65536 * (b.drawn + 1))

-- a frame that begins with a datagram is read as the datagram is
module _ (s front behind : List ℕ) (go : stops_at s ≡ false) (filled : front ≡ take (total_size s) s) where
  begins : take (total_size s) (front ++ behind) ≡ take (total_size s) s
  begins = framed s front behind (whole s go) filled

  pub stops_framed : stops_at (front ++ behind) ≡ false
  stops_framed = goes_on _ (whole_same s _ (whole s go) begins)

  pub heard_framed : (b : Box) → heard b (front ++ behind) ≡ heard b s
  heard_framed b = heard_same s _ (whole s go) begins b

pub carried_part : (s : List ℕ) → stops_at s ≡ false → take (total_size s - header_size s) (drop (header_size s) s) ≡ carried_by s
unfolding carried_by
carried_part s go = sym (between (header_size s) (total_size s) s (whole s go).within)

-- the bounds of a whole datagram, one by one
module _ (s : List ℕ) (go : stops_at s ≡ false) where
  pub most : total_size s ≤ 1500
  most = (whole s go).most

  pub there : total_size s ≤ length s
  there = (whole s go).there

  pub some : 0 < total_size s
  some = omega (arith, whole s go)

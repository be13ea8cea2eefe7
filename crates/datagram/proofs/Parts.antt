-- An output written from a place on. Assumes nothing.
use Prim.Native.Nat.{ℕ, min, ◌-◌, ◌/◌, ◌%◌, ◌^◌, ◌≤◌, ◌<◌}
use mathlib.Core.Path.{◌≡◌, ap, ◌∙◌}
use mathlib.Core.Bool.{false}
use mathlib.Core.List.{List, [], ◌++◌, append_assoc, append-nil}
use native.Mathlib.Omega.{arith}
use lib.ListN.{length, take, drop, length-drop, drop_of_length-le}
use lib.Seq.{drop-drop, length-take-le}
use borrow.Author.Tests.{le-ltb}
use Rattle.std.specs.Int.{w16, w32, to_be_bytes}
use Rattle.std.proofs.lemmas.List.{take_min, take_rest}
use Rattle.segment.specs.Octets.{two, four}
use Rattle.segment.specs.declared.Header.{Header}
use Rattle.segment.specs.declared.Segment.{Segment}
use Rattle.segment.specs.Write.{made, write_tests, write_said, write_leaves}
use Rattle.datagram.specs.Layout.{header_with, header_checksum, datagram_of}
use Rattle.datagram.specs.Program.{answers, output}
use Rattle.datagram.specs.Promises.{start}

-- what comes back of the part that was lent from a place to the end
pub back : (a : ℕ) (xs ys : List ℕ) → take a xs ++ (ys ++ drop (length xs - a) (drop a xs)) ≡ take a xs ++ ys
back a xs ys =
    let h : length (drop a xs) ≤ length xs - a = omega (arith, length-drop a xs) in
    let e : drop (length xs - a) (drop a xs) ≡ [] = drop_of_length-le (drop a xs) h in
    rw (e, append-nil)

-- so many octets, where there are as many
pub taken : (n : ℕ) (s : List ℕ) → n ≤ length s → length (take n s) ≡ n
taken n s h = length-take-le n s h

-- what is read of an input
pub read_of : (s : List ℕ) (r : ℕ) → r ≡ min (length s) 65535 → answers (length (take r s)) start (take r s) ≡ output s
unfolding output
read_of s r e =
    let f : r ≡ min 65535 (length s) = omega arith in
    rw (f, take_min)

-- the octets of a number, high octet first
pub two_octets : (n : ℕ) → n < 2 ^ 16 → to_be_bytes w16 n ≡ two n
two_octets n h =
    let high : n / 256 % 256 ≡ n / 256 = omega arith in
    simp high

pub four_octets : (n : ℕ) → n < 2 ^ 32 → to_be_bytes w32 n ≡ four n
four_octets n h =
    let high : n / 16777216 % 256 ≡ n / 16777216 = omega arith in
    simp high

-- a header write with FIN off and room for it
pub header_written : (src dst : ℕ) (h : Header) (out : List ℕ) → h.control.fin ≡ false → 20 ≤ length out
    → write_leaves src dst h out ≡ made src dst h ++ drop 20 out
unfolding write_leaves write_said write_tests
header_written src dst h out fin room = simp (fin, le-ltb (length out) 20 room)

-- the IP header copied to the start of an output, and the TCP header written behind it
pub both_written : (g : Segment) (out xs ys : List ℕ) → g.header.control.fin ≡ false → 40 ≤ length out
    → xs ≡ header_with g (header_checksum g) ++ drop 20 out
    → ys ≡ write_leaves g.src g.dst g.header (take (length xs - 20) (drop 20 xs))
    → take 20 xs ++ (ys ++ drop (length xs - 20) (drop 20 xs)) ≡ datagram_of g ++ drop 40 out
unfolding datagram_of
both_written g out xs ys fin room e f =
    let behind : drop 20 xs ≡ drop 20 out = ap (drop 20) e in
    let written = header_written g.src g.dst g.header (drop 20 out) fin (omega (arith, length-drop 20 out)) in
    let tcp : ys ≡ made g.src g.dst g.header ++ drop 40 out = f ∙ rw (take_rest xs 20, behind) (rw written (rw drop-drop)) in
    back 20 xs ys ∙ rw (e, tcp) (rw append_assoc)

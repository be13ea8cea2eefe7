-- A list that is filled from its start, a part at a time.
use Rattle.std.proofs.Common.{◌≡◌, ℕ, ◌+◌, ◌≤◌, List, ◌++◌, sym, ap, ◌∙◌, take, length, length-take-le}
use borrow.Rule.Slice.PartMut.{put_mid, post_of}
use lib.Seq.{take-append-add, take-append-le}

-- where ys stands in place of k after the first a, the first a + n are the first a, and the first n of ys
pub filled : (a k n : ℕ) (xs ys : List ℕ) → a ≤ length xs → n ≤ length ys → take a xs ++ take n ys ≡ take (a + n) (put_mid a k xs ys)
filled a k n xs ys within fits =
    let front = take a xs in
    let rest = post_of a k xs in
    let size : length front ≡ a = length-take-le a xs within in
    sym (ap (λ m. take (m + n) (put_mid a k xs ys)) (sym size) ∙ take-append-add front (ys ++ rest) n ∙ ap (λ l. front ++ l) (take-append-le n ys rest fits))

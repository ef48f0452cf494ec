-- What a read gives stands behind what was read before it.
use Rattle.std.proofs.Common.{◌≡◌, sym, ap, ◌∙◌, ◌+◌, ◌-◌, ◌≤◌, ℕ, List, ◌++◌, length, take, drop, length-append, arith}
use Rattle.std.proofs.KnownBytes.{Consumes-trans}
use borrow.Rule.Slice.PartMut.{put_mid}
use lib.Seq.{take-append-le, take-append-add, length-take-le}
use Rattle.input.proofs.read_input.Goals as goal

-- `d` with e in the place of `d[at..]`
module _ (d e : List ℕ) (at n : ℕ) (h : at ≤ length d) where
  read_more : n ≤ length e → take (at + n) (put_mid at (length d - at) d e) ≡ take at d ++ take n e
  read_more k =
      let rest : List ℕ = e ++ drop (length d - at) (drop at d) in
      let front = length-take-le at d h in
      ap (λ (m : ℕ). take (m + n) (take at d ++ rest)) (sym front)
      ∙ take-append-add (take at d) rest n
      ∙ ap (λ (x : List ℕ). take at d ++ x) (take-append-le n e (drop (length d - at) (drop at d)) k)

  read_room : n ≤ length e → at + n ≤ length (put_mid at (length d - at) d e)
  read_room k = omega (arith, length-take-le at d h, length-append (take at d) (e ++ drop (length d - at) (drop at d)), length-append e (drop (length d - at) (drop at d)))

pub loop-count-preserved : goal.loop-count-preserved
loop-count-preserved g c =
    let d = c.loop-count.buffer in
    let at = c.loop-count.count in
    let n = c.in_ok-n.n in
    let e = c.read.new.buf in
    let k : n ≤ length e = c.in_ok-n.ensures.bound.0 in
    record {
      within = read_room d e at n c.loop-count.invariant.within k;
      bytes =
          rw (read_more d e at n c.loop-count.invariant.within k) (Consumes-trans _ _ _ (take at d) (take n e) c.loop-count.invariant.bytes c.in_ok-n.ensures.bytes.0);
    }

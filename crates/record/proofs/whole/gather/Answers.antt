use Rattle.std.proofs.Common.{◌≡◌, ℕ, ◌+◌, ◌*◌, ◌≤◌, List, ◌∷◌, length, drop, Ok, sym, ap, ◌∙◌, ap₂, mul-le-mul, arith}
use Rattle.kind.specs.Faults.{and_then}
use Rattle.record.specs.Folded.{Reckoned, seen, seen_in}
use Rattle.record.specs.Noting.{taken_in, gathered, nothing, rounds_only, size_of, size_of_all}
use Rattle.record.specs.Parts.{Piece, left, piece_of, pieces_in, rounds_in, size_of_claim, size_of_round}
use Rattle.record.proofs.Pieces.{rounds_count, size_count}
use Rattle.record.proofs.whole.gather.Goals as goal

pub loop-part-init : goal.loop-part-init
loop-part-init g c =
    let s = g.K.Kind.meaning in
    let w = g.K.WrittenKind.writing in
    let bs : List ℕ = c.args.bytes.now in
    let width : ℕ = w.width in
    let e : left c.parts_of-reader.result ≡ pieces_in width bs = c.parts_of-reader.ensures in
    let none = ap length c.empty.ensures in
    let start : Reckoned _ = nothing s in
    let few : rounds_in bs ≤ 8 = c.requires in
    let slim : width ≤ 64 = g.met.K.WrittenKind.writes.few in
    let rounds = rounds_count (size_of_round width) (rounds_in bs) (drop (size_of_claim width) (drop 1 bs)) in
    let sizes = size_count width (size_of_round width) (rounds_in bs) (drop (size_of_claim width) (drop 1 bs)) in
    let slim4 : size_of_round width ≤ 260 = omega arith in
    let most : rounds_in bs * size_of_round width ≤ 8 * 260 = mul-le-mul few slim4 in
    let er = ap rounds_only e in
    let es = ap (size_of_all width) e in
    (ap₂ (gathered s w 1) (λ i. record { z = c.unit.ensures i; challenges = c.empty.ensures i; last_pair = (0, 0) }) e, omega arith, omega arith)

pub loop-part-preserved : goal.loop-part-preserved
loop-part-preserved g c =
    let s = g.K.Kind.meaning in
    let w = g.K.WrittenKind.writing in
    let p : Piece = piece_of c.in-Some.part in
    let more : left c.loop-part.reader ≡ p ∷ left c.next.new.self = c.in-Some.ensures.parts in
    let old = seen c.loop-part.noted in
    let taken : taken_in s w c.loop-part.place old p ≡ Ok (seen c.in_ok-noted.noted) =
    sym c.note_part.ensures.noted ∙ ap seen_in c.in_ok-noted.was in
    let size = c.part_size-place.ensures in
    let rest = left c.next.new.self in
    let er = ap rounds_only more in
    let es = ap (size_of_all w.width) more in
    let count = c.in_ok-noted.ensures.counted in (
      ap (λ (n : ℕ). gathered s w (c.loop-part.place + n) (seen c.in_ok-noted.noted) rest) size
          ∙ sym (ap (λ r. and_then r (λ t. gathered s w (c.loop-part.place + size_of w.width p) t rest)) taken)
          ∙ sym (ap (gathered s w c.loop-part.place old) more)
          ∙ c.loop-part.invariant.0,
      omega (arith, c.loop-part.invariant.1),
      omega (arith, c.loop-part.invariant.2),
    )

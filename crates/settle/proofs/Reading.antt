-- A record that is written is read back. Assumes nothing.
use Rattle.std.proofs.Common.{◌≡◌, ℕ, ◌+◌, ◌*◌, ◌^◌, ◌<◌, ◌≤◌, Bool, true, cond, ◌&&◌, eqb, ltb, leb, List, [], ◌∷◌, ◌++◌, length, take, drop, Ok, Err, Option, sym, refl, ap, ◌∙◌, ap₂, append_assoc, append-nil, arith, length-append, lt-ltb, eq-eqb, le-leb}
use Rattle.std.proofs.lemmas.List.{take_at, drop_at}
use Rattle.std.specs.Option.{ok_or}
use Rattle.kind.proofs.Steps.{went}
use Rattle.kind.specs.Writes.{bytes_number}
use Rattle.kind.specs.Bytes.{Writing, WellWritten, bytes_of, number_in}
use Rattle.kind.specs.Faults.{wrapped}
use Rattle.kind.specs.Pairs.{pair_of}
use Rattle.kind.specs.declared.fault.KindFault.TheVariants as kind
use Rattle.ledger.specs.Script.{Challenges}
use Rattle.writer.specs.Records.{round_written, rest_written, written}
use Rattle.record.specs.Contents.{Contents, shape_in, rest_in, body_in, contents_in}
use Rattle.record.specs.Fields.{scalar_in, challenge_in, last_in, element_in, pair_in, round_in}
use Rattle.record.specs.Folded.{challenges_of}
use Rattle.record.specs.Parts.{size_of_claim, size_of_round, record_length}
use Rattle.record.specs.declared.fault.RecordFault.TheVariants.{NotAScalar, NotAChallenge, Kind}
use Rattle.record.specs.declared.round.Round.{Round}
use Rattle.writer.proofs.Lengths.{pair_long, round_long, written_long}
use Rattle.settle.specs.Meeting.{Writable}

-- numbers below q
module _ (q : ℕ) (small : q ≤ 2 ^ 30) where
  number_read : (n : ℕ) → n < q → number_in (bytes_of n) ≡ n
  number_read n below = bytes_number n (omega arith)

  scalar_read : (place n : ℕ) (bs : List ℕ) → n < q → scalar_in q place (bytes_of n ++ bs) ≡ Ok n
  scalar_read place n bs below =
      ap (λ (m : ℕ). cond (ltb m q) (Ok m) (Err (NotAScalar place))) (number_read n below)
      ∙ ap (λ (b : Bool). cond b (Ok n) (Err (NotAScalar place))) (lt-ltb n q below)

  challenge_read : (place n : ℕ) → 0 < n → n < q → challenge_in q place (bytes_of n) ≡ Ok n
  challenge_read place n some below =
      ap (λ (m : ℕ). cond (ltb 0 m && ltb m q) (Ok m) (Err (NotAChallenge place))) (number_read n below)
      ∙ ap (λ (b : Bool). cond b (Ok n) (Err (NotAChallenge place))) (ap₂ ◌&&◌ (lt-ltb 0 n some) (lt-ltb n q below))

  last_read : (place : ℕ) (p : ℕ × ℕ) → p.0 < q → p.1 < q → last_in q place (bytes_of p.0 ++ bytes_of p.1) ≡ Ok p
  last_read place p a b =
      went (scalar_in q place (bytes_of p.0 ++ bytes_of p.1)) _ p.0 _ (scalar_read place p.0 (bytes_of p.1) a)
      (went (scalar_in q (place + 4) (bytes_of p.1)) _ p.1 _ (scalar_read (place + 4) p.1 [] b) refl)

-- elements, and what is made of them
module _ {M : Type 0} (w : Writing M) (good : WellWritten w) where
  module _ (q : ℕ) where
    element_read : (place : ℕ) (x : M) (bs : List ℕ) → element_in w q place (w.bytes x ++ bs) ≡ Ok x
    element_read place x bs =
        ap (λ (b : List ℕ). wrapped Kind (ok_or (w.read b) (kind.NotAnElement 0)) place) (take_at (w.bytes x) bs w.width (good.filled x))
        ∙ ap (λ (o : Option M). wrapped Kind (ok_or o (kind.NotAnElement 0)) place) (good.again x)

    pair_read : (place : ℕ) (x y : M) (bs : List ℕ) → pair_in w q place (w.bytes x ++ (w.bytes y ++ bs)) ≡ Ok (pair_of x y)
    pair_read place x y bs =
        let behind = drop_at (w.bytes x) (w.bytes y ++ bs) w.width (good.filled x) in
        went (element_in w q place (w.bytes x ++ (w.bytes y ++ bs))) _ x _ (element_read place x (w.bytes y ++ bs))
        (went (element_in w q (place + w.width) (drop w.width (w.bytes x ++ (w.bytes y ++ bs)))) _ y _
        (ap (element_in w q (place + w.width)) behind ∙ element_read (place + w.width) y bs) refl)

    pair_only : (place : ℕ) (x y : M) → pair_in w q place (w.bytes x ++ w.bytes y) ≡ Ok (pair_of x y)
    pair_only place x y = ap (λ (b : List ℕ). pair_in w q place (w.bytes x ++ b)) (sym (append-nil (w.bytes y))) ∙ pair_read place x y []

  module _ (q : ℕ) (small : q ≤ 2 ^ 30) where
    round_read : (place : ℕ) (r : Round M) → 0 < r.challenge → r.challenge < q → round_in w q place (round_written w r) ≡ Ok r
    round_read place r some below =
        let a : List ℕ = w.bytes r.lower.a in
        let b : List ℕ = w.bytes r.lower.b in
        let c : List ℕ = w.bytes r.upper.a in
        let d : List ℕ = w.bytes r.upper.b in
        let n : List ℕ = bytes_of r.challenge in
        let size = pair_long w good r.lower.a r.lower.b in
        let size_c = good.filled r.upper.a in
        let size_d = good.filled r.upper.b in
        let long : length (((a ++ b) ++ c) ++ d) ≡ 4 * w.width = simp length-append (omega arith) in
        let one : round_written w r ≡ a ++ (b ++ (c ++ (d ++ n))) = simp append_assoc in
        let two : round_written w r ≡ (a ++ b) ++ (c ++ (d ++ n)) = simp append_assoc in
        went (pair_in w q place (round_written w r)) _ r.lower _
        (ap (pair_in w q place) one ∙ pair_read q place r.lower.a r.lower.b (c ++ (d ++ n)))
        (went (pair_in w q (place + 2 * w.width) (drop (2 * w.width) (round_written w r))) _ r.upper _
        (ap (pair_in w q (place + 2 * w.width)) (ap (drop (2 * w.width)) two ∙ drop_at (a ++ b) (c ++ (d ++ n)) (2 * w.width) size)
        ∙ pair_read q (place + 2 * w.width) r.upper.a r.upper.b n)
        (went (challenge_in q (place + 4 * w.width) (drop (4 * w.width) (round_written w r))) _ r.challenge _
        (ap (challenge_in q (place + 4 * w.width)) (drop_at (((a ++ b) ++ c) ++ d) n (4 * w.width) long)
        ∙ challenge_read q small (place + 4 * w.width) r.challenge some below)
        refl))

    rest_read : (place : ℕ) (rs : List (Round M)) (p : ℕ × ℕ) → Challenges q (challenges_of rs) → p.0 < q → p.1 < q
        → rest_in w q place (length rs) (rest_written w rs p) ≡ Ok (rs, p)
    rest_read place [] p ok a b = went (last_in q place (bytes_of p.0 ++ bytes_of p.1)) _ p _ (last_read q small place p a b) refl
    rest_read place (r ∷ rs) p ok a b =
        let size : ℕ = size_of_round w.width in
        let bs : List ℕ = rest_written w rs p in
        went (round_in w q place (take size (round_written w r ++ bs))) _ r _
        (ap (round_in w q place) (take_at (round_written w r) bs size (round_long w good r)) ∙ round_read place r ok.0 ok.1)
        (went (rest_in w q (place + size) (length rs) (drop size (round_written w r ++ bs))) _ (rs, p) _
        (ap (rest_in w q (place + size) (length rs)) (drop_at (round_written w r) bs size (round_long w good r)) ∙ rest_read (place + size) rs p ok.2 a b)
        refl)

    shape_read : (c : Contents M) → length c.rounds ≤ 8 → shape_in w.width (written w c) ≡ Ok (length c.rounds)
    shape_read c few =
        let n = written_long w good c in
        let some : ltb 0 (length (written w c)) ≡ true = lt-ltb 0 (length (written w c)) (omega arith) in
        let eight : leb (length c.rounds) 8 ≡ true = le-leb (length c.rounds) 8 few in
        let fits : eqb (length (written w c)) (record_length w.width (length c.rounds)) ≡ true =
        eq-eqb (length (written w c)) (record_length w.width (length c.rounds)) n in
        simp (some, eight, fits)

    body_read : (c : Contents M) → Writable q c → body_in w q (length c.rounds) (written w c) ≡ Ok c
    body_read c ok =
        let size : ℕ = size_of_claim w.width in
        let z : List ℕ = w.bytes c.commitments.a ++ w.bytes c.commitments.b in
        let bs : List ℕ = rest_written w c.rounds c.last_pair in
        let long = pair_long w good c.commitments.a c.commitments.b in
        went (pair_in w q 1 (take size (z ++ bs))) _ c.commitments _
        (ap (pair_in w q 1) (take_at z bs size long) ∙ pair_only q 1 c.commitments.a c.commitments.b)
        (went (rest_in w q (1 + size) (length c.rounds) (drop size (z ++ bs))) _ (c.rounds, c.last_pair) _
        (ap (rest_in w q (1 + size) (length c.rounds)) (drop_at z bs size long)
        ∙ rest_read (1 + size) c.rounds c.last_pair ok.challenges ok.a_below ok.b_below)
        refl)

    pub reads_back : (c : Contents M) → Writable q c → contents_in w q (written w c) ≡ Ok c
    reads_back c ok = went (shape_in w.width (written w c)) _ (length c.rounds) _ (shape_read c ok.few) (body_read c ok)

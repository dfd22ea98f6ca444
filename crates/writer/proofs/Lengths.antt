-- How long the parts of a record are. Assumes nothing.
use Rattle.std.proofs.Common.{◌≡◌, ℕ, suc, ◌+◌, ◌*◌, List, [], ◌∷◌, ◌++◌, length, refl, ap, ◌∙◌, suc-mul, arith, length-append}
use Rattle.kind.specs.Bytes.{Writing, WellWritten}
use Rattle.kind.specs.Kinds.{Meaning}
use Rattle.kind.specs.declared.pair.Pair.{Pair}
use Rattle.ledger.specs.Rules.{Lists, folded}
use Rattle.record.specs.Contents.{Contents}
use Rattle.record.specs.Parts.{size_of_round, record_length}
use Rattle.record.specs.declared.round.Round.{Round}
use Rattle.writer.specs.Records.{round_written, rest_written, front_written, written, rounds_of, last_pair_of, proof_of, record_of, rest_of}

module _ {M : Type 0} (w : Writing M) (good : WellWritten w) where
  pub pair_long : (x y : M) → length (w.bytes x ++ w.bytes y) ≡ 2 * w.width
  pair_long x y =
      let a = good.filled x in
      let b = good.filled y in
      length-append (w.bytes x) (w.bytes y) ∙ omega arith

  pub round_long : (r : Round M) → length (round_written w r) ≡ size_of_round w.width
  round_long r =
      let a = pair_long r.lower.a r.lower.b in
      let b = good.filled r.upper.a in
      let c = good.filled r.upper.b in
      simp length-append (omega arith)

  pub rest_long : (rs : List (Round M)) (p : ℕ × ℕ) → length (rest_written w rs p) ≡ length rs * size_of_round w.width + 8
  rest_long [] p = omega arith
  rest_long (r ∷ rs) p =
      let a = round_long r in
      let b = rest_long rs p in
      let c = suc-mul (length rs) (size_of_round w.width) in
      length-append (round_written w r) (rest_written w rs p) ∙ omega arith

  pub written_long : (c : Contents M) → length (written w c) ≡ record_length w.width (length c.rounds)
  written_long c =
      let a = pair_long c.commitments.a c.commitments.b in
      let b = rest_long c.rounds c.last_pair in
      let d = length-append (w.bytes c.commitments.a ++ w.bytes c.commitments.b) (rest_written w c.rounds c.last_pair) in
      omega arith

  pub front_long : (k : ℕ) (z : Pair M) → length (front_written w k z) ≡ 1 + 2 * w.width
  front_long k z =
      let a = pair_long z.a z.b in
      omega arith

-- a round for each challenge
pub rounds_count : {M E : Type 0} (s : Meaning M E) (key : M) (cs : List ℕ) (x : Lists M) → length (rounds_of s key cs x) ≡ length cs
rounds_count s key [] x = refl
rounds_count s key (c ∷ cs) x = ap suc (rounds_count s key cs (folded s c x))

module _ {M E : Type 0} (s : Meaning M E) (w : Writing M) (good : WellWritten w) (key : M) (cs : List ℕ) (x : Lists M) where
  pub rest_of_long : length (rest_of s w key cs x) ≡ length cs * size_of_round w.width + 8
  rest_of_long =
      rest_long w good (rounds_of s key cs x) (last_pair_of s key cs x) ∙ ap (λ (k : ℕ). k * size_of_round w.width + 8) (rounds_count s key cs x)

  pub record_long : length (record_of s w key cs x) ≡ record_length w.width (length cs)
  record_long = written_long w good (proof_of s key cs x) ∙ ap (record_length w.width) (rounds_count s key cs x)

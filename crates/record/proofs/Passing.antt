-- The challenges of a record that is read. Assumes nothing.
use Rattle.std.proofs.Common.{◌≡◌, ℕ, zero, suc, ◌+◌, ◌*◌, ◌^◌, ◌<◌, ◌≤◌, Bool, true, false, cond, ◌&&◌, ◌||◌, eqb, ltb, List, [], ◌∷◌, length, take, drop, Ok, Err, sym, refl, ap, ◌∙◌, arith, ltb-true, le-ltb, ne_eqb}
use Rattle.kind.proofs.Steps.{both_went, passed_on}
use Rattle.kind.specs.Both.{both_true}
use Rattle.kind.specs.Bytes.{Writing, number_in}
use Rattle.method.specs.Entries.{outside}
use Rattle.record.specs.Contents.{Contents, shape_in, rest_in, contents_in}
use Rattle.record.specs.Fields.{round_of, pair_in, round_in, challenge_in, last_in}
use Rattle.record.specs.Folded.{challenges_of}
use Rattle.record.specs.Parts.{size_of_round, size_of_claim, rounds_in}
use Rattle.record.specs.declared.fault.RecordFault.{RecordFault}
use Rattle.record.specs.declared.fault.RecordFault.TheVariants.{NotAChallenge as NotAChallengeAt}
use Rattle.record.specs.declared.round.Round.{Round}

taken : (b : Bool) (n k : ℕ) (f : RecordFault) → cond b (Ok n) (Err f) ≡ Ok k → (b ≡ true) × (k ≡ n)
taken true n k f e = (refl, cc)
taken false n k f e = (cc, cc)

-- a number from 1 to 2 ^ 31 - 1 is one for a table
inside : (c : ℕ) → 0 < c → c < 2147483648 → outside c ≡ false
inside c low high =
    let a : eqb c 0 ≡ false = ne_eqb c 0 (λ e. omega arith) in
    let b : ltb 2147483647 c ≡ false = le-ltb 2147483647 c (omega arith) in
    ap (λ t. t || ltb 2147483647 c) a ∙ b

module _ {M : Type 0} (w : Writing M) (q : ℕ) (small : q ≤ 2 ^ 30) where
  -- the challenge of a round that is read is one for a table
  pub round_inside : (place : ℕ) (bs : List ℕ) (x : Round M) → round_in w q place bs ≡ Ok x → outside x.challenge ≡ false
  round_inside place bs x e =
      let n : ℕ = number_in (drop (4 * w.width) bs) in
      let one = both_went (pair_in w q place bs) _ x e in
      let two = both_went (pair_in w q (place + 2 * w.width) (drop (2 * w.width) bs)) _ x one.2 in
      let three = both_went (challenge_in q (place + 4 * w.width) (drop (4 * w.width) bs)) _ x two.2 in
      let h : Ok (round_of one.0 two.0 three.0) ≡ Ok x = three.2 in
      let same : round_of one.0 two.0 three.0 ≡ x = cc in
      let t = taken (ltb 0 n && ltb n q) n three.0 (NotAChallengeAt (place + 4 * w.width)) three.1 in
      let p = both_true (ltb 0 n) (ltb n q) t.0 in
      let low : 0 < n = ltb-true 0 n p.0 in
      let high : n < q = ltb-true n q p.1 in
      let is : x.challenge ≡ n = sym (ap (λ (r : Round M). r.challenge) same) ∙ t.1 in
      inside x.challenge (omega arith) (omega arith)

  -- the rounds that are read are as many as were to be, and their challenges fit a table
  rest_rounds : (k place : ℕ) (bs : List ℕ) (rest : List (Round M) × (ℕ × ℕ)) → rest_in w q place k bs ≡ Ok rest → length (challenges_of rest.0) ≡ k
  rest_rounds zero place bs rest e =
      let one = both_went (last_in q place (take 8 bs)) _ rest e in
      let none : List (Round M) = [] in
      let h : Ok (none, one.0) ≡ Ok rest = one.2 in
      let same : (none, one.0) ≡ rest = cc in
      ap (λ (y : List (Round M) × (ℕ × ℕ)). length (challenges_of y.0)) (sym same)
  rest_rounds (suc k) place bs rest e =
      let size : ℕ = size_of_round w.width in
      let one = both_went (round_in w q place (take size bs)) _ rest e in
      let two = both_went (rest_in w q (place + size) k (drop size bs)) _ rest one.2 in
      let h : Ok (one.0 ∷ two.0.0, two.0.1) ≡ Ok rest = two.2 in
      let same : (one.0 ∷ two.0.0, two.0.1) ≡ rest = cc in
      ap (λ (z : List (Round M) × (ℕ × ℕ)). length (challenges_of z.0)) (sym same) ∙ ap suc (rest_rounds k (place + size) (drop size bs) two.0 two.1)

  -- a whole record has as many rounds as it says
  pub contents_rounds : (bs : List ℕ) (c : Contents M) → contents_in w q bs ≡ Ok c → length (challenges_of c.rounds) ≡ rounds_in bs
  contents_rounds bs c e =
      let one = both_went (shape_in w.width bs) _ c e in
      let shape = passed_on _ (rounds_in bs) one.0 one.1 in
      let two = both_went (pair_in w q 1 (take (size_of_claim w.width) (drop 1 bs))) _ c one.2 in
      let three = both_went (rest_in w q (1 + size_of_claim w.width) one.0 (drop (size_of_claim w.width) (drop 1 bs))) _ c two.2 in
      let rest : List (Round M) × (ℕ × ℕ) = three.0 in
      let made : Contents M = record { commitments = two.0; rounds = rest.0; last_pair = rest.1 } in
      let h : Ok made ≡ Ok c = three.2 in
      let same : made ≡ c = cc in
      ap (λ (d : Contents M). length (challenges_of d.rounds)) (sym same)
      ∙ rest_rounds one.0 (1 + size_of_claim w.width) (drop (size_of_claim w.width) (drop 1 bs)) rest three.1 ∙ shape.2

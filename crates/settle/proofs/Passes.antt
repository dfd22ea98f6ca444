-- The record of lists and challenges that can be played is passed. Assumes nothing.
use Rattle.std.proofs.Common.{◌≡◌, ℕ, ◌<◌, ◌≤◌, true, ◌&&◌, List, [], ◌∷◌, length, Ok, sym, refl, ap, ◌∙◌, subst, ap₂, mod-eq_of_lt, arith}
use Rattle.protocol.proofs.Claims.{complete}
use Rattle.protocol.specs.Halving.{FoldedPasses, LastPasses, rounds}
use Rattle.kind.proofs.Steps.{went}
use Rattle.kind.specs.Bytes.{Writing, WellWritten}
use Rattle.kind.specs.Faults.{wrapped}
use Rattle.kind.specs.Kinds.{Meaning, Lawful, AllElements}
use Rattle.kind.specs.declared.pair.Pair.{Pair}
use Rattle.method.specs.Commitments.{fold_commitments}
use Rattle.method.specs.Meaning.{method_refused, method_answer, reduced, verdict_of}
use Rattle.ledger.proofs.Agreement.{standing, no_refusal}
use Rattle.ledger.proofs.Play.{playable_more}
use Rattle.ledger.specs.Ledger.{lower, upper, Last}
use Rattle.ledger.specs.Rules.{Lists, folded, claim_of, message_of}
use Rattle.ledger.specs.Script.{Challenges, Playable}
use Rattle.writer.specs.Whole.{whole_refused}
use Rattle.writer.specs.Records.{rounds_of, last_pair_of, proof_of, record_of}
use Rattle.record.specs.Answers.{reckoned_answer, record_answer}
use Rattle.record.specs.Contents.{contents_in}
use Rattle.record.specs.Folded.{challenges_of, folded_by, reckoned}
use Rattle.record.specs.declared.fault.RecordFault.TheVariants.{Method}
use Rattle.writer.specs.Answers.{lists_of}
use Rattle.writer.proofs.Lengths.{rounds_count}
use Rattle.settle.specs.Meeting.{Writable}
use Rattle.settle.proofs.Reading.{reads_back}
use Rattle.writer.proofs.Unrefused.{unrefused}

module _ {M E : Type 0} (s : Meaning M E) where
  reduced_same : (cs : List ℕ) → Challenges s.order cs → reduced s cs ≡ cs
  reduced_same [] ok = refl
  reduced_same (c ∷ cs) ok = ap₂ ◌∷◌ (mod-eq_of_lt ok.1) (reduced_same cs ok.2)

  module _ (key : M) where
    -- the record of a proof holds its challenges
    pub rounds_challenges : (cs : List ℕ) (x : Lists M) → challenges_of (rounds_of s key cs x) ≡ cs
    rounds_challenges [] x = refl
    rounds_challenges (c ∷ cs) x = ap (λ (ds : List ℕ). c ∷ ds) (rounds_challenges cs (folded s c x))

    -- a last pair that passes among the lists as folded passes by the record
    by_record : (cs : List ℕ) (x : Lists M) (z : Pair M) → LastPasses s.order s.group key (rounds s.order s.group key cs (standing x z))
        → let p = last_pair_of s key cs x in
        let end = folded_by s z (rounds_of s key cs x) in
        FoldedPasses s.order s.group key cs x.gs x.hs p.0 p.1 end.a end.b
    by_record [] x z h = h
    by_record (c ∷ cs) x z h = by_record cs (folded s c x) (fold_commitments s c (lower (message_of s key x)) z (upper (message_of s key x))) h

module _ {M E : Type 0} (s : Meaning M E) (laws : Lawful s) (key : M) where
  last_below : (cs : List ℕ) (x : Lists M) → Playable s x cs → ((last_pair_of s key cs x).0 < s.order) × ((last_pair_of s key cs x).1 < s.order)
  last_below [] x ok = (ok.l_below 0, ok.r_below 0)
  last_below (c ∷ cs) x ok = last_below cs (folded s c x) (playable_more s laws x c cs ok)

  -- what can be played can be written
  pub writable : (cs : List ℕ) (x : Lists M) → Playable s x cs → Writable s.order (proof_of s key cs x)
  writable cs x ok =
      let few = ok.few in
      let n = rounds_count s key cs x in
      let below = last_below cs x ok in
      record {
        few = omega arith;
        challenges = subst (Challenges s.order) (sym (rounds_challenges s key cs x)) ok.challenges;
        a_below = below.0;
        b_below = below.1;
      }

  -- and it passes
  passes_folded : (cs : List ℕ) (x : Lists M) → Playable s x cs
      → let p = last_pair_of s key cs x in
      let end = folded_by s (claim_of s key x) (rounds_of s key cs x) in
      FoldedPasses s.order s.group key cs x.gs x.hs p.0 p.1 end.a end.b
  passes_folded cs x ok =
      by_record s key cs x (claim_of s key x)
      (complete laws.group key cs (standing x (claim_of s key x))
      (record { gs = ok.gs; hs = ok.hs; l = ok.l; r = ok.r }) (record { one = refl; two = refl }))

  module _ (gs hs : List E) (l r cs : List ℕ) (ok : Playable s (lists_of s gs hs l r) cs) where
    abbrev start : Lists M
    start = lists_of s gs hs l r

    verdict_true : verdict_of s cs (folded_by s (claim_of s key start) (rounds_of s key cs start)) gs hs key (last_pair_of s key cs start).0 (last_pair_of s key cs start).1 ≡ true
    verdict_true =
        let p : ℕ × ℕ = last_pair_of s key cs start in
        let end : Pair M = folded_by s (claim_of s key start) (rounds_of s key cs start) in
        let both = subst (λ (ds : List ℕ). FoldedPasses s.order s.group key ds start.gs start.hs p.0 p.1 end.a end.b)
        (sym (reduced_same s cs ok.challenges)) (passes_folded cs start ok) in
        ap₂ ◌&&◌ (laws.same_so _ _ both.one) (laws.same_so _ _ both.two)

    not_refused : AllElements s gs → AllElements s hs → (we wn : ℕ) → length gs ≤ we → length gs ≤ wn
        → method_refused s cs gs hs (last_pair_of s key cs start).0 (last_pair_of s key cs start).1 we wn ≡ Ok tt
    not_refused all_gs all_hs we wn re rn =
        let p : ℕ × ℕ = last_pair_of s key cs start in
        let end : Last M E = record { gs = gs; hs = hs; key = key; a = p.0; b = p.1; elements = we; numbers = wn } in
        let below = last_below cs start ok in
        no_refusal s laws cs end start.gs start.hs ok.few ok.gs ok.hs (sym all_gs) (sym all_hs) re rn below.0 below.1

    method_passes : AllElements s gs → AllElements s hs → (we wn : ℕ) → length gs ≤ we → length gs ≤ wn
        → reckoned_answer s (reckoned s (proof_of s key cs start)) gs hs key we wn ≡ Ok true
    method_passes all_gs all_hs we wn re rn =
        let p : ℕ × ℕ = last_pair_of s key cs start in
        let end : Pair M = folded_by s (claim_of s key start) (rounds_of s key cs start) in
        ap (λ (ds : List ℕ). wrapped Method (method_answer s ds end gs hs key p.0 p.1 we wn) 0) (rounds_challenges s key cs start)
        ∙ ap (λ a. wrapped Method a 0) (went (method_refused s cs gs hs p.0 p.1 we wn) _ tt _ (not_refused all_gs all_hs we wn re rn) (ap Ok verdict_true))

-- The record of lists and challenges that are not refused is passed.
pub written_passes : {M E : Type 0} (s : Meaning M E) (laws : Lawful s) (w : Writing M) → WellWritten w
    → (gs hs : List E) (key : M) (l r cs : List ℕ) (out we wn : ℕ) → whole_refused s w.width gs hs l r cs out we wn ≡ Ok tt
    → (elements numbers : ℕ) → length gs ≤ elements → length gs ≤ numbers
    → record_answer s w (record_of s w key cs (lists_of s gs hs l r)) gs hs key elements numbers ≡ Ok true
written_passes s laws w good gs hs key l r cs out we wn e elements numbers re rn =
    let known = unrefused s laws w.width gs hs l r cs out we wn e in
    let x : Lists _ = lists_of s gs hs l r in
    went (contents_in w s.order (record_of s w key cs x)) _ (proof_of s key cs x) _
    (reads_back w good s.order laws.order_high (proof_of s key cs x) (writable s laws key cs x known.playable))
    (method_passes s laws key gs hs l r cs known.playable known.ready.all_g known.ready.all_h elements numbers re rn)

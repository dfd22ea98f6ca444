-- What is known of a case by the answer to its opening. Assumes nothing.
use Rattle.std.proofs.Common.{◌≡◌, ℕ, ◌^◌, ◌<◌, ◌≤◌, Bool, true, false, cond, ltb, leb, List, [], length, Some, None, Option, refl, ap, ◌∙◌, arith, leb-false}
use Rattle.kind.proofs.Listed.{length-elements}
use Rattle.kind.specs.Kinds.{Meaning, Lawful}
use Rattle.kind.specs.declared.pair.Pair.{Pair}
use Rattle.ledger.proofs.Play.{goes_through}
use Rattle.ledger.specs.Ledger.{Case, Ledger, Step, opening, step, opening_step, refuse, sort_after, stage_after, with_case, numbers_at, one_opened, one_judged, final}
use Rattle.ledger.specs.Rules.{Lists, claim_of, Follows}
use Rattle.ledger.specs.Script.{Playable, rest_of}
use Rattle.ledger.specs.declared.fault.StationFault.{StationFault}
use Rattle.ledger.specs.declared.fault.StationFault.TheVariants.{CaseOpen, TooManyRounds, PageFull}
use Rattle.ledger.specs.declared.parts.Answer.TheVariants.{Token, Verdict, Withdrawn}
use Rattle.ledger.specs.declared.parts.Numbers.{Numbers}
use Rattle.ledger.specs.declared.parts.Sort.{Sort}
use Rattle.writer.specs.Answers.{lists_of}
use Rattle.settle.specs.Cases.{passed_if_opened, token_after, calls_from, calls_after, last_answer}
use Rattle.settle.proofs.Passing.{opened_passes}

-- An opening is refused and alters nothing, or it opens the case.
module _ {M : Type 0} (l : Ledger M) (k : ℕ) (z : Pair M) (P : Step M → Type 0) where
  abbrev taken : Step M
  taken = record {
    answer = Token (sort_after k 0) (numbers_at l.number (one_opened l.page) 0);
    ledger = with_case l (one_opened l.page) (Some (record { k = k; rounds = 0; stage = stage_after k 0; z = z; challenges = [] }));
  }

  by_opening : ((why : StationFault) → P (refuse l why)) → (l.running ≡ None → l.page.opened < 10000 → P taken) → P (opening_step l k z l.running)
  by_opening refused opens = go l.running refl
    where
      go : (run : Option (Case M)) → l.running ≡ run → P (opening_step l k z run)
      go (Some e) is = refused CaseOpen
      go None is = few (ltb 8 k)
        where
          room : (b : Bool) → leb 10000 l.page.opened ≡ b → P (cond b (refuse l PageFull) taken)
          room true e = refused PageFull
          room false e = opens is (leb-false 10000 l.page.opened e)

          few : (b : Bool) → P (cond b (refuse l TooManyRounds) (cond (leb 10000 l.page.opened) (refuse l PageFull) taken))
          few true = refused TooManyRounds
          few false = room (leb 10000 l.page.opened) refl

module _ {M : Type 0} (l : Ledger M) (k : ℕ) (z : Pair M) where
  abbrev opens : Step M
  opens = opening_step l k z l.running

  -- no case was open, and the page had room
  abbrev Room : Type 0
  Room = (l.running ≡ None) × (l.page.opened < 10000)

  -- a token was given
  token_given : (sort : Sort) (t : Numbers) → opens.answer ≡ Token sort t → Room × (t ≡ numbers_at l.number (one_opened l.page) 0)
  token_given sort t =
      by_opening l k z (λ (out : Step M). out.answer ≡ Token sort t → Room × (t ≡ numbers_at l.number (one_opened l.page) 0))
      (λ why e. absurd (let w : ◌≡◌ {A = ℕ} 0 1 = cc in omega arith)) (λ none room e. ((none, room), cc))

  -- a pass was answered
  passed_room : passed_if_opened opens.answer ≡ Verdict true → Room
  passed_room =
      by_opening l k z (λ (out : Step M). passed_if_opened out.answer ≡ Verdict true → Room)
      (λ why e. absurd (let w : ◌≡◌ {A = ℕ} 0 1 = cc in omega arith)) (λ none room e. (none, room))

  -- no token was given
  pub none_given : ((sort : Sort) (t : Numbers) → opens.answer ≡ Token sort t → ⊥) → (why : StationFault) × (opens ≡ refuse l why)
  none_given =
      by_opening l k z (λ (out : Step M). ((sort : Sort) (t : Numbers) → out.answer ≡ Token sort t → ⊥) → (why : StationFault) × (out ≡ refuse l why))
      (λ why no_token. (why, refl)) (λ none room no_token. absurd (no_token _ _ refl))

module _ {M E : Type 0} (s : Meaning M E) (laws : Lawful s) (l0 : Ledger M) (gs hs : List E) (key : M) (l r cs : List ℕ) (ok : Playable s (lists_of s gs hs l r) cs) where
  abbrev lists : Lists M
  lists = lists_of s gs hs l r

  abbrev first : Step M
  first = step s l0 (opening (length cs) (claim_of s key lists))

  long : 2 ^ length cs ≤ length gs
  long = let e = length-elements s gs in let f = ok.gs in omega arith

  -- with the token t the rest of the calls ends in a pass, and they are all of the case's
  pub record GoesWell (t : Numbers) : Type 0 where
    pub passes : last_answer s first.ledger Withdrawn (calls_after s t gs hs key l r cs) ≡ Verdict true
    pub calls : final s first.ledger (calls_after s t gs hs key l r cs) ≡ final s l0 (calls_from s l0 gs hs key l r cs)

  pub goes_well : (sort : Sort) (t : Numbers) → first.answer ≡ Token sort t → GoesWell t
  goes_well sort t e =
      let known = token_given l0 (length cs) (claim_of s key lists) sort t e in
      let same = ap (λ (u : Numbers). rest_of s key (length gs) (length gs) (token_after u) lists lists 0 cs) known.1 in
      record {
        passes = ap (last_answer s first.ledger Withdrawn) same
            ∙ opened_passes s laws l0 known.0.0 known.0.1 lists key cs (length gs) (length gs) Withdrawn ok long long;
        calls = ap (final s first.ledger) same;
      }

  -- where it passes, the calls follow the rules, and the page counts it
  pub as_published : passed_if_opened first.answer ≡ Verdict true
      → Follows s lists key (calls_from s l0 gs hs key l r cs) × ((final s l0 (calls_from s l0 gs hs key l r cs)).page ≡ one_judged true (one_opened l0.page))
  as_published e =
      let room = passed_room l0 (length cs) (claim_of s key lists) e in
      goes_through s laws l0 room.0 room.1 lists key cs (length gs) (length gs) ok long long

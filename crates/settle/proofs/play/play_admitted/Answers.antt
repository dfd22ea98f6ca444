use Rattle.std.proofs.Common.{◌≡◌, ℕ, true, List, length, replicate, Ok, Result, sym, ap, ◌∙◌}
use Rattle.kind.specs.Kinds.{unit_entry}
use Rattle.ledger.specs.Ledger.{Step, opening, step, final}
use Rattle.ledger.specs.Rules.{claim_of}
use Rattle.ledger.specs.declared.fault.StationFault.{StationFault}
use Rattle.ledger.specs.declared.parts.Answer.{Answer}
use Rattle.ledger.specs.declared.parts.Answer.TheVariants.{Token, Verdict, Withdrawn, Refused}
use Rattle.station.specs.View.{ledger_of}
use Rattle.writer.specs.Answers.{lists_of}
use Rattle.writer.specs.declared.fault.WriterFault.{WriterFault}
use Rattle.settle.specs.Cases.{passed_if_opened, if_judged, calls_from, calls_after, last_answer}
use Rattle.settle.proofs.Free.{claim_free}
use Rattle.settle.proofs.Opening.{goes_well, none_given}
use Rattle.settle.proofs.play.play_admitted.Goals as goal

-- a work list of which n entries are x after a pass
cleared : {A : Type 0} {a : Result Answer WriterFault} → a ≡ Ok (Verdict true) → (x : A) (n : ℕ) (xs : List A) → n ≡ length xs → replicate n x ≡ if_judged a (replicate (length xs) x) xs
cleared v x n xs e = ap (λ (m : ℕ). replicate m x) e ∙ ap (λ (b : Result Answer WriterFault). if_judged b (replicate (length xs) x) xs) (sym v)

-- what a refusal leaves
untouched : {A : Type 0} {a : Answer} {why : StationFault} → a ≡ Refused why → (x y : A) → y ≡ if_judged {F = WriterFault} (Ok a) x y
untouched is x y = ap (λ (b : Answer). if_judged {F = WriterFault} (Ok b) x y) (sym is)

pub open_case-requires : goal.open_case-requires
open_case-requires g c =
    claim_free g.K.Kind.meaning g.K.Kind.laws c.args.bases.now.g.now c.args.bases.now.h.now c.args.l.now c.args.r.now c.args.cs.now
    c.requires.ready.all_g c.requires.ready.all_h c.requires.playable

pub returns-in-Token : goal.returns-in-Token
returns-in-Token g c =
    let s = g.K.Kind.meaning in
    let u = unit_entry s in
    let gs = c.args.bases.now.g.now in
    let hs = c.args.bases.now.h.now in
    let l : List ℕ = c.args.l.now in
    let r : List ℕ = c.args.r.now in
    let cs : List ℕ = c.args.cs.now in
    let key = c.args.bases.now.key in
    let t = c.in-Token.token in
    let l0 = ledger_of c.args.station.now in
    let z = claim_of s key (lists_of s gs hs l r) in
    let first = step s l0 (opening (length cs) z) in
    let was = c.in_ok-opened.was in
    let is = c.in-Token.is in
    let answer = c.open_case.ensures.answer in
    let given : first.answer ≡ Token c.in-Token.field-0 t = cc in
    let well = goes_well s g.K.Kind.laws l0 gs hs key l r cs c.requires.playable c.in-Token.field-0 t given in
    let told = c.play_rounds.ensures in
    let begin = c.open_case.ensures.ledger in
    let fl = c.copy_from_slice-in-Token-2.ensures.after in
    let fr = c.copy_from_slice-in-Token-3.ensures.after in
    let long_g = ap length c.copy_from_slice.ensures.after ∙ sym c.requires.room_g in
    let long_h = ap length c.copy_from_slice-in-Token.ensures.after ∙ c.requires.ready.long_h ∙ sym c.requires.room_h in
    let long_l = ap length fl ∙ c.requires.ready.long_l ∙ sym c.requires.room_l in
    let long_r = ap length fr ∙ c.requires.ready.long_r ∙ sym c.requires.room_r in
    let verdict : c.play_rounds.result ≡ Ok (Verdict true) =
    told.answer ∙ (λ i. Ok (last_answer s (begin i) Withdrawn (calls_after s t gs hs key (fl i) (fr i) cs))) ∙ ap (λ (a : Answer). Ok a) well.passes in
    record {
      answer = verdict ∙ ap (λ (a : Answer). Ok (passed_if_opened a)) (sym given);
      ledger = told.ledger ∙ (λ i. final s (begin i) (calls_after s t gs hs key (fl i) (fr i) cs)) ∙ well.calls
          ∙ ap (λ (x : Result Answer WriterFault). if_judged x (final s l0 (calls_from s l0 gs hs key l r cs)) l0) (sym verdict);
      kept = told.kept ∙ c.open_case.ensures.kept;
      g = told.g verdict ∙ cleared verdict u _ c.args.fold_g.now long_g;
      h = told.h verdict ∙ cleared verdict u _ c.args.fold_h.now long_h;
      l = told.l verdict ∙ cleared verdict 0 _ c.args.fold_l.now long_l;
      r = told.r verdict ∙ cleared verdict 0 _ c.args.fold_r.now long_r;
    }

pub returns-in_default : goal.returns-in_default
returns-in_default g c =
    let s = g.K.Kind.meaning in
    let u = unit_entry s in
    let gs = c.args.bases.now.g.now in
    let hs = c.args.bases.now.h.now in
    let l : List ℕ = c.args.l.now in
    let r : List ℕ = c.args.r.now in
    let cs : List ℕ = c.args.cs.now in
    let key = c.args.bases.now.key in
    let l0 = ledger_of c.args.station.now in
    let z = claim_of s key (lists_of s gs hs l r) in
    let first = step s l0 (opening (length cs) z) in
    let a = c.in_ok-opened.opened in
    let was = c.in_ok-opened.was in
    let told = c.open_case.ensures in
    let answer = told.answer in
    let given : first.answer ≡ a = cc in
    let shut = none_given l0 (length cs) z (λ sort t e. c.in_default.not-Token sort t (sym given ∙ e)) in
    let is : a ≡ Refused shut.0 = sym given ∙ ap (λ (o : Step _). o.answer) shut.1 in
    record {
      answer = ap (λ (b : Answer). Ok b) is ∙ ap (λ (o : Step _). Ok (passed_if_opened o.answer)) (sym shut.1);
      ledger = told.ledger ∙ ap (λ (o : Step _). o.ledger) shut.1 ∙ untouched is (final s l0 (calls_from s l0 gs hs key l r cs)) l0;
      kept = told.kept;
      g = told.g ∙ untouched is (replicate (length c.args.fold_g.now) u) c.args.fold_g.now;
      h = untouched is (replicate (length c.args.fold_h.now) u) c.args.fold_h.now;
      l = told.l ∙ untouched is (replicate (length c.args.fold_l.now) 0) c.args.fold_l.now;
      r = untouched is (replicate (length c.args.fold_r.now) 0) c.args.fold_r.now;
    }

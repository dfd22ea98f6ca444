use Rattle.std.proofs.Common.{◌≡◌, ℕ, ◌≤◌, true, List, ◌++◌, length, take, drop, replicate, Ok, Err, Result, sym, refl, ap, ◌∙◌, rules}
use Rattle.std.proofs.lemmas.List.{length-take-le}
use Rattle.kind.proofs.Steps.{went}
use Rattle.kind.specs.Kinds.{unit_entry}
use Rattle.ledger.specs.Ledger.{Ledger, final}
use Rattle.ledger.specs.declared.parts.Answer.{Answer}
use Rattle.ledger.specs.declared.parts.Answer.TheVariants.{Token, Verdict, Withdrawn, Turned, Refused}
use Rattle.method.proofs.Refused.{cleared_part}
use Rattle.station.proofs.Turns.{part_same}
use Rattle.station.specs.View.{ledger_of}
use Rattle.writer.specs.declared.fault.WriterFault.{WriterFault}
use Rattle.settle.specs.Cases.{if_judged, passed_if_opened, opening_answer, calls_from}
use Rattle.settle.proofs.Admitting.{free}
use Rattle.settle.proofs.Opening.{as_published}
use Rattle.settle.proofs.play.play_case.Goals as goal

one_answer : (x : Result Answer WriterFault) (a b : Answer) → x ≡ Ok a → x ≡ Ok b → a ≡ b
one_answer x a b p q = cc

-- the first n of xs were lent, and are ys now
lent : {A : Type 0} (a : Result Answer WriterFault) (xs ys : List A) (n : ℕ) (u : A) → n ≤ length xs
    → ys ≡ if_judged a (replicate (length (take n xs)) u) (take n xs)
    → ys ++ drop n xs ≡ if_judged a (replicate n u ++ drop n xs) xs
lent (Ok (Token sort t)) xs ys n u room is = part_same xs ys n is
lent (Ok (Verdict b)) xs ys n u room is = cleared_part xs ys n n u refl room is
lent (Ok Withdrawn) xs ys n u room is = part_same xs ys n is
lent (Ok (Turned p)) xs ys n u room is = part_same xs ys n is
lent (Ok (Refused why)) xs ys n u room is = part_same xs ys n is
lent (Err why) xs ys n u room is = part_same xs ys n is

pub slice_bounds-play_admitted-end : goal.slice_bounds-play_admitted-end
slice_bounds-play_admitted-end g c =
    let e = sym c.admit_play.ensures ∙ c.in_ok-admit_play.was in
    let a = free g.K.Kind.meaning g.K.Kind.laws c.args.bases.now.g.now c.args.bases.now.h.now c.args.l.now c.args.r.now c.args.challenges.now
    (length c.args.fold_g.now) (length c.args.fold_h.now) (length c.args.fold_l.now) (length c.args.fold_r.now) e in
    let fits = a.roomy.room_g in
    search rules

pub slice_bounds-play_admitted-end-2 : goal.slice_bounds-play_admitted-end-2
slice_bounds-play_admitted-end-2 g c =
    let e = sym c.admit_play.ensures ∙ c.in_ok-admit_play.was in
    let a = free g.K.Kind.meaning g.K.Kind.laws c.args.bases.now.g.now c.args.bases.now.h.now c.args.l.now c.args.r.now c.args.challenges.now
    (length c.args.fold_g.now) (length c.args.fold_h.now) (length c.args.fold_l.now) (length c.args.fold_r.now) e in
    let fits = a.roomy.room_g in
    search rules

pub slice_bounds-play_admitted-end-3 : goal.slice_bounds-play_admitted-end-3
slice_bounds-play_admitted-end-3 g c =
    let e = sym c.admit_play.ensures ∙ c.in_ok-admit_play.was in
    let a = free g.K.Kind.meaning g.K.Kind.laws c.args.bases.now.g.now c.args.bases.now.h.now c.args.l.now c.args.r.now c.args.challenges.now
    (length c.args.fold_g.now) (length c.args.fold_h.now) (length c.args.fold_l.now) (length c.args.fold_r.now) e in
    let fits = a.roomy.room_h in
    search rules

pub slice_bounds-play_admitted-end-4 : goal.slice_bounds-play_admitted-end-4
slice_bounds-play_admitted-end-4 g c =
    let e = sym c.admit_play.ensures ∙ c.in_ok-admit_play.was in
    let a = free g.K.Kind.meaning g.K.Kind.laws c.args.bases.now.g.now c.args.bases.now.h.now c.args.l.now c.args.r.now c.args.challenges.now
    (length c.args.fold_g.now) (length c.args.fold_h.now) (length c.args.fold_l.now) (length c.args.fold_r.now) e in
    let fits = a.roomy.room_h in
    search rules

pub slice_bounds-play_admitted-end-5 : goal.slice_bounds-play_admitted-end-5
slice_bounds-play_admitted-end-5 g c =
    let e = sym c.admit_play.ensures ∙ c.in_ok-admit_play.was in
    let a = free g.K.Kind.meaning g.K.Kind.laws c.args.bases.now.g.now c.args.bases.now.h.now c.args.l.now c.args.r.now c.args.challenges.now
    (length c.args.fold_g.now) (length c.args.fold_h.now) (length c.args.fold_l.now) (length c.args.fold_r.now) e in
    let fits = a.roomy.room_l in
    search rules

pub slice_bounds-play_admitted-end-6 : goal.slice_bounds-play_admitted-end-6
slice_bounds-play_admitted-end-6 g c =
    let e = sym c.admit_play.ensures ∙ c.in_ok-admit_play.was in
    let a = free g.K.Kind.meaning g.K.Kind.laws c.args.bases.now.g.now c.args.bases.now.h.now c.args.l.now c.args.r.now c.args.challenges.now
    (length c.args.fold_g.now) (length c.args.fold_h.now) (length c.args.fold_l.now) (length c.args.fold_r.now) e in
    let fits = a.roomy.room_l in
    search rules

pub slice_bounds-play_admitted-end-7 : goal.slice_bounds-play_admitted-end-7
slice_bounds-play_admitted-end-7 g c =
    let e = sym c.admit_play.ensures ∙ c.in_ok-admit_play.was in
    let a = free g.K.Kind.meaning g.K.Kind.laws c.args.bases.now.g.now c.args.bases.now.h.now c.args.l.now c.args.r.now c.args.challenges.now
    (length c.args.fold_g.now) (length c.args.fold_h.now) (length c.args.fold_l.now) (length c.args.fold_r.now) e in
    let fits = a.roomy.room_r in
    search rules

pub slice_bounds-play_admitted-end-8 : goal.slice_bounds-play_admitted-end-8
slice_bounds-play_admitted-end-8 g c =
    let e = sym c.admit_play.ensures ∙ c.in_ok-admit_play.was in
    let a = free g.K.Kind.meaning g.K.Kind.laws c.args.bases.now.g.now c.args.bases.now.h.now c.args.l.now c.args.r.now c.args.challenges.now
    (length c.args.fold_g.now) (length c.args.fold_h.now) (length c.args.fold_l.now) (length c.args.fold_r.now) e in
    let fits = a.roomy.room_r in
    search rules

pub play_admitted-requires : goal.play_admitted-requires
play_admitted-requires g c =
    let n : ℕ = length c.args.bases.now.g.now in
    let e = sym c.admit_play.ensures ∙ c.in_ok-admit_play.was in
    let a = free g.K.Kind.meaning g.K.Kind.laws c.args.bases.now.g.now c.args.bases.now.h.now c.args.l.now c.args.r.now c.args.challenges.now
    (length c.args.fold_g.now) (length c.args.fold_h.now) (length c.args.fold_l.now) (length c.args.fold_r.now) e in
    record {
      ready = a.ready;
      playable = a.playable;
      room_g = length-take-le n c.args.fold_g.now a.roomy.room_g;
      room_h = length-take-le n c.args.fold_h.now a.roomy.room_h;
      room_l = length-take-le n c.args.fold_l.now a.roomy.room_l;
      room_r = length-take-le n c.args.fold_r.now a.roomy.room_r;
    }

pub returns : goal.returns
returns g c =
    let s = g.K.Kind.meaning in
    let u = unit_entry s in
    let n : ℕ = length c.args.bases.now.g.now in
    let l0 = ledger_of c.args.station.now in
    let e = sym c.admit_play.ensures ∙ c.in_ok-admit_play.was in
    let a = free g.K.Kind.meaning g.K.Kind.laws c.args.bases.now.g.now c.args.bases.now.h.now c.args.l.now c.args.r.now c.args.challenges.now
    (length c.args.fold_g.now) (length c.args.fold_h.now) (length c.args.fold_l.now) (length c.args.fold_r.now) e in
    let told = c.play_admitted.ensures in
    let last = c.play_admitted.new in
    let x = c.play_admitted.result in
    let first = opening_answer s l0 c.args.bases.now.g.now c.args.bases.now.h.now c.args.bases.now.key c.args.l.now c.args.r.now c.args.challenges.now in
    let after = final s l0 (calls_from s l0 c.args.bases.now.g.now c.args.bases.now.h.now c.args.bases.now.key c.args.l.now c.args.r.now c.args.challenges.now) in
    let answer = told.answer in
    let passed : x ≡ Ok (Verdict true) → passed_if_opened first ≡ Verdict true = λ v. one_answer x (passed_if_opened first) (Verdict true) answer v in
    let published = as_published s g.K.Kind.laws l0 c.args.bases.now.g.now c.args.bases.now.h.now c.args.bases.now.key c.args.l.now c.args.r.now c.args.challenges.now a.playable in
    record {
      answer = answer ∙ sym (went _ _ tt _ e refl);
      ledger = told.ledger;
      follows = λ v. (published (passed v)).0;
      counted = λ v. ap (λ (l : Ledger _). l.page) (told.ledger ∙ ap (λ (y : Result Answer WriterFault). if_judged y after l0) v) ∙ (published (passed v)).1;
      kept = told.kept;
      g = lent x c.args.fold_g.now last.fold_g n u a.roomy.room_g told.g;
      h = lent x c.args.fold_h.now last.fold_h n u a.roomy.room_h told.h;
      l = lent x c.args.fold_l.now last.fold_l n 0 a.roomy.room_l told.l;
      r = lent x c.args.fold_r.now last.fold_r n 0 a.roomy.room_r told.r;
    }

use Rattle.std.proofs.Common.{◌≡◌, ℕ, ◌-◌, ◌/◌, ◌<◌, ◌≤◌, true, List, length, replicate, Ok, Result, refl, ap, ◌∙◌, arith, rules}
use Rattle.kind.specs.Kinds.{unit_entry}
use Rattle.ledger.specs.declared.parts.Answer.{Answer}
use Rattle.ledger.specs.declared.parts.Answer.TheVariants.{Verdict}
use Rattle.station.specs.Calls.{after_verdict}
use Rattle.station.specs.View.{ledger_of}
use Rattle.writer.specs.Answers.{lists_of}
use Rattle.writer.specs.declared.fault.WriterFault.{WriterFault}
use Rattle.settle.proofs.Underway.{underway_start, next_free, underway_more, underway_end}
use Rattle.settle.proofs.play.play_rounds.Goals as goal

-- a list after a verdict
judged : {A : Type 0} (a : Answer) → ◌≡◌ {A = Result Answer WriterFault} (Ok a) (Ok (Verdict true)) → (x : A) (xs : List A) → after_verdict a x xs ≡ replicate (length xs) x
judged a v x xs =
    let is : a ≡ Verdict true = cc in
    ap (λ (b : Answer). after_verdict b x xs) is

pub loop-i-init : goal.loop-i-init
loop-i-init g c =
    let start = underway_start g.K.Kind.meaning c.args.bases.now.key c.args.token c.args.bases.now.g.now c.args.bases.now.h.now c.args.fold_l.now c.args.fold_r.now c.args.cs.now
    c.requires.ready c.requires.playable c.args.fold_g.now c.args.fold_h.now c.requires.g c.requires.h (ledger_of c.args.station.now) in
    (start, refl)

pub slice_bounds-play_round-end : goal.slice_bounds-play_round-end
slice_bounds-play_round-end g c =
    let within = c.loop-i.invariant.0.within in
    let long = ap length c.requires.g in
    let fits : c.loop-i.m ≤ length c.loop-i.fold_g = omega arith in
    search rules

pub slice_bounds-play_round-end-in-loop-i : goal.slice_bounds-play_round-end-in-loop-i
slice_bounds-play_round-end-in-loop-i g c =
    let within = c.loop-i.invariant.0.within in
    let long = ap length c.requires.h in
    let fits : c.loop-i.m ≤ length c.loop-i.fold_h = omega (arith, c.requires.ready.long_h) in
    search rules

pub slice_bounds-play_round-end-in-loop-i-2 : goal.slice_bounds-play_round-end-in-loop-i-2
slice_bounds-play_round-end-in-loop-i-2 g c =
    let within = c.loop-i.invariant.0.within in
    let fits : c.loop-i.m ≤ length c.loop-i.fold_l = omega (arith, c.requires.ready.long_l) in
    search rules

pub slice_bounds-play_round-end-in-loop-i-3 : goal.slice_bounds-play_round-end-in-loop-i-3
slice_bounds-play_round-end-in-loop-i-3 g c =
    let within = c.loop-i.invariant.0.within in
    let fits : c.loop-i.m ≤ length c.loop-i.fold_r = omega (arith, c.requires.ready.long_r) in
    search rules

pub play_round-requires : goal.play_round-requires
play_round-requires g c =
    let m : ℕ = c.loop-i.m in
    let e : m - 0 ≡ m = omega arith in
    let lt : c.loop-i.i < length c.args.cs.now = omega arith in
    next_free g.K.Kind.meaning c.args.bases.now.key c.args.token (length c.args.bases.now.g.now) _ c.args.cs.now c.loop-i.invariant.0 g.K.Kind.laws lt (m - 0) e

pub loop-i-preserved : goal.loop-i-preserved
loop-i-preserved g c =
    let s = g.K.Kind.meaning in
    let m : ℕ = c.loop-i.m in
    let e : m - 0 ≡ m = omega arith in
    let lt : c.loop-i.i < length c.args.cs.now = omega arith in
    let told = c.play_round.ensures in
    let last = c.play_round.new in
    let x = lists_of s c.args.bases.now.g.now c.args.bases.now.h.now c.args.fold_l.now c.args.fold_r.now in (
      underway_more s c.args.bases.now.key c.args.token (length c.args.bases.now.g.now) x c.args.cs.now c.loop-i.invariant.0 g.K.Kind.laws lt (m - 0) (m / 2) e refl
          (ledger_of last.station) last.g last.h _ _ _ _ last.l last.r _ _ _ _ told.ledger told.g told.h told.l told.r,
      told.kept ∙ c.loop-i.invariant.1,
    )

pub returns : goal.returns
returns g c =
    let s = g.K.Kind.meaning in
    let u = unit_entry s in
    let kept = c.loop-i.auto in
    let over = c.loop-i-test.false in
    let all : c.loop-i.i ≡ length c.args.cs.now = omega arith in
    let told = c.close_case.ensures in
    let a = c.close_case.result in
    let x = lists_of s c.args.bases.now.g.now c.args.bases.now.h.now c.args.fold_l.now c.args.fold_r.now in
    let end = underway_end s c.args.bases.now.key c.args.token (length c.args.bases.now.g.now) x c.args.cs.now c.loop-i.invariant.0
    c.args.bases.now.g.now c.args.bases.now.h.now c.requires.ready.all_g c.requires.ready.all_h all in
    record {
      answer = ap Ok (told.answer ∙ end.1);
      ledger = told.ledger ∙ end.0;
      kept = told.kept ∙ c.loop-i.invariant.1;
      g = λ v. told.g ∙ judged a v u c.loop-i.fold_g ∙ ap (λ (n : ℕ). replicate n u) kept.fold_g;
      h = λ v. told.h ∙ ap (λ (n : ℕ). replicate n u) kept.fold_h;
      l = λ v. told.l ∙ judged a v 0 c.loop-i.fold_l ∙ ap (λ (n : ℕ). replicate n 0) kept.fold_l;
      r = λ v. told.r ∙ ap (λ (n : ℕ). replicate n 0) kept.fold_r;
    }

use Rattle.std.proofs.Common.{◌≡◌, ℕ, ◌<◌, min, length, take, drop, replicate, ap, ◌∙◌, subst, arith}
use Rattle.std.proofs.lemmas.List.{get_or-take, length-take-le, take_more_set, drop-set-lt}
use Rattle.kind.specs.Kinds.{unit_entry}
use Rattle.station.proofs.Turns.{turn, done, drop_less}
use Rattle.station.proofs.replay.replay.Goals as goal

pub loop-i-preserved : goal.loop-i-preserved
loop-i-preserved g c =
    let told = c.perform-answer.ensures in
    let calls = c.args.calls.now in
    let out = c.loop-i.out in
    let i = c.loop-i.i in
    let n = c.min-n.result in
    let due : n ≡ min (length calls) (length c.args.out.now) = c.min-n.ensures in
    let long : length (take n calls) ≡ n = length-take-le n calls (omega arith) in
    let below : i < n = omega arith in (
      turn _ _ _ _ _ _ _ _ _ _ c.call-item.result _ _ _ c.loop-i.auto.elements c.loop-i.auto.numbers (omega arith)
          (c.call-item.is ∙ get_or-take n calls i _ below) (take_more_set out i _ (omega arith)) told.answer c.page.ensures told.ledger c.loop-i.invariant.0,
      drop-set-lt n out i _ below ∙ c.loop-i.invariant.1,
      told.kept ∙ c.loop-i.invariant.2,
    )

pub returns : goal.returns
returns g c =
    let inv = c.loop-i.invariant in
    let calls = c.args.calls.now in
    let out = c.loop-i.out in
    let same : length out ≡ length c.args.out.now = c.loop-i.auto.out in
    let n = c.min-n.result in
    let due : n ≡ min (length calls) (length c.args.out.now) = c.min-n.ensures in
    let long : length (take n calls) ≡ n = length-take-le n calls (omega arith) in
    let all : c.loop-i.i ≡ n = omega arith in
    record {
      promise =
          done g.K.Kind.meaning _ g.K.Kind.laws _ _ calls out _ n c.loop-i.i _ same due all inv.0;
      rest =
          drop_less c.args.out.now out (length calls) same
          (subst (λ (k : ℕ). drop k out ≡ drop k c.args.out.now) due inv.1);
      elements = c.clear_entries.ensures ∙ ap (λ (n : ℕ). replicate n (unit_entry g.K.Kind.meaning)) c.loop-i.auto.elements;
      numbers = c.fill.ensures.after (λ y e. e) ∙ ap (λ (n : ℕ). replicate n 0) c.loop-i.auto.numbers;
      method = c.close.ensures ∙ inv.2 ∙ c.new-station.ensures.method;
    }

use Rattle.std.proofs.Common.{◌≡◌, ℕ, List, map, length, Ok, refl, ap, ◌∙◌, ap₂, arith}
use Rattle.kind.proofs.Steps.{both_went, went}
use Rattle.kind.specs.Kinds.{unit_entry}
use Rattle.ledger.specs.Ledger.{step, message, draw}
use Rattle.ledger.specs.Rules.{folded, message_of}
use Rattle.ledger.specs.declared.parts.Sort.TheVariants.{Waiting, Heard}
use Rattle.station.specs.Calls.{call_of, work_after}
use Rattle.station.specs.View.{ledger_of}
use Rattle.station.specs.declared.call.Call.TheVariants.{Draw}
use Rattle.writer.specs.Answers.{lists_of, halved}
use Rattle.writer.specs.Refusals.{message_refused, fold_refused}
use Rattle.settle.proofs.play.play_round.Goals as goal

pub returns-in_err-sent : goal.returns-in_err-sent
returns-in_err-sent g c =
    let s = g.K.Kind.meaning in
    let gs = c.args.g.now in
    let hs = c.args.h.now in
    let l : List ℕ = c.args.l.now in
    let r : List ℕ = c.args.r.now in
    let free = (both_went (message_refused s gs hs l r) _ tt c.requires).1 in
    let was = c.in_err-sent.was in
    let is = c.message.ensures ∙ went (message_refused s gs hs l r) _ tt _ free refl in
    absurd (let z : ◌≡◌ {A = ℕ} 0 1 = cc in omega arith)

pub returns : goal.returns
returns g c =
    let s = g.K.Kind.meaning in
    let key = c.args.key in
    let gs = c.args.g.now in
    let hs = c.args.h.now in
    let l : List ℕ = c.args.l.now in
    let r : List ℕ = c.args.r.now in
    let x = lists_of s gs hs l r in
    let t = c.args.token in
    let start = ledger_of c.args.station.now in
    let free = (both_went (message_refused s gs hs l r) _ tt c.requires).1 in
    let was = c.in_ok-sent.was in
    let is = c.message.ensures ∙ went (message_refused s gs hs l r) _ tt _ free refl in
    let sent_is : c.in_ok-sent.sent ≡ message_of s key x = cc in
    let ch : ℕ = c.args.c in
    let one = c.message_call-telling.ensures in
    let two : c.draw_call-drawing.result ≡ Draw Heard t ch = c.draw_call-drawing.ensures in
    let a = c.perform.ensures in
    let b = c.perform-2.ensures in
    let f = c.fold.ensures in
    let g1 : c.perform.new.elements ≡ gs = a.elements ∙ ap (λ d. work_after d c.perform.result (unit_entry s) gs) one in
    let l1 : c.perform.new.numbers ≡ l = a.numbers ∙ ap (λ d. work_after d c.perform.result 0 l) one in
    let eg : c.perform-2.new.elements ≡ gs = b.elements ∙ ap (λ d. work_after d c.perform-2.result (unit_entry s) c.perform.new.elements) two ∙ g1 in
    let el : c.perform-2.new.numbers ≡ l = b.numbers ∙ ap (λ d. work_after d c.perform-2.result 0 c.perform.new.numbers) two ∙ l1 in
    let ok : c.fold.result ≡ Ok tt = f.answer ∙ ap₂ (λ a b. fold_refused s a hs b r ch) eg el ∙ c.requires in
    let heard = a.ledger ∙ ap (λ d. (step s start (call_of (length gs) (length l) d)).ledger) one ∙ ap (λ n. (step s start (message Waiting t n)).ledger) sent_is in
    record {
      answer = ok;
      ledger = b.ledger ∙ ap (λ d. (step s (ledger_of c.perform.new.station) (call_of (length c.perform.new.elements) (length c.perform.new.numbers) d)).ledger) two
          ∙ ap (λ n. (step s n (draw Heard t ch)).ledger) heard;
      kept = b.kept ∙ a.kept;
      g = f.g ∙ (λ i. halved (ok i) (map s.entry (folded s ch (lists_of s (eg i) hs (el i) r)).gs) (unit_entry s) (eg i));
      h = f.h ∙ (λ i. halved (ok i) (map s.entry (folded s ch (lists_of s (eg i) hs (el i) r)).hs) (unit_entry s) hs);
      l = f.l ∙ (λ i. halved (ok i) (folded s ch (lists_of s (eg i) hs (el i) r)).l 0 (el i));
      r = f.r ∙ (λ i. halved (ok i) (folded s ch (lists_of s (eg i) hs (el i) r)).r 0 r);
    }

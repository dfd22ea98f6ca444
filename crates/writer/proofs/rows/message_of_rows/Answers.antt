use Rattle.std.proofs.Common.{ℕ, ◌+◌, List, length, take, drop, sym, ap, ◌∙◌, arith, length-drop}
use Rattle.std.proofs.lemmas.List.{length-take-le}
use Rattle.kind.specs.Kinds.{elements}
use Rattle.ledger.specs.Rules.{message_of}
use Rattle.kind.proofs.Listed.{elements-take, elements-drop}
use Rattle.writer.proofs.rows.message_of_rows.Goals as goal

pub message_across-requires : goal.message_across-requires
message_across-requires g c =
    let es = c.args.elements.now.entries.now in
    let ns : List ℕ = c.args.numbers.now in
    let n : ℕ = c.args.n in
    let j : ℕ = c.args.m + c.args.m in
    let rows = c.requires.rows in
    let gs = c.cut-3.ensures.front in
    let hs = c.cut-4.ensures.front ∙ ap (take j) c.cut.ensures.back in
    let l = c.cut-5.ensures.front in
    let r = c.cut-6.ensures.front ∙ ap (take j) c.cut-2.ensures.back in
    let long_g = ap length gs ∙ length-take-le j es (omega (arith, c.requires.elements)) in
    let long_h = ap length hs ∙ length-take-le j (drop n es) (omega (arith, c.requires.elements, length-drop n es)) in
    let long_l = ap length l ∙ length-take-le j ns (omega (arith, c.requires.numbers)) in
    let long_r = ap length r ∙ length-take-le j (drop n ns) (omega (arith, c.requires.numbers, length-drop n ns)) in
    record {
      long = record {
        long_h = long_h ∙ sym long_g;
        long_l = long_l ∙ sym long_g;
        long_r = long_r ∙ sym long_g;
      };
      even = omega (arith, long_g);
    }

pub returns : goal.returns
returns g c =
    let s = g.K.Kind.meaning in
    let es = c.args.elements.now.entries.now in
    let n : ℕ = c.args.n in
    let j : ℕ = c.args.m + c.args.m in
    let gs = ap (elements s) c.cut-3.ensures.front ∙ elements-take s j es in
    let hs = ap (elements s) (c.cut-4.ensures.front ∙ ap (take j) c.cut.ensures.back) ∙ elements-take s j (drop n es) ∙ ap (take j) (elements-drop s n es) in
    let l = c.cut-5.ensures.front in
    let r = c.cut-6.ensures.front ∙ ap (take j) c.cut-2.ensures.back in
    c.message_across.ensures ∙ (λ i. message_of s c.args.key (record { gs = gs i; hs = hs i; l = l i; r = r i }))

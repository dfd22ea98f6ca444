use Rattle.std.proofs.Common.{◌≡◌, ℕ, ◌^◌, List, length, sym, refl, ap, ◌∙◌, subst, arith, rules}
use Rattle.kind.specs.Kinds.{AllElements}
use Rattle.ledger.specs.Rules.{claim_of}
use Rattle.kind.proofs.Listed.{all_append}
use Rattle.writer.specs.Answers.{lists_of}
use Rattle.writer.specs.Laying.{Laid}
use Rattle.writer.specs.Records.{rest_of}
use Rattle.writer.proofs.Copies.{copied, record_laid, rest_none}
use Rattle.writer.proofs.Laid.{kept}
use Rattle.writer.proofs.Lengths.{front_long}
use Rattle.writer.proofs.whole.write_record.Goals as goal

pub put_last-requires : goal.put_last-requires
put_last-requires g c =
    let s = g.K.Kind.meaning in
    let x = lists_of s c.args.bases.now.g.entries.now c.args.bases.now.h.entries.now c.args.l.now c.args.r.now in
    let l = front_long g.K.WrittenKind.writing g.met.K.WrittenKind.writes (length c.args.cs.now) (claim_of s c.args.bases.now.key x) in
    let at = c.put_front-at.ensures.to in
    let same = kept c.put_front-at.ensures in
    omega (arith, c.requires.room_out)

pub returns-then-is_empty : goal.returns-then-is_empty
returns-then-is_empty g c =
    let s = g.K.Kind.meaning in
    let w = g.K.WrittenKind.writing in
    let key = c.args.bases.now.key in
    let cs : List ℕ = c.args.cs.now in
    let x = lists_of s c.args.bases.now.g.entries.now c.args.bases.now.h.entries.now c.args.l.now c.args.r.now in
    let none : length cs ≡ 0 = search rules in
    let one : length c.args.l.now ≡ 1 = c.requires.long.long_l ∙ c.requires.size ∙ ap (λ (k : ℕ). 2 ^ k) none in
    let rest = subst (λ bs. Laid c.put_front-at.result bs c.put_front-at.new.out c.put_last.new.out c.put_last.result)
    (rest_none s w key cs x c.copy_rows.new.work none c.copy_rows.ensures one) c.put_last.ensures in
    record {
      out = record_laid s w key cs x c.put_front-at.ensures rest;
      elements = search rules;
      numbers = search rules;
    }

pub put_rounds-end-requires : goal.put_rounds-end-requires
put_rounds-end-requires g c =
    let s = g.K.Kind.meaning in
    let a = c.args.bases.now.g.entries.now in
    let b = c.args.bases.now.h.entries.now in
    let x = lists_of s a b c.args.l.now c.args.r.now in
    let l = front_long g.K.WrittenKind.writing g.met.K.WrittenKind.writes (length c.args.cs.now) (claim_of s c.args.bases.now.key x) in
    let at = c.put_front-at.ensures.to in
    let same = kept c.put_front-at.ensures in
    record {
      checked = subst (AllElements s) (sym c.copy_rows-2.ensures) (all_append s a b c.args.bases.now.g.checked c.args.bases.now.h.checked);
      elements = omega (arith, c.requires.room_elements);
      numbers = omega (arith, c.requires.room_numbers);
      size = c.requires.size;
      room = omega (arith, c.requires.room_out);
    }

pub returns : goal.returns
returns g c =
    let s = g.K.Kind.meaning in
    let w = g.K.WrittenKind.writing in
    let key = c.args.bases.now.key in
    let cs : List ℕ = c.args.cs.now in
    let a = c.args.bases.now.g.entries.now in
    let b = c.args.bases.now.h.entries.now in
    let x = lists_of s a b c.args.l.now c.args.r.now in
    let lists = copied s (length a) a b c.copy_rows-2.new.work c.args.l.now c.args.r.now c.copy_rows.new.work
    c.copy_rows-2.ensures c.copy_rows.ensures refl c.requires.long.long_h c.requires.long.long_l c.requires.long.long_r in
    let rest = subst (λ y. Laid c.put_front-at.result (rest_of s w key cs y) c.put_front-at.new.out c.put_rounds-end.new.out c.put_rounds-end.result)
    lists c.put_rounds-end.ensures in
    record {
      out = record_laid s w key cs x c.put_front-at.ensures rest;
      elements = search rules;
      numbers = search rules;
    }

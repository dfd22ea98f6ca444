use Rattle.std.proofs.Common.{◌≡◌, ℕ, ◌+◌, List, ◌++◌, length, drop, Ok, sym, refl, ap, ◌∙◌, subst, ap₂, arith, rules}
use Rattle.kind.specs.Faults.{and_then}
use Rattle.kind.specs.Kinds.{unit_entry}
use Rattle.std.proofs.lemmas.List.{length-take-le}
use Rattle.kind.proofs.Steps.{went}
use Rattle.method.proofs.Refused.{cleared_part}
use Rattle.record.specs.Parts.{record_length}
use Rattle.writer.specs.Answers.{lists_of}
use Rattle.writer.specs.Laying.{Laid}
use Rattle.writer.specs.Records.{record_of}
use Rattle.writer.proofs.Lengths.{record_long}
use Rattle.writer.proofs.Unrefused.{unrefused}
use Rattle.writer.proofs.whole.whole_proof.Goals as goal

pub overflow_add-twice : goal.overflow_add-twice
overflow_add-twice g c =
    let e = sym c.admit_whole.ensures.refused ∙ ap (λ r. and_then r (λ _. Ok tt)) c.in_ok-g.was in
    let a = unrefused g.K.Kind.meaning g.K.Kind.laws g.K.WrittenKind.writing.width c.args.bases.now.g.now c.args.bases.now.h.now c.args.l.now c.args.r.now
    c.args.challenges.now (length c.args.out.now) (length c.args.work_elements.now) (length c.args.work_numbers.now) e in
    let fits = a.roomy.elements_fit in
    search rules

pub slice_bounds-write_record-end : goal.slice_bounds-write_record-end
slice_bounds-write_record-end g c =
    let e = sym c.admit_whole.ensures.refused ∙ ap (λ r. and_then r (λ _. Ok tt)) c.in_ok-g.was in
    let a = unrefused g.K.Kind.meaning g.K.Kind.laws g.K.WrittenKind.writing.width c.args.bases.now.g.now c.args.bases.now.h.now c.args.l.now c.args.r.now
    c.args.challenges.now (length c.args.out.now) (length c.args.work_elements.now) (length c.args.work_numbers.now) e in
    let fits = a.roomy.elements_fit in
    search rules

pub slice_bounds-write_record-end-2 : goal.slice_bounds-write_record-end-2
slice_bounds-write_record-end-2 g c =
    let e = sym c.admit_whole.ensures.refused ∙ ap (λ r. and_then r (λ _. Ok tt)) c.in_ok-g.was in
    let a = unrefused g.K.Kind.meaning g.K.Kind.laws g.K.WrittenKind.writing.width c.args.bases.now.g.now c.args.bases.now.h.now c.args.l.now c.args.r.now
    c.args.challenges.now (length c.args.out.now) (length c.args.work_elements.now) (length c.args.work_numbers.now) e in
    let fits = a.roomy.elements_fit in
    search rules

pub slice_bounds-write_record-end-3 : goal.slice_bounds-write_record-end-3
slice_bounds-write_record-end-3 g c =
    let e = sym c.admit_whole.ensures.refused ∙ ap (λ r. and_then r (λ _. Ok tt)) c.in_ok-g.was in
    let a = unrefused g.K.Kind.meaning g.K.Kind.laws g.K.WrittenKind.writing.width c.args.bases.now.g.now c.args.bases.now.h.now c.args.l.now c.args.r.now
    c.args.challenges.now (length c.args.out.now) (length c.args.work_elements.now) (length c.args.work_numbers.now) e in
    let fits = a.roomy.numbers_fit in
    search rules

pub slice_bounds-write_record-end-4 : goal.slice_bounds-write_record-end-4
slice_bounds-write_record-end-4 g c =
    let e = sym c.admit_whole.ensures.refused ∙ ap (λ r. and_then r (λ _. Ok tt)) c.in_ok-g.was in
    let a = unrefused g.K.Kind.meaning g.K.Kind.laws g.K.WrittenKind.writing.width c.args.bases.now.g.now c.args.bases.now.h.now c.args.l.now c.args.r.now
    c.args.challenges.now (length c.args.out.now) (length c.args.work_elements.now) (length c.args.work_numbers.now) e in
    let fits = a.roomy.numbers_fit in
    search rules

pub write_record-requires : goal.write_record-requires
write_record-requires g c =
    let e = sym c.admit_whole.ensures.refused ∙ ap (λ r. and_then r (λ _. Ok tt)) c.in_ok-g.was in
    let we = c.args.work_elements.now in
    let wn : List ℕ = c.args.work_numbers.now in
    let n : ℕ = length c.args.bases.now.g.now in
    let a = unrefused g.K.Kind.meaning g.K.Kind.laws g.K.WrittenKind.writing.width c.args.bases.now.g.now c.args.bases.now.h.now c.args.l.now c.args.r.now
    c.args.challenges.now (length c.args.out.now) (length we) (length wn) e in
    let same_g = ap length c.in_ok-g.ensures.g in
    let same_h = ap length c.in_ok-g.ensures.h in
    record {
      long = record {
        long_h = omega (arith, a.ready.long_h);
        long_l = omega (arith, a.ready.long_l);
        long_r = omega (arith, a.ready.long_r);
      };
      size = same_g ∙ a.size;
      few = a.playable.few;
      room_out = a.roomy.record_fits;
      room_elements = length-take-le (n + n) we a.roomy.elements_fit ∙ omega arith;
      room_numbers = length-take-le (n + n) wn a.roomy.numbers_fit ∙ omega arith;
    }

pub returns : goal.returns
returns g c =
    let s = g.K.Kind.meaning in
    let w = g.K.WrittenKind.writing in
    let e = sym c.admit_whole.ensures.refused ∙ ap (λ r. and_then r (λ _. Ok tt)) c.in_ok-g.was in
    let out : List ℕ = c.args.out.now in
    let we = c.args.work_elements.now in
    let wn : List ℕ = c.args.work_numbers.now in
    let cs : List ℕ = c.args.challenges.now in
    let n : ℕ = length c.args.bases.now.g.now in
    let a = unrefused s g.K.Kind.laws w.width c.args.bases.now.g.now c.args.bases.now.h.now c.args.l.now c.args.r.now cs (length out) (length we) (length wn) e in
    let x = lists_of s c.args.bases.now.g.now c.args.bases.now.h.now c.args.l.now c.args.r.now in
    let bs = record_of s w c.args.bases.now.key cs x in
    let l = record_long s w g.met.K.WrittenKind.writes c.args.bases.now.key cs x in
    let same : lists_of s c.in_ok-g.g.entries.now c.in_ok-g.h.entries.now c.args.l.now c.args.r.now ≡ x =
    ap₂ (λ u v. lists_of s u v c.args.l.now c.args.r.now) c.in_ok-g.ensures.g c.in_ok-g.ensures.h in
    let wrote = subst (λ y. Laid 0 (record_of s w c.args.bases.now.key cs y) out c.write_record.new.out c.write_record.result) same c.write_record.ensures.out in
    let p : c.write_record.result ≡ record_length w.width (length cs) = omega (arith, wrote.to, l) in
    let z : 0 + length bs ≡ length bs = omega arith in
    record {
      answer = ap Ok p ∙ sym (went _ _ tt _ e refl);
      out = wrote.is ∙ ap (λ (j : ℕ). bs ++ drop j out) z;
      elements = cleared_part we c.write_record.new.elements (n + n) (n + n) (unit_entry s) refl a.roomy.elements_fit c.write_record.ensures.elements;
      numbers = cleared_part wn c.write_record.new.numbers (n + n) (n + n) 0 refl a.roomy.numbers_fit c.write_record.ensures.numbers;
    }

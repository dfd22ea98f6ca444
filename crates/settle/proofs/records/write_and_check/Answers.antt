use Rattle.std.proofs.Common.{◌≡◌, ℕ, ◌+◌, ◌^◌, ◌≤◌, true, List, ◌++◌, length, take, drop, replicate, Ok, Err, sym, refl, ap, ◌∙◌, ap₂, arith}
use Rattle.std.proofs.lemmas.List.{take_at}
use Rattle.std.proofs.lemmas.Result.{err_from_is_err_and}
use Rattle.kind.specs.Kinds.{unit_entry}
use Rattle.kind.proofs.Steps.{went, passed_on}
use Rattle.method.specs.Meaning.{cleared}
use Rattle.record.specs.Answers.{record_answer}
use Rattle.record.specs.Parts.{record_length, rounds_in}
use Rattle.writer.specs.Answers.{lists_of}
use Rattle.writer.specs.Records.{record_of}
use Rattle.writer.specs.Whole.{whole_refused, begun}
use Rattle.writer.proofs.Lengths.{rounds_count, record_long}
use Rattle.writer.proofs.Unrefused.{unrefused}
use Rattle.settle.proofs.Again.{refused_alike, cleared_again}
use Rattle.settle.proofs.Passes.{written_passes}
use Rattle.settle.proofs.records.write_and_check.Goals as goal

pub returns-in_err-length : goal.returns-in_err-length
returns-in_err-length g c =
    let s = g.K.Kind.meaning in
    let w = g.K.WrittenKind.writing in
    let cs : List ℕ = c.args.challenges.now in
    let n : ℕ = length c.args.bases.now.g.now in
    let bs = record_of s w c.args.bases.now.key cs (lists_of s c.args.bases.now.g.now c.args.bases.now.h.now c.args.l.now c.args.r.now) in
    let r = c.from_residual.result in
    let fault = c.in_err-length.field-0.0 in
    let p = err_from_is_err_and r c.from_residual.ensures.1 in
    let is : r ≡ Err fault = p.1 ∙ ap Err p.2 in
    let was : c.whole_proof.result ≡ Err fault = c.in_err-length.was in
    let refused = whole_refused s w.width c.args.bases.now.g.now c.args.bases.now.h.now c.args.l.now c.args.r.now cs
    (length c.args.out.now) (length c.args.work_elements.now) (length c.args.work_numbers.now) in
    record {
      answer = is ∙ sym (refused_alike refused (record_length w.width (length cs)) (Ok true) fault (sym c.whole_proof.ensures.answer ∙ was));
      out = c.whole_proof.ensures.out ∙ ap (λ a. begun a bs c.args.out.now) was ∙ sym (ap (λ a. begun a bs c.args.out.now) is);
      elements = c.whole_proof.ensures.elements ∙ ap (λ a. cleared a (n + n) (unit_entry s) c.args.work_elements.now) was
          ∙ sym (ap (λ a. cleared a (n + n) (unit_entry s) c.args.work_elements.now) is);
      numbers = c.whole_proof.ensures.numbers ∙ ap (λ a. cleared a (n + n) 0 c.args.work_numbers.now) was
          ∙ sym (ap (λ a. cleared a (n + n) 0 c.args.work_numbers.now) is);
    }

pub returns : goal.returns
returns g c =
    let s = g.K.Kind.meaning in
    let laws = g.K.Kind.laws in
    let w = g.K.WrittenKind.writing in
    let good = g.met.K.WrittenKind.writes in
    let key = c.args.bases.now.key in
    let gs = c.args.bases.now.g.now in
    let hs = c.args.bases.now.h.now in
    let l : List ℕ = c.args.l.now in
    let r : List ℕ = c.args.r.now in
    let cs : List ℕ = c.args.challenges.now in
    let out : List ℕ = c.args.out.now in
    let we = c.args.work_elements.now in
    let wn : List ℕ = c.args.work_numbers.now in
    let n : ℕ = length gs in
    let x = lists_of s gs hs l r in
    let bs = record_of s w key cs x in
    let refused = whole_refused s w.width gs hs l r cs (length out) (length we) (length wn) in
    let done : c.whole_proof.result ≡ Ok c.in_ok-length.length = c.in_ok-length.was in
    let went_well = passed_on refused (record_length w.width (length cs)) c.in_ok-length.length (sym c.whole_proof.ensures.answer ∙ done) in
    let e : refused ≡ Ok tt = went_well.0 in
    let known = unrefused s laws w.width gs hs l r cs (length out) (length we) (length wn) e in
    let stands : c.whole_proof.new.out ≡ bs ++ drop (length bs) out = c.whole_proof.ensures.out ∙ ap (λ a. begun a bs out) done in
    let units : c.whole_proof.new.work_elements ≡ replicate (n + n) (unit_entry s) ++ drop (n + n) we =
    c.whole_proof.ensures.elements ∙ ap (λ a. cleared a (n + n) (unit_entry s) we) done in
    let zeros : c.whole_proof.new.work_numbers ≡ replicate (n + n) 0 ++ drop (n + n) wn =
    c.whole_proof.ensures.numbers ∙ ap (λ a. cleared a (n + n) 0 wn) done in
    let written : c.cut.result.0.now ≡ bs =
    c.cut.ensures.front ∙ ap₂ take went_well.2 stands ∙ take_at bs (drop (length bs) out) (record_length w.width (length cs)) (record_long s w good key cs x) in
    let room_e : n ≤ length c.whole_proof.new.work_elements = omega (arith, known.roomy.elements_fit) in
    let room_n : n ≤ length c.whole_proof.new.work_numbers = omega (arith, known.roomy.numbers_fit) in
    let pass : c.check_record.result ≡ Ok true =
    c.check_record.ensures.answer
    ∙ ap (λ b. record_answer s w b gs hs key (length c.whole_proof.new.work_elements) (length c.whole_proof.new.work_numbers)) written
    ∙ written_passes s laws w good gs hs key l r cs (length out) (length we) (length wn) e
    (length c.whole_proof.new.work_elements) (length c.whole_proof.new.work_numbers) room_e room_n in
    let size : 2 ^ rounds_in c.cut.result.0.now ≡ n =
    ap (λ (b : List ℕ). 2 ^ rounds_in b) written ∙ ap (λ (k : ℕ). 2 ^ k) (rounds_count s key cs x) ∙ sym known.size in
    record {
      answer = ap Ok pass ∙ sym (went refused _ tt _ e refl);
      out = stands;
      elements = c.check_record.ensures.elements
          ∙ ap (λ a. cleared a (2 ^ rounds_in c.cut.result.0.now) (unit_entry s) c.whole_proof.new.work_elements) pass
          ∙ ap₂ (λ (m : ℕ) es. replicate m (unit_entry s) ++ drop m es) size units
          ∙ cleared_again n n (unit_entry s) (drop (n + n) we);
      numbers = c.check_record.ensures.numbers
          ∙ ap (λ a. cleared a (2 ^ rounds_in c.cut.result.0.now) 0 c.whole_proof.new.work_numbers) pass
          ∙ ap₂ (λ (m : ℕ) ns. replicate m 0 ++ drop m ns) size zeros
          ∙ cleared_again n n 0 (drop (n + n) wn);
    }

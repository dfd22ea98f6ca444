use Rattle.std.proofs.Common.{◌≡◌, ℕ, ◌^◌, List, length, Ok, Err, Result, sym, refl, ap, ap₂, ◌∙◌, rules}
use Rattle.std.proofs.lemmas.List.{length-take-le}
use Rattle.std.proofs.lemmas.Result.{err_from_is_err_and}
use Rattle.kind.specs.Faults.{and_then, first_of}
use Rattle.kind.specs.Kinds.{Meaning, unit_entry}
use Rattle.kind.specs.declared.pair.Pair.{Pair}
use Rattle.kind.proofs.Steps.{first_append, stopped, went}
use Rattle.method.specs.Meaning.{length_refusals, content_refusals, method_refused, method_answer, verdict_of}
use Rattle.method.specs.Tables.{challenges}
use Rattle.method.specs.declared.fault.MethodFault.{MethodFault}
use Rattle.method.proofs.Refused.{shaped, cleared_part}
use Rattle.method.proofs.method.Method.verdict.Goals as goal

-- the refusals of lengths come first, then those of content, then the verdict
module _ {M E : Type 0} (s : Meaning M E) (cs : List ℕ) (z : Pair M) (gs hs : List E) (k : M) (a b we wn : ℕ) where
  abbrev lengths : Result Unit MethodFault
  lengths = first_of (length_refusals (2 ^ length cs) (length gs) (length hs) we wn)

  abbrev content : Result Unit MethodFault
  content = first_of (content_refusals s gs hs a b)

  parts : method_refused s cs gs hs a b we wn ≡ and_then lengths (λ _. content)
  parts = first_append (length_refusals (2 ^ length cs) (length gs) (length hs) we wn) (content_refusals s gs hs a b)

  by_content : (f : MethodFault) → lengths ≡ Ok tt → content ≡ Err f → method_answer s cs z gs hs k a b we wn ≡ Err f
  by_content f d e = stopped (method_refused s cs gs hs a b we wn) (λ _. Ok (verdict_of s cs z gs hs k a b)) f (parts ∙ went _ (λ _. content) tt (Err f) d e)

  by_verdict : lengths ≡ Ok tt → content ≡ Ok tt → method_answer s cs z gs hs k a b we wn ≡ Ok (verdict_of s cs z gs hs k a b)
  by_verdict d e =
      went (method_refused s cs gs hs a b we wn) (λ _. Ok (verdict_of s cs z gs hs k a b)) tt (Ok (verdict_of s cs z gs hs k a b))
      (parts ∙ went _ (λ _. content) tt (Ok tt) d e) refl

pub returns-in_err-checked-clause-answer : goal.returns-in_err-checked-clause-answer
returns-in_err-checked-clause-answer g c =
    let s = g.K.Kind.meaning in
    let cs : List ℕ = challenges c.args.table.now in
    let we = length c.args.work_elements.now in
    let wn = length c.args.work_numbers.now in
    let gs = c.args.bases.now.g.now in
    let hs = c.args.bases.now.h.now in
    let fault = c.in_err-checked.field-0.0 in
    let p = err_from_is_err_and c.from_residual-in_err-checked.result c.from_residual-in_err-checked.ensures.1 in
    let d : lengths s cs c.args.z gs hs c.args.bases.now.key c.args.a c.args.b we wn ≡ Ok tt =
    ap (λ (k : ℕ). first_of (length_refusals k (length gs) (length hs) we wn)) (sym c.size-n.ensures) ∙ sym c.check_lengths.ensures ∙ c.in_ok-check_lengths.was in
    let e = sym c.check_content.ensures.refused ∙ ap (λ r. and_then r (λ _. Ok tt)) c.in_err-checked.was in
    p.1 ∙ ap Err p.2 ∙ sym (by_content s cs c.args.z gs hs c.args.bases.now.key c.args.a c.args.b we wn fault d e)

pub slice_bounds-decide_and_clear-end : goal.slice_bounds-decide_and_clear-end
slice_bounds-decide_and_clear-end g c =
    let h = shaped c.size-n.result (length c.args.bases.now.g.now) (length c.args.bases.now.h.now) (length c.args.work_elements.now) (length c.args.work_numbers.now)
    (sym c.check_lengths.ensures ∙ c.in_ok-check_lengths.was) in
    search rules

pub slice_bounds-decide_and_clear-end-2 : goal.slice_bounds-decide_and_clear-end-2
slice_bounds-decide_and_clear-end-2 g c =
    let h = shaped c.size-n.result (length c.args.bases.now.g.now) (length c.args.bases.now.h.now) (length c.args.work_elements.now) (length c.args.work_numbers.now)
    (sym c.check_lengths.ensures ∙ c.in_ok-check_lengths.was) in
    search rules

pub slice_bounds-decide_and_clear-end-3 : goal.slice_bounds-decide_and_clear-end-3
slice_bounds-decide_and_clear-end-3 g c =
    let h = shaped c.size-n.result (length c.args.bases.now.g.now) (length c.args.bases.now.h.now) (length c.args.work_elements.now) (length c.args.work_numbers.now)
    (sym c.check_lengths.ensures ∙ c.in_ok-check_lengths.was) in
    search rules

pub slice_bounds-decide_and_clear-end-4 : goal.slice_bounds-decide_and_clear-end-4
slice_bounds-decide_and_clear-end-4 g c =
    let h = shaped c.size-n.result (length c.args.bases.now.g.now) (length c.args.bases.now.h.now) (length c.args.work_elements.now) (length c.args.work_numbers.now)
    (sym c.check_lengths.ensures ∙ c.in_ok-check_lengths.was) in
    search rules

pub decide_and_clear-requires : goal.decide_and_clear-requires
decide_and_clear-requires g c =
    let we = c.args.work_elements.now in
    let wn = c.args.work_numbers.now in
    let n : ℕ = c.size-n.result in
    let is : n ≡ 2 ^ length c.challenges-cs.result.now = c.size-n.ensures ∙ ap (λ (l : List ℕ). 2 ^ length l) (sym c.challenges-cs.ensures.value) in
    let h = shaped n (length c.args.bases.now.g.now) (length c.args.bases.now.h.now) (length we) (length wn)
    (sym c.check_lengths.ensures ∙ c.in_ok-check_lengths.was) in
    record {
      long_g = ap length c.in_ok-checked.ensures.g ∙ h.fits_g ∙ is;
      long_h = ap length c.in_ok-checked.ensures.h ∙ h.fits_h ∙ is;
      elements_room = length-take-le n we h.room_e ∙ is;
      numbers_room = length-take-le n wn h.room_n ∙ is;
      few = c.challenges-cs.ensures.few;
    }

pub returns : goal.returns
returns g c =
    let s = g.K.Kind.meaning in
    let cs : List ℕ = challenges c.args.table.now in
    let we = c.args.work_elements.now in
    let wn = c.args.work_numbers.now in
    let gs = c.args.bases.now.g.now in
    let hs = c.args.bases.now.h.now in
    let d : lengths s cs c.args.z gs hs c.args.bases.now.key c.args.a c.args.b (length we) (length wn) ≡ Ok tt =
    ap (λ (k : ℕ). first_of (length_refusals k (length gs) (length hs) (length we) (length wn))) (sym c.size-n.ensures) ∙ sym c.check_lengths.ensures ∙ c.in_ok-check_lengths.was in
    let h = shaped (2 ^ length cs) (length gs) (length hs) (length we) (length wn) d in
    let e : content s cs c.args.z gs hs c.args.bases.now.key c.args.a c.args.b (length we) (length wn) ≡ Ok tt =
    sym c.check_content.ensures.refused ∙ ap (λ r. and_then r (λ _. Ok tt)) c.in_ok-checked.was in
    let w = c.in_ok-checked.checked in
    let v = c.decide_and_clear.ensures.verdict
    ∙ ap (λ l. verdict_of s l c.args.z w.g.entries.now w.h.entries.now w.key c.args.a c.args.b) c.challenges-cs.ensures.value
    ∙ ap (λ l. verdict_of s cs c.args.z l w.h.entries.now w.key c.args.a c.args.b) c.in_ok-checked.ensures.g
    ∙ ap₂ (λ l k. verdict_of s cs c.args.z gs l k c.args.a c.args.b) c.in_ok-checked.ensures.h c.in_ok-checked.ensures.key in
    record {
      answer = ap Ok v ∙ sym (by_verdict s cs c.args.z gs hs c.args.bases.now.key c.args.a c.args.b (length we) (length wn) d e);
      elements = cleared_part we c.decide_and_clear.new.elements c.size-n.result (2 ^ length cs) (unit_entry s) c.size-n.ensures h.room_e c.decide_and_clear.ensures.elements;
      numbers = cleared_part wn c.decide_and_clear.new.numbers c.size-n.result (2 ^ length cs) 0 c.size-n.ensures h.room_n c.decide_and_clear.ensures.numbers;
    }

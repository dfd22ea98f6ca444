use Rattle.std.proofs.Common.{◌≡◌, ℕ, ◌^◌, List, length, Ok, Err, Result, sym, refl, ap, ◌∙◌, subst, rules}
use Rattle.std.proofs.lemmas.List.{length-take-le}
use Rattle.std.proofs.lemmas.Result.{err_from_is_err_and}
use Rattle.kind.specs.Faults.{and_then, first_of}
use Rattle.kind.specs.Kinds.{Meaning, unit_entry}
use Rattle.kind.specs.declared.pair.Pair.{Pair}
use Rattle.kind.proofs.Steps.{first_append, stopped, went}
use Rattle.protocol.specs.Weights.{HWeights}
use Rattle.method.specs.Meaning.{reduced}
use Rattle.method.specs.QuickCheck.{quick_lengths, quick_content, quick_refused, quick_passes, quick_answer}
use Rattle.method.specs.Tables.{challenges}
use Rattle.method.specs.declared.fault.MethodFault.{MethodFault}
use Rattle.method.proofs.QuickChecks.{quick_shaped}
use Rattle.method.proofs.Refused.{cleared_part}
use Rattle.method.proofs.quick.quick_check.Goals as goal

-- the refusals of lengths come first, then those of content, then the verdict
module _ {M E : Type 0} (s : Meaning M E) (cs ws : List ℕ) (z : Pair M) (gs : List E) (k : M) (a b w we wn : ℕ) where
  abbrev lengths : Result Unit MethodFault
  lengths = first_of (quick_lengths (2 ^ length cs) (length gs) we wn)

  abbrev content : Result Unit MethodFault
  content = first_of (quick_content s gs a b w)

  parts : quick_refused s cs gs a b w we wn ≡ and_then lengths (λ _. content)
  parts = first_append (quick_lengths (2 ^ length cs) (length gs) we wn) (quick_content s gs a b w)

  by_lengths : (f : MethodFault) → lengths ≡ Err f → quick_answer s cs ws z gs k a b w we wn ≡ Err f
  by_lengths f e = stopped (quick_refused s cs gs a b w we wn) (λ _. Ok (quick_passes s ws z gs k a b w)) f (parts ∙ stopped _ (λ _. content) f e)

  by_content : (f : MethodFault) → lengths ≡ Ok tt → content ≡ Err f → quick_answer s cs ws z gs k a b w we wn ≡ Err f
  by_content f d e = stopped (quick_refused s cs gs a b w we wn) (λ _. Ok (quick_passes s ws z gs k a b w)) f (parts ∙ went _ (λ _. content) tt (Err f) d e)

  by_verdict : lengths ≡ Ok tt → content ≡ Ok tt → quick_answer s cs ws z gs k a b w we wn ≡ Ok (quick_passes s ws z gs k a b w)
  by_verdict d e =
      went (quick_refused s cs gs a b w we wn) (λ _. Ok (quick_passes s ws z gs k a b w)) tt (Ok (quick_passes s ws z gs k a b w))
      (parts ∙ went _ (λ _. content) tt (Ok tt) d e) refl

pub returns-in_err-check_quick_lengths-clause-answer : goal.returns-in_err-check_quick_lengths-clause-answer
returns-in_err-check_quick_lengths-clause-answer g c = λ ws good.
    let s = g.K.Kind.meaning in
    let cs : List ℕ = challenges c.args.table.now in
    let gs = c.args.g.now in
    let we = length c.args.work_elements.now in
    let wn = length c.args.work_numbers.now in
    let p = err_from_is_err_and c.from_residual.result c.from_residual.ensures.1 in
    let e : lengths s cs ws c.args.z gs c.args.key c.args.a c.args.b c.args.weight we wn ≡ Err c.in_err-check_quick_lengths.field-0.0 =
    ap (λ (k : ℕ). first_of (quick_lengths k (length gs) we wn)) (sym c.size-n.ensures) ∙ sym c.check_quick_lengths.ensures ∙ c.in_err-check_quick_lengths.was in
    p.1 ∙ ap Err p.2 ∙ sym (by_lengths s cs ws c.args.z gs c.args.key c.args.a c.args.b c.args.weight we wn c.in_err-check_quick_lengths.field-0.0 e)

pub returns-in_err-gs-clause-answer : goal.returns-in_err-gs-clause-answer
returns-in_err-gs-clause-answer g c = λ ws good.
    let s = g.K.Kind.meaning in
    let cs : List ℕ = challenges c.args.table.now in
    let gs = c.args.g.now in
    let we = length c.args.work_elements.now in
    let wn = length c.args.work_numbers.now in
    let p = err_from_is_err_and c.from_residual-in_err-gs.result c.from_residual-in_err-gs.ensures.1 in
    let d : lengths s cs ws c.args.z gs c.args.key c.args.a c.args.b c.args.weight we wn ≡ Ok tt =
    ap (λ (k : ℕ). first_of (quick_lengths k (length gs) we wn)) (sym c.size-n.ensures) ∙ sym c.check_quick_lengths.ensures ∙ c.in_ok-check_quick_lengths.was in
    let e = sym c.check_quick_content.ensures.refused ∙ ap (λ r. and_then r (λ _. Ok tt)) c.in_err-gs.was in
    p.1 ∙ ap Err p.2 ∙ sym (by_content s cs ws c.args.z gs c.args.key c.args.a c.args.b c.args.weight we wn c.in_err-gs.field-0.0 d e)

pub slice_bounds-quick_decide_and_clear-end-2 : goal.slice_bounds-quick_decide_and_clear-end-2
slice_bounds-quick_decide_and_clear-end-2 g c =
    let h = quick_shaped c.size-n.result (length c.args.g.now) (length c.args.work_elements.now) (length c.args.work_numbers.now)
    (sym c.check_quick_lengths.ensures ∙ c.in_ok-check_quick_lengths.was) in
    search rules

pub slice_bounds-quick_decide_and_clear-end-3 : goal.slice_bounds-quick_decide_and_clear-end-3
slice_bounds-quick_decide_and_clear-end-3 g c =
    let h = quick_shaped c.size-n.result (length c.args.g.now) (length c.args.work_elements.now) (length c.args.work_numbers.now)
    (sym c.check_quick_lengths.ensures ∙ c.in_ok-check_quick_lengths.was) in
    search rules

pub slice_bounds-quick_decide_and_clear-end-4 : goal.slice_bounds-quick_decide_and_clear-end-4
slice_bounds-quick_decide_and_clear-end-4 g c =
    let h = quick_shaped c.size-n.result (length c.args.g.now) (length c.args.work_elements.now) (length c.args.work_numbers.now)
    (sym c.check_quick_lengths.ensures ∙ c.in_ok-check_quick_lengths.was) in
    search rules

pub quick_decide_and_clear-requires : goal.quick_decide_and_clear-requires
quick_decide_and_clear-requires g c =
    let wn = c.args.work_numbers.now in
    let n : ℕ = c.size-n.result in
    let is : n ≡ 2 ^ length c.challenges-cs.result.now = c.size-n.ensures ∙ ap (λ (l : List ℕ). 2 ^ length l) (sym c.challenges-cs.ensures.value) in
    let h = quick_shaped n (length c.args.g.now) (length c.args.work_elements.now) (length wn) (sym c.check_quick_lengths.ensures ∙ c.in_ok-check_quick_lengths.was) in
    record {
      long = ap length c.in_ok-gs.ensures.list ∙ h.fits_g ∙ is;
      room = length-take-le n wn h.room_n ∙ is;
      few = c.challenges-cs.ensures.few;
    }

pub returns : goal.returns
returns g c =
    let s = g.K.Kind.meaning in
    let cs : List ℕ = challenges c.args.table.now in
    let n : ℕ = 2 ^ length cs in
    let m : ℕ = c.size-n.result in
    let gs = c.args.g.now in
    let we = c.args.work_elements.now in
    let wn = c.args.work_numbers.now in
    let d : first_of (quick_lengths n (length gs) (length we) (length wn)) ≡ Ok tt =
    ap (λ (k : ℕ). first_of (quick_lengths k (length gs) (length we) (length wn))) (sym c.size-n.ensures) ∙ sym c.check_quick_lengths.ensures ∙ c.in_ok-check_quick_lengths.was in
    let h = quick_shaped n (length gs) (length we) (length wn) d in
    let e : first_of (quick_content s gs c.args.a c.args.b c.args.weight) ≡ Ok tt =
    sym c.check_quick_content.ensures.refused ∙ ap (λ r. and_then r (λ _. Ok tt)) c.in_ok-gs.was in
    record {
      answer = λ ws good.
          ap Ok (c.quick_decide_and_clear.ensures.verdict ws (subst (λ (l : List ℕ). HWeights s.order (reduced s l) ws) (sym c.challenges-cs.ensures.value) good)
          ∙ ap (λ l. quick_passes s ws c.args.z l c.args.key c.args.a c.args.b c.args.weight) c.in_ok-gs.ensures.list)
          ∙ sym (by_verdict s cs ws c.args.z gs c.args.key c.args.a c.args.b c.args.weight (length we) (length wn) d e);
      elements = cleared_part we c.quick_decide_and_clear.new.elements m n (unit_entry s) c.size-n.ensures h.room_e c.quick_decide_and_clear.ensures.elements;
      numbers = cleared_part wn c.quick_decide_and_clear.new.numbers m n 0 c.size-n.ensures h.room_n c.quick_decide_and_clear.ensures.numbers;
    }

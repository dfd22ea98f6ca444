use Rattle.std.proofs.Common.{◌≡◌, ℕ, ◌+◌, ◌-◌, ◌<◌, true, cond, leb, List, [], ◌∷◌, ◌++◌, length, drop, replicate, Ok, Err, sym, ap, ◌∙◌, arith, length-append, length-set, le-leb}
use Rattle.std.proofs.lemmas.List.{take_more_set, drop-set-lt, drop-drop, drop-replicate}
use Rattle.kind.specs.Faults.{first_bad}
use Rattle.method.specs.Entries.{outside, any_bad}
use Rattle.method.specs.Tables.{challenges}
use Rattle.method.specs.declared.fault.MethodFault.TheVariants.{NotAChallenge}
use Rattle.method.proofs.Sized.{counted, bad_push, any_push, table_takes}
use Rattle.method.proofs.table.ChallengeTable.with.Goals as goal

pub returns-then-is_outside : goal.returns-then-is_outside
returns-then-is_outside c =
    let t = c.args.self in
    let x : ℕ = c.args.c in
    let cs : List ℕ = challenges t in
    let n = counted t in
    let long : length (cs ++ x ∷ []) ≡ length cs + 1 = length-append cs (x ∷ []) in
    let few : leb (length (cs ++ x ∷ [])) 8 ≡ true = le-leb (length (cs ++ x ∷ [])) 8 (omega arith) in
    let at : 0 + length cs ≡ t.len = omega arith in
    let bad : first_bad outside NotAChallenge 0 (cs ++ x ∷ []) ≡ Err (NotAChallenge t.len) =
    bad_push outside NotAChallenge 0 cs x t.ok.2
    ∙ ap (λ b. cond b (Err (NotAChallenge (0 + length cs))) (Ok tt)) (sym c.is_outside.ensures ∙ c.if-is_outside.true)
    ∙ ap (λ (k : ℕ). Err (NotAChallenge k)) at in
    simp (few, bad)

pub invariant_of-result : goal.invariant_of-result
invariant_of-result c =
    let t = c.args.self in
    let x : ℕ = c.args.c in
    let es : List ℕ = t.entries in
    let eight : length es ≡ 8 = t.ok.0 in
    let here : t.len < length es = omega arith in
    let fine = sym c.is_outside.ensures ∙ c.if-is_outside.false in
    let rest : 8 - t.len - 1 ≡ 8 - (t.len + 1) = omega arith in
    record {
      ok = (
        length-set es t.len x ∙ eight,
        omega arith,
        ap (any_bad outside) (take_more_set es t.len x here) ∙ any_push outside (challenges t) x t.ok.2 fine,
        drop-set-lt (t.len + 1) es t.len x (omega arith) ∙ sym (drop-drop 1 t.len es) ∙ ap (drop 1) t.ok.3
            ∙ drop-replicate 1 (8 - t.len) 0 ∙ ap (λ (k : ℕ). replicate k 0) rest,
      );
    }

pub returns : goal.returns
returns c =
    let t = c.args.self in
    let x : ℕ = c.args.c in
    let n = counted t in
    let eight : length t.entries ≡ 8 = t.ok.0 in
    let fine = sym c.is_outside.ensures ∙ c.if-is_outside.false in
    ap Ok (take_more_set t.entries t.len x (omega arith)) ∙ sym (table_takes t x (omega arith) fine)

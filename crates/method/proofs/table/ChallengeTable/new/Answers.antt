use Rattle.std.proofs.Common.{◌≡◌, ℕ, ◌+◌, ◌-◌, ◌≤◌, List, length, take, drop, replicate, Ok, sym, refl, ap, ◌∙◌, arith, length-append, le-leb}
use lib.ListN.{length-replicate}
use Rattle.std.proofs.lemmas.List.{take_at, drop_at}
use Rattle.kind.specs.Faults.{first_bad}
use Rattle.method.specs.Entries.{outside, any_bad}
use Rattle.method.specs.declared.fault.MethodFault.TheVariants.{NotAChallenge}
use Rattle.method.proofs.Sized.{none_any}
use Rattle.method.proofs.table.ChallengeTable.new.Goals as goal

pub invariant_of-result : goal.invariant_of-result
invariant_of-result c =
    let cs : List ℕ = c.args.entries.now in
    let n : ℕ = length cs in
    let zs : List ℕ = replicate (8 - n) 0 in
    let le : n ≤ 8 = omega arith in
    let front : take n c.padded.result ≡ cs = ap (take n) c.padded.ensures ∙ take_at cs zs n refl in
    let none = none_any outside NotAChallenge 0 cs (sym c.check_entries.ensures ∙ c.in_ok-check_entries.was) in
    let whole : length c.padded.result ≡ 8 = ap length c.padded.ensures ∙ length-append cs zs ∙ ap (λ (m : ℕ). n + m) (length-replicate (8 - n) 0) ∙ omega arith in
    record { ok = (whole, le, ap (any_bad outside) front ∙ none, ap (drop n) c.padded.ensures ∙ drop_at cs zs n refl) }

pub returns : goal.returns
returns c =
    let cs : List ℕ = c.args.entries.now in
    let n : ℕ = length cs in
    let zs : List ℕ = replicate (8 - n) 0 in
    let le : n ≤ 8 = omega arith in
    let good : first_bad outside NotAChallenge 0 cs ≡ Ok tt = sym c.check_entries.ensures ∙ c.in_ok-check_entries.was in
    let front : take n c.padded.result ≡ cs = ap (take n) c.padded.ensures ∙ take_at cs zs n refl in
    simp (le-leb n 8 le, good) (ap Ok front)

-- The challenges of a table. Assumes nothing.
use Rattle.std.proofs.Common.{◌≡◌, ℕ, suc, ◌+◌, ◌<◌, Bool, true, false, cond, ◌||◌, leb, List, [], ◌∷◌, ◌++◌, length, Ok, Err, sym, refl, ap, ◌∙◌, ap₂, add-zero, arith, length-append, le-leb}
use Rattle.std.proofs.lemmas.List.{length-take-le}
use Rattle.kind.specs.Faults.{first_bad}
use Rattle.kind.proofs.Scans.{none_bad}
use Rattle.method.specs.Entries.{outside, any_bad}
use Rattle.method.specs.Tables.{challenges, table_answer}
use Rattle.method.specs.declared.fault.MethodFault.TheVariants.{NotAChallenge}
use Rattle.method.specs.declared.table.ChallengeTable.{ChallengeTable}

-- a list that is not refused has no bad entry
pub none_any : {X F : Type 0} (bad : X → Bool) (fault : ℕ → F) (i : ℕ) (xs : List X) → first_bad bad fault i xs ≡ Ok tt → any_bad bad xs ≡ false
none_any bad fault i [] e = refl
none_any bad fault i (x ∷ xs) e =
    let p = none_bad bad fault i x xs e in
    ap₂ ◌||◌ p.0 (none_any bad fault (i + 1) xs p.1)

-- a table has as many challenges as it says
pub counted : (t : ChallengeTable) → length (challenges t) ≡ t.len
counted t =
    let eight = t.ok.0 in
    let some = t.ok.1 in
    length-take-le t.len t.entries (omega arith)

-- one more at the end of a list that has no bad entry
pub bad_push : {X F : Type 0} (bad : X → Bool) (fault : ℕ → F) (i : ℕ) (xs : List X) (y : X) → any_bad bad xs ≡ false
    → first_bad bad fault i (xs ++ y ∷ []) ≡ cond (bad y) (Err (fault (i + length xs))) (Ok tt)
bad_push bad fault i [] y h = ap (λ (n : ℕ). cond (bad y) (Err (fault n)) (Ok tt)) (sym (add-zero i))
bad_push bad fault i (x ∷ xs) y h =
    let p = neither (bad x) (any_bad bad xs) h in
    let at : i + 1 + length xs ≡ i + suc (length xs) = omega arith in
    ap (λ b. cond b (Err (fault i)) (first_bad bad fault (i + 1) (xs ++ y ∷ []))) p.0
    ∙ bad_push bad fault (i + 1) xs y p.1 ∙ ap (λ (n : ℕ). cond (bad y) (Err (fault n)) (Ok tt)) at
  where
    neither : (a b : Bool) → (a || b) ≡ false → (a ≡ false) × (b ≡ false)
    neither true b e = (cc, cc)
    neither false b e = (refl, e)

pub any_push : {X : Type 0} (bad : X → Bool) (xs : List X) (y : X) → any_bad bad xs ≡ false → bad y ≡ false → any_bad bad (xs ++ y ∷ []) ≡ false
any_push bad [] y h g = ap (λ b. b || false) g
any_push bad (x ∷ xs) y h g = go (λ e. any_push bad xs y e g) (bad x) h
  where
    go : (any_bad bad xs ≡ false → any_bad bad (xs ++ y ∷ []) ≡ false) → (b : Bool)
        → (b || any_bad bad xs) ≡ false → (b || any_bad bad (xs ++ y ∷ [])) ≡ false
    go next true e = cc
    go next false e = next e

-- a table takes a challenge in range while it has room
pub table_takes : (t : ChallengeTable) (c : ℕ) → length (challenges t) < 8 → outside c ≡ false
    → table_answer (challenges t ++ c ∷ []) ≡ Ok (challenges t ++ c ∷ [])
table_takes t c room fine =
    let cs : List ℕ = challenges t in
    let long : length (cs ++ c ∷ []) ≡ length cs + 1 = length-append cs (c ∷ []) in
    let few : leb (length (cs ++ c ∷ [])) 8 ≡ true = le-leb (length (cs ++ c ∷ [])) 8 (omega arith) in
    let good : first_bad outside NotAChallenge 0 (cs ++ c ∷ []) ≡ Ok tt =
    bad_push outside NotAChallenge 0 cs c t.ok.2 ∙ ap (λ b. cond b (Err (NotAChallenge (0 + length cs))) (Ok tt)) fine in
    simp (few, good)

-- A table takes a challenge in range while it has room. Assumes nothing.
use Rattle.std.proofs.Common.{◌≡◌, ℕ, ◌<◌, false, List, [], ◌∷◌, ◌++◌, length, Ok, Err, Result, sym, refl, ap, ◌∙◌}
use Rattle.std.specs.Result.{IsOk}
use Rattle.method.specs.Entries.{outside}
use Rattle.method.specs.Tables.{challenges, listed, table_answer}
use Rattle.method.specs.declared.fault.MethodFault.{MethodFault}
use Rattle.method.specs.declared.table.ChallengeTable.{ChallengeTable}
use Rattle.method.proofs.Sized.{table_takes}

by_list : (cs : List ℕ) (r : Result ChallengeTable MethodFault) → listed r ≡ Ok cs → IsOk r
by_list cs (Ok u) told = refl
by_list cs (Err e) told = cc

pub taken : (t : ChallengeTable) (c : ℕ) → length (challenges t) < 8 → outside c ≡ false
    → (r : Result ChallengeTable MethodFault) → listed r ≡ table_answer (challenges t ++ c ∷ []) → IsOk r
taken t c room fine r told = by_list _ r (told ∙ table_takes t c room fine)

pub longer : (t : ChallengeTable) (c : ℕ) → length (challenges t) < 8 → outside c ≡ false
    → (r : Result ChallengeTable MethodFault) (u : ChallengeTable) → listed r ≡ table_answer (challenges t ++ c ∷ []) → r ≡ Ok u
    → challenges u ≡ challenges t ++ c ∷ []
longer t c room fine r u told is =
    let x : ◌≡◌ {A = Result (List ℕ) MethodFault} (Ok (challenges u)) (Ok (challenges t ++ c ∷ [])) = sym (ap listed is) ∙ told ∙ table_takes t c room fine in
    cc

-- What the whole-proof call leaves at the output's start. Assumes nothing.
use Rattle.std.proofs.Common.{◌≡◌, ℕ, true, false, List, length, take, drop, IfOk, Ok, Err, vec_items, Result, sym, refl, ap, subst, ◌∙◌, arith, lit≤}
use Rattle.std.proofs.lemmas.List.{take_at}
use Rattle.std.proofs.lemmas.Result.{IfOk-weaker}
use Rattle.std.specs.Result.{is_ok, MatchResult}
use Rattle.kind.specs.Bytes.{WellWritten, clear_writing}
use Rattle.kind.specs.Clears.{clear_meaning, clear_of, clear_of_some, clear_of_only, clear_number}
use Rattle.kind.specs.Faults.{and_then}
use Rattle.kind.specs.declared.clear.Clear.{Clear}
use Rattle.kind.specs.Writes.{reads_again, reads_only}
use Rattle.record.specs.Parts.{record_length}
use Rattle.writer.specs.Answers.{lists_of}
use Rattle.writer.specs.Records.{record_of}
use Rattle.writer.specs.Whole.{begun}
use Rattle.writer.proofs.Lengths.{record_long}
use Rattle.proof_write.specs.Proofs.{record_over}
use Rattle.proof_write.specs.declared.groups.Group.{Group}

clear_written : WellWritten clear_writing
clear_written = record {
  some = lit≤ tt;
  few = lit≤ tt;
  filled = λ x. refl;
  again = reads_again clear_of clear_number (λ x. omega arith) clear_of_some clear_of_only;
  only = reads_only clear_of clear_number (λ x. omega arith) clear_of_some clear_of_only;
}

-- what stands at the start of the output, where the answer is the length of what was written
begun_taken : {F : Type 0} (bs out after : List ℕ) (m : ℕ) (x : Result Unit F) (r : Result ℕ F) → length bs ≡ m
    → r ≡ and_then x (λ _. Ok m) → after ≡ begun r bs out → IfOk r (λ n. take n after ≡ bs)
begun_taken bs out after m (Ok u) (Ok n) long e s =
    let k : n ≡ m = cc in ap (take n) s ∙ take_at bs (drop (length bs) out) n (long ∙ sym k)
begun_taken bs out after m (Err f) (Ok n) long e s =
    let no : ◌≡◌ {A = ℕ} 0 1 = cc in let never : ⊥ = omega arith in elim never [ ]
begun_taken bs out after m (Ok u) (Err f) long e s = tt
begun_taken bs out after m (Err g) (Err f) long e s = tt

pub wrote : {F : Type 0} (g : Group) (key : Clear) (bases q p cs out after : List ℕ) (x : Result Unit F) (r : Result ℕ F)
    → key ≡ clear_meaning.base → q ≡ vec_items g.quantities → p ≡ vec_items g.prices → cs ≡ vec_items g.challenges
    → r ≡ and_then x (λ _. Ok (record_length 4 (length cs)))
    → after ≡ begun r (record_of clear_meaning clear_writing key cs (lists_of clear_meaning bases bases q p)) out
    → IfOk r (λ n. take n after ≡ record_over bases g)
unfolding record_over
wrote g key bases q p cs out after x r ek eq ep ec e s =
    let at : (k : Clear) (l m c : List ℕ) → List ℕ = λ k l m c. record_of clear_meaning clear_writing k c (lists_of clear_meaning bases bases l m) in
    let same : at key q p cs ≡ record_over bases g =
    ap (λ k. at k q p cs) ek
    ∙ ap (λ l. at clear_meaning.base l p cs) eq
    ∙ ap (λ m. at clear_meaning.base (vec_items g.quantities) m cs) ep
    ∙ ap (λ c. at clear_meaning.base (vec_items g.quantities) (vec_items g.prices) c) ec in
    IfOk-weaker r (λ n. take n after ≡ at key q p cs) (λ n. take n after ≡ record_over bases g) (λ n h. h ∙ same)
    (begun_taken (at key q p cs) out after (record_length 4 (length cs)) x r
    (record_long clear_meaning clear_writing clear_written key cs (lists_of clear_meaning bases bases q p)) e s)

-- what holds of a call's value holds after its error was mapped
pub ok_before : {T E F : Type 0} (r : Result T E) (s : Result T F) (x : T) (Q : E → Type 0) (P : T → Type 0)
    → MatchResult r (λ y. s ≡ Ok y) Q → is_ok s ≡ is_ok r → s ≡ Ok x → IfOk r P → P x
ok_before (Ok y) s x Q P h v w k = let e : y ≡ x = cc in subst P e k
ok_before (Err e) s x Q P h v w k = let no : true ≡ false = sym (ap is_ok w) ∙ v in cc

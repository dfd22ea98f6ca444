-- The words of a script. Assumes nothing.
use Rattle.std.specs.Prelude.{◌≡◌, ℕ, List, Option, Result, MatchOption, MatchResult, codes}
use Rattle.station_replay.specs.declared.script.KindName.{KindName}
use Rattle.station_replay.specs.declared.script.KindName.TheVariants.{Clear, Residue}
use Rattle.station_replay.specs.declared.script.MethodName.{MethodName}
use Rattle.station_replay.specs.declared.script.MethodName.TheVariants.{Halving, Multiplying}
use Rattle.station_replay.specs.declared.script.OtherWord.{OtherWord}

abbrev pub kind_word : KindName → List ℕ
kind_word Clear = codes "clear"
kind_word Residue = codes "residue"

abbrev pub method_word : MethodName → List ℕ
method_word Halving = codes "halving"
method_word Multiplying = codes "multiplying"

-- the word names nothing, where these are the names' words
abbrev pub NamesNone : {N : Type 0} → (N → List ℕ) → List ℕ → Type 0
NamesNone {N} word_of word = (n : N) → word ≡ word_of n → ⊥

-- the result is what this word names, or an error where it names nothing
abbrev pub Named : {N : Type 0} → (N → List ℕ) → List ℕ → Result N OtherWord → Type 0
Named word_of word r = MatchResult r (λ n. word ≡ word_of n) (λ _. NamesNone word_of word)

-- the same, with None where it names nothing
abbrev pub NamedIf : {N : Type 0} → (N → List ℕ) → List ℕ → Option N → Type 0
NamedIf word_of word o = MatchOption o (NamesNone word_of word) (λ n. word ≡ word_of n)

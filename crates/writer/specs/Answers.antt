-- What the claim, message and fold calls answer, and what a fold leaves. Assumes nothing.
use Rattle.std.specs.Prelude.{ℕ, ◌/◌, List, ◌++◌, length, replicate, Ok, Err, Result}
use Rattle.kind.specs.Faults.{and_then}
use Rattle.kind.specs.Kinds.{Meaning, elements}
use Rattle.ledger.specs.Rules.{Lists, claim_of, message_of}
use Rattle.ledger.specs.declared.parts.Message.{Message}
use Rattle.writer.specs.Refusals.{claim_refused, message_refused}
use Rattle.writer.specs.declared.fault.WriterFault.{WriterFault}

-- a list after a fold: what it folded to, and x in the last half; after a refusal it is as it was
abbrev pub halved : {T F A : Type 0} → Result T F → List A → A → List A → List A
halved (Ok t) fold x xs = fold ++ replicate (length xs / 2) x
halved (Err e) fold x xs = xs

module _ {M E : Type 0} (s : Meaning M E) where
  -- the four lists, with G and H as elements
  abbrev pub lists_of : List E → List E → List ℕ → List ℕ → Lists M
  lists_of gs hs l r = record { gs = elements s gs; hs = elements s hs; l = l; r = r }

  -- both commitments together
  abbrev pub claim_answer : List E → List E → M → List ℕ → List ℕ → Result (M × M) WriterFault
  claim_answer gs hs key l r =
      and_then (claim_refused s gs hs l r) (λ _.
      Ok ((claim_of s key (lists_of gs hs l r)).a, (claim_of s key (lists_of gs hs l r)).b))

  -- the four elements
  abbrev pub message_answer : List E → List E → M → List ℕ → List ℕ → Result (Message M) WriterFault
  message_answer gs hs key l r = and_then (message_refused s gs hs l r) (λ _. Ok (message_of s key (lists_of gs hs l r)))

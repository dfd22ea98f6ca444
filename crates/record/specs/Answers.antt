-- What opening a record and checking it answer. Assumes nothing.
use Rattle.std.specs.Prelude.{ℕ, ◌^◌, min, Bool, List, take, Ok, Err, Result}
use Rattle.kind.specs.Bytes.{Writing}
use Rattle.kind.specs.Faults.{and_then, wrapped}
use Rattle.kind.specs.Kinds.{Meaning}
use Rattle.method.specs.Meaning.{method_answer}
use Rattle.record.specs.Contents.{contents_in}
use Rattle.record.specs.Folded.{Reckoned, reckoned}
use Rattle.record.specs.Parts.{Piece, pieces_in, left, rounds_in}
use Rattle.record.specs.declared.fault.RecordFault.{RecordFault}
use Rattle.record.specs.declared.fault.RecordFault.TheVariants.{Method}
use Rattle.record.specs.declared.part.Reader.{Reader}

-- an opened reader, by what it has yet to hand out
abbrev pub opened : Result Reader RecordFault → Result (List Piece) RecordFault
opened (Ok r) = Ok (left r)
opened (Err f) = Err f

-- a record is read whole; then its parts are there to be handed out
abbrev pub open_answer : {M : Type 0} → Writing M → ℕ → List ℕ → Result (List Piece) RecordFault
open_answer w q bs = and_then (contents_in w q bs) (λ _. Ok (pieces_in w.width bs))

module _ {M E : Type 0} (s : Meaning M E) where
  -- the method's verdict, or its refusal, for what a record comes to
  abbrev pub reckoned_answer : Reckoned M → List E → List E → M → ℕ → ℕ → Result Bool RecordFault
  reckoned_answer r gs hs k we wn =
      wrapped Method (method_answer s r.challenges r.z gs hs k r.last_pair.0 r.last_pair.1 we wn) 0

module _ {M E : Type 0} (s : Meaning M E) (w : Writing M) where
  -- the record's fault, else the method's answer
  abbrev pub record_answer : List ℕ → List E → List E → M → ℕ → ℕ → Result Bool RecordFault
  record_answer bs gs hs k we wn =
      and_then (contents_in w s.order bs) (λ c. reckoned_answer s (reckoned s c) gs hs k we wn)

  -- the same over the first 2 ^ k entries of longer lists; a k above 8 is refused whatever the lists
  abbrev pub front_answer : List ℕ → List E → List E → M → ℕ → ℕ → Result Bool RecordFault
  front_answer bs gs hs k we wn = record_answer bs (take (2 ^ min (rounds_in bs) 8) gs) (take (2 ^ min (rounds_in bs) 8) hs) k we wn

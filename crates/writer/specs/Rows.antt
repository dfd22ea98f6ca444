-- The lists of a proof in its work lists. Assumes nothing.
use Rattle.std.specs.Prelude.{◌≡◌, ℕ, ◌+◌, ◌^◌, ◌≤◌, List, take, drop}
use Rattle.kind.specs.Kinds.{Meaning, elements}
use Rattle.ledger.specs.Rules.{Lists}
use Rattle.record.specs.Parts.{record_length}
use Rattle.writer.specs.Ready.{AsLong}

-- lists of m entries that stand in two work lists, G and l from 0 on, H and r from n on
abbrev pub lists_in : {M E : Type 0} → Meaning M E → ℕ → ℕ → List E → List ℕ → Lists M
lists_in s n m es ns =
    record { gs = take m (elements s es); hs = take m (drop n (elements s es)); l = take m ns; r = take m (drop n ns) }

-- lists of g, h, l and r entries for k challenges, all as long as G, room for the record at elements of w bytes, and work lists of twice the length
pub record WritableLists (w k g h l r out elements numbers : ℕ) : Type 0 where
  pub long : AsLong g h l r
  pub size : g ≡ 2 ^ k
  pub few : k ≤ 8
  pub room_out : record_length w k ≤ out
  pub room_elements : elements ≡ g + g
  pub room_numbers : numbers ≡ g + g

-- The record of a group, over the bench lists of clear numbers. Assumes nothing.
use Rattle.std.specs.Prelude.{ℕ, List, length, vec_items}
use Rattle.kind.specs.Bench.{bench_entries}
use Rattle.kind.specs.Bytes.{clear_writing}
use Rattle.kind.specs.Clears.{clear_meaning}
use Rattle.writer.specs.Answers.{lists_of}
use Rattle.writer.specs.Records.{record_of}
use Rattle.proof_write.specs.declared.groups.Group.{Group}

-- the record of the published rules, with one list for G and for H, and the base for K
unfoldable pub record_over : List ℕ → Group → List ℕ
record_over bases g =
    record_of clear_meaning clear_writing clear_meaning.base (vec_items g.challenges)
    (lists_of clear_meaning bases bases (vec_items g.quantities) (vec_items g.prices))

-- the record over the bench list of as many entries as there are quantities
abbrev pub group_record : Group → List ℕ
group_record g = record_over (bench_entries clear_meaning (length (vec_items g.quantities))) g

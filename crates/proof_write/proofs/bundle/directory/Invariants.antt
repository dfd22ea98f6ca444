use Rattle.std.proofs.Common.{◌≡◌, ◌+◌, ◌++◌, ◌^◌, ◌<◌, length, map, drop, vec_items, vec_len}
use Rattle.proof_write.specs.Bundle.{total, pairs_from, directory_end, directory_bytes}
use Rattle.proof_write.proofs.bundle.directory.Given as goal

abbrev pub invariant-loop-record : goal.invariant-loop-record
invariant-loop-record l =
    (l.offset + total (map vec_len (drop l.record-index l.records)) ≡ directory_end (length l.records) + total (map vec_len l.records))
    × (vec_items l.out ++ pairs_from l.offset (map vec_len (drop l.record-index l.records)) ≡ directory_bytes (map vec_len l.records))
    × (l.offset < 2 ^ 32)

use Rattle.std.proofs.Common.{◌≡◌, ◌++◌, map, drop, vec_items}
use Rattle.proof_write.specs.Hex.{hex_lines}
use Rattle.proof_write.proofs.bundle.push_lines.Given as goal

abbrev pub invariant-loop-record : goal.invariant-loop-record
invariant-loop-record l =
    vec_items l.out ++ hex_lines (map vec_items (drop l.record-index l.records)) ≡ vec_items l.initial.out ++ hex_lines (map vec_items l.records)

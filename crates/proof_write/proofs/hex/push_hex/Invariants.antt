use Rattle.std.proofs.Common.{◌≡◌, ◌++◌, drop, vec_items}
use Rattle.proof_write.specs.Hex.{hex_of}
use Rattle.proof_write.proofs.hex.push_hex.Given as goal

abbrev pub invariant-loop-byte : goal.invariant-loop-byte
invariant-loop-byte l = vec_items l.out ++ hex_of (drop l.byte-index l.bytes) ≡ vec_items l.initial.out ++ hex_of l.bytes

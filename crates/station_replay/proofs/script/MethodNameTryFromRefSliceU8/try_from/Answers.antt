use Rattle.std.proofs.Common.{codes, rules, arith}
use Rattle.std.proofs.lemmas.Slice.Eq.{text_from_reads}
use Rattle.station_replay.proofs.script.MethodNameTryFromRefSliceU8.try_from.Goals as goal

pub returns-in-multiplying : goal.returns-in-multiplying
returns-in-multiplying c = text_from_reads c.args.word.now (codes "multiplying") (omega arith) (search rules depth 30)

use Rattle.std.proofs.Common.{ℕ, ◌++◌, length, ap₂}
use Rattle.std.proofs.lemmas.List.{drop-replicate}
use Rattle.method.proofs.tables.padded.Goals as goal

pub returns : goal.returns
returns c =
    let n : ℕ = length c.args.entries.now in
    ap₂ ◌++◌ c.copy_from_slice.ensures.after (drop-replicate n 8 0)

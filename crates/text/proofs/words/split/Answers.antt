use Rattle.std.proofs.Common.{◌∙◌, ap, drop, arith}
use Rattle.text.proofs.Scans.{count_low, behind_mark}
use Rattle.text.proofs.words.split.Goals as goal

pub split_at-requires : goal.split_at-requires
split_at-requires c = omega (arith, count_low c.args.mark c.args.bytes.now)

pub returns-clause-behind : goal.returns-clause-behind
returns-clause-behind c =
    behind_mark c.args.mark c.args.bytes.now c.split_at.result.1.now c.get.result
    (c.split_at.ensures.back ∙ ap (λ k. drop k c.args.bytes.now) c.before-2.ensures) c.get.ensures.lookup

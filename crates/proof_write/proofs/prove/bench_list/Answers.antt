use Rattle.std.proofs.Common.{◌≡◌, length, ap, ◌∙◌, arith}
use Rattle.std.proofs.lemmas.List.{with_items_is}
use Rattle.kind.specs.Bench.{bench_entries}
use Rattle.kind.specs.Clears.{clear_meaning}
use Rattle.proof_write.proofs.prove.bench_list.Goals as goal

pub returns : goal.returns
returns c =
    let long : length c.deref_mut.result.now ≡ c.args.n = omega (arith, c.deref_mut.ensures.len, c.in_ok-bench.ensures.len) in
    with_items_is c.in_ok-bench.bench c.fill_bench.new.entries (omega (arith, c.fill_bench.auto.entries, c.deref_mut.ensures.len))
    ∙ c.fill_bench.ensures
    ∙ ap (bench_entries clear_meaning) long

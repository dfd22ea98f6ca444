use Rattle.std.proofs.Common.{◌≡◌, ℕ, ◌+◌, ◌%◌, ◌≤◌, [], ◌∷◌, ◌++◌, length, sym, ap, ◌∙◌, ap₂, zero-add, arith}
use Rattle.std.proofs.lemmas.List.FromFn.{map-range_with_len_more}
use Rattle.std.proofs.lemmas.List.{take_more_set, take_all}
use Rattle.protocol.specs.Group.{power}
use Rattle.kind.specs.Bench.{bench_entry, bench_entries}
use Rattle.kind.proofs.bench.fill_bench.Goals as goal

pub loop-i-preserved : goal.loop-i-preserved
loop-i-preserved g c =
    let s = g.K.Kind.meaning in
    let i : ℕ = c.loop-i.i in
    take_more_set c.loop-i.entries i c.to_entry.result (omega arith)
    ∙ ap₂ (λ l d. l ++ (d ∷ [])) c.loop-i.invariant
    (c.to_entry.ensures ∙ ap s.entry (c.power.ensures ∙ ap (λ x. power s.group x (2 + i % 9)) c.base.ensures))
    ∙ sym (map-range_with_len_more (bench_entry s) 0 i i (zero-add i))

pub returns : goal.returns
returns g c =
    let s = g.K.Kind.meaning in
    let i : ℕ = c.loop-i.i in
    let all : length c.loop-i.entries ≤ i = omega arith in
    let n : i ≡ length c.args.entries.now = omega arith in
    sym (take_all i c.loop-i.entries all) ∙ c.loop-i.invariant ∙ ap (bench_entries s) n

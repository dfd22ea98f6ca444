use Rattle.std.proofs.Common.{◌≡◌, length, take, vec_items, ap, ◌∙◌, arith}
use Rattle.std.proofs.lemmas.List.{with_items_is}
use Rattle.kind.specs.Bench.{bench_entries}
use Rattle.kind.specs.Clears.{clear_meaning}
use Rattle.proof_write.specs.Proofs.{record_over}
use Rattle.proof_write.proofs.Wrote.{ok_before}
use Rattle.proof_write.proofs.prove.record_of.Goals as goal

pub returns : goal.returns
returns c =
    let g = c.args.group.now in
    let count : c.len-n.result ≡ length (vec_items g.quantities) = c.len-n.ensures ∙ g.quantities.ok.0 in
    let bases : c.deref.result.now ≡ bench_entries clear_meaning (length (vec_items g.quantities)) =
    c.deref.ensures.value ∙ c.in_ok-bench.ensures ∙ ap (bench_entries clear_meaning) count in
    c.truncate.ensures.items
    ∙ ap (take c.in_ok-length.length) (with_items_is c.in_ok-out.out c.write_record.new.out (omega (arith, c.write_record.auto.out, c.deref_mut.ensures.len)))
    ∙ ok_before c.write_record.result c.map_err.result c.in_ok-length.length _
    (λ n. take n c.write_record.new.out ≡ record_over c.deref.result.now g) c.map_err.ensures.cases c.map_err.ensures.variant
    c.in_ok-length.was c.write_record.ensures
    ∙ ap (λ bs. record_over bs g) bases

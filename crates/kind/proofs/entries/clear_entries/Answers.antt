use Rattle.std.proofs.Common.{◌≡◌, ◌<◌, ◌≤◌, [], ◌∷◌, ◌++◌, length, replicate, sym, ap, ◌∙◌, add-one, arith, take_all, take-suc-set}
use Rattle.std.proofs.lemmas.List.{replicate_more}
use Rattle.kind.proofs.entries.clear_entries.Goals as goal

pub loop-x-preserved : goal.loop-x-preserved
loop-x-preserved g c =
    let h : c.loop-x.x-index < length c.loop-x.entries = omega arith in
    rw add-one (take-suc-set c.loop-x.entries c.loop-x.x-index _ h)
    ∙ ap (λ xs. xs ++ (c.to_entry-e.result ∷ [])) c.loop-x.invariant
    ∙ replicate_more c.loop-x.x-index c.to_entry-e.result

pub returns : goal.returns
returns g c =
    let h : length c.loop-x.entries ≤ c.loop-x.x-index = omega arith in
    let e : c.loop-x.x-index ≡ length c.args.entries.now = omega arith in
    sym (take_all _ _ h) ∙ c.loop-x.invariant ∙ ap (λ n. replicate n c.to_entry-e.result) e
    ∙ ap (replicate (length c.args.entries.now)) (c.to_entry-e.ensures ∙ ap g.K.Kind.meaning.entry c.unit.ensures)

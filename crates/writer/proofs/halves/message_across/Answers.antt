use Rattle.std.proofs.Common.{ℕ, ◌/◌, length, sym, ◌∙◌, arith}
use Rattle.protocol.specs.Halving.{claim1, claim2}
use Rattle.writer.proofs.ListParts.{half_first, half_last, entries_first, entries_last, long_first, long_last}
use Rattle.writer.proofs.halves.message_across.Goals as goal

pub join_powers-l1-requires : goal.join_powers-l1-requires
join_powers-l1-requires g c =
    let p = c.requires.long in
    let gs = c.args.bases.now.g.entries.now in
    let m : ℕ = length gs / 2 in
    let even = c.requires.even in
    long_last m c.args.l.now _ c.cut-3.ensures.back (omega (arith, p.long_l)) ∙ sym (long_first m gs _ c.cut.ensures.front (omega arith))

pub commit_second-l2-requires : goal.commit_second-l2-requires
commit_second-l2-requires g c =
    let p = c.requires.long in
    let hs = c.args.bases.now.h.entries.now in
    let m : ℕ = length c.args.bases.now.g.entries.now / 2 in
    let even = c.requires.even in
    let r_first = long_first m c.args.r.now _ c.cut-4.ensures.front (omega (arith, p.long_r)) in
    record {
      long = r_first ∙ sym (long_last m hs _ c.cut-2.ensures.back (omega (arith, p.long_h)));
      same = r_first ∙ sym (long_last m c.args.l.now _ c.cut-3.ensures.back (omega (arith, p.long_l)));
    }

pub join_powers-r1-requires : goal.join_powers-r1-requires
join_powers-r1-requires g c =
    let p = c.requires.long in
    let gs = c.args.bases.now.g.entries.now in
    let m : ℕ = length gs / 2 in
    let even = c.requires.even in
    long_first m c.args.l.now _ c.cut-3.ensures.front (omega (arith, p.long_l)) ∙ sym (long_last m gs _ c.cut.ensures.back (omega arith))

pub commit_second-r2-requires : goal.commit_second-r2-requires
commit_second-r2-requires g c =
    let p = c.requires.long in
    let hs = c.args.bases.now.h.entries.now in
    let m : ℕ = length c.args.bases.now.g.entries.now / 2 in
    let even = c.requires.even in
    let r_last = long_last m c.args.r.now _ c.cut-4.ensures.back (omega (arith, p.long_r)) in
    record {
      long = r_last ∙ sym (long_first m hs _ c.cut-2.ensures.front (omega (arith, p.long_h)));
      same = r_last ∙ sym (long_first m c.args.l.now _ c.cut-3.ensures.front (omega (arith, p.long_l)));
    }

pub returns : goal.returns
returns g c =
    let s = g.K.Kind.meaning in
    let q = s.order in
    let o = s.group in
    let k = c.args.bases.now.key in
    let p = c.requires.long in
    let gs = c.args.bases.now.g.entries.now in
    let hs = c.args.bases.now.h.entries.now in
    let m : ℕ = length gs / 2 in
    let ga = entries_first s m gs _ c.cut.ensures.front (omega arith) in
    let gb = entries_last s m gs _ c.cut.ensures.back (omega arith) in
    let ha = entries_first s m hs _ c.cut-2.ensures.front (omega (arith, p.long_h)) in
    let hb = entries_last s m hs _ c.cut-2.ensures.back (omega (arith, p.long_h)) in
    let la = half_first m c.args.l.now _ c.cut-3.ensures.front (omega (arith, p.long_l)) in
    let lb = half_last m c.args.l.now _ c.cut-3.ensures.back (omega (arith, p.long_l)) in
    let ra = half_first m c.args.r.now _ c.cut-4.ensures.front (omega (arith, p.long_r)) in
    let rb = half_last m c.args.r.now _ c.cut-4.ensures.back (omega (arith, p.long_r)) in
    let l1 = c.join_powers-l1.ensures ∙ (λ i. claim1 q o (ga i) (lb i)) in
    let l2 = c.commit_second-l2.ensures ∙ (λ i. claim2 q o k (hb i) (lb i) (ra i)) in
    let r1 = c.join_powers-r1.ensures ∙ (λ i. claim1 q o (gb i) (la i)) in
    let r2 = c.commit_second-r2.ensures ∙ (λ i. claim2 q o k (ha i) (la i) (rb i)) in
    λ i. record { l1 = l1 i; l2 = l2 i; r1 = r1 i; r2 = r2 i }

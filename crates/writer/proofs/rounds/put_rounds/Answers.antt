use Rattle.std.proofs.Common.{◌≡◌, ℕ, ◌-◌, ◌/◌, ◌^◌, List, length, sym, refl, ap, ◌∙◌, arith}
use Rattle.writer.specs.Rows.{lists_in}
use Rattle.writer.proofs.Lengths.{rest_of_long}
use Rattle.writer.proofs.Underway.{underway_room, underway_more, last_room, underway_end}
use Rattle.writer.proofs.rounds.put_rounds.Goals as goal

pub loop-c-init : goal.loop-c-init
loop-c-init g c =
    let s = g.K.Kind.meaning in
    let n : ℕ = c.args.n in
    let cs : List ℕ = c.args.cs.now in
    let e : length cs - 0 ≡ length cs = omega arith in
    let l = rest_of_long s g.K.WrittenKind.writing g.met.K.WrittenKind.writes c.args.key cs (lists_in s n n c.args.elements.now c.args.numbers.now) in
    record {
      checked = c.requires.checked;
      size = c.requires.size ∙ ap (λ (j : ℕ). 2 ^ j) (sym e);
      within = omega arith;
      to = refl;
      room = omega (arith, c.requires.room);
      rest = refl;
    }

pub play_round-at-requires : goal.play_round-at-requires
play_round-at-requires g c =
    let inv = c.loop-c.invariant in
    let m : ℕ = c.loop-c.m in
    record {
      checked = inv.checked;
      elements = omega (arith, c.requires.elements);
      numbers = omega (arith, c.requires.numbers);
      rows = omega (arith, inv.within);
      room = underway_room g.K.Kind.meaning g.K.WrittenKind.writing c.args.key c.args.cs.now c.args.n g.met.K.WrittenKind.writes inv (omega arith);
    }

pub loop-c-preserved : goal.loop-c-preserved
loop-c-preserved g c =
    underway_more g.K.Kind.meaning g.K.WrittenKind.writing c.args.key c.args.cs.now c.args.n c.loop-c.invariant (omega arith)
    (c.loop-c.m / 2) c.play_round-at.result c.play_round-at.new.elements c.play_round-at.new.numbers c.play_round-at.new.out
    refl c.play_round-at.ensures.checked c.play_round-at.ensures.folded c.play_round-at.ensures.laid

pub put_last-requires : goal.put_last-requires
put_last-requires g c =
    last_room g.K.Kind.meaning g.K.WrittenKind.writing c.args.key c.args.cs.now c.args.n c.loop-c.invariant (omega arith)

pub returns : goal.returns
returns g c =
    underway_end g.K.Kind.meaning g.K.WrittenKind.writing c.args.key c.args.cs.now c.args.n c.loop-c.invariant (omega arith) (omega arith)
    c.put_last.result c.put_last.new.out c.put_last.ensures

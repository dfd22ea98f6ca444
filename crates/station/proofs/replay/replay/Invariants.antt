use Rattle.std.proofs.Common.{◌≡◌, length, take, drop}
use Rattle.ledger.specs.Ledger.{fresh}
use Rattle.station.specs.Calls.{calls_of}
use Rattle.station.specs.View.{ledger_of}
use Rattle.station.proofs.Turns.{Sofar}
use Rattle.station.proofs.replay.replay.Given as goal

abbrev pub invariant-loop-i : goal.invariant-loop-i
invariant-loop-i g l =
    Sofar g.K.Kind.meaning (fresh l.number) (calls_of (length l.initial.elements) (length l.initial.numbers) l.calls) l.i (take l.i l.out) (ledger_of l.station)
    × (drop l.n l.out ≡ drop l.n l.initial.out)
    × (l.station.method ≡ l.initial.station.method)

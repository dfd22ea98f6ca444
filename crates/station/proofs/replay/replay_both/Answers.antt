use Rattle.std.proofs.Common.{ℕ, replicate, ap, ◌∙◌}
use Rattle.kind.specs.Kinds.{unit_entry}
use Rattle.station.proofs.Turns.{as_long, alike}
use Rattle.station.proofs.replay.replay_both.Goals as goal

pub returns : goal.returns
returns g c =
    let one = c.replay-first.ensures in
    let two = c.replay-second.ensures in
    let e = c.replay-first.auto.elements in
    let n = c.replay-first.auto.numbers in
    let second = as_long g.K.Kind.meaning _ _ _ _ _ c.args.calls.now _ _ e n two.promise in
    record {
      first = one.promise;
      second = second;
      alike = λ same. alike g.K.Kind.meaning _ _ _ _ _ _ same second one.promise;
      rest = one.rest;
      rest_again = two.rest;
      elements = two.elements ∙ ap (λ (m : ℕ). replicate m (unit_entry g.K.Kind.meaning)) e;
      numbers = two.numbers ∙ ap (λ (m : ℕ). replicate m 0) n;
      methods = (λ i. (one.method i, two.method i));
    }

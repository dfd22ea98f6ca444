use Rattle.std.proofs.Common.{◌≡◌, ◌==◌, ◌∙◌, ap, unwrap_or, length, rules, tests}
use Rattle.std.proofs.lemmas.Iterator.{YieldsList-from_slice}
use Rattle.std.proofs.lemmas.Iterator.Search.{position_from_yields_List}
use Rattle.std.specs.List.{position}
use Rattle.text.proofs.Scans.{position_is}
use Rattle.text.proofs.words.before.Goals as goal

pub returns : goal.returns
returns c =
    let e : c.position.result ≡ position (λ b. b == c.args.mark) c.args.bytes.now =
    position_from_yields_List (λ b. b == c.args.mark) _ _ c.position.result c.position.ensures.ran
    (YieldsList-from_slice c.args.bytes.now cc) (λ x b q k. search (rules, tests)) in
    c.unwrap_or.ensures ∙ ap (λ o. unwrap_or o (length c.args.bytes.now)) e ∙ position_is c.args.mark c.args.bytes.now

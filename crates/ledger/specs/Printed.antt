-- What each of a station's values is printed as. Assumes nothing.
use Rattle.std.specs.Prelude.{ℕ, true, false, List, ◌++◌, codes}
use Rattle.std.specs.Fmt.{decimal}
use Rattle.kind.specs.Faults.{layer_text}
use Rattle.kind.specs.declared.fault.Refusal.{Refusal}
use Rattle.ledger.specs.Faults.{station_refusal}
use Rattle.ledger.specs.declared.parts.Answer.{Answer}
use Rattle.ledger.specs.declared.parts.Answer.TheVariants.{Token, Verdict, Withdrawn, Turned, Refused}
use Rattle.ledger.specs.declared.parts.Line.{Line}
use Rattle.ledger.specs.declared.parts.Numbers.{Numbers}
use Rattle.ledger.specs.declared.parts.Page.{Page}
use Rattle.ledger.specs.declared.parts.Sort.{Sort}
use Rattle.ledger.specs.declared.parts.Sort.TheVariants.{Waiting, Heard, Closing}

abbrev pub sort_text : Sort → List ℕ
sort_text Waiting = codes "waiting"
sort_text Heard = codes "heard"
sort_text Closing = codes "closing"

-- `station case rounds`
abbrev pub numbers_text : Numbers → List ℕ
numbers_text t = decimal t.station ++ codes " " ++ decimal t.case ++ codes " " ++ decimal t.rounds

-- `opened passed failed withdrawn`
abbrev pub page_text : Page → List ℕ
page_text p =
    decimal p.opened ++ codes " " ++ decimal p.passed ++ codes " " ++ decimal p.failed ++ codes " " ++ decimal p.withdrawn

-- `number layer place`
abbrev pub refusal_text : Refusal → List ℕ
refusal_text r = decimal r.number ++ codes " " ++ layer_text r.layer ++ codes " " ++ decimal r.place

abbrev pub answer_text : Answer → List ℕ
answer_text (Token sort t) = sort_text sort ++ codes " " ++ numbers_text t
answer_text (Verdict true) = codes "pass"
answer_text (Verdict false) = codes "fail"
answer_text Withdrawn = codes "withdrawn"
answer_text (Turned p) = codes "turned " ++ page_text p
answer_text (Refused why) = codes "refused " ++ refusal_text (station_refusal why)

-- `answer page counts`
abbrev pub line_text : Line → List ℕ
line_text l = answer_text l.answer ++ codes " page " ++ page_text l.page

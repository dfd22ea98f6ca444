use Rattle.std.proofs.Common.{sym, ap, arith}
use Rattle.std.specs.Option.{ok_or}
use Rattle.kind.specs.Clears.{clear_of_some, clear_of_none}
use Rattle.kind.specs.declared.fault.KindFault.TheVariants.{NotAnElement}
use Rattle.kind.proofs.clears.ClearKind.from_entry.Goals as goal

pub returns-then-e-lt-ORDER : goal.returns-then-e-lt-ORDER
returns-then-e-lt-ORDER c = sym (ap (λ o. ok_or o (NotAnElement 0)) (clear_of_some _))

pub returns-else-e-lt-ORDER : goal.returns-else-e-lt-ORDER
returns-else-e-lt-ORDER c = sym (ap (λ o. ok_or o (NotAnElement 0)) (clear_of_none c.args.e (omega arith)))

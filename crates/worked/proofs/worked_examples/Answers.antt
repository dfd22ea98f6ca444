-- The worked examples: most of them by computing. Assumes nothing.
use Rattle.std.proofs.Common.{true, false, [], ◌∷◌, is_some, refl, ap, arith}
use native.Mathlib.Decide.{dec_lt}
use Rattle.protocol.specs.Group.{power}
use Rattle.protocol.specs.Weights.{g_weights}
use Rattle.protocol.proofs.Weights.{weights_are}
use Rattle.kind.specs.Clears.{clear_of}
use Rattle.kind.specs.Constants.{order}
use Rattle.kind.specs.Residues.{residue_unit, residue_of_some}
use Rattle.worked.proofs.Inside.{outside, too_high, claim_residues}
use Rattle.worked.proofs.Quick.{quick_is}
use Rattle.worked.proofs.worked_examples.Goals as goal

pub returns : goal.returns
unfolding power clear_of dec_lt
returns c = record {
  claim_of_one = refl;
  claim_in_residues = claim_residues;
  claim_of_two = refl;
  message_of_two = refl;
  fold_by_two = refl;
  fold_leaves_g = refl;
  fold_leaves_h = refl;
  fold_leaves_l = refl;
  fold_leaves_r = refl;
  fold_of_claim = refl;
  last_pair_passes = refl;
  last_pair_fails = refl;
  quick_passes = quick_is 558345730 true refl refl;
  quick_fails = quick_is 558345731 false refl refl;
  weights_of_three = λ ws h. ap g_weights (weights_are order (2 ∷ 3 ∷ 5 ∷ []) ws h);
  residue_one = ap is_some (residue_of_some residue_unit);
  residue_two = outside 2 _ refl (λ e. omega arith);
  residue_high = outside 2147483578 _ refl (λ e. omega arith);
  residue_modulus = too_high 2147483579 (omega arith);
  challenge_high = refl;
  challenge_zero = refl;
  challenge_order = refl;
  draw_high = refl;
  draw_zero = refl;
  draw_order = refl;
  draw_refusal = refl;
  claim_at_1 = refl;
  claim_at_256 = refl;
  claim_at_0 = refl;
  claim_at_3 = refl;
  claim_at_512 = refl;
  method_at_1 = refl;
  method_at_256 = refl;
  method_at_0 = λ cs. refl;
  method_at_3 = λ cs. refl;
  method_at_512 = λ cs. refl;
}

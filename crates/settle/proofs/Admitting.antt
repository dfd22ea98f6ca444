-- What is known where a case is not refused. Assumes nothing.
use Rattle.std.proofs.Common.{◌≡◌, ℕ, ◌≤◌, List, length, Ok, ◌∙◌}
use Rattle.kind.proofs.Listed.{length-elements}
use Rattle.kind.proofs.Steps.{both_went}
use Rattle.kind.specs.Kinds.{Meaning, Lawful}
use Rattle.ledger.specs.Script.{Playable}
use Rattle.writer.proofs.Admits.{as_long, ready}
use Rattle.writer.proofs.Unrefused.{has_room, counted, challenges_in, below}
use Rattle.writer.specs.Answers.{lists_of}
use Rattle.writer.specs.Ready.{Ready}
use Rattle.writer.specs.Refusals.{sizes_refused, lengths_refused, content_refused, challenges_refusal}
use Rattle.writer.specs.Whole.{count_refused, shape_refused, room_refusal}
use Rattle.writer.specs.declared.fault.WriterFault.TheVariants.{NotAChallenge}
use Rattle.settle.specs.Cases.{work_lists_refused, play_refused}

-- room for n entries in each work list
pub record Roomy (n fold_g fold_h fold_l fold_r : ℕ) : Type 0 where
  pub room_g : n ≤ fold_g
  pub room_h : n ≤ fold_h
  pub room_l : n ≤ fold_l
  pub room_r : n ≤ fold_r

roomy : (n fold_g fold_h fold_l fold_r : ℕ) → work_lists_refused n fold_g fold_h fold_l fold_r ≡ Ok tt → Roomy n fold_g fold_h fold_l fold_r
roomy n fold_g fold_h fold_l fold_r e =
    let a = both_went (room_refusal n fold_g) _ tt e in
    let b = both_went (room_refusal n fold_h) _ tt a.2 in
    let c = both_went (room_refusal n fold_l) _ tt b.2 in
    let d = both_went (room_refusal n fold_r) _ tt c.2 in
    record {
      room_g = has_room n fold_g a.0 a.1;
      room_h = has_room n fold_h b.0 b.1;
      room_l = has_room n fold_l c.0 c.1;
      room_r = has_room n fold_r d.0 d.1;
    }

module _ {M E : Type 0} (s : Meaning M E) (laws : Lawful s) where
  pub record Free (gs hs : List E) (l r cs : List ℕ) (fold_g fold_h fold_l fold_r : ℕ) : Type 0 where
    pub ready : Ready s gs hs l r
    pub playable : Playable s (lists_of s gs hs l r) cs
    pub roomy : Roomy (length gs) fold_g fold_h fold_l fold_r

  pub free : (gs hs : List E) (l r cs : List ℕ) (fold_g fold_h fold_l fold_r : ℕ) → play_refused s gs hs l r cs fold_g fold_h fold_l fold_r ≡ Ok tt
      → Free gs hs l r cs fold_g fold_h fold_l fold_r
  free gs hs l r cs fold_g fold_h fold_l fold_r e =
      let shape = both_went (shape_refused (length gs) (length hs) (length l) (length r) (length cs)) _ tt e in
      let a = both_went (sizes_refused (length gs) (length hs) (length l) (length r)) _ tt shape.1 in
      let b = both_went (lengths_refused (length gs) (length hs) (length l) (length r)) _ tt a.2 in
      let c = both_went (count_refused (length gs) (length cs)) _ tt b.2 in
      let d = both_went (work_lists_refused (length gs) fold_g fold_h fold_l fold_r) _ tt shape.2 in
      let f = both_went (content_refused s gs hs l r) _ tt d.2 in
      let h = both_went (challenges_refusal s cs) _ tt f.2 in
      let long = as_long (length gs) (length hs) (length l) (length r) b.1 in
      let count = counted (length gs) (length cs) c.1 in
      let small = below s laws gs hs l r f.1 in
      record {
        ready = ready s laws gs hs l r b.1 f.1;
        playable = record {
          few = count.0;
          gs = length-elements s gs ∙ count.1;
          hs = length-elements s hs ∙ long.long_h ∙ count.1;
          l = long.long_l ∙ count.1;
          r = long.long_r ∙ count.1;
          l_below = small.0;
          r_below = small.1;
          challenges = challenges_in s laws NotAChallenge 0 cs h.1;
        };
        roomy = roomy (length gs) fold_g fold_h fold_l fold_r d.1;
      }

-- What is known where the whole-proof call does not refuse. Assumes nothing.
use Rattle.std.proofs.Common.{◌≡◌, ℕ, zero, suc, ◌+◌, ◌^◌, ◌<◌, ◌≤◌, Bool, true, false, ◌&&◌, ◌||◌, eqb, leb, List, [], ◌∷◌, length, get_or, Ok, sym, refl, ◌∙◌, arith, eqb-true, leb-false, leb-true}
use borrow.Author.Tests.{eqb-false}
use Rattle.kind.proofs.Listed.{length-elements}
use Rattle.kind.proofs.Scans.{none_bad}
use Rattle.kind.proofs.Steps.{both_went, held}
use Rattle.kind.specs.Both.{both_true}
use Rattle.kind.specs.Faults.{wrapped, first_bad}
use Rattle.kind.specs.Kinds.{Meaning, Lawful}
use Rattle.kind.specs.Products.{entries_refusal}
use Rattle.ledger.specs.Script.{Challenges, Playable}
use Rattle.writer.specs.Whole.{count_refused, shape_refused, room_refusal, rooms_refused, whole_refused}
use Rattle.record.specs.Parts.{record_length}
use Rattle.writer.specs.Answers.{lists_of}
use Rattle.writer.specs.Ready.{Ready}
use Rattle.writer.specs.Refusals.{sizes_refused, lengths_refused, scalars_refusal, no_challenge, challenges_refusal, content_refused}
use Rattle.writer.proofs.Admits.{as_long, size_within, g_sized, ready}
use Rattle.writer.specs.declared.fault.WriterFault.TheVariants.{Length, Room, NotAScalar, NotAChallenge, Kind}

pub has_room : (n m : ℕ) (x : Unit) → room_refusal n m ≡ Ok x → n ≤ m
has_room n m x e = leb-true n m (held (leb n m) (Room m) x e)

pub counted : (n k : ℕ) → count_refused n k ≡ Ok tt → (k ≤ 8) × (n ≡ 2 ^ k)
counted n k e =
    let p = both_true (leb k 8) (eqb (2 ^ k) n) (held (leb k 8 && eqb (2 ^ k) n) (Length k) tt e) in
    (leb-true k 8 p.0, sym (eqb-true (2 ^ k) n p.1))

-- the lengths alone
pub shaped : (g h l r k : ℕ) → shape_refused g h l r k ≡ Ok tt → (k ≤ 8) × (g ≡ 2 ^ k) × (g ≤ 256)
shaped g h l r k e =
    let a = both_went (sizes_refused g h l r) _ tt e in
    let b = both_went (lengths_refused g h l r) _ tt a.2 in
    let c = both_went (count_refused g k) _ tt b.2 in
    let count = counted g k c.1 in
    (count.0, count.1, size_within g (g_sized g h l r a.1))

-- room for the record and for two lists of n entries in either work list
pub record Roomy (w n k out we wn : ℕ) : Type 0 where
  pub record_fits : record_length w k ≤ out
  pub elements_fit : n + n ≤ we
  pub numbers_fit : n + n ≤ wn

roomy : (w n k out we wn : ℕ) → rooms_refused w n k out we wn ≡ Ok tt → Roomy w n k out we wn
roomy w n k out we wn e =
    let a = both_went (room_refusal (record_length w k) out) _ tt e in
    let b = both_went (room_refusal (n + n) we) _ tt a.2 in
    let c = both_went (room_refusal (n + n) wn) _ tt b.2 in
    record {
      record_fits = has_room (record_length w k) out a.0 a.1;
      elements_fit = has_room (n + n) we b.0 b.1;
      numbers_fit = has_room (n + n) wn c.0 c.1;
    }

-- scalars none of which is refused are below q, and so is what counts behind their end
all_below : (q : ℕ) {F : Type 0} (fault : ℕ → F) → 0 < q → (i : ℕ) (xs : List ℕ) → first_bad (leb q) fault i xs ≡ Ok tt → (j : ℕ) → get_or xs j 0 < q
all_below q fault pos i [] e j = pos
all_below q fault pos i (x ∷ xs) e zero = leb-false q x (none_bad (leb q) fault i x xs e).0
all_below q fault pos i (x ∷ xs) e (suc j) = all_below q fault pos (i + 1) xs (none_bad (leb q) fault i x xs e).1 j

neither : (a b : Bool) → (a || b) ≡ false → (a ≡ false) × (b ≡ false)
neither true b e = (cc, cc)
neither false b e = (refl, e)

module _ {M E : Type 0} (s : Meaning M E) (laws : Lawful s) where
  pub challenges_in : {F : Type 0} (fault : ℕ → F) (i : ℕ) (cs : List ℕ) → first_bad (no_challenge s) fault i cs ≡ Ok tt → Challenges s.order cs
  challenges_in fault i [] e = tt
  challenges_in fault i (c ∷ cs) e =
      let p = none_bad (no_challenge s) fault i c cs e in
      let n = neither (eqb c 0) (leb s.order c) p.0 in
      let apart = eqb-false c 0 n.0 in
      (omega arith, leb-false s.order c n.1, challenges_in fault (i + 1) cs p.1)

  -- scalars below the order
  pub below : (gs hs : List E) (l r : List ℕ) → content_refused s gs hs l r ≡ Ok tt → ((i : ℕ) → get_or l i 0 < s.order) × ((i : ℕ) → get_or r i 0 < s.order)
  below gs hs l r e =
      let low = laws.order_low in
      let pos : 0 < s.order = omega arith in
      let a = both_went (wrapped Kind (entries_refusal s gs) 0) _ tt e in
      let b = both_went (wrapped Kind (entries_refusal s hs) 0) _ tt a.2 in
      let c = both_went (scalars_refusal s l) _ tt b.2 in
      let d = both_went (scalars_refusal s r) _ tt c.2 in
      (all_below s.order NotAScalar pos 0 l c.1, all_below s.order NotAScalar pos 0 r d.1)

  -- what a whole-proof call that is not refused has been handed
  pub record Unrefused (w : ℕ) (gs hs : List E) (l r cs : List ℕ) (out we wn : ℕ) : Type 0 where
    pub ready : Ready s gs hs l r
    pub size : length gs ≡ 2 ^ length cs
    pub playable : Playable s (lists_of s gs hs l r) cs
    pub roomy : Roomy w (length gs) (length cs) out we wn

  pub unrefused : (w : ℕ) (gs hs : List E) (l r cs : List ℕ) (out we wn : ℕ) → whole_refused s w gs hs l r cs out we wn ≡ Ok tt
      → Unrefused w gs hs l r cs out we wn
  unrefused w gs hs l r cs out we wn e =
      let shape = both_went (shape_refused (length gs) (length hs) (length l) (length r) (length cs)) _ tt e in
      let a = both_went (sizes_refused (length gs) (length hs) (length l) (length r)) _ tt shape.1 in
      let b = both_went (lengths_refused (length gs) (length hs) (length l) (length r)) _ tt a.2 in
      let c = both_went (count_refused (length gs) (length cs)) _ tt b.2 in
      let d = both_went (rooms_refused w (length gs) (length cs) out we wn) _ tt shape.2 in
      let f = both_went (content_refused s gs hs l r) _ tt d.2 in
      let h = both_went (challenges_refusal s cs) _ tt f.2 in
      let long = as_long (length gs) (length hs) (length l) (length r) b.1 in
      let count = counted (length gs) (length cs) c.1 in
      let small = below gs hs l r f.1 in
      record {
        ready = ready s laws gs hs l r b.1 f.1;
        size = count.1;
        playable = record {
          few = count.0;
          gs = length-elements s gs ∙ count.1;
          hs = length-elements s hs ∙ long.long_h ∙ count.1;
          l = long.long_l ∙ count.1;
          r = long.long_r ∙ count.1;
          l_below = small.0;
          r_below = small.1;
          challenges = challenges_in NotAChallenge 0 cs h.1;
        };
        roomy = roomy w (length gs) (length cs) out we wn d.1;
      }

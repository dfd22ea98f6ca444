-- What is known where nothing is refused. Assumes nothing.
use Rattle.std.proofs.Common.{◌≡◌, ℕ, ◌≤◌, eqb, leb, List, ◌++◌, length, take, drop, replicate, Ok, ap, ◌∙◌, ap₂, arith, eqb-true, leb-true}
use Rattle.std.proofs.lemmas.List.{length-take-le}
use Rattle.kind.specs.Faults.{first_of, wrapped}
use Rattle.kind.specs.Kinds.{Meaning, Lawful, AllElements}
use Rattle.kind.specs.Products.{entries_refusal}
use Rattle.kind.proofs.Listed.{all_checked}
use Rattle.kind.proofs.Steps.{both_went, held, unwrapped}
use Rattle.method.specs.declared.fault.MethodFault.TheVariants.{Length, Room, Kind}
use Rattle.method.specs.Meaning.{size_refusal, length_refusal, room_refusal, length_refusals, content_refusals}

-- the first n of a list were lent, and are u now
pub cleared_part : {A : Type 0} (xs ys : List A) (n m : ℕ) (u : A) → n ≡ m → m ≤ length xs → ys ≡ replicate (length (take n xs)) u
    → ys ++ drop n xs ≡ replicate m u ++ drop m xs
cleared_part xs ys n m u same room is =
    ap₂ ◌++◌ (is ∙ ap (λ k. replicate k u) (length-take-le n xs (omega arith) ∙ same)) (ap (λ k. drop k xs) same)

pub record Shaped (n g h elements numbers : ℕ) : Type 0 where
  pub fits_g : g ≡ n
  pub fits_h : h ≡ n
  pub room_e : n ≤ elements
  pub room_n : n ≤ numbers

pub shaped : (n g h elements numbers : ℕ) → first_of (length_refusals n g h elements numbers) ≡ Ok tt → Shaped n g h elements numbers
shaped n g h elements numbers e =
    let a = both_went (size_refusal g) _ tt e in
    let b = both_went (size_refusal h) _ tt a.2 in
    let c = both_went (length_refusal n g) _ tt b.2 in
    let d = both_went (length_refusal n h) _ tt c.2 in
    let f = both_went (room_refusal n elements) _ tt d.2 in
    let l = both_went (room_refusal n numbers) _ tt f.2 in
    record {
      fits_g = eqb-true g n (held (eqb g n) (Length g) c.0 c.1);
      fits_h = eqb-true h n (held (eqb h n) (Length h) d.0 d.1);
      room_e = leb-true n elements (held (leb n elements) (Room elements) f.0 f.1);
      room_n = leb-true n numbers (held (leb n numbers) (Room numbers) l.0 l.1);
    }

module _ {M E : Type 0} (s : Meaning M E) (laws : Lawful s) where
  pub all_both : (gs hs : List E) (a b : ℕ) → first_of (content_refusals s gs hs a b) ≡ Ok tt → AllElements s gs × AllElements s hs
  all_both gs hs a b e =
      let p = both_went (wrapped Kind (entries_refusal s gs) 0) _ tt e in
      let r = both_went (wrapped Kind (entries_refusal s hs) 0) _ tt p.2 in
      (all_checked s laws gs (unwrapped Kind (entries_refusal s gs) 0 p.0 p.1), all_checked s laws hs (unwrapped Kind (entries_refusal s hs) 0 r.0 r.1))

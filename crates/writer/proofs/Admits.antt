-- What is known where a writer's call refuses nothing. Assumes nothing.
use Rattle.std.proofs.Common.{◌≡◌, ℕ, ◌+◌, ◌/◌, ◌<◌, ◌≤◌, Bool, true, false, ◌||◌, eqb, ltb, List, length, Ok, sym, refl, subst, arith, ltb-true, eqb-true}
use Rattle.kind.specs.Faults.{wrapped}
use Rattle.kind.specs.Kinds.{Meaning, Lawful, AllElements}
use Rattle.kind.specs.Products.{entries_refusal}
use Rattle.kind.proofs.Listed.{all_checked}
use Rattle.kind.proofs.Steps.{both_went, held, unwrapped}
use Rattle.method.specs.Meaning.{is_size}
use Rattle.writer.specs.Ready.{AsLong, Ready}
use Rattle.writer.specs.Refusals.{size_refusal, length_refusal, sizes_refused, lengths_refused, length_one_refused, content_refused, claim_refused, message_refused, fold_refused}
use Rattle.writer.specs.declared.fault.WriterFault.TheVariants.{Size, Length, LengthOne, Kind}

either : {P : Type 0} (a b : Bool) → (a || b) ≡ true → (a ≡ true → P) → (b ≡ true → P) → P
either true b e f g = f refl
either false b e f g = g e

-- a size is one of nine
by_size : (P : ℕ → Type 0) (n : ℕ) → is_size n ≡ true → P 1 → P 2 → P 4 → P 8 → P 16 → P 32 → P 64 → P 128 → P 256 → P n
by_size P n h p1 p2 p4 p8 p16 p32 p64 p128 p256 =
    let at : (m : ℕ) → P m → eqb n m ≡ true → P n = λ m p e. subst P (sym (eqb-true n m e)) p in
    either (eqb n 1) _ h (at 1 p1) (λ h2.
    either (eqb n 2) _ h2 (at 2 p2) (λ h4.
    either (eqb n 4) _ h4 (at 4 p4) (λ h8.
    either (eqb n 8) _ h8 (at 8 p8) (λ h16.
    either (eqb n 16) _ h16 (at 16 p16) (λ h32.
    either (eqb n 32) _ h32 (at 32 p32) (λ h64.
    either (eqb n 64) _ h64 (at 64 p64) (λ h128.
    either (eqb n 128) _ h128 (at 128 p128) (at 256 p256))))))))

-- a size above 1 is even
pub size_even : (n : ℕ) → is_size n ≡ true → 1 < n → n / 2 + n / 2 ≡ n
size_even n h =
    by_size (λ (m : ℕ). 1 < m → m / 2 + m / 2 ≡ m) n h
    (λ b. omega arith) (λ b. refl) (λ b. refl) (λ b. refl) (λ b. refl) (λ b. refl) (λ b. refl) (λ b. refl) (λ b. refl)

pub size_within : (n : ℕ) → is_size n ≡ true → n ≤ 256
size_within n h =
    by_size (λ (m : ℕ). m ≤ 256) n h
    (omega arith) (omega arith) (omega arith) (omega arith) (omega arith) (omega arith) (omega arith) (omega arith) (omega arith)

-- the length of G is a size
pub g_sized : (g h l r : ℕ) → sizes_refused g h l r ≡ Ok tt → is_size g ≡ true
g_sized g h l r e =
    let a = both_went (size_refusal g) _ tt e in
    held (is_size g) (Size g) a.0 a.1

pub as_long : (g h l r : ℕ) → lengths_refused g h l r ≡ Ok tt → AsLong g h l r
as_long g h l r e =
    let a = both_went (length_refusal g h) _ tt e in
    let b = both_went (length_refusal g l) _ tt a.2 in
    let c = both_went (length_refusal g r) _ tt b.2 in
    record {
      long_h = eqb-true h g (held (eqb h g) (Length h) a.0 a.1);
      long_l = eqb-true l g (held (eqb l g) (Length l) b.0 b.1);
      long_r = eqb-true r g (held (eqb r g) (Length r) c.0 c.1);
    }

module _ {M E : Type 0} (s : Meaning M E) (laws : Lawful s) (gs hs : List E) (l r : List ℕ) where
  pub both_elements : content_refused s gs hs l r ≡ Ok tt → AllElements s gs × AllElements s hs
  both_elements e =
      let p = both_went (wrapped Kind (entries_refusal s gs) 0) _ tt e in
      let t = both_went (wrapped Kind (entries_refusal s hs) 0) _ tt p.2 in
      (all_checked s laws gs (unwrapped Kind (entries_refusal s gs) 0 p.0 p.1), all_checked s laws hs (unwrapped Kind (entries_refusal s hs) 0 t.0 t.1))

  pub ready : lengths_refused (length gs) (length hs) (length l) (length r) ≡ Ok tt → content_refused s gs hs l r ≡ Ok tt → Ready s gs hs l r
  ready e f =
      let a = as_long (length gs) (length hs) (length l) (length r) e in
      let b = both_elements f in
      record { all_g = b.0; all_h = b.1; long_h = a.long_h; long_l = a.long_l; long_r = a.long_r }

  pub claim_ready : claim_refused s gs hs l r ≡ Ok tt → Ready s gs hs l r
  claim_ready e =
      let a = both_went (sizes_refused (length gs) (length hs) (length l) (length r)) _ tt e in
      let b = both_went (lengths_refused (length gs) (length hs) (length l) (length r)) _ tt a.2 in
      let c = both_went (content_refused s gs hs l r) _ tt b.2 in
      ready b.1 c.1

  -- and the lists have two halves
  pub message_ready : message_refused s gs hs l r ≡ Ok tt → Ready s gs hs l r × (length gs / 2 + length gs / 2 ≡ length gs)
  message_ready e =
      let a = both_went (sizes_refused (length gs) (length hs) (length l) (length r)) _ tt e in
      let b = both_went (lengths_refused (length gs) (length hs) (length l) (length r)) _ tt a.2 in
      let c = both_went (length_one_refused (length gs)) _ tt b.2 in
      let d = both_went (content_refused s gs hs l r) _ tt c.2 in
      let big = ltb-true 1 (length gs) (held (ltb 1 (length gs)) LengthOne c.0 c.1) in
      (ready b.1 d.1, size_even (length gs) (g_sized (length gs) (length hs) (length l) (length r) a.1) big)

  pub fold_ready : (c : ℕ) → fold_refused s gs hs l r c ≡ Ok tt → Ready s gs hs l r × (length gs / 2 + length gs / 2 ≡ length gs)
  fold_ready c e =
      let a = both_went (message_refused s gs hs l r) _ tt e in
      message_ready a.1

-- Where the rounds of a record stand: what is still to be written. Assumes nothing.
use Rattle.std.proofs.Common.{◌≡◌, ℕ, ◌+◌, ◌-◌, ◌*◌, ◌/◌, ◌^◌, ◌<◌, ◌≤◌, List, ◌++◌, length, get_or, drop, sym, ap, ◌∙◌, ap₂, arith, length-append, pow_pos}
use Rattle.std.proofs.lemmas.List.{drop_more, drop_all, get_or-take, get_or-drop}
use Rattle.kind.specs.Bytes.{Writing, WellWritten, bytes_of}
use Rattle.kind.specs.Kinds.{Meaning, AllElements}
use Rattle.method.proofs.Foldings.{twice}
use Rattle.ledger.specs.Ledger.{lower, upper}
use Rattle.ledger.specs.Rules.{Lists, folded, message_of}
use Rattle.record.specs.Fields.{round_of}
use Rattle.writer.specs.Laying.{laid, Laid}
use Rattle.writer.specs.Records.{round_written, rest_of}
use Rattle.writer.specs.Rows.{lists_in}
use Rattle.writer.proofs.Laid.{laid_more, kept}
use Rattle.writer.proofs.Lengths.{round_long}

module _ {M E : Type 0} (s : Meaning M E) (w : Writing M) (key : M) (cs : List ℕ) (n : ℕ) where
  -- the bytes of the round by c, at the lists x
  abbrev pub round_at : ℕ → Lists M → List ℕ
  round_at c x = round_written w (round_of (lower (message_of s key x)) (upper (message_of s key x)) c)

  -- after i rounds: lists of m entries in the work lists es and ns, and the place `at` in out; laying what is still to come gives
  -- the goal, and ends at the place `past`
  pub record Underway (i m at : ℕ) (es : List E) (ns out : List ℕ) (past : ℕ) (goal : List ℕ) : Type 0 where
    pub checked : AllElements s es
    pub size : m ≡ 2 ^ (length cs - i)
    pub within : m ≤ n
    pub to : at + length (rest_of s w key (drop i cs) (lists_in s n m es ns)) ≡ past
    pub room : past ≤ length out
    pub rest : laid at (rest_of s w key (drop i cs) (lists_in s n m es ns)) out ≡ goal

  rest_more : (i : ℕ) (x : Lists M) → i < length cs
      → rest_of s w key (drop i cs) x ≡ round_at (get_or cs i 0) x ++ rest_of s w key (drop (i + 1) cs) (folded s (get_or cs i 0) x)
  rest_more i x h = ap (λ (l : List ℕ). rest_of s w key l x) (drop_more cs i 0 h)

  -- a round fits
  pub underway_room : WellWritten w → {i m at : ℕ} {es : List E} {ns out : List ℕ} {past : ℕ} {goal : List ℕ}
      → Underway i m at es ns out past goal → i < length cs → at + (4 * w.width + 4) ≤ length out
  underway_room good {i} {m} {at} {es} {ns} h lt =
      let x = lists_in s n m es ns in
      let c : ℕ = get_or cs i 0 in
      let a = ap length (rest_more i x lt) ∙ length-append (round_at c x) (rest_of s w key (drop (i + 1) cs) (folded s c x)) in
      let b = round_long w good (round_of (lower (message_of s key x)) (upper (message_of s key x)) c) in
      omega (arith, h.to, h.room)

  -- a round was written
  pub underway_more : {i m at : ℕ} {es : List E} {ns out : List ℕ} {past : ℕ} {goal : List ℕ}
      → Underway i m at es ns out past goal → i < length cs
      → (half at' : ℕ) (es' : List E) (ns' out' : List ℕ) → half ≡ m / 2 → AllElements s es'
      → lists_in s n half es' ns' ≡ folded s (get_or cs i 0) (lists_in s n (half + half) es ns)
      → Laid at (round_at (get_or cs i 0) (lists_in s n (half + half) es ns)) out out' at'
      → Underway (i + 1) half at' es' ns' out' past goal
  underway_more {i} {m} {at} {es} {ns} {out} {past} {goal} h lt half at' es' ns' out' hm checked lists wrote =
      let d = twice (length cs - i) (omega arith) in
      let e : length cs - i - 1 ≡ length cs - (i + 1) = omega arith in
      let p = ap (λ (j : ℕ). 2 ^ j) e in
      let size = h.size in
      let whole : half + half ≡ m = omega arith in
      let x = lists_in s n (half + half) es ns in
      let c : ℕ = get_or cs i 0 in
      let xs = round_at c x in
      let ys = rest_of s w key (drop (i + 1) cs) (lists_in s n half es' ns') in
      let all : xs ++ ys ≡ rest_of s w key (drop i cs) (lists_in s n m es ns) =
      ap (λ (z : Lists M). xs ++ rest_of s w key (drop (i + 1) cs) z) lists ∙ sym (rest_more i x lt)
      ∙ ap (λ (j : ℕ). rest_of s w key (drop i cs) (lists_in s n j es ns)) whole in
      let la = length-append xs ys in
      let l = ap length all in
      let kp = kept wrote in
      record {
        checked = checked;
        size = omega arith;
        within = omega (arith, h.within);
        to = omega (arith, wrote.to, h.to);
        room = omega (arith, h.room);
        rest = ap₂ (λ j z. laid j ys z) wrote.to wrote.is ∙ laid_more at xs ys out wrote.room ∙ ap (λ z. laid at z out) all ∙ h.rest;
      }

  -- what is left when all rounds are done
  pub last_two : (i m : ℕ) (es : List E) (ns : List ℕ) → length cs ≤ i → 0 < m
      → rest_of s w key (drop i cs) (lists_in s n m es ns) ≡ bytes_of (get_or ns 0 0) ++ bytes_of (get_or ns n 0)
  last_two i m es ns h pos =
      let e : n + 0 ≡ n = omega arith in
      ap (λ (l : List ℕ). rest_of s w key l (lists_in s n m es ns)) (drop_all i cs h)
      ∙ ap₂ (λ (a b : ℕ). bytes_of a ++ bytes_of b) (get_or-take m ns 0 0 pos) (get_or-take m (drop n ns) 0 0 pos ∙ get_or-drop n ns 0 0 ∙ ap (λ (j : ℕ). get_or ns j 0) e)

  -- the last pair fits
  pub last_room : {i m at : ℕ} {es : List E} {ns out : List ℕ} {past : ℕ} {goal : List ℕ}
      → Underway i m at es ns out past goal → length cs ≤ i → at + 8 ≤ length out
  last_room {i} {m} {at} {es} {ns} h done =
      let size = h.size in
      let pos : 0 < m = omega (arith, pow_pos (length cs - i)) in
      let l = ap length (last_two i m es ns done pos) in
      omega (arith, h.to, h.room)

  pub underway_end : {i m at : ℕ} {es : List E} {ns out : List ℕ} {start : ℕ} {all before : List ℕ}
      → Underway i m at es ns out (start + length all) (laid start all before) → length out ≡ length before → length cs ≤ i
      → (p : ℕ) (out' : List ℕ) → Laid at (bytes_of (get_or ns 0 0) ++ bytes_of (get_or ns n 0)) out out' p
      → Laid start all before out' p
  underway_end {i} {m} {at} {es} {ns} {out} {start} {all} {before} h same done p out' wrote =
      let size = h.size in
      let pos : 0 < m = omega (arith, pow_pos (length cs - i)) in
      let e = last_two i m es ns done pos in
      let l = ap length e in
      record {
        is = wrote.is ∙ ap (λ z. laid at z out) (sym e) ∙ h.rest;
        to = omega (arith, wrote.to, h.to);
        room = omega (arith, h.room);
      }

-- The check of a directory finds the first pair that breaks its rule. Assumes nothing.
use Rattle.std.proofs.Common.{◌≡◌, ℕ, zero, suc, ◌+◌, ◌*◌, ◌<◌, ◌≤◌, Bool, true, false, cond, ◌&&◌, leb, ◌⊎◌, List, [], ◌∷◌, map, length, get_or, drop, Ok, Err, Result, sym, refl, ap, ◌∙◌, subst, inl, inr, ⊎_elim, add-zero, zero-add, arith, length-drop, MatchResult}
use lib.ListN.{length-map}
use Rattle.std.proofs.lemmas.List.{drop-drop, length-take-le}
use Rattle.std.proofs.lemmas.Bool.{leb-true, leb-false, and_parts, and_from, le-leb, cases_Bool, both_ways}
use Rattle.kind.specs.Faults.{first_of, unless}
use Rattle.bundle.specs.declared.fault.BundleFault.{BundleFault}
use Rattle.bundle.specs.declared.fault.BundleFault.TheVariants.{Directory}
use Rattle.bundle.specs.declared.pairs.Extent.{Extent}
use Rattle.bundle.specs.Layout.{count_in, pair_in, pairs_in, all_pairs, directory_end, end, pairs_refusal, all_pairs_refusal, directory_refusal}
use Rattle.bundle.specs.Bodies.{body_at, bodies_in}
use Rattle.bundle.specs.Laws.{pair_at, KeepsRule, Sound, CutShort, FirstBroken, FaultIsFirst, BodiesAreWhole}
use Rattle.bundle.proofs.Steps.{length-pairs_in}

-- the pair of the index i
abbrev at : List ℕ → ℕ → Extent
at bytes i = pair_in (drop (8 * i) bytes)

-- where what stands before the pair of the index i ends
abbrev before : ℕ → List ℕ → ℕ → ℕ
before from bytes zero = from
before from bytes (suc i) = end (at bytes i)

abbrev fits : ℕ → ℕ → Extent → Type 0
fits from total p = (from ≤ p.offset) × (end p ≤ total)

abbrev Fits : ℕ → ℕ → List ℕ → ℕ → Type 0
Fits from total bytes i = fits (before from bytes i) total (at bytes i)

next_at : (bytes : List ℕ) (i : ℕ) → at (drop 8 bytes) i ≡ at bytes (suc i)
next_at bytes i =
    let n : 8 + 8 * i ≡ 8 * suc i = omega arith in
    ap pair_in (drop-drop (8 * i) 8 bytes ∙ ap (λ (m : ℕ). drop m bytes) n)

next_before : (from : ℕ) (bytes : List ℕ) (i : ℕ) → before (end (pair_in bytes)) (drop 8 bytes) i ≡ before from bytes (suc i)
next_before from bytes zero = refl
next_before from bytes (suc i) = ap end (next_at bytes i)

module _ (from total : ℕ) (bytes : List ℕ) (i : ℕ) where
  up : Fits (end (pair_in bytes)) total (drop 8 bytes) i → Fits from total bytes (suc i)
  up h = subst (λ p. fits (before from bytes (suc i)) total p) (next_at bytes i) (subst (λ b. fits b total (at (drop 8 bytes) i)) (next_before from bytes i) h)

  down : Fits from total bytes (suc i) → Fits (end (pair_in bytes)) total (drop 8 bytes) i
  down h = subst (λ b. fits b total (at (drop 8 bytes) i)) (sym (next_before from bytes i)) (subst (λ p. fits (before from bytes (suc i)) total p) (sym (next_at bytes i)) h)

record First (from total : ℕ) (bytes : List ℕ) (n i : ℕ) : Type 0 where
  within : i < n
  earlier : (j : ℕ) → j < i → Fits from total bytes j
  breaks : Fits from total bytes i → ⊥

-- what an answer tells of n pairs, the first of which has the index `base`
abbrev Told : ℕ → ℕ → ℕ → ℕ → List ℕ → Result Unit BundleFault → Type 0
Told base from total n bytes r =
    MatchResult r (λ _. (i : ℕ) → i < n → Fits from total bytes i) (λ f. (i : ℕ) × (f ≡ Directory (base + i)) × First from total bytes n i)

abbrev test : ℕ → ℕ → Extent → Bool
test from total p = leb from p.offset && leb (end p) total

kept : (from total : ℕ) (p : Extent) → test from total p ≡ true → fits from total p
kept from total p h = let a = and_parts (leb from p.offset) (leb (end p) total) h in (leb-true from p.offset a.0, leb-true (end p) total a.1)

passes : (from total : ℕ) (p : Extent) → fits from total p → test from total p ≡ true
passes from total p h = and_from (leb from p.offset) (leb (end p) total) (le-leb from p.offset h.0) (le-leb (end p) total h.1)

module _ (base from total n : ℕ) (bytes : List ℕ) where
  abbrev p : Extent
  p = pair_in bytes

  on : test from total p ≡ true → (r : Result Unit BundleFault) → Told (base + 1) (end p) total n (drop 8 bytes) r → Told base from total (suc n) bytes r
  on h (Ok x) t = λ i. elim i as (λ (m : ℕ). m < suc n → Fits from total bytes m) [ zero ↦ (λ _. kept from total p h) | suc m ↦ (λ below. up from total bytes m (t m (omega arith))) ]
  on h (Err f) t =
      let i : ℕ = t.0 in
      let e : base + 1 + i ≡ base + suc i = omega arith in (
        suc i,
        t.1 ∙ ap Directory e,
        record {
          within = omega (arith, t.2.within);
          earlier = λ j. elim j as (λ (m : ℕ). m < suc i → Fits from total bytes m) [ zero ↦ (λ _. kept from total p h) | suc m ↦ (λ below. up from total bytes m (t.2.earlier m (omega arith))) ];
          breaks = λ k. t.2.breaks (down from total bytes i k);
        },
      )

  stops : test from total p ≡ false → Told base from total (suc n) bytes (Err (Directory base))
  stops h = (
    0,
    ap Directory (sym (add-zero base)),
    record { within = omega arith; earlier = λ j below. absurd (omega arith); breaks = λ k. both_ways (test from total p) h (passes from total p k) },
  )

told : (base from total n : ℕ) (bytes : List ℕ) → Told base from total n bytes (pairs_refusal base from total (pairs_in n bytes))
told base from total zero bytes = λ i below. absurd (omega arith)
told base from total (suc n) bytes =
    let q = pair_in bytes in
    let rest = pairs_refusal (base + 1) (end q) total (pairs_in n (drop 8 bytes)) in
    ⊎_elim
    (λ h. subst (λ b. Told base from total (suc n) bytes (cond b rest (Err (Directory base)))) (sym h) (on base from total n bytes h rest (told (base + 1) (end q) total n (drop 8 bytes))))
    (λ h. subst (λ b. Told base from total (suc n) bytes (cond b rest (Err (Directory base)))) (sym h) (stops base from total n bytes h))
    (cases_Bool (test from total q))

module _ (file : List ℕ) where
  abbrev begin : ℕ
  begin = directory_end (count_in file)

  abbrev Here : ℕ → Type 0
  Here i = Fits begin (length file) (drop 2 file) i

  behind : (i : ℕ) → ((j : ℕ) → j ≤ i → Here j) → begin ≤ (pair_at file i).offset
  behind zero h = (h 0 (omega arith)).0
  behind (suc i) h =
      let a : begin ≤ (pair_at file i).offset = behind i (λ j l. h j (omega arith)) in
      let b : end (pair_at file i) ≤ (pair_at file (suc i)).offset = (h (suc i) (omega arith)).0 in
      omega arith

  last : (i j : ℕ) → j + 1 ≡ i → Here i → end (pair_at file j) ≤ (pair_at file i).offset
  last zero j e h = absurd (omega arith)
  last (suc i) j e h = let same : i ≡ j = omega arith in subst (λ (m : ℕ). end (pair_at file m) ≤ (pair_at file (suc i)).offset) same h.0

  rule : (i : ℕ) → ((j : ℕ) → j ≤ i → Here j) → KeepsRule file i
  rule i h = record {
    after_directory = behind i h;
    after_last = λ j e. last i j e (h i (omega arith));
    inside = (h i (omega arith)).1;
  }

  here : (i : ℕ) → KeepsRule file i → Here i
  here zero k = (k.after_directory, k.inside)
  here (suc i) k = (k.after_last i (omega arith), k.inside)

  abbrev Answer : Result Unit BundleFault → Type 0
  Answer r = MatchResult r (λ _. Sound file) (λ f. (i : ℕ) × (f ≡ Directory i) × (CutShort file i ⊎ FirstBroken file i))

  in_words : begin ≤ length file → (r : Result Unit BundleFault) → Told 0 begin (length file) (count_in file) (drop 2 file) r → Answer r
  in_words w (Ok x) t = record { whole = w; kept = λ i l. rule i (λ j m. t j (omega arith)) }
  in_words w (Err f) t =
      let i : ℕ = t.0 in (
        i,
        t.1 ∙ ap Directory (zero-add i),
        inr (record {
          whole = w;
          within = t.2.within;
          before = λ j l. rule j (λ k m. t.2.earlier k (omega arith));
          broken = λ k. t.2.breaks (here i k);
        }),
      )

  answer : Answer (directory_refusal file)
  answer =
      ⊎_elim
      (λ h. subst (λ b. Answer (first_of (unless b (Directory 0) ∷ all_pairs_refusal file ∷ []))) (sym h) (subst (λ r. Answer r) (whole_of (all_pairs_refusal file)) (in_words (leb-true begin (length file) h) (all_pairs_refusal file) (told 0 begin (length file) (count_in file) (drop 2 file)))))
      (λ h. subst (λ b. Answer (first_of (unless b (Directory 0) ∷ all_pairs_refusal file ∷ []))) (sym h) (0, refl, inl (record { short = leb-false begin (length file) h; place = refl })))
      (cases_Bool (leb begin (length file)))
    where
      whole_of : (r : Result Unit BundleFault) → r ≡ first_of (Ok tt ∷ r ∷ [])
      whole_of (Ok tt) = refl
      whole_of (Err f) = refl

pub fault_is_first : FaultIsFirst
fault_is_first file = answer file

lies : (file : List ℕ) (n : ℕ) (bytes : List ℕ) (i : ℕ) → i < n → get_or (map (body_at file) (pairs_in n bytes)) i [] ≡ body_at file (at bytes i)
lies file zero bytes i h = absurd (omega arith)
lies file (suc n) bytes zero h = refl
lies file (suc n) bytes (suc i) h = lies file n (drop 8 bytes) i (omega arith) ∙ ap (body_at file) (next_at bytes i)

long : (file : List ℕ) (p : Extent) → end p ≤ length file → length (body_at file p) ≡ p.size
long file p h = length-take-le p.size (drop p.offset file) (rw length-drop (omega arith))

pub bodies_are_whole : BodiesAreWhole
bodies_are_whole file ok =
    let sound : Sound file = subst (λ r. Answer file r) ok (answer file) in
    let n = count_in file in
    let bytes : (i : ℕ) → i < n → get_or (bodies_in file) i [] ≡ body_at file (pair_at file i) = lies file n (drop 2 file) in
    record {
      many = length-map (all_pairs file) (body_at file) ∙ length-pairs_in n (drop 2 file);
      bytes = bytes;
      long = λ i l. ap length (bytes i l) ∙ long file (pair_at file i) (sound.kept i l).inside;
    }

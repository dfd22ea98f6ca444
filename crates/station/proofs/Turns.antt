-- The turns of a replay. Assumes nothing.
use Rattle.std.proofs.Common.{◌≡◌, ℕ, ◌+◌, ◌<◌, List, [], ◌∷◌, ◌++◌, length, get_or, take, drop, min, sym, refl, ap, ◌∙◌, subst}
use Rattle.std.proofs.Math.Nat.{min_comm}
use Rattle.std.proofs.lemmas.List.{take_min, drop_min, length-map, length-append, take-append-drop, map_more, take-map}
use Rattle.kind.specs.Kinds.{Meaning, Lawful}
use Rattle.ledger.specs.Ledger.{Ledger, Call, step, run, final}
use Rattle.ledger.specs.Promise.{Promise}
use Rattle.ledger.specs.declared.parts.Line.{Line}
use Rattle.ledger.proofs.Walk.{promised}
use Rattle.station.specs.Calls.{call_of, calls_of}
use Rattle.station.specs.declared.call.Call.{Call as Data}

-- what is behind the lesser of m and the length is as it was, so what is behind m is
pub drop_less : {X : Type 0} (xs ys : List X) (m : ℕ) → length ys ≡ length xs
    → drop (min m (length xs)) ys ≡ drop (min m (length xs)) xs → drop m ys ≡ drop m xs
drop_less xs ys m same h = sym (drop_min m ys) ∙ ap (λ n. drop (min m n) ys) same ∙ h ∙ drop_min m xs

module _ {M E : Type 0} (kind : Meaning M E) where
  abbrev line_of : Ledger M → Call M E → Line
  line_of l x = record { answer = (step kind l x).answer; page = (step kind l x).ledger.page }

  run_more : (l : Ledger M) (xs : List (Call M E)) (x : Call M E) → run kind l (xs ++ x ∷ []) ≡ run kind l xs ++ line_of (final kind l xs) x ∷ []
  run_more l [] x = refl
  run_more l (y ∷ ys) x = ap (λ zs. line_of l y ∷ zs) (run_more (step kind l y).ledger ys x)

  final_more : (l : Ledger M) (xs : List (Call M E)) (x : Call M E) → final kind l (xs ++ x ∷ []) ≡ (step kind (final kind l xs) x).ledger
  final_more l [] x = refl
  final_more l (y ∷ ys) x = final_more (step kind l y).ledger ys x

-- i calls are done: `front` is written, and the ledger is l
pub record Sofar {M E : Type 0} (kind : Meaning M E) (start : Ledger M) (xs : List (Call M E)) (i : ℕ) (front : List Line) (l : Ledger M) : Type 0 where
  pub written : front ≡ run kind start (take i xs)
  pub reached : l ≡ final kind start (take i xs)

module _ {M E : Type 0} (kind : Meaning M E) (start : Ledger M) where
  -- u, v are the lengths of the work lists, and near_u, near_v those at this turn, which are the same
  pub turn : (u v : ℕ) (calls : List (Data M E)) (i : ℕ) (front more : List Line) (l m : Ledger M) (x : Data M E) (y : Line) (near_u near_v : ℕ)
      → near_u ≡ u → near_v ≡ v → i < length calls → x ≡ get_or calls i x → more ≡ front ++ y ∷ []
      → y.answer ≡ (step kind l (call_of near_u near_v x)).answer → y.page ≡ m.page → m ≡ (step kind l (call_of near_u near_v x)).ledger
      → Sofar kind start (calls_of u v calls) i front l → Sofar kind start (calls_of u v calls) (i + 1) more m
  turn u v calls i front more l m x y near_u near_v eu ev within read one_more answer page after h =
      let same : call_of near_u near_v x ≡ call_of u v x = (λ j. call_of (eu j) (ev j) x) in
      let xs = calls_of u v calls in
      let here : take (i + 1) xs ≡ take i xs ++ call_of u v x ∷ [] =
      take-map (call_of u v) (i + 1) calls ∙ map_more (call_of u v) calls i x within
      ∙ (λ j. sym (take-map (call_of u v) i calls) j ++ call_of u v (sym read j) ∷ []) in
      let now : m ≡ (step kind l (call_of u v x)).ledger = after ∙ ap (λ (a : Call M E). (step kind l a).ledger) same in
      let line : y ≡ line_of kind l (call_of u v x) = (λ j. record {
        answer = (answer ∙ ap (λ (a : Call M E). (step kind l a).answer) same) j;
        page = (page ∙ ap (λ (n : Ledger M). n.page) now) j;
      }) in
      record {
        written =
            one_more ∙ (λ j. h.written j ++ line j ∷ []) ∙ ap (λ (n : Ledger M). run kind start (take i xs) ++ line_of kind n (call_of u v x) ∷ []) h.reached
            ∙ sym (run_more kind start (take i xs) (call_of u v x)) ∙ ap (run kind start) (sym here);
        reached =
            now ∙ ap (λ (n : Ledger M). (step kind n (call_of u v x)).ledger) h.reached
            ∙ sym (final_more kind start (take i xs) (call_of u v x)) ∙ ap (final kind start) (sym here);
      }

  -- all that are due are done; m is the length of the list of lines
  pub done : Lawful kind → (u v : ℕ) (calls : List (Data M E)) (out : List Line) (m n i : ℕ) (l : Ledger M)
      → length out ≡ m → n ≡ min (length calls) m → i ≡ n → Sofar kind start (calls_of u v calls) i (take i out) l
      → Promise kind start (take m (calls_of u v calls)) (take (length calls) out)
  done laws u v calls out m n i l long due all h =
      let xs = calls_of u v calls in
      let at : i ≡ min (length calls) m = all ∙ due in
      let lines : take i out ≡ take (length calls) out =
      ap (λ (k : ℕ). take k out) (at ∙ ap (min (length calls)) (sym long)) ∙ take_min (length calls) out in
      let done_calls : take i xs ≡ take m xs =
      ap (λ (k : ℕ). take k xs) at ∙ ap (λ (k : ℕ). take (min k m) xs) (sym (length-map calls (call_of u v))) ∙ ap (λ (k : ℕ). take k xs) (min_comm (length xs) m) ∙ take_min m xs in
      promised laws start (take m xs) (take (length calls) out) (sym lines ∙ h.written ∙ ap (run kind start) done_calls)

  -- the same promise, for work lists as long
  pub as_long : (u v near_u near_v : ℕ) (calls : List (Data M E)) (m : ℕ) (ys : List Line) → near_u ≡ u → near_v ≡ v
      → Promise kind start (take m (calls_of near_u near_v calls)) ys → Promise kind start (take m (calls_of u v calls)) ys
  as_long u v near_u near_v calls m ys eu ev p =
      subst (λ (d : ℕ). Promise kind start (take m (calls_of u d calls)) ys) ev
      (subst (λ (d : ℕ). Promise kind start (take m (calls_of d near_v calls)) ys) eu p)

  -- the lines are told by the calls alone
  pub alike : (xs : List (Call M E)) (m n : ℕ) (ys zs : List Line) → m ≡ n
      → Promise kind start (take m xs) ys → Promise kind start (take n xs) zs → ys ≡ zs
  alike xs m n ys zs same p q = p.ledger ∙ ap (λ (d : ℕ). run kind start (take d xs)) same ∙ sym q.ledger

-- the first n of a list were lent: as many are there now
pub part_long : {A : Type 0} (xs ys : List A) (n : ℕ) → length ys ≡ length (take n xs) → length (ys ++ drop n xs) ≡ length xs
part_long xs ys n same =
    length-append ys (drop n xs) ∙ ap (λ (k : ℕ). k + length (drop n xs)) same ∙ sym (length-append (take n xs) (drop n xs)) ∙ ap length (take-append-drop n xs)

-- and, unaltered, they are the list
pub part_same : {A : Type 0} (xs ys : List A) (n : ℕ) → ys ≡ take n xs → ys ++ drop n xs ≡ xs
part_same xs ys n same = ap (λ zs. zs ++ drop n xs) same ∙ take-append-drop n xs

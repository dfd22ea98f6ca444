-- A whole input, read up to a limit. Assumes nothing.
use Rattle.std.proofs.Common.{◌≡◌, ℕ, ◌+◌, ◌<◌, ◌≤◌, Bool, true, false, cond, leb, List, [], ◌++◌, length, take, Some, None, Option, refl, ap, ◌∙◌, arith}
use Rattle.std.proofs.lemmas.List.{take_all, length-take}
use Rattle.std.proofs.lemmas.Bool.{cond_both, cond-true, cond-false, leb-true, leb-false, le-leb, lt-leb}
use Rattle.std.specs.Bool.{then_some}
use Rattle.std.specs.Option.{option_map, IfSome}
use Rattle.input.specs.Limit.{up_to_limit}

-- of one byte more than the limit, what was read decides
taken : (limit n : ℕ) (bs items : List ℕ) → n ≡ limit + 1 → items ≡ take n bs → cond (leb (length items) limit) (Some items) None ≡ up_to_limit limit bs
taken limit n bs items more e =
    cond_both (leb (length bs) limit) (Some bs) None (λ o. cond (leb (length items) limit) (Some items) None ≡ o)
    (λ t.
    let short = leb-true (length bs) limit t in
    let all : items ≡ bs = e ∙ take_all n bs (omega arith) in
    let size : length items ≡ length bs = ap length all in
    let fits : length items ≤ limit = omega arith in
    cond-true _ _ _ (le-leb _ _ fits) ∙ ap Some all
    )
    (λ f.
    let long = leb-false (length bs) limit f in
    let size : length items ≡ length (take n bs) = ap length e in
    let front = length-take n bs in
    let over : limit < length items = omega arith in
    cond-false _ _ _ (lt-leb _ _ over)
    )

given : {V : Type 0} (items_of : V → List ℕ) (b : Bool) (v : V) → option_map items_of (then_some b v) ≡ cond b (Some (items_of v)) None
given items_of true v = refl
given items_of false v = refl

pub read_is : {V : Type 0} (items_of : V → List ℕ) (limit n size : ℕ) (left read : Option (List ℕ)) (front : List ℕ) (v : V) (o : Option V)
    → n ≡ limit + 1 → size ≡ length (items_of v) → read ≡ left → front ≡ [] → o ≡ then_some (leb size limit) v
    → IfSome (option_map (take n) read) (λ bs. items_of v ≡ front ++ bs)
    → IfSome left (λ bs. option_map items_of o ≡ up_to_limit limit bs)
read_is items_of limit n size None read front v o more len same none e h = tt
read_is items_of limit n size (Some bs) read front v o more len same none e h =
    let k : items_of v ≡ front ++ take n bs = rw same at h in
    ap (option_map items_of) e
    ∙ given items_of (leb size limit) v
    ∙ ap (λ k. cond (leb k limit) (Some (items_of v)) None) len
    ∙ taken limit n bs (items_of v) more (k ∙ ap (λ f. f ++ take n bs) none)

-- Where the rounds of a case stand: what is still to be called. Assumes nothing.
use Rattle.std.proofs.Common.{◌≡◌, ℕ, ◌+◌, ◌-◌, ◌/◌, ◌^◌, ◌<◌, ◌≤◌, List, [], ◌∷◌, ◌++◌, map, length, get_or, take, drop, Ok, sym, refl, ap, ◌∙◌, subst, ap₂, append_assoc, arith, length-drop, pow_pos}
use lib.ListN.{length-map}
use Rattle.std.proofs.lemmas.List.{drop_more, drop_all, take_at, take_all, get_or-take}
use Rattle.kind.proofs.Listed.{length-elements, elements-entries, all_entries}
use Rattle.kind.specs.Kinds.{Meaning, Lawful, elements, AllElements}
use Rattle.method.proofs.Foldings.{twice}
use Rattle.ledger.proofs.Play.{playable_more}
use Rattle.ledger.specs.Ledger.{Ledger, Call, message, draw, last_pair, step, final}
use Rattle.ledger.specs.Rules.{Lists, folded, message_of}
use Rattle.ledger.specs.Script.{Playable, rest_of, last_pair_to}
use Rattle.ledger.specs.declared.parts.Answer.{Answer}
use Rattle.ledger.specs.declared.parts.Answer.TheVariants.{Withdrawn}
use Rattle.ledger.specs.declared.parts.Numbers.{Numbers}
use Rattle.ledger.specs.declared.parts.Sort.TheVariants.{Waiting, Heard, Closing}
use Rattle.station.specs.View.{last_of}
use Rattle.writer.specs.Answers.{lists_of}
use Rattle.writer.specs.Ready.{Ready}
use Rattle.writer.specs.Refusals.{fold_refused}
use Rattle.settle.specs.Cases.{token_after, calls_after, last_answer}
use Rattle.settle.proofs.Free.{fold_free}

-- a list whose front was lent: it begins with what the front begins with
begins : {A : Type 0} (m : ℕ) (fs ys zs back : List A) → ys ≡ fs ++ zs → length fs ≡ m → take m (ys ++ back) ≡ fs
begins m fs ys zs back is long =
    ap (λ l. take m (l ++ back)) is ∙ ap (take m) (append_assoc fs zs back) ∙ take_at fs (zs ++ back) m long

module _ {M E : Type 0} (s : Meaning M E) where
  -- the lists in the first m entries of the work lists
  abbrev pub front : ℕ → List E → List E → List ℕ → List ℕ → Lists M
  front m gs hs l r = lists_of s (take m gs) (take m hs) (take m l) (take m r)

module _ {M E : Type 0} (s : Meaning M E) (key : M) (t : Numbers) (n : ℕ) (start : Lists M) (cs : List ℕ) where
  -- the calls still to come after i rounds, at the lists x
  abbrev pub left : ℕ → Lists M → List (Call M E)
  left i x = rest_of s key n n (token_after t) start x i (drop i cs)

  -- after i rounds: lists of m entries in the work lists; what is still to come leads to the ledger `end`, and its last answer is `said`
  pub record Underway (i m : ℕ) (gs hs : List E) (l r : List ℕ) (ledger end : Ledger M) (said : Answer) : Type 0 where
    pub size : m ≡ 2 ^ (length cs - i)
    pub within : m ≤ n
    pub all_g : AllElements s (take m gs)
    pub all_h : AllElements s (take m hs)
    pub playable : Playable s (front s m gs hs l r) (drop i cs)
    pub leads : final s ledger (left i (front s m gs hs l r)) ≡ end
    pub says : (a : Answer) → last_answer s ledger a (left i (front s m gs hs l r)) ≡ said

  -- the calls of a round come first
  left_more : (i : ℕ) (x : Lists M) → i < length cs
      → left i x
      ≡ message Waiting (token_after t i) (message_of s key x) ∷ (draw Heard (token_after t i) (get_or cs i 0) ∷ left (i + 1) (folded s (get_or cs i 0) x))
  left_more i x h = ap (λ (ds : List ℕ). rest_of s key n n (token_after t) start x i ds) (drop_more cs i 0 h)

  -- there is a last call, so what was answered before does not matter
  any_answer : (i : ℕ) (ledger : Ledger M) (a b : Answer) (x : Lists M) → last_answer s ledger a (left i x) ≡ last_answer s ledger b (left i x)
  any_answer i ledger a b x = go (drop i cs)
    where
      go : (ds : List ℕ) → last_answer s ledger a (rest_of s key n n (token_after t) start x i ds) ≡ last_answer s ledger b (rest_of s key n n (token_after t) start x i ds)
      go [] = refl
      go (d ∷ ds) = refl

  module _ {i m : ℕ} {gs hs : List E} {l r : List ℕ} {ledger end : Ledger M} {said : Answer} (h : Underway i m gs hs l r ledger end said) where
    playable_next : i < length cs → Playable s (front s m gs hs l r) (get_or cs i 0 ∷ drop (i + 1) cs)
    playable_next lt = subst (Playable s (front s m gs hs l r)) (drop_more cs i 0 lt) h.playable

    -- the next fold is not refused; the first k entries are lent
    pub next_free : Lawful s → i < length cs → (k : ℕ) → k ≡ m → fold_refused s (take k gs) (take k hs) (take k l) (take k r) (get_or cs i 0) ≡ Ok tt
    next_free laws lt k e =
        subst (λ (j : ℕ). fold_refused s (take j gs) (take j hs) (take j l) (take j r) (get_or cs i 0) ≡ Ok tt) (sym e)
        (fold_free s laws (take m gs) (take m hs) (take m l) (take m r) (get_or cs i 0) (drop (i + 1) cs) h.all_g h.all_h (playable_next lt))

    -- a round was played: the first k entries were lent, and begin with the folded lists now
    pub underway_more : Lawful s → i < length cs → (k half : ℕ) → k ≡ m → half ≡ m / 2
        → (next : Ledger M) (yg yh zg zh bg bh : List E) (yl yr zl zr bl br : List ℕ)
        → next ≡ (step s (step s ledger (message Waiting (token_after t i) (message_of s key (front s k gs hs l r)))).ledger (draw Heard (token_after t i) (get_or cs i 0))).ledger
        → yg ≡ map s.entry (folded s (get_or cs i 0) (front s k gs hs l r)).gs ++ zg
        → yh ≡ map s.entry (folded s (get_or cs i 0) (front s k gs hs l r)).hs ++ zh
        → yl ≡ (folded s (get_or cs i 0) (front s k gs hs l r)).l ++ zl
        → yr ≡ (folded s (get_or cs i 0) (front s k gs hs l r)).r ++ zr
        → Underway (i + 1) half (yg ++ bg) (yh ++ bh) (yl ++ bl) (yr ++ br) next end said
    underway_more laws lt k half e hm next yg yh zg zh bg bh yl yr zl zr bl br went ig ih il ir =
        let c : ℕ = get_or cs i 0 in
        let x : Lists M = front s m gs hs l r in
        let same : front s k gs hs l r ≡ x = ap (λ (j : ℕ). front s j gs hs l r) e in
        let nx : Playable s (folded s c x) (drop (i + 1) cs) = playable_more s laws x c (drop (i + 1) cs) (playable_next lt) in
        let d = twice (length cs - i) (omega arith) in
        let f : length cs - i - 1 ≡ length cs - (i + 1) = omega arith in
        let p = ap (λ (j : ℕ). 2 ^ j) f in
        let size = h.size in
        let small : half ≡ 2 ^ (length cs - (i + 1)) = omega arith in
        let long : 2 ^ length (drop (i + 1) cs) ≡ half = ap (λ (j : ℕ). 2 ^ j) (length-drop (i + 1) cs) ∙ sym small in
        let is_g : take half (yg ++ bg) ≡ map s.entry (folded s c x).gs =
        begins half _ yg zg bg (ig ∙ ap (λ (y : Lists M). map s.entry (folded s c y).gs ++ zg) same) (length-map (folded s c x).gs s.entry ∙ nx.gs ∙ long) in
        let is_h : take half (yh ++ bh) ≡ map s.entry (folded s c x).hs =
        begins half _ yh zh bh (ih ∙ ap (λ (y : Lists M). map s.entry (folded s c y).hs ++ zh) same) (length-map (folded s c x).hs s.entry ∙ nx.hs ∙ long) in
        let is_l : take half (yl ++ bl) ≡ (folded s c x).l = begins half _ yl zl bl (il ∙ ap (λ (y : Lists M). (folded s c y).l ++ zl) same) (nx.l ∙ long) in
        let is_r : take half (yr ++ br) ≡ (folded s c x).r = begins half _ yr zr br (ir ∙ ap (λ (y : Lists M). (folded s c y).r ++ zr) same) (nx.r ∙ long) in
        let el_g = ap (elements s) is_g ∙ elements-entries s laws (folded s c x).gs in
        let el_h = ap (elements s) is_h ∙ elements-entries s laws (folded s c x).hs in
        let lists : front s half (yg ++ bg) (yh ++ bh) (yl ++ bl) (yr ++ br) ≡ folded s c x = (λ j. record { gs = el_g j; hs = el_h j; l = is_l j; r = is_r j }) in
        let told = went ∙ ap (λ (y : Lists M). (step s (step s ledger (message Waiting (token_after t i) (message_of s key y))).ledger (draw Heard (token_after t i) c)).ledger) same in
        let calls = left_more i x lt in
        let drew : Answer = (step s (step s ledger (message Waiting (token_after t i) (message_of s key x))).ledger (draw Heard (token_after t i) c)).answer in
        record {
          size = small;
          within = omega (arith, h.within);
          all_g = subst (AllElements s) (sym is_g) (all_entries s laws (folded s c x).gs);
          all_h = subst (AllElements s) (sym is_h) (all_entries s laws (folded s c x).hs);
          playable = subst (λ (y : Lists M). Playable s y (drop (i + 1) cs)) (sym lists) nx;
          leads = ap₂ (λ (y : Lists M) (n : Ledger M). final s n (left (i + 1) y)) lists told ∙ ap (final s ledger) (sym calls) ∙ h.leads;
          says = λ a. any_answer (i + 1) next a drew (front s half (yg ++ bg) (yh ++ bh) (yl ++ bl) (yr ++ br))
              ∙ ap₂ (λ (y : Lists M) (n : Ledger M). last_answer s n drew (left (i + 1) y)) lists told ∙ ap (last_answer s ledger said) (sym calls) ∙ h.says said;
        }

    -- all rounds are done: the last pair is what is left
    pub underway_end : (bases_g bases_h : List E) → map s.entry start.gs ≡ bases_g → map s.entry start.hs ≡ bases_h → i ≡ length cs
        → let call = last_pair Closing (token_after t (length cs)) (last_of bases_g bases_h key (get_or l 0 0) (get_or r 0 0) n n) in
        ((step s ledger call).ledger ≡ end) × ((step s ledger call).answer ≡ said)
    underway_end bases_g bases_h eg eh is =
        let x : Lists M = front s m gs hs l r in
        let size = h.size in
        let pos : 0 < m = omega (arith, pow_pos (length cs - i)) in
        let ga : get_or (take m l) 0 0 ≡ get_or l 0 0 = get_or-take m l 0 0 pos in
        let gb : get_or (take m r) 0 0 ≡ get_or r 0 0 = get_or-take m r 0 0 pos in
        let only : left i x ≡ last_pair Closing (token_after t i) (last_pair_to s key n n (token_after t) start x) ∷ [] =
        ap (λ (ds : List ℕ). rest_of s key n n (token_after t) start x i ds) (drop_all i cs (omega arith)) in
        let call : last_pair Closing (token_after t i) (last_pair_to s key n n (token_after t) start x) ≡ last_pair Closing (token_after t (length cs)) (last_of bases_g bases_h key (get_or l 0 0) (get_or r 0 0) n n) =
        (λ j. last_pair Closing (token_after t (is j)) (last_of (eg j) (eh j) key (ga j) (gb j) n n)) in
        let rest = only ∙ ap (λ (c : Call M E). c ∷ []) call in
        (ap (final s ledger) (sym rest) ∙ h.leads, ap (λ (ds : List (Call M E)). last_answer s ledger said ds) (sym rest) ∙ h.says said)

-- before the first round the work lists hold the case's own lists
pub underway_start : {M E : Type 0} (s : Meaning M E) (key : M) (t : Numbers) (gs hs : List E) (l r cs : List ℕ)
    → Ready s gs hs l r → Playable s (lists_of s gs hs l r) cs → (fg fh : List E) → fg ≡ gs → fh ≡ hs → (ledger : Ledger M)
    → Underway s key t (length gs) (lists_of s gs hs l r) cs 0 (length gs) fg fh l r ledger
    (final s ledger (calls_after s t gs hs key l r cs)) (last_answer s ledger Withdrawn (calls_after s t gs hs key l r cs))
underway_start s key t gs hs l r cs known ok fg fh ig ih ledger =
    let n : ℕ = length gs in
    let x = lists_of s gs hs l r in
    let none : length cs - 0 ≡ length cs = omega arith in
    let a = ap (take n) ig ∙ take_all n gs (omega arith) in
    let b = ap (take n) ih ∙ take_all n hs (omega (arith, known.long_h)) in
    let c = take_all n l (omega (arith, known.long_l)) in
    let d = take_all n r (omega (arith, known.long_r)) in
    let lists : front s n fg fh l r ≡ x = (λ j. lists_of s (a j) (b j) (c j) (d j)) in
    record {
      size = sym (length-elements s gs) ∙ ok.gs ∙ ap (λ (j : ℕ). 2 ^ j) (sym none);
      within = omega arith;
      all_g = subst (AllElements s) (sym a) known.all_g;
      all_h = subst (AllElements s) (sym b) known.all_h;
      playable = subst (λ (y : Lists _). Playable s y cs) (sym lists) ok;
      leads = ap (λ (y : Lists _). final s ledger (left s key t n x cs 0 y)) lists;
      says = λ e. any_answer s key t n x cs 0 ledger e Withdrawn (front s n fg fh l r) ∙ ap (λ (y : Lists _). last_answer s ledger Withdrawn (left s key t n x cs 0 y)) lists;
    }

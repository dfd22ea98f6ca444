-- What a kind is: a commutative group of prime order, with a base, sameness, and plain entries for its elements. Assumes nothing.
use Rattle.std.specs.Prelude.{◌≡◌, ℕ, ◌^◌, ◌≤◌, Bool, true, List, map, Some, Option}
use Rattle.std.specs.Option.{unwrap_or}
use Rattle.protocol.specs.Group.{Group, Laws}

-- elements M, entries E
pub record Meaning (M E : Type 0) : Type 0 where
  pub group : Group M
  pub base : M
  pub order : ℕ
  pub same : M → M → Bool
  pub entry : M → E
  pub element : E → Option M

pub record Lawful {M E : Type 0} (s : Meaning M E) : Type 0 where
  -- associative, commutative, unit neutral, the order-th power is the unit, the order is a prime
  pub group : Laws s.order s.group
  pub base_apart : s.base ≡ s.group.unit → ⊥
  pub order_low : 3 ≤ s.order
  pub order_high : s.order ≤ 2 ^ 30
  -- sameness is yes exactly for equal elements
  pub same_yes : (x y : M) → s.same x y ≡ true → x ≡ y
  pub same_so : (x y : M) → x ≡ y → s.same x y ≡ true
  -- an element's entry reads back as that element, and no other entry as any
  pub back : (x : M) → s.element (s.entry x) ≡ Some x
  pub only : (e : E) (x : M) → s.element e ≡ Some x → s.entry x ≡ e

module _ {M E : Type 0} (s : Meaning M E) where
  -- the element of an entry; the unit where it is no element's
  abbrev pub element_in : E → M
  element_in e = unwrap_or (s.element e) s.group.unit

  abbrev pub elements : List E → List M
  elements es = map element_in es

  abbrev pub unit_entry : E
  unit_entry = s.entry s.group.unit

  -- each entry of the list is an element's
  abbrev pub AllElements : List E → Type 0
  AllElements es = map s.entry (elements es) ≡ es

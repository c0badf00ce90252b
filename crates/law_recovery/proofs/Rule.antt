-- The rule of stops: what a stop at a write makes of items.
use Rattle.std.proofs.Common.{◌≡◌, ◌⊎◌, ℕ, ◌+◌, ◌-◌, ◌<◌, ◌≤◌, Bool, true, false, List, [], ◌∷◌, ◌++◌, refl, ◌∙◌, ap, inl, inr, arith}
use Rattle.std.specs.Prelude.{nat_le}
use Rattle.std.proofs.lemmas.Bool.{leb-true, leb-false, lt-leb}
use Rattle.std.proofs.lemmas.Bool.Decides.{eqb_tells}
use Rattle.model_play.specs.model_device.specs.Image.{Two}
use Rattle.model_play.specs.model_device.specs.Stopped.{cost}
use Rattle.model_play.specs.model_card.specs.Items.{Change, Item, Plain, Atomic, weight, moves, at_stop}
use Rattle.law_recovery.specs.Laws.{in_flight_whole, RuleLaw}

-- ---- a stop in the first item, and one after it

-- the item in flight is the first
first_plain : (is : List Item) (x : List ℕ) (k : ℕ) → k ≡ 1 → (at_stop (Plain ∷ is) k x).whole ≡ []
first_plain is x k e = ap (λ (j : ℕ). (at_stop (Plain ∷ is) j x).whole) e

first_atomic : (w : ℕ) (c : Change) (is : List Item) (x : List ℕ) (k : ℕ) → k ≤ cost Two w → (at_stop (Atomic w c ∷ is) k x).whole ≡ in_flight_whole (Atomic w c) k x
first_atomic w c is x k h = grind (arith, leb-true, leb-false)

-- the first item is whole, and the stop is in those after it
later_plain : (is : List Item) (x : List ℕ) (k : ℕ) → 1 ≤ k → (at_stop (Plain ∷ is) (1 + k) x).whole ≡ Plain ∷ (at_stop is k x).whole
later_plain is x k low = grind (arith, eqb_tells)

later_atomic : (w : ℕ) (c : Change) (is : List Item) (x : List ℕ) (k : ℕ) → 1 ≤ k → (at_stop (Atomic w c ∷ is) (cost Two w + k) x).whole ≡ Atomic w c ∷ (at_stop is k x).whole
later_atomic w c is x k low = grind (arith, lt-leb)

-- a stop after the first item leaves it whole, and the others as a stop in them
pub later_item : (i : Item) (is : List Item) (x : List ℕ) (k : ℕ) → 1 ≤ k → (at_stop (i ∷ is) (weight i + k) x).whole ≡ i ∷ (at_stop is k x).whole
later_item Plain is x k low = later_plain is x k low
later_item (Atomic w c) is x k low = later_atomic w c is x k low

-- a stop in the first item leaves what is in flight
pub first_item : (i : Item) (is : List Item) (x : List ℕ) (k : ℕ) → 1 ≤ k → k ≤ weight i → (at_stop (i ∷ is) k x).whole ≡ in_flight_whole i k x
first_item Plain is x k low high = first_plain is x k (omega (arith, low, high))
first_item (Atomic w c) is x k low high = first_atomic w c is x k high

-- a number up to a weight, or one past it
pub within_or_past : (k n : ℕ) → (k ≤ n) ⊎ ((j : ℕ) × (1 ≤ j) × (k ≡ n + j))
within_or_past k n = by (nat_le k n) refl
  where
    by : (b : Bool) → nat_le k n ≡ b → (k ≤ n) ⊎ ((j : ℕ) × (1 ≤ j) × (k ≡ n + j))
    by true e = inl (leb-true k n e)
    by false e = let more : n < k = leb-false k n e in inr (k - n, omega (arith, more), omega (arith, more))

-- ---- the rule

-- a stop leaves the items before it whole, and the one in flight exactly if its commit record was written
pub rule_law : RuleLaw
rule_law [] k x low high = absurd (omega (arith, low, high))
rule_law (i ∷ is) k x low high =
    elim (within_or_past k (weight i)) [
      | inl here ↦ record {
        before = [];
        flight = i;
        rest = is;
        all = refl;
        first = omega (arith, low);
        last = omega (arith, here);
        are = first_item i is x k low here ∙ ap (λ (j : ℕ). in_flight_whole i j x) (let same : k ≡ k - 0 = omega arith in same);
      }
      | inr past ↦ (
          let j : ℕ = past.0 in
          let more = past.1 in
          let is-past : k ≡ weight i + past.0 = past.2 in
          let r = rule_law is past.0 x past.1 (omega (arith, high, is-past)) in
          let one = r.first in
          let two = r.last in
          let rest-place : past.0 - moves r.before ≡ k - moves (i ∷ r.before) = omega (arith, is-past) in
          record {
            before = i ∷ r.before;
            flight = r.flight;
            rest = r.rest;
            all = ap (λ (l : List Item). i ∷ l) r.all;
            first = omega (arith, one, is-past);
            last = omega (arith, two, is-past);
            are = ap (λ (n : ℕ). (at_stop (i ∷ is) n x).whole) past.2 ∙ later_item i is x past.0 past.1 ∙ ap (λ (l : List Item). i ∷ l) r.are
                ∙ ap (λ (n : ℕ). i ∷ (r.before ++ in_flight_whole r.flight n x)) rest-place;
          }
          )
    ]

-- a stop past all items leaves them all
pub past_all : (is : List Item) (k : ℕ) (x : List ℕ) → moves is < k → (at_stop is k x).whole ≡ is
past_all [] k x high = refl
past_all (i ∷ is) k x high =
    elim (within_or_past k (weight i)) [
      | inl here ↦ absurd (omega (arith, here, high))
      | inr past ↦ (
          let is-past : k ≡ weight i + past.0 = past.2 in
          ap (λ (n : ℕ). (at_stop (i ∷ is) n x).whole) past.2 ∙ later_item i is x past.0 past.1 ∙ ap (λ (l : List Item). i ∷ l) (past_all is past.0 x (omega (arith, high, is-past)))
          )
    ]

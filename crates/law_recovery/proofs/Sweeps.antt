-- The cuts of one word show every card that a chain of stops leads to.
use Rattle.std.proofs.Common.{◌≡◌, ◌≢◌, ◌⊎◌, ℕ, ◌+◌, ◌<◌, ◌≤◌, Bool, true, false, cond, ◌&&◌, ◌||◌, List, [], ◌∷◌, refl, sym, ◌∙◌, ap, subst, inl, inr, arith}
use Rattle.std.specs.Prelude.{◌==◌, nat_lt, bytes_eq}
use Rattle.std.proofs.lemmas.Bool.Decides.{eqb_tells}
use Rattle.model_play.specs.model_device.specs.Image.{Two, opening}
use Rattle.model_play.specs.model_device.specs.Stopped.{opens_at, stands}
use Rattle.model_play.specs.model_device.specs.PowerUp.{base_after_migration}
use Rattle.model_play.specs.model_card.specs.Items.{Change, Item, Atomic, weight, moves, StopAt, at_stop}
use Rattle.model_play.specs.DeckGrammar.{DeckLine}
use Rattle.model_play.specs.Play.{State, is_card_line, moves_of}
use Rattle.law_recovery.specs.Chains.{after_chain, base_in, base_with, items_in, whole_items_in}
use Rattle.law_recovery.specs.Laws.{in_flight_whole, cut_at, SweepLaw}
use Rattle.law_recovery.proofs.Rule.{first_item, later_item, within_or_past}
use Rattle.law_recovery.proofs.Chains.{chain_law}

-- a write, this one or the next, whose cut with another word leaves the same items whole
record Shows (is : List Item) (j : ℕ) (x f : List ℕ) : Type 0 where
  write : ℕ
  low : 1 ≤ write
  near : (write ≡ j) ⊎ ((write ≡ j + 1) × (write ≤ moves is))
  same : (at_stop is j x).whole ≡ (at_stop is write f).whole

-- ---- the item in flight

-- whether an atomic write stands depends on the word alone where the gate is opened
apart_stands : (w j : ℕ) (x f : List ℕ) → j ≢ opens_at Two w → stands Two w j x ≡ stands Two w j f
apart_stands w j x f h = grind (arith, eqb_tells)

gate_stands : (w j : ℕ) (x : List ℕ) → bytes_eq x (opening Two) ≡ true → j ≡ opens_at Two w → stands Two w j x ≡ true
gate_stands w j x opens e =
    let own : (j == opens_at Two w) ≡ true = elim (eqb_tells j (opens_at Two w)) [ inl same ↦ same.0 | inr no-one ↦ absurd (no-one.1 e) ] in
    ap (λ (b : Bool). nat_lt (opens_at Two w) j || (b && bytes_eq x (opening Two))) own ∙ ap (λ (b : Bool). nat_lt (opens_at Two w) j || b) opens ∙ or_true (nat_lt (opens_at Two w) j)
  where
    or_true : (a : Bool) → (a || true) ≡ true
    or_true true = refl
    or_true false = refl

past_stands : (w j : ℕ) (f : List ℕ) → opens_at Two w < j → stands Two w j f ≡ true
past_stands w j f h = grind arith

same_word : (w j : ℕ) (x f : List ℕ) → bytes_eq x (opening Two) ≡ bytes_eq f (opening Two) → stands Two w j x ≡ stands Two w j f
same_word w j x f h = ap (λ (b : Bool). nat_lt (opens_at Two w) j || ((j == opens_at Two w) && b)) h

-- a stop in the first item
here_by : (i : Item) (is : List Item) (j : ℕ) (x f : List ℕ) → 1 ≤ j → j ≤ weight i → in_flight_whole i j x ≡ in_flight_whole i j f → Shows (i ∷ is) j x f
here_by i is j x f low high e = record { write = j; low = low; near = inl refl; same = first_item i is x j low high ∙ e ∙ sym (first_item i is f j low high) }

at_gate : (w : ℕ) (c : Change) (is : List Item) (j : ℕ) (x f : List ℕ) → 1 ≤ j → bytes_eq x (opening Two) ≡ true → j ≡ opens_at Two w → Shows (Atomic w c ∷ is) j x f
at_gate w c is j x f low opens e =
    let high : j + 1 ≤ weight (Atomic w c) = omega (arith, e) in
    let first : in_flight_whole (Atomic w c) j x ≡ Atomic w c ∷ [] = ap (λ (b : Bool). cond b (Atomic w c ∷ []) []) (gate_stands w j x opens e) in
    let next : in_flight_whole (Atomic w c) (j + 1) f ≡ Atomic w c ∷ [] = ap (λ (b : Bool). cond b (Atomic w c ∷ []) []) (past_stands w (j + 1) f (omega (arith, e))) in
    record {
      write = j + 1;
      low = omega arith;
      near = inr (refl, omega (arith, high));
      same = first_item (Atomic w c) is x j low (omega (arith, high)) ∙ first ∙ sym next ∙ sym (first_item (Atomic w c) is f (j + 1) (omega arith) high);
    }

here : (i : Item) (is : List Item) (j : ℕ) (x f : List ℕ) (b : Bool) → bytes_eq x (opening Two) ≡ b → bytes_eq f (opening Two) ≡ false → 1 ≤ j → j ≤ weight i → Shows (i ∷ is) j x f
here i is j x f b e shut low high = grind (arith, here_by, same_word, eqb_tells, at_gate, apart_stands)

-- ---- all items

later : (i : Item) (is : List Item) (k : ℕ) (x f : List ℕ) → 1 ≤ k → Shows is k x f → Shows (i ∷ is) (weight i + k) x f
later i is k x f low s =
    let more = s.low in
    record {
      write = weight i + s.write;
      low = omega (arith, more);
      near = elim s.near [ inl own ↦ inl (ap (λ (n : ℕ). weight i + n) own) | inr next ↦ inr (let one = next.0 in omega (arith, one), let two = next.1 in omega (arith, two)) ];
      same = later_item i is x k low ∙ ap (λ (l : List Item). i ∷ l) s.same ∙ sym (later_item i is f s.write s.low);
    }

shows : (is : List Item) (j : ℕ) (x f : List ℕ) → bytes_eq f (opening Two) ≡ false → 1 ≤ j → Shows is j x f
shows [] j x f shut low = record { write = j; low = low; near = inl refl; same = refl }
shows (i ∷ is) j x f shut low =
    elim (within_or_past j (weight i)) [
      | inl first ↦ here i is j x f (bytes_eq x (opening Two)) refl shut low first
      | inr past ↦ subst (λ (n : ℕ). Shows (i ∷ is) n x f) (sym past.2) (later i is past.0 x f past.1 (shows is past.0 x f shut past.1))
    ]

-- ---- the law

based : (n : ℕ) (z : State) (l : ℕ × DeckLine) (t : StopAt) (ts : List StopAt) → is_card_line l.1 ≡ true → base_in (after_chain n z l t ts) ≡ base_after_migration (base_with (base_in z) (whole_items_in z l t))
based n z l t ts h = let r = chain_law n z l t ts h in ap base_in r.is ∙ r.powered.base

written_in : (z : State) (l : ℕ × DeckLine) → moves (items_in z l) ≤ moves_of z l
unfolding moves_of
written_in z l = omega arith

-- the cuts of one word show every card that a chain of stops leads to
pub sweep_law : SweepLaw
sweep_law n z l t ts f h shut low high =
    let s : Shows (items_in z l) t.at t.left f = shows (items_in z l) t.at t.left f shut low in
    let all = written_in z l in
    record {
      write = s.write;
      low = s.low;
      high = elim s.near [ inl own ↦ omega (arith, own, high) | inr next ↦ (let two = next.1 in omega (arith, two, all)) ];
      near = elim s.near [ inl own ↦ inl own | inr next ↦ inr next.0 ];
      same = based n z l t ts h ∙ ap (λ (w : List Item). base_after_migration (base_with (base_in z) w)) s.same ∙ sym (based n z l (cut_at s.write f) [] h);
    }

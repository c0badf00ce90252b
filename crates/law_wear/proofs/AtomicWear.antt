-- An atomic write writes its gate twice, and every other word once at the most.
use Rattle.std.proofs.Common.{◌≡◌, ◌≢◌, ◌⊎◌, ℕ, ◌+◌, ◌<◌, ◌≤◌, Bool, true, cond, ◌&&◌, ◌||◌, List, [], ◌∷◌, ◌++◌, length, map, refl, ap, inl, inr, arith}
use Rattle.std.specs.Prelude.{◌==◌, nat_le, nat_lt}
use Rattle.std.specs.List.{AllByRecursion}
use Rattle.std.proofs.lemmas.Bool.{and_parts, leb-true, eqb-true}
use Rattle.std.proofs.lemmas.Bool.Decides.{eqb_tells}
use Rattle.std.proofs.lemmas.List.{length-append}
use Rattle.law_family.specs.model_device.specs.Image.{Journal, One, Two, opening, shut_word, gate, within, ascend}
use Rattle.law_family.specs.model_device.specs.Stopped.{cost, entries, replay, writes, word_of_number, IsAtomic}
use Rattle.law_family.specs.model_device.proofs.BoolLemmas.{cond_most}
use Rattle.law_family.specs.model_device.proofs.ImageLemmas.{Ascends, ascends_other, all_map}
use Rattle.law_family.specs.model_device.proofs.GeometryLemmas.{InEntries, Geometry, geometry, targets_within}
use Rattle.law_wear.specs.Laws.{times_written, AtomicWearLaw}

abbrev Pair : Type 0
Pair = ℕ × List ℕ

-- ---- how often a word is written

-- 1 if a write is one of this word, else 0
abbrev pub hits : ℕ → ℕ → ℕ
hits at p = cond (at == p) 1 0

-- a write counts at most once
pub hits_most : (at p : ℕ) → hits at p ≤ 1
hits_most at p = cond_most (at == p) 1 0 1 (omega arith) (omega arith)

-- a write to another word counts nothing
pub hits_not : (at p : ℕ) → at ≢ p → hits at p ≡ 0
hits_not at p h = elim (eqb_tells at p) [ inl own ↦ absurd (h own.1) | inr not ↦ ap (λ (b : Bool). cond b 1 0) not.0 ]

hits_own : (at : ℕ) → hits at at ≡ 1
hits_own at = elim (eqb_tells at at) [ inl own ↦ ap (λ (b : Bool). cond b 1 0) own.0 | inr not ↦ absurd (not.1 refl) ]

-- how often a word is written by two lists of writes is the sum
pub times_append : (p : ℕ) (xs ys : List Pair) → times_written p (xs ++ ys) ≡ times_written p xs + times_written p ys
times_append p [] ys = omega arith
times_append p (x ∷ xs) ys = let rest = times_append p xs ys in omega (arith, rest)

times_not : (p : ℕ) (ws : List Pair) → AllByRecursion (λ w. w.0 ≢ p) ws → times_written p ws ≡ 0
times_not p [] a = refl
times_not p (w ∷ ws) a = grind (arith, hits_not, times_not p ws a.1)

times_once : (p least : ℕ) (ws : List Pair) → Ascends least ws → times_written p ws ≤ 1
times_once p least [] a = omega arith
times_once p least (w ∷ ws) a = grind (arith, eqb_tells, times_not, ascends_other, hits_most, hits_not, times_once p (w.0 + 1) ws a.1)

-- ---- the places of an atomic write

-- a target lies outside both journals
apart_by : (size t p : ℕ) (x y : Bool) → (t == 0) ≡ x → (nat_le 131 t && nat_lt t size) ≡ y → 1 ≤ p → p ≤ 130 → (x || y) ≡ true → t ≢ p
apart_by size t p x y ex ey low high h = grind (arith, eqb-true, leb-true, and_parts)

apart : (size p : ℕ) → 1 ≤ p → p ≤ 130 → (list : List Pair) → AllByRecursion (λ w. within size w.0 ≡ true) list → AllByRecursion (λ w. w.0 ≢ p) list
apart size p low high list a =
    all_map (λ w. within size w.0 ≡ true) (λ w. w.0 ≢ p) (λ w h. apart_by size w.0 p (w.0 == 0) (nat_le 131 w.0 && nat_lt w.0 size) refl refl low high h) list a

targets_ascend : (size least : ℕ) (list : List Pair) → ascend size least (map (λ w. w.0) list) ≡ true → Ascends least list
targets_ascend size least [] h = tt
targets_ascend size least (w ∷ ws) h =
    let first = and_parts (nat_le least w.0) (within size w.0 && ascend size (w.0 + 1) (map (λ v. v.0) ws)) h in
    let rest = and_parts (within size w.0) (ascend size (w.0 + 1) (map (λ v. v.0) ws)) first.1 in
    (leb-true least w.0 first.0, targets_ascend size (w.0 + 1) ws rest.1)

-- a gate lies among the words of the journals, and is no head
gate_range : (j : Journal) → (1 ≤ gate j) × (gate j ≤ 130) × (gate j ≢ 2)
gate_range One = (omega arith, omega arith, λ e. absurd (omega (arith, e)))
gate_range Two = (omega arith, omega arith, λ e. absurd (omega (arith, e)))

module _ (j : Journal) (size : ℕ) (list : List Pair) (high : size ≤ 16384) (atomic : IsAtomic size list) where
  geo : Geometry j size list
  geo = geometry j size list high atomic

  -- the entries are written once at the most, and are apart from the gate, the head and the targets
  entries_once : (p : ℕ) → times_written p (entries j list) ≤ 1
  entries_once p = times_once p 3 (entries j list) geo.ascends

  no_entry : (p : ℕ) → ((i : ℕ) → InEntries j i → i ≢ p) → times_written p (entries j list) ≡ 0
  no_entry p h = times_not p (entries j list) (all_map (λ w. InEntries j w.0) (λ w. w.0 ≢ p) (λ w k. h w.0 k) (entries j list) geo.places)

  targets_once : (p : ℕ) → times_written p list ≤ 1
  targets_once p = times_once p 0 list (targets_ascend size 0 list atomic.targets)

  no_target : (p : ℕ) → 1 ≤ p → p ≤ 130 → times_written p list ≡ 0
  no_target p low high = times_not p list (apart size p low high list (targets_within size list atomic))

  -- how often each of them is written
  in_all : (p : ℕ) → times_written p (writes j list) ≡ times_written p (entries j list) + (hits 2 p + (hits (gate j) p + (times_written p list + hits (gate j) p)))
  in_all p = grind (arith, times_append)

  in_recovery : (p : ℕ) → times_written p (replay j list) ≡ times_written p list + hits (gate j) p
  in_recovery p = let rest = times_append p list ((gate j, shut_word) ∷ []) in omega (arith, rest)

  gate_twice : times_written (gate j) (writes j list) ≡ 2
  gate_twice = grind (arith, gate_range, no_entry, no_target, hits_not, hits_own, in_all)

  other_by : (p : ℕ) → p ≢ gate j → (p ≡ 2) ⊎ (((1 ≤ p) × (p ≤ 130) × (p ≢ 2)) ⊎ ((p < 1) ⊎ (130 < p))) → times_written p (writes j list) ≤ 1
  other_by p not_gate h = grind (arith, no_entry, no_target, hits_not, hits_most, in_all, entries_once, InEntries, targets_once)

  recovery_by : (p : ℕ) → (p ≡ gate j) ⊎ (p ≢ gate j) → times_written p (replay j list) ≤ 1
  recovery_by p h = grind (arith, gate_range, no_target, hits_most, in_recovery, targets_once, hits_not)

-- where a word lies
place_by : (p : ℕ) → (p ≡ 2) ⊎ (((1 ≤ p) × (p ≤ 130) × (p ≢ 2)) ⊎ ((p < 1) ⊎ (130 < p)))
place_by p = grind (arith, eqb_tells, leb-true)

own_or_other : (p q : ℕ) → (p ≡ q) ⊎ (p ≢ q)
own_or_other p q = elim (eqb_tells p q) [ inl own ↦ inl own.1 | inr other ↦ inr other.1 ]

-- an atomic write writes its gate twice, and every other word at most once
pub atomic_wear_law : AtomicWearLaw
atomic_wear_law j size list high atomic =
    let g = geo j size list high atomic in
    let last = (gate j, shut_word) ∷ [] in
    let all : length (writes j list) ≡ length (entries j list) + length ((2, word_of_number (length list)) ∷ (gate j, opening j) ∷ (list ++ last)) =
    grind (arith, length-append) in
    let rest : length (list ++ last) ≡ length list + length last = length-append list last in
    let costs : length (entries j list) + length list + 3 ≡ cost j (length list) = g.costs in
    record {
      count = omega (arith, all, rest, costs);
      at_gate = gate_twice j size list high atomic;
      others = λ p h. other_by j size list high atomic p h (place_by p);
      recovery = λ p. recovery_by j size list high atomic p (own_or_other p (gate j));
    }

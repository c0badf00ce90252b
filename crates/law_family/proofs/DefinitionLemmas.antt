-- Lemmas of the definitions: stops in items, and counts of runs.
use Rattle.std.specs.Prelude.{◌≡◌, ℕ, zero, suc, ◌+◌, ◌-◌, ◌<◌, ◌≤◌, Bool, true, false, cond, ◌==◌, nat_le, List, [], ◌∷◌, ◌++◌, refl, Result}
use Rattle.std.proofs.Common.{arith, ap, sym, ◌∙◌}
use Rattle.std.proofs.lemmas.Bool.Decides.{nat_tests}
use Rattle.model_play.specs.model_machine.specs.declared.instruction.Ins.{Ins}
use Rattle.model_play.specs.model_machine.specs.declared.instruction.DecodeFault.{DecodeFault}
use Rattle.model_play.specs.model_device.specs.Image.{Two}
use Rattle.model_play.specs.model_device.specs.Stopped.{cost}
use Rattle.model_play.specs.model_card.specs.Items.{Item, Plain, Atomic, moves, at_stop, with_item, Stopped}
use Rattle.model_play.specs.model_machine.specs.Row.{RowEnd, Abends, Does}
use Rattle.model_play.specs.model_machine.specs.Chain.{Chain, Ran, Acted, Follows, Continues, Ends, turn_of_chain, turn_of_fetch, row_turn, run_of_chain, run_after_turn}
use Rattle.law_family.specs.Split.{with_whole}

passed : (b : Bool) (s t u : Stopped) → b ≡ false → t ≡ u → cond b s t ≡ u
passed true s t u b h = absurd (cc b)
passed false s t u b h = h

pub stop_behind : (is js : List Item) (k : ℕ) (x : List ℕ) → moves is < k → at_stop (is ++ js) k x ≡ with_whole is (at_stop js (k - moves is) x)
stop_behind [] js k x high = let e : k - 0 ≡ k = omega arith in rw e refl
stop_behind (Plain ∷ is) js k x high =
    let e : k - (1 + moves is) ≡ k - 1 - moves is = omega arith in
    passed (k == 1) _ _ _ (grind (arith, nat_tests)) (ap (with_item Plain) (stop_behind is js (k - 1) x (omega arith)) ∙ ap (λ (n : ℕ). with_whole (Plain ∷ is) (at_stop js n x)) (sym e))
stop_behind (Atomic w c ∷ is) js k x high =
    let e : k - (cost Two w + moves is) ≡ k - cost Two w - moves is = omega arith in
    passed (nat_le k (cost Two w)) _ _ _ (grind (arith, nat_tests)) (ap (with_item (Atomic w c)) (stop_behind is js (k - cost Two w) x (omega arith)) ∙ ap (λ (n : ℕ). with_whole (Atomic w c ∷ is) (at_stop js n x)) (sym e))

-- ---- counts

pub row_count : (ch : Chain) (i : Ins) (r : RowEnd) → (row_turn ch i r).count ≤ 1
row_count ch i (Abends cause) = omega arith
row_count ch i (Does d) = omega arith

pub fetch_count : (ch : Chain) (r : Result (Ins × ℕ) DecodeFault) → (turn_of_fetch ch r).count ≤ 1
fetch_count ch r = grind (arith, row_count)

pub turn_count : (ch : Chain) → (turn_of_chain ch).count ≤ 1
unfolding turn_of_chain
turn_count ch = fetch_count ch _

on_count : (n : ℕ) (t : Acted) (session : List ℕ) (f : Follows) (rest : Chain → Ran) → t.count ≤ 1 → ((ch : Chain) → (rest ch).count ≤ n) → (run_after_turn t session f rest).count ≤ suc n
on_count n t session (Ends o) rest one more = omega arith
on_count n t session (Continues ch) rest one more = let h : (rest ch).count ≤ n = more ch in omega arith

pub run_count : (n : ℕ) (ch : Chain) → (run_of_chain n ch).count ≤ n
unfolding run_of_chain
run_count zero ch = omega arith
run_count (suc n) ch = on_count n (turn_of_chain ch) _ (turn_of_chain ch).follows (λ c. run_of_chain n c) (turn_count ch) (λ c. run_count n c)

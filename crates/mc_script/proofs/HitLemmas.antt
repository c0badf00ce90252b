-- The stop that hits a line, by the fuse that was passed to the bench.
use Rattle.std.proofs.Common.{◌≡◌, ℕ, ◌<◌, ◌≤◌, ◌+◌, Bool, true, false, cond, ◌&&◌, List, Option, Some, None, refl, sym, ◌∙◌, ap, subst, arith}
use Rattle.std.specs.Prelude.{nat_le}
use Rattle.std.proofs.lemmas.Bool.{le-leb, lt-leb}
use Rattle.model_play.specs.model_device.specs.declared.device.Stop.{Stop}
use Rattle.model_play.specs.model_device.specs.declared.device.Stop.TheVariants.{Off, Worn}
use Rattle.model_play.specs.model_device.specs.Bytes.{zeros}
use Rattle.model_play.specs.model_device.specs.Device.{BenchState, Fuse, next_count}
use Rattle.model_play.specs.DeckGrammar.{DeckLine}
use Rattle.model_play.specs.model_card.specs.Items.{StopAt}
use Rattle.model_play.specs.Play as play
use Rattle.model_play.specs.Play.{ArmedCut, ArmedFail, FailedWrite, hit_of, steady_at, is_card_line, failure_entry, IsBeforeCut}
use Rattle.mc_script.specs.declared.armed.Armed.{Armed}
use Rattle.mc_script.specs.declared.armed.Armed.TheVariants as armed
use Rattle.mc_script.specs.Players.{armed_value, cut_place, CanArm, IsUnfused}
use Rattle.mc_script.specs.Counting.{count_after_rises, cuts_due, fails_due}
use Rattle.mc_script.specs.Arming.{armed_bench}
use Rattle.mc_script.proofs.FuseLemmas.{Past}
use Rattle.mc_script.proofs.BenchLemmas.{FusedAt, SameCalls}
use Rattle.std.proofs.lemmas.Option.{same_Some, none-some}

-- ---- no stop

-- m device writes reach no armed stop
pub record NotHit (a : play.Armed) (m : ℕ) : Type 0 where
  pub hit : hit_of a m None ≡ None
  pub steady : (l : DeckLine) → None ≡ steady_at a l m

none_past : (k m : ℕ) (x : StopAt) → m < k → cond (nat_le k m) (Some x) None ≡ None
none_past k m x h = ap (λ (b : Bool). cond b (Some x) None) (lt-leb k m h)

failure_past : (b c : Bool) (x : FailedWrite) → c ≡ false → None ≡ cond (b && c) (Some x) None
failure_past true c x h = ap (λ (t : Bool). cond t (Some x) None) (sym h)
failure_past false c x h = refl

pub not_hit : (a : Armed) (b : BenchState) (m : ℕ) → CanArm a → Past m (armed_bench a b).cut → Past m (armed_bench a b).worn → NotHit (armed_value a) m
not_hit armed.Not b m can cut worn = record { hit = refl; steady = λ l. refl }
not_hit (armed.Cut k fill) b m can cut worn = record { hit = none_past k m (record { kind = Off; at = k; left = fill }) (cut can.0); steady = λ l. refl }
not_hit (armed.Fail k) b m can cut worn =
    record { hit = refl; steady = λ l. failure_past (is_card_line l) (nat_le k m) (record { at = k; left = zeros 8 }) (lt-leb k m (worn can)) }

-- ---- a stop

-- a stop at write k, which left the word x, is the stop that hits a card line of m device writes
pub record HitBy (a : play.Armed) (m : ℕ) (t : Bool) (s : Stop) (k : ℕ) (x : List ℕ) (w : Option FailedWrite) : Type 0 where
  pub hit : hit_of a m w ≡ Some (record { kind = s; at = k; left = x })
  pub first : s ≡ Worn → IsBeforeCut a k
  pub steady : (l : DeckLine) → is_card_line l ≡ true → t ≡ true → w ≡ steady_at a l m

uncut : (b : BenchState) (f : Fuse) → IsUnfused b → b.cut ≡ Some f → ⊥
uncut b f free h = none-some f (sym free.cut ∙ h)

unworn : (b : BenchState) (f : Fuse) → IsUnfused b → b.worn ≡ Some f → ⊥
unworn b f free h = none-some f (sym free.worn ∙ h)

failure_hits : (b c : Bool) (x : FailedWrite) → b ≡ true → c ≡ true → Some x ≡ cond (b && c) (Some x) None
failure_hits b c x h g = grind arith

same_fuse : (k j : ℕ) (x y : List ℕ) → ◌≡◌ {A = Option Fuse} (Some (record { writes = j; fill = y })) (Some (record { writes = k; fill = x })) → (j ≡ k) × (y ≡ x)
same_fuse k j x y h = grind (arith, same_Some)

pub hit_by : (a : Armed) (b : BenchState) (m : ℕ) (s : Stop) (k : ℕ) (x : List ℕ) → CanArm a → IsUnfused b → FusedAt s (armed_bench a b) k x → k ≤ m
    → HitBy (armed_value a) m b.steady s k x (failure_entry k x (Some s))
hit_by armed.Not b m Off k x can free fused high = absurd (uncut b (record { writes = k; fill = x }) free fused)
hit_by (armed.Cut j fill) b m Off k x can free fused high = grind (arith, same_fuse k j x fill fused)
hit_by (armed.Fail j) b m Off k x can free fused high = absurd (uncut b (record { writes = k; fill = x }) free fused)
hit_by armed.Not b m Worn k x can free fused high =
    record { hit = refl; first = λ e. tt; steady = λ l card steady. absurd (unworn b (record { writes = k; fill = x }) free (fused.1 steady)) }
hit_by (armed.Cut j fill) b m Worn k x can free fused high =
    record { hit = refl; first = λ e. fused.0 can.0; steady = λ l card steady. absurd (unworn b (record { writes = k; fill = x }) free (fused.1 steady)) }
hit_by (armed.Fail j) b m Worn k x can free fused high =
    record {
      hit = refl;
      first = λ e. tt;
      steady = λ l card steady.
          let same = same_fuse k j x (zeros 8) (fused.1 steady) in
          let here : FailedWrite = record { at = k; left = x } in
          subst (λ (i : ℕ). Some here ≡ steady_at (ArmedFail i) l m) (sym same.0)
          (subst (λ (y : List ℕ). let there : FailedWrite = record { at = k; left = y } in Some here ≡ cond (is_card_line l && nat_le k m) (Some there) None) (sym same.1)
          (failure_hits (is_card_line l) (nat_le k m) here card (le-leb k m high)));
    }

-- the answer after a cut at write k has the number k
pub place_is : (a : Armed) (b : BenchState) (k : ℕ) (x : List ℕ) → IsUnfused b → (armed_bench a b).cut ≡ Some (record { writes = k; fill = x }) → cut_place a ≡ k
place_is a b k x free h = grind (arith, uncut, same_fuse)

-- ---- calls

-- the calls of a line: n of `power`, and the fuse of the armed stop
pub record CallsOf (b : BenchState) (n : ℕ) (a : play.Armed) (c : BenchState) : Type 0 where
  pub powers : c.powers ≡ count_after_rises b.powers n
  pub pokes : c.pokes ≡ b.pokes
  pub poked : c.poked ≡ b.poked
  pub arms : c.arms ≤ b.arms + cuts_due a
  pub wears : c.wears ≤ b.wears + fails_due a
  pub steady : c.steady ≡ b.steady

next_bound : (n : ℕ) → next_count n ≤ n + 1
next_bound n = omega arith

pub armed_calls : (a : Armed) (b c e : BenchState) → SameCalls (armed_bench a b) c → e ≡ record c { cut = None; worn = None } → CallsOf b 0 (armed_value a) e
armed_calls armed.Not b c e same is =
    record {
      powers = ap (λ (x : BenchState). x.powers) is ∙ same.powers;
      pokes = ap (λ (x : BenchState). x.pokes) is ∙ same.pokes;
      poked = ap (λ (x : BenchState). x.poked) is ∙ same.poked;
      arms = let h : e.arms ≡ b.arms = ap (λ (x : BenchState). x.arms) is ∙ same.arms in omega (arith, h);
      wears = let h : e.wears ≡ b.wears = ap (λ (x : BenchState). x.wears) is ∙ same.wears in omega (arith, h);
      steady = ap (λ (x : BenchState). x.steady) is ∙ same.steady;
    }
armed_calls (armed.Cut k fill) b c e same is =
    record {
      powers = ap (λ (x : BenchState). x.powers) is ∙ same.powers;
      pokes = ap (λ (x : BenchState). x.pokes) is ∙ same.pokes;
      poked = ap (λ (x : BenchState). x.poked) is ∙ same.poked;
      arms = let h : e.arms ≡ next_count b.arms = ap (λ (x : BenchState). x.arms) is ∙ same.arms in let n = next_bound b.arms in omega (arith, h, n);
      wears = let h : e.wears ≡ b.wears = ap (λ (x : BenchState). x.wears) is ∙ same.wears in omega (arith, h);
      steady = ap (λ (x : BenchState). x.steady) is ∙ same.steady;
    }
armed_calls (armed.Fail k) b c e same is =
    record {
      powers = ap (λ (x : BenchState). x.powers) is ∙ same.powers;
      pokes = ap (λ (x : BenchState). x.pokes) is ∙ same.pokes;
      poked = ap (λ (x : BenchState). x.poked) is ∙ same.poked;
      arms = let h : e.arms ≡ b.arms = ap (λ (x : BenchState). x.arms) is ∙ same.arms in omega (arith, h);
      wears = let h : e.wears ≡ next_count b.wears = ap (λ (x : BenchState). x.wears) is ∙ same.wears in let n = next_bound b.wears in omega (arith, h, n);
      steady = ap (λ (x : BenchState). x.steady) is ∙ same.steady;
    }

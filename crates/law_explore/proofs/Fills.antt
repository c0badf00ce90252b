-- What a cut leaves of items depends on its word by whether that word opens a journal, and by nothing else.
use Rattle.std.specs.Prelude.{◌≡◌, ℕ, ◌+◌, ◌-◌, ◌<◌, ◌≤◌, zero, suc, Bool, true, false, cond, ◌&&◌, ◌||◌, nat_lt, nat_le, ◌==◌, bytes_eq, List, [], ◌∷◌, refl}
use Rattle.std.proofs.Common.{arith, ap, sym, subst, inl, inr}
use Rattle.std.proofs.Math.Nat.{eq-or-lt_of_le}
use Rattle.model_play.specs.model_device.specs.Bytes.{zeros}
use Rattle.model_play.specs.model_device.specs.Image.{Two, opening}
use Rattle.model_play.specs.model_device.specs.Stopped.{cost, opens_at, stands}
use Rattle.model_play.specs.model_card.specs.Items.{Item, Plain, Atomic, at_stop, Stopped}
use Rattle.law_explore.specs.Tries.{Manner, CutAt, ones, cuts_from}
use Rattle.law_explore.specs.Safety.{Among, IsFill}

-- ---- which items are whole

-- two words of which both open the journal or neither does
abbrev pub OpenAlike : List ℕ → List ℕ → Type 0
OpenAlike x y = bytes_eq x (opening Two) ≡ bytes_eq y (opening Two)

stands_same : (w k : ℕ) (x y : List ℕ) → OpenAlike x y → stands Two w k x ≡ stands Two w k y
stands_same w k x y h = ap (λ (b : Bool). nat_lt (opens_at Two w) k || ((k == opens_at Two w) && b)) h

either_whole : (b : Bool) (s t u v : Stopped) → s.whole ≡ u.whole → t.whole ≡ v.whole → (cond b s t).whole ≡ (cond b u v).whole
either_whole true s t u v first second = first
either_whole false s t u v first second = second

-- the items that a cut leaves whole depend on its word by whether that opens a journal
pub whole_same : (is : List Item) (k : ℕ) (x y : List ℕ) → OpenAlike x y → (at_stop is k x).whole ≡ (at_stop is k y).whole
whole_same [] k x y h = refl
whole_same (Plain ∷ is) k x y h = either_whole (k == 1) _ _ _ _ refl (ap (λ (js : List Item). Plain ∷ js) (whole_same is (k - 1) x y h))
whole_same (Atomic w c ∷ is) k x y h =
    either_whole (nat_le k (cost Two w)) _ _ _ _
    (ap (λ (b : Bool). cond b (Atomic w c ∷ []) []) (stands_same w k x y h))
    (ap (λ (js : List Item). Atomic w c ∷ js) (whole_same is (k - cost Two w) x y h))

-- ---- the fill that does what a word does

-- one of the fills, which opens a journal exactly if the word does
pub record FillFor (x : List ℕ) : Type 0 where
  pub fill : List ℕ
  pub is : IsFill fill
  pub alike : OpenAlike x fill

fill_by : (x : List ℕ) (b : Bool) → bytes_eq x (opening Two) ≡ b → FillFor x
fill_by x true h = record { fill = opening Two; is = inr (inr refl); alike = h }
fill_by x false h = record { fill = zeros 8; is = inl refl; alike = h }

-- each word has such a fill
pub fill_for : (x : List ℕ) → FillFor x
fill_for x = fill_by x (bytes_eq x (opening Two)) refl

-- ---- it is tried

cut_first : (k : ℕ) (f : List ℕ) (rest : List Manner) → IsFill f → Among (CutAt k f) (CutAt k (zeros 8) ∷ CutAt k ones ∷ CutAt k (opening Two) ∷ rest)
cut_first k f rest h = grind arith

cut_here : (i n k : ℕ) (f : List ℕ) → IsFill f → i ≡ k → Among (CutAt k f) (cuts_from i (suc n))
cut_here i n k f is e = subst (λ (j : ℕ). Among (CutAt k f) (cuts_from j (suc n))) (sym e) (cut_first k f (cuts_from (k + 1) n) is)

-- each cut at a counted write with one of the fills is among those that are tried
pub cuts_among : (n i k : ℕ) (f : List ℕ) → IsFill f → i ≤ k → k < i + n → Among (CutAt k f) (cuts_from i n)
cuts_among zero i k f is low high = absurd (omega arith)
cuts_among (suc n) i k f is low high = elim (eq-or-lt_of_le low) [
  | inl e ↦ cut_here i n k f is e
  | inr later ↦ inr (inr (inr (cuts_among n (i + 1) k f is (omega (arith, later)) (omega arith))))
]

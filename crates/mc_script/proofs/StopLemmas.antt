-- The places at which lists of writes stop.
use Rattle.std.proofs.Common.{◌≡◌, ℕ, suc, ◌+◌, ◌-◌, ◌<◌, List, [], ◌∷◌, ◌++◌, length, take, Ok, Err, refl, arith, subst, inl, inr}
use Rattle.std.specs.Prelude.{slice_index_or}
use Rattle.model_play.specs.model_device.specs.declared.device.Stop.{Stop}
use Rattle.model_play.specs.model_device.specs.Orders.{Answer}
use Rattle.model_play.specs.model_device.specs.Device.{Makes}
use Rattle.mc_script.specs.Runs.{StoppedAtWrite}

module _ {D : Type 0} (wrote : D → ℕ → List ℕ → Answer → D → Type 0) where
  -- the writes before the one at a place from 0 on were done, and that one stopped
  pub record StoppedAtPlace (d : D) (ws : List (ℕ × List ℕ)) (j : ℕ) (s : Stop) (e : D) : Type 0 where
    pub low : j < length ws
    pub middle : D
    pub before : Makes wrote d (take j ws) (Ok tt) middle
    pub stopped : wrote middle (slice_index_or ws j (0, [])).0 (slice_index_or ws j (0, [])).1 (Err s) e

  later : (d m e : D) (p : ℕ × List ℕ) (ws : List (ℕ × List ℕ)) (j : ℕ) (s : Stop) → wrote d p.0 p.1 (Ok tt) m → StoppedAtPlace m ws j s e → StoppedAtPlace d (p ∷ ws) (suc j) s e
  later d m e p ws j s first b = record { low = omega (arith, b.low); middle = b.middle; before = inl (m, first, b.before); stopped = b.stopped }

  first_stops : (d e : D) (p : ℕ × List ℕ) (ws : List (ℕ × List ℕ)) (s : Stop) → wrote d p.0 p.1 (Err s) e → StoppedAtPlace d (p ∷ ws) 0 s e
  first_stops d e p ws s h = record { low = omega arith; middle = d; before = refl; stopped = h }

  same_stop : (s t : Stop) → ◌≡◌ {A = Answer} (Err s) (Err t) → t ≡ s
  same_stop s t e = cc e

  -- a list of writes that stopped did so at one of them
  pub stopped_in : (ws : List (ℕ × List ℕ)) (d e : D) (s : Stop) → Makes wrote d ws (Err s) e → (j : ℕ) × StoppedAtPlace d ws j s e
  stopped_in [] d e s made = absurd made
  stopped_in (p ∷ ws) d e s made =
      elim made [
        | inl done ↦ let rest = stopped_in ws done.0 e s done.2 in (suc rest.0, later d done.0 e p ws rest.0 s done.1 rest.1)
        | inr stop ↦ (0, first_stops d e p ws s (subst (λ (t : Stop). wrote d p.0 p.1 (Err t) e) (same_stop s stop.0 stop.2) stop.1))
      ]

  -- writes that stopped after writes that were done
  pub behind_done : (ws vs : List (ℕ × List ℕ)) (d m e : D) (j : ℕ) (s : Stop) → Makes wrote d ws (Ok tt) m → StoppedAtPlace m vs j s e → StoppedAtPlace d (ws ++ vs) (length ws + j) s e
  behind_done [] vs d m e j s done b = grind arith
  behind_done (p ∷ ws) vs d m e j s done b =
      elim done [
        | inl first ↦
            let one : suc (length ws + j) ≡ suc (length ws) + j = omega arith in
            subst (λ (k : ℕ). StoppedAtPlace d (p ∷ (ws ++ vs)) k s e) one (later d first.0 e p (ws ++ vs) (length ws + j) s first.1 (behind_done ws vs first.0 m e j s first.2 b))
        | inr stop ↦ absurd (cc stop.2)
      ]

  -- a list that stopped, by the number of the write from 1 on
  pub at_number : (ws : List (ℕ × List ℕ)) (d e : D) (j : ℕ) (s : Stop) → StoppedAtPlace d ws j s e → StoppedAtWrite wrote d ws (suc j) s e
  at_number ws d e j s b =
      let is : j ≡ suc j - 1 = omega arith in
      record {
        low = omega arith;
        high = omega (arith, b.low);
        middle = b.middle;
        before = subst (λ (k : ℕ). Makes wrote d (take k ws) (Ok tt) b.middle) is b.before;
        stopped = subst (λ (k : ℕ). wrote b.middle (slice_index_or ws k (0, [])).0 (slice_index_or ws k (0, [])).1 (Err s) e) is b.stopped;
      }

  pub at_place : (ws : List (ℕ × List ℕ)) (d e : D) (k : ℕ) (s : Stop) → StoppedAtWrite wrote d ws k s e → StoppedAtPlace d ws (k - 1) s e
  at_place ws d e k s h = record { low = omega (arith, h.low, h.high); middle = h.middle; before = h.before; stopped = h.stopped }

  -- writes that stopped after writes that were done, by their numbers
  pub number_done : (ws vs : List (ℕ × List ℕ)) (d m e : D) (k : ℕ) (s : Stop) → Makes wrote d ws (Ok tt) m → StoppedAtWrite wrote m vs k s e → StoppedAtWrite wrote d (ws ++ vs) (length ws + k) s e
  number_done ws vs d m e k s done h =
      let is : suc (length ws + (k - 1)) ≡ length ws + k = omega (arith, h.low) in
      subst (λ (n : ℕ). StoppedAtWrite wrote d (ws ++ vs) n s e) is (at_number (ws ++ vs) d e (length ws + (k - 1)) s (behind_done ws vs d m e (k - 1) s done (at_place vs m e k s h)))

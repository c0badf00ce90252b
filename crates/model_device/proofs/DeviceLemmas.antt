-- What lists of writes make of a device: its words, its counts and its tape.
use Rattle.std.proofs.Common.{◌≡◌, ℕ, zero, suc, ◌≤◌, true, List, [], ◌∷◌, ◌++◌, length, Option, Some, None, Ok, Err, refl, sym, ◌∙◌, ap, subst, inl, inr, arith, append_assoc, append-nil}
use Rattle.model_device.specs.declared.device.Stop.{Stop}
use Rattle.model_device.specs.declared.device.Stop.TheVariants.{Off, Worn}
use Rattle.model_device.specs.Orders.{Answer}
use Rattle.model_device.specs.Counts.{Rose}
use Rattle.model_device.specs.Device.{Entry, DeviceState, Grows, GrowsBy, WriteDone, WriteCut, WriteFailure, Wrote, Makes, Ended, done_entries, torn_entries}
use Rattle.model_device.specs.Image.{image_with}
use Rattle.model_device.specs.Stopped.{image_after_stop}

grows_one : (t : Option (List Entry)) (e : Entry) (u : Option (List Entry)) → Grows t e u → GrowsBy t (e ∷ []) u
grows_one t e u g = grind arith

grows_then : (t : Option (List Entry)) (e : Entry) (u : Option (List Entry)) (es : List Entry) (v : Option (List Entry)) → Grows t e u → GrowsBy u es v → GrowsBy t (e ∷ es) v
grows_then t e u es None g h = tt
grows_then t e None es (Some v) g h = absurd h
grows_then None e (Some u) es (Some v) g h = absurd g
grows_then (Some t) e (Some u) es (Some v) g h = h ∙ ap (λ (x : List Entry). x ++ es) g ∙ append_assoc t (e ∷ []) es

grows_none : (t u : Option (List Entry)) → u ≡ t → GrowsBy t [] u
grows_none t None h = tt
grows_none None (Some u) h = absurd (cc h)
grows_none (Some t) (Some u) h = let same : u ≡ t = cc in same ∙ sym (append-nil t)

same_stop : (s t : Stop) (a b : Answer) → a ≡ Err s → b ≡ Err t → a ≡ b → s ≡ t
same_stop s t a b p q h = cc

-- a list that was done
pub record DoneAll (d : DeviceState) (l : List (ℕ × List ℕ)) (e : DeviceState) : Type 0 where
  pub words : e.words ≡ image_with d.words l
  pub power : e.on ≡ true
  pub cuts : e.cuts ≡ d.cuts
  pub faults : e.faults ≡ d.faults
  pub tape : GrowsBy d.tape (done_entries l) e.tape

-- a list that was stopped at its write k, which left x
pub record StoppedAt (d : DeviceState) (l : List (ℕ × List ℕ)) (s : Stop) (e : DeviceState) : Type 0 where
  pub k : ℕ
  pub x : List ℕ
  pub low : 1 ≤ k
  pub high : k ≤ length l
  pub size : length x ≡ 8
  pub words : e.words ≡ image_after_stop d.words l k x
  pub ended : Ended (Err s) d e
  pub tape : GrowsBy d.tape (torn_entries l k x s) e.tape

module _ {D : Type 0} (state : D → DeviceState) (wrote : D → ℕ → List ℕ → Answer → D → Type 0)
    (obeys : (d : D) (at : ℕ) (w : List ℕ) (a : Answer) (e : D) → (state d).on ≡ true → wrote d at w a e → Wrote (state d) at w a (state e)) where
  pub makes_done : (l : List (ℕ × List ℕ)) (d e : D) → (state d).on ≡ true → Makes wrote d l (Ok tt) e → DoneAll (state d) l (state e)
  makes_done [] d e on made =
      let P : D → Type 0 = λ x. DoneAll (state d) [] (state x) in
      subst P (sym made) (record { words = refl; power = on; cuts = refl; faults = refl; tape = grows_none (state d).tape (state d).tape refl })
  makes_done (p ∷ l) d e on made =
      elim made [
        | inl step ↦
            let first : WriteDone (state d) p.0 p.1 (state step.0) = obeys d p.0 p.1 (Ok tt) step.0 on step.1 in
            let rest : DoneAll (state step.0) l (state e) = makes_done l step.0 e first.power step.2 in
            record {
              words = rest.words ∙ ap (λ (m : List (List ℕ)). image_with m l) first.words;
              power = rest.power;
              cuts = rest.cuts ∙ first.cuts;
              faults = rest.faults ∙ first.faults;
              tape = grows_then (state d).tape _ (state step.0).tape (done_entries l) (state e).tape first.tape rest.tape;
            }
        | inr stop ↦ absurd (cc stop.2)
      ]

  stopped_first : (p : ℕ × List ℕ) (l : List (ℕ × List ℕ)) (d e : D) (s : Stop) → (state d).on ≡ true → wrote d p.0 p.1 (Err s) e → StoppedAt (state d) (p ∷ l) s (state e)
  stopped_first p l d e Off on w =
      let cut : WriteCut (state d) p.0 (state e) = obeys d p.0 p.1 (Err Off) e on w in
      record {
        k = 1;
        x = cut.left;
        low = omega arith;
        high = omega arith;
        size = cut.size;
        words = cut.words;
        ended = (cut.power, cut.cuts, cut.falls_not, cut.faults);
        tape = grows_one (state d).tape _ (state e).tape cut.tape;
      }
  stopped_first p l d e Worn on w =
      let worn : WriteFailure (state d) p.0 (state e) = obeys d p.0 p.1 (Err Worn) e on w in
      record {
        k = 1;
        x = worn.left;
        low = omega arith;
        high = omega arith;
        size = worn.size;
        words = worn.words;
        ended = (worn.power, worn.faults, worn.falls_not, worn.cuts);
        tape = grows_one (state d).tape _ (state e).tape worn.tape;
      }

  -- counts that stayed at first
  ended_later : (s : Stop) (c d e : DeviceState) → d.cuts ≡ c.cuts → d.faults ≡ c.faults → Ended (Err s) d e → Ended (Err s) c e
  ended_later Off c d e hc hf h = (h.0, subst (λ (n : ℕ). Rose n e.cuts) hc h.1, subst (λ (n : ℕ). n ≤ e.cuts) hc h.2, h.3 ∙ hf)
  ended_later Worn c d e hc hf h = (h.0, subst (λ (n : ℕ). Rose n e.faults) hf h.1, subst (λ (n : ℕ). n ≤ e.faults) hf h.2, h.3 ∙ hc)

  stopped_later : (p : ℕ × List ℕ) (l : List (ℕ × List ℕ)) (c d e : DeviceState) (s : Stop) (k : ℕ) (x : List ℕ) → WriteDone c p.0 p.1 d → 1 ≤ k → k ≤ length l → length x ≡ 8
      → e.words ≡ image_after_stop d.words l k x → Ended (Err s) d e → GrowsBy d.tape (torn_entries l k x s) e.tape → StoppedAt c (p ∷ l) s e
  stopped_later p l c d e s zero x first low high size words ended tape = absurd (omega arith)
  stopped_later p l c d e s (suc k) x first low high size words ended tape =
      record {
        k = suc (suc k);
        x = x;
        low = omega arith;
        high = omega arith;
        size = size;
        words = words ∙ ap (λ (m : List (List ℕ)). image_after_stop m l (suc k) x) first.words;
        ended = ended_later s c d e first.cuts first.faults ended;
        tape = grows_then c.tape _ d.tape (torn_entries l (suc k) x s) e.tape first.tape tape;
      }

  pub makes_stopped : (l : List (ℕ × List ℕ)) (d e : D) (s : Stop) → (state d).on ≡ true → Makes wrote d l (Err s) e → StoppedAt (state d) l s (state e)
  makes_stopped [] d e s on made = absurd made
  makes_stopped (p ∷ l) d e s on made =
      elim made [
        | inl step ↦
            let first : WriteDone (state d) p.0 p.1 (state step.0) = obeys d p.0 p.1 (Ok tt) step.0 on step.1 in
            let rest : StoppedAt (state step.0) l s (state e) = makes_stopped l step.0 e s first.power step.2 in
            stopped_later p l (state d) (state step.0) (state e) s rest.k rest.x first rest.low rest.high rest.size rest.words rest.ended rest.tape
        | inr stop ↦ stopped_first p l d e s on (subst (λ (t : Stop). wrote d p.0 p.1 (Err t) e) (sym (same_stop s stop.0 (Err s) (Err stop.0) refl refl stop.2)) stop.1)
      ]

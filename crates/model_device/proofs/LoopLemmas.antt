-- Loops that write: what is left to do leads where the whole leads.
use Rattle.std.proofs.Common.{◌≡◌, ℕ, List, [], ◌∷◌, ◌++◌, Ok, Err, refl, sym, subst, inl, inr}
use Rattle.model_device.specs.declared.device.Stop.{Stop}
use Rattle.model_device.specs.Orders.{Answer}
use Rattle.model_device.specs.Device.{Makes}
use Rattle.model_device.proofs.OrdersLemmas.{in_order_append, in_order_stopped}

-- whatever the list makes from here, the whole makes from the start
abbrev pub Leads : {D : Type 0} → (D → ℕ → List ℕ → Answer → D → Type 0) → D → List (ℕ × List ℕ) → D → List (ℕ × List ℕ) → Type 0
Leads {D} wrote start whole here left = (a : Answer) (e : D) → Makes wrote here left a e → Makes wrote start whole a e

module _ {D : Type 0} (wrote : D → ℕ → List ℕ → Answer → D → Type 0) where
  pub leads_on : (start here there : D) (whole left rest : List (ℕ × List ℕ)) (at : ℕ) (w : List ℕ) → Leads wrote start whole here left → left ≡ (at, w) ∷ rest
      → wrote here at w (Ok tt) there → Leads wrote start whole there rest
  leads_on start here there whole left rest at w leads is one =
      λ a e made. leads a e (subst (λ (l : List (ℕ × List ℕ)). Makes wrote here l a e) (sym is) (inl (there, one, made)))

  pub leads_stop : (start here there : D) (whole left rest : List (ℕ × List ℕ)) (at : ℕ) (w : List ℕ) (s : Stop) → Leads wrote start whole here left → left ≡ (at, w) ∷ rest
      → wrote here at w (Err s) there → Makes wrote start whole (Err s) there
  leads_stop start here there whole left rest at w s leads is one =
      leads (Err s) there (subst (λ (l : List (ℕ × List ℕ)). Makes wrote here l (Err s) there) (sym is) (inr (s, one, refl)))

  pub leads_end : (start here : D) (whole left : List (ℕ × List ℕ)) → Leads wrote start whole here left → left ≡ [] → Makes wrote start whole (Ok tt) here
  leads_end start here whole left leads is = leads (Ok tt) here (subst (λ (l : List (ℕ × List ℕ)). Makes wrote here l (Ok tt) here) (sym is) refl)

  -- one list and then another
  pub then : (xs ys : List (ℕ × List ℕ)) (d m e : D) (a : Answer) → Makes wrote d xs (Ok tt) m → Makes wrote m ys a e → Makes wrote d (xs ++ ys) a e
  then xs ys d m e a first second = in_order_append (λ d p a e. wrote d p.0 p.1 a e) xs ys d m e a first second

  pub stopped : (xs ys : List (ℕ × List ℕ)) (d e : D) (s : Stop) → Makes wrote d xs (Err s) e → Makes wrote d (xs ++ ys) (Err s) e
  stopped xs ys d e s first = in_order_stopped (λ d p a e. wrote d p.0 p.1 a e) xs ys d e s first

  pub one_done : (d e : D) (at : ℕ) (w : List ℕ) → wrote d at w (Ok tt) e → Makes wrote d ((at, w) ∷ []) (Ok tt) e
  one_done d e at w one = inl (e, one, refl)

  pub one_stopped : (d e : D) (at : ℕ) (w : List ℕ) (rest : List (ℕ × List ℕ)) (s : Stop) → wrote d at w (Err s) e → Makes wrote d ((at, w) ∷ rest) (Err s) e
  one_stopped d e at w rest s one = inr (s, one, refl)

  -- one write, however it ends
  pub one : (d e : D) (at : ℕ) (w : List ℕ) (a : Answer) → wrote d at w a e → Makes wrote d ((at, w) ∷ []) a e
  one d e at w (Ok tt) h = inl (e, h, refl)
  one d e at w (Err s) h = inr (s, h, refl)

  -- a list of writes keeps which device is borrowed
  pub makes_same : (same : D → D → Type 0) → ((d : D) (at : ℕ) (w : List ℕ) (a : Answer) (e : D) → wrote d at w a e → same d e) → ((d : D) → same d d)
      → ((d e f : D) → same d e → same e f → same d f) → (l : List (ℕ × List ℕ)) (d e : D) (a : Answer) → Makes wrote d l a e → same d e
  makes_same same keeps itself onward [] d e (Ok u) made = subst (λ (x : D). same d x) (sym made) (itself d)
  makes_same same keeps itself onward [] d e (Err s) made = absurd made
  makes_same same keeps itself onward (p ∷ l) d e a made =
      elim made [
        | inl step ↦ onward d step.0 e (keeps d p.0 p.1 (Ok tt) step.0 step.1) (makes_same same keeps itself onward l step.0 e a step.2)
        | inr stop ↦ keeps d p.0 p.1 (Err stop.0) e stop.1
      ]

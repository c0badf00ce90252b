-- How lists of steps that are done in order compose.
use Rattle.std.specs.Prelude.{List, [], ◌∷◌, ◌++◌, Ok, Err}
use Rattle.std.proofs.Common.{subst, inl, inr}
use Rattle.model_device.specs.declared.device.Stop.{Stop}
use Rattle.model_device.specs.Orders.{Answer, InOrder}

module _ {D I : Type 0} (one : D → I → Answer → D → Type 0) where
  -- a list that was done, and then another
  pub in_order_append : (xs ys : List I) (d m e : D) (a : Answer) → InOrder one d xs (Ok tt) m → InOrder one m ys a e → InOrder one d (xs ++ ys) a e
  in_order_append [] ys d m e a first second = subst (λ d. InOrder one d ys a e) first second
  in_order_append (x ∷ xs) ys d m e a first second =
      elim first [
        | inl done ↦ inl (done.0, done.1, in_order_append xs ys done.0 m e a done.2 second)
        | inr stop ↦ absurd (cc stop.2)
      ]

  -- a list that stopped, whatever was to come after it
  pub in_order_stopped : (xs ys : List I) (d e : D) (s : Stop) → InOrder one d xs (Err s) e → InOrder one d (xs ++ ys) (Err s) e
  in_order_stopped [] ys d e s first = absurd first
  in_order_stopped (x ∷ xs) ys d e s first =
      elim first [
        | inl done ↦ inl (done.0, done.1, in_order_stopped xs ys done.0 e s done.2)
        | inr stop ↦ inr stop
      ]

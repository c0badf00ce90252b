-- Lists of steps that are done in order, up to a stop: the one fold that device writes and items of a bank share.
use Rattle.std.specs.Prelude.{◌≡◌, ◌⊎◌, List, [], ◌∷◌, Result, Ok, Err}
use Rattle.model_device.specs.declared.device.Stop.{Stop}

-- how a step ended
abbrev pub Answer : Type 0
Answer = Result (Unit {0}) Stop

-- how a call ended, without its value
abbrev pub answer_of : {T : Type 0} → Result T Stop → Answer
answer_of (Ok x) = Ok tt
answer_of (Err s) = Err s

-- the steps were done in order from d to e, or one of them stopped at e and none after it was tried
abbrev pub InOrder : {D I : Type 0} → (D → I → Answer → D → Type 0) → D → List I → Answer → D → Type 0
InOrder {D} one d [] (Ok u) e = e ≡ d
InOrder {D} one d [] (Err s) e = ⊥
InOrder {D} one d (i ∷ is) a e =
    ((m : D) × one d i (Ok tt) m × InOrder one m is a e) ⊎ ((s : Stop) × one d i (Err s) e × (a ≡ Err s))

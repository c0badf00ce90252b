-- What parts of an operation make of a spot, put together.
use Rattle.std.specs.Prelude.{◌≡◌, ℕ, ◌+◌, Bool, true, List, ◌∷◌, ◌++◌, length, Result, Ok, Err, IfOk}
use Rattle.std.proofs.Common.{ap, sym, ◌∙◌}
use Rattle.model_device.specs.Bytes.{bytes2}
use Rattle.prove_facts.specs.model_rules.specs.Keeping.{Amounts}
use Rattle.prove_facts.specs.model_prove.specs.Sets.{Set}
use Rattle.prove_facts.specs.model_prove.specs.Arrivals.{Setting, static_size}
use Rattle.prove_facts.specs.model_prove.specs.Keys.{Start, Call}
use Rattle.prove_facts.specs.model_prove.specs.Steps as steps
use Rattle.prove_spots.specs.Grounds.{Ground, spot_of, with_dt, with_call, with_calls, with_saved}

-- what was done is what is asked for
pub done_from : {E : Type 0} (r : Result Bool E) (new old other : Ground) (F G : steps.Spot → steps.Spot)
    → ((s : Start) (a : Amounts) → F (spot_of s a old) ≡ G (spot_of s a other))
    → IfOk r (λ done. done ≡ true → (s : Start) (a : Amounts) → spot_of s a new ≡ F (spot_of s a old))
    → IfOk r (λ done. done ≡ true → (s : Start) (a : Amounts) → spot_of s a new ≡ G (spot_of s a other))
done_from (Ok done) new old other F G e h = λ t s a. h t s a ∙ e s a
done_from (Err x) new old other F G e h = h

-- a write, and DT above it
pub pushed_is : (s : Start) (a : Amounts) (old mid new : Ground) (ss : List Set) (dt n : ℕ) → dt ≡ old.dt → n ≡ length ss
    → spot_of s a mid ≡ steps.written dt ss (spot_of s a old) → new ≡ with_dt (dt + n) mid → spot_of s a new ≡ steps.pushed ss (spot_of s a old)
pushed_is s a old mid new ss dt n d l w e =
    let top : ℕ → steps.Spot → steps.Spot = λ k q. record q { key = record q.key { dt = k } } in
    ap (spot_of s a) e ∙ ap (top (dt + n)) w ∙ ap (λ (k : ℕ). top (dt + k) (steps.written dt ss (spot_of s a old))) l
    ∙ ap (λ (k : ℕ). top (k + length ss) (steps.written k ss (spot_of s a old))) d

-- four bytes pushed, and an open call
pub called_is : (s : Start) (a : Amounts) (old mid new : Ground) (ss : List Set) (c : Call) (to : ℕ) → c.dt ≡ old.dt + 4 → c.lb ≡ old.lb → c.at ≡ old.at
    → ss ≡ steps.sets (bytes2 c.lb ++ bytes2 c.at) → spot_of s a mid ≡ steps.pushed ss (spot_of s a old) → new ≡ with_call to c mid
    → spot_of s a new ≡ steps.called to (spot_of s a old)
called_is s a old mid new ss c to d l p e w o =
    let opened : Call → steps.Spot → steps.Spot = λ k q. record q { key = record q.key { lb = k.dt; at = to; calls = k ∷ q.key.calls } } in
    let after : Call → steps.Spot = λ k. opened k (steps.pushed (steps.sets (bytes2 k.lb ++ bytes2 k.at)) (spot_of s a old)) in
    ap (spot_of s a) o ∙ ap (opened c) w ∙ ap (λ (t : List Set). opened c (steps.pushed t (spot_of s a old))) e
    ∙ ap (λ (k : ℕ). after (record { dt = k; lb = c.lb; at = c.at })) d
    ∙ ap (λ (k : ℕ). after (record { dt = old.dt + 4; lb = k; at = c.at })) l
    ∙ ap (λ (k : ℕ). after (record { dt = old.dt + 4; lb = old.lb; at = k })) p

-- LB and the place taken from a call, a write, and DT lowered
pub returned_is : (s : Start) (a : Amounts) (old left mid new : Ground) (ss : List Set) (c : Call) (to n : ℕ) → left ≡ with_saved c old → n ≡ length ss
    → spot_of s a mid ≡ steps.written to ss (spot_of s a left) → spot_of s a new ≡ steps.lowered (to + n) (spot_of s a mid)
    → spot_of s a new ≡ steps.returned c old.calls to ss (spot_of s a old)
returned_is s a old left mid new ss c to n e l w o =
    o ∙ ap (steps.lowered (to + n)) w ∙ ap (λ (g : Ground). steps.lowered (to + n) (steps.written to ss (spot_of s a g))) e
    ∙ ap (λ (k : ℕ). steps.lowered (to + k) (steps.written to ss (spot_of s a (with_saved c old)))) l

-- an act that is the same for every setting
pub done_always : {E : Type 0} (r : Result Bool E) (new old : Ground) (n : ℕ) (F : steps.Spot → steps.Spot) (G : Setting → steps.Spot → steps.Spot)
    → ((x : Setting) (s : Start) (a : Amounts) → F (spot_of s a old) ≡ G x (spot_of s a old))
    → IfOk r (λ done. done ≡ true → (s : Start) (a : Amounts) → spot_of s a new ≡ F (spot_of s a old))
    → IfOk r (λ done. done ≡ true → (x : Setting) (s : Start) (a : Amounts) → static_size x ≡ n → spot_of s a new ≡ G x (spot_of s a old))
done_always (Ok done) new old n F G e h = λ t x s a i. h t s a ∙ e x s a
done_always (Err x) new old n F G e h = h

-- the newest call taken off
pub popped_is : (s : Start) (a : Amounts) (old left : Ground) (ss : List Set) (c : Call) (to : ℕ) → old.calls ≡ c ∷ left.calls → left ≡ with_calls left.calls old
    → steps.returned c left.calls to ss (spot_of s a left) ≡ steps.returned_by old.calls to ss (spot_of s a old)
popped_is s a old left ss c to e h =
    ap (λ (g : Ground). steps.returned c left.calls to ss (spot_of s a g)) h ∙ ap (λ (cs : List Call). steps.returned_by cs to ss (spot_of s a old)) (sym e)

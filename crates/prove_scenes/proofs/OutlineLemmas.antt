-- What follows a row, from what of its shape matters.
use Rattle.std.proofs.Common.{◌≡◌, ℕ, Bool, true, false, cond, List, [], ◌∷◌, ◌++◌, length, Option, Some, None, refl, ap, ◌∙◌}
use Rattle.std.specs.Prelude.{◌&&◌, not, nat_lt, flat_map}
use Rattle.std.proofs.lemmas.List.{length-replicate}
use Rattle.model_machine.specs.declared.instruction.Ins.{Ins}
use Rattle.model_machine.specs.declared.machine.Abend.TheVariants.{A08}
use Rattle.model_machine.specs.Frame.{Frame}
use Rattle.model_machine.specs.Primitives.{Then, Goes, Exits, Delegates}
use Rattle.model_machine.specs.Shapes.{Act, Stays, Answers, Jumps, Calls, Returns, Pushes, Replaces, Writes, Protects, Shape}
use Rattle.model_prove.specs.Sets.{Set}
use Rattle.model_prove.specs.Facts.{values_from}
use Rattle.model_prove.specs.Work.{Work, AsShaped, Copies, Works, Searches, AnyZ, Counted, NoFact}
use Rattle.model_prove.specs.Arrivals.{Setting, Arrival, fails, static_size}
use Rattle.model_prove.specs.Reach.{Coarse, PushesAny, Shifts, Compares, WritesWithin, Leads}
use Rattle.model_prove.specs.Reach as reach
use Rattle.model_prove.specs.Steps.{Spot, row_arrivals, is_return, no_calls, may_wait_too_long, makes_write, follows, settled_spot, spots, with_flags, acted, lowered, any_bytes, counted_sets, shaped_bytes, returned_sets, coarse_done, coarse_for, coarse_spots, reaches_static}
use Rattle.prove_scenes.specs.Outlines.{outlined_bytes, outlined_act, outlined_next, outlined, OutlineLaw}
use Rattle.prove_scenes.specs.Coarse.{coarse_flags, coarse_act, coarse_outlined, CoarseOutlineLaw}

-- ---- acts

return_same : (w : Work) (a : Act) → is_return (outlined_act w a) ≡ is_return a
return_same w Stays = refl
return_same w (Answers sw la) = refl
return_same w (Jumps taken to) = refl
return_same w (Calls taken to) = refl
return_same w (Returns less more) = refl
return_same w (Pushes b) = refl
return_same w (Replaces b) = refl
return_same w (Writes a n b) = refl
return_same w (Protects mode) = refl

waits_same : (s : Setting) (p : Bool) (w : Work) (a : Act) → may_wait_too_long s p (outlined_act w a) ≡ may_wait_too_long s p a
waits_same s p w Stays = refl
waits_same s p w (Answers sw la) = refl
waits_same s p w (Jumps taken to) = refl
waits_same s p w (Calls taken to) = refl
waits_same s p w (Returns less more) = refl
waits_same s p w (Pushes b) = refl
waits_same s p w (Replaces b) = refl
waits_same s p w (Writes a n b) = refl
waits_same s p w (Protects mode) = refl

writes_same : (s : Setting) (p : Bool) (w : Work) (a : Act) → makes_write s p (outlined_act w a) ≡ makes_write s p a
writes_same s p w Stays = refl
writes_same s p w (Answers sw la) = refl
writes_same s p w (Jumps taken to) = refl
writes_same s p w (Calls taken to) = refl
writes_same s p w (Returns less more) = refl
writes_same s p w (Pushes b) = refl
writes_same s p w (Replaces b) = refl
writes_same s p w (Writes a n b) = refl
writes_same s p w (Protects mode) = refl

-- ---- spots

-- the places after an act with these values
abbrev after_act : Setting → ℕ → Option (Bool × Bool) → Spot → Act → List Set → List Spot
after_act s dt flags q a ss = with_flags flags (acted s a ss (lowered dt q)) ∷ []

shaped_same : (s : Setting) (dt : ℕ) (flags : Option (Bool × Bool)) (q : Spot) (a : Act)
    → after_act s dt flags q (outlined_act AsShaped a) (returned_sets (outlined_act AsShaped a) q.known.bytes q.key.dt) ≡ after_act s dt flags q a (returned_sets a q.known.bytes q.key.dt)
shaped_same s dt flags q Stays = refl
shaped_same s dt flags q (Answers sw la) = refl
shaped_same s dt flags q (Jumps taken to) = refl
shaped_same s dt flags q (Calls taken to) = refl
shaped_same s dt flags q (Returns less more) = refl
shaped_same s dt flags q (Pushes b) = refl
shaped_same s dt flags q (Replaces b) = refl
shaped_same s dt flags q (Writes a n b) = refl
shaped_same s dt flags q (Protects mode) = refl

copied_same : (s : Setting) (dt : ℕ) (flags : Option (Bool × Bool)) (q : Spot) (from : ℕ) (a : Act)
    → after_act s dt flags q (outlined_act (Copies from) a) (values_from q.known.bytes from (length (shaped_bytes (outlined_act (Copies from) a))))
    ≡ after_act s dt flags q a (values_from q.known.bytes from (length (shaped_bytes a)))
copied_same s dt flags q from Stays = refl
copied_same s dt flags q from (Answers sw la) = refl
copied_same s dt flags q from (Jumps taken to) = refl
copied_same s dt flags q from (Calls taken to) = refl
copied_same s dt flags q from (Returns less more) = refl
copied_same s dt flags q from (Pushes b) = ap (λ (k : ℕ). after_act s dt flags q (Pushes b) (values_from q.known.bytes from k)) (length-replicate (length b) 0)
copied_same s dt flags q from (Replaces b) = ap (λ (k : ℕ). after_act s dt flags q (Replaces b) (values_from q.known.bytes from k)) (length-replicate (length b) 0)
copied_same s dt flags q from (Writes a n b) = ap (λ (k : ℕ). after_act s dt flags q (Writes a n b) (values_from q.known.bytes from k)) (length-replicate (length b) 0)
copied_same s dt flags q from (Protects mode) = refl

no_fact_same : (s : Setting) (dt : ℕ) (flags : Option (Bool × Bool)) (q : Spot) (a : Act)
    → after_act s dt flags q (outlined_act NoFact a) (any_bytes (length (shaped_bytes (outlined_act NoFact a)))) ≡ after_act s dt flags q a (any_bytes (length (shaped_bytes a)))
no_fact_same s dt flags q Stays = refl
no_fact_same s dt flags q (Answers sw la) = refl
no_fact_same s dt flags q (Jumps taken to) = refl
no_fact_same s dt flags q (Calls taken to) = refl
no_fact_same s dt flags q (Returns less more) = refl
no_fact_same s dt flags q (Pushes b) = ap (λ (k : ℕ). after_act s dt flags q (Pushes b) (any_bytes k)) (length-replicate (length b) 0)
no_fact_same s dt flags q (Replaces b) = ap (λ (k : ℕ). after_act s dt flags q (Replaces b) (any_bytes k)) (length-replicate (length b) 0)
no_fact_same s dt flags q (Writes a n b) = ap (λ (k : ℕ). after_act s dt flags q (Writes a n b) (any_bytes k)) (length-replicate (length b) 0)
no_fact_same s dt flags q (Protects mode) = refl

counted_bytes : (b : List ℕ) → counted_sets (outlined_bytes Counted b) ≡ counted_sets b
counted_bytes [] = refl
counted_bytes (n ∷ b) = ap (λ (k : ℕ). (n ∷ []) ∷ any_bytes k) (length-replicate (length b) 0)

counted_same : (s : Setting) (dt : ℕ) (flags : Option (Bool × Bool)) (q : Spot) (a : Act)
    → after_act s dt flags q (outlined_act Counted a) (counted_sets (shaped_bytes (outlined_act Counted a))) ≡ after_act s dt flags q a (counted_sets (shaped_bytes a))
counted_same s dt flags q Stays = refl
counted_same s dt flags q (Answers sw la) = refl
counted_same s dt flags q (Jumps taken to) = refl
counted_same s dt flags q (Calls taken to) = refl
counted_same s dt flags q (Returns less more) = refl
counted_same s dt flags q (Pushes b) = ap (after_act s dt flags q (Pushes b)) (counted_bytes b)
counted_same s dt flags q (Replaces b) = ap (after_act s dt flags q (Replaces b)) (counted_bytes b)
counted_same s dt flags q (Writes a n b) = ap (after_act s dt flags q (Writes a n b)) (counted_bytes b)
counted_same s dt flags q (Protects mode) = refl

spots_same : (s : Setting) (h : Shape) (w : Work) (q : Spot) → spots s (outlined w h) w q ≡ spots s h w q
spots_same s h AsShaped q = shaped_same s h.dt h.flags q h.act
spots_same s h (Copies from) q = copied_same s h.dt h.flags q from h.act
spots_same s h (Works d) q = refl
spots_same s h (Searches value table n) q = refl
spots_same s h AnyZ q = refl
spots_same s h Counted q = counted_same s h.dt h.flags q h.act
spots_same s h NoFact q = no_fact_same s h.dt h.flags q h.act

-- ---- arrivals

-- what follows the places after a row
abbrev after : Setting → Ins → Bool → Then → Spot → List Spot → List Arrival
after s i writes n p rs = flat_map (λ r. follows s i writes n p (settled_spot s r)) rs

after_same : (s : Setting) (i : Ins) (writes : Bool) (n : Then) (p : Spot) (rs : List Spot) → after s i writes (outlined_next n) p rs ≡ after s i writes n p rs
after_same s i writes Goes p rs = refl
after_same s i writes Exits p rs = refl
after_same s i writes (Delegates name) p rs = refl

row_same : (b : Bool) (s : Setting) (i : Ins) (h : Shape) (w : Work) (p q : Spot) → row_arrivals b s i (outlined w h) w p q ≡ row_arrivals b s i h w p q
row_same true s i h w p q = refl
row_same false s i h w p q =
    let waiting : Bool → List Arrival = λ t. cond t (fails s p.key p.known A08) [] in
    let writes = makes_write s p.key.protected h.act in
    ap (λ (t : Bool). waiting t ++ after s i (makes_write s p.key.protected (outlined_act w h.act)) (outlined_next h.next) p (spots s (outlined w h) w q)) (waits_same s p.key.protected w h.act)
    ∙ ap (λ (t : Bool). waiting (may_wait_too_long s p.key.protected h.act) ++ after s i t (outlined_next h.next) p (spots s (outlined w h) w q)) (writes_same s p.key.protected w h.act)
    ∙ ap (λ (rs : List Spot). waiting (may_wait_too_long s p.key.protected h.act) ++ after s i writes (outlined_next h.next) p rs) (spots_same s h w q)
    ∙ ap (λ (l : List Arrival). waiting (may_wait_too_long s p.key.protected h.act) ++ l) (after_same s i writes h.next p (spots s h w q))

-- what follows a row follows from what of its shape matters
pub outline_law : OutlineLaw
outline_law (Some cause) s i h w p q = refl
outline_law None s i h w p q =
    ap (λ (t : Bool). row_arrivals (t && no_calls p.key.calls) s i (outlined w h) w p q) (return_same w h.act)
    ∙ row_same (is_return h.act && no_calls p.key.calls) s i h w p q

-- ---- too many combinations

coarse_same : (a : Act) (c : Coarse) → coarse_for (coarse_act a) c ≡ coarse_for a c
coarse_same Stays c = refl
coarse_same (Answers sw la) c = refl
coarse_same (Jumps taken to) c = refl
coarse_same (Calls taken to) c = refl
coarse_same (Returns less more) c = refl
coarse_same (Pushes b) c = refl
coarse_same (Replaces b) c = refl
coarse_same (Writes a n b) c = refl
coarse_same (Protects mode) c = refl

moving_same : (f : Frame) (flags : Option (Bool × Bool)) (c : Coarse) (q : Spot) → coarse_spots f (coarse_flags c flags) c q ≡ coarse_spots f flags c q
moving_same f flags (PushesAny n) q = refl
moving_same f flags (Shifts n) q = refl
moving_same f flags Compares q = refl
moving_same f flags reach.Searches q = refl
moving_same f flags (WritesWithin r) q = refl
moving_same f flags Leads q = refl

staying_same : (f : Frame) (flags : Option (Bool × Bool)) (c : Coarse) (q : Spot) → coarse_spots f (coarse_flags c flags) (coarse_for Stays c) q ≡ coarse_spots f flags (coarse_for Stays c) q
staying_same f flags (PushesAny n) q = refl
staying_same f flags (Shifts n) q = refl
staying_same f flags Compares q = refl
staying_same f flags reach.Searches q = refl
staying_same f flags (WritesWithin r) q = refl
staying_same f flags Leads q = refl

flags_same : (f : Frame) (flags : Option (Bool × Bool)) (a : Act) (c : Coarse) (q : Spot) → coarse_spots f (coarse_flags c flags) (coarse_for a c) q ≡ coarse_spots f flags (coarse_for a c) q
flags_same f flags Stays c q = staying_same f flags c q
flags_same f flags (Answers sw la) c q = moving_same f flags c q
flags_same f flags (Jumps taken to) c q = moving_same f flags c q
flags_same f flags (Calls taken to) c q = moving_same f flags c q
flags_same f flags (Returns less more) c q = moving_same f flags c q
flags_same f flags (Pushes b) c q = moving_same f flags c q
flags_same f flags (Replaces b) c q = moving_same f flags c q
flags_same f flags (Writes a n b) c q = moving_same f flags c q
flags_same f flags (Protects mode) c q = moving_same f flags c q

-- what follows a row of too many combinations follows from what of its shape matters
pub coarse_outline_law : CoarseOutlineLaw
coarse_outline_law (Some cause) s i f h c p q = refl
coarse_outline_law None s i f h c p q =
    let d = coarse_for h.act c in
    let static = reaches_static s f d in
    let before = cond (static && p.key.protected && nat_lt 512 (static_size s)) (fails s p.key p.known A08) [] in
    ap (λ (e : Coarse). coarse_done None s i f (coarse_outlined c h) e p q) (coarse_same h.act c)
    ∙ ap (λ (rs : List Spot). before ++ after s i (static && not p.key.protected) (outlined_next h.next) p rs) (flags_same f h.flags h.act c (lowered h.dt q))
    ∙ ap (λ (l : List Arrival). before ++ l) (after_same s i (static && not p.key.protected) h.next p (coarse_spots f h.flags d (lowered h.dt q)))

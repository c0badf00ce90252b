-- What is known for sums after a row, from what of its shape matters.
use Rattle.std.proofs.Common.{◌≡◌, ℕ, suc, ◌-◌, List, [], ◌∷◌, length, None, refl, ap}
use Rattle.std.proofs.lemmas.List.{length-replicate}
use Rattle.mc_arith.specs.model_machine.specs.Shapes.{Act, Stays, Answers, Jumps, Calls, Returns, Pushes, Replaces, Writes, Protects, Shape}
use Rattle.prove_facts.specs.model_rules.specs.Rules.{Total}
use Rattle.prove_facts.specs.model_prove.specs.Keys.{PlaceKey}
use Rattle.prove_facts.specs.model_prove.specs.Reach.{Coarse}
use Rattle.prove_facts.specs.model_prove.specs.Steps.{coarse_for}
use Rattle.prove_facts.specs.model_prove.specs.Work.{Work, AsShaped, Copies, Works, Searches, AnyZ, Counted, NoFact}
use Rattle.prove_forms.specs.model_sums.specs.Origins.{unknowns, origins_from}
use Rattle.prove_forms.specs.model_sums.specs.Sums.{Sums}
use Rattle.prove_forms.specs.model_sums.specs.Moves.{acted, copied, moved_coarsely, own_origins, size_of}
use Rattle.prove_forms.specs.model_sums.specs.Writes.{wrote, popped, is_total_block, loaded, more_of}
use Rattle.prove_scenes.specs.Coarse.{coarse_act}
use Rattle.prove_scenes.specs.Outlines.{outlined, outlined_act, outlined_bytes}
use Rattle.prove_sums.specs.Outlines.{MoveLaw, CoarseMoveLaw}

-- ---- acts

as_shaped : (a : Act) → outlined_act AsShaped a ≡ a
as_shaped Stays = refl
as_shaped (Answers sw la) = refl
as_shaped (Jumps taken to) = refl
as_shaped (Calls taken to) = refl
as_shaped (Returns less more) = refl
as_shaped (Pushes b) = refl
as_shaped (Replaces b) = refl
as_shaped (Writes a n b) = refl
as_shaped (Protects mode) = refl

-- an act whose bytes come from nowhere
abbrev unknown_act : List Total → PlaceKey → Sums → Act → Sums
unknown_act ts k u a = acted ts k a (unknowns (size_of a)) None u

-- bytes that come from nowhere matter by their number
unknown_same : (w : Work) → ((b : List ℕ) → length (outlined_bytes w b) ≡ length b) → (ts : List Total) (k : PlaceKey) (u : Sums) (a : Act)
    → unknown_act ts k u (outlined_act w a) ≡ unknown_act ts k u a
unknown_same w e ts k u Stays = refl
unknown_same w e ts k u (Answers sw la) = refl
unknown_same w e ts k u (Jumps taken to) = refl
unknown_same w e ts k u (Calls taken to) = refl
unknown_same w e ts k u (Returns less more) = refl
unknown_same w e ts k u (Pushes b) = ap (λ (n : ℕ). wrote ts k.dt (unknowns n) None u) (e b)
unknown_same w e ts k u (Replaces b) = ap (λ (n : ℕ). wrote ts (k.dt - length (unknowns n)) (unknowns n) None u) (e b)
unknown_same w e ts k u (Writes a n b) = ap (λ (m : ℕ). wrote ts a (unknowns m) None u) (e b)
unknown_same w e ts k u (Protects mode) = refl

zeros_long : (b : List ℕ) → length (outlined_bytes NoFact b) ≡ length b
zeros_long b = length-replicate (length b) 0

counted_long : (b : List ℕ) → length (outlined_bytes Counted b) ≡ length b
counted_long [] = refl
counted_long (n ∷ b) = ap suc (length-replicate (length b) 0)

copied_same : (ts : List Total) (k : PlaceKey) (h : Shape) (from : ℕ) (u : Sums) (a : Act)
    → copied ts k (outlined (Copies from) h) (outlined_act (Copies from) a) from u ≡ copied ts k h a from u
copied_same ts k h from u Stays = refl
copied_same ts k h from u (Answers sw la) = refl
copied_same ts k h from u (Jumps taken to) = refl
copied_same ts k h from u (Calls taken to) = refl
copied_same ts k h from u (Returns less more) = refl
copied_same ts k h from u (Pushes b) =
    ap (λ (n : ℕ). loaded (is_total_block ts from n) h.dt from n (wrote ts h.dt (origins_from u.origins from n) None (popped h.dt u))) (zeros_long b)
copied_same ts k h from u (Replaces b) =
    unknown_same (Copies from) zeros_long ts (record k { dt = h.dt }) (popped h.dt u) (Replaces b)
copied_same ts k h from u (Writes a n b) =
    ap (λ (m : ℕ). wrote ts a (origins_from u.origins from m) (more_of u.mores from a m) (popped h.dt u)) (zeros_long b)
copied_same ts k h from u (Protects mode) = refl

-- ---- rows

-- what is known after a row follows from what of its shape matters
pub move_law : MoveLaw
move_law ts k i h AsShaped u =
    ap (λ (a : Act). acted ts (record k { dt = h.dt }) a (own_origins i a u.origins k.dt) None (popped h.dt u)) (as_shaped h.act)
move_law ts k i h (Copies from) u = copied_same ts k h from u h.act
move_law ts k i h (Works d) u = refl
move_law ts k i h (Searches v t n) u = refl
move_law ts k i h AnyZ u = refl
move_law ts k i h Counted u = unknown_same Counted counted_long ts (record k { dt = h.dt }) (popped h.dt u) h.act
move_law ts k i h NoFact u = unknown_same NoFact zeros_long ts (record k { dt = h.dt }) (popped h.dt u) h.act

coarse_same : (c : Coarse) (a : Act) → coarse_for (coarse_act a) c ≡ coarse_for a c
coarse_same c Stays = refl
coarse_same c (Answers sw la) = refl
coarse_same c (Jumps taken to) = refl
coarse_same c (Calls taken to) = refl
coarse_same c (Returns less more) = refl
coarse_same c (Pushes b) = refl
coarse_same c (Replaces b) = refl
coarse_same c (Writes a n b) = refl
coarse_same c (Protects mode) = refl

-- what is known after a row of too many combinations follows from what of its shape matters
pub coarse_move_law : CoarseMoveLaw
coarse_move_law ts f h c u = ap (λ (d : Coarse). moved_coarsely ts (record f { dt = h.dt }) d u) (coarse_same c h.act)

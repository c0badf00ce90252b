-- What instructions do to the blocks, one after the other.
use Rattle.std.proofs.Common.{◌≡◌, ℕ, suc, ◌<◌, ◌≤◌, Bool, true, false, List, [], ◌∷◌, drop, take, length, get_or, Option, Some, None, Result, Ok, Err, refl, sym, ◌∙◌, ap, subst, arith, drop-cons}
use Rattle.std.specs.Prelude.{is_some, slice_get}
use Rattle.std.proofs.lemmas.List.{drop_all, length-append, take-append-drop}
use Rattle.model_device.specs.Bytes.{num}
use Rattle.lab_app_rules.specs.declared.rules.Balance.{Balance}
use Rattle.lab_app_rules.specs.declared.rules.On.{On}
use Rattle.lab_history.specs.declared.course.Deed.{Deed}
use Rattle.lab_history.specs.declared.course.Deed.TheVariants as deed
use Rattle.lab_history.specs.declared.course.Extent.{Extent}
use Rattle.lab_history.specs.declared.course.Happening.{Happening}
use Rattle.lab_app_rules.specs.model_events.specs.model_text.specs.Text.{◌>>=◌}
use Rattle.lab_history.specs.declared.standing.Break.{Break}
use Rattle.lab_history.specs.Applying.{deed_effect, deeds_effect, effect_where, ComesTo}
use Rattle.lab_history.specs.Courses.{has_turn}
use Rattle.lab_history.specs.Moves.{takes_from_sum, AreDone, AreMoved, ByTurn, IsDone, IsLineMoved}

-- ---- sizes

-- blocks that are moved have the size of those before
moved_size : (bs : List Balance) (sum : ℕ) (takes : Bool) (k : ℕ) (old new : List ℕ) → AreMoved bs sum takes k old new → length new ≡ length old
moved_size [] sum takes k old new h = ap length h
moved_size (b ∷ bs) sum takes k old new h =
    let rest = moved_size bs sum takes k (drop b.n old) h.1 h.4 in
    let made = ap length h.2 ∙ length-append h.0 h.1 in
    let block = h.3.size in
    let whole = sym (length-append (take b.n old) (drop b.n old)) ∙ ap length (take-append-drop b.n old) in
    omega (arith, rest, made, block, whole)

line_size : (o : Option On) (bs : List Balance) (k : ℕ) (old new : List ℕ) → IsLineMoved o bs k old new → length new ≡ length old
line_size None bs k old new h = ap length h
line_size (Some o) bs k old new h = moved_size bs o.name (takes_from_sum o.effect) k old new h

-- what is kept and what waits have the same size after an instruction
pub done_size : (ons : List On) (bs : List Balance) (d : Deed) (kept waiting k w : List ℕ) → length kept ≡ length waiting → IsDone ons bs d kept waiting k w → length k ≡ length w
done_size ons bs (deed.On i) kept waiting k w e h = ap length h.0 ∙ e ∙ sym (ap length h.1)
done_size ons bs (deed.Sum i number) kept waiting k w e h = ap length h.0 ∙ e ∙ sym (line_size (slice_get ons i) bs (num number.items) waiting w h.1)
done_size ons bs deed.Keep kept waiting k w e h = ap length h.0 ∙ sym (ap length h.1)
done_size ons bs deed.Drop kept waiting k w e h = ap length h.0 ∙ sym (ap length h.1)
done_size ons bs deed.Abend kept waiting k w e h = ap length h.0 ∙ e ∙ sym (ap length h.1)

-- ---- one after the other

-- what is done by the instructions that are left, after those before, is done by all
abbrev pub DoneLeft : List On → List Balance → Extent → List Happening → List Happening → List ℕ → List ℕ → List ℕ → List ℕ → Type 0
DoneLeft ons bs e whole left first second kept waiting = (k w : List ℕ) → AreDone ons bs e left kept waiting k w → AreDone ons bs e whole first second k w

-- one more instruction, which counts
pub done_more : (ons : List On) (bs : List Balance) (e : Extent) (whole hs : List Happening) (i j : ℕ) (h : Happening) (first second kept waiting k w : List ℕ) → j ≡ suc i → i < length hs → h ≡ get_or hs i h → has_turn e h.turn ≡ true
    → IsDone ons bs h.deed kept waiting k w → DoneLeft ons bs e whole (drop i hs) first second kept waiting → DoneLeft ons bs e whole (drop j hs) first second k w
done_more ons bs e whole hs i j h first second kept waiting k w next low is counts done before k' w' rest =
    let at : drop i hs ≡ h ∷ drop (suc i) hs = drop-cons hs i h low ∙ ap (λ (x : Happening). x ∷ drop (suc i) hs) (sym is) in
    let tail = subst (λ (n : ℕ). AreDone ons bs e (drop n hs) k w k' w') next rest in
    let all = subst (λ b. ByTurn b ((x : List ℕ) × (y : List ℕ) × IsDone ons bs h.deed kept waiting x y × AreDone ons bs e (drop (suc i) hs) x y k' w') ((k' ≡ kept) × (w' ≡ waiting))) (sym counts) (k, w, done, tail) in
    before k' w' (subst (λ (l : List Happening). AreDone ons bs e l kept waiting k' w') (sym at) all)

-- an instruction that does not count
pub done_out : (ons : List On) (bs : List Balance) (e : Extent) (whole hs : List Happening) (i : ℕ) (h : Happening) (first second kept waiting : List ℕ) → i < length hs → h ≡ get_or hs i h → has_turn e h.turn ≡ false
    → DoneLeft ons bs e whole (drop i hs) first second kept waiting → AreDone ons bs e whole first second kept waiting
done_out ons bs e whole hs i h first second kept waiting low is counts before =
    let at : drop i hs ≡ h ∷ drop (suc i) hs = drop-cons hs i h low ∙ ap (λ (x : Happening). x ∷ drop (suc i) hs) (sym is) in
    let none = subst (λ b. ByTurn b ((x : List ℕ) × (y : List ℕ) × IsDone ons bs h.deed kept waiting x y × AreDone ons bs e (drop (suc i) hs) x y kept waiting) ((kept ≡ kept) × (waiting ≡ waiting))) (sym counts) (refl, refl) in
    before kept waiting (subst (λ (l : List Happening). AreDone ons bs e l kept waiting kept waiting) (sym at) none)

-- no instruction is left
pub done_all : (ons : List On) (bs : List Balance) (e : Extent) (whole hs : List Happening) (i : ℕ) (first second kept waiting : List ℕ) → length hs ≤ i → DoneLeft ons bs e whole (drop i hs) first second kept waiting
    → AreDone ons bs e whole first second kept waiting
done_all ons bs e whole hs i first second kept waiting out before =
    before kept waiting (subst (λ (l : List Happening). AreDone ons bs e l kept waiting kept waiting) (sym (drop_all i hs out)) (refl, refl))

-- ---- amounts

comes_ok : (r : Option Break) (left : List ℕ) (x : Result (List ℕ) Break) → is_some r ≡ false → ComesTo r left x → x ≡ Ok left
comes_ok None left (Ok a) h c = ap Ok (sym c)
comes_ok None left (Err b) h c = absurd c
comes_ok (Some b) left x h c = absurd (cc h)

-- the amounts after one more instruction, which counts and breaks nothing
pub effect_more : (ons : List On) (e : Extent) (hs : List Happening) (i j : ℕ) (h : Happening) (r : Option Break) (amounts left : List ℕ) (whole : Result (List ℕ) Break) → j ≡ suc i → i < length hs → h ≡ get_or hs i h → has_turn e h.turn ≡ true
    → is_some r ≡ false → ComesTo r left (deed_effect ons h.deed amounts) → deeds_effect ons e (drop i hs) amounts ≡ whole → deeds_effect ons e (drop j hs) left ≡ whole
effect_more ons e hs i j h r amounts left whole next low is counts none comes before =
    let at : drop i hs ≡ h ∷ drop (suc i) hs = drop-cons hs i h low ∙ ap (λ (x : Happening). x ∷ drop (suc i) hs) (sym is) in
    let step : deeds_effect ons e (h ∷ drop (suc i) hs) amounts ≡ deeds_effect ons e (drop (suc i) hs) left =
    ap (λ b. effect_where b (deed_effect ons h.deed amounts >>= λ l. deeds_effect ons e (drop (suc i) hs) l) amounts) counts
    ∙ ap (λ x. x >>= λ l. deeds_effect ons e (drop (suc i) hs) l) (comes_ok r left (deed_effect ons h.deed amounts) none comes) in
    ap (λ n. deeds_effect ons e (drop n hs) left) next ∙ sym step ∙ sym (ap (λ (l : List Happening). deeds_effect ons e l amounts) at) ∙ before

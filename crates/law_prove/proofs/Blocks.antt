-- Rows that work on blocks, digit by digit: the outcome with the machine's flags is included, and leads to what is seen.
use Rattle.std.proofs.Common.{◌≡◌, ℕ, zero, suc, ◌+◌, ◌-◌, ◌<◌, ◌≤◌, inl, inr, Bool, true, false, cond, List, [], ◌∷◌, ◌++◌, length, map, reverse, Option, Some, refl, sym, ap, subst, ◌∙◌, arith}
use Rattle.std.specs.Prelude.{◌&&◌, flat_map, is_none}
use Rattle.model_prove.specs.model_machine.specs.declared.instruction.Ins.{Ins}
use Rattle.model_prove.specs.model_machine.specs.declared.machine.Abend.{Abend}
use Rattle.model_prove.specs.model_machine.specs.declared.machine.Abend.TheVariants.{A08}
use Rattle.model_prove.specs.model_machine.specs.Frame.{Frame, Effect, Place, where_is, static_written, write_effect_at, write_effect, dynamic_base}
use Rattle.model_prove.specs.model_machine.specs.Primitives.{Goes, Done, effect_and_next}
use Rattle.model_prove.specs.model_machine.specs.Row.{causes, effect, row, row_end, first_cause, Does}
use Rattle.model_prove.specs.model_machine.specs.Chain.{frame_at}
use Rattle.model_prove.specs.model_machine.specs.Shapes.{Act, Stays, Replaces, Writes, Shape, act_effect, shape_effect, meaning, shape}
use Rattle.model_prove.specs.model_machine.specs.Shapes as shapes
use Rattle.law_rules.specs.law_bytes.specs.law_rows.proofs.RowShapes.{shapes}
use Rattle.law_rules.specs.law_bytes.specs.OfBytes.{IsByteEffect}
use Rattle.model_prove.specs.model_rules.specs.Rules.{Target}
use Rattle.model_prove.specs.model_rules.specs.Keeping.{Amounts}
use Rattle.model_prove.specs.Facts.{Facts, Memory, values_from, narrow_all}
use Rattle.model_prove.specs.Compares.{bytes_from, IsSo}
use Rattle.model_prove.specs.Digits.{Operation, Flags, Digits, arcs, digits_to}
use Rattle.model_prove.specs.Keys.{Start, PlaceKey, Known, Tables, calls_below}
use Rattle.model_prove.specs.Laws.{Among}
use Rattle.model_prove.specs.Work.{Operand, Digitwise, Work, Works, work}
use Rattle.model_prove.specs.Arrivals.{Setting, Arrival, fails}
use Rattle.model_prove.specs.Steps.{Spot, written, lowered, flagged, final_flags, works_to, worked_at, narrowed_operands, operand_sets, operand_narrowed, pairs_of, allows, compare_after, settled_spot, makes_write, may_wait_too_long, follows, row_arrivals, is_return, no_calls}
use Rattle.model_prove.specs.Steps as steps
use Rattle.model_prove.specs.model_rules.specs.Loadable.{IsLoadable}
use Rattle.model_prove.specs.Tables.{includes_all}
use Rattle.law_prove.specs.Coverings.{frame_memory}
use Rattle.law_prove.specs.Laws.{LeadsInto}
use Rattle.law_prove.proofs.Closed.{included_first, included_second}
use Rattle.law_prove.proofs.Seen.{fit_length, fit_values, Seen}
use Rattle.law_prove.proofs.Acts.{spot_of, Framed, Led, replaces_led, writes_led, stays_led, flags_led, led_covers, lowered_seen}
use Rattle.law_prove.proofs.Turns.{NoCause, blank, nobody, walked, walked_limit, goes_covered, frame_of, memory_of_bytes}
use Rattle.law_prove.proofs.Single.{going, Turn, here, there, scene, IsOnly, IsRowCovered, stood, shape_bytes, same_framed, low_frame}
use Rattle.law_prove.proofs.Worked.{worked, worked_length, carries_of, worked_clear, OnDigits, on_digits}
use Rattle.law_prove.proofs.Narrowed.{Narrowed, narrow_holds, fit_are, OperandIs, operand_fits, operand_holds}

-- ---- lists of outcomes

-- what each element contributes to included outcomes is included
pub included_of : {A : Type 0} (t : Tables) (f : A → List Arrival) (xs : List A) (x : A) → Among x xs → includes_all t (flat_map f xs) ≡ true → includes_all t (f x) ≡ true
included_of t f [] x h e = absurd h
included_of t f (y ∷ xs) x h e =
    elim h [
      | inl same ↦ rw (← same) (included_first t (f y) (flat_map f xs) e)
      | inr more ↦ included_of t f xs x more (included_second t (f y) (flat_map f xs) e)
    ]

-- the image of an element is among the images
pub among_mapped : {A B : Type 0} (g : A → B) (x : A) (xs : List A) → Among x xs → Among (g x) (map g xs)
among_mapped g x [] h = absurd h
among_mapped g x (y ∷ xs) h =
    elim h [
      | inl e ↦ inl (ap g e)
      | inr e ↦ inr (among_mapped g x xs e)
    ]

-- an element of the first list is among both
pub among_left : {A : Type 0} (x : A) (xs ys : List A) → Among x xs → Among x (xs ++ ys)
among_left x [] ys h = absurd h
among_left x (y ∷ xs) ys h =
    elim h [
      | inl e ↦ inl e
      | inr e ↦ inr (among_left x xs ys e)
    ]

-- an element of the second list is among both
pub among_right : {A : Type 0} (x : A) (xs ys : List A) → Among x ys → Among x (xs ++ ys)
among_right x [] ys h = h
among_right x (y ∷ xs) ys h = inr (among_right x xs ys h)

-- an element of what one element contributes is among what all contribute
pub among_each : {A B : Type 0} (g : A → List B) (a : A) (x : B) (list : List A) → Among a list → Among x (g a) → Among x (flat_map g list)
among_each g a x [] h k = absurd h
among_each g a x (b ∷ list) h k =
    elim h [
      | inl e ↦ among_left x (g b) (flat_map g list) (rw e k)
      | inr e ↦ among_right x (g b) (flat_map g list) (among_each g a x list e k)
    ]

final_there : (carries : Bool) (c z : Bool) → (carries ≡ false → c ≡ false) → Among (record { c = c; z = z }) (final_flags carries)
final_there carries c z h = grind arith

-- the outcome with some flags is among those of an operation
among_works : (d : Digitwise) (q x : Spot) (f : Flags) (ds : List Digits) → (d.carries ≡ false → f.c ≡ false) → allows q.known.compare d d.operand f ≡ true
    → digits_to f (map (arcs d.op) (reverse (pairs_of (values_from q.known.bytes d.at d.n) (operand_sets q.known.bytes d.operand d.n)))) ≡ Some ds → Among x (steps.worked d f (Some ds) q)
    → Among (flagged d.carries f x) (works_to d q)
among_works d q x f ds clear allowed is there =
    let lists = map (arcs d.op) (reverse (pairs_of (values_from q.known.bytes d.at d.n) (operand_sets q.known.bytes d.operand d.n))) in
    let g : Flags → List Spot = λ f. cond (allows q.known.compare d d.operand f) (map (flagged d.carries f) (steps.worked d f (digits_to f lists) q)) [] in
    among_each g f (flagged d.carries f x) (final_flags d.carries) (final_there d.carries f.c f.z clear)
    (rw (allowed, is) (among_mapped (flagged d.carries f) x (steps.worked d f (Some ds) q) there))

-- ---- what is led to

lower_led : (s : Setting) (st : Start) (al : Amounts) (r : Spot) (w : Bool) (e : Effect) → Led s st al r w e → Led s st al (lowered e.frame.dt r) w e
lower_led s st al r w e led =
    let seen : Seen r.key.calls r.known e.frame e.public = led.seen in
    record {
      key = ap (λ (k : PlaceKey). record k { dt = e.frame.dt; calls = calls_below e.frame.dt r.key.calls }) led.key;
      seen = lowered_seen e.frame.dt st al e.frame e.public r.key.calls r.known seen;
      framed = led.framed;
      writes = led.writes;
    }

-- flags that an operation sets: Z, and C if it carries
abbrev pub set_flags : Bool → Flags → Frame → Bool × Bool
set_flags carries f frame = (cond carries f.c frame.c, f.z)

flag_led : (s : Setting) (st : Start) (al : Amounts) (r : Spot) (w : Bool) (e : Effect) (carries : Bool) (f : Flags) → Led s st al r w e → Led s st al (flagged carries f r) w (shapes.with_flags (Some (set_flags carries f e.frame)) e)
flag_led s st al r w e carries f led = grind (arith, flags_led, Seen, Framed)

-- a write keeps the top of the stack and C
kept_static : (p : Bool) (f : Frame) (public : List ℕ) (j : ℕ) (b : List ℕ) → ((static_written p f public j b).frame.dt ≡ f.dt) × ((static_written p f public j b).frame.c ≡ f.c)
kept_static false f public j b = (refl, refl)
kept_static true f public j b = (refl, refl)

kept_at : (f : Frame) (public b : List ℕ) (o : Option Place) → ((write_effect_at f public b o).frame.dt ≡ f.dt) × ((write_effect_at f public b o).frame.c ≡ f.c)
kept_at f public b o = grind (arith, kept_static)

write_keeps : (f : Frame) (public : List ℕ) (a : ℕ) (b : List ℕ) → ((write_effect f public a b).frame.dt ≡ f.dt) × ((write_effect f public a b).frame.c ≡ f.c)
unfolding write_effect
write_keeps f public a b = kept_at f public b (where_is f a (length b))

module _ (s : Setting) (u t : Tables) (g : Target) (loadable : IsLoadable s.app) (leads : LeadsInto s u t) (i : Ins) (turn : Turn s u i) where
  -- an outcome that is included and leads to what is seen
  pub record Outcome (m : Shape) : Type 0 where
    pub spot : Spot
    pub led : Led s turn.place.start turn.place.standing.allowances spot (makes_write s turn.frame.protected m.act) (shape_effect m (frame_at turn.frame turn.next) turn.public)
    pub included : includes_all t (follows s i (makes_write s turn.frame.protected m.act) Goes (here s u t g loadable leads i turn) (settled_spot s spot)) ≡ true

  outcome_covered : (m : Shape) → IsByteEffect (shape_effect m (frame_at turn.frame turn.next) turn.public) → Outcome m → IsRowCovered s u t g loadable leads i turn (Does (effect_and_next (shape_effect m (frame_at turn.frame turn.next) turn.public)))
  outcome_covered m bytes o =
      let d : Effect = shape_effect m (frame_at turn.frame turn.next) turn.public in
      let w = makes_write s turn.frame.protected m.act in
      goes_covered s u t g loadable leads turn.entry turn.history turn.frame turn.public turn.depth turn.place turn.deep i d (settled_spot s o.spot) w (ap (λ (k : PlaceKey). k.start) o.led.key)
      (led_covers s turn.place.start turn.place.standing.allowances o.spot w d o.led) (frame_of s.app d.frame o.led.framed bytes.frame) (memory_of_bytes d.frame d.public bytes.frame bytes.public) bytes.frame.stack o.led.writes o.included

  -- a row whose outcomes have one that is the machine's
  pub outcome_row : (cs : List (Abend × Bool)) (d : ℕ) (a0 a1 : Act) (f0 f1 : Option (Bool × Bool)) (w : Work) → IsOnly s u t g loadable leads i turn
      → causes i (scene s u t g loadable leads i turn) blank nobody ≡ cs → causes i (frame_at turn.frame turn.next) turn.public turn.around ≡ cs
      → shape i (scene s u t g loadable leads i turn) blank nobody ≡ going d a0 f0 → (NoCause cs → shape i (frame_at turn.frame turn.next) turn.public turn.around ≡ going d a1 f1) → work i (scene s u t g loadable leads i turn) blank ≡ w → is_return a0 ≡ false
      → (NoCause cs → includes_all t (row_arrivals false s i (going d a0 f0) w (here s u t g loadable leads i turn) (there s u t g loadable leads i turn)) ≡ true → Outcome (going d a1 f1))
      → IsRowCovered s u t g loadable leads i turn (row i (frame_at turn.frame turn.next) turn.public turn.around)
  unfolding row
  outcome_row cs d a0 a1 f0 f1 w includes stand real m0 m1 works other outcome =
      subst (λ (c : List (Abend × Bool)). IsRowCovered s u t g loadable leads i turn (row_end (first_cause c) (effect i (frame_at turn.frame turn.next) turn.public turn.around))) (sym real)
      (walked s u t g loadable leads turn.entry turn.history turn.frame turn.public turn.depth turn.place turn.deep i (there s u t g loadable leads i turn) cs (going d a0 f0) w (effect i (frame_at turn.frame turn.next) turn.public turn.around)
      (stood s u t g loadable leads i turn cs (going d a0 f0) w includes stand m0 works)
      (λ none all.
      let is : effect i (frame_at turn.frame turn.next) turn.public turn.around ≡ meaning (going d a1 f1) (frame_at turn.frame turn.next) turn.public =
      shapes i (frame_at turn.frame turn.next) turn.public turn.around ∙ ap (λ (z : Shape). meaning z (frame_at turn.frame turn.next) turn.public) (m1 none)
      in
      subst (λ (e : Done). IsRowCovered s u t g loadable leads i turn (Does e)) (sym is)
      (outcome_covered (going d a1 f1) (shape_bytes s u t g loadable leads i turn (going d a1 f1) (m1 none) turn.after)
      (outcome none (subst (λ (b : Bool). includes_all t (row_arrivals (b && no_calls turn.place.calls) s i (going d a0 f0) w (here s u t g loadable leads i turn) (there s u t g loadable leads i turn)) ≡ true) other all)))))

  -- the same of a row whose last cause is that too many words wait
  pub outcome_limited : (cs : List (Abend × Bool)) (was is : Bool) (d : ℕ) (a0 a1 : Act) (f0 f1 : Option (Bool × Bool)) (w : Work) → IsOnly s u t g loadable leads i turn
      → causes i (scene s u t g loadable leads i turn) blank nobody ≡ cs ++ (A08, was) ∷ [] → causes i (frame_at turn.frame turn.next) turn.public turn.around ≡ cs ++ (A08, is) ∷ []
      → shape i (scene s u t g loadable leads i turn) blank nobody ≡ going d a0 f0 → (NoCause cs → shape i (frame_at turn.frame turn.next) turn.public turn.around ≡ going d a1 f1) → work i (scene s u t g loadable leads i turn) blank ≡ w → is_return a0 ≡ false
      → (NoCause cs → is ≡ true → was ≡ false → may_wait_too_long s turn.frame.protected a0 ≡ true) → (NoCause cs → was ≡ true → is ≡ true)
      → (NoCause cs → includes_all t (row_arrivals false s i (going d a0 f0) w (here s u t g loadable leads i turn) (there s u t g loadable leads i turn)) ≡ true → Outcome (going d a1 f1))
      → IsRowCovered s u t g loadable leads i turn (row i (frame_at turn.frame turn.next) turn.public turn.around)
  unfolding row
  outcome_limited cs was is d a0 a1 f0 f1 w includes stand real m0 m1 works other waits less outcome =
      subst (λ (c : List (Abend × Bool)). IsRowCovered s u t g loadable leads i turn (row_end (first_cause c) (effect i (frame_at turn.frame turn.next) turn.public turn.around))) (sym real)
      (walked_limit s u t g loadable leads turn.entry turn.history turn.frame turn.public turn.depth turn.place turn.deep i (there s u t g loadable leads i turn) cs was is (going d a0 f0) w (effect i (frame_at turn.frame turn.next) turn.public turn.around) other waits less
      (stood s u t g loadable leads i turn (cs ++ (A08, was) ∷ []) (going d a0 f0) w includes stand m0 works)
      (λ none free all.
      let same : effect i (frame_at turn.frame turn.next) turn.public turn.around ≡ meaning (going d a1 f1) (frame_at turn.frame turn.next) turn.public =
      shapes i (frame_at turn.frame turn.next) turn.public turn.around ∙ ap (λ (z : Shape). meaning z (frame_at turn.frame turn.next) turn.public) (m1 none)
      in
      subst (λ (e : Done). IsRowCovered s u t g loadable leads i turn (Does e)) (sym same)
      (outcome_covered (going d a1 f1) (shape_bytes s u t g loadable leads i turn (going d a1 f1) (m1 none) turn.after)
      (outcome none (subst (λ (b : Bool). includes_all t (row_arrivals (b && no_calls turn.place.calls) s i (going d a0 f0) w (here s u t g loadable leads i turn) (there s u t g loadable leads i turn)) ≡ true) other all)))))

  -- ---- operations

  -- the memory of the frame
  abbrev pub memory : Memory
  memory = frame_memory turn.frame turn.public

  -- one of the outcomes of an operation is included
  work_included : (d : Digitwise) (m : Shape) (x : Spot) (f : Flags) (ds : List Digits) → m.next ≡ Goes → (d.carries ≡ false → f.c ≡ false) → allows turn.place.known.compare d d.operand f ≡ true
      → digits_to f (map (arcs d.op) (reverse (pairs_of (values_from turn.place.known.bytes d.at d.n) (operand_sets turn.place.known.bytes d.operand d.n)))) ≡ Some ds → Among x (steps.worked d f (Some ds) (there s u t g loadable leads i turn))
      → includes_all t (row_arrivals false s i m (Works d) (here s u t g loadable leads i turn) (there s u t g loadable leads i turn)) ≡ true
      → includes_all t (follows s i (makes_write s turn.frame.protected m.act) Goes (here s u t g loadable leads i turn) (settled_spot s (lowered m.dt (flagged d.carries f x)))) ≡ true
  work_included d m x f ds goes clear allowed is in_it includes =
      let p : Spot = here s u t g loadable leads i turn in
      let q : Spot = there s u t g loadable leads i turn in
      let w = makes_write s turn.frame.protected m.act in
      let each : Spot → List Arrival = λ r. follows s i w m.next p (settled_spot s r) in
      let all : List Spot = map (lowered m.dt) (works_to d q) in
      let second : includes_all t (flat_map each all) ≡ true = included_second t (cond (may_wait_too_long s turn.frame.protected m.act) (fails s p.key p.known A08) []) (flat_map each all) includes in
      subst (λ (n : _). includes_all t (follows s i w n p (settled_spot s (lowered m.dt (flagged d.carries f x)))) ≡ true) goes
      (included_of t each all (lowered m.dt (flagged d.carries f x)) (among_mapped (lowered m.dt) (flagged d.carries f x) (works_to d q) (among_works d q x f ds clear allowed is in_it)) second)

  module _ (op : Operation) (at n : ℕ) (operand : Operand) (ys : List ℕ) (has : OperandIs memory n operand ys) (size : length ys ≡ n) (carries : Bool) (agrees : carries_of op ≡ carries) where
    -- the first operand
    abbrev pub first_block : List ℕ
    first_block = bytes_from memory at n

    -- the flags of the machine
    abbrev pub flags_left : Flags
    flags_left = (worked op first_block ys).1

    -- the operation, whose result is written or not
    abbrev pub operation : Bool → Digitwise
    operation written = record { op = op; at = at; n = n; operand = operand; written = written; carries = carries }

    clear_left : carries ≡ false → flags_left.c ≡ false
    clear_left e = worked_clear op first_block ys (agrees ∙ e)

    from_count : (k a : ℕ) → length (bytes_from memory a k) ≡ k
    from_count zero a = refl
    from_count (suc k) a = ap suc (from_count k (suc a))

    -- the digits of both operands fit what is known at the place
    pub known_digits : OnDigits op first_block ys (values_from turn.place.known.bytes at n) (operand_sets turn.place.known.bytes operand n)
    known_digits = grind (arith, on_digits, from_count, fit_values, operand_fits)

    -- the facts of the second operand, narrowed to its digits, hold
    pub second_narrowed : Narrowed (operand_narrowed operand (map (λ d. d.b) (reverse known_digits.digits)) (Some turn.place.known.bytes)) memory
    second_narrowed = operand_holds turn.place.known.bytes memory n operand ys (map (λ d. d.b) (reverse known_digits.digits)) turn.place.holds turn.place.bytes has known_digits.second

    -- the facts of both operands, narrowed to their digits, hold
    pub both_narrowed : Narrowed (narrow_all at (map (λ d. d.a) (reverse known_digits.digits)) (Some second_narrowed.facts)) memory
    both_narrowed = narrow_holds at (map (λ d. d.a) (reverse known_digits.digits)) second_narrowed.facts memory second_narrowed.holds turn.place.bytes (fit_are memory at n (map (λ d. d.a) (reverse known_digits.digits)) known_digits.first)

    -- what is known once both operands are narrowed
    abbrev pub compared_known : Known
    compared_known = record { bytes = both_narrowed.facts; kept = turn.place.known.kept; compare = compare_after (operation false) flags_left turn.place.known.compare }

    -- an operation that writes nothing
    pub compared_outcome : (f0 : Option (Bool × Bool)) → allows turn.place.known.compare (operation false) operand flags_left ≡ true → IsSo (compare_after (operation false) flags_left turn.place.known.compare) memory
        → includes_all t (row_arrivals false s i (going turn.frame.dt Stays f0) (Works (operation false)) (here s u t g loadable leads i turn) (there s u t g loadable leads i turn)) ≡ true
        → Outcome (going turn.frame.dt Stays (Some (set_flags carries flags_left turn.frame)))
    compared_outcome f0 allowed so includes =
        let st = turn.place.start in
        let al = turn.place.standing.allowances in
        let q : Spot = there s u t g loadable leads i turn in
        let x : Spot = spot_of st al (frame_at turn.frame turn.next) turn.place.calls compared_known in
        let rds = reverse known_digits.digits in
        let facts_are : narrowed_operands (operation false) rds turn.place.known.bytes ≡ Some both_narrowed.facts = grind (arith, second_narrowed, both_narrowed) in
        let there_is : Among x (steps.worked (operation false) flags_left (Some known_digits.digits) q) = subst (λ (o : Option Facts). Among x (worked_at (operation false) flags_left rds o q)) (sym facts_are) (inl refl) in
        let seen : Seen turn.place.calls compared_known (low_frame s u t g loadable leads i turn turn.frame.dt) turn.public = grind (arith, both_narrowed) in
        let e : Effect = act_effect Stays (low_frame s u t g loadable leads i turn turn.frame.dt) turn.public in
        let led : Led s st al x false e = stays_led s loadable.static st al (low_frame s u t g loadable leads i turn turn.frame.dt) turn.public turn.place.calls compared_known [] (same_framed s u t g loadable leads i turn) seen in
        let flags : Led s st al (flagged carries flags_left x) false (shapes.with_flags (Some (set_flags carries flags_left turn.frame)) e) = flag_led s st al x false e carries flags_left led in
        record {
          spot = lowered turn.frame.dt (flagged carries flags_left x);
          led = lower_led s st al (flagged carries flags_left x) false (shapes.with_flags (Some (set_flags carries flags_left turn.frame)) e) flags;
          included = work_included (operation false) (going turn.frame.dt Stays f0) x flags_left known_digits.digits refl clear_left allowed known_digits.is there_is includes;
        }

    -- what is known once the second operand is narrowed
    abbrev pub operand_known : Known
    operand_known = record { bytes = second_narrowed.facts; kept = turn.place.known.kept; compare = turn.place.known.compare }

    -- an operation that writes its result
    pub written_outcome : (k : ℕ) (b0 : List ℕ) (f0 : Option (Bool × Bool)) → allows turn.place.known.compare (operation true) operand flags_left ≡ true → is_none (where_is (frame_at turn.frame turn.next) at n) ≡ false → 0 < n
        → includes_all t (row_arrivals false s i (going turn.frame.dt (Writes at k b0) f0) (Works (operation true)) (here s u t g loadable leads i turn) (there s u t g loadable leads i turn)) ≡ true
        → Outcome (going turn.frame.dt (Writes at k (worked op first_block ys).0) (Some (set_flags carries flags_left turn.frame)))
    written_outcome k b0 f0 allowed inside some includes =
        let st = turn.place.start in
        let al = turn.place.standing.allowances in
        let q : Spot = there s u t g loadable leads i turn in
        let low : Frame = low_frame s u t g loadable leads i turn turn.frame.dt in
        let b = (worked op first_block ys).0 in
        let rds = reverse known_digits.digits in
        let ss = map (λ d. d.r) rds in
        let count : length b ≡ n = worked_length op first_block ys (from_count n at ∙ sym size) ∙ from_count n at in
        let x : Spot = written at ss (spot_of st al (frame_at turn.frame turn.next) turn.place.calls operand_known) in
        let there_is : Among x (steps.worked (operation true) flags_left (Some known_digits.digits) q) = subst (λ (o : Option Facts). Among x (worked_at (operation true) flags_left rds o q)) (sym second_narrowed.is) (inl refl) in
        let seen : Seen turn.place.calls operand_known low turn.public = grind (arith, second_narrowed) in
        let e : Effect = act_effect (Writes at k b) low turn.public in
        let w = makes_write s turn.frame.protected (Writes at k b) in
        let led : Led s st al x w e =
        writes_led s loadable.static st al low turn.public turn.place.calls operand_known at k b ss (subst (λ (j : ℕ). is_none (where_is low at j) ≡ false) (sym count) inside) known_digits.result (subst (λ (j : ℕ). 0 < j) (sym count) some) turn.whole (same_framed s u t g loadable leads i turn) seen
        in
        let dt_is : e.frame.dt ≡ turn.frame.dt = (write_keeps low turn.public at b).0 in
        let c_is : e.frame.c ≡ turn.frame.c = (write_keeps low turn.public at b).1 in
        let flags : Led s st al (flagged carries flags_left x) w (shapes.with_flags (Some (set_flags carries flags_left turn.frame)) e) =
        grind (arith, Led, shapes, flag_led, led) in
        record {
          spot = lowered turn.frame.dt (flagged carries flags_left x);
          led = subst (λ (d : ℕ). Led s st al (lowered d (flagged carries flags_left x)) w (shapes.with_flags (Some (set_flags carries flags_left turn.frame)) e)) dt_is
              (lower_led s st al (flagged carries flags_left x) w (shapes.with_flags (Some (set_flags carries flags_left turn.frame)) e) flags);
          included = work_included (operation true) (going turn.frame.dt (Writes at k b0) f0) x flags_left known_digits.digits refl clear_left allowed known_digits.is there_is includes;
        }

    -- an operation that takes the place of the top
    pub replaced_outcome : (b0 : List ℕ) (f0 : Option (Bool × Bool)) → at ≡ turn.frame.dt - n → dynamic_base + n ≤ turn.frame.dt → allows turn.place.known.compare (operation true) operand flags_left ≡ true
        → includes_all t (row_arrivals false s i (going turn.frame.dt (Replaces b0) f0) (Works (operation true)) (here s u t g loadable leads i turn) (there s u t g loadable leads i turn)) ≡ true
        → Outcome (going turn.frame.dt (Replaces (worked op first_block ys).0) (Some (set_flags carries flags_left turn.frame)))
    replaced_outcome b0 f0 place over allowed includes =
        let st = turn.place.start in
        let al = turn.place.standing.allowances in
        let q : Spot = there s u t g loadable leads i turn in
        let low : Frame = low_frame s u t g loadable leads i turn turn.frame.dt in
        let b = (worked op first_block ys).0 in
        let rds = reverse known_digits.digits in
        let ss = map (λ d. d.r) rds in
        let count : length b ≡ n = worked_length op first_block ys (from_count n at ∙ sym size) ∙ from_count n at in
        let many : length ss ≡ n = fit_length b ss known_digits.result ∙ count in
        let x : Spot = written at ss (spot_of st al (frame_at turn.frame turn.next) turn.place.calls operand_known) in
        let there_is : Among x (steps.worked (operation true) flags_left (Some known_digits.digits) q) = subst (λ (o : Option Facts). Among x (worked_at (operation true) flags_left rds o q)) (sym second_narrowed.is) (inl refl) in
        let seen : Seen turn.place.calls operand_known low turn.public = grind (arith, second_narrowed) in
        let e : Effect = act_effect (Replaces b) low turn.public in
        let led : Led s st al x false e =
        subst (λ (k : ℕ). Led s st al (written k ss (spot_of st al (frame_at turn.frame turn.next) turn.place.calls operand_known)) false e) (ap (λ (k : ℕ). turn.frame.dt - k) many ∙ sym place)
        (replaces_led s loadable.static st al low turn.public turn.place.calls operand_known b ss known_digits.result (subst (λ (k : ℕ). dynamic_base + k ≤ turn.frame.dt) (sym count) over) (same_framed s u t g loadable leads i turn) seen)
        in
        let flags : Led s st al (flagged carries flags_left x) false (shapes.with_flags (Some (set_flags carries flags_left turn.frame)) e) = flag_led s st al x false e carries flags_left led in
        record {
          spot = lowered turn.frame.dt (flagged carries flags_left x);
          led = lower_led s st al (flagged carries flags_left x) false (shapes.with_flags (Some (set_flags carries flags_left turn.frame)) e) flags;
          included = work_included (operation true) (going turn.frame.dt (Replaces b0) f0) x flags_left known_digits.digits refl clear_left allowed known_digits.is there_is includes;
        }

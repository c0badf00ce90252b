-- RET and its kin: a return goes through the newest open call, which ends at LB, to the place that it has saved.
use Rattle.std.proofs.Common.{◌≡◌, ℕ, zero, suc, ◌+◌, ◌-◌, ◌*◌, ◌/◌, ◌%◌, ◌<◌, ◌≤◌, Bool, true, false, cond, not, List, [], ◌∷◌, ◌++◌, length, take, drop, Option, Some, None, refl, sym, ap, subst, ◌∙◌, arith}
use Rattle.std.specs.Prelude.{◌&&◌, nat_lt, nat_le}
use Rattle.std.proofs.lemmas.Bool.{leb-true, lt-ltb}
use Rattle.std.proofs.lemmas.List.{length-replicate}
use Rattle.model_prove.specs.model_device.specs.Bytes.{bytes2, num, zeros, splice}
use Rattle.model_prove.specs.model_device.proofs.ListLemmas.{length_splice}
use Rattle.model_prove.specs.model_machine.specs.declared.instruction.Ins.{Ins}
use Rattle.model_prove.specs.model_machine.specs.declared.instruction.Ins.TheVariants as ins
use Rattle.model_prove.specs.model_machine.specs.declared.machine.Abend.{Abend}
use Rattle.model_prove.specs.model_machine.specs.declared.machine.Abend.TheVariants.{A02, A04}
use Rattle.model_prove.specs.model_machine.specs.Code.{spell}
use Rattle.model_prove.specs.model_machine.specs.Frame.{Frame, dynamic_base, dynamic_end, floor, top, no_return, saved_address}
use Rattle.model_prove.specs.model_machine.specs.Primitives.{Around, Done}
use Rattle.model_prove.specs.model_machine.specs.Row.{causes, no_place, RowEnd, row, row_end, first_cause, effect}
use Rattle.model_prove.specs.model_machine.specs.Chain.{frame_at}
use Rattle.model_prove.specs.model_machine.specs.Shapes.{Returns, Shape, shape, act_effect, meaning}
use Rattle.model_prove.specs.model_rules.specs.Rules.{Target}
use Rattle.model_prove.specs.model_rules.specs.Keeping.{Amounts}
use Rattle.model_prove.specs.Sets.{Set}
use Rattle.model_prove.specs.Facts.{Memory, values_from}
use Rattle.model_prove.specs.Compares.{bytes_from}
use Rattle.model_prove.specs.Keys.{Start, Call, Known, Tables, calls_below, calls_after_write}
use Rattle.model_prove.specs.Splits.{stand_in_stack}
use Rattle.model_prove.specs.Work.{AsShaped, work}
use Rattle.model_prove.specs.Arrivals.{Setting, static_size}
use Rattle.model_prove.specs.Steps.{Spot, acted, written, makes_write, caused, row_arrivals, no_calls}
use Rattle.model_prove.specs.model_rules.specs.Loadable.{IsLoadable}
use Rattle.model_prove.specs.Tables.{includes_all}
use Rattle.law_prove.specs.Coverings.{frame_memory, AreOpen}
use Rattle.law_prove.specs.Laws.{LeadsInto, ReturnLaw}
use Rattle.law_prove.proofs.Windows.{window, taken_is}
use Rattle.law_prove.proofs.Parts.{not_lt}
use Rattle.law_prove.proofs.Places.{fails_by}
use Rattle.law_prove.proofs.Spots.{place_key}
use Rattle.law_prove.proofs.Seen.{FitSets, fit_length, fit_values, Seen, stack_seen}
use Rattle.law_prove.proofs.Acts.{spot_of, Framed, Led, written_there, lowered_seen}
use Rattle.law_prove.proofs.Turns.{blank, nobody, walked, moved_covered}
use Rattle.law_prove.proofs.Alike.{Sized, top_is, from_length, like_sized}
use Rattle.law_prove.proofs.Single.{going, Turn, RowCase, law_of, here, there, scene, IsOnly, IsRowCovered, stood, row_is, shape_bytes, one_shaped, LedBy, low_frame, low_calls, low_known, low_seen, same_framed}
use Rattle.law_prove.proofs.Moves.{turn_sized}

-- ---- what a call has saved

-- a number below 65,536 by its two bytes
pub two_are : (v : ℕ) → v < 65536 → num (bytes2 v) ≡ v
two_are v h = let e : (v / 256 % 256) * 256 + (v % 256 * 1 + 0) ≡ v = omega (arith, h) in e

-- the four bytes of a call are LB and the place
saved_in : (dyn : List ℕ) (k lb at : ℕ) → k + 4 ≤ length dyn → take 4 (drop k dyn) ≡ bytes2 lb ++ bytes2 at → (window dyn k 2 ≡ bytes2 lb) × (window dyn (suc (suc k)) 2 ≡ bytes2 at)
saved_in dyn k lb at fits is = grind (arith, sym (taken_is dyn k 4 fits) ∙ is)

-- the saved LB and place below the end of a call
saved_are : (dyn : List ℕ) (lb base at : ℕ) → length dyn ≡ 512 → dynamic_base + 4 ≤ lb → lb ≤ dynamic_end → take 4 (drop (lb - 4 - dynamic_base) dyn) ≡ bytes2 base ++ bytes2 at → base < 65536 → at < 65536
    → (num (take 2 (drop (lb - 4 - dynamic_base) dyn)) ≡ base) × (num (take 2 (drop (lb - 2 - dynamic_base) dyn)) ≡ at)
saved_are dyn lb base at room low high is small few =
    let k = lb - 4 - dynamic_base in
    let both = saved_in dyn k base at (omega (arith, room, low, high)) is in
    let place : lb - 2 - dynamic_base ≡ suc (suc k) = omega (arith, low) in (
      ap num (taken_is dyn k 2 (omega (arith, room, low, high)) ∙ both.0) ∙ two_are base small,
      ap (λ (i : ℕ). num (take 2 (drop i dyn))) place ∙ (ap num (taken_is dyn (suc (suc k)) 2 (omega (arith, room, low, high)) ∙ both.1) ∙ two_are at few),
    )

-- zeros are the number 0
zero_rest : (i n : ℕ) → num (take 2 (drop i (zeros n))) ≡ 0
zero_rest zero zero = refl
zero_rest zero (suc zero) = refl
zero_rest zero (suc (suc n)) = refl
zero_rest (suc i) zero = refl
zero_rest (suc i) (suc n) = zero_rest i n

-- calls that are open are so below a higher top
open_wider : (floor top more lb : ℕ) (dyn : List ℕ) (cs : List Call) → top ≤ more → AreOpen floor top lb dyn cs → AreOpen floor more lb dyn cs
open_wider floor top more lb dyn [] low o = tt
open_wider floor top more lb dyn (c ∷ cs) low o = let under : c.dt ≤ top = o.0 in (omega (arith, under, low), o.1, o.2, o.3, o.4, o.5)

-- ---- a return

module _ (s : Setting) (small : static_size s ≤ dynamic_base) (st : Start) (al : Amounts) where
  -- through the newest call, if the top bytes have values of these sets
  returned_led : (f : Frame) (public : List ℕ) (c : Call) (cs : List Call) (k : Known) (less more : ℕ) (ss : List Set) → Framed s.app f → Seen (c ∷ cs) k f public → FitSets (top f more) ss → length (top f more) ≡ more
      → dynamic_base + f.session + 4 + less ≤ f.lb → f.lb + more ≤ f.dt
      → Led s st al (acted s (Returns less more) ss (spot_of st al f (c ∷ cs) k)) (makes_write s f.protected (Returns less more)) (act_effect (Returns less more) f public)
  returned_led f public c cs k less more ss framed seen fit count low high =
      let room : length f.dyn ≡ 512 = framed.room in
      let end : f.dt ≤ dynamic_end = framed.high in
      let size : length f.fixed ≡ length s.app.fixed = framed.size in
      let to = f.lb - 4 - less in
      let j = to - dynamic_base in
      let b = top f more in
      let at : to ≡ dynamic_base + j = omega (arith, low) in
      let fits : j + length b ≤ 512 = omega (arith, low, high, end, count) in
      let o : AreOpen (dynamic_base + f.session) f.dt f.lb f.dyn (c ∷ cs) = seen.open_calls in
      let under : c.dt ≤ f.dt = o.0 in
      let is : c.dt ≡ f.lb = o.2 in
      let words : take 4 (drop (f.lb - 4 - dynamic_base) f.dyn) ≡ bytes2 c.lb ++ bytes2 c.at = rw (← is) o.3 in
      let saved = saved_are f.dyn f.lb c.lb c.at room (omega (arith, low)) (omega (arith, high, end)) words o.4.0 o.4.1 in
      let back : Frame = record f { lb = c.lb; at = c.at } in
      let before : Seen cs k back public = grind (arith, open_wider) in
      let moved : Frame = record back { dyn = splice f.dyn j b; dt = f.dt } in
      let known : Known = (written to ss (spot_of st al back cs k)).known in
      let laid : Seen (calls_after_write to (length ss) cs) known moved public = stack_seen to j f.dt b ss cs k back public at (omega (arith, size, small)) room end fits (omega arith) fit before in
      let d = to + length ss in
      let n : length ss ≡ more = fit_length b ss fit ∙ count in
      let down = lowered_seen d st al moved public (calls_after_write to (length ss) cs) known laid in
      let low_end : dynamic_base + f.session ≤ d = omega (arith, low) in
      let high_end : d ≤ dynamic_end = omega (arith, n, high, end) in
      let last : Frame = record moved { dt = d } in
      let frame : Framed s.app last = record {
        code = framed.code;
        deny = framed.deny;
        session = framed.session;
        size = framed.size;
        room = length_splice f.dyn j b (omega (arith, room, fits)) ∙ room;
        inside = framed.inside;
        settled = framed.settled;
        low = low_end;
        high = high_end;
        base = o.4.0;
      }
      in
      let r : Spot = acted s (Returns less more) ss (spot_of st al f (c ∷ cs) k) in
      let first : Led s st al r false (record { frame = last; public = public; changes = None }) = record { key = refl; seen = down; framed = frame; writes = tt } in
      let dt_is : d ≡ to + more = ap (λ (m : ℕ). to + m) n in
      rw (← dt_is, saved.0, saved.1) first

  returned_any : (f : Frame) (public : List ℕ) (cs : List Call) (k : Known) (less more : ℕ) (ss : List Set) → no_calls cs ≡ false → Framed s.app f → Seen cs k f public → FitSets (top f more) ss → length (top f more) ≡ more
      → dynamic_base + f.session + 4 + less ≤ f.lb → f.lb + more ≤ f.dt
      → Led s st al (acted s (Returns less more) ss (spot_of st al f cs k)) (makes_write s f.protected (Returns less more)) (act_effect (Returns less more) f public)
  returned_any f public [] k less more ss some framed seen fit count low high = absurd (cc some)
  returned_any f public (c ∷ cs) k less more ss some framed seen fit count low high = returned_led f public c cs k less more ss framed seen fit count low high

-- the newest call is open below the top
below_some : (floor d lb : ℕ) (dyn : List ℕ) (cs : List Call) → AreOpen floor d lb dyn cs → no_calls cs ≡ false → no_calls (calls_below d cs) ≡ false
below_some floor d lb dyn [] o some = some
below_some floor d lb dyn (c ∷ cs) o some = ap (λ (b : Bool). no_calls (cond b [] (c ∷ calls_below d cs))) (not_lt d c.dt o.0)

none_are : (cs : List Call) → no_calls cs ≡ true → cs ≡ []
none_are [] e = refl
none_are (c ∷ cs) e = absurd (cc e)

-- the frame that stands for the place has what the newest call has saved
saved_same : (floor top lb : ℕ) (dyn : List ℕ) (cs : List Call) → no_calls cs ≡ false → dynamic_base ≤ floor → top ≤ dynamic_end → length dyn ≡ 512 → length (stand_in_stack cs) ≡ 512 → AreOpen floor top lb dyn cs
    → num (take 2 (drop (lb - 2 - dynamic_base) (stand_in_stack cs))) ≡ num (take 2 (drop (lb - 2 - dynamic_base) dyn))
saved_same floor top lb dyn [] some low high room other o = absurd (cc some)
saved_same floor top lb dyn (c ∷ cs) some low high room other o =
    let under : c.dt ≤ top = o.0 in
    let over : floor + 4 ≤ c.dt = o.1 in
    let is : c.dt ≡ lb = o.2 in
    let b = bytes2 c.lb ++ bytes2 c.at in
    let zero_room : length (zeros 512) ≡ 512 = length-replicate {A = ℕ} 512 0 in
    let real : take 4 (drop (lb - 4 - dynamic_base) dyn) ≡ b = rw (← is) o.3 in
    let stood : take 4 (drop (lb - 4 - dynamic_base) (stand_in_stack (c ∷ cs))) ≡ b =
    rw (← is) (written_there (zeros 512) (c.dt - 4 - dynamic_base) b (omega (arith, zero_room, under, over, low, high)))
    in
    (saved_are (stand_in_stack (c ∷ cs)) lb c.lb c.at other (omega (arith, low, over, is)) (omega (arith, under, high, is)) stood o.4.0 o.4.1).1
    ∙ sym (saved_are dyn lb c.lb c.at room (omega (arith, low, over, is)) (omega (arith, under, high, is)) real o.4.0 o.4.1).1

-- ---- rows

both_of : (p q : Bool) → not (p && q) ≡ false → (p ≡ true) × (q ≡ true)
both_of p q e = grind arith

module _ (i : Ins) (less more : ℕ) where
  -- the row returns over `less` bytes below the call, and leaves `more` bytes
  pub record IsReturn : Type 0 where
    pub cause : (f : Frame) (public : List ℕ) (x : Around) → causes i f public x ≡ (A04, no_return f less more) ∷ (A02, no_place f (Some (saved_address f 2))) ∷ []
    pub form : (f : Frame) (public : List ℕ) (x : Around) → shape i f public x ≡ going f.dt (Returns less more) None
    pub task : (f : Frame) (public : List ℕ) → work i f public ≡ AsShaped
    pub some : 0 < length (spell i)

  module _ (is : IsReturn) (s : Setting) (u t : Tables) (g : Target) (loadable : IsLoadable s.app) (leads : LeadsInto s u t) (turn : Turn s u i) (includes : IsOnly s u t g loadable leads i turn) where
    -- the frame after the fetch
    abbrev frame : Frame
    frame = frame_at turn.frame turn.next

    abbrev form_of : Shape
    form_of = going turn.frame.dt (Returns less more) None

    lost_by : (x y : Bool) (rest : Option Abend) (d : Done) → y ≡ false → no_calls turn.place.calls ≡ true
        → includes_all t (caused (first_cause ((A04, x) ∷ (A02, y) ∷ [])) s i form_of AsShaped (here s u t g loadable leads i turn) (there s u t g loadable leads i turn)) ≡ true
        → IsRowCovered s u t g loadable leads i turn (row_end (cond x (Some A04) rest) d)
    lost_by true y rest d none lost all = fails_by s u t g loadable leads turn.entry turn.history turn.frame turn.public turn.place A04 s.rules.abends (place_key turn.place.start turn.place.standing.allowances turn.frame turn.place.calls) refl refl refl all
    lost_by false true rest d none lost all = absurd (cc none)
    lost_by false false rest d none lost all =
        absurd (cc (subst (λ (b : Bool). includes_all t (row_arrivals b s i form_of AsShaped (here s u t g loadable leads i turn) (there s u t g loadable leads i turn)) ≡ true) lost all))

    -- without an open call control would be lost, so that the row abends
    without_calls : no_calls turn.place.calls ≡ true → IsRowCovered s u t g loadable leads i turn (row i frame turn.public turn.around)
    unfolding row
    without_calls lost =
        let l : Frame = scene s u t g loadable leads i turn in
        let y = no_place l (Some (saved_address l 2)) in
        let inside : turn.next ≤ length s.app.code = turn.inside in
        let after : turn.next ≡ turn.frame.at + length (spell i) = turn.after_it in
        let size : turn.frame.code_len ≡ length s.app.code = turn.place.frame.code in
        let some : 0 < length (spell i) = is.some in
        let zero_at : saved_address l 2 ≡ 0 =
        ap (λ (cs : List Call). num (take 2 (drop (turn.frame.lb - 2 - dynamic_base) (stand_in_stack cs)))) (none_are turn.place.calls lost) ∙ zero_rest (turn.frame.lb - 2 - dynamic_base) 512
        in
        let there_is : y ≡ false = ap (λ (a : ℕ). not (nat_lt a turn.frame.code_len)) zero_at ∙ ap (λ (b : Bool). not b) (lt-ltb 0 turn.frame.code_len (omega (arith, inside, after, size, some))) in
        let all = stood s u t g loadable leads i turn ((A04, no_return l less more) ∷ (A02, y) ∷ []) form_of AsShaped includes (is.cause l blank nobody) (is.form l blank nobody) (is.task l blank) in
        subst (λ (c : List (Abend × Bool)). IsRowCovered s u t g loadable leads i turn (row_end (first_cause c) (effect i frame turn.public turn.around))) (sym (is.cause frame turn.public turn.around))
        (lost_by (no_return frame less more) y (first_cause ((A02, no_place frame (Some (saved_address frame 2))) ∷ [])) (effect i frame turn.public turn.around) there_is lost all)

    through_call : no_calls turn.place.calls ≡ false → IsRowCovered s u t g loadable leads i turn (row i frame turn.public turn.around)
    through_call some =
        let d = turn.frame.dt in
        let l : Frame = scene s u t g loadable leads i turn in
        let cs : List (Abend × Bool) = (A04, no_return frame less more) ∷ (A02, no_place frame (Some (saved_address frame 2))) ∷ [] in
        let sized : Sized frame turn.public = turn_sized s u loadable i turn in
        let other : Sized l blank = like_sized frame turn.public turn.place.calls sized turn.place.open_calls in
        let m : Memory = frame_memory turn.frame turn.public in
        let same : saved_address l 2 ≡ saved_address frame 2 = grind (arith, saved_same, some) in
        let ss : List Set = values_from turn.place.known.bytes (d - more) more in
        subst (λ (e : RowEnd). IsRowCovered s u t g loadable leads i turn e) (row_is s u t g loadable leads i turn cs form_of (is.cause frame turn.public turn.around) (is.form frame turn.public turn.around))
        (walked s u t g loadable leads turn.entry turn.history turn.frame turn.public turn.depth turn.place turn.deep i (there s u t g loadable leads i turn) cs form_of AsShaped (meaning form_of frame turn.public)
        (stood s u t g loadable leads i turn cs form_of AsShaped includes
        (is.cause l blank nobody ∙ ap (λ (a : ℕ). (A04, no_return frame less more) ∷ (A02, no_place frame (Some a)) ∷ []) same) (is.form l blank nobody) (is.task l blank))
        (λ none all.
        let floors = both_of (nat_le (floor frame + 4 + less) turn.frame.lb) (nat_le (turn.frame.lb + more) d) none.0 in
        let low = leb-true (floor frame + 4 + less) turn.frame.lb floors.0 in
        let high = leb-true (turn.frame.lb + more) d floors.1 in
        let tops : top frame more ≡ bytes_from m (d - more) more = top_is frame turn.public more sized (omega (arith, low, high)) in
        let fit : FitSets (top frame more) ss = subst (λ (b : List ℕ). FitSets b ss) (sym tops) (fit_values turn.place.known.bytes m (d - more) more turn.place.holds turn.place.bytes) in
        let count : length (top frame more) ≡ more = ap (λ (b : List ℕ). length b) tops ∙ from_length m (d - more) more in
        let led : LedBy s u t g loadable leads i turn d (Returns less more) ss =
        returned_any s loadable.static turn.place.start turn.place.standing.allowances (low_frame s u t g loadable leads i turn d) turn.public (low_calls s u t g loadable leads i turn d) (low_known s u t g loadable leads i turn d) less more ss
        (below_some (dynamic_base + turn.frame.session) d turn.frame.lb turn.frame.dyn turn.place.calls turn.place.open_calls some) (same_framed s u t g loadable leads i turn) (low_seen s u t g loadable leads i turn d) fit count low high
        in
        moved_covered s u t g loadable leads turn.entry turn.history turn.frame turn.public turn.depth turn.place turn.deep i turn.next form_of ss led
        (shape_bytes s u t g loadable leads i turn form_of (is.form frame turn.public turn.around) turn.after)
        (one_shaped s t i d (Returns less more) None (here s u t g loadable leads i turn) (there s u t g loadable leads i turn)
        (subst (λ (b : Bool). includes_all t (row_arrivals b s i form_of AsShaped (here s u t g loadable leads i turn) (there s u t g loadable leads i turn)) ≡ true) some all))))

    return_by : (b : Bool) → no_calls turn.place.calls ≡ b → IsRowCovered s u t g loadable leads i turn (row i frame turn.public turn.around)
    return_by true e = without_calls e
    return_by false e = through_call e

  -- a row that returns is covered
  pub return_case : IsReturn → RowCase i
  return_case is s u t g loadable leads turn includes = return_by is s u t g loadable leads turn includes (no_calls turn.place.calls) refl

-- ---- the laws

ret_case : RowCase ins.Ret
unfolding causes shape
ret_case = return_case ins.Ret 0 0 (record { cause = λ f public x. refl; form = λ f public x. refl; task = λ f public. refl; some = omega arith })

reti_case : (less : ℕ) → RowCase (ins.Reti less)
unfolding causes shape
reti_case less = return_case (ins.Reti less) less 0 (record { cause = λ f public x. refl; form = λ f public x. refl; task = λ f public. refl; some = omega arith })

reto_case : (more : ℕ) → RowCase (ins.Reto more)
unfolding causes shape
reto_case more = return_case (ins.Reto more) 0 more (record { cause = λ f public x. refl; form = λ f public x. refl; task = λ f public. refl; some = omega arith })

retio_case : (less more : ℕ) → RowCase (ins.Retio less more)
unfolding causes shape
retio_case less more = return_case (ins.Retio less more) less more (record { cause = λ f public x. refl; form = λ f public x. refl; task = λ f public. refl; some = omega arith })

-- the rows that return are covered
pub return_laws : ReturnLaw
return_laws = (
  law_of ins.Ret (λ s u t g loadable leads turn e. e) ret_case,
  λ less. law_of (ins.Reti less) (λ s u t g loadable leads turn e. e) (reti_case less),
  λ more. law_of (ins.Reto more) (λ s u t g loadable leads turn e. e) (reto_case more),
  λ less more. law_of (ins.Retio less more) (λ s u t g loadable leads turn e. e) (retio_case less more),
)

-- From what a row does, in the machine and in a scene that stands for its place, to the law of rows for sums.
use Rattle.std.proofs.Common.{◌≡◌, ℕ, ◌+◌, ◌≤◌, Bool, true, false, cond, List, [], ◌∷◌, length, Option, Some, None, Result, refl, sym, ap, subst, ◌∙◌, arith}
use Rattle.std.specs.List.{AllByRecursion}
use Rattle.law_sums.specs.model_machine.specs.declared.instruction.Ins.{Ins}
use Rattle.law_sums.specs.model_machine.specs.declared.machine.Abend.{Abend}
use Rattle.law_sums.specs.model_machine.specs.declared.instruction.DecodeFault.{DecodeFault}
use Rattle.law_sums.specs.model_machine.specs.Code.{Decodes, DecodesTo}
use Rattle.law_sums.specs.model_machine.specs.Frame.{Frame, Effect, dynamic_base, dynamic_end}
use Rattle.law_sums.specs.model_machine.specs.Primitives.{Around, Then, Done}
use Rattle.law_sums.specs.model_machine.specs.Row.{causes, effect, row, first_cause, row_end}
use Rattle.law_sums.specs.law_rows.specs.Keeping.{OnDone}
use Rattle.law_sums.specs.model_machine.specs.Shapes.{Act, Shape, act_effect, with_flags, shape_effect, meaning, shape}
use Rattle.law_sums.specs.law_rows.proofs.RowShapes.{shapes}
use Rattle.law_sums.specs.law_rows.proofs.PlaceLemmas.{decoded_stands}
use Rattle.law_sums.specs.model_rules.specs.Rules.{Total}
use Rattle.law_sums.specs.model_rules.specs.Keeping.{Amounts, Sum, Standing, mode_of}
use Rattle.law_sums.specs.model_prove.specs.Facts.{Memory}
use Rattle.law_sums.specs.model_prove.specs.Keys.{Start, PlaceKey, Tables}
use Rattle.law_sums.specs.model_prove.specs.Splits.{Scene}
use Rattle.law_sums.specs.model_prove.specs.Reach.{Coarse, coarse}
use Rattle.law_sums.specs.model_prove.specs.Work.{Work, work}
use Rattle.law_sums.specs.model_prove.specs.Arrivals.{Setting}
use Rattle.law_sums.specs.model_prove.specs.Steps.{coarse_for, coarse_around, place_arrivals}
use Rattle.law_prove_closed.specs.law_prove.specs.Coverings.{frame_memory, IsFrameOf}
use Rattle.law_prove_closed.specs.law_prove.proofs.Alike.{Sized}
use Rattle.law_prove_closed.specs.law_prove.proofs.Turns.{NoCause}
use Rattle.law_prove_closed.specs.law_prove.proofs.ReachScenes.{scene_of, Fits}
use Rattle.law_sums.specs.model_sums.specs.Sums.{Sums, SumsTable}
use Rattle.law_sums.specs.model_sums.specs.Says.{Holds, TotalsHold, read_sums}
use Rattle.law_sums.specs.model_sums.specs.Moves.{moved, moved_coarsely}
use Rattle.law_sums.specs.model_sums.specs.Closed.{row_closed}
use Rattle.law_sums.specs.TurnLaws.{row_sums}
use Rattle.law_sum_plays.specs.Rows.{ComesNext, SumsMove, AreStatic, SumRowLaw}
use Rattle.law_sum_plays.proofs.Memories.{Whole}
use Rattle.law_sum_plays.proofs.Acts.{lower, before, after, sums_after, bare}
use Rattle.law_sum_plays.proofs.Moved.{reshaped, shape_of, SameIf, moved_same, WorkFits, moved_holds}
use Rattle.law_sum_plays.proofs.Scenes.{Step, fetched, spot, base, turn_in, sized, base_fits, Found, IsCoarse}
use Rattle.law_sum_plays.proofs.Coarse.{totals_hold, CoarseFits, coarse_holds}

-- ---- causes

done_by : (b : Bool) (c : Abend) (cs : List (Abend × Bool)) (d : Done) (P : Done → Type 0) → (b ≡ false → OnDone (row_end (first_cause cs) d) P) → OnDone (row_end (cond b (Some c) (first_cause cs)) d) P
done_by true c cs d P h = tt
done_by false c cs d P h = h refl

-- a row is done if no cause holds
pub on_done : (cs : List (Abend × Bool)) (d : Done) (P : Done → Type 0) → (NoCause cs → P d) → OnDone (row_end (first_cause cs) d) P
on_done [] d P h = h tt
on_done (c ∷ cs) d P h = done_by c.1 c.0 cs d P (λ none. on_done cs d P (λ others. h (none, others)))

-- flags are no bytes
flags_hold : (ts : List Total) (v : Sums) (first : List ℕ) (sums : List Sum) (fl : Option (Bool × Bool)) (e : Effect) → Holds ts v first (frame_memory e.frame e.public) sums → Holds ts v first (frame_memory (with_flags fl e).frame (with_flags fl e).public) sums
flags_hold ts v first sums None e h = h
flags_hold ts v first sums (Some cz) e h = h

-- of an instruction that leaves the protection
pub unprotected : (p : Bool) (x : Standing) → row_sums p None x ≡ read_sums p x
unprotected true x = refl
unprotected false x = refl

module _ (s : Setting) (t : Tables) (u : SumsTable) (i : Ins) (step : Step s t u i) (static : AreStatic s s.rules.totals) where
  abbrev f : Frame
  f = fetched s t u i step

  -- the sums that are read before the instruction
  abbrev pub known : List Sum
  known = read_sums step.frame.protected step.place.standing

  -- the sums as power would leave them
  abbrev pub kept : List Sum
  kept = step.place.standing.kept

  -- how the frame began
  abbrev pub start : Start
  start = step.place.start

  -- the allowances before the instruction
  abbrev pub allowed : Amounts
  allowed = step.place.standing.allowances

  -- the frame before its act
  abbrev pub low : ℕ → Frame
  low d = lower s.rules.totals step.sums.first known kept start allowed step.place.calls step.frame step.public step.next d

  -- the bytes after it
  abbrev pub left : ℕ → Act → Memory
  left d a = after s.rules.totals step.sums.first known kept start allowed step.place.calls step.frame step.public step.next d a

  -- the sums that are read after it
  abbrev pub read : ℕ → Act → List Sum
  read d a = sums_after s.rules.totals step.sums.first known kept start allowed step.place.calls step.frame step.public step.next d a

  -- what a row does that works on this
  abbrev pub IsWork : ℕ → Work → Act → Type 0
  IsWork d w a = WorkFits s.rules.totals step.sums.first known kept start allowed step.place.calls step.frame step.public step.next d w a

  -- what a row of too many combinations does
  abbrev pub IsCoarsely : ℕ → Frame → Coarse → Act → Type 0
  IsCoarsely d e c a = CoarseFits s.rules.totals step.sums.first known kept start allowed step.place.calls step.frame step.public step.next d e c a

  -- with this DT the segments of the frame still have their lengths
  pub whole_at : (d : ℕ) → dynamic_base ≤ d → d ≤ dynamic_end → Whole (low d) step.public
  whole_at d low high = grind (arith, Sized, sized)

  totals : (d : ℕ) (w : Whole (low d) step.public) → TotalsHold (bare s.rules.totals step.sums.first known kept start allowed step.place.calls step.frame step.public step.next d w) kept s.rules.totals
  totals d w =
      let frame : IsFrameOf s.app step.frame = step.place.frame in
      totals_hold step.frame.fixed step.frame.dyn step.public kept s.rules.totals (subst (λ (n : ℕ). AllByRecursion (λ t. t.at + t.n ≤ n) s.rules.totals) (sym frame.size) static) step.sums.kept

  -- what is to be shown of a row
  abbrev pub Moves : Done → Type 0
  Moves d = SumsMove s u (spot s t u i step) i step.before step.place.standing step.frame step.sums.first d

  -- What is compared with the places that follow a row, in some scene, and that it holds.
  pub record Compared (d : ℕ) (a : Act) (fl : Option (Bool × Bool)) (n : Then) : Type 0 where
    pub scene : Scene
    pub shape : Shape
    pub after : Sums
    pub closed : row_closed s u (turn_in s t u i step scene) shape after (place_arrivals s (spot s t u i step).key (spot s t u i step).known) ≡ true
    pub holds : Holds s.rules.totals after step.sums.first (left d a) (read d a)
    pub next : ComesNext n shape step.frame (shape_effect (shape_of d a fl n) f step.public)

  -- a row is done as its shape says
  pub row_done : (d : ℕ) (a : Act) (fl : Option (Bool × Bool)) (n : Then) → shape i f step.public step.around ≡ shape_of d a fl n
      → read d a ≡ row_sums step.frame.protected (mode_of i) step.place.standing
      → (NoCause (causes i f step.public step.around) → Compared d a fl n) → OnDone (row i f step.public step.around) Moves
  unfolding row
  row_done d a fl n is sums compared =
      let m : Done = meaning (shape_of d a fl n) f step.public in
      let same : effect i f step.public step.around ≡ m = shapes i f step.public step.around ∙ ap (λ (z : Shape). meaning z f step.public) is in
      subst (λ (z : Done). OnDone (row_end (first_cause (causes i f step.public step.around)) z) Moves) (sym same)
      (on_done (causes i f step.public step.around) m Moves (λ none.
      let c : Compared d a fl n = compared none in
      record {
        scene = c.scene;
        shape = c.shape;
        after = c.after;
        holds = subst (λ (z : List Sum). Holds s.rules.totals c.after step.sums.first (frame_memory m.effect.frame m.effect.public) z) sums
            (flags_hold s.rules.totals c.after step.sums.first (read d a) fl (act_effect a (record f { dt = d }) step.public) c.holds);
        next = c.next;
        closed = c.closed;
      }))

  -- ---- a scene of a choice

  -- A row in a scene is that of the machine, but for bytes and places of the code; and what it does there.
  pub record Alike (d : ℕ) (a : Act) (fl : Option (Bool × Bool)) (n : Then) (z : Scene) (x : Around) : Type 0 where
    pub bytes : List ℕ
    pub to : ℕ
    pub flags : Option (Bool × Bool)
    pub later : Then
    pub stands : shape i z.frame z.public x ≡ shape_of d (reshaped a bytes to) flags later
    pub same : SameIf (work i z.frame z.public) i a bytes
    pub low : dynamic_base ≤ d
    pub high : d ≤ dynamic_end
    pub fits : IsWork d (work i z.frame z.public) a
    pub next : ComesNext n (shape i z.frame z.public x) step.frame (shape_effect (shape_of d a fl n) f step.public)

  -- a row that is alike in a scene of a choice is compared with the places that follow it there
  pub few_compared : (places : List ℕ) (x : Around) (o : Found s t u i step places x) (d : ℕ) (a : Act) (fl : Option (Bool × Bool)) (n : Then) → Alike d a fl n (scene_of f o.fixed o.dyn o.public) x → Compared d a fl n
  few_compared places x o d a fl n e =
      let z : Scene = scene_of f o.fixed o.dyn o.public in
      let h : Shape = shape i z.frame z.public x in
      let w : Work = work i z.frame z.public in
      let whole : Whole (low d) step.public = whole_at d e.low e.high in
      let key : PlaceKey = (spot s t u i step).key in
      let same : moved s.rules.totals key i h w step.before ≡ moved s.rules.totals key i (shape_of d a fl n) w step.before = grind (arith, moved_same) in
      record {
        scene = z;
        shape = h;
        after = moved s.rules.totals key i h w step.before;
        closed = o.closed;
        holds = subst (λ (v : Sums). Holds s.rules.totals v step.sums.first (left d a) (read d a)) (sym same)
            (moved_holds s.rules.totals step.sums.first known kept start allowed step.place.calls step.frame step.public step.next d whole (totals d whole) i a fl n w step.before e.fits step.sums.holds);
        next = e.next;
      }

  -- ---- too many choices

  -- the scene that stands for the place, and the shape there
  abbrev pub stood : Frame
  stood = (base s t u i step).frame

  -- the shape of the row in the scene that stands for the place
  abbrev pub stood_shape : Shape
  stood_shape = shape i stood (base s t u i step).public (coarse_around start)

  -- A row of too many choices in the scene that stands for the place, and what it does.
  pub record Coarsely (d : ℕ) (a : Act) (fl : Option (Bool × Bool)) (n : Then) : Type 0 where
    pub dt : stood_shape.dt ≡ d
    pub low : dynamic_base ≤ d
    pub high : d ≤ dynamic_end
    pub fits : IsCoarsely d stood (coarse_for stood_shape.act (coarse i stood step.place.known.bytes)) a
    pub next : ComesNext n stood_shape step.frame (shape_effect (shape_of d a fl n) f step.public)

  -- a row of too many choices is compared in the scene that stands for the place
  pub coarse_compared : IsCoarse s t u i step → (d : ℕ) (a : Act) (fl : Option (Bool × Bool)) (n : Then) → Coarsely d a fl n → Compared d a fl n
  coarse_compared closed d a fl n l =
      let c : Coarse = coarse_for stood_shape.act (coarse i stood step.place.known.bytes) in
      let fits : Fits f stood.fixed stood.dyn (base s t u i step).public = base_fits s t u i step in
      let size : length stood.fixed ≡ length step.frame.fixed = fits.size in
      let small : length step.frame.fixed ≤ dynamic_base = fits.small in
      let whole : Whole (low d) step.public = whole_at d l.low l.high in
      record {
        scene = base s t u i step;
        shape = stood_shape;
        after = moved_coarsely s.rules.totals (record stood { dt = stood_shape.dt }) c step.before;
        closed = closed;
        holds = subst (λ (k : ℕ). Holds s.rules.totals (moved_coarsely s.rules.totals (record stood { dt = k }) c step.before) step.sums.first (left d a) (read d a)) (sym l.dt)
            (coarse_holds s.rules.totals step.sums.first known kept start allowed step.place.calls step.frame step.public step.next d whole stood c a step.before (omega (arith, size, small)) l.fits step.sums.holds);
        next = l.next;
      }

-- ---- the law

-- what is to be shown of an instruction
abbrev pub StepCase : Ins → Type 0
StepCase i = (s : Setting) (t : Tables) (u : SumsTable) (step : Step s t u i) (static : AreStatic s s.rules.totals) → OnDone (row i (fetched s t u i step) step.public step.around) (Moves s t u i step static)

-- a row after which what is known for sums holds has its law
pub law_of : (i : Ins) → StepCase i → SumRowLaw i
law_of i case s t u loadable static e h f public x next p fits names whole at before k closed =
    let decoded : Decodes s.app.code f.at i next = subst (λ (z : Result (Ins × ℕ) DecodeFault). DecodesTo s.app.code f.at z) at (decoded_stands s.app.code f.at loadable.code) in
    case s t u (record {
      entry = e;
      history = h;
      frame = f;
      public = public;
      around = x;
      next = next;
      place = p;
      fits = fits;
      names = names;
      whole = whole;
      small = loadable.static;
      shaped = decoded.shaped;
      before = before;
      sums = k;
      closed = closed;
    }) static

-- What is known for sums holds after a row, by what it works on: as its shape has it, copies, operations, searches.
use Rattle.std.proofs.Common.{◌≡◌, ℕ, ◌+◌, ◌-◌, ◌<◌, ◌≤◌, ◌⊎◌, inl, inr, Bool, true, false, List, length, Option, None, refl, sym, ap, subst, ◌∙◌, arith}
use Rattle.std.specs.Prelude.{is_none, ⊤}
use Rattle.law_sums.specs.model_device.specs.Bytes.{num}
use Rattle.law_sums.specs.model_machine.specs.declared.instruction.Ins.{Ins}
use Rattle.law_sums.specs.model_machine.specs.Frame.{Frame, where_is, dynamic_base, dynamic_end, top}
use Rattle.law_sums.specs.model_machine.specs.Primitives.{Then}
use Rattle.law_sums.specs.model_machine.specs.Shapes.{Act, Stays, Answers, Jumps, Calls, Returns, Pushes, Replaces, Writes, Protects, Shape}
use Rattle.law_sums.specs.model_rules.specs.Rules.{Total}
use Rattle.law_sums.specs.model_rules.specs.Keeping.{Amounts, Sum}
use Rattle.law_sums.specs.model_prove.specs.Facts.{Memory}
use Rattle.law_sums.specs.model_prove.specs.Keys.{Start, Call, PlaceKey}
use Rattle.law_sums.specs.model_prove.specs.Compares.{bytes_from}
use Rattle.law_sums.specs.model_prove.specs.Steps.{is_return}
use Rattle.law_sums.specs.model_prove.specs.Work.{Digitwise, Work, AsShaped, Copies, Works, Searches, AnyZ, Counted, NoFact}
use Rattle.law_prove_closed.specs.law_prove.proofs.Alike.{top_is}
use Rattle.law_prove_closed.specs.law_prove.proofs.Spots.{place_key}
use Rattle.law_sums.specs.model_sums.specs.Origins.{Origin, Origins, origins_from, unknowns}
use Rattle.law_sums.specs.model_sums.specs.Sums.{Sums}
use Rattle.law_sums.specs.model_sums.specs.Says.{number_at, AreFrom, OriginsHold, Holds, TotalsHold}
use Rattle.law_sums.specs.model_sums.specs.Writes.{wrote, wrote_any, popped, loaded, is_total_block, more_of}
use Rattle.law_sums.specs.model_sums.specs.Moves.{size_of, constants, pushes_number, pushed_origins, own_origins, operated, acted, copied, moved}
use Rattle.law_sums.specs.CopyLaws.{operand_bytes, IsResult}
use Rattle.law_sums.proofs.Bytes.{same_bytes}
use Rattle.law_sums.proofs.CopyLemmas.{memory_from, copied_holds, operated_holds}
use Rattle.law_sums.proofs.KnownLemmas.{popped_holds, loaded_holds}
use Rattle.law_sum_plays.proofs.Memories.{Changed, Whole, write_changed, same_holds}
use Rattle.law_sum_plays.proofs.Acts.{unknown_bytes, constant_bytes, from_wrote, any_wrote, lower, before, after, sums_after, ActFits, OriginsFit, stack_changed, bare, acted_holds}

-- ---- the bytes of an act do not matter

-- an act with other bytes, or to another place of the code
abbrev pub reshaped : Act → List ℕ → ℕ → Act
reshaped (Jumps taken at) c to = Jumps taken to
reshaped (Calls taken at) c to = Calls taken to
reshaped (Pushes b) c to = Pushes c
reshaped (Replaces b) c to = Replaces c
reshaped (Writes a n b) c to = Writes a n c
reshaped act c to = act

-- a shape by its parts
abbrev pub shape_of : ℕ → Act → Option (Bool × Bool) → Then → Shape
shape_of d a fl t = record { dt = d; act = a; flags = fl; next = t }

-- as many bytes, and the same if they are a number that an instruction pushes
abbrev pub SameBytes : Ins → Act → List ℕ → Type 0
SameBytes i (Pushes b) c = (length c ≡ length b) × (pushes_number i ≡ true → c ≡ b)
SameBytes i (Replaces b) c = length c ≡ length b
SameBytes i (Writes a n b) c = length c ≡ length b
SameBytes i act c = ⊤

-- as many bytes, if what the row works on asks for them
abbrev pub SameIf : Work → Ins → Act → List ℕ → Type 0
SameIf AsShaped i a c = SameBytes i a c
SameIf (Copies from) i a c = SameBytes i a c
SameIf (Works g) i a c = ⊤
SameIf (Searches v table n) i a c = ⊤
SameIf AnyZ i a c = ⊤
SameIf Counted i a c = SameBytes i a c
SameIf NoFact i a c = SameBytes i a c

pushed_by : (p : Bool) (b c : List ℕ) → length c ≡ length b → (p ≡ true → c ≡ b) → pushed_origins p c ≡ pushed_origins p b
pushed_by true b c e same = ap constants (same refl)
pushed_by false b c e same = ap unknowns e

own_same : (i : Ins) (a : Act) (c : List ℕ) (to : ℕ) (o : Origins) (dt : ℕ) → SameBytes i a c → own_origins i (reshaped a c to) o dt ≡ own_origins i a o dt
own_same i Stays c to o dt s = refl
own_same i (Answers sw la) c to o dt s = refl
own_same i (Jumps taken at) c to o dt s = refl
own_same i (Calls taken at) c to o dt s = refl
own_same i (Returns less more) c to o dt s = refl
own_same i (Pushes b) c to o dt s = pushed_by (pushes_number i) b c s.0 s.1
own_same i (Replaces b) c to o dt s = ap unknowns s
own_same i (Writes a n b) c to o dt s = ap unknowns s
own_same i (Protects mode) c to o dt s = refl

size_same : (i : Ins) (a : Act) (c : List ℕ) (to : ℕ) → SameBytes i a c → size_of (reshaped a c to) ≡ size_of a
size_same i Stays c to s = refl
size_same i (Answers sw la) c to s = refl
size_same i (Jumps taken at) c to s = refl
size_same i (Calls taken at) c to s = refl
size_same i (Returns less more) c to s = refl
size_same i (Pushes b) c to s = s.0
size_same i (Replaces b) c to s = s
size_same i (Writes a n b) c to s = s
size_same i (Protects mode) c to s = refl

acted_same : (ts : List Total) (k : PlaceKey) (a : Act) (c : List ℕ) (to : ℕ) (gs : List Origin) (u : Sums) → acted ts k (reshaped a c to) gs None u ≡ acted ts k a gs None u
acted_same ts k Stays c to gs u = refl
acted_same ts k (Answers sw la) c to gs u = refl
acted_same ts k (Jumps taken at) c to gs u = refl
acted_same ts k (Calls taken at) c to gs u = refl
acted_same ts k (Returns less more) c to gs u = refl
acted_same ts k (Pushes b) c to gs u = refl
acted_same ts k (Replaces b) c to gs u = refl
acted_same ts k (Writes a n b) c to gs u = refl
acted_same ts k (Protects mode) c to gs u = refl

plain_same : (ts : List Total) (k : PlaceKey) (i : Ins) (a : Act) (c : List ℕ) (to : ℕ) (u : Sums) → SameBytes i a c
    → acted ts k (reshaped a c to) (unknowns (size_of (reshaped a c to))) None u ≡ acted ts k a (unknowns (size_of a)) None u
plain_same ts k i a c to u s =
    ap (λ (n : ℕ). acted ts k (reshaped a c to) (unknowns n) None u) (size_same i a c to s) ∙ acted_same ts k a c to (unknowns (size_of a)) u

copied_same : (ts : List Total) (k : PlaceKey) (i : Ins) (d : ℕ) (a : Act) (fl fm : Option (Bool × Bool)) (t r : Then) (c : List ℕ) (to from : ℕ) (u : Sums) → SameBytes i a c
    → copied ts k (shape_of d (reshaped a c to) fl t) (reshaped a c to) from u ≡ copied ts k (shape_of d a fm r) a from u
copied_same ts k i d Stays fl fm t r c to from u s = refl
copied_same ts k i d (Answers sw la) fl fm t r c to from u s = refl
copied_same ts k i d (Jumps taken at) fl fm t r c to from u s = refl
copied_same ts k i d (Calls taken at) fl fm t r c to from u s = refl
copied_same ts k i d (Returns less more) fl fm t r c to from u s = refl
copied_same ts k i d (Pushes b) fl fm t r c to from u s =
    ap (λ (n : ℕ). loaded (is_total_block ts from n) d from n (wrote ts d (origins_from u.origins from n) None (popped d u))) s.0
copied_same ts k i d (Replaces b) fl fm t r c to from u s = plain_same ts (record k { dt = d }) i (Replaces b) c to (popped d u) s
copied_same ts k i d (Writes a n b) fl fm t r c to from u s =
    ap (λ (n : ℕ). wrote ts a (origins_from u.origins from n) (more_of u.mores from a n) (popped d u)) s
copied_same ts k i d (Protects mode) fl fm t r c to from u s = refl

-- what is known after a row does not depend on the bytes of its act, flags and what comes next
pub moved_same : (ts : List Total) (k : PlaceKey) (i : Ins) (d : ℕ) (a : Act) (fl fm : Option (Bool × Bool)) (t r : Then) (c : List ℕ) (to : ℕ) (w : Work) (u : Sums) → SameIf w i a c
    → moved ts k i (shape_of d (reshaped a c to) fl t) w u ≡ moved ts k i (shape_of d a fm r) w u
moved_same ts k i d a fl fm t r c to AsShaped u s = grind (arith, own_same, acted_same)
moved_same ts k i d a fl fm t r c to (Copies from) u s = copied_same ts k i d a fl fm t r c to from u s
moved_same ts k i d a fl fm t r c to (Works g) u s = refl
moved_same ts k i d a fl fm t r c to (Searches v table n) u s = refl
moved_same ts k i d a fl fm t r c to AnyZ u s = refl
moved_same ts k i d a fl fm t r c to Counted u s = plain_same ts (record k { dt = d }) i a c to (popped d u) s
moved_same ts k i d a fl fm t r c to NoFact u s = plain_same ts (record k { dt = d }) i a c to (popped d u) s

-- ---- a row of the machine

module _ (ts : List Total) (first : List ℕ) (sums kept : List Sum) (st : Start) (al : Amounts) (calls : List Call) (f : Frame) (public : List ℕ) (next d : ℕ) where
  abbrev m : Memory
  m = before ts first sums kept st al calls f public next d

  abbrev done : Act → Memory
  done a = after ts first sums kept st al calls f public next d a

  -- the key of the place
  abbrev pub place : PlaceKey
  place = place_key st al f calls

  -- a return is at the DT of the place
  abbrev pub ReturnsAt : Act → Type 0
  ReturnsAt (Returns less more) = d ≡ f.dt
  ReturnsAt a = ⊤

  -- what a row copies, and that it is pushed above it, or written in a segment
  abbrev pub CopyFits : Act → ℕ → Type 0
  CopyFits (Pushes b) from = (d + length b ≤ dynamic_end) × (b ≡ bytes_from m from (length b)) × ((from + length b ≤ d) ⊎ (dynamic_end ≤ from))
  CopyFits (Writes a n b) from = (is_none (where_is (lower ts first sums kept st al calls f public next d) a (length b)) ≡ false) × (b ≡ bytes_from m from (length b))
  CopyFits a from = ⊥

  -- what an operation leaves: its result, if it is written, and else all bytes as they were
  pub record IsOperated (g : Digitwise) (a : Act) : Type 0 where
    pub on : g.written ≡ true → ((x : ℕ) → (x < g.at) ⊎ (g.at + g.n ≤ x) → m x ≡ done a x) × IsResult g.op g.n (number_at m g.at g.n) (num (operand_bytes m g.n g.operand)) (number_at (done a) g.at g.n)
    pub off : g.written ≡ false → (x : ℕ) → m x ≡ done a x
    pub reads : sums_after ts first sums kept st al calls f public next d a ≡ sums

  -- an index is pushed
  abbrev pub SearchFits : Act → Type 0
  SearchFits (Pushes b) = (length b ≡ 1) × (d + length b ≤ dynamic_end)
  SearchFits a = ⊥

  -- what a row does that works on this
  abbrev pub WorkFits : Work → Act → Type 0
  WorkFits AsShaped a = ActFits ts first sums kept st al calls f public next d a × ReturnsAt a
  WorkFits (Copies from) a = CopyFits a from
  WorkFits (Works g) a = IsOperated g a
  WorkFits (Searches v table n) a = SearchFits a
  WorkFits AnyZ a = a ≡ Stays
  WorkFits Counted a = ActFits ts first sums kept st al calls f public next d a × (is_return a ≡ false)
  WorkFits NoFact a = ActFits ts first sums kept st al calls f public next d a × (is_return a ≡ false)

  module _ (w : Whole (lower ts first sums kept st al calls f public next d) public) (totals : TotalsHold (bare ts first sums kept st al calls f public next d w) kept ts) where
    pushed_from : (p : Bool) (b : List ℕ) → AreFrom first (pushed_origins p b) b
    pushed_from true b = constant_bytes first b
    pushed_from false b = unknown_bytes first b

    own_from : (i : Ins) (a : Act) (o : Origins) → ActFits ts first sums kept st al calls f public next d a → ReturnsAt a → OriginsHold o first m → OriginsFit ts first sums kept st al calls f public next d a (own_origins i a o f.dt)
    own_from i Stays o fits at h = tt
    own_from i (Answers sw la) o fits at h = tt
    own_from i (Jumps taken to) o fits at h = tt
    own_from i (Calls taken to) o fits at h = tt
    own_from i (Returns less more) o fits at h =
        let low : dynamic_base + 4 + less ≤ f.lb = fits.0 in
        let over : f.lb + more ≤ d = fits.1 in
        let is : top (lower ts first sums kept st al calls f public next d) more ≡ bytes_from m (d - more) more = top_is (lower ts first sums kept st al calls f public next d) public more w.sized (omega (arith, low, over)) in
        let place : d - more ≡ f.dt - more = ap (λ (n : ℕ). n - more) at in
        subst (λ (l : List ℕ). AreFrom first (origins_from o (f.dt - more) more) l) (sym (is ∙ ap (λ (n : ℕ). bytes_from m n more) place)) (memory_from o first m (f.dt - more) more h)
    own_from i (Pushes b) o fits at h = pushed_from (pushes_number i) b
    own_from i (Replaces b) o fits at h = unknown_bytes first b
    own_from i (Writes a n b) o fits at h = unknown_bytes first b
    own_from i (Protects mode) o fits at h = tt

    unknown_fit : (a : Act) → is_return a ≡ false → OriginsFit ts first sums kept st al calls f public next d a (unknowns (size_of a))
    unknown_fit Stays e = tt
    unknown_fit (Answers sw la) e = tt
    unknown_fit (Jumps taken to) e = tt
    unknown_fit (Calls taken to) e = tt
    unknown_fit (Returns less more) e = absurd (cc e)
    unknown_fit (Pushes b) e = unknown_bytes first b
    unknown_fit (Replaces b) e = unknown_bytes first b
    unknown_fit (Writes a n b) e = unknown_bytes first b
    unknown_fit (Protects mode) e = tt

    -- ---- copies

    pushed_copy : (b : List ℕ) (from : ℕ) (u : Sums) → CopyFits (Pushes b) from → Holds ts u first m sums
        → Holds ts (loaded (is_total_block ts from (length b)) d from (length b) (wrote ts d (origins_from u.origins from (length b)) None (popped d u))) first (done (Pushes b)) sums
    pushed_copy b from u fits h =
        let n = length b in
        let k : Memory = done (Pushes b) in
        let c : Changed m k d b = stack_changed ts first sums kept st al calls f public next d w d b w.low fits.0 in
        let is : b ≡ bytes_from m from n = fits.1 in
        let apart : (x : ℕ) → from ≤ x → x < from + n → (x < d) ⊎ (d + n ≤ x) = λ x low high.
        elim fits.2 [
          | inl below ↦ inl (omega (arith, below, high))
          | inr above ↦ let end : d + n ≤ dynamic_end = fits.0 in inr (omega (arith, above, end, low))
        ]
        in
        let kept_bytes : bytes_from m from n ≡ bytes_from k from n = same_bytes m k from n (λ x low high. c.stays x (apart x low high)) in
        let origins : AreFrom first (origins_from u.origins from n) b = subst (λ (l : List ℕ). AreFrom first (origins_from u.origins from n) l) (sym is) (memory_from u.origins first m from n h.origins) in
        loaded_holds ts (wrote ts d (origins_from u.origins from n) None (popped d u)) first k sums (is_total_block ts from n) d from n (c.there ∙ (is ∙ kept_bytes))
        (from_wrote ts first sums (popped d u) m k d b (origins_from u.origins from n) c origins (popped_holds ts u first m sums d h))

    written_copy : (a n : ℕ) (b : List ℕ) (from : ℕ) (u : Sums) → CopyFits (Writes a n b) from → Holds ts u first m sums
        → Holds ts (wrote ts a (origins_from u.origins from (length b)) (more_of u.mores from a (length b)) (popped d u)) first (done (Writes a n b)) sums
    written_copy a n b from u fits h =
        let k : Memory = done (Writes a n b) in
        let c : Changed m k a b = write_changed (lower ts first sums kept st al calls f public next d) public b a fits.0 w in
        copied_holds ts u first m k sums d a from (length b) c.stays (c.there ∙ fits.1) h

    copy_holds : (i : Ins) (a : Act) (from : ℕ) (fl : Option (Bool × Bool)) (t : Then) (u : Sums) → CopyFits a from → Holds ts u first m sums
        → Holds ts (copied ts place (shape_of d a fl t) a from u) first (done a) (sums_after ts first sums kept st al calls f public next d a)
    copy_holds i Stays from fl t u fits h = absurd fits
    copy_holds i (Answers sw la) from fl t u fits h = absurd fits
    copy_holds i (Jumps taken to) from fl t u fits h = absurd fits
    copy_holds i (Calls taken to) from fl t u fits h = absurd fits
    copy_holds i (Returns less more) from fl t u fits h = absurd fits
    copy_holds i (Pushes b) from fl t u fits h = pushed_copy b from u fits h
    copy_holds i (Replaces b) from fl t u fits h = absurd fits
    copy_holds i (Writes a n b) from fl t u fits h = written_copy a n b from u fits h
    copy_holds i (Protects mode) from fl t u fits h = absurd fits

    -- ---- operations

    operated_by : (b : Bool) (g : Digitwise) (a : Act) (u : Sums) → g.written ≡ b → IsOperated g a → Holds ts u first m sums → Holds ts (popped d (operated b ts g u)) first (done a) sums
    operated_by true g a u e is h =
        let both = is.on e in
        let v : Sums = operated true ts g u in
        popped_holds ts v first (done a) sums d (operated_holds ts u first m (done a) sums g both.0 both.1 h)
    operated_by false g a u e is h = popped_holds ts u first (done a) sums d (same_holds ts u first m (done a) sums (is.off e) h)

    -- ---- searches

    search_holds : (a : Act) (u : Sums) → SearchFits a → Holds ts u first m sums → Holds ts (wrote_any ts d 1 (popped d u)) first (done a) (sums_after ts first sums kept st al calls f public next d a)
    search_holds Stays u fits h = absurd fits
    search_holds (Answers sw la) u fits h = absurd fits
    search_holds (Jumps taken to) u fits h = absurd fits
    search_holds (Calls taken to) u fits h = absurd fits
    search_holds (Returns less more) u fits h = absurd fits
    search_holds (Pushes b) u fits h =
        subst (λ (n : ℕ). Holds ts (wrote_any ts d n (popped d u)) first (done (Pushes b)) sums) fits.0
        (any_wrote ts first sums (popped d u) m (done (Pushes b)) d b (stack_changed ts first sums kept st al calls f public next d w d b w.low fits.1) (popped_holds ts u first m sums d h))
    search_holds (Replaces b) u fits h = absurd fits
    search_holds (Writes a n b) u fits h = absurd fits
    search_holds (Protects mode) u fits h = absurd fits

    -- ---- all works

    -- what is known holds after a row
    pub moved_holds : (i : Ins) (a : Act) (fl : Option (Bool × Bool)) (t : Then) (work : Work) (u : Sums) → WorkFits work a → Holds ts u first m sums
        → Holds ts (moved ts place i (shape_of d a fl t) work u) first (done a) (sums_after ts first sums kept st al calls f public next d a)
    moved_holds i a fl t AsShaped u fits h =
        acted_holds ts first sums kept st al calls f public next d w a (own_origins i a u.origins f.dt) (popped d u) totals fits.0 (own_from i a u.origins fits.0 fits.1 h.origins) (popped_holds ts u first m sums d h)
    moved_holds i a fl t (Copies from) u fits h = copy_holds i a from fl t u fits h
    moved_holds i a fl t (Works g) u fits h =
        subst (λ (s : List Sum). Holds ts (popped d (operated g.written ts g u)) first (done a) s) (sym fits.reads) (operated_by g.written g a u refl fits h)
    moved_holds i a fl t (Searches v table n) u fits h = search_holds a u fits h
    moved_holds i a fl t AnyZ u fits h =
        subst (λ (b : Act). Holds ts (popped d u) first (done b) (sums_after ts first sums kept st al calls f public next d b)) (sym fits) (popped_holds ts u first m sums d h)
    moved_holds i a fl t Counted u fits h =
        acted_holds ts first sums kept st al calls f public next d w a (unknowns (size_of a)) (popped d u) totals fits.0 (unknown_fit a fits.1) (popped_holds ts u first m sums d h)
    moved_holds i a fl t NoFact u fits h =
        acted_holds ts first sums kept st al calls f public next d w a (unknowns (size_of a)) (popped d u) totals fits.0 (unknown_fit a fits.1) (popped_holds ts u first m sums d h)

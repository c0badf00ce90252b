-- What is known for sums holds after each act of a row: it goes with the bytes that are pushed, returned or written, and
-- with what a change of protection leaves.
use Rattle.std.proofs.Common.{◌≡◌, ℕ, ◌+◌, ◌-◌, ◌≤◌, Bool, true, false, cond, List, [], ◌∷◌, ◌++◌, length, Option, Some, None, refl, sym, ap, subst, ◌∙◌, arith}
use Rattle.std.specs.Prelude.{not, ◌&&◌, ◌||◌, ◌==◌, nat_le, is_none, ⊤}
use Rattle.law_sums.specs.model_device.specs.Bytes.{bytes2, splice}
use Rattle.law_sums.specs.model_device.proofs.ListLemmas.{splice_longer}
use Rattle.law_sums.specs.model_machine.specs.Frame.{Frame, Effect, where_is, dynamic_base, dynamic_end, static_bytes, top, pending_change}
use Rattle.law_sums.specs.model_machine.specs.Chain.{frame_at}
use Rattle.law_sums.specs.model_machine.specs.Shapes.{Act, Stays, Answers, Jumps, Calls, Returns, Pushes, Replaces, Writes, Protects, with_status, with_length, act_effect}
use Rattle.law_sums.specs.law_rows.proofs.Keeping.{length_laid}
use Rattle.law_sums.specs.model_rules.specs.Rules.{Total}
use Rattle.law_sums.specs.model_rules.specs.Keeping.{Amounts, Sum}
use Rattle.law_sums.specs.model_prove.specs.Facts.{Memory}
use Rattle.law_sums.specs.model_prove.specs.Keys.{Start, Call, PlaceKey}
use Rattle.law_sums.specs.model_prove.specs.Arrivals.{la_at}
use Rattle.law_prove_closed.specs.law_prove.specs.Coverings.{parts_memory, frame_memory}
use Rattle.law_prove_closed.specs.law_prove.proofs.Alike.{from_length, top_is}
use Rattle.law_prove_closed.specs.law_prove.proofs.Parts.{not_lt}
use Rattle.law_prove_closed.specs.law_prove.proofs.Spots.{place_key}
use Rattle.law_sums.specs.model_sums.specs.Origins.{Origin, unknowns}
use Rattle.law_sums.specs.model_sums.specs.Sums.{Sums}
use Rattle.law_sums.specs.model_sums.specs.Says.{AreFrom, Holds, TotalsHold}
use Rattle.law_sums.specs.model_sums.specs.Writes.{wrote, wrote_any, dropped}
use Rattle.law_sums.specs.model_sums.specs.Moves.{answer_wrote, acted, constants}
use Rattle.law_sums.proofs.OriginLemmas as origins
use Rattle.law_sums.proofs.CopyLemmas.{written_holds}
use Rattle.law_sums.proofs.KnownLemmas.{popped_holds}
use Rattle.law_sums.proofs.LossLemmas.{dropped_holds}
use Rattle.law_sum_plays.proofs.Memories.{Changed, Whole, dynamic_changed, public_changed, write_changed, same_holds}

-- ---- origins of bytes

-- bytes come from nowhere that is known
pub unknown_bytes : (first b : List ℕ) → AreFrom first (unknowns (length b)) b
unknown_bytes first [] = tt
unknown_bytes first (x ∷ b) = (tt, unknown_bytes first b)

-- constants are what they are
pub constant_bytes : (first b : List ℕ) → AreFrom first (constants b) b
constant_bytes first [] = tt
constant_bytes first (x ∷ b) = (refl, constant_bytes first b)

-- ---- writes

module _ (ts : List Total) (first : List ℕ) (sums : List Sum) where
  -- after a write of bytes of these origins
  pub from_wrote : (u : Sums) (m k : Memory) (a : ℕ) (b : List ℕ) (gs : List Origin) → Changed m k a b → AreFrom first gs b → Holds ts u first m sums → Holds ts (wrote ts a gs None u) first k sums
  from_wrote u m k a b gs c from h =
      written_holds ts u first m k sums a (length b) gs None (origins.from_length first gs b from) c.stays (subst (λ (l : List ℕ). AreFrom first gs l) (sym c.there) from) tt h

  -- after a write of any bytes
  pub any_wrote : (u : Sums) (m k : Memory) (a : ℕ) (b : List ℕ) → Changed m k a b → Holds ts u first m sums → Holds ts (wrote_any ts a (length b) u) first k sums
  any_wrote u m k a b c h = from_wrote u m k a b (unknowns (length b)) c (unknown_bytes first b) h

-- ---- acts

-- Of a frame f at a place, after its fetch and with DT at d: the sums that it reads, and those that power would leave.
module _ (ts : List Total) (first : List ℕ) (sums kept : List Sum) (st : Start) (al : Amounts) (calls : List Call) (f : Frame) (public : List ℕ) (next d : ℕ) where
  -- the frame before its act, and the key of the place with this DT
  abbrev pub lower : Frame
  lower = record (frame_at f next) { dt = d }

  -- the key of the place with this DT
  abbrev pub key : PlaceKey
  key = record (place_key st al f calls) { dt = d }

  -- the bytes before the act, and after it
  abbrev pub before : Memory
  before = frame_memory lower public

  -- the bytes after an act
  abbrev pub after : Act → Memory
  after a = let e : Effect = act_effect a lower public in frame_memory e.frame e.public

  -- whether a change of protection drops what waits
  abbrev pub is_drop : ℕ → Bool
  is_drop mode = f.protected && not (mode == 1 || mode == 3)

  -- the sums that are read after the act
  abbrev pub sums_after : Act → List Sum
  sums_after (Protects mode) = cond (is_drop mode) kept sums
  sums_after a = sums

  -- what no cause has kept from the act
  abbrev pub ActFits : Act → Type 0
  ActFits (Calls taken to) = taken ≡ true → d + 4 ≤ dynamic_end
  ActFits (Returns less more) = (dynamic_base + 4 + less ≤ f.lb) × (f.lb + more ≤ d)
  ActFits (Pushes b) = d + length b ≤ dynamic_end
  ActFits (Replaces b) = dynamic_base + length b ≤ d
  ActFits (Writes a n b) = is_none (where_is lower a (length b)) ≡ false
  ActFits a = ⊤

  -- the bytes that an act writes, pushes or moves come from these origins
  abbrev pub OriginsFit : Act → List Origin → Type 0
  OriginsFit (Returns less more) gs = AreFrom first gs (top lower more)
  OriginsFit (Pushes b) gs = AreFrom first gs b
  OriginsFit (Replaces b) gs = AreFrom first gs b
  OriginsFit (Writes a n b) gs = AreFrom first gs b
  OriginsFit a gs = ⊤

  module _ (w : Whole lower public) where
    -- ---- answers

    status_set : (sw : Option ℕ) (u : Sums) → Holds ts u first before sums → Holds ts (answer_wrote ts (la_at + 2) sw u) first (frame_memory lower (with_status sw public)) sums
    status_set None u h = h
    status_set (Some sw) u h =
        let whole : 1041 ≤ length public = w.sized.whole in
        any_wrote ts first sums u before (frame_memory lower (with_status (Some sw) public)) (la_at + 2) (bytes2 sw)
        (public_changed (length f.fixed) (static_bytes lower) f.dyn public (bytes2 sw) (la_at + 2) 1039 refl w.sized.small (omega (arith, whole))) h

    length_set : (la : Option ℕ) (segment : List ℕ) (u : Sums) → 1041 ≤ length segment → Holds ts u first (frame_memory lower segment) sums
        → Holds ts (answer_wrote ts la_at la u) first (frame_memory lower (with_length la segment)) sums
    length_set None segment u whole h = h
    length_set (Some la) segment u whole h =
        any_wrote ts first sums u (frame_memory lower segment) (frame_memory lower (with_length (Some la) segment)) la_at (bytes2 la)
        (public_changed (length f.fixed) (static_bytes lower) f.dyn segment (bytes2 la) la_at 1037 refl w.sized.small (omega (arith, whole))) h

    still_whole : (sw : Option ℕ) → 1041 ≤ length (with_status sw public)
    still_whole None = w.sized.whole
    still_whole (Some sw) = grind (arith, w.sized.whole, splice_longer public 1039 (bytes2 sw))

    -- ---- the stack

    -- bytes of the stack were written
    pub stack_changed : (a : ℕ) (b : List ℕ) → dynamic_base ≤ a → a + length b ≤ dynamic_end
        → Changed before (parts_memory (length f.fixed) (static_bytes lower) (splice f.dyn (a - dynamic_base) b) public) a b
    stack_changed a b low high =
        let j = a - dynamic_base in
        dynamic_changed (length f.fixed) (static_bytes lower) f.dyn public b a j (omega (arith, low)) w.sized.small w.sized.room (omega (arith, low, high))

    called : (taken : Bool) (to : ℕ) (u : Sums) → (taken ≡ true → d + 4 ≤ dynamic_end) → Holds ts u first before sums → Holds ts (cond taken (wrote_any ts d 4 u) u) first (after (Calls taken to)) sums
    called false to u over h = h
    called true to u over h =
        any_wrote ts first sums u before (after (Calls true to)) d (bytes2 f.lb ++ bytes2 next) (stack_changed d (bytes2 f.lb ++ bytes2 next) w.low (over refl)) h

    jumped : (taken : Bool) (to : ℕ) (u : Sums) → Holds ts u first before sums → Holds ts u first (after (Jumps taken to)) sums
    jumped true to u h = h
    jumped false to u h = h

    returned : (less more : ℕ) (gs : List Origin) (u : Sums) → dynamic_base + 4 + less ≤ f.lb → f.lb + more ≤ d → AreFrom first gs (top lower more) → Holds ts u first before sums
        → Holds ts (wrote ts (f.lb - 4 - less) gs None u) first (after (Returns less more)) sums
    returned less more gs u low over from h =
        let high : d ≤ dynamic_end = w.sized.high in
        let a = f.lb - 4 - less in
        let b = top lower more in
        let long : length b ≡ more = ap (λ (z : List ℕ). length z) (top_is lower public more w.sized (omega (arith, low, over))) ∙ from_length before (d - more) more in
        from_wrote ts first sums u before (after (Returns less more)) a b gs (stack_changed a b (omega (arith, low)) (omega (arith, low, over, high, long))) from h

    replaced : (b : List ℕ) (gs : List Origin) (u : Sums) → dynamic_base + length b ≤ d → AreFrom first gs b → Holds ts u first before sums → Holds ts (wrote ts (d - length gs) gs None u) first (after (Replaces b)) sums
    replaced b gs u low from h =
        let high : d ≤ dynamic_end = w.sized.high in
        let long : length gs ≡ length b = origins.from_length first gs b from in
        subst (λ (n : ℕ). Holds ts (wrote ts (d - n) gs None u) first (after (Replaces b)) sums) (sym long)
        (from_wrote ts first sums u before (after (Replaces b)) (d - length b) b gs (stack_changed (d - length b) b (omega (arith, low)) (omega (arith, low, high))) from h)

    -- ---- protection

    -- the bytes without what waits
    abbrev pub bare : Memory
    bare = parts_memory (length f.fixed) f.fixed f.dyn public

    -- static bytes do not matter above them
    above_static : (size : ℕ) (s t : List ℕ) (x : ℕ) → size ≤ dynamic_base → dynamic_base ≤ x → parts_memory size s f.dyn public x ≡ parts_memory size t f.dyn public x
    above_static size s t x small low = grind (arith, not_lt)

    protected_by : (b p : Bool) (on : Bool) (u : Sums) → f.protected ≡ p → TotalsHold bare kept ts → Holds ts u first before sums
        → let e : Effect = cond {A = Effect} b (record { frame = record lower { fixed = static_bytes lower; pieces = []; protected = on }; public = public; changes = pending_change lower f.pieces }) (record { frame = record lower { pieces = []; protected = on }; public = public; changes = None }) in
        Holds ts (dropped (p && not b) ts u) first (frame_memory e.frame e.public) (cond (p && not b) kept sums)
    protected_by true p on u is totals h =
        let size : length (static_bytes lower) ≡ length f.fixed = length_laid f.pieces f.fixed w.sized.inside in
        let same : (x : ℕ) → before x ≡ parts_memory (length (static_bytes lower)) (static_bytes lower) f.dyn public x = λ x. ap (λ (n : ℕ). parts_memory n (static_bytes lower) f.dyn public x) (sym size) in
        stays p (same_holds ts u first before (parts_memory (length (static_bytes lower)) (static_bytes lower) f.dyn public) sums same h)
      where
        stays : (p : Bool) → Holds ts u first (parts_memory (length (static_bytes lower)) (static_bytes lower) f.dyn public) sums
            → Holds ts (dropped (p && not true) ts u) first (parts_memory (length (static_bytes lower)) (static_bytes lower) f.dyn public) (cond (p && not true) kept sums)
        stays true h = h
        stays false h = h
    protected_by false true on u is totals h =
        dropped_holds ts u first before bare sums kept (λ x low. above_static (length f.fixed) (static_bytes lower) f.fixed x w.sized.small low) totals h
    protected_by false false on u is totals h = grind (arith, same_holds)

    -- ---- all acts

    -- what is known holds after an act
    pub acted_holds : (a : Act) (gs : List Origin) (u : Sums) → TotalsHold bare kept ts → ActFits a → OriginsFit a gs → Holds ts u first before sums → Holds ts (acted ts key a gs None u) first (after a) (sums_after a)
    acted_holds Stays gs u totals fits from h = h
    acted_holds (Answers sw la) gs u totals fits from h = length_set la (with_status sw public) (answer_wrote ts (la_at + 2) sw u) (still_whole sw) (status_set sw u h)
    acted_holds (Jumps taken to) gs u totals fits from h = jumped taken to u h
    acted_holds (Calls taken to) gs u totals fits from h = called taken to u fits h
    acted_holds (Returns less more) gs u totals fits from h =
        popped_holds ts (wrote ts (f.lb - 4 - less) gs None u) first (after (Returns less more)) sums (f.lb - 4 - less + length gs) (returned less more gs u fits.0 fits.1 from h)
    acted_holds (Pushes b) gs u totals fits from h = from_wrote ts first sums u before (after (Pushes b)) d b gs (stack_changed d b w.low fits) from h
    acted_holds (Replaces b) gs u totals fits from h = replaced b gs u fits from h
    acted_holds (Writes a n b) gs u totals fits from h = from_wrote ts first sums u before (after (Writes a n b)) a b gs (write_changed lower public b a fits w) from h
    acted_holds (Protects mode) gs u totals fits from h = protected_by (mode == 1 || mode == 3) f.protected (nat_le 2 mode) u refl totals h

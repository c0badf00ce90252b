-- The primitives that manipulate the bits of the top byte or word under a mask of the instruction.
use Rattle.std.proofs.Common.{◌≡◌, ℕ, zero, suc, ◌+◌, ◌-◌, ◌≤◌, Bool, true, false, cond, List, [], ◌∷◌, ◌++◌, length, take, drop, Option, Some, None, refl, sym, ap, subst, ◌∙◌, arith}
use Rattle.std.specs.Prelude.{◌==◌, ◌&&◌, ◌||◌, nat_lt, slice_index}
use Rattle.std.proofs.lemmas.Bool.{lt-ltb}
use Rattle.std.proofs.lemmas.List.{take-append-drop, drop-drop, append_assoc}
use Rattle.model_prove.specs.model_device.specs.Bytes.{AreBytes, splice}
use Rattle.model_prove.specs.model_device.proofs.ListLemmas.{length_map, bytes_from as bytes_after}
use Rattle.model_prove.specs.model_machine.specs.declared.instruction.Ins.{Ins}
use Rattle.model_prove.specs.model_machine.specs.declared.instruction.Ins.TheVariants as ins
use Rattle.model_prove.specs.model_machine.specs.declared.machine.Abend.{Abend}
use Rattle.model_prove.specs.model_machine.specs.declared.machine.Abend.TheVariants.{A04, A06, A0A}
use Rattle.model_prove.specs.model_machine.specs.Blocks.{is_zero, and_blocks, or_blocks, xor_blocks, not_block}
use Rattle.model_prove.specs.model_machine.specs.Frame.{Frame, dynamic_base, top, is_under}
use Rattle.model_prove.specs.model_machine.specs.Primitives.{Around, masked_bytes, later_causes}
use Rattle.model_prove.specs.model_machine.specs.Row.{causes}
use Rattle.model_prove.specs.model_machine.specs.Chain.{frame_at}
use Rattle.model_prove.specs.model_machine.specs.Shapes.{Stays, Replaces, Shape, shape, prim_shape}
use Rattle.law_rules.specs.law_bytes.proofs.ByteLists.{inverted, taken}
use Rattle.model_prove.specs.model_rules.specs.Rules.{Target}
use Rattle.model_prove.specs.Facts.{Memory}
use Rattle.model_prove.specs.Compares.{bytes_from}
use Rattle.model_prove.specs.Digits.{Operation, And, Or, Xor}
use Rattle.model_prove.specs.Keys.{Tables}
use Rattle.model_prove.specs.Work.{These, Works, work, mask_work}
use Rattle.model_prove.specs.Arrivals.{Setting}
use Rattle.model_prove.specs.Steps.{row_arrivals, allows, is_or}
use Rattle.model_prove.specs.model_rules.specs.Loadable.{IsLoadable}
use Rattle.model_prove.specs.Tables.{includes_all}
use Rattle.law_prove.specs.Coverings.{frame_memory}
use Rattle.law_prove.specs.Laws.{LeadsInto, MaskLaw}
use Rattle.law_prove.proofs.Spots.{place_key}
use Rattle.law_prove.proofs.Acts.{spot_of, Led}
use Rattle.law_prove.proofs.Turns.{blank, nobody}
use Rattle.law_prove.proofs.Alike.{Sized, from_length, top_is}
use Rattle.law_prove.proofs.Single.{going, Turn, RowCase, IsFetchedOnce, law_of, here, there, scene}
use Rattle.law_prove.proofs.Plain.{above}
use Rattle.law_prove.proofs.Moves.{turn_sized}
use Rattle.law_prove.proofs.Worked.{worked, worked_and, worked_or, worked_xor, carries_of}
use Rattle.law_prove.proofs.Arith.{ordered, immediate_allowed, immediate_so, memory_bytes_from}
use Rattle.law_prove.proofs.Blocks.{Outcome, outcome_row, compared_outcome, replaced_outcome}
use Rattle.law_prove.proofs.Prims.{asks_nobody}
use Rattle.law_prove.proofs.Numbers.{bit_flags}

-- a stack whose top is written over itself is as it was
splice_self : (l : List ℕ) (k n : ℕ) → length (take n (drop k l)) ≡ n → splice l k (take n (drop k l)) ≡ l
splice_self l k n is =
    ap (λ (m : ℕ). (take k l ++ take n (drop k l)) ++ drop (k + m) l) is
    ∙ (ap (λ (r : List ℕ). (take k l ++ take n (drop k l)) ++ r) (sym (drop-drop n k l))
    ∙ (append_assoc (take k l) (take n (drop k l)) (drop n (drop k l)) ∙ (ap (λ (r : List ℕ). take k l ++ r) (take-append-drop n (drop k l)) ∙ take-append-drop k l)))

-- ---- the operations

module _ (s : Setting) (u t : Tables) (g : Target) (loadable : IsLoadable s.app) (leads : LeadsInto s u t) (i : Ins) (turn : Turn s u i) (n : ℕ) (mask : List ℕ) (size : length mask ≡ n) (are : AreBytes mask) (over : dynamic_base + n ≤ turn.frame.dt) where
  abbrev block : List ℕ
  block = bytes_from (frame_memory turn.frame turn.public) (turn.frame.dt - n) n

  -- what the machine leaves
  abbrev left_of : ℕ → Shape
  left_of k = going turn.frame.dt (Replaces (masked_bytes k block mask)) (Some (turn.frame.c, is_zero (cond (k == 3) (and_blocks block mask) (masked_bytes k block mask))))

  replaced : (b c : List ℕ) (fl gl : Bool × Bool) → b ≡ c → fl ≡ gl → Outcome s u t g loadable leads i turn (going turn.frame.dt (Replaces b) (Some fl)) → Outcome s u t g loadable leads i turn (going turn.frame.dt (Replaces c) (Some gl))
  replaced b c fl gl same alike o =
      rw (← same, ← alike) o

  bytes : AreBytes block
  bytes = memory_bytes_from (frame_memory turn.frame turn.public) (turn.frame.dt - n) n turn.place.bytes

  long : length block ≡ n
  long = from_length (frame_memory turn.frame turn.public) (turn.frame.dt - n) n

  -- a mask that is laid over the top
  laid_over : (op : Operation) (ys : List ℕ) (v : List ℕ) (b0 : List ℕ) (f0 : Option (Bool × Bool)) → carries_of op ≡ false → length ys ≡ n → AreBytes ys → v ≡ (worked op block ys).0
      → includes_all t (row_arrivals false s i (going turn.frame.dt (Replaces b0) f0) (Works (record { op = op; at = turn.frame.dt - n; n = n; operand = These ys; written = true; carries = false })) (here s u t g loadable leads i turn) (there s u t g loadable leads i turn)) ≡ true
      → Outcome s u t g loadable leads i turn (going turn.frame.dt (Replaces v) (Some (turn.frame.c, is_zero v)))
  laid_over op ys v b0 f0 plain count others is all =
      let m : Memory = frame_memory turn.frame turn.public in
      let r = worked op block ys in
      replaced r.0 v (turn.frame.c, (r.1).z) (turn.frame.c, is_zero v) (sym is) (sym (bit_flags op turn.frame.c v block ys (long ∙ sym count) is))
      (replaced_outcome s u t g loadable leads i turn op (turn.frame.dt - n) n (These ys) ys (refl, count) count false plain b0 f0 refl over
      (subst (λ (c : Bool). allows turn.place.known.compare (record { op = op; at = turn.frame.dt - n; n = n; operand = These ys; written = true; carries = c }) (These ys) r.1 ≡ true) plain
      (immediate_allowed op true (turn.frame.dt - n) n ys turn.place.known.compare m turn.place.compares count bytes others (λ e. absurd (cc (sym (unordered op plain) ∙ e))))) all)
    where
      unordered : (op : Operation) → carries_of op ≡ false → ordered op true ≡ false
      unordered op plain = ap (λ (b : Bool). b || (false && is_or op)) plain

  -- a test leaves the top as it was
  tested : (b0 : List ℕ) (f0 : Option (Bool × Bool))
      → includes_all t (row_arrivals false s i (going turn.frame.dt (Replaces b0) f0) (Works (record { op = And; at = turn.frame.dt - n; n = n; operand = These mask; written = false; carries = false })) (here s u t g loadable leads i turn) (there s u t g loadable leads i turn)) ≡ true
      → Outcome s u t g loadable leads i turn (going turn.frame.dt (Replaces block) (Some (turn.frame.c, is_zero (and_blocks block mask))))
  tested b0 f0 all =
      let m : Memory = frame_memory turn.frame turn.public in
      let c = turn.place.known.compare in
      let r = worked And block mask in
      let sized : Sized (frame_at turn.frame turn.next) turn.public = turn_sized s u loadable i turn in
      let tops : top turn.frame n ≡ block = top_is (frame_at turn.frame turn.next) turn.public n sized over in
      let count : length (top turn.frame n) ≡ n = ap (λ (b : List ℕ). length b) tops ∙ long in
      let k = turn.frame.dt - n - dynamic_base in
      let same : splice turn.frame.dyn (turn.frame.dt - length block - dynamic_base) block ≡ turn.frame.dyn = grind (arith, long, splice_self) in
      let o : Outcome s u t g loadable leads i turn (going turn.frame.dt Stays (Some (turn.frame.c, (r.1).z))) =
      compared_outcome s u t g loadable leads i turn And (turn.frame.dt - n) n (These mask) mask (refl, size) size false refl f0
      (immediate_allowed And false (turn.frame.dt - n) n mask c m turn.place.compares size bytes are (λ e. absurd (cc e)))
      (immediate_so And (turn.frame.dt - n) n mask c m turn.place.compares size bytes are (λ e. absurd (cc e))) all
      in
      let st = turn.place.start in
      let al = turn.place.standing.allowances in
      let flags : ◌≡◌ {A = Bool × Bool} (turn.frame.c, (r.1).z) (turn.frame.c, is_zero (and_blocks block mask)) = sym (bit_flags And turn.frame.c (and_blocks block mask) block mask (long ∙ sym size) (sym (worked_and block mask))) in
      replaced block block (turn.frame.c, (r.1).z) (turn.frame.c, is_zero (and_blocks block mask)) refl flags
      (record {
        spot = o.spot;
        led = subst (λ (d : List ℕ). Led s st al o.spot false (record { frame = record (frame_at turn.frame turn.next) { dyn = d; z = (r.1).z }; public = turn.public; changes = None })) (sym same) o.led;
        included = o.included;
      })

  -- by the operation
  by_mode : (k : ℕ) (l : Frame) (b0 : List ℕ) (f0 : Option (Bool × Bool)) → l.dt ≡ turn.frame.dt → nat_lt 3 k ≡ false
      → includes_all t (row_arrivals false s i (going turn.frame.dt (Replaces b0) f0) (mask_work (record l { dt = turn.frame.dt }) k n mask) (here s u t g loadable leads i turn) (there s u t g loadable leads i turn)) ≡ true
      → Outcome s u t g loadable leads i turn (left_of k)
  by_mode zero l b0 f0 same low all = laid_over And (not_block mask) (and_blocks block (not_block mask)) b0 f0 refl (length_map (λ x. 255 - x) mask ∙ size) (inverted mask) (sym (worked_and block (not_block mask))) all
  by_mode (suc zero) l b0 f0 same low all = laid_over Or mask (or_blocks block mask) b0 f0 refl size are (sym (worked_or block mask)) all
  by_mode (suc (suc zero)) l b0 f0 same low all = laid_over Xor mask (xor_blocks block mask) b0 f0 refl size are (sym (worked_xor block mask)) all
  by_mode (suc (suc (suc zero))) l b0 f0 same low all = tested b0 f0 all
  by_mode (suc (suc (suc (suc k)))) l b0 f0 same low all = absurd (cc (sym (lt-ltb 3 (suc (suc (suc (suc k)))) (omega arith)) ∙ low))

module _ (i : Ins) (n k : ℕ) (mask : List ℕ) where
  -- the row replaces the top bytes by those under the mask, or only tests them
  pub record IsMask : Type 0 where
    pub cause : (f : Frame) (public : List ℕ) (x : Around) → causes i f public x ≡ (A06, nat_lt 3 k) ∷ (A0A, false) ∷ (A04, is_under f n) ∷ []
    pub form : (f : Frame) (public : List ℕ) (x : Around) → shape i f public x ≡ going f.dt (Replaces (masked_bytes k (top f n) mask)) (Some (f.c, is_zero (cond (k == 3) (and_blocks (top f n) mask) (masked_bytes k (top f n) mask))))
    pub task : (f : Frame) (public : List ℕ) → work i f public ≡ mask_work f k n mask

  mask_case : IsMask → length mask ≡ n → AreBytes mask → RowCase i
  mask_case is size are s u t g loadable leads turn includes =
      let f : Frame = frame_at turn.frame turn.next in
      let l : Frame = scene s u t g loadable leads i turn in
      let d = turn.frame.dt in
      let cs : List (Abend × Bool) = (A06, nat_lt 3 k) ∷ (A0A, false) ∷ (A04, is_under f n) ∷ [] in
      let b0 = masked_bytes k (top l n) mask in
      let xs = bytes_from (frame_memory turn.frame turn.public) (d - n) n in
      let f0 = Some (f.c, is_zero (cond (k == 3) (and_blocks (top l n) mask) b0)) in
      let sized : Sized f turn.public = turn_sized s u loadable i turn in
      outcome_row s u t g loadable leads i turn cs d (Replaces b0) (Replaces (masked_bytes k xs mask)) f0 (Some (f.c, is_zero (cond (k == 3) (and_blocks xs mask) (masked_bytes k xs mask)))) (mask_work l k n mask) includes
      (is.cause l blank nobody) (is.cause f turn.public turn.around) (is.form l blank nobody)
      (λ none.
      let over = above f n none.1.1.0 in
      is.form f turn.public turn.around
      ∙ ap (λ (v : List ℕ). going d (Replaces (masked_bytes k v mask)) (Some (f.c, is_zero (cond (k == 3) (and_blocks v mask) (masked_bytes k v mask))))) (top_is f turn.public n sized (omega (arith, over))))
      (is.task l blank) refl
      (λ none all.
      let over = above f n none.1.1.0 in
      by_mode s u t g loadable leads i turn n mask size are (omega (arith, over)) k l b0 f0 refl none.0 all)

-- ---- the laws

three_bytes : (args : List ℕ) → length args ≡ 3 → (length (take 1 (drop 1 args)) ≡ 1) × (length (take 2 (drop 1 args)) ≡ 2)
three_bytes args e = grind arith

byte_once : (args : List ℕ) → IsFetchedOnce (ins.Prim 2 1 args)
byte_once args s u t g loadable leads turn e = grind (arith, asks_nobody, place_key, blank, spot_of)

byte_case : (args : List ℕ) → RowCase (ins.Prim 2 1 args)
unfolding causes shape later_causes prim_shape
byte_case args s u t g loadable leads turn includes =
    mask_case (ins.Prim 2 1 args) 1 (slice_index args 0) (take 1 (drop 1 args)) (record { cause = λ f public x. refl; form = λ f public x. refl; task = λ f public. refl })
    (three_bytes args turn.shaped.three).0 (taken 1 (drop 1 args) (bytes_after args 1 turn.shaped.bytes)) s u t g loadable leads turn includes

word_once : (args : List ℕ) → IsFetchedOnce (ins.Prim 3 1 args)
word_once args s u t g loadable leads turn e = grind (arith, asks_nobody, place_key, blank, spot_of)

word_case : (args : List ℕ) → RowCase (ins.Prim 3 1 args)
unfolding causes shape later_causes prim_shape
word_case args s u t g loadable leads turn includes =
    mask_case (ins.Prim 3 1 args) 2 (slice_index args 0) (take 2 (drop 1 args)) (record { cause = λ f public x. refl; form = λ f public x. refl; task = λ f public. refl })
    (three_bytes args turn.shaped.three).1 (taken 2 (drop 1 args) (bytes_after args 1 turn.shaped.bytes)) s u t g loadable leads turn includes

-- the primitives that manipulate bits are covered
pub mask_laws : MaskLaw
mask_laws = (λ args. law_of (ins.Prim 2 1 args) (byte_once args) (byte_case args), λ args. law_of (ins.Prim 3 1 args) (word_once args) (word_case args))

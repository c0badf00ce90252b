-- What is seen in shots of the frame that ran a turn: numbers before it, a name after it, and so what the turn wrote.
use Rattle.std.proofs.Common.{◌≡◌, ◌≢◌, ℕ, zero, suc, ◌+◌, ◌-◌, ◌*◌, ◌<◌, ◌≤◌, Bool, true, false, cond, ◌&&◌, List, [], ◌∷◌, length, take, drop, Option, Some, None, refl, sym, ap, subst, ◌∙◌, arith}
use Rattle.std.specs.Prelude.{get_or, is_none, min, nat_le, nat_lt}
use Rattle.std.proofs.lemmas.Bool.{and_parts, leb-true}
use Rattle.std.proofs.lemmas.Bool.Decides.{nat_tests}
use Rattle.std.proofs.lemmas.List.{length-take}
use Rattle.mc_words.specs.model_device.specs.Bytes.{num}
use Rattle.mc_words.specs.model_device.specs.Pieces.{laid_pieces}
use Rattle.mc_words.specs.model_device.proofs.ListLemmas.{splice_longer}
use Rattle.mc_words.specs.model_device.specs.Bytes.{splice}
use Rattle.mc_text.specs.model_machine.specs.declared.instruction.Ins.{Ins}
use Rattle.mc_text.specs.model_machine.specs.declared.machine.Abend.{Abend}
use Rattle.mc_text.specs.model_machine.specs.Frame.{Frame, Place, Static, Dynamic, Public, address_at, bytes_at, bytes_in, dynamic_base, dynamic_end, is_outside, public_base, public_end, static_bytes}
use Rattle.mc_text.specs.model_machine.specs.Primitives.{number_below_top}
use Rattle.mc_text.specs.model_machine.specs.Chain.{Abended, Chain, Outcome, Reply, Turn as ModelTurn, around, delegator_in, depth_of, frame_at, turn_of}
use Rattle.mc_machine.specs.declared.outcome.BriefTurn.{BriefTurn}
use Rattle.law_steps.specs.Readings.{Reading, reading_after, reading_of}
use Rattle.law_steps.specs.Registers.{mode_of}
use Rattle.law_steps.specs.Spans.{Looks, SeesName}
use Rattle.law_steps.specs.Writes.{IsRoomy, chain_span, moves_in, now_by, now_of, waits_by, waits_of, writes_of_words}
use Rattle.law_steps.proofs.DoneRows.{RanDone, name_read, ran_done}
use Rattle.law_steps.proofs.SeenSpans.{SeesIns, target_is}
use Rattle.law_steps.proofs.TurnWrites.{span_at}
use Rattle.desk_steps.specs.declared.shot.Shot.{Shot}
use Rattle.desk_steps.specs.Counted.{moves_by_shots, waits_by_shots}
use Rattle.desk_steps.specs.Shots.{dynamics, look_of, name_seen, shot_byte, shot_number, shot_reading, span_seen, statics}
use Rattle.desk_steps.specs.Turning.{IsAfter, IsBefore, abend_alone, bare_turn, bare_value, frame_place}

-- ---- bytes

get_take : (n i : ℕ) (xs : List ℕ) → i < n → get_or (take n xs) i 0 ≡ get_or xs i 0
get_take zero i xs h = absurd (omega (arith, h))
get_take (suc n) i [] h = refl
get_take (suc n) zero (x ∷ xs) h = refl
get_take (suc n) (suc i) (x ∷ xs) h = get_take n i xs (omega (arith, h))

pair_number : (i : ℕ) (l : List ℕ) → i + 2 ≤ length l → get_or l i 0 * 256 + get_or l (i + 1) 0 ≡ num (take 2 (drop i l))
pair_number i [] h = absurd (omega (arith, h))
pair_number zero (x ∷ []) h = absurd (omega (arith, h))
pair_number zero (x ∷ y ∷ l) h = omega arith
pair_number (suc i) (x ∷ l) h = let next : suc i + 1 ≡ suc (i + 1) = omega arith in ap (λ (k : ℕ). get_or l i 0 * 256 + get_or (x ∷ l) k 0) next ∙ pair_number i l (omega (arith, h))

laid_longer : (ps : List (ℕ × List ℕ)) (l : List ℕ) → length l ≤ length (laid_pieces l ps)
laid_longer [] l = omega arith
laid_longer (p ∷ ps) l = omega (arith, splice_longer l p.0 p.1, laid_longer ps (splice l p.0 p.1))

-- a static byte that is read
static_byte : (s : Shot) (xs : List ℕ) (a : ℕ) → statics s ≡ xs → a < length xs → shot_byte s a ≡ get_or xs a 0
static_byte s xs a e h =
    let n : ℕ = min s.fixed_len 4096 in
    let few : a < length (take n s.fixed) = subst (λ (l : List ℕ). a < length l) (sym e) h in
    let less : a < n = omega (arith, few, length-take n s.fixed) in
    let in_size : nat_lt a s.fixed_len ≡ true = grind (arith, nat_tests, less) in
    let same : min a 4095 ≡ a = omega (arith, less) in
    let other : ℕ = cond (nat_le public_base a) (get_or s.public (min (a - public_base) 1040) 0) (cond (nat_le dynamic_base a) (get_or s.dynamic (min (a - dynamic_base) 511) 0) 0) in
    ap (λ (b : Bool). cond b (get_or s.fixed (min a 4095) 0) other) in_size ∙ ap (λ (k : ℕ). get_or s.fixed k 0) same ∙ sym (get_take n a s.fixed less) ∙ ap (λ (l : List ℕ). get_or l a 0) e

-- a dynamic one
dynamic_byte : (s : Shot) (dyn : List ℕ) (dt a : ℕ) → s.fixed_len ≤ 4096 → s.dt ≡ dt → dt ≤ dynamic_end → dynamics s ≡ take (dt - dynamic_base) dyn → dynamic_base ≤ a → a < dt → shot_byte s a ≡ get_or dyn (a - dynamic_base) 0
dynamic_byte s dyn dt a few same high e low less =
    let i : ℕ = a - dynamic_base in
    let n : ℕ = min (s.dt - dynamic_base) 512 in
    let first : nat_lt a s.fixed_len ≡ false = grind (arith, nat_tests, few, low) in
    let second : nat_le public_base a ≡ false = grind (arith, nat_tests, less, high) in
    let third : nat_le dynamic_base a ≡ true = grind (arith, nat_tests, low) in
    let index : min i 511 ≡ i = omega (arith, less, high) in
    let inside : i < n = omega (arith, less, low, high, same) in
    let own : ℕ = get_or s.dynamic (min i 511) 0 in
    let public : ℕ = get_or s.public (min (a - public_base) 1040) 0 in
    ap (λ (b : Bool). cond b (get_or s.fixed (min a 4095) 0) (cond (nat_le public_base a) public (cond (nat_le dynamic_base a) own 0))) first
    ∙ ap (λ (b : Bool). cond b public (cond (nat_le dynamic_base a) own 0)) second ∙ ap (λ (b : Bool). cond b own 0) third
    ∙ ap (λ (k : ℕ). get_or s.dynamic k 0) index ∙ sym (get_take n i s.dynamic inside) ∙ ap (λ (l : List ℕ). get_or l i 0) e ∙ get_take (dt - dynamic_base) i dyn (omega (arith, less, low))

-- a public one
public_byte : (s : Shot) (public : List ℕ) (a : ℕ) → s.fixed_len ≤ 4096 → s.public ≡ public → public_base ≤ a → a < public_end → shot_byte s a ≡ get_or public (a - public_base) 0
public_byte s public a few e low less =
    let i : ℕ = a - public_base in
    let first : nat_lt a s.fixed_len ≡ false = grind (arith, nat_tests, few, low) in
    let second : nat_le public_base a ≡ true = grind (arith, nat_tests, low) in
    let index : min i 1040 ≡ i = omega (arith, less) in
    let own : ℕ = get_or s.public (min i 1040) 0 in
    let rest : ℕ = cond (nat_le dynamic_base a) (get_or s.dynamic (min (a - dynamic_base) 511) 0) 0 in
    ap (λ (b : Bool). cond b (get_or s.fixed (min a 4095) 0) (cond (nat_le public_base a) own rest)) first ∙ ap (λ (b : Bool). cond b own rest) second
    ∙ ap (λ (k : ℕ). get_or s.public k 0) index ∙ ap (λ (l : List ℕ). get_or l i 0) e

-- ---- numbers

-- a shot of a frame whose segments have their sizes
record Seen (s : Shot) (f : Frame) (public : List ℕ) : Type 0 where
  size : s.fixed_len ≡ length f.fixed
  lb : s.lb ≡ f.lb
  dt : s.dt ≡ f.dt
  reading : shot_reading s ≡ reading_of f public
  roomy : IsRoomy f public

next_address : (a : ℕ) → a < 65535 → min (a + 1) 65535 ≡ a + 1
next_address a h = omega (arith, h)

-- two bytes, each of which is seen
two_bytes : (s : Shot) (l : List ℕ) (a i : ℕ) → a < 65535 → shot_byte s a ≡ get_or l i 0 → shot_byte s (a + 1) ≡ get_or l (i + 1) 0 → i + 2 ≤ length l → shot_number s a ≡ num (take 2 (drop i l))
two_bytes s l a i less one two inside =
    ap (λ (k : ℕ). shot_byte s a * 256 + shot_byte s k) (next_address a less) ∙ ap (λ (x : ℕ). x * 256 + shot_byte s (a + 1)) one ∙ ap (λ (y : ℕ). get_or l i 0 * 256 + y) two ∙ pair_number i l inside

static_number : (s : Shot) (f : Frame) (public : List ℕ) (a : ℕ) → Seen s f public → a + 2 ≤ length f.fixed → shot_number s a ≡ num (take 2 (drop a (static_bytes f)))
static_number s f public a h inside =
    let few = h.roomy.fixed in
    let all : List ℕ = static_bytes f in
    let n : ℕ = length f.fixed in
    let longer = laid_longer f.pieces f.fixed in
    let xs : statics s ≡ take n all = ap (λ (r : Reading). r.fixed) h.reading in
    let size : length (take n all) ≡ n = omega (arith, longer, length-take n all) in
    let one = static_byte s (take n all) a xs (omega (arith, size, inside)) ∙ get_take n a all (omega (arith, inside)) in
    let two = static_byte s (take n all) (a + 1) xs (omega (arith, size, inside)) ∙ get_take n (a + 1) all (omega (arith, inside)) in
    two_bytes s all a a (omega (arith, inside, few)) one two (omega (arith, inside, longer))

dynamic_number : (s : Shot) (f : Frame) (public : List ℕ) (a : ℕ) → Seen s f public → dynamic_base ≤ a → a + 2 ≤ f.dt → shot_number s a ≡ num (take 2 (drop (a - dynamic_base) f.dyn))
dynamic_number s f public a h low inside =
    let few = h.roomy.fixed in
    let size = h.size in
    let high = h.roomy.high in
    let wide = h.roomy.dyn in
    let xs : dynamics s ≡ take (f.dt - dynamic_base) f.dyn = ap (λ (r : Reading). r.dynamic) h.reading in
    let short : s.fixed_len ≤ 4096 = omega (arith, few, size) in
    let one = dynamic_byte s f.dyn f.dt a short h.dt high xs low (omega (arith, inside)) in
    let two = dynamic_byte s f.dyn f.dt (a + 1) short h.dt high xs (omega (arith, low)) (omega (arith, inside)) ∙ ap (λ (k : ℕ). get_or f.dyn k 0) (omega (arith, low)) in
    two_bytes s f.dyn a (a - dynamic_base) (omega (arith, inside, high)) one two (omega (arith, inside, high, low, wide))

public_number : (s : Shot) (f : Frame) (public : List ℕ) (a : ℕ) → Seen s f public → public_base ≤ a → a + 2 ≤ public_end → shot_number s a ≡ num (take 2 (drop (a - public_base) public))
public_number s f public a h low inside =
    let few = h.roomy.fixed in
    let size = h.size in
    let whole = h.roomy.whole in
    let xs : s.public ≡ public = ap (λ (r : Reading). r.public) h.reading in
    let short : s.fixed_len ≤ 4096 = omega (arith, few, size) in
    let one = public_byte s public a short xs low (omega (arith, inside)) in
    let two = public_byte s public (a + 1) short xs (omega (arith, low)) (omega (arith, inside)) ∙ ap (λ (k : ℕ). get_or public k 0) (omega (arith, low)) in
    two_bytes s public a (a - public_base) (omega (arith, inside)) one two (omega (arith, inside, low, whole))

number_by : (t d p : Bool) (s : Shot) (f : Frame) (public : List ℕ) (a : ℕ) → Seen s f public → nat_le (a + 2) (length f.fixed) ≡ t → (nat_le dynamic_base a && nat_le (a + 2) f.dt) ≡ d → (nat_le public_base a && nat_le (a + 2) public_end) ≡ p
    → (let o = cond {A = Option Place} t (Some (Static a)) (cond d (Some (Dynamic (a - dynamic_base))) (cond p (Some (Public (a - public_base))) None)) in is_none o ≡ false → shot_number s a ≡ num (bytes_in f public 2 o))
number_by true d p s f public a h st dt pt there = static_number s f public a h (leb-true (a + 2) (length f.fixed) st)
number_by false true p s f public a h st dt pt there =
    let parts = and_parts (nat_le dynamic_base a) (nat_le (a + 2) f.dt) dt in
    dynamic_number s f public a h (leb-true dynamic_base a parts.0) (leb-true (a + 2) f.dt parts.1)
number_by false false true s f public a h st dt pt there =
    let parts = and_parts (nat_le public_base a) (nat_le (a + 2) public_end) pt in
    public_number s f public a h (leb-true public_base a parts.0) (leb-true (a + 2) public_end parts.1)
number_by false false false s f public a h st dt pt there = absurd (cc there)

number_is : (s : Shot) (f : Frame) (public : List ℕ) (a : ℕ) → Seen s f public → is_outside f a 2 ≡ false → shot_number s a ≡ address_at f public a
unfolding bytes_at
number_is s f public a h there = number_by _ _ _ s f public a h refl refl refl there

looks_are : (s : Shot) (f : Frame) (public : List ℕ) → Seen s f public → Looks (look_of s) f public
looks_are s f public h = record { size = h.size; lb = h.lb; dt = h.dt; number = λ a there. number_is s f public a h there }

-- ---- what a turn wrote

-- what is seen before a turn and after it
pub record Sees (s t : Shot) (n : ℕ) (ch : Chain) : Type 0 where
  pub before : IsBefore s ch
  pub after : IsAfter t n ch
  pub wide : 512 ≤ length ch.frame.dyn

-- a frame delegated just where the chain is deep
shallow : (fs : List Frame) → delegator_in fs ≡ None → nat_lt 1 (length fs + 1) ≡ false
shallow [] e = refl
shallow (f ∷ fs) e = absurd (cc e)

deep : (fs : List Frame) (name : List ℕ) → delegator_in fs ≡ Some name → nat_lt 1 (length fs + 1) ≡ true
deep [] name e = absurd (cc e)
deep (f ∷ fs) name e = grind (arith, nat_tests)

-- the name that a turn may have reported
name_in_chain : (s t : Shot) (n : ℕ) (ch : Chain) (i : Ins) (f : Frame) → Sees s t n ch → (turn_of n ch).turn.ins ≡ Some i → ((c : Abend) → (turn_of n ch).turn.end ≢ Some (Abended c)) → length f.fixed ≡ length ch.frame.fixed → number_below_top f 2 ≡ number_below_top ch.frame 2
    → SeesIns i (look_of s) (name_seen (nat_lt 1 (depth_of ch)) s t) f (around ch)
name_in_chain s t n ch i f h ran goes size place set number args is prim at = by (delegator_in ch.below) refl
  where
    by : (o : Option (List ℕ)) → delegator_in ch.below ≡ o → SeesName (name_seen (nat_lt 1 (depth_of ch)) s t) o (length f.fixed) (number_below_top f 2)
    by None e = ap (λ (b : Bool). name_seen b s t) (shallow ch.below e)
    by (Some name) e =
        let same : shot_number s (s.dt - 2) ≡ number_below_top ch.frame 2 = at ∙ place in (
          shot_byte t (shot_number s (s.dt - 2)),
          ap (λ (b : Bool). name_seen b s t) (deep ch.below name e),
          λ inside.
              let there = name_read n ch i set number args name ran goes is prim h.before.guard e (ap (λ (k : ℕ). nat_le (k + (length name + 1)) (length ch.frame.fixed)) (sym place) ∙ ap (λ (k : ℕ). nat_le (number_below_top f 2 + (length name + 1)) k) (sym size) ∙ inside) in
              let read : statics t ≡ (reading_after n ch).fixed = ap (λ (r : Reading). r.fixed) (h.after.reading h.wide) in
              ap (λ (k : ℕ). shot_byte t k) same ∙ static_byte t (reading_after n ch).fixed (number_below_top ch.frame 2) read there.there ∙ there.byte,
        )

-- the static bytes that a turn writes
seen_span : (s t : Shot) (n : ℕ) (ch : Chain) (i : Ins) → Sees s t n ch → (turn_of n ch).turn.ins ≡ Some i → ((c : Abend) → (turn_of n ch).turn.end ≢ Some (Abended c)) → span_seen s t (nat_lt 1 (depth_of ch)) i ≡ chain_span ch i
seen_span s t n ch i h ran goes =
    let did : RanDone n ch i = ran_done n ch i ran goes in
    let f : Frame = frame_at ch.frame did.at in
    let room : IsRoomy ch.frame ch.public = h.before.roomy h.wide in
    let roomy : IsRoomy f ch.public = record { fixed = room.fixed; dyn = room.dyn; high = room.high; whole = room.whole } in
    let seen : Seen s f ch.public = record { size = h.before.size; lb = h.before.lb; dt = h.before.dt; reading = h.before.reading h.wide; roomy = roomy } in
    target_is i (look_of s) f ch.public (around ch) (name_seen (nat_lt 1 (depth_of ch)) s t) (looks_are s f ch.public seen) roomy did.none (name_in_chain s t n ch i f h ran goes refl refl)
    ∙ span_at i ch.frame did.at ch.public (around ch)

-- the same spans
now_spans : (o : Option Outcome) (i : Option Ins) (p q : Ins → Option (ℕ × ℕ)) (on : Bool) (ws : List ℕ) → ((j : Ins) → i ≡ Some j → ((c : Abend) → o ≢ Some (Abended c)) → p j ≡ q j) → now_of o i p on ws ≡ now_of o i q on ws
now_spans (Some (Abended c)) i p q on ws h = refl
now_spans None None p q on ws h = refl
now_spans (Some (Reply body sw)) None p q on ws h = refl
now_spans None (Some j) p q on ws h = ap (λ (s : Option (ℕ × ℕ)). now_by (mode_of j) on s ws) (h j refl (λ c e. absurd (cc e)))
now_spans (Some (Reply body sw)) (Some j) p q on ws h = ap (λ (s : Option (ℕ × ℕ)). now_by (mode_of j) on s ws) (h j refl (λ c e. absurd (cc e)))

wait_spans : (o : Option Outcome) (i : Option Ins) (p q : Ins → Option (ℕ × ℕ)) (on : Bool) (ws : List ℕ) → ((j : Ins) → i ≡ Some j → ((c : Abend) → o ≢ Some (Abended c)) → p j ≡ q j) → waits_of o i p on ws ≡ waits_of o i q on ws
wait_spans (Some (Abended c)) i p q on ws h = refl
wait_spans None None p q on ws h = refl
wait_spans (Some (Reply body sw)) None p q on ws h = refl
wait_spans None (Some j) p q on ws h = ap (λ (s : Option (ℕ × ℕ)). waits_by (mode_of j) on s ws) (h j refl (λ c e. absurd (cc e)))
wait_spans (Some (Reply body sw)) (Some j) p q on ws h = ap (λ (s : Option (ℕ × ℕ)). waits_by (mode_of j) on s ws) (h j refl (λ c e. absurd (cc e)))

-- ---- the device writes of a turn

-- the words that a turn writes and those that wait after it depend on no reply
now_alone : (o : Option Outcome) (i : Option Ins) (p : Ins → Option (ℕ × ℕ)) (on : Bool) (ws : List ℕ) → now_of (abend_alone o) i p on ws ≡ now_of o i p on ws
now_alone None i p on ws = refl
now_alone (Some (Reply body sw)) i p on ws = refl
now_alone (Some (Abended c)) i p on ws = refl

wait_alone : (o : Option Outcome) (i : Option Ins) (p : Ins → Option (ℕ × ℕ)) (on : Bool) (ws : List ℕ) → waits_of (abend_alone o) i p on ws ≡ waits_of o i p on ws
wait_alone None i p on ws = refl
wait_alone (Some (Reply body sw)) i p on ws = refl
wait_alone (Some (Abended c)) i p on ws = refl

-- a turn of the code is that of the definitions, at the depth of its chain
pub record IsTurn (turn : BriefTurn) (n : ℕ) (ch : Chain) : Type 0 where
  pub same : bare_turn (turn_of n ch).turn ≡ bare_value turn (turn_of n ch).turn.wrote
  pub depth : turn.depth ≡ depth_of ch
  pub place : frame_place turn.depth ≡ length ch.below

-- the device writes that shots of a turn show are those of its chain
pub moves_shown : (turn : BriefTurn) (s t : Shot) (n : ℕ) (ch : Chain) (os : List Bool) (ws : List (List ℕ)) → Sees s t n ch → IsTurn turn n ch
    → moves_by_shots turn s t (get_or os (frame_place turn.depth) false) (get_or ws (frame_place turn.depth) []) ≡ moves_in os ws n ch
moves_shown turn s t n ch os ws h is =
    let u : ModelTurn = (turn_of n ch).turn in
    let all : Option Outcome → Option Ins → ℕ → ℕ → ℕ = λ o i d k. writes_of_words (now_of o i (span_seen s t (nat_lt 1 d)) (get_or os k false) (get_or ws k [])) in
    ap (λ (o : Option Outcome). all o turn.ins turn.depth (frame_place turn.depth)) (sym (ap (λ (v : ModelTurn). v.end) is.same))
    ∙ ap writes_of_words (now_alone u.end turn.ins (span_seen s t (nat_lt 1 turn.depth)) (get_or os (frame_place turn.depth) false) (get_or ws (frame_place turn.depth) []))
    ∙ ap (λ (i : Option Ins). all u.end i turn.depth (frame_place turn.depth)) (sym (ap (λ (v : ModelTurn). v.ins) is.same))
    ∙ ap (λ (d : ℕ). all u.end u.ins d (frame_place turn.depth)) is.depth ∙ ap (λ (k : ℕ). all u.end u.ins (depth_of ch) k) is.place
    ∙ ap (λ (w : ℕ). writes_of_words w) (now_spans u.end u.ins (span_seen s t (nat_lt 1 (depth_of ch))) (chain_span ch) (get_or os (length ch.below) false) (get_or ws (length ch.below) []) (λ j e goes. seen_span s t n ch j h e goes))

-- the words that wait after a turn by its shots are those of its chain
pub waits_shown : (turn : BriefTurn) (s t : Shot) (n : ℕ) (ch : Chain) (os : List Bool) (ws : List (List ℕ)) → Sees s t n ch → IsTurn turn n ch
    → (let u = (turn_of n ch).turn in waits_by_shots turn s t (get_or os (frame_place turn.depth) false) (get_or ws (frame_place turn.depth) []) ≡ waits_of u.end u.ins (chain_span ch) (get_or os (length ch.below) false) (get_or ws (length ch.below) []))
waits_shown turn s t n ch os ws h is =
    let u : ModelTurn = (turn_of n ch).turn in
    let all : Option Outcome → Option Ins → ℕ → ℕ → List ℕ = λ o i d k. waits_of o i (span_seen s t (nat_lt 1 d)) (get_or os k false) (get_or ws k []) in
    ap (λ (o : Option Outcome). all o turn.ins turn.depth (frame_place turn.depth)) (sym (ap (λ (v : ModelTurn). v.end) is.same))
    ∙ wait_alone u.end turn.ins (span_seen s t (nat_lt 1 turn.depth)) (get_or os (frame_place turn.depth) false) (get_or ws (frame_place turn.depth) [])
    ∙ ap (λ (i : Option Ins). all u.end i turn.depth (frame_place turn.depth)) (sym (ap (λ (v : ModelTurn). v.ins) is.same))
    ∙ ap (λ (d : ℕ). all u.end u.ins d (frame_place turn.depth)) is.depth ∙ ap (λ (k : ℕ). all u.end u.ins (depth_of ch) k) is.place
    ∙ wait_spans u.end u.ins (span_seen s t (nat_lt 1 (depth_of ch))) (chain_span ch) (get_or os (length ch.below) false) (get_or ws (length ch.below) []) (λ j e goes. seen_span s t n ch j h e goes)

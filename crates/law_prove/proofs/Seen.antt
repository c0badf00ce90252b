-- What is known at a place stays so after bytes were written: of the stack, of the public segment, of static bytes.
use Rattle.std.proofs.Common.{◌≡◌, ℕ, zero, suc, ◌+◌, ◌-◌, ◌<◌, ◌≤◌, ◌⊎◌, Bool, true, false, cond, List, [], ◌∷◌, ◌++◌, length, take, drop, refl, sym, ap, ◌∙◌, arith}
use Rattle.std.specs.Prelude.{◌&&◌, nat_lt, slice_index, ⊤}
use Rattle.std.proofs.lemmas.Bool.{ltb-false}
use Rattle.model_prove.specs.model_device.specs.Bytes.{AreBytes, bytes2, splice}
use Rattle.model_prove.specs.model_device.specs.Pieces.{laid_pieces}
use Rattle.model_prove.specs.model_device.proofs.ListLemmas.{length_splice}
use Rattle.model_prove.specs.model_machine.specs.Frame.{Frame, dynamic_base, dynamic_end, public_base, static_bytes}
use Rattle.model_prove.specs.Sets.{Set, is_in}
use Rattle.model_prove.specs.Facts.{Facts, Memory, Holds, values_from, know_all}
use Rattle.model_prove.specs.Compares.{IsSo, touched, meet, bytes_from}
use Rattle.model_prove.specs.Keys.{Call, Known, calls_after_write}
use Rattle.model_prove.specs.Laws.{AreIn, HoldsBytes}
use Rattle.model_prove.specs.Arrivals.{Setting, static_size, settled}
use Rattle.model_prove.specs.Steps.{sets, any_bytes}
use Rattle.model_prove.proofs.CompareLemmas.{SameBut, touched_holds}
use Rattle.model_prove.proofs.ChangeLemmas.{written_holds}
use Rattle.model_prove.proofs.FactLemmas.{value_holds}
use Rattle.model_prove.proofs.SetLemmas.{is_first, is_byte}
use Rattle.law_prove.specs.Coverings.{parts_memory, moment_memory, frame_memory, AreOpen, IsKnown}
use Rattle.law_prove.proofs.Windows.{window, windows_same, taken_is, index_beside}
use Rattle.law_prove.proofs.Parts.{static_same, dynamic_same, public_same, static_new, dynamic_new, public_new}
use Rattle.law_prove.proofs.Moments.{within_holds}
use Rattle.law_prove.proofs.Known.{static_read, open_before}

-- ---- bytes of some sets

-- bytes have values of these sets, one by one
abbrev pub FitSets : List ℕ → List Set → Type 0
FitSets [] [] = ⊤
FitSets [] (s ∷ ss) = ⊥
FitSets (b ∷ bs) [] = ⊥
FitSets (b ∷ bs) (s ∷ ss) = (is_in b s ≡ true) × FitSets bs ss

-- bytes that fit sets are as many
pub fit_length : (b : List ℕ) (ss : List Set) → FitSets b ss → length ss ≡ length b
fit_length [] [] h = refl
fit_length [] (s ∷ ss) h = absurd h
fit_length (b ∷ bs) [] h = absurd h
fit_length (b ∷ bs) (s ∷ ss) h = ap suc (fit_length bs ss h.1)

-- known bytes
pub fit_sets : (b : List ℕ) → FitSets b (sets b)
fit_sets [] = tt
fit_sets (b ∷ bs) = (is_first b [], fit_sets bs)

-- bytes that are read
pub fit_values : (f : Facts) (m : Memory) (a n : ℕ) → Holds f m → HoldsBytes m → FitSets (bytes_from m a n) (values_from f a n)
fit_values f m a zero h k = tt
fit_values f m a (suc n) h k = (value_holds f m a h (k a), fit_values f m (suc a) n h k)

-- bytes of which nothing is known
pub fit_any : (b : List ℕ) → AreBytes b → FitSets b (any_bytes (length b))
fit_any [] h = tt
fit_any (b ∷ bs) h = (is_byte b h.0, fit_any bs h.1)

-- bytes that fit sets and lie at an address of a memory lie in the sets there
pub fit_in : (b : List ℕ) (ss : List Set) (m : Memory) (a : ℕ) → FitSets b ss → ((k : ℕ) → k < length b → m (a + k) ≡ slice_index b k) → AreIn m a ss
fit_in [] [] m a h new = tt
fit_in [] (s ∷ ss) m a h new = absurd h
fit_in (b ∷ bs) [] m a h new = absurd h
fit_in (b ∷ bs) (s ∷ ss) m a h new =
    let here : a ≡ a + 0 = omega arith in
    let is : m a ≡ b = ap m here ∙ new 0 (omega arith) in (
      rw is h.0,
      fit_in bs ss m (suc a) h.1 (λ k low. let next : suc a + k ≡ a + suc k = omega arith in ap m next ∙ new (suc k) (omega (arith, low))),
    )

-- ---- what is seen

-- what is known of a frame, whose static bytes as power would leave them are known by themselves under protection alone
pub record Seen (calls : List Call) (k : Known) (f : Frame) (public : List ℕ) : Type 0 where
  pub open_calls : AreOpen (dynamic_base + f.session) f.dt f.lb f.dyn calls
  pub holds : Holds k.bytes (frame_memory f public)
  pub compares : IsSo k.compare (frame_memory f public)
  pub keeps : f.protected ≡ true → (session : List ℕ) → AreBytes session → Holds k.kept (moment_memory f.fixed session)

settled_by : (s : Setting) (b : Bool) (calls : List Call) (k : Known) (f : Frame) (public : List ℕ) → f.protected ≡ b → length f.fixed ≡ static_size s → (f.protected ≡ false → f.pieces ≡ []) → Seen calls k f public
    → IsKnown (settled s b k) f public
settled_by s true calls k f public e size none seen = record { holds = seen.holds; compares = seen.compares; keeps = seen.keeps e }
settled_by s false calls k f public e size none seen =
    record {
      holds = seen.holds;
      compares = seen.compares;
      keeps = λ session d. within_holds 0 (static_size s) k.bytes (frame_memory f public) (moment_memory f.fixed session)
          (λ a low high. static_read f public session a (none e) (rw size high)) seen.holds;
    }

-- without protection what power leaves is what is read
pub settled_seen : (s : Setting) (calls : List Call) (k : Known) (f : Frame) (public : List ℕ) → length f.fixed ≡ static_size s → (f.protected ≡ false → f.pieces ≡ []) → Seen calls k f public → IsKnown (settled s f.protected k) f public
settled_seen s calls k f public size none seen = settled_by s f.protected calls k f public refl size none seen

-- what is known after n bytes at an address were written
abbrev pub known_written : ℕ → List Set → Known → Known
known_written a ss k = record { bytes = know_all a ss k.bytes; kept = k.kept; compare = touched a (length ss) k.compare }

-- a change of some bytes
pub seen_changed : (a : ℕ) (b : List ℕ) (ss : List Set) (calls more : List Call) (k : Known) (f g : Frame) (public segment : List ℕ) → FitSets b ss
    → SameBut a (length b) (frame_memory f public) (frame_memory g segment) → ((j : ℕ) → j < length b → frame_memory g segment (a + j) ≡ slice_index b j)
    → AreOpen (dynamic_base + g.session) g.dt g.lb g.dyn more → (g.protected ≡ true → (session : List ℕ) → AreBytes session → Holds k.kept (moment_memory g.fixed session))
    → Seen calls k f public → Seen more (known_written a ss k) g segment
seen_changed a b ss calls more k f g public segment fit same new open_calls keeps seen =
    let n : length ss ≡ length b = fit_length b ss fit in
    let but : SameBut a (length ss) (frame_memory f public) (frame_memory g segment) = rw n same in
    record {
      open_calls = open_calls;
      holds = written_holds a ss k.bytes (frame_memory f public) (frame_memory g segment) but (fit_in b ss (frame_memory g segment) a fit new) seen.holds;
      compares = touched_holds a (length ss) k.compare (frame_memory f public) (frame_memory g segment) but seen.compares;
      keeps = keeps;
    }

-- ---- open calls

meet_by : (x a n m : ℕ) (p q : Bool) → nat_lt x (a + m) ≡ p → nat_lt a (x + n) ≡ q → (p && q) ≡ false → (x + n ≤ a) ⊎ (a + m ≤ x)
meet_by x a n m p q e d h = grind (arith, ltb-false)

-- bytes that have none in common lie apart
pub lie_apart : (x n a m : ℕ) → meet x n a m ≡ false → (x + n ≤ a) ⊎ (a + m ≤ x)
lie_apart x n a m h = meet_by x a n m (nat_lt x (a + m)) (nat_lt a (x + n)) refl refl h

beside : (x i j n a m base : ℕ) → a ≡ base + j → x ≡ base + i → (x + 4 ≤ a) ⊎ (a + m ≤ x) → (k : ℕ) → k < 4 → (i + k < j) ⊎ (j + m ≤ i + k)
beside x i j n a m base at is o k low = grind arith

-- what a call has saved stays if it lies apart from what is written
saved_stays : (x a j : ℕ) (dyn b : List ℕ) → a ≡ dynamic_base + j → dynamic_base ≤ x → x + 4 ≤ dynamic_end → length dyn ≡ 512 → j + length b ≤ 512 → meet x 4 a (length b) ≡ false
    → take 4 (drop (x - dynamic_base) (splice dyn j b)) ≡ take 4 (drop (x - dynamic_base) dyn)
saved_stays x a j dyn b at low high room fits apart =
    let i = x - dynamic_base in
    let is : x ≡ dynamic_base + i = omega (arith, low) in
    let same : length (splice dyn j b) ≡ length dyn = length_splice dyn j b (omega (arith, room, fits)) in
    let o = lie_apart x 4 a (length b) apart in
    let four : window (splice dyn j b) i 4 ≡ window dyn i 4 = grind (arith, windows_same, index_beside, beside) in
    taken_is (splice dyn j b) i 4 (omega (arith, same, room, high)) ∙ (four ∙ sym (taken_is dyn i 4 (omega (arith, room, high))))

written_by : (x : Bool) (floor top lb : ℕ) (dyn after : List ℕ) (c : Call) (cs : List Call) → c.dt ≤ top → floor + 4 ≤ c.dt → c.dt ≡ lb
    → (x ≡ false → take 4 (drop (c.dt - 4 - dynamic_base) after) ≡ take 4 (drop (c.dt - 4 - dynamic_base) dyn)) → take 4 (drop (c.dt - 4 - dynamic_base) dyn) ≡ bytes2 c.lb ++ bytes2 c.at → (c.lb < 65536) × (c.at < 65536) → AreOpen floor (c.dt - 4) c.lb after cs
    → AreOpen floor top lb after (cond x [] (c ∷ cs))
written_by true floor top lb dyn after c cs p q r same saved few more = tt
written_by false floor top lb dyn after c cs p q r same saved few more = (p, q, r, same refl ∙ saved, few, more)

-- calls that are open stay so after bytes of the stack were written, as far as they lie apart
pub open_written : (floor top end lb a j : ℕ) (dyn b : List ℕ) (cs : List Call) → a ≡ dynamic_base + j → dynamic_base ≤ floor → top ≤ dynamic_end → top ≤ end → length dyn ≡ 512 → j + length b ≤ 512
    → AreOpen floor top lb dyn cs → AreOpen floor end lb (splice dyn j b) (calls_after_write a (length b) cs)
open_written floor top end lb a j dyn b [] at low high more room fits o = tt
open_written floor top end lb a j dyn b (c ∷ cs) at low high more room fits o =
    let under : c.dt ≤ top = o.0 in
    let over : floor + 4 ≤ c.dt = o.1 in
    written_by (meet (c.dt - 4) 4 a (length b)) floor end lb dyn (splice dyn j b) c (calls_after_write a (length b) cs) (omega (arith, under, more)) over o.2
    (λ apart. saved_stays (c.dt - 4) a j dyn b at (omega (arith, low, over)) (omega (arith, under, high, over, low)) room fits apart) o.3 o.4
    (open_written floor (c.dt - 4) (c.dt - 4) c.lb a j dyn b cs at low (omega (arith, under, high)) (omega arith) room fits o.5)

-- ---- the stack

-- bytes of the stack were written, below its top or as its new top
pub stack_seen : (a j d : ℕ) (b : List ℕ) (ss : List Set) (calls : List Call) (k : Known) (f : Frame) (public : List ℕ) → a ≡ dynamic_base + j → length f.fixed ≤ dynamic_base → length f.dyn ≡ 512 → f.dt ≤ dynamic_end → j + length b ≤ 512 → f.dt ≤ d
    → FitSets b ss → Seen calls k f public → Seen (calls_after_write a (length ss) calls) (known_written a ss k) (record f { dyn = splice f.dyn j b; dt = d }) public
stack_seen a j d b ss calls k f public at low room high fits more fit seen =
    let g : Frame = record f { dyn = splice f.dyn j b; dt = d } in
    let there : j ≤ length f.dyn = omega (arith, room, fits) in
    let n : length ss ≡ length b = fit_length b ss fit in
    seen_changed a b ss calls (calls_after_write a (length ss) calls) k f g public public fit
    (λ x o. dynamic_same (length f.fixed) (static_bytes f) f.dyn public b a j at there x o)
    (λ i less. dynamic_new (length f.fixed) (static_bytes f) f.dyn public b a j i at low there fits less)
    (rw n (open_written (dynamic_base + f.session) f.dt d f.lb a j f.dyn b calls at (omega arith) high more room fits seen.open_calls))
    seen.keeps seen

-- ---- the public segment

-- bytes of the public segment were written
pub public_seen : (a j : ℕ) (b : List ℕ) (ss : List Set) (calls : List Call) (k : Known) (f : Frame) (public : List ℕ) → a ≡ public_base + j → length f.fixed ≤ dynamic_base → j ≤ length public
    → FitSets b ss → Seen calls k f public → Seen (calls_after_write a (length ss) calls) (known_written a ss k) f (splice public j b)
public_seen a j b ss calls k f public at low there fit seen =
    seen_changed a b ss calls (calls_after_write a (length ss) calls) k f f public (splice public j b) fit
    (λ x o. public_same (length f.fixed) (static_bytes f) f.dyn public b a j at there x o)
    (λ i less. public_new (length f.fixed) (static_bytes f) f.dyn public b a j i at low there less)
    (open_before (λ (c : Call). meet (c.dt - 4) 4 a (length ss)) (dynamic_base + f.session) f.dt f.lb f.dyn calls seen.open_calls)
    seen.keeps seen

-- ---- static bytes

-- a piece more is laid over what the others leave
pub laid_more : (l : List ℕ) (ps : List (ℕ × List ℕ)) (a : ℕ) (b : List ℕ) → laid_pieces l (ps ++ (a, b) ∷ []) ≡ splice (laid_pieces l ps) a b
laid_more l [] a b = refl
laid_more l (p ∷ ps) a b = laid_more (splice l p.0 p.1) ps a b

-- static bytes were written, which another frame reads
pub static_seen : (a : ℕ) (b : List ℕ) (ss : List Set) (calls : List Call) (k : Known) (f : Frame) (fixed : List ℕ) (pieces : List (ℕ × List ℕ)) (public : List ℕ) → length fixed ≡ length f.fixed
    → laid_pieces fixed pieces ≡ splice (static_bytes f) a b → length (static_bytes f) ≡ length f.fixed → a + length b ≤ length f.fixed
    → (f.protected ≡ true → (session : List ℕ) → AreBytes session → Holds k.kept (moment_memory fixed session)) → FitSets b ss → Seen calls k f public
    → Seen (calls_after_write a (length ss) calls) (known_written a ss k) (record f { fixed = fixed; pieces = pieces }) public
static_seen a b ss calls k f fixed pieces public size is whole fits keeps fit seen =
    let g : Frame = record f { fixed = fixed; pieces = pieces } in
    let there : a ≤ length (static_bytes f) = omega (arith, whole, fits) in
    let memory : (x : ℕ) → parts_memory (length f.fixed) (splice (static_bytes f) a b) f.dyn public x ≡ frame_memory g public x = grind arith in
    seen_changed a b ss calls (calls_after_write a (length ss) calls) k f g public public fit
    (λ x o. static_same (length f.fixed) (static_bytes f) f.dyn public b a there x o ∙ memory x)
    (λ i less. sym (memory (a + i)) ∙ static_new (length f.fixed) (static_bytes f) f.dyn public b a i there fits less)
    (open_before (λ (c : Call). meet (c.dt - 4) 4 a (length ss)) (dynamic_base + f.session) f.dt f.lb f.dyn calls seen.open_calls)
    keeps seen

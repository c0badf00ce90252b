-- Each act of a row leads from a place that is seen to one that is seen: its key is that of the frame after the act, and
-- what is known is so.
use Rattle.std.proofs.Common.{◌≡◌, ℕ, zero, suc, ◌+◌, ◌-◌, ◌<◌, ◌≤◌, Bool, true, false, cond, List, [], ◌∷◌, ◌++◌, length, take, drop, Option, Some, None, refl, sym, ap, ◌∙◌, arith}
use Rattle.std.specs.Prelude.{◌&&◌, nat_lt, nat_le, is_none, slice_index, ⊤}
use Rattle.std.proofs.lemmas.Bool.{lt-ltb, ltb-true, leb-true}
use Rattle.model_prove.specs.model_device.specs.Bytes.{AreBytes, bytes2, splice}
use Rattle.model_prove.specs.model_device.specs.Card.{App}
use Rattle.model_prove.specs.model_device.specs.Pieces.{laid_pieces}
use Rattle.model_prove.specs.model_device.proofs.ImageLemmas.{all_append}
use Rattle.model_prove.specs.model_device.proofs.ListLemmas.{length_splice, splice_longer}
use Rattle.model_prove.specs.model_machine.specs.Frame.{Frame, Effect, Place, Static, Dynamic, Public, where_is, dynamic_base, dynamic_end, public_base, public_end, static_written, write_effect_at, write_effect}
use Rattle.law_rules.specs.law_bytes.specs.law_rows.specs.Keeping.{PiecesWithin}
use Rattle.model_prove.specs.model_machine.specs.Shapes as shapes
use Rattle.model_prove.specs.model_machine.specs.Shapes.{Stays, Answers, Jumps, Calls, Pushes, Replaces, Writes, act_effect, with_status, with_length}
use Rattle.law_rules.specs.law_bytes.specs.law_rows.proofs.Keeping.{length_laid}
use Rattle.model_prove.specs.model_rules.specs.Keeping.{Amounts}
use Rattle.model_prove.specs.Sets.{Set, is_in}
use Rattle.model_prove.specs.Facts.{Facts, Memory, Holds}
use Rattle.model_prove.specs.Keys.{Start, Call, PlaceKey, Known, calls_after_write, calls_below}
use Rattle.model_prove.specs.Laws.{HoldsBytes}
use Rattle.model_prove.specs.Arrivals.{Setting, static_size, settled, la_at}
use Rattle.model_prove.specs.Steps.{Spot, sets, lowered, acted, with_flags, settled_spot, makes_write}
use Rattle.model_prove.proofs.CompareLemmas.{touched_holds}
use Rattle.law_prove.specs.Coverings.{moment_memory, IsKnown}
use Rattle.law_prove.proofs.Windows.{window, windows_same, taken_is, index_within}
use Rattle.law_prove.proofs.Spots.{place_key, Covers}
use Rattle.law_prove.proofs.Known.{filter_holds, open_below}
use Rattle.law_prove.proofs.Seen.{FitSets, fit_length, fit_sets, Seen, settled_seen, known_written, stack_seen, public_seen, static_seen, laid_more}
use Rattle.model_prove.specs.model_device.proofs.BoolLemmas.{and_first, and_second}

-- a spot of a frame
abbrev pub spot_of : Start → Amounts → Frame → List Call → Known → Spot
spot_of st al f calls k = record { key = place_key st al f calls; known = k }

-- A frame of the application, of whatever numbers.
pub record Framed (a : App) (f : Frame) : Type 0 where
  pub code : f.code_len ≡ length a.code
  pub deny : f.deny ≡ a.deny
  pub session : f.session ≡ a.session
  pub size : length f.fixed ≡ length a.fixed
  pub room : length f.dyn ≡ 512
  pub inside : PiecesWithin (length f.fixed) f.pieces
  pub settled : f.protected ≡ false → f.pieces ≡ []
  pub low : dynamic_base + f.session ≤ f.dt
  pub high : f.dt ≤ dynamic_end
  pub base : f.lb < 65536

-- a change is one of a row that makes a write
abbrev pub WritesIf : Bool → Option (List (ℕ × List ℕ)) → Type 0
WritesIf w None = ⊤
WritesIf w (Some ps) = w ≡ true

-- A spot has the registers of the frame after an effect, and what it knows is so.
pub record Led (s : Setting) (st : Start) (al : Amounts) (r : Spot) (w : Bool) (e : Effect) : Type 0 where
  pub key : r.key ≡ place_key st al e.frame r.key.calls
  pub seen : Seen r.key.calls r.known e.frame e.public
  pub framed : Framed s.app e.frame
  pub writes : WritesIf w e.changes

-- ---- places

-- where n bytes at an address lie
abbrev pub LiesIn : Frame → ℕ → ℕ → Place → Type 0
LiesIn f a n (Static i) = (a ≡ i) × (a + n ≤ length f.fixed)
LiesIn f a n (Dynamic i) = (a ≡ dynamic_base + i) × (a + n ≤ f.dt)
LiesIn f a n (Public i) = (a ≡ public_base + i) × (a + n ≤ public_end)

lies_by : (f : Frame) (a n : ℕ) (x y z : Bool) (p : Place) → nat_le (a + n) (length f.fixed) ≡ x → (nat_le dynamic_base a && nat_le (a + n) f.dt) ≡ y → (nat_le public_base a && nat_le (a + n) public_end) ≡ z
    → cond x (Some (Static a)) (cond y (Some (Dynamic (a - dynamic_base))) (cond z (Some (Public (a - public_base))) None)) ≡ Some p → LiesIn f a n p
lies_by f a n true y z p e d b is = grind (arith, leb-true)
lies_by f a n false true z p e d b is =
    grind (arith, leb-true dynamic_base a (and_first (nat_le dynamic_base a) (nat_le (a + n) f.dt) d), leb-true (a + n) f.dt (and_second (nat_le dynamic_base a) (nat_le (a + n) f.dt) d))
lies_by f a n false false true p e d b is =
    grind (arith, leb-true public_base a (and_first (nat_le public_base a) (nat_le (a + n) public_end) b), leb-true (a + n) public_end (and_second (nat_le public_base a) (nat_le (a + n) public_end) b))
lies_by f a n false false false p e d b is = absurd (cc is)

-- bytes that `where_is` places lie in that segment
pub lies_in : (f : Frame) (a n : ℕ) (p : Place) → where_is f a n ≡ Some p → LiesIn f a n p
lies_in f a n p is =
    lies_by f a n (nat_le (a + n) (length f.fixed)) (nat_le dynamic_base a && nat_le (a + n) f.dt) (nat_le public_base a && nat_le (a + n) public_end) p refl refl refl is

-- ---- what was pushed

window_of : (b : List ℕ) → window b 0 (length b) ≡ b
window_of b = sym (taken_is b 0 (length b) (omega arith)) ∙ whole b
  where
    whole : (b : List ℕ) → take (length b) (drop 0 b) ≡ b
    whole [] = refl
    whole (x ∷ b) = ap (λ (t : List ℕ). x ∷ t) (whole b)

-- what was written is there
pub written_there : (l : List ℕ) (j : ℕ) (b : List ℕ) → j + length b ≤ length l → take (length b) (drop j (splice l j b)) ≡ b
written_there l j b fits =
    let size : length (splice l j b) ≡ length l = length_splice l j b fits in
    taken_is (splice l j b) j (length b) (omega (arith, size, fits))
    ∙ (windows_same (splice l j b) b j 0 (length b) (λ k low. let place : k ≡ 0 + k = omega arith in index_within l j b k (omega (arith, fits)) low ∙ ap (λ (i : ℕ). slice_index b i) place) ∙ window_of b)

-- ---- kept facts

-- facts that hold of static bytes whatever else is there hold of each memory of bytes that has them
kept_one : (fixed : List ℕ) (m : Memory) (a : ℕ) (x : Set) (b : Bool) → nat_lt a (length fixed) ≡ b → (a < length fixed → m a ≡ slice_index fixed a) → m a < 256
    → ((session : List ℕ) → AreBytes session → is_in (moment_memory fixed session a) x ≡ true) → is_in (m a) x ≡ true
kept_one fixed m a x true e same byte h =
    let is : moment_memory fixed [] a ≡ m a = ap (λ (b : Bool). cond b (slice_index fixed a) (slice_index [] (a - dynamic_base))) e ∙ sym (same (ltb-true a (length fixed) e)) in
    rw (← is) (h [] tt)
kept_one fixed m a x false e same byte h =
    let i = a - dynamic_base in
    let session : List ℕ = padded i (m a) in
    let is : moment_memory fixed session a ≡ m a = ap (λ (b : Bool). cond b (slice_index fixed a) (slice_index session i)) e ∙ padded_at i (m a) in
    rw (← is) (h session (padded_bytes i (m a) byte))
  where
    padded : ℕ → ℕ → List ℕ
    padded zero v = v ∷ []
    padded (suc i) v = 0 ∷ padded i v

    padded_at : (i v : ℕ) → slice_index (padded i v) i ≡ v
    padded_at zero v = refl
    padded_at (suc i) v = padded_at i v

    padded_bytes : (i v : ℕ) → v < 256 → AreBytes (padded i v)
    padded_bytes zero v h = (h, tt)
    padded_bytes (suc i) v h = (omega arith, padded_bytes i v h)

-- facts that hold of each state that power may leave hold of a memory with its static bytes
pub kept_holds : (fixed : List ℕ) (m : Memory) (f : Facts) → ((a : ℕ) → a < length fixed → m a ≡ slice_index fixed a) → HoldsBytes m
    → ((session : List ℕ) → AreBytes session → Holds f (moment_memory fixed session)) → Holds f m
kept_holds fixed m [] same bytes h = tt
kept_holds fixed m (e ∷ f) same bytes h =
    (kept_one fixed m e.0 e.1 (nat_lt e.0 (length fixed)) refl (same e.0) (bytes e.0) (λ session d. (h session d).0), kept_holds fixed m f same bytes (λ session d. (h session d).1))

-- ---- acts

moved_seen : (calls : List Call) (k : Known) (f : Frame) (public : List ℕ) (to : ℕ) → Seen calls k f public → Seen calls k (record f { at = to }) public
moved_seen calls k f public to seen = record { open_calls = seen.open_calls; holds = seen.holds; compares = seen.compares; keeps = seen.keeps }

module _ (s : Setting) (small : static_size s ≤ dynamic_base) (st : Start) (al : Amounts) where
  -- nothing happens, or the code goes on elsewhere
  pub stays_led : (f : Frame) (public : List ℕ) (calls : List Call) (k : Known) (ss : List Set) → Framed s.app f → Seen calls k f public
      → Led s st al (acted s Stays ss (spot_of st al f calls k)) (makes_write s f.protected Stays) (act_effect Stays f public)
  stays_led f public calls k ss framed seen = record { key = refl; seen = seen; framed = framed; writes = tt }

  -- a jump, taken or not, leads to what is seen
  pub jumps_led : (f : Frame) (public : List ℕ) (calls : List Call) (k : Known) (ss : List Set) (taken : Bool) (to : ℕ) → Framed s.app f → Seen calls k f public
      → Led s st al (acted s (Jumps taken to) ss (spot_of st al f calls k)) (makes_write s f.protected (Jumps taken to)) (act_effect (Jumps taken to) f public)
  jumps_led f public calls k ss true to framed seen =
      record {
        key = refl;
        seen = moved_seen calls k f public to seen;
        framed = record { code = framed.code; deny = framed.deny; session = framed.session; size = framed.size; room = framed.room; inside = framed.inside; settled = framed.settled; low = framed.low; high = framed.high; base = framed.base };
        writes = tt;
      }
  jumps_led f public calls k ss false to framed seen = record { key = refl; seen = seen; framed = framed; writes = tt }

  -- ---- answers

  fits_small : (f : Frame) → Framed s.app f → length f.fixed ≤ dynamic_base
  fits_small f framed = let size : length f.fixed ≡ length s.app.fixed = framed.size in omega (arith, size, small)

  status_seen : (f : Frame) (public : List ℕ) (calls : List Call) (k : Known) (sw : ℕ) → Framed s.app f → 1041 ≤ length public → Seen calls k f public
      → Seen (calls_after_write (la_at + 2) 2 calls) (known_written (la_at + 2) (sets (bytes2 sw)) k) f (with_status (Some sw) public)
  status_seen f public calls k sw framed whole seen =
      public_seen (la_at + 2) 1039 (bytes2 sw) (sets (bytes2 sw)) calls k f public refl (fits_small f framed) (omega (arith, whole)) (fit_sets (bytes2 sw)) seen

  reply_seen : (f : Frame) (public : List ℕ) (calls : List Call) (k : Known) (la : ℕ) → Framed s.app f → 1041 ≤ length public → Seen calls k f public
      → Seen (calls_after_write la_at 2 calls) (known_written la_at (sets (bytes2 la)) k) f (with_length (Some la) public)
  reply_seen f public calls k la framed whole seen =
      public_seen la_at 1037 (bytes2 la) (sets (bytes2 la)) calls k f public refl (fits_small f framed) (omega (arith, whole)) (fit_sets (bytes2 la)) seen

  -- an act that sets the status and length of the reply leads to what is seen
  pub answers_led : (f : Frame) (public : List ℕ) (calls : List Call) (k : Known) (ss : List Set) (sw la : Option ℕ) → 1041 ≤ length public → Framed s.app f → Seen calls k f public
      → Led s st al (acted s (Answers sw la) ss (spot_of st al f calls k)) (makes_write s f.protected (Answers sw la)) (act_effect (Answers sw la) f public)
  answers_led f public calls k ss None None whole framed seen = record { key = refl; seen = seen; framed = framed; writes = tt }
  answers_led f public calls k ss (Some sw) None whole framed seen = record { key = refl; seen = status_seen f public calls k sw framed whole seen; framed = framed; writes = tt }
  answers_led f public calls k ss None (Some la) whole framed seen = record { key = refl; seen = reply_seen f public calls k la framed whole seen; framed = framed; writes = tt }
  answers_led f public calls k ss (Some sw) (Some la) whole framed seen =
      let longer : length public ≤ length (splice public 1039 (bytes2 sw)) = splice_longer public 1039 (bytes2 sw) in
      record {
        key = refl;
        seen = reply_seen f (with_status (Some sw) public) (calls_after_write (la_at + 2) 2 calls) (known_written (la_at + 2) (sets (bytes2 sw)) k) la framed (omega (arith, whole, longer)) (status_seen f public calls k sw framed whole seen);
        framed = framed;
        writes = tt;
      }

  -- ---- the stack

  -- a frame with other bytes of the stack, and with its top in its bounds
  stacked : (f : Frame) (j d : ℕ) (b : List ℕ) → Framed s.app f → j + length b ≤ 512 → dynamic_base + f.session ≤ d → d ≤ dynamic_end → Framed s.app (record f { dyn = splice f.dyn j b; dt = d })
  stacked f j d b framed fits low high =
      let room : length f.dyn ≡ 512 = framed.room in
      record {
        code = framed.code;
        deny = framed.deny;
        session = framed.session;
        size = framed.size;
        room = length_splice f.dyn j b (omega (arith, room, fits)) ∙ room;
        inside = framed.inside;
        settled = framed.settled;
        low = low;
        high = high;
        base = framed.base;
      }

  -- a push for which there is room leads to what is seen
  pub pushes_led : (f : Frame) (public : List ℕ) (calls : List Call) (k : Known) (b : List ℕ) (ss : List Set) → FitSets b ss → f.dt + length b ≤ dynamic_end → Framed s.app f → Seen calls k f public
      → Led s st al (acted s (Pushes b) ss (spot_of st al f calls k)) (makes_write s f.protected (Pushes b)) (act_effect (Pushes b) f public)
  pushes_led f public calls k b ss fit over framed seen =
      let low : dynamic_base + f.session ≤ f.dt = framed.low in
      let high : f.dt ≤ dynamic_end = framed.high in
      let j = f.dt - dynamic_base in
      let at : f.dt ≡ dynamic_base + j = omega (arith, low) in
      let fits : j + length b ≤ 512 = omega (arith, over, low) in
      record {
        key = ap (λ (n : ℕ). record (place_key st al f (calls_after_write f.dt (length ss) calls)) { dt = f.dt + n }) (fit_length b ss fit);
        seen = stack_seen f.dt j (f.dt + length b) b ss calls k f public at (fits_small f framed) framed.room high fits (omega arith) fit seen;
        framed = stacked f j (f.dt + length b) b framed fits (omega (arith, low)) over;
        writes = tt;
      }

  -- an act that replaces the top bytes of the stack leads to what is seen
  pub replaces_led : (f : Frame) (public : List ℕ) (calls : List Call) (k : Known) (b : List ℕ) (ss : List Set) → FitSets b ss → dynamic_base + length b ≤ f.dt → Framed s.app f → Seen calls k f public
      → Led s st al (acted s (Replaces b) ss (spot_of st al f calls k)) (makes_write s f.protected (Replaces b)) (act_effect (Replaces b) f public)
  replaces_led f public calls k b ss fit over framed seen =
      let high : f.dt ≤ dynamic_end = framed.high in
      let n : length ss ≡ length b = fit_length b ss fit in
      let j = f.dt - length b - dynamic_base in
      let at : f.dt - length ss ≡ dynamic_base + j = omega (arith, over, n) in
      let fits : j + length b ≤ 512 = omega (arith, over, high) in
      record {
        key = refl;
        seen = stack_seen (f.dt - length ss) j f.dt b ss calls k f public at (fits_small f framed) framed.room high fits (omega arith) fit seen;
        framed = stacked f j f.dt b framed fits framed.low high;
        writes = tt;
      }

  called_seen : (f : Frame) (public : List ℕ) (calls : List Call) (k : Known) (to : ℕ) → f.dt + 4 ≤ dynamic_end → f.at < 65536 → Framed s.app f → Seen calls k f public
      → Led s st al (acted s (Calls true to) [] (spot_of st al f calls k)) false (act_effect (Calls true to) f public)
  called_seen f public calls k to over placed framed seen =
      let low : dynamic_base + f.session ≤ f.dt = framed.low in
      let high : f.dt ≤ dynamic_end = framed.high in
      let room : length f.dyn ≡ 512 = framed.room in
      let j = f.dt - dynamic_base in
      let b = bytes2 f.lb ++ bytes2 f.at in
      let at : f.dt ≡ dynamic_base + j = omega (arith, low) in
      let fits : j + 4 ≤ 512 = omega (arith, over, low) in
      let same : f.dt + 4 - 4 ≡ f.dt = omega arith in
      let place : f.dt + 4 - 4 - dynamic_base ≡ j = omega arith in
      let pushed : Seen (calls_after_write f.dt 4 calls) (known_written f.dt (sets b) k) (record f { dyn = splice f.dyn j b; dt = f.dt }) public =
      stack_seen f.dt j f.dt b (sets b) calls k f public at (fits_small f framed) framed.room high fits (omega arith) (fit_sets b) seen
      in
      let there : take 4 (drop j (splice f.dyn j b)) ≡ b = written_there f.dyn j b (omega (arith, fits, room)) in
      let one : Framed s.app (record f { dyn = splice f.dyn j b; dt = f.dt + 4 }) = stacked f j (f.dt + 4) b framed fits (omega (arith, low)) over in
      record {
        key = refl;
        seen = grind (arith, low, framed);
        framed = record { code = one.code; deny = one.deny; session = one.session; size = one.size; room = one.room; inside = one.inside; settled = one.settled; low = one.low; high = one.high; base = omega (arith, over) };
        writes = tt;
      }

  -- a call, taken or not, leads to what is seen
  pub calls_led : (f : Frame) (public : List ℕ) (calls : List Call) (k : Known) (ss : List Set) (taken : Bool) (to : ℕ) → (taken ≡ true → f.dt + 4 ≤ dynamic_end) → f.at < 65536 → Framed s.app f → Seen calls k f public
      → Led s st al (acted s (Calls taken to) ss (spot_of st al f calls k)) (makes_write s f.protected (Calls taken to)) (act_effect (Calls taken to) f public)
  calls_led f public calls k ss true to over placed framed seen = called_seen f public calls k to (over refl) placed framed seen
  calls_led f public calls k ss false to over placed framed seen = record { key = refl; seen = seen; framed = framed; writes = tt }

  -- ---- writes

  static_led : (p : Bool) (f : Frame) (public : List ℕ) (calls : List Call) (k : Known) (a n : ℕ) (b : List ℕ) (ss : List Set) → f.protected ≡ p → FitSets b ss → 0 < length b → a + length b ≤ length f.fixed → Framed s.app f → Seen calls k f public
      → Led s st al (acted s (Writes a n b) ss (spot_of st al f calls k)) (makes_write s p (Writes a n b)) (static_written p f public a b)
  static_led false f public calls k a n b ss e fit some fits framed seen =
      let none : f.pieces ≡ [] = framed.settled e in
      let size : length (splice f.fixed a b) ≡ length f.fixed = length_splice f.fixed a b fits in
      let all : length f.fixed ≡ length s.app.fixed = framed.size in
      record {
        key = refl;
        seen = static_seen a b ss calls k f (splice f.fixed a b) f.pieces public size
            (ap (λ (ps : List (ℕ × List ℕ)). laid_pieces (splice f.fixed a b) ps) none ∙ sym (ap (λ (ps : List (ℕ × List ℕ)). splice (laid_pieces f.fixed ps) a b) none))
            (length_laid f.pieces f.fixed framed.inside) fits (λ on. absurd (cc (sym e ∙ on))) fit seen;
        framed = record {
          code = framed.code;
          deny = framed.deny;
          session = framed.session;
          size = size ∙ all;
          room = framed.room;
          inside = rw none tt;
          settled = λ off. none;
          low = framed.low;
          high = framed.high;
          base = framed.base;
        };
        writes = lt-ltb a (length s.app.fixed) (omega (arith, some, fits, all));
      }
  static_led true f public calls k a n b ss e fit some fits framed seen =
      record {
        key = refl;
        seen = static_seen a b ss calls k f f.fixed (f.pieces ++ (a, b) ∷ []) public refl (laid_more f.fixed f.pieces a b) (length_laid f.pieces f.fixed framed.inside) fits seen.keeps fit seen;
        framed = record {
          code = framed.code;
          deny = framed.deny;
          session = framed.session;
          size = framed.size;
          room = framed.room;
          inside = all_append (λ p. p.0 + length p.1 ≤ length f.fixed) f.pieces ((a, b) ∷ []) framed.inside (fits, tt);
          settled = λ off. absurd (cc (sym e ∙ off));
          low = framed.low;
          high = framed.high;
          base = framed.base;
        };
        writes = tt;
      }

  written_led : (f : Frame) (public : List ℕ) (calls : List Call) (k : Known) (a n : ℕ) (b : List ℕ) (ss : List Set) (o : Option Place) → where_is f a (length b) ≡ o → is_none o ≡ false → FitSets b ss → 0 < length b → 1041 ≤ length public
      → Framed s.app f → Seen calls k f public → Led s st al (acted s (Writes a n b) ss (spot_of st al f calls k)) (makes_write s f.protected (Writes a n b)) (write_effect_at f public b o)
  written_led f public calls k a n b ss None is there fit some whole framed seen = absurd (cc there)
  written_led f public calls k a n b ss (Some (Static i)) is there fit some whole framed seen =
      let lies : LiesIn f a (length b) (Static i) = lies_in f a (length b) (Static i) is in
      rw (← lies.0) (static_led f.protected f public calls k a n b ss refl fit some lies.1 framed seen)
  written_led f public calls k a n b ss (Some (Dynamic i)) is there fit some whole framed seen =
      let lies : LiesIn f a (length b) (Dynamic i) = lies_in f a (length b) (Dynamic i) is in
      let at : a ≡ dynamic_base + i = lies.0 in
      let under : a + length b ≤ f.dt = lies.1 in
      let high : f.dt ≤ dynamic_end = framed.high in
      let fits : i + length b ≤ 512 = omega (arith, at, under, high) in
      record {
        key = refl;
        seen = stack_seen a i f.dt b ss calls k f public at (fits_small f framed) framed.room high fits (omega arith) fit seen;
        framed = stacked f i f.dt b framed fits framed.low high;
        writes = tt;
      }
  written_led f public calls k a n b ss (Some (Public i)) is there fit some whole framed seen =
      let lies : LiesIn f a (length b) (Public i) = lies_in f a (length b) (Public i) is in
      let at : a ≡ public_base + i = lies.0 in
      let under : a + length b ≤ public_end = lies.1 in
      record {
        key = refl;
        seen = public_seen a i b ss calls k f public at (fits_small f framed) (omega (arith, at, under, whole)) fit seen;
        framed = framed;
        writes = tt;
      }

  -- a write into any of the segments leads to what is seen
  pub writes_led : (f : Frame) (public : List ℕ) (calls : List Call) (k : Known) (a n : ℕ) (b : List ℕ) (ss : List Set) → is_none (where_is f a (length b)) ≡ false → FitSets b ss → 0 < length b → 1041 ≤ length public → Framed s.app f → Seen calls k f public
      → Led s st al (acted s (Writes a n b) ss (spot_of st al f calls k)) (makes_write s f.protected (Writes a n b)) (act_effect (Writes a n b) f public)
  unfolding write_effect
  writes_led f public calls k a n b ss there fit some whole framed seen = written_led f public calls k a n b ss (where_is f a (length b)) refl there fit some whole framed seen

-- ---- flags, and what power leaves

-- flags that are set after an act lead to what is seen
pub flags_led : (s : Setting) (st : Start) (al : Amounts) (r : Spot) (w : Bool) (e : Effect) (o : Option (Bool × Bool)) → Led s st al r w e → Led s st al (with_flags o r) w (shapes.with_flags o e)
flags_led s st al r w e None led = led
flags_led s st al r w e (Some cz) led = grind (arith, led.seen, led.framed)

-- what is led to covers the frame
pub led_covers : (s : Setting) (st : Start) (al : Amounts) (r : Spot) (w : Bool) (e : Effect) → Led s st al r w e → Covers (settled_spot s r) e.frame e.public
led_covers s st al r w e led =
    let protected : e.frame.protected ≡ r.key.protected = sym (ap (λ (k : PlaceKey). k.protected) led.key) in
    let start : st ≡ r.key.start = sym (ap (λ (k : PlaceKey). k.start) led.key) in
    let known : IsKnown (settled s r.key.protected r.known) e.frame e.public =
    rw (← protected) (settled_seen s r.key.calls r.known e.frame e.public led.framed.size led.framed.settled led.seen)
    in
    record {
      key = λ a. ap (λ (k : PlaceKey). record k { allowances = a }) led.key ∙ ap (λ (z : Start). place_key z a e.frame r.key.calls) start;
      open_calls = led.seen.open_calls;
      holds = known.holds;
      compares = known.compares;
      keeps = known.keeps;
    }

-- ---- fewer bytes of the stack

-- what is known stays seen when DT is lowered
pub lowered_seen : (d : ℕ) (st : Start) (al : Amounts) (f : Frame) (public : List ℕ) (calls : List Call) (k : Known) → Seen calls k f public
    → Seen (calls_below d calls) (lowered d (spot_of st al f calls k)).known (record f { dt = d }) public
lowered_seen d st al f public calls k seen = grind (arith, open_below, filter_holds, touched_holds)

-- A command that is sent to the selected application begins its frame in a place that closed tables have.
use Rattle.std.proofs.Common.{◌≡◌, inl, inr, ℕ, ◌+◌, ◌-◌, ◌/◌, ◌%◌, ◌<◌, ◌≤◌, Bool, true, List, [], ◌∷◌, ◌++◌, length, None, Ok, refl, sym, ap, subst, ◌∙◌, arith}
use Rattle.std.specs.Prelude.{flat_map, slice_index}
use Rattle.std.proofs.lemmas.Bool.{lt-ltb}
use Rattle.std.proofs.lemmas.List.{length-replicate, length-append, take_at, get_or_append_left, get_or-append_right}
use Rattle.law_prove.specs.model_device.specs.Bytes.{AreBytes, zeros}
use Rattle.law_prove.specs.model_machine.specs.Apdu.{ApduParts}
use Rattle.law_prove.specs.model_machine.specs.Frame.{Frame, dynamic_base, public_base, new_frame, new_public, session_of}
use Rattle.law_prove.specs.model_card.specs.Manager.{ToApplication, route}
use Rattle.law_prove.specs.law_bytes.specs.OfChains.{IsByteCommand}
use Rattle.law_prove.specs.law_bytes.proofs.ByteLists.{joined, zero_bytes}
use Rattle.law_prove.specs.law_bytes.proofs.ChainBytes.{command_bytes}
use Rattle.law_prove.specs.law_promise.specs.Outline.{BySelection}
use Rattle.law_prove.specs.law_promise.proofs.PublicBytes.{words_of, front_of, front_size}
use Rattle.law_prove.specs.model_rules.specs.Rules.{Target}
use Rattle.law_prove.specs.model_rules.specs.Happenings.{History, Commanded}
use Rattle.law_prove.specs.model_rules.specs.Keeping.{Amounts, Standing, standing_after}
use Rattle.law_prove.specs.model_prove.specs.Sets.{Set, is_in}
use Rattle.law_prove.specs.model_prove.specs.Facts.{Facts, Memory, Holds, know, know_all, know_bytes}
use Rattle.law_prove.specs.model_prove.specs.Compares.{NoCompare}
use Rattle.law_prove.specs.model_prove.specs.Keys.{OfClass, Tables}
use Rattle.law_prove.specs.model_prove.specs.Laws.{AreIn, HoldsBytes}
use Rattle.law_prove.specs.model_prove.specs.Arrivals.{Setting, Arrival, static_size, arrive, idle, after_command, after_session}
use Rattle.law_prove.specs.model_prove.specs.Between.{Class, classes, selected, continued, commanded, begun, first_place, header_at, public_facts, static_facts, own_facts}
use Rattle.law_prove.specs.model_prove.specs.Steps.{Spot}
use Rattle.law_prove.specs.model_rules.specs.Loadable.{IsLoadable}
use Rattle.law_prove.specs.model_prove.specs.Tables.{includes_all, is_closed}
use Rattle.law_prove.specs.model_prove.proofs.ChangeLemmas.{written_holds}
use Rattle.law_prove.specs.model_prove.proofs.SetLemmas.{is_between}
use Rattle.law_prove.specs.Coverings.{moment_memory, IsMoment, frame_memory, class_of, IsFrameOf, IsPlace}
use Rattle.law_prove.proofs.Closed.{included_first, included_second, Arrives, arrives, moment_closed}
use Rattle.law_prove.proofs.Moments.{within_holds, zero_at, bytes_in}
use Rattle.law_prove.proofs.Parts.{memory_static, memory_public}
use Rattle.law_prove.proofs.Picks.{commanded_is}
use Rattle.law_prove.proofs.Places.{holds_both, session_same}
use Rattle.law_prove.proofs.Seen.{FitSets, fit_in}
use Rattle.law_prove.proofs.Spots.{Covers, spot_arrives}
use Rattle.law_prove.proofs.Turns.{memory_of_bytes}
use Rattle.law_prove_closed.specs.CommandLaws.{HasClass, BeginLaw}
use Rattle.law_prove_closed.proofs.Routes.{IsRead, read_of}
use Rattle.law_prove_closed.proofs.Classes.{class_law}

-- ---- the outcome of a class

-- a class of some, with these matches, of whose sets are some bytes, with what its outcomes are
record Chosen (f : Class → List Arrival) (t : Tables) (m : List Bool) (bs : List ℕ) : Type 0 where
  class : Class
  is : class.matches ≡ m
  are : FitSets bs class.sets
  outcomes : includes_all t (f class) ≡ true

chosen_in : (f : Class → List Arrival) (t : Tables) (m : List Bool) (bs : List ℕ) (cs : List Class) → HasClass m bs cs → includes_all t (flat_map f cs) ≡ true → Chosen f t m bs
chosen_in f t m bs [] h e = absurd h
chosen_in f t m bs (c ∷ cs) h e =
    elim h [
      | inl x ↦ record { class = c; is = x.0; are = x.1; outcomes = included_first t (f c) (flat_map f cs) e }
      | inr more ↦ chosen_in f t m bs cs more (included_second t (f c) (flat_map f cs) e)
    ]

-- a command leaves what its lines do
commanded_stands : (s : Setting) (h : History) (bytes : List ℕ) (class : List Bool) (x : Standing) (b : Amounts) → class ≡ class_of bytes s.rules.ons → standing_after s.rules h ≡ Ok x
    → after_command s class x.allowances ≡ Ok b → standing_after s.rules (Commanded bytes ∷ h) ≡ Ok (record x { allowances = b })
commanded_stands s h bytes class x b same is e = grind (arith, commanded_is)

-- ---- the public segment

-- the last 13 bytes of a command's public segment
word_at : (a : ApduParts) (k : ℕ) → length a.body ≤ 1024 → slice_index (new_public a) (1028 + k) ≡ slice_index (words_of a) k
word_at a k few = grind (arith, get_or-append_right, front_of, words_of, front_size)

-- and the four before them
zero_before : (a : ApduParts) (j : ℕ) → length a.body ≤ 1024 → j < 4 → slice_index (new_public a) (1024 + j) ≡ 0
zero_before a j few low = grind (arith, front_size, get_or_append_left, front_of, words_of, get_or-append_right, zero_at)

-- the header comes first
header_index : (a : ApduParts) (k : ℕ) → k < 4 → slice_index (words_of a) k ≡ slice_index (a.cla ∷ a.ins ∷ a.p1 ∷ a.p2 ∷ []) k
header_index a k h = grind arith

-- La 0000 and SW 9000
status_index : (a : ApduParts) (k : ℕ) → k < 4 → slice_index (words_of a) (9 + k) ≡ slice_index (0 ∷ 0 ∷ 0x90 ∷ 0 ∷ []) k
status_index a k h = grind arith

module _ (a : ApduParts) (m : Memory) (few : length a.body ≤ 1024) (public : (i : ℕ) → m (public_base + i) ≡ slice_index (new_public a) i) where
  -- a byte of the header and what follows it
  header_byte : (k : ℕ) → m (header_at + k) ≡ slice_index (words_of a) k
  header_byte k =
      let place : header_at + k ≡ public_base + (1028 + k) = omega arith in
      ap m place ∙ (public (1028 + k) ∙ word_at a k few)

  -- the facts of a command's public bytes hold of it
  public_hold : (sets : List Set) (f : Facts) → FitSets (a.cla ∷ a.ins ∷ a.p1 ∷ a.p2 ∷ []) sets → Holds f m → Holds (public_facts sets f) m
  public_hold sets f fit h =
      let last : AreIn m (header_at + 9) ((0 ∷ []) ∷ (0 ∷ []) ∷ (0x90 ∷ []) ∷ (0 ∷ []) ∷ []) =
      bytes_in (0 ∷ 0 ∷ 0x90 ∷ 0 ∷ []) (header_at + 9) m (λ j low.
      let place : header_at + 9 + j ≡ header_at + (9 + j) = omega arith in
      ap m place ∙ (header_byte (9 + j) ∙ status_index a j low))
      in
      let one : Holds (know_bytes (header_at + 9) (0 ∷ 0 ∷ 0x90 ∷ 0 ∷ []) f) m = written_holds (header_at + 9) ((0 ∷ []) ∷ (0 ∷ []) ∷ (0x90 ∷ []) ∷ (0 ∷ []) ∷ []) f m m (λ b outside. refl) last h in
      let length_byte : m (header_at + 5) ≡ length a.body / 256 % 256 = header_byte 5 in
      let high : is_in (m (header_at + 5)) (0 ∷ 1 ∷ 2 ∷ 3 ∷ 4 ∷ []) ≡ true = is_between (m (header_at + 5)) 0 5 (omega arith) (omega (arith, length_byte, few)) in
      let two : Holds (know (header_at + 5) (0 ∷ 1 ∷ 2 ∷ 3 ∷ 4 ∷ []) (know_bytes (header_at + 9) (0 ∷ 0 ∷ 0x90 ∷ 0 ∷ []) f)) m =
      written_holds (header_at + 5) ((0 ∷ 1 ∷ 2 ∷ 3 ∷ 4 ∷ []) ∷ []) (know_bytes (header_at + 9) (0 ∷ 0 ∷ 0x90 ∷ 0 ∷ []) f) m m (λ b outside. refl) (high, tt) one
      in
      let three : Holds (know_all header_at sets (know (header_at + 5) (0 ∷ 1 ∷ 2 ∷ 3 ∷ 4 ∷ []) (know_bytes (header_at + 9) (0 ∷ 0 ∷ 0x90 ∷ 0 ∷ []) f))) m =
      written_holds header_at sets (know (header_at + 5) (0 ∷ 1 ∷ 2 ∷ 3 ∷ 4 ∷ []) (know_bytes (header_at + 9) (0 ∷ 0 ∷ 0x90 ∷ 0 ∷ []) f)) m m (λ b outside. refl)
      (fit_in (a.cla ∷ a.ins ∷ a.p1 ∷ a.p2 ∷ []) sets m header_at fit (λ k low. header_byte k ∙ header_index a k low)) two
      in
      written_holds (header_at - 4) ((0 ∷ []) ∷ (0 ∷ []) ∷ (0 ∷ []) ∷ (0 ∷ []) ∷ [])
      (know_all header_at sets (know (header_at + 5) (0 ∷ 1 ∷ 2 ∷ 3 ∷ 4 ∷ []) (know_bytes (header_at + 9) (0 ∷ 0 ∷ 0x90 ∷ 0 ∷ []) f))) m m (λ b outside. refl)
      (bytes_in (zeros 4) (header_at - 4) m (λ j low.
      let place : header_at - 4 + j ≡ public_base + (1024 + j) = omega arith in
      ap m place ∙ (public (1024 + j) ∙ (zero_before a j few low ∙ sym (zero_at 4 j))))) three

-- ---- the first place

module _ (s : Setting) (t : Tables) (g : Target) (loadable : IsLoadable s.app) (closed : is_closed s t ≡ true) where
  -- the frame that a command begins
  abbrev pub command_frame : List ℕ → List ℕ → Frame
  command_frame fixed session = new_frame g.name (length s.app.code) s.app.deny fixed session

  module _ (fixed session : List ℕ) (size : length fixed ≡ static_size s) (count : length session ≡ s.app.session) (static : AreBytes fixed) (dynamic : AreBytes session) where
    stack_bytes : AreBytes (session ++ zeros (512 - length session))
    stack_bytes = joined session (zeros (512 - length session)) dynamic (zero_bytes (512 - length session))

    command_fits : IsFrameOf s.app (command_frame fixed session)
    command_fits = grind (arith, length-replicate, length-append)

    command_memory : (public : List ℕ) → AreBytes public → HoldsBytes (frame_memory (command_frame fixed session) public)
    command_memory public others = memory_of_bytes (command_frame fixed session) public (record { static = static; pieces = tt; stack = stack_bytes }) others

    -- its static bytes are those of the moment
    static_same : (public other : List ℕ) (a : ℕ) → a < length fixed → moment_memory fixed other a ≡ frame_memory (command_frame fixed session) public a
    static_same public other a low = grind (arith, lt-ltb, memory_static)

    -- and so are its session bytes
    begun_session : (public : List ℕ) (a : ℕ) → dynamic_base ≤ a → a < dynamic_base + s.app.session → moment_memory fixed session a ≡ frame_memory (command_frame fixed session) public a
    begun_session public a low high =
        let first : session_of (command_frame fixed session) ≡ session = take_at session (zeros (512 - length session)) (length session) refl in
        sym (ap (λ (l : List ℕ). moment_memory fixed l a) first) ∙ sym (session_same s t g loadable (command_frame fixed session) public a command_fits low high)

    own_hold : (f : Facts) (public : List ℕ) → Holds f (moment_memory fixed session) → Holds (own_facts s f) (frame_memory (command_frame fixed session) public)
    own_hold f public h = grind (arith, holds_both, within_holds, static_same, begun_session)

    -- what is known of static bytes is so of what power would leave
    kept_hold : (f : Facts) (public other : List ℕ) → Holds f (frame_memory (command_frame fixed session) public) → Holds (static_facts s f) (moment_memory fixed other)
    kept_hold f public other h = grind (arith, within_holds, static_same)

  is_begun : (bytes : List ℕ) (apdu : ApduParts) (h : History) (fixed session : List ℕ) → route bytes ≡ ToApplication apdu → IsByteCommand apdu → IsMoment s t true h fixed session → length session ≡ s.app.session
      → IsPlace s t (BySelection bytes apdu h) (Commanded bytes ∷ h) (command_frame fixed session) (new_public apdu)
  is_begun bytes apdu h fixed session routed command m count =
      let a = m.standing.allowances in
      let read : IsRead bytes apdu = read_of bytes apdu routed command.head.1.1.1.1.0 in
      let header = apdu.cla ∷ apdu.ins ∷ apdu.p1 ∷ apdu.p2 ∷ [] in
      let all = (moment_closed s t (record { selected = true; allowances = a }) m.facts closed m.there).outcomes in
      let on = included_second t (selected s a m.facts) (continued true s (classes s.rules) a m.facts) all in
      let commands = included_second t (arrive None (after_session s a) (λ b. idle b (static_facts s m.facts))) (flat_map (commanded s a m.facts) (classes s.rules)) on in
      let one : Chosen (commanded s a m.facts) t (class_of bytes s.rules.ons) header = chosen_in (commanded s a m.facts) t (class_of bytes s.rules.ons) header (classes s.rules) (class_law s.rules bytes apdu routed command) commands in
      let c : Class = one.class in
      let facts : Facts = public_facts c.sets (own_facts s m.facts) in
      let next : Arrives t (after_command s c.matches a) (λ b. begun s (OfClass c.matches) b facts ∷ []) = arrives t None (after_command s c.matches a) (λ b. begun s (OfClass c.matches) b facts ∷ []) one.outcomes in
      let x : Standing = record m.standing { allowances = next.allowances } in
      let f : Frame = command_frame fixed session in
      let public : List ℕ = new_public apdu in
      let p : Spot = record { key = first_place s (OfClass c.matches) next.allowances; known = record { bytes = facts; kept = static_facts s facts; compare = NoCompare } } in
      let size : length fixed ≡ static_size s = m.size in
      let low : length fixed ≤ dynamic_base = subst (λ (n : ℕ). n ≤ dynamic_base) (sym size) loadable.static in
      let others : AreBytes public = command_bytes apdu command in
      let holds : Holds facts (frame_memory f public) =
      public_hold apdu (frame_memory f public) read.few
      (λ i.
      let place : public_base + i - public_base ≡ i = omega arith in
      memory_public (length fixed) fixed (session ++ zeros (512 - length session)) public (public_base + i) low (omega arith) ∙ ap (λ (j : ℕ). slice_index public j) place)
      c.sets (own_facts s m.facts) one.are (own_hold fixed session size count m.static m.dynamic m.facts public m.holds)
      in
      let covers : Covers p f public = record {
        key = λ b. sym (ap (λ (n : ℕ). record (first_place s (OfClass c.matches) b) { dt = dynamic_base + n; lb = dynamic_base + n }) count);
        open_calls = tt;
        holds = holds;
        compares = tt;
        keeps = λ other d. kept_hold fixed session size count m.static m.dynamic facts public other holds;
      }
      in
      spot_arrives s t (BySelection bytes apdu h) (Commanded bytes ∷ h) f public p x covers one.is (commanded_stands s h bytes c.matches m.standing next.allowances one.is m.stands next.is)
      (command_fits fixed session size count m.static m.dynamic) (command_memory fixed session size count m.static m.dynamic public others) (stack_bytes fixed session size count m.static m.dynamic) next.rest

-- a command to the selected application begins its frame at a place of closed tables
pub begin_law : BeginLaw
begin_law r g t loadable closed =
    let s : Setting = record { rules = r; app = g.app } in
    is_begun s t g loadable closed

-- What a watcher keeps of the running frame of a card is that of the frame of the definitions.
use Rattle.std.proofs.Common.{◌≡◌, ℕ, ◌+◌, ◌-◌, ◌≤◌, Bool, true, false, cond, ◌&&◌, ◌==◌, List, [], length, take, drop, Option, Some, None, refl, arith, sym, ap, subst, ◌∙◌}
use Rattle.std.proofs.lemmas.Bool.Decides.{nat_tests}
use Rattle.std.specs.Prelude.{ℤ, bytes_eq, min, nat_le, option_map, option_and_then, IfSome}
use Rattle.mc_words.specs.model_device.specs.Device.{DeviceState}
use Rattle.mc_arith.specs.model_machine.specs.Code.{instruction_at}
use Rattle.mc_arith.specs.model_machine.specs.Frame.{Frame, Place, Static, Dynamic, Public, dynamic_base, dynamic_end, floor, moved_address, public_base, public_end, register, resolve}
use Rattle.mc_arith.specs.model_machine.specs.Chain.{Chain, Follows, Continues, Ends}
use Rattle.desk_draft.specs.FullTurns.{Span, stack_of}
use Rattle.mc_segs.specs.declared.access.Place.{Place as CodePlace}
use Rattle.mc_segs.specs.declared.access.Place.TheVariants as place
use Rattle.mc_segs.specs.HeldFrames.{Held, Seen, frame_reading}
use Rattle.mc_segs.specs.Places.{lies_in_segment, place_value}
use Rattle.mc_machine.specs.Chains.{Chained}
use Rattle.mc_card.specs.declared.card.Card.{Card}
use Rattle.mc_card.specs.Parts.{RunsChain}
use Rattle.desk_cover.specs.declared.looking.Scene.{Scene}
use Rattle.desk_cover.specs.Looking.{IsPlace, IsScene, Lies, LiesAfter, Shows, bytes_there, operand_after, place_in, place_pair, span_decoded, span_in, stack_after}
use Rattle.desk_cover.specs.Watching.{frame_in, name_in}
use Rattle.desk_cover.proofs.FullTurnLemmas.{chained_name, same_chain}

-- ---- registers

-- a tag above 7 is that of PT
register_by : (f : Frame) (tag : ℕ) (b : Bool) → nat_le tag 7 ≡ b → register f (min tag 7) ≡ register f tag
register_by f tag true e = let same : min tag 7 ≡ tag = grind (arith, nat_tests, e) in ap (register f) same
register_by f tag false e =
    let same : min tag 7 ≡ 7 = grind (arith, nat_tests, e) in
    let one : (tag == 1) ≡ false = grind (arith, nat_tests, e) in
    let two : (tag == 2) ≡ false = grind (arith, nat_tests, e) in
    let three : (tag == 3) ≡ false = grind (arith, nat_tests, e) in
    let four : (tag == 4) ≡ false = grind (arith, nat_tests, e) in
    let five : (tag == 5) ≡ false = grind (arith, nat_tests, e) in
    let six : (tag == 6) ≡ false = grind (arith, nat_tests, e) in
    ap (register f) same ∙ sym (rw (one, two, three, four, five, six) refl)

-- every register number from seven on is one without an address
pub register_seven : (f : Frame) (tag : ℕ) (off : ℤ) → resolve f (min tag 7) off ≡ resolve f tag off
register_seven f tag off = ap (λ (r : ℕ). moved_address r off) (register_by f tag (nat_le tag 7) refl)

-- ---- places by numbers

-- a register of a frame with this number of static bytes, this DT and this LB
abbrev register_of : ℕ → ℕ → ℕ → ℕ → ℕ
register_of size dt lb tag =
    cond (tag == 1) 0 (cond (tag == 2) size (cond (tag == 3) dynamic_base (
    cond (tag == 4) lb (cond (tag == 5) dt (cond (tag == 6) public_base public_end))
    )))

-- the place of n bytes at an address in such a frame
abbrev where_of : ℕ → ℕ → ℕ → ℕ → Option Place
where_of size dt a n =
    cond (nat_le (a + n) size) (Some (Static a)) (
    cond (nat_le dynamic_base a && nat_le (a + n) dt) (Some (Dynamic (a - dynamic_base))) (
    cond (nat_le public_base a && nat_le (a + n) public_end) (Some (Public (a - public_base))) None
    )
    )

abbrev place_of : ℕ → ℕ → ℕ → Option Span → Option (Place × ℕ)
place_of size dt lb None = None
place_of size dt lb (Some s) = option_map (λ p. (p, s.size)) (option_and_then (λ a. where_of size dt a s.size) (moved_address (register_of size dt lb s.tag) s.offset))

by_numbers : (f : Frame) (o : Option Span) → place_in f o ≡ place_of (length f.fixed) f.dt f.lb o
by_numbers f None = refl
by_numbers f (Some s) = refl

place_same : (f g : Frame) (code : List ℕ) → length f.fixed ≡ length g.fixed → f.dt ≡ g.dt → f.lb ≡ g.lb → f.at ≡ g.at → place_in f (span_in f code) ≡ place_in g (span_in g code)
place_same f g code fixed dt lb at =
    by_numbers f (span_in f code)
    ∙ ap (λ (n : ℕ). place_of n f.dt f.lb (span_in f code)) fixed
    ∙ ap (λ (n : ℕ). place_of (length g.fixed) n f.lb (span_in f code)) dt
    ∙ ap (λ (n : ℕ). place_of (length g.fixed) g.dt n (span_in f code)) lb
    ∙ ap (λ (n : ℕ). place_of (length g.fixed) g.dt g.lb (span_decoded (instruction_at code n))) at
    ∙ sym (by_numbers g (span_in g code))

-- ---- frames that read alike

there_same : (f g : Frame) (public : List ℕ) (o : Option (Place × ℕ)) → frame_reading f ≡ frame_reading g → bytes_there f public o ≡ bytes_there g public o
there_same f g public None e = refl
there_same f g public (Some (Static i, n)) e = ap (λ (s : Seen). take n (drop i s.read)) e
there_same f g public (Some (Dynamic i, n)) e = ap (λ (s : Seen). take n (drop i s.dyn)) e
there_same f g public (Some (Public i, n)) e = refl

stack_same : (f g : Frame) → frame_reading f ≡ frame_reading g → stack_of f ≡ stack_of g
stack_same f g e = ap (λ (s : Seen). take (s.dt - (dynamic_base + s.session)) (drop s.session s.dyn)) e

-- ---- the running frame of a card

module _ {N : Type 0} (state : N → DeviceState) where
  -- what a chain of the definitions and one of a card have in common
  pub record Alike (c : Card N) (ch : Chain) (h : Chained) : Type 0 where
    pub name : name_in state c h.running ≡ ch.frame.name
    pub reads : frame_reading (frame_in state c h.running) ≡ frame_reading ch.frame
    pub fixed : length h.running.frame.fixed ≡ length ch.frame.fixed
    pub public : h.public ≡ ch.public

  alike_chained : (c : Card N) (ch : Chain) (left : ℕ) (r : RunsChain state c ch left) → Alike c ch r.chained
  alike_chained c ch left r =
      record {
        name = chained_name state c ch left r;
        reads = r.runs.running.same;
        fixed = r.runs.running.fits.fixed ∙ ap (λ (s : Seen). length s.fixed) r.runs.running.same;
        public = r.runs.public;
      }

  -- a running chain of a card is that of the definitions in what is looked at
  pub alike : (c : Card N) (ch : Chain) (left : ℕ) (h : Chained) → RunsChain state c ch left → Some h ≡ c.chain → Alike c ch h
  alike c ch left h r e = subst (λ (k : Chained). Alike c ch k) (same_chain state c ch left h r e) (alike_chained c ch left r)

  place_there : (o : Option (CodePlace × ℕ)) (f g : Frame) (code : Option (List ℕ)) → length f.fixed ≡ length g.fixed → f.dt ≡ g.dt → f.lb ≡ g.lb → f.at ≡ g.at → IsPlace o f code → IsPlace o g code
  place_there o f g None fixed dt lb at h = tt
  place_there o f g (Some code) fixed dt lb at h = h ∙ place_same f g code fixed dt lb at

  -- what is kept of the running frame is that of the chain's
  pub scene_is : (s : Scene) (c : Card N) (ch : Chain) (left : ℕ) (h : Chained) (code : Option (List ℕ)) → RunsChain state c ch left → Some h ≡ c.chain → s.name.items ≡ ch.frame.name → s.floor ≡ floor h.running.frame → s.stack.items ≡ stack_of h.running.frame
      → IsPlace s.place h.running.frame code → h.running.frame.dt ≤ dynamic_end → IsScene s ch.frame code
  scene_is s c ch left h code r e name bottom stack place high =
      let k = alike c ch left h r e in
      let f = frame_in state c h.running in
      let dt : h.running.frame.dt ≡ ch.frame.dt = ap (λ (x : Seen). x.dt) k.reads in
      record {
        name = name;
        floor = bottom ∙ ap (λ (x : Seen). dynamic_base + x.session) k.reads;
        stack = stack ∙ stack_same f ch.frame k.reads;
        place = place_there s.place h.running.frame ch.frame code k.fixed dt (ap (λ (x : Seen). x.lb) k.reads) (ap (λ (x : Seen). x.at) k.reads) place;
        high = subst (λ (n : ℕ). n ≤ dynamic_end) dt high;
      }

  -- what is kept of a frame that is the running one
  pub scene_found : (s : Scene) (c : Card N) (ch : Chain) (left : ℕ) (h : Chained) (k : Held) (code : Option (List ℕ)) → RunsChain state c ch left → Some h ≡ c.chain → k ≡ h.running → s.name.items ≡ ch.frame.name → s.floor ≡ floor k.frame → s.stack.items ≡ stack_of k.frame → IsPlace s.place k.frame code
      → k.frame.dt ≤ dynamic_end → IsScene s ch.frame code
  scene_found s c ch left h k code r e same name bottom stack place high =
      scene_is s c ch left h code r e name (bottom ∙ ap (λ (x : Held). floor x.frame) same) (stack ∙ ap (λ (x : Held). stack_of x.frame) same)
      (subst (λ (x : Held). IsPlace s.place x.frame code) same place) (subst (λ (x : Held). x.frame.dt ≤ dynamic_end) same high)

  -- ---- after a turn

  -- a place that lies in the frame of the definitions lies in that of the card
  lies_there : (f g : Frame) (p q : List ℕ) (o : CodePlace) (n : ℕ) → length f.fixed ≡ length g.fixed → length f.dyn ≡ length g.dyn → p ≡ q → Lies g q (place_value o) n → lies_in_segment f p o n ≡ true
  lies_there f g p q (place.Static i) n fixed dyn public h = grind (arith, nat_tests, fixed, h)
  lies_there f g p q (place.Dynamic i) n fixed dyn public h = grind (arith, nat_tests, dyn, h)
  lies_there f g p q (place.Public i) n fixed dyn public h = let same : length p ≡ length q = ap length public in grind (arith, nat_tests, same, h)

  lies_if : (f g : Frame) (p q : List ℕ) (o : Option (CodePlace × ℕ)) → length f.fixed ≡ length g.fixed → length f.dyn ≡ length g.dyn → p ≡ q → IfSome (option_map place_pair o) (λ x. Lies g q x.0 x.1) → IfSome o (λ x. lies_in_segment f p x.0 x.1 ≡ true)
  lies_if f g p q None fixed dyn public h = tt
  lies_if f g p q (Some x) fixed dyn public h = lies_there f g p q x.0 x.1 fixed dyn public h

  -- the operand of a scene's frame by the chain that runs after a turn
  operand_on : (s : Scene) (c : Card N) (h : Chained) (f : Frame) (code bytes : List ℕ) (ch : Chain) (left : ℕ) → Some h ≡ c.chain → IsScene s f (Some code) → RunsChain state c ch left → IfSome (place_in f (span_in f code)) (λ p. Lies ch.frame ch.public p.0 p.1)
      → (IfSome s.place (λ p. lies_in_segment h.running.frame h.public p.0 p.1 ≡ true) → bytes ≡ cond (bytes_eq (name_in state c h.running) s.name.items) (bytes_there (frame_in state c h.running) h.public (option_map place_pair s.place)) [])
      → bytes ≡ operand_after f (place_in f (span_in f code)) (Continues ch)
  operand_on s c h f code bytes ch left e scene r lies is =
      let k = alike c ch left h r e in
      let place : option_map place_pair s.place ≡ place_in f (span_in f code) = scene.place in
      let lie = subst (λ (o : Option (Place × ℕ)). IfSome o (λ p. Lies ch.frame ch.public p.0 p.1)) (sym place) lies in
      let inside = lies_if h.running.frame ch.frame h.public ch.public s.place k.fixed (ap (λ (x : Seen). length x.dyn) k.reads) k.public lie in
      let there : bytes_there (frame_in state c h.running) h.public (option_map place_pair s.place) ≡ bytes_there ch.frame ch.public (place_in f (span_in f code)) =
      there_same (frame_in state c h.running) ch.frame h.public (option_map place_pair s.place) k.reads
      ∙ ap (λ (p : List ℕ). bytes_there ch.frame p (option_map place_pair s.place)) k.public
      ∙ ap (λ (o : Option (Place × ℕ)). bytes_there ch.frame ch.public o) place
      in
      is inside
      ∙ ap (λ (n : List ℕ). cond (bytes_eq n s.name.items) (bytes_there (frame_in state c h.running) h.public (option_map place_pair s.place)) []) k.name
      ∙ ap (λ (n : List ℕ). cond (bytes_eq ch.frame.name n) (bytes_there (frame_in state c h.running) h.public (option_map place_pair s.place)) []) scene.name
      ∙ ap (λ (b : List ℕ). cond (bytes_eq ch.frame.name f.name) b []) there

  -- the bytes of the operand that a watcher keeps are those of the frame
  pub operand_seen : (s : Scene) (c : Card N) (h : Chained) (f : Frame) (code bytes : List ℕ) (next : Follows) → Some h ≡ c.chain → IsScene s f (Some code) → Shows state c next → LiesAfter (place_in f (span_in f code)) next
      → (IfSome s.place (λ p. lies_in_segment h.running.frame h.public p.0 p.1 ≡ true) → bytes ≡ cond (bytes_eq (name_in state c h.running) s.name.items) (bytes_there (frame_in state c h.running) h.public (option_map place_pair s.place)) [])
      → bytes ≡ operand_after f (place_in f (span_in f code)) next
  operand_seen s c h f code bytes (Ends o) e scene shows lies is = absurd (cc (e ∙ shows))
  operand_seen s c h f code bytes (Continues ch) e scene shows lies is = operand_on s c h f code bytes ch shows.0 e scene shows.1 lies is

  -- the stack of a scene's frame
  stack_on : (s : Scene) (c : Card N) (h : Chained) (f : Frame) (code : Option (List ℕ)) (stack : List ℕ) (dt : ℕ) (ch : Chain) (left : ℕ) → Some h ≡ c.chain → IsScene s f code → RunsChain state c ch left
      → stack ≡ cond (bytes_eq (name_in state c h.running) s.name.items) (stack_of h.running.frame) (take (dt - s.floor) s.stack.items) → stack ≡ stack_after f dt (Continues ch)
  stack_on s c h f code stack dt ch left e scene r is =
      let k = alike c ch left h r e in
      let whole : stack_of h.running.frame ≡ stack_of ch.frame = stack_same (frame_in state c h.running) ch.frame k.reads in
      is
      ∙ ap (λ (n : List ℕ). cond (bytes_eq n s.name.items) (stack_of h.running.frame) (take (dt - s.floor) s.stack.items)) k.name
      ∙ ap (λ (n : List ℕ). cond (bytes_eq ch.frame.name n) (stack_of h.running.frame) (take (dt - s.floor) s.stack.items)) scene.name
      ∙ ap (λ (b : List ℕ). cond (bytes_eq ch.frame.name f.name) b (take (dt - s.floor) s.stack.items)) whole
      ∙ ap (λ (n : ℕ). cond (bytes_eq ch.frame.name f.name) (stack_of ch.frame) (take (dt - n) s.stack.items)) scene.floor
      ∙ ap (λ (b : List ℕ). cond (bytes_eq ch.frame.name f.name) (stack_of ch.frame) (take (dt - floor f) b)) scene.stack

  -- the stack that a watcher keeps is that of the frame
  pub stack_seen : (s : Scene) (c : Card N) (h : Chained) (f : Frame) (code : Option (List ℕ)) (stack : List ℕ) (dt : ℕ) (next : Follows) → Some h ≡ c.chain → IsScene s f code → Shows state c next
      → stack ≡ cond (bytes_eq (name_in state c h.running) s.name.items) (stack_of h.running.frame) (take (dt - s.floor) s.stack.items) → stack ≡ stack_after f dt next
  stack_seen s c h f code stack dt (Ends o) e scene shows is = absurd (cc (e ∙ shows))
  stack_seen s c h f code stack dt (Continues ch) e scene shows is = stack_on s c h f code stack dt ch shows.0 e scene shows.1 is

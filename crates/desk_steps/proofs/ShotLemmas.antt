-- Shots of the frame that ran a turn, before it and after it.
use Rattle.std.proofs.Common.{◌≡◌, ◌≢◌, inl, inr, ℕ, ◌-◌, ◌≤◌, Bool, true, false, cond, List, [], ◌∷◌, Option, Some, None, refl, sym, ap, subst, arith, ◌∙◌}
use Rattle.std.specs.Prelude.{bytes_eq, length, not, take, is_some, IsSome}
use Rattle.mc_words.specs.model_device.specs.Bytes.{lookup}
use Rattle.mc_words.specs.model_device.specs.Device.{DeviceState}
use Rattle.mc_text.specs.model_machine.specs.declared.instruction.Ins.{Ins}
use Rattle.mc_text.specs.model_machine.specs.declared.machine.Abend.{Abend}
use Rattle.mc_text.specs.model_machine.specs.Frame.{Frame, dynamic_base}
use Rattle.mc_text.specs.model_machine.specs.Chain.{Chain, Follows, Continues, Ends, Outcome, Reply, Abended, depth_of, turn_of}
use Rattle.mc_machine.specs.Chains.{Chained}
use Rattle.mc_machine.specs.declared.outcome.End.{End}
use Rattle.mc_machine.specs.declared.outcome.End.TheVariants as ending
use Rattle.mc_machine.specs.declared.outcome.BriefTurn.{BriefTurn}
use Rattle.mc_bank.specs.Bank.{app_of}
use Rattle.mc_segs.specs.HeldFrames.{Seen, frame_reading, no_pieces}
use Rattle.mc_card.specs.declared.card.Card.{Card}
use Rattle.mc_card.specs.Parts.{RunsChain, card_in}
use Rattle.law_steps.specs.Readings.{Reading, reading_of}
use Rattle.law_steps.specs.Registers.{frame_after, registers_of, registers_shown}
use Rattle.law_steps.specs.Shown.{exit_public, is_exit_of, shown_reading}
use Rattle.law_steps.proofs.AfterTurns.{abended_reading, exited_reading, going_reading}
use Rattle.law_steps.proofs.RegistersAfter.{registers_law}
use Rattle.desk_cover.specs.Looking.{Shows}
use Rattle.desk_cover.specs.Watching.{frame_in, name_in}
use Rattle.desk_cover.proofs.LookLemmas.{alike}
use Rattle.desk_steps.specs.declared.shot.Shot.{Shot}
use Rattle.desk_steps.specs.Shots.{shot_reading}
use Rattle.desk_steps.specs.Turning.{IsAfter, IsBefore, IsWideNext, WasTurn, abend_alone, abend_of, bare_turn, bare_value, end_of, exit_in, is_deeper, is_other, lb_shown}
use Rattle.desk_steps.proofs.FrameLemmas.{abend_calls, exit_calls, going_calls}

-- ---- LB after a turn

first_by : (b : Bool) (p q : ℕ × Bool) → (cond b p q).0 ≡ cond b p.0 q.0
first_by true p q = refl
first_by false p q = refl

lb_of_shown : (f : Follows) (name : List ℕ) (g : Frame) → (registers_shown f name (registers_of g)).0 ≡ lb_shown f name g.lb
lb_of_shown (Ends o) name g = refl
lb_of_shown (Continues ch) name g = first_by (bytes_eq ch.frame.name name) (registers_of ch.frame) (registers_of g)

abended_lb : (n : ℕ) (ch : Chain) (c : Abend) → (turn_of n ch).turn.end ≡ Some (Abended c) → (frame_after n ch).lb ≡ ch.frame.lb
abended_lb n ch c e = ap (λ (f : Frame). f.lb) (registers_law.abends n ch c e)

exited_lb : (n : ℕ) (ch : Chain) (i : Ins) → (turn_of n ch).turn.ins ≡ Some i → is_exit_of i ≡ true → (frame_after n ch).lb ≡ ch.frame.lb
exited_lb n ch i e exits = ap (λ (r : ℕ × Bool). r.0) (registers_law.exits n ch i e exits)

going_lb : (n : ℕ) (ch : Chain) → ((i : Ins) → (turn_of n ch).turn.ins ≡ Some i → is_exit_of i ≡ false) → ((c : Abend) → (turn_of n ch).turn.end ≢ Some (Abended c)) → (frame_after n ch).lb ≡ lb_shown (turn_of n ch).follows ch.frame.name ch.frame.lb
going_lb n ch stays goes = ap (λ (r : ℕ × Bool). r.0) (registers_law.goes n ch stays goes) ∙ lb_of_shown (turn_of n ch).follows ch.frame.name ch.frame

-- ---- shots

abend_there : (o : Option End) → is_some (abend_of o) ≡ true → (c : Abend) × (end_of o ≡ Some (Abended c))
abend_there None e = absurd (cc e)
abend_there (Some ending.Reply) e = absurd (cc e)
abend_there (Some (ending.Abend c)) e = (c, refl)

abend_none : (o : Option End) → is_some (abend_of o) ≡ false → (c : Abend) → end_of o ≢ Some (Abended c)
abend_none None e c h = absurd (cc h)
abend_none (Some ending.Reply) e c h = absurd (cc h)
abend_none (Some (ending.Abend a)) e c h = absurd (cc e)

-- an outcome of which an abend is left is this abend
alone_is : (o : Option Outcome) (c : Abend) → abend_alone o ≡ Some (Abended c) → o ≡ Some (Abended c)
alone_is None c e = absurd (cc e)
alone_is (Some (Reply body sw)) c e = absurd (cc e)
alone_is (Some (Abended a)) c e = e

exit_there : (o : Option Ins) (i : Ins) → exit_in o ≡ Some i → (o ≡ Some i) × (is_exit_of i ≡ true)
exit_there None i e = absurd (cc e)
exit_there (Some j) i e = by (is_exit_of j) refl e
  where
    by : (b : Bool) → is_exit_of j ≡ b → cond b (Some j) None ≡ Some i → (Some j ≡ Some i) × (is_exit_of i ≡ true)
    by true is e = let same : j ≡ i = cc e in (e, ap (λ (k : Ins). is_exit_of k) (sym same) ∙ is)
    by false is e = absurd (cc e)

exit_none : (o : Option Ins) → exit_in o ≡ None → (j : Ins) → o ≡ Some j → is_exit_of j ≡ false
exit_none None e j h = absurd (cc h)
exit_none (Some i) e j h = by (is_exit_of i) refl e
  where
    by : (b : Bool) → is_exit_of i ≡ b → cond b (Some i) None ≡ None → is_exit_of j ≡ false
    by true is e = absurd (cc e)
    by false is e = let same : i ≡ j = cc h in ap (λ (k : Ins). is_exit_of k) (sym same) ∙ is

reading_alike : (f g : Frame) (public : List ℕ) → frame_reading f ≡ frame_reading g → reading_of f public ≡ reading_of g public
reading_alike f g public e = ap (λ (s : Seen). record { fixed = take (length s.fixed) s.read; dynamic = take (s.dt - dynamic_base) s.dyn; public = public }) e

-- a copy of a shot
pub copied : (s t : Shot) (ch : Chain) → t.lb ≡ s.lb → t.dt ≡ s.dt → t.fixed_len ≡ s.fixed_len → shot_reading t ≡ shot_reading s → IsBefore s ch → IsBefore t ch
copied s t ch lb dt size reading h = record { lb = lb ∙ h.lb; dt = dt ∙ h.dt; size = size ∙ h.size; reading = λ wide. reading ∙ h.reading wide; roomy = h.roomy; guard = h.guard }

module _ {N : Type 0} (state : N → DeviceState) where
  -- the static bytes that a card keeps under a name
  abbrev pub kept_bytes : Card N → List ℕ → List ℕ
  kept_bytes c name = (app_of (card_in state c).apps (Some name)).fixed

  ends_same : (n : ℕ) (ch : Chain) (turn : BriefTurn) (c : Abend) → bare_turn (turn_of n ch).turn ≡ bare_value turn (turn_of n ch).turn.wrote → end_of turn.end ≡ Some (Abended c) → (turn_of n ch).turn.end ≡ Some (Abended c)
  ends_same n ch turn c same is = alone_is (turn_of n ch).turn.end c (ap (λ t. t.end) same ∙ is)

  -- a shot of a turn that abends
  pub after_abend : (c : Card N) (n : ℕ) (ch : Chain) (turn : BriefTurn) (name : List ℕ) (old new : Shot) (o : Option Abend) → WasTurn state c n ch turn → IsBefore old ch → name ≡ ch.frame.name → o ≡ abend_of turn.end → is_some o ≡ true → new.lb ≡ old.lb
      → (IsSome (lookup (card_in state c).apps name) → shot_reading new ≡ record (shot_reading old) { fixed = kept_bytes c name }) → IsAfter new n ch
  after_abend c n ch turn name old new o was before named is some lb reads =
      let there = abend_there turn.end (ap (λ (a : Option Abend). is_some a) (sym is) ∙ some) in
      let end : (turn_of n ch).turn.end ≡ Some (Abended there.0) = ends_same n ch turn there.0 was.same there.1 in
      let kept = was.kept (inl (there.0, end)) in
      let read : IsSome (lookup (card_in state c).apps ch.frame.name) → shot_reading new ≡ record (shot_reading old) { fixed = kept_bytes c ch.frame.name } =
      subst (λ (m : List ℕ). IsSome (lookup (card_in state c).apps m) → shot_reading new ≡ record (shot_reading old) { fixed = kept_bytes c m }) named reads
      in
      record {
        lb = lb ∙ before.lb ∙ sym (abended_lb n ch there.0 end);
        reading = λ wide.
            read kept.there ∙ ap (λ (r : Reading). record r { fixed = kept_bytes c ch.frame.name }) (before.reading wide)
            ∙ ap (λ (l : List ℕ). record (reading_of ch.frame ch.public) { fixed = l }) kept.fixed ∙ sym (abended_reading n ch there.0 end);
      }

  -- a shot of a turn that exits
  pub after_exited : (c : Card N) (n : ℕ) (ch : Chain) (turn : BriefTurn) (name : List ℕ) (old new : Shot) (a : Option Abend) (o : Option Ins) (i : Ins) → WasTurn state c n ch turn → IsBefore old ch → name ≡ ch.frame.name → a ≡ abend_of turn.end → is_some a ≡ false → o ≡ exit_in turn.ins → Some i ≡ o
      → new.lb ≡ old.lb → (IsSome (lookup (card_in state c).apps name) → shot_reading new ≡ record (shot_reading old) { fixed = kept_bytes c name; public = exit_public i old.public }) → IsAfter new n ch
  after_exited c n ch turn name old new a o i was before named ends none is some lb reads =
      let there = exit_there turn.ins i (sym is ∙ sym some) in
      let ins : (turn_of n ch).turn.ins ≡ Some i = ap (λ t. t.ins) was.same ∙ there.0 in
      let goes : (c : Abend) → (turn_of n ch).turn.end ≢ Some (Abended c) = λ c h. abend_none turn.end (ap (λ (x : Option Abend). is_some x) (sym ends) ∙ none) c (sym (ap (λ t. t.end) was.same) ∙ ap abend_alone h) in
      let kept = was.kept (inr (i, ins, there.1)) in
      let read : IsSome (lookup (card_in state c).apps ch.frame.name) → shot_reading new ≡ record (shot_reading old) { fixed = kept_bytes c ch.frame.name; public = exit_public i old.public } =
      subst (λ (m : List ℕ). IsSome (lookup (card_in state c).apps m) → shot_reading new ≡ record (shot_reading old) { fixed = kept_bytes c m; public = exit_public i old.public }) named reads
      in
      record {
        lb = lb ∙ before.lb ∙ sym (exited_lb n ch i ins there.1);
        reading = λ wide.
            read kept.there ∙ ap (λ (r : Reading). record r { fixed = kept_bytes c ch.frame.name; public = exit_public i r.public }) (before.reading wide)
            ∙ ap (λ (l : List ℕ). record (reading_of ch.frame ch.public) { fixed = l; public = exit_public i ch.public }) kept.fixed ∙ sym (exited_reading n ch i ins there.1 goes);
      }

  -- a shot of a turn after which the frame goes on, or one that it called
  pub after_going : (c : Card N) (n : ℕ) (ch : Chain) (turn : BriefTurn) (name : List ℕ) (old new : Shot) (a : Option Abend) (o : Option Ins) → WasTurn state c n ch turn → IsBefore old ch → name ≡ ch.frame.name → a ≡ abend_of turn.end → is_some a ≡ false → o ≡ exit_in turn.ins → None ≡ o
      → new.lb ≡ lb_shown (turn_of n ch).follows name old.lb → shot_reading new ≡ shown_reading (turn_of n ch).follows name (shot_reading old) turn.dt → IsAfter new n ch
  after_going c n ch turn name old new a o was before named ends none is some lb reads =
      let f : Follows = (turn_of n ch).follows in
      let goes : (c : Abend) → (turn_of n ch).turn.end ≢ Some (Abended c) = λ c h. abend_none turn.end (ap (λ (x : Option Abend). is_some x) (sym ends) ∙ none) c (sym (ap (λ t. t.end) was.same) ∙ ap abend_alone h) in
      let stays : (j : Ins) → (turn_of n ch).turn.ins ≡ Some j → is_exit_of j ≡ false = λ j h. exit_none turn.ins (sym is ∙ sym some) j (sym (ap (λ t. t.ins) was.same) ∙ h) in
      record {
        lb = lb ∙ ap (λ (m : List ℕ). lb_shown f m old.lb) named ∙ ap (λ (k : ℕ). lb_shown f ch.frame.name k) before.lb ∙ sym (going_lb n ch stays goes);
        reading = λ wide.
            reads ∙ ap (λ (m : List ℕ). shown_reading f m (shot_reading old) turn.dt) named ∙ ap (λ (r : Reading). shown_reading f ch.frame.name r turn.dt) (before.reading wide)
            ∙ ap (λ (k : ℕ). shown_reading f ch.frame.name (reading_of ch.frame ch.public) k) (sym (ap (λ t. t.dt) was.same)) ∙ sym (going_reading n ch stays goes);
      }

  -- a turn that abends calls no frame
  pub abend_called : (c : Card N) (n : ℕ) (ch : Chain) (turn : BriefTurn) (o : Option Abend) → WasTurn state c n ch turn → o ≡ abend_of turn.end → is_some o ≡ true → false ≡ is_deeper (depth_of ch) (turn_of n ch).follows
  abend_called c n ch turn o was is some =
      let there = abend_there turn.end (ap (λ (a : Option Abend). is_some a) (sym is) ∙ some) in
      sym (abend_calls n ch there.0 (ends_same n ch turn there.0 was.same there.1))

  -- nor does one that exits
  pub exit_called : (c : Card N) (n : ℕ) (ch : Chain) (turn : BriefTurn) (o : Option Ins) (i : Ins) → WasTurn state c n ch turn → o ≡ exit_in turn.ins → Some i ≡ o → false ≡ is_deeper (depth_of ch) (turn_of n ch).follows
  exit_called c n ch turn o i was is some =
      let there = exit_there turn.ins i (sym is ∙ sym some) in
      sym (exit_calls n ch i (ap (λ t. t.ins) was.same ∙ there.0) there.1)

  -- any other calls the frame that runs then, if that has another name
  pub going_called : (c : Card N) (n : ℕ) (ch : Chain) (turn : BriefTurn) (name : List ℕ) (o : Option Ins) (b : Bool) → WasTurn state c n ch turn → name ≡ ch.frame.name → o ≡ exit_in turn.ins → None ≡ o → b ≡ is_other (turn_of n ch).follows name → b ≡ is_deeper (depth_of ch) (turn_of n ch).follows
  going_called c n ch turn name o b was named is none other =
      other ∙ ap (λ (m : List ℕ). is_other (turn_of n ch).follows m) named
      ∙ going_calls n ch (λ j h. exit_none turn.ins (sym is ∙ sym none) j (sym (ap (λ t. t.ins) was.same) ∙ h))

  no_pieces_none : (ps : List (ℕ × List ℕ)) → no_pieces ps ≡ true → ps ≡ []
  no_pieces_none [] e = refl
  no_pieces_none (p ∷ ps) e = absurd (cc e)

  -- a shot of the frame that a card runs
  pub running_shot : (c : Card N) (ch : Chain) (left : ℕ) (h : Chained) (s : Shot) → RunsChain state c ch left → Some h ≡ c.chain → s.lb ≡ h.running.frame.lb → s.dt ≡ h.running.frame.dt → s.fixed_len ≡ length (frame_in state c h.running).fixed → s.fixed_len ≤ 4096 → s.dt ≤ 0x8200 → length h.public ≡ 1041
      → (512 ≤ length h.running.frame.dyn → shot_reading s ≡ reading_of (frame_in state c h.running) h.public) → IsBefore s ch
  running_shot c ch left h s runs e lb dt len few high whole reads =
      let like = alike state c ch left h runs e in
      let size : length h.running.frame.dyn ≡ length ch.frame.dyn = ap (λ (x : Seen). length x.dyn) like.reads in
      let top : s.dt ≡ ch.frame.dt = dt ∙ ap (λ (x : Seen). x.dt) like.reads in
      let fixed : s.fixed_len ≡ length ch.frame.fixed = len ∙ ap (λ (x : Seen). length x.fixed) like.reads in
      let public : length h.public ≡ length ch.public = ap (λ (p : List ℕ). length p) like.public in
      record {
        lb = lb ∙ ap (λ (x : Seen). x.lb) like.reads;
        dt = top;
        size = fixed;
        reading = λ wide.
            reads (subst (λ (m : ℕ). 512 ≤ m) (sym size) wide) ∙ ap (λ (p : List ℕ). reading_of (frame_in state c h.running) p) like.public
            ∙ reading_alike (frame_in state c h.running) ch.frame ch.public like.reads;
        roomy = λ wide. record { fixed = omega (arith, few, fixed); dyn = wide; high = omega (arith, high, top); whole = omega (arith, whole, public) };
        guard = λ off. no_pieces_none ch.frame.pieces (runs.runs.running.guarded off);
      }

  -- what is shown of a frame, if the running one has its name
  pub shown_running : (c : Card N) (h : Chained) (name : List ℕ) (s : Shot) (r : Reading) (dt old : ℕ) (b : Bool) (next : Follows) → Some h ≡ c.chain → Shows state c next → b ≡ bytes_eq (name_in state c h.running) name → b ≡ true
      → s.lb ≡ h.running.frame.lb → (512 ≤ length h.running.frame.dyn → shot_reading s ≡ reading_of (frame_in state c h.running) h.public) → (s.lb ≡ lb_shown next name old) × (IsWideNext next → shot_reading s ≡ shown_reading next name r dt)
  shown_running c h name s r dt old b (Ends o) e shows is t lb reads = absurd (cc (e ∙ shows))
  shown_running c h name s r dt old b (Continues ch) e shows is t lb reads =
      let like = alike state c ch shows.0 h shows.1 e in
      let same : bytes_eq ch.frame.name name ≡ true = ap (λ (m : List ℕ). bytes_eq m name) (sym like.name) ∙ sym is ∙ t in
      let size : length h.running.frame.dyn ≡ length ch.frame.dyn = ap (λ (x : Seen). length x.dyn) like.reads in
      let below : Reading = record r { dynamic = take (dt - dynamic_base) r.dynamic } in (
        lb ∙ ap (λ (x : Seen). x.lb) like.reads ∙ sym (ap (λ (x : Bool). cond x ch.frame.lb old) same),
        λ wide.
            reads (subst (λ (m : ℕ). 512 ≤ m) (sym size) wide) ∙ ap (λ (p : List ℕ). reading_of (frame_in state c h.running) p) like.public
            ∙ reading_alike (frame_in state c h.running) ch.frame ch.public like.reads ∙ sym (ap (λ (x : Bool). cond x (reading_of ch.frame ch.public) below) same),
      )

  -- if it has another one
  pub shown_called : (c : Card N) (h : Chained) (name : List ℕ) (s : Shot) (r : Reading) (dt old : ℕ) (b : Bool) (next : Follows) → Some h ≡ c.chain → Shows state c next → b ≡ bytes_eq (name_in state c h.running) name → b ≡ false
      → s.lb ≡ old → shot_reading s ≡ record r { dynamic = take (dt - dynamic_base) r.dynamic } → (s.lb ≡ lb_shown next name old) × (shot_reading s ≡ shown_reading next name r dt)
  shown_called c h name s r dt old b (Ends o) e shows is t lb reads = absurd (cc (e ∙ shows))
  shown_called c h name s r dt old b (Continues ch) e shows is t lb reads =
      let like = alike state c ch shows.0 h shows.1 e in
      let same : bytes_eq ch.frame.name name ≡ false = ap (λ (m : List ℕ). bytes_eq m name) (sym like.name) ∙ sym is ∙ t in
      let below : Reading = record r { dynamic = take (dt - dynamic_base) r.dynamic } in
      (lb ∙ sym (ap (λ (x : Bool). cond x ch.frame.lb old) same), reads ∙ sym (ap (λ (x : Bool). cond x (reading_of ch.frame ch.public) below) same))

  -- no chain runs
  pub left_lb : (c : Card N) (name : List ℕ) (lb old : ℕ) (next : Follows) → None ≡ c.chain → Shows state c next → lb ≡ old → lb ≡ lb_shown next name old
  left_lb c name lb old (Ends o) e shows is = is
  left_lb c name lb old (Continues ch) e shows is = absurd (cc (e ∙ shows.1.is))

  -- a card that runs no chain shows what the frame read before
  pub left_reading : (c : Card N) (name : List ℕ) (new old : Reading) (dt : ℕ) (next : Follows) → None ≡ c.chain → Shows state c next → new ≡ old → new ≡ shown_reading next name old dt
  left_reading c name new old dt (Ends o) e shows is = is
  left_reading c name new old dt (Continues ch) e shows is = absurd (cc (e ∙ shows.1.is))

  -- whether another frame runs
  pub shown_other : (c : Card N) (h : Chained) (name : List ℕ) (b : Bool) (next : Follows) → Some h ≡ c.chain → Shows state c next → b ≡ bytes_eq (name_in state c h.running) name → not b ≡ is_other next name
  shown_other c h name b (Ends o) e shows is = absurd (cc (e ∙ shows))
  shown_other c h name b (Continues ch) e shows is =
      let like = alike state c ch shows.0 h shows.1 e in
      ap not (is ∙ ap (λ (m : List ℕ). bytes_eq m name) like.name)

  -- a card that runs no chain has no other frame
  pub left_other : (c : Card N) (name : List ℕ) (next : Follows) → None ≡ c.chain → Shows state c next → false ≡ is_other next name
  left_other c name (Ends o) e shows = refl
  left_other c name (Continues ch) e shows = absurd (cc (e ∙ shows.1.is))

-- What outcomes are, from what the code found.
use Rattle.std.specs.Prelude.{◌≡◌, ℕ, ◌+◌, ◌≤◌, Bool, true, false, not, cond, ◌&&◌, nat_lt, List, [], ◌∷◌, ◌++◌, length, flat_map, Option, Some, None, Result, Ok}
use Rattle.std.proofs.Common.{ap, sym, subst, ◌∙◌, refl, arith}
use Rattle.prove_facts.specs.model_rules.specs.Keeping.{Amounts, Break, OnTurn, after_occasion, line_of}
use Rattle.mc_arith.specs.model_machine.specs.declared.instruction.Ins.{Ins}
use Rattle.prove_facts.specs.model_prove.specs.Keys.{Tables, Start, Delegated, OfClass, PlaceKey, Call}
use Rattle.prove_facts.specs.model_prove.specs.Arrivals.{Setting, Arrival, AtPlace, Lengths, arrive, depths, after_turn, exited, lengths_of, la_at, static_size}
use Rattle.prove_facts.specs.model_prove.specs.Tables.{includes, includes_all}
use Rattle.prove_facts.specs.model_prove.specs.Steps as steps
use Rattle.prove_spots.specs.Grounds.{Ground, spot_of}
use Rattle.mc_arith.specs.model_machine.specs.Frame.{Frame}
use Rattle.mc_arith.specs.model_machine.specs.Primitives.{Then, Goes, Exits, Delegates}
use Rattle.mc_arith.specs.model_machine.specs.Shapes.{Shape}
use Rattle.prove_facts.specs.model_prove.specs.Facts.{values_at}
use Rattle.prove_facts.specs.model_prove.specs.Reach.{Coarse}
use Rattle.prove_facts.specs.model_prove.specs.Work.{Work}
use Rattle.prove_keys.specs.declared.keys.Call as keys
use Rattle.prove_keys.specs.Keys.{amounts_of, call_of, calls_of}
use Rattle.prove_occasions.specs.Amounts.{AreAfter}
use Rattle.prove_scenes.specs.ShapeValues.{next_value}
use Rattle.prove_arrivals.specs.declared.subject.Subject.{Subject}
use Rattle.prove_arrivals.specs.declared.turns.Row.{Row}
use Rattle.prove_arrivals.specs.Following.{IsAccepted, after_event, leads, spot_after, spot_before}
use Rattle.prove_arrivals.specs.Replying.{long_arrivals}
use Rattle.prove_arrivals.specs.Subjects.{Accepts, IsOver, known_in, tables_in}
use Rattle.prove_arrivals.proofs.IncludedLemmas.{both_included, one_of, three_of}

-- after an event that breaks no rule
pub arrived_included : (t : Tables) (at : Option ℕ) (after : Result Amounts Break) (a : Amounts) (next : Amounts → List Arrival)
    → after ≡ Ok a → includes_all t (next a) ≡ true → includes_all t (arrive at after next) ≡ true
arrived_included t at after a next e h = subst (λ (r : Result Amounts Break). includes_all t (arrive at r next) ≡ true) (sym e) h

-- after a turn, at the depth of a command, and at those of a delegation
module _ (t : Tables) (s : Setting) (key : PlaceKey) (i : Ins) (dt : ℕ) (c z : Bool) (next : Amounts → List Arrival) where
  abbrev at : ℕ → List Arrival
  at d = arrive (Some key.at) (after_occasion s.rules.ons (OnTurn (line_of d key.at i dt c z)) key.allowances) next

  pub command_turned : (start : Start) (class : List Bool) → key.start ≡ start → start ≡ OfClass class → includes_all t (at 1) ≡ true
      → includes_all t (after_turn s key i dt c z next) ≡ true
  command_turned start class k e h = subst (λ (x : Start). includes_all t (flat_map at (depths x)) ≡ true) (sym (k ∙ e)) (one_of t at 1 h)

  pub delegation_turned : (start : Start) → key.start ≡ start → start ≡ Delegated → includes_all t (at 2) ≡ true → includes_all t (at 3) ≡ true
      → includes_all t (at 4) ≡ true → includes_all t (after_turn s key i dt c z next) ≡ true
  delegation_turned start k e h g o = subst (λ (x : Start). includes_all t (flat_map at (depths x)) ≡ true) (sym (k ∙ e)) (three_of t at 2 3 4 h g o)

-- the place after a delegation
pub back_included : (t : Tables) (start : Start) (a b : Amounts) (g copy back : Ground) → copy ≡ g
    → ((s : Start) (c : Amounts) → spot_of s c back ≡ steps.after_delegation (spot_of s c copy))
    → includes t (AtPlace (spot_of start b back).key (known_in back)) ≡ true
    → includes t (steps.arrived (steps.after_delegation (spot_of start a g)) b) ≡ true
back_included t start a b g copy back e h i =
    subst (λ (p : steps.Spot). includes t (steps.arrived p b) ≡ true) (h start a ∙ ap (λ (k : Ground). steps.after_delegation (spot_of start a k)) e) i

-- what follows an event that left some amounts
pub depth_included : (names : List (List ℕ)) (s : Setting) (u : Subject) (r : Row) (amounts : List ℕ) (depth : ℕ) (g : Ground) (i : Ins) (left ss : List ℕ) → ss ≡ left
    → AreAfter names (after_occasion s.rules.ons (OnTurn (line_of depth r.before.now.at i g.dt g.c g.z)) (amounts_of names amounts)) left → IsOver names s u amounts
    → ((old : List ℕ) → IsOver names s u ss
    → Accepts names u (after_event s r.writes (next_value r.next) (spot_before names u r old) (spot_after names u r old g) (amounts_of names ss)))
    → IsAccepted names s i u r amounts depth g
depth_included names s u r amounts depth g i left ss e after o h =
    let over : IsOver names s u ss = record { subject = o.subject; size = ap length e ∙ after.1 } in
    arrived_included (tables_in names u) (Some r.before.now.at) (after_occasion s.rules.ons (OnTurn (line_of depth r.before.now.at i g.dt g.c g.z)) (amounts_of names amounts))
    (amounts_of names ss) (after_event s r.writes (next_value r.next) (spot_before names u r amounts) (spot_after names u r amounts g))
    (after.0 ∙ ap (λ (l : List ℕ). Ok (amounts_of names l)) (sym e)) (h amounts over)

-- ---- rows that are done

module _ (t : Tables) (s : Setting) (i : Ins) (writes : Bool) (p : steps.Spot) where
  abbrev pub turned : Then → steps.Spot → List Arrival
  turned next q = after_turn s p.key i q.key.dt q.key.c q.key.z (after_event s writes next p q)

  -- of a delegation
  exits_are : (q : steps.Spot) (la : Lengths) (start : Start) → start ≡ Delegated
      → steps.exits_from s i start la p q ≡ after_turn s p.key i q.key.dt q.key.c q.key.z (exited s start q.known)
  exits_are q la start e =
      subst (λ (x : Start). steps.exits_from s i x la p q ≡ after_turn s p.key i q.key.dt q.key.c q.key.z (exited s x q.known)) (sym e) refl

  pub exit_included : (q : steps.Spot) (next : Then) → next ≡ Exits → p.key.start ≡ Delegated → includes_all t (turned next q) ≡ true
      → includes_all t (steps.follows s i writes next p q) ≡ true
  exit_included q next n e h =
      let la : Lengths = lengths_of (values_at q.known.bytes la_at) (values_at q.known.bytes (la_at + 1)) in
      let there : includes_all t (turned Exits q) ≡ true = subst (λ (x : Then). includes_all t (turned x q) ≡ true) n h in
      let here : includes_all t (steps.follows s i writes Exits p q) ≡ true =
      subst (λ (l : List Arrival). includes_all t l ≡ true) (sym (exits_are q la p.key.start e)) there in
      subst (λ (x : Then). includes_all t (steps.follows s i writes x p q) ≡ true) (sym n) here

  -- of a command
  command_exits_are : (q : steps.Spot) (la : Lengths) (start : Start) (class : List Bool) → start ≡ OfClass class
      → steps.exits_from s i start la p q
      ≡ long_arrivals s la.too_long p ++ cond la.fitting (after_turn s p.key i q.key.dt q.key.c q.key.z (exited s start q.known)) []
  command_exits_are q la start class e =
      subst (λ (x : Start). steps.exits_from s i x la p q ≡ long_arrivals s la.too_long p ++ cond la.fitting (after_turn s p.key i q.key.dt q.key.c q.key.z (exited s x q.known)) [])
      (sym e) refl

  pub command_exit_included : (q : steps.Spot) (next : Then) (class : List Bool) (la : Lengths) → next ≡ Exits → p.key.start ≡ OfClass class
      → la ≡ lengths_of (values_at q.known.bytes la_at) (values_at q.known.bytes (la_at + 1)) → includes_all t (long_arrivals s la.too_long p) ≡ true
      → includes_all t (cond la.fitting (turned next q) []) ≡ true → includes_all t (steps.follows s i writes next p q) ≡ true
  command_exit_included q next class la n e l b h =
      let there : includes_all t (cond la.fitting (turned Exits q) []) ≡ true = subst (λ (x : Then). includes_all t (cond la.fitting (turned x q) []) ≡ true) n h in
      let parts : includes_all t (long_arrivals s la.too_long p ++ cond la.fitting (turned Exits q) []) ≡ true =
      both_included t (long_arrivals s la.too_long p) (cond la.fitting (turned Exits q) []) b there in
      let here : includes_all t (steps.exits_from s i p.key.start la p q) ≡ true =
      subst (λ (l : List Arrival). includes_all t l ≡ true) (sym (command_exits_are q la p.key.start class e)) parts in
      let whole : includes_all t (steps.follows s i writes Exits p q) ≡ true =
      subst (λ (x : Lengths). includes_all t (steps.exits_from s i p.key.start x p q) ≡ true) l here in
      subst (λ (x : Then). includes_all t (steps.follows s i writes x p q) ≡ true) (sym n) whole

  pub goes_included : (q : steps.Spot) (next : Then) → next ≡ Goes → includes_all t (steps.stop_before writes s p) ≡ true → includes_all t (turned next q) ≡ true
      → includes_all t (steps.follows s i writes next p q) ≡ true
  goes_included q next n b h =
      let there : includes_all t (turned Goes q) ≡ true = subst (λ (x : Then). includes_all t (turned x q) ≡ true) n h in
      subst (λ (x : Then). includes_all t (steps.follows s i writes x p q) ≡ true) (sym n) (both_included t (steps.stop_before writes s p) (turned Goes q) b there)

  pub delegates_included : (q : steps.Spot) (next : Then) → next ≡ Delegates [] → includes_all t (turned next q) ≡ true
      → includes_all t (steps.follows s i writes next p q) ≡ true
  delegates_included q next n h =
      let there : includes_all t (turned (Delegates []) q) ≡ true = subst (λ (x : Then). includes_all t (turned x q) ≡ true) n h in
      subst (λ (x : Then). includes_all t (steps.follows s i writes x p q) ≡ true) (sym n) there

-- a row that is no return without an open call
pub row_included : (t : Tables) (s : Setting) (i : Ins) (h : Shape) (w : Work) (p q : steps.Spot) (rs : List steps.Spot) (late writes : Bool)
    → (steps.is_return h.act && steps.no_calls p.key.calls) ≡ false → late ≡ steps.may_wait_too_long s p.key.protected h.act
    → writes ≡ steps.makes_write s p.key.protected h.act → steps.spots s h w q ≡ rs → includes_all t (leads s i late writes h.next p rs) ≡ true
    → includes_all t (steps.caused None s i h w p q) ≡ true
row_included t s i h w p q rs late writes n l m e o =
    let late' : Bool = steps.may_wait_too_long s p.key.protected h.act in
    let writes' : Bool = steps.makes_write s p.key.protected h.act in
    let a : includes_all t (leads s i late' writes h.next p rs) ≡ true = subst (λ (b : Bool). includes_all t (leads s i b writes h.next p rs) ≡ true) l o in
    let b : includes_all t (leads s i late' writes' h.next p rs) ≡ true = subst (λ (b : Bool). includes_all t (leads s i late' b h.next p rs) ≡ true) m a in
    let c : includes_all t (leads s i late' writes' h.next p (steps.spots s h w q)) ≡ true =
    subst (λ (l : List steps.Spot). includes_all t (leads s i late' writes' h.next p l) ≡ true) (sym e) b in
    subst (λ (b : Bool). includes_all t (steps.row_arrivals b s i h w p q) ≡ true) (sym n) c

-- a row of too many combinations
pub coarse_included : (t : Tables) (s : Setting) (i : Ins) (f : Frame) (h : Shape) (c : Coarse) (p q : steps.Spot) (rs : List steps.Spot) (late writes static : Bool)
    → steps.reaches_static s f c ≡ static → late ≡ (static && p.key.protected && nat_lt 512 (static_size s)) → writes ≡ (static && not p.key.protected)
    → steps.coarse_spots f h.flags c (steps.lowered h.dt q) ≡ rs → includes_all t (leads s i late writes h.next p rs) ≡ true
    → includes_all t (steps.coarse_done None s i f h c p q) ≡ true
coarse_included t s i f h c p q rs late writes static r l m e o =
    let late' : Bool → Bool = λ x. x && p.key.protected && nat_lt 512 (static_size s) in
    let writes' : Bool → Bool = λ x. x && not p.key.protected in
    let a : includes_all t (leads s i (late' static) writes h.next p rs) ≡ true = subst (λ (b : Bool). includes_all t (leads s i b writes h.next p rs) ≡ true) l o in
    let b : includes_all t (leads s i (late' static) (writes' static) h.next p rs) ≡ true =
    subst (λ (b : Bool). includes_all t (leads s i (late' static) b h.next p rs) ≡ true) m a in
    let there : Bool = steps.reaches_static s f c in
    let d : includes_all t (leads s i (late' there) (writes' there) h.next p rs) ≡ true =
    subst (λ (x : Bool). includes_all t (leads s i (late' x) (writes' x) h.next p rs) ≡ true) (sym r) b in
    subst (λ (l : List steps.Spot). includes_all t (leads s i (late' there) (writes' there) h.next p l) ≡ true) (sym e) d

-- ---- open calls

pub no_call : (cs : List keys.Call) → length cs ≡ 0 → true ≡ steps.no_calls (calls_of cs)
no_call [] h = refl
no_call (c ∷ cs) h = absurd (omega (arith, h))

some_open : (ks : List Call) (k : Call) → false ≡ steps.no_calls (ks ++ k ∷ [])
some_open [] k = refl
some_open (x ∷ ks) k = refl

pub some_call : (cs : List keys.Call) → 1 ≤ length cs → false ≡ steps.no_calls (calls_of cs)
some_call [] h = absurd (omega (arith, h))
some_call (c ∷ cs) h = some_open (calls_of cs) (call_of c)

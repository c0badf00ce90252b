-- Where a frame begins, by a command or by a delegation, what the table of sums says of its first place holds.
use Rattle.std.specs.Prelude.{◌≡◌, ℕ, ◌+◌, ◌-◌, ◌≤◌, Bool, true, false, List, [], ◌∷◌, ◌++◌, length, flat_map, slice_index, None, Result, Ok, refl}
use Rattle.std.proofs.Common.{inl, inr, arith, ap, sym, subst, ◌∙◌}
use Rattle.std.proofs.lemmas.Bool.{and_parts}
use Rattle.std.proofs.lemmas.List.{length-replicate}
use Rattle.law_prove_closed.specs.model_device.specs.Bytes.{AreBytes, zeros}
use Rattle.law_prove_closed.specs.model_text.specs.Listing.{hex_text}
use Rattle.law_prove_closed.specs.model_machine.specs.Apdu.{ApduParts}
use Rattle.law_prove_closed.specs.model_machine.specs.Frame.{Frame, dynamic_base, public_base, static_bytes, new_frame, new_public}
use Rattle.law_prove_closed.specs.model_card.specs.Manager.{ToApplication, route}
use Rattle.law_prove_closed.specs.law_bytes.specs.OfChains.{IsByteCommand}
use Rattle.law_prove_closed.specs.law_promise.specs.Outline.{Entry, BySelection, ByDelegation}
use Rattle.law_prove_closed.specs.law_promise.specs.Domain.{first_frame_in}
use Rattle.law_prove_closed.specs.model_rules.specs.Rules.{AppRules, Target}
use Rattle.law_prove_closed.specs.model_rules.specs.Happenings.{Event, Commanded, History}
use Rattle.law_prove_closed.specs.model_rules.specs.Keeping.{Amounts, Break, Standing, OnCommand, after_occasion, are_totals}
use Rattle.law_prove_closed.specs.law_rules.specs.Law.{domain_of_rules}
use Rattle.law_prove_closed.specs.model_prove.specs.Facts.{Facts, Memory}
use Rattle.law_prove_closed.specs.model_prove.specs.Keys.{Start, Delegated, OfClass, Call, PlaceKey, Tables}
use Rattle.law_prove_closed.specs.model_prove.specs.Arrivals.{Setting, Arrival, static_size, arrive, idle, after_command, after_session}
use Rattle.law_prove_closed.specs.model_prove.specs.Between.{Class, classes, selected, continued, commanded, begun, first_place, public_facts, own_facts, static_facts, moment_arrivals}
use Rattle.law_prove_closed.specs.model_rules.specs.Loadable.{IsLoadable}
use Rattle.law_prove_closed.specs.model_prove.specs.Tables.{is_closed}
use Rattle.law_prove_closed.specs.law_prove.specs.Coverings.{frame_memory, class_of, StartsAs, AreOpen, IsPlace, key_of, covering_of}
use Rattle.law_prove_closed.specs.law_prove.specs.Laws.{PlacesCovered}
use Rattle.law_prove_closed.specs.law_prove.proofs.Parts.{memory_public}
use Rattle.law_prove_closed.specs.law_prove.proofs.Picks.{commanded_is}
use Rattle.law_prove_closed.specs.law_prove.proofs.Places.{place_law}
use Rattle.law_prove_closed.specs.CommandLaws.{HasClass}
use Rattle.law_prove_closed.proofs.Begins.{begin_law}
use Rattle.law_prove_closed.proofs.Classes.{class_law}
use Rattle.law_sums.specs.model_sums.specs.Sums.{SumsTable, sums_at, first_known}
use Rattle.law_sums.specs.model_sums.specs.Says.{Holds, TotalsHold, SumsHold}
use Rattle.law_sums.specs.model_sums.specs.Closed.{has_sums, all_pass, start_closed}
use Rattle.law_sums.proofs.KnownLemmas.{follow_holds, start_holds}
use Rattle.law_sum_plays.specs.Coverings.{IsSumMoment, IsSumPlace}
use Rattle.law_sum_plays.proofs.Standings.{one_standing, IsAllowed, allowed, then_event}
use Rattle.law_sum_plays.proofs.Totals.{AreWithin, totals_hold, reads_static}
use Rattle.law_sum_plays.proofs.Checked.{SumsClosed, pass_first, pass_second, starts_checked}
use Rattle.law_sum_plays.proofs.Kept.{Keeps, keeps_quiet, moment_keeps}
use Rattle.law_sum_plays.proofs.Outcomes.{Follows, follows_of}

-- ---- keys of first places

-- no call is open where the stack is empty
no_call : (floor top lb : ℕ) (dyn : List ℕ) (calls : List Call) → top ≡ floor → AreOpen floor top lb dyn calls → calls ≡ []
no_call floor top lb dyn [] same open_calls = refl
no_call floor top lb dyn (c ∷ cs) same open_calls =
    let high : c.dt ≤ top = open_calls.0 in
    let low : floor + 4 ≤ c.dt = open_calls.1 in
    absurd (omega (arith, high, low, same))

command_start : (r : AppRules) (bytes : List ℕ) (apdu : ApduParts) (before : History) (start : Start) → StartsAs r (BySelection bytes apdu before) start → start ≡ OfClass (class_of bytes r.ons)
command_start r bytes apdu before Delegated starts = absurd starts
command_start r bytes apdu before (OfClass class) starts = ap (λ (z : List Bool). OfClass z) starts

delegated_start : (r : AppRules) (start : Start) → StartsAs r ByDelegation start → start ≡ Delegated
delegated_start r Delegated starts = refl
delegated_start r (OfClass class) starts = absurd starts

-- ---- classes

-- a class of some with these matches passes a test of all
record Passed (test : Class → Bool) (matches : List Bool) : Type 0 where
  class : Class
  is : class.matches ≡ matches
  passes : test class ≡ true

passed_in : (f : Class → List Arrival) (test : Arrival → Bool) (matches : List Bool) (header : List ℕ) (cs : List Class) → HasClass matches header cs → all_pass test (flat_map f cs) ≡ true → Passed (λ c. all_pass test (f c)) matches
passed_in f test matches header [] has all = absurd has
passed_in f test matches header (c ∷ cs) has all =
    elim has [
      | inl x ↦ record { class = c; is = x.0; passes = pass_first test (f c) (flat_map f cs) all }
      | inr more ↦ passed_in f test matches header cs more (pass_second test (f c) (flat_map f cs) all)
    ]

module _ (r : AppRules) (g : Target) (t : Tables) (u : SumsTable) (loadable : IsLoadable g.app) (closed : is_closed (record { rules = r; app = g.app }) t ≡ true) (sums : SumsClosed (record { rules = r; app = g.app }) t u) where
  abbrev setting : Setting
  setting = record { rules = r; app = g.app }

  -- ---- a first place

  -- a place without protection, where totals hold and whose sums follow from those of a beginning
  first_covered : (e : Entry Event) (h : History) (f : Frame) (public : List ℕ) (q : IsPlace setting t e h f public) → f.protected ≡ false → f.pieces ≡ [] → Keeps setting h f.fixed
      → has_sums r.totals (first_known r.totals) (sums_at u (key_of setting t e h f public q)) ≡ true → IsSumPlace setting t u e h f public
  first_covered e h f public q free none keeps has =
      let found : Follows r.totals (first_known r.totals) (sums_at u (key_of setting t e h f public q)) = follows_of r.totals (first_known r.totals) (sums_at u (key_of setting t e h f public q)) has in
      let m : Memory = frame_memory f public in
      let size : length f.fixed ≡ static_size setting = q.frame.size in
      let low : length f.fixed ≤ dynamic_base = subst (λ (n : ℕ). n ≤ dynamic_base) (sym size) loadable.static in
      let kept : are_totals f.fixed q.standing.kept r.totals ≡ true = keeps q.standing q.stands in
      let totals : TotalsHold m q.standing.kept r.totals = totals_hold m f.fixed q.standing.kept r.totals (reads_static f public none) (subst (λ (n : ℕ). AreWithin n r.totals) (sym size) sums.static) kept in
      let bytes : (k : ℕ) → m (public_base + k) ≡ slice_index public k = λ k.
      let place : public_base + k - public_base ≡ k = omega arith in
      memory_public (length f.fixed) (static_bytes f) f.dyn public (public_base + k) low (omega arith) ∙ ap (λ (j : ℕ). slice_index public j) place
      in
      let held : Holds r.totals found.known public m q.standing.kept = follow_holds r.totals (first_known r.totals) found.known public m q.standing.kept found.follows (start_holds r.totals m q.standing.kept public bytes totals) in
      let says : SumsHold r.totals found.known false m f.fixed q.standing = record { first = public; holds = held; kept = kept } in
      record { place = q; known = found.known; there = found.is; sums = subst (λ (b : Bool). SumsHold r.totals found.known b m f.fixed q.standing) (sym free) says }

  -- the table of sums at the key of a first place
  first_key : (e : Entry Event) (h : History) (fixed session public : List ℕ) (start : Start) (a : Amounts) (q : IsPlace setting t e h (new_frame g.name (length g.app.code) g.app.deny fixed session) public) → length session ≡ g.app.session
      → q.start ≡ start → q.standing.allowances ≡ a → key_of setting t e h (new_frame g.name (length g.app.code) g.app.deny fixed session) public q ≡ first_place setting start a
  first_key e h fixed session public start a q count is same =
      let n : ℕ = dynamic_base + length session in
      let key : Start → Amounts → ℕ → List Call → PlaceKey = λ s b k cs. record { at = 0; start = s; allowances = b; c = false; z = false; dt = dynamic_base + k; lb = dynamic_base + k; protected = false; calls = cs } in
      ap (λ (s : Start). key s q.standing.allowances (length session) q.calls) is
      ∙ (ap (λ (b : Amounts). key start b (length session) q.calls) same
      ∙ (ap (λ (k : ℕ). key start a k q.calls) count
      ∙ ap (λ (cs : List Call). key start a g.app.session cs) (no_call n n n (session ++ zeros (512 - length session)) q.calls refl q.open_calls)))

  -- ---- by a command

  -- a command in a session begins a frame whose sums hold as the table has them
  pub begins_covered : (bytes : List ℕ) (apdu : ApduParts) (h : History) (fixed session : List ℕ) → route bytes ≡ ToApplication apdu → IsByteCommand apdu → IsSumMoment setting t true h fixed session → length session ≡ g.app.session
      → IsSumPlace setting t u (BySelection bytes apdu h) (Commanded bytes ∷ h) (first_frame_in (domain_of_rules g (covering_of setting t)) fixed session) (new_public apdu)
  begins_covered bytes apdu h fixed session routed command m count =
      let e : Entry Event = BySelection bytes apdu h in
      let k : History = Commanded bytes ∷ h in
      let f : Frame = new_frame g.name (length g.app.code) g.app.deny fixed session in
      let public : List ℕ = new_public apdu in
      let x : Standing = m.moment.standing in
      let facts : Facts = m.moment.facts in
      let q : IsPlace setting t e k f public = begin_law r g t loadable closed bytes apdu h fixed session routed command m.moment count in
      let test : Arrival → Bool = start_closed setting u in
      let all : all_pass test (moment_arrivals setting (classes r) (record { selected = true; allowances = x.allowances }) facts) ≡ true =
      starts_checked setting (classes r) u t.moments (record { selected = true; allowances = x.allowances }) facts sums.starts m.moment.there
      in
      let on : all_pass test (continued true setting (classes r) x.allowances facts) ≡ true = pass_second test (selected setting x.allowances facts) (continued true setting (classes r) x.allowances facts) all in
      let commands : all_pass test (flat_map (commanded setting x.allowances facts) (classes r)) ≡ true =
      pass_second test (arrive None (after_session setting x.allowances) (λ b. idle b (static_facts setting facts))) (flat_map (commanded setting x.allowances facts) (classes r)) on
      in
      let one : Passed (λ c. all_pass test (commanded setting x.allowances facts c)) (class_of bytes r.ons) =
      passed_in (commanded setting x.allowances facts) test (class_of bytes r.ons) (apdu.cla ∷ apdu.ins ∷ apdu.p1 ∷ apdu.p2 ∷ []) (classes r) (class_law r bytes apdu routed command) commands
      in
      let c : Class = one.class in
      let after : IsAllowed (after_occasion r.ons (OnCommand (hex_text bytes)) x.allowances) x q.standing =
      allowed (after_occasion r.ons (OnCommand (hex_text bytes)) x.allowances) x q.standing (then_event r (Commanded bytes) h x q.standing m.moment.stands q.stands)
      in
      let leads : after_command setting c.matches x.allowances ≡ Ok after.allowances =
      ap (λ (z : List Bool). after_command setting z x.allowances) one.is ∙ (commanded_is bytes r.ons x.allowances ∙ after.is)
      in
      let next : Amounts → List Arrival = λ b. begun setting (OfClass c.matches) b (public_facts c.sets (own_facts setting facts)) ∷ [] in
      let passes : all_pass test (next after.allowances) ≡ true = subst (λ (z : Result Amounts Break). all_pass test (arrive None z next) ≡ true) leads one.passes in
      let has : has_sums r.totals (first_known r.totals) (sums_at u (first_place setting (OfClass c.matches) after.allowances)) ≡ true =
      (and_parts (has_sums r.totals (first_known r.totals) (sums_at u (first_place setting (OfClass c.matches) after.allowances))) true passes).0
      in
      let start : q.start ≡ OfClass c.matches = command_start r bytes apdu h q.start q.starts ∙ ap (λ (z : List Bool). OfClass z) (sym one.is) in
      let key : key_of setting t e k f public q ≡ first_place setting (OfClass c.matches) after.allowances =
      first_key e k fixed session public (OfClass c.matches) after.allowances q count start (ap (λ (y : Standing). y.allowances) after.stands)
      in
      first_covered e k f public q refl refl (keeps_quiet setting (Commanded bytes) h fixed tt (moment_keeps setting t true h fixed session m))
      (subst (λ (z : PlaceKey). has_sums r.totals (first_known r.totals) (sums_at u z) ≡ true) (sym key) has)

  -- ---- by a delegation

  -- a delegation begins a frame whose sums hold as the table has them
  pub entered_covered : (h : History) (fixed public : List ℕ) → IsSumMoment setting t false h fixed [] → AreBytes public
      → IsSumPlace setting t u ByDelegation h (first_frame_in (domain_of_rules g (covering_of setting t)) fixed (zeros g.app.session)) public
  entered_covered h fixed public m others =
      let session : List ℕ = zeros g.app.session in
      let f : Frame = new_frame g.name (length g.app.code) g.app.deny fixed session in
      let x : Standing = m.moment.standing in
      let facts : Facts = m.moment.facts in
      let places : PlacesCovered setting t g = place_law r g t loadable closed in
      let q : IsPlace setting t ByDelegation h f public = places.entered h fixed public m.moment others in
      let test : Arrival → Bool = start_closed setting u in
      let all : all_pass test (moment_arrivals setting (classes r) (record { selected = false; allowances = x.allowances }) facts) ≡ true =
      starts_checked setting (classes r) u t.moments (record { selected = false; allowances = x.allowances }) facts sums.starts m.moment.there
      in
      let on : all_pass test (continued false setting (classes r) x.allowances facts) ≡ true = pass_second test (selected setting x.allowances facts) (continued false setting (classes r) x.allowances facts) all in
      let has : has_sums r.totals (first_known r.totals) (sums_at u (first_place setting Delegated x.allowances)) ≡ true =
      (and_parts (has_sums r.totals (first_known r.totals) (sums_at u (first_place setting Delegated x.allowances))) true on).0
      in
      let same : q.standing.allowances ≡ x.allowances = ap (λ (y : Standing). y.allowances) (one_standing r h q.standing x q.stands m.moment.stands) in
      let key : key_of setting t ByDelegation h f public q ≡ first_place setting Delegated x.allowances =
      first_key ByDelegation h fixed session public Delegated x.allowances q (length-replicate {A = ℕ} g.app.session 0) (delegated_start r q.start q.starts) same
      in
      first_covered ByDelegation h f public q refl refl (moment_keeps setting t false h fixed [] m) (subst (λ (z : PlaceKey). has_sums r.totals (first_known r.totals) (sums_at u z) ≡ true) (sym key) has)

-- The properties of code that the last pass over a whole table, with its bases, proves.
use Rattle.std.proofs.Common.{◌≡◌, ◌⊎◌, ℕ, ◌+◌, ◌<◌, ◌≤◌, Bool, true, false, cond, not, List, length, Option, Some, refl, sym, ap, subst, ◌∙◌, inl, inr, arith}
use Rattle.std.specs.Prelude.{◌&&◌, ◌==◌, nat_lt, is_some, slice_get, MatchBool, Result, Ok, Err}
use Rattle.std.proofs.lemmas.Bool.{ltb-true, ltb-false}
use borrow.Author.Count.{below_more}
use Rattle.std.specs.Ordering.{ord_max, nat_cmp, is_lt}
use Rattle.std.specs.declared.cmp.Ordering.TheVariants.{Less, Equal, Greater}
use Rattle.law_family.specs.model_text.specs.declared.checker.CheckCause.{CheckCause}
use Rattle.law_family.specs.model_text.specs.declared.checker.CheckCause.TheVariants.{Undefined, Past, Indirect, Returns, Under, Target, Recursive, Heights, Wild, Deep}
use Rattle.law_family.specs.model_machine.specs.declared.instruction.DecodeFault.{DecodeFault}
use Rattle.law_family.specs.model_machine.specs.declared.instruction.DecodeFault.TheVariants as fault
use Rattle.law_family.specs.model_machine.specs.declared.instruction.Ins.{Ins}
use Rattle.law_family.specs.model_machine.specs.Code.{instruction_at}
use Rattle.model_stack.specs.StackRows.{need, is_indirect, counts, places_inside, is_call, is_plain, writing}
use Rattle.model_stack.specs.StackShape.{Routine, Main, At, Fact, fact, is_main, Bad, look, Reached, HoldsAtFact, ReachesItself, SharesPlace, WritesWild, TooDeep, Depth, Breaks, Accepts, Refuses}
use Rattle.mc_check.specs.declared.table.Entry.{Entry}
use Rattle.mc_check.specs.declared.table.Refusal.{Refusal}
use Rattle.mc_check.specs.Judging.{calls_at, plain_at, depth_of, BeginsWithin, HasFactAt, HasCall, HasNoCall}
use Rattle.mc_check.specs.Table.{routine_of, fact_of, base_in, IsWholeTable, AreBases, IsRefusalOf}
use Rattle.mc_check.proofs.TableReads.{kept_inside}
use Rattle.mc_check.proofs.Reaching.{RoutineEntered, entered}
use Rattle.mc_check.proofs.FactLooks.{KeepsRules as GoodAlone, fine as good-alone}
use Rattle.mc_check.proofs.CallLemmas.{same_ins}

-- ---- the instruction at a place

call_of : (r : Result (Ins × ℕ) DecodeFault) → calls_at r ≡ true → (i : Ins) × (next : ℕ) × (r ≡ Ok (i, next)) × (is_call i ≡ true)
call_of (Ok p) h = (p.0, p.1, refl, h)
call_of (Err e) h = absurd (cc h)

wild_of : (session height : ℕ) (r : Result (Ins × ℕ) DecodeFault) → plain_at session height r ≡ false
    → (i : Ins) × (next : ℕ) × (r ≡ Ok (i, next)) × (is_plain session height (writing i) ≡ false)
wild_of session height (Ok p) h = (p.0, p.1, refl, h)
wild_of session height (Err e) h = absurd (cc h)

same_next : (r : Result (Ins × ℕ) DecodeFault) (i j : Ins) (n m : ℕ) → r ≡ Ok (i, n) → r ≡ Ok (j, m) → n ≡ m
same_next r i j n m a b = grind arith

-- ---- one entry

-- the depth of an entry at a place, or the rule that it breaks
abbrev pub depth_in : List ℕ → ℕ → List ℕ → Bool → ℕ → Entry → Result ℕ Refusal
depth_in code session bases calls p e =
    depth_of session p (base_in bases (routine_of e.routine)) e.height (calls && not (plain_at session e.height (instruction_at code p)))

-- no rule was broken
record NoRuleBroken (deep wild : Bool) (s d : ℕ) : Type 0 where
  shallow : deep ≡ false
  plain : wild ≡ false
  depth : s ≡ d

fine : (deep wild : Bool) (a b : Refusal) (s d : ℕ) → cond deep (Err a) (cond wild (Err b) (Ok s)) ≡ Ok d → NoRuleBroken deep wild s d
fine true wild a b s d h = absurd (cc h)
fine false true a b s d h = absurd (cc h)
fine false false a b s d h = record { shallow = refl; plain = refl; depth = cc h }

broken : (deep wild : Bool) (a b r : Refusal) (s : ℕ) → ◌≡◌ {A = Result ℕ Refusal} (cond deep (Err a) (cond wild (Err b) (Ok s))) (Err r)
    → ((deep ≡ true) × (a ≡ r)) ⊎ ((wild ≡ true) × (b ≡ r))
broken deep wild a b r s h = grind arith

-- an entry has a depth: it is within the stack, and its write is plain if the code has a call
pub record Rests (code : List ℕ) (session : ℕ) (bases : List ℕ) (calls : Bool) (p : ℕ) (e : Entry) (d : ℕ) : Type 0 where
  pub room : session + base_in bases (routine_of e.routine) + e.height ≤ 512
  pub plain : calls ≡ true → plain_at session e.height (instruction_at code p) ≡ true
  pub depth : base_in bases (routine_of e.routine) + e.height ≡ d

and_left : (a b : Bool) → (a && not b) ≡ false → a ≡ true → b ≡ true
and_left a b h e = grind arith

rests : (code : List ℕ) (session : ℕ) (bases : List ℕ) (calls : Bool) (p : ℕ) (e : Entry) (d : ℕ) → depth_in code session bases calls p e ≡ Ok d → Rests code session bases calls p e d
rests code session bases calls p e d h =
    let base = base_in bases (routine_of e.routine) in
    let plain = plain_at session e.height (instruction_at code p) in
    let f = fine (nat_lt 512 (session + base + e.height)) (calls && not plain) (record { place = p; cause = Deep }) (record { place = p; cause = Wild }) (base + e.height) d h in
    record {
      room = ltb-false 512 (session + base + e.height) f.shallow;
      plain = and_left calls plain f.plain;
      depth = f.depth;
    }

-- ---- the pass

-- no entry of the first n places breaks a rule or is deeper than `most`, and `most` is the depth of some fact
pub record Passes (code : List ℕ) (session : ℕ) (t : List (Option Entry)) (bases : List ℕ) (calls : Bool) (n most : ℕ) : Type 0 where
  pub each : (p : ℕ) → p < n → (e : Entry) → slice_get t p ≡ Some (Some e) → (d : ℕ) × (depth_in code session bases calls p e ≡ Ok d) × (d ≤ most)
  pub some : (f : Fact) × Reached code f × (most ≡ base_in bases f.routine + f.height)

-- the pass begins with the first fact
pub passes_none : (code : List ℕ) (session : ℕ) (t : List (Option Entry)) (bases : List ℕ) (calls : Bool) → Passes code session t bases calls 0 0
passes_none code session t bases calls =
    record {
      each = λ p below e there. absurd (omega arith);
      some = (fact Main 0 0, Reached.begins, omega arith);
    }

-- a place without an entry
pub passes_skip : (code : List ℕ) (session : ℕ) (t : List (Option Entry)) (bases : List ℕ) (calls : Bool) (n most : ℕ) → (HasFactAt t n → ⊥)
    → Passes code session t bases calls n most → Passes code session t bases calls (n + 1) most
passes_skip code session t bases calls n most none passes =
    let Each : ℕ → Type 0 = λ p. (e : Entry) → slice_get t p ≡ Some (Some e) → (d : ℕ) × (depth_in code session bases calls p e ≡ Ok d) × (d ≤ most) in
    record {
      each = below_more Each n passes.each (λ e there. absurd (none (e, there)));
      some = passes.some;
    }

-- the greater of two numbers, as the code finds it
record IsGreater (a b m : ℕ) : Type 0 where
  first : a ≤ m
  second : b ≤ m
  one : (m ≡ a) ⊎ (m ≡ b)

by_tests : (a b : ℕ) (lt eq : Bool) → nat_lt b a ≡ lt → IsGreater a b (cond (is_lt (cond lt Less (cond eq Equal Greater))) a b)
by_tests a b true eq h = record { first = omega arith; second = omega (arith, ltb-true b a h); one = inl refl }
by_tests a b false true h = record { first = omega (arith, ltb-false b a h); second = omega arith; one = inr refl }
by_tests a b false false h = record { first = omega (arith, ltb-false b a h); second = omega arith; one = inr refl }

greater : (a b : ℕ) → IsGreater a b (ord_max nat_cmp a b)
greater a b = by_tests a b (nat_lt b a) (b == a) refl

-- a place with an entry that breaks no rule
pub passes_more : (code : List ℕ) (session : ℕ) (t : List (Option Entry)) (bases : List ℕ) (calls : Bool) (n most : ℕ) (e : Entry) (d : ℕ)
    → slice_get t n ≡ Some (Some e) → depth_in code session bases calls n e ≡ Ok d → Reached code (fact_of n e)
    → Passes code session t bases calls n most → Passes code session t bases calls (n + 1) (ord_max nat_cmp most d)
passes_more code session t bases calls n most e d there depth reached passes =
    let m = ord_max nat_cmp most d in
    let g : IsGreater most d m = greater most d in
    let Each : ℕ → Type 0 = λ p. (o : Entry) → slice_get t p ≡ Some (Some o) → (k : ℕ) × (depth_in code session bases calls p o ≡ Ok k) × (k ≤ m) in
    let before : (p : ℕ) → p < n → Each p = λ p below o stands.
    let k = passes.each p below o stands in
    (k.0, k.1, omega (arith, k.2, g.first)) in
    let here : Each n = λ o stands.
    let same : o ≡ e = cc (there, stands) in
    subst (λ (x : Entry). (k : ℕ) × (depth_in code session bases calls n x ≡ Ok k) × (k ≤ m)) (sym same) (d, depth, g.second) in
    let deep = rests code session bases calls n e d depth in
    record {
      each = below_more Each n before here;
      some = elim g.one [
        | inl old ↦ (passes.some.0, passes.some.1, old ∙ passes.some.2)
        | inr new ↦ (fact_of n e, reached, new ∙ sym deep.depth)
      ];
    }

-- ---- the end

-- if some entry is a call, the flag is true
reported_true : (code : List ℕ) (t : List (Option Entry)) (calls : Bool) → MatchBool calls (HasCall code t) (HasNoCall code t (length t))
    → (p : ℕ) → HasFactAt t p → calls_at (instruction_at code p) ≡ true → calls ≡ true
reported_true code t true reported p kept called = refl
reported_true code t false reported p kept called = absurd (cc (reported p (kept_inside t p kept) kept, called))

-- if the flag is true, some entry is a call
reported_call : (code : List ℕ) (t : List (Option Entry)) (calls : Bool) → MatchBool calls (HasCall code t) (HasNoCall code t (length t)) → calls ≡ true → HasCall code t
reported_call code t true reported h = reported
reported_call code t false reported h = absurd (cc h)

and_both : (a b : Bool) → (a && not b) ≡ true → (a ≡ true) × (b ≡ false)
and_both a b h = grind arith

-- the premises of the pass
pub record Known (code : List ℕ) (t : List (Option Entry)) (bases : List ℕ) (calls : Bool) : Type 0 where
  pub whole : IsWholeTable code t
  pub based : AreBases code bases
  pub reported : MatchBool calls (HasCall code t) (HasNoCall code t (length t))

module _ (code : List ℕ) (session : ℕ) (t : List (Option Entry)) (bases : List ℕ) (calls : Bool) (known : Known code t bases calls) where
  -- the instruction at a fact breaks no rule by the fact alone
  good : (f : Fact) → Reached code f → (i : Ins) × (next : ℕ) × GoodAlone code f i next
  good f reached =
      let g = (known.whole.sound f (known.whole.all f reached)).1 in
      (g.0, g.1, good-alone code f g.0 g.1 g.2)

  no_holds : (f : Fact) (P : Ins → ℕ → Type 0) → Reached code f → ((i : Ins) (next : ℕ) → GoodAlone code f i next → P i next → ⊥) → HoldsAtFact code f P → ⊥
  no_holds f h reached h3 h4 = grind (arith, good, same_ins, same_next)

  no_undefined : (f : Fact) → Reached code f → instruction_at code f.place ≡ Err fault.Undefined → ⊥
  no_undefined f reached h = let g = good f reached in cc (h, g.2.there)

  no_past : (f : Fact) → Reached code f → instruction_at code f.place ≡ Err fault.Past → ⊥
  no_past f reached h = let g = good f reached in cc (h, g.2.there)

  no_shared : (f : Fact) → Reached code f → SharesPlace code f → ⊥
  no_shared f reached shares = grind arith

  no_recursion : (f : Fact) → Reached code f → ReachesItself code f → ⊥
  no_recursion f reached r = known.based.sound f reached r

  -- a caller that is reached is a call of the table
  calls_reported : (caller : Fact) (i : Ins) (next : ℕ) → Reached code caller → instruction_at code caller.place ≡ Ok (i, next) → is_call i ≡ true → calls ≡ true
  calls_reported caller i next reached stands is =
      let kept = known.whole.all caller reached in
      let called : calls_at (instruction_at code caller.place) ≡ true = ap (λ (r : Result (Ins × ℕ) DecodeFault). calls_at r) stands ∙ is in
      reported_true code t calls known.reported caller.place (kept.0, kept.1) called

  -- ---- no entry broke a rule

  module _ (most : ℕ) (passes : Passes code session t bases calls (length t) most) where
    -- the entry of a fact, and what follows from its depth
    at_fact : (f : Fact) → Reached code f → (e : Entry) × (d : ℕ) × (fact_of f.place e ≡ f) × Rests code session bases calls f.place e d × (d ≤ most)
    at_fact f reached =
        let mine = known.whole.all f reached in
        let deep = passes.each f.place (kept_inside t f.place (mine.0, mine.1)) mine.0 mine.1 in
        (mine.0, deep.0, mine.2, rests code session bases calls f.place mine.0 deep.0 deep.1, deep.2)

    no_wild : (f : Fact) → Reached code f → WritesWild code session f → ⊥
    no_wild f reached w =
        let a = at_fact f reached in
        let called = calls_reported w.caller w.call w.calls.0 w.reached w.calls.1 w.is_call in
        let plain : is_plain session a.0.height (writing w.writer) ≡ true =
        sym (ap (λ (r : Result (Ins × ℕ) DecodeFault). plain_at session a.0.height r) w.stands.1) ∙ a.3.plain called in
        let high : is_plain session f.height (writing w.writer) ≡ true = subst (λ (g : Fact). is_plain session g.height (writing w.writer) ≡ true) a.2 plain in
        cc (high, w.wild)

    -- the base of a fact and its height are no more than the depth
    no_deeper : (f : Fact) (b : ℕ) → Reached code f → Depth code f.routine b → (session + b + f.height ≤ 512) × (b + f.height ≤ most)
    no_deeper f b reached depth = grind (arith, at_fact)

    no_deep : (f : Fact) → Reached code f → TooDeep code session f → ⊥
    no_deep f reached d = absurd (omega (arith, d.deep, (no_deeper f d.base reached d.is_base.reached).0))

    sound : (f : Fact) (cause : CheckCause) → Reached code f → Breaks code session cause f → ⊥
    sound f Undefined reached b = no_undefined f reached b
    sound f Past reached b = no_past f reached b
    sound f Indirect reached b = no_holds f (λ i next. is_indirect i ≡ true) reached (λ i next g h. cc (g.direct, h)) b
    sound f Returns reached b = elim b [
      | inl h ↦ no_holds f (λ i next. (is_main f.routine && is_some (counts i)) ≡ true) reached (λ i next g h. cc (g.stays, h)) h
      | inr d ↦ known.whole.returns f reached d
    ]
    sound f Under reached b = elim b [
      | inl h ↦ no_holds f (λ i next. f.height < need i) reached (λ i next g h. let most = ltb-false f.height (need i) g.enough in absurd (omega (arith, most, h))) h
      | inr takes ↦ known.whole.takes f reached takes
    ]
    sound f Target reached b = no_holds f (λ i next. places_inside (length code) i next ≡ false) reached (λ i next g h. cc (g.inside, h)) b
    sound f Recursive reached b = known.based.sound f reached b
    sound f Heights reached b = no_shared f reached b
    sound f Wild reached b = no_wild f reached b
    sound f Deep reached b = no_deep f reached b

    pub accepts : Accepts code session most
    accepts =
        let top = passes.some in
        record {
          sound = sound;
          deepest = record {
            some = (top.0, base_in bases top.0.routine, top.1, known.based.each top.0 top.1, top.2);
            greatest = λ f b reached base. (no_deeper f b reached base.reached).1;
          };
        }

  -- ---- an entry breaks a rule

  never_bad : (f : Fact) → Reached code f → (cause alone : CheckCause) → look code f ≡ Bad alone → cause ≡ alone
  never_bad f reached cause alone h = grind arith

  too_deep : (p : ℕ) (e : Entry) → Reached code (fact_of p e) → 512 < session + base_in bases (routine_of e.routine) + e.height → Refuses code session p Deep
  too_deep p e reached deep =
      record {
        fact = fact_of p e;
        reached = reached;
        at = refl;
        breaks = grind (arith, sound);
        first = never_bad (fact_of p e) reached Deep;
      }

  writes_wild : (p : ℕ) (e : Entry) → Reached code (fact_of p e) → (calls && not (plain_at session e.height (instruction_at code p))) ≡ true → Refuses code session p Wild
  writes_wild p e reached test =
      let both = and_both calls (plain_at session e.height (instruction_at code p)) test in
      let caller = reported_call code t calls known.reported both.0 in
      let there = caller.1 in
      let call = call_of (instruction_at code caller.0) caller.2 in
      let writer = wild_of session e.height (instruction_at code p) both.1 in
      record {
        fact = fact_of p e;
        reached = reached;
        at = refl;
        breaks = record {
          caller = fact_of caller.0 there.0;
          reached = (known.whole.sound (fact_of caller.0 there.0) (there.0, there.1, refl)).0;
          call = call.0;
          calls = (call.1, call.2);
          is_call = call.3;
          writer = writer.0;
          stands = (writer.1, writer.2);
          wild = writer.3;
        };
        first = never_bad (fact_of p e) reached Wild;
      }

  begins_within : (r : Routine) → RoutineEntered code r → BeginsWithin (length bases) r
  begins_within Main h = tt
  begins_within (At q) h =
      let kept = known.whole.all (fact (At q) q 0) h in
      let inside = kept_inside t q (kept.0, kept.1) in
      omega (arith, inside, known.whole.size, known.based.size)

  -- the fact of an entry is reached
  pub entry_reached : (p : ℕ) (e : Entry) → slice_get t p ≡ Some (Some e) → Reached code (fact_of p e)
  entry_reached p e there = (known.whole.sound (fact_of p e) (e, there, refl)).0

  pub refuses : (p : ℕ) (e : Entry) (r : Refusal) → slice_get t p ≡ Some (Some e) → depth_in code session bases calls p e ≡ Err r → IsRefusalOf code session r
  refuses p e r there depth =
      let reached = entry_reached p e there in
      let base = base_in bases (routine_of e.routine) in
      let wild = calls && not (plain_at session e.height (instruction_at code p)) in
      elim (broken (nat_lt 512 (session + base + e.height)) wild (record { place = p; cause = Deep }) (record { place = p; cause = Wild }) r (base + e.height) depth) [
        | inl deep ↦ subst (λ (x : Refusal). IsRefusalOf code session x) deep.1 (too_deep p e reached (ltb-true 512 (session + base + e.height) deep.0))
        | inr wrote ↦ subst (λ (x : Refusal). IsRefusalOf code session x) wrote.1 (writes_wild p e reached wrote.0)
      ]

  -- the routine of an entry begins in the code
  pub entry_begins : (p : ℕ) (e : Entry) → slice_get t p ≡ Some (Some e) → BeginsWithin (length bases) (routine_of e.routine)
  entry_begins p e there = begins_within (routine_of e.routine) (entered (entry_reached p e there))

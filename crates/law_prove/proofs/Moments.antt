-- What may follow a moment between commands is a moment that closed tables have.
use Rattle.std.proofs.Common.{◌≡◌, ℕ, zero, suc, ◌+◌, ◌-◌, ◌<◌, ◌≤◌, Bool, true, false, cond, not, List, [], ◌∷◌, length, None, Result, Ok, refl, sym, ap, ◌∙◌, arith}
use Rattle.std.specs.Prelude.{◌||◌, nat_lt, nat_le, ◌==◌, map, flat_map, is_ok, slice_index}
use Rattle.std.proofs.lemmas.Bool.{and_parts, and_from, leb-true, ltb-true, ltb-false, lt-ltb, le-leb, eqb-true, false_from_ne_true}
use Rattle.model_prove.specs.model_device.specs.Bytes.{AreBytes, zeros}
use Rattle.model_prove.specs.model_text.specs.Text.{◌>>=◌}
use Rattle.model_prove.specs.model_machine.specs.Frame.{dynamic_base}
use Rattle.model_prove.specs.model_rules.specs.Rules.{Range}
use Rattle.model_prove.specs.model_rules.specs.Happenings.{History, Session}
use Rattle.model_prove.specs.model_rules.specs.Keeping.{Amounts, Break, Standing, with_allowances, after_event, standing_after, first_standing, is_in_range, are_in_ranges, keeps_rules}
use Rattle.model_prove.specs.Sets.{Set, is_in, numbers_from}
use Rattle.model_prove.specs.Facts.{Facts, Memory, Holds, values_at, within, know_bytes}
use Rattle.model_prove.specs.Keys.{Tables}
use Rattle.model_prove.specs.Laws.{AreIn, HoldsBytes}
use Rattle.model_prove.specs.Arrivals.{Setting, AtMoment, static_size, idle, after_session, arrive}
use Rattle.model_prove.specs.Between.{classes, selected, continued, commanded, static_facts, with_zero_session, values_between, keeps_range}
use Rattle.model_prove.specs.Tables.{keeps_ranges, is_closed}
use Rattle.model_prove.specs.model_rules.specs.Loadable.{IsLoadable}
use Rattle.model_prove.proofs.ChangeLemmas.{written_holds}
use Rattle.model_prove.proofs.FactLemmas.{value_holds}
use Rattle.model_prove.proofs.SetLemmas.{is_first, in_larger}
use Rattle.law_prove.specs.Coverings.{moment_memory, IsMoment, IsUnbroken}
use Rattle.law_prove.specs.Laws.{MomentsCovered, MomentLaw}
use Rattle.law_prove.proofs.Closed.{included_first, included_second, Arrives, arrives, HasMoment, moment_included, moment_closed, created_included}
use Rattle.law_rules.specs.law_bytes.proofs.ByteLists.{indexed, zero_bytes}

-- ---- bytes

-- each of n zeros is zero
pub zero_at : (n i : ℕ) → slice_index (zeros n) i ≡ 0
zero_at zero i = refl
zero_at (suc n) zero = refl
zero_at (suc n) (suc i) = zero_at n i

-- a choice of two bytes is a byte
pub cond_small : (b : Bool) (x y : ℕ) → x < 256 → y < 256 → cond b x y < 256
cond_small true x y p q = p
cond_small false x y p q = q

-- the memory of a moment holds bytes
pub memory_bytes : (fixed session : List ℕ) → AreBytes fixed → AreBytes session → HoldsBytes (moment_memory fixed session)
memory_bytes fixed session f d a = cond_small (nat_lt a (length fixed)) (slice_index fixed a) (slice_index session (a - dynamic_base)) (indexed fixed a f) (indexed session (a - dynamic_base) d)

-- ---- facts of some addresses

-- facts that hold of a state hold of another that agrees with it at the addresses of a range, within that range
filtered_by : (b : Bool) (e : ℕ × Set) (rest : Facts) (k : Memory) → (b ≡ true → is_in (k e.0) e.1 ≡ true) → Holds rest k → Holds (cond b (e ∷ rest) rest) k
filtered_by true e rest k is h = (is refl, h)
filtered_by false e rest k is h = h

-- facts of a range of addresses hold of a memory that has the same bytes there
pub within_holds : (low high : ℕ) (f : Facts) (m k : Memory) → ((a : ℕ) → low ≤ a → a < high → m a ≡ k a) → Holds f m → Holds (within low high f) k
within_holds low high [] m k same h = tt
within_holds low high (e ∷ f) m k same h = grind (arith, filtered_by, and_parts, leb-true, ltb-true, within_holds low high f m k same h.1)

-- ---- static facts

-- a static byte is the same whatever the session bytes are
static_same : (fixed one other : List ℕ) (a : ℕ) → a < length fixed → moment_memory fixed one a ≡ moment_memory fixed other a
static_same fixed one other a h = grind (arith, lt-ltb)

static_holds : (s : Setting) (f : Facts) (fixed one other : List ℕ) → length fixed ≡ static_size s → Holds f (moment_memory fixed one) → Holds (static_facts s f) (moment_memory fixed other)
static_holds s f fixed one other size h =
    within_holds 0 (static_size s) f (moment_memory fixed one) (moment_memory fixed other) (λ a low high. static_same fixed one other a (rw size high)) h

-- ---- zero session bytes

zero_memory : (fixed : List ℕ) (n a : ℕ) → length fixed ≤ a → moment_memory fixed (zeros n) a ≡ 0
zero_memory fixed n a h = grind (arith, false_from_ne_true, ltb-true, zero_at)

zeros_in : (fixed : List ℕ) (n i a : ℕ) → length fixed ≤ a → AreIn (moment_memory fixed (zeros n)) a (map (λ v. v ∷ []) (zeros i))
zeros_in fixed n zero a h = tt
zeros_in fixed n (suc i) a h = (rw (zero_memory fixed n a h), zeros_in fixed n i (suc a) (omega (arith, h)))

zero_session_holds : (s : Setting) (f : Facts) (fixed session : List ℕ) → length fixed ≡ static_size s → static_size s ≤ dynamic_base → Holds f (moment_memory fixed session)
    → Holds (with_zero_session s f) (moment_memory fixed (zeros s.app.session))
zero_session_holds s f fixed session size low h =
    let k : Memory = moment_memory fixed (zeros s.app.session) in
    written_holds dynamic_base (map (λ v. v ∷ []) (zeros s.app.session)) (static_facts s f) k k (λ b outside. refl)
    (zeros_in fixed s.app.session s.app.session dynamic_base (rw size low))
    (static_holds s f fixed session (zeros s.app.session) size h)

-- ---- the bytes of a new application

-- the bytes of a memory lie in their own singletons
pub bytes_in : (bs : List ℕ) (a : ℕ) (k : Memory) → ((j : ℕ) → j < length bs → k (a + j) ≡ slice_index bs j) → AreIn k a (map (λ v. v ∷ []) bs)
bytes_in [] a k same = tt
bytes_in (b ∷ bs) a k same =
    let first : a + 0 ≡ a = omega arith in
    let is : k a ≡ b = ap k (sym first) ∙ same 0 (omega arith) in (
      rw is (is_first b []),
      bytes_in bs (suc a) k (λ j low. let next : suc a + j ≡ a + suc j = omega arith in ap k next ∙ same (suc j) (omega (arith, low))),
    )

created_holds : (fixed : List ℕ) → Holds (know_bytes 0 fixed []) (moment_memory fixed [])
created_holds fixed =
    let k : Memory = moment_memory fixed [] in
    written_holds 0 (map (λ v. v ∷ []) fixed) [] k k (λ b outside. refl)
    (bytes_in fixed 0 k (λ j low.
    let same : 0 + j ≡ j = omega arith in
    ap k same ∙ ap (λ (b : Bool). cond b (slice_index fixed j) (slice_index [] (j - dynamic_base))) (lt-ltb j (length fixed) low))) tt

-- ---- what stands

-- the standing after the end of a session has the allowances that its lines leave
pub session_stands : (s : Setting) (h : History) (x : Standing) (b : Amounts) → standing_after s.rules h ≡ Ok x → after_session s x.allowances ≡ Ok b → standing_after s.rules (Session ∷ h) ≡ Ok (record x { allowances = b })
session_stands s h x b is e =
    ap (λ (z : Result Standing Break). z >>= after_event s.rules Session) is ∙ ap (λ (z : Result Amounts Break). z >>= with_allowances x) e

unbroken : (s : Setting) (t : Tables) (x : Bool) (h : History) (fixed session : List ℕ) → IsMoment s t x h fixed session → IsUnbroken s h
unbroken s t x h fixed session m = ap (λ (z : Result Standing Break). not (is_ok z)) m.stands

-- ---- ranges

between_by : (x : Bool) (v k n : ℕ) → (k == v) ≡ x → (x || is_in v (numbers_from (suc k) n)) ≡ true → (is_in v (numbers_from (suc k) n) ≡ true → (suc k ≤ v) × (v < suc k + n)) → (k ≤ v) × (v < k + suc n)
between_by true v k n same e again = let is : k ≡ v = eqb-true k v same in (omega (arith, is), omega (arith, is))
between_by false v k n same e again = let p = again e in let low = p.0 in let high = p.1 in (omega (arith, low), omega (arith, high))

between_is : (v k n : ℕ) → is_in v (numbers_from k n) ≡ true → (k ≤ v) × (v < k + n)
between_is v k zero e = absurd (cc e)
between_is v k (suc n) e = between_by (k == v) v k n refl e (between_is v (suc k) n)

in_range : (fixed : List ℕ) (f : Facts) (m : Memory) (r : Range) → Holds f m → HoldsBytes m → m r.at ≡ slice_index fixed r.at → keeps_range f r ≡ true → is_in_range fixed r ≡ true
in_range fixed f m r holds bytes same e =
    let among : is_in (m r.at) (values_between r.low r.high) ≡ true = in_larger (m r.at) (values_at f r.at) (values_between r.low r.high) e (value_holds f m r.at holds (bytes r.at)) in
    let v = slice_index fixed r.at in
    let p = between_is v r.low (r.high + 1 - r.low) (rw (← same) among) in
    let low = p.0 in
    let high = p.1 in
    and_from (nat_le r.low v) (nat_le v r.high) (le-leb r.low v low) (le-leb v r.high (omega (arith, low, high)))

in_ranges : (fixed : List ℕ) (f : Facts) (m : Memory) → Holds f m → HoldsBytes m → ((a : ℕ) → m a ≡ slice_index fixed a) → (rs : List Range) → keeps_ranges rs f ≡ true → are_in_ranges fixed rs ≡ true
in_ranges fixed f m holds bytes same [] e = refl
in_ranges fixed f m holds bytes same (r ∷ rs) e =
    let p = and_parts (keeps_range f r) (keeps_ranges rs f) e in
    and_from (is_in_range fixed r) (are_in_ranges fixed rs) (in_range fixed f m r holds bytes (same r.at) p.0) (in_ranges fixed f m holds bytes same rs p.1)

-- without session bytes each address has the static byte, or none
past_end : (l : List ℕ) (i : ℕ) → length l ≤ i → slice_index l i ≡ 0
past_end [] i h = refl
past_end (x ∷ xs) zero h = absurd (omega (arith, h))
past_end (x ∷ xs) (suc i) h = past_end xs i (omega (arith, h))

idle_by : (b : Bool) (fixed : List ℕ) (a : ℕ) → nat_lt a (length fixed) ≡ b → cond b (slice_index fixed a) (slice_index [] (a - dynamic_base)) ≡ slice_index fixed a
idle_by true fixed a e = refl
idle_by false fixed a e = let high = ltb-false a (length fixed) e in sym (past_end fixed a (omega (arith, high)))

idle_memory : (fixed : List ℕ) (a : ℕ) → moment_memory fixed [] a ≡ slice_index fixed a
idle_memory fixed a = idle_by (nat_lt a (length fixed)) fixed a refl

-- ---- the moments that follow

-- a key of the tables whose facts hold of the bytes after a history is its moment
pub from_memory : (s : Setting) (t : Tables) (x : Bool) (h : History) (fixed session : List ℕ) (standing : Standing) → standing_after s.rules h ≡ Ok standing → length fixed ≡ static_size s → AreBytes fixed → AreBytes session
    → HasMoment t (record { selected = x; allowances = standing.allowances }) (moment_memory fixed session) → IsMoment s t x h fixed session
from_memory s t x h fixed session standing stands size static dynamic m =
    record { standing = standing; stands = stands; facts = m.facts; there = m.there; holds = m.holds; size = size; static = static; dynamic = dynamic }

module _ (s : Setting) (t : Tables) (loadable : IsLoadable s.app) (closed : is_closed s t ≡ true) where
  is_created : IsMoment s t false [] s.app.fixed []
  is_created =
      from_memory s t false [] s.app.fixed [] (first_standing s.rules) refl refl loadable.bytes tt
      (moment_included t (record { selected = false; allowances = s.rules.allowances }) (know_bytes 0 s.app.fixed []) (moment_memory s.app.fixed []) (created_included s t closed) (created_holds s.app.fixed)
      (memory_bytes s.app.fixed [] loadable.bytes tt))

  chosen : (x : Bool) (h : History) (fixed session : List ℕ) → IsMoment s t x h fixed session → IsMoment s t true (Session ∷ h) fixed (zeros s.app.session)
  chosen x h fixed session m =
      let a = m.standing.allowances in
      let all = (moment_closed s t (record { selected = x; allowances = a }) m.facts closed m.there).outcomes in
      let sel = included_first t (selected s a m.facts) (continued x s (classes s.rules) a m.facts) all in
      let next : Arrives t (after_session s a) (λ b. AtMoment (record { selected = true; allowances = b }) (with_zero_session s m.facts) ∷ []) =
      arrives t None (after_session s a) (λ b. AtMoment (record { selected = true; allowances = b }) (with_zero_session s m.facts) ∷ []) sel
      in
      from_memory s t true (Session ∷ h) fixed (zeros s.app.session) (record m.standing { allowances = next.allowances }) (session_stands s h m.standing next.allowances m.stands next.is) m.size m.static (zero_bytes s.app.session)
      (moment_included t (record { selected = true; allowances = next.allowances }) (with_zero_session s m.facts) (moment_memory fixed (zeros s.app.session)) next.rest
      (zero_session_holds s m.facts fixed session m.size loadable.static m.holds) (memory_bytes fixed (zeros s.app.session) m.static (zero_bytes s.app.session)))

  is_ended : (h : History) (fixed session : List ℕ) → IsMoment s t true h fixed session → IsMoment s t false (Session ∷ h) fixed []
  is_ended h fixed session m =
      let a = m.standing.allowances in
      let all = (moment_closed s t (record { selected = true; allowances = a }) m.facts closed m.there).outcomes in
      let on = included_second t (selected s a m.facts) (continued true s (classes s.rules) a m.facts) all in
      let end = included_first t (arrive None (after_session s a) (λ b. idle b (static_facts s m.facts))) (flat_map (commanded s a m.facts) (classes s.rules)) on in
      let next : Arrives t (after_session s a) (λ b. idle b (static_facts s m.facts)) = arrives t None (after_session s a) (λ b. idle b (static_facts s m.facts)) end in
      from_memory s t false (Session ∷ h) fixed [] (record m.standing { allowances = next.allowances }) (session_stands s h m.standing next.allowances m.stands next.is) m.size m.static tt
      (moment_included t (record { selected = false; allowances = next.allowances }) (static_facts s m.facts) (moment_memory fixed []) next.rest
      (static_holds s m.facts fixed session [] m.size m.holds) (memory_bytes fixed [] m.static tt))

  -- ---- the rules

  -- the static bytes of a moment without a session keep the ranges
  pub idle_ranges : (h : History) (fixed : List ℕ) → IsMoment s t false h fixed [] → are_in_ranges fixed s.rules.ranges ≡ true
  idle_ranges h fixed m =
      in_ranges fixed m.facts (moment_memory fixed []) m.holds (memory_bytes fixed [] m.static tt) (idle_memory fixed) s.rules.ranges
      ((moment_closed s t (record { selected = false; allowances = m.standing.allowances }) m.facts closed m.there).ranges)

  kept_by : (h : History) (fixed : List ℕ) (x : Standing) → s.rules.totals ≡ [] → standing_after s.rules h ≡ Ok x → are_in_ranges fixed s.rules.ranges ≡ true → keeps_rules s.rules h fixed ≡ true
  kept_by h fixed x none stands ranges = grind (arith, and_from)

  -- closed tables cover what follows each moment between commands
  pub moments_covered : MomentsCovered s t
  moments_covered =
      record {
        none = refl;
        created = is_created;
        deleted = λ h fixed m. unbroken s t false h fixed [] m;
        selected = λ h fixed m. chosen false h fixed [] m;
        selected_again = λ h fixed session m. chosen true h fixed session m;
        ended = is_ended;
        idle_keeps = λ none h fixed m. kept_by h fixed m.standing none m.stands (idle_ranges h fixed m);
        session_keeps = λ none h fixed session m. kept_by h fixed m.standing none m.stands (idle_ranges (Session ∷ h) fixed (is_ended h fixed session m));
      }

-- closed tables cover the moments of every loadable application
pub moment_law : MomentLaw
moment_law s t loadable closed = moments_covered s t loadable closed

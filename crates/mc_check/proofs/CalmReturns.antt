-- Returns of accepted code: none abends, and the frame goes on after the call that was open last, with the LB of its
-- routine.
use Rattle.std.proofs.Common.{◌≡◌, ℕ, ◌+◌, ◌-◌, ◌≤◌, ◌<◌, true, false, List, length, take, drop, Option, Some, None, refl, sym, ap, subst, ◌∙◌, inl, inr, arith}
use Rattle.std.specs.Prelude.{is_some}
use Rattle.std.proofs.lemmas.Bool.{and_parts, and_from, ltb-true, lt-ltb, le-leb, cases_lt, not_from_true}
use Rattle.std.proofs.lemmas.List.{length-take, length-drop, drop-drop}
use Rattle.law_family.specs.model_text.specs.declared.checker.CheckCause.TheVariants.{Under}
use Rattle.law_family.specs.model_machine.specs.declared.instruction.Ins.{Ins}
use Rattle.law_family.specs.model_machine.specs.declared.instruction.Ins.TheVariants as ins
use Rattle.law_family.specs.model_device.specs.Bytes.{bytes2, num, splice}
use Rattle.law_family.specs.model_machine.specs.Frame.{Frame, dynamic_base, top, saved_address, no_return, come_back}
use Rattle.law_family.specs.model_machine.specs.Primitives.{Around, effect_and_next, frame_effect}
use Rattle.law_family.specs.model_machine.specs.Row.{causes, effect, first_cause, return_causes, no_place}
use Rattle.law_family.specs.model_machine.specs.Chain.{frame_at}
use Rattle.model_stack.specs.StackRows.{need, counts, call_target, places_inside}
use Rattle.model_stack.specs.StackShape.{Routine, At, fact, Reached, returns, Gives, ReturnsWith, Accepts}
use Rattle.mc_check.specs.Standing.{StandsAt, OpenCalls, none, call}
use Rattle.mc_check.proofs.AcceptedFacts.{GoodAt, good_at, HasStackRoom, HasBases, room_at}
use Rattle.mc_check.proofs.FactLooks.{fine}
use Rattle.mc_check.proofs.OpenCalls.{IsAtFact, IsStanding, open_front, open_depth, spliced_above, num_bytes2}
use Rattle.law_family.specs.model_device.proofs.ListLemmas.{length_splice}
use Rattle.mc_check.proofs.ClosingPlaces.{call_goes_on}
use Rattle.law_family.specs.model_device.specs.Limits.{most_code}

-- ---- the rows of returns

-- a return with the given counts
pub record IsReturn (i : Ins) (c : ℕ × ℕ) : Type 0 where
  pub causes : (f : Frame) (public : List ℕ) (x : Around) → causes i f public x ≡ return_causes f c.0 c.1
  pub effect : (f : Frame) (public : List ℕ) (x : Around) → effect i f public x ≡ effect_and_next (frame_effect (come_back f c.0 c.1) public)
  pub need : need i ≡ c.1

of_counts : (i : Ins) (c d : ℕ × ℕ) → IsReturn i c → Some c ≡ Some d → IsReturn i d
of_counts i c d r e = let same : c ≡ d = cc e in subst (λ (p : ℕ × ℕ). IsReturn i p) same r

pub returning : (i : Ins) (c : ℕ × ℕ) → counts i ≡ Some c → IsReturn i c
unfolding causes effect
returning ins.Ret c e = of_counts ins.Ret (0, 0) c (record { causes = λ f public x. refl; effect = λ f public x. refl; need = refl }) e
returning (ins.Reti n) c e = of_counts (ins.Reti n) (n, 0) c (record { causes = λ f public x. refl; effect = λ f public x. refl; need = refl }) e
returning (ins.Reto n) c e = of_counts (ins.Reto n) (0, n) c (record { causes = λ f public x. refl; effect = λ f public x. refl; need = refl }) e
returning (ins.Retio n m) c e = of_counts (ins.Retio n m) (n, m) c (record { causes = λ f public x. refl; effect = λ f public x. refl; need = refl }) e
returning i c e = absurd (cc e)

-- ---- the place after a call

-- the place after a call lies in the code
pub behind_call : (len : ℕ) (j : Ins) (q after : ℕ) → call_target j ≡ Some q → places_inside len j after ≡ true → after < len
behind_call len j q after target inside = grind (arith, and_parts, ltb-true, call_goes_on)

-- ---- numbers of a return

no_cause : (f : Frame) (less more : ℕ) → no_return f less more ≡ false → no_place f (Some (saved_address f 2)) ≡ false → first_cause (return_causes f less more) ≡ None
no_cause f less more p q = rw (p, q) refl

-- the word that a call pushed k bytes above its LB, read back `below` bytes below the new LB
read_back : (f : Frame) (session k below n : ℕ) → f.lb - below - dynamic_base ≡ session + k → take 2 (drop k (drop session f.dyn)) ≡ bytes2 n → n < 65536 → saved_address f below ≡ n
read_back f session k below n place word small =
    ap (λ (m : ℕ). num (take 2 (drop m f.dyn))) place ∙ ap (λ (l : List ℕ). num (take 2 l)) (sym (drop-drop k session f.dyn)) ∙ ap (λ (l : List ℕ). num l) word ∙ num_bytes2 n small

top_length : (f : Frame) (n at : ℕ) → length f.dyn ≡ 512 → f.dt - dynamic_base ≡ at → n ≤ at → at ≤ 512 → length (top f n) ≡ n
top_length f n at long is low high = omega (arith, length-take n (drop (f.dt - n - dynamic_base) f.dyn), length-drop (f.dt - n - dynamic_base) f.dyn)

-- ---- the frame after a return

-- a return that never abends, and the frame that it leaves
pub record Back (code : List ℕ) (session : ℕ) (f : Frame) (less more : ℕ) : Type 0 where
  pub calm : first_cause (return_causes f less more) ≡ None
  pub standing : IsStanding code session (come_back f less more)

module _ (code : List ℕ) (session most : ℕ) (accepts : Accepts code session most) (bases : HasBases code) (short : length code ≤ most_code) where
  -- the call took no more bytes than there were
  enough_taken : (r : Routine) (p k at h q less more : ℕ) (j i : Ins) (after next : ℕ) → Reached code (fact r p k) → GoodAt code (fact r p k) j after → call_target j ≡ Some q
      → Reached code (fact (At q) at h) → GoodAt code (fact (At q) at h) i next → counts i ≡ Some (less, more) → less ≤ k
  enough_taken r p k at h q less more j i after next caller call_good target reached good e =
      let back : ReturnsWith code (At q) less more = record { place = at; height = h; reached = reached; back = i; stands = (next, good.decoded); counts = e } in
      elim (cases_lt k less) [
        | inl fewer ↦ absurd (accepts.sound (fact r p k) Under caller (inr (record { call = j; stands = (after, call_good.decoded); to = q; target = target; less = less; more = more; counts = back; fewer = fewer })))
        | inr fits ↦ fits
      ]

  module _ (bytes : List ℕ) (r : Routine) (p k b q : ℕ) (j : Ins) (after : ℕ) (opened : OpenCalls code session bytes r b) (caller : Reached code (fact r p k)) (gives : Gives code (fact r p k) j after) (target : call_target j ≡ Some q)
      (lb_word : take 2 (drop (b + k) bytes) ≡ bytes2 (dynamic_base + session + b)) (at_word : take 2 (drop (b + k + 2) bytes) ≡ bytes2 after) where
    -- the call that is open last
    call_good : GoodAt code (fact r p k) j after
    call_good = good_at code session most accepts (fact r p k) caller j after (fine code (fact r p k) j after gives.stands).there

    module _ (h : ℕ) (f : Frame) (same : bytes ≡ drop session f.dyn) (s : StandsAt (length code) session (b + k + 4) h f) (i : Ins) (next less more : ℕ) (reached : Reached code (fact (At q) f.at h)) (good : GoodAt code (fact (At q) f.at h) i next) (e : counts i ≡ Some (less, more)) where
      fewer : less ≤ k
      fewer = enough_taken r p k f.at h q less more j i after next caller call_good target reached good e

      enough : more ≤ h
      enough = subst (λ (n : ℕ). n ≤ h) (returning i (less, more) e).need good.needs

      behind : Reached code (fact r after (k - less + more))
      behind = returns j after q i less more caller gives target reached (next, good.decoded) e fewer

      room : HasStackRoom session most b (k - less + more)
      room = room_at code session most accepts bases (fact r after (k - less + more)) b behind (open_depth opened)

      base_low : session + b ≤ 512
      base_low = let fits = room.stack in omega (arith, fits)

      old_lb : saved_address f 4 ≡ dynamic_base + session + b
      old_lb = grind (arith, read_back, base_low)

      inside : after < length code
      inside = behind_call (length code) j q after target call_good.inside

      old_at : saved_address f 2 ≡ after
      old_at = grind (arith, read_back, inside)

      back_calm : first_cause (return_causes (frame_at f next) less more) ≡ None
      back_calm = grind (arith, le-leb, fewer, enough, lt-ltb, old_at, inside, no_cause, not_from_true, and_from)

      moved : ℕ
      moved = f.lb - 4 - less - dynamic_base

      moved_far : moved ≡ session + b + (k - less)
      unfolding moved
      moved_far = let lb = s.lb in omega (arith, lb, fewer)

      back_here : IsAtFact code session r b (k - less + more) (come_back (frame_at f next) less more)
      unfolding moved
      back_here =
          let lb = s.lb in
          let dt = s.dt in
          let long = s.dyn in
          let within = s.room in
          let far = moved_far in
          let fits = room.stack in
          let top_long : length (top f more) ≡ more = top_length f more (session + (b + k + 4) + h) long (omega (arith, lb, dt)) (omega (arith, enough)) within in
          let all : moved + length (top f more) ≤ length f.dyn = omega (arith, far, top_long, long, fits) in
          let front : take b bytes ≡ take b (drop session (splice f.dyn moved (top f more))) =
          ap (λ (l : List ℕ). take b l) same ∙ sym (spliced_above session b f.dyn moved (top f more) (omega (arith, far)) (omega (arith, all))) in
          record {
            stands = record {
              session = s.session;
              code_len = s.code_len;
              dyn = length_splice f.dyn moved (top f more) all ∙ long;
              fixed = s.fixed;
              lb = old_lb;
              dt = omega (arith, lb, old_lb, fewer);
              room = fits;
            };
            opened = open_front (drop session (splice f.dyn moved (top f more))) opened front;
            reached = subst (λ (n : ℕ). Reached code (fact r n (k - less + more))) (sym old_at) behind;
          }

      back_over : Back code session (frame_at f next) less more
      back_over = record { calm = back_calm; standing = record { routine = r; base = b; height = k - less + more; here = back_here } }

  no_home : (i : Ins) (c : ℕ × ℕ) → is_some (counts i) ≡ false → counts i ≡ Some c → ⊥
  no_home i c no_count e = let some : is_some (Some c) ≡ false = subst (λ (o : Option (ℕ × ℕ)). is_some o ≡ false) e no_count in absurd (cc some)

  -- a return of a routine has a call to go back to
  back_from : {bytes : List ℕ} {r : Routine} {b : ℕ} (h : ℕ) (f : Frame) (i : Ins) (next less more : ℕ) → OpenCalls code session bytes r b → bytes ≡ drop session f.dyn → StandsAt (length code) session b h f → Reached code (fact r f.at h)
      → GoodAt code (fact r f.at h) i next → counts i ≡ Some (less, more) → Back code session (frame_at f next) less more
  back_from h f i next less more none same s reached good e = absurd (no_home i (less, more) good.home e)
  back_from {bytes = bytes} h f i next less more (call {r = r} {p = p} {h = k} {b = b} {q = q} j after opened caller gives target lb at) same s reached good e =
      back_over bytes r p k b q j after opened caller gives target lb at h f same s i next less more reached good e

  pub comes_back : (r : Routine) (b h : ℕ) (f : Frame) (i : Ins) (next : ℕ) (c : ℕ × ℕ) → IsAtFact code session r b h f → GoodAt code (fact r f.at h) i next → counts i ≡ Some c → Back code session (frame_at f next) c.0 c.1
  comes_back r b h f i next c here good e = back_from h f i next c.0 c.1 here.opened refl here.stands here.reached good e

-- A write at an address, by the place that it lies in.
use Rattle.std.proofs.Common.{◌≡◌, ℕ, ◌≤◌, Bool, true, false, List, [], length, Option, Some, Ok, Err, refl, sym, ap, subst, ◌∙◌, inr, arith}
use Rattle.std.specs.Prelude.{not, ◌&&◌, is_none}
use Rattle.std.proofs.lemmas.Bool.{ne_eqb}
use Rattle.mc_apdu.specs.model_machine.specs.declared.machine.Abend.{Abend}
use Rattle.mc_apdu.specs.model_machine.specs.declared.machine.Abend.TheVariants.{A08}
use Rattle.mc_words.specs.model_device.specs.declared.device.Stop.{Stop}
use Rattle.mc_words.specs.model_device.specs.Orders.{Answer}
use Rattle.mc_bank.specs.model_card.specs.Items.{BankItem}
use Rattle.mc_words.specs.model_device.specs.Bytes.{splice}
use Rattle.mc_apdu.specs.model_machine.specs.Frame.{Frame, Effect, Place, Static, Dynamic, Public, where_is, is_outside, passes_limit, too_many, static_written, write_effect_at, write_effect}
use Rattle.mc_bank.specs.Bank.{BankState}
use Rattle.mc_segs.specs.HeldFrames.{Held, FitsBank, frame_on_bank}
use Rattle.mc_segs.specs.Inside.{frame_value}
use Rattle.mc_segs.specs.Ends.{EffectDone, Commits, CanWrite, Stores, scene}
use Rattle.mc_segs.specs.declared.frame.Frame.TheInside.{Inside}
use Rattle.mc_segs.specs.declared.ends.Halt.TheVariants as halt
use Rattle.mc_segs.proofs.AccessLemmas.{where_shown}
use Rattle.mc_bank.specs.declared.bank.Bank.{Ghosts}

-- ---- when bytes can be written

-- an access of at least one byte is outside exactly if it lies in no segment
outside_is : (f : Frame) (a n : ℕ) (p : Option Place) → 1 ≤ n → where_is f a n ≡ p → is_outside f a n ≡ is_none p
outside_is f a n p some is = ap (λ (t : Bool). not t && is_none (where_is f a n)) (ne_eqb n 0 (λ none. omega arith)) ∙ ap (λ (o : Option Place). is_none o) is

limit_in : (f : Frame) (a n : ℕ) (p : Option Place) → where_is f a n ≡ p → too_many f a n ≡ passes_limit f.protected f p n
unfolding too_many
limit_in f a n p is = ap (λ (o : Option Place). passes_limit f.protected f o n) is

can_write : (f : Frame) (a n : ℕ) (p : Place) → 1 ≤ n → where_is f a n ≡ Some p → passes_limit f.protected f (Some p) n ≡ false → CanWrite f a n
can_write f a n p some is limit = (outside_is f a n (Some p) some is, limit_in f a n (Some p) is ∙ limit)

no_limit_dynamic : (on : Bool) (m : Frame) (i n : ℕ) → passes_limit on m (Some (Dynamic i)) n ≡ false
no_limit_dynamic true m i n = refl
no_limit_dynamic false m i n = refl

no_limit_public : (on : Bool) (m : Frame) (i n : ℕ) → passes_limit on m (Some (Public i)) n ≡ false
no_limit_public true m i n = refl
no_limit_public false m i n = refl

-- ---- what is written

written_is : (f : Frame) (public : List ℕ) (a : ℕ) (b : List ℕ) (p : Option Place) → where_is f a (length b) ≡ p → write_effect_at f public b p ≡ write_effect f public a b
unfolding write_effect
written_is f public a b p is = sym (ap (λ (o : Option Place). write_effect_at f public b o) is)

static_is : (f : Frame) (public : List ℕ) (a i : ℕ) (b : List ℕ) (on : Bool) → f.protected ≡ on → where_is f a (length b) ≡ Some (Static i) → static_written on f public i b ≡ write_effect f public a b
static_is f public a i b on protected is = ap (λ (t : Bool). static_written t f public i b) (sym protected) ∙ written_is f public a b (Some (Static i)) is

module _ {B : Type 0} (ghosts : Ghosts B) where
  -- a call that does not touch the public segment leaves it as it is
  with_public : (b e : B) (h h' : Held) (f : Effect) (public : List ℕ) → EffectDone ghosts (scene b e h h' [] []) f → EffectDone ghosts (scene b e h h' public public) (record f { public = public })
  with_public b e h h' f public left = record { commits = left.commits; bytes = left.bytes; frame = left.frame; public = refl; slot = left.slot; fits = left.fits; going = left.going }

  -- in the static segment, while protection is on
  pub kept_stored : (b : B) (h h' : Held) (at i : ℕ) (from public : List ℕ) → FitsBank (ghosts.state b) (ghosts.named b) h → 1 ≤ length from → h.frame.protected ≡ true → Some (Static i) ≡ where_is h.frame at (length from)
      → passes_limit true (frame_on_bank ghosts b h) (Some (Static i)) (length from) ≡ false → EffectDone ghosts (scene b b h h' [] []) (static_written true (frame_on_bank ghosts b h) [] i from)
      → Stores ghosts (scene b b h h' public public) at (length from) (write_effect (frame_on_bank ghosts b h) public at from) (Ok tt)
  kept_stored b h h' at i from public fits some on place limit left =
      let m = frame_on_bank ghosts b h in
      let n = length from in
      let is : where_is m at n ≡ Some (Static i) = where_shown (ghosts.state b) (ghosts.named b) h at n fits ∙ sym place in (
        can_write m at n (Static i) some is (ap (λ (t : Bool). passes_limit t m (Some (Static i)) n) on ∙ limit),
        subst (λ (f : Effect). EffectDone ghosts (scene b b h h' public public) f) (static_is m public at i from true on is) (with_public b b h h' (static_written true m [] i from) public left),
      )

  pub refused : (b : B) (h h' : Held) (at i : ℕ) (from public : List ℕ) (a : Abend) → FitsBank (ghosts.state b) (ghosts.named b) h → 1 ≤ length from → h.frame.protected ≡ true → Some (Static i) ≡ where_is h.frame at (length from)
      → passes_limit true (frame_on_bank ghosts b h) (Some (Static i)) (length from) ≡ true → a ≡ A08 → h' ≡ h
      → Stores ghosts (scene b b h h' public public) at (length from) (write_effect (frame_on_bank ghosts b h) public at from) (Err (halt.Abend a))
  refused b h h' at i from public a fits some on place limit is_08 unchanged =
      let m = frame_on_bank ghosts b h in
      let n = length from in
      let is : where_is m at n ≡ Some (Static i) = where_shown (ghosts.state b) (ghosts.named b) h at n fits ∙ sym place in
      let due : too_many m at n ≡ true = limit_in m at n (Some (Static i)) is ∙ ap (λ (t : Bool). passes_limit t m (Some (Static i)) n) on ∙ limit in
      (inr (outside_is m at n (Some (Static i)) some is, due, is_08), refl, unchanged, refl)

  -- in the static segment, while protection is off
  pub committed_stored : (b e : B) (h : Held) (at i : ℕ) (from public : List ℕ) → FitsBank (ghosts.state b) (ghosts.named b) h → 1 ≤ length from → h.frame.protected ≡ false → Some (Static i) ≡ where_is h.frame at (length from)
      → EffectDone ghosts (scene b e h h [] []) (static_written false (frame_on_bank ghosts b h) [] i from)
      → Stores ghosts (scene b e h h public public) at (length from) (write_effect (frame_on_bank ghosts b h) public at from) (Ok tt)
  committed_stored b e h at i from public fits some off place left =
      let m = frame_on_bank ghosts b h in
      let n = length from in
      let is : where_is m at n ≡ Some (Static i) = where_shown (ghosts.state b) (ghosts.named b) h at n fits ∙ sym place in (
        can_write m at n (Static i) some is (ap (λ (t : Bool). passes_limit t m (Some (Static i)) n) off),
        subst (λ (f : Effect). EffectDone ghosts (scene b e h h public public) f) (static_is m public at i from false off is) (with_public b e h h (static_written false m [] i from) public left),
      )

  pub stopped_stored : (b e : B) (h : Held) (at i : ℕ) (from public : List ℕ) (s : Stop) → FitsBank (ghosts.state b) (ghosts.named b) h → 1 ≤ length from → h.frame.protected ≡ false → Some (Static i) ≡ where_is h.frame at (length from)
      → Commits ghosts (scene b e h h [] []) (static_written false (frame_on_bank ghosts b h) [] i from) (Err s)
      → Stores ghosts (scene b e h h public public) at (length from) (write_effect (frame_on_bank ghosts b h) public at from) (Err (halt.Stop s))
  stopped_stored b e h at i from public s fits some off place commits =
      let m = frame_on_bank ghosts b h in
      let n = length from in
      let is : where_is m at n ≡ Some (Static i) = where_shown (ghosts.state b) (ghosts.named b) h at n fits ∙ sym place in (
        can_write m at n (Static i) some is (ap (λ (t : Bool). passes_limit t m (Some (Static i)) n) off),
        subst (λ (f : Effect). Commits ghosts (scene b e h h public public) f (Err s)) (static_is m public at i from false off is) commits,
      )

  -- in the dynamic segment
  pub dynamic_stored : (b : B) (f : Inside) (h : Held) (at i : ℕ) (from public dyn : List ℕ) → frame_value f ≡ h → FitsBank (ghosts.state b) (ghosts.named b) h → (ghosts.state b).stopped ≡ false → 1 ≤ length from → Some (Dynamic i) ≡ where_is h.frame at (length from) → dyn ≡ splice f.dynamic i from
      → Stores ghosts (scene b b h (frame_value (record f { dynamic = dyn })) public public) at (length from) (write_effect (frame_on_bank ghosts b h) public at from) (Ok tt)
  dynamic_stored b f h at i from public dyn view fits going some place spliced =
      let m = frame_on_bank ghosts b h in
      let n = length from in
      let next : Held = record h { frame = record h.frame { dyn = splice h.frame.dyn i from } } in
      let now : frame_value (record f { dynamic = dyn }) ≡ next = ap (λ (t : List ℕ). frame_value (record f { dynamic = t })) spliced ∙ ap (λ (t : Held). record t { frame = record t.frame { dyn = splice t.frame.dyn i from } }) view in
      let is : where_is m at n ≡ Some (Dynamic i) = where_shown (ghosts.state b) (ghosts.named b) h at n fits ∙ sym place in
      let left : EffectDone ghosts (scene b b h next public public) (write_effect_at m public from (Some (Dynamic i))) = record {
        commits = refl;
        bytes = refl;
        frame = refl;
        public = refl;
        slot = refl;
        fits = record { there = fits.there; app = fits.app; code = fits.code; fixed = fits.fixed; deny = fits.deny; session = fits.session };
        going = going;
      } in (
        can_write m at n (Dynamic i) some is (no_limit_dynamic m.protected m i n),
        subst (λ (t : Held). EffectDone ghosts (scene b b h t public public) (write_effect m public at from)) (sym now) (subst (λ (e : Effect). EffectDone ghosts (scene b b h next public public) e) (written_is m public at from (Some (Dynamic i)) is) left),
      )

  -- in the public segment
  pub public_stored : (b : B) (h : Held) (at i : ℕ) (from public public_after : List ℕ) → FitsBank (ghosts.state b) (ghosts.named b) h → (ghosts.state b).stopped ≡ false → 1 ≤ length from → Some (Public i) ≡ where_is h.frame at (length from) → public_after ≡ splice public i from
      → Stores ghosts (scene b b h h public public_after) at (length from) (write_effect (frame_on_bank ghosts b h) public at from) (Ok tt)
  public_stored b h at i from public public_after fits going some place spliced =
      let m = frame_on_bank ghosts b h in
      let n = length from in
      let is : where_is m at n ≡ Some (Public i) = where_shown (ghosts.state b) (ghosts.named b) h at n fits ∙ sym place in
      let left : EffectDone ghosts (scene b b h h public public_after) (write_effect_at m public from (Some (Public i))) = record { commits = refl; bytes = refl; frame = refl; public = spliced; slot = refl; fits = fits; going = going } in
      (can_write m at n (Public i) some is (no_limit_public m.protected m i n), subst (λ (e : Effect). EffectDone ghosts (scene b b h h public public_after) e) (written_is m public at from (Some (Public i)) is) left)

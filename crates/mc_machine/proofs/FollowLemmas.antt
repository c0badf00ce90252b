-- A delegation in a settled chain: a status, or an application that runs on top.
use Rattle.std.proofs.Common.{◌≡◌, ℕ, ◌+◌, ◌≤◌, Bool, true, false, List, [], ◌∷◌, length, suc, Option, Some, None, refl, sym, ap, subst, ◌∙◌, arith}
use Rattle.std.specs.Prelude.{IsSome, bytes_eq, ◌||◌, nat_le, is_some}
use Rattle.std.specs.List.{AllByRecursion}
use Rattle.std.proofs.lemmas.Bool.Decides.{nat_tests}
use Rattle.mc_bank.specs.Bank.{BankState, app_of, name_or, sizes_of}
use Rattle.law_machine.specs.model_card.specs.declared.card.Sizes.{Sizes}
use Rattle.law_machine.specs.model_device.specs.Bytes.{lookup, zeros}
use Rattle.law_machine.specs.model_device.specs.Card.{App}
use Rattle.law_machine.specs.model_machine.specs.Frame.{Frame, with_sw}
use Rattle.law_machine.specs.model_machine.specs.Chain.{Chain, is_active, depth_of, chain_after_call, called_app, entered_app}
use Rattle.mc_segs.specs.HeldFrames.{new_held}
use Rattle.mc_machine.specs.Chains.{Chained, RunsAs}
use Rattle.mc_machine.specs.Turns.{has_frame}
use Rattle.mc_machine.proofs.ReadsLemmas.{as_many, active_runs, app_by, entered_reads}
use Rattle.law_machine.specs.model_device.proofs.MapLemmas.{other_way}

neither : (a b : Bool) → false ≡ (a || b) → (a ≡ false) × (b ≡ false)
neither a b e = grind arith

-- a name that no frame runs differs from the names of all frames
others_apart : (n : List ℕ) (f : Frame) (fs : List Frame) → is_active n f fs ≡ false → AllByRecursion (λ (g : Frame). bytes_eq n g.name ≡ false) (f ∷ fs)
others_apart n f [] e = (other_way f.name n e, tt)
others_apart n f (g ∷ gs) e =
    let both = neither (bytes_eq f.name n) (is_active n g gs) (sym e) in
    (other_way f.name n both.0, others_apart n g gs both.1)

few_of : (k : ℕ) → nat_le 4 (k + 1) ≡ false → suc k ≤ 3
few_of k e = grind (arith, nat_tests, e)

module _ (s : BankState) (named : ℕ → Option (List ℕ)) where
  -- ---- delegations

  public_runs : (c : Chained) (ch : Chain) (sw : ℕ) → RunsAs s named c ch → RunsAs s named (record c { public = with_sw c.public sw }) (record ch { public = with_sw ch.public sw })
  public_runs c ch sw r = grind arith

  refusal_is : (c : Chained) (ch : Chain) (n : List ℕ) (b : Bool) → b ≡ (has_frame named n (c.running ∷ c.below) || nat_le 4 (length c.below + 1)) → RunsAs s named c ch → (is_active n ch.frame ch.below || nat_le 4 (depth_of ch)) ≡ b
  refusal_is c ch n b is r =
      sym (is ∙ ap (λ (x : Bool). x || nat_le 4 (length c.below + 1)) (active_runs s named c ch n r) ∙ ap (λ (k : ℕ). is_active n ch.frame ch.below || nat_le 4 (k + 1)) (as_many s named c.below ch.below r.below))

  called_is : (c : Chained) (ch : Chain) (n : List ℕ) (a : App) (b : Bool) → lookup s.apps n ≡ Some a → b ≡ (has_frame named n (c.running ∷ c.below) || nat_le 4 (length c.below + 1)) → RunsAs s named c ch
      → chain_after_call ch n (lookup ch.map n) ≡ called_app b ch n a
  called_is c ch n a b app is r =
      ap (λ (o : Option App). chain_after_call ch n o) (ap (λ (m : List (List ℕ × App)). lookup m n) r.map ∙ app) ∙ ap (λ (x : Bool). called_app x ch n a) (refusal_is c ch n b is r)

  there_is : (l : Option App) → is_some l ≡ true → (a : App) × (l ≡ Some a)
  there_is None e = absurd (cc e)
  there_is (Some a) e = (a, refl)

  pub refused_call : (c : Chained) (ch : Chain) (n : List ℕ) → is_some (lookup s.apps n) ≡ true → true ≡ (has_frame named n (c.running ∷ c.below) || nat_le 4 (length c.below + 1)) → RunsAs s named c ch
      → RunsAs s named (record c { public = with_sw c.public 0x6985 }) (chain_after_call ch n (lookup ch.map n))
  refused_call c ch n there is r =
      let app = there_is (lookup s.apps n) there in
      subst (λ (k : Chain). RunsAs s named (record c { public = with_sw c.public 0x6985 }) k) (sym (called_is c ch n app.0 true app.1 is r)) (public_runs c ch 0x6985 r)

  entered_runs : (c : Chained) (ch : Chain) (slot : ℕ) (n : List ℕ) (a : App) → named slot ≡ Some n → lookup s.apps n ≡ Some a → (is_active n ch.frame ch.below || nat_le 4 (depth_of ch)) ≡ false → RunsAs s named c ch
      → RunsAs s named (record c { running = new_held slot (sizes_of a) (zeros a.session); below = c.running ∷ c.below }) (entered_app ch n a)
  entered_runs c ch slot n a there app is r =
      let free = neither (is_active n ch.frame ch.below) (nat_le 4 (depth_of ch)) (sym is) in
      record {
        map = r.map;
        running = entered_reads s named slot n a there app;
        below = (r.running, r.below);
        public = r.public;
        case = r.case;
        le = r.le;
        few = few_of (length ch.below) free.1;
        apart = (others_apart n ch.frame ch.below free.0, r.apart);
      }

  pub entered_call : (c : Chained) (ch : Chain) (slot : ℕ) (n : List ℕ) (sizes : Sizes) → named slot ≡ Some n → IsSome (lookup s.apps n) → sizes ≡ sizes_of (app_of s.apps (named slot))
      → false ≡ (has_frame named n (c.running ∷ c.below) || nat_le 4 (length c.below + 1)) → RunsAs s named c ch
      → RunsAs s named (record c { running = new_held slot sizes (zeros sizes.session); below = c.running ∷ c.below }) (chain_after_call ch n (lookup ch.map n))
  entered_call c ch slot n sizes there app size is r =
      let a = app_of s.apps (named slot) in
      let found : lookup s.apps n ≡ Some a = app_by s.apps (named slot) n there (subst (λ (o : Option (List ℕ)). IsSome (lookup s.apps (name_or o))) (sym there) app) in
      let from : Sizes → Chained = λ t. record c { running = new_held slot t (zeros t.session); below = c.running ∷ c.below } in
      subst (λ (t : Sizes). RunsAs s named (from t) (chain_after_call ch n (lookup ch.map n))) (sym size) (
      subst (λ (k : Chain). RunsAs s named (from (sizes_of a)) k) (sym (called_is c ch n a false found is r)) (entered_runs c ch slot n a there found (refusal_is c ch n false is r) r)
      )

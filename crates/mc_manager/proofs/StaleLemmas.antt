-- What a command adds to the applications: nothing, or the application of the open load.
use Rattle.std.proofs.Common.{◌≡◌, ℕ, Bool, true, false, List, [], ◌∷◌, Option, Some, None, Ok, Err, refl, sym, ap, subst, ◌∙◌, inl, inr}
use Rattle.std.specs.Prelude.{◌⊎◌, cond, ◌==◌, ◌&&◌, bytes_eq}
use Rattle.model_card.specs.declared.card.Sizes.{Sizes}
use Rattle.model_card.specs.model_device.specs.Orders.{Answer}
use Rattle.model_card.specs.model_device.specs.Bytes.{lookup, insert, remove}
use Rattle.model_card.specs.model_machine.specs.Apdu.{ApduParts}
use Rattle.model_card.specs.model_device.specs.Card.{App}
use Rattle.model_card.specs.Manager.{Selected, Open, SessionState, Managed, first_status, answer_unless, WrongClass, ToSelect, ToManager, ToApplication, select_refusals, select_done, select, fresh, manage}
use Rattle.law_manager.specs.Orders.{Order, order_of}
use Rattle.law_manager.specs.Answers.{IsAnswer}
use Rattle.law_manager.specs.Answers as answer
use Rattle.law_manager.proofs.Orders.{answer_made}
use Rattle.mc_bank.specs.Bank.{BankState, Changes}
use Rattle.mc_manager.specs.ManagerState.{BankView, ManagerState, session_state_of, load_of}
use Rattle.mc_manager.specs.CommandDue.{CommandDue, due_select, due_manager, due_application, due_on, due, apps_after, NoneStale}
use Rattle.model_card.specs.model_device.proofs.MapLemmas.{same_name, lookup_inserted_lem, lookup_beside, lookup_removed_lem}

-- ---- maps

same_apps : (load : Option Open) (apps : List (List ℕ × App)) → NoneStale load apps apps
same_apps load apps n a h = inl h

lookup_inserted : (load : Option Open) (o : Open) (apps : List (List ℕ × App)) (k : List ℕ) → load ≡ Some o → NoneStale load apps (insert apps k (fresh o))
lookup_inserted load o apps k is n a h = by_test (bytes_eq k n) refl
  where
    by_test : (b : Bool) → bytes_eq k n ≡ b → (lookup apps n ≡ Some a) ⊎ ((o : Open) × (load ≡ Some o) × (a ≡ fresh o))
    by_test true e = inr (o, is, cc (ap (lookup (insert apps k (fresh o))) (same_name k n e), lookup_inserted_lem apps k (fresh o), h))
    by_test false e = inl (sym (lookup_beside apps k (fresh o) n e) ∙ h)

lookup_removed : (apps : List (List ℕ × App)) (k n : List ℕ) (a : App) → lookup (remove apps k) n ≡ Some a → lookup apps n ≡ Some a
lookup_removed [] k n a h = h
lookup_removed (e ∷ es) k n a h = by_tests (bytes_eq e.0 k) (bytes_eq e.0 n) refl refl (lookup_removed es k n a) h
  where
    by_tests : (x y : Bool) → bytes_eq e.0 k ≡ x → bytes_eq e.0 n ≡ y → (lookup (remove es k) n ≡ Some a → lookup es n ≡ Some a) → lookup (cond x (remove es k) (e ∷ remove es k)) n ≡ Some a → cond y (Some e.1) (lookup es n) ≡ Some a
    by_tests true true p q rest h = absurd (cc (ap (lookup (remove es k)) (sym (same_name e.0 n q) ∙ same_name e.0 k p), lookup_removed_lem es k, h))
    by_tests true false p q rest h = rest h
    by_tests false true p q rest h = ap (λ (b : Bool). cond b (Some e.1) (lookup (remove es k) n)) (sym q) ∙ h
    by_tests false false p q rest h = rest (ap (λ (b : Bool). cond b (Some e.1) (lookup (remove es k) n)) (sym q) ∙ h)

-- ---- commands

-- every application after a command with this verdict was there before, or is that of the open load
abbrev AddsFresh : Option Open → List (List ℕ × App) → CommandDue → Type 0
AddsFresh load apps d = NoneStale load apps (apps_after d apps)

module _ (load : Option Open) (apps : List (List ℕ × App)) where
  select_adds : (session_state : SessionState) (a : ApduParts) → AddsFresh load apps (due_select (select apps session_state a))
  select_adds session_state a = by_refusal (first_status (select_refusals apps a)) (lookup apps a.body)
    where
      by_refusal : (x : Option ℕ) (o : Option App) → AddsFresh load apps (due_select (answer_unless x (select_done session_state a o)))
      by_refusal (Some sw) o = same_apps load apps
      by_refusal None None = same_apps load apps
      by_refusal None (Some app) = same_apps load apps

  made_adds : (room : Sizes → Option ℕ) (session_state : SessionState) (a : ApduParts) (o : Order) (m : Managed) → session_state.load ≡ load → IsAnswer room apps session_state a o m → AddsFresh load apps (due_manager m)
  made_adds room session_state a _ _ is (answer.refused o sw h) = same_apps load apps
  made_adds room session_state a _ _ is (answer.quiet o body next h) = same_apps load apps
  made_adds room session_state a _ _ is (answer.loaded p l h) = same_apps load apps
  made_adds room session_state a _ _ is (answer.created l n h) = lookup_inserted load l apps n (sym is ∙ h.is)
  made_adds room session_state a _ _ is (answer.deleted h) = λ n app there. inl (lookup_removed apps a.body n app there)

  manage_adds : (room : Sizes → Option ℕ) (session_state : SessionState) (a : ApduParts) → session_state.load ≡ load → AddsFresh load apps (due_manager (manage room apps session_state a))
  manage_adds room session_state a is = made_adds room session_state a (order_of a.ins) (manage room apps session_state a) is (answer_made room apps session_state a)

-- a command by its route leaves no stale application
pub due_adds : (v : BankView) (s : List ℕ) (m : ManagerState) (a : ApduParts) → NoneStale (load_of v.site_bytes m) v.state.apps (apps_after (due v s m a) v.state.apps)
due_adds v s m a = by_class (a.cla == 0xFF) (a.cla == 0 && a.ins == 0xA4 && a.p1 == 4) (a.cla == 0xBE)
  where
    by_selection : (x : Option Selected) → AddsFresh (load_of v.site_bytes m) v.state.apps (due_application x)
    by_selection None = same_apps (load_of v.site_bytes m) v.state.apps
    by_selection (Some c) = same_apps (load_of v.site_bytes m) v.state.apps

    by_class : (x y z : Bool) → AddsFresh (load_of v.site_bytes m) v.state.apps (due_on v (session_state_of v.site_bytes s m) (cond x WrongClass (cond y (ToSelect a) (cond z (ToManager a) (ToApplication a)))))
    by_class true y z = same_apps (load_of v.site_bytes m) v.state.apps
    by_class false true z = select_adds (load_of v.site_bytes m) v.state.apps (session_state_of v.site_bytes s m) a
    by_class false false true = manage_adds (load_of v.site_bytes m) v.state.apps v.room (session_state_of v.site_bytes s m) a refl
    by_class false false false = by_selection (session_state_of v.site_bytes s m).selected

-- a command leaves no stale application, whether it stopped or not
pub none_stale : (v : BankView) (s : List ℕ) (m : ManagerState) (a : ApduParts) (x : Answer) (e : BankState) → Changes v.state (apps_after (due v s m a) v.state.apps) x e → NoneStale (load_of v.site_bytes m) v.state.apps e.apps
none_stale v s m a (Ok u) e h = subst (NoneStale (load_of v.site_bytes m) v.state.apps) (sym h.apps) (due_adds v s m a)
none_stale v s m a (Err t) e h =
    elim h.apps [
      | inl old ↦ subst (NoneStale (load_of v.site_bytes m) v.state.apps) (sym old) (same_apps (load_of v.site_bytes m) v.state.apps)
      | inr new ↦ subst (NoneStale (load_of v.site_bytes m) v.state.apps) (sym new) (due_adds v s m a)
    ]

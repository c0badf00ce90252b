-- The end of each command, from what its parts ensure.
use Rattle.std.proofs.Common.{◌≡◌, ◌≢◌, ℕ, ◌+◌, ◌≤◌, Bool, true, false, List, [], ◌∷◌, length, Option, Some, None, Ok, Err, refl, sym, ap, subst, ◌∙◌, arith}
use Rattle.std.specs.Prelude.{map, option_map, IsSome, is_some, is_none, Result, nat_lt, not, cond, ◌==◌, bytes_eq, unwrap_or, IfOk, OnOk, ◌&&◌}
use Rattle.std.specs.Option.{ForSome}
use Rattle.std.proofs.lemmas.Bool.Decides.{nat_tests}
use Rattle.model_card.specs.declared.card.Part.{Part}
use Rattle.model_card.specs.declared.unit.AidFault.{AidFault}
use Rattle.model_card.specs.model_device.specs.declared.device.Stop.{Stop}
use Rattle.model_card.specs.model_device.specs.Orders.{Answer, answer_of, InOrder}
use Rattle.model_card.specs.model_device.specs.Bytes.{zeros, lookup, insert, remove}
use Rattle.model_card.specs.model_machine.specs.Apdu.{ApduParts}
use Rattle.model_card.specs.model_device.specs.Card.{App}
use Rattle.model_card.specs.Items.{Site, BankItem, Piece, Remove}
use Rattle.model_card.specs.Manager.{Open, Accepted, first_status, answer_unless, select_body, select_done, select, p1p2, is_empty, got_of, size_of, with_got, word_parts, load_refusals, load_done, load_part, create_refusals, create_done, create_items, create, dir_in, is_selected, delete_refusals, delete_done, delete, WrongClass, ToSelect, ToManager, ToApplication, manage}
use Rattle.model_card.specs.Units.{name_of}
use Rattle.law_manager.specs.Orders.{order_of, managed}
use Rattle.law_manager.proofs.Orders.{manage_is}
use Rattle.mc_apdu.specs.declared.reply.Reply.{Reply}
use Rattle.mc_bank.specs.Bank.{part_len, no_app, app_of, name_or, app_of_site, Changes}
use Rattle.mc_manager.specs.declared.selection.Selection.{Selection}
use Rattle.mc_manager.specs.declared.routed.Routed.{Routed}
use Rattle.mc_manager.specs.declared.routed.Routed.TheVariants as routed
use Rattle.mc_manager.specs.Load.{is_full}
use Rattle.mc_manager.specs.ManagerState.{BankView, Loaded, ManagerState, got_len, open_of, selected_of, session_state_of, FitsLoad, ManagerFits}
use Rattle.mc_manager.specs.CommandDue.{CommandDue, Refuses, Selects, Does, due_select, due_manager, due_on, due, items_of, apps_after, RepliesWith, CommandLeaves}
use Rattle.mc_manager.specs.Calls.{CanSelect, CanCreate, CanDelete, has_selected, delete_causes}
use Rattle.mc_manager.specs.Ends.{CommandEnds}
use Rattle.mc_manager.specs.declared.routed.Ruling.{Ruling}
use Rattle.mc_manager.specs.Ruled.{ruling_with_reply, ruling_or_stop}
use Rattle.mc_manager.proofs.LoadLemmas.{length_got, same_size, fresh_entered}
use Rattle.model_card.specs.model_device.proofs.MapLemmas.{name_is_itself}

-- ---- causes

-- a command with a first refusal is refused
pub refused_due : (x : Option ℕ) (d : Accepted) (sw : ℕ) → x ≡ Some sw → due_manager (answer_unless x d) ≡ Refuses sw
refused_due x d sw h = ap (λ (y : Option ℕ). due_manager (answer_unless y d)) h

-- a command without a refusal is done
pub done_due : (x : Option ℕ) (d : Accepted) → x ≡ None → due_manager (answer_unless x d) ≡ Does d
done_due x d h = ap (λ (y : Option ℕ). due_manager (answer_unless y d)) h

pub load_is_open : (p : Part) (a : ApduParts) → first_status (load_refusals None p a) ≡ None → ⊥
load_is_open p a h = by_test (is_empty a.body) h
  where
    by_test : (b : Bool) → cond {A = Option ℕ} b (Some 0x6700) (Some 0x6985) ≡ None → ⊥
    by_test true h = absurd (cc h)
    by_test false h = absurd (cc h)

pub has_room : (v : BankView) (l : Loaded) (p : Part) (a : ApduParts) → FitsLoad v l → first_status (load_refusals (Some (open_of v.site_bytes l)) p a) ≡ None → got_len p l + length a.body ≤ part_len p l.site.sizes
has_room v l p a fits h =
    let got = length_got v l p fits in
    let size = same_size p l.site.sizes in
    let within = by_tests (is_empty a.body) (p1p2 a == length (got_of p (open_of v.site_bytes l).got)) (nat_lt (size_of p l.site.sizes) (length (got_of p (open_of v.site_bytes l).got) + length a.body)) refl h in
    omega (arith, got, size, within)
  where
    by_tests : (x y z : Bool) → nat_lt (size_of p l.site.sizes) (length (got_of p (open_of v.site_bytes l).got) + length a.body) ≡ z
        → cond {A = Option ℕ} x (Some 0x6700) (cond (not y) (Some 0x6985) (cond z (Some 0x6A80) None)) ≡ None
        → length (got_of p (open_of v.site_bytes l).got) + length a.body ≤ size_of p l.site.sizes
    by_tests true y z is h = absurd (cc h)
    by_tests false false z is h = absurd (cc h)
    by_tests false true true is h = absurd (cc h)
    by_tests false true false is h = grind (arith, nat_tests, is)

-- whether a name is selected does not depend on the session bytes
pub same_selected : (m : ManagerState) (s n : List ℕ) → is_selected (selected_of s m) n ≡ has_selected m.selected n
same_selected m s n = by_selected m.selected
  where
    by_selected : (x : Option Selection) → is_selected (option_map (λ c. record { name = c.aid; session = s }) x) n ≡ has_selected x n
    by_selected None = refl
    by_selected (Some c) = refl

pub same_causes : (v : BankView) (m : ManagerState) (s : List ℕ) (a : ApduParts) → first_status (delete_refusals v.state.apps (session_state_of v.site_bytes s m) a) ≡ first_status (delete_causes v.state.apps m.selected a)
same_causes v m s a =
    ap (λ (x : Bool). first_status ((0x6A86, not (p1p2 a == 0)) ∷ (0x6700, is_empty a.body) ∷ (0x6A82, is_none (lookup v.state.apps a.body)) ∷ (0x6985, x) ∷ [])) (same_selected m s a.body)

-- ---- ends

module _ {B : Type 0} (did : B → BankItem → Answer → B → Type 0) where
  -- the end of a command that is refused
  pub ends_refused : (of : List ℕ → CommandDue) (v : BankView) (m : ManagerState) (b : B) (r : Reply) (sw : ℕ) → ((s : List ℕ) → of s ≡ Refuses sw) → RepliesWith [] sw r → v.state.stopped ≡ false → ManagerFits v m
      → CommandEnds did of v m b (Ok (routed.Answer r)) v m b
  ends_refused of v m b r sw is says going fits =
      record {
        items = λ s. subst (λ (d : CommandDue). InOrder did b (items_of d) (Ok tt) b) (sym (is s)) refl;
        apps = λ s. subst (λ (d : CommandDue). Changes v.state (apps_after d v.state.apps) (Ok tt) v.state) (sym (is s)) (record { apps = refl; cuts = refl; faults = refl; going = going });
        leaves = λ s. subst (λ (d : CommandDue). CommandLeaves d s v m (routed.Answer r) v m) (sym (is s)) (record { reply = says; unchanged = refl });
        fits = fits;
        going = going;
      }

  -- the end of a command that is done
  pub ends_done : (of : List ℕ → CommandDue) (d : List ℕ → Accepted) (v : BankView) (m : ManagerState) (b : B) (r : Reply) (w : BankView) (n : ManagerState) (e : B) → ((s : List ℕ) → of s ≡ Does (d s))
      → ((s : List ℕ) → InOrder did b (d s).items (Ok tt) e)
      → ((s : List ℕ) → Changes v.state (apps_after (Does (d s)) v.state.apps) (Ok tt) w.state)
      → ((s : List ℕ) → RepliesWith (d s).body 0x9000 r) → n.selected ≡ m.selected → ((s : List ℕ) → session_state_of w.site_bytes s n ≡ (d s).session_state) → ManagerFits w n
      → CommandEnds did of v m b (Ok (routed.Answer r)) w n e
  ends_done of d v m b r w n e is items apps says selected session_state fits =
      record {
        items = λ s. subst (λ (x : CommandDue). InOrder did b (items_of x) (Ok tt) e) (sym (is s)) (items s);
        apps = λ s. subst (λ (x : CommandDue). Changes v.state (apps_after x v.state.apps) (Ok tt) w.state) (sym (is s)) (apps s);
        leaves = λ s. subst (λ (x : CommandDue). CommandLeaves x s v m (routed.Answer r) w n) (sym (is s)) (record { reply = says s; selected = selected; session_state = session_state s });
        fits = fits;
        going = (apps []).going;
      }

  -- the end of a command that is stopped
  pub ends_stopped : (of : List ℕ → CommandDue) (d : List ℕ → Accepted) (v : BankView) (m : ManagerState) (b : B) (t : Stop) (w : BankView) (n : ManagerState) (e : B) → ((s : List ℕ) → of s ≡ Does (d s))
      → ((s : List ℕ) → InOrder did b (d s).items (Err t) e)
      → ((s : List ℕ) → Changes v.state (apps_after (Does (d s)) v.state.apps) (Err t) w.state)
      → CommandEnds did of v m b (Err t) w n e
  ends_stopped of d v m b t w n e is items apps =
      record {
        items = λ s. subst (λ (x : CommandDue). InOrder did b (items_of x) (Err t) e) (sym (is s)) (items s);
        apps = λ s. subst (λ (x : CommandDue). Changes v.state (apps_after x v.state.apps) (Err t) w.state) (sym (is s)) (apps s);
        leaves = λ s. tt;
        fits = tt;
        going = tt;
      }

-- ---- SELECT

some_value : {X : Type 0} (x : Option X) (d : X) → IsSome x → x ≡ Some (unwrap_or x d)
some_value None d h = absurd (cc h)
some_value (Some x) d h = refl

-- what the SELECT of an application does
abbrev pub selected : BankView → ManagerState → ApduParts → List ℕ → Accepted
selected v m a s = select_done (session_state_of v.site_bytes s m) a (Some (app_of v.state.apps (Some a.body)))

pub select_is_due : (v : BankView) (m : ManagerState) (c : Selection) (a : ApduParts) → CanSelect v.state.apps v.named a c → (s : List ℕ) → due_select (select v.state.apps (session_state_of v.site_bytes s m) a) ≡ Selects (selected v m a s)
select_is_due v m c a h s =
    let session_state = session_state_of v.site_bytes s m in
    ap (λ (y : Option ℕ). due_select (answer_unless y (select_done session_state a (lookup v.state.apps a.body)))) h.clear
    ∙ ap (λ (y : Option App). Selects (select_done session_state a y)) (some_value (lookup v.state.apps a.body) no_app h.found.app)

module _ {B : Type 0} (did : B → BankItem → Answer → B → Type 0) where
  pub ends_selected : (v : BankView) (m : ManagerState) (c : Selection) (a : ApduParts) (b : B) (r : Reply) (m' : ManagerState) → CanSelect v.state.apps v.named a c → ManagerFits v m → v.state.stopped ≡ false
      → RepliesWith (select_body a (app_of v.state.apps (v.named c.slot))) 0x9000 r → m'.selected ≡ Some c → m'.load ≡ m.load
      → CommandEnds did (λ s. due_select (select v.state.apps (session_state_of v.site_bytes s m) a)) v m b (Ok (routed.Fresh c.slot r)) v m' b
  ends_selected v m c a b r m' h fits going says now load =
      let due = select_is_due v m c a h in
      let name : v.named c.slot ≡ Some a.body = h.found.slot ∙ ap (λ (n : List ℕ). Some n) h.found.aid in
      record {
        items = λ s. subst (λ (x : CommandDue). InOrder did b (items_of x) (Ok tt) b) (sym (due s)) refl;
        apps = λ s. subst (λ (x : CommandDue). Changes v.state (apps_after x v.state.apps) (Ok tt) v.state) (sym (due s)) (record { apps = refl; cuts = refl; faults = refl; going = going });
        leaves = λ s. subst (λ (x : CommandDue). CommandLeaves x s v m (routed.Fresh c.slot r) v m') (sym (due s)) (record {
          selected = c;
          reply = subst (λ (n : Option (List ℕ)). RepliesWith (select_body a (app_of v.state.apps n)) 0x9000 r) name says;
          now = now;
          slot = refl;
          load = load;
          session_state = ap (λ (x : Option Selection). record (session_state_of v.site_bytes s m') { selected = option_map (λ (y : Selection). record { name = y.aid; session = zeros (app_of v.state.apps (Some c.aid)).session }) x }) now
              ∙ ap (λ (x : Option Loaded). record (session_state_of v.site_bytes s m) { selected = Some (record { name = c.aid; session = zeros (app_of v.state.apps (Some c.aid)).session }); load = option_map (open_of v.site_bytes) x }) load
              ∙ ap (λ (n : List ℕ). record (session_state_of v.site_bytes s m) { selected = Some (record { name = n; session = zeros (app_of v.state.apps (Some n)).session }) }) h.found.aid;
        });
        fits = record {
          selected = λ x is. subst (λ (y : Selection). v.named y.slot ≡ Some y.aid) (cc (now, is)) h.found.slot;
          load = λ x is. fits.load x (sym load ∙ is);
        };
        going = going;
      }

-- ---- LOAD

pub load_refused : (v : BankView) (m : ManagerState) (x : Option Loaded) (p : Part) (a : ApduParts) (sw : ℕ) → x ≡ m.load → first_status (load_refusals (option_map (open_of v.site_bytes) x) p a) ≡ Some sw
    → (s : List ℕ) → due_manager (load_part p (session_state_of v.site_bytes s m) a) ≡ Refuses sw
load_refused v m x p a sw is h s =
    let session_state = session_state_of v.site_bytes s m in
    refused_due (first_status (load_refusals session_state.load p a)) (load_done session_state session_state.load p a) sw
    (ap (λ (y : Option Loaded). first_status (load_refusals (option_map (open_of v.site_bytes) y) p a)) (sym is) ∙ h)

-- what a LOAD command for an open load does
abbrev pub piece_done : (v : BankView) (m : ManagerState) (l : Loaded) (p : Part) (a : ApduParts) → List ℕ → Accepted
piece_done v m l p a s = load_done (session_state_of v.site_bytes s m) (Some (open_of v.site_bytes l)) p a

-- the conditions for a LOAD command to write its piece
pub record CanLoad (v : BankView) (m : ManagerState) (l : Loaded) (p : Part) (a : ApduParts) : Type 0 where
  pub is : m.load ≡ Some l
  pub fits : FitsLoad v l
  pub clear : first_status (load_refusals (Some (open_of v.site_bytes l)) p a) ≡ None

pub can_load : (v : BankView) (m : ManagerState) (x : Option Loaded) (l : Loaded) (p : Part) (a : ApduParts) → x ≡ m.load → x ≡ Some l → ManagerFits v m
    → (ForSome x (FitsLoad v) → first_status (load_refusals (option_map (open_of v.site_bytes) x) p a) ≡ None) → CanLoad v m l p a
can_load v m x l p a load is fits clear =
    record {
      is = sym load ∙ is;
      fits = fits.load l (sym load ∙ is);
      clear = ap (λ (y : Option Loaded). first_status (load_refusals (option_map (open_of v.site_bytes) y) p a)) (sym is) ∙ clear (λ k here. fits.load k (sym load ∙ here));
    }

pub load_is_due : (v : BankView) (m : ManagerState) (l : Loaded) (p : Part) (a : ApduParts) → CanLoad v m l p a → (s : List ℕ) → due_manager (load_part p (session_state_of v.site_bytes s m) a) ≡ Does (piece_done v m l p a s)
load_is_due v m l p a h s =
    ap (λ (x : Option Loaded). due_manager (answer_unless (first_status (load_refusals (option_map (open_of v.site_bytes) x) p a)) (load_done (session_state_of v.site_bytes s m) (option_map (open_of v.site_bytes) x) p a))) h.is
    ∙ done_due (first_status (load_refusals (Some (open_of v.site_bytes l)) p a)) (piece_done v m l p a s) h.clear

module _ {B : Type 0} (did : B → BankItem → Answer → B → Type 0) where
  load_items : (v : BankView) (m : ManagerState) (l : Loaded) (p : Part) (a : ApduParts) (b : B) (x : Answer) (e : B) → CanLoad v m l p a
      → InOrder did b (map (λ c. Piece l.site p c.0 c.1) (word_parts (got_len p l) a.body)) x e → (s : List ℕ) → InOrder did b (piece_done v m l p a s).items x e
  load_items v m l p a b x e h items s =
      subst (λ (k : ℕ). InOrder did b (map (λ c. Piece l.site p c.0 c.1) (word_parts k a.body)) x e) (sym (length_got v l p h.fits)) items

  pub ends_loaded : (v : BankView) (m : ManagerState) (l : Loaded) (p : Part) (a : ApduParts) (b : B) (r : Reply) (w : BankView) (l' : Loaded) (n : ManagerState) (e : B) → CanLoad v m l p a → ManagerFits v m
      → InOrder did b (map (λ c. Piece l.site p c.0 c.1) (word_parts (got_len p l) a.body)) (Ok tt) e
      → Changes v.state v.state.apps (Ok tt) w.state
      → ((k : ℕ) → w.named k ≡ v.named k)
      → open_of w.site_bytes l' ≡ record (open_of v.site_bytes l) { got = with_got p a.body (open_of v.site_bytes l).got }
      → FitsLoad w l' → RepliesWith [] 0x9000 r → n.selected ≡ m.selected → n.load ≡ Some l'
      → CommandEnds did (λ s. due_manager (load_part p (session_state_of v.site_bytes s m) a)) v m b (Ok (routed.Answer r)) w n e
  ends_loaded v m l p a b r w l' n e h fits items apps slots filled fits' says selected load =
      ends_done did (λ s. due_manager (load_part p (session_state_of v.site_bytes s m) a)) (piece_done v m l p a) v m b r w n e (load_is_due v m l p a h)
      (load_items v m l p a b (Ok tt) e h items) (λ s. apps) (λ s. says) selected
      (λ s. ap (λ (x : Option Selection). record (session_state_of w.site_bytes s n) { selected = option_map (λ c. record { name = c.aid; session = s }) x }) selected
      ∙ ap (λ (x : Option Loaded). record (session_state_of w.site_bytes s m) { load = option_map (open_of w.site_bytes) x }) load
      ∙ ap (λ (o : Open). record (session_state_of w.site_bytes s m) { load = Some o }) filled)
      (record {
        selected = λ c is. slots c.slot ∙ fits.selected c (sym selected ∙ is);
        load = λ x is. subst (FitsLoad w) (cc (load, is)) fits';
      })

  pub ends_load_stopped : (v : BankView) (m : ManagerState) (l : Loaded) (p : Part) (a : ApduParts) (b : B) (t : Stop) (w : BankView) (n : ManagerState) (e : B) → CanLoad v m l p a
      → InOrder did b (map (λ c. Piece l.site p c.0 c.1) (word_parts (got_len p l) a.body)) (Err t) e
      → Changes v.state v.state.apps (Err t) w.state
      → CommandEnds did (λ s. due_manager (load_part p (session_state_of v.site_bytes s m) a)) v m b (Err t) w n e
  ends_load_stopped v m l p a b t w n e h items apps =
      ends_stopped did (λ s. due_manager (load_part p (session_state_of v.site_bytes s m) a)) (piece_done v m l p a) v m b t w n e (load_is_due v m l p a h)
      (load_items v m l p a b (Err t) e h items) (λ s. apps)

-- ---- CREATE

-- what the CREATE of an open load does
abbrev pub created : BankView → ManagerState → Loaded → List ℕ → List ℕ → Accepted
created v m l n s = create_done (session_state_of v.site_bytes s m) (Some (open_of v.site_bytes l)) (Ok n)

-- the conditions for an open load to become an application
pub record CanEnter (v : BankView) (m : ManagerState) (l : Loaded) (n : List ℕ) (a : ApduParts) : Type 0 where
  pub is : m.load ≡ Some l
  pub fits : FitsLoad v l
  pub full : is_full l ≡ true
  pub name : name_of l.dir ≡ Ok n
  pub clear : first_status (create_refusals v.state.apps (Some (open_of v.site_bytes l)) a) ≡ None

pub can_enter : (v : BankView) (m : ManagerState) (x : Option Loaded) (l : Loaded) (n : List ℕ) (a : ApduParts) → x ≡ m.load → x ≡ Some l → ManagerFits v m → CanCreate v x a n → CanEnter v m l n a
can_enter v m x l n a load is fits can =
    let same : can.loaded ≡ l = cc (can.is, is) in
    record {
      is = sym load ∙ is;
      fits = fits.load l (sym load ∙ is);
      full = ap is_full (sym same) ∙ can.full;
      name = ap (λ (y : Loaded). name_of y.dir) (sym same) ∙ can.name;
      clear = ap (λ (y : Option Loaded). first_status (create_refusals v.state.apps (option_map (open_of v.site_bytes) y) a)) (sym is) ∙ can.clear;
    }

pub create_is_due : (v : BankView) (m : ManagerState) (l : Loaded) (n : List ℕ) (a : ApduParts) → CanEnter v m l n a → (s : List ℕ) → due_manager (create v.state.apps (session_state_of v.site_bytes s m) a) ≡ Does (created v m l n s)
create_is_due v m l n a h s =
    let session_state = session_state_of v.site_bytes s m in
    let o = open_of v.site_bytes l in
    ap (λ (x : Option Loaded).
    due_manager (answer_unless (first_status (create_refusals v.state.apps (option_map (open_of v.site_bytes) x) a)) (create_done session_state (option_map (open_of v.site_bytes) x) (name_of (dir_in (option_map (open_of v.site_bytes) x)))))) h.is
    ∙ done_due (first_status (create_refusals v.state.apps (Some o) a)) (create_done session_state (Some o) (name_of o.got.dir)) h.clear
    ∙ ap (λ (x : Result (List ℕ) AidFault). Does (create_done session_state (Some o) x)) (ap name_of h.fits.dir ∙ h.name)

module _ {B : Type 0} (did : B → BankItem → Answer → B → Type 0) where
  pub ends_created : (v : BankView) (m : ManagerState) (l : Loaded) (n : List ℕ) (a : ApduParts) (b : B) (r : Reply) (w : BankView) (m' : ManagerState) (e : B) (t : Site) → t ≡ l.site → CanEnter v m l n a → ManagerFits v m
      → InOrder did b (create_items t n) (Ok tt) e
      → Changes v.state (insert v.state.apps n (app_of_site t (v.site_bytes t))) (Ok tt) w.state
      → ((k : ℕ) → IsSome (v.named k) → w.named k ≡ v.named k)
      → RepliesWith [] 0x9000 r → m'.selected ≡ m.selected → m'.load ≡ None
      → CommandEnds did (λ s. due_manager (create v.state.apps (session_state_of v.site_bytes s m) a)) v m b (Ok (routed.Answer r)) w m' e
  ends_created v m l n a b r w m' e t site h fits items apps slots says selected load =
      ends_done did (λ s. due_manager (create v.state.apps (session_state_of v.site_bytes s m) a)) (created v m l n) v m b r w m' e (create_is_due v m l n a h)
      (λ s. subst (λ (x : Site). InOrder did b (create_items x n) (Ok tt) e) site items)
      (λ s. subst (λ (x : App). Changes v.state (insert v.state.apps n x) (Ok tt) w.state) (ap (λ (x : Site). app_of_site x (v.site_bytes x)) site ∙ sym (fresh_entered v l h.fits h.full)) apps)
      (λ s. says) selected
      (λ s. ap (λ (x : Option Selection). record (session_state_of w.site_bytes s m') { selected = option_map (λ c. record { name = c.aid; session = s }) x }) selected
      ∙ ap (λ (x : Option Loaded). record (session_state_of w.site_bytes s m) { load = option_map (open_of w.site_bytes) x }) load)
      (record {
        selected = λ c is. let named = fits.selected c (sym selected ∙ is) in slots c.slot (ap is_some named) ∙ named;
        load = λ x is. absurd (cc (load, is));
      })

  pub ends_create_stopped : (v : BankView) (m : ManagerState) (l : Loaded) (n : List ℕ) (a : ApduParts) (b : B) (t : Stop) (w : BankView) (m' : ManagerState) (e : B) (q : Site) → q ≡ l.site → CanEnter v m l n a
      → InOrder did b (create_items q n) (Err t) e
      → Changes v.state (insert v.state.apps n (app_of_site q (v.site_bytes q))) (Err t) w.state
      → CommandEnds did (λ s. due_manager (create v.state.apps (session_state_of v.site_bytes s m) a)) v m b (Err t) w m' e
  ends_create_stopped v m l n a b t w m' e q site h items apps =
      ends_stopped did (λ s. due_manager (create v.state.apps (session_state_of v.site_bytes s m) a)) (created v m l n) v m b t w m' e (create_is_due v m l n a h)
      (λ s. subst (λ (x : Site). InOrder did b (create_items x n) (Err t) e) site items)
      (λ s. subst (λ (x : App). Changes v.state (insert v.state.apps n x) (Err t) w.state) (ap (λ (x : Site). app_of_site x (v.site_bytes x)) site ∙ sym (fresh_entered v l h.fits h.full)) apps)

-- ---- DELETE

pub delete_is_due : (v : BankView) (m : ManagerState) (x : Option Selection) (a : ApduParts) (k : ℕ) → x ≡ m.selected → CanDelete v.state.apps v.named x a k
    → (s : List ℕ) → due_manager (delete v.state.apps (session_state_of v.site_bytes s m) a) ≡ Does (delete_done (session_state_of v.site_bytes s m) a)
delete_is_due v m x a k is can s =
    let session_state = session_state_of v.site_bytes s m in
    done_due (first_status (delete_refusals v.state.apps session_state a)) (delete_done session_state a)
    (same_causes v m s a ∙ ap (λ (y : Option Selection). first_status (delete_causes v.state.apps y a)) (sym is) ∙ can.clear)

not_selected : (s : Selection) (n : List ℕ) → has_selected (Some s) n ≡ false → s.aid ≢ n
not_selected s n h is = cc (sym (subst (λ (x : List ℕ). bytes_eq s.aid x ≡ true) is (name_is_itself s.aid)) ∙ h)

module _ {B : Type 0} (did : B → BankItem → Answer → B → Type 0) where
  pub ends_deleted : (v : BankView) (m : ManagerState) (x : Option Selection) (a : ApduParts) (k : ℕ) (b : B) (r : Reply) (w : BankView) (m' : ManagerState) (e : B) → x ≡ m.selected → CanDelete v.state.apps v.named x a k → ManagerFits v m
      → InOrder did b (Remove (name_or (v.named k)) ∷ []) (Ok tt) e
      → Changes v.state (remove v.state.apps (name_or (v.named k))) (Ok tt) w.state
      → ((i : ℕ) → (n : List ℕ) → v.named i ≡ Some n → n ≢ name_or (v.named k) → w.named i ≡ Some n)
      → RepliesWith [] 0x9000 r → m'.selected ≡ m.selected → m'.load ≡ None
      → CommandEnds did (λ s. due_manager (delete v.state.apps (session_state_of v.site_bytes s m) a)) v m b (Ok (routed.Answer r)) w m' e
  ends_deleted v m x a k b r w m' e sel can fits items apps slots says selected load =
      let name : name_or (v.named k) ≡ a.body = ap name_or can.slot in
      ends_done did (λ s. due_manager (delete v.state.apps (session_state_of v.site_bytes s m) a)) (λ s. delete_done (session_state_of v.site_bytes s m) a) v m b r w m' e (delete_is_due v m x a k sel can)
      (λ s. subst (λ (n : List ℕ). InOrder did b (Remove n ∷ []) (Ok tt) e) name items)
      (λ s. subst (λ (n : List ℕ). Changes v.state (remove v.state.apps n) (Ok tt) w.state) name apps)
      (λ s. says) selected
      (λ s. ap (λ (y : Option Selection). record (session_state_of w.site_bytes s m') { selected = option_map (λ c. record { name = c.aid; session = s }) y }) selected
      ∙ ap (λ (y : Option Loaded). record (session_state_of w.site_bytes s m) { load = option_map (open_of w.site_bytes) y }) load)
      (record {
        selected = λ c is.
            let here : m.selected ≡ Some c = sym selected ∙ is in
            slots c.slot c.aid (fits.selected c here) (λ q. not_selected c a.body (ap (λ (y : Option Selection). has_selected y a.body) (sym (sel ∙ here)) ∙ can.other) (q ∙ name));
        load = λ y is. absurd (cc (load, is));
      })

-- ---- the table

-- the verdict on a command of class BE is that of the manager's table
pub manager_due : (v : BankView) (s : List ℕ) (m : ManagerState) (a : ApduParts) → a.cla ≡ 0xBE → due v s m a ≡ due_manager (manage v.room v.state.apps (session_state_of v.site_bytes s m) a)
manager_due v s m a is =
    ap (λ (c : ℕ). due_on v (session_state_of v.site_bytes s m) (cond (c == 0xFF) WrongClass (cond (c == 0 && a.ins == 0xA4 && a.p1 == 4) (ToSelect a) (cond (c == 0xBE) (ToManager a) (ToApplication a))))) is

module _ {B : Type 0} (did : B → BankItem → Answer → B → Type 0) where
  -- the end of a command for a verdict that is equal to its own
  pub ends_as : (f h : List ℕ → CommandDue) (v : BankView) (m : ManagerState) (b : B) (x : Result Routed Stop) (w : BankView) (n : ManagerState) (e : B) → ((s : List ℕ) → f s ≡ h s) → CommandEnds did h v m b x w n e → CommandEnds did f v m b x w n e
  ends_as f h v m b x w n e is ends =
      record {
        items = λ s. subst (λ (d : CommandDue). InOrder did b (items_of d) (answer_of x) e) (sym (is s)) (ends.items s);
        apps = λ s. subst (λ (d : CommandDue). Changes v.state (apps_after d v.state.apps) (answer_of x) w.state) (sym (is s)) (ends.apps s);
        leaves = λ s. subst (λ (d : CommandDue). IfOk x (λ r. CommandLeaves d s v m r w n)) (sym (is s)) (ends.leaves s);
        fits = ends.fits;
        going = ends.going;
      }

  pub ends_managed : (i : ℕ) (v : BankView) (m : ManagerState) (a : ApduParts) (b : B) (x : Result Routed Stop) (w : BankView) (n : ManagerState) (e : B) → a.ins ≡ i
      → CommandEnds did (λ s. due_manager (managed (order_of i) v.room v.state.apps (session_state_of v.site_bytes s m) a)) v m b x w n e
      → CommandEnds did (λ s. due_manager (manage v.room v.state.apps (session_state_of v.site_bytes s m) a)) v m b x w n e
  ends_managed i v m a b x w n e is =
      ends_as (λ s. due_manager (manage v.room v.state.apps (session_state_of v.site_bytes s m) a)) (λ s. due_manager (managed (order_of i) v.room v.state.apps (session_state_of v.site_bytes s m) a)) v m b x w n e
      (λ s. ap due_manager (manage_is i v.room v.state.apps (session_state_of v.site_bytes s m) a is))

  -- ---- the clauses of a command whose reply was written beside its ruling

  module _ (of : List ℕ → CommandDue) (v : BankView) (m : ManagerState) (b : B) (w : BankView) (n : ManagerState) (e : B) (r : Reply) where
    pub ends_items : (x : Result Ruling Stop) → CommandEnds did of v m b (ruling_or_stop x r) w n e → (s : List ℕ) → InOrder did b (items_of (of s)) (answer_of x) e
    ends_items (Ok y) ends = ends.items
    ends_items (Err t) ends = ends.items

    pub ends_apps : (x : Result Ruling Stop) → CommandEnds did of v m b (ruling_or_stop x r) w n e → (s : List ℕ) → Changes v.state (apps_after (of s) v.state.apps) (answer_of x) w.state
    ends_apps (Ok y) ends = ends.apps
    ends_apps (Err t) ends = ends.apps

    pub ends_leaves : (x : Result Ruling Stop) → CommandEnds did of v m b (ruling_or_stop x r) w n e → (s : List ℕ) → IfOk x (λ y. CommandLeaves (of s) s v m (ruling_with_reply y r) w n)
    ends_leaves (Ok y) ends = ends.leaves
    ends_leaves (Err t) ends = λ s. tt

    pub ends_fits : (x : Result Ruling Stop) → CommandEnds did of v m b (ruling_or_stop x r) w n e → OnOk x (ManagerFits w n)
    ends_fits (Ok y) ends = ends.fits
    ends_fits (Err t) ends = tt

    pub ends_going : (x : Result Ruling Stop) → CommandEnds did of v m b (ruling_or_stop x r) w n e → OnOk x (w.state.stopped ≡ false)
    ends_going (Ok y) ends = ends.going
    ends_going (Err t) ends = tt

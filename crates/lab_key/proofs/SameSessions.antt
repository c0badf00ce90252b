-- Keys of session states that are equal by the test of the code have the same value, and the other way round.
use Rattle.std.proofs.Common.{◌≡◌, ℕ, Bool, true, ◌&&◌, List, Option, Some, None, refl, ◌∙◌, ap, option_map}
use Rattle.std.specs.Prelude.{◌==◌, bytes_eq, Box}
use Rattle.std.specs.declared.alloc.Global.{Global}
use Rattle.std.specs.Option.{option_eq}
use Rattle.std.proofs.lemmas.Bool.{and_parts, eqb-true, eq-eqb}
use Rattle.std.proofs.lemmas.Slice.Eq.{bytes_eq-Decides}
use Rattle.law_explore.specs.model_card.specs.Manager.{Selected, Open, SessionState}
use Rattle.lab_key.specs.declared.session.SelectedKey.{SelectedKey}
use Rattle.lab_key.specs.declared.session.LoadKey.{LoadKey}
use Rattle.lab_key.specs.declared.session.SessionKey.{SessionKey}
use Rattle.lab_key.specs.contracts.session.SelectedKeyPartialEq.TheImpl as selected_key
use Rattle.lab_key.specs.contracts.session.LoadKeyPartialEq.TheImpl as load_key
use Rattle.lab_key.specs.contracts.session.SessionKeyPartialEq.TheImpl as session_key
use Rattle.lab_key.specs.Sessions.{selected_value, load_value, boxed_value, session_value}

pub both : (s t : Bool) → s ≡ true → t ≡ true → (s && t) ≡ true
both s t p q = ap (λ (x : Bool). x && t) p ∙ q

pub same_bytes : (a b : List ℕ) → bytes_eq a b ≡ true → a ≡ b
same_bytes a b h = (bytes_eq-Decides a b).0 h

pub equal_bytes : (a b : List ℕ) → a ≡ b → bytes_eq a b ≡ true
equal_bytes a b h = (bytes_eq-Decides a b).1 h

-- ---- selections

selected_same : (a b : SelectedKey) → (selected_key.ghosts).eq a b ≡ true → selected_value a ≡ selected_value b
selected_same a b h =
    let p = and_parts (bytes_eq a.name.items b.name.items) (bytes_eq a.bytes.items b.bytes.items) h in
    let name : a.name.items ≡ b.name.items = same_bytes a.name.items b.name.items p.0 in
    let bytes : a.bytes.items ≡ b.bytes.items = same_bytes a.bytes.items b.bytes.items p.1 in
    λ i. record { name = name i; session = bytes i }

selected_equal : (a b : SelectedKey) → selected_value a ≡ selected_value b → (selected_key.ghosts).eq a b ≡ true
selected_equal a b h =
    both _ _ (equal_bytes a.name.items b.name.items (ap (λ (s : Selected). s.name) h))
    (equal_bytes a.bytes.items b.bytes.items (ap (λ (s : Selected). s.session) h))

selections_same : (a b : Option SelectedKey) → option_eq (selected_key.ghosts).eq a b ≡ true → option_map selected_value a ≡ option_map selected_value b
selections_same None None h = refl
selections_same (Some a) (Some b) h = ap (λ (s : Selected). Some s) (selected_same a b h)
selections_same None (Some b) h = absurd (cc h)
selections_same (Some a) None h = absurd (cc h)

one_selected : (a b : Selected) → Some a ≡ Some b → a ≡ b
one_selected a b h = cc

selections_equal : (a b : Option SelectedKey) → option_map selected_value a ≡ option_map selected_value b → option_eq (selected_key.ghosts).eq a b ≡ true
selections_equal None None h = refl
selections_equal (Some a) (Some b) h = selected_equal a b (one_selected (selected_value a) (selected_value b) h)
selections_equal None (Some b) h = absurd (cc h)
selections_equal (Some a) None h = absurd (cc h)

-- ---- open loads

load_same : (a b : LoadKey) → (load_key.ghosts).eq a b ≡ true → load_value a ≡ load_value b
load_same a b h =
    let r11 = bytes_eq a.dir.items b.dir.items && bytes_eq a.fci.items b.fci.items in
    let r10 = bytes_eq a.init.items b.init.items && r11 in
    let r9 = bytes_eq a.code.items b.code.items && r10 in
    let r8 = (a.deny == b.deny) && r9 in
    let r7 = (a.fci_size == b.fci_size) && r8 in
    let r6 = (a.dir_size == b.dir_size) && r7 in
    let r5 = (a.session_size == b.session_size) && r6 in
    let r4 = (a.init_size == b.init_size) && r5 in
    let r3 = (a.fixed_size == b.fixed_size) && r4 in
    let r2 = (a.code_size == b.code_size) && r3 in
    let p1 = and_parts (a.place == b.place) r2 h in
    let p2 = and_parts (a.code_size == b.code_size) r3 p1.1 in
    let p3 = and_parts (a.fixed_size == b.fixed_size) r4 p2.1 in
    let p4 = and_parts (a.init_size == b.init_size) r5 p3.1 in
    let p5 = and_parts (a.session_size == b.session_size) r6 p4.1 in
    let p6 = and_parts (a.dir_size == b.dir_size) r7 p5.1 in
    let p7 = and_parts (a.fci_size == b.fci_size) r8 p6.1 in
    let p8 = and_parts (a.deny == b.deny) r9 p7.1 in
    let p9 = and_parts (bytes_eq a.code.items b.code.items) r10 p8.1 in
    let p10 = and_parts (bytes_eq a.init.items b.init.items) r11 p9.1 in
    let p11 = and_parts (bytes_eq a.dir.items b.dir.items) (bytes_eq a.fci.items b.fci.items) p10.1 in
    let place : a.place ≡ b.place = eqb-true a.place b.place p1.0 in
    let code_size : a.code_size ≡ b.code_size = eqb-true a.code_size b.code_size p2.0 in
    let fixed_size : a.fixed_size ≡ b.fixed_size = eqb-true a.fixed_size b.fixed_size p3.0 in
    let init_size : a.init_size ≡ b.init_size = eqb-true a.init_size b.init_size p4.0 in
    let session_size : a.session_size ≡ b.session_size = eqb-true a.session_size b.session_size p5.0 in
    let dir_size : a.dir_size ≡ b.dir_size = eqb-true a.dir_size b.dir_size p6.0 in
    let fci_size : a.fci_size ≡ b.fci_size = eqb-true a.fci_size b.fci_size p7.0 in
    let deny : a.deny ≡ b.deny = eqb-true a.deny b.deny p8.0 in
    let code : a.code.items ≡ b.code.items = same_bytes a.code.items b.code.items p9.0 in
    let init : a.init.items ≡ b.init.items = same_bytes a.init.items b.init.items p10.0 in
    let dir : a.dir.items ≡ b.dir.items = same_bytes a.dir.items b.dir.items p11.0 in
    let fci : a.fci.items ≡ b.fci.items = same_bytes a.fci.items b.fci.items p11.1 in
    λ i. record {
      site = record {
        sizes = record { code = code_size i; fixed = fixed_size i; init = init_size i; session = session_size i; dir = dir_size i; fci = fci_size i; deny = deny i };
        place = place i;
      };
      got = record { code = code i; init = init i; dir = dir i; fci = fci i };
    }

load_equal : (a b : LoadKey) → load_value a ≡ load_value b → (load_key.ghosts).eq a b ≡ true
load_equal a b h =
    both _ _ (eq-eqb a.place b.place (ap (λ (o : Open). o.site.place) h))
    (both _ _ (eq-eqb a.code_size b.code_size (ap (λ (o : Open). o.site.sizes.code) h))
    (both _ _ (eq-eqb a.fixed_size b.fixed_size (ap (λ (o : Open). o.site.sizes.fixed) h))
    (both _ _ (eq-eqb a.init_size b.init_size (ap (λ (o : Open). o.site.sizes.init) h))
    (both _ _ (eq-eqb a.session_size b.session_size (ap (λ (o : Open). o.site.sizes.session) h))
    (both _ _ (eq-eqb a.dir_size b.dir_size (ap (λ (o : Open). o.site.sizes.dir) h))
    (both _ _ (eq-eqb a.fci_size b.fci_size (ap (λ (o : Open). o.site.sizes.fci) h))
    (both _ _ (eq-eqb a.deny b.deny (ap (λ (o : Open). o.site.sizes.deny) h))
    (both _ _ (equal_bytes a.code.items b.code.items (ap (λ (o : Open). o.got.code) h))
    (both _ _ (equal_bytes a.init.items b.init.items (ap (λ (o : Open). o.got.init) h))
    (both _ _ (equal_bytes a.dir.items b.dir.items (ap (λ (o : Open). o.got.dir) h))
    (equal_bytes a.fci.items b.fci.items (ap (λ (o : Open). o.got.fci) h))))))))))))

-- whether two open loads on the heap are equal, by the test of the code
abbrev boxed_eq : Box LoadKey Global → Box LoadKey Global → Bool
boxed_eq a b = (load_key.ghosts).eq a.value b.value

loads_same : (a b : Option (Box LoadKey Global)) → option_eq boxed_eq a b ≡ true → option_map boxed_value a ≡ option_map boxed_value b
loads_same None None h = refl
loads_same (Some a) (Some b) h = ap (λ (o : Open). Some o) (load_same a.value b.value h)
loads_same None (Some b) h = absurd (cc h)
loads_same (Some a) None h = absurd (cc h)

one_load : (a b : Open) → Some a ≡ Some b → a ≡ b
one_load a b h = cc

loads_equal : (a b : Option (Box LoadKey Global)) → option_map boxed_value a ≡ option_map boxed_value b → option_eq boxed_eq a b ≡ true
loads_equal None None h = refl
loads_equal (Some a) (Some b) h = load_equal a.value b.value (one_load (boxed_value a) (boxed_value b) h)
loads_equal None (Some b) h = absurd (cc h)
loads_equal (Some a) None h = absurd (cc h)

-- ---- session states

pub session_same : (a b : SessionKey) → (session_key.ghosts).eq a b ≡ true → session_value a ≡ session_value b
session_same a b h =
    let p = and_parts (option_eq (selected_key.ghosts).eq a.selected b.selected) (option_eq boxed_eq a.load b.load) h in
    let selected : option_map selected_value a.selected ≡ option_map selected_value b.selected = selections_same a.selected b.selected p.0 in
    let load : option_map boxed_value a.load ≡ option_map boxed_value b.load = loads_same a.load b.load p.1 in
    λ i. record { selected = selected i; load = load i }

pub session_equal : (a b : SessionKey) → session_value a ≡ session_value b → (session_key.ghosts).eq a b ≡ true
session_equal a b h =
    both _ _ (selections_equal a.selected b.selected (ap (λ (s : SessionState). s.selected) h))
    (loads_equal a.load b.load (ap (λ (s : SessionState). s.load) h))

-- Items after items: their writes, the card after them, and where a stop among them falls.
use Rattle.std.proofs.Common.{◌≡◌, ◌≢◌, ℕ, ◌+◌, ◌-◌, ◌<◌, ◌≤◌, Bool, true, false, cond, List, [], ◌∷◌, ◌++◌, refl, sym, ◌∙◌, ap, inl, inr, arith}
use Rattle.std.specs.Prelude.{nat_le, ◌==◌}
use Rattle.std.proofs.lemmas.Bool.{lt-leb, eq-eqb, leb-false}
use Rattle.std.proofs.lemmas.Bool.Decides.{eqb_tells}
use Rattle.model_machine.specs.model_device.specs.Image.{Two}
use Rattle.model_machine.specs.model_device.specs.Stopped.{cost}
use Rattle.model_machine.specs.model_device.specs.Card.{App, Card}
use Rattle.model_card.specs.Items.{Item, Plain, Atomic, Stopped, with_item, in_flight, moves, apps_after_change, apps_after_items, card_done, at_stop}

pub moves_append : (is js : List Item) → moves (is ++ js) ≡ moves is + moves js
moves_append [] js = omega arith
moves_append (i ∷ is) js = let rest = moves_append is js in omega (arith, rest)

pub done_append : (is js : List Item) (apps : List (List ℕ × App)) → apps_after_items apps (is ++ js) ≡ apps_after_items (apps_after_items apps is) js
done_append [] js apps = refl
done_append (Plain ∷ is) js apps = done_append is js apps
done_append (Atomic w c ∷ is) js apps = done_append is js (apps_after_change c apps)

pub card_append : (is js : List Item) (c : Card) → card_done c (is ++ js) ≡ card_done (card_done c is) js
card_append is js c = ap (λ (apps : List (List ℕ × App)). record c { apps = apps }) (done_append is js c.apps)

-- the items of a stop that is past some items
abbrev pub behind : List Item → Stopped → Stopped
behind is s = record s { whole = is ++ s.whole }

-- a choice, by a test that is known on one side
pub chosen : {A : Type 0} → (b : Bool) → (u v w : A) → (b ≡ false → v ≡ w) → cond b u v ≡ cond b u w
chosen true u v w rest = refl
chosen false u v w rest = rest refl

pub stop_within : (is js : List Item) (k : ℕ) (x : List ℕ) → 1 ≤ k → k ≤ moves is → at_stop (is ++ js) k x ≡ at_stop is k x
stop_within [] js k x low high = absurd (omega (arith, low, high))
stop_within (Plain ∷ is) js k x low high =
    chosen (k == 1) (record { whole = []; owed = 0 }) (with_item Plain (at_stop (is ++ js) (k - 1) x)) (with_item Plain (at_stop is (k - 1) x)) (λ e.
    let more : k ≢ 1 = λ same. absurd (cc (sym (eq-eqb k 1 same) ∙ e)) in
    ap (λ (s : Stopped). with_item Plain s) (stop_within is js (k - 1) x (omega (arith, low, more)) (omega (arith, high))))
stop_within (Atomic w c ∷ is) js k x low high =
    chosen (nat_le k (cost Two w)) (in_flight w c k x) (with_item (Atomic w c) (at_stop (is ++ js) (k - cost Two w) x)) (with_item (Atomic w c) (at_stop is (k - cost Two w) x)) (λ e.
    let more : cost Two w < k = leb-false k (cost Two w) e in
    ap (λ (s : Stopped). with_item (Atomic w c) s) (stop_within is js (k - cost Two w) x (omega (arith, more)) (omega (arith, high))))

pub stop_past : (is js : List Item) (n k : ℕ) (x : List ℕ) → 1 ≤ k → n ≡ moves is + k → at_stop (is ++ js) n x ≡ behind is (at_stop js k x)
stop_past [] js n k x low e = let same : n ≡ k = omega (arith, e) in ap (λ (t : ℕ). at_stop js t x) same
stop_past (Plain ∷ is) js n k x low e =
    let other : (n == 1) ≡ false = elim (eqb_tells n 1) [ inl own ↦ absurd (let same = own.1 in omega (arith, e, same, low)) | inr not ↦ not.0 ] in
    ap (λ (b : Bool). cond b (record { whole = []; owed = 0 }) (with_item Plain (at_stop (is ++ js) (n - 1) x))) other
    ∙ ap (λ (s : Stopped). with_item Plain s) (stop_past is js (n - 1) k x low (omega (arith, e)))
stop_past (Atomic w c ∷ is) js n k x low e =
    let more : nat_le n (cost Two w) ≡ false = lt-leb n (cost Two w) (omega (arith, e, low)) in
    ap (λ (b : Bool). cond b (in_flight w c n x) (with_item (Atomic w c) (at_stop (is ++ js) (n - cost Two w) x))) more
    ∙ ap (λ (s : Stopped). with_item (Atomic w c) s) (stop_past is js (n - cost Two w) k x low (omega (arith, e)))

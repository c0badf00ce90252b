-- A store that runs, fact by fact.
use Rattle.std.specs.Prelude.{◌≡◌, ℕ, Bool, true, false, ◌&&◌, cond, ◌==◌, List, [], length, Option, Some, None, is_none}
use Rattle.std.proofs.Common.{refl, sym, ◌∙◌, ap}
use Rattle.std.proofs.lemmas.Bool.{and_parts, eqb-true, eq-eqb}
use Rattle.mc_words.specs.model_device.specs.declared.cause.Cause.{Cause}
use Rattle.mc_words.specs.model_device.specs.Image.{Look, Refused, Closed, Pending, look, image_after_replay}
use Rattle.mc_words.specs.model_device.specs.Device.{DeviceState}
use Rattle.mc_words.specs.model_device.specs.Card.{Card, card_of, means, words_after}
use Rattle.mc_words.specs.model_device.specs.Layout.{words_fault, fault}
use Rattle.mc_store.specs.Store.{is_closed, settled_words, apps_in, is_going}
use Rattle.mc_words.specs.model_device.proofs.LayoutLemmas.{closed_fault, closed_means}

-- power is on, no journal is open, the words are a card of layout 2 with c applications
pub record Going (d : DeviceState) (c : ℕ) : Type 0 where
  pub on : d.on ≡ true
  pub closed : look d.words ≡ Closed
  pub laid : words_fault d.words ≡ None
  pub layout : (card_of d.words).layout ≡ 2
  pub count : c ≡ length (card_of d.words).apps

pub closed_is : (l : Look) → is_closed l ≡ true → l ≡ Closed
closed_is (Refused p) h = absurd (cc h)
closed_is Closed h = refl
closed_is (Pending j ps) h = absurd (cc h)

pub none_is : {A : Type 0} → (o : Option A) → is_none o ≡ true → o ≡ None
none_is None h = refl
none_is (Some x) h = absurd (cc h)

-- words with no open journal stay as they are in a replay, hold their own card, and have the faults of words
pub closed_settled : (m : List (List ℕ)) → look m ≡ Closed → settled_words m ≡ m
closed_settled m h = ap (λ (l : Look). words_after (image_after_replay m l) m) h

pub laid_apps : (m : List (List ℕ)) → fault m ≡ None → apps_in m ≡ (means m).apps
unfolding apps_in
laid_apps m h = ap (λ (o : Option (Cause × ℕ)). cond (is_none o) (means m).apps []) h

pub closed_apps : (m : List (List ℕ)) → look m ≡ Closed → words_fault m ≡ None → apps_in m ≡ (card_of m).apps
closed_apps m closed laid = laid_apps m (closed_fault m closed ∙ laid) ∙ ap (λ (c : Card). c.apps) (closed_means m closed)

pub going_is : (d : DeviceState) (c : ℕ) → is_going d c ≡ true → Going d c
unfolding is_going
going_is d c h =
    let a = d.on && is_closed (look d.words) in
    let b = a && is_none (words_fault d.words) in
    let l = b && (means d.words).layout == 2 in
    let one = and_parts l (c == length (means d.words).apps) h in
    let two = and_parts b ((means d.words).layout == 2) one.0 in
    let three = and_parts a (is_none (words_fault d.words)) two.0 in
    let four = and_parts d.on (is_closed (look d.words)) three.0 in
    let closed : look d.words ≡ Closed = closed_is (look d.words) four.1 in
    record {
      on = four.0;
      closed = closed;
      laid = none_is (words_fault d.words) three.1;
      layout = sym (ap (λ (k : Card). k.layout) (closed_means d.words closed)) ∙ eqb-true (means d.words).layout 2 two.1;
      count = eqb-true c (length (means d.words).apps) one.1 ∙ ap (λ (k : Card). length k.apps) (closed_means d.words closed);
    }

all_true : (a b c e f : Bool) → a ≡ true → b ≡ true → c ≡ true → e ≡ true → f ≡ true → (a && b && c && e && f) ≡ true
all_true true true true true true p q r s t = refl
all_true false b c e f p q r s t = absurd (cc p)
all_true true false c e f p q r s t = absurd (cc q)
all_true true true false e f p q r s t = absurd (cc r)
all_true true true true false f p q r s t = absurd (cc s)
all_true true true true true false p q r s t = absurd (cc t)

pub is_going_of : (d : DeviceState) (c : ℕ) → Going d c → is_going d c ≡ true
unfolding is_going
is_going_of d c g =
    all_true d.on (is_closed (look d.words)) (is_none (words_fault d.words)) ((means d.words).layout == 2) (c == length (means d.words).apps)
    g.on
    (ap is_closed g.closed)
    (ap (λ (o : Option (Cause × ℕ)). is_none o) g.laid)
    (eq-eqb (means d.words).layout 2 (ap (λ (k : Card). k.layout) (closed_means d.words g.closed) ∙ g.layout))
    (eq-eqb c (length (means d.words).apps) (g.count ∙ sym (ap (λ (k : Card). length k.apps) (closed_means d.words g.closed))))

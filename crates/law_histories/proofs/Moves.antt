-- The moves of a deck with the rules of one application are lines to the card, of bytes.
use Rattle.std.proofs.Common.{◌≡◌, ℕ, ◌+◌, ◌*◌, ◌-◌, ◌≤◌, ◌<◌, Bool, true, false, cond, List, [], ◌∷◌, length, Option, Some, None, Result, Ok, Err, refl, arith}
use Rattle.std.specs.Prelude.{ok_or, option_map, option_and_then, nat_le, IfOk, IfSome}
use Rattle.std.specs.List.{AllByRecursion}
use Rattle.std.proofs.lemmas.Bool.{and_parts, leb-true}
use Rattle.law_histories.specs.model_device.specs.Bytes.{AreBytes}
use Rattle.law_histories.specs.model_text.specs.Text.{only_if, is_within, is_digit, hex_value, before_values, hex_values, bytes_of_digits, hex_bytes}
use Rattle.law_histories.specs.model_play.specs.declared.deck.DeckCause.TheVariants.{BadHex, OutOfRange}
use Rattle.law_histories.specs.model_play.specs.DeckGrammar.{DeckLine, aid_field, hex_field}
use Rattle.law_histories.specs.model_play.specs.DeckGrammar as line
use Rattle.law_histories.specs.model_play.specs.Play.{is_card_line}
use Rattle.law_histories.specs.model_play.specs.ReadyAgain.{IsLine}
use Rattle.law_histories.specs.law_family.proofs.AssembledBytes.{bind_ok, only_ok}
use Rattle.law_histories.specs.law_explore.specs.Rules.{move_line}
use Rattle.law_histories.specs.law_explore.proofs.Searches.{IfGoesOn}
use Rattle.law_histories.specs.law_explore.proofs.ReadRules.{move_states}
use Rattle.law_histories.specs.Histories.{AppExploration, app_exploration_read}
use Rattle.law_histories.proofs.CardMoves.{IsReadFrom, read_from}

-- ---- hexadecimal fields

cond_some : {A : Type 0} (b : Bool) (o p : Option A) (P : A → Type 0) → (b ≡ true → IfSome o P) → (b ≡ false → IfSome p P) → IfSome (cond b o p) P
cond_some true o p P h k = h refl
cond_some false o p P h k = k refl

Digit : ℕ → Type 0
Digit v = v < 16

at_most : (low high c : ℕ) → is_within low high c ≡ true → c ≤ high
at_most low high c h = leb-true c high (and_parts (nat_le low c) (nat_le c high) h).1

value_low : (c : ℕ) → IfSome (hex_value c) Digit
unfolding Digit
value_low c =
    cond_some (is_digit c) (Some (c - 48)) (cond (is_within 65 70 c) (Some (c - 55)) (cond (is_within 97 102 c) (Some (c - 87)) None)) Digit (λ e. let most : c ≤ 57 = at_most 48 57 c e in omega arith)
    (λ n. cond_some (is_within 65 70 c) (Some (c - 55)) (cond (is_within 97 102 c) (Some (c - 87)) None) Digit (λ e. let most : c ≤ 70 = at_most 65 70 c e in omega arith)
    (λ n. cond_some (is_within 97 102 c) (Some (c - 87)) None Digit (λ e. let most : c ≤ 102 = at_most 97 102 c e in omega arith) (λ n. tt)))

before_low : (o : Option ℕ) (p : Option (List ℕ)) → IfSome o Digit → IfSome p (λ vs. AllByRecursion Digit vs) → IfSome (before_values o p) (λ vs. AllByRecursion Digit vs)
before_low (Some v) (Some vs) h k = (h, k)
before_low (Some v) None h k = tt
before_low None p h k = tt

values_low : (t : List ℕ) → IfSome (hex_values t) (λ vs. AllByRecursion Digit vs)
values_low [] = tt
values_low (c ∷ t) = before_low (hex_value c) (hex_values t) (value_low c) (values_low t)

more_bytes : (n : ℕ) (o : Option (List ℕ)) → n < 256 → IfSome o AreBytes → IfSome (option_map (λ bs. n ∷ bs) o) AreBytes
more_bytes n None h k = tt
more_bytes n (Some bs) h k = (h, k)

paired_bytes : (vs : List ℕ) → AllByRecursion Digit vs → IfSome (bytes_of_digits vs) AreBytes
unfolding Digit
paired_bytes [] h = tt
paired_bytes (a ∷ []) h = tt
paired_bytes (a ∷ b ∷ vs) h = let x : a < 16 = h.0 in let y : b < 16 = h.1.0 in more_bytes (a * 16 + b) (bytes_of_digits vs) (omega arith) (paired_bytes vs h.1.1)

some_paired : (o : Option (List ℕ)) → IfSome o (λ vs. AllByRecursion Digit vs) → IfSome (option_and_then bytes_of_digits o) AreBytes
some_paired None h = tt
some_paired (Some vs) h = paired_bytes vs h

some_ok : {A E : Type 0} (o : Option A) (e : E) (P : A → Type 0) → IfSome o P → IfOk (ok_or o e) P
some_ok None e P h = tt
some_ok (Some a) e P h = h

hex_ok : (t : List ℕ) → IfOk (hex_field t) AreBytes
hex_ok t = some_ok (hex_bytes t) BadHex AreBytes (some_paired (hex_values t) (values_low t))

aid_ok : (t : List ℕ) → IfOk (aid_field t) AreBytes
aid_ok t =
    bind_ok (hex_field t) (λ b. only_if (is_within 5 16 (length b)) OutOfRange b) AreBytes AreBytes (hex_ok t)
    (λ b h. only_ok (is_within 5 16 (length b)) OutOfRange b AreBytes (λ e. h))

-- ---- moves

-- a line to the card, of bytes
pub record IsSent (l : DeckLine) : Type 0 where
  pub card : is_card_line l ≡ true
  pub bytes : IsLine l

sent_goes : {E : Type 0} (f : List ℕ → DeckLine) (x : Result (List ℕ) E) → IfOk x AreBytes → ((b : List ℕ) → AreBytes b → IsSent (f b)) → IfGoesOn (λ b. IsSent (f b)) x
sent_goes f (Ok b) h k = k b h
sent_goes f (Err e) h k = tt

line_of_move : (n : ℕ) (fs : List (List ℕ)) → IfGoesOn IsSent (move_line n fs)
line_of_move n fs =
    move_states IsSent (record { card = refl; bytes = tt })
    (λ f. sent_goes (λ a. line.Sent (line.Select a)) (aid_field f) (aid_ok f) (λ b h. record { card = refl; bytes = h }))
    (λ f. sent_goes (λ a. line.Sent (line.Delete a)) (aid_field f) (aid_ok f) (λ b h. record { card = refl; bytes = h }))
    (λ f. sent_goes (λ a. line.Sent (line.Apdu a)) (hex_field f) (hex_ok f) (λ b h. record { card = refl; bytes = h })) n fs

-- what was read, whose moves are lines to the card, of bytes
pub sent_from : (text : List ℕ) (x : AppExploration) → app_exploration_read text ≡ Ok x → IsReadFrom IsSent text x
sent_from text x e = read_from IsSent line_of_move text x e

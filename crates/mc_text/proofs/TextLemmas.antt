-- How texts that are written one behind the other compose.
use Rattle.std.proofs.Common.{◌≡◌, ℕ, List, [], ◌∷◌, ◌++◌, take, drop, Result, Ok, Err, IsErr, refl, arith, sym, ap, subst, ◌∙◌, append_assoc, length-append}
use Rattle.std.proofs.lemmas.List.{take-append-drop}
use Rattle.model_text.specs.Listing.{hex_text}
use Rattle.mc_streams.proofs.StreamsLemmas.{grew_append, grew_none, rose_later}
use Rattle.mc_streams.specs.declared.refusals.WriteFault.{WriteFault}
use Rattle.mc_text.specs.Texts.{Sunk, Writes, Fails, Puts}

-- a text that was written after one that was written
pub writes_then : {a b c : Sunk} {x y : List ℕ} → Writes a x b → Writes b y c → Writes a (x ++ y) c
writes_then {a} {b} {c} {x} {y} first second =
    record { whole = grew_append a.taken b.taken c.taken x y first.whole second.whole; counted = second.counted ∙ first.counted }

-- a text that failed after one that was written
pub fails_then : {a b c : Sunk} {x y : List ℕ} → Writes a x b → Fails b y c → Fails a (x ++ y) c
fails_then {a} {b} {c} {x} {y} first second =
    record {
      part =
          record {
            front = x ++ second.part.front;
            rest = second.part.rest;
            parts = ap (λ t. x ++ t) second.part.parts ∙ sym (append_assoc x second.part.front second.part.rest);
            some_left = second.part.some_left;
            grew = grew_append a.taken b.taken c.taken x second.part.front first.whole second.part.grew;
          };
      cause = rose_later a.faults b.faults c.faults (omega (arith, first.counted)) second.cause;
    }

-- a text that was written or failed after one that was written
pub puts_then : {a b : Sunk} {x : List ℕ} (c : Sunk) (y : List ℕ) (r : Result (Unit {0}) WriteFault) → Writes a x b → Puts b y r c → Puts a (x ++ y) r c
puts_then c y (Ok u) first second = writes_then first second
puts_then c y (Err e) first second = fails_then first second

-- a text that failed fails with every text appended to it
pub fails_before : {a b : Sunk} {x : List ℕ} (y : List ℕ) → Fails a x b → Fails a (x ++ y) b
fails_before {a} {b} {x} y f =
    record {
      part =
          record {
            front = f.part.front;
            rest = f.part.rest ++ y;
            parts = ap (λ t. t ++ y) f.part.parts ∙ append_assoc f.part.front f.part.rest y;
            some_left = simp (length-append) (omega (arith, f.part.some_left));
            grew = f.part.grew;
          };
      cause = f.cause;
    }

-- a text that failed, with the `Err` that a `?` returns
pub puts_failed : {a b : Sunk} {t : List ℕ} (r : Result (Unit {0}) WriteFault) → IsErr r → Fails a t b → Puts a t r b
puts_failed (Ok u) is f = absurd (cc is)
puts_failed (Err w) is f = f

-- the empty text is written without a call
pub writes_none : (a : Sunk) → Writes a [] a
writes_none a = record { whole = grew_none a.taken; counted = refl }

-- an equal text is put with the same result
pub puts_as : (a b : Sunk) {t u : List ℕ} (r : Result (Unit {0}) WriteFault) → t ≡ u → Puts a t r b → Puts a u r b
puts_as a b r e p = subst (λ (t : List ℕ). Puts a t r b) e p

-- the hexadecimal text of bytes followed by others
pub hex_text_append : (xs ys : List ℕ) → hex_text (xs ++ ys) ≡ hex_text xs ++ hex_text ys
hex_text_append [] ys = refl
hex_text_append (x ∷ xs) ys = grind (arith, hex_text_append xs ys)

-- the hexadecimal text of bytes in two parts
pub hex_text_split : (n : ℕ) (xs : List ℕ) → hex_text (take n xs) ++ hex_text (drop n xs) ≡ hex_text xs
hex_text_split n xs = sym (hex_text_append (take n xs) (drop n xs)) ∙ ap hex_text (take-append-drop n xs)

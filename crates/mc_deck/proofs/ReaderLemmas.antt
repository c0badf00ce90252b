-- The reader, line by line.
use Rattle.std.proofs.Common.{◌≡◌, ℕ, zero, suc, ◌<◌, Bool, true, false, cond, List, [], ◌∷◌, ◌++◌, length, take, Bor, Option, Some, None, Result, Ok, Err, arith, refl, sym, ap, subst, ◌∙◌}
use Rattle.std.specs.Prelude.{ok_or}
use Rattle.std.specs.BTreeMap.{BTreeMap}
use Rattle.std.specs.List.{AllByRecursion}
use Rattle.model_play.specs.model_device.specs.Bytes.{lookup}
use Rattle.model_play.specs.model_text.specs.Text.{◌>>=◌, ok_as, err_as, begins}
use Rattle.model_play.specs.declared.deck.DeckCause.{DeckCause}
use Rattle.model_play.specs.declared.deck.DeckCause.TheVariants.{BadLine}
use Rattle.model_play.specs.DeckGrammar
use Rattle.model_play.specs.DeckGrammar.{DeckLine, Context, Stated, Says, Opens, LineTurn, Between, between, turn_of, Word, FormatWord, PowerWord, UnitWord, AppWord, LoadWord, SelectWord, DeleteWord, DumpWord, ApduWord, BudgetWord, CutWord, FailWord, PokeWord, statement_of, deck_words, with_unit}
use Rattle.mc_deck.specs.declared.unit.OwnedUnit.{OwnedUnit}
use Rattle.mc_deck.specs.declared.line.OwnedLine.{OwnedLine}
use Rattle.mc_deck.specs.Lines.{grammar_line, said_lines, unit_at, owned_parts, is_powered_after_line, UnitWithin, GoodLine, GoodUnit, Timely, OnTime, AreDeck}
use Rattle.mc_deck.specs.Statements.{Ranged, LineInRange}
use Rattle.mc_deck.specs.Contexts.{AreNames}
use Rattle.mc_deck.specs.Readers.{line_stated, is_powered_after, StandsForContext, StandsBy, TurnTaken}
use Rattle.mc_deck.specs.declared.reading.Reader.{Reader}
use Rattle.mc_deck.proofs.LineLemmas.{unit_front, one_longer}

-- ---- fields

-- no statement has more than three fields after its word
more_fields : (c : Context) (n : ℕ) (w : Word) (a b d e : List ℕ) (ts us : List (List ℕ)) → statement_of c n w (a ∷ b ∷ d ∷ e ∷ ts) ≡ statement_of c n w (a ∷ b ∷ d ∷ e ∷ us)
unfolding statement_of
more_fields c n FormatWord a b d e ts us = refl
more_fields c n _ a b d e ts us = refl

four_fields : (c : Context) (n : ℕ) (w : Word) (ts : List (List ℕ)) → statement_of c n w (take 4 ts) ≡ statement_of c n w ts
four_fields c n w [] = refl
four_fields c n w (a ∷ []) = refl
four_fields c n w (a ∷ b ∷ []) = refl
four_fields c n w (a ∷ b ∷ d ∷ []) = refl
four_fields c n w (a ∷ b ∷ d ∷ e ∷ ts) = more_fields c n w a b d e [] ts

worded_five : (c : Context) (n : ℕ) (o : Option Word) (ts : List (List ℕ)) → err_as {F = ℕ × DeckCause} (λ e. (n, e)) (ok_or o BadLine >>= λ w. ok_as Some (statement_of c n w (take 4 ts))) ≡ err_as {F = ℕ × DeckCause} (λ e. (n, e)) (ok_or o BadLine >>= λ w. ok_as Some (statement_of c n w ts))
worded_five c n None ts = refl
worded_five c n (Some w) ts = rw (four_fields c n w ts) refl

-- the first five fields determine the statement
pub line_five : (c : Context) (n : ℕ) (ts : List (List ℕ)) → line_stated c n (take 5 ts) ≡ line_stated c n ts
line_five c n [] = refl
line_five c n (a ∷ ts) = ap (cond (begins 35 a) (Ok None)) (worded_five c n (lookup deck_words a) ts)

-- a statement that is refused
pub line_refused : (c : Context) (n : ℕ) (a : List ℕ) (ts : List (List ℕ)) (w : Word) (e : DeckCause) → begins 35 a ≡ false → Some w ≡ lookup deck_words a → statement_of c n w ts ≡ Err e → line_stated c n (a ∷ ts) ≡ Err (n, e)
line_refused c n a ts w e b l h = rw (b, sym l, h) refl

-- ---- one more line

pub all_more : {X : Type 0} (P : X → Type 0) (xs : List X) (x : X) → AllByRecursion P xs → P x → AllByRecursion P (xs ++ x ∷ [])
all_more P [] x a h = (h, tt)
all_more P (y ∷ xs) x a h = (a.0, all_more P xs x a.1 h)

pub said_more : (us : List OwnedUnit) (ls : List (ℕ × OwnedLine)) (n : ℕ) (l : OwnedLine) → said_lines us (ls ++ (n, l) ∷ []) ≡ said_lines us ls ++ (n, grammar_line us l) ∷ []
said_more us [] n l = refl
said_more us (k ∷ ls) n l = ap (λ x. (k.0, grammar_line us k.1) ∷ x) (said_more us ls n l)

times_more : (p : Bool) (ls : List (ℕ × DeckLine)) (l : ℕ × DeckLine) → OnTime p ls → Timely (is_powered_after p ls) l.1 → OnTime p (ls ++ l ∷ [])
times_more p [] l a h = (h, tt)
times_more p (k ∷ ls) l a h = (a.0, times_more (is_powered_after_line p k.1) ls l a.1 h)

after_more : (p : Bool) (ls : List (ℕ × DeckLine)) (l : ℕ × DeckLine) → is_powered_after p (ls ++ l ∷ []) ≡ is_powered_after_line (is_powered_after p ls) l.1
after_more p [] l = refl
after_more p (k ∷ ls) l = after_more (is_powered_after_line p k.1) ls l

deck_more : (ls : List (ℕ × DeckLine)) (n : ℕ) (l : DeckLine) (p : Bool) → AreDeck ls → is_powered_after false ls ≡ p → GoodLine l → Timely p l → AreDeck (ls ++ (n, l) ∷ [])
deck_more ls n l p a e g t = record {
  ranges = all_more (λ l. GoodLine l.1) ls (n, l) a.ranges g;
  times = times_more false ls (n, l) a.times (subst (λ (b : Bool). Timely b l) (sym e) t);
}

unit_good : (us : List OwnedUnit) (i : ℕ) → i < length us → AllByRecursion (λ u. GoodUnit (owned_parts u)) us → GoodUnit (unit_at us i)
unit_good [] i h a = absurd (omega (arith, h))
unit_good (u ∷ us) zero h a = a.0
unit_good (u ∷ us) (suc i) h a = unit_good us i (omega (arith, h)) a.1

-- the line of a statement
good_said : (us : List OwnedUnit) (p : Bool) (l : OwnedLine) → Ranged l → LineInRange (length us) p l → AllByRecursion (λ u. GoodUnit (owned_parts u)) us → GoodLine (grammar_line us l)
good_said us p OwnedLine.Format r h a = tt
good_said us p OwnedLine.Power r h a = tt
good_said us p OwnedLine.Named r h a = tt
good_said us p (OwnedLine.Load i fixed session) r h a = (unit_good us i h a, r.0, r.1)
good_said us p _ r h a = r

timely_said : (us : List OwnedUnit) (n : ℕ) (p : Bool) (l : OwnedLine) → LineInRange n p l → Timely p (grammar_line us l)
timely_said us n p OwnedLine.Format h = h
timely_said us n p (OwnedLine.Poke at fill) h = h
timely_said us n p _ h = tt

power_said : (us : List OwnedUnit) (n : ℕ) (p : Bool) (l : OwnedLine) → LineInRange n p l → is_powered_after_line p (grammar_line us l) ≡ p
power_said us n p OwnedLine.Power h = absurd h
power_said us n p _ h = refl

inside_said : (n : ℕ) (p : Bool) (l : OwnedLine) → LineInRange n p l → UnitWithin n l
inside_said n p (OwnedLine.Load i fixed session) h = h
inside_said n p _ h = tt

-- the line of a statement, after others
pub stands_line : (m : BTreeMap (Bor (List ℕ)) ℕ) (us : List OwnedUnit) (p : Bool) (ls ks : List (ℕ × OwnedLine)) (c : Context) (n : ℕ) (l : OwnedLine) → ks ≡ ls ++ (n, l) ∷ [] → Ranged l → LineInRange (length us) p l
    → StandsBy m us p ls c → StandsBy m us p ks c
stands_line m us p ls ks c n l e r h s = rw e (record {
  named = s.named;
  power = s.power;
  good = s.good;
  inside = all_more (λ l. UnitWithin (length us) l.1) ls (n, l) s.inside (inside_said (length us) p l h);
  deck = subst AreDeck (sym (said_more us ls n l)) (deck_more (said_lines us ls) n (grammar_line us l) p s.deck s.last (good_said us p l r h s.good) (timely_said us (length us) p l h));
  last = ap (is_powered_after false) (said_more us ls n l) ∙ after_more false (said_lines us ls) (n, grammar_line us l) ∙ ap (λ b. is_powered_after_line b (grammar_line us l)) s.last ∙ power_said us (length us) p l h;
})

-- a `power` after other lines
pub stands_power : (m : BTreeMap (Bor (List ℕ)) ℕ) (us : List OwnedUnit) (p : Bool) (ls ks : List (ℕ × OwnedLine)) (c : Context) (n : ℕ) → ks ≡ ls ++ (n, OwnedLine.Power) ∷ []
    → StandsBy m us p ls c → StandsBy m us true ks (record c { powered = true })
stands_power m us p ls ks c n e s = rw e (record {
  named = s.named;
  power = refl;
  good = s.good;
  inside = all_more (λ l. UnitWithin (length us) l.1) ls (n, OwnedLine.Power) s.inside tt;
  deck = subst AreDeck (sym (said_more us ls n OwnedLine.Power)) (deck_more (said_lines us ls) n DeckGrammar.Power p s.deck s.last tt tt);
  last = ap (is_powered_after false) (said_more us ls n OwnedLine.Power) ∙ after_more false (said_lines us ls) (n, DeckGrammar.Power);
})

-- ---- one more unit

said_grow : (us : List OwnedUnit) (u : OwnedUnit) (l : OwnedLine) → UnitWithin (length us) l → grammar_line (us ++ u ∷ []) l ≡ grammar_line us l
said_grow us u (OwnedLine.Load i fixed session) h = ap (λ v. DeckGrammar.Sent (DeckGrammar.Load v fixed session)) (unit_front us u i h)
said_grow us u _ h = refl

lines_grow : (us : List OwnedUnit) (u : OwnedUnit) (ls : List (ℕ × OwnedLine)) → AllByRecursion (λ l. UnitWithin (length us) l.1) ls → said_lines (us ++ u ∷ []) ls ≡ said_lines us ls
lines_grow us u [] a = refl
lines_grow us u (l ∷ ls) a = rw (said_grow us u l.1 a.0, lines_grow us u ls a.1) refl

inside_more : (n : ℕ) (l : OwnedLine) → UnitWithin n l → UnitWithin (suc n) l
inside_more n (OwnedLine.Load i fixed session) h = omega (arith, h)
inside_more n _ h = tt

all_inside_more : (n : ℕ) (ls : List (ℕ × OwnedLine)) → AllByRecursion (λ l. UnitWithin n l.1) ls → AllByRecursion (λ (l : ℕ × OwnedLine). UnitWithin (suc n) l.1) ls
all_inside_more n [] a = tt
all_inside_more n (l ∷ ls) a = (inside_more n l.1 a.0, all_inside_more n ls a.1)

-- the lines after which a unit is named
pub named_lines : (us vs : List OwnedUnit) (u : OwnedUnit) (ls ks : List (ℕ × OwnedLine)) (n : ℕ) → vs ≡ us ++ u ∷ [] → ks ≡ ls ++ (n, OwnedLine.Named) ∷ [] → AllByRecursion (λ l. UnitWithin (length us) l.1) ls
    → said_lines vs ks ≡ said_lines us ls ++ (n, DeckGrammar.Named) ∷ []
named_lines us vs u ls ks n d e a = rw (d, e) (said_more (us ++ u ∷ []) ls n OwnedLine.Named ∙ ap (λ x. x ++ (n, DeckGrammar.Named) ∷ []) (lines_grow us u ls a))

pub stands_unit : (m k : BTreeMap (Bor (List ℕ)) ℕ) (us vs : List OwnedUnit) (u : OwnedUnit) (p : Bool) (ls ks : List (ℕ × OwnedLine)) (c : Context) (n : ℕ) (name : List ℕ)
    → vs ≡ us ++ u ∷ [] → ks ≡ ls ++ (n, OwnedLine.Named) ∷ [] → GoodUnit (owned_parts u) → AreNames k vs ((name, owned_parts u) ∷ c.units) → StandsBy m us p ls c → StandsBy k vs p ks (with_unit c name (owned_parts u))
stands_unit m k us vs u p ls ks c n name d e g a s =
    let lines = named_lines us vs u ls ks n d e s.inside in
    record {
      named = a;
      power = s.power;
      good = subst (AllByRecursion (λ u. GoodUnit (owned_parts u))) (sym d) (all_more (λ u. GoodUnit (owned_parts u)) us u s.good g);
      inside = rw (d, e, one_longer us u) (all_more (λ (l : ℕ × OwnedLine). UnitWithin (suc (length us)) l.1) ls (n, OwnedLine.Named) (all_inside_more (length us) ls s.inside) tt);
      deck = subst AreDeck (sym lines) (deck_more (said_lines us ls) n DeckGrammar.Named p s.deck s.last tt tt);
      last = ap (is_powered_after false) lines ∙ after_more false (said_lines us ls) (n, DeckGrammar.Named) ∙ s.last;
    }

-- ---- turns

-- the line of a statement, and a `power`
pub took_line : (old new : Reader) (c : Context) (n : ℕ) (l : OwnedLine) → StandsForContext old c → Ranged l → LineInRange (length old.names.units.items) old.powered l
    → new.names.units.items ≡ old.names.units.items → new.names.places ≡ old.names.places → new.powered ≡ old.powered → new.lines.items ≡ old.lines.items ++ (n, l) ∷ []
    → TurnTaken old new None (turn_of n (Says (grammar_line old.names.units.items l) c))
took_line old new c n l s r h us m p ls = record {
  context = c;
  stands = rw (us, m, p) (stands_line old.names.places old.names.units.items old.powered old.lines.items new.lines.items c n l ls r h s);
  lines = rw (us, ls) (said_more old.names.units.items old.lines.items n l);
  mode = refl;
}

pub took_power : (old new : Reader) (c : Context) (n : ℕ) → StandsForContext old c
    → new.names.units.items ≡ old.names.units.items → new.names.places ≡ old.names.places → new.powered ≡ true → new.lines.items ≡ old.lines.items ++ (n, OwnedLine.Power) ∷ []
    → TurnTaken old new None (turn_of n (Says DeckGrammar.Power (record c { powered = true })))
took_power old new c n s us m p ls = record {
  context = record c { powered = true };
  stands = rw (us, m, p) (stands_power old.names.places old.names.units.items old.powered old.lines.items new.lines.items c n ls s);
  lines = rw (us, ls) (said_more old.names.units.items old.lines.items n OwnedLine.Power);
  mode = refl;
}

-- a line between statements, by its statement
abbrev turn_or_none : Context → ℕ → Option Stated → LineTurn
turn_or_none c n None = record { lines = []; mode = Between c }
turn_or_none c n (Some s) = turn_of n s

between_word : (c : Context) (n : ℕ) (o : Option Word) (ts : List (List ℕ)) → err_as {F = ℕ × DeckCause} (λ e. (n, e)) (ok_or o BadLine >>= λ w. ok_as (turn_of n) (statement_of c n w ts))
    ≡ ok_as (turn_or_none c n) (err_as {F = ℕ × DeckCause} (λ e. (n, e)) (ok_or o BadLine >>= λ w. ok_as Some (statement_of c n w ts)))
between_word c n None ts = refl
between_word c n (Some w) ts = by_stated (statement_of c n w ts)
  where
    by_stated : (r : Result Stated DeckCause) → err_as {F = ℕ × DeckCause} (λ e. (n, e)) (ok_as (turn_of n) r) ≡ ok_as (turn_or_none c n) (err_as {F = ℕ × DeckCause} (λ e. (n, e)) (ok_as Some r))
    by_stated (Ok s) = refl
    by_stated (Err e) = refl

between_by : (b : Bool) (c : Context) (n : ℕ) (o : Option Word) (ts : List (List ℕ)) → cond b (Ok (record { lines = []; mode = Between c })) (err_as {F = ℕ × DeckCause} (λ e. (n, e)) (ok_or o BadLine >>= λ w. ok_as (turn_of n) (statement_of c n w ts)))
    ≡ ok_as (turn_or_none c n) (cond b (Ok None) (err_as {F = ℕ × DeckCause} (λ e. (n, e)) (ok_or o BadLine >>= λ w. ok_as Some (statement_of c n w ts))))
between_by true c n o ts = refl
between_by false c n o ts = between_word c n o ts

between_stated : (c : Context) (n : ℕ) (ts : List (List ℕ)) → between c n ts ≡ ok_as (turn_or_none c n) (line_stated c n ts)
between_stated c n [] = refl
between_stated c n (a ∷ ts) = between_by (begins 35 a) c n (lookup deck_words a) ts

pub between_skipped : (c : Context) (n : ℕ) (ts : List (List ℕ)) → line_stated c n ts ≡ Ok None → between c n ts ≡ Ok (record { lines = []; mode = Between c })
between_skipped c n ts h = between_stated c n ts ∙ ap (ok_as (turn_or_none c n)) h

pub between_says : (c : Context) (n : ℕ) (ts : List (List ℕ)) (s : Stated) → line_stated c n ts ≡ Ok (Some s) → between c n ts ≡ Ok (turn_of n s)
between_says c n ts s h = between_stated c n ts ∙ ap (ok_as (turn_or_none c n)) h

pub between_refused : (c : Context) (n : ℕ) (ts : List (List ℕ)) (e : ℕ × DeckCause) → line_stated c n ts ≡ Err e → between c n ts ≡ Err e
between_refused c n ts e h = between_stated c n ts ∙ ap (ok_as (turn_or_none c n)) h

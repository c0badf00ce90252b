-- The meaning of the status with which a session ended, if it had no deck or its input ended inside a frame.
use Rattle.std.proofs.Common.{◌≡◌, ◌≢◌, ℕ, List, Result, Ok, Err, refl, sym, subst, inl, inr}
use Rattle.mc_deck.specs.model_play.specs.DeckGrammar.{DeckLine}
use Rattle.mc_streams.specs.declared.refusals.WriteFault.{WriteFault as Fault}
use Rattle.mc_reader.specs.declared.serve_error.ServeError.{ServeError}
use Rattle.mc_reader.specs.declared.serve_error.ServeError.TheVariants as serve
use Rattle.mc_text.specs.Texts.{Sunk, Puts}
use Rattle.mc_filter.specs.Statuses.{status_after_writing}
use Rattle.mc_filter.specs.Statuses as filter
use Rattle.mc_filter.specs.declared.rejection.Rejection.{Rejection}
use Rattle.mc_filter.specs.declared.rejection.Rejection.TheVariants as rejection
use Rattle.mc_filter.specs.declared.status.Status.{Status}
use Rattle.mc_filter.specs.declared.status.Status.TheVariants.{Failed}
use Rattle.mc_reader.specs.Sessions.{IsUntouched, Served}
use Rattle.melreader.specs.Decks.{HasDeck, IsDeck}
use Rattle.melreader.specs.Sessions.{short_frame, ReaderEnds, ReaderOutside, MelreaderSays, SaysRefused, SaysServed}

-- the input ended inside a frame
pub ends_short : (a b : Sunk) (r : Result (Unit {0}) Fault) (s : Status) (e : ServeError) (n : ℕ) → s ≡ status_after_writing Failed r → e ≡ serve.Short n
    → Puts a (short_frame n) r b → ReaderEnds (Err e) s a b
ends_short a b r s e n by is put = subst (λ (e : ServeError). ReaderEnds (Err e) s a b) (sym is) (record { result = r; status = by; written = put })

-- the refusal of a deck is the meaning of the status with which the writing of its line ended
says_refused : (Kept : Type 0) (o : ReaderOutside) (r : Result (Unit {0}) Fault) (s : Status) → s ≡ status_after_writing Failed r → SaysRefused Kept s o → MelreaderSays Kept s o
says_refused Kept o (Ok u) s e d = subst (λ s. MelreaderSays Kept s o) (sym e) (inl (subst (λ s. SaysRefused Kept s o) e d))
says_refused Kept o (Err f) s e d = subst (λ s. MelreaderSays Kept s o) (sym e) (inl (subst (λ s. SaysRefused Kept s o) e d))

-- a session without a deck
pub says_rejected : (Kept : Type 0) (o : ReaderOutside) (e : Rejection) (s : Status) → Kept → HasDeck o.deck_old o.deck (Err e)
    → filter.RejectionEnds e o.err_old s o.err → MelreaderSays Kept s o
says_rejected Kept o (rejection.Refusal line) s kept has ends =
    says_refused Kept o ends.result s ends.status (record { line = line.items; deck = has; refused = ends; kept = kept })
says_rejected Kept o rejection.ReadFault s kept has ends = subst (λ s. MelreaderSays Kept s o) (sym ends.0) (inl (record { cause = has; err = ends.1; kept = kept }))
says_rejected Kept o rejection.NoMemory s kept has ends = subst (λ s. MelreaderSays Kept s o) (sym ends.0) (inl (record { cause = has; err = ends.1; kept = kept }))

-- a session that ended inside a frame is the meaning of the status with which the writing of its line ended
served_short : (Kept : Type 0) (o : ReaderOutside) (r : Result (Unit {0}) Fault) (s : Status) → s ≡ status_after_writing Failed r → SaysServed s o → MelreaderSays Kept s o
served_short Kept o (Ok u) s e d = subst (λ s. MelreaderSays Kept s o) (sym e) (inr (subst (λ s. SaysServed s o) e d))
served_short Kept o (Err f) s e d = subst (λ s. MelreaderSays Kept s o) (sym e) (inr (subst (λ s. SaysServed s o) e d))

-- a session with a deck
pub says_served : (Kept : Type 0) (o : ReaderOutside) (lines : List (ℕ × DeckLine)) (result : Result (Unit {0}) ServeError) (s : Status) → IsDeck o.deck_old o.deck (Ok lines)
    → (result ≡ Err serve.NoMemory → IsUntouched o.session) → (result ≢ Err serve.NoMemory → Served lines result o.session) → ReaderEnds result s o.err_old o.err → MelreaderSays Kept s o
says_served Kept o lines (Ok u) s deck short served ends =
    subst (λ s. MelreaderSays Kept s o) (sym ends.0) (record { lines = lines; deck = deck; result = Ok u; serves = served (λ e. cc e); ends = (refl, ends.1) })
says_served Kept o lines (Err (serve.Short n)) s deck short served ends =
    served_short Kept o ends.result s ends.status (record { lines = lines; deck = deck; result = Err (serve.Short n); serves = served (λ e. cc e); ends = ends })
says_served Kept o lines (Err serve.ReadFault) s deck short served ends =
    subst (λ s. MelreaderSays Kept s o) (sym ends.0) (inr (record { lines = lines; deck = deck; result = Err serve.ReadFault; serves = served (λ e. cc e); ends = (refl, ends.1) }))
says_served Kept o lines (Err serve.WriteFault) s deck short served ends =
    subst (λ s. MelreaderSays Kept s o) (sym ends.0) (inr (record { lines = lines; deck = deck; result = Err serve.WriteFault; serves = served (λ e. cc e); ends = (refl, ends.1) }))
says_served Kept o lines (Err serve.NoMemory) s deck short served ends =
    subst (λ s. MelreaderSays Kept s o) (sym ends.0) (inr (record { lines = lines; deck = deck; result = Err serve.NoMemory; serves = short refl; ends = (refl, ends.1) }))

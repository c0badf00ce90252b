-- A draft whose deck is read, and its listing.
use Rattle.std.proofs.Common.{◌≡◌, ℕ, List, Result, Ok, ap, ◌∙◌}
use Rattle.mc_text.specs.model_text.specs.Text.{◌>>=◌, ok_as}
use Rattle.mc_deck.specs.model_play.specs.DeckGrammar.{DeckLine, deck_read}
use Rattle.mc_deck.specs.model_play.specs.declared.deck.DeckCause.{DeckCause}
use Rattle.mc_deck.specs.declared.refusal.DeckRefusal.{DeckRefusal}
use Rattle.mc_deck.specs.declared.refusal.DeckRefusal.TheVariants as refusal
use Rattle.mc_deck.specs.Refused.{DeckRefuses}
use Rattle.desk_draft.specs.Drafts.{Draft, draft_read}
use Rattle.desk_draft.specs.Listings.{Desk, desk_read, draft_listing, listing_of, sources_of}

-- a draft and its deck
abbrev desk_of : Draft → Result Desk (ℕ × DeckCause)
desk_of d = deck_read d.deck >>= λ ls. Ok (record { deck = d.deck; sources = sources_of d; lines = ls })

pub desk_made : (t : List ℕ) (d : Draft) (ls : List (ℕ × DeckLine)) → draft_read t ≡ Ok d → deck_read d.deck ≡ Ok ls → desk_read t ≡ Ok (record { deck = d.deck; sources = sources_of d; lines = ls })
unfolding desk_read
desk_made t d ls h k = ap (λ r. r >>= desk_of) h ∙ ap (λ r. r >>= λ ls. Ok (record { deck = d.deck; sources = sources_of d; lines = ls })) k

-- a refusal of the draft
pub desk_refused : (t : List ℕ) (e : DeckRefusal) → DeckRefuses (draft_read t) e → DeckRefuses (desk_read t) e
unfolding desk_read
desk_refused t (refusal.At n c) h = ap (λ r. r >>= desk_of) h
desk_refused t refusal.NoMemory h = tt

-- a refusal of its deck
pub deck_refused : (t : List ℕ) (d : Draft) (e : DeckRefusal) → draft_read t ≡ Ok d → DeckRefuses (deck_read d.deck) e → DeckRefuses (desk_read t) e
unfolding desk_read
deck_refused t d (refusal.At n c) h k = ap (λ r. r >>= desk_of) h ∙ ap (λ r. r >>= λ ls. Ok (record { deck = d.deck; sources = sources_of d; lines = ls })) k
deck_refused t d refusal.NoMemory h k = tt

-- the listing
pub listing_made : (t : List ℕ) (d : Desk) → desk_read t ≡ Ok d → draft_listing t ≡ Ok (listing_of d.sources)
unfolding draft_listing
listing_made t d h = ap (ok_as (λ d. listing_of d.sources)) h

pub listing_refused : (t : List ℕ) (e : DeckRefusal) → DeckRefuses (desk_read t) e → DeckRefuses (draft_listing t) e
unfolding draft_listing
listing_refused t (refusal.At n c) h = ap (ok_as (λ (d : Desk). listing_of d.sources)) h
listing_refused t refusal.NoMemory h = tt

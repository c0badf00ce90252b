-- A word inside a hole, after its header, may hold anything: the card stays, done or stopped.
use Rattle.std.proofs.Common.{◌≡◌, ◌≢◌, ℕ, ◌+◌, ◌<◌, ◌≤◌, Bool, true, false, not, List, [], ◌∷◌, length, None, Ok, Err, sym, ◌∙◌, ap, subst, inl, inr, arith}
use Rattle.std.specs.Prelude.{bytes_eq, slice_set}
use Rattle.std.proofs.lemmas.List.{get_or-set_other, length-set}
use Rattle.mc_words.specs.model_device.specs.declared.device.Stop.TheVariants.{Off, Worn}
use Rattle.mc_words.specs.model_device.specs.Orders.{Answer}
use Rattle.mc_words.specs.model_device.specs.Device.{DeviceState, IsSized, Wrote, WriteDone, WriteCut, WriteFailure, Makes, Ended}
use Rattle.mc_words.specs.model_device.specs.Image.{One, Two, opening, look, Closed}
use Rattle.mc_words.specs.model_device.specs.Card.{Block, word, blocks, card_of}
use Rattle.mc_words.specs.model_device.specs.Layout.{gaps, words_fault}
use Rattle.mc_blocks.specs.Blocks.{WordsAgree, hole_spans}
use Rattle.mc_blocks.specs.Plans.{has_room}
use Rattle.mc_blocks.proofs.Tiles.{Tiled}
use Rattle.mc_blocks.proofs.Bridge.{WellLaid, laid}
use Rattle.mc_blocks.proofs.Taking.{RoomAt, room_at, room_from}
use Rattle.mc_blocks.proofs.Search.{holes_above}
use Rattle.mc_blocks.proofs.Built.{SameCard, same_card}
use Rattle.mc_store.specs.AlikeLaws.{Gates, gates, shut_look}

-- two images with equal words but for one
pub record Besides (at : ℕ) (n m : List (List ℕ)) : Type 0 where
  pub size : length n ≡ length m
  pub words : (i : ℕ) → i ≢ at → word n i ≡ word m i

pub besides_set : (m : List (List ℕ)) (at : ℕ) (w : List ℕ) → Besides at (slice_set m at w) m
besides_set m at w = record { size = length-set m at w; words = λ i ne. get_or-set_other m at i w [] ne }

-- a word before all these blocks, or after the header of a hole among them, is none of theirs
agree_past : (m n : List (List ℕ)) (at q : ℕ) (a : Bool) (bs : List Block) (end : ℕ) → Besides at n m → at < q → Tiled q a bs end → WordsAgree m n bs
agree_past m n at q a [] end s lt t = tt
agree_past m n at q a (b ∷ bs) end s lt t =
    let place : b.place ≡ q = t.0 in
    let long : 1 ≤ b.words = t.1 in (
      s.words b.place (λ e. absurd (omega (arith, e, place))),
      (λ used i low below. s.words i (λ e. absurd (omega (arith, e, place)))),
      agree_past m n at (q + b.words) (not b.used) bs end s (omega arith) t.3,
    )

agree_in : (m n : List (List ℕ)) (p need at q : ℕ) (a : Bool) (bs : List Block) (end : ℕ) → Besides at n m → Tiled q a bs end → has_room p need (hole_spans bs) ≡ true → p < at → at < p + need → WordsAgree m n bs
unfolding RoomAt
agree_in m n p need at q a [] end s t room low high = absurd (cc room)
agree_in m n p need at q a (b ∷ bs) end s t room low high =
    let place : b.place ≡ q = t.0 in
    let long : 1 ≤ b.words = t.1 in
    elim (room_at p need q a b bs end t room) [
      | inl here ↦
          let at-place : b.place ≡ p = here.1 in
          let fits : need ≤ b.words = here.2 in (
            s.words b.place (λ e. absurd (omega (arith, e, at-place))),
            (λ used i from below. absurd (cc (sym used ∙ here.0))),
            agree_past m n at (q + b.words) (not b.used) bs end s (omega (arith, place, at-place)) t.3,
          )
      | inr later ↦
          let before : b.place < p = later.2 in
          let rest : WordsAgree m n bs = agree_in m n p need at (q + b.words) (not b.used) bs end s t.3 later.1 low high in
          let far : q + b.words ≤ p = room_behind p need (q + b.words) (not b.used) bs end t.3 later.1 in
          (s.words b.place (λ e. absurd (omega (arith, e))), (λ used i from below. s.words i (λ e. absurd (omega (arith, e, place)))), rest)
    ]
  where
    room_behind : (p need q : ℕ) (a : Bool) (bs : List Block) (end : ℕ) → Tiled q a bs end → has_room p need (hole_spans bs) ≡ true → q ≤ p
    room_behind p need q a bs end t room = room_from q p need (hole_spans bs) (holes_above q a bs end t) room

-- ---- the card stays

-- other words of one card, without a fault
pub record KeepsCard (m n : List (List ℕ)) : Type 0 where
  pub size : length n ≡ length m
  pub closed : look n ≡ Closed
  pub good : words_fault n ≡ None
  pub blocks : blocks n ≡ blocks m
  pub card : card_of n ≡ card_of m

room_low : (m : List (List ℕ)) (p need : ℕ) → WellLaid m → has_room p need (hole_spans (blocks m)) ≡ true → 131 ≤ p
room_low m p need l room = room_from 131 p need (hole_spans (blocks m)) (holes_above 131 false (blocks m) (length m) l.tiled) room

-- the card stays, whatever a word of a hole after its header holds
pub keeps_gap : (m n : List (List ℕ)) (p need at : ℕ) → IsSized m → look m ≡ Closed → words_fault m ≡ None → has_room p need (gaps (card_of m)) ≡ true → p < at → at < p + need → Besides at n m → KeepsCard m n
keeps_gap m n p need at image closed good room low high s =
    let l : WellLaid m = laid m image good in
    let there : has_room p need (hole_spans (blocks m)) ≡ true = subst (λ (x : List (ℕ × ℕ)). has_room p need x ≡ true) l.gaps room in
    let heap : 131 ≤ p = room_low m p need l there in
    let same : SameCard m n = same_card m n image good s.size (s.words 0 (λ e. absurd (omega (arith, e)))) (agree_in m n p need at 131 false (blocks m) (length m) s l.tiled there low high) in
    let g : Gates m = gates m closed in
    record {
      size = s.size;
      closed = shut_look n (ap (λ (w : List ℕ). bytes_eq w (opening Two)) (s.words 130 (λ e. absurd (omega (arith, e)))) ∙ g.two) (ap (λ (w : List ℕ). bytes_eq w (opening One)) (s.words 1 (λ e. absurd (omega (arith, e)))) ∙ g.one);
      good = same.good;
      blocks = same.blocks;
      card = same.card;
    }

-- ---- one write of it

-- one write, however it ended: no other word changed, and if it was done its own is the word that was written
pub record OneWrite (d : DeviceState) (at : ℕ) (w : List ℕ) (a : Answer) (e : DeviceState) : Type 0 where
  pub besides : Besides at e.words d.words
  pub ended : Ended a d e

pub one_write : (d : DeviceState) (at : ℕ) (w : List ℕ) (a : Answer) (e : DeviceState) → Wrote d at w a e → OneWrite d at w a e
one_write d at w (Ok u) e h =
    let done : WriteDone d at w e = h in
    record { besides = subst (λ (t : List (List ℕ)). Besides at t d.words) (sym done.words) (besides_set d.words at w); ended = (done.power, done.cuts, done.faults) }
one_write d at w (Err Off) e h =
    let cut : WriteCut d at e = h in
    record { besides = subst (λ (t : List (List ℕ)). Besides at t d.words) (sym cut.words) (besides_set d.words at cut.left); ended = (cut.power, cut.cuts, cut.falls_not, cut.faults) }
one_write d at w (Err Worn) e h =
    let worn : WriteFailure d at e = h in
    record { besides = subst (λ (t : List (List ℕ)). Besides at t d.words) (sym worn.words) (besides_set d.words at worn.left); ended = (worn.power, worn.faults, worn.falls_not, worn.cuts) }

-- a list of one write is that write
pub just_one : {D : Type 0} (wrote : D → ℕ → List ℕ → Answer → D → Type 0) (d e : D) (at : ℕ) (w : List ℕ) (a : Answer) → Makes wrote d ((at, w) ∷ []) a e → wrote d at w a e
just_one {D} wrote d e at w (Ok u) made =
    elim made [
      | inl done ↦ subst (λ (x : D). wrote d at w (Ok tt) x) (sym done.2) done.1
      | inr stop ↦ absurd (cc stop.2)
    ]
just_one {D} wrote d e at w (Err s) made =
    elim made [
      | inl done ↦ absurd done.2
      | inr stop ↦ subst (λ (t : Answer). wrote d at w t e) (sym stop.2) stop.1
    ]

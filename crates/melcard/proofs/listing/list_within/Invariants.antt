use Rattle.std.proofs.Common.{◌≡◌, ◌*◌, ◌-◌, ◌≤◌, ◌++◌, length, vec_len, vec_capacity}
use Rattle.mc_text.specs.model_text.specs.Text.{ok_as}
use Rattle.mc_text.specs.model_text.specs.Listing.{listing_of_code}
use Rattle.mc_asm.proofs.ListingLemmas.{left_listed}
use Rattle.melcard.proofs.listing.list_within.Given as goal

-- the text so far, followed by the lines of the bytes that are left, is the listing of the whole, and there is room for
-- a line for each byte that is left
abbrev pub invariant-loop-place : goal.invariant-loop-place
invariant-loop-place l = record {
  leads : ok_as (λ rest. l.text.items ++ rest) (left_listed l.code l.place) ≡ listing_of_code l.fn.code;
  len : vec_len l.text ≤ 41 * l.place;
  room : vec_capacity l.fn.text ≤ vec_capacity l.text;
}

abbrev pub decreases-loop-place : goal.decreases-loop-place
decreases-loop-place l = length l.code - l.place

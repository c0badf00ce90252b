use Rattle.std.proofs.Common.{◌≡◌, ◌-◌, ◌++◌, length}
use Rattle.model_text.specs.Text.{ok_as}
use Rattle.model_text.specs.Listing.{listing_of_code}
use Rattle.mc_asm.proofs.ListingLemmas.{left_listed}
use Rattle.mc_asm.proofs.listing.listing_of.Given as goal

-- the text so far, followed by the lines of the bytes that are left, is the listing of the whole
abbrev pub invariant-loop-place : goal.invariant-loop-place
invariant-loop-place l = ok_as (λ rest. l.text.items ++ rest) (left_listed l.code l.place) ≡ listing_of_code l.fn.code

abbrev pub decreases-loop-place : goal.decreases-loop-place
decreases-loop-place l = length l.code - l.place

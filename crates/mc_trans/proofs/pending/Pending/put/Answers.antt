-- Words that ascend still ascend after a put.
use Rattle.mc_trans.proofs.Words.{there_pending, between_pending}
use Rattle.mc_trans.proofs.pending.Pending.put.Goals as goal

pub invariant_of-self : goal.invariant_of-self
invariant_of-self c =
    let inside = c.self.inside.words.items in
    rw c.replace.ensures.items (there_pending c.args.at c.args.word inside c.place_of-place.result c.self.invariant c.replace.ensures.whole (rw c.as_slice.ensures.value at c.place_of-place.ensures.value) (rw c.as_slice-2.ensures.value at (c.is_at.ensures.found c.if-is_at.true).0) (rw c.as_slice-2.ensures.value at (c.is_at.ensures.found c.if-is_at.true).1))

pub invariant_of-self-2 : goal.invariant_of-self-2
invariant_of-self-2 c =
    let inside = c.self.inside.words.items in
    rw c.add.ensures.items (between_pending c.args.at c.args.word inside c.place_of-place.result c.self.invariant c.add.ensures.whole (rw c.as_slice.ensures.value at c.place_of-place.ensures.value) (rw c.as_slice-2.ensures.value at c.is_at.ensures.other c.if-is_at.false))

use Rattle.std.proofs.Common.{◌≡◌, sym, ◌∙◌, ap, take, drop, ◌+◌, ◌-◌, length, length-take, arith, subst, List, ℕ}
use Rattle.mc_streams.proofs.StreamsLemmas.{took_copied}
use Rattle.mc_streams.proofs.memory.MemSourceSource.take.Goals as goal

pub returns-clause-bytes : goal.returns-clause-bytes
returns-clause-bytes c =
    let items = c.self.inside.bytes.items in
    let copied = c.copy_from_slice.new.self in
    let n = c.min-count.result in
    let at = c.self.inside.at in
    let width : at + n - at ≡ n = omega arith in
    let is : copied ≡ take (at + n - at) (drop at c.deref.result.now) = c.copy_from_slice.ensures.after in
    let plain : copied ≡ take n (drop at items) = rw (c.deref.ensures.value, width) at is in
    let size : length copied ≡ n = omega (arith, simp length-take at c.copy_from_slice.ensures.len, c.min-count.ensures, c.len.ensures) in
    sym (ap (λ v. v.bytes) c.self.view_is) ∙ took_copied items c.args.into.now copied at n plain size

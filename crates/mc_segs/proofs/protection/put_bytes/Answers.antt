use Rattle.std.proofs.Common.{◌≡◌, ◌+◌, ◌-◌, ◌*◌, ◌/◌, length, take, drop, inl, inr, arith}
use Rattle.std.proofs.lemmas.Bool.{cases_lt}
use Rattle.std.proofs.lemmas.List.{length-take, length-drop}
use Rattle.mc_words.specs.model_device.specs.Pieces.{not_pending}
use Rattle.mc_bank.specs.Bank.{app_of}
use Rattle.mc_segs.specs.Puts.{words_under}
use Rattle.mc_segs.proofs.PutLemmas.{puts_next, next_bytes, count_next}
use Rattle.mc_segs.proofs.protection.put_bytes.Goals as goal

pub loop-number-preserved : goal.loop-number-preserved
loop-number-preserved g c =
    let l = (app_of (g.B.Bank.state c.args.bank.now).apps (g.B.Bank.named c.args.bank.now c.args.slot)).fixed in
    let n = c.loop-number.number in
    let at = c.args.at in
    let from = c.args.from.now in
    let low = c.max-low.result in
    let high = c.min-high.result in
    let piece = take (high - at - (low - at)) (drop (low - at) from) in
    let a = take (8 * n - at) from in
    let last = (at + length from - 1) / 8 + 1 in
    let most = c.max-low.ensures in
    let least = c.min-high.ensures in
    let test = c.loop-number-test.true in
    let first = c.loop-number.auto.number in
    let some_bytes = c.requires.low in
    let range = c.requires.range in
    let len = c.requires.len in
    let done = c.loop-number.invariant.puts in
    let piece_len : length piece ≡ high - low = omega (arith, length-take (high - at - (low - at)) (drop (low - at) from), length-drop (low - at) from) in
    let a_len : length a ≡ 8 * n - at = omega (arith, length-take (8 * n - at) from) in
    let count = count_next l c.loop-number.words c.put_piece.new.words n (low - 8 * n) last (length c.args.words.now + not_pending (at / 8) (words_under at (length from)) c.args.words.now) piece done.pending.pending c.put_piece.ensures (omega arith) c.loop-number.invariant.count in
    let room = c.requires.room in
    record {
      puts = puts_next l c.args.words.now c.loop-number.words c.put_piece.new.words at n (low - 8 * n) a piece (take (8 * (n + 1) - at) from) done c.put_piece.ensures
          (omega arith) (omega arith) (omega arith) (omega arith) (omega (arith, count))
          (next_bytes from at n low high (omega arith) (omega arith) (omega arith) (elim (cases_lt (8 * n + 8) (at + length from)) [ inl lt ↦ inl (omega arith) | inr le ↦ inr (omega arith, omega arith) ]) (omega arith));
      count = count;
    }

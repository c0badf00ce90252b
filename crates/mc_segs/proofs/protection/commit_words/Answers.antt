use Rattle.std.proofs.Common.{ℕ, ◌+◌, ◌/◌, ◌≤◌, List, length, sym, ap, subst}
use Rattle.mc_words.specs.model_device.specs.Pieces.{not_pending}
use Rattle.mc_segs.specs.HeldFrames.{Held}
use Rattle.mc_segs.specs.Puts.{words_under}
use Rattle.mc_segs.proofs.StoreLemmas.{few_words, done_at_once, items_at_once}
use Rattle.mc_segs.proofs.protection.commit_words.Goals as goal

pub put_bytes-requires-clause-room : goal.put_bytes-requires-clause-room
put_bytes-requires-clause-room g c =
    subst (λ (ws : List (ℕ × List ℕ)). length ws + not_pending (c.args.at / 8) (words_under c.args.at (length c.args.from.now)) ws ≤ 64) (sym c.new-words.ensures)
    (few_words c.args.at (length c.args.from.now) c.requires.low c.requires.high)

pub returns-clause-items : goal.returns-clause-items
returns-clause-items g c =
    items_at_once g.B.Bank c.args.bank.now c.commit.new.self c.args.frame.now c.frame.inside.slot c.args.at c.args.from.now c.new-words.result c.put_bytes.new.words c.list.result.now c.commit.result
    (ap (λ (h : Held). h.slot) c.frame.view_is) c.new-words.ensures c.list.ensures.words c.put_bytes.ensures c.commit.ensures.items

pub returns-clause-done : goal.returns-clause-done
returns-clause-done g c =
    done_at_once g.B.Bank c.args.bank.now c.commit.new.self c.args.frame.now c.frame.inside.slot c.args.at c.args.from.now c.new-words.result c.put_bytes.new.words c.list.result.now c.commit.result
    (ap (λ (h : Held). h.slot) c.frame.view_is) c.new-words.ensures c.list.ensures.words c.requires.runs.fits c.requires.low c.requires.range c.put_bytes.ensures c.commit.ensures.items c.commit.ensures.apps c.commit.ensures.slots

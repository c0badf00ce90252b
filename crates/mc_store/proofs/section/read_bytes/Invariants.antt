use Rattle.std.proofs.Common.{◌-◌, ◌≡◌, ◌+◌, ◌*◌, ◌<◌, ◌≤◌, length, take, drop}
use Rattle.mc_store.specs.Slots.{flat}
use Rattle.mc_store.proofs.section.read_bytes.Given as goal

-- the bytes up to here are copied, and the next one is at `skip` in word `place`
abbrev pub invariant-loop-done : goal.invariant-loop-done
invariant-loop-done g l =
    let m = (g.N.Nvm.state l.device).words in
    record {
      size : length l.into ≡ length l.fn.into;
      high : l.done ≤ length l.into;
      bytes : take l.done l.into ≡ take l.done (drop (8 * l.from + l.at) (flat m));
      here : l.done < length l.into → 8 * l.place + l.skip ≡ 8 * l.from + l.at + l.done;
      skip : l.skip < 8;
    }

abbrev pub decreases-loop-done : goal.decreases-loop-done
decreases-loop-done g l = length l.into - l.done

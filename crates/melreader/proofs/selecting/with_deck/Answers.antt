use Rattle.std.proofs.Common.{inl, inr, refl}
use Rattle.mc_filter.specs.declared.status.Status.TheVariants.{NoMemory}
use Rattle.melreader.proofs.selecting.with_deck.Goals as goal

pub returns-in-Ok : goal.returns-in-Ok
returns-in-Ok g c =
    let h = c.melreader.ensures.says in
    (h.0, h.1, inl (record { dev_old = c.in-Ok.device; dev = c.melreader.new.dev; blank = c.in-Ok.ensures; says = h.2 }))

pub returns-in-Err : goal.returns-in-Err
returns-in-Err g c = (NoMemory, c.number.ensures, inr (record { is = refl; still = record { input = refl; out = refl; err = refl } }))

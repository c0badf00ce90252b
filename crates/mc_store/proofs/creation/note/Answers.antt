use Rattle.std.proofs.Common.{inl, inr, refl}
use Rattle.std.proofs.lemmas.Result.{err_from_is_err_and}
use Rattle.mc_store.specs.StoreItems.{store_did, one_item}
use Rattle.mc_store.proofs.creation.note.Goals as goal

pub returns-in_err-put_note-2-clause-items : goal.returns-in_err-put_note-2-clause-items
returns-in_err-put_note-2-clause-items g c =
    let p = err_from_is_err_and c.from_residual-in_err-put_note-2.result c.from_residual-in_err-put_note-2.ensures.1 in
    rw (p.1, p.2) (inl (c.put_note.new.store, c.in_ok-put_note.ensures.did, inr (c.in_err-put_note-2.field-0.0, c.in_err-put_note-2.ensures.did, refl)))

pub returns-in_err-put_note-3-clause-items : goal.returns-in_err-put_note-3-clause-items
returns-in_err-put_note-3-clause-items g c =
    let p = err_from_is_err_and c.from_residual-in_err-put_note-3.result c.from_residual-in_err-put_note-3.ensures.1 in
    rw (p.1, p.2) (inl (c.put_note.new.store, c.in_ok-put_note.ensures.did, inl (c.put_note-2.new.store, c.in_ok-put_note-2.ensures.did, inr (c.in_err-put_note-3.field-0.0, c.in_err-put_note-3.ensures.did, refl))))

pub returns-clause-items : goal.returns-clause-items
returns-clause-items g c =
    inl (c.put_note.new.store, c.in_ok-put_note.ensures.did, inl (c.put_note-2.new.store, c.in_ok-put_note-2.ensures.did, inl (c.put_note-3.new.store, c.in_ok-put_note-3.ensures.did, one_item (store_did g.N.Nvm.state g.N.Nvm.wrote) c.put_note-3.new.store c.put_note-4.new.store _ c.put_note-4.result c.put_note-4.ensures.did)))

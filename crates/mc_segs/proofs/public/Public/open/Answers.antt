use Rattle.std.proofs.Common.{◌≡◌, ℕ, List, length, ap, subst, ◌++◌, ◌∙◌}
use Rattle.mc_words.specs.model_device.specs.Bytes.{bytes2, splice}
use Rattle.mc_segs.proofs.PublicLemmas.{new_public_is}
use Rattle.mc_segs.proofs.public.Public.open.Goals as goal

pub returns : goal.returns
returns c =
    let apdu = c.args.apdu.now in
    new_public_is c.write.new.into c.write-2.new.into c.write-3.new.into c.write-4.new.into apdu.body.now c.words.result c.bytes_of.result apdu.cla apdu.ins apdu.p1 apdu.p2 apdu.p3
    (length apdu.body.now) _ c.requires.data (subst (λ (x : List ℕ). c.write.new.into ≡ splice x 0 apdu.body.now) (c.self.view_is ∙ c.requires.blank) c.write.ensures) c.write-2.ensures c.write-3.ensures
    (c.words.ensures ∙ ap (λ (n : ℕ). bytes2 (length apdu.body.now) ++ bytes2 n) c.unwrap_or.ensures) c.write-4.ensures c.bytes_of.ensures

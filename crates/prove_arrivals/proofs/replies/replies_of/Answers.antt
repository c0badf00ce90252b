use Rattle.std.proofs.Common.{sym, ap, ◌∙◌}
use Rattle.prove_facts.specs.model_prove.specs.Facts.{Facts, values_at}
use Rattle.prove_arrivals.specs.Subjects.{known_in}
use Rattle.prove_arrivals.proofs.replies.replies_of.Goals as goal

pub returns : goal.returns
returns c names s o =
    c.replies.ensures s (known_in c.args.spot.now) o.prepared (record {
      la_high = sym (c.at-la_high.ensures ∙ ap (λ (f : Facts). values_at f 50189) c.bytes-bytes.ensures);
      la_low = sym (c.at-la_low.ensures ∙ ap (λ (f : Facts). values_at f 50190) c.bytes-bytes.ensures);
      sw_high = sym (c.at-sw_high.ensures ∙ ap (λ (f : Facts). values_at f 50191) c.bytes-bytes.ensures);
      sw_low = sym (c.at-sw_low.ensures ∙ ap (λ (f : Facts). values_at f 50192) c.bytes-bytes.ensures);
    })

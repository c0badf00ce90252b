use Rattle.std.proofs.lemmas.Bool.{leb-true}
use Rattle.std.proofs.Common.{length}
use Rattle.model_device.proofs.ListLemmas.{all_bytes}
use Rattle.model_device.specs.Bytes.{num}
use Rattle.prove_sums.proofs.NumberLemmas.{low_whole, number_exact, number_written}
use Rattle.prove_sums.proofs.numbers.number_form.Goals as goal

pub returns : goal.returns
returns c =
    let b = c.args.bytes.now in
    record {
      value = number_written c.low_number.result (num b) c.new.result.items c.low_number.ensures c.new.ensures.items;
      exact = λ h. number_exact c.low_number.result (num b) c.new.result.items
          (low_whole b c.low_number.result (all_bytes b c.type_inv.bytes) (leb-true (length b) 16 h) c.low_number.ensures) c.new.ensures.items;
    }

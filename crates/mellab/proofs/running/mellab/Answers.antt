use Rattle.mellab.specs.Jobs.{request_of}
use Rattle.mc_filter.specs.Outside.{outside, Outside}
use Rattle.mellab.proofs.Completeness.{complete_at}
use Rattle.mellab.proofs.running.mellab.Goals as goal

pub returns : goal.returns
returns g c =
    let a : Outside = outside g.S.Source g.T.Sink c.args.input.now c.run_words.new.input c.args.out.now c.run_words.new.out in
    let s = c.run_words.result in
    record {
      says = (s, c.number.ensures, c.run_words.ensures);
      complete = λ t is. complete_at (request_of c.args.words.now) s t a c.number.result c.number.ensures is c.run_words.ensures;
    }

-- the lines that are left lead from here where all lead from the start
use Rattle.std.proofs.Common.{◌≡◌, drop}
use Rattle.lab_record.specs.Logs.{log_lines}
use Rattle.lab_record.specs.Recorders.{log_of, Stays}
use Rattle.lab_record.proofs.recorder.Recorder.add_lines.Given as goal

abbrev pub invariant-loop-i : goal.invariant-loop-i
invariant-loop-i l =
    let ons = l.fn.self.rules.now.ons.items in
    let public = l.fn.self.public.items in
    record {
      stays : Stays l.fn.self l.self;
      log : log_lines ons public (drop l.i-index l.lines) (log_of l.self) ≡ log_lines ons public l.fn.lines (log_of l.fn.self);
    }

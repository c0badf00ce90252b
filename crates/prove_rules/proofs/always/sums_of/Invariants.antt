use Rattle.std.proofs.Common.{◌≡◌, drop, map}
use Rattle.model_rule_text.specs.Reading.{are_sums}
use Rattle.lab_app_rules.specs.Rules.{allowance_of, name_of}
use Rattle.prove_rules.specs.Always.{term_of}
use Rattle.prove_rules.proofs.SumLemmas.{SumsLeft}
use Rattle.prove_rules.proofs.always.sums_of.Given as goal

-- the terms that are left are sums exactly if all are, and with theirs the sums so far are those of all
abbrev pub invariant-loop-signed : goal.invariant-loop-signed
invariant-loop-signed l = record {
  named : are_sums (map allowance_of l.fn.sums) (map term_of (drop l.signed-index l.names)) ≡ are_sums (map allowance_of l.fn.sums) (map term_of l.fn.names);
  left : SumsLeft (map name_of l.fn.sums) l.fn.names (drop l.signed-index l.names) l.list.items;
}

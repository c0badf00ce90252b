use Rattle.prove_rules.proofs.PublicLemmas.{place_minus, place_plus}
use Rattle.prove_rules.proofs.public.public_place.Goals as goal

pub returns-in-Some-decimal_number-clause-place : goal.returns-in-Some-decimal_number-clause-place
returns-in-Some-decimal_number-clause-place c =
    place_minus c.args.beginning c.args.offset.now c.in-Some.digits.now c.in-Some-decimal_number.number c.place_before.result c.in-Some.ensures.0 c.in-Some.ensures.1 c.in-Some-decimal_number.ensures c.place_before.ensures

pub returns-in_ok-assembly_number-in-None-clause-place : goal.returns-in_ok-assembly_number-in-None-clause-place
returns-in_ok-assembly_number-in-None-clause-place c =
    place_plus c.args.beginning c.args.offset.now c.in_ok-assembly_number-in-None.field-0 c.place_after.result c.in-None.ensures c.in_ok-assembly_number-in-None.ensures.number c.place_after.ensures

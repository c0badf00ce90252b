use Rattle.std.proofs.Common.{ap, arith}
use Rattle.lab_branch.specs.declared.application.Lengths.{Lengths}
use Rattle.lab_branch.proofs.Parts.{block_ends}
use Rattle.mc_store.proofs.RecordLemmas.{block_fits}
use Rattle.lab_branch.proofs.application.Application.read.Goals as goal

pub read_record-entry-requires : goal.read_record-entry-requires
read_record-entry-requires g c = block_fits (g.N.Nvm.state c.args.device.now).words c.args.place c.requires

pub read_section-requires : goal.read_section-requires
read_section-requires g c =
    let end = block_ends (g.N.Nvm.state c.args.device.now).words c.args.place c.read_record-entry.result c.requires c.read_record-entry.ensures in
    let code = ap (λ (s : Lengths). s.code) c.sizes_of-sizes.ensures in
    omega (arith, end, code)

pub read_section-requires-2 : goal.read_section-requires-2
read_section-requires-2 g c =
    let end = block_ends (g.N.Nvm.state c.args.device.now).words c.args.place c.read_record-entry.result c.requires c.read_record-entry.ensures in
    let code = ap (λ (s : Lengths). s.code) c.sizes_of-sizes.ensures in
    let fixed = ap (λ (s : Lengths). s.fixed) c.sizes_of-sizes.ensures in
    let one = c.words_of.ensures in
    omega (arith, end, code, fixed, one)

pub read_section-requires-3 : goal.read_section-requires-3
read_section-requires-3 g c =
    let end = block_ends (g.N.Nvm.state c.args.device.now).words c.args.place c.read_record-entry.result c.requires c.read_record-entry.ensures in
    let code = ap (λ (s : Lengths). s.code) c.sizes_of-sizes.ensures in
    let fixed = ap (λ (s : Lengths). s.fixed) c.sizes_of-sizes.ensures in
    let dir = ap (λ (s : Lengths). s.dir) c.sizes_of-sizes.ensures in
    let one = c.words_of.ensures in
    let two = c.words_of-2.ensures in
    omega (arith, end, code, fixed, dir, one, two)

pub read_section-requires-4 : goal.read_section-requires-4
read_section-requires-4 g c =
    let end = block_ends (g.N.Nvm.state c.args.device.now).words c.args.place c.read_record-entry.result c.requires c.read_record-entry.ensures in
    let code = ap (λ (s : Lengths). s.code) c.sizes_of-sizes.ensures in
    let fixed = ap (λ (s : Lengths). s.fixed) c.sizes_of-sizes.ensures in
    let dir = ap (λ (s : Lengths). s.dir) c.sizes_of-sizes.ensures in
    let fci = ap (λ (s : Lengths). s.fci) c.sizes_of-sizes.ensures in
    let one = c.words_of.ensures in
    let two = c.words_of-2.ensures in
    let three = c.words_of-3.ensures in
    omega (arith, end, code, fixed, dir, fci, one, two, three)

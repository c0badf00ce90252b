use Rattle.std.proofs.Common.{ℕ, Global, List, Vec, length, subst}
use Rattle.std.specs.Prelude.{IfOk, IfErr}
use Rattle.std.proofs.lemmas.Result.{IfOk-weaker, IfErr-weaker}
use Rattle.mc_check.specs.Table.{AreBases, IsFaultDue}
use Rattle.mc_check.specs.declared.calls.Call.{Call}
use Rattle.mc_check.specs.CallList.{AreBasesIn, IsRing}
use Rattle.mc_check.proofs.SearchFound.{are_bases, fault_of}
use Rattle.mc_check.proofs.bases.find_bases.Goals as goal

pub returns-clause-bases : goal.returns-clause-bases
returns-clause-bases c =
    let code = c.args.code.now in
    let l = c.in_ok-calls.calls.items in
    let found = subst (λ (k : List Call). IfOk c.bases_by.result (λ bases. AreBasesIn (length code) k bases.items)) c.as_slice.ensures.value c.bases_by.ensures.bases in
    IfOk-weaker c.bases_by.result (λ (v : Vec ℕ Global). AreBasesIn (length code) l v.items) (λ (v : Vec ℕ Global). AreBases code v.items) (λ v is. are_bases code l v.items c.in_ok-calls.ensures is) found

pub returns-clause-due : goal.returns-clause-due
returns-clause-due c =
    let code = c.args.code.now in
    let l = c.in_ok-calls.calls.items in
    let ring = subst (λ (k : List Call). IfErr c.bases_by.result (IsRing k)) c.as_slice.ensures.value c.bases_by.ensures.ring in
    IfErr-weaker c.bases_by.result (IsRing l) (IsFaultDue code) (λ fault is. fault_of code l fault c.in_ok-calls.ensures is) ring

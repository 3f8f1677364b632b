use Rattle.std.proofs.Common.{sym, subst}
use Rattle.pv_requests.specs.Faults.{Gives}
use Rattle.pv_requests.proofs.Reading.{request_of-fields}
use Rattle.pv_requests.proofs.AllowedRequests.{given-allowed}
use Rattle.pv_requests.proofs.FewNames.{given-few}
use Rattle.pv_requests.proofs.read.read_request.Goals as goal

pub returns-in-Ok-clause-gives : goal.returns-in-Ok-clause-gives
returns-in-Ok-clause-gives c =
    let is = request_of-fields c.args.facts.now c.args.place c.args.line.now c.in-Ok.fields c.in-Ok.ensures.ok.0 c.in-Ok.ensures.ok.1 in
    subst (Gives c.request_in.result) (sym is) c.request_in.ensures

pub returns-in-Ok-clause-few : goal.returns-in-Ok-clause-few
returns-in-Ok-clause-few c = given-few c.args.facts.now c.args.place c.in-Ok.fields c.request_in.result c.request_in.ensures

pub returns-in-Ok-clause-allowed : goal.returns-in-Ok-clause-allowed
returns-in-Ok-clause-allowed c = given-allowed c.args.facts.now c.args.place c.in-Ok.fields c.request_in.result c.request_in.ensures

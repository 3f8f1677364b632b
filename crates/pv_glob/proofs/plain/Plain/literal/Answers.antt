use Rattle.pv_glob.proofs.MatchingLaws.{literal_alone}
use Rattle.pv_glob.proofs.Alone.{literal_whole}
use Rattle.pv_glob.proofs.plain.Plain.literal.Goals as goal

pub returns-clause-alone : goal.returns-clause-alone
returns-clause-alone c = λ q.
    let is = literal_whole c.loop-name.plain c.names-name-items.result.now c.args.path.now c.loop-name.name-index c.loop-name.invariant c.names-name-items.ensures.value c.loop-name-test.false in
    rw is (literal_alone c.args.path.now q c.requires)

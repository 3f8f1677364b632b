use Rattle.pv_glob.proofs.OneName.{left_first, left_none, right_first, right_none}
use Rattle.pv_glob.proofs.meeting.first_name.Goals as goal

pub returns-in-Some-clause-none : goal.returns-in-Some-clause-none
returns-in-Some-clause-none c = left_none c.args.a.now c.args.b.now c.in-Some.bytes c.in_ok-bytes.field-0 c.in-Some.is c.name_by.result c.in_ok-bytes.ensures c.name_by.ensures

pub returns-in-Some-clause-first : goal.returns-in-Some-clause-first
returns-in-Some-clause-first c = left_first c.args.a.now c.args.b.now c.in-Some.bytes c.in_ok-bytes.field-0 c.in-Some.is c.name_by.result c.in_ok-bytes.ensures c.name_by.ensures

pub returns-in-Some-2-clause-none : goal.returns-in-Some-2-clause-none
returns-in-Some-2-clause-none c =
    right_none c.args.a.now c.args.b.now c.in-Some-2.bytes c.in_ok-bytes-in-None.field-0 c.in-Some-2.is c.name_by-in-Some-2.result c.in_ok-bytes-in-None.ensures c.name_by-in-Some-2.ensures

pub returns-in-Some-2-clause-first : goal.returns-in-Some-2-clause-first
returns-in-Some-2-clause-first c =
    right_first c.args.a.now c.args.b.now c.in-Some-2.bytes c.in_ok-bytes-in-None.field-0 c.in-Some-2.is c.name_by-in-Some-2.result c.in_ok-bytes-in-None.ensures c.name_by-in-Some-2.ensures

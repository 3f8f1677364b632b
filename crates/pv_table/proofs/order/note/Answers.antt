use Rattle.std.proofs.Common.{rules, is_some, inl, inr}
use Rattle.indexmap.specs.IndexMap.{get}
use Rattle.pv_path.specs.Paths.{same_path}
use Rattle.pv_table.specs.Building.{makes, first_index}
use Rattle.pv_table.proofs.FirstLaws.{noted, not_noted}
use Rattle.pv_table.proofs.order.note.Goals as goal

pub returns-then-is_none-clause-noted : goal.returns-then-is_none-clause-noted
returns-then-is_none-clause-noted c =
    not_noted (λ q. is_some (first_index (makes q) c.args.table.now)) (get same_path c.args.firsts.now) c.args.path c.args.place (inl (search rules))

pub returns-then-is_some-clause-noted : goal.returns-then-is_some-clause-noted
returns-then-is_some-clause-noted c =
    not_noted (λ q. is_some (first_index (makes q) c.args.table.now)) (get same_path c.args.firsts.now) c.args.path c.args.place (inr (search rules))

pub returns-clause-noted : goal.returns-clause-noted
returns-clause-noted c =
    noted (λ q. is_some (first_index (makes q) c.args.table.now)) (get same_path c.args.firsts.now) (get same_path c.insert.new.self) c.args.path c.args.place (search rules) (search rules) c.in_ok-insert.ensures.updates.0

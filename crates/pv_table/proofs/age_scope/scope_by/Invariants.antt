use Rattle.std.proofs.Common.{◌≡◌}
use Rattle.pv_table.specs.Scopes.{scope_of_first}
use Rattle.pv_table.proofs.age_scope.scope_by.Given as goal

abbrev pub invariant-loop-count : goal.invariant-loop-count
invariant-loop-count l = l.scope ≡ scope_of_first l.lines l.path l.count

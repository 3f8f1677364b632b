use Rattle.std.proofs.Common.{◌≡◌, ◌≤◌, ◌-◌, length}
use Rattle.std.specs.List.{AllByRecursion}
use Rattle.pv_text.specs.Fields.{fields_from, after_spans, IsChecked}
use Rattle.pv_text.proofs.splitting.leading.Given as goal

abbrev pub invariant-loop : goal.invariant-loop
invariant-loop l = (l.at ≤ length l.line) × (length l.spans ≤ l.counter) × (after_spans l.spans (fields_from (6 - l.counter) l.line l.at) ≡ fields_from 6 l.line 0) × AllByRecursion (IsChecked l.line) l.spans

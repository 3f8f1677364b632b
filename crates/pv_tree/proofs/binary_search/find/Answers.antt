use Rattle.std.proofs.Common.{ℕ, Result, Ok, Err, List, MatchResult, ◌≡◌, position, ◌∙◌, sym}
use Rattle.std.specs.Result.{result_ok}
use Rattle.std.specs.Ordering.{is_eq}
use Rattle.std.specs.declared.cmp.Ordering.{Ordering}
use Rattle.pv_tree.specs.Finding.{IsFoundAt, IsGapAt}
use Rattle.pv_tree.proofs.BinarySearch.{position_found, position_none}
use Rattle.pv_tree.proofs.binary_search.find.Goals as goal

as_position : (orders : List Ordering) (r : Result ℕ ℕ) → MatchResult r (IsFoundAt orders) (IsGapAt orders) → result_ok r ≡ position is_eq orders
as_position orders (Ok i) h = sym (position_found orders i h)
as_position orders (Err i) h = sym (position_none orders i h)

pub returns-clause-place : goal.returns-clause-place
returns-clause-place g c = c.ok.ensures.value ∙ as_position _ c.place_of.result c.place_of.ensures.place

-- Where a list that is usually empty keeps its items. No public clause cites this module.
use Rattle.std.specs.Prelude.{List, [], Option, Some, None, Box, Vec}

-- The items of such a list. They are in memory of their own, if there are any.
abbrev pub items_in : {T A B : Type 0} → Option (Box (Vec T A) B) → List T
items_in None = []
items_in (Some apart) = apart.value.items

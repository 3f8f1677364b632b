-- The numbers of new groups (sysusers.d(5), "g"). Which number is chosen is this project's own.
use Rattle.std.specs.Prelude.{ℕ, Bool, ◌||◌, List, [], ◌∷◌, ◌++◌, codes, Option, Some, None, is_some, if◌then◌else◌}
use Rattle.std.specs.Fmt.{decimal}
use Rattle.pv_accounts.specs.InUse.{Ids, id_of, is_held, is_held_beside}
use Rattle.pv_path.specs.Printing.{printed}
use Rattle.pv_text.specs.GivenMessages.{message_text_at}
use Rattle.pv_text.specs.declared.place.Place.{Place}
use Rattle.pv_sysusers.specs.Pools.{free_number}
use Rattle.pv_sysusers.specs.declared.needs.Need.{Need}

-- The number that is chosen, if there is one, and the messages.
pub record Choice : Type 0 where
  pub number : Option ℕ
  pub new_messages : List (List ℕ)

-- The message that the number which a line fixes is in use.
abbrev pub in_use_message : Place → ℕ → List ℕ → List ℕ
in_use_message place n name = message_text_at place (decimal n ++ codes " is in use for " ++ printed name)

-- The number of a new group. If a line fixes one, and no other group and no user of another name has it, it is this
-- one. Otherwise it is the highest free one of the pool, with a message if a line fixes one.
abbrev pub group_choice : (ℕ → Bool) → Ids → Ids → List ℕ → Option (ℕ × Place) → Choice
group_choice pooled users groups name None = record { number = free_number pooled users groups; new_messages = [] }
group_choice pooled users groups name (Some fixed) =
    if is_held groups fixed.0 || is_held_beside users fixed.0 name
    then record { number = free_number pooled users groups; new_messages = in_use_message fixed.1 fixed.0 name ∷ [] }
    else record { number = Some fixed.0; new_messages = [] }

-- The new groups with their numbers, the messages, and the group for which no number is left, if there is one.
pub record NewGroups : Type 0 where
  pub made : Ids
  pub new_messages : List (List ℕ)
  pub lacking : Option (List ℕ)

-- There are no more groups.
abbrev pub no_groups : NewGroups
no_groups = record { made = []; new_messages = []; lacking = None }

-- A group with its number, followed by others.
abbrev pub group_first : List ℕ → ℕ → List (List ℕ) → NewGroups → NewGroups
group_first name n new_messages rest = record { made = (name, n) ∷ rest.made; new_messages = new_messages ++ rest.new_messages; lacking = rest.lacking }

-- What follows from a choice for a group. If no number is left, nothing more is decided.
abbrev pub group_chosen : List ℕ → Choice → (ℕ → NewGroups) → NewGroups
group_chosen name choice rest = by choice.number
  where
    by : Option ℕ → NewGroups
    by (Some n) = group_first name n choice.new_messages (rest n)
    by None = record { made = []; new_messages = choice.new_messages; lacking = Some name }

-- The groups that lines need are decided in order. A group that exists keeps its number.
abbrev pub decided_groups : (ℕ → Bool) → Ids → (List ℕ → Option (ℕ × Place)) → Ids → List Need → NewGroups
decided_groups pooled users fixed groups [] = no_groups
decided_groups pooled users fixed groups (need ∷ needs) =
    if is_some (id_of groups need.name) then decided_groups pooled users fixed groups needs
    else group_chosen need.name (group_choice pooled users groups need.name (fixed need.name))
    (λ n. decided_groups pooled users fixed (groups ++ (need.name, n) ∷ []) needs)

-- What a line does at a path, by its action (tmpfiles.d(5)).
use Rattle.std.specs.Prelude.{Bool, None, if◌then◌else◌}
use Rattle.pv_walk.specs.Nodes.{object_state_of, same_kind}
use Rattle.pv_steps.specs.declared.node.Kind.{Kind}
use Rattle.pv_table.specs.declared.action.Copying.{Copying}
use Rattle.pv_table.specs.declared.action.Action.{Action}
use Rattle.pv_table.specs.declared.action.Action.TheVariants.{Create, Copy}
use Rattle.pv_table.specs.Repeatable.{sets_of}
use Rattle.pv_table.specs.Turns.{Turn, View, copy_of}
use Rattle.pv_walk.specs.Copying.{Subtree, single}
use Rattle.pv_walk.specs.Staging.{new_object}
use Rattle.pv_create.specs.declared.deciding.Turn.{Turn as Answer}
use Rattle.pv_create.specs.declared.deciding.Turn.TheVariants as answer

-- What a line puts at a path: the object that it makes, or the copy.
abbrev pub subtree_of : Action → View → Subtree
subtree_of (Create making) view = single (object_state_of (new_object making.new 0))
subtree_of (Copy copying) view = copy_of copying view
subtree_of action view = λ rest. None

-- What is done for each answer of the calls that decide.
abbrev pub meant : Action → View → Answer → Turn
meant action view answer.Nothing = Turn.Nothing
meant action view (answer.Left kind) = Turn.Left kind
meant action view answer.Put = Turn.Put (subtree_of action view)
meant action view answer.Become = Turn.Become (sets_of action)

-- What is done if the object stays. One of the wanted kind is adjusted, and any other is left with a message.
abbrev pub kept_turn : Kind → Kind → Answer
kept_turn wanted kind = if same_kind wanted kind then answer.Become else answer.Left kind

-- What a line that copies does if there is an object at its path. An empty directory is replaced by the copy of a
-- directory, and other objects of the same kind are adjusted. An object of another kind is replaced with `=`, and
-- otherwise left.
abbrev pub kept_copy : Copying → Kind → Kind → Bool → Answer
kept_copy copying kind there empty =
    if same_kind kind there then (if empty then answer.Put else answer.Become)
    else if copying.renews then answer.Put
    else answer.Left there

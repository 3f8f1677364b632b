-- Laws of the refused place of a line at a path: that of what it copies comes first, then that of its path.
use Rattle.std.specs.Prelude.{◌≡◌, true, false, Option, Some, None, is_some, option_map, unwrap_or, if◌then◌else◌}
use Rattle.std.specs.Option.{option_map_or, option_or, option_and_then}
use Rattle.std.proofs.Common.{sym, ap, ◌∙◌}
use Rattle.pv_lines.specs.declared.line.Line.{Line}
use Rattle.pv_lines.specs.declared.line.LineId.{LineId}
use Rattle.pv_path.specs.Paths.{Path}
use Rattle.pv_steps.specs.declared.object.Object.{Object}
use Rattle.pv_steps.specs.Trees.{Places}
use Rattle.pv_table.specs.declared.action.Action.{Action}
use Rattle.pv_table.specs.ActionTable.{action_of, id_for_new}
use Rattle.pv_table.specs.Turns.{Refused, copied, has_something, named_refusal, owner_made, refused_at, source_owner}
use Rattle.pv_create.specs.Refusing.{source_refused}

module _ (line : Line) (action : Action) (asked : action_of line ≡ action) (path : Path) (t : Places) where
  pub refused_is : refused_at line path t ≡ option_or (source_refused action t) (if has_something t action then named_refusal line path t else None)
  refused_is = ap (λ (d : Action). option_or (source_refused d t) (if has_something t d then named_refusal line path t else None)) asked

  pub refused_first : (place : Refused) → Some place ≡ source_refused action t → Some place ≡ refused_at line path t
  refused_first place e = sym (refused_is ∙ ap (λ (r : Option Refused). option_or r (if has_something t action then named_refusal line path t else None)) (sym e))

  refused_then : None ≡ source_refused action t → (if has_something t action then named_refusal line path t else None) ≡ refused_at line path t
  refused_then e = sym (refused_is ∙ ap (λ (r : Option Refused). option_or r (if has_something t action then named_refusal line path t else None)) (sym e))

  pub refused_named : None ≡ source_refused action t → has_something t action ≡ true → named_refusal line path t ≡ refused_at line path t
  refused_named e something = sym (ap (λ b. if b then named_refusal line path t else None) something) ∙ refused_then e

  pub refused_none : None ≡ source_refused action t → has_something t action ≡ false → None ≡ refused_at line path t
  refused_none e nothing = sym (ap (λ b. if b then named_refusal line path t else None) nothing) ∙ refused_then e

  -- the owner that the path would have
  pub owner_user : (user : LineId) → line.user ≡ Some user → user.id ≡ owner_made line t
  owner_user user e = sym (ap (λ (u : Option LineId). unwrap_or (option_or (id_for_new u) (source_owner t (action_of line))) 0) e)

  pub owner_none : line.user ≡ None → unwrap_or (source_owner t action) 0 ≡ owner_made line t
  owner_none e =
      sym (ap (λ (u : Option LineId). unwrap_or (option_or (id_for_new u) (source_owner t (action_of line))) 0) e ∙ ap (λ (d : Action). unwrap_or (source_owner t d) 0) asked)

-- the owner of what it copies, and whether there is something to do
pub owner_of : (action : Action) (t : Places) (source : Option Path) → copied action ≡ source
    → unwrap_or (option_map (λ (o : Object). o.node.uid) (option_and_then t source)) 0 ≡ unwrap_or (source_owner t action) 0
owner_of action t source e = sym (ap (λ (s : Option Path). unwrap_or (option_map (λ (o : Object). o.node.uid) (option_and_then t s)) 0) e)

pub something_is : (action : Action) (t : Places) (source : Option Path) → copied action ≡ source
    → option_map_or (λ (path : Path). is_some (t path)) source true ≡ has_something t action
something_is action t source e = sym (ap (λ (s : Option Path). option_map_or (λ (path : Path). is_some (t path)) s true) e)

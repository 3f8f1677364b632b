-- Laws of a path that is made ready: a line that makes something or copies prepares it, any other leaves all as it is.
use Rattle.std.specs.Prelude.{◌≡◌, ◌≢◌, ℕ, true, false, [], Option, Some, None, option_map, Result, Ok, Err, OnOk, if◌then◌else◌}
use Rattle.std.specs.Option.{option_or}
use Rattle.std.proofs.Common.{refl, sym, ap, ◌∙◌}
use Rattle.pv_lines.specs.declared.line.Line.{Line}
use Rattle.pv_path.specs.Paths.{Path, parent_of, staging_of}
use Rattle.pv_steps.specs.declared.node.Kind.TheVariants.{Directory}
use Rattle.pv_steps.specs.declared.tree.Tree.{Ghosts}
use Rattle.pv_steps.specs.declared.tree.TreeFault.{TreeFault}
use Rattle.pv_steps.specs.declared.why.Why.{Why}
use Rattle.pv_steps.specs.Acting.{refused, Acted}
use Rattle.pv_steps.specs.Refusal.{refusal}
use Rattle.pv_steps.specs.Trees.{Files, places, IsKind, IsAbsentIn}
use Rattle.pv_steps.proofs.ActingLaws.{Moves, acted_none}
use Rattle.pv_table.specs.declared.action.Action.{Action}
use Rattle.pv_table.specs.declared.action.Action.TheVariants.{Create, Copy, Adjust, Idle}
use Rattle.pv_table.specs.ActionTable.{action_of}
use Rattle.pv_table.specs.Saying.{found}
use Rattle.pv_table.specs.Turns.{Refused, has_something, named_refusal, owner_made, refused_at}
use Rattle.pv_table.proofs.EffectLaws.{prepare_is}
use Rattle.pv_walk.specs.Preparing.{CanPass, IsPrepareStep, Preparing, prepared}
use Rattle.pv_walk.proofs.PreparingSweep.{unrefused_pass}
use Rattle.pv_create.specs.Actions.{IsReady, IsTurn, makes}
use Rattle.pv_create.specs.Refusing.{source_refused}
use Rattle.pv_create.specs.Turning.{IsReadyStep, Readying, prepare_work, ready_work}
use Rattle.pv_create.proofs.RefusingLaws.{refused_is}

-- a path that is not refused can be walked along
pub passes : (line : Line) (action : Action) (path : Path) (t : Files) → action_of line ≡ action → refused_at line path (places t) ≡ None → has_something (places t) action ≡ true → CanPass path t
passes line action path t asked free something =
    unrefused_pass path (owner_made line (places t)) t (unplaced (refusal (places t) path (owner_made line (places t)))
    (second (source_refused action (places t)) (named_refusal line path (places t))
    (sym (refused_is line action asked path (places t) ∙ ap (λ b. option_or (source_refused action (places t)) (if b then named_refusal line path (places t) else None)) something) ∙ free)))
  where
    second : (a b : Option Refused) → option_or a b ≡ None → b ≡ None
    second None b e = e
    second (Some x) b e = absurd (let no : Some x ≡ None = e in cc)

    unplaced : (r : Option (ℕ × Why)) → option_map (λ (place : ℕ × Why). Refused.named path place.0 place.1) r ≡ None → r ≡ None
    unplaced None e = refl
    unplaced (Some place) e = absurd (let no : Some (Refused.named path place.0 place.1) ≡ None = e in cc)

pub both_ok : {A E : Type 0} (r : Result A E) (X Y : Type 0) → OnOk r X → OnOk r Y → OnOk r (X × Y)
both_ok (Ok x) X Y a b = (a, b)
both_ok (Err e) X Y a b = tt

-- ---- a line that makes something or copies

pub prepared_found : (now : ℕ) (action : Action) (path : Path) (t u : Files) → makes action ≡ true → places u ≡ prepared now path (places t) → u ≡ found now action path t
prepared_found now (Create making) path t u made e = prepare_is now path t u e
prepared_found now (Copy copying) path t u made e = prepare_is now path t u e
prepared_found now (Adjust adjustment) path t u made e = absurd (let no : false ≡ true = made in cc)
prepared_found now Idle path t u made e = absurd (let no : false ≡ true = made in cc)

pub prepared_ready : (action : Action) (path : Path) (u : Files) → makes action ≡ true → (path ≢ [] → IsKind Directory u (parent_of path)) × (path ≢ [] → IsAbsentIn (places u) (staging_of path)) → IsReady action path u
prepared_ready (Create making) path u made e = e
prepared_ready (Copy copying) path u made e = e
prepared_ready (Adjust adjustment) path u made e = absurd (let no : false ≡ true = made in cc)
prepared_ready Idle path u made e = absurd (let no : false ≡ true = made in cc)

pub prepared_acted : {S A : Type 0} (tree : Ghosts S) (now : ℕ) (action : Action) (path : Path) (t : Files) (a b : S) (r : Result A TreeFault) → makes action ≡ true
    → Acted tree (Preparing path t) (IsPrepareStep path t) (prepare_work path t) now a b r → Acted tree (Readying action path t) (IsReadyStep action path t) (ready_work action path t) now a b r
prepared_acted tree now (Create making) path t a b r made e = e
prepared_acted tree now (Copy copying) path t a b r made e = e
prepared_acted tree now (Adjust adjustment) path t a b r made e = absurd (let no : false ≡ true = made in cc)
prepared_acted tree now Idle path t a b r made e = absurd (let no : false ≡ true = made in cc)

-- ---- any other

pub left_found : (now : ℕ) (action : Action) (path : Path) (t : Files) → makes action ≡ false → t ≡ found now action path t
left_found now (Create making) path t unmade = absurd (let no : true ≡ false = unmade in cc)
left_found now (Copy copying) path t unmade = absurd (let no : true ≡ false = unmade in cc)
left_found now (Adjust adjustment) path t unmade = refl
left_found now Idle path t unmade = refl

pub left_ready : (line : Line) (action : Action) (path : Path) (t : Files) → makes action ≡ false → IsTurn action line path t → IsReady action path t
left_ready line (Create making) path t unmade turn = absurd (let no : true ≡ false = unmade in cc)
left_ready line (Copy copying) path t unmade turn = absurd (let no : true ≡ false = unmade in cc)
left_ready line (Adjust adjustment) path t unmade turn = turn.1
left_ready line Idle path t unmade turn = absurd turn

left_way : (action : Action) (path : Path) (t : Files) → makes action ≡ false → Readying action path t t
left_way (Create making) path t unmade = absurd (let no : true ≡ false = unmade in cc)
left_way (Copy copying) path t unmade = absurd (let no : true ≡ false = unmade in cc)
left_way (Adjust adjustment) path t unmade = refl
left_way Idle path t unmade = refl

pub left_acted : {S A : Type 0} (tree : Ghosts S) → Moves tree → (now : ℕ) (action : Action) (path : Path) (a : S) (r : Result A TreeFault) → refused r ≡ 0 → makes action ≡ false
    → Acted tree (Readying action path (tree.state a)) (IsReadyStep action path (tree.state a)) (ready_work action path (tree.state a)) now a a r
left_acted tree moves now action path a r none unmade =
    acted_none tree moves (Readying action path (tree.state a)) (IsReadyStep action path (tree.state a)) (ready_work action path (tree.state a)) now a r none (left_way action path (tree.state a) unmade)

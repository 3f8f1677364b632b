use Rattle.std.proofs.Common.{sym, ap, subst, ◌∙◌, arith, Ok, OnOk}
use Rattle.pv_path.specs.Paths.{Path, is_prefix, staging_of}
use Rattle.pv_steps.specs.declared.node.Kind.TheVariants.{Directory}
use Rattle.pv_steps.specs.Trees.{IsKindIn, places}
use Rattle.pv_steps.specs.Steps.{HasRoom, made}
use Rattle.pv_steps.specs.Acting.{Acted}
use Rattle.pv_steps.proofs.ActingLaws.{Moves, acted_none, acted_passed, acted_within, no_memory}
use Rattle.pv_walk.specs.SettingMetadata.{CanSetMetadata, ChangedAt, SettingMetadata, GivesMetadata, with_metadata}
use Rattle.pv_walk.specs.Edits.{SameOutside}
use Rattle.pv_walk.specs.declared.new_file.NewFile.{NewFile}
use Rattle.pv_walk.specs.Making.{Beginning, held_object}
use Rattle.pv_walk.specs.Staging.{GivesNew}
use Rattle.pv_walk.proofs.StageLaws.{staged_room}
use Rattle.pv_walk.proofs.SweepLaws.{short_name}
use Rattle.pv_sysusers.specs.Edits.{most_staged, new_file, StagesEdit}
use Rattle.pv_sysusers.specs.Turns.{StagingOne}
use Rattle.pv_sysusers.proofs.ActedLaws.{can_set_metadata, with_metadata_acted, made_acted, staged_gives}
use Rattle.pv_sysusers.proofs.StagingLaws.{stage_some}
use Rattle.pv_sysusers.proofs.TurnLaws.{begun_acted, one_acted, one_start}
use Rattle.pv_sysusers.proofs.staging.stage.Goals as goal
use Rattle.pv_path.proofs.Tests.{on_ok}

pub staging-requires-clause-short : goal.staging-requires-clause-short
staging-requires-clause-short g c = short_name c.args.edit.now.path c.requires.edit.short

pub put_held-requires-clause-not_root : goal.put_held-requires-clause-not_root
put_held-requires-clause-not_root g c = λ e. stage_some c.args.edit.now c.requires.edit (sym c.in_ok-stage.ensures ∙ e)

pub put_held-requires-clause-room : goal.put_held-requires-clause-room
put_held-requires-clause-room g c =
    let edit = c.args.edit.now in
    let s = places (g.T.Tree.state c.args.tree.now) in
    subst (HasRoom s) (sym c.in_ok-stage.ensures)
    (staged_room s edit.path (subst (λ (p : Path). IsKindIn Directory s p) (sym c.requires.edit.parent) c.requires.directory) c.requires.free)

pub returns-in_err-put_held-clause-acted : goal.returns-in_err-put_held-clause-acted
returns-in_err-put_held-clause-acted g c =
    let edit = c.args.edit.now in
    let t = g.T.Tree.state c.args.tree.now in
    acted_passed g.T.Tree c.put_held.result c.from_residual-in_err-put_held.result c.in_err-put_held.was c.from_residual-in_err-put_held.ensures.1
    (acted_within g.T.Tree 2 most_staged (omega arith) (made_acted g.T.Tree edit c.requires.edit
    (subst (λ (n : NewFile). Acted g.T.Tree (SameOutside (is_prefix (staging_of edit.path)) t) (GivesNew (staging_of edit.path) n) 2 c.args.now c.args.tree.now c.put_held.new.tree c.put_held.result) c.in_ok-new.ensures
    (subst (λ (p : Path). Acted g.T.Tree (SameOutside (is_prefix p) t) (GivesNew p c.in_ok-new.new) 2 c.args.now c.args.tree.now c.put_held.new.tree c.put_held.result) c.in_ok-stage.ensures c.put_held.ensures.acted))))

pub set_metadata-requires : goal.set_metadata-requires
set_metadata-requires g c =
    let edit = c.args.edit.now in
    let t = g.T.Tree.state c.args.tree.now in
    let is =
    c.in_ok-put_held.ensures.ok ∙ ap (λ (n : NewFile). made c.args.now c.in_ok-stage.stage (held_object n.what c.args.now) (places t)) c.in_ok-new.ensures
    ∙ ap (λ (p : Path). made c.args.now p (held_object (new_file edit).what c.args.now) (places t)) c.in_ok-stage.ensures
    in
    subst (λ (p : Path). CanSetMetadata (g.T.Tree.state c.put_held.new.tree) p edit.metadata) (sym c.in_ok-stage.ensures)
    (can_set_metadata edit c.requires.edit c.args.now t (g.T.Tree.state c.put_held.new.tree) is)

pub returns-clause-ok : goal.returns-clause-ok
returns-clause-ok g c =
    let edit = c.args.edit.now in
    let t = g.T.Tree.state c.args.tree.now in
    let u = g.T.Tree.state c.put_held.new.tree in
    let is =
    c.in_ok-put_held.ensures.ok ∙ ap (λ (n : NewFile). made c.args.now c.in_ok-stage.stage (held_object n.what c.args.now) (places t)) c.in_ok-new.ensures
    ∙ ap (λ (p : Path). made c.args.now p (held_object (new_file edit).what c.args.now) (places t)) c.in_ok-stage.ensures
    in
    on_ok c.set_metadata.result (λ h. staged_gives edit c.requires.edit c.args.now t u is (g.T.Tree.state c.set_metadata.new.tree) h)
    (subst (λ (p : Path). OnOk c.set_metadata.result (ChangedAt (with_metadata edit.metadata) p c.args.now u (g.T.Tree.state c.set_metadata.new.tree))) c.in_ok-stage.ensures c.set_metadata.ensures.ok)

pub returns-clause-acted : goal.returns-clause-acted
returns-clause-acted g c =
    let moves : Moves g.T.Tree = record { stays = g.met.T.Tree.reaches_self; goes_on = g.met.T.Tree.reaches_on; never_falls = g.met.T.Tree.never_falls } in
    let edit = c.args.edit.now in
    let t = g.T.Tree.state c.args.tree.now in
    let u = g.T.Tree.state c.put_held.new.tree in
    with_metadata_acted g.T.Tree edit c.requires.edit moves
    (subst (λ (n : NewFile). Acted g.T.Tree (SameOutside (is_prefix (staging_of edit.path)) t) (GivesNew (staging_of edit.path) n) 2 c.args.now c.args.tree.now c.put_held.new.tree (Ok c.in_ok-put_held.field-0)) c.in_ok-new.ensures
    (subst (λ (p : Path). Acted g.T.Tree (SameOutside (is_prefix p) t) (GivesNew p c.in_ok-new.new) 2 c.args.now c.args.tree.now c.put_held.new.tree (Ok c.in_ok-put_held.field-0)) c.in_ok-stage.ensures c.in_ok-put_held.ensures.acted))
    (subst (λ (p : Path). Acted g.T.Tree (SettingMetadata p edit.metadata u) (GivesMetadata p edit.metadata u) 5 c.args.now c.put_held.new.tree c.set_metadata.new.tree c.set_metadata.result) c.in_ok-stage.ensures c.set_metadata.ensures.acted)

pub returns-in_err-new-clause-stages : goal.returns-in_err-new-clause-stages
returns-in_err-new-clause-stages g c =
    let moves : Moves g.T.Tree = record { stays = g.met.T.Tree.reaches_self; goes_on = g.met.T.Tree.reaches_on; never_falls = g.met.T.Tree.never_falls } in
    acted_none g.T.Tree moves (StagingOne c.args.edit.now (g.T.Tree.state c.args.tree.now)) (StagesEdit c.args.edit.now) most_staged c.args.now c.args.tree.now c.from_residual.result
    (no_memory c.from_residual.result c.from_residual.ensures.1) (one_start c.args.edit.now (g.T.Tree.state c.args.tree.now) c.requires.free)

pub returns-in_err-stage-clause-stages : goal.returns-in_err-stage-clause-stages
returns-in_err-stage-clause-stages g c =
    let moves : Moves g.T.Tree = record { stays = g.met.T.Tree.reaches_self; goes_on = g.met.T.Tree.reaches_on; never_falls = g.met.T.Tree.never_falls } in
    acted_none g.T.Tree moves (StagingOne c.args.edit.now (g.T.Tree.state c.args.tree.now)) (StagesEdit c.args.edit.now) most_staged c.args.now c.args.tree.now c.from_residual-in_err-stage.result
    (no_memory c.from_residual-in_err-stage.result c.from_residual-in_err-stage.ensures.1) (one_start c.args.edit.now (g.T.Tree.state c.args.tree.now) c.requires.free)

pub returns-in_err-put_held-clause-stages : goal.returns-in_err-put_held-clause-stages
returns-in_err-put_held-clause-stages g c =
    let edit = c.args.edit.now in
    let t = g.T.Tree.state c.args.tree.now in
    acted_passed g.T.Tree c.put_held.result c.from_residual-in_err-put_held.result c.in_err-put_held.was c.from_residual-in_err-put_held.ensures.1
    (acted_within g.T.Tree 2 most_staged (omega arith) (begun_acted g.T.Tree edit c.requires.edit
    (subst (λ (n : NewFile). Acted g.T.Tree (Beginning (staging_of edit.path) n.what t) (GivesNew (staging_of edit.path) n) 2 c.args.now c.args.tree.now c.put_held.new.tree c.put_held.result) c.in_ok-new.ensures
    (subst (λ (p : Path). Acted g.T.Tree (Beginning p c.in_ok-new.new.what t) (GivesNew p c.in_ok-new.new) 2 c.args.now c.args.tree.now c.put_held.new.tree c.put_held.result) c.in_ok-stage.ensures c.put_held.ensures.begun))))

pub returns-clause-stages : goal.returns-clause-stages
returns-clause-stages g c =
    let moves : Moves g.T.Tree = record { stays = g.met.T.Tree.reaches_self; goes_on = g.met.T.Tree.reaches_on; never_falls = g.met.T.Tree.never_falls } in
    let edit = c.args.edit.now in
    let t = g.T.Tree.state c.args.tree.now in
    let u = g.T.Tree.state c.put_held.new.tree in
    let is =
    c.in_ok-put_held.ensures.ok ∙ ap (λ (n : NewFile). made c.args.now c.in_ok-stage.stage (held_object n.what c.args.now) (places t)) c.in_ok-new.ensures
    ∙ ap (λ (p : Path). made c.args.now p (held_object (new_file edit).what c.args.now) (places t)) c.in_ok-stage.ensures
    in
    one_acted g.T.Tree edit c.requires.edit moves is
    (subst (λ (n : NewFile). Acted g.T.Tree (Beginning (staging_of edit.path) n.what t) (GivesNew (staging_of edit.path) n) 2 c.args.now c.args.tree.now c.put_held.new.tree (Ok c.in_ok-put_held.field-0)) c.in_ok-new.ensures
    (subst (λ (p : Path). Acted g.T.Tree (Beginning p c.in_ok-new.new.what t) (GivesNew p c.in_ok-new.new) 2 c.args.now c.args.tree.now c.put_held.new.tree (Ok c.in_ok-put_held.field-0)) c.in_ok-stage.ensures c.in_ok-put_held.ensures.begun))
    (subst (λ (p : Path). Acted g.T.Tree (SettingMetadata p edit.metadata u) (GivesMetadata p edit.metadata u) 5 c.args.now c.put_held.new.tree c.set_metadata.new.tree c.set_metadata.result) c.in_ok-stage.ensures c.set_metadata.ensures.acted)

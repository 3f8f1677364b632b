use Rattle.std.proofs.Common.{◌∙◌, Option, Some, sym, ap}
use Rattle.pv_path.specs.Paths.{parent_of}
use Rattle.pv_path.proofs.Tests.{on_ok}
use Rattle.pv_steps.specs.declared.object.Object.{Object}
use Rattle.pv_steps.specs.Steps.{put_at}
use Rattle.pv_steps.specs.Trees.{kind_of, places}
use Rattle.pv_folder.specs.Merge.{merged_of}
use Rattle.pv_folder.proofs.MergingLaws.{absent_of, may_have_at, merged_there}
use Rattle.pv_folder.proofs.merged_object.merge_at.Goals as goal

pub set_metadata-requires-clause-fits : goal.set_metadata-requires-clause-fits
set_metadata-requires-clause-fits c = λ same.
    may_have_at c.args.tree.now.files c.args.names.now c.args.node.now c.args.payload.now c.in-Some.kind c.in-Some.ensures.tree c.requires.object (sym c.in-Some.ensures.kind) same

pub returns-in-Some-clause-places : goal.returns-in-Some-clause-places
returns-in-Some-clause-places c =
    let m : Object = record { node = c.args.node.now; payload = c.args.payload.now } in
    on_ok c.set_metadata.result (λ e. e ∙ merged_there c.args.names.now m (places c.args.tree.now.files) c.in-Some.kind (sym c.in-Some.ensures.kind)) c.set_metadata.ensures.places

pub add_unreal-requires-clause-absent : goal.add_unreal-requires-clause-absent
add_unreal-requires-clause-absent c = absent_of (places c.args.tree.now.files c.args.names.now) (sym c.in-None.ensures.kind)

pub returns-in-None-clause-places : goal.returns-in-None-clause-places
returns-in-None-clause-places c =
    let m : Object = record { node = c.args.node.now; payload = c.args.payload.now } in
    let t = places c.args.tree.now.files in
    let p = c.args.names.now in
    on_ok c.add_unreal.result
    (λ e. e ∙ ap (λ (o : Option Object). put_at p (merged_of (Some m) o (kind_of (t (parent_of p)))) t) (sym (absent_of (t p) (sym c.in-None.ensures.kind)))) c.add_unreal.ensures.places

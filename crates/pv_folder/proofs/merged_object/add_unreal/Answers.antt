use Rattle.std.proofs.Common.{◌≡◌, ◌∙◌, true, Option, Some, None, sym, ap}
use Rattle.pv_path.specs.Paths.{Path, parent_of}
use Rattle.pv_path.proofs.Tests.{on_ok}
use Rattle.pv_steps.specs.declared.node.Kind.TheVariants.{Directory}
use Rattle.pv_steps.specs.declared.node.Node.{Node}
use Rattle.pv_steps.specs.declared.object.Object.{Object}
use Rattle.pv_steps.specs.Steps.{put_at}
use Rattle.pv_steps.specs.Trees.{kind_of, places}
use Rattle.pv_folder.specs.Merge.{merged_of}
use Rattle.pv_folder.proofs.MergingLaws.{dropped_above, dropped_real, put_inserted, put_same, unreal_there}
use Rattle.pv_folder.proofs.merged_object.add_unreal.Goals as goal
use Rattle.pv_folder.proofs.merged_object.add_unreal.Goals.{then-is_real_kind-via-then-is_real_kind, then-is_real_kind-via-else-is_real_kind+then-not-lies_in_directory}

pub returns-then-is_real_kind-clause-places : goal.returns-then-is_real_kind-clause-places
returns-then-is_real_kind-clause-places c =
    let m : Object = record { node = c.args.node.now; payload = c.args.payload.now } in
    let t = places c.args.tree.now.files in
    let p = c.args.names.now in
    let k = kind_of (t (parent_of p)) in
    let none : merged_of (Some m) None k ≡ None = elim c.then-is_real_kind.branch [
      | then-is_real_kind-via-then-is_real_kind w ↦ dropped_real m k (sym c.is_real_kind.ensures ∙ w.if-is_real_kind.true)
      | then-is_real_kind-via-else-is_real_kind+then-not-lies_in_directory w ↦ dropped_above m k (λ dir. let yes = w.lies_in_directory.ensures.1 dir in let no = w.if-not-lies_in_directory.true in cc)
    ] in
    put_same p t (merged_of (Some m) None k) (c.requires.absent ∙ sym none)

pub returns-clause-places : goal.returns-clause-places
returns-clause-places c =
    let files = c.args.tree.now.files in
    let m : Object = record { node = c.args.node.now; payload = c.args.payload.now } in
    let t = places files in
    let p = c.args.names.now in
    let k = kind_of (t (parent_of p)) in
    let yes : c.lies_in_directory.result ≡ true = (let no = c.if-not-lies_in_directory.false in cc) in
    let above : k ≡ Some Directory = c.lies_in_directory.ensures.0 yes in
    on_ok c.add.result (λ e.
    ap places e
    ∙ put_inserted files c.in_ok-path.path (record { node = c.in_ok-copy.field-0; payload = c.args.payload.now })
    ∙ ap (λ (q : Path). put_at q (Some (record { node = c.in_ok-copy.field-0; payload = c.args.payload.now })) t) c.in_ok-path.ensures
    ∙ ap (λ (n : Node). put_at p (Some (record { node = n; payload = c.args.payload.now })) t) c.in_ok-copy.ensures
    ∙ ap (λ (o : Option Object). put_at p o t) (unreal_there m k (sym c.is_real_kind.ensures ∙ c.if-is_real_kind.false) above)) c.add.ensures.ok

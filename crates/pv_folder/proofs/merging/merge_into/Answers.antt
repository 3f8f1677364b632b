use Rattle.std.proofs.Common.{◌∙◌, is_some, refl, sym, ap, subst, List}
use Rattle.pv_path.specs.Paths.{Path}
use Rattle.pv_steps.specs.declared.object.Object.{Object}
use Rattle.pv_folder.proofs.MergingLaws.{IsMerging, merging_begins, merging_ends, merging_next, plain_here, said_here}
use Rattle.pv_folder.proofs.merging.merge_into.Goals as goal

pub loop-place-init : goal.loop-place-init
loop-place-init c = (
  merging_begins c.args.manifest.now.files c.args.tree.now.files c.in_ok-entries.entries c.in_ok-entries.ensures.entries c.requires,
  refl,
  c.in_ok-entries.ensures.tree,
)

pub merge_at-requires-clause-names : goal.merge_at-requires-clause-names
merge_at-requires-clause-names c =
    let o : Object = record { node = c.in-Some.place.node.now; payload = c.in-Some.place.payload.now } in
    c.loop-place.invariant.2.names c.in-Some.place.names.now
    (ap is_some (said_here c.args.manifest.now.files c.args.tree.now.files c.loop-place.tree.files c.in-Some.place.names.now o c.loop-place.entries c.in-Some.ensures c.loop-place.invariant.0))

pub merge_at-requires-clause-object : goal.merge_at-requires-clause-object
merge_at-requires-clause-object c =
    let o : Object = record { node = c.in-Some.place.node.now; payload = c.in-Some.place.payload.now } in
    c.loop-place.invariant.2.objects c.in-Some.place.names.now o
    (said_here c.args.manifest.now.files c.args.tree.now.files c.loop-place.tree.files c.in-Some.place.names.now o c.loop-place.entries c.in-Some.ensures c.loop-place.invariant.0)

pub merge_at-requires-clause-plain : goal.merge_at-requires-clause-plain
merge_at-requires-clause-plain c =
    let o : Object = record { node = c.in-Some.place.node.now; payload = c.in-Some.place.payload.now } in
    plain_here c.args.manifest.now.files c.args.tree.now.files c.loop-place.tree.files c.in-Some.place.names.now o c.loop-place.entries c.in-Some.ensures c.loop-place.invariant.0 c.requires

pub loop-place-preserved : goal.loop-place-preserved
loop-place-preserved c =
    let m = c.args.manifest.now.files in
    let r = c.args.tree.now.files in
    let o : Object = record { node = c.in-Some.place.node.now; payload = c.in-Some.place.payload.now } in
    let next = c.merge_at.new.tree.files in (
      subst (λ (es : List (Path × Object)). IsMerging m r next es) (sym c.in_ok-advance.ensures.ok)
          (merging_next m r c.loop-place.tree.files c.in-Some.place.names.now o c.loop-place.entries c.in-Some.ensures c.loop-place.invariant.0 next c.in_ok-merge_at.ensures.places),
      c.merge_at.ensures.steps ∙ c.loop-place.invariant.1,
      c.loop-place.invariant.2,
    )

pub returns-clause-files : goal.returns-clause-files
returns-clause-files c =
    merging_ends c.args.manifest.now.files c.args.tree.now.files c.loop-place.tree.files c.loop-place.entries c.loop-place.invariant.0 c.in_default.ensures

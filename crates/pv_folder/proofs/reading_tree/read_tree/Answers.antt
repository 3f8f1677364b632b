use Rattle.std.proofs.Common.{◌≡◌, ◌∙◌, ◌+◌, suc, false, true, [], ◌++◌, IfSome, List, Option, reverse, refl, sym, ap, subst, arith}
use Rattle.std.proofs.lemmas.List.{nil_from_length}
use Rattle.std.specs.FinMap as fin
use Rattle.pv_path.specs.Paths.{Path}
use Rattle.pv_steps.specs.declared.node.Kind.TheVariants as node
use Rattle.pv_steps.specs.Objects.{fresh}
use Rattle.pv_tree.specs.Growth.{Grown}
use Rattle.pv_tree.specs.Held.{root_alone}
use Rattle.pv_folder.specs.Content.{Content, spelled}
use Rattle.pv_folder.specs.Lists.{is_ordered}
use Rattle.pv_folder.specs.declared.found.Found.{Found}
use Rattle.pv_folder.specs.declared.open_fault.OpenFault.{OpenFault}
use Rattle.pv_folder.specs.Folders.{tree_path}
use Rattle.pv_folder.specs.Opening.{is_outer, is_over}
use Rattle.pv_folder.specs.Reading.{Shows, found_below, items_of, path_of, seen_object, seen_size}
use Rattle.pv_folder.proofs.GoingLaws.{Faulty, IsGoing, going_at, going_first, going_odd, going_on, going_over, going_real, not_over, passed_on}
use Rattle.pv_folder.proofs.MergingLaws.{plain_first, plain_on}
use Rattle.pv_folder.proofs.RoomLaws.{going_unseen}
use Rattle.std.proofs.lemmas.Result.{IfOk-from_err}
use Rattle.pv_folder.proofs.reading_tree.read_tree.Goals as goal

pub loop-found-init : goal.loop-found-init
loop-found-init g c =
    let content = g.H.Host.content c.args.host.now in
    let r = c.in_ok-reading.reading in
    let from_content = c.in_ok-reading.ensures in (
      going_at content (spelled c.args.folder.now) 0 0 (root_alone (fresh node.Directory 0o755 [] 0 0 0).node) [] _ r.objects r.bytes r.builder r.pending.items
          from_content.objects from_content.bytes from_content.builder from_content.pending
          (going_first content (spelled c.args.folder.now) c.in_ok-items.items from_content.ordered c.in_ok-items.ensures.content c.in_ok-items.ensures.from_content),
      omega (arith, from_content.objects),
      omega (arith, from_content.bytes),
      c.items_in_tree.ensures.kept,
      c.items_in_tree.ensures.never_falls,
      plain_first r.builder from_content.builder,
      c.items_in_tree.ensures.unasked,
    )

pub returns-in_err-path-clause-fault : goal.returns-in_err-path-clause-fault
returns-in_err-path-clause-fault g c =
    let content = g.H.Host.content c.args.host.now in
    let folder = spelled c.args.folder.now in
    let r = c.loop-found.reading in
    let x = c.in-Some.found in
    let going = subst (IsGoing content folder r.objects r.bytes r.builder.files r.builder.last) c.in-Some.ensures.items c.loop-found.invariant.0 in
    let found = c.in_err-path.ensures in
    passed_on c.from_residual-in_err-path.result c.in_err-path.field-0.0 (λ e. is_outer e ≡ false → IfSome content (Faulty folder e)) c.from_residual-in_err-path.ensures.1
    (λ own. subst (λ (e : OpenFault). IfSome content (Faulty folder e)) (sym (found.odd own))
    (going_odd content folder r.objects r.bytes r.builder.files r.builder.last c.pop.new.self.items x going (found.cause own)))

pub returns-in_err-seen-clause-fault : goal.returns-in_err-seen-clause-fault
returns-in_err-seen-clause-fault g c =
    let content = g.H.Host.content c.args.host.now in
    let folder = spelled c.args.folder.now in
    let r = c.loop-found.reading in
    let x = c.in-Some.found in
    let f = c.in_err-seen.field-0.0 in
    let going = subst (IsGoing content folder r.objects r.bytes r.builder.files r.builder.last) c.in-Some.ensures.items c.loop-found.invariant.0 in
    passed_on c.from_residual-in_err-seen.result f (λ e. is_outer e ≡ false → IfSome content (Faulty folder e)) c.from_residual-in_err-seen.ensures.1
    (going_unseen content (g.H.Host.content c.loop-found.host) folder r.objects r.bytes r.builder.files r.builder.last c.pop.new.self.items x c.in_ok-path.path _ f
    going c.loop-found.invariant.3 c.in_ok-path.ensures.path refl c.loop-found.invariant.2 c.in_err-seen.ensures.large c.in_err-seen.ensures.other)

pub returns-in_err-count-clause-fault : goal.returns-in_err-count-clause-fault
returns-in_err-count-clause-fault g c =
    let content = g.H.Host.content c.args.host.now in
    let folder = spelled c.args.folder.now in
    let r = c.loop-found.reading in
    let x = c.in-Some.found in
    let s = c.in_ok-seen.seen in
    let going = subst (IsGoing content folder r.objects r.bytes r.builder.files r.builder.last) c.in-Some.ensures.items c.loop-found.invariant.0 in
    let at : IfSome content (λ k. Shows k (tree_path folder ++ path_of x) s) =
    subst (λ (p : Path). IfSome content (λ k. Shows k (tree_path folder ++ p) s)) c.in_ok-path.ensures.path
    (subst (λ (o : Option Content). IfSome o (λ k. Shows k (tree_path folder ++ c.in_ok-path.path) s)) c.loop-found.invariant.3 c.in_ok-seen.ensures.from_content) in
    let ordered : is_ordered (items_of s) ≡ true = c.size_of.ensures.ordered in
    let over : is_over (suc r.objects) (r.bytes + seen_size s) ≡ true = ap (λ n. is_over (suc r.objects) (r.bytes + n)) (sym c.size_of.ensures.size) ∙ c.in_err-count.ensures.over.1 in
    passed_on c.from_residual-in_err-count.result c.in_err-count.field-0.0 (λ e. is_outer e ≡ false → IfSome content (Faulty folder e)) c.from_residual-in_err-count.ensures.1
    (λ own. subst (λ (e : OpenFault). IfSome content (Faulty folder e)) (sym c.in_err-count.ensures.over.0)
    (going_over content folder r.objects r.bytes r.builder.files r.builder.last c.pop.new.self.items x going s ordered at over))

pub loop-found-preserved : goal.loop-found-preserved
loop-found-preserved g c =
    let content = g.H.Host.content c.args.host.now in
    let folder = spelled c.args.folder.now in
    let r = c.loop-found.reading in
    let x = c.in-Some.found in
    let s = c.in_ok-seen.seen in
    let p = c.in_ok-path.path in
    let going = subst (IsGoing content folder r.objects r.bytes r.builder.files r.builder.last) c.in-Some.ensures.items c.loop-found.invariant.0 in
    let at : IfSome content (λ k. Shows k (tree_path folder ++ path_of x) s) =
    subst (λ (q : Path). IfSome content (λ k. Shows k (tree_path folder ++ q) s)) c.in_ok-path.ensures.path
    (subst (λ (o : Option Content). IfSome o (λ k. Shows k (tree_path folder ++ p) s)) c.loop-found.invariant.3 c.in_ok-seen.ensures.from_content) in
    let few : is_over (suc r.objects) (r.bytes + seen_size s) ≡ false = ap (λ n. is_over (suc r.objects) (r.bytes + n)) (sym c.size_of.ensures.size) ∙ c.in_ok-count.ensures.ok in
    let within = not_over (suc r.objects) (r.bytes + seen_size s) few in
    let objects : c.take.new.self.objects ≡ suc r.objects = c.take.ensures.objects ∙ c.in_ok-count.ensures.objects in
    let bytes : c.take.new.self.bytes ≡ r.bytes + seen_size s = c.take.ensures.bytes ∙ c.in_ok-count.ensures.bytes ∙ ap (λ n. r.bytes + n) c.size_of.ensures.size in
    let builder : c.take.new.self.builder ≡ record { files = fin.insert r.builder.files (path_of x) (seen_object s); last = path_of x } =
    c.in_ok-take.ensures.builder
    ∙ ap (λ (b : Grown). record { files = fin.insert b.files p (seen_object s); last = p }) c.count.ensures.builder
    ∙ ap (λ (q : Path). record { files = fin.insert r.builder.files q (seen_object s); last = q }) c.in_ok-path.ensures.path in
    let kept : c.count.new.self.pending.items ≡ c.pop.new.self.items = rw c.count.ensures.pending refl in
    let pending : c.take.new.self.pending.items ≡ c.pop.new.self.items ++ reverse (found_below (path_of x) s) =
    c.in_ok-take.ensures.pending
    ∙ ap (λ (xs : List Found). xs ++ reverse (found_below p s)) kept
    ∙ ap (λ (q : Path). c.pop.new.self.items ++ reverse (found_below q s)) c.in_ok-path.ensures.path in (
      going_at content folder (suc r.objects) (r.bytes + seen_size s) (fin.insert r.builder.files (path_of x) (seen_object s)) (path_of x) (c.pop.new.self.items ++ reverse (found_below (path_of x) s))
          c.take.new.self.objects c.take.new.self.bytes c.take.new.self.builder c.take.new.self.pending.items objects bytes builder pending
          (going_on content folder r.objects r.bytes r.builder.files r.builder.last c.pop.new.self.items x going s c.take.ensures.ordered at few),
      omega (arith, objects, within.0),
      omega (arith, bytes, within.1),
      c.look.ensures.kept ∙ c.loop-found.invariant.3,
      omega (arith, c.look.ensures.never_falls, c.loop-found.invariant.4),
      plain_on r.builder.files (path_of x) s c.take.new.self.builder builder c.loop-found.invariant.5,
      c.look.ensures.unasked ∙ c.loop-found.invariant.6,
    )

pub returns-clause-real : goal.returns-clause-real
returns-clause-real g c =
    let content = g.H.Host.content c.args.host.now in
    let folder = spelled c.args.folder.now in
    let r = c.loop-found.reading in
    let none : r.pending.items ≡ [] = nil_from_length r.pending.items (sym r.pending.ok.0 ∙ c.in_default.ensures.cases.0) in
    let going = subst (IsGoing content folder r.objects r.bytes r.builder.files r.builder.last) none c.loop-found.invariant.0 in
    rw c.finish.ensures.files (going_real content folder r.objects r.bytes r.builder.files r.builder.last going)

pub returns-clause-plain : goal.returns-clause-plain
returns-clause-plain g c = rw c.finish.ensures.files c.loop-found.invariant.5

pub returns-in_err-items-clause-sound : goal.returns-in_err-items-clause-sound
returns-in_err-items-clause-sound g c = IfOk-from_err c.from_residual.result _ c.from_residual.ensures.0

pub returns-in_err-items-clause-real : goal.returns-in_err-items-clause-real
returns-in_err-items-clause-real g c = IfOk-from_err c.from_residual.result _ c.from_residual.ensures.0

pub returns-in_err-items-clause-plain : goal.returns-in_err-items-clause-plain
returns-in_err-items-clause-plain g c = IfOk-from_err c.from_residual.result _ c.from_residual.ensures.0

pub returns-in_err-items-clause-steps : goal.returns-in_err-items-clause-steps
returns-in_err-items-clause-steps g c = IfOk-from_err c.from_residual.result _ c.from_residual.ensures.0

pub returns-in_err-reading-clause-sound : goal.returns-in_err-reading-clause-sound
returns-in_err-reading-clause-sound g c = IfOk-from_err c.from_residual-in_err-reading.result _ c.from_residual-in_err-reading.ensures.0

pub returns-in_err-reading-clause-real : goal.returns-in_err-reading-clause-real
returns-in_err-reading-clause-real g c = IfOk-from_err c.from_residual-in_err-reading.result _ c.from_residual-in_err-reading.ensures.0

pub returns-in_err-reading-clause-plain : goal.returns-in_err-reading-clause-plain
returns-in_err-reading-clause-plain g c = IfOk-from_err c.from_residual-in_err-reading.result _ c.from_residual-in_err-reading.ensures.0

pub returns-in_err-reading-clause-steps : goal.returns-in_err-reading-clause-steps
returns-in_err-reading-clause-steps g c = IfOk-from_err c.from_residual-in_err-reading.result _ c.from_residual-in_err-reading.ensures.0

pub returns-in_err-path-clause-sound : goal.returns-in_err-path-clause-sound
returns-in_err-path-clause-sound g c = IfOk-from_err c.from_residual-in_err-path.result _ c.from_residual-in_err-path.ensures.0

pub returns-in_err-path-clause-real : goal.returns-in_err-path-clause-real
returns-in_err-path-clause-real g c = IfOk-from_err c.from_residual-in_err-path.result _ c.from_residual-in_err-path.ensures.0

pub returns-in_err-path-clause-plain : goal.returns-in_err-path-clause-plain
returns-in_err-path-clause-plain g c = IfOk-from_err c.from_residual-in_err-path.result _ c.from_residual-in_err-path.ensures.0

pub returns-in_err-path-clause-steps : goal.returns-in_err-path-clause-steps
returns-in_err-path-clause-steps g c = IfOk-from_err c.from_residual-in_err-path.result _ c.from_residual-in_err-path.ensures.0

pub returns-in_err-seen-clause-sound : goal.returns-in_err-seen-clause-sound
returns-in_err-seen-clause-sound g c = IfOk-from_err c.from_residual-in_err-seen.result _ c.from_residual-in_err-seen.ensures.0

pub returns-in_err-seen-clause-real : goal.returns-in_err-seen-clause-real
returns-in_err-seen-clause-real g c = IfOk-from_err c.from_residual-in_err-seen.result _ c.from_residual-in_err-seen.ensures.0

pub returns-in_err-seen-clause-plain : goal.returns-in_err-seen-clause-plain
returns-in_err-seen-clause-plain g c = IfOk-from_err c.from_residual-in_err-seen.result _ c.from_residual-in_err-seen.ensures.0

pub returns-in_err-seen-clause-steps : goal.returns-in_err-seen-clause-steps
returns-in_err-seen-clause-steps g c = IfOk-from_err c.from_residual-in_err-seen.result _ c.from_residual-in_err-seen.ensures.0

pub returns-in_err-count-clause-sound : goal.returns-in_err-count-clause-sound
returns-in_err-count-clause-sound g c = IfOk-from_err c.from_residual-in_err-count.result _ c.from_residual-in_err-count.ensures.0

pub returns-in_err-count-clause-real : goal.returns-in_err-count-clause-real
returns-in_err-count-clause-real g c = IfOk-from_err c.from_residual-in_err-count.result _ c.from_residual-in_err-count.ensures.0

pub returns-in_err-count-clause-plain : goal.returns-in_err-count-clause-plain
returns-in_err-count-clause-plain g c = IfOk-from_err c.from_residual-in_err-count.result _ c.from_residual-in_err-count.ensures.0

pub returns-in_err-count-clause-steps : goal.returns-in_err-count-clause-steps
returns-in_err-count-clause-steps g c = IfOk-from_err c.from_residual-in_err-count.result _ c.from_residual-in_err-count.ensures.0

pub returns-in_err-take-clause-sound : goal.returns-in_err-take-clause-sound
returns-in_err-take-clause-sound g c = IfOk-from_err c.from_residual-in_err-take.result _ c.from_residual-in_err-take.ensures.0

pub returns-in_err-take-clause-real : goal.returns-in_err-take-clause-real
returns-in_err-take-clause-real g c = IfOk-from_err c.from_residual-in_err-take.result _ c.from_residual-in_err-take.ensures.0

pub returns-in_err-take-clause-plain : goal.returns-in_err-take-clause-plain
returns-in_err-take-clause-plain g c = IfOk-from_err c.from_residual-in_err-take.result _ c.from_residual-in_err-take.ensures.0

pub returns-in_err-take-clause-steps : goal.returns-in_err-take-clause-steps
returns-in_err-take-clause-steps g c = IfOk-from_err c.from_residual-in_err-take.result _ c.from_residual-in_err-take.ensures.0

pub returns-in_err-items-clause-kept : goal.returns-in_err-items-clause-kept
returns-in_err-items-clause-kept g c = c.items_in_tree.ensures.kept

pub returns-in_err-items-clause-unasked : goal.returns-in_err-items-clause-unasked
returns-in_err-items-clause-unasked g c = c.items_in_tree.ensures.unasked

pub returns-in_err-items-clause-never_falls : goal.returns-in_err-items-clause-never_falls
returns-in_err-items-clause-never_falls g c = c.items_in_tree.ensures.never_falls

pub returns-in_err-reading-clause-kept : goal.returns-in_err-reading-clause-kept
returns-in_err-reading-clause-kept g c = c.items_in_tree.ensures.kept

pub returns-in_err-reading-clause-unasked : goal.returns-in_err-reading-clause-unasked
returns-in_err-reading-clause-unasked g c = c.items_in_tree.ensures.unasked

pub returns-in_err-reading-clause-never_falls : goal.returns-in_err-reading-clause-never_falls
returns-in_err-reading-clause-never_falls g c = c.items_in_tree.ensures.never_falls

pub returns-in_err-path-clause-kept : goal.returns-in_err-path-clause-kept
returns-in_err-path-clause-kept g c = c.loop-found.invariant.3

pub returns-in_err-path-clause-unasked : goal.returns-in_err-path-clause-unasked
returns-in_err-path-clause-unasked g c = c.loop-found.invariant.6

pub returns-in_err-path-clause-never_falls : goal.returns-in_err-path-clause-never_falls
returns-in_err-path-clause-never_falls g c = c.loop-found.invariant.4

pub returns-clause-kept : goal.returns-clause-kept
returns-clause-kept g c = c.loop-found.invariant.3

pub returns-clause-unasked : goal.returns-clause-unasked
returns-clause-unasked g c = c.loop-found.invariant.6

pub returns-clause-never_falls : goal.returns-clause-never_falls
returns-clause-never_falls g c = c.loop-found.invariant.4

pub returns-in_err-seen-clause-kept : goal.returns-in_err-seen-clause-kept
returns-in_err-seen-clause-kept g c = c.look.ensures.kept ∙ c.loop-found.invariant.3

pub returns-in_err-seen-clause-unasked : goal.returns-in_err-seen-clause-unasked
returns-in_err-seen-clause-unasked g c = c.look.ensures.unasked ∙ c.loop-found.invariant.6

pub returns-in_err-count-clause-kept : goal.returns-in_err-count-clause-kept
returns-in_err-count-clause-kept g c = c.look.ensures.kept ∙ c.loop-found.invariant.3

pub returns-in_err-count-clause-unasked : goal.returns-in_err-count-clause-unasked
returns-in_err-count-clause-unasked g c = c.look.ensures.unasked ∙ c.loop-found.invariant.6

pub returns-in_err-take-clause-kept : goal.returns-in_err-take-clause-kept
returns-in_err-take-clause-kept g c = c.look.ensures.kept ∙ c.loop-found.invariant.3

pub returns-in_err-take-clause-unasked : goal.returns-in_err-take-clause-unasked
returns-in_err-take-clause-unasked g c = c.look.ensures.unasked ∙ c.loop-found.invariant.6

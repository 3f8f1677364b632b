use Rattle.std.proofs.Common.{◌≡◌, true, false, ap, refl, subst, sym}
use Rattle.std.specs.Prelude.{IfSome}
use Rattle.std.specs.Option.{option_to_list}
use Rattle.pv_path.specs.Paths.{Path}
use Rattle.pv_steps.specs.Trees.{Files, places}
use Rattle.pv_folder.specs.Content.{held, spelled}
use Rattle.pv_folder.specs.Folders.{Agrees, tree_path}
use Rattle.pv_folder.specs.Keeping.{IsChangedBy, MayAskFor, change_for}
use Rattle.pv_folder.specs.Made.{AreRecorded}
use Rattle.pv_folder.proofs.ReadyLaws.{agrees_step, may_ask_for, moves_done, moves_half, outside_step, ready_step}
use Rattle.pv_folder.proofs.folder_tree.FolderTreeTree.step.Goals as goal

pub ask_for-requires : goal.ask_for-requires
ask_for-requires g c =
    let folder = spelled c.args.self.now.folder.items in
    let old = g.H.Host.content c.args.self.now.host.now in
    subst (λ (f : Path). MayAskFor old (change_for (tree_path f) (places c.args.self.now.tree.files) c.args.step.now)) (sym (ap spelled c.deref.ensures.value))
    (may_ask_for folder c.args.self.now.tree.files c.args.step.now c.args.now c.args.self.now.tree.tree c.requires c.parts_fit.ensures old c.args.self.now.ready (c.args.self.now.agrees c.if-self.false))

pub invariant_of-self-in-Break-1 : goal.invariant_of-self-in-Break-1
invariant_of-self-in-Break-1 g c =
    let folder = spelled c.args.self.now.folder.items in
    let old = g.H.Host.content c.args.self.now.host.now in
    let new = g.H.Host.content c.ask_for.new.host in
    let asked : IsChangedBy (change_for (tree_path folder) (places c.args.self.now.tree.files) c.args.step.now) old new =
    subst (λ (f : Path). IsChangedBy (change_for (tree_path f) (places c.args.self.now.tree.files) c.args.step.now) old new) (ap spelled c.deref.ensures.value) c.in-Ok.ensures.done in
    record {
      ready = ready_step folder c.args.self.now.tree.files c.args.step.now c.args.now c.args.self.now.tree.tree c.requires c.parts_fit.ensures old new asked c.ranges.now.fits c.args.self.now.ready (c.args.self.now.agrees c.if-self.false);
      agrees = λ e. absurd (let no : true ≡ false = e in cc);
    }

pub returns-in_err-step-clause-reaches : goal.returns-in_err-step-clause-reaches
returns-in_err-step-clause-reaches g c =
    let folder = spelled c.args.self.now.folder.items in
    let old = g.H.Host.content c.args.self.now.host.now in
    let new = g.H.Host.content c.ask_for.new.host in
    let asked : IsChangedBy (change_for (tree_path folder) (places c.args.self.now.tree.files) c.args.step.now) old new =
    subst (λ (f : Path). IsChangedBy (change_for (tree_path f) (places c.args.self.now.tree.files) c.args.step.now) old new) (ap spelled c.deref.ensures.value) c.in-Ok.ensures.done in
    let recorded : AreRecorded (option_to_list (change_for (tree_path folder) (places c.args.self.now.tree.files) c.args.step.now)) (g.H.Host.changes c.args.self.now.host.now) (g.H.Host.changes c.ask_for.new.host) =
    subst (λ (f : Path). AreRecorded (option_to_list (change_for (tree_path f) (places c.args.self.now.tree.files) c.args.step.now)) (g.H.Host.changes c.args.self.now.host.now) (g.H.Host.changes c.ask_for.new.host)) (ap spelled c.deref.ensures.value) c.in-Ok.ensures.recorded in
    let outside = outside_step folder c.args.self.now.tree.files c.args.step.now c.args.now c.args.self.now.tree.tree c.requires c.parts_fit.ensures old new asked in (
      refl,
      moves_half folder c.args.self.now.tree.files _ c.args.self.now.tree.steps _ old new _ _ _ _ c.args.self.now.pending true c.if-self.false c.ask_for.ensures.never_falls
          c.args.step.now c.args.now outside asked recorded refl c.in_err-step.ensures.kept c.in_err-step.ensures.unrecorded c.requires c.parts_fit.ensures
          (agrees_step folder c.args.self.now.tree.files c.args.step.now c.args.now c.args.self.now.tree.tree c.requires c.parts_fit.ensures old new asked (c.args.self.now.agrees c.if-self.false)),
    )

pub invariant_of-self-2 : goal.invariant_of-self-2
invariant_of-self-2 g c =
    let folder = spelled c.args.self.now.folder.items in
    let old = g.H.Host.content c.args.self.now.host.now in
    let new = g.H.Host.content c.ask_for.new.host in
    let asked : IsChangedBy (change_for (tree_path folder) (places c.args.self.now.tree.files) c.args.step.now) old new =
    subst (λ (f : Path). IsChangedBy (change_for (tree_path f) (places c.args.self.now.tree.files) c.args.step.now) old new) (ap spelled c.deref.ensures.value) c.in-Ok.ensures.done in
    record {
      ready = ready_step folder c.args.self.now.tree.files c.args.step.now c.args.now c.args.self.now.tree.tree c.requires c.parts_fit.ensures old new asked c.ranges.now.fits c.args.self.now.ready (c.args.self.now.agrees c.if-self.false);
      agrees = λ settled.
          subst (λ (t : Files). IfSome new (λ x. Agrees folder t (held x))) (sym c.in_ok-step.ensures.state)
          (agrees_step folder c.args.self.now.tree.files c.args.step.now c.args.now c.args.self.now.tree.tree c.requires c.parts_fit.ensures old new asked (c.args.self.now.agrees c.if-self.false));
    }

pub returns-clause-reaches : goal.returns-clause-reaches
returns-clause-reaches g c =
    let folder = spelled c.args.self.now.folder.items in
    let old = g.H.Host.content c.args.self.now.host.now in
    let new = g.H.Host.content c.ask_for.new.host in
    let asked : IsChangedBy (change_for (tree_path folder) (places c.args.self.now.tree.files) c.args.step.now) old new =
    subst (λ (f : Path). IsChangedBy (change_for (tree_path f) (places c.args.self.now.tree.files) c.args.step.now) old new) (ap spelled c.deref.ensures.value) c.in-Ok.ensures.done in
    let recorded : AreRecorded (option_to_list (change_for (tree_path folder) (places c.args.self.now.tree.files) c.args.step.now)) (g.H.Host.changes c.args.self.now.host.now) (g.H.Host.changes c.ask_for.new.host) =
    subst (λ (f : Path). AreRecorded (option_to_list (change_for (tree_path f) (places c.args.self.now.tree.files) c.args.step.now)) (g.H.Host.changes c.args.self.now.host.now) (g.H.Host.changes c.ask_for.new.host)) (ap spelled c.deref.ensures.value) c.in-Ok.ensures.recorded in
    let outside = outside_step folder c.args.self.now.tree.files c.args.step.now c.args.now c.args.self.now.tree.tree c.requires c.parts_fit.ensures old new asked in (
      refl,
      moves_done folder c.args.self.now.tree.files _ c.args.self.now.tree.steps _ old new _ _ _ _ c.args.self.now.pending false c.if-self.false c.ask_for.ensures.never_falls
          c.args.step.now c.args.now outside asked recorded refl c.in_ok-step.ensures.state c.in_ok-step.ensures.recorded,
    )

pub returns-clause-changed : goal.returns-clause-changed
returns-clause-changed g c =
    let folder = spelled c.args.self.now.folder.items in
    let old = g.H.Host.content c.args.self.now.host.now in
    let new = g.H.Host.content c.ask_for.new.host in
    let asked : IsChangedBy (change_for (tree_path folder) (places c.args.self.now.tree.files) c.args.step.now) old new =
    subst (λ (f : Path). IsChangedBy (change_for (tree_path f) (places c.args.self.now.tree.files) c.args.step.now) old new) (ap spelled c.deref.ensures.value) c.in-Ok.ensures.done in
    asked

pub returns-clause-asked : goal.returns-clause-asked
returns-clause-asked g c =
    let folder = spelled c.args.self.now.folder.items in
    let recorded : AreRecorded (option_to_list (change_for (tree_path folder) (places c.args.self.now.tree.files) c.args.step.now)) (g.H.Host.changes c.args.self.now.host.now) (g.H.Host.changes c.ask_for.new.host) =
    subst (λ (f : Path). AreRecorded (option_to_list (change_for (tree_path f) (places c.args.self.now.tree.files) c.args.step.now)) (g.H.Host.changes c.args.self.now.host.now) (g.H.Host.changes c.ask_for.new.host)) (ap spelled c.deref.ensures.value) c.in-Ok.ensures.recorded in
    recorded

use Rattle.std.proofs.Common.{◌≡◌, sym, subst}
use Rattle.pv_steps.specs.Acting.{Acted}
use Rattle.pv_steps.specs.Trees.{places}
use Rattle.pv_table.specs.declared.action.Action.{Action}
use Rattle.pv_table.specs.declared.action.Action.TheVariants.{Copy}
use Rattle.pv_table.specs.Created.{turn_work}
use Rattle.pv_table.specs.Turns.{Turn, decide, view_of}
use Rattle.pv_walk.specs.Copying.{IsCopyStep, IsTopNode, Subtree}
use Rattle.pv_walk.specs.Replacing.{Replacing}
use Rattle.pv_create.specs.Deciding.{subtree_of}
use Rattle.pv_create.specs.Actions.{IsAction}
use Rattle.pv_create.specs.Turning.{Settles}
use Rattle.pv_create.proofs.PuttingLaws.{stageable, put_nonroot, new_tree, top_fits, directory_is, copied_is, copied_tree}
use Rattle.pv_create.proofs.putting.put.Goals as goal
use Rattle.pv_path.proofs.Tests.{on_ok}

pub put_over-requires-clause-not_root : goal.put_over-requires-clause-not_root
put_over-requires-clause-not_root g c =
    let path = c.args.at.now.path.now in
    let u = g.T.Tree.state c.args.tree.now in
    put_nonroot c.in-Create.making path u c.requires.tree (subst (IsAction path) c.in-Create.is c.requires.action).1 _
    (subst (λ (d : Action). decide d (view_of u) path ≡ Turn.Put (subtree_of d (view_of u))) c.in-Create.is c.requires.turn)

pub put_over-requires-clause-short : goal.put_over-requires-clause-short
put_over-requires-clause-short g c = let path = c.args.at.now.path.now in stageable path (subst (IsAction path) c.in-Create.is c.requires.action).0.short

pub returns-in-Create : goal.returns-in-Create
returns-in-Create g c =
    let path = c.args.at.now.path.now in
    let now = c.args.at.now.now in
    let u = g.T.Tree.state c.args.tree.now in
    subst (λ (d : Action). Settles g.T.Tree now d path (Turn.Put (subtree_of d (view_of u))) c.args.tree.now c.put_over.new.tree c.put_over.result) (sym c.in-Create.is) (record {
      ok = on_ok c.put_over.result (λ e. new_tree now path c.in-Create.making u (g.T.Tree.state c.put_over.new.tree) e) c.put_over.ensures.ok;
      acted = c.put_over.ensures.acted;
    })

pub copy_over-requires-clause-short : goal.copy_over-requires-clause-short
copy_over-requires-clause-short g c = let path = c.args.at.now.path.now in stageable path (subst (IsAction path) c.in-Copy.is c.requires.action).0.short

pub copy_over-requires-clause-top : goal.copy_over-requires-clause-top
copy_over-requires-clause-top g c =
    let path = c.args.at.now.path.now in
    subst IsTopNode (sym c.top-top.ensures) (top_fits path c.in-Copy.copying c.is_directory.result (subst (IsAction path) c.in-Copy.is c.requires.action).1)

pub returns-in-Copy : goal.returns-in-Copy
returns-in-Copy g c =
    let path = c.args.at.now.path.now in
    let now = c.args.at.now.now in
    let copying = c.in-Copy.copying in
    let t = g.T.Tree.state c.args.tree.now in
    let kind = directory_is c.is_directory.result (places t copying.source) c.is_directory.ensures.kind.0 c.is_directory.ensures.kind.1 in
    subst (λ (d : Action). Settles g.T.Tree now d path (Turn.Put (subtree_of d (view_of t))) c.args.tree.now c.copy_over.new.tree c.copy_over.result) (sym c.in-Copy.is) (record {
      ok = on_ok c.copy_over.result (λ e. copied_tree now path copying t c.is_directory.result kind c.top-top.result c.top-top.ensures (g.T.Tree.state c.copy_over.new.tree) e) c.copy_over.ensures.ok;
      acted =
          subst (λ (s : Subtree). Acted g.T.Tree (Replacing path s t) (IsCopyStep path s) (turn_work (Copy copying) path (Turn.Put s) t) now c.args.tree.now c.copy_over.new.tree c.copy_over.result)
          (copied_is now path copying t c.is_directory.result kind c.top-top.result c.top-top.ensures) c.copy_over.ensures.acted;
    })

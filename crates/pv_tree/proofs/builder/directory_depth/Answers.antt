use Rattle.std.proofs.Common.{◌≡◌, true, false, Result, Err, ℕ, Some, ap, sym, ◌∙◌}
use Rattle.std.proofs.lemmas.Result.{err_from_is_err_and}
use Rattle.pv_path.specs.Paths.{is_prefix, parent_of}
use Rattle.pv_tree.specs.declared.builder.BuildFault.{BuildFault}
use Rattle.pv_tree.specs.declared.builder.BuildFault.TheVariants as fault
use Rattle.pv_tree.proofs.GrowthLaws.{directory_number, parent_there, parent_other, parent_before}
use Rattle.pv_tree.proofs.builder.directory_depth.Goals as goal

pub returns-in_err-depth-clause-orphan : goal.returns-in_err-depth-clause-orphan
returns-in_err-depth-clause-orphan c = λ e kind.
    let p = err_from_is_err_and c.from_residual.result c.from_residual.ensures.1 in
    let same : ◌≡◌ {A = Result ℕ BuildFault} (Err p.0) (Err fault.NoParent) = sym p.1 ∙ e in
    let stated : p.0 ≡ fault.NoParent = cc in
    let is : c.in_err-depth.field-0.0 ≡ fault.NoParent = sym p.2 ∙ stated in
    let apart : is_prefix (parent_of c.args.path.now) c.args.last.now ≡ false = c.in_err-depth.ensures.apart (ap (λ (f : BuildFault). Err f) is) in
    let before : is_prefix (parent_of c.args.path.now) c.args.last.now ≡ true =
    parent_before c.args.slots.now.items c.requires.0 c.args.last.now c.args.path.now c.args.way.now.items c.requires.1 (c.in_err-depth.ensures.late (ap (λ (f : BuildFault). Err f) is)) kind in
    cc

pub is_directory_in-requires : goal.is_directory_in-requires
is_directory_in-requires c =
    c.requires.1.held.forest.within (parent_of c.args.path.now) c.index-directory.result.now
    (directory_number c.args.slots.now.items c.requires.0 c.args.last.now c.args.path.now c.args.way.now.items c.requires.1 c.in_ok-depth.ensures.after c.in_ok-depth.depth c.index-directory.result.now c.in_ok-depth.ensures.depth c.in_ok-depth.ensures.within c.index-directory.ensures)

pub returns-then-not-is_directory_in-clause-orphan : goal.returns-then-not-is_directory_in-clause-orphan
returns-then-not-is_directory_in-clause-orphan c = λ e kind.
    parent_other c.args.slots.now.items c.requires.0 c.args.last.now c.args.path.now c.args.way.now.items c.requires.1 c.in_ok-depth.ensures.after c.in_ok-depth.depth c.index-directory.result.now c.in_ok-depth.ensures.depth c.in_ok-depth.ensures.within c.index-directory.ensures (c.is_directory_in.ensures ∙ ap Some c.if-not-is_directory_in.true) kind

pub returns-clause-there : goal.returns-clause-there
returns-clause-there c = parent_there c.args.slots.now.items c.requires.0 c.args.last.now c.args.path.now c.args.way.now.items c.requires.1 c.in_ok-depth.ensures.after c.in_ok-depth.depth c.index-directory.result.now c.in_ok-depth.ensures.depth c.in_ok-depth.ensures.within c.index-directory.ensures (c.is_directory_in.ensures ∙ ap Some c.if-not-is_directory_in.false)

use Rattle.std.proofs.Common.{◌≡◌, Result, Err, List, ℕ, ◌+◌, ◌++◌, ◌∷◌, [], take, ap, sym, ◌∙◌}
use Rattle.std.proofs.lemmas.Result.{err_from_is_err_and}
use Rattle.pv_tree.specs.declared.builder.BuildFault.{BuildFault}
use Rattle.pv_tree.specs.declared.builder.BuildFault.TheVariants as fault
use Rattle.pv_tree.proofs.GrowthLaws.{directory_number, next_absent, grown}
use Rattle.pv_tree.proofs.builder.add_after.Goals as goal

pub returns-in_err-depth-clause-orphan : goal.returns-in_err-depth-clause-orphan
returns-in_err-depth-clause-orphan c = λ e kind.
    let p = err_from_is_err_and c.from_residual.result c.from_residual.ensures.1 in
    let same : ◌≡◌ {A = Result (Unit {0}) BuildFault} (Err p.0) (Err fault.NoParent) = sym p.1 ∙ e in
    let stated : p.0 ≡ fault.NoParent = cc in
    let is : c.in_err-depth.field-0.0 ≡ fault.NoParent = sym p.2 ∙ stated in
    c.in_err-depth.ensures.orphan (ap (λ (f : BuildFault). Err f) is) kind

pub directory_depth-requires : goal.directory_depth-requires
directory_depth-requires c = (c.args.free.now.items, c.requires.growing)

pub put_below-requires-clause-room : goal.put_below-requires-clause-room
put_below-requires-clause-room c = (
  next_absent c.args.slots.now.items c.args.free.now.items c.args.last.now c.args.path c.args.way.now.items c.requires.growing c.in_ok-depth.ensures.after,
  c.in_ok-depth.ensures.there,
)

pub put_below-requires-clause-directory : goal.put_below-requires-clause-directory
put_below-requires-clause-directory c = directory_number c.args.slots.now.items c.args.free.now.items c.args.last.now c.args.path c.args.way.now.items c.requires.growing c.in_ok-depth.ensures.after c.in_ok-depth.depth c.index-directory.result.now c.in_ok-depth.ensures.depth c.in_ok-depth.ensures.within (rw c.directory_depth.ensures.way at c.index-directory.ensures)

pub returns-clause-growing : goal.returns-clause-growing
returns-clause-growing c =
    grown c.args.slots.now.items c.put_below.new.slots.items c.args.free.now.items c.put_below.new.free.items c.args.last.now c.args.path c.args.way.now.items c.push_within.new.items.items
    c.in_ok-depth.depth c.in_ok-number.number c.args.object c.requires.growing c.in_ok-depth.ensures.after c.in_ok-depth.ensures.depth c.in_ok-depth.ensures.parent c.in_ok-depth.ensures.within
    c.in_ok-depth.ensures.there
    c.requires.named c.requires.object c.put_below.ensures.forest c.put_below.ensures.free c.in_ok-number.ensures.ok c.in_ok-number.ensures.number c.in_ok-number.ensures.others
    (c.push_within.ensures ∙ ap (λ (v : List ℕ). v ++ c.in_ok-number.number ∷ []) (c.truncate.ensures.items ∙ ap (λ (v : List ℕ). take (c.in_ok-depth.depth + 1) v) c.directory_depth.ensures.way))

pub returns-in_err-number-clause-growing : goal.returns-in_err-number-clause-growing
returns-in_err-number-clause-growing c = rw (c.in_err-number.ensures.err, c.directory_depth.ensures.way) (record {
  held = record {
    forest = c.requires.growing.held.forest;
    spare = rw c.in_err-number.ensures.err at c.put_below.ensures.free;
    tree = c.requires.growing.held.tree;
  };
  whole = c.requires.growing.whole;
  on_way = c.requires.growing.on_way;
  final = c.requires.growing.final;
})

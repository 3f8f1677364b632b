use Rattle.std.proofs.Common.{◌≡◌, ◌∙◌, map, sym, ap}
use Rattle.std.proofs.lemmas.List.{take_all}
use Rattle.pv_folder.specs.Memory.{item_at}
use Rattle.pv_folder.proofs.Naming.{items_are, next_rises}
use Rattle.pv_folder.proofs.tree_host.items_of.Goals as goal

pub push-requires : goal.push-requires
push-requires c =
    let names = c.as_slice-name-items.result.now in
    let i = c.loop-name.name-index in
    let item : c.in_ok-item_of.field-0 ≡ item_at c.args.tree.now.files c.args.path.now c.name-item.result = c.in_ok-item_of.ensures in
    rw (c.loop-name.invariant, item, c.name-item.is)
    (next_rises c.args.tree.now.files c.args.path.now names i c.name-item.result (c.as_slice-name-items.ensures ∙ c.in_ok-names.ensures) c.loop-name-test.true)

pub returns : goal.returns
returns c =
    let names = c.as_slice-name-items.result.now in
    c.loop-name.invariant
    ∙ ap (map (item_at c.args.tree.now.files c.args.path.now)) (take_all c.loop-name.name-index names c.loop-name-test.false ∙ c.as_slice-name-items.ensures ∙ c.in_ok-names.ensures)
    ∙ sym (items_are c.args.tree.now.files c.args.path.now)

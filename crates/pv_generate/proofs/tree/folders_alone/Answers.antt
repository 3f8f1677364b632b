use Rattle.std.proofs.Common.{refl, ◌≡◌, []}
use Rattle.std.specs.FinMap as fin
use Rattle.pv_generate.specs.Trees.{data_path, directory, etc_path, folder_path}
use Rattle.pv_generate.proofs.TreeLaws.{folders_are, put_next, root_only, with_etc, with_folder}
use Rattle.pv_generate.proofs.tree.folders_alone.Goals as goal

pub returns : goal.returns
returns c =
    let etc = c.in_ok-etc.ensures in
    let one : c.add_directory.new.plan ≡ root_only =
    put_next c.new-plan.result c.add_directory.new.plan fin.empty root_only c.root-root.result [] directory directory c.in_ok-add_directory.ensures c.new-plan.ensures c.root-root.ensures refl refl in
    let two : c.add_directory-2.new.plan ≡ with_etc =
    put_next c.add_directory.new.plan c.add_directory-2.new.plan root_only with_etc c.in_ok-etc.etc etc_path directory directory c.in_ok-add_directory-2.ensures one etc refl refl in
    let three : c.add_directory-3.new.plan ≡ with_folder =
    put_next c.add_directory-2.new.plan c.add_directory-3.new.plan with_etc with_folder c.in_ok-folder_path.field-0 folder_path directory directory c.in_ok-add_directory-3.ensures two c.in_ok-folder_path.ensures refl refl in
    put_next c.add_directory-3.new.plan c.add_directory-4.new.plan with_folder _ c.in_ok-data_path.field-0 data_path directory directory c.in_ok-add_directory-4.ensures three c.in_ok-data_path.ensures refl folders_are

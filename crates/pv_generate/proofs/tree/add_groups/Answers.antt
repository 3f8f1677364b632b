use Rattle.std.proofs.Common.{arith, refl, subst, sym, ◌+◌, ◌∙◌, ◌≡◌, true, List, ℕ}
use Rattle.pv_path.specs.Names.{is_name}
use Rattle.pv_generate.specs.Trees.{data_path, directory, group_path, numbered, with_groups}
use Rattle.pv_generate.proofs.TreeLaws.{group_name, groups_next, groups_none, named_path, put_next}
use Rattle.pv_generate.proofs.tree.add_groups.Goals as goal

pub loop-n-init : goal.loop-n-init
loop-n-init c = c.requires.folders ∙ groups_none

pub child-requires : goal.child-requires
child-requires c =
    subst (λ (b : List ℕ). is_name b ≡ true) (sym (c.deref.ensures.value ∙ c.in_ok-numbered.ensures)) (group_name c.loop-n.n (omega (arith, c.loop-n.auto.n-end, c.loop-n-test.true)))

pub loop-n-preserved : goal.loop-n-preserved
loop-n-preserved c =
    let n = c.loop-n.n in
    let is = named_path c.args.folder.now c.in_ok-path.path data_path c.deref.result.now (numbered 103 n) c.in_ok-path.ensures c.requires.folder (c.deref.ensures.value ∙ c.in_ok-numbered.ensures) in
    put_next c.loop-n.plan c.add_directory.new.plan (with_groups n) (with_groups (n + 1)) c.in_ok-path.path (group_path n) directory directory c.in_ok-add_directory.ensures c.loop-n.invariant is refl (groups_next n)

use Rattle.std.proofs.Common.{arith, ap, subst, sym, ◌+◌, ◌%◌, ◌∙◌, ◌≡◌, codes, true, List, ℕ}
use Rattle.pv_path.specs.Names.{is_name}
use Rattle.pv_steps.specs.declared.node.Kind.TheVariants.{File}
use Rattle.pv_steps.specs.Objects.{fresh}
use Rattle.pv_generate.specs.Trees.{data_path, file, group_path, numbered, old_path, with_olds}
use Rattle.pv_generate.proofs.TreeLaws.{group_name, named_path, old_name, olds_next, olds_none, put_next}
use Rattle.pv_generate.proofs.tree.add_olds.Goals as goal

pub loop-n-init : goal.loop-n-init
loop-n-init c = c.requires.groups ∙ olds_none

pub child-requires : goal.child-requires
child-requires c =
    subst (λ (b : List ℕ). is_name b ≡ true) (sym (c.deref.ensures.value ∙ c.in_ok-numbered.ensures)) (group_name (c.loop-n.n % 8) (omega arith))

pub child-requires-in-loop-n : goal.child-requires-in-loop-n
child-requires-in-loop-n c =
    subst (λ (b : List ℕ). is_name b ≡ true) (sym (c.deref-in-loop-n.ensures.value ∙ c.in_ok-numbered-2.ensures))
    (old_name c.loop-n.n (omega (arith, c.ranges.count.fits, c.loop-n.auto.n-end, c.loop-n-test.true)))

pub loop-n-preserved : goal.loop-n-preserved
loop-n-preserved c =
    let n = c.loop-n.n in
    let group = named_path c.args.folder.now c.in_ok-group.group data_path c.deref.result.now (numbered 103 (n % 8)) c.in_ok-group.ensures c.requires.folder (c.deref.ensures.value ∙ c.in_ok-numbered.ensures) in
    let is = named_path c.in_ok-group.group c.in_ok-path.path (group_path (n % 8)) c.deref-in-loop-n.result.now (numbered 101 n) c.in_ok-path.ensures group (c.deref-in-loop-n.ensures.value ∙ c.in_ok-numbered-2.ensures) in
    let put : c.object.result ≡ file (codes "old") = c.object.ensures ∙ ap (λ (b : List ℕ). fresh File 0o644 b 0 0 0) c.in_ok-bytes.ensures in
    put_next c.loop-n.plan c.put.new.self (with_olds n) (with_olds (n + 1)) c.in_ok-path.path (old_path n) c.object.result (file (codes "old")) c.in_ok-put.ensures c.loop-n.invariant is put (olds_next n)

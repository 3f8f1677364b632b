use Rattle.std.proofs.Common.{arith, ap, refl, subst, sym, ◌<◌, ◌^◌, ◌∙◌, ◌≡◌, ◌++◌, ◌∷◌, [], codes, nat_lt, true, IfOk, List, ℕ}
use Rattle.std.specs.List.{list_all}
use Rattle.pv_path.specs.Paths.{Path}
use Rattle.pv_steps.specs.declared.node.Kind.TheVariants.{File}
use Rattle.pv_steps.specs.Objects.{fresh}
use Rattle.pv_steps.specs.Trees.{Files, IsTree}
use Rattle.pv_generate.specs.Lines.{lines_of}
use Rattle.pv_generate.specs.Trees.{conf_path, file, generated, with_olds}
use Rattle.pv_generate.proofs.TreeLaws.{generated_is_tree, put_next}
use Rattle.pv_generate.proofs.tree.generated_tree.Goals as goal

planned : (c : goal.In_ok-put) → c.put.new.self ≡ generated c.args.seed c.args.count
planned c =
    let lines = lines_of c.args.seed c.args.count in
    let path = c.in_ok-path.ensures ∙ ap (λ (p : Path). p ++ codes "gen.conf" ∷ []) c.in_ok-folder_path.ensures in
    let same : c.object.result ≡ file lines = c.object.ensures ∙ ap (λ (b : List ℕ). fresh File 0o644 b 0 0 0) (c.from_vec-lines.ensures ∙ c.in_ok-lines_of.ensures.text) in
    put_next c.add_olds.new.plan c.put.new.self (with_olds c.args.count) (generated c.args.seed c.args.count) c.in_ok-path.path conf_path c.object.result (file lines) c.in_ok-put.ensures c.in_ok-add_olds.ensures path same refl

pub grow-requires : goal.grow-requires
grow-requires c =
    let bytes = subst (λ (b : List ℕ). list_all (λ x. nat_lt x 256) b ≡ true) c.in_ok-lines_of.ensures.text c.in_ok-lines_of.ensures.bytes in
    let small : c.args.count < 2 ^ 32 = omega (arith, c.ranges.count.fits) in
    subst IsTree (sym (planned c)) (generated_is_tree c.args.seed c.args.count small bytes)

pub returns-clause-files : goal.returns-clause-files
returns-clause-files c = subst (λ (files : Files). IfOk c.grow.result (λ tree. tree.files ≡ files)) (planned c.before.before) c.grow.ensures.files

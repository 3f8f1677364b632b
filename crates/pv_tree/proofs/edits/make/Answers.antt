use Rattle.std.proofs.Common.{◌≡◌, ◌≤◌, ℕ, Some, ap, sym, ◌∙◌, arith}
use Rattle.pv_path.specs.Paths.{parent_of}
use Rattle.pv_path.proofs.PathLaws.{parent_of-differs}
use Rattle.pv_steps.specs.declared.node.Kind.TheVariants.{Directory}
use Rattle.pv_steps.specs.Objects.{modified}
use Rattle.pv_steps.specs.Steps.{on_at}
use Rattle.pv_steps.proofs.TreeLaws.{not_absent, present_of_kind}
use Rattle.pv_tree.specs.Edges.{Edges, led}
use Rattle.pv_tree.specs.Slots.{number_in, places_in}
use Rattle.pv_tree.proofs.ForestLaws.{change_places, forest_same, free_still, unreached_same}
use Rattle.std.proofs.lemmas.Result.{IfOk-from_err, MatchResult-from_err}
use Rattle.pv_tree.proofs.edits.make.Goals as goal

-- the directory has the same number with the new object in it
directory : (c : goal.After-touch) → number_in c.put_below.new.slots.items (parent_of c.args.at.path.now) ≡ Some c.args.at.directory
directory c =
    c.in_ok-put_below.ensures.others (parent_of c.args.at.path.now) (parent_of-differs c.args.at.path.now (λ root.
    not_absent (places_in c.args.slots.now.items) (parent_of c.args.at.path.now) (present_of_kind (places_in c.args.slots.now.items) (parent_of c.args.at.path.now) Directory c.requires.room.1)
    (ap (λ p. places_in c.args.slots.now.items (parent_of p)) root ∙ sym (ap (places_in c.args.slots.now.items) root) ∙ c.requires.room.0)))
    ∙ c.requires.directory

pub touch-requires : goal.touch-requires
touch-requires c = c.put_below.ensures.forest.within (parent_of c.args.at.path.now) c.args.at.directory (c.in_ok-put_below.ensures.others (parent_of c.args.at.path.now) (parent_of-differs c.args.at.path.now (λ root.
    not_absent (places_in c.args.slots.now.items) (parent_of c.args.at.path.now) (present_of_kind (places_in c.args.slots.now.items) (parent_of c.args.at.path.now) Directory c.requires.room.1)
    (ap (λ p. places_in c.args.slots.now.items (parent_of p)) root ∙ sym (ap (places_in c.args.slots.now.items) root) ∙ c.requires.room.0)))
    ∙ c.requires.directory)

pub returns-clause-ok : goal.returns-clause-ok
returns-clause-ok c =
    change_places c.put_below.new.slots.items c.touch.new.slots.items c.touch.ensures.edges c.touch.ensures.length c.args.at.directory (modified c.args.now) (parent_of c.args.at.path.now)
    c.put_below.ensures.forest (directory c) c.touch.ensures.objects
    ∙ ap (on_at (parent_of c.args.at.path.now) (modified c.args.now)) c.in_ok-put_below.ensures.ok

pub returns-clause-directory : goal.returns-clause-directory
returns-clause-directory c = ap (λ (g : Edges). led g 0 (parent_of c.args.at.path.now)) c.touch.ensures.edges ∙ directory c

pub returns-in_err-put_below-clause-ok : goal.returns-in_err-put_below-clause-ok
returns-in_err-put_below-clause-ok c = IfOk-from_err c.from_residual.result _ c.from_residual.ensures.0

pub returns-in_err-put_below-clause-directory : goal.returns-in_err-put_below-clause-directory
returns-in_err-put_below-clause-directory c = IfOk-from_err c.from_residual.result _ c.from_residual.ensures.0

pub returns-in_err-put_below-clause-err : goal.returns-in_err-put_below-clause-err
returns-in_err-put_below-clause-err c = MatchResult-from_err c.from_residual.result _ _ c.from_residual.ensures.0 (λ _. c.in_err-put_below.ensures.err)

pub returns-clause-forest : goal.returns-clause-forest
returns-clause-forest c = forest_same c.put_below.new.slots.items c.touch.new.slots.items c.touch.ensures.edges c.touch.ensures.length c.put_below.ensures.forest

no_fewer : (m n : ℕ) → n ≡ m → m ≤ n
no_fewer m n e = omega arith

pub returns-clause-free : goal.returns-clause-free
returns-clause-free c =
    free_still c.put_below.new.slots.items c.touch.new.slots.items c.put_below.new.free.items (unreached_same c.put_below.new.slots.items c.touch.new.slots.items c.touch.ensures.edges c.touch.ensures.length)
    (no_fewer _ _ c.touch.ensures.length) c.put_below.ensures.free

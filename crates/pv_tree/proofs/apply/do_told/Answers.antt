use Rattle.std.proofs.Common.{ap, sym, subst, ◌∙◌}
use Rattle.pv_path.specs.Paths.{Path, parent_of}
use Rattle.pv_steps.specs.Trees.{IsPresentIn}
use Rattle.pv_tree.specs.Slots.{number_in, places_in}
use Rattle.pv_tree.proofs.NearLaws.{can_parent, near_last}
use Rattle.pv_tree.proofs.apply.do_told.Goals as goal

pub directory_by-directory-requires-clause-present : goal.directory_by-directory-requires-clause-present
directory_by-directory-requires-clause-present c =
    subst (λ (p : Path). IsPresentIn (places_in c.args.slots.now.items) (parent_of p)) (sym c.place_of-path.ensures) (can_parent (places_in c.args.slots.now.items) c.args.step.now c.requires.tree c.requires.can)

pub returns-in-Ok-clause-near : goal.returns-in-Ok-clause-near
returns-in-Ok-clause-near c =
    near_last c.do_step.new.slots.items c.args.log.now.steps.items c.tell.new.steps.items c.args.step.now c.directory_by-directory.result c.in_ok-tell.ensures.ok
    (sym (ap (λ (p : Path). number_in c.do_step.new.slots.items (parent_of p)) c.place_of-path.ensures) ∙ c.in-Ok.ensures.directory)

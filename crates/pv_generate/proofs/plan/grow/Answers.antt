use Rattle.std.proofs.Common.{◌≡◌, ◌∙◌, [], sym, subst}
use Rattle.pv_steps.specs.Trees.{IsTree}
use Rattle.pv_tree.specs.Growth.{Grown}
use Rattle.pv_tree.specs.Held.{root_alone}
use Rattle.pv_tree.proofs.GrowLaws.{IsGrowing, all_grown, grown, has_parent, is_object, root_directory, root_whole, some_planned, start}
use Rattle.pv_tree.proofs.PlanLaws.{Planned, held, sorted_first}
use Rattle.pv_generate.proofs.plan.grow.Goals as goal

pub unreachable-requires : goal.unreachable-requires
unreachable-requires c =
    some_planned c.args.objects.entries c.in_default.ensures.variant.1 c.requires

pub new-requires-clause-kind : goal.new-requires-clause-kind
new-requires-clause-kind c =
    root_directory c.in-Some._path c.in-Some.root c.pop_first.new.self.entries
    (sorted_first c.in-Some._path c.in-Some.root c.pop_first.new.self.entries c.in-Some.ensures.all_above c.in-Some.ensures.ordered)
    (subst (λ (es : Planned). IsTree (held es)) c.in-Some.ensures.removal c.requires)

pub new-requires-clause-object : goal.new-requires-clause-object
new-requires-clause-object c =
    root_whole c.in-Some._path c.in-Some.root c.pop_first.new.self.entries
    (sorted_first c.in-Some._path c.in-Some.root c.pop_first.new.self.entries c.in-Some.ensures.all_above c.in-Some.ensures.ordered)
    (subst (λ (es : Planned). IsTree (held es)) c.in-Some.ensures.removal c.requires)

pub loop-path-init : goal.loop-path-init
loop-path-init c =
    let left = c.pop_first.new.self.entries in
    let p = c.in-Some._path in
    let o = c.in-Some.root in
    let begun = start p o left (sorted_first p o left c.in-Some.ensures.all_above c.in-Some.ensures.ordered) (subst (λ (es : Planned). IsTree (held es)) c.in-Some.ensures.removal c.requires) in
    let all = subst (λ (es : Planned). IsGrowing (held es) (root_alone o.node) [] left) (sym c.in-Some.ensures.removal) begun in
    let built = subst (λ (g : Grown). IsGrowing (held c.args.objects.entries) g.files g.last left) (sym c.in_ok-builder.ensures) all in
    subst (λ (es : Planned). IsGrowing (held c.args.objects.entries) c.in_ok-builder.builder.files c.in_ok-builder.builder.last es) (sym c.into_iter-path-iterator.ensures.into_iter_gives.0) built

pub add_next-requires-clause-object : goal.add_next-requires-clause-object
add_next-requires-clause-object c =
    is_object (held c.args.objects.entries) c.loop-path.builder.files c.loop-path.builder.last c.in-Some-2.path c.in-Some-2.object c.next.new.self
    (subst (λ (es : Planned). IsGrowing (held c.args.objects.entries) c.loop-path.builder.files c.loop-path.builder.last es) c.in-Some-2.ensures.steps c.loop-path.invariant) c.requires

pub add_next-requires-clause-parent : goal.add_next-requires-clause-parent
add_next-requires-clause-parent c =
    has_parent (held c.args.objects.entries) c.loop-path.builder.files c.loop-path.builder.last c.in-Some-2.path c.in-Some-2.object c.next.new.self
    (subst (λ (es : Planned). IsGrowing (held c.args.objects.entries) c.loop-path.builder.files c.loop-path.builder.last es) c.in-Some-2.ensures.steps c.loop-path.invariant) c.requires

pub loop-path-preserved : goal.loop-path-preserved
loop-path-preserved c =
    subst (λ (g : Grown). IsGrowing (held c.args.objects.entries) g.files g.last c.next.new.self) (sym c.in_ok-add_next.ensures.ok)
    (grown (held c.args.objects.entries) c.loop-path.builder.files c.loop-path.builder.last c.in-Some-2.path c.in-Some-2.object c.next.new.self
    (subst (λ (es : Planned). IsGrowing (held c.args.objects.entries) c.loop-path.builder.files c.loop-path.builder.last es) c.in-Some-2.ensures.steps c.loop-path.invariant))

pub returns-clause-files : goal.returns-clause-files
returns-clause-files c =
    let none : c.loop-path.path-iterator ≡ [] = c.in-None.ensures.steps.0 in
    let all = subst (λ (es : Planned). IsGrowing (held c.args.objects.entries) c.loop-path.builder.files c.loop-path.builder.last es) none c.loop-path.invariant in
    c.finish.ensures.files ∙ all_grown (held c.args.objects.entries) c.loop-path.builder.files c.loop-path.builder.last all

use Rattle.std.proofs.Common.{◌≡◌, [], ◌∷◌, ◌++◌, List, subst, sym, ap, ◌∙◌}
use Rattle.std.proofs.lemmas.List.{nil_from_length}
use Rattle.pv_path.specs.Paths.{Path}
use Rattle.pv_clean.specs.declared.aging.Judged.{Judged}
use Rattle.pv_clean.proofs.OpenLaws.{judging_end, judging_next, judging_start, next_age, next_no_root, Judging}
use Rattle.pv_clean.proofs.aging.judge_all.Goals as goal

pub loop-path-init : goal.loop-path-init
loop-path-init g c =
    let lines = c.args.aging.now.table.now in
    let t = g.T.Tree.state c.args.aging.now.tree.now in
    rw (c.reverse.ensures.items, c.in_ok-push-2.ensures.items, c.in_ok-judged.ensures.items, c.in_ok-push.ensures.items, c.new-ages.ensures.items, c.scope_of.ensures, c.requires.root)
    (judging_start lines c.args.aging.now.time t c.args.listed.items)

pub judge-requires : goal.judge-requires
judge-requires g c =
    let lines = c.args.aging.now.table.now in
    let t = g.T.Tree.state c.args.aging.now.tree.now in
    record {
      named = c.requires.named;
      no_root = next_no_root lines c.args.aging.now.time t c.requires.tree c.args.listed.items c.requires.listing c.requires.gathered c.loop-path.left.items c.pop.new.self.items c.in-Some.path c.in-Some.ensures.items
          c.loop-path.judged.items c.loop-path.ages.items c.loop-path.invariant;
      age = next_age lines c.args.aging.now.time t c.requires.tree c.args.listed.items c.requires.listing c.requires.gathered c.loop-path.left.items c.pop.new.self.items c.in-Some.path c.in-Some.ensures.items
          c.loop-path.judged.items c.loop-path.ages.items c.loop-path.invariant;
    }

pub loop-path-preserved : goal.loop-path-preserved
loop-path-preserved g c =
    let lines = c.args.aging.now.table.now in
    let t = g.T.Tree.state c.args.aging.now.tree.now in
    judging_next lines c.args.aging.now.time t c.requires.tree c.args.listed.items c.requires.listing c.requires.gathered c.loop-path.left.items c.pop.new.self.items c.in-Some.path c.in-Some.ensures.items
    c.loop-path.judged.items c.loop-path.ages.items c.loop-path.invariant _ _
    (c.in_ok-push-3.ensures.items ∙ ap (λ (j : Judged). c.loop-path.judged.items ++ j ∷ []) c.in_ok-judge.ensures.judged)
    c.in_ok-judge.ensures.noted

pub returns : goal.returns
returns g c =
    let lines = c.args.aging.now.table.now in
    let t = g.T.Tree.state c.args.aging.now.tree.now in
    let none : c.loop-path.left.items ≡ [] = nil_from_length c.loop-path.left.items (sym c.loop-path.left.ok.0 ∙ c.in_default.ensures.cases.0) in
    judging_end lines c.args.aging.now.time t c.args.listed.items c.loop-path.judged.items c.loop-path.ages.items
    (subst (λ (left : List Path). Judging lines c.args.aging.now.time t c.args.listed.items left c.loop-path.judged.items c.loop-path.ages.items) none c.loop-path.invariant)

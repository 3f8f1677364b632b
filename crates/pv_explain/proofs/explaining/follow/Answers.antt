use Rattle.std.specs.Prelude.{◌≡◌, ℕ, ◌+◌, ◌<◌, ◌≤◌, ◌++◌, [], List, Option, length, get_or, option_map, take}
use Rattle.std.proofs.Common.{sym, ap, subst, ◌∙◌, arith}
use Rattle.std.specs.FinMap as fin
use Rattle.std.specs.Option.{option_copied}
use Rattle.std.specs.List.{cons_option, filter_map, enumerate_from}
use Rattle.pv_table.specs.Active.{create_order, in_create_order}
use Rattle.pv_table.specs.Pointwise.{ObjectStates, state}
use Rattle.pv_explain.specs.declared.explained.Act.{Act}
use Rattle.pv_explain.specs.declared.explained.LineAct.{LineAct}
use Rattle.pv_explain.specs.declared.explained.Explained.{Explained}
use Rattle.pv_explain.specs.Acts.{act_between, object_state_in, line_act}
use Rattle.pv_explain.specs.Following.{Follows}
use Rattle.pv_explain.proofs.LineByLineLaws.{is_there, is_next, order-length, state_more, acts_more, state_end, acts_end, follows_path, suits_line}
use Rattle.pv_explain.proofs.explaining.follow.Goals as goal

pub line_at-line-requires : goal.line_at-line-requires
line_at-line-requires c =
    let items = c.loop-place.invariant.items in
    let i = c.loop-place.place-index in
    let within : i < length (create_order c.args.table.now) = subst (λ (ps : List ℕ). i < length ps) items c.loop-place-test.true in
    is_there c.args.table.now i _ within (ap (λ (ps : List ℕ). get_or ps i 0) items)

pub after-requires : goal.after-requires
after-requires c = suits_line c.args.table.now c.args.scope.now c.args.path.now c.requires _ c.line_at-line.result.now c.line_at-line.ensures

pub loop-place-preserved : goal.loop-place-preserved
loop-place-preserved c =
    let lines = c.args.table.now in
    let path = c.args.path.now in
    let scope = c.args.scope.now in
    let items = c.loop-place.invariant.items in
    let i = c.loop-place.place-index in
    let place = get_or c.as_slice-place-items.result.now i 0 in
    let within : i < length (create_order lines) = subst (λ (ps : List ℕ). i < length ps) items c.loop-place-test.true in
    let is : place ≡ get_or (create_order lines) i 0 = ap (λ (ps : List ℕ). get_or ps i 0) items in
    let line = c.line_at-line.result.now in
    let at = is_next lines i place within is line c.line_at-line.ensures in
    let follows : (s : ObjectStates) → Follows scope path c.args.start s → Follows scope path c.in-Some.next (state lines (i + 1) s) = λ s f.
    subst (λ (x : ObjectStates). Follows scope path c.in-Some.next x) (sym (state_more lines s i line at))
    (c.in_ok-next.ensures.follows (state lines i s) c.in-Some.next c.in-Some.is (c.loop-place.invariant.follows s f)) in
    record {
      items = items;
      follows = follows;
      acts = λ s f.
          let before : c.in_ok-before.before ≡ fin.get (state lines i s) path = c.in_ok-before.ensures ∙ follows_path lines scope path c.requires c.loop-place.standing (state lines i s) (c.loop-place.invariant.follows s f) in
          let after = c.get.ensures ∙ follows_path lines scope path c.requires c.in-Some.next (state lines (i + 1) s) (follows s f) in
          let old : List LineAct = filter_map (line_act lines s path) (take i (enumerate_from 0 (in_create_order lines))) in
          let made : (Option Act → List LineAct) = λ act. cons_option (option_map (λ (a : Act). record { place = line.place; act = a }) act) [] in
          c.in_ok-note.ensures
          ∙ ap (λ (xs : List LineAct). xs ++ made (act_between c.in_ok-before.before (option_copied c.get.result))) (c.loop-place.invariant.acts s f)
          ∙ (λ j. old ++ made (act_between (before j) (after j)))
          ∙ sym (acts_more lines s i line at path);
    }

pub returns-clause-explanation : goal.returns-clause-explanation
returns-clause-explanation c = λ s explanation e f.
    let lines = c.args.table.now in
    let path = c.args.path.now in
    let i = c.loop-place.place-index in
    let n = ap length c.loop-place.invariant.items in
    let m = order-length lines in
    let past : length (in_create_order lines) ≤ i = omega (arith, n, m, c.loop-place-test.false) in
    let same : c.ended.result ≡ explanation = cc in
    record {
      acts = ap (λ (t : Explained). t.acts) (sym same) ∙ c.ended.ensures.acts ∙ c.acts-2.view_is ∙ c.loop-place.invariant.acts s f ∙ acts_end lines s i past path;
      node = ap (λ (t : Explained). option_map object_state_in t.node) (sym same) ∙ c.ended.ensures.node ∙ c.in_ok-copy_at.ensures
          ∙ follows_path lines c.args.scope.now path c.requires c.loop-place.standing (state lines i s) (c.loop-place.invariant.follows s f) ∙ state_end lines s i past path;
    }

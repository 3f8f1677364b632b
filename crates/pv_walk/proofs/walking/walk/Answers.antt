use Rattle.std.proofs.lemmas.Result.{IfOk-from_err}
use Rattle.std.proofs.Common.{◌≡◌, ◌<◌, ◌≤◌, ◌+◌, ◌-◌, length, take, sym, ap, ◌∙◌, arith, []}
use Rattle.std.specs.List.{range_with_len}
use Rattle.std.specs.Option.{option_or}
use Rattle.pv_steps.specs.Trees.{places}
use Rattle.pv_walk.specs.Seeing.{seen_of, seen_owner, walked_from, if_absent}
use Rattle.pv_walk.specs.Walking.{unrefused}
use Rattle.pv_walk.specs.declared.walking.Walked.TheVariants.{Refused}
use Rattle.pv_walk.proofs.WalkLaws.{range_next, range_end, seen_along, walked_end, why_end, walked_refused, walked_next, why_here, owner_before, owner_above-next}
use Rattle.pv_walk.proofs.walking.walk.Goals as goal

pub returns-in-Some-clause-walked : goal.returns-in-Some-clause-walked
returns-in-Some-clause-walked g c =
    let t = places (g.T.Tree.state c.args.tree.now) in
    let path = c.args.path.now in
    let last = c.args.made in
    let k = c.loop-k.k in
    let below : k < length path = omega arith in
    let within : k ≤ length path = omega arith in
    let seen = seen_along (g.T.Tree.state c.args.tree.now) path k c.deref.result.now c.in_ok-nodes.nodes.items c.seen_in-place.result c.seen_in-place.ensures c.deref.ensures.value (c.in_ok-nodes.ensures.nodes k within) in
    let found = why_here t path last k below c.seen_in-place.result c.loop-k.above c.owner_of-owner.result c.why_above.result seen c.loop-k.invariant.above c.owner_of-owner.ensures c.why_above.ensures in
    sym (c.loop-k.invariant.rest ∙ ap (walked_from t path last c.loop-k.absent) (range_next k (length path) within)
    ∙ walked_refused t path last c.loop-k.absent k (range_with_len (k + 1) (length path + 1 - (k + 1))) c.in-Some.why (found ∙ c.in-Some.is))

pub loop-k-preserved : goal.loop-k-preserved
loop-k-preserved g c =
    let t = places (g.T.Tree.state c.args.tree.now) in
    let path = c.args.path.now in
    let last = c.args.made in
    let k = c.loop-k.k in
    let below : k < length path = omega arith in
    let within : k ≤ length path = omega arith in
    let seen = seen_along (g.T.Tree.state c.args.tree.now) path k c.deref.result.now c.in_ok-nodes.nodes.items c.seen_in-place.result c.seen_in-place.ensures c.deref.ensures.value (c.in_ok-nodes.ensures.nodes k within) in
    let found = why_here t path last k below c.seen_in-place.result c.loop-k.above c.owner_of-owner.result c.why_above.result seen c.loop-k.invariant.above c.owner_of-owner.ensures c.why_above.ensures in
    let absent : c.or_absent-absent.result ≡ option_or c.loop-k.absent (if_absent (seen_of (t (take k path))) k) = c.or_absent-absent.ensures ∙ ap (λ v. option_or c.loop-k.absent (if_absent v k)) seen in
    record {
      above = c.owner_of-owner.ensures ∙ ap (λ v. seen_owner v 0) seen ∙ owner_before t path last k below ∙ sym (owner_above-next t path last k);
      rest =
          c.loop-k.invariant.rest ∙ ap (walked_from t path last c.loop-k.absent) (range_next k (length path) within)
          ∙ walked_next t path last c.loop-k.absent k (range_with_len (k + 1) (length path + 1 - (k + 1))) (found ∙ c.in_default.is)
          ∙ ap (λ a. walked_from t path last a (range_with_len (k + 1) (length path + 1 - (k + 1)))) (sym absent);
    }

pub returns-in-Some-why_owner-clause-walked : goal.returns-in-Some-why_owner-clause-walked
returns-in-Some-why_owner-clause-walked g c =
    let t = places (g.T.Tree.state c.args.tree.now) in
    let path = c.args.path.now in
    let last = c.args.made in
    let k = c.loop-k.k in
    let n = c.len-last.result in
    let end : k ≡ length path = omega (arith, c.loop-k-test.false, c.loop-k.auto.k-end, c.len-k-end.ensures.count) in
    let within : k ≤ length path = omega (arith, end) in
    let here : n ≡ k = c.len-last.ensures.count ∙ sym end in
    let whole : n ≤ length path = omega (arith, c.len-last.ensures.count) in
    let seen_end = seen_along (g.T.Tree.state c.args.tree.now) path n c.deref-2.result.now c.in_ok-nodes.nodes.items c.seen_in-place-2.result c.seen_in-place-2.ensures c.deref-2.ensures.value (c.in_ok-nodes.ensures.nodes n whole) in
    let seen : c.seen_in-place-2.result ≡ seen_of (t (take k path)) = seen_end ∙ ap (λ m. seen_of (t (take m path))) here in
    let found = why_end t path last k end c.seen_in-place-2.result c.loop-k.above c.owner_of.result c.why_owner.result seen c.loop-k.invariant.above c.owner_of.ensures c.why_owner.ensures in
    ap (λ v. Refused v c.in-Some-why_owner.why) here ∙ sym (c.loop-k.invariant.rest ∙ ap (walked_from t path last c.loop-k.absent) (range_next k (length path) within)
    ∙ walked_refused t path last c.loop-k.absent k (range_with_len (k + 1) (length path + 1 - (k + 1))) c.in-Some-why_owner.why (found ∙ c.in-Some-why_owner.is))

pub returns-clause-walked : goal.returns-clause-walked
returns-clause-walked g c =
    let t = places (g.T.Tree.state c.args.tree.now) in
    let path = c.args.path.now in
    let last = c.args.made in
    let k = c.loop-k.k in
    let n = c.len-last.result in
    let end : k ≡ length path = omega (arith, c.loop-k-test.false, c.loop-k.auto.k-end, c.len-k-end.ensures.count) in
    let within : k ≤ length path = omega (arith, end) in
    let here : n ≡ k = c.len-last.ensures.count ∙ sym end in
    let whole : n ≤ length path = omega (arith, c.len-last.ensures.count) in
    let seen_end = seen_along (g.T.Tree.state c.args.tree.now) path n c.deref-2.result.now c.in_ok-nodes.nodes.items c.seen_in-place-2.result c.seen_in-place-2.ensures c.deref-2.ensures.value (c.in_ok-nodes.ensures.nodes n whole) in
    let seen : c.seen_in-place-2.result ≡ seen_of (t (take k path)) = seen_end ∙ ap (λ m. seen_of (t (take m path))) here in
    let found = why_end t path last k end c.seen_in-place-2.result c.loop-k.above c.owner_of.result c.why_owner.result seen c.loop-k.invariant.above c.owner_of.ensures c.why_owner.ensures in
    let absent : c.or_absent.result ≡ option_or c.loop-k.absent (if_absent (seen_of (t (take k path))) k) = c.or_absent.ensures ∙ (λ i. option_or c.loop-k.absent (if_absent (seen i) (here i))) in
    let none : range_with_len (k + 1) (length path + 1 - (k + 1)) ≡ [] = ap (λ m. range_with_len (m + 1) (length path + 1 - (m + 1))) end ∙ range_end (length path) in
    sym (c.loop-k.invariant.rest ∙ ap (walked_from t path last c.loop-k.absent) (range_next k (length path) within)
    ∙ walked_next t path last c.loop-k.absent k (range_with_len (k + 1) (length path + 1 - (k + 1))) (found ∙ c.in-None.is)
    ∙ ap (walked_from t path last (option_or c.loop-k.absent (if_absent (seen_of (t (take k path))) k))) none
    ∙ walked_end t path last (option_or c.loop-k.absent (if_absent (seen_of (t (take k path))) k)) ∙ ap unrefused (sym absent) ∙ sym c.end_of.ensures)

pub overflow_cast-result : goal.overflow_cast-result
overflow_cast-result g c = omega (arith, c.requires, c.loop-k-test.true, c.len-k-end.ensures.count)

pub overflow_cast-k : goal.overflow_cast-k
overflow_cast-k g c = omega (arith, c.requires, c.loop-k-test.true, c.len-k-end.ensures.count)

pub overflow_cast-result-in-Some-why_owner : goal.overflow_cast-result-in-Some-why_owner
overflow_cast-result-in-Some-why_owner g c = omega (arith, c.requires, c.len-last.ensures.count)

pub overflow_cast-last : goal.overflow_cast-last
overflow_cast-last g c = omega (arith, c.requires, c.len-last.ensures.count)

pub returns-in_err-nodes-clause-walked : goal.returns-in_err-nodes-clause-walked
returns-in_err-nodes-clause-walked g c = IfOk-from_err c.from_residual.result _ c.from_residual.ensures.0

pub returns-clause-tree : goal.returns-clause-tree
returns-clause-tree g c = g.met.T.Tree.is_tree c.args.tree.now

pub returns-in-Some-clause-tree : goal.returns-in-Some-clause-tree
returns-in-Some-clause-tree g c = g.met.T.Tree.is_tree c.args.tree.now

pub returns-in-Some-why_owner-clause-tree : goal.returns-in-Some-why_owner-clause-tree
returns-in-Some-why_owner-clause-tree g c = g.met.T.Tree.is_tree c.args.tree.now

pub returns-in_err-nodes-clause-tree : goal.returns-in_err-nodes-clause-tree
returns-in_err-nodes-clause-tree g c = g.met.T.Tree.is_tree c.args.tree.now

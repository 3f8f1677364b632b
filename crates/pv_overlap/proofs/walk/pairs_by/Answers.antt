use Rattle.std.proofs.lemmas.Result.{IfOk-from_err}
use Rattle.std.proofs.Common.{◌≡◌, ◌<◌, ◌+◌, ◌∷◌, ◌++◌, [], ℕ, List, All, true, length, filter, take, rules, arith, is_ok, subst, sym, ap, ◌∙◌, refl}
use Rattle.std.proofs.lemmas.List.Elements.{All-filter, All-weaker, filter_passes}
use Rattle.pv_path.specs.Paths.{Path, is_prefix}
use Rattle.pv_overlap.specs.declared.walk.Head.{Head}
use Rattle.pv_overlap.specs.Walk.{Grown, HasAnswer, IsOrderOf, IsSound, Walked, head_at, questions_at}
use Rattle.pv_overlap.proofs.Asking.{asked_next, asked_part, was_all, was_none, was_some}
use Rattle.pv_overlap.proofs.Walking.{all_answered, all_told, grown_same, has_same, same_on, sound_same, walked_next, walked_all}
use Rattle.pv_overlap.proofs.walk.pairs_by.Goals as goal

pub ask_open-requires-clause-below : goal.ask_open-requires-clause-below
ask_open-requires-clause-below g c =
    let at = c.loop-at.at in
    let order = c.as_slice-in-loop-at.result.now in
    let open' = c.as_slice-in-loop-at-2.result.now in
    let begins = λ (q : ℕ). is_prefix (head_at order q).path (head_at order at).path in
    let below = subst (λ (xs : List ℕ). All (λ q. q < at) xs) (sym c.as_slice-in-loop-at-2.ensures.value) c.loop-at.invariant.walked.is_open.below in
    subst (λ (xs : List ℕ). All (λ q. q < at) xs) (sym (c.as_slice-in-loop-at-4.ensures.value ∙ c.in_ok-kept.ensures)) (All-filter begins (λ q. q < at) open' below)

pub ask_open-requires-clause-prefixes : goal.ask_open-requires-clause-prefixes
ask_open-requires-clause-prefixes g c =
    let at = c.loop-at.at in
    let order = c.as_slice-in-loop-at.result.now in
    let open' = c.as_slice-in-loop-at-2.result.now in
    let begins = λ (q : ℕ). is_prefix (head_at order q).path (head_at order at).path in
    let same : order ≡ c.as_slice-in-loop-at-3.result.now = c.as_slice-in-loop-at.ensures.value ∙ sym c.as_slice-in-loop-at-3.ensures.value in
    subst (λ (o : List Head). All (λ q. is_prefix (head_at o q).path (head_at o at).path ≡ true) c.as_slice-in-loop-at-4.result.now) same
    (subst (λ (xs : List ℕ). All (λ q. begins q ≡ true) xs) (sym (c.as_slice-in-loop-at-4.ensures.value ∙ c.in_ok-kept.ensures)) (filter_passes begins open'))

pub loop-at-preserved : goal.loop-at-preserved
loop-at-preserved g c =
    let answers = g.A.Asker.answers c.args.asker.now in
    let heads = c.args.heads.now in
    let order = c.in_ok-order.order.items in
    let at = c.loop-at.at in
    let open' = c.loop-at.opened.items in
    let inv = c.loop-at.invariant in
    let recorded = c.in_ok-ask_open.ensures in
    let is_order : IsOrderOf heads order = subst (λ (x : List Path). IsOrderOf x order) c.as_slice.ensures c.in_ok-order.ensures in
    let begins = λ (q : ℕ). is_prefix (head_at order q).path (head_at order at).path in
    let kept : c.in_ok-kept.kept.items ≡ filter begins open' =
    c.in_ok-kept.ensures
    ∙ ap (λ (x : List Head). filter (λ q. is_prefix (head_at x q).path (head_at x at).path) c.as_slice-in-loop-at-2.result.now) c.as_slice-in-loop-at.ensures.value
    ∙ ap (filter begins) c.as_slice-in-loop-at-2.ensures.value in
    let grown : Grown answers (length heads) c.loop-at.found c.ask_open.new.found =
    grown_same (g.A.Asker.answers c.loop-at.asker) answers (length heads) c.loop-at.found c.ask_open.new.found inv.answers
    (subst (λ (x : List Path). Grown (g.A.Asker.answers c.loop-at.asker) (length x) c.loop-at.found c.ask_open.new.found) (inv.heads ∙ sym c.requires.heads) recorded.grown) in
    let same : c.as_slice-in-loop-at-3.result.now ≡ order = c.as_slice-in-loop-at-3.ensures.value in
    let told_order : All (λ q. HasAnswer (g.A.Asker.answers c.loop-at.asker) c.ask_open.new.found (head_at order q).index (head_at order at).index) c.as_slice-in-loop-at-4.result.now =
    subst (λ (o : List Head). All (λ q. HasAnswer (g.A.Asker.answers c.loop-at.asker) c.ask_open.new.found (head_at o q).index (head_at o at).index) c.as_slice-in-loop-at-4.result.now) same recorded.noted in
    let noted : All (λ q. HasAnswer answers c.ask_open.new.found (head_at order q).index (head_at order at).index) (filter begins open') =
    All-weaker (λ q. HasAnswer (g.A.Asker.answers c.loop-at.asker) c.ask_open.new.found (head_at order q).index (head_at order at).index) (λ q. HasAnswer answers c.ask_open.new.found (head_at order q).index (head_at order at).index)
    (λ q has. has_same (g.A.Asker.answers c.loop-at.asker) answers c.ask_open.new.found inv.answers (head_at order q).index (head_at order at).index has) (filter begins open')
    (subst (λ (xs : List ℕ). All (λ q. HasAnswer (g.A.Asker.answers c.loop-at.asker) c.ask_open.new.found (head_at order q).index (head_at order at).index) xs) (c.as_slice-in-loop-at-4.ensures.value ∙ kept) told_order) in
    let inside : at < length order = search rules in
    let next = walked_next answers heads order is_order at inside open' c.loop-at.found c.ask_open.new.found c.requires.unrelated inv.walked grown noted in
    record {
      walked = subst (λ (xs : List ℕ). Walked answers (length heads) order (at + 1) xs c.ask_open.new.found) (sym (c.in_ok-push.ensures.items ∙ ap (λ (xs : List ℕ). xs ++ at ∷ []) kept)) next;
      asked = asked_next heads order is_order at inside open' inv.walked.is_open (g.A.Asker.asked c.args.asker.now c.loop-at.asker) (g.A.Asker.asked c.args.asker.now c.ask_open.new.asker) inv.asked
          (g.met.A.Asker.asked_on c.args.asker.now c.loop-at.asker c.ask_open.new.asker inv.asked.questions (questions_at order at (filter begins open')) inv.asked.recorded
          (subst (λ (xs : List ℕ). g.A.Asker.asked c.loop-at.asker c.ask_open.new.asker (questions_at order at xs)) (c.as_slice-in-loop-at-4.ensures.value ∙ kept)
          (subst (λ (o : List Head). g.A.Asker.asked c.loop-at.asker c.ask_open.new.asker (questions_at o at c.as_slice-in-loop-at-4.result.now)) same recorded.asked)));
      heads = c.ask_open.ensures.heads ∙ inv.heads;
      answers = same_on answers (g.A.Asker.answers c.loop-at.asker) (g.A.Asker.answers c.ask_open.new.asker) inv.answers c.ask_open.ensures.answers;
    }

pub returns-clause-listed : goal.returns-clause-listed
returns-clause-listed g c =
    all_answered c.loop-at.found (g.A.Asker.answers c.args.asker.now) (length c.args.heads.now) c.listed.result c.loop-at.invariant.walked.sound c.listed.ensures.exact

pub returns-clause-all : goal.returns-clause-all
returns-clause-all g c =
    let answers = g.A.Asker.answers c.args.asker.now in
    let heads = c.args.heads.now in
    let order = c.in_ok-order.order.items in
    let is_order : IsOrderOf heads order = subst (λ (x : List Path). IsOrderOf x order) c.as_slice.ensures c.in_ok-order.ensures in
    all_told c.loop-at.found answers (length heads) c.listed.result (walked_all answers heads order is_order c.loop-at.at (search rules) c.loop-at.opened.items c.loop-at.found c.loop-at.invariant.walked) c.listed.ensures.exact

pub ask_open-requires-clause-sound : goal.ask_open-requires-clause-sound
ask_open-requires-clause-sound g c =
    let inv = c.loop-at.invariant in
    sound_same (g.A.Asker.answers c.args.asker.now) (g.A.Asker.answers c.loop-at.asker) (length (g.A.Asker.heads c.loop-at.asker)) c.loop-at.found inv.answers
    (subst (λ (x : List Path). IsSound (g.A.Asker.answers c.args.asker.now) (length x) c.loop-at.found) (c.requires.heads ∙ sym inv.heads) inv.walked.sound)

pub returns-clause-asked : goal.returns-clause-asked
returns-clause-asked g c =
    let order = c.in_ok-order.order.items in
    let is_order : IsOrderOf c.args.heads.now order = subst (λ (x : List Path). IsOrderOf x order) c.as_slice.ensures c.in_ok-order.ensures in
    was_all c.args.heads.now order is_order (g.A.Asker.asked c.args.asker.now c.loop-at.asker) c.loop-at.at (search rules) (search rules) c.loop-at.invariant.asked (is_ok c.listed.result)

pub returns-in_err-order-clause-asked : goal.returns-in_err-order-clause-asked
returns-in_err-order-clause-asked g c = was_none (g.A.Asker.asked c.args.asker.now c.args.asker.now) c.args.heads.now (g.met.A.Asker.asked_nothing c.args.asker.now) c.from_residual.result c.from_residual.ensures.0

pub returns-in_err-kept-clause-asked : goal.returns-in_err-kept-clause-asked
returns-in_err-kept-clause-asked g c =
    let order = c.in_ok-order.order.items in
    let is_order : IsOrderOf c.args.heads.now order = subst (λ (x : List Path). IsOrderOf x order) c.as_slice.ensures c.in_ok-order.ensures in
    let below = c.loop-at.invariant.asked in
    let inside : c.loop-at.at < length order = search rules in
    was_some c.args.heads.now order is_order (g.A.Asker.asked c.args.asker.now c.loop-at.asker) c.loop-at.at (omega arith) below.questions below.recorded below.are c.from_residual-in_err-kept.result c.from_residual-in_err-kept.ensures.0

pub returns-in_err-ask_open-clause-asked : goal.returns-in_err-ask_open-clause-asked
returns-in_err-ask_open-clause-asked g c =
    let order = c.in_ok-order.order.items in
    let is_order : IsOrderOf c.args.heads.now order = subst (λ (x : List Path). IsOrderOf x order) c.as_slice.ensures c.in_ok-order.ensures in
    let at = c.loop-at.at in
    let open' = c.loop-at.opened.items in
    let inv = c.loop-at.invariant in
    let inside : at < length order = search rules in
    let begins = λ (q : ℕ). is_prefix (head_at order q).path (head_at order at).path in
    let kept : c.as_slice-in-loop-at-4.result.now ≡ filter begins open' =
    c.as_slice-in-loop-at-4.ensures.value
    ∙ c.in_ok-kept.ensures
    ∙ ap (λ (x : List Head). filter (λ q. is_prefix (head_at x q).path (head_at x at).path) c.as_slice-in-loop-at-2.result.now) c.as_slice-in-loop-at.ensures.value
    ∙ ap (filter begins) c.as_slice-in-loop-at-2.ensures.value in
    let same : c.as_slice-in-loop-at-3.result.now ≡ order = c.as_slice-in-loop-at-3.ensures.value in
    let below = inv.asked in
    let some = c.ask_open.ensures.some in
    was_some c.args.heads.now order is_order (g.A.Asker.asked c.args.asker.now c.ask_open.new.asker) (at + 1) (omega arith) (below.questions ++ questions_at order at (take some.0 (filter begins open')))
    (g.met.A.Asker.asked_on c.args.asker.now c.loop-at.asker c.ask_open.new.asker below.questions (questions_at order at (take some.0 (filter begins open'))) below.recorded
    (subst (λ (xs : List ℕ). g.A.Asker.asked c.loop-at.asker c.ask_open.new.asker (questions_at order at (take some.0 xs))) kept
    (subst (λ (o : List Head). g.A.Asker.asked c.loop-at.asker c.ask_open.new.asker (questions_at o at (take some.0 c.as_slice-in-loop-at-4.result.now))) same some.1)))
    (asked_part c.args.heads.now order is_order at inside open' inv.walked.is_open below.questions below.are some.0) c.from_residual-in_err-ask_open.result c.from_residual-in_err-ask_open.ensures.0

pub returns-in_err-push-clause-asked : goal.returns-in_err-push-clause-asked
returns-in_err-push-clause-asked g c =
    let order = c.in_ok-order.order.items in
    let is_order : IsOrderOf c.args.heads.now order = subst (λ (x : List Path). IsOrderOf x order) c.as_slice.ensures c.in_ok-order.ensures in
    let at = c.loop-at.at in
    let open' = c.loop-at.opened.items in
    let inv = c.loop-at.invariant in
    let inside : at < length order = search rules in
    let begins = λ (q : ℕ). is_prefix (head_at order q).path (head_at order at).path in
    let kept : c.as_slice-in-loop-at-4.result.now ≡ filter begins open' =
    c.as_slice-in-loop-at-4.ensures.value
    ∙ c.in_ok-kept.ensures
    ∙ ap (λ (x : List Head). filter (λ q. is_prefix (head_at x q).path (head_at x at).path) c.as_slice-in-loop-at-2.result.now) c.as_slice-in-loop-at.ensures.value
    ∙ ap (filter begins) c.as_slice-in-loop-at-2.ensures.value in
    let same : c.as_slice-in-loop-at-3.result.now ≡ order = c.as_slice-in-loop-at-3.ensures.value in
    let next = asked_next c.args.heads.now order is_order at inside open' inv.walked.is_open (g.A.Asker.asked c.args.asker.now c.loop-at.asker) (g.A.Asker.asked c.args.asker.now c.ask_open.new.asker) inv.asked
    (g.met.A.Asker.asked_on c.args.asker.now c.loop-at.asker c.ask_open.new.asker inv.asked.questions (questions_at order at (filter begins open')) inv.asked.recorded
    (subst (λ (xs : List ℕ). g.A.Asker.asked c.loop-at.asker c.ask_open.new.asker (questions_at order at xs)) kept
    (subst (λ (o : List Head). g.A.Asker.asked c.loop-at.asker c.ask_open.new.asker (questions_at o at c.as_slice-in-loop-at-4.result.now)) same c.in_ok-ask_open.ensures.asked))) in
    was_some c.args.heads.now order is_order (g.A.Asker.asked c.args.asker.now c.ask_open.new.asker) (at + 1) (omega arith) next.questions next.recorded next.are c.from_residual-in_err-push.result c.from_residual-in_err-push.ensures.0

pub returns-in_err-order-clause-listed : goal.returns-in_err-order-clause-listed
returns-in_err-order-clause-listed g c = IfOk-from_err c.from_residual.result _ c.from_residual.ensures.0

pub returns-in_err-order-clause-all : goal.returns-in_err-order-clause-all
returns-in_err-order-clause-all g c = IfOk-from_err c.from_residual.result _ c.from_residual.ensures.0

pub returns-in_err-order-clause-ordered : goal.returns-in_err-order-clause-ordered
returns-in_err-order-clause-ordered g c = IfOk-from_err c.from_residual.result _ c.from_residual.ensures.0

pub returns-in_err-kept-clause-listed : goal.returns-in_err-kept-clause-listed
returns-in_err-kept-clause-listed g c = IfOk-from_err c.from_residual-in_err-kept.result _ c.from_residual-in_err-kept.ensures.0

pub returns-in_err-kept-clause-all : goal.returns-in_err-kept-clause-all
returns-in_err-kept-clause-all g c = IfOk-from_err c.from_residual-in_err-kept.result _ c.from_residual-in_err-kept.ensures.0

pub returns-in_err-kept-clause-ordered : goal.returns-in_err-kept-clause-ordered
returns-in_err-kept-clause-ordered g c = IfOk-from_err c.from_residual-in_err-kept.result _ c.from_residual-in_err-kept.ensures.0

pub returns-in_err-ask_open-clause-listed : goal.returns-in_err-ask_open-clause-listed
returns-in_err-ask_open-clause-listed g c = IfOk-from_err c.from_residual-in_err-ask_open.result _ c.from_residual-in_err-ask_open.ensures.0

pub returns-in_err-ask_open-clause-all : goal.returns-in_err-ask_open-clause-all
returns-in_err-ask_open-clause-all g c = IfOk-from_err c.from_residual-in_err-ask_open.result _ c.from_residual-in_err-ask_open.ensures.0

pub returns-in_err-ask_open-clause-ordered : goal.returns-in_err-ask_open-clause-ordered
returns-in_err-ask_open-clause-ordered g c = IfOk-from_err c.from_residual-in_err-ask_open.result _ c.from_residual-in_err-ask_open.ensures.0

pub returns-in_err-push-clause-listed : goal.returns-in_err-push-clause-listed
returns-in_err-push-clause-listed g c = IfOk-from_err c.from_residual-in_err-push.result _ c.from_residual-in_err-push.ensures.0

pub returns-in_err-push-clause-all : goal.returns-in_err-push-clause-all
returns-in_err-push-clause-all g c = IfOk-from_err c.from_residual-in_err-push.result _ c.from_residual-in_err-push.ensures.0

pub returns-in_err-push-clause-ordered : goal.returns-in_err-push-clause-ordered
returns-in_err-push-clause-ordered g c = IfOk-from_err c.from_residual-in_err-push.result _ c.from_residual-in_err-push.ensures.0

pub returns-in_err-order-clause-heads : goal.returns-in_err-order-clause-heads
returns-in_err-order-clause-heads g c = refl

pub returns-in_err-kept-clause-heads : goal.returns-in_err-kept-clause-heads
returns-in_err-kept-clause-heads g c = c.loop-at.invariant.heads

pub returns-in_err-kept-clause-answers : goal.returns-in_err-kept-clause-answers
returns-in_err-kept-clause-answers g c = c.loop-at.invariant.answers

pub returns-clause-heads : goal.returns-clause-heads
returns-clause-heads g c = c.loop-at.invariant.heads

pub returns-clause-answers : goal.returns-clause-answers
returns-clause-answers g c = c.loop-at.invariant.answers

pub returns-in_err-ask_open-clause-heads : goal.returns-in_err-ask_open-clause-heads
returns-in_err-ask_open-clause-heads g c = c.ask_open.ensures.heads ∙ c.loop-at.invariant.heads

pub returns-in_err-ask_open-clause-answers : goal.returns-in_err-ask_open-clause-answers
returns-in_err-ask_open-clause-answers g c = same_on (g.A.Asker.answers c.args.asker.now) (g.A.Asker.answers c.loop-at.asker) (g.A.Asker.answers c.ask_open.new.asker) c.loop-at.invariant.answers c.ask_open.ensures.answers

pub returns-in_err-push-clause-heads : goal.returns-in_err-push-clause-heads
returns-in_err-push-clause-heads g c = c.ask_open.ensures.heads ∙ c.loop-at.invariant.heads

pub returns-in_err-push-clause-answers : goal.returns-in_err-push-clause-answers
returns-in_err-push-clause-answers g c = same_on (g.A.Asker.answers c.args.asker.now) (g.A.Asker.answers c.loop-at.asker) (g.A.Asker.answers c.ask_open.new.asker) c.loop-at.invariant.answers c.ask_open.ensures.answers

pub returns-clause-ordered : goal.returns-clause-ordered
returns-clause-ordered g c = c.listed.ensures.ordered

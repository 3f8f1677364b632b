use Rattle.std.proofs.Common.{◌≡◌, ℕ, ◌+◌, ◌<◌, List, [], ◌∷◌, All, length, take, get_or, rules, subst, sym, ap, ◌∙◌}
use Rattle.std.proofs.lemmas.List.{take_more, take_all, get_or_read, map_more}
use Rattle.std.proofs.lemmas.List.Elements.{All-push, All-get_or, All-weaker}
use Rattle.pv_overlap.specs.Walk.{Grown, HasAnswer, IsSound, head_at, no_head, question_of, questions_at}
use Rattle.pv_overlap.specs.declared.walk.Head.{Head}
use Rattle.pv_overlap.specs.Questions.{Question}
use Rattle.pv_path.specs.Paths.{Path}
use Rattle.pv_overlap.proofs.Walking.{grown_on, grown_same, has_same, same_on, sound_same, still_has}
use Rattle.pv_overlap.proofs.walk.ask_open.Goals as goal

pub loop-q-preserved : goal.loop-q-preserved
loop-q-preserved g c =
    let answers = g.A.Asker.answers c.args.asker.now in
    let heads = g.A.Asker.heads c.args.asker.now in
    let order = c.args.order.now in
    let at = c.args.at in
    let inv = c.loop-q.invariant in
    let q = get_or c.args.opened.now c.loop-q.q-index 0 in
    let one = take_more c.args.opened.now c.loop-q.q-index 0 c.loop-q-test.true in
    let recorded = c.in_ok-ask_about.ensures in
    let grown : Grown answers (length heads) c.loop-q.found c.ask_about.new.found =
    grown_same (g.A.Asker.answers c.loop-q.asker) answers (length heads) c.loop-q.found c.ask_about.new.found inv.answers
    (subst (λ (x : List Path). Grown (g.A.Asker.answers c.loop-q.asker) (length x) c.loop-q.found c.ask_about.new.found) inv.heads recorded.grown) in
    let left : c.index-order-q.result ≡ head_at order q = get_or_read order q c.index-order-q.result (search rules) c.index-order-q.is no_head in
    let right : c.index-order-at.result ≡ head_at order at = get_or_read order at c.index-order-at.result c.requires.inside c.index-order-at.is no_head in
    let noted : HasAnswer answers c.ask_about.new.found (head_at order q).index (head_at order at).index =
    has_same (g.A.Asker.answers c.loop-q.asker) answers c.ask_about.new.found inv.answers (head_at order q).index (head_at order at).index
    (subst (λ (x : Head). HasAnswer (g.A.Asker.answers c.loop-q.asker) c.ask_about.new.found x.index (head_at order at).index) left
    (subst (λ (x : Head). HasAnswer (g.A.Asker.answers c.loop-q.asker) c.ask_about.new.found c.index-order-q.result.index x.index) right recorded.noted)) in
    record {
      grown = grown_on answers (length heads) c.args.found.now c.loop-q.found c.ask_about.new.found inv.grown grown;
      noted = subst (λ (xs : List ℕ). All (λ q. HasAnswer answers c.ask_about.new.found (head_at order q).index (head_at order at).index) xs) (sym one)
          (All-push (λ q. HasAnswer answers c.ask_about.new.found (head_at order q).index (head_at order at).index) (take c.loop-q.q-index c.args.opened.now) q
          (All-weaker (λ q. HasAnswer answers c.loop-q.found (head_at order q).index (head_at order at).index) (λ q. HasAnswer answers c.ask_about.new.found (head_at order q).index (head_at order at).index)
          (λ q has. still_has answers (length heads) c.loop-q.found c.ask_about.new.found grown (head_at order q).index (head_at order at).index has) (take c.loop-q.q-index c.args.opened.now) inv.noted)
          noted);
      asked = subst (λ (xs : List Question). g.A.Asker.asked c.args.asker.now c.ask_about.new.asker xs) (sym (map_more (λ q. question_of (head_at order q) (head_at order at)) c.args.opened.now c.loop-q.q-index 0 c.loop-q-test.true))
          (g.met.A.Asker.asked_on c.args.asker.now c.loop-q.asker c.ask_about.new.asker (questions_at order at (take c.loop-q.q-index c.args.opened.now)) (question_of (head_at order q) (head_at order at) ∷ []) inv.asked
          (subst (λ (x : Head). g.A.Asker.asked c.loop-q.asker c.ask_about.new.asker (question_of x (head_at order at) ∷ [])) left
          (subst (λ (x : Head). g.A.Asker.asked c.loop-q.asker c.ask_about.new.asker (question_of c.index-order-q.result x ∷ [])) right recorded.asked)));
      heads = c.ask_about.ensures.heads ∙ inv.heads;
      answers = same_on (g.A.Asker.answers c.args.asker.now) (g.A.Asker.answers c.loop-q.asker) (g.A.Asker.answers c.ask_about.new.asker) inv.answers c.ask_about.ensures.answers;
    }

pub returns-clause-noted : goal.returns-clause-noted
returns-clause-noted g c =
    let answers = g.A.Asker.answers c.args.asker.now in
    let order = c.args.order.now in
    let at = c.args.at in
    subst (λ (xs : List ℕ). All (λ q. HasAnswer answers c.loop-q.found (head_at order q).index (head_at order at).index) xs)
    (take_all c.loop-q.q-index c.args.opened.now (search rules)) c.loop-q.invariant.noted

pub ask_about-requires-clause-sound : goal.ask_about-requires-clause-sound
ask_about-requires-clause-sound g c =
    let inv = c.loop-q.invariant in
    sound_same (g.A.Asker.answers c.args.asker.now) (g.A.Asker.answers c.loop-q.asker) (length (g.A.Asker.heads c.loop-q.asker)) c.loop-q.found inv.answers
    (subst (λ (x : List Path). IsSound (g.A.Asker.answers c.args.asker.now) (length x) c.loop-q.found) (sym inv.heads) inv.grown.sound)

pub ask_about-requires-clause-apart : goal.ask_about-requires-clause-apart
ask_about-requires-clause-apart g c =
    let order = c.args.order.now in
    let at = c.args.at in
    let q = get_or c.args.opened.now c.loop-q.q-index 0 in
    let left : c.index-order-q.result ≡ head_at order q = get_or_read order q c.index-order-q.result (search rules) c.index-order-q.is no_head in
    let right : c.index-order-at.result ≡ head_at order at = get_or_read order at c.index-order-at.result c.requires.inside c.index-order-at.is no_head in
    λ e. c.requires.order.once q at (All-get_or (λ x. x < at) c.args.opened.now c.loop-q.q-index 0 c.loop-q-test.true c.requires.below) c.requires.inside
    (ap (λ (x : Head). x.index) (sym left) ∙ e ∙ ap (λ (x : Head). x.index) right)

pub returns-clause-asked : goal.returns-clause-asked
returns-clause-asked g c =
    subst (λ (xs : List ℕ). g.A.Asker.asked c.args.asker.now c.loop-q.asker (questions_at c.args.order.now c.args.at xs)) (take_all c.loop-q.q-index c.args.opened.now (search rules)) c.loop-q.invariant.asked

pub returns-clause-some : goal.returns-clause-some
returns-clause-some g c = (c.loop-q.q-index, c.loop-q.invariant.asked)

pub returns-in_err-ask_about-clause-some : goal.returns-in_err-ask_about-clause-some
returns-in_err-ask_about-clause-some g c =
    let order = c.args.order.now in
    let at = c.args.at in
    let q = get_or c.args.opened.now c.loop-q.q-index 0 in
    let left : c.index-order-q.result ≡ head_at order q = get_or_read order q c.index-order-q.result (search rules) c.index-order-q.is no_head in
    let right : c.index-order-at.result ≡ head_at order at = get_or_read order at c.index-order-at.result c.requires.inside c.index-order-at.is no_head in (
      c.loop-q.q-index + 1,
      subst (λ (xs : List Question). g.A.Asker.asked c.args.asker.now c.ask_about.new.asker xs) (sym (map_more (λ q. question_of (head_at order q) (head_at order at)) c.args.opened.now c.loop-q.q-index 0 c.loop-q-test.true))
          (g.met.A.Asker.asked_on c.args.asker.now c.loop-q.asker c.ask_about.new.asker (questions_at order at (take c.loop-q.q-index c.args.opened.now)) (question_of (head_at order q) (head_at order at) ∷ []) c.loop-q.invariant.asked
          (subst (λ (x : Head). g.A.Asker.asked c.loop-q.asker c.ask_about.new.asker (question_of x (head_at order at) ∷ [])) left
          (subst (λ (x : Head). g.A.Asker.asked c.loop-q.asker c.ask_about.new.asker (question_of c.index-order-q.result x ∷ [])) right c.ask_about.ensures.asked))),
    )

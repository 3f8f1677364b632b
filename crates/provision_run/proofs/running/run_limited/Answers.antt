use Rattle.std.proofs.Common.{rules, ap, subst, ◌∙◌, ◌≡◌, ◌+◌, ◌-◌, ◌≤◌, [], Err, None, ℕ, List, drop, length}
use Rattle.pv_steps.specs.Counting.{refused, faults_after}
use Rattle.provision_run.specs.OverTree.{HasFailedBy, HasLeftBy, HasRunBy}
use Rattle.provision_run.specs.declared.outcome.Outcome.TheVariants.{Stopped}
use Rattle.provision_run.specs.declared.ending.RunEnd.{RunEnd}
use Rattle.provision_run.specs.Tasks.{task_of}
use Rattle.provision_run.specs.Whole.{HasMessagesBy, HasMessagesPartBy, HasGoneBy, run_work}
use Rattle.provision_run.proofs.AnswerLaws.{burnt_stopped, failed_run, left_run, limited, moved, none_refused, passed_counted, stopped_run, unlimited, whole_run}
use Rattle.provision_run.proofs.running.run_limited.Goals as goal
use Rattle.provision_run.proofs.running.run_limited.Goals.{in_default-via-in-Some+else-stopped, in_default-via-in-None-1}

pub returns-in-Ok-clause-run : goal.returns-in-Ok-clause-run
returns-in-Ok-clause-run g c =
    let start : g.T.Tree.steps c.new-fused.result.inner.tree.now ≡ [] = rw (c.new-fused.ensures, c.new.ensures.now) c.requires.fresh in
    let stated : HasRunBy c.args.options.now c.args.facts.now c.args.moment (g.T.Tree.state c.new-fused.result.inner.tree.now) c.outcome_of.result c.run_on_tree.new.messages (g.T.Tree.state c.run_on_tree.new.tree.inner.tree.now) (g.T.Tree.steps c.run_on_tree.new.tree.inner.tree.now) =
    whole_run c.args.options.now c.args.facts.now c.args.moment (g.T.Tree.state c.new-fused.result.inner.tree.now) (g.T.Tree.state c.run_on_tree.new.tree.inner.tree.now)
    (g.T.Tree.steps c.new-fused.result.inner.tree.now) (g.T.Tree.steps c.run_on_tree.new.tree.inner.tree.now) start c.in-Ok.ensures.acted.ran
    c.in-Ok.ensures.recovers c.in-Ok.ensures.anew c.in-Ok.ensures.framed c.in-Ok.ensures.between
    c.in-Ok.end c.outcome_of.result c.run_on_tree.new.messages c.outcome_of.ensures c.in-Ok.ensures.end c.in-Ok.ensures.ok c.in-Ok.ensures.staged
    (subst (λ (old : List (List ℕ)). HasMessagesBy (task_of c.args.options.now) c.args.options.now c.args.facts.now c.args.moment (g.T.Tree.state c.new-fused.result.inner.tree.now) old c.run_on_tree.new.messages) c.requires.messages_kept c.in-Ok.ensures.new_messages)
    (subst (λ (old : List (List ℕ)). HasGoneBy (task_of c.args.options.now) c.args.options.now c.args.facts.now c.args.moment 0 (g.T.Tree.state c.new-fused.result.inner.tree.now) (drop (length (g.T.Tree.steps c.new-fused.result.inner.tree.now)) (g.T.Tree.steps c.run_on_tree.new.tree.inner.tree.now)) old c.run_on_tree.new.messages) c.requires.messages_kept c.in-Ok.ensures.in_turn)
    (limited c.args.options.now.stop_after _ _ _ (rw (c.new-fused.ensures, c.new.ensures.now, c.requires.fresh) at c.in-Ok.ensures.acted.reaches.1)) in
    search (rules, stated)

pub returns-in_ok-say_stopped-in-Some-clause-run : goal.returns-in_ok-say_stopped-in-Some-clause-run
returns-in_ok-say_stopped-in-Some-clause-run g c =
    let start : g.T.Tree.steps c.new-fused.result.inner.tree.now ≡ [] = rw (c.new-fused.ensures, c.new.ensures.now) c.requires.fresh in
    let bound : (length (g.T.Tree.steps c.run_on_tree.new.tree.inner.tree.now) - length (g.T.Tree.steps c.new-fused.result.inner.tree.now)) + 1 ≤ run_work c.args.options.now c.args.facts.now c.args.moment (g.T.Tree.state c.new-fused.result.inner.tree.now) =
    subst (λ f. (length (g.T.Tree.steps c.run_on_tree.new.tree.inner.tree.now) - length (g.T.Tree.steps c.new-fused.result.inner.tree.now)) + refused {A = RunEnd} (Err f) ≤ run_work c.args.options.now c.args.facts.now c.args.moment (g.T.Tree.state c.new-fused.result.inner.tree.now)) c.in-Err-Failed.field-0-is c.in-Err-Failed.ensures.acted.bound in
    let part : HasMessagesPartBy (task_of c.args.options.now) c.args.options.now c.args.facts.now c.args.moment (g.T.Tree.state c.new-fused.result.inner.tree.now) [] c.run_on_tree.new.messages =
    subst (λ (old : List (List ℕ)). HasMessagesPartBy (task_of c.args.options.now) c.args.options.now c.args.facts.now c.args.moment (g.T.Tree.state c.new-fused.result.inner.tree.now) old c.run_on_tree.new.messages) c.requires.messages_kept c.in-Err-Failed.ensures.part in
    let new_messages : HasGoneBy (task_of c.args.options.now) c.args.options.now c.args.facts.now c.args.moment 1 (g.T.Tree.state c.new-fused.result.inner.tree.now) (drop (length (g.T.Tree.steps c.new-fused.result.inner.tree.now)) (g.T.Tree.steps c.run_on_tree.new.tree.inner.tree.now)) [] c.run_on_tree.new.messages =
    subst (λ (old : List (List ℕ)). HasGoneBy (task_of c.args.options.now) c.args.options.now c.args.facts.now c.args.moment 1 (g.T.Tree.state c.new-fused.result.inner.tree.now) (drop (length (g.T.Tree.steps c.new-fused.result.inner.tree.now)) (g.T.Tree.steps c.run_on_tree.new.tree.inner.tree.now)) old c.run_on_tree.new.messages) c.requires.messages_kept (c.in-Err-Failed.ensures.read (ap Err c.in-Err-Failed.field-0-is)) in
    let stated : HasRunBy c.args.options.now c.args.facts.now c.args.moment (g.T.Tree.state c.new-fused.result.inner.tree.now) (Stopped c.in-Some.limit) c.say_stopped.new.messages (g.T.Tree.state c.run_on_tree.new.tree.inner.tree.now) (g.T.Tree.steps c.run_on_tree.new.tree.inner.tree.now) =
    stopped_run c.args.options.now c.args.facts.now c.args.moment (g.T.Tree.state c.new-fused.result.inner.tree.now) (g.T.Tree.state c.run_on_tree.new.tree.inner.tree.now)
    (g.T.Tree.steps c.new-fused.result.inner.tree.now) (g.T.Tree.steps c.run_on_tree.new.tree.inner.tree.now) start c.in-Err-Failed.ensures.acted.ran
    c.in-Err-Failed.ensures.recovers c.in-Err-Failed.ensures.anew c.in-Err-Failed.ensures.framed c.in-Err-Failed.ensures.between
    c.run_on_tree.new.messages bound part new_messages
    c.in-Some.limit c.say_stopped.new.messages c.in-Some.is
    (burnt_stopped c.in-Some.limit _ _ _ (rw (c.new-fused.ensures, c.new.ensures.now, c.requires.fresh, c.in-Some.is) at c.in-Err-Failed.ensures.acted.reaches.1) (search rules))
    c.in_ok-say_stopped-in-Some.ensures.ok in
    let first : c.new-fused.result.inner.tree.now ≡ c.args.tree.now = search rules in
    let last : c.run_on_tree.new.tree.inner.tree.now ≡ c.tree-in-Some-1.given.0 = search rules in
    moved (λ s u. HasRunBy c.args.options.now c.args.facts.now c.args.moment (g.T.Tree.state s) (Stopped c.in-Some.limit) c.say_stopped.new.messages (g.T.Tree.state u) (g.T.Tree.steps u)) first last stated

pub returns-in_default-clause-failed : goal.returns-in_default-clause-failed
returns-in_default-clause-failed g c = λ _.
    let start : g.T.Tree.steps c.new-fused.result.inner.tree.now ≡ [] = rw (c.new-fused.ensures, c.new.ensures.now) c.requires.fresh in
    let bound : (length (g.T.Tree.steps c.run_on_tree.new.tree.inner.tree.now) - length (g.T.Tree.steps c.new-fused.result.inner.tree.now)) + 1 ≤ run_work c.args.options.now c.args.facts.now c.args.moment (g.T.Tree.state c.new-fused.result.inner.tree.now) =
    subst (λ f. (length (g.T.Tree.steps c.run_on_tree.new.tree.inner.tree.now) - length (g.T.Tree.steps c.new-fused.result.inner.tree.now)) + refused {A = RunEnd} (Err f) ≤ run_work c.args.options.now c.args.facts.now c.args.moment (g.T.Tree.state c.new-fused.result.inner.tree.now)) c.in-Err-Failed.field-0-is c.in-Err-Failed.ensures.acted.bound in
    let part : HasMessagesPartBy (task_of c.args.options.now) c.args.options.now c.args.facts.now c.args.moment (g.T.Tree.state c.new-fused.result.inner.tree.now) [] c.run_on_tree.new.messages =
    subst (λ (old : List (List ℕ)). HasMessagesPartBy (task_of c.args.options.now) c.args.options.now c.args.facts.now c.args.moment (g.T.Tree.state c.new-fused.result.inner.tree.now) old c.run_on_tree.new.messages) c.requires.messages_kept c.in-Err-Failed.ensures.part in
    let new_messages : HasGoneBy (task_of c.args.options.now) c.args.options.now c.args.facts.now c.args.moment 1 (g.T.Tree.state c.new-fused.result.inner.tree.now) (drop (length (g.T.Tree.steps c.new-fused.result.inner.tree.now)) (g.T.Tree.steps c.run_on_tree.new.tree.inner.tree.now)) [] c.run_on_tree.new.messages =
    subst (λ (old : List (List ℕ)). HasGoneBy (task_of c.args.options.now) c.args.options.now c.args.facts.now c.args.moment 1 (g.T.Tree.state c.new-fused.result.inner.tree.now) (drop (length (g.T.Tree.steps c.new-fused.result.inner.tree.now)) (g.T.Tree.steps c.run_on_tree.new.tree.inner.tree.now)) old c.run_on_tree.new.messages) c.requires.messages_kept (c.in-Err-Failed.ensures.read (ap Err c.in-Err-Failed.field-0-is)) in
    let stated : HasFailedBy c.args.options.now c.args.facts.now c.args.moment (g.T.Tree.state c.new-fused.result.inner.tree.now) c.run_on_tree.new.messages (g.T.Tree.state c.run_on_tree.new.tree.inner.tree.now) (g.T.Tree.steps c.run_on_tree.new.tree.inner.tree.now) =
    failed_run c.args.options.now c.args.facts.now c.args.moment (g.T.Tree.state c.new-fused.result.inner.tree.now) (g.T.Tree.state c.run_on_tree.new.tree.inner.tree.now)
    (g.T.Tree.steps c.new-fused.result.inner.tree.now) (g.T.Tree.steps c.run_on_tree.new.tree.inner.tree.now) start c.in-Err-Failed.ensures.acted.ran
    c.in-Err-Failed.ensures.recovers c.in-Err-Failed.ensures.anew c.in-Err-Failed.ensures.framed c.in-Err-Failed.ensures.between
    c.run_on_tree.new.messages bound part new_messages in
    let first : c.new-fused.result.inner.tree.now ≡ c.args.tree.now = search rules in
    let last : c.run_on_tree.new.tree.inner.tree.now ≡ c.in_default.tree = search rules in
    moved (λ s u. HasFailedBy c.args.options.now c.args.facts.now c.args.moment (g.T.Tree.state s) c.run_on_tree.new.messages (g.T.Tree.state u) (g.T.Tree.steps u)) first last stated

pub returns-in_default-clause-counted : goal.returns-in_default-clause-counted
returns-in_default-clause-counted g c =
    let acted = c.in-Err-Failed.ensures.acted in
    let passed : c.run_on_tree.new.tree.refused ≡ 0 = elim c.in_default.branch [
      | in_default-via-in-Some+else-stopped w ↦ none_refused _ w.if-stopped.ensures.1
      | in_default-via-in-None-1 w ↦
          let none : c.args.options.now.stop_after ≡ None = search (rules, w) in
          unlimited _ _ _ (rw (c.new-fused.ensures, c.new.ensures.now, c.requires.fresh, none) at acted.reaches.1)
    ] in
    let stated : g.T.Tree.faults c.run_on_tree.new.tree.inner.tree.now ≡ faults_after 1 (g.T.Tree.faults c.new-fused.result.inner.tree.now) =
    passed_counted _ _ _ c.run_on_tree.new.tree.inner.failed _ c.run_on_tree.new.tree.refused acted.reaches.0.1.1
    (ap (λ f. f.inner.failed) c.new-fused.ensures ∙ c.new.ensures.none) (ap (λ f. f.refused) c.new-fused.ensures) (rw c.in-Err-Failed.field-0-is at acted.counted)
    passed in
    search (rules, stated)

pub returns-in-Ok-clause-left : goal.returns-in-Ok-clause-left
returns-in-Ok-clause-left g c =
    let start : g.T.Tree.steps c.new-fused.result.inner.tree.now ≡ [] = rw (c.new-fused.ensures, c.new.ensures.now) c.requires.fresh in
    let stated : HasLeftBy c.args.options.now c.args.facts.now c.args.moment (g.T.Tree.state c.new-fused.result.inner.tree.now) (g.T.Tree.state c.run_on_tree.new.tree.inner.tree.now) (g.T.Tree.steps c.run_on_tree.new.tree.inner.tree.now) =
    left_run c.args.options.now c.args.facts.now c.args.moment (g.T.Tree.state c.new-fused.result.inner.tree.now) (g.T.Tree.state c.run_on_tree.new.tree.inner.tree.now)
    (g.T.Tree.steps c.new-fused.result.inner.tree.now) (g.T.Tree.steps c.run_on_tree.new.tree.inner.tree.now) start c.run_on_tree.ensures.acted.ran
    c.run_on_tree.ensures.recovers c.run_on_tree.ensures.anew c.run_on_tree.ensures.framed c.run_on_tree.ensures.between in
    let first : c.new-fused.result.inner.tree.now ≡ c.args.tree.now = search rules in
    let last : c.run_on_tree.new.tree.inner.tree.now ≡ c.in-Ok.tree-1-own.given.0 = search rules in
    moved (λ s u. HasLeftBy c.args.options.now c.args.facts.now c.args.moment (g.T.Tree.state s) (g.T.Tree.state u) (g.T.Tree.steps u)) first last stated

pub returns-in-Err-Memory-clause-left : goal.returns-in-Err-Memory-clause-left
returns-in-Err-Memory-clause-left g c =
    let start : g.T.Tree.steps c.new-fused.result.inner.tree.now ≡ [] = rw (c.new-fused.ensures, c.new.ensures.now) c.requires.fresh in
    let stated : HasLeftBy c.args.options.now c.args.facts.now c.args.moment (g.T.Tree.state c.new-fused.result.inner.tree.now) (g.T.Tree.state c.run_on_tree.new.tree.inner.tree.now) (g.T.Tree.steps c.run_on_tree.new.tree.inner.tree.now) =
    left_run c.args.options.now c.args.facts.now c.args.moment (g.T.Tree.state c.new-fused.result.inner.tree.now) (g.T.Tree.state c.run_on_tree.new.tree.inner.tree.now)
    (g.T.Tree.steps c.new-fused.result.inner.tree.now) (g.T.Tree.steps c.run_on_tree.new.tree.inner.tree.now) start c.run_on_tree.ensures.acted.ran
    c.run_on_tree.ensures.recovers c.run_on_tree.ensures.anew c.run_on_tree.ensures.framed c.run_on_tree.ensures.between in
    let first : c.new-fused.result.inner.tree.now ≡ c.args.tree.now = search rules in
    let last : c.run_on_tree.new.tree.inner.tree.now ≡ c.tree-in-Err-Memory-1.given.0 = search rules in
    moved (λ s u. HasLeftBy c.args.options.now c.args.facts.now c.args.moment (g.T.Tree.state s) (g.T.Tree.state u) (g.T.Tree.steps u)) first last stated

pub returns-in_ok-say_stopped-in-Some-clause-left : goal.returns-in_ok-say_stopped-in-Some-clause-left
returns-in_ok-say_stopped-in-Some-clause-left g c =
    let start : g.T.Tree.steps c.new-fused.result.inner.tree.now ≡ [] = rw (c.new-fused.ensures, c.new.ensures.now) c.requires.fresh in
    let stated : HasLeftBy c.args.options.now c.args.facts.now c.args.moment (g.T.Tree.state c.new-fused.result.inner.tree.now) (g.T.Tree.state c.run_on_tree.new.tree.inner.tree.now) (g.T.Tree.steps c.run_on_tree.new.tree.inner.tree.now) =
    left_run c.args.options.now c.args.facts.now c.args.moment (g.T.Tree.state c.new-fused.result.inner.tree.now) (g.T.Tree.state c.run_on_tree.new.tree.inner.tree.now)
    (g.T.Tree.steps c.new-fused.result.inner.tree.now) (g.T.Tree.steps c.run_on_tree.new.tree.inner.tree.now) start c.run_on_tree.ensures.acted.ran
    c.run_on_tree.ensures.recovers c.run_on_tree.ensures.anew c.run_on_tree.ensures.framed c.run_on_tree.ensures.between in
    let first : c.new-fused.result.inner.tree.now ≡ c.args.tree.now = search rules in
    let last : c.run_on_tree.new.tree.inner.tree.now ≡ c.tree-in-Some-1.given.0 = search rules in
    moved (λ s u. HasLeftBy c.args.options.now c.args.facts.now c.args.moment (g.T.Tree.state s) (g.T.Tree.state u) (g.T.Tree.steps u)) first last stated

pub returns-in_err-say_stopped-in-Some-clause-left : goal.returns-in_err-say_stopped-in-Some-clause-left
returns-in_err-say_stopped-in-Some-clause-left g c =
    let start : g.T.Tree.steps c.new-fused.result.inner.tree.now ≡ [] = rw (c.new-fused.ensures, c.new.ensures.now) c.requires.fresh in
    let stated : HasLeftBy c.args.options.now c.args.facts.now c.args.moment (g.T.Tree.state c.new-fused.result.inner.tree.now) (g.T.Tree.state c.run_on_tree.new.tree.inner.tree.now) (g.T.Tree.steps c.run_on_tree.new.tree.inner.tree.now) =
    left_run c.args.options.now c.args.facts.now c.args.moment (g.T.Tree.state c.new-fused.result.inner.tree.now) (g.T.Tree.state c.run_on_tree.new.tree.inner.tree.now)
    (g.T.Tree.steps c.new-fused.result.inner.tree.now) (g.T.Tree.steps c.run_on_tree.new.tree.inner.tree.now) start c.run_on_tree.ensures.acted.ran
    c.run_on_tree.ensures.recovers c.run_on_tree.ensures.anew c.run_on_tree.ensures.framed c.run_on_tree.ensures.between in
    let first : c.new-fused.result.inner.tree.now ≡ c.args.tree.now = search rules in
    let last : c.run_on_tree.new.tree.inner.tree.now ≡ c.tree-in-Some-1.given.0 = search rules in
    moved (λ s u. HasLeftBy c.args.options.now c.args.facts.now c.args.moment (g.T.Tree.state s) (g.T.Tree.state u) (g.T.Tree.steps u)) first last stated

pub returns-in_default-clause-left : goal.returns-in_default-clause-left
returns-in_default-clause-left g c =
    let start : g.T.Tree.steps c.new-fused.result.inner.tree.now ≡ [] = rw (c.new-fused.ensures, c.new.ensures.now) c.requires.fresh in
    let stated : HasLeftBy c.args.options.now c.args.facts.now c.args.moment (g.T.Tree.state c.new-fused.result.inner.tree.now) (g.T.Tree.state c.run_on_tree.new.tree.inner.tree.now) (g.T.Tree.steps c.run_on_tree.new.tree.inner.tree.now) =
    left_run c.args.options.now c.args.facts.now c.args.moment (g.T.Tree.state c.new-fused.result.inner.tree.now) (g.T.Tree.state c.run_on_tree.new.tree.inner.tree.now)
    (g.T.Tree.steps c.new-fused.result.inner.tree.now) (g.T.Tree.steps c.run_on_tree.new.tree.inner.tree.now) start c.run_on_tree.ensures.acted.ran
    c.run_on_tree.ensures.recovers c.run_on_tree.ensures.anew c.run_on_tree.ensures.framed c.run_on_tree.ensures.between in
    let first : c.new-fused.result.inner.tree.now ≡ c.args.tree.now = search rules in
    let last : c.run_on_tree.new.tree.inner.tree.now ≡ c.in_default.tree = search rules in
    moved (λ s u. HasLeftBy c.args.options.now c.args.facts.now c.args.moment (g.T.Tree.state s) (g.T.Tree.state u) (g.T.Tree.steps u)) first last stated

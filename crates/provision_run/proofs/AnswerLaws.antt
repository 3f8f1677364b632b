-- From a run over an image to the answer to its bytes.
use Rattle.std.specs.Prelude.{◌≡◌, ◌⊎◌, ℕ, zero, suc, ◌+◌, ◌-◌, ◌<◌, ◌≤◌, min, IsTrue, true, false, List, [], ◌∷◌, ◌++◌, length, drop, Option, Some, None, Result, Ok, Err, IfOk, IfSome, IsErrOf}
use Rattle.std.proofs.Common.{refl, subst, sym, ap, ◌∙◌, arith, inl, inr}
use Rattle.std.proofs.lemmas.List.{append_cancel_left}
use Rattle.std.proofs.Math.Nat.{eq-or-lt_of_le, min-le_right}
use Rattle.pv_text.specs.Facts.{Values}
use Rattle.pv_steps.specs.declared.step.Step.{Step}
use Rattle.pv_steps.specs.Trees.{Files}
use Rattle.pv_steps.specs.Runs.{Ran}
use Rattle.pv_steps.specs.Counting.{faults_after, refused}
use Rattle.pv_steps.specs.declared.tree.TreeFault.{TreeFault}
use Rattle.pv_steps.specs.declared.tree.TreeFault.TheVariants as step
use Rattle.pv_io.specs.Faults.{HasRisen, last_count}
use Rattle.pv_image.specs.Images.{IsImage}
use Rattle.pv_image.specs.Spelling.{text_of}
use Rattle.pv_tree.specs.Fuses.{Burnt, capped, whole_limit}
use Rattle.pv_tree.proofs.FuseLaws.{burnt_within}
use Rattle.pv_words.specs.declared.options.Options.{Options}
use Rattle.provision_run.specs.declared.answer.Answer.{Answer}
use Rattle.provision_run.specs.declared.outcome.Outcome.{Outcome}
use Rattle.provision_run.specs.declared.outcome.Outcome.TheVariants.{Done, ConfigInvalid, NotCarriedOut, Usage, BadImage, NoFreeId, Memory, ReadFault, WriteFault, Stopped, BadFolder, FolderFailed}
use Rattle.provision_run.specs.declared.ending.RunEnd.{RunEnd}
use Rattle.provision_run.specs.declared.ending.RunEnd.TheVariants as end
use Rattle.provision_run.specs.Tasks.{task_of}
use Rattle.provision_run.specs.Words.{moment_of}
use Rattle.provision_run.proofs.TaskLaws.{front_by}
use Rattle.provision_run.specs.Framed.{IsFramedIn}
use Rattle.provision_run.specs.OnTheWay.{IsOnTheWayIn}
use Rattle.provision_run.specs.Lending.{HaveCounted}
use Rattle.provision_run.specs.OverTree.{HasFailedBy, HasLeft, HasLeftBy, HasRun, HasRunBy, IsCut, IsStopped, IsWhole, outcome_of, stopped_text}
use Rattle.provision_run.specs.Swept.{IsSweptIn}
use Rattle.provision_run.specs.Whole.{final, HasMessagesBy, HasMessagesPartBy, HasGoneBy, IsCutBy, RecoversAnewIn, RecoversIn, is_run_step, read_messages, run_end, run_way, run_work}
use Rattle.provision_run.specs.Answers.{IsAnswer, IsAnswered, IsRun, IsOwn, most_bytes}
use Rattle.provision_run.specs.Messages.{messages_text}

-- an outcome of a run that was not stopped
abbrev pub IsEnd : Outcome → Type 0
IsEnd Done = Unit {0}
IsEnd ConfigInvalid = Unit {0}
IsEnd NotCarriedOut = Unit {0}
IsEnd (NoFreeId name) = Unit {0}
IsEnd found = ⊥

pub ends : (e : RunEnd) → IsEnd (outcome_of e)
ends end.Done = tt
ends end.ConfigInvalid = tt
ends end.NotCarriedOut = tt
ends (end.NoFreeId name) = tt

-- a run that was not stopped has run, by its steps
whole_of : (options : Options) (facts : Values) (moment : ℕ) (t : Files) (found : Outcome) (messages : List (List ℕ)) (left : Files) → IsEnd found
    → (h : IsWhole options facts moment t found messages left) → (steps : List Step) → h.gone.steps ≡ steps → HasRunBy options facts moment t found messages left steps
whole_of options facts moment t Done messages left is h steps by = record { run = h; by = by }
whole_of options facts moment t ConfigInvalid messages left is h steps by = record { run = h; by = by }
whole_of options facts moment t NotCarriedOut messages left is h steps by = record { run = h; by = by }
whole_of options facts moment t Usage messages left is h steps by = record { run = h; by = by }
whole_of options facts moment t (BadImage f) messages left is h steps by = record { run = h; by = by }
whole_of options facts moment t (NoFreeId name) messages left is h steps by = record { run = h; by = by }
whole_of options facts moment t Memory messages left is h steps by = record { run = h; by = by }
whole_of options facts moment t ReadFault messages left is h steps by = record { run = h; by = by }
whole_of options facts moment t WriteFault messages left is h steps by = record { run = h; by = by }
whole_of options facts moment t (Stopped n) messages left is h steps by = absurd is
whole_of options facts moment t (BadFolder f) messages left is h steps by = record { run = h; by = by }
whole_of options facts moment t FolderFailed messages left is h steps by = record { run = h; by = by }

run_whole : (options : Options) (facts : Values) (moment : ℕ) (t : Files) (e : RunEnd) (found : Outcome) (messages : List (List ℕ)) (left : Files) → found ≡ outcome_of e
    → (h : IsWhole options facts moment t found messages left) → (steps : List Step) → h.gone.steps ≡ steps → HasRunBy options facts moment t found messages left steps
run_whole options facts moment t e found messages left is h steps by = whole_of options facts moment t found messages left (subst IsEnd (sym is) (ends e)) h steps by

module _ (options : Options) (clock_micros : ℕ) (input : List ℕ) (facts : Values) (t : Files) (image : IsImage input facts t) (fits : length input ≤ most_bytes) where
  run_of : (found : Outcome) (out : List ℕ) → IsAnswered options facts (moment_of options clock_micros) t found out → IsRun options clock_micros input found out
  run_of found out h = record { facts = facts; tree = t; image = image; fits = fits; answered = h }

  not_end : (found : Outcome) (messages : List (List ℕ)) (left : Files) (moment : ℕ) → IsWhole options facts moment t found messages left → IsEnd found
  not_end found messages left moment h = subst IsEnd (sym h.end) (ends (run_end options facts moment t))

  answer_of : (found : Outcome) (out : List ℕ) → IsAnswered options facts (moment_of options clock_micros) t found out → IsAnswer options clock_micros input found out
  answer_of Done out h = run_of Done out h
  answer_of ConfigInvalid out h = run_of ConfigInvalid out h
  answer_of NotCarriedOut out h = run_of NotCarriedOut out h
  answer_of Usage out h = not_end Usage h.messages h.left (moment_of options clock_micros) h.run
  answer_of (BadImage f) out h = absurd (not_end (BadImage f) h.messages h.left (moment_of options clock_micros) h.run)
  answer_of (NoFreeId name) out h = run_of (NoFreeId name) out h
  answer_of Memory out h = run_of Memory out h
  answer_of ReadFault out h = run_of ReadFault out h
  answer_of WriteFault out h = run_of WriteFault out h
  answer_of (Stopped n) out h = run_of (Stopped n) out h
  answer_of (BadFolder f) out h = run_of (BadFolder f) out h
  answer_of FolderFailed out h = run_of FolderFailed out h

  -- what was answered over an image is the answer to its bytes
  pub answers : {E : Type 0} (r : Result Answer E) → IfOk r (λ a. IsAnswered options facts (moment_of options clock_micros) t a.outcome a.output.items)
      → IfOk r (λ a. IsAnswer options clock_micros input a.outcome a.output.items)
  answers (Ok a) h = answer_of a.outcome a.output.items h
  answers (Err f) h = tt

-- the two ends are not blamed by an outcome with an output of its own
pub own_not_read : (found : Outcome) → IsOwn found → found ≡ ReadFault → ⊥
own_not_read found h e = subst IsOwn e h

pub own_not_written : (found : Outcome) → IsOwn found → found ≡ WriteFault → ⊥
own_not_written found h e = subst IsOwn e h

-- ---- what a run over any tree says of itself

-- what holds of two trees holds of trees that are the same
pub moved : {S : Type 0} {a b x y : S} (P : S → S → Type 0) → a ≡ b → x ≡ y → P a x → P b y
moved {S} {a} {b} {x} {y} P p q h = subst (λ (s : S). P s y) p (subst (λ (u : S). P a u) q h)

module _ (options : Options) (facts : Values) (moment : ℕ) (t u : Files) (h k : List Step) (start : h ≡ [])
    (ran : Ran (run_way options facts moment t) (is_run_step options facts moment t) moment t h u k)
    (recovers : RecoversIn (task_of options) options facts moment t (drop (length h) k))
    (anew : RecoversAnewIn (task_of options) options facts moment t (drop (length h) k))
    (framed : IsFramedIn (task_of options) options facts moment t (drop (length h) k))
    (between : IsOnTheWayIn (task_of options) options facts moment t (drop (length h) k)) where
  -- the steps that it added are all that are told
  all_told : k ≡ ran.steps
  all_told = ran.recorded ∙ ap (λ x. x ++ ran.steps) start

  added : drop (length h) k ≡ ran.steps
  added = ap (λ x. drop (length x) k) start ∙ all_told

  abbrev left_here : HasLeft options facts moment t u
  left_here = record {
    steps = ran.steps;
    way = ran.along;
    asked = ran.gives;
    reached = ran.reached;
    recovers = subst (RecoversIn (task_of options) options facts moment t) added recovers;
    anew = subst (RecoversAnewIn (task_of options) options facts moment t) added anew;
    framed = subst (IsFramedIn (task_of options) options facts moment t) added framed;
    between = subst (IsOnTheWayIn (task_of options) options facts moment t) added between;
  }

  -- whatever it answered
  pub left_run : HasLeftBy options facts moment t u k
  left_run = record { gone = left_here; by = sym all_told }

  pub whole_run : (e : RunEnd) (found : Outcome) (messages : List (List ℕ)) → found ≡ outcome_of e → e ≡ run_end options facts moment t
      → u ≡ final options facts moment t → IsSweptIn (task_of options) options facts moment t u
      → HasMessagesBy (task_of options) options facts moment t [] messages → HasGoneBy (task_of options) options facts moment 0 t (drop (length h) k) [] messages
      → IfSome options.stop_after (λ n. length k ≤ n) → HasRunBy options facts moment t found messages u k
  whole_run e found messages is ended final_is staged all in_turn few = run_whole options facts moment t e found messages u is (record {
    end = is ∙ ap outcome_of ended;
    new_messages = all.0;
    is_said = all.1.0;
    messages_are = all.1.1;
    final_is = final_is;
    gone = left_here;
    in_turn = subst (λ (steps : List Step). IsCutBy (task_of options) options facts moment 0 t steps all.0) added
        (subst (IsCutBy (task_of options) options facts moment 0 t (drop (length h) k))
        (append_cancel_left (read_messages options facts t) in_turn.0 all.0 (sym in_turn.1.0 ∙ all.1.1)) in_turn.1.1);
    within = subst (λ x. IfSome options.stop_after (λ n. length x ≤ n)) all_told few;
    staged = staged;
  }) k (sym all_told)

  -- one of which a step was refused
  module _ (messages : List (List ℕ)) (bound : (length k - length h) + 1 ≤ run_work options facts moment t)
      (part : HasMessagesPartBy (task_of options) options facts moment t [] messages)
      (stopped : HasGoneBy (task_of options) options facts moment 1 t (drop (length h) k) [] messages) where
    abbrev cut_here : IsCut options facts moment t stopped.0 u
    cut_here = record {
      gone = left_here;
      fewer =
          let none : length h ≡ 0 = ap length start in
          let many : length k ≡ length ran.steps = ap length all_told in
          omega (arith, many, bound, none);
      prefix = front_by (task_of options) options facts moment t (drop (length h) k) stopped.0 messages stopped.1.1 stopped.1.0 part;
      at_work = subst (λ (steps : List Step). IsCutBy (task_of options) options facts moment 1 t steps stopped.0) added stopped.1.1;
    }

    pub failed_run : HasFailedBy options facts moment t messages u k
    failed_run = record { run = (stopped.0, (stopped.1.0, cut_here)); by = sym all_told }

    abbrev stopped_here : (n : ℕ) (all : List (List ℕ)) → options.stop_after ≡ Some n → length k ≡ n → all ≡ messages ++ stopped_text n ∷ [] → IsStopped options facts moment t n all u
    stopped_here n all limit count is = record {
      limit = limit;
      new_messages = stopped.0;
      cut = cut_here;
      count = ap length (sym all_told) ∙ count;
      messages_are = is ∙ ap (λ x. x ++ stopped_text n ∷ []) stopped.1.0;
    }

    pub stopped_run : (n : ℕ) (all : List (List ℕ)) → options.stop_after ≡ Some n → length k ≡ n → all ≡ messages ++ stopped_text n ∷ []
        → HasRunBy options facts moment t (Stopped n) all u k
    stopped_run n all limit count is = record { run = stopped_here n all limit count is; by = sym all_told }

-- the answer to a run over an image
pub answered : (options : Options) (facts : Values) (moment : ℕ) (t left : Files) (found : Outcome) (messages : List (List ℕ)) → HasRun options facts moment t found messages left
    → {E : Type 0} (r : Result Answer E) → IfOk r (λ a. a.outcome ≡ found) → IfOk r (λ a. a.output.items ≡ messages_text messages ++ text_of facts left)
    → IfOk r (λ a. IsImage a.output.items facts left) → IfOk r (λ a. IsAnswered options facts moment t a.outcome a.output.items)
answered options facts moment t left found messages run (Ok a) is text again = record {
  messages = messages;
  left = left;
  run = subst (λ (o : Outcome). HasRun options facts moment t o messages left) (sym is) run;
  text = text;
  again = again;
}
answered options facts moment t left found messages run (Err f) is text again = tt

-- no more steps are done than the limit, if there is one
pub limited : (limit left : Option ℕ) (refused done : ℕ) → Burnt limit 0 0 left refused done → IfSome limit (λ n. done ≤ n)
limited None left refused done b = tt
limited (Some n) left refused done b = burnt_within n left refused done b

-- and as many, once one was refused for it
pub burnt_stopped : (limit : ℕ) (left : Option ℕ) (refused done : ℕ) → Burnt (Some limit) 0 0 left refused done → 0 < refused → done ≡ limit
burnt_stopped limit left refused done b some =
    let none : left ≡ Some 0 = b.used_up (λ h. absurd (let no : 0 < 0 = h in omega arith)) some in
    let same : whole_limit (Some 0) done ≡ Some (limit + 0) = rw none at b.limit in
    grind arith

-- a run without a limit refuses no step for it
pub unlimited : (left : Option ℕ) (refused done : ℕ) → Burnt None 0 0 left refused done → refused ≡ 0
unlimited left zero done b = refl
unlimited left (suc refused) done b =
    let none : left ≡ Some 0 = b.used_up (λ h. absurd (let no : 0 < 0 = h in omega arith)) (omega arith) in
    absurd (let no : whole_limit (Some 0) done ≡ whole_limit None 0 = rw none at b.limit in cc)

-- few faults that were counted from none are as many
few_counted : (k m : ℕ) → faults_after k 0 ≡ m → m < last_count → k ≡ m
few_counted zero m is few = is
few_counted (suc k) m is few =
    let one : faults_after k 0 + 1 ≡ m = omega (arith, is, few) in
    let rest = few_counted k (faults_after k 0) refl (omega (arith, one, few)) in
    omega (arith, one, rest)

-- a tree that was lent has counted as many faults as the one who lent it, which began with none
pub lent_counted : (old new before after m : ℕ) → HaveCounted old new before after → before ≡ 0 → after ≡ m → m < last_count → new ≡ faults_after m old
lent_counted old new before after m h none is few =
    h.there
    ∙ ap (λ k. faults_after k old)
    (few_counted h.times m (ap (λ n. faults_after h.times n) (sym none) ∙ sym h.here ∙ is) few)

-- a run that was refused once, and not for its limit, was refused by the tree that was lent
pub passed_counted : (old new before after was own : ℕ) → HaveCounted old new before after → before ≡ 0 → was ≡ 0
    → capped (after + own) ≡ faults_after 1 (capped (before + was)) → own ≡ 0 → new ≡ faults_after 1 old
passed_counted old new before after was own h none first counted passed =
    lent_counted old new before after 1 h none (omega (arith, none, first, counted, passed)) (omega arith)

-- a fuse that is not stopped has refused no step
pub none_refused : (refused : ℕ) → (0 < refused → IsTrue false) → refused ≡ 0
none_refused zero passed = refl
none_refused (suc refused) passed = absurd (let no : false ≡ true = passed (omega arith) in cc)

-- a count that tells of a refused step has risen
pub refused_risen : {A : Type 0} (r : Result A TreeFault) (old new : ℕ) → new ≡ faults_after (refused r) old → IsErrOf r step.Failed → HasRisen old new
refused_risen (Ok x) old new is failed = absurd (let no : Ok x ≡ Err step.Failed = failed in cc)
refused_risen {A} (Err step.Memory) old new is failed = absurd (let no : ◌≡◌ {A = Result A TreeFault} (Err step.Memory) (Err step.Failed) = failed in cc)
refused_risen (Err step.Failed) old new is failed = by (eq-or-lt_of_le (min-le_right (old + 1) last_count))
  where
    by : (min (old + 1) last_count ≡ last_count) ⊎ (min (old + 1) last_count < last_count) → HasRisen old new
    by (inl last) = inr (is ∙ last)
    by (inr less) = inl (let at : new ≡ min (old + 1) last_count = is in omega (arith, at, less))

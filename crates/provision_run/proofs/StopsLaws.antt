-- Runs that were stopped, one or more, each over what the last one left, recover by a complete run.
use Rattle.std.specs.Prelude.{◌≡◌, ℕ, List, [], ◌∷◌, length, take, Option}
use Rattle.std.proofs.Common.{refl, sym, ap, subst, ◌∙◌}
use Rattle.std.proofs.Math.Seq.{take-length}
use Rattle.pv_sysusers.specs.Accounted.{accounted, day_of}
use Rattle.pv_sysusers.specs.Recovery.{EndAlike}
use Rattle.pv_image.specs.Images.{IsImage}
use Rattle.pv_image.proofs.ImageLaws.{one_image}
use Rattle.pv_laws.proofs.Moments.{quiet_same}
use Rattle.pv_table.proofs.ListedLaws.{all_map}
use Rattle.pv_lines.specs.declared.line.Line.{Line}
use Rattle.provision_run.proofs.BootLaws.{removed_same}
use Rattle.provision_run.specs.Phases.{phases_of}
use Rattle.provision_run.specs.declared.phase.Phase.{Phase}
use Rattle.provision_run.specs.declared.phase.Phase.TheVariants.{Remove, Clean, Create, Purge}
use Rattle.pv_steps.specs.declared.step.Step.{Step}
use Rattle.pv_steps.specs.Runs.{after_all}
use Rattle.pv_steps.specs.Same.{Same}
use Rattle.pv_steps.specs.Trees.{Files}
use Rattle.pv_table.specs.Removed.{removed}
use Rattle.pv_text.specs.Facts.{Values}
use Rattle.pv_words.specs.declared.invocation.Invocation.{Invocation}
use Rattle.pv_words.specs.declared.options.Options.{Options}
use Rattle.provision_run.specs.declared.ending.RunEnd.{RunEnd}
use Rattle.provision_run.specs.declared.ending.RunEnd.TheVariants as end
use Rattle.provision_run.specs.declared.outcome.Outcome.TheVariants.{Stopped}
use Rattle.provision_run.specs.declared.task.Task.{Task}
use Rattle.provision_run.specs.declared.task.Task.TheVariants.{Phases, Report, Explain, Accounts}
use Rattle.provision_run.specs.Accounts.{run_requests}
use Rattle.provision_run.specs.Answers.{HasOutputBy, IsAnswer, IsAnswered, IsRun}
use Rattle.provision_run.specs.OverTree.{HasLeft, HasRun, IsStopped, IsWhole, outcome_of}
use Rattle.provision_run.specs.Phased.{phased, run_lines}
use Rattle.provision_run.specs.Rereading.{AccountsRecoverAnew, AreRequestsReread, ArePlain, ArePlainRequests, RecoversAnew, RefusesNoLineBy, IsReread, MayRecover, MayRepeat}
use Rattle.provision_run.specs.Stops.{AreImages, EndAlikeAfter, HasEndedOver, HasStopped, HasStoppedOver, HaveStopped, HaveStoppedOver, IsCalm, IsCalmOver, unlimited}
use Rattle.provision_run.specs.Tasks.{task_of}
use Rattle.provision_run.specs.Whole.{final, final_by, RecoversAnewIn}
use Rattle.provision_run.specs.Words.{moment_of}
use Rattle.provision_run.proofs.RereadingLaws.{leaves_input, lines_reread}

-- none of some steps are taken
none_done : (t : Files) (steps : List Step) (now : ℕ) → after_all t (take 0 steps) now ≡ t
none_done t [] now = refl
none_done t (step ∷ steps) now = refl

-- ---- phases, over trees

-- that no line is refused at a turn needs no moment
quiet_by : (phases : List Phase) (lines : List Line) (now later : ℕ) (t : Files) → RefusesNoLineBy phases lines now t → RefusesNoLineBy phases lines later t
quiet_by (Create ∷ []) lines now later t quiet = quiet_same lines now later t t (λ q. refl) quiet
quiet_by (Remove ∷ Create ∷ []) lines now later t quiet = quiet_same lines now later (removed lines now t) (removed lines later t) (removed_same lines now later t) quiet
quiet_by [] lines now later t quiet = tt
quiet_by (Remove ∷ []) lines now later t quiet = tt
quiet_by (Remove ∷ Remove ∷ phases) lines now later t quiet = tt
quiet_by (Remove ∷ Clean ∷ phases) lines now later t quiet = tt
quiet_by (Remove ∷ Create ∷ next ∷ phases) lines now later t quiet = tt
quiet_by (Remove ∷ Purge ∷ phases) lines now later t quiet = tt
quiet_by (Clean ∷ phases) lines now later t quiet = tt
quiet_by (Create ∷ next ∷ phases) lines now later t quiet = tt
quiet_by (Purge ∷ phases) lines now later t quiet = tt

module _ (options : Options) (facts : Values) where
  -- what the law for one stop asks, where the same lines are read
  may_recover : (moment later : ℕ) (t u : Files) → run_lines options facts u ≡ run_lines options facts t → MayRepeat (phases_of options) (run_lines options facts t) → IsCalm options facts t → IsCalm options facts u
      → MayRecover (phases_of options) (run_lines options facts t) moment t later u
  may_recover moment later t u same may calm still = (
    may,
    (
      calm.0,
      (
        quiet_by (phases_of options) (run_lines options facts t) calm.1.0 moment t calm.1.1,
        quiet_by (phases_of options) (run_lines options facts t) still.1.0 later u (subst (λ (lines : List Line). RefusesNoLineBy (phases_of options) lines still.1.0 u) same still.1.1),
      ),
    ),
  )

  module _ (plain : ArePlain options) (is : task_of options ≡ Phases) where
    module _ (moment : ℕ) (t v : Files) (may : MayRepeat (phases_of options) (run_lines options facts t)) (stop : HasStopped options facts moment t v) where
      stated : IsReread options facts moment t stop.steps × RecoversAnew options facts moment t stop.steps
      unfolding RecoversAnewIn
      stated = subst (λ (task : Task). RecoversAnewIn task options facts moment t stop.steps) is stop.anew

      kept_at : (n : ℕ) → run_lines options facts (after_all t (take n stop.steps) moment) ≡ run_lines options facts t
      kept_at n = lines_reread options facts t (after_all t (take n stop.steps) moment) (stated.0 n plain (leaves_input (phases_of options) (run_lines options facts t) may))

      lines_kept : run_lines options facts v ≡ run_lines options facts t
      lines_kept = ap (λ (w : Files). run_lines options facts w) stop.left ∙ kept_at stop.count

      one_recovered : IsCalm options facts t → IsCalm options facts v → (later : ℕ) → Same (phased options facts later v) (phased options facts moment t)
      one_recovered calm still later =
          subst (λ (w : Files). Same (phased options facts later w) (phased options facts moment t)) (sym stop.left)
          (stated.1 stop.count later plain
          (may_recover moment later t (after_all t (take stop.count stop.steps) moment) (kept_at stop.count) may calm (subst (IsCalm options facts) stop.left still)))

      -- a run needs no moment
      any_moment : IsCalm options facts t → (first : ℕ) → Same (phased options facts first t) (phased options facts moment t)
      any_moment calm first =
          let none = none_done t stop.steps moment in
          subst (λ (w : Files). Same (phased options facts first w) (phased options facts moment t)) none
          (stated.1 0 first plain (may_recover moment first t (after_all t (take 0 stop.steps) moment) (kept_at 0) may calm (subst (IsCalm options facts) (sym none) calm)))

    pub phases_recovered : (moments : List ℕ) (moment first later : ℕ) (t u : Files) → MayRepeat (phases_of options) (run_lines options facts t) → HaveStopped options facts (moment ∷ moments) t u → IsCalm options facts u
        → Same (phased options facts later u) (phased options facts first t)
    phases_recovered [] moment first later t u may (calm, (v, (stop, is_v))) still =
        subst (λ (w : Files). Same (phased options facts later w) (phased options facts first t)) (sym is_v) (λ q object_state.
        one_recovered moment t v may stop calm (subst (IsCalm options facts) is_v still) later q object_state ∙ sym (any_moment moment t v may stop calm first q object_state))
    phases_recovered (next ∷ moments) moment first later t u may (calm, (v, (stop, more))) still = λ q object_state.
        phases_recovered moments next next later v u (subst (MayRepeat (phases_of options)) (sym (lines_kept moment t v may stop)) may) more still q object_state
        ∙ one_recovered moment t v may stop calm more.0 next q object_state ∙ sym (any_moment moment t v may stop calm first q object_state)

-- ---- accounts, over trees

module _ (options : Options) (facts : Values) (plain : ArePlainRequests options) (is : task_of options ≡ Accounts) where
  -- what a run leaves that reads its lines of the tree
  abbrev left_at : ℕ → Files → Files
  left_at moment t = accounted (run_requests options facts t) moment t

  module _ (moment : ℕ) (t v : Files) (stop : HasStopped options facts moment t v) where
    ends_told : AreRequestsReread options facts moment t stop.steps × AccountsRecoverAnew options facts moment t stop.steps
    unfolding RecoversAnewIn
    ends_told = subst (λ (task : Task). RecoversAnewIn task options facts moment t stop.steps) is stop.anew

    one_alike : (later : ℕ) → EndAlike moment later (left_at moment t) (left_at later v)
    one_alike later = subst (λ (w : Files). EndAlike moment later (left_at moment t) (left_at later w)) (sym stop.left) (ends_told.1 stop.count later plain)

    none_alike : (first : ℕ) → EndAlike moment first (left_at moment t) (left_at first t)
    none_alike first = subst (λ (w : Files). EndAlike moment first (left_at moment t) (left_at first w)) (none_done t stop.steps moment) (ends_told.1 0 first plain)

  pub accounts_alike : (moments : List ℕ) (moment first later : ℕ) (t u : Files) → HaveStopped options facts (moment ∷ moments) t u
      → EndAlikeAfter first (later ∷ moment ∷ moments) (left_at first t) (left_at later u)
  accounts_alike [] moment first later t u (calm, (v, (stop, is_v))) =
      let one = one_alike moment t v stop later in
      let none = none_alike moment t v stop first in
      subst (λ (w : Files). EndAlikeAfter first (later ∷ moment ∷ []) (left_at first t) (left_at later w)) (sym is_v) (record {
        group = one.group ∙ sym none.group;
        gshadow = one.gshadow ∙ sym none.gshadow;
        passwd = one.passwd ∙ sym none.passwd;
        same = λ days q object_state. one.same (days.0 ∙ sym days.1.0) q object_state ∙ sym (none.same (sym days.1.0) q object_state);
      })
  accounts_alike (next ∷ moments) moment first later t u (calm, (v, (stop, more))) =
      let rest = accounts_alike moments next next later v u more in
      let one = one_alike moment t v stop next in
      let none = none_alike moment t v stop first in
      record {
        group = rest.group ∙ one.group ∙ sym none.group;
        gshadow = rest.gshadow ∙ one.gshadow ∙ sym none.gshadow;
        passwd = rest.passwd ∙ one.passwd ∙ sym none.passwd;
        same = λ days q object_state.
            let own : day_of next ≡ day_of first = days.1.1.0 in
            rest.same (days.0 ∙ sym own, all_map (λ m. day_of m ≡ day_of first) (λ m. day_of m ≡ day_of next) (λ m e. e ∙ sym own) (next ∷ moments) days.1.1) q object_state
            ∙ one.same (own ∙ sym days.1.0) q object_state ∙ sym (none.same (sym days.1.0) q object_state);
      }

-- ---- over bytes

-- neither the limit nor the moment of options counts
anew_unlimited : (task : Task) (options : Options) (facts : Values) (moment : ℕ) (t : Files) (steps : List Step) → RecoversAnewIn task options facts moment t steps → RecoversAnewIn task (unlimited options) facts moment t steps
unfolding RecoversAnewIn
anew_unlimited Phases options facts moment t steps h = h
anew_unlimited Report options facts moment t steps h = h
anew_unlimited Explain options facts moment t steps h = h
anew_unlimited Accounts options facts moment t steps h = h

final_unlimited : (task : Task) (options : Options) (facts : Values) (moment : ℕ) (t : Files) → final_by task options facts moment t ≡ final_by task (unlimited options) facts moment t
unfolding final_by
final_unlimited Phases options facts moment t = refl
final_unlimited Report options facts moment t = refl
final_unlimited Explain options facts moment t = refl
final_unlimited Accounts options facts moment t = refl

-- a run that was broken off, by options that are these except for the limit and the moment
pub broken_by : (options own : Options) → unlimited own ≡ unlimited options → (facts : Values) (moment : ℕ) (t left : Files)
    → HasLeft own facts moment t left → HasStopped (unlimited options) facts moment t left
broken_by options own alike facts moment t left gone = record {
  steps = gone.steps;
  anew = subst (λ (o : Options). RecoversAnewIn (task_of o) o facts moment t gone.steps) alike
      (anew_unlimited (task_of own) own facts moment t gone.steps gone.anew);
  count = length gone.steps;
  left = gone.reached ∙ ap (λ (steps : List Step). after_all t steps moment) (sym (take-length gone.steps));
}

-- and after any number of its steps
pub broken_at : (options own : Options) → unlimited own ≡ unlimited options → (facts : Values) (moment : ℕ) (t left : Files)
    → (gone : HasLeft own facts moment t left) (n : ℕ) → HasStopped (unlimited options) facts moment t (after_all t (take n gone.steps) moment)
broken_at options own alike facts moment t left gone n = record {
  steps = gone.steps;
  anew = subst (λ (o : Options). RecoversAnewIn (task_of o) o facts moment t gone.steps) alike
      (anew_unlimited (task_of own) own facts moment t gone.steps gone.anew);
  count = n;
  left = refl;
}

-- one that was stopped
pub stopped_by : (options own : Options) → unlimited own ≡ unlimited options → (facts : Values) (moment : ℕ) (t : Files) (n : ℕ) (messages : List (List ℕ)) (left : Files)
    → IsStopped own facts moment t n messages left → HasStopped (unlimited options) facts moment t left
stopped_by options own alike facts moment t n messages left stopped = broken_by options own alike facts moment t left stopped.cut.gone

-- a run that was not stopped
whole_of : (options : Options) (facts : Values) (moment : ℕ) (t : Files) (e : RunEnd) (messages : List (List ℕ)) (left : Files)
    → HasRun options facts moment t (outcome_of e) messages left → IsWhole options facts moment t (outcome_of e) messages left
whole_of options facts moment t end.Done messages left h = h
whole_of options facts moment t end.ConfigInvalid messages left h = h
whole_of options facts moment t end.NotCarriedOut messages left h = h
whole_of options facts moment t (end.NoFreeId name) messages left h = h

-- and the tree that it leaves
pub left_by : (options own : Options) → unlimited own ≡ unlimited options → (facts : Values) (moment : ℕ) (t : Files) (e : RunEnd) (messages : List (List ℕ)) (left : Files)
    → HasRun own facts moment t (outcome_of e) messages left → left ≡ final (unlimited options) facts moment t
left_by options own alike facts moment t e messages left run =
    (whole_of own facts moment t e messages left run).final_is
    ∙ final_unlimited (task_of own) own facts moment t
    ∙ ap (λ (o : Options). final o facts moment t) alike

module _ (options : Options) where
  -- a run of a tree and its facts, whose image the input is
  module _ (input : List ℕ) (facts : Values) (t : Files) (image : IsImage input facts t) (moment : ℕ) where
    -- one that was stopped has left a tree of which its output is an image
    module _ (out : List ℕ) (over : HasStoppedOver options moment input out) where
      stopped_run : IsRun over.like.own over.clock_micros input (Stopped over.count) out
      stopped_run = subst (λ (o : Option Invocation). HasOutputBy o over.clock_micros input (Stopped over.count) out) over.like.meaning over.output.1

      answered_here : IsAnswered over.like.own facts moment t (Stopped over.count) out
      answered_here =
          let same = one_image input stopped_run.facts facts stopped_run.tree t stopped_run.image image in
          subst (λ (m : ℕ). IsAnswered over.like.own facts m t (Stopped over.count) out) (sym over.like.when)
          (subst (λ (s : Files). IsAnswered over.like.own facts (moment_of over.like.own over.clock_micros) s (Stopped over.count) out) same.1
          (subst (λ (f : Values). IsAnswered over.like.own f (moment_of over.like.own over.clock_micros) stopped_run.tree (Stopped over.count) out) same.0 stopped_run.answered))

      has_stopped : (v : Files) × (IsImage out facts v × HasStopped (unlimited options) facts moment t v)
      has_stopped = (
        answered_here.left,
        (answered_here.again, stopped_by options over.like.own over.like.alike facts moment t over.count answered_here.messages answered_here.left answered_here.run),
      )

    -- the output of one that was not stopped is an image of the tree that a complete run leaves
    ended_image : (out : List ℕ) → HasEndedOver options moment input out → IsImage out facts (final (unlimited options) facts moment t)
    ended_image out over =
        subst (λ (v : Files). IsImage out facts v) (left_by options over.like.own over.like.alike facts moment t over.end here.messages here.left here.run) here.again
      where
        run_of : (e : RunEnd) → IsAnswer over.like.own over.clock_micros input (outcome_of e) out → IsRun over.like.own over.clock_micros input (outcome_of e) out
        run_of end.Done h = h
        run_of end.ConfigInvalid h = h
        run_of end.NotCarriedOut h = h
        run_of (end.NoFreeId name) h = h

        run : IsRun over.like.own over.clock_micros input (outcome_of over.end) out
        run = run_of over.end (subst (λ (o : Option Invocation). HasOutputBy o over.clock_micros input (outcome_of over.end) out) over.like.meaning over.output.1)

        here : IsAnswered over.like.own facts moment t (outcome_of over.end) out
        here =
            let same = one_image input run.facts facts run.tree t run.image image in
            subst (λ (m : ℕ). IsAnswered over.like.own facts m t (outcome_of over.end) out) (sym over.like.when)
            (subst (λ (s : Files). IsAnswered over.like.own facts (moment_of over.like.own over.clock_micros) s (outcome_of over.end) out) same.1
            (subst (λ (f : Values). IsAnswered over.like.own f (moment_of over.like.own over.clock_micros) run.tree (outcome_of over.end) out) same.0 run.answered))

  have_stopped : (moments : List ℕ) (input last : List ℕ) (facts : Values) (t : Files) → IsImage input facts t → HaveStoppedOver options moments input last
      → (u : Files) × (IsImage last facts u × HaveStopped (unlimited options) facts moments t u)
  have_stopped [] input last facts t image is_input = (t, (subst (λ (bytes : List ℕ). IsImage bytes facts t) (sym is_input) image, refl))
  have_stopped (moment ∷ moments) input last facts t image (calm, (out, (over, more))) =
      let stop = has_stopped input facts t image moment out over in
      let rest = have_stopped moments out last facts stop.0 stop.1.0 more in
      (rest.0, (rest.1.0, (calm facts t image, (stop.0, (stop.1.1, rest.1.1)))))

  module _ (moments : List ℕ) (moment first later : ℕ) (input last out again : List ℕ) (facts : Values) (t : Files) (image : IsImage input facts t)
      (runs : HaveStoppedOver options (moment ∷ moments) input last) (whole : HasEndedOver options first input out) (second : HasEndedOver options later last again) where
    abbrev chain : (u : Files) × (IsImage last facts u × HaveStopped (unlimited options) facts (moment ∷ moments) t u)
    chain = have_stopped (moment ∷ moments) input last facts t image runs

    both_images : (Holds : Files → Files → Type 0) → Holds (final (unlimited options) facts first t) (final (unlimited options) facts later chain.0) → AreImages Holds out again
    both_images Holds holds = record {
      facts = facts;
      tree = final (unlimited options) facts first t;
      other = final (unlimited options) facts later chain.0;
      one = ended_image input facts t image first out whole;
      two = ended_image last facts chain.0 chain.1.0 later again second;
      holds = holds;
    }

    pub phases_over : task_of options ≡ Phases → ArePlain options → MayRepeat (phases_of options) (run_lines options facts t) → IsCalmOver options last
        → AreImages (λ one two. Same two one) out again
    unfolding final_by
    phases_over is plain may calm = both_images (λ one two. Same two one)
        (subst (λ (task : Task). Same (final_by task (unlimited options) facts later chain.0) (final_by task (unlimited options) facts first t)) (sym is)
        (phases_recovered (unlimited options) facts plain is moments moment first later t chain.0 may chain.1.1 (calm facts chain.0 chain.1.0)))

    pub accounts_over : task_of options ≡ Accounts → ArePlainRequests options → AreImages (EndAlikeAfter first (later ∷ moment ∷ moments)) out again
    unfolding final_by
    accounts_over is plain = both_images (EndAlikeAfter first (later ∷ moment ∷ moments))
        (subst (λ (task : Task). EndAlikeAfter first (later ∷ moment ∷ moments) (final_by task (unlimited options) facts first t) (final_by task (unlimited options) facts later chain.0)) (sym is)
        (accounts_alike (unlimited options) facts plain is moments moment first later t chain.0 chain.1.1))

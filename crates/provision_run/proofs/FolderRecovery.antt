-- Runs on a folder that were broken off, one or more, each on what the last one left there, recover by a complete run.
use Rattle.std.specs.Prelude.{◌≡◌, ℕ, List, [], ◌∷◌, Some, None}
use Rattle.std.proofs.Common.{refl, sym, ap, subst, ◌∙◌}
use Rattle.pv_folder.proofs.OpeningLaws.{reopened}
use Rattle.pv_folder.specs.Folders.{real_in}
use Rattle.pv_folder.specs.Manifest.{manifest_of}
use Rattle.pv_folder.specs.Merge.{merged}
use Rattle.pv_folder.specs.Opening.{IsOpened, Says, absent, present}
use Rattle.pv_folder.specs.Content.{Content, Held, held, spelled}
use Rattle.pv_folder.specs.Content as host
use Rattle.pv_image.proofs.ImageLaws.{one_image}
use Rattle.pv_image.specs.Emptied.{with_empty_files}
use Rattle.pv_image.specs.Images.{IsImage}
use Rattle.pv_path.specs.Paths.{Path}
use Rattle.provision_run.specs.Phases.{phases_of}
use Rattle.pv_steps.specs.Same.{Same}
use Rattle.pv_steps.specs.Trees.{Files}
use Rattle.pv_text.specs.Facts.{Values}
use Rattle.pv_words.specs.declared.options.Options.{Options}
use Rattle.provision_run.specs.declared.task.Task.{Task}
use Rattle.provision_run.specs.declared.task.Task.TheVariants.{Accounts, Phases}
use Rattle.provision_run.specs.FolderStops.{AreFolders, HasEndedOn, HasStoppedOn, HaveStoppedOn, IsCalmOn, WasBrokenOff, failed, short, stopped}
use Rattle.provision_run.specs.OnFolder.{IsKept, IsSameBeside}
use Rattle.provision_run.specs.OverTree.{HasLeft, HasRun, outcome_of}
use Rattle.provision_run.specs.Phased.{run_lines}
use Rattle.provision_run.specs.Rereading.{ArePlain, ArePlainRequests, MayRepeat}
use Rattle.provision_run.specs.Stops.{EndAlikeAfter, HasStopped, HaveStopped, unlimited}
use Rattle.provision_run.specs.Tasks.{task_of}
use Rattle.provision_run.specs.Whole.{final, final_by}
use Rattle.provision_run.specs.Words.{moment_of}
use Rattle.provision_run.proofs.StopsLaws.{accounts_alike, broken_by, left_by, phases_recovered}

-- ---- a folder is opened in one way

says_once : (folder : Path) (c : Content) (f g : Values) (t u : Files) → Says folder c f t → Says folder c g u → (f ≡ g) × (t ≡ u)
says_once folder c f g t u (absent a f_is t_is) (absent b g_is u_is) = (f_is ∙ sym g_is, t_is ∙ sym u_is)
says_once folder c f g t u (absent a f_is t_is) (present y b two) = absurd (let no : None ≡ Some (host.File y) = sym a ∙ b in cc)
says_once folder c f g t u (present x a one) (absent b g_is u_is) = absurd (let no : None ≡ Some (host.File x) = sym b ∙ a in cc)
says_once folder c f g t u (present x a one) (present y b two) =
    let same : Some (host.File x) ≡ Some (host.File y) = sym a ∙ b in
    let bytes : x ≡ y = cc in
    one_image y f g t u (subst (λ (bytes : List ℕ). IsImage bytes f t) bytes one) two

-- it is opened with no other facts and no other tree
abbrev pub OpensWith : Path → Content → Values → Files → Type 0
OpensWith folder c facts t = (f : Values) (u : Files) → IsOpened folder c f u → (f ≡ facts) × (u ≡ t)

module _ (folder : Path) (c : Content) (facts : Values) (t : Files) where
  same_opened : (manifest : Files) → Says folder c facts manifest → t ≡ merged manifest (real_in folder c) → OpensWith folder c facts t
  same_opened manifest says is f u other =
      let same = says_once folder c f facts other.manifest manifest other.says says in
      (same.0, other.is_merged ∙ ap (λ (m : Files). merged m (real_in folder c)) same.1 ∙ sym is)

  pub opened_once : IsOpened folder c facts t → OpensWith folder c facts t
  opened_once opened = same_opened opened.manifest opened.says opened.is_merged

  -- one in which a tree is kept is opened with this tree
  kept_opens : (old : Held) → IsKept folder facts t old (held c) → OpensWith folder c facts t
  kept_opens old kept =
      same_opened (with_empty_files t) (present (manifest_of facts t) kept.manifest kept.image) (sym (reopened folder c t kept.image.fit.tree kept.agrees))

pub kept_from : (folder : Path) (facts : Values) (t : Files) (old mid new : Held) → IsSameBeside folder old mid → IsKept folder facts t mid new → IsKept folder facts t old new
kept_from folder facts t old mid new same kept = record {
  agrees = kept.agrees;
  manifest = kept.manifest;
  image = kept.image;
  outside = λ path out no no_new. kept.outside path out no no_new ∙ same path out no no_new;
}

-- ---- runs on a folder

-- what a run that was broken off has left, by steps of it, and that it is kept
record HasGoneOn (folder : Path) (options : Options) (moment : ℕ) (old new : Content) : Type 0 where
  facts : Values
  tree : Files
  left : Files
  opened : IsOpened folder old facts tree
  gone : HasLeft options facts moment tree left
  kept : IsKept folder facts left (held old) (held new)

gone_on : (folder : Path) (options : Options) (clock_micros : ℕ) (old new : Content) → WasBrokenOff folder options clock_micros old new → HasGoneOn folder options (moment_of options clock_micros) old new
gone_on folder options clock_micros old new (stopped count messages run) =
    record { facts = run.facts; tree = run.tree; left = run.left; opened = run.opened.1; gone = run.run.cut.gone; kept = run.kept }
gone_on folder options clock_micros old new (failed messages cut) =
    record { facts = cut.facts; tree = cut.tree; left = cut.left; opened = cut.opened.1; gone = cut.run.1.1.gone; kept = cut.kept }
gone_on folder options clock_micros old new (short facts tree left opened gone kept) =
    record { facts = facts; tree = tree; left = left; opened = opened; gone = gone; kept = kept }

-- what runs that were broken off have left: a tree with which the folder is opened, and all else as it was
record HasCome (options : Options) (folder : Path) (facts : Values) (moments : List ℕ) (t : Files) (old last : Content) : Type 0 where
  left : Files
  runs : HaveStopped (unlimited options) facts moments t left
  opens : OpensWith folder last facts left
  outside : IsSameBeside folder (held old) (held last)

module _ (options : Options) (folder : Path) where
  module _ (facts : Values) (t : Files) (old new : Content) (opens : OpensWith folder old facts t) (moment : ℕ) where
    -- one that was broken off
    module _ (stop : HasStoppedOn options folder moment old new) where
      abbrev there : HasGoneOn (spelled stop.like.own.folder) stop.like.own.options (moment_of stop.like.own.options stop.clock_micros) old new
      there = gone_on (spelled stop.like.own.folder) stop.like.own.options stop.clock_micros old new stop.broken

      opened_there : IsOpened folder old there.facts there.tree
      opened_there = subst (λ (f : Path). IsOpened f old there.facts there.tree) stop.like.named there.opened

      abbrev same_there : (there.facts ≡ facts) × (there.tree ≡ t)
      same_there = opens there.facts there.tree opened_there

      opened_here : IsOpened folder old facts t
      opened_here =
          subst (λ (s : Files). IsOpened folder old facts s) same_there.1
          (subst (λ (f : Values). IsOpened folder old f there.tree) same_there.0 opened_there)

      left_here : HasLeft stop.like.own.options facts moment t there.left
      left_here =
          subst (λ (m : ℕ). HasLeft stop.like.own.options facts m t there.left) (sym stop.like.when)
          (subst (λ (s : Files). HasLeft stop.like.own.options facts (moment_of stop.like.own.options stop.clock_micros) s there.left) same_there.1
          (subst (λ (f : Values). HasLeft stop.like.own.options f (moment_of stop.like.own.options stop.clock_micros) there.tree there.left) same_there.0 there.gone))

      has_stopped : HasStopped (unlimited options) facts moment t there.left
      has_stopped = broken_by options stop.like.own.options stop.like.alike facts moment t there.left left_here

      kept_here : IsKept folder facts there.left (held old) (held new)
      kept_here =
          subst (λ (f : Values). IsKept folder f there.left (held old) (held new)) same_there.0
          (subst (λ (p : Path). IsKept p there.facts there.left (held old) (held new)) stop.like.named there.kept)

      then_opens : OpensWith folder new facts there.left
      then_opens = kept_opens folder new facts there.left (held old) kept_here

    -- one that was not stopped
    module _ (whole : HasEndedOn options folder moment old new) where
      pub whole_opened : IsOpened folder old whole.run.facts whole.run.tree
      whole_opened = subst (λ (f : Path). IsOpened f old whole.run.facts whole.run.tree) whole.like.named whole.run.opened.1

      abbrev pub whole_same : (whole.run.facts ≡ facts) × (whole.run.tree ≡ t)
      whole_same = opens whole.run.facts whole.run.tree whole_opened

      opened_for : IsOpened folder old facts t
      opened_for =
          subst (λ (s : Files). IsOpened folder old facts s) whole_same.1
          (subst (λ (f : Values). IsOpened folder old f whole.run.tree) whole_same.0 whole_opened)

      whole_run : HasRun whole.like.own.options facts moment t (outcome_of whole.end) whole.messages whole.run.left
      whole_run =
          subst (λ (m : ℕ). HasRun whole.like.own.options facts m t (outcome_of whole.end) whole.messages whole.run.left) (sym whole.like.when)
          (subst (λ (s : Files). HasRun whole.like.own.options facts (moment_of whole.like.own.options whole.clock_micros) s (outcome_of whole.end) whole.messages whole.run.left) whole_same.1
          (subst (λ (f : Values). HasRun whole.like.own.options f (moment_of whole.like.own.options whole.clock_micros) whole.run.tree (outcome_of whole.end) whole.messages whole.run.left) whole_same.0 whole.run.run))

      pub whole_kept : IsKept folder facts (final (unlimited options) facts moment t) (held old) (held new)
      whole_kept =
          subst (λ (left : Files). IsKept folder facts left (held old) (held new))
          (left_by options whole.like.own.options whole.like.alike facts moment t whole.end whole.messages whole.run.left whole_run)
          (subst (λ (f : Values). IsKept folder f whole.run.left (held old) (held new)) whole_same.0
          (subst (λ (p : Path). IsKept p whole.run.facts whole.run.left (held old) (held new)) whole.like.named whole.run.kept))

  have_come : (moments : List ℕ) (facts : Values) (t : Files) (old last : Content) → OpensWith folder old facts t → HaveStoppedOn options folder moments old last
      → HasCome options folder facts moments t old last
  have_come [] facts t old last opens is = record {
    left = t;
    runs = refl;
    opens = subst (λ (c : Content). OpensWith folder c facts t) (sym is) opens;
    outside = λ path out no no_new. ap (λ (c : Content). held c path) is;
  }
  have_come (moment ∷ moments) facts t old last opens (calm, (next, (stop, more))) =
      let kept = kept_here facts t old next opens moment stop in
      let left = (there facts t old next opens moment stop).left in
      let rest = have_come moments facts left next last (then_opens facts t old next opens moment stop) more in
      record {
        left = rest.left;
        runs = (calm facts t (opened_here facts t old next opens moment stop), (left, (has_stopped facts t old next opens moment stop, rest.runs)));
        opens = rest.opens;
        outside = λ path out no no_new. rest.outside path out no no_new ∙ kept.outside path out no no_new;
      }

  module _ (moments : List ℕ) (moment first later : ℕ) (old last one again : Content) (facts : Values) (t : Files) (opened : IsOpened folder old facts t)
      (runs : HaveStoppedOn options folder (moment ∷ moments) old last) (whole : HasEndedOn options folder first old one) (second : HasEndedOn options folder later last again) where
    abbrev come : HasCome options folder facts (moment ∷ moments) t old last
    come = have_come (moment ∷ moments) facts t old last (opened_once folder old facts t opened) runs

    both_folders : (Holds : Files → Files → Type 0) → Holds (final (unlimited options) facts first t) (final (unlimited options) facts later come.left)
        → AreFolders Holds folder old one again
    both_folders Holds holds = record {
      facts = facts;
      tree = final (unlimited options) facts first t;
      other = final (unlimited options) facts later come.left;
      first = whole_kept facts t old one (opened_once folder old facts t opened) first whole;
      second = kept_from folder facts (final (unlimited options) facts later come.left) (held old) (held last) (held again) come.outside
          (whole_kept facts come.left last again come.opens later second);
      holds = holds;
    }

    pub phases_on : task_of options ≡ Phases → ArePlain options → MayRepeat (phases_of options) (run_lines options facts t) → IsCalmOn options folder last
        → AreFolders (λ one two. Same two one) folder old one again
    unfolding final_by
    phases_on is plain may calm = both_folders (λ one two. Same two one)
        (subst (λ (task : Task). Same (final_by task (unlimited options) facts later come.left) (final_by task (unlimited options) facts first t)) (sym is)
        (phases_recovered (unlimited options) facts plain is moments moment first later t come.left may come.runs
        (calm facts come.left (opened_for facts come.left last again come.opens later second))))

    pub accounts_on : task_of options ≡ Accounts → ArePlainRequests options → AreFolders (EndAlikeAfter first (later ∷ moment ∷ moments)) folder old one again
    unfolding final_by
    accounts_on is plain = both_folders (EndAlikeAfter first (later ∷ moment ∷ moments))
        (subst (λ (task : Task). EndAlikeAfter first (later ∷ moment ∷ moments) (final_by task (unlimited options) facts first t) (final_by task (unlimited options) facts later come.left)) (sym is)
        (accounts_alike (unlimited options) facts plain is moments moment first later t come.left come.runs))

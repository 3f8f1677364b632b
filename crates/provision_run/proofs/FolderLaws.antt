-- From a run over the tree of a folder to what belongs to the folder.
use Rattle.std.specs.Prelude.{◌≡◌, ◌≤◌, ◌<◌, ◌+◌, ◌⊎◌, min, ℕ, true, false, List, [], ◌∷◌, ◌++◌, map, take, Option, Some, None, Result, Ok, Err, IfOk, IfSome, IsErrOf, OnErr, OnOk, Bool}
use Rattle.std.specs.Io.KnownBytes.{Appends}
use Rattle.std.specs.Option.{option_to_list}
use Rattle.std.proofs.Common.{arith, inl, inr, refl, sym, ap, subst, ◌∙◌}
use Rattle.std.proofs.Math.Nat.{eq-or-lt_of_le, min-le_right}
use Rattle.pv_io.specs.Faults.{HasRisen, fault_after, last_count}
use Rattle.pv_io.specs.Transfers.{AppendsPrefix}
use Rattle.pv_path.specs.Paths.{Path}
use Rattle.pv_steps.specs.declared.tree.TreeFault.{TreeFault}
use Rattle.pv_steps.specs.declared.tree.TreeFault.TheVariants as step
use Rattle.pv_steps.specs.declared.step.Step.{Step}
use Rattle.pv_steps.specs.Runs.{after_all}
use Rattle.pv_steps.specs.Steps.{Can}
use Rattle.pv_steps.specs.Trees.{Files, places}
use Rattle.pv_steps.specs.Counting.{faults_after, refused}
use Rattle.pv_text.specs.Facts.{Values}
use Rattle.pv_words.specs.declared.options.Options.{Options}
use Rattle.pv_folder.specs.Content.{Change, Content, File, IsContent, held}
use Rattle.pv_folder.specs.declared.host.HostFault.{HostFault}
use Rattle.pv_folder.specs.declared.host.HostFault.TheVariants as host
use Rattle.pv_folder.specs.Counts.{count_after}
use Rattle.pv_folder.specs.Folders.{Agrees, manifest_path, tree_path}
use Rattle.pv_folder.specs.Keeping.{FolderState, HasAsked, IsAtMostAhead, IsClosed, IsSameButNew, Keeps, Moves, all_made, at_rest, change_for, changes_for, level, one_more}
use Rattle.pv_folder.specs.Made.{HasMade, made_on}
use Rattle.pv_folder.specs.Manifest.{IsManifest, manifest_of}
use Rattle.pv_folder.specs.Moments.{changes_of, closing as closing_changes}
use Rattle.pv_folder.specs.Opening.{IsOpened, IsRefused, is_outer}
use Rattle.pv_folder.specs.declared.open_fault.OpenFault.{OpenFault}
use Rattle.pv_folder.proofs.KeepingLaws.{opened_keeps}
use Rattle.pv_folder.proofs.MadeLaws.{changes_at_once, changes_one_more}
use Rattle.provision_run.specs.declared.answer.Answer.{Answer}
use Rattle.provision_run.specs.declared.outcome.Outcome.{Outcome}
use Rattle.provision_run.specs.declared.outcome.Outcome.TheVariants.{Done, ConfigInvalid, NotCarriedOut, Usage, BadImage, NoFreeId, Memory, ReadFault, WriteFault, Stopped, BadFolder, FolderFailed}
use Rattle.provision_run.specs.Messages.{messages_text}
use Rattle.provision_run.specs.OnFolder.{AreAsked, EndsAs, HasAskedFor, HasRunOn, HostState, IfKnown, IsFailedOn, IsShortOn, IsUnclosed, all_done, as_run, one_step_more, step_failed, step_and_keeping_failed, keeping_failed, bad_folder_text, before_steps, in_opening, in_run, in_step, in_step_and_keeping, in_keeping, HasOutputOn, HasWrittenOn, IsAnswerOn, IsKept, WasOpened}
use Rattle.provision_run.specs.OverTree.{HasFailedBy, HasLeftBy, HasRunBy, gone_before, gone_of}
use Rattle.provision_run.specs.Words.{moment_of}
use Rattle.provision_run.proofs.AnswerLaws.{ends, IsEnd, refused_risen}
use Rattle.provision_run.proofs.ClosedLaws.{has_closed, kept_in, kept_short, short_in, unclosed_in, unclosed_is_short}

-- a folder that is opened keeps its tree
pub keeps_opened : (folder : Path) (content : Option Content) (facts : Values) (tree : Files) → IfSome content (λ c. IsOpened folder c facts tree)
    → IfSome content (λ c. IsContent (held c)) → IfSome content (λ c. Keeps folder tree c)
keeps_opened folder (Some c) facts tree opened is_content = opened_keeps folder c facts tree opened is_content
keeps_opened folder None facts tree opened is_content = tt

-- also where it is told by another name, and after it was read
pub keeps_after : (given folder : Path) (old new : Option Content) (facts : Values) (tree : Files) → given ≡ folder → new ≡ old → IfSome old (λ c. IsOpened given c facts tree)
    → IfSome old (λ c. IsContent (held c)) → IfSome new (λ c. Keeps folder tree c)
keeps_after given folder old new facts tree at kept opened is_content =
    subst (λ (o : Option Content). IfSome o (λ c. Keeps folder tree c)) (sym kept)
    (subst (λ (p : Path). IfSome old (λ c. Keeps p tree c)) at (keeps_opened given old facts tree opened is_content))

-- ---- a host that failed

-- a fault that was counted after others
risen_by_fault : (old mid new : ℕ) → old ≤ mid → new ≡ fault_after mid → HasRisen old new
risen_by_fault old mid new up is = by (eq-or-lt_of_le (min-le_right (mid + 1) last_count))
  where
    by : (min (mid + 1) last_count ≡ last_count) ⊎ (min (mid + 1) last_count < last_count) → HasRisen old new
    by (inl last) = inr (is ∙ last)
    by (inr less) = inl (let at : new ≡ min (mid + 1) last_count = is in omega (arith, up, at, less))

-- a count that had risen before a manifest was written has risen then
risen_closing : (closed : Result (Unit {0}) HostFault) (old mid new : ℕ) → HasRisen old mid → mid ≤ new → new ≡ count_after closed mid → HasRisen old new
risen_closing closed old mid new (inl h) up is = inl (omega (arith, h, up))
risen_closing (Ok u) old mid new (inr h) up is = inr (is ∙ h)
risen_closing (Err host.Failed) old mid new (inr h) up is =
    inr (let at : new ≡ min (mid + 1) last_count = is in let same : mid ≡ last_count = h in omega (arith, at, same))
risen_closing (Err host.Memory) old mid new (inr h) up is = inr (is ∙ h)

-- a count that rose after others
risen_from : (old mid new : ℕ) → old ≤ mid → HasRisen mid new → HasRisen old new
risen_from old mid new up (inl h) = inl (omega (arith, up, h))
risen_from old mid new up (inr h) = inr h

fault_after_le : (old mid : ℕ) → old ≤ mid → fault_after old ≤ fault_after mid
fault_after_le old mid up = let stated : min (old + 1) last_count ≤ min (mid + 1) last_count = omega (arith, up) in stated

-- ---- how it ends

-- by how the run over its tree ended
module _ (pending : Bool) (closed : Result (Unit {0}) HostFault) where
  abbrev IsKeptAs : Outcome → Outcome → Type 0
  IsKeptAs outcome found = ((closed ≡ Ok tt) × (found ≡ outcome)) ⊎ ((closed ≡ Err host.Failed) × (found ≡ FolderFailed))

  pub ends_run : (ran : Result Outcome TreeFault) (outcome : Outcome) → ran ≡ Ok outcome → {E : Type 0} (r : Result Outcome E) → IfOk r (λ _. pending ≡ false)
      → IfOk r (λ found. IsKeptAs outcome found) → IfOk r (EndsAs ran pending closed)
  ends_run ran outcome is (Ok found) still (inl (closing, same)) = subst (EndsAs ran pending closed) (sym same) (as_run outcome is still closing)
  ends_run ran outcome is (Ok found) still (inr (closing, same)) = subst (EndsAs ran pending closed) (sym same) (keeping_failed outcome is still closing)
  ends_run ran outcome is (Err f) still kept = tt

  pub ends_failed : (ran : Result Outcome TreeFault) → ran ≡ Err step.Failed → {E : Type 0} (r : Result Outcome E) → IfOk r (λ _. pending ≡ false)
      → IfOk r (λ found. IsKeptAs FolderFailed found) → IfOk r (EndsAs ran pending closed)
  ends_failed ran is (Ok found) still (inl (closing, same)) = subst (EndsAs ran pending closed) (sym same) (step_failed is still closing)
  ends_failed ran is (Ok found) still (inr (closing, same)) = subst (EndsAs ran pending closed) (sym same) (step_and_keeping_failed is still closing)
  ends_failed ran is (Err f) still kept = tt

-- nothing comes of a run that is half done
pub ends_short : {E : Type 0} (r : Result Outcome E) (P : Outcome → Type 0) → IfOk r (λ _. true ≡ false) → IfOk r P
ends_short (Ok found) P never = absurd (let wrong : true ≡ false = never in cc)
ends_short (Err f) P never = tt

-- ---- what belongs to an outcome

-- what a host tells
abbrev pub told : {H : Type 0} → (H → Option Content) → (H → Option (List Change)) → (H → ℕ) → H → HostState
told content changes faults h = record { content = content h; changes = changes h; faults = faults h }

module _ (folder : Path) (options : Options) (clock_micros : ℕ) (old new : HostState) where
  abbrev RunOn : Outcome → List (List ℕ) → Type 0
  RunOn found messages = HasRunOn folder options clock_micros old new found messages

  -- a run ends as a run does
  run_on : (found : Outcome) (messages : List (List ℕ)) → RunOn found messages → IsAnswerOn folder options clock_micros old new found messages
  run_on Done messages h = h
  run_on ConfigInvalid messages h = h
  run_on NotCarriedOut messages h = h
  run_on Usage messages h = h
  run_on (BadImage f) messages h = h
  run_on (NoFreeId name) messages h = h
  run_on Memory messages h = h
  run_on ReadFault messages h = h
  run_on WriteFault messages h = h
  run_on (Stopped n) messages h = h
  run_on (BadFolder f) messages h = absurd (subst IsEnd (sym h.run.run.end) (ends _))
  run_on FolderFailed messages h = absurd (subst IsEnd (sym h.run.run.end) (ends _))

  -- an answer whose messages memory was too little for
  short_run : (found : Outcome) (messages : List (List ℕ)) → RunOn found messages → IsShortOn folder options clock_micros old new
  short_run found messages h =
      let run = h.run in
      let gone = gone_of options run.facts (moment_of options clock_micros) run.tree found messages run.left run.run in
      in_run run.facts run.tree run.left run.opened gone (kept_short folder run.facts run.left old.content new.content run.kept) gone.steps (all_done refl) 2 h.asked

  short_failed : (messages : List (List ℕ)) → IsFailedOn folder options clock_micros old new messages → IsShortOn folder options clock_micros old new
  short_failed messages (in_opening none same still) = before_steps same still
  short_failed messages (in_step cut asked) =
      let gone = gone_before options cut.facts (moment_of options clock_micros) cut.tree messages cut.left cut.run in
      in_run cut.facts cut.tree cut.left cut.opened gone (kept_short folder cut.facts cut.left old.content new.content cut.kept) gone.steps (all_done refl) 2 asked
  short_failed messages (in_step_and_keeping facts tree left opened run again kept k few asked) =
      let gone = gone_before options facts (moment_of options clock_micros) tree messages left run in
      in_run facts tree left opened gone (unclosed_is_short folder facts left old.content new.content kept) gone.steps (all_done refl) k asked
  short_failed messages (in_keeping facts tree left found opened run kept k few asked) =
      let gone = gone_of options facts (moment_of options clock_micros) tree found messages left run in
      in_run facts tree left opened gone (unclosed_is_short folder facts left old.content new.content kept) gone.steps (all_done refl) k asked

  pub short_answer : (found : Outcome) (messages : List (List ℕ)) → IsAnswerOn folder options clock_micros old new found messages → IsShortOn folder options clock_micros old new
  short_answer Done messages h = short_run Done messages h
  short_answer ConfigInvalid messages h = short_run ConfigInvalid messages h
  short_answer NotCarriedOut messages h = short_run NotCarriedOut messages h
  short_answer Usage messages h = short_run Usage messages h
  short_answer (BadImage f) messages h = short_run (BadImage f) messages h
  short_answer (NoFreeId name) messages h = short_run (NoFreeId name) messages h
  short_answer Memory messages h = short_run Memory messages h
  short_answer ReadFault messages h = short_run ReadFault messages h
  short_answer WriteFault messages h = short_run WriteFault messages h
  short_answer (Stopped n) messages h = short_run (Stopped n) messages h
  short_answer (BadFolder f) messages h = before_steps h.kept h.unasked
  short_answer FolderFailed messages h = short_failed messages h.1

  -- a run over the tree of a folder at its moment, which moved the tree in its folder, and what was kept of it then
  module _ (facts : Values) (tree left : Files) (moment : ℕ) (ran : Result Outcome TreeFault) (pending : Bool) (closed : Result (Unit {0}) HostFault) (messages : List (List ℕ))
      (other : Path) (mid : Option Content) (middle : Option (List Change)) (between : ℕ) (was will : Bool) (before after : List Step)
      (start : before ≡ [])
      (at : moment ≡ moment_of options clock_micros)
      (opened : WasOpened folder old.content facts tree)
      (run : IfOk ran (λ found. HasRunBy options facts moment tree found messages left after))
      (failed : IsErrOf ran step.Failed → HasFailedBy options facts moment tree messages left after)
      (gone : HasLeftBy options facts moment tree left after)
      (counted : between ≡ faults_after (refused ran) old.faults)
      (settled : was ≡ false)
      (moves : Moves (record { folder = folder; files = tree; steps = before; content = old.content; changes = old.changes; faults = old.faults; pending = was })
      (record { folder = other; files = left; steps = after; content = mid; changes = middle; faults = between; pending = will }))
      (is_pending : pending ≡ will)
      (agrees : pending ≡ false → IfSome mid (λ c. Agrees other left (held c)))
      (done : OnOk closed (IsClosed other facts left mid new.content))
      (image : OnOk closed (IsManifest facts left))
      (kept : OnErr closed (IsSameButNew other mid new.content))
      (asked : OnOk closed (HasMade (closing_changes other (manifest_of facts left)) mid new.content middle new.changes))
      (part : OnErr closed ((k : ℕ) × ((k ≤ 1) × HasMade (take k (closing_changes other (manifest_of facts left))) mid new.content middle new.changes)))
      (more : between ≤ new.faults)
      (closing : new.faults ≡ count_after closed between) where
    run_as : (found : Outcome) → ran ≡ Ok found → HasRunBy options facts (moment_of options clock_micros) tree found messages left after
    run_as found is = subst (λ (m : ℕ). HasRunBy options facts m tree found messages left after) at (subst (λ r. IfOk r (λ f. HasRunBy options facts moment tree f messages left after)) is run)

    failed_as : ran ≡ Err step.Failed → HasFailedBy options facts (moment_of options clock_micros) tree messages left after
    failed_as is = subst (λ (m : ℕ). HasFailedBy options facts m tree messages left after) at (failed is)

    gone_here : HasLeftBy options facts (moment_of options clock_micros) tree left after
    gone_here = subst (λ (m : ℕ). HasLeftBy options facts m tree left after) at gone

    -- ---- what was asked

    -- the steps that were done are those that were recorded
    recorded_here : after ≡ map (λ s. s.0) moves.steps
    recorded_here = moves.recorded ∙ ap (λ steps. steps ++ map (λ s. s.0) moves.steps) start

    abbrev done_changes : List Change
    done_changes = changes_of (tree_path folder) tree after (moment_of options clock_micros)

    at_once : changes_for (tree_path folder) tree moves.steps ≡ done_changes
    at_once = changes_at_once (tree_path folder) (moment_of options clock_micros) moves.steps tree after recorded_here

    abbrev Asked : FolderState → FolderState → Type 0
    Asked a b = HasAsked moves.steps a b

    -- of a run of which no step is half done
    made_here : pending ≡ false → HasMade done_changes old.content mid old.changes middle
    made_here still = by moves.asked
      where
        by : Asked (record { folder = folder; files = tree; steps = before; content = old.content; changes = old.changes; faults = old.faults; pending = was })
            (record { folder = other; files = left; steps = after; content = mid; changes = middle; faults = between; pending = will })
            → HasMade done_changes old.content mid old.changes middle
        by (all_made began made) = subst (λ (changes : List Change). HasMade changes old.content mid old.changes middle) at_once made
        by (one_more s began half can fits made) = absurd (let no : true ≡ false = sym half ∙ sym is_pending ∙ still in cc)
        by (at_rest half none content changes) = absurd (let no : true ≡ false = sym half ∙ settled in cc)

    -- and of any
    abbrev AskedBy : List Step → Type 0
    AskedBy steps = AreAsked tree (moment_of options clock_micros) after steps × HasMade (changes_of (tree_path folder) tree steps (moment_of options clock_micros)) old.content mid old.changes middle

    made_any : (steps : List Step) × AskedBy steps
    made_any = by moves.asked
      where
        there : left ≡ after_all tree after (moment_of options clock_micros)
        there = gone_here.gone.reached ∙ ap (λ (steps : List Step). after_all tree steps (moment_of options clock_micros)) gone_here.by

        by : Asked (record { folder = folder; files = tree; steps = before; content = old.content; changes = old.changes; faults = old.faults; pending = was })
            (record { folder = other; files = left; steps = after; content = mid; changes = middle; faults = between; pending = will })
            → (steps : List Step) × AskedBy steps
        by (all_made began made) = (after, (all_done refl, subst (λ (changes : List Change). HasMade changes old.content mid old.changes middle) at_once made))
        by (one_more s began half can fits made) =
            let all : changes_for (tree_path folder) tree moves.steps ++ option_to_list (change_for (tree_path folder) (places left) s)
            ≡ changes_of (tree_path folder) tree (after ++ s ∷ []) (moment_of options clock_micros) =
            ap (λ changes. changes ++ option_to_list (change_for (tree_path folder) (places left) s)) at_once
            ∙ ap (λ (t : Files). done_changes ++ option_to_list (change_for (tree_path folder) (places t) s)) there
            ∙ changes_one_more (tree_path folder) (moment_of options clock_micros) after tree s in (
              after ++ s ∷ [],
              (
                one_step_more s (subst (λ (t : Files). Can (places t) s) there can) fits refl,
                subst (λ (changes : List Change). HasMade changes old.content mid old.changes middle) all made,
              ),
            )
        by (at_rest half none content changes) = absurd (let no : true ≡ false = sym half ∙ settled in cc)

    abbrev Closing : ℕ → Type 0
    Closing k = HasMade (take k (closing_changes folder (manifest_of facts left))) mid new.content middle new.changes

    closing_here : closed ≡ Ok tt → Closing 2
    closing_here is =
        subst (λ (f : Path). HasMade (closing_changes f (manifest_of facts left)) mid new.content middle new.changes) moves.same
        (subst (λ r. OnOk r (HasMade (closing_changes other (manifest_of facts left)) mid new.content middle new.changes)) is asked)

    part_here : (f : HostFault) → closed ≡ Err f → (k : ℕ) × ((k ≤ 1) × Closing k)
    part_here f is =
        subst (λ (f : Path). (k : ℕ) × ((k ≤ 1) × HasMade (take k (closing_changes f (manifest_of facts left))) mid new.content middle new.changes)) moves.same
        (subst (λ r. OnErr r ((k : ℕ) × ((k ≤ 1) × HasMade (take k (closing_changes other (manifest_of facts left))) mid new.content middle new.changes))) is part)

    closing_any : (k : ℕ) × Closing k
    closing_any = by closed refl
      where
        by : (r : Result (Unit {0}) HostFault) → closed ≡ r → (k : ℕ) × Closing k
        by (Ok u) is = (2, closing_here is)
        by (Err f) is = let some = part_here f is in (some.0, some.1.1)

    asked_with : (steps : List Step) (k : ℕ) → HasMade (changes_of (tree_path folder) tree steps (moment_of options clock_micros)) old.content mid old.changes middle → Closing k
        → HasAskedFor folder facts (moment_of options clock_micros) tree steps left k old new
    asked_with steps k made closing_made =
        made_on (changes_of (tree_path folder) tree steps (moment_of options clock_micros)) (take k (closing_changes folder (manifest_of facts left))) old.content mid new.content old.changes middle new.changes made closing_made

    -- by the steps of a run
    asked_by : (steps : List Step) → steps ≡ after → (k : ℕ) → pending ≡ false → Closing k → HasAskedFor folder facts (moment_of options clock_micros) tree steps left k old new
    asked_by steps is k still closing_made =
        subst (λ (s : List Step). HasAskedFor folder facts (moment_of options clock_micros) tree s left k old new) (sym is) (asked_with after k (made_here still) closing_made)

    -- ---- what is kept

    agrees_here : pending ≡ false → IfSome mid (λ c. Agrees folder left (held c))
    agrees_here still = subst (λ (f : Path). IfSome mid (λ c. Agrees f left (held c))) moves.same (agrees still)

    done_here : OnOk closed (IsClosed folder facts left mid new.content)
    done_here = subst (λ (f : Path). OnOk closed (IsClosed f facts left mid new.content)) moves.same done

    same_here : OnErr closed (IsSameButNew folder mid new.content)
    same_here = subst (λ (f : Path). OnErr closed (IsSameButNew f mid new.content)) moves.same kept

    kept_here : pending ≡ false → closed ≡ Ok tt → IfKnown (IsKept folder facts left) old.content new.content
    kept_here still is =
        kept_in folder facts left old.content mid new.content moves.outside (agrees_here still)
        (subst (λ r. OnOk r (IsClosed folder facts left mid new.content)) is done_here)
        (subst (λ r. OnOk r (IsManifest facts left)) is image)

    unclosed_here : pending ≡ false → closed ≡ Err host.Failed → IfKnown (IsUnclosed folder left) old.content new.content
    unclosed_here still is =
        unclosed_in folder facts left old.content mid new.content moves.outside (agrees_here still)
        (subst (λ r. OnErr r (IsSameButNew folder mid new.content)) is same_here)

    near_told : (o : Option Content) → IfSome o (λ c. Agrees folder left (held c)) → IfSome o (λ c. IsAtMostAhead folder left (held c))
    near_told None agrees = tt
    near_told (Some c) agrees = level agrees

    near_here : IfSome mid (λ c. IsAtMostAhead folder left (held c))
    near_here = by pending refl
      where
        moved : will ≡ true → IfSome mid (λ c. IsAtMostAhead folder left (held c))
        moved is = elim (moves.near is) [
          | inl rest ↦ absurd (let no : true ≡ false = sym rest.pending ∙ settled in cc)
          | inr near ↦ near
        ]

        by : (b : Bool) → pending ≡ b → IfSome mid (λ c. IsAtMostAhead folder left (held c))
        by false is = near_told mid (agrees_here is)
        by true is = moved (sym is_pending ∙ is)

    pub short_kept : IsShortOn folder options clock_micros old new
    short_kept =
        let gone_on = gone_here in
        let any = made_any in
        let some = closing_any in
        in_run facts tree left opened gone_on.gone
        (short_in folder facts left old.content mid new.content moves.outside closed near_here done_here image same_here)
        any.0 (subst (λ (done : List Step). AreAsked tree (moment_of options clock_micros) done any.0) (sym gone_on.by) any.1.0)
        some.0 (asked_with any.0 some.0 any.1.1 some.1)

    -- the host is blamed where its count of faults rose, in a step or in keeping what was left, or in both
    risen_in_step : ran ≡ Err step.Failed → HasRisen old.faults new.faults
    risen_in_step is = risen_closing closed old.faults between new.faults (refused_risen ran old.faults between counted is) more closing

    closing_failed : closed ≡ Err host.Failed → new.faults ≡ fault_after between
    closing_failed is = closing ∙ ap (λ (r : Result (Unit {0}) HostFault). count_after r between) is

    risen_again : ran ≡ Err step.Failed → closed ≡ Err host.Failed → HasRisen (fault_after old.faults) new.faults
    risen_again is fault =
        let first : between ≡ fault_after old.faults = counted ∙ ap (λ (r : Result Outcome TreeFault). faults_after (refused r) old.faults) is in
        risen_by_fault (fault_after old.faults) between new.faults (omega (arith, first)) (closing_failed fault)

    ended_answer : (found : Outcome) → EndsAs ran pending closed found → IsAnswerOn folder options clock_micros old new found messages
    ended_answer found (as_run _ is still closing_is) =
        let run_is = run_as found is in
        run_on found messages (record {
          run = record { facts = facts; tree = tree; opened = opened; left = left; run = run_is.run; kept = kept_here still closing_is };
          asked = asked_by (gone_of options facts (moment_of options clock_micros) tree found messages left run_is.run).steps run_is.by 2 still (closing_here closing_is);
        })
    ended_answer found (step_failed is still closing_is) =
        let cut = failed_as is in (
          risen_in_step is,
          in_step (record { facts = facts; tree = tree; opened = opened; left = left; run = cut.run; kept = kept_here still closing_is })
              (asked_by (gone_before options facts (moment_of options clock_micros) tree messages left cut.run).steps cut.by 2 still (closing_here closing_is)),
        )
    ended_answer found (step_and_keeping_failed is still fault) =
        let cut = failed_as is in
        let some = part_here host.Failed fault in (
          risen_in_step is,
          in_step_and_keeping facts tree left opened cut.run (risen_again is fault) (unclosed_here still fault) some.0 some.1.0
              (asked_by (gone_before options facts (moment_of options clock_micros) tree messages left cut.run).steps cut.by some.0 still some.1.1),
        )
    ended_answer found (keeping_failed end is still fault) =
        let run_is = run_as end is in
        let some = part_here host.Failed fault in (
          risen_by_fault old.faults between new.faults moves.count (closing_failed fault),
          in_keeping facts tree left end opened run_is.run (unclosed_here still fault) some.0 some.1.0
              (asked_by (gone_of options facts (moment_of options clock_micros) tree end messages left run_is.run).steps run_is.by some.0 still some.1.1),
        )

    pub kept_answer : {E : Type 0} (r : Result Outcome E) → IfOk r (EndsAs ran pending closed) → IfOk r (λ found. IsAnswerOn folder options clock_micros old new found messages)
    kept_answer (Ok found) ends = ended_answer found ends
    kept_answer (Err f) ends = tt

    pub kept_less : {A E : Type 0} (r : Result A E) → OnErr r (IsShortOn folder options clock_micros old new)
    kept_less (Ok x) = tt
    kept_less (Err f) = short_kept

    -- where closing did not run out of memory
    pub closed_less : (closed ≡ Err host.Memory → ⊥) → IfSome new.content (λ c. held c (manifest_path folder) ≡ Some (File (manifest_of facts left))) ⊎ HasRisen old.faults new.faults
    closed_less never = by closed never refl
      where
        by : (r : Result (Unit {0}) HostFault) → (r ≡ Err host.Memory → ⊥) → closed ≡ r
            → IfSome new.content (λ c. held c (manifest_path folder) ≡ Some (File (manifest_of facts left))) ⊎ HasRisen old.faults new.faults
        by (Ok x) never is = inl (has_closed folder (manifest_of facts left) mid new.content (subst (λ r. OnOk r (IsClosed folder facts left mid new.content)) is done_here))
        by (Err host.Failed) never is = inr (risen_by_fault old.faults between new.faults moves.count (closing_failed is))
        by (Err host.Memory) never is = absurd (never refl)

  -- a folder that is not opened
  pub refused_output : (f : OpenFault) → is_outer f ≡ false → IfSome old.content (λ c. IsRefused folder c f) → new.content ≡ old.content → new.changes ≡ old.changes
      → {E : Type 0} (r : Result Answer E) → IfOk r (λ a. a.outcome ≡ BadFolder f) → IfOk r (λ a. a.output.items ≡ messages_text (bad_folder_text f ∷ []))
      → IfOk r (λ a. HasOutputOn folder options clock_micros old new a.outcome a.output.items)
  refused_output f outer refused kept unasked (Ok a) is text = (
    bad_folder_text f ∷ [],
    (
      subst (λ (o : Outcome). IsAnswerOn folder options clock_micros old new o (bad_folder_text f ∷ [])) (sym is)
          (record { of_folder = outer; refused = refused; message = refl; kept = kept; unasked = unasked }),
      text,
    ),
  )
  refused_output f outer refused kept unasked (Err e) is text = tt

  pub failed_opening : (out : List ℕ) → out ≡ [] → new.content ≡ old.content → new.changes ≡ old.changes → HasRisen old.faults new.faults
      → HasOutputOn folder options clock_micros old new FolderFailed out
  failed_opening out none kept unasked risen = ([], ((risen, in_opening refl kept unasked), none))

  pub short_opening : new.content ≡ old.content → new.changes ≡ old.changes → {A E : Type 0} (r : Result A E) → OnErr r (IsShortOn folder options clock_micros old new)
  short_opening kept unasked (Ok x) = tt
  short_opening kept unasked (Err f) = before_steps kept unasked

  -- the host is blamed where its count of faults rose
  pub output_blames : (found : Outcome) (out : List ℕ) → HasOutputOn folder options clock_micros old new found out → found ≡ FolderFailed → HasRisen old.faults new.faults
  output_blames found out h e = (subst (λ (o : Outcome). IsAnswerOn folder options clock_micros old new o h.0) e h.1.0).0

  -- what was written wholly
  pub folder_written : (found : Outcome) (out : List ℕ) (before after : Option (List ℕ)) → HasOutputOn folder options clock_micros old new found out → Appends before after out
      → HasWrittenOn folder options clock_micros old new found before after
  unfolding HasWrittenOn
  folder_written Done out before after h a = (out, h, a)
  folder_written ConfigInvalid out before after h a = (out, h, a)
  folder_written NotCarriedOut out before after h a = (out, h, a)
  folder_written Usage out before after h a = (out, h, a)
  folder_written (BadImage f) out before after h a = (out, h, a)
  folder_written (NoFreeId name) out before after h a = (out, h, a)
  folder_written Memory out before after h a = absurd (subst IsEnd (sym h.1.0.run.run.end) (ends _))
  folder_written ReadFault out before after h a = absurd (subst IsEnd (sym h.1.0.run.run.end) (ends _))
  folder_written WriteFault out before after h a = absurd (subst IsEnd (sym h.1.0.run.run.end) (ends _))
  folder_written (Stopped n) out before after h a = (out, h, a)
  folder_written (BadFolder f) out before after h a = (out, h, a)
  folder_written FolderFailed out before after h a = (out, h, a)

  -- a prefix of it
  pub folder_front : (found : Outcome) (out bytes : List ℕ) (before after : Option (List ℕ)) → bytes ≡ out → HasOutputOn folder options clock_micros old new found out
      → AppendsPrefix before after bytes → HasWrittenOn folder options clock_micros old new WriteFault before after
  unfolding HasWrittenOn
  folder_front found out bytes before after same h front = (found, out, h, (front.0, subst (λ (b : List ℕ). Appends before after (take front.0 b)) same front.2))

  -- nothing
  pub folder_nothing : (before after : Option (List ℕ)) → IsShortOn folder options clock_micros old new → Appends before after [] → HasWrittenOn folder options clock_micros old new Memory before after
  unfolding HasWrittenOn
  folder_nothing before after short none = (short, none)

  -- it blames neither the words nor the source
  pub folder_not_usage : (found : Outcome) (before after : Option (List ℕ)) → HasWrittenOn folder options clock_micros old new found before after → found ≡ Usage → ⊥
  unfolding HasWrittenOn
  folder_not_usage found before after h e =
      let stated = subst (λ (o : Outcome). HasWrittenOn folder options clock_micros old new o before after) e h in
      subst IsEnd (sym stated.1.1.0.run.run.end) (ends _)

  pub folder_not_read : (found : Outcome) (before after : Option (List ℕ)) → HasWrittenOn folder options clock_micros old new found before after → found ≡ ReadFault → ⊥
  unfolding HasWrittenOn
  folder_not_read found before after h e = subst (λ (o : Outcome). HasWrittenOn folder options clock_micros old new o before after) e h

-- ---- a folder and a host by other names

-- the host's content and changes are the same from an earlier count of faults
module _ (folder : Path) (options : Options) (clock_micros : ℕ) (old mid new : HostState) (same : mid.content ≡ old.content) (still : mid.changes ≡ old.changes) (up : old.faults ≤ mid.faults) where
  -- the first state with the later count
  abbrev first : HostState
  first = record { content = old.content; changes = old.changes; faults = mid.faults }

  first_is : mid ≡ first
  first_is =
      ap (λ (o : Option Content). record { content = o; changes = mid.changes; faults = mid.faults }) same
      ∙ ap (λ (o : Option (List Change)). record { content = old.content; changes = o; faults = mid.faults }) still

  failed_from : (messages : List (List ℕ)) → IsFailedOn folder options clock_micros first new messages → IsFailedOn folder options clock_micros old new messages
  failed_from messages (in_opening none kept unasked) = in_opening none kept unasked
  failed_from messages (in_step cut asked) = in_step cut asked
  failed_from messages (in_step_and_keeping facts tree left opened run again kept k few asked) =
      in_step_and_keeping facts tree left opened run
      (risen_from (fault_after old.faults) (fault_after mid.faults) new.faults (fault_after_le old.faults mid.faults up) again) kept k few asked
  failed_from messages (in_keeping facts tree left found opened run kept k few asked) = in_keeping facts tree left found opened run kept k few asked

  run_from : (found : Outcome) (messages : List (List ℕ)) → HasRunOn folder options clock_micros first new found messages → HasRunOn folder options clock_micros old new found messages
  run_from found messages h = record { run = h.run; asked = h.asked }

  answer_first : (found : Outcome) (messages : List (List ℕ)) → IsAnswerOn folder options clock_micros first new found messages → IsAnswerOn folder options clock_micros old new found messages
  answer_first Done messages h = run_from Done messages h
  answer_first ConfigInvalid messages h = run_from ConfigInvalid messages h
  answer_first NotCarriedOut messages h = run_from NotCarriedOut messages h
  answer_first Usage messages h = run_from Usage messages h
  answer_first (BadImage f) messages h = run_from (BadImage f) messages h
  answer_first (NoFreeId name) messages h = run_from (NoFreeId name) messages h
  answer_first Memory messages h = run_from Memory messages h
  answer_first ReadFault messages h = run_from ReadFault messages h
  answer_first WriteFault messages h = run_from WriteFault messages h
  answer_first (Stopped n) messages h = run_from (Stopped n) messages h
  answer_first (BadFolder f) messages h = record { of_folder = h.of_folder; refused = h.refused; message = h.message; kept = h.kept; unasked = h.unasked }
  answer_first FolderFailed messages h = (risen_from old.faults mid.faults new.faults up h.0, failed_from messages h.1)

  answer_from : (found : Outcome) (messages : List (List ℕ)) → IsAnswerOn folder options clock_micros mid new found messages → IsAnswerOn folder options clock_micros old new found messages
  answer_from found messages h = answer_first found messages (subst (λ (s : HostState). IsAnswerOn folder options clock_micros s new found messages) first_is h)

  pub output_from : {E : Type 0} (r : Result Answer E) → IfOk r (λ a. HasOutputOn folder options clock_micros mid new a.outcome a.output.items)
      → IfOk r (λ a. HasOutputOn folder options clock_micros old new a.outcome a.output.items)
  output_from (Ok a) h = (h.0, (answer_from a.outcome h.0 h.1.0, h.1.1))
  output_from (Err f) h = tt

  short_first : IsShortOn folder options clock_micros first new → IsShortOn folder options clock_micros old new
  short_first (before_steps kept unasked) = before_steps kept unasked
  short_first (in_run facts tree left opened gone kept steps asked k made) = in_run facts tree left opened gone kept steps asked k made

  pub short_from : {A E : Type 0} (r : Result A E) → OnErr r (IsShortOn folder options clock_micros mid new) → OnErr r (IsShortOn folder options clock_micros old new)
  short_from (Ok x) h = tt
  short_from (Err f) h = short_first (subst (λ (s : HostState). IsShortOn folder options clock_micros s new) first_is h)

-- an answer to a folder by its other name, and to what the host held and holds by other names
module _ (options : Options) (clock_micros : ℕ) (own folder : Path) (stated old left new : HostState) (at : own ≡ folder) (same : stated ≡ old) (last : left ≡ new) where
  here_answer : (found : Outcome) (messages : List (List ℕ)) → IsAnswerOn own options clock_micros stated left found messages → IsAnswerOn folder options clock_micros old new found messages
  here_answer found messages answer =
      subst (λ (s : HostState). IsAnswerOn folder options clock_micros old s found messages) last
      (subst (λ (s : HostState). IsAnswerOn folder options clock_micros s left found messages) same
      (subst (λ (p : Path). IsAnswerOn p options clock_micros stated left found messages) at answer))

  pub here_short : IsShortOn own options clock_micros stated left → IsShortOn folder options clock_micros old new
  here_short short =
      subst (λ (s : HostState). IsShortOn folder options clock_micros old s) last
      (subst (λ (s : HostState). IsShortOn folder options clock_micros s left) same
      (subst (λ (p : Path). IsShortOn p options clock_micros stated left) at short))

  module _ (found : Outcome) (messages : List (List ℕ)) (answer : IsAnswerOn own options clock_micros stated left found messages) where
    pub told_output : {E : Type 0} (r : Result Answer E) → IfOk r (λ a. a.outcome ≡ found)
        → IfOk r (λ a. a.output.items ≡ messages_text messages) → IfOk r (λ a. HasOutputOn folder options clock_micros old new a.outcome a.output.items)
    told_output (Ok a) is text =
        (messages, (subst (λ (o : Outcome). IsAnswerOn folder options clock_micros old new o messages) (sym is) (here_answer found messages answer), text))
    told_output (Err e) is text = tt

    pub told_short : {E : Type 0} (r : Result Answer E) → OnErr r (IsShortOn folder options clock_micros old new)
    told_short (Ok a) = tt
    told_short (Err e) = short_answer folder options clock_micros old new found messages (here_answer found messages answer)

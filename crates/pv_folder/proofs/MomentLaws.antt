-- Between any two changes that a run on a folder asks of its host, the folder holds an intermediate tree of the run.
use Rattle.std.specs.Prelude.{◌≡◌, ℕ, zero, suc, ◌<◌, ◌^◌, List, [], ◌∷◌, ◌++◌, take, Option, Some, None, option_map}
use Rattle.std.proofs.Common.{refl, sym, ap, subst, ◌∙◌, append-nil}
use Rattle.std.specs.Option.{option_to_list}
use Rattle.pv_path.specs.Paths.{Path}
use Rattle.pv_path.proofs.PathLaws.{same_path-no}
use Rattle.pv_steps.specs.declared.step.Step.{Step}
use Rattle.pv_steps.specs.Trees.{Files, IsTree, Places, places}
use Rattle.pv_steps.specs.Steps.{Can, StepFits, after}
use Rattle.pv_steps.proofs.StepLaws.{at_after}
use Rattle.pv_steps.proofs.TreeLaws.{tree_after}
use Rattle.pv_folder.specs.Content.{Change, Held, IsDirectory, changed, put_at}
use Rattle.pv_folder.specs.Content as host
use Rattle.pv_folder.specs.Folders.{Agrees, IsSameElse, manifest_path, new_manifest_path, real_of, tree_path}
use Rattle.pv_folder.specs.Keeping.{IsReady, change_for, with_manifest}
use Rattle.pv_folder.specs.Made.{all_changed}
use Rattle.pv_folder.specs.Moments.{CanBeDone, IsBetween, changes_of, closed, closing, in_closing, in_steps, run_changes}
use Rattle.pv_folder.proofs.AgreeLaws.{agrees_after, done, same_elsewhere}
use Rattle.pv_folder.proofs.ClosingLaws.{below_tree, beside_both, beside_new, kept_at, moved_new, put_here}
use Rattle.pv_folder.proofs.ReadyLaws.{directory_real, stays_ready}

take_none : {A : Type 0} (n : ℕ) → ◌≡◌ {A = List A} (take n []) []
take_none zero = refl
take_none (suc n) = refl

module _ (folder : Path) (now : ℕ) (bound : now < 2 ^ 64) (text : List ℕ) where
  abbrev top : Path
  top = tree_path folder

  -- ---- one step

  module _ (t : Files) (u : Held) (tree : IsTree t) (agrees : Agrees folder t u) (ready : IsReady folder u) (step : Step) (can : Can (places t) step) (fits : StepFits step)
      (call : Option Change) (is : change_for top (places t) step ≡ call) where
    step_agrees : Agrees folder (after t step now) (done call u)
    step_agrees = λ path.
        ap (λ (c : Option Change). done c u (top ++ path)) (sym is)
        ∙ agrees_after top (places t) u agrees tree step now can path
        ∙ ap (λ (p : Places). real_of (p path)) (sym (at_after t step now))

    step_else : IsSameElse folder u (done call u)
    step_else = λ path out. ap (λ (c : Option Change). done c u path) (sym is) ∙ same_elsewhere top (places t) u path out step

    step_tree : IsTree (after t step now)
    step_tree = tree_after t step now tree can fits bound

    step_ready : IsReady folder (done call u)
    step_ready = stays_ready folder u (done call u) step_else at_root ready
      where
        at_root : IsDirectory (done call u) (tree_path folder)
        at_root =
            ap (λ (p : Path). option_map host.kind_of (done call u p)) (sym (append-nil (tree_path folder)))
            ∙ ap (option_map host.kind_of) (step_agrees [])
            ∙ directory_real (after t step now) step_tree

    -- what is between later steps is between these
    step_before : (steps : List Step) (new : Held) → IsBetween folder (after t step now) steps now text (done call u) new → IsBetween folder t (step ∷ steps) now text u new
    step_before steps new (in_steps n here same) = in_steps (suc n) here (λ path out. same path out ∙ step_else path out)
    step_before steps new (in_closing here same) = in_closing here (λ path out no. same path out no ∙ step_else path out)
    step_before steps new (closed here there same) = closed here there (λ path out no no_new. same path out no no_new ∙ step_else path out)

  -- ---- the end

  module _ (t : Files) (u : Held) (agrees : Agrees folder t u) (ready : IsReady folder u) where
    abbrev Here : List Change → Type 0
    Here changes = IsBetween folder t [] now text u (all_changed changes u)

    begun : Here []
    begun = in_steps 0 agrees (λ path out. refl)

    half : Here (host.WriteFile (new_manifest_path folder) text ∷ [])
    half = in_closing
        (λ path. below_tree folder path u (put_at (new_manifest_path folder) (Some (host.File text)) u)
        (λ y s one other. beside_new folder text u ready y s (Some (host.File text)) other) ∙ agrees path)
        (λ path out no. kept_at (new_manifest_path folder) path (Some (host.File text)) u (same_path-no (new_manifest_path folder) path (λ e. no (sym e))))

    last : (q : Path) → changed (host.Rename (new_manifest_path folder) (manifest_path folder)) (changed (host.WriteFile (new_manifest_path folder) text) u) q ≡ with_manifest folder text u q
    last q = moved_new folder text u ready q

    whole : Here (closing folder text)
    whole = closed
        (λ path. last (tree_path folder ++ path) ∙ below_tree folder path u (with_manifest folder text u) (beside_both folder text u ready) ∙ agrees path)
        (last (manifest_path folder) ∙ put_here (manifest_path folder) (Some (host.File text)) (put_at (new_manifest_path folder) None u))
        (λ path out no no_new. last path
        ∙ kept_at (manifest_path folder) path (Some (host.File text)) (put_at (new_manifest_path folder) None u) (same_path-no (manifest_path folder) path (λ e. no (sym e)))
        ∙ kept_at (new_manifest_path folder) path None u (same_path-no (new_manifest_path folder) path (λ e. no_new (sym e))))

    in_end : (n : ℕ) → Here (take n (closing folder text))
    in_end zero = begun
    in_end (suc zero) = half
    in_end (suc (suc n)) =
        subst (λ (cs : List Change). Here (host.WriteFile (new_manifest_path folder) text ∷ host.Rename (new_manifest_path folder) (manifest_path folder) ∷ cs)) (sym (take_none n)) whole

  -- ---- any number of steps

  pub between : (steps : List Step) (t : Files) (u : Held) (n : ℕ) → IsTree t → CanBeDone t steps now → Agrees folder t u → IsReady folder u
      → IsBetween folder t steps now text u (all_changed (take n (run_changes folder t steps now text)) u)
  between [] t u n tree able agrees ready = in_end t u agrees ready n
  between (step ∷ steps) t u n tree (can, (fits, rest)) agrees ready =
      by (λ v m here ready_here. between steps (after t step now) v m (tree_after t step now tree can fits bound) rest here ready_here) (change_for top (places t) step) refl n
    where
      by : ((v : Held) (m : ℕ) → Agrees folder (after t step now) v → IsReady folder v
          → IsBetween folder (after t step now) steps now text v (all_changed (take m (run_changes folder (after t step now) steps now text)) v)) → (call : Option Change) → change_for top (places t) step ≡ call → (m : ℕ)
          → IsBetween folder t (step ∷ steps) now text u (all_changed (take m ((option_to_list call ++ changes_of top (after t step now) steps now) ++ closing folder text)) u)
      by later None is m =
          step_before t u tree agrees ready step can fits None is steps (all_changed (take m (run_changes folder (after t step now) steps now text)) u)
          (later u m (step_agrees t u tree agrees ready step can fits None is) (step_ready t u tree agrees ready step can fits None is))
      by later (Some change) is zero = in_steps 0 agrees (λ path out. refl)
      by later (Some change) is (suc m) =
          step_before t u tree agrees ready step can fits (Some change) is steps (all_changed (take m (run_changes folder (after t step now) steps now text)) (changed change u))
          (later (changed change u) m (step_agrees t u tree agrees ready step can fits (Some change) is) (step_ready t u tree agrees ready step can fits (Some change) is))

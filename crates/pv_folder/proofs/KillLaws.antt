-- What a folder is opened with that is found between two changes of a run: its old manifest merged with an intermediate tree.
use Rattle.std.specs.Prelude.{◌≡◌, ℕ, true, List, length, take, Option, Some, None, is_some}
use Rattle.std.proofs.Common.{refl, sym, ap, subst, ◌∙◌}
use Rattle.std.proofs.Math.Seq.{take-length}
use Rattle.std.specs.Option.{option_and_then}
use Rattle.std.specs.FinMap as fin
use Rattle.pv_path.specs.Paths.{Path, path_exact, path_total}
use Rattle.pv_steps.specs.declared.object.Object.{Object}
use Rattle.pv_steps.specs.declared.step.Step.{Step}
use Rattle.pv_steps.specs.Trees.{Files, places}
use Rattle.pv_steps.specs.Runs.{after_all}
use Rattle.pv_steps.proofs.StepLaws.{among_keys, places-tabulate}
use Rattle.pv_text.specs.Facts.{Values}
use Rattle.pv_folder.specs.Content.{Content, held}
use Rattle.pv_folder.specs.Folders.{Agrees, manifest_path, object_of, real_in, real_of}
use Rattle.pv_folder.specs.Merge.{merged}
use Rattle.pv_folder.specs.Moments.{IsBetween, closed, in_closing, in_steps, real_part}
use Rattle.pv_folder.specs.Opening.{IsOpened, Says, absent, present}
use Rattle.pv_folder.proofs.OpeningLaws.{places-real}

-- what is real of a tree that a folder has
module _ (folder : Path) (c : Content) (t : Files) (agrees : Agrees folder t (held c)) where
  real_some : (o : Option Object) → is_some (option_and_then object_of (real_of o)) ≡ true → is_some o ≡ true
  real_some None e = e
  real_some (Some o) e = refl

  part_at : (q : Path) → places (real_part t) q ≡ option_and_then object_of (real_of (places t q))
  part_at q = places-tabulate (fin.keys t) (λ path. option_and_then object_of (real_of (places t path))) q (λ h. among_keys t q ∙ real_some (places t q) h)

  part_here : real_in folder c ≡ real_part t
  part_here = fin.same_map path_total path_exact (real_in folder c) (real_part t) (λ q.
      places-real folder c q ∙ ap (option_and_then object_of) (agrees q) ∙ sym (part_at q))

-- a manifest that is as before says what it said
says_as : (folder : Path) (old new : Content) (facts : Values) (files : Files) → held new (manifest_path folder) ≡ held old (manifest_path folder)
    → Says folder new facts files → Says folder old facts files
says_as folder old new facts files same (absent none a b) = absent (sym same ∙ none) a b
says_as folder old new facts files same (present bytes at is) = present bytes (sym same ∙ at) is

module _ (folder : Path) (t : Files) (steps : List Step) (now : ℕ) (text : List ℕ) (old new : Content) where
  agrees_between : IsBetween folder t steps now text (held old) (held new) → (n : ℕ) × Agrees folder (after_all t (take n steps) now) (held new)
  agrees_between (in_steps n here same) = (n, here)
  agrees_between (in_closing here same) =
      (length steps, subst (λ (done : List Step). Agrees folder (after_all t done now) (held new)) (sym (take-length steps)) here)
  agrees_between (closed here there same) =
      (length steps, subst (λ (done : List Step). Agrees folder (after_all t done now) (held new)) (sym (take-length steps)) here)

  pub opened_between : (facts : Values) (tree : Files) → IsBetween folder t steps now text (held old) (held new) → held new (manifest_path folder) ≡ held old (manifest_path folder)
      → IsOpened folder new facts tree
      → (manifest : Files) × (Says folder old facts manifest × ((n : ℕ) × (tree ≡ merged manifest (real_part (after_all t (take n steps) now)))))
  opened_between facts tree between same opened =
      let here = agrees_between between in (
        opened.manifest,
        (
          says_as folder old new facts opened.manifest same opened.says,
          (here.0, opened.is_merged ∙ ap (merged opened.manifest) (part_here folder new (after_all t (take here.0 steps) now) here.1)),
        ),
      )

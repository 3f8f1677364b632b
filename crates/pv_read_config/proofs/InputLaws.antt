-- What is read depends on presence, kind and payload at input paths alone.
use Rattle.std.specs.Prelude.{◌≡◌, ℕ, Bool, true, false, ◌||◌, List, [], ◌∷◌, Option, Some, None, refl}
use Rattle.std.proofs.Common.{sym, ap, ◌∙◌}
use Rattle.std.proofs.lemmas.List.Folds.{list_any-append}
use Rattle.std.specs.List.{AllByRecursion}
use Rattle.pv_layers.specs.Choices.{Choice, chosen}
use Rattle.pv_layers.specs.Folders.{folders}
use Rattle.pv_layers.specs.Inputs.{AreInput, Has, IsPlain, SameContent, is_within}
use Rattle.pv_layers.proofs.InputLaws.{chosen-same_by, chosen-input_by}
use Rattle.pv_path.specs.Paths.{Path, is_prefix}
use Rattle.pv_path.specs.Printing.{printed_path}
use Rattle.pv_steps.specs.declared.node.Kind.{Kind}
use Rattle.pv_steps.specs.declared.node.Kind.TheVariants.{Directory, File, Link, Fifo, CharDevice, BlockDevice}
use Rattle.pv_steps.specs.declared.object.Object.{Object}
use Rattle.pv_steps.specs.declared.step.Step.{Step}
use Rattle.pv_steps.specs.Content.{content_of, alters, AreOutside}
use Rattle.pv_steps.specs.Runs.{after_all, Along}
use Rattle.pv_steps.specs.Trees.{Files, places, IsTree}
use Rattle.pv_steps.proofs.ContentLaws.{content-after_all}
use Rattle.pv_steps.proofs.LeavingLaws.{content-outside}
use Rattle.pv_text.specs.Facts.{Values}
use Rattle.pv_text.specs.declared.tool.Tool.{Tool}
use Rattle.pv_text.specs.declared.tool.Tool.TheVariants.{Tmpfiles, Sysusers}
use Rattle.pv_read_config.specs.Configuration.{Reader, configured_by, content_at, followed, lines_in, reading_of_file, reading_of_files, reading_of_lines, together}
use Rattle.pv_read_config.specs.Inputs.{is_request_input}
use Rattle.pv_read_config.specs.Known.{configured, known_of, lookup_in, tmpfiles_reader}
use Rattle.pv_read_config.specs.Requested.{requested, requests_reader}
use Rattle.pv_layers.specs.Places.{is_input, group_path, passwd_path}

-- the bytes of what has this kind and this payload
abbrev bytes_if : Option (Kind × List ℕ) → List ℕ
bytes_if (Some (File, payload)) = payload
bytes_if _ = []

content_at-is : (t : Files) (path : Path) → content_at t path ≡ bytes_if (content_of (places t path))
content_at-is t path = by (places t path) refl
  where
    of_kind : (o : Object) → places t path ≡ Some o → (k : Kind) → o.node.kind ≡ k → content_at t path ≡ bytes_if (Some (k, o.payload))
    of_kind o e File is = rw (e, is) refl
    of_kind o e Directory is = rw (e, is) refl
    of_kind o e Link is = rw (e, is) refl
    of_kind o e Fifo is = rw (e, is) refl
    of_kind o e CharDevice is = rw (e, is) refl
    of_kind o e BlockDevice is = rw (e, is) refl

    by : (o : Option Object) → places t path ≡ o → content_at t path ≡ bytes_if (content_of o)
    by None e = rw e refl
    by (Some o) e = of_kind o e o.node.kind refl

module _ (t u : Files) where
  pub content_at-same : (path : Path) → content_of (places t path) ≡ content_of (places u path) → content_at t path ≡ content_at u path
  content_at-same path same = content_at-is t path ∙ ap bytes_if same ∙ sym (content_at-is u path)

module _ {L : Type 0} (t u : Files) (reader : Reader L) where
  reading_of_file-same : (path : Path) → content_of (places t path) ≡ content_of (places u path) → reading_of_file t reader path ≡ reading_of_file u reader path
  reading_of_file-same path same = ap (λ bytes. reading_of_lines reader (printed_path path) 1 (lines_in bytes)) (content_at-same t u path same)

  pub reading_of_files-same : (input : Path → Bool) → SameContent input t u → (paths : List Path) → AreInput input paths → reading_of_files t reader paths ≡ reading_of_files u reader paths
  reading_of_files-same input same [] are = refl
  reading_of_files-same input same (path ∷ paths) are =
      ap (λ r. followed r (reading_of_files t reader paths)) (reading_of_file-same path (same path are.0))
      ∙ ap (followed (reading_of_file u reader path)) (reading_of_files-same input same paths are.1)

  -- what a tool reads of two trees is the same where they are the same at paths that have its folders among them, as
  -- the words do
  pub configured_by-same : (input : Path → Bool) (tool : Tool) → Has input (folders tool) → (words : List (List ℕ)) → SameContent input t u
      → AllByRecursion (IsPlain input) words → configured_by t reader tool words ≡ configured_by u reader tool words
  configured_by-same input tool has words same plain =
      ap (λ (c : Choice). together c (reading_of_files t reader c.files)) (chosen-same_by t u input tool has words same plain)
      ∙ ap (together (chosen u tool words)) (reading_of_files-same input same (chosen u tool words).files (chosen-input_by u input tool has words plain))

-- the folders are input
has_folders : Has is_input (folders Tmpfiles)
has_folders path is =
    list_any-append (λ place. is_prefix place path) (folders Tmpfiles) (passwd_path ∷ group_path ∷ [])
    ∙ ap (λ b. b || is_within (passwd_path ∷ group_path ∷ []) path) is

module _ (t u : Files) (same : SameContent is_input t u) where
  known-same : (facts : Values) → known_of t facts ≡ known_of u facts
  known-same facts =
      ap (λ passwd. record { facts = facts; lookup = lookup_in passwd (content_at t group_path) }) (content_at-same t u passwd_path (same passwd_path refl))
      ∙ ap (λ group. record { facts = facts; lookup = lookup_in (content_at u passwd_path) group }) (content_at-same t u group_path (same group_path refl))

  -- the configurations of two trees are the same where the trees are the same at input paths
  pub configured-same : (facts : Values) (words : List (List ℕ)) → AllByRecursion (IsPlain is_input) words → configured t facts words ≡ configured u facts words
  configured-same facts words plain =
      configured_by-same t u (tmpfiles_reader (known_of t facts)) is_input Tmpfiles has_folders words same plain
      ∙ ap (λ known. configured_by u (tmpfiles_reader known) Tmpfiles words) (known-same facts)

-- steps that alter no input path leave the configuration
pub configured-after_all : (files : Files) (steps : List Step) (now : ℕ) (facts : Values) (words : List (List ℕ))
    → ((path : Path) → is_input path ≡ true → AllByRecursion (λ step. alters step path ≡ false) steps)
    → AllByRecursion (IsPlain is_input) words → configured (after_all files steps now) facts words ≡ configured files facts words
configured-after_all files steps now facts words apart plain =
    configured-same (after_all files steps now) files (λ path is. content-after_all files steps now path (apart path is)) facts words plain

-- and so does a run outside of them, which may move what has nothing below it to a place above them
pub configured-outside : (files : Files) (steps : List Step) (now : ℕ) (facts : Values) (words : List (List ℕ))
    → Along IsTree files steps now → AreOutside is_input files steps now
    → AllByRecursion (IsPlain is_input) words → configured (after_all files steps now) facts words ≡ configured files facts words
configured-outside files steps now facts words along out plain =
    configured-same (after_all files steps now) files (content-outside is_input files steps now along out) facts words plain

-- the requests of two trees are the same where the trees are the same in the folders of systemd-sysusers
pub requested-same : (t u : Files) → SameContent is_request_input t u → (facts : Values) (words : List (List ℕ)) → AllByRecursion (IsPlain is_request_input) words → requested t facts words ≡ requested u facts words
requested-same t u same facts words plain = configured_by-same t u (requests_reader facts) is_request_input Sysusers (λ path is. is) words same plain

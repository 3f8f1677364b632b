-- The choice of configuration files depends on presence, kind and payload in the folders alone.
use Rattle.std.specs.Prelude.{◌≡◌, ℕ, Bool, true, false, cond, ◌||◌, List, [], ◌∷◌, ◌++◌, filter, Option, Some, None, is_some, option_map, if◌then◌else◌, refl, ⊤}
use Rattle.std.proofs.Common.{sym, ap, subst, append-nil, ◌∙◌}
use Rattle.std.specs.List.{AllByRecursion, flat_map, fold, list_any}
use Rattle.std.specs.Result.{result_ok}
use Rattle.std.proofs.Math.Bool.{or-true}
use Rattle.pv_path.specs.Names.{same_bytes, is_name}
use Rattle.pv_path.specs.Paths.{Path, is_prefix}
use Rattle.pv_path.proofs.PathLaws.{is_prefix-append}
use Rattle.pv_path.specs.Parsing.{begins_with_slash, path_of}
use Rattle.pv_steps.specs.declared.node.Kind.{Kind}
use Rattle.pv_steps.specs.declared.node.Kind.TheVariants.{Directory, File, Link, Fifo, CharDevice, BlockDevice}
use Rattle.pv_steps.specs.declared.object.Object.{Object}
use Rattle.pv_steps.specs.Trees.{Files, places, kind_of, names_below}
use Rattle.pv_steps.specs.Content.{content_of}
use Rattle.pv_steps.proofs.NameLaws.{names_below-same}
use Rattle.pv_layers.specs.declared.found.Found.{Found}
use Rattle.pv_layers.specs.declared.found.Found.TheVariants.{Missing, Masked, Odd, Regular}
use Rattle.pv_layers.specs.Folders.{folders, names_in, is_conf, conf_names_in, with_name, conf_names, mask_target, judged, found_at, or_else, found_in}
use Rattle.pv_layers.specs.Inputs.{is_within, Has, SameContent, IsPlain, AreInput}
use Rattle.pv_layers.specs.Choices.{nothing, followed, choice_of, choice_of_names, found_word, choice_of_word, choice_of_next, choice_of_words, chosen}
use Rattle.pv_text.specs.declared.tool.Tool.{Tool}

-- ---- the object at a path

-- what a kind and a payload are as a configuration file
abbrev pub judge : Path → Option (Kind × List ℕ) → Found
judge path None = Missing
judge path (Some (File, payload)) = Regular path
judge path (Some (Link, payload)) = cond (same_bytes payload mask_target) Masked (Odd path)
judge path (Some (_, payload)) = Odd path

judged-is : (path : Path) (o : Object) (k : Kind) → o.node.kind ≡ k → judged path o ≡ judge path (Some (k, o.payload))
judged-is path o File e = rw e refl
judged-is path o Link e = by (same_bytes o.payload mask_target) refl
  where
    by : (b : Bool) → same_bytes o.payload mask_target ≡ b → judged path o ≡ cond (same_bytes o.payload mask_target) Masked (Odd path)
    by true s = rw (e, s) refl
    by false s = rw (e, s) refl
judged-is path o Directory e = rw e refl
judged-is path o Fifo e = rw e refl
judged-is path o CharDevice e = rw e refl
judged-is path o BlockDevice e = rw e refl

pub found_at-is : (t : Files) (path : Path) → found_at t path ≡ judge path (content_of (places t path))
found_at-is t path = by (places t path) refl
  where
    by : (o : Option Object) → places t path ≡ o → found_at t path ≡ judge path (content_of o)
    by None e = rw e refl
    by (Some o) e = rw e (judged-is path o o.node.kind refl)

pub kind-of_content : (o : Option Object) → kind_of o ≡ option_map (λ c. c.0) (content_of o)
kind-of_content None = refl
kind-of_content (Some o) = refl

pub some-of_content : (o : Option Object) → is_some o ≡ is_some (content_of o)
some-of_content None = refl
some-of_content (Some o) = refl

-- the names in what has this kind
abbrev pub names_if : Option Kind → List (List ℕ) → List (List ℕ)
names_if (Some Directory) names = names
names_if _ names = []

pub names_in-is : (t : Files) (folder : Path) → names_in t folder ≡ names_if (kind_of (places t folder)) (names_below t folder)
names_in-is t folder = by (kind_of (places t folder)) refl
  where
    by : (k : Option Kind) → kind_of (places t folder) ≡ k → names_in t folder ≡ names_if k (names_below t folder)
    by None e = rw e refl
    by (Some Directory) e = rw e refl
    by (Some File) e = rw e refl
    by (Some Link) e = rw e refl
    by (Some Fifo) e = rw e refl
    by (Some CharDevice) e = rw e refl
    by (Some BlockDevice) e = rw e refl

-- ---- files that are found within the input

abbrev pub IsFoundWithin : (Path → Bool) → Found → Type 0
IsFoundWithin input (Regular path) = input path ≡ true
IsFoundWithin input _ = ⊤

module _ (t u : Files) where
  -- at a path and below it
  abbrev IsSameBelow : Path → Type 0
  IsSameBelow folder = (rest : Path) → content_of (places t (folder ++ rest)) ≡ content_of (places u (folder ++ rest))

  below-all : (fs : List Path) → SameContent (is_within fs) t u → AllByRecursion IsSameBelow fs
  below-all [] same = tt
  below-all (f ∷ fs) same = (
    λ rest. same (f ++ rest) (ap (λ b. b || is_within fs (f ++ rest)) (is_prefix-append f rest)),
    below-all fs (λ q h. same q (ap (λ b. is_prefix f q || b) h ∙ or-true (is_prefix f q))),
  )

  pub found_at-same : (path : Path) → content_of (places t path) ≡ content_of (places u path) → found_at t path ≡ found_at u path
  found_at-same path same = found_at-is t path ∙ ap (judge path) same ∙ sym (found_at-is u path)

  names_in-same : (folder : Path) → IsSameBelow folder → content_of (places t folder) ≡ content_of (places u folder) → names_in t folder ≡ names_in u folder
  names_in-same folder below here =
      let kinds : kind_of (places t folder) ≡ kind_of (places u folder) = kind-of_content (places t folder) ∙ ap (option_map (λ c. c.0)) here ∙ sym (kind-of_content (places u folder)) in
      let names : names_below t folder ≡ names_below u folder =
      names_below-same t u folder (λ n. some-of_content (places t (folder ++ n ∷ [])) ∙ ap is_some (below (n ∷ [])) ∙ sym (some-of_content (places u (folder ++ n ∷ [])))) in
      names_in-is t folder ∙ ap (λ k. names_if k (names_below t folder)) kinds ∙ ap (names_if (kind_of (places u folder))) names ∙ sym (names_in-is u folder)

  here-of : (folder : Path) → IsSameBelow folder → content_of (places t folder) ≡ content_of (places u folder)
  here-of folder below = subst (λ p. content_of (places t p) ≡ content_of (places u p)) (append-nil folder) (below [])

  all_names-same : (fs : List Path) → AllByRecursion IsSameBelow fs → flat_map (conf_names_in t) fs ≡ flat_map (conf_names_in u) fs
  all_names-same [] same = refl
  all_names-same (f ∷ fs) same =
      ap (λ ns. filter is_conf ns ++ flat_map (conf_names_in t) fs) (names_in-same f same.0 (here-of f same.0))
      ∙ ap (λ ns. conf_names_in u f ++ ns) (all_names-same fs same.1)

  pub conf_names-same : (fs : List Path) → SameContent (is_within fs) t u → conf_names t fs ≡ conf_names u fs
  conf_names-same fs same = ap (fold with_name []) (all_names-same fs (below-all fs same))

  found_in-all : (fs : List Path) (name : List ℕ) → AllByRecursion IsSameBelow fs → found_in t fs name ≡ found_in u fs name
  found_in-all [] name same = refl
  found_in-all (f ∷ fs) name same =
      ap (λ x. or_else x (found_in t fs name)) (found_at-same (f ++ name ∷ []) (same.0 (name ∷ [])))
      ∙ ap (or_else (found_at u (f ++ name ∷ []))) (found_in-all fs name same.1)

  module _ (input : Path → Bool) (fs : List Path) (has : Has input fs) (same : SameContent input t u) where
    pub found_in-same : (name : List ℕ) → found_in t fs name ≡ found_in u fs name
    found_in-same name = found_in-all fs name (below-all fs (λ path is. same path (has path is)))

    choice_of_names-same : (names : List (List ℕ)) → choice_of_names t fs names ≡ choice_of_names u fs names
    choice_of_names-same [] = refl
    choice_of_names-same (name ∷ names) =
        ap (λ x. followed (choice_of x) (choice_of_names t fs names)) (found_in-same name)
        ∙ ap (followed (choice_of (found_in u fs name))) (choice_of_names-same names)

    found_word-same : (word : List ℕ) → IsPlain input word → found_word t fs word ≡ found_word u fs word
    found_word-same word plain = by_slash (begins_with_slash word) refl
      where
        by_path : begins_with_slash word ≡ true → (o : Option Path) → result_ok (path_of word) ≡ o → found_word t fs word ≡ found_word u fs word
        by_path b None e = rw (e, b) refl
        by_path b (Some path) e = rw (e, b) (found_at-same path (same path (plain path e)))

        by_name : begins_with_slash word ≡ false → (n : Bool) → is_name word ≡ n → found_word t fs word ≡ found_word u fs word
        by_name b true e = rw (b, e) (found_in-same word)
        by_name b false e = rw (b, e) refl

        by_slash : (b : Bool) → begins_with_slash word ≡ b → found_word t fs word ≡ found_word u fs word
        by_slash true b = by_path b (result_ok (path_of word)) refl
        by_slash false b = by_name b (is_name word) refl

    choice_of_words-same : (before words : List (List ℕ)) → AllByRecursion (IsPlain input) words → choice_of_words t fs before words ≡ choice_of_words u fs before words
    choice_of_words-same before [] plain = refl
    choice_of_words-same before (word ∷ words) plain =
        ap (λ x. followed (if list_any (λ w. same_bytes w word) before then nothing else choice_of_word word x) (choice_of_words t fs (before ++ word ∷ []) words)) (found_word-same word plain.0)
        ∙ ap (followed (choice_of_next u fs before word)) (choice_of_words-same (before ++ word ∷ []) words plain.1)

  -- what a tool chooses of two trees is the same where they are the same at paths that have its folders among them, as the words do
  pub chosen-same_by : (input : Path → Bool) (tool : Tool) → Has input (folders tool) → (words : List (List ℕ)) → SameContent input t u → AllByRecursion (IsPlain input) words → chosen t tool words ≡ chosen u tool words
  chosen-same_by input tool has [] same plain =
      ap (choice_of_names t (folders tool)) (conf_names-same (folders tool) (λ path is. same path (has path is)))
      ∙ choice_of_names-same input (folders tool) has same (conf_names u (folders tool))
  chosen-same_by input tool has (word ∷ words) same plain = choice_of_words-same input (folders tool) has same [] (word ∷ words) plain

  -- what a tool chooses of two trees is the same where they are the same in its folders
  pub chosen-same : (tool : Tool) (words : List (List ℕ)) → SameContent (is_within (folders tool)) t u → AllByRecursion (IsPlain (is_within (folders tool))) words → chosen t tool words ≡ chosen u tool words
  chosen-same tool words same plain = chosen-same_by (is_within (folders tool)) tool (λ path is. is) words same plain

-- ---- the chosen files are input

pub are_input-append : (input : Path → Bool) (a b : List Path) → AreInput input a → AreInput input b → AreInput input (a ++ b)
are_input-append input [] b first second = second
are_input-append input (path ∷ a) b first second = (first.0, are_input-append input a b first.1 second)

-- the children of some folders are among the paths that have the folders
pub children-input : (input : Path → Bool) (fs : List Path) (name : List ℕ) → Has input fs → AllByRecursion (λ f. input (f ++ name ∷ []) ≡ true) fs
children-input input [] name has = tt
children-input input (f ∷ fs) name has = (
  has (f ++ name ∷ []) (ap (λ b. b || is_within fs (f ++ name ∷ [])) (is_prefix-append f (name ∷ []))),
  children-input input fs name (λ path is. has path (ap (λ b. is_prefix f path || b) is ∙ or-true (is_prefix f path))),
)

judge-input : (input : Path → Bool) (path : Path) → input path ≡ true → (c : Option (Kind × List ℕ)) → IsFoundWithin input (judge path c)
judge-input input path is None = tt
judge-input input path is (Some (File, payload)) = is
judge-input input path is (Some (Link, payload)) = elim (same_bytes payload mask_target) as (λ b. IsFoundWithin input (cond b Masked (Odd path))) [ true ↦ tt | false ↦ tt ]
judge-input input path is (Some (Directory, payload)) = tt
judge-input input path is (Some (Fifo, payload)) = tt
judge-input input path is (Some (CharDevice, payload)) = tt
judge-input input path is (Some (BlockDevice, payload)) = tt

or_else-input : (input : Path → Bool) (a b : Found) → IsFoundWithin input a → IsFoundWithin input b → IsFoundWithin input (or_else a b)
or_else-input input Missing b first second = second
or_else-input input Masked b first second = tt
or_else-input input (Odd path) b first second = tt
or_else-input input (Regular path) b first second = first

pub choice_of-input : (input : Path → Bool) (found : Found) → IsFoundWithin input found → AreInput input (choice_of found).files
choice_of-input input Missing is = tt
choice_of-input input Masked is = tt
choice_of-input input (Odd path) is = tt
choice_of-input input (Regular path) is = (is, tt)

pub choice_of_word-input : (input : Path → Bool) (word : List ℕ) (found : Found) → IsFoundWithin input found → AreInput input (choice_of_word word found).files
choice_of_word-input input word Missing is = tt
choice_of_word-input input word Masked is = tt
choice_of_word-input input word (Odd path) is = tt
choice_of_word-input input word (Regular path) is = (is, tt)

module _ (t : Files) where
  pub found_at-input : (input : Path → Bool) (path : Path) → input path ≡ true → IsFoundWithin input (found_at t path)
  found_at-input input path is = subst (IsFoundWithin input) (sym (found_at-is t path)) (judge-input input path is (content_of (places t path)))

  pub found_in-input : (input : Path → Bool) (fs : List Path) (name : List ℕ) → AllByRecursion (λ f. input (f ++ name ∷ []) ≡ true) fs → IsFoundWithin input (found_in t fs name)
  found_in-input input [] name are = tt
  found_in-input input (f ∷ fs) name are =
      or_else-input input (found_at t (f ++ name ∷ [])) (found_in t fs name) (found_at-input input (f ++ name ∷ []) are.0) (found_in-input input fs name are.1)

  module _ (input : Path → Bool) (fs : List Path) (has : Has input fs) where
    found_in-within : (name : List ℕ) → IsFoundWithin input (found_in t fs name)
    found_in-within name = found_in-input input fs name (children-input input fs name has)

    found_word-within : (word : List ℕ) → IsPlain input word → IsFoundWithin input (found_word t fs word)
    found_word-within word plain = by_slash (begins_with_slash word) refl
      where
        by_path : begins_with_slash word ≡ true → (o : Option Path) → result_ok (path_of word) ≡ o → IsFoundWithin input (found_word t fs word)
        by_path b None e = rw (e, b) tt
        by_path b (Some path) e = rw (e, b) (found_at-input input path (plain path e))

        by_name : begins_with_slash word ≡ false → (n : Bool) → is_name word ≡ n → IsFoundWithin input (found_word t fs word)
        by_name b true e = rw (b, e) (found_in-within word)
        by_name b false e = rw (b, e) tt

        by_slash : (b : Bool) → begins_with_slash word ≡ b → IsFoundWithin input (found_word t fs word)
        by_slash true b = by_path b (result_ok (path_of word)) refl
        by_slash false b = by_name b (is_name word) refl

    choice_of_names-within : (names : List (List ℕ)) → AreInput input (choice_of_names t fs names).files
    choice_of_names-within [] = tt
    choice_of_names-within (name ∷ names) =
        are_input-append input (choice_of (found_in t fs name)).files (choice_of_names t fs names).files (choice_of-input input (found_in t fs name) (found_in-within name)) (choice_of_names-within names)

    choice_of_words-within : (before words : List (List ℕ)) → AllByRecursion (IsPlain input) words → AreInput input (choice_of_words t fs before words).files
    choice_of_words-within before [] plain = tt
    choice_of_words-within before (word ∷ words) plain =
        are_input-append input (choice_of_next t fs before word).files (choice_of_words t fs (before ++ word ∷ []) words).files
        (elim (list_any (λ w. same_bytes w word) before) as (λ b. AreInput input (if b then nothing else choice_of_word word (found_word t fs word)).files) [
          | true ↦ tt
          | false ↦ choice_of_word-input input word (found_word t fs word) (found_word-within word plain.0)
        ])
        (choice_of_words-within (before ++ word ∷ []) words plain.1)

  -- the files that a tool chooses are at such paths
  pub chosen-input_by : (input : Path → Bool) (tool : Tool) → Has input (folders tool) → (words : List (List ℕ)) → AllByRecursion (IsPlain input) words → AreInput input (chosen t tool words).files
  chosen-input_by input tool has [] plain = choice_of_names-within input (folders tool) has (conf_names t (folders tool))
  chosen-input_by input tool has (word ∷ words) plain = choice_of_words-within input (folders tool) has [] (word ∷ words) plain

  pub chosen-input : (tool : Tool) (words : List (List ℕ)) → AllByRecursion (IsPlain (is_within (folders tool))) words → AreInput (is_within (folders tool)) (chosen t tool words).files
  chosen-input tool words plain = chosen-input_by (is_within (folders tool)) tool (λ path is. is) words plain

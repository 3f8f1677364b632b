-- Which paths decide what a run reads as its configuration (this project's own).
use Rattle.std.specs.Prelude.{◌≡◌, ℕ, Bool, true, List, Some}
use Rattle.std.specs.List.{AllByRecursion, list_any}
use Rattle.std.specs.Result.{result_ok}
use Rattle.pv_path.specs.Parsing.{path_of}
use Rattle.pv_path.specs.Paths.{Path, is_prefix}
use Rattle.pv_steps.specs.Content.{content_of}
use Rattle.pv_steps.specs.Trees.{Files, places}

-- Whether a path is one of some paths, or below one of them.
abbrev pub is_within : List Path → Path → Bool
is_within paths path = list_any (λ place. is_prefix place path) paths

-- The input paths include some folders and everything below them.
abbrev pub Has : (Path → Bool) → List Path → Type 0
Has input folders = (path : Path) → is_within folders path ≡ true → input path ≡ true

-- Two trees agree at each input path: whether there is an object, of which kind, and with which payload.
abbrev pub SameContent : (Path → Bool) → Files → Files → Type 0
SameContent input t u = (path : Path) → input path ≡ true → content_of (places t path) ≡ content_of (places u path)

-- If a FILE argument spells a path, this is an input path. A word that does not begin with a slash spells no path.
abbrev pub IsPlain : (Path → Bool) → List ℕ → Type 0
IsPlain input word = (path : Path) → result_ok (path_of word) ≡ Some path → input path ≡ true

-- Each of some paths is an input path.
abbrev pub AreInput : (Path → Bool) → List Path → Type 0
AreInput input paths = AllByRecursion (λ path. input path ≡ true) paths

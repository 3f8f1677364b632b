-- How far an image has been read.
use Rattle.std.specs.Prelude.{◌≡◌, ◌≢◌, ℕ, Bool, true, ◌&&◌, List, ◌++◌, map, Option, Some, Err}
use Rattle.std.specs.List.{AllByRecursion, flat_map, list_all}
use Rattle.std.specs.Option.{option_map_or}
use Rattle.std.specs.Ordering.{is_lt, nat_cmp}
use Rattle.std.specs.FinMap as fin
use Rattle.pv_path.specs.Paths.{Path, path_cmp}
use Rattle.pv_steps.specs.Trees.{Files}
use Rattle.pv_text.specs.Facts.{Values}
use Rattle.pv_image.specs.Spelling.{Shows, extras_of, fact_text, line, node_text}
use Rattle.pv_text.specs.Lines.{is_line}
use Rattle.pv_image.specs.Images.{HasFault, IsByteFact, IsCut, Stage, What, follows, is_byte_fact, is_note, judged}
use Rattle.pv_image.specs.declared.image_fault.ImageFault.{ImageFault}
use Rattle.pv_image.specs.declared.version.Version.{Version}
use Rattle.pv_image.specs.declared.image_fault.ImageFault.TheVariants as fault

-- If `rest`, from line m on, has a first fault, then `bytes`, from line n on, have the same first fault.
abbrev pub Leads : ℕ → Stage → List ℕ → ℕ → Stage → List ℕ → Type 0
Leads n stage bytes m next rest = (f : ImageFault) → HasFault m next rest f → HasFault n stage bytes f

-- The fault that was answered is the first one. Only the answer that memory ran out is always allowed.
abbrev pub Fails : ℕ → Stage → List ℕ → ImageFault → Type 0
Fails n stage bytes fault.Memory = Unit {0}
Fails n stage bytes f = HasFault n stage bytes f

-- The fault that was answered is that of this line at this stage. Only the answer that memory ran out is always
-- allowed.
abbrev pub Refuses : ℕ → Stage → What → ImageFault → Type 0
Refuses n stage what fault.Memory = Unit {0}
Refuses n stage what f = judged n stage what ≡ Some (Err f)

-- The bytes begin with some notes, and then comes `rest`.
pub record NotesRead (bytes rest : List ℕ) : Type 0 where
  pub notes : List (List ℕ)
  pub are_notes : list_all (λ note. is_note note && is_line note) notes ≡ true
  pub text : bytes ≡ flat_map line notes ++ rest

-- The bytes begin with the lines of these facts, and then comes `rest`. The facts can be written.
pub record FactsRead (bytes : List ℕ) (facts : Values) (rest : List ℕ) : Type 0 where
  pub fit : list_all is_byte_fact (fin.entries facts) ≡ true
  pub text : bytes ≡ flat_map line (map fact_text (fin.entries facts)) ++ rest

-- The bytes begin with the node lines of this tree in a version, and then comes `rest`. The version can show each
-- object.
pub record TreeRead (version : Version) (bytes : List ℕ) (files : Files) (rest : List ℕ) : Type 0 where
  pub shown : AllByRecursion (λ e. Shows version (extras_of e.1)) (fin.entries files)
  pub text : bytes ≡ flat_map line (map (node_text version) (fin.entries files)) ++ rest

-- The next line is not a fact.
abbrev pub HasNoFactNext : List ℕ → Type 0
HasNoFactNext bytes = (text rest : List ℕ) → IsCut bytes text rest → (fact : ℕ × List ℕ) → IsByteFact fact → text ≢ fact_text fact

-- Whether a letter comes after the last one, if there is one.
abbrev pub letter_after : Option ℕ → ℕ → Bool
letter_after last letter = option_map_or (λ l. is_lt (nat_cmp l letter)) last true

-- This is the last path of a tree: the same paths come after it as after the whole tree.
abbrev pub IsLastPath : Files → Path → Type 0
IsLastPath files last = (path : Path) → is_lt (path_cmp last path) ≡ follows path_cmp (fin.entries files) path

-- This is the last letter of the facts, if there is one: the same letters come after it as after all facts.
abbrev pub IsLast : Values → Option ℕ → Type 0
IsLast facts last = (letter : ℕ) → letter_after last letter ≡ follows nat_cmp (fin.entries facts) letter

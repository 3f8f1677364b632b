-- Which bytes are an image of facts and a tree, and the first fault of bytes that are not an image. The form of an
-- image and its faults are this project's own.
use Rattle.std.specs.Prelude.{◌≡◌, ℕ, suc, Bool, true, false, ◌&&◌, List, [], ◌∷◌, ◌++◌, codes, nat_eq, Option, Some, None, Result, Ok, Err, if◌then◌else◌}
use Rattle.std.specs.List.{flat_map, list_any, list_all, starts_with}
use Rattle.std.specs.Ordering.{nat_cmp, is_lt}
use Rattle.std.specs.declared.cmp.Ordering.{Ordering}
use Rattle.std.specs.FinMap as fin
use Rattle.pv_path.specs.Paths.{Path, path_cmp, same_path, parent_of}
use Rattle.pv_text.specs.Facts.{Values, is_fact}
use Rattle.pv_text.specs.Lines.{is_line}
use Rattle.pv_steps.specs.declared.object.Object.{Object}
use Rattle.pv_steps.specs.Objects.{is_directory}
use Rattle.pv_steps.specs.Trees.{Files, IsTree, places}
use Rattle.pv_steps.specs.Attributes.{are_bytes}
use Rattle.pv_image.specs.Spelling.{IsEntry, Shows, extras_of, header_text, end_text, fact_text, node_text, line, text_in}
use Rattle.pv_image.specs.declared.image_fault.ImageFault.{ImageFault}
use Rattle.pv_image.specs.declared.image_fault.ImageFault.TheVariants as fault
use Rattle.pv_image.specs.declared.version.Version.{Version}
use Rattle.pv_image.specs.declared.version.Version.TheVariants.{One, Two}

-- ---- images

-- Whether a line is a note, which reading skips: it begins with a colon and a space. Messages are written as notes.
abbrev pub is_note : List ℕ → Bool
is_note text = starts_with nat_eq text (codes ": ")

-- Whether a letter and a value are a fact, and the value consists of bytes.
abbrev pub is_byte_fact : ℕ × List ℕ → Bool
is_byte_fact fact = is_fact fact.0 fact.1 && are_bytes fact.1

-- The same as a statement.
abbrev pub IsByteFact : ℕ × List ℕ → Type 0
IsByteFact fact = is_byte_fact fact ≡ true

-- Facts and a tree have a text in a version: the facts can be written, the tree is a tree, and the version can show
-- each object.
pub record HaveText (version : Version) (facts : Values) (files : Files) : Type 0 where
  pub facts_fit : list_all is_byte_fact (fin.entries facts) ≡ true
  pub tree : IsTree files
  pub shown : (path : Path) (o : Object) → places files path ≡ Some o → Shows version (extras_of o)

-- Bytes are an image of these facts and this tree: some notes, and then the one text of the facts and the tree in
-- some version.
pub record IsImage (bytes : List ℕ) (facts : Values) (files : Files) : Type 0 where
  pub version : Version
  pub notes : List (List ℕ)
  pub are_notes : list_all (λ note. is_note note && is_line note) notes ≡ true
  pub fit : HaveText version facts files
  pub text : bytes ≡ flat_map line notes ++ text_in version facts files

-- ---- faults

-- What a line may say.
pub data What : Type 0 where
  Note : What
  Header : Version → What
  Fact : ℕ × List ℕ → What
  Node : Version → Path × Object → What
  End : What

-- A text is the spelling of what a line says. A note is any text that is a note. Everything else has one spelling.
abbrev pub Spells : List ℕ → What → Type 0
Spells text Note = is_note text ≡ true
Spells text (Header version) = text ≡ header_text version
Spells text (Fact fact) = IsByteFact fact × (text ≡ fact_text fact)
Spells text (Node version e) = IsEntry version e × (text ≡ node_text version e)
Spells text End = text ≡ end_text

-- Where the reading of an image is: before the header, after some facts, after some nodes, or after the end line.
pub data Stage : Type 0 where
  Before : Stage
  InFacts : Version → List (ℕ × List ℕ) → Stage
  InNodes : Version → List (Path × Object) → Stage
  After : Stage

-- Whether a key comes after the last key of a list. In an empty list it does.
abbrev pub follows : {K X : Type 0} → (K → K → Ordering) → List (K × X) → K → Bool
follows order [] key = true
follows order (e ∷ []) key = is_lt (order e.0 key)
follows order (e ∷ next ∷ es) key = follows order (next ∷ es) key

-- Whether these nodes have a directory at the path above this one.
abbrev pub has_parent : List (Path × Object) → Path → Bool
has_parent entries path = list_any (λ e. same_path e.0 (parent_of path) && is_directory e.1.node.kind) entries

-- Whether a node is the root, and a directory. The first node of an image must be.
abbrev pub is_root : Path × Object → Bool
is_root e = same_path e.0 [] && is_directory e.1.node.kind

-- Whether two versions are the same.
abbrev pub same_version : Version → Version → Bool
same_version One One = true
same_version Two Two = true
same_version a b = false

-- The stage after the first node, or its fault.
abbrev pub after_root : ℕ → Version → Path × Object → Result Stage ImageFault
after_root n version e = if is_root e then Ok (InNodes version (e ∷ [])) else Err (fault.NoParent n)

-- The stage after a later node, or its fault: it does not come after the last one, or the path above it is not a
-- directory among the nodes before it. The first of these counts.
abbrev pub after_node : ℕ → Version → List (Path × Object) → Path × Object → Result Stage ImageFault
after_node n version entries e =
    if follows path_cmp entries e.0 then
    if has_parent entries e.0 then Ok (InNodes version (entries ++ e ∷ [])) else Err (fault.NoParent n)
    else Err (fault.OutOfOrder n)

-- The stage after line n, or its fault. Given are the stage before it and what it says. If this is not allowed at
-- this stage, there is neither. A fact or a node must come after the one before it, and the end must not come before
-- any node.
abbrev pub judged : ℕ → Stage → What → Option (Result Stage ImageFault)
judged n Before Note = Some (Ok Before)
judged n Before (Header version) = Some (Ok (InFacts version []))
judged n (InFacts version facts) (Fact fact) = Some (if follows nat_cmp facts fact.0 then Ok (InFacts version (facts ++ fact ∷ [])) else Err (fault.OutOfOrder n))
judged n (InFacts version facts) (Node other e) = if same_version version other then Some (after_root n version e) else None
judged n (InFacts version facts) End = Some (Err (fault.NoParent n))
judged n (InNodes version entries) (Node other e) = if same_version version other then Some (after_node n version entries e) else None
judged n (InNodes version entries) End = Some (Ok After)
judged n stage what = None

-- The fault of line n if it does not spell anything that is allowed at this stage.
abbrev pub bad : ℕ → Stage → ImageFault
bad n Before = fault.BadHeader n
bad n stage = fault.BadLine n

-- Whether the bytes may end here: after the end line, with nothing left.
abbrev pub may_end : Stage → List ℕ → Bool
may_end After [] = true
may_end stage bytes = false

-- The bytes begin with the line `text` and its line feed, and then comes `rest`.
pub record IsCut (bytes text rest : List ℕ) : Type 0 where
  pub bytes_are : bytes ≡ line text ++ rest
  pub whole : is_line text ≡ true

-- The bytes from line n on have this as their first fault. The stage is that before line n.
pub data HasFault : ℕ → Stage → List ℕ → ImageFault → Type 0 where
  -- Line n has no line feed, or there is no line n although the image is not at its end.
  cut_off : {n : ℕ} {stage : Stage} {bytes : List ℕ} → is_line bytes ≡ true → may_end stage bytes ≡ false → HasFault n stage bytes (fault.Truncated n)
  -- Line n does not spell anything that is allowed at this stage.
  misspelt : {n : ℕ} {stage : Stage} {bytes text rest : List ℕ} → IsCut bytes text rest → ((what : What) → Spells text what → judged n stage what ≡ None) → HasFault n stage bytes (bad n stage)
  -- Line n spells something allowed, but it has a fault after the lines before it.
  misplaced : {n : ℕ} {stage : Stage} {bytes text rest : List ℕ} {f : ImageFault} (what : What) → IsCut bytes text rest → Spells text what → judged n stage what ≡ Some (Err f) → HasFault n stage bytes f
  -- Line n is right, and a later line has the fault.
  later : {n : ℕ} {stage next : Stage} {bytes text rest : List ℕ} {f : ImageFault} (what : What) → IsCut bytes text rest → Spells text what → judged n stage what ≡ Some (Ok next)
      → HasFault (suc n) next rest f → HasFault n stage bytes f

-- This is the first fault of bytes that are not an image. Lines are counted from 1.
abbrev pub HasImageFault : List ℕ → ImageFault → Type 0
HasImageFault bytes f = HasFault 1 Before bytes f

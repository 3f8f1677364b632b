-- What lines that are refused at no turn leave at each path by itself, timestamps and staging names aside.
use Rattle.std.specs.Prelude.{◌≡◌, ◌≢◌, ◌⊎◌, ℕ, Bool, true, false, not, cond, ◌||◌, ◌==◌, List, [], ◌∷◌, filter, find, Option, Some, None, is_some, option_map, unwrap_or}
use Rattle.std.proofs.Common.{refl, sym, ap, subst, ◌∙◌, inl, inr, arith}
use Rattle.std.specs.List.{list_all, AllByRecursion}
use Rattle.std.specs.FinMap as fin
use Rattle.std.proofs.lemmas.Bool.{and_parts, not-false, or_parts}
use Rattle.pv_path.specs.Paths.{has_names, Path, is_prefix, has_staging}
use Rattle.pv_steps.specs.declared.why.Why.{Why}
use Rattle.pv_steps.specs.Objects.{is_directory}
use Rattle.pv_steps.specs.Refusal.{refusal}
use Rattle.pv_steps.specs.Trees.{Files, places}
use Rattle.pv_walk.specs.declared.object_state.ObjectState.{ObjectState}
use Rattle.pv_walk.specs.Dividing.{parts}
use Rattle.pv_walk.specs.Nodes.{object_states_of}
use Rattle.pv_walk.specs.Operations.{run}
use Rattle.pv_walk.proofs.Dividing.{run-parts}
use Rattle.pv_walk.proofs.OperationLaws.{run-append}
use Rattle.pv_lines.specs.declared.line.Line.{Line}
use Rattle.pv_lines.specs.declared.line.LinePath.{LinePath}
use Rattle.pv_lines.specs.declared.line.LinePath.TheVariants.{Literal, Glob}
use Rattle.pv_lines.specs.declared.line.Argument.{Argument}
use Rattle.pv_lines.specs.declared.line.Argument.TheVariants as argument
use Rattle.pv_lines.specs.Lines.{IsArgument, IsConfigured, IsLine, IsLinePath}
use Rattle.pv_lines.specs.PathField.{is_root}
use Rattle.pv_lines.specs.Types.{types}
use Rattle.pv_walk.specs.Staging.{new_kind}
use Rattle.pv_walk.proofs.PreparingSweep.{unrefused_pass}
use Rattle.pv_table.specs.declared.action.Copying.{Copying}
use Rattle.pv_table.specs.declared.action.Action.{Action}
use Rattle.pv_table.specs.declared.action.Action.TheVariants.{Create, Copy, Adjust, Idle}
use Rattle.pv_table.specs.declared.action.Making.{Making}
use Rattle.pv_table.specs.declared.action.Adjustment.{Adjustment}
use Rattle.pv_table.specs.Active.{is_adjusting_line}
use Rattle.pv_table.specs.Asked.{made_at, operations, operations_of}
use Rattle.pv_table.specs.ActionTable.{action_of, source_of}
use Rattle.pv_table.specs.Created.{by_turn, by_line}
use Rattle.pv_steps.specs.Doing.{after_each, one_is_refused}
use Rattle.pv_table.specs.Effects.{carried_out, turns}
use Rattle.pv_table.specs.Pointwise.{adjusts_path}
use Rattle.pv_table.specs.Reaching.{names, path_in, is_creating}
use Rattle.pv_table.specs.Turns.{copied, owner_made, refused_at, Refused}
use Rattle.pv_laws.proofs.Making.{is_dir, IsShaped, made_point}
use Rattle.pv_laws.proofs.Sets.{impossible, is_adjustment, IsMaking, line_is_making, adjusted_none, IsAsked, makes, copies, adjusts as sets_owners, writes, sets, idle, asked}
use Rattle.pv_laws.proofs.Shapes.{IsLike, adjusted_like, made_shaped, shape_same, shaped_like, kind_dir}
use Rattle.pv_laws.proofs.Adjustment.{turn_open, first_turn, set_point, adjusts}

-- ---- lines as they are read

-- the same line with another letter
abbrev lettered : Line → ℕ → Line
lettered line letter = record line { letter = letter }

-- what holds of each of some things holds of the one that is found
find_all : {A : Type 0} (P : A → Type 0) (found : A → Bool) (xs : List A) → AllByRecursion P xs → (x : A) → find found xs ≡ Some x → P x
find_all P found [] all x e = absurd (let no : None ≡ Some x = e in cc)
find_all P found (y ∷ ys) all x e = by (found y) (find_all P found ys all.1) e
  where
    same : (u : _) → Some u ≡ Some x → u ≡ x
    same u h = cc

    by : (f : Bool) → ((z : _) → find found ys ≡ Some z → P z) → cond f (Some y) (find found ys) ≡ Some x → P x
    by true later g = subst P (same y g) all.0
    by false later g = later x g

module _ {A : Type 0} (P : A → Type 0) (rows : List (ℕ × A)) (letter : ℕ) (row : A) where
  row_has : option_map (λ (entry : ℕ × A). entry.1) (find (λ (entry : ℕ × A). entry.0 == letter) rows) ≡ Some row → AllByRecursion (λ (entry : ℕ × A). P entry.1) rows → P row
  row_has e all = by (find (λ (entry : ℕ × A). entry.0 == letter) rows) refl e
    where
      last : (u : A) → Some u ≡ Some row → u ≡ row
      last u h = cc

      by : (found : Option (ℕ × A)) → find (λ (entry : ℕ × A). entry.0 == letter) rows ≡ found → option_map (λ (entry : ℕ × A). entry.1) found ≡ Some row → P row
      by None f g = absurd (let no : None ≡ Some row = g in cc)
      by (Some entry) f g = subst P (last entry.1 g) (find_all (λ (x : ℕ × A). P x.1) (λ (x : ℕ × A). x.0 == letter) rows all entry f)

-- so does a test
each_holds : {A : Type 0} (test : A → Bool) (xs : List A) → list_all test xs ≡ true → AllByRecursion (λ x. test x ≡ true) xs
each_holds test [] h = tt
each_holds test (x ∷ xs) h = let two = and_parts (test x) (list_all test xs) h in (two.0, each_holds test xs two.1)

row_holds : {A : Type 0} (rows : List (ℕ × A)) (test : A → Bool) (letter : ℕ) (row : A)
    → option_map (λ (entry : ℕ × A). entry.1) (find (λ (entry : ℕ × A). entry.0 == letter) rows) ≡ Some row → list_all (λ (entry : ℕ × A). test entry.1) rows ≡ true → test row ≡ true
row_holds {A} rows test letter row e all = row_has (λ r. test r ≡ true) rows letter row e (each_holds (λ (entry : ℕ × A). test entry.1) rows all)

needs : (a b : Bool) → b ≡ true → (a || not b) ≡ true → a ≡ true
needs a b h g = grind arith

excludes : (a b : Bool) → a ≡ true → (not a || not b) ≡ true → b ≡ false
excludes a b h g = grind arith

-- whether an action copies
abbrev is_copied : Action → Bool
is_copied (Copy copying) = true
is_copied action = false

-- whether an action makes an object, and whether it makes one but a directory
abbrev is_made : Action → Bool
is_made (Create making) = true
is_made action = false

abbrev is_made_else : Action → Bool
is_made_else (Create making) = not (is_directory (new_kind making.new.what))
is_made_else action = false

-- a line copies, or it copies nothing
pub copies_or_not : {P : Type 0} (line : Line) → ((copying : Copying) → action_of line ≡ Copy copying → P) → (copied (action_of line) ≡ None → P) → P
copies_or_not {P} line copy none = by (action_of line) refl
  where
    by : (d : Action) → action_of line ≡ d → P
    by (Create making) e = none (ap copied e)
    by (Copy copying) e = copy copying e
    by (Adjust adjustment) e = none (ap copied e)
    by Idle e = none (ap copied e)

module _ (line : Line) (is : IsLine line) where
  own_letter : lettered line is.row.letter ≡ line
  own_letter = λ i. record line { letter = sym is.fits.letter i }

  -- only types that create make an object
  pub made_creates : (making : Making) → action_of line ≡ Create making → is.row.creates ≡ true
  made_creates making e =
      needs is.row.creates (is_made (action_of (lettered line is.row.letter))) (ap (λ (l : Line). is_made (action_of l)) own_letter ∙ ap is_made e)
      (row_holds types (λ row. row.creates || not (is_made (action_of (lettered line row.letter)))) line.letter is.row is.is_type refl)

  -- they adjust nothing that is there
  pub creating_adjusts_none : is.row.creates ≡ true → is_adjusting_line line ≡ false
  creating_adjusts_none c =
      sym (ap is_adjusting_line own_letter)
      ∙ excludes is.row.creates (is_adjusting_line (lettered line is.row.letter)) c (row_holds types (λ row. not row.creates || not (is_adjusting_line (lettered line row.letter))) line.letter is.row is.is_type refl)

  -- and of those for which the root is allowed each makes a directory
  pub root_is_directory : (making : Making) → action_of line ≡ Create making → is.row.root ≡ true → is_directory (new_kind making.new.what) ≡ true
  root_is_directory making e r =
      not-false (is_directory (new_kind making.new.what)) (excludes is.row.root (not (is_directory (new_kind making.new.what))) r (
      ap (λ (d : Action). not is.row.root || not (is_made_else d)) (sym e)
      ∙ ap (λ (l : Line). not is.row.root || not (is_made_else (action_of l))) (sym own_letter)
      ∙ row_holds types (λ row. not row.root || not (is_made_else (action_of (lettered line row.letter)))) line.letter is.row is.is_type refl))

  -- so do those that copy, and they do not allow the root
  copy_creates : (copying : Copying) → action_of line ≡ Copy copying → (is.row.creates ≡ true) × (is.row.root ≡ false)
  copy_creates copying e = (
    needs is.row.creates (is_copied (action_of (lettered line is.row.letter))) is_one (row_holds types (λ row. row.creates || not (is_copied (action_of (lettered line row.letter)))) line.letter is.row is.is_type refl),
    at is.row.root (is_copied (action_of (lettered line is.row.letter))) is_one (row_holds types (λ row. not row.root || not (is_copied (action_of (lettered line row.letter)))) line.letter is.row is.is_type refl),
  )
    where
      is_one : is_copied (action_of (lettered line is.row.letter)) ≡ true
      is_one = ap (λ (l : Line). is_copied (action_of l)) own_letter ∙ ap is_copied e

      at : (root copied_there : Bool) → copied_there ≡ true → (not root || not copied_there) ≡ true → root ≡ false
      at root copied_there m h = grind arith

  -- what creates names one path
  creates_literal : is.row.creates ≡ true → line.path ≡ Literal (path_in line.path)
  creates_literal creates = grind arith

  pub copy_literal : (copying : Copying) → action_of line ≡ Copy copying → line.path ≡ Literal (path_in line.path)
  copy_literal copying e = creates_literal (copy_creates copying e).0

  -- the path that a line names, where it names one, has names
  pub path_named : has_names (path_in line.path) ≡ true
  path_named = by line.path is.fits.path
    where
      by : (p : LinePath) → IsLinePath is.row p → has_names (path_in p) ≡ true
      by (Literal path) h = h.1.names
      by (Glob pattern) h = refl

  pub copy_path : (copying : Copying) → action_of line ≡ Copy copying → (has_staging (path_in line.path) ≡ false) × (path_in line.path ≢ [])
  copy_path copying e = (plain line.path is.fits.path, λ none. impossible (sym (copy_creates copying e).1 ∙ (is.fits.root (at_root line.path is.fits.path (copy_creates copying e).0 none)).0))
    where
      plain : (p : LinePath) → IsLinePath is.row p → has_staging (path_in p) ≡ false
      plain (Literal path) h = h.1.unstaged
      plain (Glob pattern) h = refl

      at_root : (p : LinePath) → IsLinePath is.row p → is.row.creates ≡ true → path_in p ≡ [] → is_root p ≡ true
      at_root (Literal []) h c none = refl
      at_root (Literal (name ∷ path)) h c none = absurd (let no : name ∷ path ≡ [] = none in cc)
      at_root (Glob pattern) h c none = impossible (sym h.0 ∙ c)

  -- a source has no staging name
  source_configured : (source : Path) → IsArgument is.row.wanted (argument.Source source) → IsConfigured source
  source_configured source = row_has (λ row. IsArgument row.wanted (argument.Source source) → IsConfigured source) types line.letter is.row is.is_type (
    (λ h. absurd h),
    ((λ h. absurd h), ((λ h. absurd h), ((λ h. absurd h), ((λ h. absurd h), ((λ h. absurd h), ((λ h. absurd h), ((λ h. absurd h), ((λ h. absurd h), ((λ h. absurd h), ((λ h. absurd h), ((λ h. h), ((λ h. absurd h), ((λ h. absurd h), ((λ h. absurd h), ((λ h. absurd h), ((λ h. absurd h), ((λ h. absurd h), ((λ h. absurd h), ((λ h. absurd h), ((λ h. absurd h), ((λ h. absurd h), ((λ h. absurd h), ((λ h. absurd h), ((λ h. absurd h), ((λ h. absurd h), tt))))))))))))))))))))))))),
  )

  -- what is read as a source, or the root
  source_read : (test : Path → Bool) (b : Bool) → test [] ≡ b → ((source : Path) → IsConfigured source → test source ≡ b) → (copying : Copying) → action_of line ≡ Copy copying → test copying.source ≡ b
  source_read test b root read copying e = ap (λ (d : Action). test (unwrap_or (copied d) [])) (sym e) ∙ by (asked line)
    where
      plain : (a : Argument) → IsArgument is.row.wanted a → test (source_of a) ≡ b
      plain (argument.FileBytes bytes) h = root
      plain (argument.WriteBytes bytes) h = root
      plain (argument.Target target) h = root
      plain (argument.Source source) h = read source (source_configured source h)
      plain (argument.Device major minor) h = root
      plain (argument.Entries entries) h = root
      plain (argument.Attrs attrs) h = root
      plain (argument.Letters how letters) h = root
      plain argument.Ignored h = root

      by : IsAsked line (action_of line) → test (unwrap_or (copied (action_of line)) []) ≡ b
      by (makes what file f) = ap (λ (d : Action). test (unwrap_or (copied d) [])) f ∙ root
      by (copies f) = ap (λ (d : Action). test (unwrap_or (copied d) [])) f ∙ plain line.argument is.fits.argument
      by (sets_owners deep wanted guard f) = ap (λ (d : Action). test (unwrap_or (copied d) [])) f ∙ root
      by (writes f) = ap (λ (d : Action). test (unwrap_or (copied d) [])) f ∙ root
      by (sets deep f) = ap (λ (d : Action). test (unwrap_or (copied d) [])) f ∙ root
      by (idle f) = ap (λ (d : Action). test (unwrap_or (copied d) [])) f ∙ root

  pub copy_source : (copying : Copying) → action_of line ≡ Copy copying → has_staging copying.source ≡ false
  copy_source = source_read has_staging false refl (λ source is. is.unstaged)

  pub source_named : (copying : Copying) → action_of line ≡ Copy copying → has_names copying.source ≡ true
  source_named = source_read has_names true refl (λ source is. is.names)

  -- and so the line that makes an object names one path
  pub made_literal : (making : Making) → action_of line ≡ Create making → line.path ≡ Literal (path_in line.path)
  made_literal making e = creates_literal (made_creates making e)

  -- a line that names one path is of such a type
  pub creating_row : is_creating line ≡ true → is.row.creates ≡ true
  creating_row h = grind arith

-- a line that copies nothing, as the laws need it: its path has names and no staging name, and at the root it makes a
-- directory
pub record IsPlain (line : Line) : Type 0 where
  pub no_copy : copied (action_of line) ≡ None
  pub named : has_names (path_in line.path) ≡ true
  pub unstaged : has_staging (path_in line.path) ≡ false
  pub rooted : (making : Making) → action_of line ≡ Create making → path_in line.path ≡ [] → is_directory (new_kind making.new.what) ≡ true

-- each line that was read, and copies nothing, is one
pub line_is_plain : (line : Line) → IsLine line → copied (action_of line) ≡ None → IsPlain line
line_is_plain line is none = record {
  no_copy = none;
  named = path_named line is;
  unstaged = unstaged line.path is.fits.path;
  rooted = λ making e at. root_is_directory line is making e (is.fits.root (rooted line.path is.fits.path (made_creates line is making e) at)).0;
}
  where
    unstaged : (p : LinePath) → IsLinePath is.row p → has_staging (path_in p) ≡ false
    unstaged (Literal path) h = h.1.unstaged
    unstaged (Glob pattern) h = refl

    rooted : (p : LinePath) → IsLinePath is.row p → is.row.creates ≡ true → path_in p ≡ [] → is_root p ≡ true
    rooted (Literal []) h c e = refl
    rooted (Literal (name ∷ path)) h c e = absurd (let no : name ∷ path ≡ [] = e in cc)
    rooted (Glob pattern) h c e = impossible (sym h.0 ∙ c)

-- ---- one line

-- a line that makes an object and is not refused can pass along its path
made_refusal : (line : Line) (making : Making) → action_of line ≡ Create making → (path : Path) (t : Files) → refused_at line path (places t) ≡ None → refusal (places t) path (owner_made line (places t)) ≡ None
made_refusal line making e path t quiet = by (refusal (places t) path (owner_made line (places t))) refl
  where
    shown : refused_at line path (places t) ≡ option_map (λ (place : ℕ × Why). Refused.named path place.0 place.1) (refusal (places t) path (owner_made line (places t)))
    shown = rw e

    by : (r : Option (ℕ × Why)) → refusal (places t) path (owner_made line (places t)) ≡ r → r ≡ None
    by None f = refl
    by (Some place) f = absurd (let no : Some (Refused.named path place.0 place.1) ≡ None = sym (shown ∙ ap (option_map (λ (p : ℕ × Why). Refused.named path p.0 p.1)) f) ∙ quiet in cc)

-- each present place above it is a directory
pub made_passes : (line : Line) (making : Making) → action_of line ≡ Create making → (path : Path) (t : Files) → refused_at line path (places t) ≡ None
    → (p : Path) → is_prefix p path ≡ true → p ≢ path → is_some (object_states_of (places t) p) ≡ true → is_dir (object_states_of (places t) p) ≡ true
made_passes line making e path t free p high other h =
    kind_dir (places t p) (unrefused_pass path (owner_made line (places t)) t (made_refusal line making e path t free) p (high, other) (grind arith))

pub turns_made : (line : Line) (making : Making) (t : Files) → action_of line ≡ Create making → turns line t ≡ path_in line.path ∷ []
turns_made line making t e = rw e

pub turns_adjust : (line : Line) (adjustment : Adjustment) (t : Files) → action_of line ≡ Adjust adjustment → turns line t ≡ filter (names line) (fin.keys t)
turns_adjust line adjustment t e = rw e

pub turns_idle : (line : Line) (t : Files) → action_of line ≡ Idle → turns line t ≡ []
turns_idle line t e = rw e

pub asked_made : (line : Line) (making : Making) (q : Path) → action_of line ≡ Create making → operations line q ≡ made_at making (path_in line.path) q
asked_made line making q e = rw e

pub asked_adjustment : (line : Line) (adjustment : Adjustment) (q : Path) → action_of line ≡ Adjust adjustment → operations line q ≡ cond (adjusts_path line adjustment q) adjustment.sets []
asked_adjustment line adjustment q e = rw e

pub asked_idle : (line : Line) (q : Path) → action_of line ≡ Idle → operations line q ≡ []
asked_idle line q e = rw e

-- what a line leaves has the shape, and at each path what its operations make of what stood there
pub record IsPointwise (line : Line) (t u : Files) : Type 0 where
  pub point : (q : Path) → has_staging q ≡ false → object_states_of (places u) q ≡ run (operations line q) (object_states_of (places t) q)
  pub shape : IsShaped (object_states_of (places u))

module _ (now : ℕ) (line : Line) (is : IsPlain line) (t : Files) (shape : IsShaped (object_states_of (places t))) where
  -- it is refused at none of some paths
  abbrev IsQuietAt : List Path → Type 0
  IsQuietAt paths = one_is_refused (by_turn now line) paths t ≡ false

  abbrev left_by : List Path → Files
  left_by paths = after_each (by_turn now line) paths t

  made_line : (making : Making) → action_of line ≡ Create making → IsQuietAt (path_in line.path ∷ []) → IsPointwise line t (left_by (path_in line.path ∷ []))
  made_line making e quiet = record { point = point; shape = shaped }
    where
      path : Path
      path = path_in line.path

      free : refused_at line path (places t) ≡ None
      free = (first_turn now line path [] t quiet).0

      is_making : IsMaking making
      is_making = line_is_making line making e

      done_there : left_by (path ∷ []) ≡ carried_out now (Create making) path t
      done_there = turn_open now line path t free ∙ ap (λ (d : Action). carried_out now d path t) e

      made : (q : Path) → has_staging q ≡ false → object_states_of (places (left_by (path ∷ []))) q ≡ run (made_at making path q) (object_states_of (places t) q)
      made q plain = ap (λ (u : Files). object_states_of (places u) q) done_there ∙ made_point now making is_making path is.unstaged t shape q plain

      point : (q : Path) → has_staging q ≡ false → object_states_of (places (left_by (path ∷ []))) q ≡ run (operations line q) (object_states_of (places t) q)
      point q plain = made q plain ∙ ap (λ xs. run xs (object_states_of (places t) q)) (sym (asked_made line making q e))

      shaped : IsShaped (object_states_of (places (left_by (path ∷ []))))
      shaped = shape_same (λ q. run (made_at making path q) (object_states_of (places t) q)) (object_states_of (places (left_by (path ∷ [])))) made (
          made_shaped making is_making path is.unstaged (object_states_of (places t)) shape (is.rooted making e)
          (made_passes line making e path t free) is.named)

  adjust_line : (adjustment : Adjustment) → action_of line ≡ Adjust adjustment → IsQuietAt (filter (names line) (fin.keys t)) → IsPointwise line t (left_by (filter (names line) (fin.keys t)))
  adjust_line adjustment e quiet = record { point = point; shape = shaped_like (object_states_of (places t)) (object_states_of (places (left_by (filter (names line) (fin.keys t))))) like shape }
    where
      set : (q : Path) → has_staging q ≡ false → object_states_of (places (left_by (filter (names line) (fin.keys t)))) q ≡ run (cond (adjusts_path line adjustment q) adjustment.sets []) (object_states_of (places t) q)
      set q plain = set_point now line adjustment e t shape quiet q plain

      point : (q : Path) → has_staging q ≡ false → object_states_of (places (left_by (filter (names line) (fin.keys t)))) q ≡ run (operations line q) (object_states_of (places t) q)
      point q plain = set q plain ∙ ap (λ xs. run xs (object_states_of (places t) q)) (sym (asked_adjustment line adjustment q e))

      adjust : list_all is_adjustment adjustment.sets ≡ true
      adjust = adjusts now line adjustment e t shape

      like : (q : Path) → has_staging q ≡ false → (object_states_of (places (left_by (filter (names line) (fin.keys t)))) q ≡ object_states_of (places t) q)
          ⊎ ((x : ObjectState) × (y : ObjectState) × (object_states_of (places t) q ≡ Some x) × (object_states_of (places (left_by (filter (names line) (fin.keys t)))) q ≡ Some y) × IsLike x y)
      like q plain = by (adjusts_path line adjustment q) (object_states_of (places t) q) refl (set q plain)
        where
          by : (b : Bool) (o : Option ObjectState) → object_states_of (places t) q ≡ o → object_states_of (places (left_by (filter (names line) (fin.keys t)))) q ≡ run (cond b adjustment.sets []) (object_states_of (places t) q)
              → (object_states_of (places (left_by (filter (names line) (fin.keys t)))) q ≡ object_states_of (places t) q)
              ⊎ ((x : ObjectState) × (y : ObjectState) × (object_states_of (places t) q ≡ Some x) × (object_states_of (places (left_by (filter (names line) (fin.keys t)))) q ≡ Some y) × IsLike x y)
          by false o f g = inl g
          by true None f g = inl (g ∙ ap (run adjustment.sets) f ∙ adjusted_none adjustment.sets adjust ∙ sym f)
          by true (Some x) f g = let same = adjusted_like adjustment.sets adjust x in inr (x, same.0, f, g ∙ ap (run adjustment.sets) f ∙ same.1, same.2)

  idle_line : action_of line ≡ Idle → IsPointwise line t t
  idle_line e = record { point = λ q plain. ap (λ xs. run xs (object_states_of (places t) q)) (sym (asked_idle line q e)); shape = shape }

  -- each line that copies nothing
  pub line_point : (by_line now).is_refused line t ≡ false → IsPointwise line t ((by_line now).after line t)
  line_point quiet = by (action_of line) refl
    where
      by : (d : Action) → action_of line ≡ d → IsPointwise line t ((by_line now).after line t)
      by (Create making) e =
          subst (λ paths. IsPointwise line t (left_by paths)) (sym (turns_made line making t e)) (made_line making e (ap (λ paths. one_is_refused (by_turn now line) paths t) (sym (turns_made line making t e)) ∙ quiet))
      by (Copy copying) e = absurd (let no : Some copying.source ≡ None = sym (ap copied e) ∙ is.no_copy in cc)
      by (Adjust adjustment) e =
          subst (λ paths. IsPointwise line t (left_by paths)) (sym (turns_adjust line adjustment t e)) (adjust_line adjustment e (ap (λ paths. one_is_refused (by_turn now line) paths t) (sym (turns_adjust line adjustment t e)) ∙ quiet))
      by Idle e = subst (λ paths. IsPointwise line t (left_by paths)) (sym (turns_idle line t e)) (idle_line e)

-- ---- lines one after the other

-- lines that are refused at no turn leave at each path what their operations make of what stood there
pub lines_point : (now : ℕ) (lines : List Line) (t : Files) → AllByRecursion IsPlain lines → IsShaped (object_states_of (places t)) → one_is_refused (by_line now) lines t ≡ false
    → (q : Path) → has_staging q ≡ false → object_states_of (places (after_each (by_line now) lines t)) q ≡ run (operations_of lines q) (object_states_of (places t) q)
lines_point now [] t are shape quiet q plain = refl
lines_point now (line ∷ lines) t are shape quiet q plain =
    let two = or_parts ((by_line now).is_refused line t) (one_is_refused (by_line now) lines ((by_line now).after line t)) quiet in
    let one = line_point now line are.0 t shape two.0 in
    lines_point now lines ((by_line now).after line t) are.1 one.shape two.1 q plain
    ∙ ap (run (operations_of lines q)) (one.point q plain ∙ sym (run-parts (operations line q) (object_states_of (places t) q)))
    ∙ sym (run-append (parts (operations line q)) (operations_of lines q) (object_states_of (places t) q))

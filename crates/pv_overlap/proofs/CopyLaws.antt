-- A line that copies has a path, and neither that nor what it copies has a staging name; what it makes goes with all below.
use Rattle.std.proofs.Common.{◌≡◌, ℕ, Bool, true, false, ◌||◌, ◌==◌, List, [], ◌∷◌, Some, None, is_some, cond, arith, refl, sym, ap, ◌∙◌, subst}
use Rattle.std.specs.Prelude.{find}
use Rattle.std.specs.Option.{option_map_or}
use Rattle.std.proofs.lemmas.Bool.{eqb-true}
use Rattle.std.proofs.lemmas.Option.{same_Some}
use Rattle.pv_path.specs.Paths.{Path, has_names, has_staging, is_prefix}
use Rattle.pv_lines.specs.declared.line.Argument.{Argument}
use Rattle.pv_lines.specs.declared.line.Argument.TheVariants as argument
use Rattle.pv_lines.specs.declared.line.Line.{Line}
use Rattle.pv_lines.specs.declared.line.LinePath.{LinePath}
use Rattle.pv_lines.specs.declared.line.LinePath.TheVariants.{Literal, Glob}
use Rattle.pv_lines.specs.Lines.{IsArgument, IsConfigured, IsLine, IsLinePath}
use Rattle.pv_lines.specs.Types.{type_of}
use Rattle.pv_table.specs.declared.action.Action.{Action}
use Rattle.pv_table.specs.declared.action.Action.TheVariants.{Create, Copy, Adjust, Idle}
use Rattle.pv_table.specs.ActionTable.{action_of, copying, actions, source_of, sparing_of, taking_of}
use Rattle.pv_table.specs.Reaching.{is_deep, path_in, reaches, reaches_below, spares_below, takes_below}
use Rattle.pv_table.specs.Turns.{copied}
use Rattle.pv_overlap.specs.Subjects.{plains_of}
use Rattle.pv_overlap.proofs.ReachLaws.{IsUnstaged, Named, named-reaches, under_names}

-- the path of a line that was read has no staging name
pub unstaged : (line : Line) → IsLine line → IsUnstaged line.path
unstaged line is = by line.path is.fits.path
  where
    by : (path : LinePath) → IsLinePath is.row path → IsUnstaged path
    by (Literal path) fits = fits.1.unstaged
    by (Glob pattern) fits = tt

-- the path of a line that makes something can stand in a tree
pub named_there : (line : Line) → IsLine line → has_names (path_in line.path) ≡ true
named_there line is = by line.path is.fits.path
  where
    by : (path : LinePath) → IsLinePath is.row path → has_names (path_in path) ≡ true
    by (Literal path) fits = fits.1.names
    by (Glob pattern) fits = refl

-- ---- the letter of what copies

abbrev copies : Action → Bool
copies action = is_some (copied action)

abbrev Each : (ℕ × (Line → Action) → Type 0) → List (ℕ × (Line → Action)) → Type 0
Each P [] = Unit {0}
Each P (row ∷ rows) = P row × Each P rows

abbrev IsCopy : ℕ × (Line → Action) → Type 0
IsCopy row = (line : Line) → copies (row.1 line) ≡ true → row.0 ≡ 67

rows_copy : Each IsCopy actions
rows_copy = (λ line h. cc, (λ line h. cc, (λ line h. cc, (λ line h. cc, (λ line h. cc, (λ line h. cc, (λ line h. cc, (λ line h. cc, (λ line h. cc, (λ line h. cc, (λ line h. refl, (λ line h. cc, (λ line h. cc, (λ line h. cc, (λ line h. cc, (λ line h. cc, (λ line h. cc, (λ line h. cc, (λ line h. cc, (λ line h. cc, (λ line h. cc, tt)))))))))))))))))))))

found_copies : (rows : List (ℕ × (Line → Action))) → Each IsCopy rows → (line : Line) → copies (option_map_or (λ row. row.1 line) (find (λ row. row.0 == line.letter) rows) Idle) ≡ true → line.letter ≡ 67
found_copies [] each line h = absurd (let no : false ≡ true = h in cc)
found_copies (row ∷ rows) each line h = by (row.0 == line.letter) refl (found_copies rows each.1 line) h
  where
    by : (b : Bool) → (row.0 == line.letter) ≡ b → (copies (option_map_or (λ row. row.1 line) (find (λ row. row.0 == line.letter) rows) Idle) ≡ true → line.letter ≡ 67)
        → copies (option_map_or (λ row. row.1 line) (cond b (Some row) (find (λ row. row.0 == line.letter) rows)) Idle) ≡ true → line.letter ≡ 67
    by true e rest h = sym (eqb-true row.0 line.letter e) ∙ each.0 line h
    by false e rest h = rest h

module _ (line : Line) (is : IsLine line) (source : Path) (copies_it : copied (action_of line) ≡ Some source) where
  letter_is : line.letter ≡ 67
  letter_is = found_copies actions rows_copy line (ap is_some copies_it)

  row_is : type_of 67 ≡ Some is.row
  row_is = ap type_of (sym letter_is) ∙ is.is_type

  creates : is.row.creates ≡ true
  creates = ap (λ row. row.creates) (sym (same_Some _ is.row row_is))

  configured : (path : Path) → IsArgument is.row.wanted (argument.Source path) → IsConfigured path
  configured path = subst (λ row. IsArgument row.wanted (argument.Source path) → IsConfigured path) (same_Some _ is.row row_is) (λ h. h)

  pub copy_literal : line.path ≡ Literal (path_in line.path)
  copy_literal = by line.path is.fits.path
    where
      by : (path : LinePath) → IsLinePath is.row path → path ≡ Literal (path_in path)
      by (Literal path) fits = refl
      by (Glob pattern) fits = absurd (let no : false ≡ true = sym fits.0 ∙ creates in cc)

  copying_is : action_of line ≡ copying line
  copying_is = λ i. action_of (record line { letter = letter_is i })

  pub source_unstaged : has_staging source ≡ false
  source_unstaged = sym (ap has_staging argument_is) ∙ by line.argument is.fits.argument
    where
      argument_is : source_of line.argument ≡ source
      argument_is = same_Some (source_of line.argument) source (sym (ap copied copying_is) ∙ copies_it)

      by : (a : Argument) → IsArgument is.row.wanted a → has_staging (source_of a) ≡ false
      by (argument.FileBytes bytes) h = refl
      by (argument.WriteBytes bytes) h = refl
      by (argument.Target target) h = refl
      by (argument.Source path) h = (configured path h).unstaged
      by (argument.Device major minor) h = refl
      by (argument.Entries entries) h = refl
      by (argument.Attrs attrs) h = refl
      by (argument.Letters how letters) h = refl
      by argument.Ignored h = refl

  deep : (action : Action) → copied action ≡ Some source → is_deep action ≡ true
  deep (Create making) e = absurd (let no : None ≡ Some source = e in cc)
  deep (Copy copying) e = refl
  deep (Adjust adjustment) e = absurd (let no : None ≡ Some source = e in cc)
  deep Idle e = absurd (let no : None ≡ Some source = e in cc)

  copy_below : reaches_below line ≡ true
  copy_below = ap (λ (t : Bool). t || takes_below (taking_of line) || option_map_or spares_below (sparing_of line) false || is_some line.age || line.purge) (deep (action_of line) copies_it)

  -- such a line reaches its path with all below it
  pub copy_reaches : (q : Path) → is_prefix (path_in line.path) q ≡ true → reaches line q ≡ true
  copy_reaches q above = named-reaches line (unstaged line is) q (subst (λ (t : Bool). Named (plains_of line.path) t q) (sym copy_below) (subst (λ (path : LinePath). Named (plains_of path) true q) (sym copy_literal) found))
    where
      own : has_staging (path_in line.path) ≡ false
      own = subst IsUnstaged copy_literal (unstaged line is)

      found : Named (plains_of (Literal (path_in line.path))) true q
      found = (0, omega arith, under_names line (unstaged line is) (path_in line.path) own q above)

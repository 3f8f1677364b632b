-- Laws of the table: what a line copies, by the letter of its type.
use Rattle.std.specs.Prelude.{◌≡◌, ℕ, ◌^◌, ◌<◌, true, false, ◌==◌, [], ◌∷◌, length, find, Option, Some, None, IfSome}
use Rattle.std.specs.List.{AllByRecursion}
use Rattle.std.specs.Option.{option_map_or}
use Rattle.std.proofs.Common.{refl, sym, ap, subst, ◌∙◌, arith}
use Rattle.std.proofs.lemmas.Bool.Decides.{nat_tests}
use Rattle.pv_walk.specs.declared.operation.Guard.TheVariants.{Every, NoLink}
use Rattle.pv_walk.specs.declared.operation.Change.TheVariants.{Owner}
use Rattle.pv_walk.specs.declared.operation.Operation.TheVariants.{Apply}
use Rattle.pv_lines.specs.declared.line.Argument.{Argument}
use Rattle.pv_lines.specs.declared.line.Argument.TheVariants as argument
use Rattle.pv_lines.specs.declared.line.Line.{Line}
use Rattle.pv_lines.specs.declared.line.LineId.{LineId}
use Rattle.pv_lines.specs.declared.line.LinePath.{LinePath}
use Rattle.pv_lines.specs.declared.line.LinePath.TheVariants.{Literal, Glob}
use Rattle.pv_lines.specs.Lines.{AreIds, IsArgument, IsConfigured, IsLine, IsLinePath}
use Rattle.pv_lines.specs.Types.{type_of}
use Rattle.pv_path.specs.Paths.{Path}
use Rattle.pv_steps.specs.Objects.{IsId}
use Rattle.pv_table.specs.declared.action.Copying.{Copying}
use Rattle.pv_table.specs.declared.action.Action.{Action}
use Rattle.pv_table.specs.declared.action.Action.TheVariants.{Create, Copy, Adjust, Idle}
use Rattle.pv_table.specs.ActionTable.{action_of, actions, id_for_new, id_to_set, mode_to_set, owners_and_mode, source_of, without_links}
use Rattle.pv_create.specs.Sets.{AreSets}
use Rattle.pv_create.specs.Actions.{IsCopying}
use Rattle.pv_create.proofs.TableLaws.{found, named, mode_set_by, root_named}
use Rattle.pv_create.proofs.AskedSets.{owner_ids}

-- what is copied, as the table says
abbrev copying_of : Line → Copying
copying_of line = record {
  source = source_of line.argument;
  mode = line.mode;
  uid = id_for_new line.user;
  gid = id_for_new line.group;
  renews = line.replace;
  sets = owners_and_mode Every line;
}

-- a line that copies
record IsCopier (line : Line) (copying : Copying) : Type 0 where
  is : copying ≡ copying_of line
  letter : line.letter ≡ 67

copier : (line : Line) (copying : Copying) → (67 == line.letter) ≡ true → Copy (copying_of line) ≡ Copy copying → IsCopier line copying
copier line copying same e = record { is = (let it : copying ≡ copying_of line = cc in it); letter = grind (arith, nat_tests, same) }

-- no other action is one that copies
no_making : (line : Line) (copying : Copying) (x : _) → Create x ≡ Copy copying → IsCopier line copying
no_making line copying x e = absurd (let no : Create x ≡ Copy copying = e in cc)

no_adjustment : (line : Line) (copying : Copying) (x : _) → Adjust x ≡ Copy copying → IsCopier line copying
no_adjustment line copying x e = absurd (let no : Adjust x ≡ Copy copying = e in cc)

module _ (line : Line) (copying : Copying) where
  rows : AllByRecursion (λ (row : ℕ × (Line → Action)). (row.0 == line.letter) ≡ true → row.1 line ≡ Copy copying → IsCopier line copying) actions
  rows = (λ same e. no_making line copying _ e, (λ same e. no_making line copying _ e, (λ same e. no_making line copying _ e, (λ same e. no_making line copying _ e, (λ same e. no_making line copying _ e, (λ same e. no_making line copying _ e, (λ same e. no_making line copying _ e, (λ same e. no_making line copying _ e, (λ same e. no_making line copying _ e, (λ same e. no_making line copying _ e, (λ same e. copier line copying same e, (λ same e. no_adjustment line copying _ e, (λ same e. no_adjustment line copying _ e, (λ same e. no_adjustment line copying _ e, (λ same e. no_adjustment line copying _ e, (λ same e. no_adjustment line copying _ e, (λ same e. no_adjustment line copying _ e, (λ same e. no_adjustment line copying _ e, (λ same e. no_adjustment line copying _ e, (λ same e. no_adjustment line copying _ e, (λ same e. no_adjustment line copying _ e, tt)))))))))))))))))))))

  line_copier : action_of line ≡ Copy copying → IsCopier line copying
  line_copier asked = by (find (λ (row : ℕ × (Line → Action)). row.0 == line.letter) actions) refl asked
    where
      by : (r : Option (ℕ × (Line → Action))) → find (λ (row : ℕ × (Line → Action)). row.0 == line.letter) actions ≡ r
          → option_map_or (λ (row : ℕ × (Line → Action)). row.1 line) r Idle ≡ Copy copying → IsCopier line copying
      by None is e = absurd (let no : Idle ≡ Copy copying = e in cc)
      by (Some row) is e =
          found (λ (r : ℕ × (Line → Action)). r.0 == line.letter) (λ (r : ℕ × (Line → Action)). r.1 line ≡ Copy copying → IsCopier line copying) actions rows row is e

-- ---- what is copied

source_fits : (a : Argument) → IfSome (type_of 67) (λ row. IsArgument row.wanted a → length (source_of a) < 2 ^ 32)
source_fits (argument.Source source) = λ h. h.few
source_fits (argument.Target target) = λ h. absurd h
source_fits (argument.FileBytes bytes) = λ h. absurd h
source_fits (argument.WriteBytes bytes) = λ h. absurd h
source_fits (argument.Device major minor) = λ h. absurd h
source_fits (argument.Entries line) = λ h. absurd h
source_fits (argument.Attrs attrs) = λ h. absurd h
source_fits (argument.Letters how letters) = λ h. absurd h
source_fits argument.Ignored = λ h. absurd h

new_id_fits : (field : Option LineId) → AreIds field → IfSome (id_for_new field) IsId
new_id_fits None h = tt
new_id_fits (Some owner) h = h

-- a line that copies has a path, and what it copies is as it has to be
pub record IsCopyingLine (line : Line) (copying : Copying) : Type 0 where
  pub path : Path
  pub is : line.path ≡ Literal path
  pub configured : IsConfigured path
  pub copied : IsCopying path copying

pub line_copying : (line : Line) (copying : Copying) → IsLine line → action_of line ≡ Copy copying → IsCopyingLine line copying
line_copying line copying is asked = by line.path refl is.fits.path
  where
    one : IsCopier line copying
    one = line_copier line copying asked

    row_is : type_of 67 ≡ Some is.row
    row_is = sym (ap type_of one.letter) ∙ is.is_type

    fits : (is.row.creates ≡ true) × (is.row.root ≡ false)
    fits = named (type_of 67) (λ row. (row.creates ≡ true) × (row.root ≡ false)) (refl, refl) is.row row_is

    few : IsArgument is.row.wanted line.argument → length (source_of line.argument) < 2 ^ 32
    few = named (type_of 67) (λ row. IsArgument row.wanted line.argument → length (source_of line.argument) < 2 ^ 32) (source_fits line.argument) is.row row_is

    whole : (path : Path) → line.path ≡ Literal path → IsCopying path (copying_of line)
    whole path e = record {
      nonempty = λ root. (let no : false ≡ true = sym fits.1 ∙ (is.fits.root (root_named line.path path e root)).0 in cc);
      few = few is.fits.argument;
      mode = is.fits.mode;
      uid = new_id_fits line.user is.fits.user;
      gid = new_id_fits line.group is.fits.group;
      sets = AreSets.several [] (Apply Every (Owner (id_to_set line.user) (id_to_set line.group)) ∷ []) (mode_to_set line.mode (without_links Every))
          refl tt (owner_ids line.user is.fits.user, owner_ids line.group is.fits.group) (mode_set_by NoLink refl line.mode is.fits.mode);
    }

    by : (p : LinePath) → line.path ≡ p → IsLinePath is.row p → IsCopyingLine line copying
    by (Literal path) e h = record { path = path; is = e; configured = h.1; copied = subst (IsCopying path) (sym one.is) (whole path e) }
    by (Glob pattern) e h = absurd (let no : true ≡ false = sym fits.0 ∙ h.0 in cc)

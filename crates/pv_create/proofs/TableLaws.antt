-- Laws of the table: what a line makes, by the letter of its type.
use Rattle.std.specs.Prelude.{◌≡◌, ℕ, ◌%◌, ◌≤◌, Bool, true, false, not, ◌&&◌, ◌==◌, List, [], ◌∷◌, ◌++◌, find, Option, Some, None, unwrap_or, IfSome, if◌then◌else◌}
use Rattle.std.specs.List.{AllByRecursion}
use Rattle.std.specs.Option.{option_map_or}
use Rattle.std.proofs.Common.{refl, sym, ap, subst, ◌∙◌, arith}
use Rattle.std.proofs.lemmas.Bool.Decides.{nat_tests}
use Rattle.pv_walk.specs.declared.operation.Guard.{Guard}
use Rattle.pv_walk.specs.declared.operation.Guard.TheVariants.{Only}
use Rattle.pv_walk.specs.declared.operation.Change.TheVariants.{Mode, Owner}
use Rattle.pv_walk.specs.declared.operation.Operation.TheVariants.{Apply}
use Rattle.pv_walk.specs.declared.operation.Test.{Test}
use Rattle.pv_walk.specs.Nodes.{is_file, is_link}
use Rattle.pv_walk.specs.Operations.{admits}
use Rattle.pv_lines.specs.declared.line.Argument.{Argument}
use Rattle.pv_lines.specs.declared.line.Argument.TheVariants as argument
use Rattle.pv_lines.specs.declared.line.Line.{Line}
use Rattle.pv_lines.specs.declared.line.LineId.{LineId}
use Rattle.pv_lines.specs.declared.line.LineMode.{LineMode}
use Rattle.pv_lines.specs.declared.line.LinePath.{LinePath}
use Rattle.pv_lines.specs.declared.line.LinePath.TheVariants.{Literal, Glob}
use Rattle.pv_lines.specs.Lines.{AreIds, IsArgument, IsConfigured, IsLine, IsLinePath, Takes}
use Rattle.pv_lines.specs.PathField.{is_root}
use Rattle.pv_lines.specs.Types.{type_of}
use Rattle.pv_path.specs.Paths.{Path}
use Rattle.pv_steps.specs.declared.node.Kind.{Kind}
use Rattle.pv_steps.specs.declared.node.Kind.TheVariants.{Directory, File, Link, Fifo, CharDevice, BlockDevice}
use Rattle.pv_steps.specs.Objects.{IsId, is_directory}
use Rattle.pv_walk.specs.declared.new_file.NewKind.{NewKind}
use Rattle.pv_walk.specs.declared.new_file.NewKind.TheVariants as new
use Rattle.pv_walk.specs.Staging.{HasTarget, new_kind}
use Rattle.pv_table.specs.declared.action.Action.{Action}
use Rattle.pv_table.specs.declared.action.Action.TheVariants.{Create, Copy, Adjust, Idle}
use Rattle.pv_table.specs.declared.action.Making.{Making}
use Rattle.pv_table.specs.ActionTable.{action_of, bytes_of, contents_to_set, actions, device, id_for_new, id_to_set, link_to, mode_for_new, mode_to_set, owners_and_mode, renewal, without_links}
use Rattle.pv_table.specs.ActionTable.{making as makes}
use Rattle.pv_create.specs.Sets.{AreSets, AtMostOne, SetsMode}
use Rattle.pv_create.specs.Actions.{IsMaking}
use Rattle.pv_create.proofs.AskedSets.{owner_ids, sets_contents}

-- ---- rows

-- what a test finds in a list has what all that pass it have
pub found : {A : Type 0} (p : A → Bool) (P : A → Type 0) (xs : List A) → AllByRecursion (λ x. p x ≡ true → P x) xs → (x : A) → find p xs ≡ Some x → P x
found p P [] h x e = absurd (let no : None ≡ Some x = e in cc)
found {A} p P (y ∷ ys) h x e = by (p y) refl e (found p P ys h.1 x)
  where
    by : (b : Bool) → p y ≡ b → (if b then Some y else find p ys) ≡ Some x → (find p ys ≡ Some x → P x) → P x
    by true f is more = subst P (let same : Some y ≡ Some x = is in let it : y ≡ x = cc in it) (h.0 f)
    by false f is more = more is

-- what is made, as the table says
abbrev making_of : NewKind → Line → Making
making_of what line = record {
  new = record {
    what = what;
    mode = mode_for_new line.mode (is_directory (new_kind what));
    uid = unwrap_or (id_for_new line.user) 0;
    gid = unwrap_or (id_for_new line.group) 0;
  };
  renew = renewal line (new_kind what);
  sets = contents_to_set line (new_kind what) ++ owners_and_mode (Only (new_kind what)) line;
}

-- the type of a letter makes such an object: it takes a path, has the argument that the object needs, and takes the root
-- where it makes a directory and has no `+`
abbrev Makes : Line → NewKind → ℕ → Type 0
Makes line what letter = IfSome (type_of letter) (λ row.
    (row.creates ≡ true) × ((IsArgument row.wanted line.argument → HasTarget what) × (row.root ≡ true → (new_kind what ≡ Directory) × (row.plus ≡ false))))

-- a line that makes something
pub record IsMaker (line : Line) (making : Making) : Type 0 where
  pub what : NewKind
  pub is : making ≡ making_of what line
  pub fits : Makes line what line.letter

maker : (line : Line) (making : Making) (letter : ℕ) (what : NewKind) → Makes line what letter → (letter == line.letter) ≡ true → makes what line ≡ Create making → IsMaker line making
maker line making letter what fits same made = record {
  what = what;
  is = (let e : Create (making_of what line) ≡ Create making = made in let it : making ≡ making_of what line = cc in it);
  fits = subst (Makes line what) letters fits;
}
  where
    letters : letter ≡ line.letter
    letters = grind (arith, nat_tests, same)

-- what holds of something that is there holds of it by its name
pub named : {A : Type 0} (o : Option A) (P : A → Type 0) → IfSome o P → (x : A) → o ≡ Some x → P x
named None P h x e = absurd (let clash : None ≡ Some x = e in cc)
named (Some y) P h x e = subst P (let same : Some y ≡ Some x = e in let it : y ≡ x = cc in it) h

-- no other action is one that makes
no_copy : (line : Line) (making : Making) (x : _) → Copy x ≡ Create making → IsMaker line making
no_copy line making x e = absurd (let no : Copy x ≡ Create making = e in cc)

no_adjust : (line : Line) (making : Making) (x : _) → Adjust x ≡ Create making → IsMaker line making
no_adjust line making x e = absurd (let no : Adjust x ≡ Create making = e in cc)

link_target : (a : Argument) → IfSome (type_of 76) (λ row. IsArgument row.wanted a → HasTarget (link_to a))
link_target (argument.Target target) = λ h. h
link_target (argument.FileBytes bytes) = λ h. absurd h
link_target (argument.WriteBytes bytes) = λ h. absurd h
link_target (argument.Source source) = λ h. absurd h
link_target (argument.Device major minor) = λ h. absurd h
link_target (argument.Entries line) = λ h. absurd h
link_target (argument.Attrs attrs) = λ h. absurd h
link_target (argument.Letters how letters) = λ h. absurd h
link_target argument.Ignored = λ h. absurd h

device_target : (block : Bool) (a : Argument) → HasTarget (device block a)
device_target block (argument.Target target) = tt
device_target block (argument.FileBytes bytes) = tt
device_target block (argument.WriteBytes bytes) = tt
device_target block (argument.Source source) = tt
device_target block (argument.Device major minor) = tt
device_target block (argument.Entries line) = tt
device_target block (argument.Attrs attrs) = tt
device_target block (argument.Letters how letters) = tt
device_target block argument.Ignored = tt

no_root : {A : Type 0} → false ≡ true → A
no_root e = absurd (let no : false ≡ true = e in cc)

module _ (line : Line) (making : Making) where
  -- files, directories, FIFOs, links and devices are made
  rows : AllByRecursion (λ (row : ℕ × (Line → Action)). (row.0 == line.letter) ≡ true → row.1 line ≡ Create making → IsMaker line making) actions
  rows = (
    maker line making 102 (new.File (bytes_of line.argument)) (refl, (λ a. tt, λ e. no_root e)),
    (
      maker line making 100 new.Directory (refl, (λ a. tt, λ e. (refl, refl))),
      (
        maker line making 68 new.Directory (refl, (λ a. tt, λ e. (refl, refl))),
        (
          maker line making 118 new.Directory (refl, (λ a. tt, λ e. (refl, refl))),
          (
            maker line making 113 new.Directory (refl, (λ a. tt, λ e. (refl, refl))),
            (
              maker line making 81 new.Directory (refl, (λ a. tt, λ e. (refl, refl))),
              (
                maker line making 112 new.Fifo (refl, (λ a. tt, λ e. no_root e)),
                (
                  maker line making 76 (link_to line.argument) (refl, (link_target line.argument, λ e. no_root e)),
                  (
                    maker line making 99 (device false line.argument) (refl, (λ a. device_target false line.argument, λ e. no_root e)),
                    (
                      maker line making 98 (device true line.argument) (refl, (λ a. device_target true line.argument, λ e. no_root e)),
                      (
                        λ same e. no_copy line making _ e,
                        (
                          λ same e. no_adjust line making _ e,
                          (
                            λ same e. no_adjust line making _ e,
                            (
                              λ same e. no_adjust line making _ e,
                              (
                                λ same e. no_adjust line making _ e,
                                (
                                  λ same e. no_adjust line making _ e,
                                  (
                                    λ same e. no_adjust line making _ e,
                                    (
                                      λ same e. no_adjust line making _ e,
                                      (
                                        λ same e. no_adjust line making _ e,
                                        (
                                          λ same e. no_adjust line making _ e,
                                          (
                                            λ same e. no_adjust line making _ e,
                                            tt,
                                          ),
                                        ),
                                      ),
                                    ),
                                  ),
                                ),
                              ),
                            ),
                          ),
                        ),
                      ),
                    ),
                  ),
                ),
              ),
            ),
          ),
        ),
      ),
    ),
  )

  line_maker : action_of line ≡ Create making → IsMaker line making
  line_maker asked = by (find (λ (row : ℕ × (Line → Action)). row.0 == line.letter) actions) refl asked
    where
      by : (r : Option (ℕ × (Line → Action))) → find (λ (row : ℕ × (Line → Action)). row.0 == line.letter) actions ≡ r
          → option_map_or (λ (row : ℕ × (Line → Action)). row.1 line) r Idle ≡ Create making → IsMaker line making
      by None is e = absurd (let no : Idle ≡ Create making = e in cc)
      by (Some row) is e =
          found (λ (r : ℕ × (Line → Action)). r.0 == line.letter) (λ (r : ℕ × (Line → Action)). r.1 line ≡ Create making → IsMaker line making) actions rows row is e

-- ---- what is made

pub mode_fits : (field : Option LineMode) (directory : Bool) → IfSome field (λ mode. mode.value ≤ 0o7777) → mode_for_new field directory ≤ 0o7777
mode_fits None true h = omega arith
mode_fits None false h = omega arith
mode_fits (Some mode) directory h = by (mode.masked && not directory)
  where
    by : (b : Bool) → (if b then mode.value % 512 else mode.value) ≤ 0o7777
    by true = omega arith
    by false = h

id_fits : (field : Option LineId) → AreIds field → IsId (unwrap_or (id_for_new field) 0)
id_fits None h = omega arith
id_fits (Some owner) h = h

pub mode_set_by : (guard : Guard) → admits guard Link ≡ false → (field : Option LineMode) → IfSome field (λ mode. mode.value ≤ 0o7777) → AtMostOne SetsMode (mode_to_set field (Some guard))
mode_set_by guard unlinked None h = tt
mode_set_by guard unlinked (Some mode) h = by mode.new_only
  where
    by : (b : Bool) → AtMostOne SetsMode (if b then [] else Apply guard (Mode mode.value mode.masked) ∷ [])
    by true = tt
    by false = (unlinked, h)

mode_set_fits : (kind : Kind) (field : Option LineMode) → IfSome field (λ mode. mode.value ≤ 0o7777) → AtMostOne SetsMode (mode_to_set field (without_links (Only kind)))
mode_set_fits Link None h = tt
mode_set_fits Link (Some mode) h = tt
mode_set_fits Directory field h = mode_set_by (Only Directory) refl field h
mode_set_fits File field h = mode_set_by (Only File) refl field h
mode_set_fits Fifo field h = mode_set_by (Only Fifo) refl field h
mode_set_fits CharDevice field h = mode_set_by (Only CharDevice) refl field h
mode_set_fits BlockDevice field h = mode_set_by (Only BlockDevice) refl field h

-- what is set of an object of a kind, by a line that makes such
sets_fit : (line : Line) (kind : Kind) → AreIds line.user → AreIds line.group → IfSome line.mode (λ mode. mode.value ≤ 0o7777)
    → AreSets (contents_to_set line kind ++ owners_and_mode (Only kind) line)
sets_fit line kind user group mode =
    AreSets.several (contents_to_set line kind) (Apply (Only kind) (Owner (id_to_set line.user) (id_to_set line.group)) ∷ []) (mode_to_set line.mode (without_links (Only kind)))
    refl (sets_contents line kind) (owner_ids line.user user, owner_ids line.group group) (mode_set_fits kind line.mode mode)

renewal_plain : (line : Line) (kind : Kind) → line.plus ≡ false → option_map_or (λ (test : Test). test.exact) (renewal line kind) false ≡ false
renewal_plain line kind plain = by line.replace (line.plus) plain
  where
    by : (replace plus : Bool) → plus ≡ false
        → option_map_or (λ (test : Test). test.exact) (if replace then Some (record { exact = plus; spares_directories = false }) else if plus && not (is_file kind) then Some (record { exact = true; spares_directories = not (is_link kind) }) else None) false ≡ false
    by true plus h = h
    by false true h = absurd (let no : true ≡ false = h in cc)
    by false false h = refl

not_taken : (takes stands : Bool) → Takes takes stands → takes ≡ false → stands ≡ false
not_taken takes true h untaken = absurd (let e : true ≡ false = sym (h refl) ∙ untaken in cc)
not_taken takes false h untaken = refl

pub root_named : (line : LinePath) (path : Path) → line ≡ Literal path → path ≡ [] → is_root line ≡ true
root_named line path is root = ap is_root (is ∙ ap Literal root)

-- a line that makes something has a path, and what it makes is as it has to be
pub record IsMakingLine (line : Line) (making : Making) : Type 0 where
  pub path : Path
  pub is : line.path ≡ Literal path
  pub configured : IsConfigured path
  pub made : IsMaking path making

pub line_making : (line : Line) (making : Making) → IsLine line → action_of line ≡ Create making → IsMakingLine line making
line_making line making is asked = by line.path refl is.fits.path
  where
    one : IsMaker line making
    one = line_maker line making asked

    fits : (is.row.creates ≡ true) × ((IsArgument is.row.wanted line.argument → HasTarget one.what) × (is.row.root ≡ true → (new_kind one.what ≡ Directory) × (is.row.plus ≡ false)))
    fits = named (type_of line.letter) _ one.fits is.row is.is_type

    whole : (path : Path) → line.path ≡ Literal path → IsMaking path (making_of one.what line)
    whole path e = record {
      new = record {
        mode = mode_fits line.mode (is_directory (new_kind one.what)) is.fits.mode;
        owner = (id_fits line.user is.fits.user, id_fits line.group is.fits.group);
        target = fits.1.0 is.fits.argument;
      };
      sets = sets_fit line (new_kind one.what) is.fits.user is.fits.group is.fits.mode;
      root = λ root.
          let roots = fits.1.1 (is.fits.root (root_named line.path path e root)).0 in
          (roots.0, renewal_plain line (new_kind one.what) (not_taken is.row.plus line.plus is.fits.plus roots.1));
    }

    by : (p : LinePath) → line.path ≡ p → IsLinePath is.row p → IsMakingLine line making
    by (Literal path) e h = record { path = path; is = e; configured = h.1; made = subst (IsMaking path) (sym one.is) (whole path e) }
    by (Glob pattern) e h = absurd (let no : true ≡ false = sym fits.0 ∙ h.0 in cc)

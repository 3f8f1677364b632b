-- What each line that was read sets is bytes, owners and mode, or else entries, extended attributes or letters alone.
use Rattle.std.specs.Prelude.{◌≡◌, ◌≤◌, ℕ, Bool, true, false, ◌&&◌, ◌==◌, List, [], ◌∷◌, ◌++◌, Option, Some, None, IfSome, find, if◌then◌else◌}
use Rattle.std.specs.Option.{option_map_or}
use Rattle.std.proofs.Common.{refl, ap, sym, subst}
use Rattle.pv_lines.specs.declared.line.Argument.{Argument}
use Rattle.pv_lines.specs.declared.line.Argument.TheVariants as argument
use Rattle.pv_lines.specs.declared.line.Line.{Line}
use Rattle.pv_lines.specs.declared.line.LineId.{LineId}
use Rattle.pv_lines.specs.declared.line.LineMode.{LineMode}
use Rattle.pv_lines.specs.Lines.{AreIds, IsArgument, IsLine}
use Rattle.pv_lines.proofs.ArgumentLaws.{entries_are, attrs_are, letters_are}
use Rattle.pv_steps.specs.declared.node.Kind.{Kind}
use Rattle.pv_steps.specs.declared.node.Kind.TheVariants.{Directory, File, Link, Fifo, CharDevice, BlockDevice}
use Rattle.pv_steps.specs.Objects.{IsId}
use Rattle.pv_walk.specs.declared.operation.Change.TheVariants.{Write, Append, Owner}
use Rattle.pv_walk.specs.declared.operation.Guard.{Guard}
use Rattle.pv_walk.specs.declared.operation.Guard.TheVariants.{Every, NoLink, Only}
use Rattle.pv_walk.specs.declared.operation.Operation.{Operation}
use Rattle.pv_walk.specs.declared.operation.Operation.TheVariants.{Apply}
use Rattle.pv_walk.specs.Nodes.{is_file}
use Rattle.pv_walk.specs.Operations.{admits}
use Rattle.pv_walk.specs.declared.new_file.NewKind.{NewKind}
use Rattle.pv_walk.specs.declared.new_file.NewKind.TheVariants as new
use Rattle.pv_walk.specs.Staging.{new_kind}
use Rattle.pv_table.specs.declared.action.Action.{Action}
use Rattle.pv_table.specs.declared.action.Action.TheVariants.{Idle}
use Rattle.pv_table.specs.ActionTable.{action_of, bytes_of, contents_to_set, actions, device, id_to_set, link_to, making, mode_to_set, owners_and_mode, set_by, adjustment, without_links, writing}
use Rattle.pv_create.specs.Sets.{AreSets, AtMostOne, SetsBytes, SetsMode, SetsOther}
use Rattle.pv_table.specs.Repeatable.{sets_of}

-- ---- the parts of a list

pub owner_ids : (field : Option LineId) → AreIds field → IfSome (id_to_set field) IsId
owner_ids None h = tt
owner_ids (Some owner) h = by owner.new_only
  where
    by : (s : Bool) → IfSome (if s then None else Some owner.id) IsId
    by true = tt
    by false = h

no_links : (guard : Guard) → (wanted : Guard) → without_links guard ≡ Some wanted → admits wanted Link ≡ false
no_links Every NoLink e = refl
no_links Every Every e = let wrong : Some NoLink ≡ Some Every = e in cc
no_links Every (Only kind) e = let wrong : Some NoLink ≡ Some (Only kind) = e in cc
no_links NoLink NoLink e = refl
no_links NoLink Every e = let wrong : Some NoLink ≡ Some Every = e in cc
no_links NoLink (Only kind) e = let wrong : Some NoLink ≡ Some (Only kind) = e in cc
no_links (Only Link) wanted e = let wrong : None ≡ Some wanted = e in cc
no_links (Only Directory) wanted e = let same : Only Directory ≡ wanted = cc in ap (λ (w : Guard). admits w Link) (sym same)
no_links (Only File) wanted e = let same : Only File ≡ wanted = cc in ap (λ (w : Guard). admits w Link) (sym same)
no_links (Only Fifo) wanted e = let same : Only Fifo ≡ wanted = cc in ap (λ (w : Guard). admits w Link) (sym same)
no_links (Only CharDevice) wanted e = let same : Only CharDevice ≡ wanted = cc in ap (λ (w : Guard). admits w Link) (sym same)
no_links (Only BlockDevice) wanted e = let same : Only BlockDevice ≡ wanted = cc in ap (λ (w : Guard). admits w Link) (sym same)

sets_mode : (mode : Option LineMode) (guard : Option Guard) → IfSome mode (λ mode. mode.value ≤ 0o7777) → ((wanted : Guard) → guard ≡ Some wanted → admits wanted Link ≡ false) → AtMostOne SetsMode (mode_to_set mode guard)
sets_mode None guard h real = tt
sets_mode (Some mode) None h real = tt
sets_mode (Some mode) (Some guard) h real = by mode.new_only
  where
    by : (s : Bool) → AtMostOne SetsMode (if s then [] else mode_to_set (Some (record mode { new_only = false })) (Some guard))
    by true = tt
    by false = (real guard refl, h)

pub sets_contents : (line : Line) (kind : Kind) → AtMostOne SetsBytes (contents_to_set line kind)
sets_contents line kind = by (line.plus && is_file kind)
  where
    by : (s : Bool) → AtMostOne SetsBytes (if s then Apply (Only File) (Write (bytes_of line.argument)) ∷ [] else [])
    by true = tt
    by false = tt

module _ (line : Line) (is : IsLine line) where
  sets_owners : (guard : Guard) (before : List Operation) → AtMostOne SetsBytes before → AreSets (before ++ owners_and_mode guard line)
  sets_owners guard before one =
      AreSets.several before (Apply guard (Owner (id_to_set line.user) (id_to_set line.group)) ∷ []) (mode_to_set line.mode (without_links guard)) refl one
      (owner_ids line.user is.fits.user, owner_ids line.group is.fits.group)
      (sets_mode line.mode (without_links guard) is.fits.mode (no_links guard))

  sets_argument : (given : Argument) → line.argument ≡ given → AtMostOne SetsOther (set_by line.plus given)
  sets_argument (argument.Entries entries) e = (refl, entries_are is.row.wanted entries (subst (IsArgument is.row.wanted) e is.fits.argument))
  sets_argument (argument.Attrs attrs) e = attrs_are is.row.wanted attrs (subst (IsArgument is.row.wanted) e is.fits.argument)
  sets_argument (argument.Letters how letters) e = letters_are is.row.wanted how letters (subst (IsArgument is.row.wanted) e is.fits.argument)
  sets_argument given e = tt

  sets_writing : AreSets (sets_of (writing line))
  sets_writing = by line.plus
    where
      by : (s : Bool) → AreSets (Apply (Only File) (if s then Append (bytes_of line.argument) else Write (bytes_of line.argument)) ∷ [])
      by true = AreSets.several (Apply (Only File) (Append (bytes_of line.argument)) ∷ []) [] [] refl tt tt tt
      by false = AreSets.several (Apply (Only File) (Write (bytes_of line.argument)) ∷ []) [] [] refl tt tt tt

  -- ---- the rows of the table

  sets_making : (what : NewKind) → AreSets (sets_of (making what line))
  sets_making what = sets_owners (Only (new_kind what)) (contents_to_set line (new_kind what)) (sets_contents line (new_kind what))

  sets_setting : (deep : Bool) → AreSets (sets_of (adjustment deep Every (set_by line.plus line.argument)))
  sets_setting deep = AreSets.alone (sets_argument line.argument refl)

  sets_adjusting : (deep : Bool) (guard : Guard) → AreSets (sets_of (adjustment deep guard (owners_and_mode guard line)))
  sets_adjusting deep guard = sets_owners guard [] tt

  -- each row of a table asks for such sets
  abbrev RowsSet : List (ℕ × (Line → Action)) → Type 0
  RowsSet [] = Unit {0}
  RowsSet (row ∷ rows) = AreSets (sets_of (row.1 line)) × RowsSet rows

  rows_set : RowsSet actions
  rows_set = (
    sets_making (new.File (bytes_of line.argument)),
    (
      sets_making new.Directory,
      (
        sets_making new.Directory,
        (
          sets_making new.Directory,
          (
            sets_making new.Directory,
            (
              sets_making new.Directory,
              (
                sets_making new.Fifo,
                (
                  sets_making (link_to line.argument),
                  (
                    sets_making (device false line.argument),
                    (
                      sets_making (device true line.argument),
                      (
                        sets_owners Every [] tt,
                        (
                          sets_writing,
                          (
                            sets_adjusting false (Only Directory),
                            (
                              sets_adjusting false Every,
                              (
                                sets_adjusting true Every,
                                (sets_setting false, (sets_setting true, (sets_setting false, (sets_setting true, (sets_setting false, (sets_setting true, tt)))))),
                              ),
                            ),
                          ),
                        ),
                      ),
                    ),
                  ),
                ),
              ),
            ),
          ),
        ),
      ),
    ),
  )

  found_sets : (rows : List (ℕ × (Line → Action))) → RowsSet rows → AreSets (sets_of (option_map_or (λ row. row.1 line) (find (λ row. row.0 == line.letter) rows) Idle))
  found_sets [] h = AreSets.alone tt
  found_sets (row ∷ rows) h = by (row.0 == line.letter) (found_sets rows h.1)
    where
      by : (s : Bool) → AreSets (sets_of (option_map_or (λ row. row.1 line) (find (λ row. row.0 == line.letter) rows) Idle))
          → AreSets (sets_of (option_map_or (λ row. row.1 line) (if s then Some row else find (λ row. row.0 == line.letter) rows) Idle))
      by true rest = h.0
      by false rest = rest

  -- what a line sets of an object that is there
  pub asked_sets : AreSets (sets_of (action_of line))
  asked_sets = found_sets actions rows_set

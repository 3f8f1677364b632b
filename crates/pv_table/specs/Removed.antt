-- Removing and purging: what is removed, the messages, and the tree that is left (tmpfiles.d(5), r R D;
-- systemd-tmpfiles(8), --remove and --purge). All is decided by the tree at the beginning of the phase.
use Rattle.std.specs.Prelude.{ℕ, ◌+◌, Bool, false, not, ◌&&◌, ◌||◌, ◌==◌, List, [], ◌∷◌, ◌++◌, map, filter, length, take, Option, Some, None, is_some, is_none, unwrap_or, codes, if◌then◌else◌}
use Rattle.std.specs.FinMap as fin
use Rattle.std.specs.List.{list_any, flat_map, range_with_len}
use Rattle.pv_lines.specs.declared.line.Line.{Line}
use Rattle.pv_path.specs.Paths.{Path, is_prefix}
use Rattle.pv_path.specs.Printing.{printed_path}
use Rattle.pv_steps.specs.declared.node.Kind.{Kind}
use Rattle.pv_steps.specs.declared.node.Kind.TheVariants.{Directory}
use Rattle.pv_steps.specs.declared.object.Object.{Object}
use Rattle.pv_steps.specs.declared.why.Why.{Why}
use Rattle.pv_steps.specs.Objects.{modified}
use Rattle.pv_steps.specs.Refusal.{refusal}
use Rattle.pv_steps.specs.Trees.{Files, Places, places, kind_of, tabulate}
use Rattle.pv_text.specs.GivenMessages.{message_text_at}
use Rattle.pv_walk.specs.Removal.{without}
pub use Rattle.pv_walk.specs.Removal.{is_directory_at}
use Rattle.pv_table.specs.declared.taking.Taking.{Taking}
use Rattle.pv_table.specs.declared.taking.Taking.TheVariants as taking
use Rattle.pv_table.specs.ActionTable.{id_for_new, taking_of}
use Rattle.pv_table.specs.Reaching.{names, path_in}
use Rattle.pv_table.specs.Saying.{place_text, left_text}
use Rattle.pv_walk.specs.Whole.{all_at}

-- A tree without some paths. A directory that stays and loses an entry is changed by a function, which sets its
-- timestamps.
abbrev pub files_without : (Path → Bool) → (Object → Object) → Files → Files
files_without goes change t = tabulate (fin.keys t) (without goes change t)

-- ---- what is removed

-- The user that an absent last component of a path counts as owned by: the user of the line, or otherwise root.
abbrev pub owner_given : Line → ℕ
owner_given line = unwrap_or (id_for_new line.user) 0

-- The first component of a path at which a line is refused, with the reason, if there is one.
abbrev pub refused_place : Line → Places → Path → Option (ℕ × Why)
refused_place line t path = refusal t path (owner_given line)

-- A line names a path, and is not refused there.
abbrev pub is_named : Line → Places → Path → Bool
is_named line t path = names line path && is_none (refused_place line t path)

-- Whether a line asks to remove a path. An `r` line asks for the paths that it names. An `R` line asks for these and
-- everything below them. A `D` line asks for everything below a directory that it names. Paths at which the line is
-- refused do not count.
abbrev pub covers : Line → Places → Path → Bool
covers line t q = by (taking_of line)
  where
    by : Taking → Bool
    by taking.Itself = is_named line t q
    by taking.Whole = list_any (λ k. is_named line t (take k q)) (range_with_len 0 (length q + 1))
    by taking.Contents = list_any (λ k. is_named line t (take k q) && is_directory_at t (take k q)) (range_with_len 0 (length q))
    by taking.Nothing = false

-- Whether a path is removed. It is if lines ask to remove it and everything below it. The root is never removed.
abbrev pub is_gone : List Line → Files → Path → Bool
is_gone lines t path =
    is_some (places t path) && not (length path == 0)
    && all_at (λ q. list_any (λ line. covers line (places t) q) lines) t path

-- The tree that removing leaves. A directory that stays and loses an entry gets new modification and change
-- timestamps.
abbrev pub removed : List Line → ℕ → Files → Files
removed lines now t = files_without (is_gone lines t) (modified now) t

-- ---- messages

-- The paths about which a line may have messages. An `r` or `R` line has the existing paths that it names. A `D` line
-- has its own path, even if there is no object.
abbrev pub judged : Line → Files → List Path
judged line t = by (taking_of line)
  where
    by : Taking → List Path
    by taking.Nothing = []
    by taking.Contents = path_in line.path ∷ []
    by other = filter (names line) (fin.keys t)

-- The message of a `D` line about an object that is not a directory.
abbrev pub left_kind : Path → Option Kind → List (List ℕ)
left_kind path None = []
left_kind path (Some Directory) = []
left_kind path (Some kind) = left_text path kind ∷ []

-- The message of an `r` line about a directory that is not removed.
abbrev pub not_empty : Path → List ℕ
not_empty path = printed_path path ++ codes " is not empty"

-- Whether an `r` line leaves a directory that it names.
abbrev pub keeps : List Line → Line → Files → Path → Bool
keeps lines line t path = by (taking_of line)
  where
    by : Taking → Bool
    by taking.Itself = is_directory_at (places t) path && not (is_gone lines t path)
    by other = false

-- The messages of a line that is not refused at a path.
abbrev pub unrefused_texts : List Line → Line → Files → Path → List (List ℕ)
unrefused_texts lines line t path = by (taking_of line)
  where
    by : Taking → List (List ℕ)
    by taking.Itself = if keeps lines line t path then not_empty path ∷ [] else []
    by taking.Contents = left_kind path (kind_of (places t path))
    by other = []

-- The messages of a line about a path: that it is refused, or otherwise what it leaves there.
abbrev pub removal_texts : List Line → Line → Files → Path → List (List ℕ)
removal_texts lines line t path = by (refused_place line (places t) path)
  where
    by : Option (ℕ × Why) → List (List ℕ)
    by (Some place) = place_text path place.0 place.1 ∷ []
    by None = unrefused_texts lines line t path

-- The messages of removing, in the order in which the lines were read.
abbrev pub removed_messages : List Line → Files → List (List ℕ)
removed_messages lines t = flat_map (λ line. map (message_text_at line.place) (flat_map (removal_texts lines line t) (judged line t))) lines

-- Whether a removal is unfinished: some line is refused at a path, or an `r` line leaves a directory.
abbrev pub is_unfinished : List Line → Files → Bool
is_unfinished lines t =
    list_any (λ line. list_any (λ path. is_some (refused_place line (places t) path) || keeps lines line t path) (judged line t)) lines

-- ---- purging

-- Whether a line with `$` purges a path: the path is the line's own or below it, and the line is not refused.
abbrev pub purges : Line → Places → Path → Bool
purges line t q = line.purge && is_prefix (path_in line.path) q && is_none (refused_place line t (path_in line.path))

-- Whether a path is purged. The root never is.
abbrev pub is_purged : List Line → Files → Path → Bool
is_purged lines t path = is_some (places t path) && not (length path == 0) && list_any (λ line. purges line (places t) path) lines

-- The tree that purging leaves.
abbrev pub purged : List Line → ℕ → Files → Files
purged lines now t = files_without (is_purged lines t) (modified now) t

-- The refusal of a line with `$` whose path exists, if it is refused.
abbrev pub purge_refusal : Line → Places → Option (ℕ × Why)
purge_refusal line t = if line.purge && is_some (t (path_in line.path)) then refused_place line t (path_in line.path) else None

-- The messages of a line about purging: that it is refused.
abbrev pub purge_texts : Line → Places → List (List ℕ)
purge_texts line t = by (purge_refusal line t)
  where
    by : Option (ℕ × Why) → List (List ℕ)
    by None = []
    by (Some place) = place_text (path_in line.path) place.0 place.1 ∷ []

-- The messages of purging, in the order in which the lines were read.
abbrev pub purged_messages : List Line → Files → List (List ℕ)
purged_messages lines t = flat_map (λ line. map (message_text_at line.place) (purge_texts line (places t))) lines

-- Whether purging is unfinished: some line is refused.
abbrev pub is_purge_unfinished : List Line → Files → Bool
is_purge_unfinished lines t = list_any (λ line. is_some (purge_refusal line (places t))) lines

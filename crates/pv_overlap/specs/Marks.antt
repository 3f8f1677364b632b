-- How hazards are found. A mark is the index of a line and the index of a hazard in the list of hazards (this
-- project's own).
use Rattle.std.specs.Prelude.{ℕ, ◌+◌, Bool, not, ◌&&◌, ◌||◌, ◌==◌, nat_lt, List, [], ◌∷◌, ◌++◌, length, Option, Some, None, is_some, slice_get, if◌then◌else◌}
use Rattle.std.specs.List.{flat_map}
use Rattle.pv_lines.specs.declared.line.Line.{Line}
use Rattle.pv_overlap.specs.declared.pair.Pair.{Pair}
use Rattle.pv_path.specs.Paths.{same_path, is_prefix}
use Rattle.pv_table.specs.declared.reason.Reason.{Reason}
use Rattle.pv_table.specs.declared.reason.Reason.TheVariants.{Append, Source, Below, Input, Mask}
use Rattle.pv_table.specs.ActionTable.{action_of}
use Rattle.pv_table.specs.Reaching.{is_creating, path_in}
use Rattle.pv_table.specs.Repeatable.{appends, changes_content, has_masked_mode, sets_base}
use Rattle.pv_table.specs.Turns.{copied}
use Rattle.std.specs.Ordering.{nat_cmp, ordering_then}
use Rattle.std.specs.declared.cmp.Ordering.{Ordering}
use Rattle.pv_overlap.specs.declared.listing.Unrepeatable.{Unrepeatable}
use Rattle.pv_overlap.specs.declared.traits.Traits.{Traits}
use Rattle.pv_overlap.specs.Subjects.{sources_of}

-- The index of a hazard in the list of hazards.
abbrev pub rank : Reason → ℕ
rank Append = 0
rank Source = 1
rank Below = 2
rank Input = 3
rank Mask = 4

-- The hazard at an index of this list.
abbrev pub reason_at : ℕ → Reason
reason_at place =
    if place == 0 then Append
    else if place == 1 then Source
    else if place == 2 then Below
    else if place == 3 then Input
    else Mask

abbrev pub Mark : Type 0
Mark = ℕ × ℕ

-- Marks are ordered by the lines, and then by the hazards.
abbrev pub mark_cmp : Mark → Mark → Ordering
mark_cmp x y = ordering_then (nat_cmp x.0 y.0) (nat_cmp x.1 y.1)

-- The line and the hazard of a mark.
abbrev pub reason_of : Mark → Unrepeatable
reason_of mark = record { line = mark.0; reason = reason_at mark.1 }

-- What finding hazards needs to know of a line, besides the paths that it reaches.
abbrev pub traits_of : Line → Traits
traits_of line = record {
  appends = appends line;
  masked = has_masked_mode line;
  base = sets_base line;
  changes = changes_content line;
  copies = is_some (copied (action_of line));
}

-- A mark, if a test holds.
abbrev pub mark_if : Bool → ℕ → ℕ → List Mark
mark_if test line place = if test then (line, place) ∷ [] else []

-- The marks of lines that append bytes. The first line has the index i.
abbrev pub own_marks : ℕ → List Line → List Mark
own_marks i [] = []
own_marks i (line ∷ lines) = mark_if (appends line) i 0 ++ own_marks (i + 1) lines

-- Whether a line makes an object below the path of a line that copies.
abbrev pub is_below : Line → Line → Bool
is_below line other =
    is_creating line && is_some (copied (action_of other)) && is_prefix (path_in other.path) (path_in line.path)
    && not (same_path (path_in other.path) (path_in line.path))

-- Whether one of two lines has a masked mode, and the other sets base entries of an ACL.
abbrev pub mixes : Line → Line → Bool
mixes a b = (has_masked_mode a && sets_base b) || (sets_base a && has_masked_mode b)

-- The marks of two lines that share a path. Here i is the lower index.
abbrev pub shared_marks : ℕ → Line → ℕ → Line → List Mark
shared_marks i a j b = mark_if (is_below b a) j 2 ++ mark_if (is_below a b) i 2 ++ mark_if (mixes a b) j 4

-- The marks of a line that shares a path with what a line copies, or with an input path. What lines copy has indices
-- below `sources`.
abbrev pub outer_marks : ℕ → ℕ → Line → ℕ → List Mark
outer_marks sources i line j = if nat_lt j sources then (i, 1) ∷ [] else mark_if (changes_content line) i 3

-- The marks of a pair: two lines, or a line and something else that it shares a path with.
abbrev pub marks_by : ℕ → Pair → Option Line → Option Line → List Mark
marks_by sources pair (Some a) (Some b) = shared_marks pair.first a pair.second b
marks_by sources pair (Some a) None = outer_marks sources pair.first a pair.second
marks_by sources pair None other = []

abbrev pub pair_marks : List Line → ℕ → Pair → List Mark
pair_marks lines sources pair = marks_by sources pair (slice_get lines pair.first) (slice_get lines pair.second)

-- All marks.
abbrev pub marks_of : List Line → List Pair → List Mark
marks_of lines pairs = own_marks 0 lines ++ flat_map (pair_marks lines (length lines + length (sources_of lines))) pairs

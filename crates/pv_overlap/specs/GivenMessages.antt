-- The messages of a report. The texts are this project's own.
use Rattle.std.specs.Prelude.{◌≡◌, ℕ, ◌-◌, List, [], ◌∷◌, ◌++◌, codes, length, map, Some, slice_get}
use Rattle.std.specs.Fmt.{decimal}
use Rattle.std.specs.Option.{option_map_or}
use Rattle.pv_path.specs.Paths.{Path}
use Rattle.pv_path.specs.Printing.{printed_path}
use Rattle.pv_lines.specs.declared.line.Line.{Line}
use Rattle.pv_overlap.specs.declared.pair.Pair.{Pair}
use Rattle.pv_table.specs.declared.reason.Reason.{Reason}
use Rattle.pv_table.specs.declared.reason.Reason.TheVariants.{Append, Source, Below, Input, Mask}
use Rattle.pv_overlap.specs.declared.listing.Report.{Report}
use Rattle.pv_overlap.specs.declared.listing.Unrepeatable.{Unrepeatable}

-- The word for a hazard.
abbrev pub reason_text : Reason → List ℕ
reason_text Append = codes "append"
reason_text Source = codes "source"
reason_text Below = codes "below"
reason_text Input = codes "input"
reason_text Mask = codes "mask"

-- The location of a line: `FILE:N`.
abbrev pub standing_text : Line → List ℕ
standing_text line = line.place.file ++ codes ":" ++ decimal line.place.number

abbrev pub line_text : List Line → ℕ → List ℕ
line_text lines i = option_map_or standing_text (slice_get lines i) []

-- The message that the lines at two locations share a path.
abbrev pub shared_text : List ℕ → List ℕ → Path → List ℕ
shared_text first second path = codes "overlap " ++ first ++ codes " " ++ second ++ codes " at " ++ printed_path path

-- The message about a pair of lines that share a path.
abbrev pub overlap_text : List Line → Pair → List ℕ
overlap_text lines pair = shared_text (line_text lines pair.first) (line_text lines pair.second) pair.path

-- The message about a hazard of a line.
abbrev pub unrepeatable_text : List Line → Unrepeatable → List ℕ
unrepeatable_text lines u = codes "unrepeatable " ++ line_text lines u.line ++ codes " " ++ reason_text u.reason

-- The verdict if no line has a hazard.
abbrev pub repeatable : List ℕ
repeatable = codes "repeatable"

-- The verdict on lines with these hazards.
abbrev pub verdict : List Unrepeatable → List ℕ
verdict [] = repeatable
verdict (u ∷ list) = codes "not repeatable"

-- The last message is that the configuration is repeatable.
abbrev pub SaysRepeatable : List (List ℕ) → Type 0
SaysRepeatable messages = slice_get messages (length messages - 1) ≡ Some repeatable

-- All messages of a report: the overlaps, the hazards, and the verdict.
abbrev pub report_messages : List Line → Report → List (List ℕ)
report_messages lines report =
    map (overlap_text lines) report.pairs ++ map (unrepeatable_text lines) report.unrepeatable ++ verdict report.unrepeatable ∷ []

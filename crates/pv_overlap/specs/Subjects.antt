-- What a report compares: what lines reach, what they copy, and the input paths (tmpfiles.d(5)).
use Rattle.std.specs.Prelude.{◌≡◌, ℕ, ◌<◌, ◌≤◌, Bool, true, false, List, [], ◌∷◌, ◌++◌, map, slice_index_or, None}
use Rattle.std.specs.List.{filter_map}
use Rattle.pv_path.specs.Paths.{Path}
use Rattle.pv_glob.specs.declared.element.Element.{Element}
use Rattle.pv_glob.specs.Matching.{literal_of}
use Rattle.pv_lines.specs.declared.line.Line.{Line}
use Rattle.pv_lines.specs.declared.line.LinePath.{LinePath}
use Rattle.pv_lines.specs.declared.line.LinePath.TheVariants.{Literal, Glob}
use Rattle.pv_glob.specs.declared.meeting.Reach.{Reach}
use Rattle.pv_glob.specs.Meeting.{are_met}
use Rattle.pv_glob.specs.Words.{Finds}
use Rattle.pv_overlap.specs.Answers.{Answers}
use Rattle.pv_overlap.specs.Heads.{head_of_all}
use Rattle.pv_table.specs.ActionTable.{action_of}
use Rattle.pv_table.specs.Reaching.{reaches_below}
use Rattle.pv_layers.specs.Places.{inputs}
use Rattle.pv_table.specs.Turns.{copied}

-- The expansions of a line's path or pattern.
abbrev pub plains_of : LinePath → List (List (List Element))
plains_of (Literal path) = literal_of path ∷ []
plains_of (Glob pattern) = pattern

-- What a line reaches.
abbrev pub reach_of : Line → Reach
reach_of line = record { pattern = plains_of line.path; below = reaches_below line }

-- A path with everything below it.
abbrev pub reach_under : Path → Reach
reach_under path = record { pattern = literal_of path ∷ []; below = true }

-- The paths that lines copy.
abbrev pub sources_of : List Line → List Path
sources_of lines = filter_map (λ line. copied (action_of line)) lines

-- All that is compared: the lines, then the paths that they copy, then the input paths.
abbrev pub reaches_of : List Line → List Reach
reaches_of lines = map reach_of lines ++ map reach_under (sources_of lines) ++ map reach_under inputs

-- A reach that has no path.
abbrev pub no_reach : Reach
no_reach = record { pattern = []; below = false }

abbrev pub reach_at : List Reach → ℕ → Reach
reach_at reaches i = slice_index_or reaches i no_reach

-- Whether a path that a tree can have is in both reaches.
abbrev pub meets : Reach → Reach → Path → Bool
meets a b path = are_met a.pattern a.below b.pattern b.below path

abbrev pub heads_of : List Reach → List Path
heads_of reaches = map (λ reach. head_of_all reach.pattern) reaches

-- The allowed answer for two indices, of which those below `lines` are lines. If the first is a line, it is the first
-- path that both reach, or none. If neither is a line, it is none.
abbrev pub MayAnswer : List Reach → ℕ → Answers
MayAnswer reaches lines i j answer =
    (i < lines → Finds (meets (reach_at reaches i) (reach_at reaches j)) answer) × (lines ≤ i → answer ≡ None)

-- The lines of borrowed requests, and the look-up of their users.
use Rattle.std.specs.Prelude.{◌≡◌, ℕ, List, map, Option}
use Rattle.std.specs.Map.{lookup}
use Rattle.std.specs.Option.{option_map}
use Rattle.std.specs.Borrow.{Bor}
use Rattle.std.specs.Str.{bytes_eq}
use Rattle.pv_requests.specs.declared.request.Request.{Request}
use Rattle.pv_sysusers.specs.Lines.{Line, first_user}
use Rattle.pv_sysusers.specs.declared.lines.Lines.{Lines}
use Rattle.pv_sysusers.specs.declared.path_ids.PathId.{PathId}

-- The line of a borrowed request.
abbrev pub shown_line : Bor Request × Option PathId → Line
shown_line line = (line.0.now, line.1)

-- The lines of borrowed requests.
abbrev pub shown : List (Bor Request × Option PathId) → List Line
shown = map shown_line

-- The look-up gives for each user his first `u` line.
abbrev pub IsIndexed : Lines → Type 0
IsIndexed lines = (name : List ℕ) → option_map (λ r. r.now) (lookup (λ k. bytes_eq name k.now) lines.users.entries) ≡ first_user (shown lines.kept.items) name

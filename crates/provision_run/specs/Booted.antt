-- The boot command: it removes and then creates (systemd-tmpfiles(8), --remove --create). What it leaves and says,
-- and what a stopped run of it has left.
use Rattle.std.specs.Prelude.{◌≡◌, ◌⊎◌, ℕ, Bool, true, false, ◌||◌, List, ◌++◌, take}
use Rattle.std.specs.List.{AllByRecursion}
use Rattle.pv_walk.specs.Edits.{Pruned}
use Rattle.pv_laws.specs.Between.{IsOnTheWay}
use Rattle.pv_laws.specs.Moments.{Agree}
use Rattle.pv_laws.specs.Stopping.{CopiesNothing}
use Rattle.pv_layers.specs.Places.{is_input}
use Rattle.pv_lines.specs.declared.line.Line.{Line}
use Rattle.pv_path.specs.Paths.{Path}
use Rattle.pv_steps.specs.declared.step.Step.{Step}
use Rattle.pv_steps.specs.Content.{content_of}
use Rattle.pv_steps.specs.Runs.{after_all}
use Rattle.pv_steps.specs.Same.{Same}
use Rattle.pv_steps.specs.Trees.{Files, places}
use Rattle.pv_table.specs.declared.reason.Reason.TheVariants as reason
use Rattle.pv_table.specs.Created.{created, created_messages, some_refusal_counts, RefusesNoLine}
use Rattle.pv_table.specs.Pointwise.{ObjectStates}
use Rattle.pv_table.specs.Removed.{is_gone, is_unfinished, removed, removed_messages}
use Rattle.pv_table.specs.Repeatable.{HasReason, IsRepeatable}

-- The tree that a complete run of the boot command leaves.
abbrev pub booted : List Line → ℕ → Files → Files
booted lines now t = created lines now (removed lines now t)

-- The messages about the lines of both phases.
abbrev pub booted_messages : List Line → ℕ → Files → List (List ℕ)
booted_messages lines now t = removed_messages lines t ++ created_messages lines now (removed lines now t)

-- Whether something is not carried out. A removal is unfinished, or creating refuses a line without `-`.
abbrev pub is_boot_unfinished : List Line → ℕ → Files → Bool
is_boot_unfinished lines now t = is_unfinished lines t || some_refusal_counts lines now (removed lines now t)

-- ---- stopped runs

-- A run of the boot command is stopped after any number n of its steps. Then a complete run over the tree at the stop
-- leaves the same tree as one complete run from the start, if
-- - no line has a hazard, and no line copies,
-- - a complete removal from the start leaves nothing unfinished,
-- - and creating after a complete removal refuses no line, neither from the start nor from the stop.
-- The runs may begin at different times. `Same` leaves out timestamps and staging names.
abbrev pub BootRecovers : List Line → ℕ → Files → List Step → Type 0
BootRecovers lines now t steps = (n later : ℕ) → IsRepeatable lines → AllByRecursion CopiesNothing lines →
    is_unfinished lines t ≡ false →
    RefusesNoLine lines now (removed lines now t) →
    RefusesNoLine lines later (removed lines later (after_all t (take n steps) now)) →
    Same (booted lines later (after_all t (take n steps) now)) (booted lines now t)

-- A run of the boot command is stopped after any number n of its steps. Then one of these holds:
-- - Some of what is removed is gone, and nothing else has changed, timestamps aside.
-- - Creating has begun with what removing leaves. If no line has a hazard, and creating refuses no line, the state is
--   as in `IsOnTheWay`. So for some k, each path is as the first k lines or the first k + 1 lines leave it. Only
--   kinds and owners are compared.
abbrev pub IsBootBetween : List Line → ℕ → Files → List Step → Type 0
IsBootBetween lines now t steps = (n : ℕ) →
    Pruned (is_gone lines t) t (after_all t (take n steps) now)
    ⊎ ((s : ObjectStates) → IsRepeatable lines → RefusesNoLine lines now (removed lines now t) → Agree s (removed lines now t) →
    IsOnTheWay lines s (after_all t (take n steps) now))

-- If no line has the hazard `input`, each input path has the same content after any number of steps. The content is
-- whether there is an object, its kind, and its payload. Staging names count too.
abbrev pub KeepsInput : List Line → ℕ → Files → List Step → Type 0
KeepsInput lines now t steps = ((i : ℕ) → HasReason lines i reason.Input → ⊥) → (n : ℕ) (q : Path) → is_input q ≡ true →
    content_of (places (after_all t (take n steps) now) q) ≡ content_of (places t q)

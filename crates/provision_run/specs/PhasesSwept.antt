-- What phases leave at staging names (systemd-tmpfiles(8)).
use Rattle.std.specs.Prelude.{ℕ, List, [], ◌∷◌, ⊤}
use Rattle.pv_laws.specs.Swept.{LeavesNoStagingName}
use Rattle.pv_lines.specs.declared.line.Line.{Line}
use Rattle.pv_steps.specs.Trees.{Files}
use Rattle.provision_run.specs.Phases.{left_by}
use Rattle.provision_run.specs.declared.phase.Phase.{Phase}
use Rattle.provision_run.specs.declared.phase.Phase.TheVariants.{Create}

-- If creating is the last phase, nothing is left at the staging names of what it made. It begins with the tree that
-- the phases before it leave. The other phases make nothing.
abbrev pub IsSweptBy : List Phase → List Line → ℕ → Files → Files → Type 0
IsSweptBy [] lines now t u = ⊤
IsSweptBy (Create ∷ []) lines now t u = LeavesNoStagingName lines now t u
IsSweptBy (phase ∷ phases) lines now t u = IsSweptBy phases lines now (left_by lines now phase t) u

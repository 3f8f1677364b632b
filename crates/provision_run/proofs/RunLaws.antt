-- Laws of a run over a tree: the active lines, and a run that has done nothing.
use Rattle.std.specs.Prelude.{ℕ}
use Rattle.pv_steps.proofs.CourseLaws.{partway_start}
use Rattle.pv_steps.specs.Trees.{Files}
use Rattle.provision_run.specs.Phases.{phases_course, phases_of}
use Rattle.provision_run.proofs.PhaseLaws.{phase_start}
use Rattle.pv_text.specs.Facts.{Values}
use Rattle.pv_words.specs.declared.options.Options.{Options}
use Rattle.provision_run.specs.Phased.{phases_way, run_lines}

-- ---- nothing done

pub way_start : (options : Options) (facts : Values) (now : ℕ) (t : Files) → phases_way options facts now t t
way_start options facts now t = partway_start (phases_course (run_lines options facts t) now) (phase_start (run_lines options facts t) now) (phases_of options) t

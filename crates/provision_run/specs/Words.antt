-- The time of a run (systemd-tmpfiles(8)).
use Rattle.std.specs.Prelude.{ℕ, unwrap_or}
use Rattle.pv_words.specs.declared.options.Options.{Options}

-- The time of `--now`. If it is not given, that of the clock.
abbrev pub moment_of : Options → ℕ → ℕ
moment_of options clock_micros = unwrap_or options.now clock_micros

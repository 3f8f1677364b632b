-- Account changes are crash-safe (systemd-sysusers(8)).
use Rattle.std.specs.Prelude.{◌≡◌, ℕ, List, take}
use Rattle.std.specs.List.{AllByRecursion}
use Rattle.pv_requests.specs.Allowed.{IsAllowed}
use Rattle.pv_requests.specs.declared.request.Request.{Request}
use Rattle.pv_steps.specs.declared.step.Step.{Step}
use Rattle.pv_steps.specs.Runs.{after_all}
use Rattle.pv_steps.specs.Same.{Same}
use Rattle.pv_steps.specs.Trees.{Files, places}
use Rattle.pv_sysusers.specs.Accounted.{accounted, day_of, text_at}
use Rattle.pv_layers.specs.Places.{group_path, passwd_path}
use Rattle.pv_sysusers.specs.FileWriting.{gshadow_path}

-- Two trees that runs at two times leave. `/etc/group`, `/etc/gshadow` and `/etc/passwd` have the same texts. If both
-- times are on one day, the trees are the same, timestamps and staging names aside. The day is written in
-- `/etc/shadow`.
pub record EndAlike (now later : ℕ) (t u : Files) : Type 0 where
  pub group : text_at (places u) group_path ≡ text_at (places t) group_path
  pub gshadow : text_at (places u) gshadow_path ≡ text_at (places t) gshadow_path
  pub passwd : text_at (places u) passwd_path ≡ text_at (places t) passwd_path
  pub same : day_of later ≡ day_of now → Same u t

-- A run of allowed lines is stopped after any number n of its steps. Then a complete run of the same lines over the
-- tree at the stop, at any time, ends like one complete run from the start, as `EndAlike` says.
abbrev pub Recovers : List Request → ℕ → Files → List Step → Type 0
Recovers requests now t steps = (n later : ℕ) → AllByRecursion IsAllowed requests →
    EndAlike now later (accounted requests now t) (accounted requests later (after_all t (take n steps) now))

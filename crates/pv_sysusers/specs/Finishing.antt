-- What a plan says of account files that a stopped run has left (systemd-sysusers(8)).
use Rattle.std.specs.Prelude.{◌≡◌, ◌⊎◌, ℕ, List, Result, Ok, Err}
use Rattle.pv_sysusers.specs.Plans.{AccountFiles}
use Rattle.pv_sysusers.specs.declared.planned.Texts.{Texts}

-- The account files with new texts.
abbrev pub files_with : Texts → AccountFiles
files_with texts = record { passwd = texts.passwd; group = texts.group; shadow = texts.shadow; gshadow = texts.gshadow }

-- A file is the old one or the new one.
abbrev pub IsEither : {A : Type 0} → A → A → A → Type 0
IsEither old new file = (file ≡ old) ⊎ (file ≡ new)

-- Each account file is the old one or the new one. `/etc/passwd` is the new one only if all are.
pub record IsPartWritten (old : AccountFiles) (new : Texts) (files : AccountFiles) : Type 0 where
  pub group : IsEither old.group new.group files.group
  pub gshadow : IsEither old.gshadow new.gshadow files.gshadow
  pub shadow : IsEither old.shadow new.shadow files.shadow
  pub passwd : (files.passwd ≡ old.passwd) ⊎ (files ≡ files_with new)

-- The planned texts are the same again. For `/etc/shadow`, which has the day in it, this holds on the same day, or if
-- the new text is already written.
pub record AreFinished (new : Texts) (day later : ℕ) (files : AccountFiles) (texts : Texts) : Type 0 where
  pub passwd : texts.passwd ≡ new.passwd
  pub group : texts.group ≡ new.group
  pub gshadow : texts.gshadow ≡ new.gshadow
  pub shadow : (later ≡ day) ⊎ (files.shadow ≡ new.shadow) → texts.shadow ≡ new.shadow

-- A plan gives such texts.
abbrev pub Finishes : Texts → ℕ → ℕ → AccountFiles → Result Texts (List ℕ) → Type 0
Finishes new day later files (Ok texts) = AreFinished new day later files texts
Finishes new day later files (Err name) = ⊥

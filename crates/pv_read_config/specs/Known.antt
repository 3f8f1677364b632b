-- What is known when lines of systemd-tmpfiles are read: the facts of the image, and the users and groups of the
-- tree's account files (tmpfiles.d(5), passwd(5), group(5)).
use Rattle.std.specs.Prelude.{ℕ, Bool, List, [], ◌∷◌, codes, Result, Ok, Err, if◌then◌else◌}
use Rattle.std.specs.Result.{result_ok}
use Rattle.pv_accounts.specs.Entries.{is_group, is_passwd}
use Rattle.pv_accounts.specs.Files.{id_or_root}
use Rattle.pv_layers.specs.Places.{group_path, passwd_path}
use Rattle.pv_lines.specs.ArgumentField.{Lookup}
use Rattle.pv_lines.specs.FaultNames.{name_of}
use Rattle.pv_lines.specs.Lines.{line_of}
use Rattle.pv_lines.specs.declared.line_fault.LineFault.{LineFault}
use Rattle.pv_lines.specs.declared.line.Line.{Line}
use Rattle.pv_steps.specs.Trees.{Files}
use Rattle.pv_text.specs.Facts.{Values}
use Rattle.pv_text.specs.GivenMessages.{message_text_at}
use Rattle.pv_text.specs.declared.place.Place.{Place}
use Rattle.pv_text.specs.declared.tool.Tool.TheVariants.{Tmpfiles}
use Rattle.pv_read_config.specs.Configuration.{Configured, Reader, configured_by, content_at}

-- The facts, and where users and groups are looked up.
pub record Known : Type 0 where
  pub facts : Values
  pub lookup : Lookup

-- Users and groups are looked up in the texts of their files. The ID of `root` is always 0.
abbrev pub lookup_in : List ℕ → List ℕ → Lookup
lookup_in passwd group = record { uid_named = id_or_root is_passwd passwd; gid_named = id_or_root is_group group }

-- What is known of a tree, with the facts of its image.
abbrev pub known_of : Files → Values → Known
known_of files facts = record { facts = facts; lookup = lookup_in (content_at files passwd_path) (content_at files group_path) }

-- The message about a line whose path began with `/var/run/`.
abbrev pub moved_message : Place → Bool → List (List ℕ)
moved_message place moved = if moved then message_text_at place (codes "/var/run/ read as /run/") ∷ [] else []

-- The messages about a line: its fault, or that its path was rewritten.
abbrev pub messages_by : Place → Result Line LineFault → List (List ℕ)
messages_by place (Err fault) = message_text_at place (name_of fault) ∷ []
messages_by place (Ok line) = moved_message place line.moved

-- How systemd-tmpfiles reads lines.
abbrev pub tmpfiles_reader : Known → Reader Line
tmpfiles_reader known = record {
  line_read = λ place line. result_ok (line_of known.facts known.lookup place line);
  messages_for = λ place line. messages_by place (line_of known.facts known.lookup place line);
}

-- The configuration of systemd-tmpfiles in a tree, with the FILE arguments of the run.
abbrev pub configured : Files → Values → List (List ℕ) → Configured Line
configured files facts words = configured_by files (tmpfiles_reader (known_of files facts)) Tmpfiles words

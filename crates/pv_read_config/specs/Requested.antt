-- How the lines of systemd-sysusers are read, with the facts of the image (sysusers.d(5)).
use Rattle.std.specs.Prelude.{ℕ, List, [], ◌∷◌, Result, Ok, Err}
use Rattle.std.specs.Result.{result_ok}
use Rattle.pv_requests.specs.Faults.{name_of}
use Rattle.pv_requests.specs.Requests.{request_of}
use Rattle.pv_requests.specs.declared.request_fault.RequestFault.{RequestFault}
use Rattle.pv_requests.specs.declared.request.Request.{Request}
use Rattle.pv_steps.specs.Trees.{Files}
use Rattle.pv_text.specs.Facts.{Values}
use Rattle.pv_text.specs.GivenMessages.{message_text_at}
use Rattle.pv_text.specs.declared.place.Place.{Place}
use Rattle.pv_text.specs.declared.tool.Tool.TheVariants.{Sysusers}
use Rattle.pv_read_config.specs.Configuration.{Configured, Reader, configured_by}

-- The messages about a line: its fault, if it has one.
abbrev pub messages_for_request : Place → Result Request RequestFault → List (List ℕ)
messages_for_request place (Err fault) = message_text_at place (name_of fault) ∷ []
messages_for_request place (Ok request) = []

-- How systemd-sysusers reads lines.
abbrev pub requests_reader : Values → Reader Request
requests_reader facts = record {
  line_read = λ place line. result_ok (request_of facts place line);
  messages_for = λ place line. messages_for_request place (request_of facts place line);
}

-- The requests of systemd-sysusers in a tree, with the FILE arguments of the run.
abbrev pub requested : Files → Values → List (List ℕ) → Configured Request
requested files facts words = configured_by files (requests_reader facts) Sysusers words

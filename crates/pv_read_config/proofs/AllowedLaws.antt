-- What holds of each line that a reader reads holds of each line of a configuration; so each request is allowed.
use Rattle.std.specs.Prelude.{◌≡◌, ℕ, ◌+◌, Bool, true, false, List, [], ◌∷◌, Option, Some, None, IfSome, Result, Ok, Err, if◌then◌else◌, refl}
use Rattle.std.specs.List.{AllByRecursion}
use Rattle.std.specs.Result.{result_ok}
use Rattle.pv_layers.specs.Choices.{chosen}
use Rattle.pv_path.specs.Paths.{Path}
use Rattle.pv_path.specs.Results.{◌>>=◌, in_words}
use Rattle.pv_path.specs.Printing.{printed_path}
use Rattle.pv_requests.specs.Allowed.{IsAllowed}
use Rattle.pv_requests.specs.Requests.{request_in, request_of}
use Rattle.pv_requests.specs.declared.request_fault.RequestFault.{RequestFault}
use Rattle.pv_requests.specs.declared.request_fault.RequestFault.TheVariants as fault
use Rattle.pv_requests.specs.declared.request.Request.{Request}
use Rattle.pv_requests.proofs.AllowedRequests.{given-allowed}
use Rattle.pv_steps.specs.Trees.{Files}
use Rattle.pv_text.specs.Facts.{Values}
use Rattle.pv_text.specs.Fields.{Cut, Span, fields_of}
use Rattle.pv_text.specs.declared.place.Place.{Place}
use Rattle.pv_text.specs.declared.tool.Tool.{Tool}
use Rattle.pv_text.specs.declared.tool.Tool.TheVariants.{Sysusers}
use Rattle.pv_read_config.specs.Configuration.{Reader, configured_by, content_at, is_skipped, lines_in, reading_by, reading_of, reading_of_file, reading_of_files, reading_of_lines}
use Rattle.pv_read_config.specs.Requested.{requested, requests_reader}
use Rattle.pv_path.proofs.Tests.{all_append}

module _ {L : Type 0} (P : L → Type 0) (reader : Reader L) (holds : (place : Place) (line : List ℕ) → IfSome (reader.line_read place line) P) where
  kept_all : (o : Option L) (new_messages : List (List ℕ)) → IfSome o P → AllByRecursion P (reading_by o new_messages).lines
  kept_all None new_messages h = tt
  kept_all (Some line) new_messages h = (h, tt)

  line_all : (place : Place) (line : List ℕ) → AllByRecursion P (reading_of reader place line).lines
  line_all place line = by (is_skipped line)
    where
      by : (b : Bool) → AllByRecursion P (if b then record { lines = []; invalid = false; messages = []; count = 1 } else reading_by (reader.line_read place line) (reader.messages_for place line)).lines
      by true = tt
      by false = kept_all (reader.line_read place line) (reader.messages_for place line) (holds place line)

  lines_all : (file : List ℕ) (number : ℕ) (lines : List (List ℕ)) → AllByRecursion P (reading_of_lines reader file number lines).lines
  lines_all file number [] = tt
  lines_all file number (line ∷ lines) =
      let place : Place = record { file = file; number = number } in
      all_append P (reading_of reader place line).lines (reading_of_lines reader file (number + 1) lines).lines (line_all place line) (lines_all file (number + 1) lines)

  files_all : (files : Files) (paths : List Path) → AllByRecursion P (reading_of_files files reader paths).lines
  files_all files [] = tt
  files_all files (path ∷ paths) =
      all_append P (reading_of_file files reader path).lines (reading_of_files files reader paths).lines
      (lines_all (printed_path path) 1 (lines_in (content_at files path))) (files_all files paths)

  pub configured_all : (files : Files) (tool : Tool) (words : List (List ℕ)) → AllByRecursion P (configured_by files reader tool words).lines
  configured_all files tool words = files_all files (chosen files tool words).files

-- the request of a line is allowed, if it has one
request_allowed : (facts : Values) (place : Place) (bytes : List ℕ) → IfSome (result_ok (request_of facts place bytes)) IsAllowed
request_allowed facts place bytes = by (in_words (λ f. fault.Field f) (fields_of bytes))
  where
    of : (cut : Cut) (r : Result Request RequestFault) → request_in facts place cut ≡ r → IfSome (result_ok r) IsAllowed
    of cut (Ok request) is = given-allowed facts place cut (Ok request) is
    of cut (Err f) is = tt

    by : (r : Result (List Span) RequestFault) → IfSome (result_ok (r >>= (λ spans. request_in facts place (record { line = bytes; spans = spans })))) IsAllowed
    by (Ok spans) = let cut : Cut = record { line = bytes; spans = spans } in of cut (request_in facts place cut) refl
    by (Err f) = tt

-- so is each request of a tree
pub requested_allowed : (files : Files) (facts : Values) (words : List (List ℕ)) → AllByRecursion IsAllowed (requested files facts words).lines
requested_allowed files facts words = configured_all IsAllowed (requests_reader facts) (λ place line. request_allowed facts place line) files Sysusers words

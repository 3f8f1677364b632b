-- The lines of a configuration that count, with the owners of the objects at their paths (sysusers.d(5)).
use Rattle.std.specs.Prelude.{ℕ, ◌+◌, Bool, false, List, [], ◌∷◌, ◌++◌, codes, slice_get, Option, Some, None, is_some, option_and_then, if◌then◌else◌}
use Rattle.std.specs.Option.{option_map_or}
use Rattle.std.specs.Str.{bytes_eq}
use Rattle.pv_requests.specs.Same.{same_user}
use Rattle.pv_requests.specs.declared.request.Request.{Request}
use Rattle.pv_requests.specs.declared.request.Request.TheVariants as request
use Rattle.pv_path.specs.Printing.{printed}
use Rattle.pv_text.specs.GivenMessages.{message_text_at}
use Rattle.pv_text.specs.declared.place.Place.{Place}
use Rattle.pv_sysusers.specs.declared.path_ids.PathId.{PathId}

-- A request, with the owner and the group of the object at its path, if it names one and there is one.
abbrev pub Line : Type 0
Line = Request × Option PathId

-- The owners at an index of a list, if they are known.
abbrev pub owners_at : List (Option PathId) → ℕ → Option PathId
owners_at taken i = option_and_then (λ owners. owners) (slice_get taken i)

-- Requests with their owners. The first request has those at index i.
abbrev pub lines_from : List (Option PathId) → ℕ → List Request → List Line
lines_from taken i [] = []
lines_from taken i (request ∷ requests) = (request, owners_at taken i) ∷ lines_from taken (i + 1) requests

-- The user that a `u` line names.
abbrev pub user_of : Request → Option (List ℕ)
user_of (request.User name id locked gecos home shell place) = Some name
user_of _ = None

-- Whether a request is the `u` line of this user.
abbrev pub is_user : List ℕ → Request → Bool
is_user name request = option_map_or (λ user. bytes_eq user name) (user_of request) false

-- The first `u` line of a user.
abbrev pub first_user : List Line → List ℕ → Option Request
first_user [] name = None
first_user (line ∷ lines) name = if is_user name line.0 then Some line.0 else first_user lines name

-- Whether some `u` line names a user.
abbrev pub is_named : List Line → List ℕ → Bool
is_named lines name = is_some (first_user lines name)

-- The location (file and line) of a request.
abbrev pub place_of : Request → Place
place_of (request.User name id locked gecos home shell place) = place
place_of (request.Group name id place) = place
place_of (request.Member user group place) = place
place_of (request.Range first last place) = place

-- The earlier `u` line of the same user, if there is one.
abbrev pub earlier : List Line → Line → Option Request
earlier lines line = option_and_then (first_user lines) (user_of line.0)

-- Of several `u` lines of one user, only the first counts.
abbrev pub with_counting : List Line → Line → List Line
with_counting lines line = if is_some (earlier lines line) then lines else lines ++ line ∷ []

-- The message about a `u` line that does not count and asks for something else.
abbrev pub duplicate_message : Place → List ℕ → List ℕ
duplicate_message place name = message_text_at place (codes "duplicate line for " ++ printed name)

-- The messages about a line. There is one if it is a `u` line of a user who has one already, and it asks for
-- something else.
abbrev pub messages_again : List Line → Line → List (List ℕ)
messages_again lines line = by (earlier lines line) (user_of line.0)
  where
    by : Option Request → Option (List ℕ) → List (List ℕ)
    by (Some first) (Some name) = if same_user first line.0 then [] else duplicate_message (place_of line.0) name ∷ []
    by _ _ = []

-- The lines that count, after those that count before them.
abbrev pub counting : List Line → List Line → List Line
counting kept [] = kept
counting kept (line ∷ lines) = counting (with_counting kept line) lines

-- The messages about duplicate lines.
abbrev pub duplicate_messages : List Line → List Line → List (List ℕ)
duplicate_messages kept [] = []
duplicate_messages kept (line ∷ lines) = messages_again kept line ++ duplicate_messages (with_counting kept line) lines

-- The tree that a complete run of systemd-sysusers leaves, timestamps included, and its messages
-- (systemd-sysusers(8), sysusers.d(5)).
use Rattle.std.specs.Prelude.{◌≡◌, ◌⊎◌, ℕ, nat_lt, ◌/◌, Bool, false, List, [], ◌∷◌, ◌++◌, length, map, Option, Some, None, is_some, option_map, option_and_then, unwrap_or, Result, Ok, Err, if◌then◌else◌}
use Rattle.std.specs.FinMap as fin
use Rattle.std.specs.Option.{option_map_or}
use Rattle.pv_path.specs.Names.{same_bytes}
use Rattle.pv_path.specs.Paths.{Path, has_staging, same_path}
use Rattle.pv_acl.specs.Parts.{special_of, acl_of_mode}
use Rattle.pv_steps.specs.declared.node.Kind.{Kind}
use Rattle.pv_steps.specs.declared.node.Kind.TheVariants.{File}
use Rattle.pv_steps.specs.declared.why.Why.{Why}
use Rattle.pv_steps.specs.Refusal.{refusal}
use Rattle.pv_steps.specs.Trees.{Files, Places, places, kind_of, tabulate}
use Rattle.pv_walk.specs.declared.object_state.Metadata.{Metadata}
use Rattle.pv_walk.specs.Nodes.{object_state_of}
use Rattle.pv_requests.specs.declared.request.Request.{Request}
use Rattle.pv_requests.specs.Paths.{number_path}
use Rattle.pv_sysusers.specs.declared.path_ids.PathId.{PathId}
use Rattle.pv_sysusers.specs.declared.planned.Texts.{Texts}
use Rattle.pv_sysusers.specs.Lines.{lines_from, duplicate_messages}
use Rattle.pv_sysusers.specs.Planning.{files_in}
use Rattle.pv_sysusers.specs.Plans.{AccountFiles, Planned, planned}
use Rattle.pv_table.specs.Saying.{left_text, place_text}
use Rattle.pv_sysusers.specs.declared.edit.Edit.{Edit}
use Rattle.pv_layers.specs.Places.{etc, group_path, passwd_path}
use Rattle.pv_sysusers.specs.FileWriting.{carried_out, gshadow_path, shadow_path}

-- ---- files that cannot be used

-- The message if there is an object at a path that is not a file.
abbrev pub other_text : Path → Option Kind → List (List ℕ)
other_text path None = []
other_text path (Some File) = []
other_text path (Some kind) = left_text path kind ∷ []

-- The messages about an account file that cannot be used. Its path is refused (an absent file counts as owned by
-- root), or there is an object that is not a file.
abbrev pub unusable_by : Path → Option (ℕ × Why) → Option Kind → List (List ℕ)
unusable_by path (Some place) kind = place_text path place.0 place.1 ∷ []
unusable_by path None kind = other_text path kind

-- The messages about one account file that cannot be used.
abbrev pub unusable_text : Places → Path → List (List ℕ)
unusable_text t path = unusable_by path (refusal t path 0) (kind_of (t path))

-- The messages about all account files that cannot be used, in the order in which the files are staged.
abbrev pub unusable_texts : Places → List (List ℕ)
unusable_texts t = unusable_text t group_path ++ unusable_text t gshadow_path ++ unusable_text t shadow_path ++ unusable_text t passwd_path

-- Whether an account file cannot be used.
abbrev pub is_unusable : Places → Bool
is_unusable t = nat_lt 0 (length (unusable_texts t))

-- ---- what a run finds

-- The text of the file at a path, if there is one.
abbrev pub text_at : Places → Path → Option (List ℕ)
text_at t path = option_map (λ o. o.payload) (t path)

-- The texts of the account files. A file that does not exist counts as empty, except for `/etc/gshadow`.
abbrev pub files_at : Places → AccountFiles
files_at t = files_in (unwrap_or (text_at t passwd_path) []) (unwrap_or (text_at t group_path) []) (unwrap_or (text_at t shadow_path) []) (text_at t gshadow_path)

-- The owner and the group of the object at a path. If there is no object, or the path is refused, there are none.
abbrev pub ids_at : Places → Path → Option PathId
ids_at t path = if is_some (refusal t path 0) then None else option_map (λ o. record { uid = o.node.uid; gid = o.node.gid }) (t path)

-- The owner and the group of the object that a line names for its IDs.
abbrev pub ids_of : Places → Request → Option PathId
ids_of t line = option_and_then (ids_at t) (number_path line)

-- The days from 1970-01-01 to a time in microseconds, as in the third field of shadow(5).
abbrev pub day_of : ℕ → ℕ
day_of now = now / 86400000000

-- The plan of a run over a tree.
abbrev pub plan_at : List Request → ℕ → Places → Planned
plan_at requests now t = planned requests (map (ids_of t) requests) (files_at t) (day_of now)

-- ---- what it does

-- The metadata of a new file of root with this mode.
abbrev pub plain_metadata : ℕ → Metadata
plain_metadata mode = record { uid = 0; gid = 0; special = special_of mode; acl = acl_of_mode mode; attrs = []; letters = 0 }

-- The metadata of the object at a path. If there is none, that of a new file of root with this mode.
abbrev pub metadata_at : Places → Path → ℕ → Metadata
metadata_at t path mode = option_map_or (λ o. (object_state_of o).metadata) (t path) (plain_metadata mode)

-- The new text of a file. The file keeps its metadata, and a new file gets this mode.
abbrev pub edit_to : Places → Path → ℕ → List ℕ → Edit
edit_to t path mode text = record { path = path; text = text; metadata = metadata_at t path mode }

-- The same, but there is no edit if the text does not change.
abbrev pub edit_at : Places → Path → ℕ → List ℕ → List Edit
edit_at t path mode text = if same_bytes text (unwrap_or (text_at t path) []) then [] else edit_to t path mode text ∷ []

-- The edits that give the account files new texts, in the order in which they are staged and published: group,
-- gshadow, shadow, passwd.
abbrev pub edits_to : Places → Texts → List Edit
edits_to t texts =
    edit_at t group_path 0o644 texts.group ++ option_map_or (edit_at t gshadow_path 0) texts.gshadow [] ++ edit_at t shadow_path 0 texts.shadow
    ++ edit_at t passwd_path 0o644 texts.passwd

-- The edits of a plan. If no number is left for some name, there are none.
abbrev pub edits_by : Places → Result Texts (List ℕ) → List Edit
edits_by t (Ok texts) = edits_to t texts
edits_by t (Err name) = []

-- If some account file cannot be used, there are no edits.
abbrev pub edits_unless : List (List ℕ) → List Edit → List Edit
edits_unless [] edits = edits
edits_unless (text ∷ texts) edits = []

-- The edits of a run over a tree.
abbrev pub edits_at : List Request → ℕ → Places → List Edit
edits_at requests now t = edits_unless (unusable_texts t) (edits_by t (plan_at requests now t).texts)

-- The messages of a run. If some account file cannot be used, they are those about duplicate lines and those about
-- the files. Then nothing is said about numbers.
abbrev pub messages_unless : List Request → List (List ℕ) → List (List ℕ) → List (List ℕ)
messages_unless requests [] new_messages = new_messages
messages_unless requests (text ∷ texts) new_messages = duplicate_messages [] (lines_from [] 0 requests) ++ text ∷ texts

-- The messages of a run over a tree.
abbrev pub accounts_messages : List Request → ℕ → Places → List (List ℕ)
accounts_messages requests now t = messages_unless requests (unusable_texts t) (plan_at requests now t).new_messages

-- The name for which no number is left, if there is one.
abbrev pub lacking_in : Result Texts (List ℕ) → Option (List ℕ)
lacking_in (Ok texts) = None
lacking_in (Err name) = Some name

-- If some account file cannot be used, no such name is reported.
abbrev pub lacking_unless : List (List ℕ) → Option (List ℕ) → Option (List ℕ)
lacking_unless [] name = name
lacking_unless (text ∷ texts) name = None

-- The name for which a run over a tree finds no number, if there is one.
abbrev pub lacking_at : List Request → ℕ → Places → Option (List ℕ)
lacking_at requests now t = lacking_unless (unusable_texts t) (lacking_in (plan_at requests now t).texts)

-- ---- what it leaves

-- The tree after the edits.
abbrev pub carried_files : ℕ → List Edit → Files → Files
carried_files now edits t = tabulate (etc ∷ map (λ edit. edit.path) edits ++ fin.keys t) (carried_out now edits (places t))

-- The tree stays as it was if some account file cannot be used, or no number is left for some name.
abbrev pub accounted_unless : List (List ℕ) → Option (List ℕ) → Files → Files → Files
accounted_unless [] None t u = u
accounted_unless texts name t u = t

-- The tree that a complete run of systemd-sysusers leaves.
abbrev pub accounted : List Request → ℕ → Files → Files
accounted requests now t =
    accounted_unless (unusable_texts (places t)) (lacking_at requests now (places t)) t (carried_files now (edits_at requests now (places t)) t)

-- ---- what it needs

-- If a line names a path that gives IDs, no component of it is a staging name, and it is not `/etc`.
abbrev pub HasPlainPath : Request → Type 0
HasPlainPath line = (path : Path) → number_path line ≡ Some path → (has_staging path ≡ false) × (same_path etc path ≡ false)

-- At this path there is a file, or no object.
abbrev pub IsUsable : Places → Path → Type 0
IsUsable t path = (kind_of (t path) ≡ None) ⊎ (kind_of (t path) ≡ Some File)

-- The texts of the fields, by their index from 0: Type, Name, ID, GECOS, Home Directory and Shell (sysusers.d(5),
-- "Configuration Format").
use Rattle.std.specs.Prelude.{ℕ, Bool, List, codes, slice_get, Option, Some, None, is_some, option_map, unwrap_or, Result, Ok, if◌then◌else◌}
use Rattle.pv_path.specs.Names.{same_bytes}
use Rattle.pv_path.specs.Results.{◌>>=◌, in_words}
use Rattle.pv_text.specs.Escapes.{unescaped}
use Rattle.pv_text.specs.Facts.{Values}
use Rattle.pv_text.specs.Fields.{Cut, text_at}
use Rattle.pv_text.specs.Specifiers.{expanded}
use Rattle.pv_text.specs.declared.tool.Tool.TheVariants.{Sysusers}
use Rattle.pv_requests.specs.Faults.{of_expansion}
use Rattle.pv_requests.specs.declared.request_fault.RequestFault.{RequestFault}

-- Whether a text is a single dash, which stands for an omitted field.
abbrev pub is_dash : List ℕ → Bool
is_dash text = same_bytes text (codes "-")

-- The text of a field as it is written. A field that is not there counts as a dash.
abbrev pub raw_text : Cut → ℕ → List ℕ
raw_text cut i = unwrap_or (option_map (text_at cut.line) (slice_get cut.spans i)) (codes "-")

-- The text of a field with its escapes undone.
abbrev pub text : Cut → ℕ → List ℕ
text cut i = unescaped (raw_text cut i)

-- Whether there is a field after the shell.
abbrev pub has_more : Cut → Bool
has_more cut = is_some (slice_get cut.spans 6)

-- The text of a field with its specifiers expanded, or the first fault.
abbrev pub written : Values → Cut → ℕ → Result (List ℕ) RequestFault
written facts cut i = in_words of_expansion (expanded Sysusers facts (text cut i))

-- The same for a field that may be omitted.
abbrev pub given : Values → Cut → ℕ → Result (Option (List ℕ)) RequestFault
given facts cut i = if is_dash (text cut i) then Ok None else written facts cut i >>= (λ text. Ok (Some text))
